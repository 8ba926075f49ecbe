-- Marks: a byte for each state. Assumes nothing.
use Rattle.std.specs.Prelude.{◌≡◌, ℕ, suc, ◌-◌, ◌<◌, Bool, true, false, cond, not, List, [], ◌∷◌, length, ◌==◌, slice_index}
use Rattle.clauses.specs.declared.kinds.Kind.{Kind}
use Rattle.clauses.specs.declared.kinds.Kind.TheVariants.{Start, Global, Step, Sometime}
use Rattle.clauses.specs.declared.kinds.Scope.{Scope}
use Rattle.clauses.specs.declared.literals.Literal.{Literal}
use Rattle.truth.specs.Systems.{Speaks, System}
use Rattle.truth.specs.Truth.{right_at}
use Rattle.truth.specs.Deciding.{every_next, sooner}

-- a state is marked where its byte is not 0
abbrev pub marked : List ℕ → ℕ → Bool
marked marks s = not (slice_index marks s == 0)

-- how many states are not
abbrev pub unmarked : List ℕ → ℕ
unmarked [] = 0
unmarked (m ∷ ms) = cond (m == 0) (suc (unmarked ms)) (unmarked ms)

-- the state of a step through n states, from the lowest up or from the highest down
abbrev pub state_at : ℕ → Bool → ℕ → ℕ
state_at n true step = step
state_at n false step = n - 1 - step

-- every state is marked exactly where it passes
abbrev pub Shows : List ℕ → (ℕ → Bool) → Type 0
Shows marks p = (s : ℕ) → s < length marks → marked marks s ≡ p s

-- only states that pass are marked
abbrev pub Within : List ℕ → (ℕ → Bool) → Type 0
Within marks p = (s : ℕ) → s < length marks → marked marks s ≡ true → p s ≡ true

-- the marks of the one are among those of the other
abbrev pub Grows : List ℕ → List ℕ → Type 0
Grows before after = Within before (marked after)

-- P holds where the system has the index that the scope speaks of, if it speaks of one
abbrev pub IfSpeaks : System → Scope → Type 0 → Type 0
IfSpeaks sys scope P = Speaks sys scope → P

-- a state is marked if every move of the scope from it leads to a marked one
abbrev pub Closed : System → Scope → List ℕ → Type 0
Closed sys scope marks = (s : ℕ) → s < length marks → every_next sys scope (marked marks) s ≡ true → marked marks s ≡ true

-- what is marked for a rule: where its right holds, or from where one sooner or later comes there
abbrev pub asked : System → Kind → List Literal → ℕ → Bool
asked sys Start right s = right_at sys right s
asked sys Global right s = right_at sys right s
asked sys (Step scope) right s = right_at sys right s
asked sys (Sometime scope) right s = sooner sys scope (right_at sys right) s
