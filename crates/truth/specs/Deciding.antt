-- The same by counting moves, so that it can be computed: whatever every path meets at all is met by it within as many
-- moves as there are states. Assumes nothing.
use Rattle.std.specs.Prelude.{ℕ, zero, suc, Bool, true, cond, not, ◌&&◌, ◌||◌, List, length, Some, None, Option, ◌==◌, slice_index}
use Rattle.clauses.specs.declared.kinds.Kind.{Kind}
use Rattle.clauses.specs.declared.kinds.Kind.TheVariants.{Start, Global, Step, Sometime}
use Rattle.clauses.specs.declared.kinds.Scope.{Scope}
use Rattle.clauses.specs.declared.kinds.Scope.TheVariants.{All, Index}
use Rattle.clauses.specs.declared.lines.Line.{Line}
use Rattle.clauses.specs.declared.literals.Literal.{Literal}
use Rattle.clauses.specs.Lines.{literals}
use Rattle.truth.specs.Systems.{System}
use Rattle.truth.specs.Truth.{left_at, right_at}

-- every number below n passes
abbrev pub all_below : ℕ → (ℕ → Bool) → Bool
all_below zero p = true
all_below (suc n) p = all_below n p && p n

-- every free move leads to a state that passes
abbrev pub every_free : (ℕ → Bool) → List ℕ → Bool
every_free p free = all_below (length free) (λ j. p (slice_index free j))

-- every move of the scope from s leads to a state that passes
abbrev pub every_next : System → Scope → (ℕ → Bool) → ℕ → Bool
every_next sys All p s = all_below sys.indices (λ i. p (sys.target s i)) && every_free p (sys.free s)
every_next sys (Index i) p s = p (sys.target s i)

-- within n moves of the scope from s, whichever they are, one comes to a state that passes
abbrev pub within : System → Scope → (ℕ → Bool) → ℕ → ℕ → Bool
within sys scope p zero s = p s
within sys scope p (suc n) s = p s || every_next sys scope (λ t. within sys scope p n t) s

-- sooner or later one does
abbrev pub sooner : System → Scope → (ℕ → Bool) → ℕ → Bool
sooner sys scope p s = within sys scope p sys.states s

-- a rule of this kind and these sides is broken at s
abbrev pub breaks_of : System → Kind → List Literal → List Literal → ℕ → Bool
breaks_of sys Start left right s = s == 0 && not (right_at sys right s)
breaks_of sys Global left right s = not (right_at sys right s)
breaks_of sys (Step scope) left right s = left_at sys left s && not (every_next sys scope (right_at sys right) s)
breaks_of sys (Sometime scope) left right s = left_at sys left s && not (sooner sys scope (right_at sys right) s)

abbrev pub breaks : System → Line → ℕ → Bool
breaks sys rule s = breaks_of sys rule.kind (literals rule.left) (literals rule.right) s

-- the lowest number below n that passes
abbrev pub lowest_below : ℕ → (ℕ → Bool) → Option ℕ
lowest_below zero p = None
lowest_below (suc n) p = elim (lowest_below n p) [ None ↦ cond (p n) (Some n) None | Some m ↦ Some m ]

-- the lowest state at which a rule is broken
abbrev pub broken_at : System → Line → Option ℕ
broken_at sys rule = lowest_below sys.states (breaks sys rule)
