-- Truth at a state and on a path, and when a system keeps a rule. Assumes nothing.
use Rattle.std.specs.Prelude.{◌≡◌, ℕ, ◌/◌, ◌%◌, ◌<◌, Bool, true, false, cond, not, ◌&&◌, ◌||◌, List, [], ◌∷◌, ◌==◌}
use Rattle.clauses.specs.declared.kinds.Kind.{Kind}
use Rattle.clauses.specs.declared.kinds.Kind.TheVariants.{Start, Global, Step, Sometime}
use Rattle.clauses.specs.declared.kinds.Scope.{Scope}
use Rattle.clauses.specs.declared.lines.Line.{Line}
use Rattle.clauses.specs.declared.literals.Literal.{Literal}
use Rattle.clauses.specs.Lines.{literals}
use Rattle.truth.specs.Systems.{System, Moves, Path}

-- the literal 2a says that atom a holds, and 2a + 1 that it does not
abbrev pub literal_at : System → ℕ → Literal → Bool
literal_at sys s l = cond (l.0 % 2 == 0) (sys.holds s (l.0 / 2)) (not (sys.holds s (l.0 / 2)))

-- a left holds where all its literals do
abbrev pub left_at : System → List Literal → ℕ → Bool
left_at sys [] s = true
left_at sys (l ∷ ls) s = literal_at sys s l && left_at sys ls s

-- a right holds where one of its literals does
abbrev pub right_at : System → List Literal → ℕ → Bool
right_at sys [] s = false
right_at sys (l ∷ ls) s = literal_at sys s l || right_at sys ls s

-- on some place of the path, the first included, one of the literals holds
abbrev pub Meets : System → List Literal → (ℕ → ℕ) → Type 0
Meets sys right π = (j : ℕ) × (right_at sys right (π j) ≡ true)

-- on no place of it does one hold
abbrev pub Avoids : System → List Literal → (ℕ → ℕ) → Type 0
Avoids sys right π = (j : ℕ) → right_at sys right (π j) ≡ false

-- every move of the scope from s leads to where the right holds
abbrev pub Next : System → Scope → List Literal → ℕ → Type 0
Next sys scope right s = (t : ℕ) → Moves sys scope s t → right_at sys right t ≡ true

-- every path of the scope from s meets the goal
abbrev pub Eventually : System → Scope → List Literal → ℕ → Type 0
Eventually sys scope goal s = (π : ℕ → ℕ) → Path sys scope s π → Meets sys goal π

-- what a rule of this kind and these sides says of the state s
abbrev pub SaysOf : System → Kind → List Literal → List Literal → ℕ → Type 0
SaysOf sys Start left right s = s ≡ 0 → right_at sys right s ≡ true
SaysOf sys Global left right s = right_at sys right s ≡ true
SaysOf sys (Step scope) left right s = left_at sys left s ≡ true → Next sys scope right s
SaysOf sys (Sometime scope) left right s = left_at sys left s ≡ true → Eventually sys scope right s

abbrev pub Says : System → Line → ℕ → Type 0
Says sys rule s = SaysOf sys rule.kind (literals rule.left) (literals rule.right) s

-- a system keeps a rule that is true at every one of its states, reached or not
abbrev pub Keeps : System → Line → Type 0
Keeps sys rule = (s : ℕ) → s < sys.states → Says sys rule s

-- a rule is broken at a state where what it says is false
abbrev pub Breaks : System → Line → ℕ → Type 0
Breaks sys rule s = (s < sys.states) × (Says sys rule s → ⊥)
