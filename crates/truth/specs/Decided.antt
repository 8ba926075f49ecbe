-- What is decided of every finite well-formed system. Assumes nothing.
use Rattle.std.specs.Prelude.{ℕ, ◌<◌, Bool, true, false, ◌⊎◌, List}
use Rattle.clauses.specs.declared.kinds.Kind.{Kind}
use Rattle.clauses.specs.declared.kinds.Kind.TheVariants.{Start, Global, Step, Sometime}
use Rattle.clauses.specs.declared.kinds.Scope.{Scope}
use Rattle.clauses.specs.declared.lines.Line.{Line}
use Rattle.clauses.specs.declared.literals.Literal.{Literal}
use Rattle.truth.specs.Systems.{System, WellFormed, Speaks, Path}
use Rattle.truth.specs.Truth.{Avoids, Breaks, Eventually, Says}
use Rattle.truth.specs.Deciding.{breaks}

-- every path from a state meets the goal, or some path from it avoids the goal for ever
abbrev pub PathsDecided : Type 0
PathsDecided = (sys : System) (scope : Scope) (goal : List Literal) (s : ℕ) → WellFormed sys → Speaks sys scope → s < sys.states → Eventually sys scope goal s ⊎ ((π : ℕ → ℕ) × Path sys scope s π × Avoids sys goal π)

-- the index of a kind, if it has one, is an index of the system
abbrev pub Fits : System → Kind → Type 0
Fits sys Start = Unit {0}
Fits sys Global = Unit {0}
Fits sys (Step scope) = Speaks sys scope
Fits sys (Sometime scope) = Speaks sys scope

-- of a rule at a state, by what the test says: it is broken there, or what it says is true there
abbrev pub Told : System → Line → ℕ → Bool → Type 0
Told sys rule s true = Breaks sys rule s
Told sys rule s false = Says sys rule s

abbrev pub RulesDecided : Type 0
RulesDecided = (sys : System) (rule : Line) (s : ℕ) → WellFormed sys → Fits sys rule.kind → s < sys.states → Told sys rule s (breaks sys rule s)
