-- When a step is accepted and what it makes, by the rules of the calculus and the limits alone. Assumes nothing.
use Rattle.std.specs.Prelude.{◌≡◌, ℕ, ◌≤◌, true, false, List, [], ◌∷◌, ◌++◌, length, IfOk, Some, None, Option, Result, MatchResult}
use Rattle.std.specs.Option.{option_map}
use Rattle.clauses.specs.declared.lines.Line.{Line}
use Rattle.clauses.specs.declared.literals.Literal.{Literal}
use Rattle.clauses.specs.declared.refusals.Refusal.{Refusal}
use Rattle.clauses.specs.Calculus.{Clause, Enters, Rewrites, Set, Stays, StepRule, set_of}
use Rattle.clauses.specs.Lines.{clause_of}
use Rattle.clauses.specs.Sides.{ascends}
use Rattle.clauses.specs.Steps.{wait_literal}
use Rattle.calls.specs.declared.waits.Wait.{Wait}
use Rattle.calls.specs.Calls.{ended, full, line_at}
use Rattle.calls.specs.Models.{Model}
use Rattle.calls.specs.Waits.{and_then, place_of, wait_of}

-- a set of at most 16 literals
abbrev pub Fits : Set → Type 0
Fits S = (xs : List Literal) × (ascends xs ≡ true) × (length xs ≤ 16) × (set_of xs ≡ S)

-- the literal of the wait that a line was given
abbrev pub waits_by : List Wait → Line → Option Literal
waits_by ws x = and_then (wait_of x) (λ w. option_map wait_literal (place_of ws w))

-- ---- a rule concludes d from the lines named, and no limit stands against it

pub record Resolving (m : Model) (a b : ℕ) (l : Literal) (d : Clause) : Type 0 where
  pub one : Line
  pub two : Line
  pub first : line_at m.lines a ≡ Some one
  pub second : line_at m.lines b ≡ Some two
  pub rule : StepRule (clause_of one) (clause_of two) l d
  -- neither line is of an ended loop
  pub live : (ended m.loops one.belongs ≡ false) × (ended m.loops two.belongs ≡ false)
  pub short : Fits d.left × Fits d.right
  pub room : full m ≡ false

pub record Rewriting (m : Model) (n : ℕ) (d : Clause) : Type 0 where
  pub one : Line
  pub there : line_at m.lines n ≡ Some one
  pub rule : Rewrites (clause_of one) d
  -- the line is of no loop
  pub free : one.belongs ≡ None
  pub room : full m ≡ false

-- a rule on a sometime line, its goal and its wait
pub record Waiting (Rule : Clause → Literal → Literal → Clause → Type 0) (m : Model) (n : ℕ) (d : Clause) : Type 0 where
  pub one : Line
  pub goal : Literal
  pub wait : Literal
  pub there : line_at m.lines n ≡ Some one
  pub given : waits_by m.waits one ≡ Some wait
  pub rule : Rule (clause_of one) goal wait d
  pub room : full m ≡ false

abbrev pub Entering : Model → ℕ → Clause → Type 0
Entering = Waiting Enters

abbrev pub Staying : Model → ℕ → Clause → Type 0
Staying = Waiting Stays

-- ---- the theorem

-- one line more, of number n, which stands for d
pub record Grown (before later : Model) (n : ℕ) (d : Clause) : Type 0 where
  pub made : Line
  pub lines : later.lines ≡ before.lines ++ made ∷ []
  pub number : n ≡ length before.lines
  pub stands : clause_of made ≡ d

-- a step is accepted exactly where a rule applies, and then the line made is the rule's conclusion
pub record ByCalculus (r : Result ℕ Refusal) (before later : Model) (Applies : Clause → Type 0) : Type 0 where
  pub sound : IfOk r (λ n. (d : Clause) × Applies d × Grown before later n d)
  pub complete : (d : Clause) → Applies d → MatchResult r (λ n. Grown before later n d) (λ _. ⊥)
