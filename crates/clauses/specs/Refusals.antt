-- The number of each refusal, and the first of a list of causes that holds. Assumes nothing.
use Rattle.std.specs.Prelude.{◌≡◌, ℕ, Bool, cond, List, [], ◌∷◌, Some, None, Option, Result, MatchResult}
use Rattle.clauses.specs.declared.refusals.Refusal.{Refusal}
use Rattle.clauses.specs.declared.refusals.Refusal.TheVariants.{IndexCount, TableSize, KindOrIndex, LiteralRange, NotAscending, WrongShape, SideTooLong, NotThere, Misfit, LiteralMissing, LoopEnded, NewSideTooLong, NothingLeft}

abbrev pub number_of : Refusal → ℕ
number_of IndexCount = 5
number_of TableSize = 6
number_of KindOrIndex = 7
number_of LiteralRange = 8
number_of NotAscending = 9
number_of WrongShape = 10
number_of SideTooLong = 11
number_of NotThere = 12
number_of Misfit = 13
number_of LiteralMissing = 14
number_of LoopEnded = 15
number_of NewSideTooLong = 17
number_of NothingLeft = 18

-- a cause: its number, and whether it holds
abbrev pub Cause : Type 0
Cause = ℕ × Bool

-- the number of the first cause that holds
abbrev pub first_of : List Cause → Option ℕ
first_of [] = None
first_of (c ∷ cs) = cond c.1 (Some c.0) (first_of cs)

-- refused by the first of these causes that holds, by its number; or none holds, and P is true of the value
abbrev pub FirstOr : {T E : Type 0} → (E → ℕ) → List Cause → (T → Type 0) → Result T E → Type 0
FirstOr number cs P r = MatchResult r (λ x. (first_of cs ≡ None) × P x) (λ e. first_of cs ≡ Some (number e))
