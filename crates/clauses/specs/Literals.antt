-- Literals: their order, which is that of their numbers, and their opposites. Assumes nothing.
use Rattle.std.specs.Prelude.{◌≡◌, ℕ, ◌+◌, ◌-◌, ◌/◌, ◌%◌, ◌<◌, Bool, cond, ◌==◌}
use Rattle.std.specs.declared.cmp.Ordering.{Ordering}
use Rattle.std.specs.Cmp.{IsTotalOrder, nat_cmp_total, on_total, ranks}
use Rattle.std.specs.Ordering.{MatchOrdering, nat_cmp}
use Rattle.clauses.specs.declared.literals.Literal.{Literal}

abbrev pub literal_rank : Literal → Literal → Ordering
literal_rank x y = nat_cmp x.0 y.0

-- it answers by the numbers
abbrev pub literal_numbers : (x y : Literal) → MatchOrdering (literal_rank x y) (x.0 < y.0) (x.0 ≡ y.0) (y.0 < x.0)
literal_numbers x y = ranks x.0 y.0

-- and it is lawful
abbrev pub literal_order : IsTotalOrder literal_rank
literal_order = on_total (λ (x : Literal). x.0) nat_cmp_total

abbrev pub same : Literal → Literal → Bool
same x y = x.0 == y.0

-- an even number asserts an atom, and the next one denies it
abbrev pub asserts : Literal → Bool
asserts x = x.0 % 2 == 0

abbrev pub atom : Literal → ℕ
atom x = x.0 / 2

abbrev pub opposite : Literal → Literal
opposite x = record { 0 = cond (asserts x) (x.0 + 1) (x.0 - 1) }
