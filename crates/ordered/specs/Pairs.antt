-- Pairs of numbers, in the order of their fields. Assumes nothing.
use Rattle.std.specs.Prelude.{◌≡◌, ℕ, ◌<◌, ◌⊎◌}
use Rattle.std.specs.declared.cmp.Ordering.{Ordering}
use Rattle.std.specs.Cmp.{IsTotalOrder, nat_cmp_total, on_total, ranks, then_total}
use Rattle.std.specs.Ordering.{MatchOrdering, ordering_then, nat_cmp}
use Rattle.ordered.specs.declared.Pair.{Pair}

-- the answers that a comparison of two numbers may give
abbrev pub Numbers : ℕ → ℕ → Ordering → Type 0
Numbers x y r = MatchOrdering r (x < y) (x ≡ y) (y < x)

-- the first numbers decide, and the second ones where those are equal
abbrev pub pair_rank : Pair → Pair → Ordering
pair_rank p q = ordering_then (nat_cmp p.first q.first) (nat_cmp p.second q.second)

-- each field is compared as a number
abbrev pub field_order : (x y : ℕ) → Numbers x y (nat_cmp x y)
field_order x y = ranks x y

-- the answers that a comparison of two pairs may give
abbrev pub PairNumbers : Pair → Pair → Ordering → Type 0
PairNumbers p q r =
    MatchOrdering r
    ((p.first < q.first) ⊎ ((p.first ≡ q.first) × (p.second < q.second)))
    ((p.first ≡ q.first) × (p.second ≡ q.second))
    ((q.first < p.first) ⊎ ((p.first ≡ q.first) × (q.second < p.second)))

-- the order that the fields give is lawful
abbrev pub pair_order : IsTotalOrder pair_rank
pair_order = then_total (on_total (λ (p : Pair). p.first) nat_cmp_total) (on_total (λ (p : Pair). p.second) nat_cmp_total)
