-- What ties in the order of pairs. Assumes nothing.
use Rattle.std.proofs.Common.{◌≡◌, ℕ, ◌<◌, Ordering, Less, Equal, Greater, refl, ap, inl, inr}
use Rattle.std.specs.Cmp.{below_chain, below_irrefl, means, ranks}
use Rattle.std.specs.Ordering.{is_eq, ordering_then, nat_cmp}
use Rattle.std.proofs.lemmas.Bool.{false≢true}
use Rattle.ordered.specs.declared.Pair.{Pair}
use Rattle.ordered.specs.Pairs.{Numbers, PairNumbers, field_order, pair_rank}

-- numbers that tie are the same
pub same_number : (x y : ℕ) → nat_cmp x y ≡ Equal → x ≡ y
same_number x y e = means (λ (m n : ℕ). m < n) below_irrefl below_chain nat_cmp ranks x y Equal e

both_level : (r s : Ordering) → ordering_then r s ≡ Equal → (r ≡ Equal) × (s ≡ Equal)
both_level Less s e = absurd (false≢true (ap is_eq e))
both_level Equal s e = (refl, e)
both_level Greater s e = absurd (false≢true (ap is_eq e))

-- pairs that tie are the same
pub same_pair : (p q : Pair) → pair_rank p q ≡ Equal → p ≡ q
same_pair p q e =
    let level = both_level (nat_cmp p.first q.first) (nat_cmp p.second q.second) e in
    let first = same_number p.first q.first level.0 in
    let second = same_number p.second q.second level.1 in
    λ i. record { first = first i; second = second i }

-- pairs are compared by their first numbers, and by the second where those are equal
pub pair_numbers : (p q : Pair) → PairNumbers p q (pair_rank p q)
pair_numbers p q = by-fields (nat_cmp p.first q.first) (nat_cmp p.second q.second) (field_order p.first q.first) (field_order p.second q.second)
  where
    by-fields : (r s : Ordering) → Numbers p.first q.first r → Numbers p.second q.second s → PairNumbers p q (ordering_then r s)
    by-fields Less s less other = inl less
    by-fields Equal Less same less = inr (same, less)
    by-fields Equal Equal same level = (same, level)
    by-fields Equal Greater same more = inr (same, more)
    by-fields Greater s more other = inl more
