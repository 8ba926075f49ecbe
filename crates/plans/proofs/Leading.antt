-- The pairs of an ascending list that begin with a number: how many there are, and each by its place. Assumes nothing.
use Rattle.std.proofs.Common.{◌≡◌, ℕ, zero, suc, ◌+◌, ◌<◌, ◌≤◌, Bool, true, false, cond, ◌&&◌, eqb, ltb, List, [], ◌∷◌, length, get_or, Ordering, Less, Equal, Greater, sym, refl, ap, ◌∙◌, ⊎_elim, suc-add, zero-add, arith}
use mathlib.Core.Path.{subst₃}
use Rattle.std.specs.Cmp.{ranks}
use Rattle.std.specs.Ordering.{MatchOrdering, is_lt, ordering_then, nat_cmp}
use Rattle.std.specs.List.{AllByRecursion as All}
use Rattle.std.proofs.ByRecursion.{All-weaker}
use Rattle.std.proofs.lemmas.Bool.{false≢true, true≢false, and_parts, cases_order, cond-true, cond-false, eq-eqb, ne_eqb, lt-ltb, le-ltb, ltb-true}
use Rattle.ordered.specs.declared.Pair.{Pair}
use Rattle.ordered.specs.Lists.{ascending, count_below}
use Rattle.ordered.specs.Pairs.{pair_order, pair_rank}
use Rattle.ordered.proofs.Ascending.{ascending_head, ascending_tail}
use Rattle.plans.specs.Tables.{leading, pair, pairs_below}

-- ---- a pair is below (s, 0) where it begins below s

not_under : (y : ℕ) (b e : Bool) → ltb y 0 ≡ b → is_lt (cond b Less (cond e Equal Greater)) ≡ false
not_under y true e h = absurd (true≢false (sym h ∙ le-ltb y 0 (omega arith)))
not_under y false true h = refl
not_under y false false h = refl

under_by : (y : ℕ) (b e : Bool) → is_lt (ordering_then (cond b Less (cond e Equal Greater)) (nat_cmp y 0)) ≡ b
under_by y true e = refl
under_by y false true = not_under y (ltb y 0) (eqb y 0) refl
under_by y false false = refl

under : (p : Pair) (s : ℕ) → is_lt (pair_rank p (pair s 0)) ≡ ltb p.first s
under p s = under_by p.second (ltb p.first s) (eqb p.first s)

-- how many pairs begin below s
abbrev pub before : ℕ → List Pair → ℕ
before s ps = count_below pair_rank ps (pair s 0)

-- ---- how many begin with s

-- begins with s, begins below s, begins below s + 1
data Agree : Bool → Bool → Bool → Type 0 where
  level : Agree true false true
  less : Agree false true true
  more : Agree false false false

agree : (x s : ℕ) → Agree (eqb x s) (ltb x s) (ltb x (s + 1))
agree x s =
    ⊎_elim (λ e. subst₃ Agree (sym (eq-eqb x s e)) (sym (le-ltb x s (omega arith))) (sym (lt-ltb x (s + 1) (omega arith))) level)
    (⊎_elim (λ l. subst₃ Agree (sym (ne_eqb x s (λ e. omega arith))) (sym (lt-ltb x s l)) (sym (lt-ltb x (s + 1) (omega arith))) less)
    (λ l. subst₃ Agree (sym (ne_eqb x s (λ e. omega arith))) (sym (le-ltb x s (omega arith))) (sym (le-ltb x (s + 1) (omega arith))) more))
    (cases_order x s)

count_one : (y : ℕ) (l : List ℕ) (c d : ℕ) {e a b : Bool} → Agree e a b → length l + c ≡ d → length (cond e (y ∷ l) l) + cond a (suc c) c ≡ cond b (suc d) d
count_one y l c d level h = omega (arith, h)
count_one y l c d less h = omega (arith, h)
count_one y l c d more h = h

pub leading_count : (s : ℕ) (ps : List Pair) → length (leading s ps) + before s ps ≡ before (s + 1) ps
leading_count s [] = refl
leading_count s (p ∷ ps) =
    (λ i. length (leading s (p ∷ ps)) + cond (under p s i) (suc (before s ps)) (before s ps))
    ∙ count_one p.second (leading s ps) (before s ps) (before (s + 1) ps) (agree p.first s) (leading_count s ps)
    ∙ sym (λ i. cond (under p (s + 1) i) (suc (before (s + 1) ps)) (before (s + 1) ps))

-- ---- each of them by its place

-- the second number of a pair that begins with s, and else 0
abbrev pub pick : ℕ → List Pair → ℕ → ℕ
pick s [] k = 0
pick s (p ∷ ps) zero = cond (eqb p.first s) p.second 0
pick s (p ∷ ps) (suc k) = pick s ps k

rises_by : (x y : ℕ) (r s : Ordering) → MatchOrdering r (x < y) (x ≡ y) (y < x) → ordering_then r s ≡ Less → x ≤ y
rises_by x y Less s h e = omega arith
rises_by x y Equal s h e = omega arith
rises_by x y Greater s h e = absurd (false≢true (ap is_lt e))

-- the first numbers of ascending pairs rise
first_rises : (p q : Pair) → pair_rank p q ≡ Less → p.first ≤ q.first
first_rises p q e = rises_by p.first q.first (nat_cmp p.first q.first) (nat_cmp p.second q.second) (ranks p.first q.first) e

none_before : (s : ℕ) (ps : List Pair) → All (λ q. s ≤ q.first) ps → before s ps ≡ 0
none_before s [] h = refl
none_before s (p ∷ ps) h = cond-false (is_lt (pair_rank p (pair s 0))) (suc (before s ps)) (before s ps) (under p s ∙ le-ltb p.first s h.0) ∙ none_before s ps h.1

none_leading : (s : ℕ) (ps : List Pair) → All (λ q. s < q.first) ps → leading s ps ≡ []
none_leading s [] h = refl
none_leading s (p ∷ ps) h = cond-false (eqb p.first s) (p.second ∷ leading s ps) (leading s ps) (ne_eqb p.first s (λ e. omega (arith, h.0))) ∙ none_leading s ps h.1

none_picked : (s : ℕ) (ps : List Pair) (k : ℕ) → All (λ q. s < q.first) ps → pick s ps k ≡ 0
none_picked s [] k h = refl
none_picked s (p ∷ ps) zero h = cond-false (eqb p.first s) p.second 0 (ne_eqb p.first s (λ e. omega (arith, h.0)))
none_picked s (p ∷ ps) (suc k) h = none_picked s ps k h.1

module _ (s : ℕ) (p : Pair) (ps : List Pair) (asc : ascending pair_rank (p ∷ ps) ≡ true) where
  -- what follows begins no lower
  follows : All (λ q. p.first ≤ q.first) ps
  follows = All-weaker (λ q. pair_rank p q ≡ Less) (λ q. p.first ≤ q.first) (first_rises p) ps (ascending_head pair_order p ps asc)

  at_less : (j : ℕ) → p.first < s → get_or (leading s ps) j 0 ≡ pick s ps (before s ps + j) → get_or (leading s (p ∷ ps)) j 0 ≡ pick s (p ∷ ps) (before s (p ∷ ps) + j)
  at_less j l rest =
      let one : before s (p ∷ ps) + j ≡ suc (before s ps + j) = ap (λ n. n + j) (cond-true (is_lt (pair_rank p (pair s 0))) (suc (before s ps)) (before s ps) (under p s ∙ lt-ltb p.first s l)) ∙ suc-add (before s ps) j in
      ap (λ l. get_or l j 0) (cond-false (eqb p.first s) (p.second ∷ leading s ps) (leading s ps) (ne_eqb p.first s (λ e. omega arith)))
      ∙ rest ∙ ap (pick s (p ∷ ps)) (sym one)

  -- none begins below s
  none_lower : (j : ℕ) → s ≤ p.first → before s (p ∷ ps) + j ≡ j
  none_lower j l = ap (λ n. n + j) (none_before s (p ∷ ps) (l, All-weaker (λ q. p.first ≤ q.first) (λ q. s ≤ q.first) (λ q m. omega arith) ps follows)) ∙ zero-add j

  at_level : (j : ℕ) → p.first ≡ s → ((k : ℕ) → get_or (leading s ps) k 0 ≡ pick s ps (before s ps + k)) → get_or (leading s (p ∷ ps)) j 0 ≡ pick s (p ∷ ps) (before s (p ∷ ps) + j)
  at_level j e rest =
      ap (λ l. get_or l j 0) (cond-true (eqb p.first s) (p.second ∷ leading s ps) (leading s ps) (eq-eqb p.first s e))
      ∙ here j ∙ ap (pick s (p ∷ ps)) (sym (none_lower j (omega arith)))
    where
      here : (k : ℕ) → get_or (p.second ∷ leading s ps) k 0 ≡ pick s (p ∷ ps) k
      here zero = sym (cond-true (eqb p.first s) p.second 0 (eq-eqb p.first s e))
      here (suc k) = rest k ∙ ap (pick s ps) (ap (λ n. n + k) (none_before s ps (All-weaker (λ q. p.first ≤ q.first) (λ q. s ≤ q.first) (λ q m. omega arith) ps follows)) ∙ zero-add k)

  at_more : (j : ℕ) → s < p.first → get_or (leading s (p ∷ ps)) j 0 ≡ pick s (p ∷ ps) (before s (p ∷ ps) + j)
  at_more j l =
      let far : All (λ q. s < q.first) (p ∷ ps) = (l, All-weaker (λ q. p.first ≤ q.first) (λ q. s < q.first) (λ q m. omega arith) ps follows) in
      ap (λ l. get_or l j 0) (none_leading s (p ∷ ps) far) ∙ sym (none_picked s (p ∷ ps) (before s (p ∷ ps) + j) far)

-- those that begin with s stand in a row, after all that begin below s
pub leading_at : (s : ℕ) (ps : List Pair) (j : ℕ) → ascending pair_rank ps ≡ true → get_or (leading s ps) j 0 ≡ pick s ps (before s ps + j)
leading_at s [] j asc = refl
leading_at s (p ∷ ps) j asc =
    let rest = λ (k : ℕ). leading_at s ps k (ascending_tail pair_rank p ps asc) in
    ⊎_elim (λ e. at_level s p ps asc j e rest) (⊎_elim (λ l. at_less s p ps asc j l (rest j)) (λ l. at_more s p ps asc j l)) (cases_order p.first s)

-- a pick by what stands at the place
pub pick_there : (s : ℕ) (ps : List Pair) (k : ℕ) (p : Pair) → k < length ps → p ≡ get_or ps k p → pick s ps k ≡ cond (eqb p.first s) p.second 0
pick_there s [] k p lt e = absurd (omega arith)
pick_there s (q ∷ ps) zero p lt e = ap (λ (x : Pair). cond (eqb x.first s) x.second 0) (sym e)
pick_there s (q ∷ ps) (suc k) p lt e = pick_there s ps k p (omega arith) e

pub pick_past : (s : ℕ) (ps : List Pair) (k : ℕ) → length ps ≤ k → pick s ps k ≡ 0
pick_past s [] k end = refl
pick_past s (q ∷ ps) zero end = absurd (omega arith)
pick_past s (q ∷ ps) (suc k) end = pick_past s ps k (omega arith)

-- ---- where they lead

one_below : (b : Bool) (y two : ℕ) (l : List ℕ) (j : ℕ) → y < two → ((k : ℕ) → k < length l → get_or l k 0 < two) → j < length (cond b (y ∷ l) l) → get_or (cond b (y ∷ l) l) j 0 < two
one_below true y two l zero low rest lt = low
one_below true y two l (suc j) low rest lt = rest j (omega arith)
one_below false y two l j low rest lt = rest j lt

pub leading_below : (s one two : ℕ) (ps : List Pair) (j : ℕ) → pairs_below one two ps ≡ true → j < length (leading s ps) → get_or (leading s ps) j 0 < two
leading_below s one two [] j fits lt = absurd (omega arith)
leading_below s one two (p ∷ ps) j fits lt =
    let parts = and_parts (ltb p.first one && ltb p.second two) (pairs_below one two ps) fits in
    let low = ltb-true p.second two (and_parts (ltb p.first one) (ltb p.second two) parts.0).1 in
    one_below (eqb p.first s) p.second two (leading s ps) j low (λ k l. leading_below s one two ps k parts.1 l) lt
