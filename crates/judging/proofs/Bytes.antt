-- Marks as bytes, what one write does to them, and how a test of all numbers below a bound goes on. Assumes nothing.
use Rattle.std.proofs.Common.{◌≡◌, ℕ, zero, suc, ◌+◌, ◌<◌, Bool, true, false, cond, not, eqb, ◌≢◌, ◌&&◌, zero-add, refl, List, [], ◌∷◌, ◌++◌, length, drop, set, replicate, sym, ap, ◌∙◌, ap₂, ⊎_elim, add-one, arith, map, get_or-set_other, get_or-set_same}
use Rattle.std.proofs.lemmas.Bool.{cases_eq, cond-true, not-false}
use Rattle.std.specs.List.{list_all, range_with_len}
use Rattle.std.proofs.lemmas.List.Folds.{list_all-append, list_all-map}
use Rattle.std.proofs.Math.Bool.{and-true}
use Rattle.std.proofs.lemmas.List.FromFn.{map-range_with_len_more}
use Rattle.truth.specs.Deciding.{all_below}
use Rattle.judging.specs.Marks.{marked, unmarked}

-- ---- one write

pub marked_there : (marks : List ℕ) (i v : ℕ) → i < length marks → marked (set marks i v) i ≡ not (eqb v 0)
marked_there marks i v lt = ap (λ m. not (eqb m 0)) (get_or-set_same marks i v 0 lt)

pub marked_elsewhere : (marks : List ℕ) (i v s : ℕ) → s ≢ i → marked (set marks i v) s ≡ marked marks s
marked_elsewhere marks i v s other = ap (λ m. not (eqb m 0)) (get_or-set_other marks i s v 0 other)

-- a further mark takes none away
pub marked_still : (marks : List ℕ) (i s : ℕ) → i < length marks → marked marks s ≡ true → marked (set marks i 1) s ≡ true
marked_still marks i s lt was =
    ⊎_elim
    (λ e. ap (marked (set marks i 1)) e ∙ marked_there marks i 1 lt)
    (λ other. marked_elsewhere marks i 1 s other ∙ was)
    (cases_eq s i)

-- and leaves one state fewer without
suc_under : (b : Bool) (m n : ℕ) → suc m ≡ n → suc (cond b (suc m) m) ≡ cond b (suc n) n
suc_under true m n e = ap suc e
suc_under false m n e = e

pub unmarked_less : (marks : List ℕ) (i : ℕ) → i < length marks → marked marks i ≡ false → suc (unmarked (set marks i 1)) ≡ unmarked marks
unmarked_less [] i lt is = absurd (omega arith)
unmarked_less (m ∷ ms) zero lt is = sym (cond-true (eqb m 0) (suc (unmarked ms)) (unmarked ms) (not-false _ is))
unmarked_less (m ∷ ms) (suc i) lt is = suc_under (eqb m 0) _ _ (unmarked_less ms i (omega arith) is)

-- ---- a front of zeros

pub cleared : (marks front : List ℕ) (n k states : ℕ) → front ≡ replicate n 0 → n ≡ states → k ≡ states → front ++ drop k marks ≡ replicate states 0 ++ drop states marks
cleared marks front n k states zeros all rest = ap₂ (λ xs m. xs ++ drop m marks) (zeros ∙ ap (λ m. replicate m 0) all) rest

-- ---- every number below

-- a test of the numbers from 0 on, one after another
row_more : (n : ℕ) (p : ℕ → Bool) → list_all p (range_with_len 0 (n + 1)) ≡ (list_all p (range_with_len 0 n) && p n)
row_more n p =
    sym (list_all-map (λ b. b) p (range_with_len 0 (n + 1)))
    ∙ ap (list_all (λ b. b)) (map-range_with_len_more p 0 n n (zero-add n))
    ∙ list_all-append (λ b. b) (map p (range_with_len 0 n)) (p n ∷ [])
    ∙ ap₂ (λ a b. a && b) (list_all-map (λ b. b) p (range_with_len 0 n)) (and-true (p n))

pub row_below : (n : ℕ) (p q : ℕ → Bool) → ((k : ℕ) → k < n → p k ≡ q k) → list_all p (range_with_len 0 n) ≡ all_below n q
row_below zero p q same = refl
row_below (suc n) p q same =
    ap (λ m. list_all p (range_with_len 0 m)) (sym (add-one n)) ∙ row_more n p
    ∙ ap₂ (λ a b. a && b) (row_below n p q (λ k lt. same k (omega arith))) (same n (omega arith))
