-- What holds of every number below a bound, and how many numbers below it pass a test. Assumes nothing.
use Rattle.std.proofs.Common.{◌≡◌, ℕ, zero, suc, ◌+◌, ◌<◌, ◌≤◌, Bool, true, false, cond, ◌&&◌, sym, refl, ap, ◌∙◌, ap₂, ⊎_elim, arith}
use Rattle.std.proofs.lemmas.Bool.{true≢false, and_parts, and_from, and_cases, cases_lt}
use Rattle.truth.specs.Deciding.{all_below}

-- ---- every number below

-- the test of them all passes where each does
pub below_intro : (n : ℕ) (p : ℕ → Bool) → ((k : ℕ) → k < n → p k ≡ true) → all_below n p ≡ true
below_intro zero p h = refl
below_intro (suc n) p h = and_from (all_below n p) (p n) (below_intro n p (λ k lt. h k (omega arith))) (h n (omega arith))

-- and each does where it passes
pub below_elim : (n : ℕ) (p : ℕ → Bool) → all_below n p ≡ true → (k : ℕ) → k < n → p k ≡ true
below_elim zero p h k lt = absurd (omega arith)
below_elim (suc n) p h k lt =
    let parts = and_parts (all_below n p) (p n) h in
    ⊎_elim (below_elim n p parts.0 k) (λ (far : n ≤ k). let is : k ≡ n = omega arith in ap p is ∙ parts.1) (cases_lt k n)

-- where not every number passes, one of them does not
pub below_fails : (n : ℕ) (p : ℕ → Bool) → all_below n p ≡ false → (k : ℕ) × (k < n) × (p k ≡ false)
below_fails zero p h = absurd (true≢false h)
below_fails (suc n) p h =
    ⊎_elim
    (λ e. let found = below_fails n p e in (found.0, omega arith, found.2))
    (λ e. (n, omega arith, e))
    (and_cases (all_below n p) (p n) h)

-- only the numbers below count
pub below_cong : (n : ℕ) (p q : ℕ → Bool) → ((k : ℕ) → k < n → p k ≡ q k) → all_below n p ≡ all_below n q
below_cong zero p q h = refl
below_cong (suc n) p q h = ap₂ ◌&&◌ (below_cong n p q (λ k lt. h k (omega arith))) (h n (omega arith))

-- ---- how many numbers below

-- those below n that pass
abbrev pub count_below : ℕ → (ℕ → Bool) → ℕ
count_below zero p = 0
count_below (suc n) p = count_below n p + cond (p n) 1 0

-- ones and zeros, by a test
at_most_one : (b : Bool) → cond b 1 0 ≤ 1
at_most_one true = omega arith
at_most_one false = omega arith

-- no more pass than there are
pub count_most : (n : ℕ) (p : ℕ → Bool) → count_below n p ≤ n
count_most zero p = omega arith
count_most (suc n) p = omega (arith, count_most n p, at_most_one (p n))

one_grows : (a b : Bool) → (a ≡ true → b ≡ true) → cond a 1 0 ≤ cond b 1 0
one_grows true true h = omega arith
one_grows true false h = absurd (true≢false (sym (h refl)))
one_grows false b h = omega arith

one_more : (a b : Bool) → a ≡ false → b ≡ true → cond a 1 0 < cond b 1 0
one_more a b e f = rw (e, f) (omega arith)

-- a test that passes wherever another does passes at least as often
pub count_grows : (n : ℕ) (p q : ℕ → Bool) → ((k : ℕ) → k < n → p k ≡ true → q k ≡ true) → count_below n p ≤ count_below n q
count_grows zero p q h = omega arith
count_grows (suc n) p q h =
    omega (arith, count_grows n p q (λ k lt. h k (omega arith)), one_grows (p n) (q n) (h n (omega arith)))

-- and more often where it passes at some number at which the other fails
pub count_more : (n : ℕ) (p q : ℕ → Bool) → ((k : ℕ) → k < n → p k ≡ true → q k ≡ true) → (k : ℕ) → k < n → p k ≡ false → q k ≡ true → count_below n p < count_below n q
count_more zero p q h k lt e f = absurd (omega arith)
count_more (suc n) p q h k lt e f =
    let low : (j : ℕ) → j < n → p j ≡ true → q j ≡ true = λ j l. h j (omega arith) in
    ⊎_elim
    (λ (near : k < n). omega (arith, count_more n p q low k near e f, one_grows (p n) (q n) (h n (omega arith))))
    (λ (far : n ≤ k).
    let is : k ≡ n = omega arith in
    omega (arith, count_grows n p q low, one_more (p n) (q n) (ap p (sym is) ∙ e) (ap q (sym is) ∙ f)))
    (cases_lt k n)
