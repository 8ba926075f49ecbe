-- The lowest number below a bound that passes. Assumes nothing.
use Rattle.std.proofs.Common.{◌≡◌, ℕ, zero, suc, ◌+◌, ◌<◌, Bool, true, false, cond, Some, None, Option, sym, refl, ap, ◌∙◌, ⊎_elim, add-one, arith}
use Rattle.std.proofs.lemmas.Bool.{cases_lt}
use Rattle.truth.specs.Deciding.{lowest_below}

-- the answer at the next number, by the answer so far and the test there
abbrev or_here : Option ℕ → Bool → ℕ → Option ℕ
or_here low b n = elim low [ None ↦ cond b (Some n) None | Some m ↦ Some m ]

pub lowest_more : (n : ℕ) (p : ℕ → Bool) → lowest_below n p ≡ None → p n ≡ false → lowest_below (n + 1) p ≡ None
lowest_more n p none here = rw add-one (ap (λ low. or_here low (p n) n) none ∙ ap (λ b. cond b (Some n) None) here)

-- where none lower passes, a number that does is the lowest
pub lowest_found : (n : ℕ) (p : ℕ → Bool) (k : ℕ) → k < n → lowest_below k p ≡ None → p k ≡ true → lowest_below n p ≡ Some k
lowest_found zero p k lt none here = absurd (omega arith)
lowest_found (suc n) p k lt none here =
    ⊎_elim
    (λ (near : k < n). ap (λ low. or_here low (p n) n) (lowest_found n p k near none here))
    (λ far.
    let is : k ≡ n = omega arith in
    ap (λ low. or_here low (p n) n) (ap (λ m. lowest_below m p) (sym is) ∙ none)
    ∙ ap (λ b. cond b (Some n) None) (ap p (sym is) ∙ here)
    ∙ ap Some (sym is))
    (cases_lt k n)

-- what the answer says of the numbers below n
abbrev pub Tells : ℕ → (ℕ → Bool) → Option ℕ → Type 0
Tells n p None = (k : ℕ) → k < n → p k ≡ false
Tells n p (Some m) = (m < n) × (p m ≡ true) × ((k : ℕ) → k < m → p k ≡ false)

tells_more : (n : ℕ) (p : ℕ → Bool) (low : Option ℕ) (b : Bool) → p n ≡ b → Tells n p low → Tells (suc n) p (or_here low b n)
tells_more n p None true here h = (omega arith, here, h)
tells_more n p None false here h = λ k lt.
    ⊎_elim (h k) (λ far. let is : k ≡ n = omega arith in ap p is ∙ here) (cases_lt k n)
tells_more n p (Some m) b here h = (omega (arith, h.0), h.1, h.2)

pub lowest_tells : (n : ℕ) (p : ℕ → Bool) → Tells n p (lowest_below n p)
lowest_tells zero p = λ k lt. absurd (omega arith)
lowest_tells (suc n) p = tells_more n p (lowest_below n p) (p n) refl (lowest_tells n p)
