-- The stages of what is met sooner or later: after as many as there are states nothing is added, so it is the least test
-- that is closed under one more move. Assumes nothing.
use Rattle.std.proofs.Common.{◌≡◌, ℕ, zero, suc, ◌<◌, Bool, true, false, not, ◌||◌, ◌⊎◌, inl, inr, ⊎_elim, arith}
use Rattle.std.proofs.lemmas.Bool.{false≢true, cases_Bool, not-false, or_cases, or_left, or_right, or_parts}
use Rattle.clauses.specs.declared.kinds.Scope.{Scope}
use Rattle.truth.specs.Systems.{System, WellFormed, Speaks}
use Rattle.truth.specs.Deciding.{all_below, every_next, within, sooner}
use Rattle.truth.proofs.Below.{below_elim, below_fails, count_below, count_most, count_more}
use Rattle.truth.proofs.Nexts.{moves_stay, every_next_weaker}

-- the second of two parts may be weakened
or_weaker : (x y z : Bool) → (y ≡ true → z ≡ true) → (x || y) ≡ true → (x || z) ≡ true
or_weaker x y z h e = ⊎_elim (or_left x z) (λ f. or_right x z (h f)) (or_cases x y e)

-- what a test of an implication says
implied : (x y : Bool) → (not x || y) ≡ true → x ≡ true → y ≡ true
implied true y e f = e
implied false y e f = absurd (false≢true f)

-- ---- the stages, on any system

module _ (sys : System) (scope : Scope) (p : ℕ → Bool) where
  -- each stage passes what the one before it does
  pub within_more : (n s : ℕ) → within sys scope p n s ≡ true → within sys scope p (suc n) s ≡ true
  within_more zero s = or_left (p s) (every_next sys scope p s)
  within_more (suc n) s =
      or_weaker (p s) (every_next sys scope (within sys scope p n) s) (every_next sys scope (within sys scope p (suc n)) s)
      (every_next_weaker sys scope (within sys scope p n) (within sys scope p (suc n)) s (λ t move. within_more n t))

  -- what is met is met here or after every move
  pub sooner_unfold : (s : ℕ) → sooner sys scope p s ≡ true → (p s || every_next sys scope (sooner sys scope p) s) ≡ true
  sooner_unfold = within_more sys.states

  -- the next stage adds no state to the stage n
  abbrev Stable : ℕ → Type 0
  Stable n = (s : ℕ) → s < sys.states → within sys scope p (suc n) s ≡ true → within sys scope p n s ≡ true

  -- a stage is stable, or the next one passes more states
  stable_or_more : (n : ℕ) → Stable n ⊎ (count_below sys.states (within sys scope p n) < count_below sys.states (within sys scope p (suc n)))
  stable_or_more n =
      ⊎_elim
      (λ e. inl (λ s lt. implied (after s) (before s) (below_elim sys.states same e s lt)))
      (λ e.
      let found = below_fails sys.states same e in
      let s = found.0 in
      let parts = or_parts (not (after s)) (before s) found.2 in
      inr (count_more sys.states before after (λ k lt. within_more n k) s found.1 parts.1 (not-false (after s) parts.0)))
      (cases_Bool (all_below sys.states same))
    where
      before : ℕ → Bool
      before = within sys scope p n

      after : ℕ → Bool
      after = within sys scope p (suc n)

      same : ℕ → Bool
      same s = not (after s) || before s

-- ---- the stages, on a system whose moves lead to states

module _ (sys : System) (scope : Scope) (p : ℕ → Bool) (wf : WellFormed sys) (speaks : Speaks sys scope) where
  -- after a stable stage the next is stable
  stable_more : (n : ℕ) → Stable sys scope p n → Stable sys scope p (suc n)
  stable_more n stable s lt =
      or_weaker (p s) (every_next sys scope (within sys scope p (suc n)) s) (every_next sys scope (within sys scope p n) s)
      (every_next_weaker sys scope (within sys scope p (suc n)) (within sys scope p n) s (λ t move. stable t (moves_stay sys scope wf speaks s t lt move)))

  -- a stage is stable, or the next one passes more states than there were stages before it
  stable_or_many : (n : ℕ) → Stable sys scope p n ⊎ (n < count_below sys.states (within sys scope p (suc n)))
  stable_or_many zero = ⊎_elim inl (λ more. inr (omega arith)) (stable_or_more sys scope p zero)
  stable_or_many (suc n) =
      ⊎_elim
      (λ stable. inl (stable_more n stable))
      (λ many. ⊎_elim inl (λ more. inr (omega arith)) (stable_or_more sys scope p (suc n)))
      (stable_or_many n)

  -- where one more move would do, none is needed
  pub sooner_step : (s : ℕ) → s < sys.states → (p s || every_next sys scope (sooner sys scope p) s) ≡ true → sooner sys scope p s ≡ true
  sooner_step =
      ⊎_elim (λ stable. stable)
      (λ many. absurd (omega (arith, count_most sys.states (within sys scope p (suc sys.states)))))
      (stable_or_many sys.states)

-- a test that is closed under one more move passes wherever some stage does
pub within_least : (sys : System) (scope : Scope) (p M : ℕ → Bool) → WellFormed sys → Speaks sys scope → ((s : ℕ) → s < sys.states → (p s || every_next sys scope M s) ≡ true → M s ≡ true) → (n s : ℕ) → s < sys.states → within sys scope p n s ≡ true → M s ≡ true
within_least sys scope p M wf speaks closed zero s lt h = closed s lt (or_left (p s) (every_next sys scope M s) h)
within_least sys scope p M wf speaks closed (suc n) s lt h =
    closed s lt
    (or_weaker (p s) (every_next sys scope (within sys scope p n) s) (every_next sys scope M s)
    (every_next_weaker sys scope (within sys scope p n) M s (λ t move. within_least sys scope p M wf speaks closed n t (moves_stay sys scope wf speaks s t lt move)))
    h)

-- what is met sooner or later is the least such test
pub sooner_least : (sys : System) (scope : Scope) (p M : ℕ → Bool) → WellFormed sys → Speaks sys scope → ((s : ℕ) → s < sys.states → (p s || every_next sys scope M s) ≡ true → M s ≡ true) → (s : ℕ) → s < sys.states → sooner sys scope p s ≡ true → M s ≡ true
sooner_least sys scope p M wf speaks closed = within_least sys scope p M wf speaks closed sys.states
