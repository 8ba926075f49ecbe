-- Endless paths against what is met sooner or later. Assumes nothing.
use Rattle.std.proofs.Common.{◌≡◌, ℕ, zero, suc, ◌<◌, Bool, true, false, ◌||◌, refl, ap, ◌∙◌, ⊎_elim}
use Rattle.std.proofs.lemmas.Bool.{both_ways, or_cases, or_parts}
use Rattle.clauses.specs.declared.kinds.Scope.{Scope}
use Rattle.truth.specs.Systems.{System, WellFormed, Speaks, Moves, Path}
use Rattle.truth.specs.Deciding.{every_next, within, sooner}
use Rattle.truth.proofs.Nexts.{moves_stay, every_next_elim, every_next_fails}
use Rattle.truth.proofs.Sooner.{sooner_step}

-- ---- what is met sooner or later is on every path

-- from where a stage passes
within_meets : (sys : System) (scope : Scope) (p : ℕ → Bool) (n : ℕ) (π : ℕ → ℕ) → ((j : ℕ) → Moves sys scope (π j) (π (suc j))) → within sys scope p n (π 0) ≡ true → (j : ℕ) × (p (π j) ≡ true)
within_meets sys scope p zero π moves h = (0, h)
within_meets sys scope p (suc n) π moves h =
    ⊎_elim
    (λ here. (0, here))
    (λ next.
    let later = within_meets sys scope p n (λ j. π (suc j)) (λ j. moves (suc j)) (every_next_elim sys scope (within sys scope p n) (π 0) next (π 1) (moves 0)) in
    (suc later.0, later.1))
    (or_cases (p (π 0)) (every_next sys scope (within sys scope p n) (π 0)) h)

-- every path from there comes to a state that passes
pub sooner_meets : (sys : System) (scope : Scope) (p : ℕ → Bool) (s : ℕ) → sooner sys scope p s ≡ true → (π : ℕ → ℕ) → Path sys scope s π → (j : ℕ) × (p (π j) ≡ true)
sooner_meets sys scope p s h π path =
    within_meets sys scope p sys.states π path.1 (ap (sooner sys scope p) path.0 ∙ h)

-- ---- what is not has a path that avoids it

-- an implication between tests, the other way round
false_back : (x y : Bool) → (x ≡ true → y ≡ true) → y ≡ false → x ≡ false
false_back true y h e = absurd (both_ways y e (h refl))
false_back false y h e = refl

-- a state from which one need not come to what passes
abbrev Missed : System → Scope → (ℕ → Bool) → Type 0
Missed sys scope p = (s : ℕ) × (s < sys.states) × (sooner sys scope p s ≡ false)

module _ (sys : System) (scope : Scope) (p : ℕ → Bool) (wf : WellFormed sys) (speaks : Speaks sys scope) where
  -- it does not pass, and not every move leads to where one does come to it
  missed_parts : (m : Missed sys scope p) → (p m.0 ≡ false) × (every_next sys scope (sooner sys scope p) m.0 ≡ false)
  missed_parts m =
      let all = every_next sys scope (sooner sys scope p) m.0 in
      or_parts (p m.0) all (false_back (p m.0 || all) (sooner sys scope p m.0) (sooner_step sys scope p wf speaks m.0 m.1) m.2)

  -- the next one, by a move of the scope
  missed_next : (m : Missed sys scope p) → (t : Missed sys scope p) × Moves sys scope m.0 t.0
  missed_next m =
      let found = every_next_fails sys scope (sooner sys scope p) m.0 (missed_parts m).1 in
      ((found.0, moves_stay sys scope wf speaks m.0 found.0 m.1 found.1, found.2), found.1)

  -- endless moves from one missed state to the next
  walk : Missed sys scope p → ℕ → Missed sys scope p
  walk m zero = m
  walk m (suc j) = (missed_next (walk m j)).0

  -- some path from elsewhere never comes to one
  pub sooner_avoids : (s : ℕ) → s < sys.states → sooner sys scope p s ≡ false → (π : ℕ → ℕ) × Path sys scope s π × ((j : ℕ) → p (π j) ≡ false)
  unfolding walk
  sooner_avoids s lt h =
      let from : Missed sys scope p = (s, lt, h) in
      (λ j. (walk from j).0, (refl, λ j. (missed_next (walk from j)).1), λ j. (missed_parts (walk from j)).0)
