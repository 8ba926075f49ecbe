-- What a plan answers of the moves from a state, and that it leads to a state. Assumes nothing.
use Rattle.std.proofs.Common.{◌≡◌, ℕ, ◌<◌, ◌&&◌, ltb, length, get_or, sym, refl, ⊎_elim, subst, inl, inr}
use Rattle.std.proofs.lemmas.Bool.{cases_lt, and_parts, and_from, cond_both, cond-true, lt-ltb, ltb-true}
use Rattle.std.proofs.lemmas.List.{get_or_past}
use Rattle.truth.specs.Systems.{System, WellFormed}
use Rattle.plans.specs.Questions.{free_count, free_target, target_of}

module _ (sys : System) (s : ℕ) (there : s < sys.states) where
  -- in range the answers are the system's
  pub target_is : (i : ℕ) → i < sys.indices → target_of sys s i ≡ sys.target s i
  target_is i lt = cond-true _ (sys.target s i) 0 (and_from _ _ (lt-ltb s sys.states there) (lt-ltb i sys.indices lt))

  pub free_count_is : free_count sys s ≡ length (sys.free s)
  free_count_is = cond-true _ (length (sys.free s)) 0 (lt-ltb s sys.states there)

  pub free_target_is : (j : ℕ) → free_target sys s j ≡ get_or (sys.free s) j 0
  free_target_is j = cond-true _ (get_or (sys.free s) j 0) 0 (lt-ltb s sys.states there)

-- the answer for any number, of a state or not, is a state
pub target_stays : (sys : System) (s i : ℕ) → WellFormed sys → target_of sys s i < sys.states
target_stays sys s i formed =
    cond_both (ltb s sys.states && ltb i sys.indices) (sys.target s i) 0 (λ t. t < sys.states)
    (λ e. let both = and_parts _ _ e in formed.closed s (sys.target s i) (ltb-true s sys.states both.0) (inl (i, ltb-true i sys.indices both.1, refl)))
    (λ e. formed.begins)

pub free_target_stays : (sys : System) (s j : ℕ) → WellFormed sys → free_target sys s j < sys.states
free_target_stays sys s j formed =
    cond_both (ltb s sys.states) (get_or (sys.free s) j 0) 0 (λ t. t < sys.states)
    (λ e. ⊎_elim
    (λ lt. formed.closed s (get_or (sys.free s) j 0) (ltb-true s sys.states e) (inr (j, lt, refl)))
    (λ past. subst (λ t. t < sys.states) (sym (get_or_past (sys.free s) j 0 past)) formed.begins)
    (cases_lt j (length (sys.free s))))
    (λ e. formed.begins)
