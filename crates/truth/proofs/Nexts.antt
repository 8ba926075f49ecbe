-- The test of every next state against the moves. Assumes nothing.
use Rattle.std.proofs.Common.{◌≡◌, ℕ, ◌<◌, Bool, true, false, ◌&&◌, length, get_or, refl, ap, ◌∙◌, ap₂, inl, inr, ⊎_elim}
use Rattle.std.proofs.lemmas.Bool.{and_parts, and_from, and_cases}
use Rattle.clauses.specs.declared.kinds.Scope.{Scope}
use Rattle.clauses.specs.declared.kinds.Scope.TheVariants.{All, Index}
use Rattle.truth.specs.Systems.{System, WellFormed, Speaks, Moves}
use Rattle.truth.specs.Deciding.{all_below, every_free, every_next}
use Rattle.truth.proofs.Below.{below_intro, below_elim, below_fails, below_cong}

-- a move of the scope from a state leads to a state
pub moves_stay : (sys : System) (scope : Scope) → WellFormed sys → Speaks sys scope → (s t : ℕ) → s < sys.states → Moves sys scope s t → t < sys.states
moves_stay sys All wf speaks s t lt move = wf.closed s t lt move
moves_stay sys (Index i) wf speaks s t lt move = wf.closed s t lt (inl (i, speaks, move))

-- the test passes where every move leads to a state that passes
pub every_next_intro : (sys : System) (scope : Scope) (p : ℕ → Bool) (s : ℕ) → ((t : ℕ) → Moves sys scope s t → p t ≡ true) → every_next sys scope p s ≡ true
every_next_intro sys All p s h =
    and_from (all_below sys.indices (λ i. p (sys.target s i))) (every_free p (sys.free s))
    (below_intro sys.indices (λ i. p (sys.target s i)) (λ i lt. h (sys.target s i) (inl (i, lt, refl))))
    (below_intro (length (sys.free s)) (λ j. p (get_or (sys.free s) j 0)) (λ j lt. h (get_or (sys.free s) j 0) (inr (j, lt, refl))))
every_next_intro sys (Index i) p s h = h (sys.target s i) refl

-- and every move leads to one where it passes
pub every_next_elim : (sys : System) (scope : Scope) (p : ℕ → Bool) (s : ℕ) → every_next sys scope p s ≡ true → (t : ℕ) → Moves sys scope s t → p t ≡ true
every_next_elim sys All p s h t move =
    let parts = and_parts (all_below sys.indices (λ i. p (sys.target s i))) (every_free p (sys.free s)) h in
    ⊎_elim
    (λ m. ap p m.2 ∙ below_elim sys.indices (λ i. p (sys.target s i)) parts.0 m.0 m.1)
    (λ m. ap p m.2 ∙ below_elim (length (sys.free s)) (λ j. p (get_or (sys.free s) j 0)) parts.1 m.0 m.1)
    move
every_next_elim sys (Index i) p s h t move = ap p move ∙ h

-- where not every next state passes, some move leads to one that does not
pub every_next_fails : (sys : System) (scope : Scope) (p : ℕ → Bool) (s : ℕ) → every_next sys scope p s ≡ false → (t : ℕ) × Moves sys scope s t × (p t ≡ false)
every_next_fails sys All p s h =
    ⊎_elim
    (λ e. let found = below_fails sys.indices (λ i. p (sys.target s i)) e in (sys.target s found.0, inl (found.0, found.1, refl), found.2))
    (λ e. let found = below_fails (length (sys.free s)) (λ j. p (get_or (sys.free s) j 0)) e in (get_or (sys.free s) found.0 0, inr (found.0, found.1, refl), found.2))
    (and_cases (all_below sys.indices (λ i. p (sys.target s i))) (every_free p (sys.free s)) h)
every_next_fails sys (Index i) p s h = (sys.target s i, refl, h)

-- only the states that a move leads to count
pub every_next_cong : (sys : System) (scope : Scope) (p q : ℕ → Bool) (s : ℕ) → ((t : ℕ) → Moves sys scope s t → p t ≡ q t) → every_next sys scope p s ≡ every_next sys scope q s
every_next_cong sys All p q s h =
    ap₂ ◌&&◌
    (below_cong sys.indices (λ i. p (sys.target s i)) (λ i. q (sys.target s i)) (λ i lt. h (sys.target s i) (inl (i, lt, refl))))
    (below_cong (length (sys.free s)) (λ j. p (get_or (sys.free s) j 0)) (λ j. q (get_or (sys.free s) j 0)) (λ j lt. h (get_or (sys.free s) j 0) (inr (j, lt, refl))))
every_next_cong sys (Index i) p q s h = h (sys.target s i) refl

-- a test that every next state passes may be weakened there
pub every_next_weaker : (sys : System) (scope : Scope) (p q : ℕ → Bool) (s : ℕ) → ((t : ℕ) → Moves sys scope s t → p t ≡ true → q t ≡ true) → every_next sys scope p s ≡ true → every_next sys scope q s ≡ true
every_next_weaker sys scope p q s h all =
    every_next_intro sys scope q s (λ t move. h t move (every_next_elim sys scope p s all t move))
