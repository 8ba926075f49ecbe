-- Marks that grow until they are closed show what is met sooner or later. Assumes nothing.
use Rattle.std.proofs.Common.{◌≡◌, ℕ, ◌+◌, ◌-◌, ◌<◌, ◌≤◌, Bool, true, false, ◌⊎◌, List, length, set, sym, ap, ◌∙◌, subst, inl, inr, ⊎_elim, arith, length-set}
use Rattle.std.proofs.lemmas.Bool.{true≢false, cases_eq, or_cases, or_right}
use Rattle.std.proofs.lemmas.Bool.Decides.{same_from_decides}
use Rattle.clauses.specs.declared.kinds.Scope.{Scope}
use Rattle.truth.specs.Systems.{System, Speaks, WellFormed}
use Rattle.truth.specs.Deciding.{every_next, sooner}
use Rattle.truth.proofs.Nexts.{every_next_weaker, moves_stay}
use Rattle.truth.proofs.Sooner.{sooner_least, sooner_step}
use Rattle.judging.specs.Marks.{Closed, Grows, Shows, Within, marked, state_at, unmarked}
use Rattle.judging.proofs.Bytes.{marked_elsewhere, marked_still, unmarked_less}

-- what one round has come to when some states have been looked at
pub record Round (sys : System) (scope : Scope) (entry marks : List ℕ) (grown : Bool) (Seen : ℕ → Type 0) : Type 0 where
  pub grows : Grows entry marks
  pub inside : Speaks sys scope → (p : ℕ → Bool) → Within entry (sooner sys scope p) → Within marks (sooner sys scope p)
  pub fewer : unmarked marks ≤ unmarked entry
  pub more : grown ≡ true → unmarked marks < unmarked entry
  pub shut : Speaks sys scope → grown ≡ false → (k : ℕ) → Seen k → k < length marks → every_next sys scope (marked marks) k ≡ true → marked marks k ≡ true

module _ (sys : System) (scope : Scope) (entry marks : List ℕ) (grown : Bool) (i : ℕ) (Seen Later : ℕ → Type 0) (last : (k : ℕ) → Later k → k < length marks → (k ≡ i) ⊎ Seen k) (turn : Round sys scope entry marks grown Seen) where
  -- a state that is marked already, or from which not every move leads to a marked one
  pub round_same : (Speaks sys scope → every_next sys scope (marked marks) i ≡ true → marked marks i ≡ true) → Round sys scope entry marks grown Later
  round_same here = record {
    grows = turn.grows;
    inside = turn.inside;
    fewer = turn.fewer;
    more = turn.more;
    shut = λ speaks e k later lt all.
        ⊎_elim
        (λ is. subst (λ n. marked marks n ≡ true) (sym is) (here speaks (subst (λ n. every_next sys scope (marked marks) n ≡ true) is all)))
        (λ seen. turn.shut speaks e k seen lt all)
        (last k later lt);
  }

  -- a state that is marked now
  module _ (formed : WellFormed sys) (states : length marks ≡ sys.states) (width : length entry ≡ length marks) (there : i < length marks) (was : marked marks i ≡ false) where
    -- it belongs to whatever holds the marks so far and is met sooner or later
    belongs : (p : ℕ → Bool) → Speaks sys scope → every_next sys scope (marked marks) i ≡ true → Within marks (sooner sys scope p) → sooner sys scope p i ≡ true
    belongs p speaks all h =
        sooner_step sys scope p formed speaks i (omega arith)
        (or_right (p i) (every_next sys scope (sooner sys scope p) i)
        (every_next_weaker sys scope (marked marks) (sooner sys scope p) i
        (λ t move. let stays = moves_stay sys scope formed speaks i t (omega arith) move in h t (omega arith))
        all))

    pub round-more : (Speaks sys scope → every_next sys scope (marked marks) i ≡ true) → Round sys scope entry (set marks i 1) true Later
    round-more all =
        let less = unmarked_less marks i there was in
        let fewer = turn.fewer in
        record {
          grows = λ s lt h. marked_still marks i s there (turn.grows s lt h);
          inside = λ speaks p h s lt m.
              ⊎_elim
              (λ is. ap (sooner sys scope p) is ∙ belongs p speaks (all speaks) (turn.inside speaks p h))
              (λ other. turn.inside speaks p h s (omega (arith, length-set marks i 1)) (sym (marked_elsewhere marks i 1 s other) ∙ m))
              (cases_eq s i);
          fewer = omega arith;
          more = λ e. omega arith;
          shut = λ speaks e. absurd (true≢false e);
        }

-- ---- the order of a round

-- what has been looked at after so many steps, from the lowest of n states up or from the highest down
abbrev pub Seen : ℕ → Bool → ℕ → ℕ → Type 0
Seen n true step k = k < step
Seen n false step k = n ≤ k + step

pub one_seen : (n : ℕ) (up : Bool) (step : ℕ) → step < n → (k : ℕ) → Seen n up (step + 1) k → k < n → (k ≡ state_at n up step) ⊎ Seen n up step k
one_seen n true step low k seen lt = ⊎_elim inl (λ other. inr (omega arith)) (cases_eq k step)
one_seen n false step low k seen lt = ⊎_elim inl (λ other. inr (omega arith)) (cases_eq k (n - 1 - step))

-- ---- round after round

module _ (sys : System) (scope : Scope) (p : ℕ → Bool) (formed : WellFormed sys) (speaks : Speaks sys scope) where
  -- what grows from p, within what is met sooner or later, until it is closed shows that
  pub shows_at_last : (entry marks : List ℕ) → length marks ≡ sys.states → length entry ≡ length marks → Shows entry p → Grows entry marks → Within marks (sooner sys scope p) → Closed sys scope marks → Shows marks (sooner sys scope p)
  shows_at_last entry marks states width shows grows within closed s lt =
      same_from_decides (marked marks s) (sooner sys scope p s) (
        within s lt,
        sooner_least sys scope p (marked marks) formed speaks
            (λ t low h. ⊎_elim (λ here. grows t (omega arith) (shows t (omega arith) ∙ here)) (closed t (omega arith)) (or_cases (p t) (every_next sys scope (marked marks) t) h))
            s (omega arith),
      )
      (λ e. e, λ e. e)
