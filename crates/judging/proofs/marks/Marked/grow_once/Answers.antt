use Rattle.std.proofs.Common.{◌≡◌, ℕ, ◌+◌, ◌<◌, Bool, ◌⊎◌, List, length, sym, ◌∙◌, subst₂, inl, inr, ⊎_elim, arith}
use Rattle.std.proofs.lemmas.Bool.{false≢true}
use Rattle.judging.proofs.Growing.{Round, Seen, one_seen, round-more, round_same}
use Rattle.judging.proofs.marks.Marked.grow_once.Given as given
use Rattle.judging.proofs.marks.Marked.grow_once.Goals as goal
use Rattle.judging.proofs.marks.Marked.grow_once.Goals.{Joined-not-shows, then-not-shows+then-next_marked, else-not-shows, else-not-shows-via-then-not-shows+else-next_marked, else-not-shows-via-else-not-shows}

module _ (g : given.Over) (c : Joined-not-shows g) where
  abbrev Before : ℕ → Type 0
  Before = Seen (length c.args.self.now.marks.now) c.args.up c.loop-step.step

  abbrev After : ℕ → Type 0
  After = Seen (length c.args.self.now.marks.now) c.args.up (c.loop-step.step + 1)

  -- one state more has been looked at
  one_more : (k : ℕ) → After k → k < length c.loop-step.self.marks.now → (k ≡ c.state_at-state.result) ⊎ Before k
  one_more k later lt =
      let width = rw c.loop-step.invariant.plan at c.loop-step.self.states in
      let all : c.states-states.result ≡ length c.args.self.now.marks.now = c.states-states.ensures.value ∙ sym c.args.self.now.states in
      ⊎_elim (λ e. inl (e ∙ sym (rw all at c.state_at-state.ensures.value))) inr (one_seen (length c.args.self.now.marks.now) c.args.up c.loop-step.step (omega arith) k later (omega arith))

pub loop-step-preserved : goal.loop-step-preserved
loop-step-preserved g c =
    let sys = g.P.Plan.system c.args.self.now.plan.now in
    let entry = c.args.self.now.marks.now in
    let marks = c.loop-step.self.marks.now in
    let state = c.state_at-state.result in
    let so_far = c.loop-step.invariant in
    let width = rw so_far.plan at c.loop-step.self.states in
    let turned = λ (ms : List ℕ) (b : Bool). Round sys c.args.scope entry ms b (After g c) in
    elim c.if-not-shows.branch [
      | then-not-shows+then-next_marked w ↦
          let told = rw so_far.plan at w.if-next_marked.ensures in
          record {
            plan = (λ i. (w.self-is i).plan) ∙ so_far.plan;
            lent = (λ i. (w.self-is i).marks.ghost_name) ∙ so_far.lent;
            turn = subst₂ turned (λ i. (sym w.self-is i).marks.now) (sym w.grown-is)
                (rw w.from.ensures (round-more sys c.args.scope entry marks c.loop-step.grown state (Before g c) (After g c) (one_more g c) so_far.turn
                c.args.self.now.formed width (omega arith) (omega arith) (sym c.shows.ensures ∙ w.if-not-shows.true) (λ speaks. sym (told speaks))));
          }
      | else-not-shows w ↦
          record {
            plan = (λ i. (w.self-is i).plan) ∙ so_far.plan;
            lent = (λ i. (w.self-is i).marks.ghost_name) ∙ so_far.lent;
            turn = subst₂ turned (λ i. (sym w.self-is i).marks.now) (sym w.grown-is)
                (round_same sys c.args.scope entry marks c.loop-step.grown state (Before g c) (After g c) (one_more g c) so_far.turn
                (λ speaks all. elim w.else-not-shows.branch [
                  | else-not-shows-via-then-not-shows+else-next_marked v ↦ let told = rw so_far.plan at v.if-next_marked.ensures in absurd (false≢true (told speaks ∙ all))
                  | else-not-shows-via-else-not-shows v ↦ sym c.shows.ensures ∙ v.if-not-shows.false
                ]));
          }
    ]
