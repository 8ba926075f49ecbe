-- What is resolved, rewritten, entered or stayed from true lines is true. Assumes nothing.
use Rattle.std.proofs.Common.{◌≡◌, ℕ, ◌<◌, ◌≤◌, true, false, not, ◌||◌, eqb, List, [], ◌∷◌, ◌++◌, length, Some, None, Option, sym, refl, ap, ◌∙◌, subst, inl, ⊎_elim}
use Rattle.std.proofs.lemmas.List.{nil_from_length}
use Rattle.std.proofs.lemmas.Bool.{both_ways, false≢true, cases_Bool, eqb-true, and_from, and_parts, not-true, not_from_false, or_cases, or_left, or_right}
use Rattle.clauses.specs.declared.kinds.Kind.{Kind}
use Rattle.clauses.specs.declared.kinds.Kind.TheVariants.{Start, Global, Step, Sometime}
use Rattle.clauses.specs.declared.kinds.Scope.{Scope}
use Rattle.clauses.specs.declared.kinds.Scope.TheVariants.{All, Index}
use Rattle.clauses.specs.declared.lines.Line.{Line}
use Rattle.clauses.specs.declared.literals.Literal.{Literal}
use Rattle.clauses.specs.Lines.{literals}
use Rattle.clauses.specs.Literals.{opposite}
use Rattle.clauses.specs.Sides.{join, opposites, without}
use Rattle.clauses.specs.Steps.{either_loop, entered_line, entered_right, is_step, resolved_left, resolved_line, resolved_right, rewritable, rewritten_line, stayed_line, wait_literal}
use Rattle.truth.specs.Systems.{System, WellFormed, Speaks, Moves}
use Rattle.truth.specs.Truth.{literal_at, left_at, right_at}
use Rattle.truth.specs.Decided.{Fits}
use Rattle.truth.specs.Deciding.{every_next, sooner}
use Rattle.truth.proofs.Nexts.{every_next_elim, moves_stay}
use Rattle.truth.proofs.Sooner.{sooner_unfold}
use Rattle.calls.specs.declared.waits.Wait.{Wait}
use Rattle.calls.specs.Models.{Loop}
use Rattle.calls.specs.Waits.{place_of}
use Rattle.calls.proofs.Extending.{comes, extended, given_literal, layout_literal, waits}
use Rattle.calls.proofs.Joints.{Joint, start_start, start_global, global_start, global_global, global_step, step_global, step_step, JointScope, any_with, with_any, with_itself}
use Rattle.calls.proofs.Siding.{literal_opposite, left_join, right_implied, right_join, right_opposites, right_without}
use Rattle.calls.proofs.Supposing.{Asks, Premise, TrueLine, TrueOf, true_made}

-- ---- moves

-- a move of a scope is a move
pub moves_any : (sys : System) (scope : Scope) (s t : ℕ) → Speaks sys scope → Moves sys scope s t → Moves sys All s t
moves_any sys All s t speaks move = move
moves_any sys (Index i) s t speaks move = inl (i, speaks, move)

-- there is always one
some_move : (sys : System) (scope : Scope) (s : ℕ) → WellFormed sys → (t : ℕ) × Moves sys scope s t
some_move sys All s wf = (sys.target s 0, inl (0, wf.indexed, refl))
some_move sys (Index i) s wf = (sys.target s i, refl)

-- a move that a joint scope speaks of, both its scopes do
moves_joint : (sys : System) {a b c : Scope} → JointScope a b c → (s t : ℕ) → Speaks sys a → Speaks sys b → Moves sys c s t → Moves sys a s t × Moves sys b s t
moves_joint sys (any_with b) s t p q move = (moves_any sys b s t q move, move)
moves_joint sys (with_any i) s t p q move = (move, inl (i, p, move))
moves_joint sys (with_itself i) s t p q move = (move, move)

-- ---- resolving

module _ (sys : System) (ws : List Wait) (loops : List Loop) (s t : ℕ) (P Q : List Literal) (o p : Option ℕ) (both : Premise sys ws loops (either_loop o p) t → Premise sys ws loops o t × Premise sys ws loops p t) where
  lefts : left_at (extended sys ws) (join P Q) s ≡ true → (left_at (extended sys ws) P s ≡ true) × (left_at (extended sys ws) Q s ≡ true)
  lefts h = and_parts (left_at (extended sys ws) P s) (left_at (extended sys ws) Q s) (sym (left_join (extended sys ws) s P Q) ∙ h)

  -- where a joint kind asks, both its kinds do
  asks_joint : {a b c : Kind} → Joint a b c → Fits sys a → Fits sys b → Asks sys ws loops c (join P Q) (either_loop o p) s t → Asks sys ws loops a P o s t × Asks sys ws loops b Q p s t
  asks_joint start_start f g h = (h, h)
  asks_joint start_global f g h = (h, tt)
  asks_joint global_start f g h = (tt, h)
  asks_joint global_global f g h = (tt, tt)
  asks_joint (global_step u) f g h = (tt, (h.0, (both h.1).1, (lefts h.2).1))
  asks_joint (step_global r) f g h = ((h.0, (both h.1).0, (lefts h.2).0), tt)
  asks_joint (step_step joint) f g h =
      let moves = moves_joint sys joint s t f g h.0 in
      ((moves.0, (both h.1).0, (lefts h.2).0), (moves.1, (both h.1).1, (lefts h.2).1))

-- of two rights that hold, one still does without the literal that they clash on
right_resolved : (sys : System) (t : ℕ) (C D : List Literal) (l : Literal) → right_at sys C t ≡ true → right_at sys D t ≡ true → right_at sys (join (without l C) (without (opposite l) D)) t ≡ true
right_resolved sys t C D l h k =
    right_join sys t (without l C) (without (opposite l) D)
    ∙ ⊎_elim
    (λ yes-l. or_right (right_at sys (without l C) t) (right_at sys (without (opposite l) D) t) (right_without sys t (opposite l) D (literal_opposite sys t l ∙ ap not yes-l) k))
    (λ not-l. or_left (right_at sys (without l C) t) (right_at sys (without (opposite l) D) t) (right_without sys t l C not-l h))
    (cases_Bool (literal_at sys t l))

module _ (sys : System) (ws : List Wait) (loops : List Loop) where
  pub resolved_true : (kind : Kind) (x y : Line) (l : Literal) → ((t : ℕ) → Premise sys ws loops (either_loop x.belongs y.belongs) t → Premise sys ws loops x.belongs t × Premise sys ws loops y.belongs t) → Fits sys x.kind → Fits sys y.kind → Joint x.kind y.kind kind → TrueLine sys ws loops x → TrueLine sys ws loops y → TrueLine sys ws loops (resolved_line kind x y l)
  resolved_true kind x y l both f g is h k =
      true_made sys ws loops kind (resolved_left x y) (resolved_right x y l) (either_loop x.belongs y.belongs)
      (λ s t from to asks.
      let each = asks_joint sys ws loops s t (literals x.left) (literals y.left) x.belongs y.belongs (both t) is f g asks in
      right_resolved (extended sys ws) t (literals x.right) (literals y.right) l (h s t from to each.0) (k s t from to each.1))

  -- ---- rewriting

  -- a step of no loop with an empty right has a left that never holds
  never_left : WellFormed sys → (kind : Kind) (left right : List Literal) (o : Option ℕ) → is_step kind ≡ true → length right ≡ 0 → Fits sys kind → o ≡ None → TrueOf sys ws loops kind left right o → (s : ℕ) → s < sys.states → left_at (extended sys ws) left s ≡ true → ⊥
  never_left wf Start left right o step empty f alone h s from holds = false≢true step
  never_left wf Global left right o step empty f alone h s from holds = false≢true step
  never_left wf (Step scope) left right o step empty f alone h s from holds =
      let move = some_move sys scope s wf in
      let none : right ≡ [] = nil_from_length right empty in
      let premise = subst (λ p. Premise sys ws loops p move.0) (sym alone) tt in
      let right-holds = h s move.0 from (moves_stay sys scope wf f s move.0 from move.1) (move.1, premise, holds) in
      false≢true (ap (λ r. right_at (extended sys ws) r move.0) (sym none) ∙ right-holds)
  never_left wf (Sometime scope) left right o step empty f alone h s from holds = false≢true step

  -- where a left fails, one of its opposites holds
  opposites_hold : (left : List Literal) (s : ℕ) → (left_at (extended sys ws) left s ≡ true → ⊥) → right_at (extended sys ws) (opposites left) s ≡ true
  opposites_hold left s never =
      right_opposites (extended sys ws) s left
      ∙ ⊎_elim (λ holds. absurd (never holds)) (not_from_false (left_at (extended sys ws) left s)) (cases_Bool (left_at (extended sys ws) left s))

  pub rewritten_true : WellFormed sys → (x : Line) → Fits sys x.kind → rewritable x ≡ true → x.belongs ≡ None → TrueLine sys ws loops x → TrueLine sys ws loops (rewritten_line x)
  rewritten_true wf x f can alone h =
      let parts = and_parts (is_step x.kind) (eqb (length (literals x.right)) 0) can in
      true_made sys ws loops Global [] (opposites (literals x.left)) None
      (λ s t from to asks. opposites_hold (literals x.left) t
      (never_left wf x.kind (literals x.left) (literals x.right) x.belongs parts.0 (eqb-true (length (literals x.right)) 0 parts.1) f alone h t to))

-- ---- waiting

-- where one waits, the goal comes after every move
pub comes_next : (sys : System) (w : Wait) (s t : ℕ) → waits sys w s ≡ true → Moves sys w.scope s t → comes sys w t ≡ true
comes_next sys w s t h move =
    let goal = right_at sys (w.goal ∷ []) in
    let parts = and_parts (not (literal_at sys s w.goal)) (comes sys w s) h in
    ⊎_elim
    (λ here. absurd (⊎_elim (both_ways (literal_at sys s w.goal) (not-true (literal_at sys s w.goal) parts.0)) false≢true (or_cases (literal_at sys s w.goal) false here)))
    (λ next. every_next_elim sys w.scope (sooner sys w.scope goal) s next t move)
    (or_cases (goal s) (every_next sys w.scope (sooner sys w.scope goal) s) (sooner_unfold sys w.scope goal s parts.1))

module _ (sys : System) (ws front more : List Wait) (is : ws ≡ front ++ more) (w : Wait) (p : ℕ) (low : w.goal.0 ≤ 2047) (place : place_of front w ≡ Some p) where
  -- the literal of a wait that holds
  pub wait_says : (s : ℕ) → left_at (extended sys ws) (wait_literal p ∷ []) s ≡ true → waits sys w s ≡ true
  wait_says s h = sym (given_literal sys ws s front more w p is place) ∙ (and_parts (literal_at (extended sys ws) s (wait_literal p)) true h).0

  -- where the goal comes, it holds or one waits
  goal_or_wait : (s : ℕ) → comes sys w s ≡ true → right_at (extended sys ws) (join (w.goal ∷ []) (wait_literal p ∷ [])) s ≡ true
  goal_or_wait s h =
      let E = extended sys ws in
      let g = literal_at E s w.goal in
      right_join E s (w.goal ∷ []) (wait_literal p ∷ [])
      ∙ ⊎_elim
      (λ yes-g. or_left (g || false) (literal_at E s (wait_literal p) || false) (or_left g false yes-g))
      (λ not-g. or_right (g || false) (literal_at E s (wait_literal p) || false) (or_left (literal_at E s (wait_literal p)) false
      (given_literal sys ws s front more w p is place
      ∙ and_from (not (literal_at sys s w.goal)) (comes sys w s) (not_from_false (literal_at sys s w.goal) (sym (layout_literal sys ws s w.goal low) ∙ not-g)) h)))
      (cases_Bool g)

  pub entered_true : (loops : List Loop) (x : Line) → ((s : ℕ) → s < sys.states → left_at (extended sys ws) (literals x.left) s ≡ true → comes sys w s ≡ true) → TrueLine sys ws loops (entered_line x w.goal (wait_literal p))
  entered_true loops x come =
      true_made sys ws loops Global [] (entered_right x w.goal (wait_literal p)) None
      (λ s t from to asks. right_implied (extended sys ws) t (literals x.left) (join (w.goal ∷ []) (wait_literal p ∷ [])) (λ holds. goal_or_wait t (come t to holds)))

  pub stayed_true : (loops : List Loop) → TrueLine sys ws loops (stayed_line w.scope w.goal (wait_literal p))
  stayed_true loops =
      true_made sys ws loops (Step w.scope) (wait_literal p ∷ []) (join (w.goal ∷ []) (wait_literal p ∷ [])) None
      (λ s t from to asks. goal_or_wait t (comes_next sys w s t (wait_says s asks.2) asks.0))
