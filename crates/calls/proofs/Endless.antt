-- Where a row of a closed loop holds and the goal does not, one may go on for ever and never come to the goal: every row is met, so some
-- move leads to where another row holds and the goal does not. Assumes nothing.
use Rattle.std.proofs.Common.{◌≡◌, ℕ, zero, suc, ◌<◌, ◌≤◌, Bool, true, false, not, eqb, List, [], ◌∷◌, ◌++◌, length, Some, None, Option, sym, refl, ap, ◌∙◌, subst, inl, ⊎_elim}
use Rattle.std.specs.List as lists
use Rattle.std.proofs.lemmas.List.{nil_from_length}
use Rattle.std.proofs.lemmas.Bool.{both_ways, false≢true, cases_Bool, eqb-true, and_parts, not-false, or_cases, or_from, or_parts}
use Rattle.ordered.specs.Lists as ordered
use Rattle.clauses.specs.declared.kinds.Kind.{Kind}
use Rattle.clauses.specs.declared.kinds.Kind.TheVariants.{Start, Global, Step, Sometime}
use Rattle.clauses.specs.declared.kinds.Scope.{Scope}
use Rattle.clauses.specs.declared.kinds.Scope.TheVariants.{All, Index}
use Rattle.clauses.specs.declared.lines.Line.{Line}
use Rattle.clauses.specs.declared.literals.Literal.{Literal}
use Rattle.clauses.specs.Lines.{literals}
use Rattle.clauses.specs.Literals.{literal_rank}
use Rattle.clauses.specs.Sides.{join, opposites}
use Rattle.clauses.specs.Steps.{made, wait_literal}
use Rattle.truth.specs.Systems.{System, WellFormed, Speaks, Moves}
use Rattle.truth.specs.Truth.{literal_at, left_at, right_at}
use Rattle.truth.specs.Decided.{Fits}
use Rattle.truth.specs.Deciding.{every_next, within}
use Rattle.truth.proofs.Nexts.{every_next_elim, moves_stay}
use Rattle.calls.specs.declared.waits.Wait.{Wait}
use Rattle.calls.specs.Loops.{belongs_to, loop_at, meets, met, row_right, step_for, waited_by}
use Rattle.calls.specs.Models.{Loop}
use Rattle.calls.specs.Waits.{place_of}
use Rattle.calls.proofs.Concluding.{comes_next, wait_says}
use Rattle.calls.proofs.Extending.{comes, extended, layout_literal}
use Rattle.calls.proofs.Siding.{left_within, right_implied, right_row}
use Rattle.calls.proofs.Supposing.{Premise, RowsHold, TrueLine, TrueOf, true_made}

-- a move that a loop of a scope may go by, and that a step speaks of
abbrev Shared : System → Scope → Kind → ℕ → Type 0
Shared sys scope kind s = (other : Scope) × (kind ≡ Step other) × (t : ℕ) × Moves sys scope s t × Moves sys other s t

shared_move : (sys : System) (scope : Scope) (kind : Kind) (s : ℕ) → WellFormed sys → Speaks sys scope → Fits sys kind → step_for scope kind ≡ true → Shared sys scope kind s
shared_move sys scope Start s wf speaks fits step = absurd (false≢true step)
shared_move sys scope Global s wf speaks fits step = absurd (false≢true step)
shared_move sys All (Step All) s wf speaks fits step = (All, refl, sys.target s 0, inl (0, wf.indexed, refl), inl (0, wf.indexed, refl))
shared_move sys All (Step (Index j)) s wf speaks fits step = (Index j, refl, sys.target s j, inl (j, fits, refl), refl)
shared_move sys (Index i) (Step All) s wf speaks fits step = (All, refl, sys.target s i, refl, inl (i, speaks, refl))
shared_move sys (Index i) (Step (Index j)) s wf speaks fits step = (Index j, refl, sys.target s i, refl, ap (sys.target s) (eqb-true i j step))
shared_move sys scope (Sometime other) s wf speaks fits step = absurd (false≢true step)

-- the line that meets a row
meeting_line : (P : Line → Type 0) (scope : Scope) (n : ℕ) (p : List Literal) (xs : List Line) → lists.AllByRecursion P xs → met scope n p xs ≡ true → (x : Line) × P x × (meets scope n p x ≡ true)
meeting_line P scope n p [] all h = absurd (false≢true h)
meeting_line P scope n p (x ∷ xs) all h = ⊎_elim (λ here. (x, all.0, here)) (meeting_line P scope n p xs all.1) (or_cases (meets scope n p x) (met scope n p xs) h)

-- where not every row has its right true, one does not
failing_row : (A : List Literal → Type 0) (right : List Literal → Bool) (ps : List (List Literal)) → lists.AllByRecursion A ps → (lists.AllByRecursion (λ p. right p ≡ true) ps → ⊥) → (q : List Literal) × A q × (right q ≡ false)
failing_row A right [] all h = absurd (h tt)
failing_row A right (p ∷ ps) all h =
    ⊎_elim
    (λ holds. failing_row A right ps all.1 (λ rest. h (holds, rest)))
    (λ fails. (p, all.0, fails))
    (cases_Bool (right p))

of_loop : (n : ℕ) (o : Option ℕ) → belongs_to n o ≡ true → o ≡ Some n
of_loop n None h = absurd (false≢true h)
of_loop n (Some k) h = ap Some (eqb-true k n h)

module _ (sys : System) (ws : List Wait) (wf : WellFormed sys) (loops : List Loop) (n : ℕ) (z : Loop) (there : loop_at loops n ≡ Some z) (speaks : Speaks sys z.scope) (low : z.goal.0 ≤ 2047) (lines : List Line) (truths : lists.AllByRecursion (λ x. TrueLine sys ws loops x × Fits sys x.kind) lines) (meet : lists.AllByRecursion (λ p. met z.scope n p lines ≡ true) z.rows) where
  -- the system with the waits
  abbrev E : System
  E = extended sys ws

  -- a step of this loop with an empty right: where its left holds, a move leads to where not every row has its right true
  not_all_rows : (kind : Kind) (left right : List Literal) (o : Option ℕ) → step_for z.scope kind ≡ true → Fits sys kind → length right ≡ 0 → o ≡ Some n → TrueOf sys ws loops kind left right o → (s : ℕ) → s < sys.states → left_at E left s ≡ true → (t : ℕ) × Moves sys z.scope s t × (t < sys.states) × (RowsHold sys ws (Some z) t → ⊥)
  not_all_rows kind left right o step fits empty mine h s from holds =
      let shared = shared_move sys z.scope kind s wf speaks fits step in
      let t = shared.2 in
      let to = moves_stay sys z.scope wf speaks s t from shared.3 in
      let none : right ≡ [] = nil_from_length right empty in (
        t,
        shared.3,
        to,
        λ rows.
            let premise : Premise sys ws loops o t = subst (λ p. Premise sys ws loops p t) (sym mine) (subst (λ k. RowsHold sys ws k t) (sym there) rows) in
            let asked = subst (λ k. TrueOf sys ws loops k left right o) shared.1 h s t from to (shared.4, premise, holds) in
            false≢true (ap (λ r. right_at E r t) (sym none) ∙ asked),
      )

  -- where a met row holds, a move leads to where a met row holds and the goal does not
  next_row : (q : List Literal) → met z.scope n q lines ≡ true → (s : ℕ) → s < sys.states → left_at E q s ≡ true → (t : ℕ) × Moves sys z.scope s t × (t < sys.states) × (r : List Literal) × (met z.scope n r lines ≡ true) × (right_at E (row_right z.goal r) t ≡ false)
  next_row q is-met s from holds =
      let line = meeting_line (λ x. TrueLine sys ws loops x × Fits sys x.kind) z.scope n q lines truths is-met in
      let x = line.0 in
      let first = and_parts (belongs_to n x.belongs) _ line.2 in
      let second = and_parts (step_for z.scope x.kind) _ first.1 in
      let third = and_parts (eqb (length (literals x.right)) 0) (ordered.within literal_rank (literals x.left) q) second.1 in
      let found = not_all_rows x.kind (literals x.left) (literals x.right) x.belongs second.0 line.1.1 (eqb-true (length (literals x.right)) 0 third.0) (of_loop n x.belongs first.0) line.1.0 s from (left_within E s (literals x.left) q holds third.1) in
      let row = failing_row (λ p. met z.scope n p lines ≡ true) (λ p. right_at E (row_right z.goal p) found.0) z.rows meet found.3 in
      (found.0, found.1, found.2, row.0, row.1, row.2)

  -- a row whose right fails holds, and the goal does not
  row_fails : (q : List Literal) (s : ℕ) → right_at E (row_right z.goal q) s ≡ false → (left_at E q s ≡ true) × (right_at sys (z.goal ∷ []) s ≡ false)
  row_fails q s h =
      let parts = or_parts (literal_at E s z.goal) (not (left_at E q s)) (sym (right_row E s z.goal q) ∙ h) in
      (not-false (left_at E q s) parts.1, or_from (literal_at sys s z.goal) false (sym (layout_literal sys ws s z.goal low) ∙ parts.0) refl)

  never_within : (k : ℕ) (q : List Literal) → met z.scope n q lines ≡ true → (s : ℕ) → s < sys.states → right_at E (row_right z.goal q) s ≡ false → within sys z.scope (right_at sys (z.goal ∷ [])) k s ≡ true → ⊥
  never_within zero q is-met s from fails h = both_ways (right_at sys (z.goal ∷ []) s) (row_fails q s fails).1 h
  never_within (suc k) q is-met s from fails h =
      let goal = right_at sys (z.goal ∷ []) in
      let here = row_fails q s fails in
      let next = next_row q is-met s from here.0 in
      ⊎_elim
      (both_ways (goal s) here.1)
      (λ every. never_within k next.3 next.4 next.0 next.2 next.5 (every_next_elim sys z.scope (within sys z.scope goal k) s every next.0 next.1))
      (or_cases (goal s) (every_next sys z.scope (within sys z.scope goal k) s) h)

  -- where the goal comes, the right of every row holds
  pub row_right_holds : (q : List Literal) → met z.scope n q lines ≡ true → (s : ℕ) → s < sys.states → comes sys (waited_by z) s ≡ true → right_at E (row_right z.goal q) s ≡ true
  row_right_holds q is-met s from h =
      ⊎_elim (λ holds. holds) (λ fails. absurd (never_within sys.states q is-met s from fails h)) (cases_Bool (right_at E (row_right z.goal q) s))

  -- at once, where the left of a sometime line holds
  pub now_true : (q : List Literal) → met z.scope n q lines ≡ true → (x : Line) → ((s : ℕ) → s < sys.states → left_at E (literals x.left) s ≡ true → comes sys (waited_by z) s ≡ true) → TrueLine sys ws loops (made Global [] (join (opposites (literals x.left)) (row_right z.goal q)) None)
  now_true q is-met x come =
      true_made sys ws loops Global [] (join (opposites (literals x.left)) (row_right z.goal q)) None
      (λ s t from to asks. right_implied E t (literals x.left) (row_right z.goal q) (λ holds. row_right_holds q is-met t to (come t to holds)))

  -- and after every move from where one waits
  pub later_true : (q : List Literal) → met z.scope n q lines ≡ true → (front more : List Wait) → ws ≡ front ++ more → (p : ℕ) → place_of front (waited_by z) ≡ Some p → TrueLine sys ws loops (made (Step z.scope) (wait_literal p ∷ []) (row_right z.goal q) None)
  later_true q is-met front more is p place =
      true_made sys ws loops (Step z.scope) (wait_literal p ∷ []) (row_right z.goal q) None
      (λ s t from to asks. row_right_holds q is-met t to (comes_next sys (waited_by z) s t (wait_says sys ws front more is (waited_by z) p low place s asks.2) asks.0))
