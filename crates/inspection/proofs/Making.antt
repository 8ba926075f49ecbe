-- Lines made by steps are lawful, and have place. Assumes nothing.
use Rattle.std.proofs.Common.{◌≡◌, ℕ, ◌≤◌, Bool, true, false, cond, not, ◌&&◌, eqb, leb, List, [], ◌∷◌, length, is_some, Some, None, Ok, Err, Option, Result, sym, refl, ap, ◌∙◌, subst, true≢false, arith, eqb-true, le-leb, leb-true, MatchResult}
use Rattle.std.specs.Option.{option_map}
use Rattle.std.proofs.lemmas.Bool.{and_parts, and_from, not-false}
use Rattle.std.proofs.lemmas.Option.{none-some, same_Some}
use Rattle.clauses.specs.declared.kinds.Kind.{Kind}
use Rattle.clauses.specs.declared.kinds.Kind.TheVariants.{Start, Global, Step, Sometime}
use Rattle.clauses.specs.declared.kinds.Scope.{Scope}
use Rattle.clauses.specs.declared.lines.Line.{Line}
use Rattle.clauses.specs.declared.literals.Literal.{Literal}
use Rattle.clauses.specs.declared.refusals.Refusal.{Refusal}
use Rattle.clauses.specs.Kinds.{joint_kind, kind_under}
use Rattle.clauses.specs.Lines.{literals, side_of}
use Rattle.clauses.specs.Literals.{opposite}
use Rattle.clauses.specs.Refusals.{first_of, number_of}
use Rattle.clauses.specs.Rules.{most_left, shaped}
use Rattle.clauses.specs.Sides.{ascends, join, opposites, without}
use Rattle.clauses.specs.Steps.{either_loop, entered_line, entered_right, made, proper, resolved_fits, resolved_left, resolved_line, resolved_right, rewritten_line, stayed_line, wait_literal}
use Rattle.clauses.proofs.Joining.{join_ascends, join_length, join_none, literals_of, opposites_ascend, opposites_length, pair_ascends, without_ascends}
use Rattle.calls.specs.declared.waits.Wait.{Wait}
use Rattle.calls.specs.Calls.{entered_of, line_at, resolve_causes, resolved_of, rewrite_causes, stayed_of, wait_causes}
use Rattle.calls.specs.Models.{Model}
use Rattle.inspection.specs.declared.steps.Waiter.{Waiter}
use Rattle.inspection.specs.Held.{MayHave}
use Rattle.inspection.specs.Told.{Makes, WaiterAt}
use Rattle.calls.specs.Lawful.{lawful_line, sized, waited}
use Rattle.calls.specs.Waits.{and_then, held, place_of, wait_for, wait_of}
use Rattle.calls.proofs.Fitting.{joint_under}
use Rattle.calls.proofs.Joints.{Joint, start_start, start_global, global_start, global_global, global_step, step_global, step_step, kinds_join}
use Rattle.calls.proofs.Keeping.{all_none}

-- a kind that waits for nothing
abbrev pub plain : Kind → Bool
plain Start = true
plain Global = true
plain (Step s) = true
plain (Sometime s) = false

plain_waits : (ws : List Wait) (kind : Kind) (right : List Literal) → plain kind ≡ true → waited ws (wait_for kind right) ≡ true
plain_waits ws Start right h = refl
plain_waits ws Global right h = refl
plain_waits ws (Step s) right h = refl
plain_waits ws (Sometime s) right h = absurd (true≢false (sym h))

plain_left : (kind : Kind) → plain kind ≡ true → most_left kind ≡ 16
plain_left Start h = refl
plain_left Global h = refl
plain_left (Step s) h = refl
plain_left (Sometime s) h = absurd (true≢false (sym h))

pub made_lawful : (ws : List Wait) (kind : Kind) (left right : List Literal) (loop : Option ℕ) → plain kind ≡ true → ascends left ≡ true → ascends right ≡ true → leb (length left) 16 ≡ true → shaped kind (length left) (length right) ≡ true → lawful_line ws (made kind left right loop) ≡ true
made_lawful ws kind left right loop bare up upr few shape =
    let x = made kind left right loop in
    let sides = and_from (ascends (literals (side_of left))) (ascends (literals (side_of right))) (ap ascends (literals_of left) ∙ up) (ap ascends (literals_of right) ∙ upr) in
    let short = (λ i. leb (length (literals_of left i)) (plain_left kind bare i)) ∙ few in
    let formed = (λ i. shaped kind (length (literals_of left i)) (length (literals_of right i))) ∙ shape in
    and_from (proper x) (waited ws (wait_of x) && sized x) sides
    (and_from (waited ws (wait_of x)) (sized x) (plain_waits ws kind (literals x.right) bare) (and_from (leb (length (literals x.left)) (most_left kind)) (shaped kind (length (literals x.left)) (length (literals x.right))) short formed))

-- the parts of a lawful line
module _ (ws : List Wait) (x : Line) (h : lawful_line ws x ≡ true) where
  sides : (proper x ≡ true) × ((waited ws (wait_of x) && sized x) ≡ true)
  sides = and_parts (proper x) _ h

  rest : (waited ws (wait_of x) ≡ true) × (sized x ≡ true)
  rest = and_parts (waited ws (wait_of x)) _ sides.1

  counts : (leb (length (literals x.left)) (most_left x.kind) ≡ true) × (shaped x.kind (length (literals x.left)) (length (literals x.right)) ≡ true)
  counts = and_parts (leb (length (literals x.left)) (most_left x.kind)) _ rest.1

  pub lawful_proper : proper x ≡ true
  lawful_proper = sides.0

  pub lawful_waited : waited ws (wait_of x) ≡ true
  lawful_waited = rest.0

  pub lawful_left : leb (length (literals x.left)) (most_left x.kind) ≡ true
  lawful_left = counts.0

  pub lawful_shaped : shaped x.kind (length (literals x.left)) (length (literals x.right)) ≡ true
  lawful_shaped = counts.1

-- ---- resolving

empty_join : (l r : List Literal) → eqb (length l) 0 ≡ true → eqb (length r) 0 ≡ true → eqb (length (join l r)) 0 ≡ true
empty_join l r p q = ap (λ xs. eqb (length xs) 0) (join_none l r (eqb-true (length l) 0 p) (eqb-true (length r) 0 q))

-- a kind to which two lines join waits for nothing, and fits the counts of both sides
joint_shaped : {a b c : Kind} → Joint a b c → (l r : List Literal) (m n k : ℕ) → shaped a (length l) m ≡ true → shaped b (length r) n ≡ true → (plain c ≡ true) × (shaped c (length (join l r)) k ≡ true)
joint_shaped start_start l r m n k p q = (refl, empty_join l r p q)
joint_shaped start_global l r m n k p q = (refl, empty_join l r p q)
joint_shaped global_start l r m n k p q = (refl, empty_join l r p q)
joint_shaped global_global l r m n k p q = (refl, empty_join l r p q)
joint_shaped (global_step u) l r m n k p q = (refl, refl)
joint_shaped (step_global u) l r m n k p q = (refl, refl)
joint_shaped (step_step u) l r m n k p q = (refl, refl)

resolved_lawful : (ws : List Wait) (x y : Line) (l : Literal) (kind : Kind) → plain kind ≡ true → shaped kind (length (resolved_left x y)) (length (resolved_right x y l)) ≡ true → proper y ≡ true → resolved_fits x y l ≡ true → lawful_line ws (resolved_line kind x y l) ≡ true
resolved_lawful ws x y l kind bare shape py fits =
    let up = and_parts (ascends (literals y.left)) _ py in
    made_lawful ws kind (resolved_left x y) (resolved_right x y l) (either_loop x.belongs y.belongs) bare
    (join_ascends (literals x.left) (literals y.left) up.0)
    (join_ascends (without l (literals x.right)) (without (opposite l) (literals y.right)) (without_ascends (opposite l) (literals y.right) up.1))
    (and_parts (leb (length (resolved_left x y)) 16) _ fits).0
    shape

by_kind : (m : Model) (x y z : Line) (l : Literal) → MayHave m x → MayHave m y → resolved_fits x y l ≡ true → (o : Option Kind) → joint_kind x.kind y.kind ≡ o → Some z ≡ option_map (λ kind. resolved_line kind x y l) o → MayHave m z
by_kind m x y z l hx hy fits None is e = absurd (none-some _ (sym e))
by_kind m x y z l hx hy fits (Some kind) is e =
    let joint = kinds_join x.kind y.kind kind is in
    let shape = joint_shaped joint (literals x.left) (literals y.left) _ _ (length (resolved_right x y l)) (lawful_shaped m.waits x hx.lawful) (lawful_shaped m.waits y hy.lawful) in
    subst (MayHave m) (sym (same_Some _ _ e)) (record {
      lawful = resolved_lawful m.waits x y l kind shape.0 shape.1 (lawful_proper m.waits y hy.lawful) fits;
      indexed = joint_under m.indices joint hx.indexed hy.indexed;
    })

-- what `resolvent` answers on two lines that a model may have
pub resolvent_makes : (m : Model) (x y : Line) (l : Literal) (r : Result Line Refusal) → MayHave m x → MayHave m y → MatchResult r (λ z. (first_of (resolve_causes [] (Some x) (Some y) l) ≡ None) × (Some z ≡ resolved_of (Some x) (Some y) l)) (λ e. first_of (resolve_causes [] (Some x) (Some y) l) ≡ Some (number_of e)) → Makes r m (resolve_causes [] (Some x) (Some y) l) (resolved_of (Some x) (Some y) l)
resolvent_makes m x y l (Ok z) hx hy h =
    let none = all_none (resolve_causes [] (Some x) (Some y) l) h.0 in
    let fits = not-false (resolved_fits x y l) none.1.1.1.0 in
    (h.0, (h.1, by_kind m x y z l hx hy fits (joint_kind x.kind y.kind) refl h.1))
resolvent_makes m x y l (Err e) hx hy h = h

-- ---- rewriting, entering, staying

pub rewritten_lawful : (ws : List Wait) (x : Line) → lawful_line ws (rewritten_line x) ≡ true
rewritten_lawful ws x = made_lawful ws Global [] (opposites (literals x.left)) None refl refl (opposites_ascend (literals x.left)) refl refl

pub entered_lawful : (ws : List Wait) (x : Line) (g w : Literal) → lawful_line ws (entered_line x g w) ≡ true
entered_lawful ws x g w = made_lawful ws Global [] (entered_right x g w) None refl refl (join_ascends (opposites (literals x.left)) (join (g ∷ []) (w ∷ [])) (pair_ascends g w)) refl refl

pub stayed_lawful : (ws : List Wait) (s : Scope) (g w : Literal) → lawful_line ws (stayed_line s g w) ≡ true
stayed_lawful ws s g w = made_lawful ws (Step s) (w ∷ []) (join (g ∷ []) (w ∷ [])) None refl refl (pair_ascends g w) refl refl

-- a line that waits is a sometime line of the wait's scope
pub sometime_of : (kind : Kind) (right : List Literal) (w : Wait) → wait_for kind right ≡ Some w → kind ≡ Sometime w.scope
sometime_of Start right w e = absurd (none-some _ e)
sometime_of Global right w e = absurd (none-some _ e)
sometime_of (Step s) right w e = absurd (none-some _ e)
sometime_of (Sometime s) [] w e = absurd (none-some _ e)
sometime_of (Sometime s) (g ∷ gs) w e = let same : s ≡ w.scope = cc in ap Sometime same

pub entered_fits : (ws : List Wait) (x : Line) (w : Wait) (g v : Literal) → lawful_line ws x ≡ true → wait_of x ≡ Some w → leb (length (entered_right x g v)) 16 ≡ true
entered_fits ws x w g v h waits =
    let few : length (literals x.left) ≤ 14 = leb-true (length (literals x.left)) 14 (ap (leb (length (literals x.left))) (sym (ap most_left (sometime_of x.kind (literals x.right) w waits))) ∙ lawful_left ws x h) in
    le-leb (length (entered_right x g v)) 16 (omega (arith, join_length (opposites (literals x.left)) (join (g ∷ []) (v ∷ [])), join_length (g ∷ []) (v ∷ []), opposites_length (literals x.left)))

pub waits_held : (ws : List Wait) (x : Line) (w : Wait) → lawful_line ws x ≡ true → wait_of x ≡ Some w → held ws w ≡ true
waits_held ws x w h waits = sym (ap (waited ws) waits) ∙ lawful_waited ws x h

mapped_twice : (f : Literal → Line) (o : Option ℕ) → option_map (λ n. f (wait_literal n)) o ≡ option_map f (option_map wait_literal o)
mapped_twice f None = refl
mapped_twice f (Some n) = refl

-- a line that waits has a clause of its wait, made with the wait's literal
pub wait_clause : (ws : List Wait) (x : Line) (w : Wait) (v : Literal) (f : Wait → Literal → Line) → wait_of x ≡ Some w → Some v ≡ option_map wait_literal (place_of ws w) → Some (f w v) ≡ and_then (wait_of x) (λ u. option_map (λ n. f u (wait_literal n)) (place_of ws u))
wait_clause ws x w v f waits given =
    ap (option_map (f w)) given ∙ sym (mapped_twice (f w) (place_of ws w)) ∙ sym (ap (λ o. and_then o (λ u. option_map (λ n. f u (wait_literal n)) (place_of ws u))) waits)

sometime_passes : (x : Line) (w : Wait) → wait_of x ≡ Some w → first_of (wait_causes (Some x)) ≡ None
sometime_passes x w waits = ap (λ o. first_of ((13, not (is_some o)) ∷ [])) waits

module _ (m : Model) (n : ℕ) (w : Waiter) (h : WaiterAt m n w) where
  pub entered_some : cond (leb (length (entered_right w.line.now w.wait.goal w.literal)) 16) (Some (entered_line w.line.now w.wait.goal w.literal)) None ≡ Some (entered_line w.line.now w.wait.goal w.literal)
  entered_some = ap (λ b. cond b (Some (entered_line w.line.now w.wait.goal w.literal)) None) (entered_fits m.waits w.line.now w.wait w.wait.goal w.literal h.allowed.lawful h.waits)

  -- f makes a clause of a wait and its literal
  makes : (f : Wait → Literal → Line) (y : Line) → Some y ≡ Some (f w.wait w.literal) → MayHave m (f w.wait w.literal) → Makes (Ok y) m (wait_causes (Some w.line.now)) (and_then (wait_of w.line.now) (λ u. option_map (λ k. f u (wait_literal k)) (place_of m.waits u)))
  makes f y e allowed =
      let same : y ≡ f w.wait w.literal = cc in
      (sometime_passes w.line.now w.wait h.waits, (e ∙ wait_clause m.waits w.line.now w.wait w.literal f h.waits h.given, subst (MayHave m) (sym same) allowed))

  pub entered_makes : (y : Line) → Some y ≡ Some (entered_line w.line.now w.wait.goal w.literal) → Makes (Ok y) m (wait_causes (line_at m.lines n)) (entered_of m.waits (line_at m.lines n))
  entered_makes y e = rw h.there (makes (λ u v. entered_line w.line.now u.goal v) y e (record { lawful = entered_lawful m.waits w.line.now w.wait.goal w.literal; indexed = refl }))

  pub stayed_makes : (y : Line) → Some y ≡ Some (stayed_line w.wait.scope w.wait.goal w.literal) → Makes (Ok y) m (wait_causes (line_at m.lines n)) (stayed_of m.waits (line_at m.lines n))
  stayed_makes y e =
      let kind = sometime_of w.line.now.kind (literals w.line.now.right) w.wait h.waits in
      rw h.there (makes (λ u v. stayed_line u.scope u.goal v) y e (record { lawful = stayed_lawful m.waits w.wait.scope w.wait.goal w.literal; indexed = sym (ap (kind_under m.indices) kind) ∙ h.allowed.indexed }))

-- what `rewritten` answers on a line
pub rewritten_makes : (m : Model) (x : Line) (r : Result Line Refusal) → MatchResult r (λ y. (first_of (rewrite_causes (Some x)) ≡ None) × (y ≡ rewritten_line x)) (λ e. first_of (rewrite_causes (Some x)) ≡ Some (number_of e)) → Makes r m (rewrite_causes (Some x)) (option_map rewritten_line (Some x))
rewritten_makes m x (Ok y) h = (h.0, (ap Some h.1, record { lawful = ap (lawful_line m.waits) h.1 ∙ rewritten_lawful m.waits x; indexed = ap (λ (z : Line). kind_under m.indices z.kind) h.1 }))
rewritten_makes m x (Err e) h = h
