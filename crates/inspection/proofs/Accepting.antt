-- A step is accepted exactly where a rule of the calculus applies within the limits. Assumes nothing.
use Rattle.std.proofs.Common.{◌≡◌, ℕ, ◌≤◌, true, false, cond, not, leb, List, [], ◌∷◌, ◌++◌, length, is_some, Some, None, Ok, Err, Option, Result, sym, refl, ap, ◌∙◌, true≢false, arith, eqb-true, le-leb, leb-true}
use Rattle.std.specs.Option.{option_map}
use Rattle.std.specs.List.{AllByRecursion as All}
use Rattle.std.proofs.lemmas.Bool.{and_from, and_parts, or_from, or_parts, not-false}
use Rattle.std.proofs.lemmas.Option.{none-some}
use Rattle.clauses.specs.declared.kinds.Kind.{Kind}
use Rattle.clauses.specs.declared.kinds.Kind.TheVariants.{Start, Global, Step, Sometime}
use Rattle.clauses.specs.declared.lines.Line.{Line}
use Rattle.clauses.specs.declared.literals.Literal.{Literal}
use Rattle.clauses.specs.declared.refusals.Refusal.{Refusal}
use Rattle.clauses.specs.Calculus.{Clause, Enters, Set, Stays, set_of}
use Rattle.clauses.specs.Kinds.{joint_kind}
use Rattle.clauses.specs.Lines.{clause_of, literals, side_of}
use Rattle.clauses.specs.Literals.{opposite}
use Rattle.clauses.specs.Refusals.{Cause, first_of, number_of}
use Rattle.clauses.specs.Rules.{shaped}
use Rattle.clauses.specs.Sides.{ascends, without}
use Rattle.clauses.specs.Steps.{entered_line, resolved_fits, resolved_left, resolved_line, resolved_right, rewritten_line, stayed_line, wait_literal}
use Rattle.clauses.proofs.Deriving.{Only, entered_follows, entered_only, resolved_follows, resolved_only, rewritten_follows, rewritten_only, same_side, stayed_follows, stayed_only}
use Rattle.clauses.proofs.Joining.{join_ascends, literals_of, without_ascends}
use Rattle.calls.specs.declared.waits.Wait.{Wait}
use Rattle.inspection.specs.Accepted.{ByCalculus, Entering, Fits, Grown, Resolving, Rewriting, Staying, Waiting, waits_by}
use Rattle.calls.specs.Calls.{Call, after, after_by, answer, answer_by, causes, ended, enter, entered_of, full, gives, leaves, line, line_at, refused, resolve, resolve_causes, resolved_of, rewrite, rewrite_causes, stay, stayed_of, wait_causes, with_made}
use Rattle.inspection.specs.Told.{told_line}
use Rattle.calls.specs.Lawful.{lawful, lawful_line}
use Rattle.calls.specs.Models.{Model}
use Rattle.calls.specs.Waits.{and_then, place_of, wait_for, wait_of}
use Rattle.calls.proofs.Keeping.{all_none}
use Rattle.inspection.proofs.Finding.{lawful_there}
use Rattle.inspection.proofs.Given.{held_place}
use Rattle.inspection.proofs.Making.{lawful_proper, lawful_shaped, wait_clause, waits_held}

-- ---- any call that makes a line

module _ (m : Model) (c : Call) (o : Option Line) (Applies : Clause → Type 0) (given : gives m c ≡ line (length m.lines)) (left : leaves m c ≡ with_made m o) (sound : first_of (causes m c) ≡ None → (z : Line) × (o ≡ Some z) × Applies (clause_of z)) (complete : (d : Clause) → Applies d → (first_of (causes m c) ≡ None) × (z : Line) × (o ≡ Some z) × (clause_of z ≡ d)) where
  grown : (n : ℕ) (later : Model) (z : Line) (d : Clause) → line n ≡ answer m c → later ≡ after m c → first_of (causes m c) ≡ None → o ≡ Some z → clause_of z ≡ d → Grown m later n d
  grown n later z d told is none made stands =
      let same : line n ≡ line (length m.lines) = told ∙ (λ i. answer_by (none i) (given i)) in
      record {
        made = z;
        lines = ap (λ k. k.lines) (is ∙ (λ i. after_by (none i) m (left i)) ∙ ap (with_made m) made);
        number = cc;
        stands = stands;
      }

  no_cause : (n : ℕ) (f : Option ℕ) → line n ≡ answer_by f (gives m c) → f ≡ None
  no_cause n None e = refl
  no_cause n (Some k) e = absurd (cc)

  some_cause : (n : ℕ) → refused n ≡ answer m c → first_of (causes m c) ≡ None → ⊥
  some_cause n told none =
      let e : refused n ≡ line (length m.lines) = told ∙ (λ i. answer_by (none i) (given i)) in
      cc

  pub by_calculus : (r : Result ℕ Refusal) (later : Model) → told_line r ≡ answer m c → later ≡ after m c → ByCalculus r m later Applies
  by_calculus (Ok n) later told is =
      let none = no_cause n (first_of (causes m c)) told in
      let made = sound none in
      record {
        sound = (clause_of made.0, made.2, grown n later made.0 (clause_of made.0) told is none made.1 refl);
        complete = λ d applies. let whole = complete d applies in grown n later whole.1 d told is none whole.2 whole.3;
      }
  by_calculus (Err e) later told is = record { sound = tt; complete = λ d applies. some_cause (number_of e) told (complete d applies).0 }

-- where no cause holds there is no first
none_of : (cs : List Cause) → All (λ c. c.1 ≡ false) cs → first_of cs ≡ None
none_of [] h = refl
none_of (c ∷ cs) h = (λ i. cond (h.0 i) (Some c.0) (first_of cs)) ∙ none_of cs h.1

there : {X : Type 0} (o : Option X) → is_some o ≡ true → (x : X) × (o ≡ Some x)
there None h = absurd (true≢false (sym h))
there (Some x) h = (x, refl)

nowhere : {X : Type 0} (o : Option X) → is_some o ≡ false → o ≡ None
nowhere None h = refl
nowhere (Some x) h = absurd (true≢false h)

-- an ascending list of a set that fits
fits_length : (xs : List Literal) (S : Set) → ascends xs ≡ true → set_of xs ≡ S → Fits S → length xs ≤ 16
fits_length xs S up e f = omega (arith, f.2, ap length (same_side xs f.0 up f.1 (e ∙ sym f.3)))

-- the literals of a side made from an ascending list that has place
side_fits : (xs : List Literal) → ascends xs ≡ true → leb (length xs) 16 ≡ true → Fits (set_of (literals (side_of xs)))
side_fits xs up few = (xs, up, leb-true (length xs) 16 few, sym (ap set_of (literals_of xs)))

-- ---- resolving

module _ (m : Model) (ok : lawful m.waits m.lines ≡ true) (a b : ℕ) (l : Literal) where
  module _ (x y : Line) (hx : lawful_line m.waits x ≡ true) (hy : lawful_line m.waits y ≡ true) where
    sides : (ascends (literals y.left) ≡ true) × (ascends (literals y.right) ≡ true)
    sides = and_parts (ascends (literals y.left)) (ascends (literals y.right)) (lawful_proper m.waits y hy)

    left_up : ascends (resolved_left x y) ≡ true
    left_up = join_ascends (literals x.left) (literals y.left) sides.0

    right-up : ascends (resolved_right x y l) ≡ true
    right-up = join_ascends (without l (literals x.right)) (without (opposite l) (literals y.right)) (without_ascends (opposite l) (literals y.right) sides.1)

    sound-there : line_at m.lines a ≡ Some x → line_at m.lines b ≡ Some y → first_of (resolve_causes m.loops (Some x) (Some y) l ++ (18, full m) ∷ []) ≡ None → (z : Line) × (resolved_of (Some x) (Some y) l ≡ Some z) × Resolving m a b l (clause_of z)
    sound-there first second h =
        let none = all_none (resolve_causes m.loops (Some x) (Some y) l ++ (18, full m) ∷ []) h in
        let kind = there (joint_kind x.kind y.kind) (not-false _ none.0) in
        let fits = and_parts (leb (length (resolved_left x y)) 16) (leb (length (resolved_right x y l)) 16) (not-false _ none.1.1.1.0) in (
          resolved_line kind.0 x y l,
          ap (option_map (λ k. resolved_line k x y l)) kind.1,
          record {
            one = x;
            two = y;
            first = first;
            second = second;
            rule = resolved_follows x y l kind.0 (lawful_shaped m.waits x hx) (lawful_shaped m.waits y hy) kind.1 (not-false _ none.1.0);
            live = or_parts (ended m.loops x.belongs) (ended m.loops y.belongs) none.1.1.0;
            short = (side_fits (resolved_left x y) left_up fits.0, side_fits (resolved_right x y l) right-up fits.1);
            room = none.1.1.1.1.0;
          },
        )

    fits-there : (d : Clause) → clause_of (resolved_line d.kind x y l) ≡ d → Fits d.left → Fits d.right → resolved_fits x y l ≡ true
    fits-there d is left right =
        and_from (leb (length (resolved_left x y)) 16) (leb (length (resolved_right x y l)) 16)
        (le-leb (length (resolved_left x y)) 16 (fits_length (resolved_left x y) d.left left_up (ap set_of (sym (literals_of (resolved_left x y))) ∙ ap (λ c. c.left) is) left))
        (le-leb (length (resolved_right x y l)) 16 (fits_length (resolved_right x y l) d.right right-up (ap set_of (sym (literals_of (resolved_right x y l))) ∙ ap (λ c. c.right) is) right))

  sound_by : (o p : Option Line) → line_at m.lines a ≡ o → line_at m.lines b ≡ p → first_of (resolve_causes m.loops o p l ++ (18, full m) ∷ []) ≡ None → (z : Line) × (resolved_of o p l ≡ Some z) × Resolving m a b l (clause_of z)
  sound_by None p e f h = absurd (cc)
  sound_by (Some x) None e f h = absurd (cc)
  sound_by (Some x) (Some y) e f h = sound-there x y (lawful_there m.waits m.lines a x e ok) (lawful_there m.waits m.lines b y f ok) e f h

  complete_by : (d : Clause) → Resolving m a b l d → (first_of (causes m (resolve a b l)) ≡ None) × (z : Line) × (resolved_of (line_at m.lines a) (line_at m.lines b) l ≡ Some z) × (clause_of z ≡ d)
  complete_by d p =
      let x = p.one in
      let y = p.two in
      let rule = resolved_only x y l d p.rule in
      let fits = fits-there x y (lawful_there m.waits m.lines a x p.first ok) (lawful_there m.waits m.lines b y p.second ok) d rule.2 p.short.0 p.short.1 in
      let none = none_of (resolve_causes m.loops (Some x) (Some y) l ++ (18, full m) ∷ []) (ap (λ k. not (is_some k)) rule.0, (ap not rule.1, (or_from (ended m.loops x.belongs) (ended m.loops y.belongs) p.live.0 p.live.1, (ap not fits, (p.room, tt))))) in (
        (λ i. first_of (resolve_causes m.loops (p.first i) (p.second i) l ++ (18, full m) ∷ [])) ∙ none,
        resolved_line d.kind x y l,
        (λ i. resolved_of (p.first i) (p.second i) l) ∙ ap (option_map (λ k. resolved_line k x y l)) rule.0,
        rule.2,
      )

  pub resolve_calculus : (r : Result ℕ Refusal) (later : Model) → told_line r ≡ answer m (resolve a b l) → later ≡ after m (resolve a b l) → ByCalculus r m later (Resolving m a b l)
  resolve_calculus = by_calculus m (resolve a b l) (resolved_of (line_at m.lines a) (line_at m.lines b) l) (Resolving m a b l) refl refl (sound_by (line_at m.lines a) (line_at m.lines b) refl refl) complete_by

-- ---- rewriting

module _ (m : Model) (n : ℕ) where
  rewriting_sound : (o : Option Line) → line_at m.lines n ≡ o → first_of (rewrite_causes o ++ (18, full m) ∷ []) ≡ None → (z : Line) × (option_map rewritten_line o ≡ Some z) × Rewriting m n (clause_of z)
  rewriting_sound None e h = absurd (cc)
  rewriting_sound (Some x) e h =
      let none = all_none (rewrite_causes (Some x) ++ (18, full m) ∷ []) h in
      (rewritten_line x, refl, record { one = x; there = e; rule = rewritten_follows x (not-false _ none.0); free = nowhere x.belongs none.1.0; room = none.1.1.0 })

  rewriting_complete : (d : Clause) → Rewriting m n d → (first_of (causes m (rewrite n)) ≡ None) × (z : Line) × (option_map rewritten_line (line_at m.lines n) ≡ Some z) × (clause_of z ≡ d)
  rewriting_complete d p =
      let x = p.one in
      let rule = rewritten_only x d p.rule in
      let none = none_of (rewrite_causes (Some x) ++ (18, full m) ∷ []) (ap not rule.0, (ap is_some p.free, (p.room, tt))) in
      ((λ i. first_of (rewrite_causes (p.there i) ++ (18, full m) ∷ [])) ∙ none, rewritten_line x, ap (option_map rewritten_line) p.there, rule.1)

  pub rewrite_calculus : (r : Result ℕ Refusal) (later : Model) → told_line r ≡ answer m (rewrite n) → later ≡ after m (rewrite n) → ByCalculus r m later (Rewriting m n)
  rewrite_calculus = by_calculus m (rewrite n) (option_map rewritten_line (line_at m.lines n)) (Rewriting m n) refl refl (rewriting_sound (line_at m.lines n) refl) rewriting_complete

-- ---- entering and staying

-- a line that waits is a sometime line with one goal
waiting_for : (k : Kind) (xs : List Literal) (m : ℕ) (w : Wait) → shaped k m (length xs) ≡ true → wait_for k xs ≡ Some w → (k ≡ Sometime w.scope) × (xs ≡ w.goal ∷ [])
waiting_for Start xs m w h e = absurd (none-some _ e)
waiting_for Global xs m w h e = absurd (none-some _ e)
waiting_for (Step s) xs m w h e = absurd (none-some _ e)
waiting_for (Sometime s) [] m w h e = absurd (none-some _ e)
waiting_for (Sometime s) (g ∷ f ∷ gs) m w h e = let z : length (g ∷ f ∷ gs) ≡ 1 = eqb-true (length (g ∷ f ∷ gs)) 1 h in absurd (omega arith)
waiting_for (Sometime s) (g ∷ []) m w h e = let same : record { scope = s; goal = g } ≡ w = cc in (ap (λ v. Sometime v.scope) same, ap (λ v. v.goal ∷ []) same)

-- what a line waits for, and by which literal
record Waits (ws : List Wait) (x : Line) : Type 0 where
  what : Wait
  literal : Literal
  waits : wait_of x ≡ Some what
  given : Some literal ≡ option_map wait_literal (place_of ws what)
  kind : x.kind ≡ Sometime what.scope
  goal : literals x.right ≡ what.goal ∷ []

waits_there : (ws : List Wait) (x : Line) → lawful_line ws x ≡ true → is_some (wait_of x) ≡ true → Waits ws x
waits_there ws x h some =
    let w = there (wait_of x) some in
    let parts = waiting_for x.kind (literals x.right) (length (literals x.left)) w.0 (lawful_shaped ws x h) w.1 in
    let place = there (place_of ws w.0) (sym (held_place ws w.0) ∙ waits_held ws x w.0 h w.1) in
    record { what = w.0; literal = wait_literal place.0; waits = w.1; given = sym (ap (option_map wait_literal) place.1); kind = parts.0; goal = parts.1 }

-- the literal by which a line waits is that of its wait
waits_by_lem : (ws : List Wait) (x : Line) (w : Wait) → wait_of x ≡ Some w → waits_by ws x ≡ option_map wait_literal (place_of ws w)
waits_by_lem ws x w e = ap (λ o. and_then o (λ u. option_map wait_literal (place_of ws u))) e

-- any call that makes a clause of a line's wait; f is the line made
module _ (m : Model) (n : ℕ) (Rule : Clause → Literal → Literal → Clause → Type 0) (f : Line → Wait → Literal → Line) (makes : Option Line → Option Line) (is : (x : Line) → makes (Some x) ≡ and_then (wait_of x) (λ u. option_map (λ k. f x u (wait_literal k)) (place_of m.waits u))) where
  waiting_sound : lawful m.waits m.lines ≡ true → ((x : Line) (w : Wait) (v : Literal) → x.kind ≡ Sometime w.scope → literals x.right ≡ w.goal ∷ [] → Rule (clause_of x) w.goal v (clause_of (f x w v))) → (o : Option Line) → line_at m.lines n ≡ o → first_of (wait_causes o ++ (18, full m) ∷ []) ≡ None → (z : Line) × (makes o ≡ Some z) × Waiting Rule m n (clause_of z)
  waiting_sound ok follows None e h = absurd (cc)
  waiting_sound ok follows (Some x) e h =
      let none = all_none (wait_causes (Some x) ++ (18, full m) ∷ []) h in
      let p = waits_there m.waits x (lawful_there m.waits m.lines n x e ok) (not-false _ none.0) in
      let w = p.what in (
        f x w p.literal,
        is x ∙ sym (wait_clause m.waits x w p.literal (f x) p.waits p.given),
        record { one = x; goal = w.goal; wait = p.literal; there = e; given = waits_by_lem m.waits x w p.waits ∙ sym p.given; rule = follows x w p.literal p.kind p.goal; room = none.1.0 },
      )

  waiting_complete : ((x : Line) (g v : Literal) (d : Clause) → Rule (clause_of x) g v d → Only x g d (λ s. f x (record { scope = s; goal = g }) v)) → (d : Clause) → Waiting Rule m n d → (first_of (wait_causes (line_at m.lines n) ++ (18, full m) ∷ []) ≡ None) × (z : Line) × (makes (line_at m.lines n) ≡ Some z) × (clause_of z ≡ d)
  waiting_complete only d p =
      let x = p.one in
      let rule = only x p.goal p.wait d p.rule in
      let w : Wait = record { scope = rule.0; goal = p.goal } in
      let waits : wait_of x ≡ Some w = λ i. wait_for (rule.2 i) (rule.3 i) in
      let none = none_of (wait_causes (Some x) ++ (18, full m) ∷ []) (ap (λ o. not (is_some o)) waits, (p.room, tt)) in (
        (λ i. first_of (wait_causes (p.there i) ++ (18, full m) ∷ [])) ∙ none,
        f x w p.wait,
        ap makes p.there ∙ is x ∙ sym (wait_clause m.waits x w p.wait (f x) waits (sym p.given ∙ waits_by_lem m.waits x w waits)),
        rule.4,
      )

module _ (m : Model) (ok : lawful m.waits m.lines ≡ true) (n : ℕ) where
  pub enter_calculus : (r : Result ℕ Refusal) (later : Model) → told_line r ≡ answer m (enter n) → later ≡ after m (enter n) → ByCalculus r m later (Entering m n)
  enter_calculus =
      let f : Line → Wait → Literal → Line = λ x w v. entered_line x w.goal v in
      let makes = entered_of m.waits in
      by_calculus m (enter n) (makes (line_at m.lines n)) (Entering m n) refl refl
      (waiting_sound m n Enters f makes (λ _. refl) ok (λ x w v. entered_follows x w.scope w.goal v) (line_at m.lines n) refl)
      (waiting_complete m n Enters f makes (λ _. refl) entered_only)

  pub stay_calculus : (r : Result ℕ Refusal) (later : Model) → told_line r ≡ answer m (stay n) → later ≡ after m (stay n) → ByCalculus r m later (Staying m n)
  stay_calculus =
      let f : Line → Wait → Literal → Line = λ x w v. stayed_line w.scope w.goal v in
      let makes = stayed_of m.waits in
      by_calculus m (stay n) (makes (line_at m.lines n)) (Staying m n) refl refl
      (waiting_sound m n Stays f makes (λ _. refl) ok (λ x w v. stayed_follows x w.scope w.goal v) (line_at m.lines n) refl)
      (waiting_complete m n Stays f makes (λ _. refl) stayed_only)
