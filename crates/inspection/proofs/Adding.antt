-- What a call answers and leaves, by what stands against it. Assumes nothing.
use Rattle.std.proofs.Common.{◌≡◌, ℕ, ◌≤◌, Bool, cond, ◌||◌, List, [], ◌∷◌, ◌++◌, length, Some, None, Ok, Option, Result, sym, refl, ap, ◌∙◌, arith}
use Rattle.std.proofs.lemmas.Result.{err_from_is_err_and}
use Rattle.std.specs.Result.{IsErrAnd}
use Rattle.std.proofs.lemmas.List.{length_push}
use Rattle.std.specs.Option.{option_map}
use Rattle.clauses.specs.Steps.{rewritten_line}
use Rattle.clauses.specs.declared.lines.Line.{Line}
use Rattle.clauses.specs.declared.literals.Literal.{Literal}
use Rattle.clauses.specs.declared.refusals.Refusal.{Refusal}
use Rattle.clauses.specs.Refusals.{Cause, first_of, number_of}
use Rattle.clauses.specs.Rules.{rule_causes, rule_line}
use Rattle.clauses.proofs.First.{first_before, first_last}
use Rattle.calls.specs.Calls.{Answer, Call, rule, resolve, rewrite, enter, stay, verdict, judge, loop, row, ready, end, drop, now, later, line, line_at, with_made, resolved_of, entered_of, stayed_of, refused, with_line, with_opened, with_row, waits_for, now_of, later_of, answer, after, answer_by, after_by, gives, leaves, causes, full, line_waitless}
use Rattle.calls.specs.declared.waits.Wait.{Wait}
use Rattle.calls.specs.Loops.{closed_row, loop_at, supposed}
use Rattle.calls.specs.Models.{Loop, Model, overlay}
use Rattle.inspection.specs.declared.state.Inspection.{Inspection}
use Rattle.inspection.specs.Held.{model_of}
use Rattle.inspection.specs.Told.{Does, Makes, Stores, told_line}
use Rattle.inspection.proofs.Overlays.{overlay_same}

-- a call's answer and what it leaves, where the first cause is known
pub refused_by : (m : Model) (c : Call) (n : ℕ) → first_of (causes m c) ≡ Some n → (answer m c ≡ refused n) × (after m c ≡ m)
refused_by m c n e = (ap (λ o. answer_by o (gives m c)) e, ap (λ o. after_by o m (leaves m c)) e)

pub accepted_by : (m : Model) (c : Call) → first_of (causes m c) ≡ None → (answer m c ≡ gives m c) × (after m c ≡ leaves m c)
accepted_by m c e = (ap (λ o. answer_by o (gives m c)) e, ap (λ o. after_by o m (leaves m c)) e)

-- a `?` passes a refusal on
passed_on : (r : Result ℕ Refusal) (e : Refusal) → IsErrAnd r (λ y. y ≡ e) → told_line r ≡ refused (number_of e)
passed_on r e h = let p = err_from_is_err_and r h in ap told_line p.1 ∙ ap (λ y. refused (number_of y)) p.2

-- a call that is refused leaves what was
pub not_done : (s s' : Inspection) (c : Call) (r : Result ℕ Refusal) (e : Refusal) → IsErrAnd r (λ y. y ≡ e) → first_of (causes (model_of s) c) ≡ Some (number_of e) → model_of s' ≡ model_of s → s'.lines ≡ s.lines → Does (told_line r) c s s'
not_done s s' c r e h cause same lines =
    let out = refused_by (model_of s) c (number_of e) cause in
    record {
      answer = passed_on r e h ∙ sym out.0;
      after = same ∙ sym out.1;
      table = ap (λ l. l.now) lines ∙ sym (overlay_same s.lines.now s.made) ∙ sym (ap (λ m. overlay m.lines s.lines.now) same);
      lent = ap (λ l. l.ghost_name) lines;
    }

-- what stands against a rule, where it is well formed: its last cause
module _ (m : Model) (n i : ℕ) (l r : List Literal) where
  pub ill_formed : (e : ℕ) → first_of (rule_causes m.indices n i l r) ≡ Some e → first_of (causes m (rule n i l r)) ≡ Some e
  ill_formed e h = first_before (rule_causes m.indices n i l r) (18, full m || line_waitless m.waits (rule_line m.indices n i l r)) e h

  pub last : (x : Line) (room waitless : Bool) → first_of (rule_causes m.indices n i l r) ≡ None → Some x ≡ rule_line m.indices n i l r → full m ≡ room → line_waitless m.waits (Some x) ≡ waitless → first_of (causes m (rule n i l r)) ≡ cond (room || waitless) (Some 18) None
  last x room waitless h is f w = first_last (rule_causes m.indices n i l r) (18, full m || line_waitless m.waits (rule_line m.indices n i l r)) h ∙ (λ j. cond (f j || (ap (line_waitless m.waits) (sym is) ∙ w) j) (Some 18) None)

-- calls that make one line: their own causes come first, and 18 last
module _ (s : Inspection) (c : Call) (cs : List Cause) (is : causes (model_of s) c ≡ cs ++ (18, full (model_of s)) ∷ []) where
  pub not_made : (r : Result ℕ Refusal) (e : Refusal) → IsErrAnd r (λ y. y ≡ e) → first_of cs ≡ Some (number_of e) → Does (told_line r) c s s
  not_made r e h cause = not_done s s c r e h (ap first_of is ∙ first_before cs (18, full (model_of s)) (number_of e) cause) refl refl

  pub made : (o : Option Line) (s' : Inspection) (said : Answer) (x : Line) → gives (model_of s) c ≡ line (length (model_of s).lines) → leaves (model_of s) c ≡ with_made (model_of s) o → Makes (Ok x) (model_of s) cs o → Stores said s s' x → Does said c s s'
  made o s' said x given left h stored =
      let m = model_of s in
      let causeless = ap first_of is ∙ first_last cs (18, full m) h.0 in
      record {
        answer = stored.answer ∙ sym (λ j. answer_by (causeless j) (given j));
        after = stored.after ∙ ap (λ w. after_by (first_of ((18, full m) ∷ [])) m (with_made m w)) h.1.0 ∙ sym (λ j. after_by (causeless j) m (left j));
        table = stored.table;
        lent = stored.lent;
      }

-- no call takes a line away
pub after_grows : (m : Model) (c : Call) → length m.lines ≤ length (after m c).lines
after_grows m c = by-cause (first_of (causes m c))
  where
    by-line : (o : Option Line) → length m.lines ≤ length (with_line m o).lines
    by-line None = omega arith
    by-line (Some x) = omega (arith, length_push m.lines x)

    by-made : (o : Option Line) → length m.lines ≤ length (with_made m o).lines
    by-made None = omega arith
    by-made (Some x) = omega (arith, length_push m.lines x)

    by-opened : (o : Option Wait) → length m.lines ≤ length (with_opened m o).lines
    by-opened None = omega arith
    by-opened (Some w) = omega arith

    by_row : (n : ℕ) (p : List Literal) (o : Option Loop) → length m.lines ≤ length (with_row m n p o).lines
    by_row n p None = omega arith
    by_row n p (Some x) = omega (arith, length_push m.lines (supposed n x.goal p))

    longer : (d : Call) → length m.lines ≤ length (leaves m d).lines
    longer (rule n i l r) = by-line (rule_line m.indices n i l r)
    longer (resolve a b l) = by-made (resolved_of (line_at m.lines a) (line_at m.lines b) l)
    longer (rewrite n) = by-made (option_map rewritten_line (line_at m.lines n))
    longer (enter n) = by-made (entered_of m.waits (line_at m.lines n))
    longer (stay n) = by-made (stayed_of m.waits (line_at m.lines n))
    longer verdict = omega arith
    longer (judge sys bytes) = omega arith
    longer (loop n) = by-opened (waits_for (line_at m.lines n))
    longer (row n p) = by_row n p (loop_at m.loops n)
    longer (ready n) = omega arith
    longer (end n) = omega arith
    longer (drop n) = omega arith
    longer (now n r i) = by-made (now_of (closed_row m.loops n r) (line_at m.lines i))
    longer (later n r) = by-made (later_of m.waits (closed_row m.loops n r))

    by-cause : (o : Option ℕ) → length m.lines ≤ length (after_by o m (leaves m c)).lines
    by-cause None = longer c
    by-cause (Some n) = omega arith
