-- What holds of a system that keeps the rules, and of the lines and loops made: every line is true, what a sometime line waits for comes,
-- one loop at most is open, and every row of a closed loop is met. Every call keeps it so. Assumes nothing.
use Rattle.std.proofs.Common.{◌≡◌, ℕ, zero, suc, ◌+◌, ◌≤◌, Bool, true, false, cond, ◌⊎◌, List, [], ◌∷◌, ◌++◌, length, Some, None, Option, sym, refl, ap, ◌∙◌, subst, inl, inr, ⊎_elim}
use Rattle.std.specs.List.{AllByRecursion as All}
use Rattle.std.proofs.ByRecursion.{All-push, All-weaker}
use Rattle.std.proofs.lemmas.Bool.{both_ways, false≢true, true≢false, or_cases, or_left, or_parts, or_right}
use Rattle.std.proofs.lemmas.Option.{none-some, same_Some}
use Rattle.clauses.specs.declared.kinds.Kind.{Kind}
use Rattle.clauses.specs.declared.kinds.Kind.TheVariants.{Start, Global, Step, Sometime}
use Rattle.clauses.specs.declared.kinds.Scope.{Scope}
use Rattle.clauses.specs.declared.kinds.Scope.TheVariants as scope
use Rattle.clauses.specs.declared.lines.Line.{Line}
use Rattle.clauses.specs.declared.literals.Literal.{Literal}
use Rattle.clauses.specs.Kinds.{kind_under, scope_under}
use Rattle.clauses.specs.Lines.{literals}
use Rattle.clauses.specs.Rules.{marked}
use Rattle.clauses.specs.Sides.{join, opposites}
use Rattle.clauses.specs.Steps.{either_loop, made, wait_literal}
use Rattle.truth.specs.Systems.{System, WellFormed, Speaks}
use Rattle.truth.specs.Truth.{Keeps}
use Rattle.truth.specs.Decided.{Fits}
use Rattle.calls.specs.declared.waits.Wait.{Wait}
use Rattle.calls.specs.Calls.{ended, is_over, line_at, over_at, unmet_row}
use Rattle.calls.specs.Loops.{Row, add_row, at_loop, first_unmet, is_closed, is_open, loop_at, meets, met, open_here, opening, row_right, some_open, standing_as, supposed, unmet_from, waited_by}
use Rattle.calls.specs.Models.{Loop, Model, Standing, opened, closed, dropped}
use Rattle.calls.specs.Waits.{and_then, place_of}
use Rattle.calls.proofs.Concluding.{entered_true, resolved_true, rewritten_true, stayed_true}
use Rattle.calls.proofs.Endless.{later_true, now_true}
use Rattle.calls.proofs.Fitting.{Fit, all_at_loop, all_front, kind_fits, all_got, scope_speaks}
use Rattle.calls.proofs.Joints.{Joint, start_start, start_global, global_start, global_global, global_step, step_global, step_step}
use Rattle.calls.proofs.Stepping.{ClosedAt, Makes, resolved, rewritten, entered, stayed, met_now, met_later, Steps, nothing, rules, makes, opens, supposes, closes, drops}
use Rattle.calls.proofs.Supposing.{ComesLine, ComesOf, Premise, RowsHold, TrueLine, kept-comes, kept-true, premise_changed, premise_opened, true_made, true_weaker}

-- the goal of a loop is a layout literal
abbrev pub LowGoal : Loop → Type 0
LowGoal z = z.goal.0 ≤ 2047

pub record Inv (sys : System) (ws : List Wait) (lines : List Line) (loops : List Loop) : Type 0 where
  pub truths : All (TrueLine sys ws loops) lines
  pub comings : All (ComesLine sys ws) lines
  pub goals : All LowGoal loops
  pub one_open : (a b : ℕ) → open_here loops a ≡ true → open_here loops b ≡ true → a ≡ b
  pub rows_met : (n : ℕ) (z : Loop) → loop_at loops n ≡ Some z → is_closed z.standing ≡ true → All (λ p. met z.scope n p lines ≡ true) z.rows

-- ---- lists

all_last : {X : Type 0} (P : X → Type 0) (xs : List X) (x : X) → All P (xs ++ x ∷ []) → P x
all_last P [] x all = all.0
all_last P (y ∷ ys) x all = all_last P ys x all.1

all_both : {X : Type 0} (P Q : X → Type 0) (xs : List X) → All P xs → All Q xs → All (λ x. P x × Q x) xs
all_both P Q [] all more = tt
all_both P Q (x ∷ xs) all more = ((all.0, more.0), all_both P Q xs all.1 more.1)

-- ---- loops by number

changed_cases : (n : ℕ) (f : Loop → Loop) (loops : List Loop) (k : ℕ) (y : Loop) → loop_at (at_loop n f loops) k ≡ Some y → (loop_at loops k ≡ Some y) ⊎ ((k ≡ n) × (x : Loop) × (loop_at loops k ≡ Some x) × (f x ≡ y))
changed_cases n f [] k y h = inl h
changed_cases zero f (x ∷ xs) zero y h = inr (refl, x, refl, same_Some _ _ h)
changed_cases zero f (x ∷ xs) (suc k) y h = inl h
changed_cases (suc n) f (x ∷ xs) zero y h = inl h
changed_cases (suc n) f (x ∷ xs) (suc k) y h = ⊎_elim inl (λ r. inr (ap suc r.0, r.1, r.2, r.3)) (changed_cases n f xs k y h)

changed_here : (n : ℕ) (f : Loop → Loop) (loops : List Loop) (z : Loop) → loop_at loops n ≡ Some z → loop_at (at_loop n f loops) n ≡ Some (f z)
changed_here n f [] z h = absurd (none-some _ h)
changed_here zero f (x ∷ xs) z h = ap (λ y. Some (f y)) (same_Some _ _ h)
changed_here (suc n) f (x ∷ xs) z h = changed_here n f xs z h

-- a change opens no loop
open_before : (f : Loop → Loop) → ((x : Loop) → is_open (f x).standing ≡ true → is_open x.standing ≡ true) → (n : ℕ) (loops : List Loop) (k : ℕ) → open_here (at_loop n f loops) k ≡ true → open_here loops k ≡ true
open_before f keep n [] k h = h
open_before f keep zero (x ∷ xs) zero h = keep x h
open_before f keep zero (x ∷ xs) (suc k) h = h
open_before f keep (suc n) (x ∷ xs) zero h = h
open_before f keep (suc n) (x ∷ xs) (suc k) h = open_before f keep n xs k h

open_standing : (loops : List Loop) (n : ℕ) (x : Loop) → open_here loops n ≡ true → loop_at loops n ≡ Some x → is_open x.standing ≡ true
open_standing [] n x h at = absurd (false≢true h)
open_standing (y ∷ ys) zero x h at = ap (λ (z : Loop). is_open z.standing) (sym (same_Some _ _ at)) ∙ h
open_standing (y ∷ ys) (suc n) x h at = open_standing ys n x h at

not_open_closed : (s : Standing) → is_open s ≡ true → is_closed s ≡ true → ⊥
not_open_closed opened h k = false≢true k
not_open_closed closed h k = false≢true h
not_open_closed dropped h k = false≢true h

-- a loop that is not over is open
over_open : (loops : List Loop) (n : ℕ) → over_at loops n ≡ false → open_here loops n ≡ true
over_open [] n h = absurd (true≢false h)
over_open (x ∷ xs) zero h = by-standing x.standing h
  where
    by-standing : (s : Standing) → is_over s ≡ false → is_open s ≡ true
    by-standing opened k = refl
    by-standing closed k = absurd (true≢false k)
    by-standing dropped k = absurd (true≢false k)
over_open (x ∷ xs) (suc n) h = over_open xs n h

-- after none that is open, only the last one can be
open_last : (loops : List Loop) (z : Loop) (n : ℕ) → some_open loops ≡ false → open_here (loops ++ z ∷ []) n ≡ true → n ≡ length loops
open_last [] z zero shut h = refl
open_last [] z (suc n) shut h = absurd (false≢true h)
open_last (x ∷ xs) z zero shut h = absurd (both_ways (is_open x.standing) (or_parts (is_open x.standing) (some_open xs) shut).0 h)
open_last (x ∷ xs) z (suc n) shut h = ap suc (open_last xs z n (or_parts (is_open x.standing) (some_open xs) shut).1 h)

pushed_cases : (loops : List Loop) (z : Loop) (k : ℕ) (y : Loop) → loop_at (loops ++ z ∷ []) k ≡ Some y → (loop_at loops k ≡ Some y) ⊎ (z ≡ y)
pushed_cases [] z zero y h = inr (same_Some _ _ h)
pushed_cases [] z (suc k) y h = inl h
pushed_cases (x ∷ xs) z zero y h = inl h
pushed_cases (x ∷ xs) z (suc k) y h = pushed_cases xs z k y h

-- ---- rows that are met

met_more : (s : Scope) (n : ℕ) (p : List Literal) (xs : List Line) (x : Line) → met s n p xs ≡ true → met s n p (xs ++ x ∷ []) ≡ true
met_more s n p [] x h = absurd (false≢true h)
met_more s n p (y ∷ ys) x h =
    ⊎_elim
    (or_left (meets s n p y) (met s n p (ys ++ x ∷ [])))
    (λ later. or_right (meets s n p y) (met s n p (ys ++ x ∷ [])) (met_more s n p ys x later))
    (or_cases (meets s n p y) (met s n p ys) h)

none_unmet : (i : ℕ) (s : Scope) (n : ℕ) (lines : List Line) (ps : List (List Literal)) → unmet_from i s n lines ps ≡ None → All (λ p. met s n p lines ≡ true) ps
none_unmet i s n lines [] h = tt
none_unmet i s n lines (p ∷ ps) h = by-test (met s n p lines) refl h (none_unmet (i + 1) s n lines ps)
  where
    by-test : (b : Bool) → met s n p lines ≡ b → cond b (unmet_from (i + 1) s n lines ps) (Some i) ≡ None → (unmet_from (i + 1) s n lines ps ≡ None → All (λ q. met s n q lines ≡ true) ps) → All (λ q. met s n q lines ≡ true) (p ∷ ps)
    by-test true is e rest = (is, rest e)
    by-test false is e rest = absurd (none-some _ (sym e))

all_rows_met : (m : Model) (n : ℕ) (z : Loop) → unmet_row m n ≡ None → loop_at m.loops n ≡ Some z → All (λ p. met z.scope n p m.lines ≡ true) z.rows
all_rows_met m n z h at =
    none_unmet 0 z.scope n m.lines z.rows (sym (ap (λ o. and_then o (first_unmet m.lines n)) at) ∙ h)

-- ---- each change

module _ (sys : System) (ws : List Wait) (lines : List Line) (loops : List Loop) (inv : Inv sys ws lines loops) where
  -- one true line more
  inv_line : (x : Line) → TrueLine sys ws loops x → ComesLine sys ws x → Inv sys ws (lines ++ x ∷ []) loops
  inv_line x holds come = record {
    truths = All-push (TrueLine sys ws loops) lines x inv.truths holds;
    comings = All-push (ComesLine sys ws) lines x inv.comings come;
    goals = inv.goals;
    one_open = inv.one_open;
    rows_met = λ n z at over. All-weaker (λ p. met z.scope n p lines ≡ true) (λ p. met z.scope n p (lines ++ x ∷ []) ≡ true) (λ p. met_more z.scope n p lines x) z.rows (inv.rows_met n z at over);
  }

  -- one loop more
  inv_opened : (w : Wait) → w.goal.0 ≤ 2047 → some_open loops ≡ false → Inv sys ws lines (loops ++ opening w ∷ [])
  inv_opened w low shut = record {
    truths = All-weaker (TrueLine sys ws loops) (TrueLine sys ws (loops ++ opening w ∷ [])) (true_weaker sys ws loops (loops ++ opening w ∷ []) (premise_opened sys ws loops (opening w))) lines inv.truths;
    comings = inv.comings;
    goals = All-push LowGoal loops (opening w) inv.goals low;
    one_open = λ a b p q. open_last loops (opening w) a shut p ∙ sym (open_last loops (opening w) b shut q);
    rows_met = λ n z at over.
        ⊎_elim
        (λ old. inv.rows_met n z old over)
        (λ new. absurd (false≢true (ap (λ (y : Loop). is_closed y.standing) new ∙ over)))
        (pushed_cases loops (opening w) n z at);
  }

  -- one loop changed: no row is gone, none is opened, and a closed one has its rows met
  inv_changed : (n : ℕ) (f : Loop → Loop) → ((x : Loop) (t : ℕ) → RowsHold sys ws (Some (f x)) t → RowsHold sys ws (Some x) t) → ((x : Loop) → LowGoal x → LowGoal (f x)) → ((x : Loop) → is_open (f x).standing ≡ true → is_open x.standing ≡ true) → ((x : Loop) → loop_at loops n ≡ Some x → is_closed (f x).standing ≡ true → All (λ p. met (f x).scope n p lines ≡ true) (f x).rows) → Inv sys ws lines (at_loop n f loops)
  inv_changed n f weaker low going meet = record {
    truths = All-weaker (TrueLine sys ws loops) (TrueLine sys ws (at_loop n f loops)) (true_weaker sys ws loops (at_loop n f loops) (premise_changed sys ws f weaker n loops)) lines inv.truths;
    comings = inv.comings;
    goals = all_at_loop LowGoal n f low loops inv.goals;
    one_open = λ a b p q. inv.one_open a b (open_before f going n loops a p) (open_before f going n loops b q);
    rows_met = λ k z at over.
        ⊎_elim
        (λ old. inv.rows_met k z old over)
        (λ r.
        let there = subst (λ j. loop_at loops j ≡ Some r.1) r.0 r.2 in
        subst (λ j. All (λ p. met z.scope j p lines ≡ true) z.rows) (sym r.0)
        (subst (λ (y : Loop). All (λ p. met y.scope n p lines ≡ true) y.rows) r.3
        (meet r.1 there (ap (λ (y : Loop). is_closed y.standing) r.3 ∙ over))))
        (changed_cases n f loops k z at);
  }

  -- one row more
  inv_row : (n : ℕ) (p : List Literal) → open_here loops n ≡ true → Inv sys ws lines (at_loop n (add_row p) loops)
  inv_row n p going =
      inv_changed n (add_row p) (λ x t h. all_front _ x.rows (p ∷ []) h) (λ x h. h) (λ x h. h)
      (λ x there over. absurd (not_open_closed x.standing (open_standing loops n x going there) over))

  -- what is supposed of it is among the premises
  supposed_true : (n : ℕ) (p : List Literal) (z : Loop) → loop_at loops n ≡ Some z → TrueLine sys ws (at_loop n (add_row p) loops) (supposed n z.goal p)
  supposed_true n p z at =
      true_made sys ws (at_loop n (add_row p) loops) (Step scope.All) [] (row_right z.goal p) (Some n)
      (λ s t from to asks. all_last _ z.rows p (subst (λ o. RowsHold sys ws o t) (changed_here n (add_row p) loops z at) asks.1))

  -- the loop of two lines of which neither has ended
  either_premise : (o p : Option ℕ) → ended loops o ≡ false → ended loops p ≡ false → (t : ℕ) → Premise sys ws loops (either_loop o p) t → Premise sys ws loops o t × Premise sys ws loops p t
  either_premise None p h k t both = (tt, both)
  either_premise (Some n) None h k t both = (both, tt)
  either_premise (Some n) (Some j) h k t both =
      let same = inv.one_open n j (over_open loops n h) (over_open loops j k) in
      (both, subst (λ i. Premise sys ws loops (Some i) t) same both)

-- ---- lines that wait for nothing

abbrev Plain : Kind → Type 0
Plain Start = Unit {0}
Plain Global = Unit {0}
Plain (Step s) = Unit {0}
Plain (Sometime s) = ⊥

joint_plain : {a b c : Kind} → Joint a b c → Plain c
joint_plain start_start = tt
joint_plain start_global = tt
joint_plain global_start = tt
joint_plain global_global = tt
joint_plain (global_step u) = tt
joint_plain (step_global r) = tt
joint_plain (step_step joint) = tt

plain_comes : (sys : System) (ws : List Wait) (kind : Kind) (left right : List Literal) → Plain kind → ComesOf sys ws kind left right
plain_comes sys ws Start left right plain w is = absurd (none-some _ is)
plain_comes sys ws Global left right plain w is = absurd (none-some _ is)
plain_comes sys ws (Step s) left right plain w is = absurd (none-some _ is)
plain_comes sys ws (Sometime s) left right plain w is = absurd plain

made_plain : (m : Model) {x : Line} → Makes m x → Plain x.kind
made_plain m (resolved a b x y l kind at_a at_b is p q) = joint_plain is
made_plain m (rewritten n x at p q) = tt
made_plain m (entered n x w p at is place) = tt
made_plain m (stayed n x w p at is place) = tt
made_plain m (met_now n w i x c at is) = tt
made_plain m (met_later n w p c place) = tt

-- ---- each line that is made, and each change

-- the waits given out by now are a front of those given out in the end
abbrev pub Front : List Wait → List Wait → Type 0
Front front ws = (more : List Wait) × (ws ≡ front ++ more)

abbrev pub KeptIfMarked : System → Line → Type 0
KeptIfMarked sys x = x.mark ≡ true → Keeps sys x

module _ (sys : System) (ws : List Wait) (wf : WellFormed sys) (m : Model) (indices : sys.indices ≡ m.indices) (fit : Fit m) (front : Front m.waits ws) (inv : Inv sys ws m.lines m.loops) where
  abbrev TrueFit : Line → Type 0
  TrueFit x = TrueLine sys ws m.loops x × Fits sys x.kind

  true_fits : All TrueFit m.lines
  true_fits =
      all_both (TrueLine sys ws m.loops) (λ x. Fits sys x.kind) m.lines inv.truths
      (All-weaker (λ x. kind_under m.indices x.kind ≡ true) (λ x. Fits sys x.kind) (λ x. kind_fits sys m.indices x.kind indices) m.lines fit.lines)

  true_at : (n : ℕ) (x : Line) → line_at m.lines n ≡ Some x → TrueFit x
  true_at n x at = all_got TrueFit m.lines n x true_fits at

  comes_at : (n : ℕ) (x : Line) → line_at m.lines n ≡ Some x → ComesLine sys ws x
  comes_at n x at = all_got (ComesLine sys ws) m.lines n x inv.comings at

  loop_low : (n : ℕ) (z : Loop) → loop_at m.loops n ≡ Some z → LowGoal z
  loop_low n z at = all_got LowGoal m.loops n z inv.goals at

  loop_speaks : (n : ℕ) (z : Loop) → loop_at m.loops n ≡ Some z → Speaks sys z.scope
  loop_speaks n z at = scope_speaks sys m.indices z.scope indices (all_got (λ y. scope_under m.indices y.scope ≡ true) m.loops n z fit.loops at)

  row_met : (n : ℕ) (w : Row) (c : ClosedAt m.loops n w) → met c.loop.scope n w.literals m.lines ≡ true
  row_met n w c = all_got (λ p. met c.loop.scope n p m.lines ≡ true) c.loop.rows c.place w.literals (inv.rows_met n c.loop c.there c.over) c.among

  made_true : {x : Line} → Makes m x → TrueLine sys ws m.loops x
  made_true (resolved a b x y l kind at_a at_b is p q) =
      let mine = true_at a x at_a in
      let theirs = true_at b y at_b in
      resolved_true sys ws m.loops kind x y l (either_premise sys ws m.lines m.loops inv x.belongs y.belongs p q) mine.1 theirs.1 is mine.0 theirs.0
  made_true (rewritten n x at p q) = let mine = true_at n x at in rewritten_true sys ws m.loops wf x mine.1 p q mine.0
  made_true (entered n x w p at is place) = let come = comes_at n x at w is in entered_true sys ws m.waits front.0 front.1 w p come.0 place m.loops x come.1
  made_true (stayed n x w p at is place) = let come = comes_at n x at w is in stayed_true sys ws m.waits front.0 front.1 w p come.0 place m.loops
  made_true (met_now n w i x c at is) =
      subst (λ (v : Wait). TrueLine sys ws m.loops (made Global [] (join (opposites (literals x.left)) (row_right v.goal w.literals)) None)) (sym c.same)
      (now_true sys ws wf m.loops n c.loop c.there (loop_speaks n c.loop c.there) (loop_low n c.loop c.there) m.lines true_fits (inv.rows_met n c.loop c.there c.over) w.literals (row_met n w c) x (comes_at i x at (waited_by c.loop) (is ∙ ap Some c.same)).1)
  made_true (met_later n w p c place) =
      subst (λ (v : Wait). TrueLine sys ws m.loops (made (Step v.scope) (wait_literal p ∷ []) (row_right v.goal w.literals) None)) (sym c.same)
      (later_true sys ws wf m.loops n c.loop c.there (loop_speaks n c.loop c.there) (loop_low n c.loop c.there) m.lines true_fits (inv.rows_met n c.loop c.there c.over) w.literals (row_met n w c) m.waits front.0 front.1 p (subst (λ (v : Wait). place_of m.waits v ≡ Some p) c.same place))

  pub steps_inv : {R : Type 0} {left : Model} → Steps m R left → All (KeptIfMarked sys) left.lines → Inv sys ws left.lines left.loops
  steps_inv nothing keeps = inv
  steps_inv (rules r kind l rs under p q formed) keeps =
      let kept = all_last (KeptIfMarked sys) m.lines (marked l rs kind) keeps refl in
      inv_line sys ws m.lines m.loops inv (marked l rs kind) (kept-true sys ws l rs p q kind kept m.loops) (kept-comes sys ws l rs p q kind kept wf (kind_fits sys m.indices kind indices under) formed)
  steps_inv (makes x h) keeps =
      inv_line sys ws m.lines m.loops inv x (made_true h) (plain_comes sys ws x.kind (literals x.left) (literals x.right) (made_plain m h))
  steps_inv (opens n x w at is shut) keeps = inv_opened sys ws m.lines m.loops inv w (comes_at n x at w is).0 shut
  steps_inv (supposes n p z at going) keeps =
      let more = at_loop n (add_row p) m.loops in
      let line = supposed n z.goal p in
      inv_line sys ws m.lines more (inv_row sys ws m.lines m.loops inv n p going) line (supposed_true sys ws m.lines m.loops inv n p z at) (plain_comes sys ws (Step scope.All) (literals line.left) (literals line.right) tt)
  steps_inv (closes n is) keeps =
      inv_changed sys ws m.lines m.loops inv n (standing_as closed) (λ x t h. h) (λ x h. h) (λ x h. absurd (false≢true h)) (λ x there over. all_rows_met m n x is there)
  steps_inv (drops n) keeps =
      inv_changed sys ws m.lines m.loops inv n (standing_as dropped) (λ x t h. h) (λ x h. h) (λ x h. absurd (false≢true h)) (λ x there over. absurd (false≢true over))
