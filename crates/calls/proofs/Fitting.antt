-- The index of every line and of every loop is one of the inspection's, so what is judged is true. Assumes nothing.
use Rattle.std.proofs.Common.{◌≡◌, ℕ, zero, suc, true, not, eqb, ltb, List, [], ◌∷◌, ◌++◌, get_or, Some, None, Option, sym, refl, ap, ◌∙◌, subst, arith}
use Rattle.std.specs.List.{AllByRecursion as All, slice_get}
use Rattle.std.proofs.ByRecursion.{All-get_or, All-push}
use Rattle.std.proofs.lemmas.Bool.{eqb-true, ltb-true, not-false, or_parts}
use Rattle.std.proofs.lemmas.Option.{none-some, same_Some}
use Rattle.clauses.specs.declared.kinds.Kind.{Kind}
use Rattle.clauses.specs.declared.kinds.Kind.TheVariants.{Start, Global, Step, Sometime}
use Rattle.clauses.specs.declared.kinds.Scope.{Scope}
use Rattle.clauses.specs.declared.kinds.Scope.TheVariants as scope
use Rattle.clauses.specs.declared.lines.Line.{Line}
use Rattle.clauses.specs.declared.literals.Literal.{Literal}
use Rattle.clauses.specs.Kinds.{kind_under, scope_under}
use Rattle.clauses.specs.Lines.{blank, literals}
use Rattle.clauses.specs.Refusals.{first_of}
use Rattle.clauses.specs.Rules.{marked}
use Rattle.truth.specs.Systems.{System, WellFormed, Speaks}
use Rattle.truth.specs.Decided.{Fits}
use Rattle.judging.specs.declared.judgements.Judgement.{Judgement}
use Rattle.judging.specs.declared.judgements.Judgement.TheVariants.{Kept, Broken}
use Rattle.judging.specs.Judging.{AllFit, Judged, judge_causes, judgement}
use Rattle.judging.proofs.Exact.{judgement_exact}
use Rattle.calls.specs.declared.waits.Wait.{Wait}
use Rattle.calls.specs.Calls.{Call, judge, refused, after, answer, answer_by, judged_as, line_at}
use Rattle.calls.specs.Law.{after_all}
use Rattle.calls.specs.Loops.{add_row, at_loop, opening, standing_as, supposed}
use Rattle.calls.specs.Models.{Loop, Model, closed, dropped}
use Rattle.calls.specs.Waits.{wait_for, wait_of}
use Rattle.calls.proofs.Joints.{Joint, start_start, start_global, global_start, global_global, global_step, step_global, step_step, JointScope, any_with, with_any, with_itself}
use Rattle.calls.proofs.Keeping.{all_none}
use Rattle.calls.proofs.Stepping.{Makes, resolved, rewritten, entered, stayed, met_now, met_later, Steps, nothing, rules, makes, opens, supposes, closes, drops, call_steps}

-- ---- what holds of every element

-- what holds of every element of a list holds of the one at a place
pub all_got : {X : Type 0} (P : X → Type 0) (xs : List X) (n : ℕ) (x : X) → All P xs → slice_get xs n ≡ Some x → P x
all_got P [] n x all at = absurd (none-some _ at)
all_got P (y ∷ ys) zero x all at = subst P (same_Some _ _ at) all.0
all_got P (y ∷ ys) (suc n) x all at = all_got P ys n x all.1 at

pub all_at_loop : (P : Loop → Type 0) (n : ℕ) (f : Loop → Loop) → ((x : Loop) → P x → P (f x)) → (xs : List Loop) → All P xs → All P (at_loop n f xs)
all_at_loop P n f keep [] all = tt
all_at_loop P zero f keep (x ∷ xs) all = (keep x all.0, all.1)
all_at_loop P (suc n) f keep (x ∷ xs) all = (all.0, all_at_loop P n f keep xs all.1)

pub all_front : {X : Type 0} (P : X → Type 0) (xs ys : List X) → All P (xs ++ ys) → All P xs
all_front P [] ys all = tt
all_front P (x ∷ xs) ys all = (all.0, all_front P xs ys all.1)

-- ---- indices

abbrev LineUnder : ℕ → Line → Type 0
LineUnder k x = kind_under k x.kind ≡ true

abbrev LoopUnder : ℕ → Loop → Type 0
LoopUnder k z = scope_under k z.scope ≡ true

pub record Fit (m : Model) : Type 0 where
  pub lines : All (λ x. kind_under m.indices x.kind ≡ true) m.lines
  pub loops : All (λ z. scope_under m.indices z.scope ≡ true) m.loops

joint_scope_under : (k : ℕ) {a b c : Scope} → JointScope a b c → scope_under k a ≡ true → scope_under k b ≡ true → scope_under k c ≡ true
joint_scope_under k (any_with b) h j = j
joint_scope_under k (with_any i) h j = h
joint_scope_under k (with_itself i) h j = h

pub joint_under : (k : ℕ) {a b c : Kind} → Joint a b c → kind_under k a ≡ true → kind_under k b ≡ true → kind_under k c ≡ true
joint_under k start_start h j = refl
joint_under k start_global h j = refl
joint_under k global_start h j = refl
joint_under k global_global h j = refl
joint_under k (global_step u) h j = j
joint_under k (step_global r) h j = h
joint_under k (step_step joint) h j = joint_scope_under k joint h j

-- what a line waits for has the line's index
wait_under : (k : ℕ) (kind : Kind) (right : List Literal) (w : Wait) → kind_under k kind ≡ true → wait_for kind right ≡ Some w → scope_under k w.scope ≡ true
wait_under k Start right w h e = absurd (none-some _ e)
wait_under k Global right w h e = absurd (none-some _ e)
wait_under k (Step s) right w h e = absurd (none-some _ e)
wait_under k (Sometime s) [] w h e = absurd (none-some _ e)
wait_under k (Sometime s) (g ∷ gs) w h e = ap (λ (v : Wait). scope_under k v.scope) (sym (same_Some _ _ e)) ∙ h

pub line_wait_under : (m : Model) (n : ℕ) (x : Line) (w : Wait) → Fit m → line_at m.lines n ≡ Some x → wait_of x ≡ Some w → scope_under m.indices w.scope ≡ true
line_wait_under m n x w fit at is = wait_under m.indices x.kind (literals x.right) w (all_got (LineUnder m.indices) m.lines n x fit.lines at) is

made_fits : (m : Model) {x : Line} → Fit m → Makes m x → kind_under m.indices x.kind ≡ true
made_fits m fit (resolved a b x y l kind at_a at_b is p q) =
    joint_under m.indices is (all_got (LineUnder m.indices) m.lines a x fit.lines at_a) (all_got (LineUnder m.indices) m.lines b y fit.lines at_b)
made_fits m fit (rewritten n x at p q) = refl
made_fits m fit (entered n x w p at is place) = refl
made_fits m fit (stayed n x w p at is place) = line_wait_under m n x w fit at is
made_fits m fit (met_now n w i x c at is) = refl
made_fits m fit (met_later n w p c place) =
    ap (λ (v : Wait). scope_under m.indices v.scope) c.same ∙ all_got (LoopUnder m.indices) m.loops n c.loop fit.loops c.there

steps_fit : (m : Model) {R : Type 0} {left : Model} → Fit m → Steps m R left → Fit left
steps_fit m fit nothing = fit
steps_fit m fit (rules r kind l rs under p q formed) = record { lines = All-push (LineUnder m.indices) m.lines (marked l rs kind) fit.lines under; loops = fit.loops }
steps_fit m fit (makes x h) = record { lines = All-push (LineUnder m.indices) m.lines x fit.lines (made_fits m fit h); loops = fit.loops }
steps_fit m fit (opens n x w at is shut) = record { lines = fit.lines; loops = All-push (LoopUnder m.indices) m.loops (opening w) fit.loops (line_wait_under m n x w fit at is) }
steps_fit m fit (supposes n p z at going) = record {
  lines = All-push (LineUnder m.indices) m.lines (supposed n z.goal p) fit.lines refl;
  loops = all_at_loop (LoopUnder m.indices) n (add_row p) (λ x h. h) m.loops fit.loops;
}
steps_fit m fit (closes n is) = record { lines = fit.lines; loops = all_at_loop (LoopUnder m.indices) n (standing_as closed) (λ x h. h) m.loops fit.loops }
steps_fit m fit (drops n) = record { lines = fit.lines; loops = all_at_loop (LoopUnder m.indices) n (standing_as dropped) (λ x h. h) m.loops fit.loops }

pub call_fits : (m : Model) (c : Call) → Fit m → Fit (after m c)
call_fits m c fit = steps_fit m fit (call_steps m c)

pub all_fit : (cs : List Call) (m : Model) → Fit m → Fit (after_all m cs)
all_fit [] m fit = fit
all_fit (c ∷ cs) m fit = all_fit cs (after m c) (call_fits m c fit)

steps_indices : (m : Model) {R : Type 0} {left : Model} → Steps m R left → left.indices ≡ m.indices
steps_indices m nothing = refl
steps_indices m (rules r kind l rs under p q formed) = refl
steps_indices m (makes x h) = refl
steps_indices m (opens n x w at is shut) = refl
steps_indices m (supposes n p z at going) = refl
steps_indices m (closes n is) = refl
steps_indices m (drops n) = refl

-- no call changes how many there are
pub all_indices : (cs : List Call) (m : Model) → (after_all m cs).indices ≡ m.indices
all_indices [] m = refl
all_indices (c ∷ cs) m = all_indices cs (after m c) ∙ steps_indices m (call_steps m c)

-- ---- judging

pub scope_speaks : (sys : System) (k : ℕ) (s : Scope) → sys.indices ≡ k → scope_under k s ≡ true → Speaks sys s
scope_speaks sys k scope.All is under = tt
scope_speaks sys k (scope.Index i) is under = omega (arith, ltb-true i k under)

pub kind_fits : (sys : System) (k : ℕ) (kind : Kind) → sys.indices ≡ k → kind_under k kind ≡ true → Fits sys kind
kind_fits sys k Start is under = tt
kind_fits sys k Global is under = tt
kind_fits sys k (Step s) is under = scope_speaks sys k s is under
kind_fits sys k (Sometime s) is under = scope_speaks sys k s is under

lines_fit : (sys : System) (m : Model) → Fit m → sys.indices ≡ m.indices → AllFit sys m.lines
lines_fit sys m fit is n low = kind_fits sys m.indices (get_or m.lines n blank).kind is (All-get_or (LineUnder m.indices) m.lines n blank low fit.lines)

judged_same : (a b : Judgement) → judged_as a ≡ judged_as b → a ≡ b
judged_same Kept Kept e = refl
judged_same Kept (Broken n s) e = absurd (cc)
judged_same (Broken n s) Kept e = absurd (cc)
judged_same (Broken n s) (Broken k t) e = let rule : n ≡ k = cc in let state : s ≡ t = cc in λ i. Broken (rule i) (state i)

not_refused : (n : ℕ) (j : Judgement) → refused n ≡ judged_as j → ⊥
not_refused n Kept e = let z : ◌≡◌ {A = ℕ} 0 1 = cc in omega arith
not_refused n (Broken k s) e = let z : ◌≡◌ {A = ℕ} 0 1 = cc in omega arith

-- what is judged is true, of a system with the inspection's indices
pub judged_fit : (m : Model) (sys : System) (bytes : ℕ) (j : Judgement) → Fit m → WellFormed sys → answer m (judge sys bytes) ≡ judged_as j → (sys.indices ≡ m.indices) × Judged sys m.lines j
judged_fit m sys bytes j fit wf e = by_first (first_of (judge_causes m.indices bytes sys)) refl e
  where
    by_first : (o : Option ℕ) → first_of (judge_causes m.indices bytes sys) ≡ o → answer_by o (judged_as (judgement sys m.lines)) ≡ judged_as j → (sys.indices ≡ m.indices) × Judged sys m.lines j
    by_first None first is =
        let causeless = all_none (judge_causes m.indices bytes sys) first in
        let same = eqb-true sys.indices m.indices (not-false (eqb sys.indices m.indices) (or_parts (ltb 256 sys.states) (not (eqb sys.indices m.indices)) causeless.1.0).1) in
        (same, subst (Judged sys m.lines) (judged_same (judgement sys m.lines) j is) (judgement_exact sys m.lines wf (lines_fit sys m fit same)).0)
    by_first (Some n) first is = absurd (not_refused n j is)
