-- The law of every list of calls. Assumes nothing.
use Rattle.std.proofs.Common.{◌≡◌, ℕ, ◌+◌, Bool, true, false, cond, List, [], ◌∷◌, ◌++◌, length, Some, None, Option, sym, refl, ap, ◌∙◌, subst, append_assoc, append-nil, arith}
use Rattle.std.specs.List.{AllByRecursion as All}
use Rattle.std.proofs.ByRecursion.{All-from_get_or, All-get_or, All-push}
use Rattle.std.proofs.lemmas.List.{nil_from_length}
use Rattle.std.proofs.lemmas.Bool.{eqb-true, false≢true, true≢false}
use Rattle.std.proofs.lemmas.Option.{none-some}
use Rattle.clauses.specs.declared.kinds.Kind.{Kind}
use Rattle.clauses.specs.declared.kinds.Kind.TheVariants.{Start, Global, Step, Sometime}
use Rattle.clauses.specs.declared.lines.Line.{Line}
use Rattle.clauses.specs.declared.literals.Literal.{Literal}
use Rattle.clauses.specs.Lines.{blank, contradicts, literals, refutes}
use Rattle.clauses.specs.Rules.{marked}
use Rattle.truth.specs.Systems.{System, WellFormed}
use Rattle.truth.specs.Truth.{right_at}
use Rattle.judging.specs.declared.judgements.Judgement.TheVariants.{Kept}
use Rattle.calls.specs.declared.waits.Wait.{Wait}
use Rattle.calls.specs.Calls.{Call, verdict, impossible, after, answer, lowest}
use Rattle.calls.specs.Law.{KeepsAll, Law, NoRule, after_all, reached}
use Rattle.calls.specs.Loops.{supposed}
use Rattle.calls.specs.Models.{Loop, Model, fresh}
use Rattle.calls.specs.Waits.{admitted, held, wait_of}
use Rattle.calls.proofs.Extending.{extended}
use Rattle.calls.proofs.Fitting.{Fit, all_fit, all_front, all_indices, call_fits, judged_fit}
use Rattle.calls.proofs.Invariant.{Front, Inv, KeptIfMarked, steps_inv}
use Rattle.calls.proofs.Stepping.{Makes, resolved, rewritten, entered, stayed, met_now, met_later, Steps, nothing, rules, makes, opens, supposes, closes, drops, call_steps}
use Rattle.calls.proofs.Supposing.{TrueLine, TrueOf}

-- ---- the rules of a model

keeps_lines : (sys : System) (m : Model) → KeepsAll sys m → All (KeptIfMarked sys) m.lines
keeps_lines sys m keeps = All-from_get_or (KeptIfMarked sys) m.lines blank (λ n low mark. keeps n (low, mark))

lines_keep : (sys : System) (m : Model) → All (KeptIfMarked sys) m.lines → KeepsAll sys m
lines_keep sys m all n rule = All-get_or (KeptIfMarked sys) m.lines n blank rule.0 all rule.1

-- what holds of every line held of every line before
steps_lines : (P : Line → Type 0) (m : Model) {R : Type 0} {left : Model} → Steps m R left → All P left.lines → All P m.lines
steps_lines P m nothing all = all
steps_lines P m (rules r kind l rs under p q formed) all = all_front P m.lines (marked l rs kind ∷ []) all
steps_lines P m (makes x h) all = all_front P m.lines (x ∷ []) all
steps_lines P m (opens n x w at is shut) all = all
steps_lines P m (supposes n p z at going) all = all_front P m.lines (supposed n z.goal p ∷ []) all
steps_lines P m (closes n is) all = all
steps_lines P m (drops n) all = all

lines_before : (P : Line → Type 0) (cs : List Call) (m : Model) → All P (after_all m cs).lines → All P m.lines
lines_before P [] m all = all
lines_before P (c ∷ cs) m all = steps_lines P m (call_steps m c) (lines_before P cs (after m c) all)

-- a line that is made has no mark
made_unmarked : (m : Model) {x : Line} → Makes m x → x.mark ≡ false
made_unmarked m (resolved a b x y l kind at_a at_b is p q) = refl
made_unmarked m (rewritten n x at p q) = refl
made_unmarked m (entered n x w p at is place) = refl
made_unmarked m (stayed n x w p at is place) = refl
made_unmarked m (met_now n w i x c at is) = refl
made_unmarked m (met_later n w p c place) = refl

-- where no rule is accepted, a system that keeps the rules goes on to
steps_keep : (sys : System) (m : Model) {R : Type 0} {left : Model} → Steps m R left → (R → ⊥) → All (KeptIfMarked sys) m.lines → All (KeptIfMarked sys) left.lines
steps_keep sys m nothing never all = all
steps_keep sys m (rules r kind l rs under p q formed) never all = absurd (never r)
steps_keep sys m (makes x h) never all = All-push (KeptIfMarked sys) m.lines x all (λ mark. absurd (true≢false (sym mark ∙ made_unmarked m h)))
steps_keep sys m (opens n x w at is shut) never all = all
steps_keep sys m (supposes n p z at going) never all = All-push (KeptIfMarked sys) m.lines (supposed n z.goal p) all (λ mark. absurd (false≢true mark))
steps_keep sys m (closes n is) never all = all
steps_keep sys m (drops n) never all = all

all_keep : (sys : System) (cs : List Call) (m : Model) → NoRule m cs → All (KeptIfMarked sys) m.lines → All (KeptIfMarked sys) (after_all m cs).lines
all_keep sys [] m none all = all
all_keep sys (c ∷ cs) m none all = all_keep sys cs (after m c) none.1 (steps_keep sys m (call_steps m c) (λ r. none.0 r.0 r.1) all)

-- ---- the waits of a model

front_itself : (ws : List Wait) → Front ws ws
front_itself ws = ([], sym (append-nil ws))

front_more : (a b c : List Wait) → Front a b → Front b c → Front a c
front_more a b c p q = (p.0 ++ q.0, q.1 ∙ ap (λ ws. ws ++ q.0) p.1 ∙ append_assoc a p.0 q.0)

admitted_front : (ws : List Wait) (o : Option Wait) → Front ws (admitted ws o)
admitted_front ws None = front_itself ws
admitted_front ws (Some w) = by-test (held ws w)
  where
    by-test : (b : Bool) → Front ws (cond b ws (ws ++ w ∷ []))
    by-test true = front_itself ws
    by-test false = (w ∷ [], refl)

steps_front : (m : Model) {R : Type 0} {left : Model} → Steps m R left → Front m.waits left.waits
steps_front m nothing = front_itself m.waits
steps_front m (rules r kind l rs under p q formed) = admitted_front m.waits (wait_of (marked l rs kind))
steps_front m (makes x h) = front_itself m.waits
steps_front m (opens n x w at is shut) = front_itself m.waits
steps_front m (supposes n p z at going) = front_itself m.waits
steps_front m (closes n is) = front_itself m.waits
steps_front m (drops n) = front_itself m.waits

all_front_waits : (cs : List Call) (m : Model) → Front m.waits (after_all m cs).waits
all_front_waits [] m = front_itself m.waits
all_front_waits (c ∷ cs) m =
    front_more m.waits (after m c).waits (after_all (after m c) cs).waits (steps_front m (call_steps m c)) (all_front_waits cs (after m c))

-- ---- every list of calls keeps the invariant

module _ (sys : System) (ws : List Wait) (wf : WellFormed sys) where
  run_inv : (cs : List Call) (m : Model) → sys.indices ≡ m.indices → Fit m → Inv sys ws m.lines m.loops → All (KeptIfMarked sys) (after_all m cs).lines → Front (after_all m cs).waits ws → Inv sys ws (after_all m cs).lines (after_all m cs).loops
  run_inv [] m indices fit inv keeps front = inv
  run_inv (c ∷ cs) m indices fit inv keeps front =
      let next = after m c in
      let here = front_more m.waits (after_all next cs).waits ws (all_front_waits (c ∷ cs) m) front in
      run_inv cs next (indices ∙ sym (all_indices (c ∷ []) m)) (call_fits m c fit)
      (steps_inv sys ws wf m indices fit here inv (call_steps m c) (lines_before (KeptIfMarked sys) cs next keeps))
      keeps front

fresh_fit : (k room : ℕ) → Fit (fresh k room)
fresh_fit k room = record { lines = tt; loops = tt }

fresh_inv : (sys : System) (ws : List Wait) → Inv sys ws [] []
fresh_inv sys ws = record {
  truths = tt;
  comings = tt;
  goals = tt;
  one_open = λ a b h k. absurd (false≢true h);
  rows_met = λ n z at over. absurd (none-some _ at);
}

-- ---- what refutes is true of no system

not_refuting : (sys : System) (ws : List Wait) (loops : List Loop) (kind : Kind) (left right : List Literal) (o : Option ℕ) → WellFormed sys → TrueOf sys ws loops kind left right o → contradicts kind right ≡ true → ⊥
not_refuting sys ws loops Start left right o wf h e =
    false≢true (ap (λ r. right_at (extended sys ws) r 0) (sym (nil_from_length right (eqb-true (length right) 0 e))) ∙ h 0 0 wf.begins wf.begins refl)
not_refuting sys ws loops Global left right o wf h e =
    false≢true (ap (λ r. right_at (extended sys ws) r 0) (sym (nil_from_length right (eqb-true (length right) 0 e))) ∙ h 0 0 wf.begins wf.begins tt)
not_refuting sys ws loops (Step s) left right o wf h e = false≢true e
not_refuting sys ws loops (Sometime s) left right o wf h e = false≢true e

not_impossible : (sys : System) (ws : List Wait) (loops : List Loop) (n i : ℕ) (xs : List Line) → WellFormed sys → All (TrueLine sys ws loops) xs → lowest i xs ≡ impossible n → ⊥
not_impossible sys ws loops n i [] wf all e = let z : ◌≡◌ {A = ℕ} 0 1 = cc in omega arith
not_impossible sys ws loops n i (x ∷ xs) wf all e = by-test (refutes x) refl e (not_impossible sys ws loops n (i + 1) xs wf all.1)
  where
    by-test : (b : Bool) → refutes x ≡ b → cond b (impossible i) (lowest (i + 1) xs) ≡ impossible n → (lowest (i + 1) xs ≡ impossible n → ⊥) → ⊥
    by-test true is f rest = not_refuting sys ws loops x.kind (literals x.left) (literals x.right) x.belongs wf all.0 is
    by-test false is f rest = rest f

-- ---- the law

-- no system that keeps the rules is said to be impossible
impossible_never : (k room : ℕ) (cs : List Call) (n : ℕ) → answer (reached k room cs) verdict ≡ impossible n → (sys : System) → WellFormed sys → sys.indices ≡ k → KeepsAll sys (reached k room cs) → ⊥
impossible_never k room cs n said sys wf indices keeps =
    let m = reached k room cs in
    let inv = run_inv sys m.waits wf cs (fresh k room) indices (fresh_fit k room) (fresh_inv sys m.waits) (keeps_lines sys m keeps) (front_itself m.waits) in
    not_impossible sys m.waits m.loops n 0 m.lines wf inv.truths said

reached_fit : (k room : ℕ) (cs : List Call) → Fit (reached k room cs)
reached_fit k room cs = all_fit cs (fresh k room) (fresh_fit k room)

-- one list of calls after another
after_both : (cs ds : List Call) (m : Model) → after_all m (cs ++ ds) ≡ after_all (after_all m cs) ds
after_both [] ds m = refl
after_both (c ∷ cs) ds m = after_both cs ds (after m c)

pub law : Law
law = record {
  impossible_true = impossible_never;
  judged_true = λ k room cs sys bytes j wf said. (judged_fit (reached k room cs) sys bytes j (reached_fit k room cs) wf said).1;
  never_kept = λ k room cs ds n sys bytes wf said judged.
      let m = reached k room cs in
      let told = judged_fit (after_all m ds) sys bytes Kept (all_fit ds m (reached_fit k room cs)) wf judged in
      let before = lines_before (KeptIfMarked sys) ds m (keeps_lines sys (after_all m ds) told.1) in
      impossible_never k room cs n said sys wf (told.0 ∙ all_indices ds m ∙ all_indices cs (fresh k room)) (lines_keep sys m before);
  never_impossible = λ k room cs ds n sys bytes wf judged none said.
      let m = reached k room cs in
      let told = judged_fit m sys bytes Kept (reached_fit k room cs) wf judged in
      let still = lines_keep sys (after_all m ds) (all_keep sys ds m none (keeps_lines sys m told.1)) in
      let joined = sym (after_both cs ds (fresh k room)) in
      impossible_never k room (cs ++ ds) n (subst (λ (z : Model). answer z verdict ≡ impossible n) joined said) sys wf (told.0 ∙ all_indices cs (fresh k room)) (subst (KeepsAll sys) joined still);
}
