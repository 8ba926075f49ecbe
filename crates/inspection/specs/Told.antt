-- The code's answers, with their numbers and values, and what its calls leave. Assumes nothing.
use Rattle.std.specs.Prelude.{◌≡◌, ℕ, ◌<◌, true, false, List, [], ◌∷◌, length, Some, Ok, Err, Option, Result, slice_index_or}
use Rattle.std.specs.Option.{option_map}
use Rattle.clauses.specs.declared.lines.Line.{Line}
use Rattle.clauses.specs.declared.refusals.Refusal.{Refusal}
use Rattle.clauses.specs.Lines.{refutes, blank}
use Rattle.clauses.specs.Refusals.{Cause, FirstOr, first_of, number_of}
use Rattle.clauses.specs.Steps.{wait_literal}
use Rattle.plans.specs.declared.refusals.PlanRefusal.{PlanRefusal}
use Rattle.plans.specs.Refusals.{plan_number}
use Rattle.judging.specs.declared.judgements.Judgement.{Judgement}
use Rattle.calls.specs.Calls.{Answer, Call, after, after_by, answer, answer_by, full, line, line_at, impossible, undecided, refused, judged_as, with_made}
use Rattle.calls.specs.Models.{Model, overlay}
use Rattle.calls.specs.Waits.{place_of, wait_of}
use Rattle.inspection.specs.declared.state.Inspection.{Inspection}
use Rattle.inspection.specs.declared.steps.Waiter.{Waiter}
use Rattle.inspection.specs.declared.verdicts.Verdict.{Verdict}
use Rattle.inspection.specs.declared.verdicts.Verdict.TheVariants.{Impossible, Undecided}
use Rattle.inspection.specs.Held.{MayHave, model_of}

abbrev pub told_line : Result ℕ Refusal → Answer
told_line (Ok n) = line n
told_line (Err e) = refused (number_of e)

abbrev pub told_verdict : Verdict → Answer
told_verdict (Impossible n) = impossible n
told_verdict Undecided = undecided

abbrev pub told_judgement : Result Judgement PlanRefusal → Answer
told_judgement (Ok j) = judged_as j
told_judgement (Err e) = refused (plan_number e)

-- the verdict on these lines in other words: the line that it names refutes and none before it does, or none does
abbrev pub Lowest : List Line → Verdict → Type 0
Lowest xs (Impossible n) = (n < length xs) × (refutes (slice_index_or xs n blank) ≡ true) × ((k : ℕ) → k < n → refutes (slice_index_or xs k blank) ≡ false)
Lowest xs Undecided = (k : ℕ) → k < length xs → refutes (slice_index_or xs k blank) ≡ false

-- ---- calls that make a line

-- what a call comes to before its line is stored: the first of its causes, or the line, which the model may have
abbrev pub Makes : Result Line Refusal → Model → List Cause → Option Line → Type 0
Makes r m cs o = FirstOr number_of cs (λ x. (Some x ≡ o) × MayHave m x) r

-- the line of a number waits, and its wait has this literal
pub record WaiterAt (m : Model) (n : ℕ) (w : Waiter) : Type 0 where
  pub there : line_at m.lines n ≡ Some w.line.now
  pub allowed : MayHave m w.line.now
  pub waits : wait_of w.line.now ≡ Some w.wait
  pub given : Some w.literal ≡ option_map wait_literal (place_of m.waits w.wait)

-- the answer that is due and the model that is left, and the table is the one that was lent, with the lines made laid over its front
pub record Leaves (said due : Answer) (before later : Inspection) (left : Model) : Type 0 where
  pub answer : said ≡ due
  pub after : model_of later ≡ left
  pub table : later.lines.now ≡ overlay (model_of later).lines before.lines.now
  pub lent : later.lines.ghost_name ≡ before.lines.ghost_name

-- a line more, where there is room
abbrev pub Stores : Answer → Inspection → Inspection → Line → Type 0
Stores said before later x =
    let m = model_of before in
    let cause = first_of ((18, full m) ∷ []) in
    Leaves said (answer_by cause (line (length m.lines))) before later (after_by cause m (with_made m (Some x)))

-- what the call answers and leaves
abbrev pub Does : Answer → Call → Inspection → Inspection → Type 0
Does said c before later = Leaves said (answer (model_of before) c) before later (after (model_of before) c)
