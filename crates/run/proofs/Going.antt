-- What the loop over the fields of a work keeps. Assumes nothing.
use Rattle.std.proofs.Common.{◌≡◌, ℕ, suc, ◌+◌, ◌<◌, ◌≤◌, true, false, List, ◌++◌, length, IfOk, Ok, Err, Result, sym, refl, ap, ◌∙◌, arith}
use Rattle.fields.specs.declared.shapes.Source.TheVariants as source
use Rattle.std.specs.Borrow.{MutBor}
use Rattle.calls.specs.Calls.{answer, verdict}
use Rattle.inspection.specs.Held.{model_of}
use Rattle.inspection.specs.declared.state.Inspection.{Inspection}
use Rattle.run.specs.Files.{items_from, items_of}
use Rattle.run.specs.Runs.{after_work}
use Rattle.run.specs.Steps.{Continues, LinesGrow, Written, left_ahead, lines_ahead}
use Rattle.run.specs.Text.{verdict_text, work_text}
use Rattle.run.specs.declared.runs.Run.{Run}
use Rattle.run.proofs.Continuing.{lines_stay, grown_on}
use Rattle.run.proofs.Taking.{some_left}

-- what holds anyway holds where there is a result
pub made_so : {X E : Type 0} (r : Result X E) {P : Type 0} → P → IfOk r (λ _. P)
made_so (Ok x) p = p
made_so (Err e) p = tt

-- a work for the inspection behind b, whose lines follow the text before; the loop has come to the run s and field n
pub record Sofar (work before : List ℕ) (b : MutBor Inspection) (s : Run) (text : List ℕ) (n : ℕ) : Type 0 where
  pub grown : LinesGrow b.now s.inspection.now
  pub borrowed : s.inspection.ghost_name ≡ b.ghost_name
  pub file : s.reader.source ≡ source.Work (model_of b.now).indices
  pub bytes : s.reader.bytes.now ≡ work
  pub within : s.reader.place ≤ length work
  pub few : n ≤ s.reader.place
  pub lines : (j : ℕ) × (length work < s.reader.place + j) × (text ++ lines_ahead j s n ≡ before ++ work_text (model_of b.now) 0 (items_of (source.Work (model_of b.now).indices) work)) × (left_ahead j s ≡ (after_work (model_of b.now) (items_of (source.Work (model_of b.now).indices) work)).lines)

pub start : (work before : List ℕ) (s : Run) → s.reader.source ≡ source.Work (model_of s.inspection.now).indices → s.reader.bytes.now ≡ work → s.reader.place ≡ 0 → Sofar work before s.inspection s before 0
start work before s file bytes first =
    record {
      grown = lines_stay s.inspection.now;
      borrowed = refl;
      file = file;
      bytes = bytes;
      within = omega arith;
      few = omega arith;
      lines = (
        suc (length work),
        omega arith,
        (λ i. before ++ work_text (model_of s.inspection.now) 0 (items_from (suc (length work)) (file i) (bytes i) (first i))),
        (λ i. (after_work (model_of s.inspection.now) (items_from (suc (length work)) (file i) (bytes i) (first i))).lines),
      );
    }

module _ {work before : List ℕ} {b : MutBor Inspection} {s : Run} {text : List ℕ} {n : ℕ} (h : Sofar work before b s text n) where
  pub one_more : (s' : Run) (text' : List ℕ) → Continues s s' → Written true n text text' s s' → Sofar work before b s' text' (n + 1)
  one_more s' text' next wrote =
      let w = h.lines in
      let i = some_left (length work) s.reader.place w.0 h.within w.1 in
      let long = ap length h.bytes in
      let on = wrote.0 in
      record {
        grown = grown_on b.now s.inspection.now s'.inspection.now h.grown next.lines;
        borrowed = next.borrowed ∙ h.borrowed;
        file = next.file ∙ h.file;
        bytes = next.bytes ∙ h.bytes;
        within = omega (arith, on.1);
        few = omega (arith, h.few, on.0);
        lines = (
          i.0,
          omega (arith, w.1, i.1, on.0),
          wrote.1 i.0 ∙ ap (λ j. text ++ lines_ahead j s n) (sym i.1) ∙ w.2,
          sym (wrote.2 i.0) ∙ ap (λ j. left_ahead j s) (sym i.1) ∙ w.3,
        );
      }

  -- at the end, the verdict is what is left to write
  pub last_line : (s' : Run) (text' : List ℕ) → Written false n text text' s s' → text' ++ verdict_text (answer (model_of s'.inspection.now) verdict) ≡ before ++ work_text (model_of b.now) 0 (items_of (source.Work (model_of b.now).indices) work)
  last_line s' text' wrote =
      let w = h.lines in
      let i = some_left (length work) s.reader.place w.0 h.within w.1 in
      (λ k. wrote.0 k ++ sym (wrote.1 i.0) k) ∙ ap (λ j. text ++ lines_ahead j s n) (sym i.1) ∙ w.2

  pub last_left : (s' : Run) (text' : List ℕ) → Written false n text text' s s' → (model_of s'.inspection.now).lines ≡ (after_work (model_of b.now) (items_of (source.Work (model_of b.now).indices) work)).lines
  last_left s' text' wrote =
      let w = h.lines in
      let i = some_left (length work) s.reader.place w.0 h.within w.1 in
      sym (wrote.2 i.0) ∙ ap (λ j. left_ahead j s) (sym i.1) ∙ w.3
