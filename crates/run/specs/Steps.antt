-- What one step of the run says of the fields before it and after it. Assumes nothing.
use Rattle.std.specs.Prelude.{◌≡◌, ℕ, suc, ◌+◌, ◌<◌, ◌≤◌, Bool, true, false, List, [], ◌++◌, length, Some, None, Ok, Err, Option, Result}
use Rattle.fields.specs.declared.shapes.Source.TheVariants as source
use Rattle.fields.specs.declared.shapes.Source.{Source}
use Rattle.fields.specs.declared.walk.Reader.{Reader}
use Rattle.clauses.specs.declared.lines.Line.{Line}
use Rattle.clauses.specs.declared.refusals.Refusal.{Refusal}
use Rattle.calls.specs.Calls.{Answer, Call, after, answer, judged_as, verdict}
use Rattle.inspection.specs.Told.{told_line}
use Rattle.calls.specs.Calls as call
use Rattle.inspection.specs.declared.opening.Opening.{Opening}
use Rattle.inspection.specs.declared.state.Inspection.{Inspection}
use Rattle.calls.specs.Models.{Model, fresh, overlay}
use Rattle.inspection.specs.Held.{model_of}
use Rattle.run.specs.declared.faults.Fault.{Fault}
use Rattle.run.specs.declared.outcomes.Outcome.{Outcome}
use Rattle.run.specs.declared.outcomes.Outcome.TheVariants as came
use Rattle.run.specs.declared.runs.Run.{Run}
use Rattle.run.specs.declared.faults.Refused.{Refused}
use Rattle.run.specs.Faults.{refused_number}
use Rattle.run.specs.Files.{items_from}
use Rattle.run.specs.Runs.{Book, after_work, taken, stopped, book_of, rules_from}
use Rattle.run.specs.Text.{line_text, no_text, verdict_text, work_text}

-- from one moment of an inspection to another: it has no line less, and the lines that it has by then lie over the
-- table that it had, which the same reference lends
pub record LinesGrow (s s' : Inspection) : Type 0 where
  pub more : length (model_of s).lines ≤ length (model_of s').lines
  pub table : s'.lines.now ≡ overlay (model_of s').lines s.lines.now
  pub lent : s'.lines.ghost_name ≡ s.lines.ghost_name

-- from one moment of a run to another: it is of the same file, and its lines grow
pub record Continues (run run' : Run) : Type 0 where
  pub bytes : run'.reader.bytes.now ≡ run.reader.bytes.now
  pub file : run'.reader.source ≡ run.reader.source
  pub lines : LinesGrow run.inspection.now run'.inspection.now
  pub borrowed : run'.inspection.ghost_name ≡ run.inspection.ghost_name

-- a field moves the place from p on to q, of so many bytes
abbrev pub Onward : Result (Option ℕ) Refused → ℕ → ℕ → ℕ → Type 0
Onward (Ok (Some line)) bytes p q = (p < q) × (q ≤ bytes)
Onward (Ok None) bytes p q = Unit {0}
Onward (Err e) bytes p q = (p < q) × (q ≤ bytes)

-- ---- the book

-- a reader of a book that is begun
pub record InBook (r : Reader) : Type 0 where
  pub book : r.source ≡ source.Book
  pub begun : 0 < r.place
  pub within : r.place ≤ length r.bytes.now

-- the rules that a run has before it, at most k of them, after n others
abbrev pub ahead : ℕ → Run → ℕ → Book
ahead k run n = rules_from (model_of run.inspection.now) n (items_from k source.Book run.reader.bytes.now run.reader.place)

-- the book that a reader has before it, in the place of a begin that left this model
abbrev pub rest_of : Reader → Model → Book
rest_of reader m = rules_from m 0 (items_from (length reader.bytes.now) source.Book reader.bytes.now reader.place)

-- from one moment to another: a rule was taken in, there was none, or it is refused
abbrev pub OneRule : Result (Option ℕ) Refused → Run → Run → Type 0
OneRule (Ok (Some line)) run run' = (k n : ℕ) → ahead (suc k) run n ≡ ahead k run' (n + 1)
OneRule (Ok None) run run' = (k n : ℕ) → ahead (suc k) run n ≡ taken (model_of run'.inspection.now) n
OneRule (Err e) run run' = (k n : ℕ) → ahead (suc k) run n ≡ stopped (model_of run'.inspection.now).lines (refused_number e) run.reader.place

-- all the rules after a begin
abbrev pub told_book : Result ℕ Fault → Model → Book
told_book (Ok rules) m = taken m rules
told_book (Err fault) m = stopped m.lines (refused_number fault.refused) fault.offset

abbrev pub AllRules : Result ℕ Fault → Run → Run → Type 0
AllRules x run run' = (k : ℕ) → length run.reader.bytes.now < run.reader.place + k → ahead k run 0 ≡ told_book x (model_of run'.inspection.now)

-- the begin of a book whose lines go into a table with this much room
abbrev pub Begun : Result Opening Refused → ℕ → Reader → Reader → Type 0
Begun (Ok o) room r r' = (o.room ≡ room) × (0 < r'.place) × (r'.place ≤ length r.bytes.now) × ((k : ℕ) → book_of room (items_from (suc k) source.Book r.bytes.now 0) ≡ rules_from (fresh o.indices room) 0 (items_from k source.Book r.bytes.now r'.place))
Begun (Err e) room r r' = (k : ℕ) → book_of room (items_from (suc k) source.Book r.bytes.now 0) ≡ stopped [] (refused_number e) 0

-- ---- the work

abbrev pub IsWork : Source → Type 0
IsWork source.Book = ⊥
IsWork (source.Work k) = Unit {0}

-- the lines of the report that a run has before it, at most j of them, the first numbered i
abbrev pub lines_ahead : ℕ → Run → ℕ → List ℕ
lines_ahead j run i = work_text (model_of run.inspection.now) i (items_from j run.reader.source run.reader.bytes.now run.reader.place)

-- the lines of the table in the end
abbrev pub left_ahead : ℕ → Run → List Line
left_ahead j run = (after_work (model_of run.inspection.now) (items_from j run.reader.source run.reader.bytes.now run.reader.place)).lines

-- what a field came to, with its number and values
abbrev pub outcome : Outcome → Answer
outcome (came.Line n) = call.line n
outcome (came.Judged j) = judged_as j

-- from one moment to another: a line was made, there was no field, or it is refused
abbrev pub OneLine : Result (Option ℕ) Refused → Run → Run → Type 0
OneLine (Ok (Some n)) run run' = ((j i : ℕ) → lines_ahead (suc j) run i ≡ line_text i n ++ lines_ahead j run' (i + 1)) × ((j : ℕ) → left_ahead (suc j) run ≡ left_ahead j run')
OneLine (Ok None) run run' = ((j i : ℕ) → lines_ahead (suc j) run i ≡ verdict_text (answer (model_of run'.inspection.now) verdict)) × ((j : ℕ) → left_ahead (suc j) run ≡ (model_of run'.inspection.now).lines)
OneLine (Err e) run run' = ((j i : ℕ) → lines_ahead (suc j) run i ≡ no_text i (refused_number e) run.reader.place ++ lines_ahead j run' (i + 1)) × ((j : ℕ) → left_ahead (suc j) run ≡ left_ahead j run')

-- a call was made, and left a model as it should
abbrev pub Did : Option Call → Result ℕ Refusal → Model → Model → Type 0
Did None r m m' = ⊥
Did (Some c) r m m' = (told_line r ≡ answer m c) × (m' ≡ after m c)

-- the line of field i was written, or there is no field more and nothing was written
abbrev pub Written : Bool → ℕ → List ℕ → List ℕ → Run → Run → Type 0
Written true i text text' run run' = ((run.reader.place < run'.reader.place) × (run'.reader.place ≤ length run.reader.bytes.now)) × ((j : ℕ) → text' ++ lines_ahead j run' (i + 1) ≡ text ++ lines_ahead (suc j) run i) × ((j : ℕ) → left_ahead (suc j) run ≡ left_ahead j run')
Written false i text text' run run' = (text' ≡ text) × ((j : ℕ) → lines_ahead (suc j) run i ≡ verdict_text (answer (model_of run'.inspection.now) verdict)) × ((j : ℕ) → left_ahead (suc j) run ≡ (model_of run'.inspection.now).lines)
