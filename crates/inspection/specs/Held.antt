-- What an inspection's record and table stand for, and the lines that it may have. Assumes nothing.
use Rattle.std.specs.Prelude.{◌≡◌, true, [], take}
use Rattle.clauses.specs.declared.lines.Line.{Line}
use Rattle.clauses.specs.Kinds.{kind_under}
use Rattle.calls.specs.Lawful.{lawful_line}
use Rattle.calls.specs.Models.{Model}
use Rattle.inspection.specs.declared.state.Inspection.{Inspection}
use Rattle.inspection.specs.Waits.{given_out}

abbrev pub model_of : Inspection → Model
model_of s = record { indices = s.indices; room = s.room; lines = take s.made s.lines.now; waits = given_out s.waits; loops = [] }

-- a line that a model may have: it is lawful there, and its index, where it has one, is one of the model's
pub record MayHave (m : Model) (x : Line) : Type 0 where
  pub lawful : lawful_line m.waits x ≡ true
  pub indexed : kind_under m.indices x.kind ≡ true
