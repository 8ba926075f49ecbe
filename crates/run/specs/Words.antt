-- What a file, a fault and an outcome are in the report's words. Assumes nothing.
use Rattle.std.specs.Prelude.{ℕ, List, ◌++◌, codes, decimal}
use Rattle.judging.specs.Texts.{judgement_text}
use Rattle.run.specs.Faults.{refused_number}
use Rattle.run.specs.declared.faults.Fault.{Fault}
use Rattle.run.specs.declared.faults.File.{File}
use Rattle.run.specs.declared.faults.File.TheVariants.{Book, Work}
use Rattle.run.specs.declared.outcomes.Outcome.{Outcome}
use Rattle.run.specs.declared.outcomes.Outcome.TheVariants.{Line, Judged}

abbrev pub file_text : File → List ℕ
file_text Book = codes "book"
file_text Work = codes "work"

-- the number of the refusal, and the offset of the field
abbrev pub fault_text : Fault → List ℕ
fault_text fault = codes "no " ++ (decimal (refused_number fault.refused) ++ (codes " " ++ decimal fault.offset))

abbrev pub outcome_text : Outcome → List ℕ
outcome_text (Line n) = codes "line " ++ decimal n
outcome_text (Judged judgement) = judgement_text judgement
