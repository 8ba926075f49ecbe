-- The number of each flaw. Assumes nothing.
use Rattle.std.specs.Prelude.{ℕ}
use Rattle.fields.specs.declared.flaws.Flaw.{Flaw}
use Rattle.fields.specs.declared.flaws.Flaw.TheVariants.{PastEnd, UnknownTag, WrongLength, MisplacedBegin}

abbrev pub flaw_number : Flaw → ℕ
flaw_number PastEnd = 1
flaw_number UnknownTag = 2
flaw_number WrongLength = 3
flaw_number MisplacedBegin = 4
