-- A verdict in words. Assumes nothing.
use Rattle.std.specs.Prelude.{ℕ, List, ◌++◌, codes, decimal}
use Rattle.inspection.specs.declared.verdicts.Verdict.{Verdict}
use Rattle.inspection.specs.declared.verdicts.Verdict.TheVariants.{Impossible, Undecided}

abbrev pub verdict_text : Verdict → List ℕ
verdict_text (Impossible n) = codes "impossible " ++ decimal n
verdict_text Undecided = codes "undecided"
