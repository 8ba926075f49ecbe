-- The search for the lowest refuting line, as the library's searches see it. Assumes nothing.
use Rattle.std.proofs.Common.{◌≡◌, ℕ, ◌+◌, Bool, true, false, cond, List, [], ◌∷◌, Some, None, Option, refl, ap, ◌∙◌}
use Rattle.std.specs.List.{position, position_from}
use Rattle.std.proofs.lemmas.Iterator.Adapters.{position_from-zero}
use Rattle.clauses.specs.declared.lines.Line.{Line}
use Rattle.clauses.specs.Lines.{refutes}
use Rattle.calls.specs.Calls.{Answer, lowest, impossible, undecided}

-- the answer by the first line that refutes
abbrev pub by_first : Option ℕ → Answer
by_first None = undecided
by_first (Some n) = impossible n

from : (i : ℕ) (xs : List Line) → by_first (position_from refutes i xs) ≡ lowest i xs
from i [] = refl
from i (x ∷ xs) = by-test (refutes x) (from (i + 1) xs)
  where
    by-test : (b : Bool) → by_first (position_from refutes (i + 1) xs) ≡ lowest (i + 1) xs → by_first (cond b (Some i) (position_from refutes (i + 1) xs)) ≡ cond b (impossible i) (lowest (i + 1) xs)
    by-test true later = refl
    by-test false later = later

pub lowest_first : (xs : List Line) (o : Option ℕ) → o ≡ position refutes xs → by_first o ≡ lowest 0 xs
lowest_first xs o e = ap by_first (e ∙ position_from-zero refutes xs) ∙ from 0 xs
