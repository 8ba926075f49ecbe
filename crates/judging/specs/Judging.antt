-- What judging the rules of a system comes to. Assumes nothing.
use Rattle.std.specs.Prelude.{◌≡◌, ℕ, ◌+◌, ◌<◌, true, cond, not, ◌||◌, List, [], ◌∷◌, length, Some, None, Option, ◌==◌, nat_lt, slice_index_or}
use Rattle.clauses.specs.declared.lines.Line.{Line}
use Rattle.clauses.specs.Lines.{blank}
use Rattle.clauses.specs.Refusals.{Cause}
use Rattle.truth.specs.Systems.{System}
use Rattle.truth.specs.Truth.{Breaks, Keeps, Says}
use Rattle.truth.specs.Decided.{Fits}
use Rattle.truth.specs.Deciding.{broken_at}
use Rattle.judging.specs.declared.judgements.Judgement.{Judgement}
use Rattle.judging.specs.declared.judgements.Judgement.TheVariants.{Kept, Broken}

-- ---- in words

-- the line of this number is a rule
abbrev pub IsRule : List Line → ℕ → Type 0
IsRule lines n = (n < length lines) × ((slice_index_or lines n blank).mark ≡ true)

-- kept: every rule is; broken n s: the rule n is at s, at no lower state, and no lower rule is at all
abbrev pub Judged : System → List Line → Judgement → Type 0
Judged sys lines Kept = (n : ℕ) → IsRule lines n → Keeps sys (slice_index_or lines n blank)
Judged sys lines (Broken n s) =
    IsRule lines n
    × Breaks sys (slice_index_or lines n blank) s
    × ((t : ℕ) → t < s → Says sys (slice_index_or lines n blank) t)
    × ((m : ℕ) → m < n → IsRule lines m → Keeps sys (slice_index_or lines m blank))

-- the judgement is this one and no other
abbrev pub Exactly : System → List Line → Judgement → Type 0
Exactly sys lines j = Judged sys lines j × ((i : Judgement) → Judged sys lines i → i ≡ j)

-- the index of every line, where it has one, is an index of the system
abbrev pub AllFit : System → List Line → Type 0
AllFit sys lines = (n : ℕ) → n < length lines → Fits sys (slice_index_or lines n blank).kind

-- ---- computed

-- the lowest broken rule, counted from i, with the lowest state at which it is; else what comes after
abbrev pub or_later : ℕ → Option ℕ → Judgement → Judgement
or_later i None later = later
or_later i (Some s) later = Broken i s

abbrev pub judgement_from : ℕ → System → List Line → Judgement
judgement_from i sys [] = Kept
judgement_from i sys (x ∷ xs) = cond x.mark (or_later i (broken_at sys x) (judgement_from (i + 1) sys xs)) (judgement_from (i + 1) sys xs)

abbrev pub judgement : System → List Line → Judgement
judgement sys lines = judgement_from 0 sys lines

-- ---- what stands against it: marks for k indices, so many bytes of them
abbrev pub judge_causes : ℕ → ℕ → System → List Cause
judge_causes k bytes sys = (6, nat_lt bytes sys.states) ∷ (19, nat_lt 256 sys.states || not (sys.indices == k)) ∷ []
