-- What stands at a place of a file. Assumes nothing.
use Rattle.std.specs.Prelude.{ℕ, ◌+◌, cond, List, length, drop, Some, None, Ok, Err, Option, Result, ◌==◌, nat_lt}
use Rattle.fields.specs.declared.flaws.ReaderFault.{ReaderFault}
use Rattle.fields.specs.declared.shapes.Field.{Field}
use Rattle.fields.specs.declared.shapes.Source.{Source}
use Rattle.fields.specs.declared.shapes.Source.TheVariants.{Book, Work}
use Rattle.fields.specs.Flaws.{flaw_number}
use Rattle.fields.specs.Shown.{Shown, shown_of}
use Rattle.fields.specs.Layouts.{split, layout, placed}

-- the end; or a field, or the number of a refusal, each with the place after it
pub data Parsed : Type 0 where
  ended : Parsed
  shows : Shown → ℕ → Parsed
  refuses : ℕ → ℕ → Parsed

-- a book of no bytes lacks its begin, and is refused by 4
abbrev pub at_end : Source → ℕ → Parsed
at_end Book p = cond (p == 0) (refuses 4 p) ended
at_end (Work indices) p = ended

-- a field or a refusal's number, with the place after it
abbrev pub with_place : Result Shown ℕ → ℕ → Parsed
with_place (Ok f) after = shows f after
with_place (Err n) after = refuses n after

-- the field at p of n bytes, by its tag and value; one that isn't whole is refused by 1, and takes what is left
abbrev pub field_at : Source → ℕ → ℕ → Option (ℕ × List ℕ) → Parsed
field_at source n p None = refuses 1 n
field_at source n p (Some t) = with_place (placed source p (layout source t.0 t.1)) (p + 3 + length t.1)

-- what stands at the place p of these bytes
abbrev pub parse : Source → List ℕ → ℕ → Parsed
parse source bs p = cond (nat_lt p (length bs)) (field_at source (length bs) p (split (drop p bs))) (at_end source p)

-- the place after what stands at p
abbrev pub place_after : ℕ → Parsed → ℕ
place_after p ended = p
place_after p (shows f after) = after
place_after p (refuses n after) = after

abbrev pub Answer : Type 0
Answer = Result (Option Field) ReaderFault

-- an answer, with the reader's place after it
abbrev pub told : Answer → ℕ → Parsed
told (Ok None) after = ended
told (Ok (Some f)) after = shows (shown_of f) after
told (Err e) after = refuses (flaw_number e.flaw) after

-- of the field that is shown, if one is
abbrev pub Shows : Answer → (Shown → Type 0) → Type 0
Shows (Ok None) P = Unit {0}
Shows (Ok (Some f)) P = P (shown_of f)
Shows (Err e) P = Unit {0}

-- of the refusal, if it is one
abbrev pub Refuses : Answer → (ReaderFault → Type 0) → Type 0
Refuses (Ok f) P = Unit {0}
Refuses (Err e) P = P e
