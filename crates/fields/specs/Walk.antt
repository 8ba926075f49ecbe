-- What a reader has before it, and how its place moves. Assumes nothing.
use Rattle.std.specs.Prelude.{◌≡◌, ℕ, ◌<◌, ◌≤◌, List, drop, Some, None, Ok, Err}
use Rattle.fields.specs.declared.shapes.Source.{Source}
use Rattle.fields.specs.declared.shapes.Source.TheVariants.{Book, Work}
use Rattle.fields.specs.declared.walk.Reader.{Reader}
use Rattle.fields.specs.Parse.{Parsed, Answer, parse}

-- what stands at the reader's place
abbrev pub parsed : Reader → Parsed
parsed reader = parse reader.source reader.bytes.now reader.place

-- the bytes from the reader's place on
abbrev pub ahead : Reader → List ℕ
ahead reader = drop reader.place reader.bytes.now

-- of n bytes, from the place p to q: on, and not past the end
abbrev pub Onward : ℕ → ℕ → ℕ → Type 0
Onward n p q = (p < q) × (q ≤ n)

-- every answer but the end moves on, save for the refusal of a book of no bytes
abbrev pub Moves : Source → Answer → ℕ → ℕ → ℕ → Type 0
Moves source (Ok None) n p q = (n ≤ p) × (q ≡ p)
Moves source (Ok (Some f)) n p q = Onward n p q
Moves Book (Err e) n p q = 0 < n → Onward n p q
Moves (Work indices) (Err e) n p q = Onward n p q
