-- What a field shows, and how it is written. Assumes nothing.
use Rattle.std.specs.Prelude.{◌≡◌, ℕ, ◌*◌, ◌/◌, ◌%◌, ◌<◌, ◌≤◌, List, [], ◌∷◌, ◌++◌, length}
use Rattle.fields.specs.declared.shapes.Field.{Field}
use Rattle.fields.specs.declared.shapes.Field.TheVariants.{Begin, Rule, Resolve, Rewrite, Enter, Stay, TablePlan, Ring}
use Rattle.fields.specs.declared.shapes.Source.{Source}
use Rattle.fields.specs.declared.shapes.Source.TheVariants.{Book, Work}

-- a begin has the count of indices; a rule its kind, its index, and the bytes of its left and right literals;
-- a resolve has two lines and a literal; a rewrite, an enter and a stay have a line each;
-- a table plan has its states, and the bytes of its targets, truths and free moves; a ring its states, the return state, and the bytes of its truths
pub data Shown : Type 0 where
  begin : ℕ → Shown
  rule : ℕ → ℕ → List ℕ → List ℕ → Shown
  resolve : ℕ → ℕ → ℕ → Shown
  rewrite : ℕ → Shown
  enter : ℕ → Shown
  stay : ℕ → Shown
  table_plan : ℕ → List ℕ → List ℕ → List ℕ → Shown
  ring : ℕ → ℕ → List ℕ → Shown

-- what the borrowed parts hold
abbrev pub shown_of : Field → Shown
shown_of (Begin k) = begin k
shown_of (Rule kind index left right) = rule kind index left.now right.now
shown_of (Resolve a b l) = resolve a b l
shown_of (Rewrite n) = rewrite n
shown_of (Enter n) = enter n
shown_of (Stay n) = stay n
shown_of (TablePlan n targets truths moves) = table_plan n targets.now truths.now moves.now
shown_of (Ring n back truths) = ring n back truths.now

-- how a field is written: its tag, and its value
abbrev pub tag_of : Shown → ℕ
tag_of (begin k) = 1
tag_of (rule kind index left right) = 2
tag_of (resolve a b l) = 3
tag_of (rewrite n) = 4
tag_of (enter n) = 5
tag_of (stay n) = 6
tag_of (table_plan n targets truths moves) = 13
tag_of (ring n back truths) = 14

-- a side: the count of its literals, and two bytes for each
abbrev pub side_bytes : List ℕ → List ℕ
side_bytes side = length side / 2 ∷ side

-- a number: two bytes, high byte first
abbrev pub number_bytes : ℕ → List ℕ
number_bytes n = n / 256 ∷ n % 256 ∷ []

abbrev pub resolve_bytes : ℕ → ℕ → ℕ → List ℕ
resolve_bytes a b l = number_bytes a ++ number_bytes b ++ number_bytes l

-- pairs: how many there are, and four bytes for each
abbrev pub pair_bytes : List ℕ → List ℕ
pair_bytes ps = number_bytes (length ps / 4) ++ ps

abbrev pub plan_bytes : ℕ → List ℕ → List ℕ → List ℕ → List ℕ
plan_bytes n targets truths moves = number_bytes n ++ (targets ++ (pair_bytes truths ++ pair_bytes moves))

abbrev pub ring_bytes : ℕ → ℕ → List ℕ → List ℕ
ring_bytes n back truths = number_bytes n ++ (number_bytes back ++ pair_bytes truths)

abbrev pub value_of : Shown → List ℕ
value_of (begin k) = k ∷ []
value_of (rule kind index left right) = kind ∷ index ∷ side_bytes left ++ side_bytes right
value_of (resolve a b l) = resolve_bytes a b l
value_of (rewrite n) = number_bytes n
value_of (enter n) = number_bytes n
value_of (stay n) = number_bytes n
value_of (table_plan n targets truths moves) = plan_bytes n targets truths moves
value_of (ring n back truths) = ring_bytes n back truths

-- a tag and a value as bytes: the tag, the length of the value in two bytes, high byte first, and the value
abbrev pub written : ℕ → List ℕ → List ℕ
written tag value = tag ∷ length value / 256 ∷ length value % 256 ∷ value

abbrev pub bytes_of : Shown → List ℕ
bytes_of f = written (tag_of f) (value_of f)

-- a tag and a value are those of a field
abbrev pub Says : Shown → ℕ → List ℕ → Type 0
Says f tag value = (tag ≡ tag_of f) × (value ≡ value_of f)

-- two bytes for each of n literals
abbrev pub Paired : List ℕ → Type 0
Paired side = (n : ℕ) × (length side ≡ 2 * n)

-- four bytes for each of m pairs, and the count fits two bytes
abbrev pub WholePairs : List ℕ → Type 0
WholePairs ps = (m : ℕ) × (m < 65536) × (length ps ≡ 4 * m)

-- the count of indices that the layouts of a file go by
abbrev pub indices_of : Source → ℕ
indices_of Book = 0
indices_of (Work indices) = indices

-- both sides of a rule hold whole literals, and a number fits two bytes; a plan is in no file yet
abbrev pub Fitting : Shown → Type 0
Fitting (begin k) = Unit {0}
Fitting (rule kind index left right) = Paired left × Paired right
Fitting (resolve a b l) = (a < 65536) × (b < 65536) × (l < 65536)
Fitting (rewrite n) = n < 65536
Fitting (enter n) = n < 65536
Fitting (stay n) = n < 65536
Fitting (table_plan n targets truths moves) = ⊥
Fitting (ring n back truths) = ⊥

-- a plan's numbers fit two bytes, a table plan has a target for each state and index, truths and moves are whole pairs, and the value is
-- no longer than its two bytes of length can say
abbrev pub FittingIn : Source → Shown → Type 0
FittingIn source (begin k) = Fitting (begin k)
FittingIn source (rule kind index left right) = Fitting (rule kind index left right)
FittingIn source (resolve a b l) = Fitting (resolve a b l)
FittingIn source (rewrite n) = Fitting (rewrite n)
FittingIn source (enter n) = Fitting (enter n)
FittingIn source (stay n) = Fitting (stay n)
FittingIn source (table_plan n targets truths moves) = (n < 65536) × (length targets ≡ 2 * n * indices_of source) × WholePairs truths × WholePairs moves × (length (plan_bytes n targets truths moves) < 65536)
FittingIn source (ring n back truths) = (n < 65536) × (back < 65536) × WholePairs truths × (length (ring_bytes n back truths) < 65536)

-- a count of literals is a byte, so a side has 510 bytes at most; no part of a plan is longer than a value
abbrev pub Short : Shown → Type 0
Short (begin k) = Unit {0}
Short (rule kind index left right) = (length left ≤ 510) × (length right ≤ 510)
Short (resolve a b l) = Unit {0}
Short (rewrite n) = Unit {0}
Short (enter n) = Unit {0}
Short (stay n) = Unit {0}
Short (table_plan n targets truths moves) = (length targets ≤ 65535) × (length truths ≤ 65535) × (length moves ≤ 65535)
Short (ring n back truths) = length truths ≤ 65535

-- a field that is read of a tag and a value: they are how it is written, it is whole in the sense of P, and no part of it is long
pub record Reads (P : Shown → Type 0) (tag : ℕ) (value : List ℕ) (f : Shown) : Type 0 where
  pub sound : Says f tag value
  pub whole : P f
  pub short : Short f
