-- The report, byte by byte. Assumes nothing.
use Rattle.std.specs.Prelude.{◌≡◌, ℕ, ◌+◌, cond, List, [], ◌∷◌, ◌++◌, length, Some, None, codes, decimal, Option, Result, nat_le, String, string_bytes, OnOk}
use Rattle.fields.specs.declared.shapes.Source.TheVariants as source
use Rattle.calls.specs.Calls.{Answer, line, impossible, undecided, kept, broken, opens, closes, drops, unmet, told, refused, after, answer, verdict}
use Rattle.clauses.specs.declared.lines.Line.{Line}
use Rattle.calls.specs.Models.{Model, overlay}
use Rattle.run.specs.Files.{Item, shown, flawed, items_of}
use Rattle.run.specs.Runs.{Book, taken, stopped, book_of, made_by, work_call}

-- where there is a result, the later text is the one before with these bytes after it
abbrev pub Appends : {X E A : Type 0} → Result X E → String A → String A → List ℕ → Type 0
Appends r text text' bytes = OnOk r (string_bytes text' ≡ string_bytes text ++ bytes)

abbrev pub book_text : ℕ → ℕ → List ℕ
book_text k rules = codes "book " ++ (decimal k ++ (codes " " ++ (decimal rules ++ codes "\n")))

abbrev pub book_no_text : ℕ → ℕ → List ℕ
book_no_text number offset = codes "book no " ++ (decimal number ++ (codes " " ++ (decimal offset ++ codes "\n")))

-- the field of this number in its file is refused
abbrev pub no_text : ℕ → ℕ → ℕ → List ℕ
no_text i number offset = decimal i ++ (codes " no " ++ (decimal number ++ (codes " " ++ (decimal offset ++ codes "\n"))))

-- it made a line
abbrev pub line_text : ℕ → ℕ → List ℕ
line_text i n = decimal i ++ (codes " line " ++ (decimal n ++ codes "\n"))

-- its plan keeps every rule
abbrev pub kept_text : ℕ → List ℕ
kept_text i = decimal i ++ codes " kept\n"

-- its plan breaks a rule at a state
abbrev pub broken_text : ℕ → ℕ → ℕ → List ℕ
broken_text i n s = decimal i ++ (codes " broken " ++ (decimal n ++ (codes " " ++ (decimal s ++ codes "\n"))))

-- what the field of this number, at this offset, came to
abbrev pub answer_text : ℕ → ℕ → Answer → List ℕ
answer_text i offset (line n) = line_text i n
answer_text i offset (refused number) = no_text i number offset
answer_text i offset kept = kept_text i
answer_text i offset (broken n s) = broken_text i n s
answer_text i offset (opens n) = []
answer_text i offset (closes n) = []
answer_text i offset (drops n) = []
answer_text i offset (unmet r) = []
answer_text i offset (told b) = []
answer_text i offset (impossible n) = []
answer_text i offset undecided = []

-- the last line
abbrev pub verdict_text : Answer → List ℕ
verdict_text (impossible n) = codes "impossible " ++ (decimal n ++ codes "\n")
verdict_text undecided = codes "undecided\n"
verdict_text (line n) = []
verdict_text kept = []
verdict_text (broken n s) = []
verdict_text (opens n) = []
verdict_text (closes n) = []
verdict_text (drops n) = []
verdict_text (unmet r) = []
verdict_text (told b) = []
verdict_text (refused n) = []

-- a line for each field of the work, the first of them numbered i, and the verdict
abbrev pub work_text : Model → ℕ → List Item → List ℕ
work_text m i [] = verdict_text (answer m verdict)
work_text m i (flawed p c ∷ items) = no_text i c p ++ work_text m (i + 1) items
work_text m i (shown p f ∷ items) = elim (work_call f) [ None ↦ work_text m (i + 1) items | Some c ↦ answer_text i p (answer m c) ++ work_text (after m c) (i + 1) items ]

-- a work after its book
abbrev pub run_text : List ℕ → Book → List ℕ
run_text work (stopped lines number offset) = book_no_text number offset
run_text work (taken m rules) = book_text m.indices rules ++ work_text m 0 (items_of (source.Work m.indices) work)

-- a file that is there and not too long
abbrev pub readable : Option (List ℕ) → Option (List ℕ)
readable None = None
readable (Some bytes) = cond (nat_le (length bytes) 65536) (Some bytes) None

abbrev pub read_text : ℕ → Option (List ℕ) → Option (List ℕ) → List ℕ
read_text room None work = codes "unread book\n"
read_text room (Some book) None = codes "unread work\n"
read_text room (Some book) (Some work) = run_text work (book_of room (items_of source.Book book))

-- the report of two files, with a table of this many lines
abbrev pub report : ℕ → Option (List ℕ) → Option (List ℕ) → List ℕ
report room book work = read_text room (readable book) (readable work)

-- the lines that the run leaves in the table
abbrev pub left_by : ℕ → Option (List ℕ) → Option (List ℕ) → List Line
left_by room None work = []
left_by room (Some book) None = []
left_by room (Some book) (Some work) = made_by work (book_of room (items_of source.Book book))

-- the table after the run, every byte of it
abbrev pub table_of : Option (List ℕ) → Option (List ℕ) → List Line → List Line
table_of book work table = overlay (left_by (length table) (readable book) (readable work)) table
