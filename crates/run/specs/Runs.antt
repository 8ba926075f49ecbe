-- What the fields of a book and of a work do. Assumes nothing.
use Rattle.std.specs.Prelude.{ℕ, ◌+◌, List, [], ◌∷◌, Some, None, Option}
use Rattle.std.specs.Option.{option_map}
use Rattle.clauses.specs.declared.lines.Line.{Line}
use Rattle.clauses.specs.Refusals.{first_of}
use Rattle.fields.specs.declared.shapes.Source.TheVariants as source
use Rattle.fields.specs.Shown.{Shown, begin, rule, resolve, rewrite, enter, stay, table_plan, ring}
use Rattle.truth.specs.Systems.{System}
use Rattle.plans.specs.Rings.{ring_causes, ring_system}
use Rattle.plans.specs.Tables.{table_causes, table_system}
use Rattle.calls.specs.Calls.{Answer, Call, refused, after, answer, causes, leaves, open_causes}
use Rattle.calls.specs.Calls as call
use Rattle.calls.specs.Models.{Model, fresh}
use Rattle.run.specs.Files.{Item, shown, flawed, items_of}
use Rattle.run.specs.Parts.{literals_of, numbers_of, pairs_of}

-- ---- the book

-- a book taken in, with the count of its rules; or the lines made by then, and the number and the offset of
-- the refusal that ends it
pub data Book : Type 0 where
  taken : Model → ℕ → Book
  stopped : List Line → ℕ → ℕ → Book

-- the call of a rule field, whose sides are bytes
abbrev pub rule_call : ℕ → ℕ → List ℕ → List ℕ → Call
rule_call kind index left right = call.rule kind index (literals_of left) (literals_of right)

-- the call of a book's field, after the begin
abbrev pub book_call : Shown → Option Call
book_call (begin k) = None
book_call (rule kind index left right) = Some (rule_call kind index left right)
book_call (resolve a b l) = None
book_call (rewrite n) = None
book_call (enter n) = None
book_call (stay n) = None
book_call (table_plan n targets truths moves) = None
book_call (ring n back truths) = None

-- the rules from here on, after n others
abbrev pub rules_from : Model → ℕ → List Item → Book
rules_from m n [] = taken m n
rules_from m n (flawed p c ∷ items) = stopped m.lines c p
rules_from m n (shown p f ∷ items) = elim (book_call f) [ None ↦ stopped m.lines 4 p | Some c ↦ elim (first_of (causes m c)) [ None ↦ rules_from (leaves m c) (n + 1) items | Some r ↦ stopped m.lines r p ] ]

-- the count of indices that a begin has
abbrev pub indices_of : Shown → Option ℕ
indices_of (begin k) = Some k
indices_of (rule kind index left right) = None
indices_of (resolve a b l) = None
indices_of (rewrite n) = None
indices_of (enter n) = None
indices_of (stay n) = None
indices_of (table_plan n targets truths moves) = None
indices_of (ring n back truths) = None

-- a book whose lines go into a table with this much room
abbrev pub book_of : ℕ → List Item → Book
book_of room [] = stopped [] 4 0
book_of room (flawed p c ∷ items) = stopped [] c p
book_of room (shown p f ∷ items) = elim (indices_of f) [ None ↦ stopped [] 4 p | Some k ↦ elim (first_of (open_causes k room)) [ None ↦ rules_from (fresh k room) 0 items | Some c ↦ stopped [] c p ] ]

-- ---- the work

-- the call of a work's field
abbrev pub work_call : Shown → Option Call
work_call (begin k) = None
work_call (rule kind index left right) = None
work_call (resolve a b l) = Some (call.resolve a b (record { 0 = l }))
work_call (rewrite n) = Some (call.rewrite n)
work_call (enter n) = Some (call.enter n)
work_call (stay n) = Some (call.stay n)
work_call (table_plan n targets truths moves) = None
work_call (ring n back truths) = None

-- what a field asks for: a call, or one on a plan that is refused by this number before it is judged
pub data Request : Type 0 where
  asks : Call → Request
  denied : ℕ → Request

abbrev pub reply : Model → Request → Answer
reply m (asks c) = answer m c
reply m (denied n) = refused n

abbrev pub afterwards : Model → Request → Model
afterwards m (asks c) = after m c
afterwards m (denied n) = m

-- a plan is judged with 256 marks, if nothing stands against it
abbrev pub on_plan : Option ℕ → System → Request
on_plan None sys = asks (call.judge sys 256)
on_plan (Some n) sys = denied n

-- a table plan of n states for k indices, its lists as bytes
abbrev pub table_request : ℕ → ℕ → List ℕ → List ℕ → List ℕ → Request
table_request k n targets truths moves = on_plan (first_of (table_causes n k (numbers_of targets) (pairs_of truths) (pairs_of moves))) (table_system n k (numbers_of targets) (pairs_of truths) (pairs_of moves))

abbrev pub ring_request : ℕ → ℕ → ℕ → List ℕ → Request
ring_request k n back truths = on_plan (first_of (ring_causes n k back (pairs_of truths))) (ring_system n k back (pairs_of truths))

-- what a work's field asks of an inspection with k indices
abbrev pub request_of : ℕ → Shown → Option Request
request_of k (begin n) = option_map asks (work_call (begin n))
request_of k (rule kind index left right) = option_map asks (work_call (rule kind index left right))
request_of k (resolve a b l) = option_map asks (work_call (resolve a b l))
request_of k (rewrite n) = option_map asks (work_call (rewrite n))
request_of k (enter n) = option_map asks (work_call (enter n))
request_of k (stay n) = option_map asks (work_call (stay n))
request_of k (table_plan n targets truths moves) = Some (table_request k n targets truths moves)
request_of k (ring n back truths) = Some (ring_request k n back truths)

-- what the fields of a work leave
abbrev pub after_work : Model → List Item → Model
after_work m [] = m
after_work m (flawed p c ∷ items) = after_work m items
after_work m (shown p f ∷ items) = elim (work_call f) [ None ↦ after_work m items | Some c ↦ after_work (after m c) items ]

-- the lines that a book and a work leave in the table
abbrev pub made_by : List ℕ → Book → List Line
made_by work (taken m n) = (after_work m (items_of (source.Work m.indices) work)).lines
made_by work (stopped lines c p) = lines
