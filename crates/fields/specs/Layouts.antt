-- The parts of a field's bytes, and the layout of each tag. Assumes nothing.
use Rattle.std.specs.Prelude.{ℕ, ◌+◌, ◌*◌, Bool, cond, not, ◌&&◌, List, [], ◌∷◌, length, take, drop, Some, None, Ok, Err, Option, Result, ◌==◌, nat_le, slice_index}
use Rattle.std.specs.Option.{option_map}
use Rattle.fields.specs.declared.flaws.Flaw.{Flaw}
use Rattle.fields.specs.declared.shapes.Field.{Field}
use Rattle.fields.specs.declared.shapes.Source.{Source}
use Rattle.fields.specs.declared.shapes.Source.TheVariants.{Book, Work}
use Rattle.fields.specs.Flaws.{flaw_number}
use Rattle.fields.specs.Shown.{Shown, begin, rule, resolve, rewrite, enter, stay, table_plan, ring, shown_of, tag_of}

-- the first n of the bytes, and the others, where there are n
abbrev pub cut : ℕ → List ℕ → Option (List ℕ × List ℕ)
cut n bs = cond (nat_le n (length bs)) (Some (take n bs, drop n bs)) None

-- what follows where there is something
abbrev pub and_then : {X Y : Type 0} → Option X → (X → Option Y) → Option Y
and_then None f = None
and_then (Some x) f = f x

-- the number that the bytes begin with, and what follows it
abbrev pub numbered : List ℕ → Option (ℕ × List ℕ)
numbered [] = None
numbered (high ∷ []) = None
numbered (high ∷ low ∷ bs) = Some (high * 256 + low, bs)

-- the tag and the value of the field that the bytes begin with, where it is whole
abbrev pub split : List ℕ → Option (ℕ × List ℕ)
split [] = None
split (tag ∷ bs) = and_then (numbered bs) (λ n. option_map (λ p. (tag, p.0)) (cut n.0 n.1))

-- a side of a rule and what follows it: a count, and two bytes for each counted literal
abbrev pub counted : List ℕ → Option (List ℕ × List ℕ)
counted [] = None
counted (n ∷ bs) = cut (2 * n) bs

-- the value of a begin is one byte
abbrev pub begin_of : List ℕ → Option Shown
begin_of [] = None
begin_of (k ∷ []) = Some (begin k)
begin_of (k ∷ x ∷ bs) = None

-- nothing follows the second side
abbrev pub ends : ℕ → ℕ → List ℕ → List ℕ × List ℕ → Option Shown
ends kind index left r = cond (length r.1 == 0) (Some (rule kind index left r.0)) None

-- the value of a rule: kind, index and both sides
abbrev pub rule_of : List ℕ → Option Shown
rule_of [] = None
rule_of (kind ∷ []) = None
rule_of (kind ∷ index ∷ sides) = and_then (counted sides) (λ l. and_then (counted l.1) (ends kind index l.0))

-- the number at a place of a value: two bytes, high byte first
abbrev pub number_at : List ℕ → ℕ → ℕ
number_at value p = slice_index value p * 256 + slice_index value (p + 1)

-- the value of a resolve: two lines and a literal
abbrev pub resolve_of : List ℕ → Option (ℕ × ℕ × ℕ)
resolve_of value = cond (length value == 6) (Some (number_at value 0, number_at value 2, number_at value 4)) None

-- the value of a field that has one line
abbrev pub line_of : List ℕ → Option ℕ
line_of value = cond (length value == 2) (Some (number_at value 0)) None

-- the pairs that the bytes begin with, and what follows them: a count, and four bytes for each counted pair
abbrev pub pairs : List ℕ → Option (List ℕ × List ℕ)
pairs bs = and_then (numbered bs) (λ n. cut (4 * n.0) n.1)

-- pairs, and nothing after
abbrev pub last_pairs : List ℕ → Option (List ℕ)
last_pairs bs = and_then (pairs bs) (λ p. cond (length p.1 == 0) (Some p.0) None)

-- the truths and the free moves that follow the targets
abbrev pub plan_pairs : ℕ → List ℕ × List ℕ → Option Shown
plan_pairs n t = and_then (pairs t.1) (λ u. option_map (table_plan n t.0 u.0) (last_pairs u.1))

-- the value of a table plan: states, two bytes for the target of each state and index, truths and free moves
abbrev pub table_plan_of : ℕ → List ℕ → Option Shown
table_plan_of k value = and_then (numbered value) (λ n. and_then (cut (2 * n.0 * k) n.1) (plan_pairs n.0))

-- the value of a ring: states, the return state and truths
abbrev pub ring_of : List ℕ → Option Shown
ring_of value = and_then (numbered value) (λ n. and_then (numbered n.1) (λ b. option_map (ring n.0 b.0) (last_pairs b.1)))

abbrev pub or_length : Option Shown → Result Shown ℕ
or_length None = Err 3
or_length (Some f) = Ok f

-- the field of a tag and a value; 2 where the file has no such tag, and 3 where the value hasn't its layout
abbrev pub book_layout : ℕ → List ℕ → Result Shown ℕ
book_layout tag value = cond (tag == 1) (or_length (begin_of value)) (cond (tag == 2) (or_length (rule_of value)) (Err 2))

abbrev pub work_layout : ℕ → List ℕ → Result Shown ℕ
work_layout tag value =
    cond (tag == 3) (or_length (option_map (λ n. resolve n.0 n.1 n.2) (resolve_of value)))
    (cond (tag == 4) (or_length (option_map rewrite (line_of value)))
    (cond (tag == 5) (or_length (option_map enter (line_of value)))
    (cond (tag == 6) (or_length (option_map stay (line_of value))) (Err 2))))

abbrev pub layout : Source → ℕ → List ℕ → Result Shown ℕ
layout Book tag value = book_layout tag value
layout (Work indices) tag value = work_layout tag value

-- where a field may stand: a begin at the start of a book, a rule after it, and a field of a higher tag at any place of a work
abbrev pub stands : Source → ℕ → Shown → Bool
stands Book p f = cond (tag_of f == 1) (p == 0) (tag_of f == 2 && not (p == 0))
stands (Work indices) p f = nat_le 3 (tag_of f)

-- a field that may not stand at the place p of a book is refused by 4
abbrev pub placed : Source → ℕ → Result Shown ℕ → Result Shown ℕ
placed Book p (Ok f) = cond (stands Book p f) (Ok f) (Err 4)
placed Book p (Err n) = Err n
placed (Work indices) p x = x

-- a field that is shown, or the number of the flaw
abbrev pub told_flaw : Result Field Flaw → Result Shown ℕ
told_flaw (Ok f) = Ok (shown_of f)
told_flaw (Err e) = Err (flaw_number e)
