-- What is read of bytes is written as them, and is whole and short. Assumes nothing.
use Rattle.std.proofs.Common.{◌≡◌, ℕ, suc, ◌+◌, ◌*◌, ◌/◌, ◌%◌, ◌<◌, ◌≤◌, Bool, true, false, nat_le, cond, eqb, List, [], ◌∷◌, ◌++◌, length, get_or, drop, IfSome, IfOk, Some, None, Ok, Err, Option, Result, sym, refl, ap, ◌∙◌, subst, append-nil, arith, Fits, w8}
use Rattle.std.proofs.lemmas.List.{length-append, length-take-le, take-append-drop, drop_at, nil_from_length, get_or-append-add}
use Rattle.std.proofs.lemmas.Bool.{leb-true, eqb-true}
use Rattle.std.specs.Option.{option_map}
use Rattle.fields.specs.declared.flaws.Flaw.{Flaw}
use Rattle.fields.specs.declared.shapes.Field.{Field}
use Rattle.fields.specs.declared.shapes.Source.{Source}
use Rattle.fields.specs.declared.shapes.Source.TheVariants.{Book, Work}
use Rattle.fields.specs.Shown.{Shown, resolve, rewrite, enter, stay, table_plan, ring, shown_of, tag_of, side_bytes, number_bytes, resolve_bytes, pair_bytes, plan_bytes, ring_bytes, written, Reads, Paired, WholePairs, Fitting, FittingIn}
use Rattle.fields.specs.Layouts.{and_then, cut, split, counted, ends, begin_of, rule_of, line_of, resolve_of, numbered, pairs, last_pairs, plan_pairs, table_plan_of, ring_of, or_length, book_layout, work_layout, layout, stands, placed, told_flaw}

-- each number of a list is a byte
abbrev pub Bytes : List ℕ → Type 0
Bytes xs = (k : ℕ) → Fits w8 (get_or xs k 0)

-- what holds of a second thing that is read, where it follows from what holds of the first
then_reads : {X Y : Type 0} (o : Option X) (f : X → Option Y) (P : X → Type 0) (Q : Y → Type 0) → IfSome o P → ((x : X) → P x → IfSome (f x) Q) → IfSome (and_then o f) Q
then_reads None f P Q h next = tt
then_reads (Some x) f P Q h next = next x h

map_reads : {X Y : Type 0} (o : Option X) (f : X → Y) (P : X → Type 0) (Q : Y → Type 0) → IfSome o P → ((x : X) → P x → Q (f x)) → IfSome (option_map f o) Q
map_reads None f P Q h next = tt
map_reads (Some x) f P Q h next = next x h

-- what holds of a thing that is read only where a test passes
test_reads : {X : Type 0} (b : Bool) (x : X) (Q : X → Type 0) → (b ≡ true → Q x) → IfSome (cond b (Some x) None) Q
test_reads true x Q h = h refl
test_reads false x Q h = tt

-- what holds of whatever is read
of_read : {X : Type 0} (o : Option X) (P : X → Type 0) → IfSome o P → (x : X) → Some x ≡ o → P x
of_read {X} o P h x is = subst (λ (o : Option X). IfSome o P) (sym is) h

-- the bytes behind a part
bytes_after : (bs a b : List ℕ) → bs ≡ a ++ b → Bytes bs → Bytes b
bytes_after bs a b e all k = subst (λ n. Fits w8 n) (ap (λ xs. get_or xs (length a + k) 0) e ∙ get_or-append-add a b k 0) (all (length a + k))

-- what each part that is read is, with what follows it
abbrev Cut : ℕ → List ℕ → List ℕ × List ℕ → Type 0
Cut n bs p = (length p.0 ≡ n) × (bs ≡ p.0 ++ p.1)

abbrev Number : List ℕ → ℕ × List ℕ → Type 0
Number bs n = (n.0 < 65536) × (bs ≡ number_bytes n.0 ++ n.1)

abbrev Side : List ℕ → List ℕ × List ℕ → Type 0
Side bs p = Paired p.0 × (length p.0 ≤ 510) × (bs ≡ side_bytes p.0 ++ p.1)

abbrev Pairs : List ℕ → List ℕ × List ℕ → Type 0
Pairs bs p = WholePairs p.0 × (bs ≡ pair_bytes p.0 ++ p.1)

abbrev LastPairs : List ℕ → List ℕ → Type 0
LastPairs bs ps = WholePairs ps × (bs ≡ pair_bytes ps)

-- a tag and a value stand in front of the bytes, and the value isn't long
abbrev Front : List ℕ → ℕ × List ℕ → Type 0
Front bs w = (bs ≡ written w.0 w.1 ++ drop (3 + length w.1) bs) × (length w.1 ≤ 65535)

cut_reads : (n : ℕ) (bs : List ℕ) → IfSome (cut n bs) (Cut n bs)
cut_reads n bs = test_reads _ _ (Cut n bs) (λ fits. (length-take-le n bs (leb-true _ _ fits), sym (take-append-drop n bs)))

-- two bytes are a number
number_reads : (h l : ℕ) → Fits w8 h → Fits w8 l → (h * 256 + l < 65536) × (h ∷ l ∷ [] ≡ number_bytes (h * 256 + l))
number_reads h l high low =
    let top : h ≡ (h * 256 + l) / 256 = omega arith in
    let under : l ≡ (h * 256 + l) % 256 = omega arith in
    (omega arith, λ i. top i ∷ under i ∷ [])

numbered_reads : (bs : List ℕ) → Bytes bs → IfSome (numbered bs) (Number bs)
numbered_reads [] all = tt
numbered_reads (h ∷ []) all = tt
numbered_reads (h ∷ l ∷ bs) all =
    let n = number_reads h l (all 0) (all 1) in
    (n.0, ap (λ xs. xs ++ bs) n.1)

-- a whole field
split_reads : (bs : List ℕ) → Bytes bs → IfSome (split bs) (Front bs)
split_reads [] all = tt
split_reads (t ∷ bs) all = then_reads _ _ _ _ (numbered_reads bs (λ k. all (suc k))) value
  where
    value : (n : ℕ × List ℕ) → Number bs n → IfSome (option_map (λ p. (t, p.0)) (cut n.0 n.1)) (Front (t ∷ bs))
    value n first = map_reads _ _ _ (Front (t ∷ bs)) (cut_reads n.0 n.1) (λ (p : List ℕ × List ℕ) (parts : Cut n.0 n.1 p).
        let three : 3 + length p.0 ≡ suc (suc (suc (length p.0))) = omega arith in
        let whole : bs ≡ number_bytes (length p.0) ++ (p.0 ++ p.1) = first.1 ∙ (λ i. number_bytes (sym parts.0 i) ++ parts.1 i) in
        let past : drop (3 + length p.0) (t ∷ bs) ≡ p.1 = (λ i. drop (three i) (t ∷ whole i)) ∙ drop_at p.0 p.1 (length p.0) refl in
        ((λ i. t ∷ whole i) ∙ ap (λ xs. written t p.0 ++ xs) (sym past), omega (arith, first.0, parts.0)))

pub split_front : (bs : List ℕ) → Bytes bs → (t : ℕ) (v : List ℕ) → Some (t, v) ≡ split bs → bs ≡ written t v ++ drop (3 + length v) bs
split_front bs all t v is = (of_read (split bs) _ (split_reads bs all) (t, v) is).0

pub split_short : (bs : List ℕ) → Bytes bs → (t : ℕ) (v : List ℕ) → Some (t, v) ≡ split bs → length v ≤ 65535
split_short bs all t v is = (of_read (split bs) _ (split_reads bs all) (t, v) is).1

-- a side of a rule
counted_reads : (bs : List ℕ) → Bytes bs → IfSome (counted bs) (Side bs)
counted_reads [] all = tt
counted_reads (n ∷ bs) all = side (cut (2 * n) bs) (cut_reads (2 * n) bs)
  where
    side : (o : Option (List ℕ × List ℕ)) → IfSome o (Cut (2 * n) bs) → IfSome o (Side (n ∷ bs))
    side None parts = tt
    side (Some p) parts =
        let few : n < 256 = omega (arith, all 0) in
        let half : n ≡ length p.0 / 2 = omega arith in
        ((n, parts.0), omega arith, λ i. half i ∷ parts.1 i)

-- the layouts of a book
begin_reads : (v : List ℕ) → IfSome (begin_of v) (Reads Fitting 1 v)
begin_reads [] = tt
begin_reads (k ∷ []) = record { sound = (refl, refl); whole = tt; short = tt }
begin_reads (k ∷ x ∷ bs) = tt

second_side : (k x : ℕ) (sides : List ℕ) → Bytes sides → (l : List ℕ × List ℕ) → Side sides l → IfSome (and_then (counted l.1) (ends k x l.0)) (Reads Fitting 2 (k ∷ x ∷ sides))
second_side k x sides all l left =
    then_reads (counted l.1) (ends k x l.0) (Side l.1) _ (counted_reads l.1 (bytes_after sides (side_bytes l.0) l.1 left.2 all)) (λ (r : List ℕ × List ℕ) (right : Side l.1 r).
    test_reads _ _ (Reads Fitting 2 (k ∷ x ∷ sides)) (λ over.
    let none : r.1 ≡ [] = nil_from_length r.1 (eqb-true _ _ over) in
    let both = left.2 ∙ ap (λ xs. side_bytes l.0 ++ xs) (right.2 ∙ ap (λ xs. side_bytes r.0 ++ xs) none ∙ append-nil _) in
    record { sound = (refl, ap (λ xs. k ∷ x ∷ xs) both); whole = (left.0, right.0); short = (left.1, right.1) }))

rule_reads : (v : List ℕ) → Bytes v → IfSome (rule_of v) (Reads Fitting 2 v)
rule_reads [] all = tt
rule_reads (k ∷ []) all = tt
rule_reads (k ∷ x ∷ sides) all =
    let rest : Bytes sides = λ j. all (suc (suc j)) in
    then_reads _ _ _ (Reads Fitting 2 (k ∷ x ∷ sides)) (counted_reads sides rest) (second_side k x sides rest)

-- the layouts of a work
line_reads : (v : List ℕ) → Bytes v → IfSome (line_of v) (λ n. (n < 65536) × (v ≡ number_bytes n))
line_reads [] all = tt
line_reads (h ∷ []) all = tt
line_reads (h ∷ l ∷ []) all = number_reads h l (all 0) (all 1)
line_reads (h ∷ l ∷ x ∷ bs) all = test_reads (eqb (length (h ∷ l ∷ x ∷ bs)) 2) _ _ (λ two. absurd (omega (arith, eqb-true _ _ two)))

resolve_reads : (v : List ℕ) → Bytes v → IfSome (resolve_of v) (λ n. (n.0 < 65536) × (n.1 < 65536) × (n.2 < 65536) × (v ≡ resolve_bytes n.0 n.1 n.2))
resolve_reads [] all = tt
resolve_reads (a ∷ []) all = tt
resolve_reads (a ∷ b ∷ []) all = tt
resolve_reads (a ∷ b ∷ c ∷ []) all = tt
resolve_reads (a ∷ b ∷ c ∷ d ∷ []) all = tt
resolve_reads (a ∷ b ∷ c ∷ d ∷ e ∷ []) all = tt
resolve_reads (a ∷ b ∷ c ∷ d ∷ e ∷ f ∷ []) all =
    let one = number_reads a b (all 0) (all 1) in
    let two = number_reads c d (all 2) (all 3) in
    let three = number_reads e f (all 4) (all 5) in
    (one.0, two.0, three.0, λ i. one.1 i ++ two.1 i ++ three.1 i)
resolve_reads (a ∷ b ∷ c ∷ d ∷ e ∷ f ∷ x ∷ bs) all = test_reads (eqb (length (a ∷ b ∷ c ∷ d ∷ e ∷ f ∷ x ∷ bs)) 6) _ _ (λ six. absurd (omega (arith, eqb-true _ _ six)))

-- the pairs that follow their count
pairs_reads : (bs : List ℕ) → Bytes bs → IfSome (pairs bs) (Pairs bs)
pairs_reads bs all = then_reads _ _ _ _ (numbered_reads bs all) listed
  where
    listed : (n : ℕ × List ℕ) → Number bs n → IfSome (cut (4 * n.0) n.1) (Pairs bs)
    listed n first = parts (cut (4 * n.0) n.1) (cut_reads (4 * n.0) n.1)
      where
        parts : (o : Option (List ℕ × List ℕ)) → IfSome o (Cut (4 * n.0) n.1) → IfSome o (Pairs bs)
        parts None h = tt
        parts (Some p) h =
            let count : n.0 ≡ length p.0 / 4 = omega (arith, h.0) in
            ((n.0, first.0, h.0), first.1 ∙ (λ i. number_bytes (count i) ++ h.1 i))

last_pairs_reads : (bs : List ℕ) → Bytes bs → IfSome (last_pairs bs) (LastPairs bs)
last_pairs_reads bs all = then_reads _ _ _ _ (pairs_reads bs all) (λ (p : List ℕ × List ℕ) (h : Pairs bs p). test_reads _ _ (LastPairs bs) (λ over.
    (h.0, h.1 ∙ ap (λ xs. pair_bytes p.0 ++ xs) (nil_from_length p.1 (eqb-true _ _ over)) ∙ append-nil _)))

-- the parts of a ring, one after the other
module _ (k : ℕ) (v : List ℕ) (all : Bytes v) (few : length v ≤ 65535) where
  abbrev IsRing : Shown → Type 0
  IsRing = Reads (FittingIn (Work k)) 14 v

  after_states : (n : ℕ × List ℕ) → Number v n → IfSome (and_then (numbered n.1) (λ b. option_map (ring n.0 b.0) (last_pairs b.1))) IsRing
  after_states n first =
      let more = bytes_after v (number_bytes n.0) n.1 first.1 all in
      then_reads (numbered n.1) (λ b. option_map (ring n.0 b.0) (last_pairs b.1)) (Number n.1) IsRing (numbered_reads n.1 more) (λ (b : ℕ × List ℕ) (next : Number n.1 b).
      map_reads _ _ _ IsRing (last_pairs_reads b.1 (bytes_after n.1 (number_bytes b.0) b.1 next.1 more)) (λ (ps : List ℕ) (last : LastPairs b.1 ps).
      let whole : v ≡ ring_bytes n.0 b.0 ps = first.1 ∙ ap (λ xs. number_bytes n.0 ++ xs) (next.1 ∙ ap (λ xs. number_bytes b.0 ++ xs) last.1) in
      let fits : length (ring_bytes n.0 b.0 ps) < 65536 = omega (arith, ap length whole) in
      record { sound = (refl, whole); whole = (first.0, next.0, last.0, fits); short = omega arith }))

  pub ring_shown : (f : Shown) → Some f ≡ ring_of v → Reads (FittingIn (Work k)) 14 v f
  ring_shown = of_read (ring_of v) _ (then_reads _ _ _ IsRing (numbered_reads v all) after_states)

-- the parts of a table plan, one after the other
module _ (k : ℕ) (v : List ℕ) (all : Bytes v) (few : length v ≤ 65535) where
  abbrev IsPlan : Shown → Type 0
  IsPlan = Reads (FittingIn (Work k)) 13 v

  after_truths : (n : ℕ) → n < 65536 → (targets truths bs : List ℕ) → length targets ≡ 2 * n * k → WholePairs truths → Bytes bs → v ≡ number_bytes n ++ (targets ++ (pair_bytes truths ++ bs)) → IfSome (option_map (table_plan n targets truths) (last_pairs bs)) IsPlan
  after_truths n small targets truths bs wide held here so_far = map_reads _ _ _ IsPlan (last_pairs_reads bs here) (λ (moves : List ℕ) (last : LastPairs bs moves).
      let whole : v ≡ plan_bytes n targets truths moves = so_far ∙ ap (λ xs. number_bytes n ++ (targets ++ (pair_bytes truths ++ xs))) last.1 in
      let after = length-append (pair_bytes truths) (pair_bytes moves) in
      let long = length-append targets (pair_bytes truths ++ pair_bytes moves) in
      let same = ap length whole in
      record { sound = (refl, whole); whole = (small, wide, held, last.0, omega arith); short = (omega arith, omega arith, omega arith) })

  after_targets : (n : ℕ) → n < 65536 → (t : List ℕ × List ℕ) → length t.0 ≡ 2 * n * k → Bytes t.1 → v ≡ number_bytes n ++ (t.0 ++ t.1) → IfSome (plan_pairs n t) IsPlan
  after_targets n small t wide here so_far = then_reads _ _ _ IsPlan (pairs_reads t.1 here) (λ (u : List ℕ × List ℕ) (third : Pairs t.1 u).
      after_truths n small t.0 u.0 u.1 wide third.0 (bytes_after t.1 (pair_bytes u.0) u.1 third.1 here) (so_far ∙ ap (λ xs. number_bytes n ++ (t.0 ++ xs)) third.1))

  after_number : (n : ℕ × List ℕ) → Number v n → IfSome (and_then (cut (2 * n.0 * k) n.1) (plan_pairs n.0)) IsPlan
  after_number n first =
      let more = bytes_after v (number_bytes n.0) n.1 first.1 all in
      then_reads (cut (2 * n.0 * k) n.1) (plan_pairs n.0) (Cut (2 * n.0 * k) n.1) IsPlan (cut_reads (2 * n.0 * k) n.1) (λ (t : List ℕ × List ℕ) (second : Cut (2 * n.0 * k) n.1 t).
      after_targets n.0 first.0 t second.0 (bytes_after n.1 t.0 t.1 second.1 more) (first.1 ∙ ap (λ xs. number_bytes n.0 ++ xs) second.1))

  pub table_plan_shown : (f : Shown) → Some f ≡ table_plan_of k v → Reads (FittingIn (Work k)) 13 v f
  table_plan_shown = of_read (table_plan_of k v) _ (then_reads _ _ _ IsPlan (numbered_reads v all) after_number)

-- a field of a tag and a value
length_reads : (o : Option Shown) (Q : Shown → Type 0) → IfSome o Q → IfOk (or_length o) Q
length_reads None Q h = tt
length_reads (Some f) Q h = h

-- where a tag is the one that is asked for, what holds of its layout; elsewhere what holds of the others
tag_reads : (P : ℕ → Shown → Type 0) (t n : ℕ) (o : Option Shown) (x : Result Shown ℕ) → IfSome o (P n) → IfOk x (P t) → IfOk (cond (eqb t n) (or_length o) x) (P t)
tag_reads P t n o x here other = by-test (eqb t n) refl
  where
    by-test : (b : Bool) → eqb t n ≡ b → IfOk (cond b (or_length o) x) (P t)
    by-test true same = length_reads o (P t) (subst (λ m. IfSome o (P m)) (sym (eqb-true t n same)) here)
    by-test false _ = other

book_reads : (t : ℕ) (v : List ℕ) → Bytes v → IfOk (book_layout t v) (Reads Fitting t v)
book_reads t v all = tag_reads (λ n. Reads Fitting n v) t 1 _ _ (begin_reads v) (tag_reads (λ n. Reads Fitting n v) t 2 _ _ (rule_reads v all) tt)

module _ (v : List ℕ) (all : Bytes v) where
  -- a field of a work, by its tag
  abbrev AtWork : ℕ → Shown → Type 0
  AtWork t f = Reads Fitting t v f × (nat_le 3 (tag_of f) ≡ true)

  resolved : IfSome (option_map (λ n. resolve n.0 n.1 n.2) (resolve_of v)) (AtWork 3)
  resolved = map_reads _ _ _ (AtWork 3) (resolve_reads v all) (λ (n : ℕ × ℕ × ℕ) (h : (n.0 < 65536) × (n.1 < 65536) × (n.2 < 65536) × (v ≡ resolve_bytes n.0 n.1 n.2)). (record { sound = (refl, h.3); whole = (h.0, h.1, h.2); short = tt }, refl))

  lined : (t : ℕ) (shape : ℕ → Shown) → ((n : ℕ) → (n < 65536) × (v ≡ number_bytes n) → AtWork t (shape n)) → IfSome (option_map shape (line_of v)) (AtWork t)
  lined t shape h = map_reads _ _ _ (AtWork t) (line_reads v all) h

  work_reads : (t : ℕ) → IfOk (work_layout t v) (AtWork t)
  work_reads t =
      tag_reads AtWork t 3 _ _ resolved
      (tag_reads AtWork t 4 _ _ (lined 4 rewrite (λ n h. (record { sound = (refl, h.1); whole = h.0; short = tt }, refl)))
      (tag_reads AtWork t 5 _ _ (lined 5 enter (λ n h. (record { sound = (refl, h.1); whole = h.0; short = tt }, refl)))
      (tag_reads AtWork t 6 _ _ (lined 6 stay (λ n h. (record { sound = (refl, h.1); whole = h.0; short = tt }, refl))) tt)))

-- a field that is shown may stand at its place
placed_reads : (p : ℕ) (x : Result Shown ℕ) (P : Shown → Type 0) → IfOk x P → IfOk (placed Book p x) (λ f. P f × (stands Book p f ≡ true))
placed_reads p (Err n) P h = tt
placed_reads p (Ok f) P h = by-test (stands Book p f) refl
  where
    by-test : (b : Bool) → stands Book p f ≡ b → IfOk {E = ℕ} (cond b (Ok f) (Err 4)) (λ g. P g × (stands Book p g ≡ true))
    by-test true may = (h, may)
    by-test false _ = tt

layout_reads : (s : Source) (p t : ℕ) (v : List ℕ) → Bytes v → IfOk (placed s p (layout s t v)) (λ f. Reads Fitting t v f × (stands s p f ≡ true))
layout_reads Book p t v all = placed_reads p (book_layout t v) (Reads Fitting t v) (book_reads t v all)
layout_reads (Work k) p t v all = work_reads v all t

told_reads : (r : Result Field Flaw) (P Q : Shown → Type 0) → IfOk (told_flaw r) (λ f. P f × Q f) → IfOk r (λ f. P (shown_of f)) × IfOk r (λ f. Q (shown_of f))
told_reads (Ok f) P Q h = h
told_reads (Err e) P Q h = (tt, tt)

pub field_reads : (s : Source) (p t : ℕ) (v : List ℕ) → Bytes v → (r : Result Field Flaw) → told_flaw r ≡ placed s p (layout s t v) → IfOk r (λ f. Reads Fitting t v (shown_of f)) × IfOk r (λ f. stands s p (shown_of f) ≡ true)
field_reads s p t v all r told = told_reads r (Reads Fitting t v) (λ f. stands s p f ≡ true) (subst (λ x. IfOk x (λ f. Reads Fitting t v f × (stands s p f ≡ true))) (sym told) (layout_reads s p t v all))
