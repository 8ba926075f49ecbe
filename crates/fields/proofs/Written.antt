-- A field that is written is read again. Assumes nothing.
use Rattle.std.proofs.Common.{◌≡◌, ℕ, ◌+◌, ◌*◌, ◌/◌, ◌%◌, ◌<◌, true, cond, eqb, List, [], ◌++◌, length, drop, Some, None, Ok, Err, Result, sym, ap, ◌∙◌, append-nil, arith}
use Rattle.std.proofs.lemmas.List.{length-append, length-drop, take_at, drop_at}
use Rattle.std.proofs.lemmas.Bool.{le-leb, lt-ltb, false≢true}
use Rattle.std.specs.Option.{option_map}
use Rattle.fields.specs.declared.shapes.Source.{Source}
use Rattle.fields.specs.declared.shapes.Source.TheVariants.{Book, Work}
use Rattle.fields.specs.Shown.{Shown, begin, rule, resolve, rewrite, enter, stay, table_plan, ring, tag_of, value_of, side_bytes, pair_bytes, plan_bytes, ring_bytes, written, bytes_of, Paired, WholePairs, Fitting}
use Rattle.fields.specs.Layouts.{and_then, cut, split, counted, ends, rule_of, pairs, last_pairs, plan_pairs, table_plan_of, ring_of, or_length, layout, stands, placed}
use Rattle.fields.specs.Parse.{Parsed, shows, refuses, field_at, with_place, at_end, parse}

-- a whole is cut into its two parts
cut_at : (n : ℕ) (a b : List ℕ) → n ≡ length a → cut n (a ++ b) ≡ Some (a, b)
cut_at n a b e =
    let fits = le-leb n (length (a ++ b)) (omega (arith, length-append a b)) in
    λ i. cond (fits i) (Some (take_at a b n (sym e) i, drop_at a b n (sym e) i)) None

-- a whole field
split_written : (t : ℕ) (v rest : List ℕ) → split (written t v ++ rest) ≡ Some (t, v)
split_written t v rest = ap (option_map (λ p. (t, p.0))) (cut_at (length v / 256 * 256 + length v % 256) v rest (omega arith))

-- the layouts of a book
counted_side : (l r : List ℕ) → Paired l → counted (side_bytes l ++ r) ≡ Some (l, r)
counted_side l r p = cut_at (2 * (length l / 2)) l r (omega (arith, p.1))

rule_value : (k i : ℕ) (l r : List ℕ) → Paired l → Paired r → rule_of (value_of (rule k i l r)) ≡ Some (rule k i l r)
rule_value k i l r el er =
    let right : counted (side_bytes r) ≡ Some (r, []) = ap counted (sym (append-nil (side_bytes r))) ∙ counted_side r [] er in
    ap (λ o. and_then o (λ x. and_then (counted x.1) (ends k i x.0))) (counted_side l (side_bytes r) el) ∙ ap (λ o. and_then o (ends k i l)) right

-- the layouts of a work
number_again : (n : ℕ) → n / 256 * 256 + n % 256 ≡ n
number_again n = omega arith

pairs_again : (ps rest : List ℕ) → WholePairs ps → pairs (pair_bytes ps ++ rest) ≡ Some (ps, rest)
pairs_again ps rest w = cut_at (4 * (length ps / 4 / 256 * 256 + length ps / 4 % 256)) ps rest (omega (arith, w.2))

last_again : (ps : List ℕ) → WholePairs ps → last_pairs (pair_bytes ps) ≡ Some ps
last_again ps w = ap last_pairs (sym (append-nil (pair_bytes ps))) ∙ ap (λ o. and_then o (λ p. cond (eqb (length p.1) 0) (Some p.0) None)) (pairs_again ps [] w)

pub plan_again : (k n : ℕ) (targets truths moves : List ℕ) → length targets ≡ 2 * n * k → WholePairs truths → WholePairs moves → table_plan_of k (plan_bytes n targets truths moves) ≡ Some (table_plan n targets truths moves)
plan_again k n targets truths moves wide some last =
    let after = pair_bytes truths ++ pair_bytes moves in
    (λ i. and_then (cut (2 * number_again n i * k) (targets ++ after)) (plan_pairs (number_again n i)))
    ∙ ap (λ o. and_then o (plan_pairs n)) (cut_at (2 * n * k) targets after (sym wide))
    ∙ ap (λ o. and_then o (λ u. option_map (table_plan n targets u.0) (last_pairs u.1))) (pairs_again truths (pair_bytes moves) some)
    ∙ ap (option_map (table_plan n targets truths)) (last_again moves last)

pub ring_again : (n back : ℕ) (truths : List ℕ) → WholePairs truths → ring_of (ring_bytes n back truths) ≡ Some (ring n back truths)
ring_again n back truths w = λ i. option_map (ring (number_again n i) (number_again back i)) (last_again truths w i)

-- a field that may stand at a place is read from its tag and its value
layout_value : (s : Source) (p : ℕ) (f : Shown) → Fitting f → stands s p f ≡ true → placed s p (layout s (tag_of f) (value_of f)) ≡ Ok f
layout_value Book p (begin k) fits may = ap (λ b. cond b (Ok (begin k)) (Err 4)) may
layout_value Book p (rule k i l r) fits may = ap (λ o. placed Book p (or_length o)) (rule_value k i l r fits.0 fits.1) ∙ ap (λ b. cond b (Ok (rule k i l r)) (Err 4)) may
layout_value Book p (resolve a b l) fits may = absurd (false≢true may)
layout_value Book p (rewrite n) fits may = absurd (false≢true may)
layout_value Book p (enter n) fits may = absurd (false≢true may)
layout_value Book p (stay n) fits may = absurd (false≢true may)
layout_value Book p (table_plan n targets truths moves) fits may = absurd fits
layout_value Book p (ring n back truths) fits may = absurd fits
layout_value (Work k) p (begin c) fits may = absurd (false≢true may)
layout_value (Work k) p (rule c i l r) fits may = absurd (false≢true may)
layout_value (Work k) p (resolve a b l) fits may = λ i. Ok (resolve (number_again a i) (number_again b i) (number_again l i))
layout_value (Work k) p (rewrite n) fits may = ap (λ x. Ok (rewrite x)) (number_again n)
layout_value (Work k) p (enter n) fits may = ap (λ x. Ok (enter x)) (number_again n)
layout_value (Work k) p (stay n) fits may = ap (λ x. Ok (stay x)) (number_again n)
layout_value (Work k) p (table_plan n targets truths moves) fits may = absurd fits
layout_value (Work k) p (ring n back truths) fits may = absurd fits

-- what is read of a whole field, and of one that isn't
pub parse_whole : (s : Source) (bs : List ℕ) (p t : ℕ) (v : List ℕ) (x : Result Shown ℕ) → p < length bs → Some (t, v) ≡ split (drop p bs) → x ≡ placed s p (layout s t v) → with_place x (p + 3 + length v) ≡ parse s bs p
parse_whole s bs p t v x inside parts is = ap (λ y. with_place y (p + 3 + length v)) is ∙ sym (λ i. cond (lt-ltb p (length bs) inside i) (field_at s (length bs) p (sym parts i)) (at_end s p))

pub parse_broken : (s : Source) (bs : List ℕ) (p : ℕ) → p < length bs → None ≡ split (drop p bs) → refuses 1 (length bs) ≡ parse s bs p
parse_broken s bs p inside parts = sym (λ i. cond (lt-ltb p (length bs) inside i) (field_at s (length bs) p (sym parts i)) (at_end s p))

-- what is written is read again
pub parse_written : (s : Source) (bs : List ℕ) (p : ℕ) (x : Parsed) → x ≡ parse s bs p → (f : Shown) (rest : List ℕ) → drop p bs ≡ bytes_of f ++ rest → Fitting f → stands s p f ≡ true → x ≡ shows f (p + length (bytes_of f))
parse_written s bs p x is f rest e fits may =
    let inside : p < length bs = omega (arith, length-drop p bs, ap length e) in
    let past : p + 3 + length (value_of f) ≡ p + length (bytes_of f) = omega arith in
    let parts = ap split e ∙ split_written (tag_of f) (value_of f) rest in
    is ∙ (λ i. cond (lt-ltb p (length bs) inside i) (field_at s (length bs) p (parts i)) (at_end s p)) ∙ (λ i. with_place (layout_value s p f fits may i) (past i))
