-- Sides made from lists: what has place, what stays, and how opposites are laid in. Assumes nothing.
use Rattle.std.proofs.Common.{length-drop, ◌≡◌, ℕ, suc, ◌+◌, ◌-◌, ◌<◌, ◌≤◌, Bool, true, false, not, cond, leb, List, [], ◌∷◌, ◌++◌, length, get_or, take, drop, set, replicate, Some, None, Less, sym, refl, ap, ◌∙◌, append_assoc, arith, le-leb}
use Rattle.std.proofs.lemmas.List.{drop-replicate, length-append, take-append-drop, take_at, take_more}
use Rattle.std.proofs.Math.Seq.{set-append_seam}
use Rattle.std.specs.Ordering.{is_eq, is_lt}
use Rattle.ordered.specs.Unions.{fitting, insert}
use Rattle.std.specs.List.{AllByRecursion as All}
use Rattle.ordered.proofs.Ascending.{ascending_cons, ascending_head, ascending_tail}
use Rattle.ordered.proofs.Uniting.{insert_ascends, union_ascends, union_none}
use Rattle.clauses.specs.declared.literals.Literal.{Literal}
use Rattle.clauses.specs.declared.lines.Side.{Side}
use Rattle.clauses.specs.Lines.{literals, side_for, side_of, zero}
use Rattle.clauses.specs.Literals.{literal_order, literal_rank, opposite, same}
use Rattle.clauses.specs.Sides.{ascends, join, opposites, without}

-- what does not fit is no side
pub not_fitting : (xs : List Literal) → None ≡ fitting (length xs) 16 → None ≡ side_for xs
not_fitting xs e = by-test (leb (length xs) 16) e
  where
    by-test : (b : Bool) → None ≡ cond b (Some (length xs)) None → None ≡ cond b (Some (side_of xs)) None
    by-test true h = let z : ◌≡◌ {A = ℕ} 0 1 = cc in absurd (omega arith)
    by-test false h = refl

abbrev side : ℕ → List Literal → Side
side n places = record { count = n; places = places }

-- places that hold these literals first and zeros after
pub fitting_side : (xs places : List Literal) (n : ℕ) → Some n ≡ fitting (length xs) 16 → take n places ≡ xs → drop n places ≡ drop n (replicate 16 zero) → Some (record { count = n; places = places }) ≡ side_for xs
fitting_side xs places n e front rest = by-test (leb (length xs) 16) e
  where
    by-test : (b : Bool) → Some n ≡ cond b (Some (length xs)) None → Some (side n places) ≡ cond b (Some (side_of xs)) None
    by-test true h =
        let same : n ≡ length xs = cc in
        let laid : places ≡ xs ++ replicate (16 - n) zero = sym (take-append-drop n places) ∙ (λ i. front i ++ (rest ∙ drop-replicate n 16 zero) i) in
        ap Some ((λ i. side n (laid i)) ∙ (λ i. side (same i) (xs ++ replicate (16 - same i) zero)))
    by-test false h = let z : ◌≡◌ {A = ℕ} 0 1 = cc in absurd (omega arith)

-- the literals of a side that was made from a list
pub literals_of : (xs : List Literal) → literals (side_of xs) ≡ xs
literals_of xs = take_at xs (replicate (16 - length xs) zero) (length xs) refl

pub side_fits : (xs : List Literal) → length xs ≤ 16 → side_for xs ≡ Some (side_of xs)
side_fits xs h = ap (λ b. cond b (Some (side_of xs)) None) (le-leb (length xs) 16 h)

-- laying in one more
pub insert_length : (x : Literal) (ys : List Literal) → length (insert literal_rank x ys) ≤ suc (length ys)
insert_length x [] = omega arith
insert_length x (y ∷ ys) = by_tests (is_lt (literal_rank x y)) (is_eq (literal_rank x y)) (insert_length x ys)
  where
    by_tests : (a b : Bool) → length (insert literal_rank x ys) ≤ suc (length ys) → length (cond a (x ∷ y ∷ ys) (cond b (y ∷ ys) (y ∷ insert literal_rank x ys))) ≤ suc (length (y ∷ ys))
    by_tests true b h = omega arith
    by_tests false true h = omega arith
    by_tests false false h = omega arith

pub opposites_ascend : (xs : List Literal) → ascends (opposites xs) ≡ true
opposites_ascend [] = refl
opposites_ascend (x ∷ xs) = insert_ascends literal_order (opposite x) (opposites xs) (opposites_ascend xs)

pub opposites_length : (xs : List Literal) → length (opposites xs) ≤ length xs
opposites_length [] = omega arith
opposites_length (x ∷ xs) = omega (arith, insert_length (opposite x) (opposites xs), opposites_length xs)

pub one_fits : (x : Literal) (ys : List Literal) → length ys < 16 → side_for (insert literal_rank x ys) ≡ Some (side_of (insert literal_rank x ys))
one_fits x ys few = side_fits (insert literal_rank x ys) (omega (arith, insert_length x ys))

-- the opposite of the first literal, laid into those of the others
pub one_opposite : (items others : List Literal) (o : Literal) → 1 ≤ length items → others ≡ opposites (drop 1 items) → o ≡ opposite (get_or items 0 zero) → insert literal_rank o others ≡ opposites items
one_opposite [] others o some is first = absurd (omega arith)
one_opposite (x ∷ xs) others o some is first = λ i. insert literal_rank (first i) (is i)

-- and the side that they make
pub one_laid : (items others : List Literal) (o : Literal) (made : Side) → 1 ≤ length items → length items ≤ 16 → others ≡ opposites (drop 1 items) → o ≡ opposite (get_or items 0 zero) → Some made ≡ side_for (insert literal_rank o others) → made ≡ side_of (opposites items)
one_laid items others o made some most is first e =
    let few : length others < 16 = omega (arith, ap length is, opposites_length (drop 1 items), length-drop 1 items) in
    let fits = one_fits o others few in
    let all = one_opposite items others o some is first in
    cc

pub no_opposite : (items : List Literal) → length items < 1 → side_of [] ≡ side_of (opposites items)
no_opposite [] none = refl
no_opposite (x ∷ xs) none = absurd (omega arith)

-- the places beyond hold 0
pub rest_zero : (n : ℕ) → drop n (replicate 16 zero) ≡ replicate (16 - n) zero
rest_zero n = drop-replicate n 16 zero

-- one more literal behind the others
pub pushed : (xs : List Literal) (x : Literal) → length xs < 16 → set (side_of xs).places (length xs) x ≡ (side_of (xs ++ x ∷ [])).places
pushed xs x room =
    let one_less : 16 - length xs ≡ suc (16 - length (xs ++ x ∷ [])) = omega (arith, length-append xs (x ∷ [])) in
    ap (λ m. set (xs ++ replicate m zero) (length xs) x) one_less
    ∙ set-append_seam xs zero (replicate (16 - length (xs ++ x ∷ [])) zero) x
    ∙ sym (append_assoc xs (x ∷ []) (replicate (16 - length (xs ++ x ∷ [])) zero))

without-append : (gone : Literal) (xs ys : List Literal) → without gone (xs ++ ys) ≡ without gone xs ++ without gone ys
without-append gone [] ys = refl
without-append gone (x ∷ xs) ys = by-test (same x gone) (without-append gone xs ys)
  where
    by-test : (b : Bool) → without gone (xs ++ ys) ≡ without gone xs ++ without gone ys → cond b (without gone (xs ++ ys)) (x ∷ without gone (xs ++ ys)) ≡ cond b (without gone xs) (x ∷ without gone xs) ++ without gone ys
    by-test true e = e
    by-test false e = ap (λ l. x ∷ l) e

turned : (t b : Bool) (front back : List Literal) → b ≡ not t → cond b front back ≡ cond t back front
turned true b front back e = ap (λ s. cond s front back) e
turned false b front back e = ap (λ s. cond s front back) e

-- the next literal stays, b, or it is the one that goes
pub kept_more : (gone : Literal) (xs : List Literal) (i : ℕ) (b : Bool) → i < length xs → b ≡ not (same (get_or xs i zero) gone) → without gone (take i xs) ++ cond b (get_or xs i zero ∷ []) [] ≡ without gone (take (i + 1) xs)
kept_more gone xs i b lt e =
    let x = get_or xs i zero in
    ap (λ ys. without gone (take i xs) ++ ys) (turned (same x gone) b (x ∷ []) [] e)
    ∙ sym (ap (without gone) (take_more xs i zero lt) ∙ without-append gone (take i xs) (x ∷ []))

pub without_length : (gone : Literal) (xs : List Literal) → length (without gone xs) ≤ length xs
without_length gone [] = omega arith
without_length gone (x ∷ xs) = by-test (same x gone) (without_length gone xs)
  where
    by-test : (b : Bool) → length (without gone xs) ≤ length xs → length (cond b (without gone xs) (x ∷ without gone xs)) ≤ suc (length xs)
    by-test true h = omega arith
    by-test false h = omega arith

-- what holds of each literal still does
all_without : (l : Literal) (P : Literal → Type 0) (xs : List Literal) → All P xs → All P (without l xs)
all_without l P [] h = h
all_without l P (x ∷ xs) h = by-test (same x l) (all_without l P xs h.1)
  where
    by-test : (b : Bool) → All P (without l xs) → All P (cond b (without l xs) (x ∷ without l xs))
    by-test true rest = rest
    by-test false rest = (h.0, rest)

-- a side without a literal still ascends
pub without_ascends : (l : Literal) (xs : List Literal) → ascends xs ≡ true → ascends (without l xs) ≡ true
without_ascends l [] up = refl
without_ascends l (x ∷ xs) up = by-test (same x l) (without_ascends l xs (ascending_tail literal_rank x xs up))
  where
    by-test : (b : Bool) → ascends (without l xs) ≡ true → ascends (cond b (without l xs) (x ∷ without l xs)) ≡ true
    by-test true rest = rest
    by-test false rest = ascending_cons literal_rank x (without l xs) (all_without l (λ y. literal_rank x y ≡ Less) xs (ascending_head literal_order x xs up)) rest

-- two literals always have place
pub pair_side : (g w : Literal) (side : Side) → Some side ≡ side_for (join (g ∷ []) (w ∷ [])) → literals side ≡ join (g ∷ []) (w ∷ [])
pair_side g w side e =
    let both : Some side ≡ Some (side_of (join (g ∷ []) (w ∷ []))) = e ∙ one_fits g (w ∷ []) (omega arith) in
    let is : side ≡ side_of (join (g ∷ []) (w ∷ [])) = cc in
    ap literals is ∙ literals_of (join (g ∷ []) (w ∷ []))

pub pair_ascends : (g w : Literal) → ascends (join (g ∷ []) (w ∷ [])) ≡ true
pair_ascends g w = insert_ascends literal_order g (w ∷ []) refl

-- a join has no more literals than both
pub join_length : (xs ys : List Literal) → length (join xs ys) ≤ length xs + length ys
join_length [] ys = omega arith
join_length (x ∷ xs) ys = omega (arith, insert_length x (join xs ys), join_length xs ys)

pub join_ascends : (xs ys : List Literal) → ascends ys ≡ true → ascends (join xs ys) ≡ true
join_ascends xs ys up = union_ascends literal_order xs ys up

pub join_none : (xs ys : List Literal) → length xs ≡ 0 → length ys ≡ 0 → join xs ys ≡ []
join_none xs ys = union_none literal_rank xs ys

-- what a join that fits is
pub ruleset joins = (literal_order, not_fitting, fitting_side)

-- what the sides of opposites, and of a goal and its wait, are
pub ruleset made_sides = (literals_of, no_opposite, one_fits, opposites_ascend, opposites_length, pair_ascends, pair_side)
