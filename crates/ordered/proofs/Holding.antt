-- What a list holds and where, what a binary search then answers, and that what ascending lists hold tells them apart. Assumes nothing.
use Rattle.std.proofs.Common.{◌≡◌, ℕ, zero, suc, ◌+◌, ◌<◌, ◌≤◌, Bool, true, false, cond, ◌&&◌, ◌||◌, List, [], ◌∷◌, length, get_or, is_some, IfSome, IfOk, Some, None, Ok, Err, Decides, Option, Result, Ordering, Less, Equal, Greater, sym, refl, ap, ◌∙◌, ⊎_elim, arith, MatchResult}
use Rattle.std.specs.Cmp.{IsTotalOrder, alike_right}
use Rattle.std.specs.Option.{option_map}
use Rattle.std.specs.Ordering.{is_eq, is_lt, ordering_index, ordering_reverse}
use Rattle.std.specs.List.{HoldsAt, list_all, AllByRecursion as All}
use Rattle.std.specs.List.Sorted.{IsBinarySearchResult, IsPartitionPoint, IsPartitionedBy, IsNonDecreasingBy}
use Rattle.std.specs.Result.{result_ok}
use Rattle.std.proofs.ByRecursion.{All-from_get_or, All-weaker, Decides-by_and}
use Rattle.std.proofs.lemmas.List.Sorted.{searchable_from_sorted}
use Rattle.std.proofs.lemmas.Bool.{false≢true, cases_Bool, cases_lt, cond-true, cond-false, or_from, or_left}
use Rattle.std.proofs.lemmas.Bool.Decides.{Decides-by_or}
use Rattle.std.proofs.lemmas.Cmp.{tied_itself}
use Rattle.ordered.specs.Lists.{ascending, count_below, holds, place, within}
use Rattle.ordered.proofs.Ascending.{equal_from_test, less_from_test, ascending_head, ascending_places, ascending_tail}

-- ---- at any comparison

module _ {X : Type 0} (cmp : X → X → Ordering) where
  -- a list holds x exactly if some place of it ties with x
  pub holds_decides : (xs : List X) (x : X) → Decides (holds cmp xs x) ((k : ℕ) × (k < length xs) × HoldsAt (λ y. cmp y x ≡ Equal) xs k)
  holds_decides xs x =
      Decides-by_or (λ y. is_eq (cmp y x)) (λ y. cmp y x ≡ Equal) (λ ys. holds cmp ys x) (λ y. (equal_from_test (cmp y x), ap is_eq)) refl (λ _ _. refl) xs

  -- a list is within another exactly if that holds each of its elements
  pub within_decides : (xs outer : List X) → Decides (within cmp xs outer) (All (λ x. holds cmp outer x ≡ true) xs)
  within_decides xs outer =
      Decides-by_and (holds cmp outer) (λ x. holds cmp outer x ≡ true) (λ ys. within cmp ys outer) (λ x. (λ e. e, λ e. e)) refl (λ _ _. refl) xs

  -- a list is within another where that holds each of its elements
  pub within_all : (xs outer : List X) → list_all (holds cmp outer) xs ≡ within cmp xs outer
  within_all [] outer = refl
  within_all (x ∷ xs) outer = ap (λ t. holds cmp outer x && t) (within_all xs outer)

  -- a place is found exactly where the list holds x
  pub place_holds : (xs : List X) (x : X) → is_some (place cmp xs x) ≡ holds cmp xs x
  place_holds [] x = refl
  place_holds (y ∷ ys) x = at (is_eq (cmp y x)) (place cmp ys x) (holds cmp ys x) (place_holds ys x)
    where
      at : (b : Bool) (p : Option ℕ) (h : Bool) → is_some p ≡ h → is_some (cond b (Some 0) (option_map suc p)) ≡ (b || h)
      at true p h e = refl
      at false None h e = e
      at false (Some i) h e = e

  pub found_holds : (xs : List X) (x : X) (r : Option ℕ) → r ≡ place cmp xs x → is_some r ≡ holds cmp xs x
  found_holds xs x r e = ap is_some e ∙ place_holds xs x

  -- no element that ties
  pub not_held : (xs : List X) (x : X) → All (λ y. is_eq (cmp y x) ≡ false) xs → holds cmp xs x ≡ false
  not_held [] x h = refl
  not_held (y ∷ ys) x h = or_from (is_eq (cmp y x)) (holds cmp ys x) h.0 (not_held ys x h.1)

  pub place_none : (xs : List X) (x : X) → All (λ y. is_eq (cmp y x) ≡ false) xs → place cmp xs x ≡ None
  place_none [] x h = refl
  place_none (y ∷ ys) x h = cond-false _ (Some 0) _ h.0 ∙ ap (option_map suc) (place_none ys x h.1)

  -- the first element that ties
  pub place_some : (xs : List X) (i : ℕ) (d x : X) → i < length xs → is_eq (cmp (get_or xs i d) x) ≡ true → ((k : ℕ) → k < i → is_eq (cmp (get_or xs k d) x) ≡ false) → place cmp xs x ≡ Some i
  place_some [] i d x lt h before = absurd (omega arith)
  place_some (y ∷ ys) zero d x lt h before = cond-true _ (Some 0) _ h
  place_some (y ∷ ys) (suc i) d x lt h before =
      cond-false _ (Some 0) _ (before 0 (omega arith))
      ∙ ap (option_map suc) (place_some ys i d x (omega arith) h (λ k l. before (suc k) (omega arith)))

-- ---- what a binary search answers

-- what an answer says of its place, at any answers of the comparison
pub found_there : {X : Type 0} (P : X → Type 0) (xs : List X) (r : Result ℕ ℕ) → MatchResult r (λ i. i < length xs) (λ i. i ≤ length xs) → IfOk r (HoldsAt P xs) → IfSome (result_ok r) (λ i. (i < length xs) × HoldsAt P xs i)
found_there P xs (Ok i) lt h = (lt, h)
found_there P xs (Err i) lt h = tt

module _ {X : Type 0} {R : X → X → Ordering} (o : IsTotalOrder R) where
  -- the answers of a binary search rise along an ascending list
  rising : (xs : List X) (x : X) → ascending R xs ≡ true → IsNonDecreasingBy (λ y. ordering_index (R y x)) xs
  rising xs x asc = searchable_from_sorted o (λ y. y) xs x (λ k d z l. ap is_lt (o.antisymm _ _ ∙ ap ordering_reverse (ascending_places o xs k (k + 1) d asc (omega arith) l)))

  -- where the list ascends, a binary search finds the place
  pub search_place : (xs : List X) (x : X) (r : Result ℕ ℕ) → MatchResult r (λ i. i < length xs) (λ i. i ≤ length xs) → IsBinarySearchResult (λ y. R y x) xs r → ascending R xs ≡ true → result_ok r ≡ place R xs x
  search_place xs x (Ok i) lt h asc =
      sym (place_some R xs i x x lt (ap is_eq (h x))
      (λ k l. ap is_eq (sym (alike_right o _ x _ (h x)) ∙ ascending_places o xs k i x asc l lt)))
  search_place xs x (Err i) lt h asc =
      let parts = h (rising xs x asc) in
      sym (place_none R xs x (All-from_get_or (λ y. is_eq (R y x) ≡ false) xs x
      (λ k l. ⊎_elim (λ low. ap is_eq (parts.0 k x (omega arith) low)) (λ high. ap is_eq (parts.1 k x high l)) (cases_lt k i))))

-- a place before which all are below x, and from which on none is, counts what is below x
pub count_parted : {X : Type 0} (cmp : X → X → Ordering) (xs : List X) (x : X) (i : ℕ) → i ≤ length xs → IsPartitionPoint (λ y. is_lt (cmp y x) ≡ true) (λ y. is_lt (cmp y x) ≡ false) xs i → i ≡ count_below cmp xs x
count_parted cmp [] x i end parted = omega arith
count_parted cmp (y ∷ ys) x zero end parted =
    count_parted cmp ys x zero (omega arith) (λ k d l m. absurd (omega arith), λ k d l m. parted.1 (suc k) d (omega arith) (omega arith))
    ∙ sym (cond-false (is_lt (cmp y x)) (suc (count_below cmp ys x)) (count_below cmp ys x) (parted.1 zero x (omega arith) (omega arith)))
count_parted cmp (y ∷ ys) x (suc i) end parted =
    ap suc (count_parted cmp ys x i (omega arith) (λ k d l m. parted.0 (suc k) d (omega arith) (omega arith), λ k d l m. parted.1 (suc k) d (omega arith) (omega arith)))
    ∙ sym (cond-true (is_lt (cmp y x)) (suc (count_below cmp ys x)) (count_below cmp ys x) (parted.0 zero x (omega arith) (omega arith)))

-- in an ascending list, what is before an element below x is below x
pub parted_below : {X : Type 0} {R : X → X → Ordering} (o : IsTotalOrder R) (xs : List X) (x : X) → ascending R xs ≡ true → IsPartitionedBy (λ y. is_lt (R y x)) xs
parted_below {R = R} o xs x asc i j d le lt below =
    ⊎_elim (λ before. ap is_lt (o.trans _ _ x (ascending_places o xs i j d asc before lt) (less_from_test _ below)))
    (λ same. ap (λ k. is_lt (R (get_or xs k d) x)) (omega arith) ∙ below) (cases_lt i j)

-- ---- what ascending lists hold tells them apart

later : (p q s t : Bool) → p ≡ false → q ≡ false → (p || s) ≡ (q || t) → s ≡ t
later p q s t e f h = ap (λ b. b || s) (sym e) ∙ h ∙ ap (λ b. b || t) f

module _ {X : Type 0} {R : X → X → Ordering} (o : IsTotalOrder R) where
  pub holds_head : (x : X) (xs : List X) → holds R (x ∷ xs) x ≡ true
  holds_head x xs = or_left (is_eq (R x x)) (holds R xs x) (ap is_eq (tied_itself o x))

  -- what ties with an element that is below all of a list is not held by it
  pub below_not_held : (x z : X) (ys : List X) → R x z ≡ Equal → All (λ y. R x y ≡ Less) ys → holds R ys z ≡ false
  below_not_held x z ys e below =
      not_held R ys z (All-weaker (λ y. R x y ≡ Less) (λ y. is_eq (R y z) ≡ false)
      (λ y less. ap is_eq (sym (alike_right o x z y e) ∙ o.antisymm y x ∙ ap ordering_reverse less)) ys below)

  -- an ascending list holds nothing that is below its head
  pub under_not_held : (x y : X) (ys : List X) → R x y ≡ Less → ascending R (y ∷ ys) ≡ true → holds R (y ∷ ys) x ≡ false
  under_not_held x y ys e k =
      below_not_held x x (y ∷ ys) (tied_itself o x)
      (e, All-weaker (λ z. R y z ≡ Less) (λ z. R x z ≡ Less) (λ z less. o.trans x y z e less) ys (ascending_head o y ys k))

  tails : (x y : X) (xs ys : List X) → R x y ≡ Equal → ascending R (x ∷ xs) ≡ true → ascending R (y ∷ ys) ≡ true → ((z : X) → holds R (x ∷ xs) z ≡ holds R (y ∷ ys) z) → (z : X) → holds R xs z ≡ holds R ys z
  tails x y xs ys e h k same z =
      ⊎_elim
      (λ tie.
      let level = equal_from_test (R x z) tie in
      below_not_held x z xs level (ascending_head o x xs h) ∙ sym (below_not_held y z ys (sym (o.congr x y z e) ∙ level) (ascending_head o y ys k)))
      (λ apart. later (is_eq (R x z)) (is_eq (R y z)) (holds R xs z) (holds R ys z) apart (ap is_eq (sym (o.congr x y z e)) ∙ apart) (same z))
      (cases_Bool (is_eq (R x z)))

  module _ (one : (x y : X) → R x y ≡ Equal → x ≡ y) where
    heads : (r : Ordering) (x y : X) (xs ys : List X) → R x y ≡ r → ascending R (x ∷ xs) ≡ true → ascending R (y ∷ ys) ≡ true → ((z : X) → holds R (x ∷ xs) z ≡ holds R (y ∷ ys) z) → (((z : X) → holds R xs z ≡ holds R ys z) → xs ≡ ys) → x ∷ xs ≡ y ∷ ys
    heads Less x y xs ys e h k same rest =
        absurd (false≢true (sym (under_not_held x y ys e k) ∙ sym (same x) ∙ holds_head x xs))
    heads Equal x y xs ys e h k same rest =
        let head = one x y e in
        let tail = rest (tails x y xs ys e h k same) in
        cc
    heads Greater x y xs ys e h k same rest =
        absurd (false≢true (sym (under_not_held y x xs (o.antisymm y x ∙ ap ordering_reverse e) h) ∙ same y ∙ holds_head y ys))

    -- where only an element ties with itself, two ascending lists that hold the same are the same
    pub same-from-holds : (xs ys : List X) → ascending R xs ≡ true → ascending R ys ≡ true → ((z : X) → holds R xs z ≡ holds R ys z) → xs ≡ ys
    same-from-holds [] [] h k same = refl
    same-from-holds [] (y ∷ ys) h k same = absurd (false≢true (same y ∙ holds_head y ys))
    same-from-holds (x ∷ xs) [] h k same = absurd (false≢true (sym (same x) ∙ holds_head x xs))
    same-from-holds (x ∷ xs) (y ∷ ys) h k same =
        heads (R x y) x y xs ys refl h k same
        (same-from-holds xs ys (ascending_tail R x xs h) (ascending_tail R y ys k))
