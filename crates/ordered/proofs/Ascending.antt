-- Ascending lists: the head and the rest, and by places. Assumes nothing.
use Rattle.std.proofs.Common.{Decides, ◌∙◌, subst, ◌≡◌, ℕ, zero, suc, ◌<◌, Bool, true, false, List, [], ◌∷◌, length, get_or, Ordering, Less, Equal, Greater, sym, refl, ap, add-one, arith}
use Rattle.std.specs.Cmp.{Equal-is, IsTotalOrder}
use Rattle.std.specs.Ordering.{is_eq, is_lt}
use Rattle.std.specs.List.{AllAdjacentBelow, IsAllAdjacentAnswer, AllByRecursion as All}
use Rattle.std.proofs.ByRecursion.{All-get_or, All-weaker}
use Rattle.std.proofs.lemmas.Bool.{false_from_ne_true, false≢true, and_parts, and_from}
use Rattle.ordered.specs.Lists.{ascending}

-- ---- what an answer is, from its test

pub less_from_test : (r : Ordering) → is_lt r ≡ true → r ≡ Less
less_from_test Less e = refl
less_from_test Equal e = absurd (false≢true e)
less_from_test Greater e = absurd (false≢true e)

pub equal_from_test : (r : Ordering) → is_eq r ≡ true → r ≡ Equal
equal_from_test r = (Equal-is r).0

-- ---- at any comparison

module _ {X : Type 0} (cmp : X → X → Ordering) where
  pub ascending_tail : (x : X) (xs : List X) → ascending cmp (x ∷ xs) ≡ true → ascending cmp xs ≡ true
  ascending_tail x [] h = refl
  ascending_tail x (y ∷ ys) h = (and_parts (is_lt (cmp x y)) (ascending cmp (y ∷ ys)) h).1

  pub ascending_next : (x y : X) (ys : List X) → ascending cmp (x ∷ y ∷ ys) ≡ true → cmp x y ≡ Less
  ascending_next x y ys h = less_from_test (cmp x y) (and_parts (is_lt (cmp x y)) (ascending cmp (y ∷ ys)) h).0

  -- a list ascends where its head is below each later element and its rest ascends
  pub ascending_cons : (x : X) (xs : List X) → All (λ y. cmp x y ≡ Less) xs → ascending cmp xs ≡ true → ascending cmp (x ∷ xs) ≡ true
  ascending_cons x [] below h = refl
  ascending_cons x (y ∷ ys) below h = and_from (is_lt (cmp x y)) (ascending cmp (y ∷ ys)) (ap is_lt below.0) h

  from_next : (xs : List X) → ((k : ℕ) (d : X) → suc k < length xs → cmp (get_or xs k d) (get_or xs (suc k) d) ≡ Less) → ascending cmp xs ≡ true
  from_next [] h = refl
  from_next (x ∷ []) h = refl
  from_next (x ∷ y ∷ ys) h =
      and_from (is_lt (cmp x y)) (ascending cmp (y ∷ ys)) (ap is_lt (h 0 x (omega arith)))
      (from_next (y ∷ ys) (λ k d lt. h (suc k) d (omega arith)))

  to_next : (xs : List X) (k : ℕ) (d : X) → ascending cmp xs ≡ true → suc k < length xs → cmp (get_or xs k d) (get_or xs (suc k) d) ≡ Less
  to_next [] k d h lt = absurd (omega arith)
  to_next (x ∷ []) k d h lt = absurd (omega arith)
  to_next (x ∷ y ∷ ys) zero d h lt = ascending_next x y ys h
  to_next (x ∷ y ∷ ys) (suc k) d h lt = to_next (y ∷ ys) k d (ascending_tail x (y ∷ ys) h) (omega arith)

  -- a list ascends exactly if each place is below the next
  pub ascending_decides : (xs : List X) → Decides (ascending cmp xs) (AllAdjacentBelow (λ x y. cmp x y ≡ Less) xs (length xs))
  ascending_decides xs = (
    λ h k d lt. subst (λ n. cmp (get_or xs k d) (get_or xs n d) ≡ Less) (sym (add-one k)) (to_next xs k d h (omega arith)),
    λ h. from_next xs (λ k d lt. rw add-one at (h k d (omega arith))),
  )

  -- so the answers at each element and the next tell whether the list ascends
  pub ascending_answer : (xs : List X) (r : Bool) → IsAllAdjacentAnswer (λ x y b. b ≡ is_lt (cmp x y)) xs r → r ≡ ascending cmp xs
  ascending_answer xs true h = sym ((ascending_decides xs).1 (λ k d lt. less_from_test _ (sym (h k d lt))))
  ascending_answer [] false h = absurd (omega (arith, h.1))
  ascending_answer (x ∷ xs) false h =
      sym (false_from_ne_true _ (λ up. false≢true (h.2 x ∙ ap is_lt ((ascending_decides (x ∷ xs)).0 up h.0 x h.1))))

-- ---- at a lawful order

module _ {X : Type 0} {R : X → X → Ordering} (o : IsTotalOrder R) where
  -- the head of an ascending list is below each later element
  pub ascending_head : (x : X) (xs : List X) → ascending R (x ∷ xs) ≡ true → All (λ y. R x y ≡ Less) xs
  ascending_head x [] h = tt
  ascending_head x (y ∷ ys) h =
      let first = ascending_next R x y ys h in (
        first,
        All-weaker (λ z. R y z ≡ Less) (λ z. R x z ≡ Less) (λ z less. o.trans x y z first less) ys
            (ascending_head y ys (ascending_tail R x (y ∷ ys) h)),
      )

  -- each element of an ascending list is below each later one
  pub ascending_places : (xs : List X) (i j : ℕ) (d : X) → ascending R xs ≡ true → i < j → j < length xs → R (get_or xs i d) (get_or xs j d) ≡ Less
  ascending_places [] i j d h lt in' = absurd (omega arith)
  ascending_places (x ∷ xs) i zero d h lt in' = absurd (omega arith)
  ascending_places (x ∷ xs) zero (suc j) d h lt in' =
      All-get_or (λ y. R x y ≡ Less) xs j d (omega arith) (ascending_head x xs h)
  ascending_places (x ∷ xs) (suc i) (suc j) d h lt in' =
      ascending_places xs i j d (ascending_tail R x xs h) (omega arith) (omega arith)
