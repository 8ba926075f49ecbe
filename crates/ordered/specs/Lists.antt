-- Lists in the order that a comparison gives. Assumes nothing.
use Rattle.std.specs.Prelude.{◌≡◌, ℕ, zero, suc, Bool, true, false, cond, ◌&&◌, ◌||◌, List, [], ◌∷◌, Some, None, Option}
use Rattle.std.specs.declared.cmp.Ordering.{Ordering}
use Rattle.std.specs.Cmp.{IsTotalOrder}
use Rattle.std.specs.Option.{option_map}
use Rattle.std.specs.Ordering.{is_eq, is_lt}

-- each element is below the next
abbrev pub ascending : {X : Type 0} → (X → X → Ordering) → List X → Bool
ascending cmp [] = true
ascending cmp (x ∷ []) = true
ascending cmp (x ∷ y ∷ ys) = is_lt (cmp x y) && ascending cmp (y ∷ ys)

-- some element ties with x
abbrev pub holds : {X : Type 0} → (X → X → Ordering) → List X → X → Bool
holds cmp [] x = false
holds cmp (y ∷ ys) x = is_eq (cmp y x) || holds cmp ys x

-- the place of the first element that ties with x
abbrev pub place : {X : Type 0} → (X → X → Ordering) → List X → X → Option ℕ
place cmp [] x = None
place cmp (y ∷ ys) x = cond (is_eq (cmp y x)) (Some 0) (option_map suc (place cmp ys x))

-- every element of the first list ties with one of the second
abbrev pub within : {X : Type 0} → (X → X → Ordering) → List X → List X → Bool
within cmp [] outer = true
within cmp (x ∷ xs) outer = holds cmp outer x && within cmp xs outer

-- how many elements are below x
abbrev pub count_below : {X : Type 0} → (X → X → Ordering) → List X → X → ℕ
count_below cmp [] x = zero
count_below cmp (y ∷ ys) x = cond (is_lt (cmp y x)) (suc (count_below cmp ys x)) (count_below cmp ys x)

-- P, where the order is lawful and the list ascends
abbrev pub IfAscending : {X : Type 0} → (X → X → Ordering) → List X → Type 0 → Type 0
IfAscending cmp xs P = IsTotalOrder cmp → ascending cmp xs ≡ true → P
