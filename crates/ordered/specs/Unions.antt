-- The union of two lists in the order that a comparison gives. Assumes nothing.
use Rattle.std.specs.Prelude.{◌≡◌, ℕ, true, cond, List, [], ◌∷◌, Some, None, Option, MatchOption, nat_le}
use denote.Ref.{Bor}
use Rattle.std.specs.declared.cmp.Ordering.{Ordering}
use Rattle.std.specs.Cmp.{IsTotalOrder}
use Rattle.std.specs.Ordering.{is_eq, is_lt}
use Rattle.ordered.specs.Lists.{ascending}

-- x before the first element that is above it, or nothing new where an element ties with x
abbrev pub insert : {X : Type 0} → (X → X → Ordering) → X → List X → List X
insert cmp x [] = x ∷ []
insert cmp x (y ∷ ys) = cond (is_lt (cmp x y)) (x ∷ y ∷ ys) (cond (is_eq (cmp x y)) (y ∷ ys) (y ∷ insert cmp x ys))

-- the second list with each element of the first inserted
abbrev pub union : {X : Type 0} → (X → X → Ordering) → List X → List X → List X
union cmp [] b = b
union cmp (x ∷ a) b = insert cmp x (union cmp a b)

-- x is the first element of the union of a and b, and the union of the ascending lists c and d is the rest of it
abbrev pub Leads : {X : Type 0} → (X → X → Ordering) → List X → List X → X → List X → List X → Type 0
Leads cmp a b x c d = (union cmp a b ≡ x ∷ union cmp c d) × (ascending cmp c ≡ true) × (ascending cmp d ≡ true)

-- P, where the order is lawful and both lists ascend
abbrev pub IfBothAscend : {X : Type 0} → (X → X → Ordering) → List X → List X → Type 0 → Type 0
IfBothAscend cmp a b P = IsTotalOrder cmp → ascending cmp a ≡ true → ascending cmp b ≡ true → P

-- a step of a walk over a and b that ascend: it gives nothing where their union is empty, and otherwise its first element, x, and leaves c and d
abbrev pub Walks : {X : Type 0} → (X → X → Ordering) → List X → List X → Option (Bor X) → List X → List X → Type 0
Walks cmp a b r c d = IfBothAscend cmp a b (MatchOption r (union cmp a b ≡ []) (λ x. Leads cmp a b x.now c d))

-- n, where there is room for n
abbrev pub fitting : ℕ → ℕ → Option ℕ
fitting n room = cond (nat_le n room) (Some n) None
