-- The union of two lists: what it holds, that it ascends, and its first element. Assumes nothing.
use Rattle.std.proofs.Common.{Bor, Option, ltb, ◌≡◌, ℕ, ◌+◌, ◌<◌, ◌≤◌, Bool, true, cond, ◌||◌, leb, List, [], ◌∷◌, ◌++◌, length, take, set, is_some, Some, None, Ordering, Less, Equal, Greater, sym, refl, ap, ◌∙◌, subst, append-nil, append_assoc, arith}
use Rattle.std.proofs.Math.Bool.{or_assoc, or_comm, or_self_left}
use Rattle.std.specs.Cmp.{IsTotalOrder, alike_right}
use Rattle.std.specs.Ordering.{is_eq, is_lt, ordering_reverse}
use Rattle.std.specs.List.{AllByRecursion as All}
use Rattle.std.proofs.ByRecursion.{All-weaker}
use Rattle.std.proofs.lemmas.List.{length-append, length-take-le, nil_from_length, take_more_set}
use Rattle.std.proofs.lemmas.Bool.{and_from, cond-true, cond-false, le-leb, le-ltb, lt-leb, lt-ltb}
use Rattle.ordered.specs.Lists.{ascending, holds}
use Rattle.ordered.specs.Unions.{insert, union, Leads, Walks, fitting}
use Rattle.ordered.specs.declared.Union.{Union}
use Rattle.std.specs.Iterator.{SkipsThenYields, Yields}
use Rattle.ordered.proofs.Ascending.{ascending_cons, ascending_head, ascending_tail}

or_swap : (p q r : Bool) → (p || (q || r)) ≡ (q || (p || r))
or_swap p q r = sym (or_assoc p q r) ∙ ap (λ t. t || r) (or_comm p q) ∙ or_assoc q p r

or_twice : (p r : Bool) → (p || r) ≡ (p || (p || r))
or_twice p r = sym (or_self_left p r)

-- what `insert` gives at an answer, where more is the rest with x inserted
abbrev put : {X : Type 0} → Ordering → X → X → List X → List X → List X
put r x y ys more = cond (is_lt r) (x ∷ y ∷ ys) (cond (is_eq r) (y ∷ ys) (y ∷ more))

-- a fact of two lists, by what they are made of
made_of : {X : Type 0} (P : List X → List X → Type 0) (p q u v : List X) → p ≡ u → q ≡ v → P u v → P p q
made_of P p q u v e f h = subst (λ l. P l q) (sym e) (subst (P u) (sym f) h)

-- ---- at any comparison

module _ {X : Type 0} (cmp : X → X → Ordering) where
  insert_at : (r : Ordering) (x y : X) (ys : List X) → cmp x y ≡ r → insert cmp x (y ∷ ys) ≡ put r x y ys (insert cmp x ys)
  insert_at r x y ys e = ap (λ k. put k x y ys (insert cmp x ys)) e

  -- an element that is below all others comes first
  pub insert_front : (x : X) (ys : List X) → All (λ y. cmp x y ≡ Less) ys → insert cmp x ys ≡ x ∷ ys
  insert_front x [] below = refl
  insert_front x (y ∷ ys) below = insert_at Less x y ys below.0

  -- the union of two empty lists is empty
  pub union_none : (a b : List X) → length a ≡ 0 → length b ≡ 0 → union cmp a b ≡ []
  union_none [] b h k = nil_from_length b k
  union_none (x ∷ a) b h k = absurd (omega arith)

  module _ (P : X → Type 0) where
    all-put : (r : Ordering) (x y : X) (ys more : List X) → P x → All P (y ∷ ys) → All P more → All P (put r x y ys more)
    all-put Less x y ys more p all rest = (p, all)
    all-put Equal x y ys more p all rest = all
    all-put Greater x y ys more p all rest = (all.0, rest)

    pub all_insert : (x : X) (ys : List X) → P x → All P ys → All P (insert cmp x ys)
    all_insert x [] p all = (p, tt)
    all_insert x (y ∷ ys) p all = all-put (cmp x y) x y ys (insert cmp x ys) p all (all_insert x ys p all.1)

    -- what holds of each element of both lists holds of each of the union
    pub all-union : (a b : List X) → All P a → All P b → All P (union cmp a b)
    all-union [] b all more = more
    all-union (x ∷ a) b all more = all_insert x (union cmp a b) all.0 (all-union a b all.1 more)

-- ---- at a lawful order

module _ {X : Type 0} {R : X → X → Ordering} (o : IsTotalOrder R) where
  above : (x y : X) → R x y ≡ Less → R y x ≡ Greater
  above x y e = o.antisymm y x ∙ ap ordering_reverse e

  put_ascends : (r : Ordering) (x y : X) (ys : List X) → R x y ≡ r → ascending R (y ∷ ys) ≡ true → ascending R (insert R x ys) ≡ true → ascending R (put r x y ys (insert R x ys)) ≡ true
  put_ascends Less x y ys e h rest = and_from (is_lt (R x y)) (ascending R (y ∷ ys)) (ap is_lt e) h
  put_ascends Equal x y ys e h rest = h
  put_ascends Greater x y ys e h rest =
      ascending_cons R y (insert R x ys)
      (all_insert R (λ z. R y z ≡ Less) x ys (o.antisymm y x ∙ ap ordering_reverse e) (ascending_head o y ys h)) rest

  pub insert_ascends : (x : X) (ys : List X) → ascending R ys ≡ true → ascending R (insert R x ys) ≡ true
  insert_ascends x [] h = refl
  insert_ascends x (y ∷ ys) h = put_ascends (R x y) x y ys refl h (insert_ascends x ys (ascending_tail R y ys h))

  -- the union ascends
  pub union_ascends : (a b : List X) → ascending R b ≡ true → ascending R (union R a b) ≡ true
  union_ascends [] b h = h
  union_ascends (x ∷ a) b h = insert_ascends x (union R a b) (union_ascends a b h)

  put_holds : (r : Ordering) (x y : X) (ys more : List X) (z : X) → R x y ≡ r → holds R more z ≡ (is_eq (R x z) || holds R ys z) → holds R (put r x y ys more) z ≡ (is_eq (R x z) || holds R (y ∷ ys) z)
  put_holds Less x y ys more z e rest = refl
  put_holds Equal x y ys more z e rest =
      or_twice (is_eq (R y z)) (holds R ys z)
      ∙ ap (λ r. is_eq r || (is_eq (R y z) || holds R ys z)) (sym (o.congr x y z e))
  put_holds Greater x y ys more z e rest =
      ap (λ t. is_eq (R y z) || t) rest ∙ or_swap (is_eq (R y z)) (is_eq (R x z)) (holds R ys z)

  pub insert_holds : (x : X) (ys : List X) (z : X) → holds R (insert R x ys) z ≡ (is_eq (R x z) || holds R ys z)
  insert_holds x [] z = refl
  insert_holds x (y ∷ ys) z = put_holds (R x y) x y ys (insert R x ys) z refl (insert_holds x ys z)

  -- the union holds what one of the lists holds
  pub union_holds : (a b : List X) (z : X) → holds R (union R a b) z ≡ (holds R a z || holds R b z)
  union_holds [] b z = refl
  union_holds (x ∷ a) b z =
      insert_holds x (union R a b) z
      ∙ ap (λ t. is_eq (R x z) || t) (union_holds a b z)
      ∙ sym (or_assoc (is_eq (R x z)) (holds R a z) (holds R b z))

  -- ---- the first element of the union, and what is then left

  -- the second list's, where each of the first list is above it
  pub union_right : (y : X) (a b : List X) → All (λ x. R x y ≡ Greater) a → union R a (y ∷ b) ≡ y ∷ union R a b
  union_right y [] b up = refl
  union_right y (x ∷ a) b up =
      ap (insert R x) (union_right y a b up.1) ∙ insert_at R Greater x y (union R a b) up.0

  -- the first list's, where it is below each of the second list
  pub leads_first : (x : X) (a b : List X) → All (λ y. R x y ≡ Less) b → ascending R (x ∷ a) ≡ true → ascending R b ≡ true → Leads R (x ∷ a) b x a b
  leads_first x a b below h k = (
    insert_front R x (union R a b) (all-union R (λ y. R x y ≡ Less) a b (ascending_head o x a h) below),
    ascending_tail R x a h,
    k,
  )

  leads_below : (x y : X) (a b : List X) → R x y ≡ Less → ascending R (x ∷ a) ≡ true → ascending R (y ∷ b) ≡ true → Leads R (x ∷ a) (y ∷ b) x a (y ∷ b)
  leads_below x y a b e h k =
      leads_first x a (y ∷ b)
      (e, All-weaker (λ z. R y z ≡ Less) (λ z. R x z ≡ Less) (λ z less. o.trans x y z e less) b (ascending_head o y b k)) h k

  leads_level : (x y : X) (a b : List X) → R x y ≡ Equal → ascending R (x ∷ a) ≡ true → ascending R (y ∷ b) ≡ true → Leads R (x ∷ a) (y ∷ b) y a b
  leads_level x y a b e h k = (
    ap (insert R x) (union_right y a b
        (All-weaker (λ z. R x z ≡ Less) (λ z. R z y ≡ Greater) (λ z less. sym (alike_right o x y z e) ∙ above x z less) a (ascending_head o x a h)))
        ∙ insert_at R Equal x y (union R a b) e,
    ascending_tail R x a h,
    ascending_tail R y b k,
  )

  leads_above : (x y : X) (a b : List X) → R x y ≡ Greater → ascending R (x ∷ a) ≡ true → ascending R (y ∷ b) ≡ true → Leads R (x ∷ a) (y ∷ b) y (x ∷ a) b
  leads_above x y a b e h k =
      let under : R y x ≡ Less = o.antisymm y x ∙ ap ordering_reverse e in (
        union_right y (x ∷ a) b
            (e, All-weaker (λ z. R x z ≡ Less) (λ z. R z y ≡ Greater) (λ z less. above y z (o.trans y x z under less)) a (ascending_head o x a h)),
        h,
        ascending_tail R y b k,
      )

  -- the same of two lists p and q, by how they begin
  module _ {p q : List X} where
    pub leads-left : {x : X} {a : List X} → p ≡ x ∷ a → q ≡ [] → ascending R p ≡ true → ascending R q ≡ true → Leads R p q x a q
    leads-left {x} {a} e f =
        made_of (λ u v. ascending R u ≡ true → ascending R v ≡ true → Leads R u v x a v) p q (x ∷ a) [] e f (leads_first x a [] tt)

    pub leads-right : {y : X} {b : List X} → p ≡ [] → q ≡ y ∷ b → ascending R p ≡ true → ascending R q ≡ true → Leads R p q y p b
    leads-right {y} {b} e f =
        made_of (λ u v. ascending R u ≡ true → ascending R v ≡ true → Leads R u v y u b) p q [] (y ∷ b) e f
        (λ h k. (refl, h, ascending_tail R y b k))

    module _ {x y : X} {a b : List X} (e : p ≡ x ∷ a) (f : q ≡ y ∷ b) where
      pub leads-less : R x y ≡ Less → ascending R p ≡ true → ascending R q ≡ true → Leads R p q x a q
      leads-less l =
          made_of (λ u v. ascending R u ≡ true → ascending R v ≡ true → Leads R u v x a v) p q (x ∷ a) (y ∷ b) e f (leads_below x y a b l)

      -- of two that tie, the second list's is kept
      pub leads-equal : R x y ≡ Equal → ascending R p ≡ true → ascending R q ≡ true → Leads R p q y a b
      leads-equal l =
          made_of (λ u v. ascending R u ≡ true → ascending R v ≡ true → Leads R u v y a b) p q (x ∷ a) (y ∷ b) e f (leads_level x y a b l)

      pub leads-greater : R x y ≡ Greater → ascending R p ≡ true → ascending R q ≡ true → Leads R p q y p b
      leads-greater l =
          made_of (λ u v. ascending R u ≡ true → ascending R v ≡ true → Leads R u v y u b) p q (x ∷ a) (y ∷ b) e f (leads_above x y a b l)

-- ---- one element on

module _ {X : Type 0} (cmp : X → X → Ordering) (a b : List X) (x : X) (c d : List X) (leads : Leads cmp a b x c d) where
  -- one more element is written at i
  pub leads_written : (all out : List X) (i : ℕ) → i < length out → all ≡ take i out ++ union cmp a b → all ≡ take (i + 1) (set out i x) ++ union cmp c d
  leads_written all out i lt e =
      e ∙ ap (λ l. take i out ++ l) leads.0 ∙ sym (append_assoc (take i out) (x ∷ []) (union cmp c d))
      ∙ ap (λ l. l ++ union cmp c d) (sym (take_more_set out i x lt))

-- ---- a walk over the union

module _ {X : Type 0} {R : X → X → Ordering} (o : IsTotalOrder R) where
  abbrev pub steps : Union X → Option (Bor X) → Union X → Type 0
  steps s r t = Walks R s.a.now s.b.now r t.a.now t.b.now

  -- the elements that came and those that are left make up the union
  pub walked : (xs : List (Bor X)) (s t : Union X) → Yields steps s xs t → ascending R s.a.now ≡ true → ascending R s.b.now ≡ true
      → (length (union R s.a.now s.b.now) ≡ length xs + length (union R t.a.now t.b.now)) × (ascending R t.a.now ≡ true) × (ascending R t.b.now ≡ true)
  walked [] s t y h k = subst (λ u. (length (union R s.a.now s.b.now) ≡ 0 + length (union R u.a.now u.b.now)) × (ascending R u.a.now ≡ true) × (ascending R u.b.now ≡ true)) y (omega arith, h, k)
  walked (x ∷ xs) s t (j, step, y) h k =
      let next = step o h k in
      let rest = walked xs j t y next.1 next.2 in
      (omega (arith, ap length next.0, rest.0), rest.1, rest.2)

  -- whether there is an element past n others tells whether the union has more than n
  pub past : (s u : Union X) (n : ℕ) (r : Option (Bor X)) → SkipsThenYields steps s n r u → ascending R s.a.now ≡ true → ascending R s.b.now ≡ true → ltb n (length (union R s.a.now s.b.now)) ≡ is_some r
  past s u n None (xs, (t, y, end), few) h k =
      let way = walked xs s t y h k in
      le-ltb _ _ (omega (arith, way.0, ap length (end o way.1 way.2), few))
  past s u n (Some x) (xs, (t, y, step), all) h k =
      let way = walked xs s t y h k in
      lt-ltb _ _ (omega (arith, way.0, ap length (step o way.1 way.2).0, all))

-- ---- what there is room for

pub fitting_none : (n room : ℕ) → room < n → fitting n room ≡ None
fitting_none n room h = cond-false (leb n room) (Some n) None (lt-leb n room h)

pub fitting_some : (n room : ℕ) → n ≤ room → fitting n room ≡ Some n
fitting_some n room h = cond-true (leb n room) (Some n) None (le-leb n room h)

-- what was written, n elements of `out`, and what is left make up the whole
module _ {X : Type 0} (all out left : List X) (n : ℕ) (within : n ≤ length out) (made : all ≡ take n out ++ left) where
  pub none_left : length all ≤ n → left ≡ []
  none_left h = nil_from_length left (omega (arith, ap length made ∙ length-append (take n out) left, length-take-le n out within))

  -- where nothing is left, all of it is written
  pub all_written : left ≡ [] → take n out ≡ all
  all_written none = sym (made ∙ ap (λ l. take n out ++ l) none ∙ append-nil (take n out))

  pub all_counted : (room : ℕ) → n ≤ room → left ≡ [] → Some n ≡ fitting (length all) room
  all_counted room h none =
      let count : n ≡ length all = sym (length-take-le n out within) ∙ ap length (all_written none) in
      ap Some count ∙ sym (fitting_some (length all) room (omega arith))
