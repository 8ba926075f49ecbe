-- What new sides say at a state, from what the sides that they are made of say there. Assumes nothing.
use Rattle.std.proofs.Common.{◌≡◌, ℕ, ◌+◌, ◌-◌, ◌/◌, ◌%◌, Bool, true, false, cond, not, ◌&&◌, ◌||◌, eqb, List, [], ◌∷◌, sym, refl, ap, ◌∙◌, ⊎_elim, arith}
use Rattle.std.specs.Cmp.{unsigned_tied}
use Rattle.std.specs.Ordering.{is_eq, is_lt}
use Rattle.std.proofs.Math.Bool.{and_assoc, and_self_left, not-not, or_assoc, or_self_left}
use Rattle.std.proofs.lemmas.Bool.{both_ways, cases_Bool, false≢true, eqb-true, eqb-false, eq-eqb, ne_eqb, not_from_false, and_parts, and_from, or_cases, or_left, or_right, cond-true, cond-false}
use Rattle.ordered.specs.Lists.{holds, within}
use Rattle.ordered.specs.Unions.{insert, union}
use Rattle.clauses.specs.declared.literals.Literal.{Literal}
use Rattle.clauses.specs.Literals.{literal_rank, opposite, same}
use Rattle.clauses.specs.Sides.{join, opposites, without}
use Rattle.clauses.proofs.Deriving.{one_literal}
use Rattle.truth.specs.Systems.{System}
use Rattle.truth.specs.Truth.{literal_at, left_at, right_at}
use Rattle.calls.specs.Loops.{row_right}

-- literals that tie are one
pub tied_literal : (x y : Literal) → is_eq (literal_rank x y) ≡ true → x ≡ y
tied_literal x y e = one_literal x y (sym (unsigned_tied x.0 y.0) ∙ e)

-- ---- a test of every literal or of some, over a union

module _ (op : Bool → Bool → Bool) (swap : (a b c : Bool) → op a (op b c) ≡ op b (op a c)) (twice : (a c : Bool) → op a (op a c) ≡ op a c) (f : Literal → Bool) (F : List Literal → Bool) (more : (x : Literal) (xs : List Literal) → F (x ∷ xs) ≡ op (f x) (F xs)) where
  insert_says : (x : Literal) (ys : List Literal) → F (insert literal_rank x ys) ≡ op (f x) (F ys)
  insert_says x [] = more x []
  insert_says x (y ∷ ys) = by_tests (is_lt (literal_rank x y)) (is_eq (literal_rank x y)) refl (insert_says x ys)
    where
      by_tests : (a b : Bool) → is_eq (literal_rank x y) ≡ b → F (insert literal_rank x ys) ≡ op (f x) (F ys) → F (cond a (x ∷ y ∷ ys) (cond b (y ∷ ys) (y ∷ insert literal_rank x ys))) ≡ op (f x) (F (y ∷ ys))
      by_tests true b e rest = more x (y ∷ ys)
      by_tests false true e rest = more y ys ∙ sym (twice (f y) (F ys)) ∙ (λ i. op (f (sym (tied_literal x y e) i)) (sym (more y ys) i))
      by_tests false false e rest = more y (insert literal_rank x ys) ∙ ap (op (f y)) rest ∙ swap (f y) (f x) (F ys) ∙ ap (op (f x)) (sym (more y ys))

  union_says : ((c : Bool) → c ≡ op (F []) c) → ((a b c : Bool) → op (op a b) c ≡ op a (op b c)) → (xs ys : List Literal) → F (union literal_rank xs ys) ≡ op (F xs) (F ys)
  union_says none assoc [] ys = none (F ys)
  union_says none assoc (x ∷ xs) ys =
      insert_says x (union literal_rank xs ys) ∙ ap (op (f x)) (union_says none assoc xs ys) ∙ sym (assoc (f x) (F xs) (F ys)) ∙ ap (λ b. op b (F ys)) (sym (more x xs))

or_swap : (a b c : Bool) → (a || (b || c)) ≡ (b || (a || c))
or_swap true true c = refl
or_swap true false c = refl
or_swap false b c = refl

and_swap : (a b c : Bool) → (a && (b && c)) ≡ (b && (a && c))
and_swap true b c = refl
and_swap false true c = refl
and_swap false false c = refl

de_morgan : (a b : Bool) → (not a || not b) ≡ not (a && b)
de_morgan true b = refl
de_morgan false b = refl

-- ---- at a state of any system

module _ (sys : System) (s : ℕ) where
  -- of a literal and its opposite exactly one holds
  pub literal_opposite : (l : Literal) → literal_at sys s (opposite l) ≡ not (literal_at sys s l)
  literal_opposite l = by-test (eqb (l.0 % 2) 0) refl
    where
      by-test : (b : Bool) → eqb (l.0 % 2) 0 ≡ b → literal_at sys s (record { 0 = cond b (l.0 + 1) (l.0 - 1) }) ≡ not (cond b (sys.holds s (l.0 / 2)) (not (sys.holds s (l.0 / 2))))
      by-test true e =
          let even : l.0 % 2 ≡ 0 = eqb-true (l.0 % 2) 0 e in
          let half : (l.0 + 1) / 2 ≡ l.0 / 2 = omega arith in
          cond-false _ _ _ (ne_eqb ((l.0 + 1) % 2) 0 (λ z. omega arith)) ∙ ap (λ a. not (sys.holds s a)) half
      by-test false e =
          let odd = eqb-false (l.0 % 2) 0 e in
          let some : l.0 % 2 ≡ 1 = omega arith in
          let half : (l.0 - 1) / 2 ≡ l.0 / 2 = omega arith in
          cond-true _ _ _ (eq-eqb ((l.0 - 1) % 2) 0 (omega arith)) ∙ ap (λ a. sys.holds s a) half ∙ sym (not-not _)

  right_insert : (x : Literal) (ys : List Literal) → right_at sys (insert literal_rank x ys) s ≡ (literal_at sys s x || right_at sys ys s)
  right_insert = insert_says ◌||◌ or_swap or_self_left (literal_at sys s) (λ xs. right_at sys xs s) (λ x xs. refl)

  pub right_join : (xs ys : List Literal) → right_at sys (join xs ys) s ≡ (right_at sys xs s || right_at sys ys s)
  right_join = union_says ◌||◌ or_swap or_self_left (literal_at sys s) (λ xs. right_at sys xs s) (λ x xs. refl) (λ c. refl) or_assoc

  pub left_join : (xs ys : List Literal) → left_at sys (join xs ys) s ≡ (left_at sys xs s && left_at sys ys s)
  left_join = union_says ◌&&◌ and_swap and_self_left (literal_at sys s) (λ xs. left_at sys xs s) (λ x xs. refl) (λ c. refl) and_assoc

  -- some opposite holds exactly where not every literal does
  pub right_opposites : (xs : List Literal) → right_at sys (opposites xs) s ≡ not (left_at sys xs s)
  right_opposites [] = refl
  right_opposites (x ∷ xs) =
      right_insert (opposite x) (opposites xs) ∙ (λ i. literal_opposite x i || right_opposites xs i) ∙ de_morgan (literal_at sys s x) (left_at sys xs s)

  -- the opposites of a left with a right that holds wherever the left does
  pub right_implied : (left right : List Literal) → (left_at sys left s ≡ true → right_at sys right s ≡ true) → right_at sys (join (opposites left) right) s ≡ true
  right_implied left right h =
      right_join (opposites left) right
      ∙ ⊎_elim
      (λ holds. or_right (right_at sys (opposites left) s) (right_at sys right s) (h holds))
      (λ fails. or_left (right_at sys (opposites left) s) (right_at sys right s) (right_opposites left ∙ not_from_false (left_at sys left s) fails))
      (cases_Bool (left_at sys left s))

  -- the right of a row
  pub right_row : (g : Literal) (p : List Literal) → right_at sys (row_right g p) s ≡ (literal_at sys s g || not (left_at sys p s))
  right_row g p = right_insert g (opposites p) ∙ ap (λ b. literal_at sys s g || b) (right_opposites p)

  -- without a literal that does not hold
  pub right_without : (l : Literal) (xs : List Literal) → literal_at sys s l ≡ false → right_at sys xs s ≡ true → right_at sys (without l xs) s ≡ true
  right_without l [] not-l h = h
  right_without l (x ∷ xs) not-l h = by-test (same x l) refl (right_without l xs not-l)
    where
      by-test : (b : Bool) → same x l ≡ b → (right_at sys xs s ≡ true → right_at sys (without l xs) s ≡ true) → right_at sys (cond b (without l xs) (x ∷ without l xs)) s ≡ true
      by-test true e rest = ⊎_elim (λ here. absurd (both_ways (literal_at sys s l) not-l (ap (literal_at sys s) (sym (one_literal x l e)) ∙ here))) rest (or_cases (literal_at sys s x) (right_at sys xs s) h)
      by-test false e rest = ⊎_elim (or_left (literal_at sys s x) (right_at sys (without l xs) s)) (λ later. or_right (literal_at sys s x) (right_at sys (without l xs) s) (rest later)) (or_cases (literal_at sys s x) (right_at sys xs s) h)

  -- a literal of a left that holds
  left_literal : (p : List Literal) (x : Literal) → left_at sys p s ≡ true → holds literal_rank p x ≡ true → literal_at sys s x ≡ true
  left_literal [] x h e = absurd (false≢true e)
  left_literal (y ∷ ys) x h e =
      let parts = and_parts (literal_at sys s y) (left_at sys ys s) h in
      ⊎_elim (λ here. ap (literal_at sys s) (sym (tied_literal y x here)) ∙ parts.0) (left_literal ys x parts.1) (or_cases (is_eq (literal_rank y x)) (holds literal_rank ys x) e)

  -- a left within one that holds
  pub left_within : (xs p : List Literal) → left_at sys p s ≡ true → within literal_rank xs p ≡ true → left_at sys xs s ≡ true
  left_within [] p h e = refl
  left_within (x ∷ xs) p h e =
      let parts = and_parts (holds literal_rank p x) (within literal_rank xs p) e in
      and_from (literal_at sys s x) (left_at sys xs s) (left_literal p x h parts.0) (left_within xs p h parts.1)
