-- A system with the waits as atoms of its own: the wait at n is atom 1,024 + n, and holds where its goal does not hold yet and is met
-- sooner or later. Assumes nothing.
use Rattle.std.proofs.Common.{◌≡◌, ℕ, zero, suc, ◌+◌, ◌-◌, ◌*◌, ◌/◌, ◌%◌, ◌≤◌, Bool, true, false, cond, not, ◌&&◌, ◌||◌, eqb, ltb, leb, List, [], ◌∷◌, ◌++◌, Some, None, Option, sym, refl, ap, ◌∙◌, arith}
use Rattle.std.specs.Option.{option_map}
use Rattle.std.proofs.lemmas.Bool.{false≢true, eqb-true, leb-true, lt-ltb, le-ltb, eq-eqb, and_parts, cond-true, cond-false}
use Rattle.std.proofs.lemmas.Option.{none-some, same_Some}
use Rattle.clauses.specs.declared.kinds.Scope.{Scope}
use Rattle.clauses.specs.declared.kinds.Scope.TheVariants.{All, Index}
use Rattle.clauses.specs.declared.literals.Literal.{Literal}
use Rattle.clauses.specs.Rules.{in_range}
use Rattle.clauses.specs.Steps.{wait_literal}
use Rattle.clauses.proofs.Deriving.{one_literal}
use Rattle.truth.specs.Systems.{System}
use Rattle.truth.specs.Truth.{literal_at, left_at, right_at}
use Rattle.truth.specs.Deciding.{sooner}
use Rattle.calls.specs.declared.waits.Wait.{Wait}
use Rattle.calls.specs.Waits.{place_of, same_scope, same_wait}

-- the goal of a wait is met sooner or later
abbrev pub comes : System → Wait → ℕ → Bool
comes sys w s = sooner sys w.scope (right_at sys (w.goal ∷ [])) s

-- one waits for the goal
abbrev pub waits : System → Wait → ℕ → Bool
waits sys w s = not (literal_at sys s w.goal) && comes sys w s

abbrev pub waits_at : System → List Wait → ℕ → ℕ → Bool
waits_at sys [] n s = false
waits_at sys (w ∷ ws) zero s = waits sys w s
waits_at sys (w ∷ ws) (suc n) s = waits_at sys ws n s

-- the moves of a system, and its truths with those of the waits
abbrev pub extended : System → List Wait → System
extended sys ws = record { states = sys.states; indices = sys.indices; holds = λ s a. cond (ltb a 1024) (sys.holds s a) (waits_at sys ws (a - 1024) s); target = sys.target; free = sys.free }

-- ---- two waits that are the same

one_scope : (a b : Scope) → same_scope a b ≡ true → a ≡ b
one_scope All All e = refl
one_scope All (Index j) e = absurd (false≢true e)
one_scope (Index i) All e = absurd (false≢true e)
one_scope (Index i) (Index j) e = ap Index (eqb-true i j e)

pub one_wait : (v w : Wait) → same_wait v w ≡ true → v ≡ w
one_wait v w e =
    let parts = and_parts (same_scope v.scope w.scope) (eqb v.goal.0 w.goal.0) e in
    let scopes = one_scope v.scope w.scope parts.0 in
    let goals = one_literal v.goal w.goal parts.1 in
    λ i. record { scope = scopes i; goal = goals i }

module _ (sys : System) (ws : List Wait) (s : ℕ) where
  -- ---- a layout literal says what it said

  pub layout_literal : (l : Literal) → l.0 ≤ 2047 → literal_at (extended sys ws) s l ≡ literal_at sys s l
  layout_literal l low =
      ap (λ b. cond (eqb (l.0 % 2) 0) (cond b (sys.holds s (l.0 / 2)) (waits_at sys ws (l.0 / 2 - 1024) s)) (not (cond b (sys.holds s (l.0 / 2)) (waits_at sys ws (l.0 / 2 - 1024) s))))
      (lt-ltb (l.0 / 2) 1024 (omega arith))

  pub layout_left : (xs : List Literal) → in_range xs ≡ true → left_at (extended sys ws) xs s ≡ left_at sys xs s
  layout_left [] h = refl
  layout_left (x ∷ xs) h =
      let parts = and_parts (leb x.0 2047) (in_range xs) h in
      λ i. layout_literal x (leb-true x.0 2047 parts.0) i && layout_left xs parts.1 i

  pub layout_right : (xs : List Literal) → in_range xs ≡ true → right_at (extended sys ws) xs s ≡ right_at sys xs s
  layout_right [] h = refl
  layout_right (x ∷ xs) h =
      let parts = and_parts (leb x.0 2047) (in_range xs) h in
      λ i. layout_literal x (leb-true x.0 2047 parts.0) i || layout_right xs parts.1 i

  -- ---- and the literal of a wait that one waits

  literal_of_wait : (n : ℕ) → literal_at (extended sys ws) s (wait_literal n) ≡ waits_at sys ws n s
  literal_of_wait n =
      let m = 2 * (1024 + n) in
      let half : m / 2 ≡ 1024 + n = omega arith in
      let back : m / 2 - 1024 ≡ n = omega arith in
      cond-true _ _ _ (eq-eqb (m % 2) 0 (omega arith))
      ∙ cond-false _ _ _ (le-ltb (m / 2) 1024 (omega arith))
      ∙ ap (λ k. waits_at sys ws k s) back

-- the wait that a front of the waits has at a place
place_waits : (sys : System) (s : ℕ) (front more : List Wait) (w : Wait) (n : ℕ) → place_of front w ≡ Some n → waits_at sys (front ++ more) n s ≡ waits sys w s
place_waits sys s [] more w n e = absurd (none-some _ e)
place_waits sys s (v ∷ vs) more w n e = by-test (same_wait v w) refl (place_of vs w) refl e (place_waits sys s vs more w)
  where
    by-test : (b : Bool) → same_wait v w ≡ b → (o : Option ℕ) → place_of vs w ≡ o → cond b (Some 0) (option_map suc o) ≡ Some n → ((k : ℕ) → place_of vs w ≡ Some k → waits_at sys (vs ++ more) k s ≡ waits sys w s) → waits_at sys (v ∷ (vs ++ more)) n s ≡ waits sys w s
    by-test true same o is here rest =
        ap (λ k. waits_at sys (v ∷ (vs ++ more)) k s) (sym (same_Some _ _ here)) ∙ ap (λ u. waits sys u s) (one_wait v w same)
    by-test false same None is here rest = absurd (none-some _ here)
    by-test false same (Some k) is here rest =
        ap (λ j. waits_at sys (v ∷ (vs ++ more)) j s) (sym (same_Some _ _ here)) ∙ rest k is

-- the literal of a wait that was given out by then
pub given_literal : (sys : System) (ws : List Wait) (s : ℕ) (front more : List Wait) (w : Wait) (n : ℕ) → ws ≡ front ++ more → place_of front w ≡ Some n → literal_at (extended sys ws) s (wait_literal n) ≡ waits sys w s
given_literal sys ws s front more w n is place =
    literal_of_wait sys ws s n ∙ ap (λ vs. waits_at sys vs n s) is ∙ place_waits sys s front more w n place
