-- The lines made stay lawful. Assumes nothing.
use Rattle.std.proofs.Common.{◌≡◌, ℕ, zero, suc, ◌<◌, Bool, true, false, cond, not, ◌&&◌, ◌||◌, eqb, ltb, leb, List, [], ◌∷◌, ◌++◌, length, get_or, is_some, Some, None, Option, sym, refl, ap, ◌∙◌, subst, true≢false, arith, eq-eqb}
use Rattle.std.specs.Option.{option_map}
use Rattle.std.specs.List.{AllByRecursion as All}
use Rattle.std.proofs.lemmas.Bool.{and_from, and_parts, not-false, or_right}
use Rattle.clauses.specs.declared.kinds.Kind.{Kind}
use Rattle.clauses.specs.declared.kinds.Scope.{Scope}
use Rattle.clauses.specs.declared.kinds.Scope.TheVariants as scope
use Rattle.clauses.specs.declared.lines.Line.{Line}
use Rattle.clauses.specs.declared.literals.Literal.{Literal}
use Rattle.clauses.specs.Kinds.{any_index, kind_of, kind_under}
use Rattle.clauses.specs.Lines.{blank, literals, side_of}
use Rattle.clauses.specs.Refusals.{Cause, first_of}
use Rattle.clauses.specs.Rules.{fails, in_range, marked, most_left, rule_causes, rule_line, shaped}
use Rattle.clauses.specs.Sides.{ascends}
use Rattle.clauses.specs.Steps.{proper}
use Rattle.clauses.proofs.Joining.{literals_of}
use Rattle.calls.specs.declared.waits.Wait.{Wait}
use Rattle.calls.specs.Lawful.{indexed, lawful, lawful_line, sized, waited}
use Rattle.calls.specs.Waits.{admitted, held, same_scope, same_wait, wait_of}

-- where there is no first cause, none holds
pub all_none : (cs : List Cause) → first_of cs ≡ None → All (λ c. c.1 ≡ false) cs
all_none [] h = tt
all_none (c ∷ cs) h = by-test (all_none cs) c.1 refl h
  where
    by-test : (first_of cs ≡ None → All (λ d. d.1 ≡ false) cs) → (b : Bool) → c.1 ≡ b → cond b (Some c.0) (first_of cs) ≡ None → All (λ d. d.1 ≡ false) (c ∷ cs)
    by-test later true e k = absurd (cc)
    by-test later false e k = (e, later k)

-- ---- waits that are given out

same_itself : (w : Wait) → same_wait w w ≡ true
same_itself w = and_from (same_scope w.scope w.scope) (eqb w.goal.0 w.goal.0) (by-scope w.scope) (eq-eqb w.goal.0 w.goal.0 refl)
  where
    by-scope : (s : Scope) → same_scope s s ≡ true
    by-scope scope.All = refl
    by-scope (scope.Index i) = eq-eqb i i refl

held_last : (ws : List Wait) (w : Wait) → held (ws ++ w ∷ []) w ≡ true
held_last [] w = ap (λ b. b || false) (same_itself w)
held_last (v ∷ vs) w = or_right (same_wait v w) (held (vs ++ w ∷ []) w) (held_last vs w)

held_more : (ws : List Wait) (v w : Wait) → held ws w ≡ true → held (ws ++ v ∷ []) w ≡ true
held_more [] v w h = absurd (true≢false (sym h))
held_more (u ∷ us) v w h = by-test (held_more us v w) (same_wait u w) h
  where
    by-test : (held us w ≡ true → held (us ++ v ∷ []) w ≡ true) → (b : Bool) → (b || held us w) ≡ true → (b || held (us ++ v ∷ []) w) ≡ true
    by-test later true k = refl
    by-test later false k = later k

pub held_admitted : (ws : List Wait) (o : Option Wait) (w : Wait) → held ws w ≡ true → held (admitted ws o) w ≡ true
held_admitted ws None w h = h
held_admitted ws (Some v) w h = by-test (held ws v)
  where
    by-test : (b : Bool) → held (cond b ws (ws ++ v ∷ [])) w ≡ true
    by-test true = h
    by-test false = held_more ws v w h

pub waited_admitted : (ws : List Wait) (o : Option Wait) → waited (admitted ws o) o ≡ true
waited_admitted ws None = refl
waited_admitted ws (Some w) = by-test (held ws w) refl
  where
    by-test : (b : Bool) → held ws w ≡ b → held (cond b ws (ws ++ w ∷ [])) w ≡ true
    by-test true h = h
    by-test false h = held_last ws w

waited_more : (ws : List Wait) (o w : Option Wait) → waited ws w ≡ true → waited (admitted ws o) w ≡ true
waited_more ws o None h = refl
waited_more ws o (Some w) h = held_admitted ws o w h

-- ---- lines

line_more : (ws : List Wait) (o : Option Wait) (x : Line) → lawful_line ws x ≡ true → lawful_line (admitted ws o) x ≡ true
line_more ws o x h =
    let rest = (and_parts (proper x) _ h).1 in
    and_from (proper x) _ (and_parts (proper x) _ h).0 (and_from (waited (admitted ws o) (wait_of x)) _ (waited_more ws o (wait_of x) (and_parts (waited ws (wait_of x)) _ rest).0) (and_parts (waited ws (wait_of x)) _ rest).1)

pub lawful_more : (ws : List Wait) (o : Option Wait) (xs : List Line) → lawful ws xs ≡ true → lawful (admitted ws o) xs ≡ true
lawful_more ws o [] h = refl
lawful_more ws o (x ∷ xs) h = and_from (lawful_line (admitted ws o) x) _ (line_more ws o x (and_parts (lawful_line ws x) _ h).0) (lawful_more ws o xs (and_parts (lawful_line ws x) _ h).1)

pub lawful_push : (ws : List Wait) (xs : List Line) (x : Line) → lawful ws xs ≡ true → lawful_line ws x ≡ true → lawful ws (xs ++ x ∷ []) ≡ true
lawful_push ws [] x h k = and_from (lawful_line ws x) true k refl
lawful_push ws (y ∷ ys) x h k = and_from (lawful_line ws y) _ (and_parts (lawful_line ws y) _ h).0 (lawful_push ws ys x (and_parts (lawful_line ws y) _ h).1 k)

-- the causes of a rule whose kind is named or not
abbrev causes_by : Option Kind → List Literal → List Literal → List Cause
causes_by o l r = (7, not (is_some o)) ∷ (8, not (in_range l && in_range r)) ∷ (9, not (ascends l && ascends r)) ∷ (10, fails (λ kind. shaped kind (length l) (length r)) o) ∷ (11, fails (λ kind. leb (length l) (most_left kind) && leb (length r) 16) o) ∷ []

marked_lawful : (ws : List Wait) (l r : List Literal) (kind : Kind) → (ascends l && ascends r) ≡ true → shaped kind (length l) (length r) ≡ true → (leb (length l) (most_left kind) && leb (length r) 16) ≡ true → lawful_line (admitted ws (wait_of (marked l r kind))) (marked l r kind) ≡ true
marked_lawful ws l r kind up shape short =
    let y = marked l r kind in
    let w = wait_of y in
    let ascending = and_from (ascends (literals (side_of l))) (ascends (literals (side_of r))) (ap ascends (literals_of l) ∙ (and_parts (ascends l) (ascends r) up).0) (ap ascends (literals_of r) ∙ (and_parts (ascends l) (ascends r) up).1) in
    let few = ap (λ s. leb (length s) (most_left kind)) (literals_of l) ∙ (and_parts (leb (length l) (most_left kind)) (leb (length r) 16) short).0 in
    let formed = (λ i. shaped kind (length (literals_of l i)) (length (literals_of r i))) ∙ shape in
    and_from (proper y) (waited (admitted ws w) w && sized y) ascending
    (and_from (waited (admitted ws w) w) (sized y) (waited_admitted ws w) (and_from (leb (length (literals y.left)) (most_left kind)) (shaped kind (length (literals y.left)) (length (literals y.right))) few formed))

kind_lawful : (ws : List Wait) (l r : List Literal) (x : Line) (o : Option Kind) → first_of (causes_by o l r) ≡ None → Some x ≡ option_map (marked l r) o → lawful_line (admitted ws (wait_of x)) x ≡ true
kind_lawful ws l r x None h e = absurd (cc)
kind_lawful ws l r x (Some kind) h e =
    let same : x ≡ marked l r kind = cc in
    let none = all_none (causes_by (Some kind) l r) h in
    let up = not-false (ascends l && ascends r) none.1.1.0 in
    let shape = not-false (shaped kind (length l) (length r)) none.1.1.1.0 in
    let short = not-false (leb (length l) (most_left kind) && leb (length r) 16) none.1.1.1.1.0 in
    subst (λ z. lawful_line (admitted ws (wait_of z)) z ≡ true) (sym same) (marked_lawful ws l r kind up shape short)

-- ---- indices

-- a kind that is named has its index below the count
abbrev pub UnderIf : ℕ → Option Kind → Type 0
UnderIf k None = Unit {0}
UnderIf k (Some kind) = kind_under k kind ≡ true

under_if : (k : ℕ) (b : Bool) (o e : Option Kind) → (b ≡ true → UnderIf k o) → UnderIf k e → UnderIf k (cond b o e)
under_if k true o e h f = h refl
under_if k false o e h f = f

named_under : (k n i : ℕ) → UnderIf k (kind_of n i k)
named_under k n i =
    under_if k (ltb i k) (any_index n i) None
    (λ low. under_if k (eqb n 1 && eqb i 0) _ _ (λ _. refl)
    (under_if k (eqb n 2 && eqb i 0) _ _ (λ _. refl)
    (under_if k (eqb n 3 && eqb i 0) _ _ (λ _. refl)
    (under_if k (eqb n 4) _ _ (λ _. low)
    (under_if k (eqb n 5 && eqb i 0) _ _ (λ _. refl)
    (under_if k (eqb n 6) _ _ (λ _. low) tt))))))
    tt

pub rule_indexed : (k n i : ℕ) (l r : List Literal) (x : Line) → Some x ≡ rule_line k n i l r → kind_under k x.kind ≡ true
rule_indexed k n i l r x is = by_kind (kind_of n i k) (named_under k n i) is
  where
    by_kind : (o : Option Kind) → UnderIf k o → Some x ≡ option_map (marked l r) o → kind_under k x.kind ≡ true
    by_kind None under e = absurd (cc)
    by_kind (Some kind) under e = let same : x ≡ marked l r kind = cc in ap (λ (y : Line). kind_under k y.kind) same ∙ under

pub indexed_push : (k : ℕ) (xs : List Line) (x : Line) → indexed k xs ≡ true → kind_under k x.kind ≡ true → indexed k (xs ++ x ∷ []) ≡ true
indexed_push k [] x h e = and_from (kind_under k x.kind) true e refl
indexed_push k (y ∷ ys) x h e = and_from (kind_under k y.kind) _ (and_parts (kind_under k y.kind) _ h).0 (indexed_push k ys x (and_parts (kind_under k y.kind) _ h).1 e)

pub indexed_at : (k : ℕ) (xs : List Line) (n : ℕ) → n < length xs → indexed k xs ≡ true → kind_under k (get_or xs n blank).kind ≡ true
indexed_at k [] n h e = absurd (omega arith)
indexed_at k (x ∷ xs) zero h e = (and_parts (kind_under k x.kind) (indexed k xs) e).0
indexed_at k (x ∷ xs) (suc n) h e = indexed_at k xs n (omega arith) (and_parts (kind_under k x.kind) (indexed k xs) e).1

-- the line of a rule that nothing stands against
pub rule_lawful : (ws : List Wait) (k n i : ℕ) (l r : List Literal) (x : Line) → first_of (rule_causes k n i l r) ≡ None → Some x ≡ rule_line k n i l r → lawful_line (admitted ws (wait_of x)) x ≡ true
rule_lawful ws k n i l r x none is = kind_lawful ws l r x (kind_of n i k) none is

pub lawful_at : (ws : List Wait) (xs : List Line) (n : ℕ) → n < length xs → lawful ws xs ≡ true → lawful_line ws (get_or xs n blank) ≡ true
lawful_at ws [] n h k = absurd (omega arith)
lawful_at ws (x ∷ xs) zero h k = (and_parts (lawful_line ws x) (lawful ws xs) k).0
lawful_at ws (x ∷ xs) (suc n) h k = lawful_at ws xs n (omega arith) (and_parts (lawful_line ws x) (lawful ws xs) k).1
