-- Each step makes the conclusion of a rule of the calculus, and every conclusion of a rule is made. Assumes nothing.
use Rattle.std.proofs.Common.{◌≡◌, ℕ, ◌+◌, ◌-◌, ◌%◌, Bool, true, false, cond, not, ◌&&◌, ◌||◌, eqb, List, [], ◌∷◌, length, Some, None, Option, sym, refl, ap, ◌∙◌, subst, inl, inr, ⊎_elim, true≢false, arith, eq-eqb, eqb-true}
use Rattle.std.proofs.Math.Bool.{and-false, or-false, or-true, or_comm}
use Rattle.std.specs.Cmp.{unsigned_tied}
use Rattle.std.specs.Option.{option_map}
use Rattle.std.specs.Ordering.{is_eq}
use Rattle.std.proofs.lemmas.Bool.{and_from, and_parts}
use Rattle.std.proofs.lemmas.Bool.Decides.{Decides-eqb, Decides-like, same_from_decides, nat_tests}
use Rattle.ordered.proofs.Holding.{holds_head, same-from-holds}
use Rattle.ordered.proofs.Uniting.{insert_holds, union_holds}
use Rattle.clauses.specs.declared.kinds.Kind.{Kind}
use Rattle.clauses.specs.declared.kinds.Kind.TheVariants.{Start, Global, Step, Sometime}
use Rattle.clauses.specs.declared.kinds.Scope.{Scope}
use Rattle.clauses.specs.declared.kinds.Scope.TheVariants.{All, Index}
use Rattle.clauses.specs.declared.lines.Line.{Line}
use Rattle.clauses.specs.declared.literals.Literal.{Literal}
use Rattle.clauses.specs.Calculus.{Set, set_of, none, one, ◌∪◌, contrary, Clause, clause, Apart, Resolves, sres1, sres2, sres3, sres4, sres5, sres6, sres7, sres8, StepRule, Rewrites, rw1, rw2, Enters, enters, Stays, stays}
use Rattle.clauses.specs.Kinds.{joint_kind}
use Rattle.clauses.specs.Lines.{clause_of, literals}
use Rattle.clauses.specs.Literals.{literal_order, literal_rank, opposite, same}
use Rattle.clauses.specs.Rules.{shaped}
use Rattle.clauses.specs.Sides.{ascends, has, join, opposites, without}
use Rattle.clauses.specs.Steps.{clashes, either_loop, entered_line, is_step, made, resolved_line, rewritable, rewritten_line, stayed_line}
use Rattle.clauses.proofs.Joining.{literals_of}

-- ---- literals

pub one_literal : (x y : Literal) → same x y ≡ true → x ≡ y
one_literal x y e = λ i. record { 0 = eqb-true x.0 y.0 e i }

same_itself : (x : Literal) → same x x ≡ true
same_itself x = eq-eqb x.0 x.0 refl

abbrev turned : ℕ → ℕ
turned n = cond (eqb (n % 2) 0) (n + 1) (n - 1)

turned_twice : (n : ℕ) → turned (turned n) ≡ n
turned_twice n = grind (arith, nat_tests)

pub opposite_twice : (x : Literal) → opposite (opposite x) ≡ x
opposite_twice x = λ i. record { 0 = turned_twice x.0 i }

same_turned : (m n : ℕ) → eqb (turned m) n ≡ eqb m (turned n)
same_turned m n =
    same_from_decides (eqb (turned m) n) (eqb m (turned n))
    (Decides-like (eqb (turned m) n) (λ e. sym (turned_twice m) ∙ ap turned e) (λ e. ap turned e ∙ turned_twice n) (Decides-eqb (turned m) n))
    (Decides-eqb m (turned n))

-- ---- sets of lists

pub set_one : (l : Literal) → set_of (l ∷ []) ≡ one l
set_one l = λ i z. (or-false _ ∙ unsigned_tied l.0 z.0) i

pub set_join : (xs ys : List Literal) → set_of (join xs ys) ≡ (set_of xs ∪ set_of ys)
set_join xs ys = λ i z. union_holds literal_order xs ys z i

opposites_hold : (xs : List Literal) (z : Literal) → has (opposites xs) z ≡ has xs (opposite z)
opposites_hold [] z = refl
opposites_hold (x ∷ xs) z =
    insert_holds literal_order (opposite x) (opposites xs) z
    ∙ (λ i. (unsigned_tied (opposite x).0 z.0 ∙ same_turned x.0 z.0 ∙ sym (unsigned_tied x.0 (opposite z).0)) i || opposites_hold xs z i)

pub set_opposites : (xs : List Literal) → set_of (opposites xs) ≡ contrary (set_of xs)
set_opposites xs = λ i z. opposites_hold xs z i

-- ascending lists of one set are one list
pub same_side : (xs ys : List Literal) → ascends xs ≡ true → ascends ys ≡ true → set_of xs ≡ set_of ys → xs ≡ ys
same_side xs ys up upy e =
    same-from-holds literal_order (λ x y h. one_literal x y (sym (unsigned_tied x.0 y.0) ∙ ap is_eq h)) xs ys up upy (λ z. (λ i. e i z))

-- a set without a literal
abbrev minus : Set → Literal → Set
minus C l z = C z && not (same l z)

tail_only : (t h s : Bool) → t ≡ s → (h && not s) ≡ ((t || h) && not s)
tail_only true true true e = refl
tail_only true false true e = refl
tail_only true h false e = absurd (true≢false e)
tail_only false h s e = refl

head_stays : (t h s : Bool) → (t ≡ true → s ≡ false) → (t || (h && not s)) ≡ ((t || h) && not s)
head_stays true h s e = ap not (sym (e refl))
head_stays false h s e = refl

not_both : (a b c : ℕ) → eqb a b ≡ false → eqb a c ≡ true → eqb b c ≡ false
not_both a b c e h = grind (arith, nat_tests)

without_holds : (l : Literal) (xs : List Literal) (z : Literal) → has (without l xs) z ≡ (has xs z && not (same l z))
without_holds l [] z = refl
without_holds l (x ∷ xs) z = by-test (same x l) refl (without_holds l xs z)
  where
    by-test : (b : Bool) → same x l ≡ b → has (without l xs) z ≡ (has xs z && not (same l z)) → has (cond b (without l xs) (x ∷ without l xs)) z ≡ (has (x ∷ xs) z && not (same l z))
    by-test true e h = h ∙ tail_only _ (has xs z) (same l z) (unsigned_tied x.0 z.0 ∙ ap (λ y. same y z) (one_literal x l e))
    by-test false e h =
        ap (λ t. is_eq (literal_rank x z) || t) h
        ∙ head_stays (is_eq (literal_rank x z)) (has xs z) (same l z) (λ k. not_both x.0 l.0 z.0 e (sym (unsigned_tied x.0 z.0) ∙ k))

pub set_without : (l : Literal) (xs : List Literal) → set_of (without l xs) ≡ minus (set_of xs) l
set_without l xs = λ i z. without_holds l xs z i

-- ---- resolving

-- a set that has l is the rest and l
rest_and : (c s : Bool) → (s ≡ true → c ≡ true) → c ≡ ((c && not s) || s)
rest_and true true h = refl
rest_and true false h = refl
rest_and false true h = absurd (true≢false (sym (h refl)))
rest_and false false h = refl

split : (C : Set) (l : Literal) → C l ≡ true → C ≡ (minus C l ∪ one l)
split C l h = λ i z. rest_and (C z) (same l z) (λ e. ap C (sym (one_literal l z e)) ∙ h) i

gone : (C : Set) (l : Literal) → minus C l l ≡ false
gone C l = ap (λ b. C l && not b) (same_itself l) ∙ and-false (C l)

only_rest : (c s : Bool) → (s ≡ true → c ≡ false) → ((c || s) && not s) ≡ c
only_rest true true h = sym (h refl)
only_rest true false h = refl
only_rest false true h = refl
only_rest false false h = refl

regain : (C : Set) (l : Literal) → C l ≡ false → minus (C ∪ one l) l ≡ C
regain C l h = λ i z. only_rest (C z) (same l z) (λ e. ap C (sym (one_literal l z e)) ∙ h) i

has_one : (C : Set) (l : Literal) → (C ∪ one l) l ≡ true
has_one C l = ap (λ b. C l || b) (same_itself l) ∙ or-true (C l)

union_turn : (C D : Set) → (C ∪ D) ≡ (D ∪ C)
union_turn C D = λ i z. or_comm (C z) (D z) i

nothing_there : (xs : List Literal) → eqb (length xs) 0 ≡ true → set_of xs ≡ none
nothing_there [] h = refl
nothing_there (x ∷ xs) h = let z : length (x ∷ xs) ≡ 0 = eqb-true (length (x ∷ xs)) 0 h in absurd (omega arith)

-- a start or global clause has no left
abbrev Bare : Kind → Set → Type 0
Bare Start P = P ≡ none
Bare Global P = P ≡ none
Bare (Step s) P = Unit {0}
Bare (Sometime s) P = Unit {0}

bare : (k : Kind) (xs : List Literal) (n : ℕ) → shaped k (length xs) n ≡ true → Bare k (set_of xs)
bare Start xs n h = nothing_there xs h
bare Global xs n h = nothing_there xs h
bare (Step s) xs n h = tt
bare (Sometime s) xs n h = tt

-- the rule for two kinds that join, whichever comes first
module _ (C D : Set) (l : Literal) (apart : Apart C D l) where
  abbrev Concluded : Set → Set → Kind → Kind → Kind → Type 0
  Concluded P Q j k c = StepRule (clause j P (C ∪ one l)) (clause k Q (D ∪ one (opposite l))) l (clause c (P ∪ Q) (C ∪ D))

  no_mine : (P Q : Set) (j k c : Kind) → P ≡ none → Concluded none Q j k c → Concluded P Q j k c
  no_mine P Q j k c e h = subst (λ (S : Set). Concluded S Q j k c) (sym e) h

  no_theirs : (P Q : Set) (j k c : Kind) → Q ≡ none → Concluded P none j k c → Concluded P Q j k c
  no_theirs P Q j k c e h = subst (λ (S : Set). Concluded P S j k c) (sym e) h

  turned_apart : Apart D C (opposite l)
  turned_apart = (apart.1, ap C (opposite_twice l) ∙ apart.0)

  other : (P Q : Set) (j k c : Kind) → Resolves (clause k Q (D ∪ one (opposite l))) (clause j P (C ∪ one (opposite (opposite l)))) (opposite l) (clause c (Q ∪ P) (D ∪ C)) → Concluded P Q j k c
  other P Q j k c h = inr (subst (λ (p : Literal × Set × Set). Resolves (clause k Q (D ∪ one (opposite l))) (clause j P (C ∪ one p.0)) (opposite l) (clause c p.1 p.2)) (λ i. (opposite_twice l i, union_turn Q P i, union_turn D C i)) h)

  module _ (P Q : Set) where
    to-kind : (j k c d : Kind) → Concluded P Q j k c → Some c ≡ Some d → Concluded P Q j k d
    to-kind j k c d h e = let same_kind : c ≡ d = cc in subst (Concluded P Q j k) same_kind h

    no_kind : (j k d : Kind) → None ≡ Some d → Concluded P Q j k d
    no_kind j k d e = let z : ◌≡◌ {A = ℕ} 0 1 = cc in absurd (omega arith)

    by_index : (i j : ℕ) (b : Bool) → eqb i j ≡ b → (d : Kind) → option_map Step (cond b (Some (Index i)) None) ≡ Some d → Concluded P Q (Step (Index i)) (Step (Index j)) d
    by_index i j true h d e = subst (λ k. Concluded P Q (Step (Index i)) (Step (Index k)) d) (eqb-true i j h) (to-kind (Step (Index i)) (Step (Index i)) (Step (Index i)) d (inl (sres3 i P Q C D l apart)) e)
    by_index i j false h d e = no_kind (Step (Index i)) (Step (Index j)) d e

    concluded : (j k d : Kind) → Bare j P → Bare k Q → joint_kind j k ≡ Some d → Concluded P Q j k d
    concluded Start Start d p q e = to-kind Start Start Start d (no_mine P Q Start Start Start p (no_theirs none Q Start Start Start q (inl (sres4 C D l apart)))) e
    concluded Start Global d p q e = to-kind Start Global Start d (no_mine P Q Start Global Start p (no_theirs none Q Start Global Start q (other none none Start Global Start (sres5 D C (opposite l) turned_apart)))) e
    concluded Start (Step t) d p q e = no_kind Start (Step t) d e
    concluded Start (Sometime t) d p q e = no_kind Start (Sometime t) d e
    concluded Global Start d p q e = to-kind Global Start Start d (no_mine P Q Global Start Start p (no_theirs none Q Global Start Start q (inl (sres5 C D l apart)))) e
    concluded Global Global d p q e = to-kind Global Global Global d (no_mine P Q Global Global Global p (no_theirs none Q Global Global Global q (inl (sres8 C D l apart)))) e
    concluded Global (Step All) d p q e = to-kind Global (Step All) (Step All) d (no_mine P Q Global (Step All) (Step All) p (inl (sres6 Q C D l apart))) e
    concluded Global (Step (Index i)) d p q e = to-kind Global (Step (Index i)) (Step (Index i)) d (no_mine P Q Global (Step (Index i)) (Step (Index i)) p (inl (sres7 i Q C D l apart))) e
    concluded Global (Sometime t) d p q e = no_kind Global (Sometime t) d e
    concluded (Step s) Start d p q e = no_kind (Step s) Start d e
    concluded (Step All) Global d p q e = to-kind (Step All) Global (Step All) d (no_theirs P Q (Step All) Global (Step All) q (other P none (Step All) Global (Step All) (sres6 P D C (opposite l) turned_apart))) e
    concluded (Step (Index i)) Global d p q e = to-kind (Step (Index i)) Global (Step (Index i)) d (no_theirs P Q (Step (Index i)) Global (Step (Index i)) q (other P none (Step (Index i)) Global (Step (Index i)) (sres7 i P D C (opposite l) turned_apart))) e
    concluded (Step All) (Step All) d p q e = to-kind (Step All) (Step All) (Step All) d (inl (sres1 P Q C D l apart)) e
    concluded (Step All) (Step (Index j)) d p q e = to-kind (Step All) (Step (Index j)) (Step (Index j)) d (other P Q (Step All) (Step (Index j)) (Step (Index j)) (sres2 j Q P D C (opposite l) turned_apart)) e
    concluded (Step (Index i)) (Step All) d p q e = to-kind (Step (Index i)) (Step All) (Step (Index i)) d (inl (sres2 i P Q C D l apart)) e
    concluded (Step (Index i)) (Step (Index j)) d p q e = by_index i j (eqb i j) refl d e
    concluded (Step s) (Sometime t) d p q e = no_kind (Step s) (Sometime t) d e
    concluded (Sometime s) k d p q e = no_kind (Sometime s) k d e

-- what a rule says of its conclusion, with the kinds in either order
record Joined (a b : Clause) (l : Literal) (c : Clause) : Type 0 where
  kinds : joint_kind a.kind b.kind ≡ Some c.kind
  kinds_turned : joint_kind b.kind a.kind ≡ Some c.kind
  mine : a.right l ≡ true
  theirs : b.right (opposite l) ≡ true
  left : c.left ≡ (a.left ∪ b.left)
  right : c.right ≡ (minus a.right l ∪ minus b.right (opposite l))

joined : (j k c : Kind) → joint_kind j k ≡ Some c → joint_kind k j ≡ Some c → (P Q C D : Set) (l : Literal) → Apart C D l → Joined (clause j P (C ∪ one l)) (clause k Q (D ∪ one (opposite l))) l (clause c (P ∪ Q) (C ∪ D))
joined j k c e f P Q C D l apart = record {
  kinds = e;
  kinds_turned = f;
  mine = has_one C l;
  theirs = has_one D (opposite l);
  left = refl;
  right = sym (λ i. regain C l apart.0 i ∪ regain D (opposite l) apart.1 i);
}

one_index : (i : ℕ) → joint_kind (Step (Index i)) (Step (Index i)) ≡ Some (Step (Index i))
one_index i = ap (λ b. option_map Step (cond b (Some (Index i)) None)) (eq-eqb i i refl)

resolves_joined : {a b c : Clause} {l : Literal} → Resolves a b l c → Joined a b l c
resolves_joined (sres1 P Q C D l h) = joined (Step All) (Step All) (Step All) refl refl P Q C D l h
resolves_joined (sres2 i P Q C D l h) = joined (Step (Index i)) (Step All) (Step (Index i)) refl refl P Q C D l h
resolves_joined (sres3 i P Q C D l h) = joined (Step (Index i)) (Step (Index i)) (Step (Index i)) (one_index i) (one_index i) P Q C D l h
resolves_joined (sres4 C D l h) = joined Start Start Start refl refl none none C D l h
resolves_joined (sres5 C D l h) = joined Global Start Start refl refl none none C D l h
resolves_joined (sres6 Q C D l h) = joined Global (Step All) (Step All) refl refl none Q C D l h
resolves_joined (sres7 i Q C D l h) = joined Global (Step (Index i)) (Step (Index i)) refl refl none Q C D l h
resolves_joined (sres8 C D l h) = joined Global Global Global refl refl none none C D l h

turn : (a b c : Clause) (l : Literal) → Joined b a (opposite l) c → Joined a b l c
turn a b c l j = record {
  kinds = j.kinds_turned;
  kinds_turned = j.kinds;
  mine = ap a.right (sym (opposite_twice l)) ∙ j.theirs;
  theirs = j.mine;
  left = j.left ∙ union_turn b.left a.left;
  right = j.right ∙ (λ i. minus b.right (opposite l) ∪ minus a.right (opposite_twice l i)) ∙ union_turn (minus b.right (opposite l)) (minus a.right l);
}

rule_joined : (a b c : Clause) (l : Literal) → StepRule a b l c → Joined a b l c
rule_joined a b c l h = ⊎_elim (λ r. resolves_joined r) (λ r. turn a b c l (resolves_joined r)) h

-- the clause of a line that was made
made_clause : (k : Kind) (P C : List Literal) (loop : Option ℕ) → clause_of (made k P C loop) ≡ clause k (set_of P) (set_of C)
made_clause k P C loop = λ i. clause k (set_of (literals_of P i)) (set_of (literals_of C i))

-- the counts of a line's sides fit its kind
abbrev well_shaped : Line → Bool
well_shaped x = shaped x.kind (length (literals x.left)) (length (literals x.right))

module _ (x y : Line) (l : Literal) where
  resolved_clause : (k : Kind) → clause_of (resolved_line k x y l) ≡ clause k ((clause_of x).left ∪ (clause_of y).left) (minus (clause_of x).right l ∪ minus (clause_of y).right (opposite l))
  resolved_clause k =
      let right = set_join (without l (literals x.right)) (without (opposite l) (literals y.right)) ∙ (λ i. set_without l (literals x.right) i ∪ set_without (opposite l) (literals y.right) i) in
      made_clause k (join (literals x.left) (literals y.left)) (join (without l (literals x.right)) (without (opposite l) (literals y.right))) (either_loop x.belongs y.belongs)
      ∙ (λ i. clause k (set_join (literals x.left) (literals y.left) i) (right i))

  -- what is made of two lines that clash is a rule's conclusion
  pub resolved_follows : (k : Kind) → well_shaped x ≡ true → well_shaped y ≡ true → joint_kind x.kind y.kind ≡ Some k → clashes x y l ≡ true → StepRule (clause_of x) (clause_of y) l (clause_of (resolved_line k x y l))
  resolved_follows k one-shaped two-Shaped joins clash =
      let C = (clause_of x).right in
      let D = (clause_of y).right in
      let both = and_parts (C l) (D (opposite l)) clash in
      let apart : Apart (minus C l) (minus D (opposite l)) l = (gone C l, gone D (opposite l)) in
      let made = concluded (minus C l) (minus D (opposite l)) l apart (clause_of x).left (clause_of y).left x.kind y.kind k (bare x.kind (literals x.left) (length (literals x.right)) one-shaped) (bare y.kind (literals y.left) (length (literals y.right)) two-Shaped) joins in
      subst (λ (p : Set × Set × Clause). StepRule (clause x.kind (clause_of x).left p.0) (clause y.kind (clause_of y).left p.1) l p.2)
      (sym (λ i. (split C l both.0 i, split D (opposite l) both.1 i, resolved_clause k i))) made

  -- and every conclusion of a rule is made of two lines that clash
  pub resolved_only : (d : Clause) → StepRule (clause_of x) (clause_of y) l d → (joint_kind x.kind y.kind ≡ Some d.kind) × (clashes x y l ≡ true) × (clause_of (resolved_line d.kind x y l) ≡ d)
  resolved_only d rule =
      let j = rule_joined (clause_of x) (clause_of y) d l rule in (
        j.kinds,
        and_from ((clause_of x).right l) ((clause_of y).right (opposite l)) j.mine j.theirs,
        resolved_clause d.kind ∙ sym (λ i. clause d.kind (j.left i) (j.right i)),
      )

-- ---- rewriting

there_nothing : (xs : List Literal) → set_of xs ≡ none → eqb (length xs) 0 ≡ true
there_nothing [] h = refl
there_nothing (x ∷ xs) h = absurd (true≢false (sym (holds_head literal_order x xs) ∙ (λ i. h i x)))

rewritten_clause : (x : Line) → clause_of (rewritten_line x) ≡ clause Global none (contrary (clause_of x).left)
rewritten_clause x = made_clause Global [] (opposites (literals x.left)) None ∙ ap (clause Global none) (set_opposites (literals x.left))

rewritten_kind : (k : Kind) (Q : Set) → is_step k ≡ true → Rewrites (clause k Q none) (clause Global none (contrary Q))
rewritten_kind Start Q h = absurd (true≢false (sym h))
rewritten_kind Global Q h = absurd (true≢false (sym h))
rewritten_kind (Step All) Q h = rw1 Q
rewritten_kind (Step (Index i)) Q h = rw2 i Q
rewritten_kind (Sometime s) Q h = absurd (true≢false (sym h))

pub rewritten_follows : (x : Line) → rewritable x ≡ true → Rewrites (clause_of x) (clause_of (rewritten_line x))
rewritten_follows x h =
    let parts = and_parts (is_step x.kind) (eqb (length (literals x.right)) 0) h in
    subst (λ (p : Set × Clause). Rewrites (clause x.kind (clause_of x).left p.0) p.1) (sym (λ i. (nothing_there (literals x.right) parts.1 i, rewritten_clause x i))) (rewritten_kind x.kind (clause_of x).left parts.0)

rewrites_parts : {a c : Clause} → Rewrites a c → (is_step a.kind ≡ true) × (a.right ≡ none) × (c ≡ clause Global none (contrary a.left))
rewrites_parts (rw1 Q) = (refl, refl, refl)
rewrites_parts (rw2 i Q) = (refl, refl, refl)

pub rewritten_only : (x : Line) (d : Clause) → Rewrites (clause_of x) d → (rewritable x ≡ true) × (clause_of (rewritten_line x) ≡ d)
rewritten_only x d rule =
    let parts = rewrites_parts rule in
    (and_from (is_step x.kind) (eqb (length (literals x.right)) 0) parts.0 (there_nothing (literals x.right) parts.1), rewritten_clause x ∙ sym parts.2)

-- ---- entering and staying

pair_clause : (g w : Literal) → set_of (join (g ∷ []) (w ∷ [])) ≡ (one g ∪ one w)
pair_clause g w = set_join (g ∷ []) (w ∷ []) ∙ (λ i. set_one g i ∪ set_one w i)

entered_clause : (x : Line) (g w : Literal) → clause_of (entered_line x g w) ≡ clause Global none (contrary (clause_of x).left ∪ one g ∪ one w)
entered_clause x g w =
    let left = literals x.left in
    let right = set_join (opposites left) (join (g ∷ []) (w ∷ [])) ∙ (λ i. set_opposites left i ∪ pair_clause g w i) in
    made_clause Global [] (join (opposites left) (join (g ∷ []) (w ∷ []))) None ∙ ap (clause Global none) right

stayed_clause : (s : Scope) (g w : Literal) → clause_of (stayed_line s g w) ≡ clause (Step s) (one w) (one g ∪ one w)
stayed_clause s g w = made_clause (Step s) (w ∷ []) (join (g ∷ []) (w ∷ [])) None ∙ (λ i. clause (Step s) (set_one w i) (pair_clause g w i))

module _ (x : Line) (s : Scope) (g w : Literal) (sometime : x.kind ≡ Sometime s) (goal : literals x.right ≡ g ∷ []) where
  goal_clause : clause_of x ≡ clause (Sometime s) (clause_of x).left (one g)
  goal_clause = λ i. clause (sometime i) (clause_of x).left ((ap set_of goal ∙ set_one g) i)

  pub entered_follows : Enters (clause_of x) g w (clause_of (entered_line x g w))
  entered_follows = subst (λ (p : Clause × Clause). Enters p.0 g w p.1) (sym (λ i. (goal_clause i, entered_clause x g w i))) (enters s (clause_of x).left g w)

  pub stayed_follows : Stays (clause_of x) g w (clause_of (stayed_line s g w))
  stayed_follows = subst (λ (p : Clause × Clause). Stays p.0 g w p.1) (sym (λ i. (goal_clause i, stayed_clause s g w i))) (stays s (clause_of x).left g w)

enters_parts : {g w : Literal} {a c : Clause} → Enters a g w c → (s : Scope) × (a.kind ≡ Sometime s) × (a.right ≡ one g) × (c ≡ clause Global none (contrary a.left ∪ one g ∪ one w))
enters_parts (enters s Q g w) = (s, refl, refl, refl)

stays_parts : {g w : Literal} {a c : Clause} → Stays a g w c → (s : Scope) × (a.kind ≡ Sometime s) × (a.right ≡ one g) × (c ≡ clause (Step s) (one w) (one g ∪ one w))
stays_parts (stays s Q g w) = (s, refl, refl, refl)

-- a list whose set is one literal begins with it
first_one : (xs : List Literal) (g : Literal) → set_of xs ≡ one g → (ys : List Literal) × (xs ≡ g ∷ ys)
first_one [] g h = absurd (true≢false (sym (same_itself g) ∙ sym (λ i. h i g)))
first_one (x ∷ xs) g h = (xs, ap (λ y. y ∷ xs) (sym (one_literal g x (sym (λ i. h i x) ∙ holds_head literal_order x xs))))

-- a sometime line that has g first on its right, from which d is made
abbrev pub Only : Line → Literal → Clause → (Scope → Line) → Type 0
Only x g d f = (s : Scope) × (ys : List Literal) × (x.kind ≡ Sometime s) × (literals x.right ≡ g ∷ ys) × (clause_of (f s) ≡ d)

module _ (x : Line) (g w : Literal) (d : Clause) where
  pub entered_only : Enters (clause_of x) g w d → Only x g d (λ _. entered_line x g w)
  entered_only rule =
      let parts = enters_parts rule in
      let first = first_one (literals x.right) g parts.2 in
      (parts.0, first.0, parts.1, first.1, entered_clause x g w ∙ sym parts.3)

  pub stayed_only : Stays (clause_of x) g w d → Only x g d (λ s. stayed_line s g w)
  stayed_only rule =
      let parts = stays_parts rule in
      let first = first_one (literals x.right) g parts.2 in
      (parts.0, first.0, parts.1, first.1, stayed_clause parts.0 g w ∙ sym parts.3)
