-- When a line is true of a system with waits: a line of a loop is so move by move, where all the loop's rows have their rights true. It
-- stays true where loops gain rows or end. Assumes nothing.
use Rattle.std.proofs.Common.{◌≡◌, ℕ, zero, suc, ◌<◌, ◌≤◌, true, List, [], ◌∷◌, ◌++◌, length, Some, None, Option, sym, ◌∙◌, subst, arith}
use Rattle.std.specs.List.{AllByRecursion as All}
use Rattle.std.proofs.lemmas.List.{nil_from_length}
use Rattle.std.proofs.lemmas.Bool.{and_parts, eqb-true, leb-true}
use Rattle.std.proofs.lemmas.Option.{none-some, same_Some}
use Rattle.clauses.specs.declared.kinds.Kind.{Kind}
use Rattle.clauses.specs.declared.kinds.Kind.TheVariants.{Start, Global, Step, Sometime}
use Rattle.clauses.specs.declared.lines.Line.{Line}
use Rattle.clauses.specs.declared.literals.Literal.{Literal}
use Rattle.clauses.specs.Lines.{literals, side_of}
use Rattle.clauses.specs.Rules.{in_range, marked, shaped}
use Rattle.clauses.proofs.Joining.{literals_of}
use Rattle.truth.specs.Systems.{System, WellFormed, Moves}
use Rattle.truth.specs.Truth.{left_at, right_at, Eventually, Keeps, SaysOf}
use Rattle.truth.specs.Decided.{Fits}
use Rattle.truth.proofs.Rulings.{sooner_decides}
use Rattle.calls.specs.declared.waits.Wait.{Wait}
use Rattle.calls.specs.Loops.{at_loop, loop_at, row_right}
use Rattle.calls.specs.Models.{Loop}
use Rattle.calls.specs.Waits.{wait_for}
use Rattle.calls.proofs.Extending.{comes, extended, layout_left, layout_right}

-- ---- what a line says

-- every row of a loop has its right true at t
abbrev pub RowsHold : System → List Wait → Option Loop → ℕ → Type 0
RowsHold sys ws None t = Unit {0}
RowsHold sys ws (Some z) t = All (λ p. right_at (extended sys ws) (row_right z.goal p) t ≡ true) z.rows

-- what is supposed of the state that a move leads to, for a line of a loop or of none
abbrev pub Premise : System → List Wait → List Loop → Option ℕ → ℕ → Type 0
Premise sys ws loops None t = Unit {0}
Premise sys ws loops (Some n) t = RowsHold sys ws (loop_at loops n) t

-- a line of this kind, left and loop asks for its right at t, where one comes from s
abbrev pub Asks : System → List Wait → List Loop → Kind → List Literal → Option ℕ → ℕ → ℕ → Type 0
Asks sys ws loops Start left o s t = t ≡ 0
Asks sys ws loops Global left o s t = Unit {0}
Asks sys ws loops (Step scope) left o s t = Moves sys scope s t × Premise sys ws loops o t × (left_at (extended sys ws) left s ≡ true)
Asks sys ws loops (Sometime scope) left o s t = ⊥

abbrev pub TrueOf : System → List Wait → List Loop → Kind → List Literal → List Literal → Option ℕ → Type 0
TrueOf sys ws loops kind left right o = (s t : ℕ) → s < sys.states → t < sys.states → Asks sys ws loops kind left o s t → right_at (extended sys ws) right t ≡ true

abbrev pub TrueLine : System → List Wait → List Loop → Line → Type 0
TrueLine sys ws loops x = TrueOf sys ws loops x.kind (literals x.left) (literals x.right) x.belongs

-- what a line waits for is a layout literal, and comes wherever the line's left holds
abbrev pub ComesOf : System → List Wait → Kind → List Literal → List Literal → Type 0
ComesOf sys ws kind left right = (w : Wait) → wait_for kind right ≡ Some w → (w.goal.0 ≤ 2047) × ((s : ℕ) → s < sys.states → left_at (extended sys ws) left s ≡ true → comes sys w s ≡ true)

abbrev pub ComesLine : System → List Wait → Line → Type 0
ComesLine sys ws x = ComesOf sys ws x.kind (literals x.left) (literals x.right)

module _ (sys : System) (ws : List Wait) where
  -- ---- of lines that were made from lists

  pub true_made : (loops : List Loop) (kind : Kind) (left right : List Literal) (o : Option ℕ) → TrueOf sys ws loops kind left right o → TrueOf sys ws loops kind (literals (side_of left)) (literals (side_of right)) o
  true_made loops kind left right o =
      subst (λ (p : List Literal × List Literal). TrueOf sys ws loops kind p.0 p.1 o) (sym (λ i. (literals_of left i, literals_of right i)))

  comes_made : (kind : Kind) (left right : List Literal) → ComesOf sys ws kind left right → ComesOf sys ws kind (literals (side_of left)) (literals (side_of right))
  comes_made kind left right =
      subst (λ (p : List Literal × List Literal). ComesOf sys ws kind p.0 p.1) (sym (λ i. (literals_of left i, literals_of right i)))

  -- ---- where loops change

  asks_weaker : (loops more : List Loop) → ((o : Option ℕ) (t : ℕ) → Premise sys ws more o t → Premise sys ws loops o t) → (kind : Kind) (left : List Literal) (o : Option ℕ) (s t : ℕ) → Asks sys ws more kind left o s t → Asks sys ws loops kind left o s t
  asks_weaker loops more weaker Start left o s t h = h
  asks_weaker loops more weaker Global left o s t h = h
  asks_weaker loops more weaker (Step scope) left o s t h = (h.0, weaker o t h.1, h.2)
  asks_weaker loops more weaker (Sometime scope) left o s t h = h

  -- a line stays true where more is supposed
  pub true_weaker : (loops more : List Loop) → ((o : Option ℕ) (t : ℕ) → Premise sys ws more o t → Premise sys ws loops o t) → (x : Line) → TrueLine sys ws loops x → TrueLine sys ws more x
  true_weaker loops more weaker x h s t from to asks = h s t from to (asks_weaker loops more weaker x.kind (literals x.left) x.belongs s t asks)

  opened_at : (loops : List Loop) (z : Loop) (n t : ℕ) → RowsHold sys ws (loop_at (loops ++ z ∷ []) n) t → RowsHold sys ws (loop_at loops n) t
  opened_at [] z n t h = tt
  opened_at (x ∷ xs) z zero t h = h
  opened_at (x ∷ xs) z (suc n) t h = opened_at xs z n t h

  -- one loop more
  pub premise_opened : (loops : List Loop) (z : Loop) (o : Option ℕ) (t : ℕ) → Premise sys ws (loops ++ z ∷ []) o t → Premise sys ws loops o t
  premise_opened loops z None t h = tt
  premise_opened loops z (Some n) t h = opened_at loops z n t h

  changed_at : (f : Loop → Loop) → ((x : Loop) (t : ℕ) → RowsHold sys ws (Some (f x)) t → RowsHold sys ws (Some x) t) → (n : ℕ) (loops : List Loop) (k t : ℕ) → RowsHold sys ws (loop_at (at_loop n f loops) k) t → RowsHold sys ws (loop_at loops k) t
  changed_at f weaker n [] k t h = tt
  changed_at f weaker zero (x ∷ xs) zero t h = weaker x t h
  changed_at f weaker zero (x ∷ xs) (suc k) t h = h
  changed_at f weaker (suc n) (x ∷ xs) zero t h = h
  changed_at f weaker (suc n) (x ∷ xs) (suc k) t h = changed_at f weaker n xs k t h

  -- one loop changed, with no row gone
  pub premise_changed : (f : Loop → Loop) → ((x : Loop) (t : ℕ) → RowsHold sys ws (Some (f x)) t → RowsHold sys ws (Some x) t) → (n : ℕ) (loops : List Loop) (o : Option ℕ) (t : ℕ) → Premise sys ws (at_loop n f loops) o t → Premise sys ws loops o t
  premise_changed f weaker n loops None t h = tt
  premise_changed f weaker n loops (Some k) t h = changed_at f weaker n loops k t h

  -- ---- of rules that the system keeps

  module _ (l r : List Literal) (low-left : in_range l ≡ true) (low-right : in_range r ≡ true) where
    says-true : (loops : List Loop) (kind : Kind) → ((s : ℕ) → s < sys.states → SaysOf sys kind l r s) → TrueOf sys ws loops kind l r None
    says-true loops Start says s t from to asks = layout_right sys ws t r low-right ∙ says t to asks
    says-true loops Global says s t from to asks = layout_right sys ws t r low-right ∙ says t to
    says-true loops (Step scope) says s t from to asks = layout_right sys ws t r low-right ∙ says s from (sym (layout_left sys ws s l low-left) ∙ asks.2) t asks.0
    says-true loops (Sometime scope) says s t from to asks = absurd asks

  says_comes : (l r : List Literal) → in_range l ≡ true → in_range r ≡ true → (kind : Kind) → WellFormed sys → Fits sys kind → shaped kind (length l) (length r) ≡ true → ((s : ℕ) → s < sys.states → SaysOf sys kind l r s) → ComesOf sys ws kind l r
  says_comes l r low-left low-right Start wf fits formed says w is = absurd (none-some _ is)
  says_comes l r low-left low-right Global wf fits formed says w is = absurd (none-some _ is)
  says_comes l r low-left low-right (Step scope) wf fits formed says w is = absurd (none-some _ is)
  says_comes l [] low-left low-right (Sometime scope) wf fits formed says w is = absurd (none-some _ is)
  says_comes l (g ∷ gs) low-left low-right (Sometime scope) wf fits formed says w is =
      let counted = eqb-true (length (g ∷ gs)) 1 formed in
      let alone : gs ≡ [] = nil_from_length gs (omega arith) in
      subst (λ (v : Wait). (v.goal.0 ≤ 2047) × ((s : ℕ) → s < sys.states → left_at (extended sys ws) l s ≡ true → comes sys v s ≡ true)) (same_Some _ _ is) (
        leb-true g.0 2047 (and_parts _ (in_range gs) low-right).0,
        λ s from left.
            (sooner_decides sys scope (g ∷ []) s wf fits from).1
            (subst (λ rest. Eventually sys scope (g ∷ rest) s) alone (says s from (sym (layout_left sys ws s l low-left) ∙ left))),
      )

  -- a rule that is kept
  module _ (l r : List Literal) (low-left : in_range l ≡ true) (low-right : in_range r ≡ true) (kind : Kind) (keeps : Keeps sys (marked l r kind)) where
    kept-says : (s : ℕ) → s < sys.states → SaysOf sys kind l r s
    kept-says s from = subst (λ (p : List Literal × List Literal). SaysOf sys kind p.0 p.1 s) (λ i. (literals_of l i, literals_of r i)) (keeps s from)

    pub kept-true : (loops : List Loop) → TrueLine sys ws loops (marked l r kind)
    kept-true loops = true_made loops kind l r None (says-true l r low-left low-right loops kind kept-says)

    pub kept-comes : WellFormed sys → Fits sys kind → shaped kind (length l) (length r) ≡ true → ComesLine sys ws (marked l r kind)
    kept-comes wf fits formed = comes_made kind l r (says_comes l r low-left low-right kind wf fits formed kept-says)
