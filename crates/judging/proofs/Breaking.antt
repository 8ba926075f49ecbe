-- A step is broken where its left holds and not every move leads to a mark. Assumes nothing.
use Rattle.std.proofs.Common.{◌≡◌, ℕ, ◌<◌, Bool, true, not, ◌&&◌, List, length, sym, ap, ◌∙◌, subst, ap₂, arith}
use Rattle.clauses.specs.declared.kinds.Kind.{Kind}
use Rattle.clauses.specs.declared.kinds.Kind.TheVariants.{Step}
use Rattle.clauses.specs.declared.kinds.Scope.{Scope}
use Rattle.clauses.specs.declared.literals.Literal.{Literal}
use Rattle.truth.specs.Decided.{Fits}
use Rattle.truth.specs.Systems.{System, Speaks, WellFormed}
use Rattle.truth.specs.Truth.{left_at, right_at}
use Rattle.truth.specs.Deciding.{breaks_of, every_next}
use Rattle.truth.proofs.Nexts.{every_next_cong, moves_stay}
use Rattle.judging.specs.Marks.{Shows, asked, marked}

module _ (sys : System) (formed : WellFormed sys) (marks : List ℕ) (states : length marks ≡ sys.states) (s : ℕ) (there : s < length marks) (scope : Scope) where
  -- where the marks show the right, every move leads to a mark exactly if every move leads to where the right holds
  next_shown : (right : List Literal) → Speaks sys scope → Shows marks (right_at sys right) → every_next sys scope (marked marks) s ≡ every_next sys scope (right_at sys right) s
  next_shown right speaks shows =
      every_next_cong sys scope (marked marks) (right_at sys right) s
      (λ t move. let stays = moves_stay sys scope formed speaks s t (omega arith) move in shows t (omega arith))

  pub step_broken : (kind : Kind) (left right held : List Literal) (r : Bool) → kind ≡ Step scope → held ≡ left → true ≡ left_at sys held s → (Speaks sys scope → r ≡ every_next sys scope (marked marks) s) → Fits sys kind → Shows marks (asked sys kind right) → not r ≡ breaks_of sys kind left right s
  step_broken kind left right held r is same holds told =
      subst (λ k. Fits sys k → Shows marks (asked sys k right) → not r ≡ breaks_of sys k left right s) (sym is)
      (λ fits shows. ap₂ (λ a b. a && not b) (holds ∙ ap (λ ls. left_at sys ls s) same) (told fits ∙ next_shown right fits shows))
