-- What a judged plan answers, by what stands against it. Assumes nothing.
use Rattle.std.proofs.Common.{◌≡◌, ℕ, true, ltb, List, get_or, IfOk, Some, None, Ok, Err, Result, sym, ap, ◌∙◌, arith, MatchResult}
use Rattle.std.proofs.lemmas.Bool.{eqb-true, ltb-true, or_parts, not-false}
use Rattle.clauses.specs.declared.kinds.Kind.{Kind}
use Rattle.clauses.specs.declared.kinds.Kind.TheVariants.{Start, Global, Step, Sometime}
use Rattle.clauses.specs.declared.kinds.Scope.{Scope}
use Rattle.clauses.specs.declared.kinds.Scope.TheVariants.{All, Index}
use Rattle.clauses.specs.declared.lines.Line.{Line}
use Rattle.clauses.specs.Kinds.{kind_under, scope_under}
use Rattle.clauses.specs.Lines.{blank}
use Rattle.clauses.specs.Refusals.{first_of}
use Rattle.truth.specs.Decided.{Fits}
use Rattle.truth.specs.Systems.{Speaks, System}
use Rattle.plans.specs.declared.refusals.PlanRefusal.{PlanRefusal}
use Rattle.plans.specs.Refusals.{plan_number}
use Rattle.judging.specs.declared.judgements.Judgement.{Judgement}
use Rattle.judging.specs.Judging.{AllFit, Exactly, judge_causes, judgement}
use Rattle.calls.specs.Calls.{answer, judge, judged_as}
use Rattle.inspection.specs.Told.{told_judgement}
use Rattle.calls.specs.Lawful.{indexed}
use Rattle.calls.specs.Models.{Model}
use Rattle.inspection.proofs.Adding.{accepted_by, refused_by}
use Rattle.calls.proofs.Keeping.{all_none, indexed_at}

module _ (sys : System) (k : ℕ) (same : sys.indices ≡ k) where
  speaks_under : (s : Scope) → scope_under k s ≡ true → Speaks sys s
  speaks_under All h = tt
  speaks_under (Index i) h = omega (arith, ltb-true i k h)

  fits_under : (kind : Kind) → kind_under k kind ≡ true → Fits sys kind
  fits_under Start h = tt
  fits_under Global h = tt
  fits_under (Step s) h = speaks_under s h
  fits_under (Sometime s) h = speaks_under s h

  all_fit : (xs : List Line) → indexed k xs ≡ true → AllFit sys xs
  all_fit xs h = λ n l. fits_under (get_or xs n blank).kind (indexed_at k xs n l h)

-- a plan that nothing stands against has the inspection's indices
same_count : (k bytes : ℕ) (sys : System) → first_of (judge_causes k bytes sys) ≡ None → sys.indices ≡ k
same_count k bytes sys h =
    let clear = all_none (judge_causes k bytes sys) h in
    eqb-true sys.indices k (not-false _ (or_parts (ltb 256 sys.states) _ clear.1.0).1)

-- the rules that are judged are the lines made
module _ (m : Model) (sys : System) (bytes : ℕ) (ok : indexed m.indices m.lines ≡ true) where
  -- what judging the rules promises
  abbrev Judges : Result Judgement PlanRefusal → Type 0
  Judges r = MatchResult r (λ j. (first_of (judge_causes m.indices bytes sys) ≡ None) × (AllFit sys m.lines → j ≡ judgement sys m.lines)) (λ e. first_of (judge_causes m.indices bytes sys) ≡ Some (plan_number e))

  fit : first_of (judge_causes m.indices bytes sys) ≡ None → AllFit sys m.lines
  fit none = all_fit sys m.indices (same_count m.indices bytes sys none) m.lines ok

  pub judge_answer : (r : Result Judgement PlanRefusal) → Judges r → told_judgement r ≡ answer m (judge sys bytes)
  judge_answer (Ok j) h = ap judged_as (h.1 (fit h.0)) ∙ sym (accepted_by m (judge sys bytes) h.0).0
  judge_answer (Err e) h = sym (refused_by m (judge sys bytes) (plan_number e) h).0

  pub judge_exactly : (r : Result Judgement PlanRefusal) → Judges r → IfOk r (λ j. AllFit sys m.lines → Exactly sys m.lines j) → IfOk r (Exactly sys m.lines)
  judge_exactly (Ok j) h e = e (fit h.0)
  judge_exactly (Err x) h e = tt
