-- The kinds that resolve with one another, case by case. Assumes nothing.
use Rattle.std.proofs.Common.{◌≡◌, ℕ, Bool, true, false, cond, eqb, Some, None, Option, refl, subst}
use Rattle.std.specs.Option.{option_map}
use Rattle.std.proofs.lemmas.Bool.{eqb-true}
use Rattle.std.proofs.lemmas.Option.{none-some, same_Some}
use Rattle.clauses.specs.declared.kinds.Kind.{Kind}
use Rattle.clauses.specs.declared.kinds.Kind.TheVariants.{Start, Global, Step, Sometime}
use Rattle.clauses.specs.declared.kinds.Scope.{Scope}
use Rattle.clauses.specs.declared.kinds.Scope.TheVariants.{All, Index}
use Rattle.clauses.specs.Kinds.{joint_kind, joint_scope}

-- ---- scopes and kinds

pub data JointScope : Scope → Scope → Scope → Type 0 where
  any_with : (b : Scope) → JointScope All b b
  with_any : (i : ℕ) → JointScope (Index i) All (Index i)
  with_itself : (i : ℕ) → JointScope (Index i) (Index i) (Index i)

pub data Joint : Kind → Kind → Kind → Type 0 where
  start_start : Joint Start Start Start
  start_global : Joint Start Global Start
  global_start : Joint Global Start Start
  global_global : Joint Global Global Global
  global_step : (u : Scope) → Joint Global (Step u) (Step u)
  step_global : (r : Scope) → Joint (Step r) Global (Step r)
  step_step : {r u v : Scope} → JointScope r u v → Joint (Step r) (Step u) (Step v)

scopes_join : (a b c : Scope) → joint_scope a b ≡ Some c → JointScope a b c
scopes_join All b c e = subst (JointScope All b) (same_Some _ _ e) (any_with b)
scopes_join (Index i) All c e = subst (JointScope (Index i) All) (same_Some _ _ e) (with_any i)
scopes_join (Index i) (Index n) c e = by-test (eqb i n) refl e
  where
    by-test : (b : Bool) → eqb i n ≡ b → cond b (Some (Index i)) None ≡ Some c → JointScope (Index i) (Index n) c
    by-test true is f = subst (λ j. JointScope (Index i) (Index j) c) (eqb-true i n is) (subst (JointScope (Index i) (Index i)) (same_Some _ _ f) (with_itself i))
    by-test false is f = absurd (none-some _ f)

-- a joint kind comes of one of these cases
pub kinds_join : (a b c : Kind) → joint_kind a b ≡ Some c → Joint a b c
kinds_join Start Start c e = subst (Joint Start Start) (same_Some _ _ e) start_start
kinds_join Start Global c e = subst (Joint Start Global) (same_Some _ _ e) start_global
kinds_join Start (Step u) c e = absurd (none-some _ e)
kinds_join Start (Sometime u) c e = absurd (none-some _ e)
kinds_join Global Start c e = subst (Joint Global Start) (same_Some _ _ e) global_start
kinds_join Global Global c e = subst (Joint Global Global) (same_Some _ _ e) global_global
kinds_join Global (Step u) c e = subst (Joint Global (Step u)) (same_Some _ _ e) (global_step u)
kinds_join Global (Sometime u) c e = absurd (none-some _ e)
kinds_join (Step r) Start c e = absurd (none-some _ e)
kinds_join (Step r) Global c e = subst (Joint (Step r) Global) (same_Some _ _ e) (step_global r)
kinds_join (Step r) (Step u) c e = by-scope (joint_scope r u) refl e
  where
    by-scope : (o : Option Scope) → joint_scope r u ≡ o → option_map Step o ≡ Some c → Joint (Step r) (Step u) c
    by-scope None is f = absurd (none-some _ f)
    by-scope (Some v) is f = subst (Joint (Step r) (Step u)) (same_Some _ _ f) (step_step (scopes_join r u v is))
kinds_join (Step r) (Sometime u) c e = absurd (none-some _ e)
kinds_join (Sometime r) b c e = absurd (none-some _ e)
