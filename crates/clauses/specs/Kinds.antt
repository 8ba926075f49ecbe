-- The kind that a number and an index name, and the kinds that resolve with one another. Assumes nothing.
use Rattle.std.specs.Prelude.{ℕ, Bool, true, cond, ◌&&◌, Some, None, Option, ◌==◌, nat_lt}
use Rattle.std.specs.Option.{option_map}
use Rattle.clauses.specs.declared.kinds.Scope.{Scope}
use Rattle.clauses.specs.declared.kinds.Scope.TheVariants.{All, Index}
use Rattle.clauses.specs.declared.kinds.Kind.{Kind}
use Rattle.clauses.specs.declared.kinds.Kind.TheVariants.{Start, Global, Step, Sometime}

-- number and index; the kinds 1, 2, 3 and 5 have no index, and stand with 0
abbrev pub any_index : ℕ → ℕ → Option Kind
any_index n i =
    cond (n == 1 && i == 0) (Some Start)
    (cond (n == 2 && i == 0) (Some Global)
    (cond (n == 3 && i == 0) (Some (Step All))
    (cond (n == 4) (Some (Step (Index i)))
    (cond (n == 5 && i == 0) (Some (Sometime All))
    (cond (n == 6) (Some (Sometime (Index i))) None)))))

-- the same, with an index below the count of indices
abbrev pub kind_of : ℕ → ℕ → ℕ → Option Kind
kind_of n i k = cond (nat_lt i k) (any_index n i) None

-- all moves with those of any scope, and one index with itself
abbrev pub joint_scope : Scope → Scope → Option Scope
joint_scope All t = Some t
joint_scope (Index i) All = Some (Index i)
joint_scope (Index i) (Index j) = cond (i == j) (Some (Index i)) None

-- start with start or global, global with all but sometime, step with step where their scopes join
abbrev pub joint_kind : Kind → Kind → Option Kind
joint_kind Start Start = Some Start
joint_kind Start Global = Some Start
joint_kind Start (Step t) = None
joint_kind Start (Sometime t) = None
joint_kind Global Start = Some Start
joint_kind Global Global = Some Global
joint_kind Global (Step t) = Some (Step t)
joint_kind Global (Sometime t) = None
joint_kind (Step s) Start = None
joint_kind (Step s) Global = Some (Step s)
joint_kind (Step s) (Step t) = option_map Step (joint_scope s t)
joint_kind (Step s) (Sometime t) = None
joint_kind (Sometime s) k = None

-- the index of a scope or a kind, where it has one, is below k
abbrev pub scope_under : ℕ → Scope → Bool
scope_under k All = true
scope_under k (Index i) = nat_lt i k

abbrev pub kind_under : ℕ → Kind → Bool
kind_under k Start = true
kind_under k Global = true
kind_under k (Step s) = scope_under k s
kind_under k (Sometime s) = scope_under k s
