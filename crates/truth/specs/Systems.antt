-- A finite transition system, its moves and its endless paths. Assumes nothing.
use Rattle.std.specs.Prelude.{◌≡◌, ℕ, suc, ◌<◌, Bool, ◌⊎◌, List, length, slice_index}
use Rattle.clauses.specs.declared.kinds.Scope.{Scope}
use Rattle.clauses.specs.declared.kinds.Scope.TheVariants.{All, Index}

-- the states are the numbers below their count, and a system begins in 0; each state has the atoms that hold there,
-- one target for each index, and the targets of its free moves in order
pub record System : Type 0 where
  pub states : ℕ
  pub indices : ℕ
  pub holds : ℕ → ℕ → Bool
  pub target : ℕ → ℕ → ℕ
  pub free : ℕ → List ℕ

-- from s to t by the move of an index
abbrev pub IndexMove : System → ℕ → ℕ → Type 0
IndexMove sys s t = (i : ℕ) × (i < sys.indices) × (t ≡ sys.target s i)

-- from s to t by a free move
abbrev pub FreeMove : System → ℕ → ℕ → Type 0
FreeMove sys s t = (j : ℕ) × (j < length (sys.free s)) × (t ≡ slice_index (sys.free s) j)

-- from s to t by one of the moves that the scope speaks of: any, or that of one index
abbrev pub Moves : System → Scope → ℕ → ℕ → Type 0
Moves sys All s t = IndexMove sys s t ⊎ FreeMove sys s t
Moves sys (Index i) s t = t ≡ sys.target s i

-- there is a state and an index, and every move from a state leads to a state
pub record WellFormed (sys : System) : Type 0 where
  pub begins : 0 < sys.states
  pub indexed : 0 < sys.indices
  pub closed : (s t : ℕ) → s < sys.states → Moves sys All s t → t < sys.states

-- the index that the scope speaks of, if it does of one, is an index of the system
abbrev pub Speaks : System → Scope → Type 0
Speaks sys All = Unit {0}
Speaks sys (Index i) = i < sys.indices

-- an endless sequence of states from s on, joined by such moves
abbrev pub Path : System → Scope → ℕ → (ℕ → ℕ) → Type 0
Path sys scope s π = (π 0 ≡ s) × ((j : ℕ) → Moves sys scope (π j) (π (suc j)))
