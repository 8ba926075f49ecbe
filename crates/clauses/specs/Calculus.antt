-- The calculus: clauses over sets of literals, and the rules by which one follows from others. Assumes nothing.
use Rattle.std.specs.Prelude.{◌≡◌, ℕ, Bool, false, ◌||◌, ◌⊎◌, List}
use Rattle.clauses.specs.declared.kinds.Kind.{Kind}
use Rattle.clauses.specs.declared.kinds.Kind.TheVariants.{Start, Global, Step, Sometime}
use Rattle.clauses.specs.declared.kinds.Scope.{Scope}
use Rattle.clauses.specs.declared.kinds.Scope.TheVariants.{All, Index}
use Rattle.clauses.specs.declared.literals.Literal.{Literal}
use Rattle.clauses.specs.Literals.{opposite, same}
use Rattle.clauses.specs.Sides.{has}

-- ---- sets

-- which literals are in it
abbrev pub Set : Type 0
Set = Literal → Bool

abbrev pub set_of : List Literal → Set
set_of xs l = has xs l

abbrev pub none : Set
none l = false

abbrev pub one : Literal → Set
one l x = same l x

infixr 60 ◌∪◌
abbrev pub ◌∪◌ : Set → Set → Set
◌∪◌ C D x = C x || D x

-- the opposites of its literals
abbrev pub contrary : Set → Set
contrary C x = C (opposite x)

-- ---- clauses

-- where all of the left hold, one of the right must
pub record Clause : Type 0 where
  pub kind : Kind
  pub left : Set
  pub right : Set

abbrev pub clause : Kind → Set → Set → Clause
clause k P C = record { kind = k; left = P; right = C }

abbrev pub all_step : Set → Set → Clause
all_step = clause (Step All)

abbrev pub index_step : ℕ → Set → Set → Clause
index_step i = clause (Step (Index i))

-- start and global clauses have no left
abbrev pub start : Set → Clause
start = clause Start none

abbrev pub global : Set → Clause
global = clause Global none

-- ---- step resolution, on l in the first clause and its opposite in the second

-- l is not in C, nor its opposite in D
abbrev pub Apart : Set → Set → Literal → Type 0
Apart C D l = (C l ≡ false) × (D (opposite l) ≡ false)

pub data Resolves : Clause → Clause → Literal → Clause → Type 0 where
  sres1 : (P Q C D : Set) (l : Literal) → Apart C D l → Resolves (all_step P (C ∪ one l)) (all_step Q (D ∪ one (opposite l))) l (all_step (P ∪ Q) (C ∪ D))
  sres2 : (i : ℕ) (P Q C D : Set) (l : Literal) → Apart C D l → Resolves (index_step i P (C ∪ one l)) (all_step Q (D ∪ one (opposite l))) l (index_step i (P ∪ Q) (C ∪ D))
  sres3 : (i : ℕ) (P Q C D : Set) (l : Literal) → Apart C D l → Resolves (index_step i P (C ∪ one l)) (index_step i Q (D ∪ one (opposite l))) l (index_step i (P ∪ Q) (C ∪ D))
  sres4 : (C D : Set) (l : Literal) → Apart C D l → Resolves (start (C ∪ one l)) (start (D ∪ one (opposite l))) l (start (C ∪ D))
  sres5 : (C D : Set) (l : Literal) → Apart C D l → Resolves (global (C ∪ one l)) (start (D ∪ one (opposite l))) l (start (C ∪ D))
  sres6 : (Q C D : Set) (l : Literal) → Apart C D l → Resolves (global (C ∪ one l)) (all_step Q (D ∪ one (opposite l))) l (all_step Q (C ∪ D))
  sres7 : (i : ℕ) (Q C D : Set) (l : Literal) → Apart C D l → Resolves (global (C ∪ one l)) (index_step i Q (D ∪ one (opposite l))) l (index_step i Q (C ∪ D))
  sres8 : (C D : Set) (l : Literal) → Apart C D l → Resolves (global (C ∪ one l)) (global (D ∪ one (opposite l))) l (global (C ∪ D))

-- the two clauses in either order
abbrev pub StepRule : Clause → Clause → Literal → Clause → Type 0
StepRule a b l c = Resolves a b l c ⊎ Resolves b a (opposite l) c

-- ---- rewriting a step with an empty right

pub data Rewrites : Clause → Clause → Type 0 where
  rw1 : (Q : Set) → Rewrites (all_step Q none) (global (contrary Q))
  rw2 : (i : ℕ) (Q : Set) → Rewrites (index_step i Q none) (global (contrary Q))

-- ---- a sometime clause with the goal g, and w, which says that one waits for it

-- where the left holds, the goal does or one waits
pub data Enters : Clause → Literal → Literal → Clause → Type 0 where
  enters : (s : Scope) (Q : Set) (g w : Literal) → Enters (clause (Sometime s) Q (one g)) g w (global (contrary Q ∪ one g ∪ one w))

-- one waits until the goal holds
pub data Stays : Clause → Literal → Literal → Clause → Type 0 where
  stays : (s : Scope) (Q : Set) (g w : Literal) → Stays (clause (Sometime s) Q (one g)) g w (clause (Step s) (one w) (one g ∪ one w))
