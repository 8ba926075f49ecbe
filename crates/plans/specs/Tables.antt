-- The system of three tables, and what stands against them. Assumes nothing.
use Rattle.std.specs.Prelude.{ℕ, ◌+◌, ◌*◌, Bool, cond, not, ◌&&◌, List, [], ◌∷◌, length, take, ◌==◌, nat_le, nat_lt, slice_index}
use Rattle.std.specs.List.{list_all}
use Rattle.ordered.specs.declared.Pair.{Pair}
use Rattle.ordered.specs.Lists.{ascending, holds}
use Rattle.ordered.specs.Pairs.{pair_rank}
use Rattle.clauses.specs.Refusals.{Cause}
use Rattle.truth.specs.Systems.{System}

-- ---- the system

abbrev pub pair : ℕ → ℕ → Pair
pair x y = record { first = x; second = y }

-- the second numbers of the pairs that begin with s, in their order
abbrev pub leading : ℕ → List Pair → List ℕ
leading s [] = []
leading s (p ∷ ps) = cond (p.first == s) (p.second ∷ leading s ps) (leading s ps)

-- n states and k indices; targets by state and then by index, truths as pairs of state and atom, free moves as pairs of from and to
abbrev pub table_system : ℕ → ℕ → List ℕ → List Pair → List Pair → System
table_system n k targets truths moves = record { states = n; indices = k; holds = λ s a. holds pair_rank truths (pair s a); target = λ s i. slice_index targets (s * k + i); free = λ s. leading s moves }

-- ---- what stands against it

-- 1 to 256 states and 1 to 16 indices
abbrev pub sized : ℕ → ℕ → Bool
sized n k = (nat_le 1 n && nat_le n 256) && (nat_le 1 k && nat_le k 16)

-- the first number of each pair is below the one bound, and the second below the other
abbrev pub pairs_below : ℕ → ℕ → List Pair → Bool
pairs_below one two pairs = list_all (λ p. nat_lt p.first one && nat_lt p.second two) pairs

-- at most 8,192 pairs of a state and an atom, of which there are 1,024
abbrev pub truths_fit : ℕ → List Pair → Bool
truths_fit n truths = nat_le (length truths) 8192 && pairs_below n 1024 truths

-- at most 4,096 pairs of states
abbrev pub moves_fit : ℕ → List Pair → Bool
moves_fit n moves = nat_le (length moves) 4096 && pairs_below n n moves

abbrev pub all_under : ℕ → List ℕ → Bool
all_under n numbers = list_all (λ t. nat_lt t n) numbers

-- every target is a state
abbrev pub targets_fit : ℕ → ℕ → List ℕ → Bool
targets_fit n k targets = all_under n (take (n * k) targets)

-- against tables of n states and k indices, in the order in which the causes are tried
abbrev pub table_causes : ℕ → ℕ → List ℕ → List Pair → List Pair → List Cause
table_causes n k targets truths moves =
    (6, nat_lt (length targets) (n * k))
    ∷ (9, not (ascending pair_rank truths && ascending pair_rank moves))
    ∷ (19, not (sized n k && (targets_fit n k targets && (truths_fit n truths && moves_fit n moves))))
    ∷ []
