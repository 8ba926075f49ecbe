-- The system of a ring, and what stands against it. Assumes nothing.
use Rattle.std.specs.Prelude.{ℕ, ◌+◌, cond, not, ◌&&◌, List, [], ◌∷◌, nat_lt}
use Rattle.ordered.specs.declared.Pair.{Pair}
use Rattle.ordered.specs.Lists.{ascending, holds}
use Rattle.ordered.specs.Pairs.{pair_rank}
use Rattle.clauses.specs.Refusals.{Cause}
use Rattle.truth.specs.Systems.{System}
use Rattle.plans.specs.Tables.{pair, sized, truths_fit}

-- n states and k indices: every index leads to the next state, and from the last to the return state; no free moves
abbrev pub ring_system : ℕ → ℕ → ℕ → List Pair → System
ring_system n k back truths = record { states = n; indices = k; holds = λ s a. holds pair_rank truths (pair s a); target = λ s i. cond (nat_lt (s + 1) n) (s + 1) back; free = λ s. [] }

-- against a ring, in the order in which the causes are tried
abbrev pub ring_causes : ℕ → ℕ → ℕ → List Pair → List Cause
ring_causes n k back truths =
    (9, not (ascending pair_rank truths))
    ∷ (19, not (sized n k && (nat_lt back n && truths_fit n truths)))
    ∷ []
