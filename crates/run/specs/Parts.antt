-- The literals, numbers and pairs that a part of the input holds. Assumes nothing.
use Rattle.std.specs.Prelude.{ℕ, ◌+◌, ◌*◌, List, [], ◌∷◌}
use Rattle.ordered.specs.declared.Pair.{Pair}
use Rattle.clauses.specs.declared.literals.Literal.{Literal}

-- two bytes each, with the high byte first
abbrev pub literals_of : List ℕ → List Literal
literals_of [] = []
literals_of (high ∷ []) = []
literals_of (high ∷ low ∷ bytes) = record { 0 = 256 * high + low } ∷ literals_of bytes

abbrev pub numbers_of : List ℕ → List ℕ
numbers_of [] = []
numbers_of (high ∷ []) = []
numbers_of (high ∷ low ∷ bytes) = (256 * high + low) ∷ numbers_of bytes

-- the second number of a pair after the first
abbrev pub paired : List ℕ → List Pair
paired [] = []
paired (x ∷ []) = []
paired (x ∷ y ∷ numbers) = record { first = x; second = y } ∷ paired numbers

abbrev pub pairs_of : List ℕ → List Pair
pairs_of bytes = paired (numbers_of bytes)
