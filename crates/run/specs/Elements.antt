-- What a part of the input holds, element by element. Assumes nothing.
use Rattle.std.proofs.Common.{◌≡◌, ℕ, ◌+◌, ◌*◌, ◌<◌, ◌≤◌, List, [], ◌∷◌, length, take, drop, refl, ap, arith}
use Rattle.std.specs.Int.{w16, from_be_bytes}
use Rattle.ordered.specs.declared.Pair.{Pair}
use Rattle.clauses.specs.declared.literals.Literal.{Literal}
use Rattle.run.specs.Parts.{literals_of, numbers_of, pairs_of}

-- elements of n bytes each, four at most: the first n bytes hold the first, and too few hold none
pub record HeldInTurn {X : Type 0} (n : ℕ) (of : List ℕ → X) (all_of : List ℕ → List X) : Type 0 where
  pub some : 0 < n
  pub few : n ≤ 4
  pub none_left : (bytes : List ℕ) → length bytes < n → all_of bytes ≡ []
  pub one_first : (bytes : List ℕ) → n ≤ length bytes → all_of bytes ≡ of (take n bytes) ∷ all_of (drop n bytes)

-- the high byte comes first
abbrev pub number_of : List ℕ → ℕ
number_of bytes = from_be_bytes w16 bytes

abbrev pub literal_of : List ℕ → Literal
literal_of bytes = record { 0 = number_of bytes }

abbrev pub pair_of : List ℕ → Pair
pair_of bytes = record { first = number_of bytes; second = number_of (drop 2 bytes) }

two_bytes : (high low : ℕ) (rest : List ℕ) → 256 * high + low ≡ number_of (high ∷ low ∷ rest)
two_bytes high low rest = omega arith

no_number : (bytes : List ℕ) → length bytes < 2 → numbers_of bytes ≡ []
no_number [] h = refl
no_number (x ∷ []) h = refl
no_number (x ∷ y ∷ bytes) h = absurd (omega arith)

first_number : (bytes : List ℕ) → 2 ≤ length bytes → numbers_of bytes ≡ number_of (take 2 bytes) ∷ numbers_of (drop 2 bytes)
first_number [] h = absurd (omega arith)
first_number (x ∷ []) h = absurd (omega arith)
first_number (x ∷ y ∷ bytes) h = ap (λ n. n ∷ numbers_of bytes) (two_bytes x y [])

pub numbers_in_turn : HeldInTurn 2 number_of numbers_of
numbers_in_turn = record { some = omega arith; few = omega arith; none_left = no_number; one_first = first_number }

no_literal : (bytes : List ℕ) → length bytes < 2 → literals_of bytes ≡ []
no_literal [] h = refl
no_literal (x ∷ []) h = refl
no_literal (x ∷ y ∷ bytes) h = absurd (omega arith)

first_literal : (bytes : List ℕ) → 2 ≤ length bytes → literals_of bytes ≡ literal_of (take 2 bytes) ∷ literals_of (drop 2 bytes)
first_literal [] h = absurd (omega arith)
first_literal (x ∷ []) h = absurd (omega arith)
first_literal (x ∷ y ∷ bytes) h = ap (λ n. record { 0 = n } ∷ literals_of bytes) (two_bytes x y [])

pub literals_in_turn : HeldInTurn 2 literal_of literals_of
literals_in_turn = record { some = omega arith; few = omega arith; none_left = no_literal; one_first = first_literal }

no_pair : (bytes : List ℕ) → length bytes < 4 → pairs_of bytes ≡ []
no_pair [] h = refl
no_pair (x ∷ []) h = refl
no_pair (x ∷ y ∷ []) h = refl
no_pair (x ∷ y ∷ z ∷ []) h = refl
no_pair (x ∷ y ∷ z ∷ w ∷ bytes) h = absurd (omega arith)

first_pair : (bytes : List ℕ) → 4 ≤ length bytes → pairs_of bytes ≡ pair_of (take 4 bytes) ∷ pairs_of (drop 4 bytes)
first_pair [] h = absurd (omega arith)
first_pair (x ∷ []) h = absurd (omega arith)
first_pair (x ∷ y ∷ []) h = absurd (omega arith)
first_pair (x ∷ y ∷ z ∷ []) h = absurd (omega arith)
first_pair (x ∷ y ∷ z ∷ w ∷ bytes) h = λ i. record { first = two_bytes x y (z ∷ w ∷ []) i; second = two_bytes z w [] i } ∷ pairs_of bytes

pub pairs_in_turn : HeldInTurn 4 pair_of pairs_of
pairs_in_turn = record { some = omega arith; few = omega arith; none_left = no_pair; one_first = first_pair }
