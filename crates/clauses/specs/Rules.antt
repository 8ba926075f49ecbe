-- What stands against a rule, in order, and the line that it makes. Assumes nothing.
use Rattle.std.specs.Prelude.{ℕ, Bool, true, false, not, ◌&&◌, List, [], ◌∷◌, length, is_some, Some, None, Option, ◌==◌, nat_le}
use Rattle.std.specs.List.{list_all}
use Rattle.std.specs.Option.{option_map}
use Rattle.ordered.specs.Lists.{ascending}
use Rattle.clauses.specs.declared.kinds.Kind.{Kind}
use Rattle.clauses.specs.declared.kinds.Kind.TheVariants.{Start, Global, Step, Sometime}
use Rattle.clauses.specs.declared.literals.Literal.{Literal}
use Rattle.clauses.specs.declared.lines.Line.{Line}
use Rattle.clauses.specs.Kinds.{kind_of}
use Rattle.clauses.specs.Lines.{side_of}
use Rattle.clauses.specs.Literals.{literal_rank}
use Rattle.clauses.specs.Refusals.{Cause}

-- a rule names the atoms 0 to 1,023
abbrev pub in_range : List Literal → Bool
in_range xs = list_all (λ x. nat_le x.0 2047) xs

-- by the counts of both sides: a start or global rule has no left, a sometime rule one literal on its right
abbrev pub shaped : Kind → ℕ → ℕ → Bool
shaped Start left right = left == 0
shaped Global left right = left == 0
shaped (Step s) left right = true
shaped (Sometime s) left right = right == 1

-- the most literals on the left
abbrev pub most_left : Kind → ℕ
most_left Start = 16
most_left Global = 16
most_left (Step s) = 16
most_left (Sometime s) = 14

-- a test that fails of a kind that there is
abbrev pub fails : (Kind → Bool) → Option Kind → Bool
fails p None = false
fails p (Some kind) = not (p kind)

-- for k indices, a kind's number and an index, and both sides
abbrev pub rule_causes : ℕ → ℕ → ℕ → List Literal → List Literal → List Cause
rule_causes k n i l r =
    (7, not (is_some (kind_of n i k)))
    ∷ (8, not (in_range l && in_range r))
    ∷ (9, not (ascending literal_rank l && ascending literal_rank r))
    ∷ (10, fails (λ kind. shaped kind (length l) (length r)) (kind_of n i k))
    ∷ (11, fails (λ kind. nat_le (length l) (most_left kind) && nat_le (length r) 16) (kind_of n i k))
    ∷ []

-- the marked line of a kind and two sides, of no loop
abbrev pub marked : List Literal → List Literal → Kind → Line
marked l r kind = record { kind = kind; left = side_of l; right = side_of r; mark = true; belongs = None }

abbrev pub rule_line : ℕ → ℕ → ℕ → List Literal → List Literal → Option Line
rule_line k n i l r = option_map (marked l r) (kind_of n i k)
