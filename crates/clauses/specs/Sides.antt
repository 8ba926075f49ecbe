-- New sides from sides, as lists in ascending order. Assumes nothing.
use Rattle.std.specs.Prelude.{Bool, cond, List, [], ◌∷◌}
use Rattle.ordered.specs.Lists.{ascending, holds}
use Rattle.ordered.specs.Unions.{insert, union}
use Rattle.clauses.specs.declared.literals.Literal.{Literal}
use Rattle.clauses.specs.Literals.{literal_rank, opposite, same}

-- a side that holds each literal once, in ascending order
abbrev pub ascends : List Literal → Bool
ascends side = ascending literal_rank side

-- the literal is in the side
abbrev pub has : List Literal → Literal → Bool
has side l = holds literal_rank side l

-- the literals of both
abbrev pub join : List Literal → List Literal → List Literal
join xs ys = union literal_rank xs ys

abbrev pub without : Literal → List Literal → List Literal
without l [] = []
without l (x ∷ xs) = cond (same x l) (without l xs) (x ∷ without l xs)

abbrev pub opposites : List Literal → List Literal
opposites [] = []
opposites (x ∷ xs) = insert literal_rank (opposite x) (opposites xs)
