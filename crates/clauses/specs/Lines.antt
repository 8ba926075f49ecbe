-- The literals of a side, the side of a list of literals, and the lines that no system keeps. Assumes nothing.
use Rattle.std.specs.Prelude.{◌-◌, Bool, false, cond, List, [], ◌++◌, length, take, replicate, Some, None, Option, ◌==◌, nat_le}
use Rattle.clauses.specs.declared.literals.Literal.{Literal}
use Rattle.clauses.specs.declared.kinds.Kind.{Kind}
use Rattle.clauses.specs.declared.kinds.Kind.TheVariants.{Start, Global, Step, Sometime}
use Rattle.clauses.specs.declared.lines.Side.{Side}
use Rattle.clauses.specs.declared.lines.Line.{Line}
use Rattle.clauses.specs.Calculus.{Clause, clause, set_of}

abbrev pub zero : Literal
zero = record { 0 = 0 }

abbrev pub literals : Side → List Literal
literals s = take s.count s.places

-- the places beyond the literals hold 0
abbrev pub side_of : List Literal → Side
side_of xs = record { count = length xs; places = xs ++ replicate (16 - length xs) zero }

-- a side has 16 places
abbrev pub side_for : List Literal → Option Side
side_for xs = cond (nat_le (length xs) 16) (Some (side_of xs)) None

-- a right of these literals, in a line of this kind, can hold in no system
abbrev pub contradicts : Kind → List Literal → Bool
contradicts Start right = length right == 0
contradicts Global right = length right == 0
contradicts (Step s) right = false
contradicts (Sometime s) right = false

abbrev pub refutes : Line → Bool
refutes line = contradicts line.kind (literals line.right)

-- the clause that a line stands for
abbrev pub clause_of : Line → Clause
clause_of line = clause line.kind (set_of (literals line.left)) (set_of (literals line.right))

-- what a read past the end of a list of lines stands for in a proof
abbrev pub blank : Line
blank = record { kind = Start; left = record { count = 0; places = [] }; right = record { count = 0; places = [] }; mark = false; belongs = None }
