-- Loops by their numbers, their rows, and when a row is met. Assumes nothing.
use Rattle.std.specs.Prelude.{ℕ, zero, suc, ◌+◌, Bool, true, false, cond, ◌&&◌, ◌||◌, List, [], ◌∷◌, ◌++◌, length, Some, None, Option, ◌==◌, slice_get}
use Rattle.std.specs.Option.{option_map}
use Rattle.ordered.specs.Lists.{within}
use Rattle.clauses.specs.declared.kinds.Kind.{Kind}
use Rattle.clauses.specs.declared.kinds.Kind.TheVariants.{Start, Global, Step, Sometime}
use Rattle.clauses.specs.declared.kinds.Scope.{Scope}
use Rattle.clauses.specs.declared.kinds.Scope.TheVariants.{All, Index}
use Rattle.clauses.specs.declared.lines.Line.{Line}
use Rattle.clauses.specs.declared.literals.Literal.{Literal}
use Rattle.clauses.specs.Lines.{literals}
use Rattle.clauses.specs.Literals.{literal_rank}
use Rattle.clauses.specs.Sides.{join, opposites}
use Rattle.clauses.specs.Steps.{made}
use Rattle.calls.specs.declared.waits.Wait.{Wait}
use Rattle.calls.specs.Models.{Loop, Standing, opened, closed, dropped}
use Rattle.calls.specs.Waits.{and_then}

-- ---- loops by number

abbrev pub is_open : Standing → Bool
is_open opened = true
is_open closed = false
is_open dropped = false

abbrev pub is_closed : Standing → Bool
is_closed opened = false
is_closed closed = true
is_closed dropped = false

abbrev pub loop_at : List Loop → ℕ → Option Loop
loop_at = slice_get

-- the loop of this number is open
abbrev pub open_here : List Loop → ℕ → Bool
open_here [] n = false
open_here (x ∷ xs) zero = is_open x.standing
open_here (x ∷ xs) (suc n) = open_here xs n

-- some loop is open
abbrev pub some_open : List Loop → Bool
some_open [] = false
some_open (x ∷ xs) = is_open x.standing || some_open xs

-- the loop of this number changed, and the others as they were
abbrev pub at_loop : ℕ → (Loop → Loop) → List Loop → List Loop
at_loop n f [] = []
at_loop zero f (x ∷ xs) = f x ∷ xs
at_loop (suc n) f (x ∷ xs) = x ∷ at_loop n f xs

-- a new loop for what a line waits for
abbrev pub opening : Wait → Loop
opening w = record { scope = w.scope; goal = w.goal; rows = []; standing = opened }

abbrev pub standing_as : Standing → Loop → Loop
standing_as s x = record { scope = x.scope; goal = x.goal; rows = x.rows; standing = s }

-- ---- rows

abbrev pub add_row : List Literal → Loop → Loop
add_row p x = record { scope = x.scope; goal = x.goal; rows = x.rows ++ p ∷ []; standing = x.standing }

-- the right of a row: the goal, and the opposites of its literals
abbrev pub row_right : Literal → List Literal → List Literal
row_right g p = join (g ∷ []) (opposites p)

-- what is supposed of a row: every move leads to where its right holds
abbrev pub supposed : ℕ → Literal → List Literal → Line
supposed n g p = made (Step All) [] (row_right g p) (Some n)

-- a row of a closed loop, with the loop's scope and goal
pub record Row : Type 0 where
  pub wait : Wait
  pub literals : List Literal

abbrev pub waited_by : Loop → Wait
waited_by x = record { scope = x.scope; goal = x.goal }

abbrev pub row_at : List (List Literal) → ℕ → Option (List Literal)
row_at = slice_get

abbrev pub row_of : ℕ → Loop → Option Row
row_of r x = cond (is_closed x.standing) (option_map (λ p. record { wait = waited_by x; literals = p }) (row_at x.rows r)) None

abbrev pub closed_row : List Loop → ℕ → ℕ → Option Row
closed_row loops n r = and_then (loop_at loops n) (row_of r)

-- ---- when a row is met

abbrev pub belongs_to : ℕ → Option ℕ → Bool
belongs_to n None = false
belongs_to n (Some l) = l == n

-- a step that a loop of this scope may go by: any, or for one index an all-step or one of its own
abbrev pub step_for : Scope → Kind → Bool
step_for s Start = false
step_for s Global = false
step_for All (Step t) = true
step_for (Index i) (Step All) = true
step_for (Index i) (Step (Index j)) = i == j
step_for s (Sometime t) = false

-- a line of loop n with an empty right and its left within the row
abbrev pub meets : Scope → ℕ → List Literal → Line → Bool
meets s n p x = belongs_to n x.belongs && (step_for s x.kind && (length (literals x.right) == 0 && within literal_rank (literals x.left) p))

abbrev pub met : Scope → ℕ → List Literal → List Line → Bool
met s n p [] = false
met s n p (x ∷ xs) = meets s n p x || met s n p xs

-- the first of these rows, counted from i, that is not met
abbrev pub unmet_from : ℕ → Scope → ℕ → List Line → List (List Literal) → Option ℕ
unmet_from i s n lines [] = None
unmet_from i s n lines (p ∷ ps) = cond (met s n p lines) (unmet_from (i + 1) s n lines ps) (Some i)

abbrev pub first_unmet : List Line → ℕ → Loop → Option ℕ
first_unmet lines n x = unmet_from 0 x.scope n lines x.rows
