-- The line that each step makes. Assumes nothing.
use Rattle.std.specs.Prelude.{ℕ, ◌+◌, ◌*◌, Bool, true, false, ◌&&◌, List, [], ◌∷◌, length, Some, None, Option, ◌==◌, nat_le}
use Rattle.clauses.specs.declared.kinds.Kind.{Kind}
use Rattle.clauses.specs.declared.kinds.Kind.TheVariants.{Start, Global, Step, Sometime}
use Rattle.clauses.specs.declared.kinds.Scope.{Scope}
use Rattle.clauses.specs.declared.literals.Literal.{Literal}
use Rattle.clauses.specs.declared.lines.Line.{Line}
use Rattle.clauses.specs.Lines.{literals, side_of}
use Rattle.clauses.specs.Literals.{opposite}
use Rattle.clauses.specs.Sides.{ascends, has, join, without, opposites}

-- an unmarked line
abbrev pub made : Kind → List Literal → List Literal → Option ℕ → Line
made kind left right loop = record { kind = kind; left = side_of left; right = side_of right; mark = false; belongs = loop }

-- both sides of a line ascend
abbrev pub proper : Line → Bool
proper x = ascends (literals x.left) && ascends (literals x.right)

-- ---- resolving x and y on l

-- l is on the right of x, and its opposite on the right of y
abbrev pub clashes : Line → Line → Literal → Bool
clashes x y l = has (literals x.right) l && has (literals y.right) (opposite l)

abbrev pub resolved_left : Line → Line → List Literal
resolved_left x y = join (literals x.left) (literals y.left)

abbrev pub resolved_right : Line → Line → Literal → List Literal
resolved_right x y l = join (without l (literals x.right)) (without (opposite l) (literals y.right))

-- the new sides have place
abbrev pub resolved_fits : Line → Line → Literal → Bool
resolved_fits x y l = nat_le (length (resolved_left x y)) 16 && nat_le (length (resolved_right x y l)) 16

-- the loop of either line
abbrev pub either_loop : Option ℕ → Option ℕ → Option ℕ
either_loop None b = b
either_loop (Some n) b = Some n

abbrev pub resolved_line : Kind → Line → Line → Literal → Line
resolved_line kind x y l = made kind (resolved_left x y) (resolved_right x y l) (either_loop x.belongs y.belongs)

-- ---- rewriting

-- a step with an empty right
abbrev pub is_step : Kind → Bool
is_step Start = false
is_step Global = false
is_step (Step s) = true
is_step (Sometime s) = false

abbrev pub rewritable : Line → Bool
rewritable x = is_step x.kind && length (literals x.right) == 0

abbrev pub rewritten_line : Line → Line
rewritten_line x = made Global [] (opposites (literals x.left)) None

-- ---- the clauses of a wait: w is its literal, g the goal

-- the literal that asserts the wait of this number
abbrev pub wait_literal : ℕ → Literal
wait_literal n = record { 0 = 2 * (1024 + n) }

abbrev pub entered_right : Line → Literal → Literal → List Literal
entered_right x g w = join (opposites (literals x.left)) (join (g ∷ []) (w ∷ []))

abbrev pub entered_line : Line → Literal → Literal → Line
entered_line x g w = made Global [] (entered_right x g w) None

abbrev pub stayed_line : Scope → Literal → Literal → Line
stayed_line s g w = made (Step s) (w ∷ []) (join (g ∷ []) (w ∷ [])) None
