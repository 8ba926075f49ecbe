-- What a sometime line waits for, and the waits given out. Assumes nothing.
use Rattle.std.specs.Prelude.{ℕ, suc, Bool, true, false, cond, not, ◌&&◌, ◌||◌, List, [], ◌∷◌, ◌++◌, length, Some, None, Option, ◌==◌, nat_le}
use Rattle.std.specs.Option.{option_map}
use Rattle.clauses.specs.declared.kinds.Kind.{Kind}
use Rattle.clauses.specs.declared.kinds.Kind.TheVariants.{Start, Global, Step, Sometime}
use Rattle.clauses.specs.declared.kinds.Scope.{Scope}
use Rattle.clauses.specs.declared.kinds.Scope.TheVariants.{All, Index}
use Rattle.clauses.specs.declared.lines.Line.{Line}
use Rattle.clauses.specs.declared.literals.Literal.{Literal}
use Rattle.clauses.specs.Lines.{literals}
use Rattle.calls.specs.declared.waits.Wait.{Wait}

-- the scope of a sometime kind, and the first literal on the right
abbrev pub wait_for : Kind → List Literal → Option Wait
wait_for Start right = None
wait_for Global right = None
wait_for (Step s) right = None
wait_for (Sometime s) [] = None
wait_for (Sometime s) (g ∷ gs) = Some (record { scope = s; goal = g })

abbrev pub wait_of : Line → Option Wait
wait_of line = wait_for line.kind (literals line.right)

abbrev pub same_scope : Scope → Scope → Bool
same_scope All All = true
same_scope All (Index j) = false
same_scope (Index i) All = false
same_scope (Index i) (Index j) = i == j

abbrev pub same_wait : Wait → Wait → Bool
same_wait v w = same_scope v.scope w.scope && v.goal.0 == w.goal.0

-- this one has been given out
abbrev pub held : List Wait → Wait → Bool
held [] w = false
held (v ∷ vs) w = same_wait v w || held vs w

-- it is new, and all 256 are given out
abbrev pub waitless : List Wait → Option Wait → Bool
waitless ws None = false
waitless ws (Some w) = not (held ws w) && nat_le 256 (length ws)

-- an old one is shared, and a new one takes the next place
abbrev pub admitted : List Wait → Option Wait → List Wait
admitted ws None = ws
admitted ws (Some w) = cond (held ws w) ws (ws ++ w ∷ [])

-- where this one was given out
abbrev pub place_of : List Wait → Wait → Option ℕ
place_of [] w = None
place_of (v ∷ vs) w = cond (same_wait v w) (Some 0) (option_map suc (place_of vs w))

-- what follows where there is something
abbrev pub and_then : {X Y : Type 0} → Option X → (X → Option Y) → Option Y
and_then None f = None
and_then (Some x) f = f x
