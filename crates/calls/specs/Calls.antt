-- The calls, what stands against each in order, what each answers and what it leaves. Assumes nothing.
use Rattle.std.specs.Prelude.{ℕ, zero, suc, ◌+◌, ◌*◌, Bool, true, false, cond, not, ◌&&◌, ◌||◌, List, [], ◌∷◌, ◌++◌, length, is_some, Some, None, Option, nat_le, nat_lt, slice_get}
use Rattle.std.specs.Option.{option_map}
use Rattle.clauses.specs.declared.lines.Line.{Line}
use Rattle.clauses.specs.declared.literals.Literal.{Literal}
use Rattle.clauses.specs.Kinds.{joint_kind}
use Rattle.clauses.specs.Lines.{literals, refutes}
use Rattle.clauses.specs.Refusals.{Cause, first_of}
use Rattle.clauses.specs.Rules.{rule_causes, rule_line}
use Rattle.clauses.specs.declared.kinds.Kind.TheVariants.{Global, Step}
use Rattle.clauses.specs.Sides.{ascends, join, opposites}
use Rattle.clauses.specs.Steps.{clashes, entered_line, made, resolved_fits, resolved_line, rewritable, rewritten_line, stayed_line, wait_literal}
use Rattle.truth.specs.Systems.{System}
use Rattle.judging.specs.declared.judgements.Judgement.{Judgement}
use Rattle.judging.specs.declared.judgements.Judgement.TheVariants.{Kept, Broken}
use Rattle.judging.specs.Judging.{judge_causes, judgement}
use Rattle.calls.specs.declared.waits.Wait.{Wait}
use Rattle.calls.specs.Models.{Loop, Model, Standing, opened, closed, dropped}
use Rattle.calls.specs.Loops.{Row, add_row, at_loop, closed_row, first_unmet, loop_at, open_here, opening, row_right, some_open, standing_as, supposed}
use Rattle.calls.specs.Waits.{admitted, and_then, place_of, same_wait, waitless, wait_of}

-- a call with its arguments
pub data Call : Type 0 where
  -- a kind's number, an index, the left and the right
  rule : ℕ → ℕ → List Literal → List Literal → Call
  -- two lines and a literal of the first
  resolve : ℕ → ℕ → Literal → Call
  rewrite : ℕ → Call
  enter : ℕ → Call
  stay : ℕ → Call
  verdict : Call
  -- the system of a plan, and how many bytes of marks there are
  judge : System → ℕ → Call
  -- a sometime line
  loop : ℕ → Call
  -- an open loop, and the literals of the row
  row : ℕ → List Literal → Call
  -- an open loop
  ready : ℕ → Call
  end : ℕ → Call
  drop : ℕ → Call
  -- a closed loop, one of its rows, and a line
  now : ℕ → ℕ → ℕ → Call
  later : ℕ → ℕ → Call

pub data Answer : Type 0 where
  line : ℕ → Answer
  impossible : ℕ → Answer
  undecided : Answer
  kept : Answer
  -- a rule and a state
  broken : ℕ → ℕ → Answer
  -- a loop was opened, closed or dropped; a row is not met; yes or no
  opens : ℕ → Answer
  closes : ℕ → Answer
  drops : ℕ → Answer
  unmet : ℕ → Answer
  told : Bool → Answer
  refused : ℕ → Answer

-- ---- what stands against a call

-- against opening with k indices and a table of so many lines
abbrev pub open_causes : ℕ → ℕ → List Cause
open_causes k lines = (5, not (nat_le 1 k && nat_le k 16)) ∷ (6, not (nat_le 1 lines && nat_le lines 4096)) ∷ []

-- the table has no place for another line
abbrev pub full : Model → Bool
full m = nat_le m.room (length m.lines)

-- the line would need a wait, and none is left
abbrev pub line_waitless : List Wait → Option Line → Bool
line_waitless ws None = false
line_waitless ws (Some x) = waitless ws (wait_of x)

-- the line of a number
abbrev pub line_at : List Line → ℕ → Option Line
line_at = slice_get

-- a loop that is not open
abbrev pub is_over : Standing → Bool
is_over opened = false
is_over closed = true
is_over dropped = true

abbrev pub over_at : List Loop → ℕ → Bool
over_at [] n = true
over_at (x ∷ xs) zero = is_over x.standing
over_at (x ∷ xs) (suc n) = over_at xs n

-- a line of a closed or dropped loop
abbrev pub ended : List Loop → Option ℕ → Bool
ended loops None = false
ended loops (Some n) = over_at loops n

-- against resolving two lines, those that are there
abbrev pub resolve_causes : List Loop → Option Line → Option Line → Literal → List Cause
resolve_causes loops None y l = (12, true) ∷ []
resolve_causes loops (Some x) None l = (12, true) ∷ []
resolve_causes loops (Some x) (Some y) l =
    (13, not (is_some (joint_kind x.kind y.kind)))
    ∷ (14, not (clashes x y l))
    ∷ (15, ended loops x.belongs || ended loops y.belongs)
    ∷ (17, not (resolved_fits x y l))
    ∷ []

-- against rewriting a line
abbrev pub rewrite_causes : Option Line → List Cause
rewrite_causes None = (12, true) ∷ []
rewrite_causes (Some x) = (13, not (rewritable x)) ∷ (15, is_some x.belongs) ∷ []

-- against making a clause of a line's wait
abbrev pub wait_causes : Option Line → List Cause
wait_causes None = (12, true) ∷ []
wait_causes (Some x) = (13, not (is_some (wait_of x))) ∷ []

-- every literal names a layout atom, or one of so many waits
abbrev pub named : ℕ → List Literal → Bool
named waits [] = true
named waits (x ∷ xs) = nat_lt x.0 (2048 + 2 * waits) && named waits xs

-- the loop of this number has 32 rows
abbrev pub rows_full : List Loop → ℕ → Bool
rows_full [] n = false
rows_full (x ∷ xs) zero = nat_le 32 (length x.rows)
rows_full (x ∷ xs) (suc n) = rows_full xs n

abbrev pub not_open : Model → ℕ → Cause
not_open m n = (16, not (open_here m.loops n))

-- a line of the row's kind, index and goal
abbrev pub fits_row : Wait → Option Wait → Bool
fits_row w None = false
fits_row w (Some v) = same_wait v w

-- the opposites of a line's left, and the right of a row
abbrev pub now_right : Row → Line → List Literal
now_right w x = join (opposites (literals x.left)) (row_right w.wait.goal w.literals)

-- against using a row of a closed loop with a line
abbrev pub now_causes : Option Row → Option Line → List Cause
now_causes None o = (12, true) ∷ []
now_causes (Some w) None = (12, true) ∷ []
now_causes (Some w) (Some x) = (13, not (fits_row w.wait (wait_of x))) ∷ (17, not (nat_le (length (now_right w x)) 16)) ∷ []

abbrev pub later_causes : Option Row → List Cause
later_causes None = (12, true) ∷ []
later_causes (Some w) = []

-- the causes of each call, in the order in which they are tried
abbrev pub causes : Model → Call → List Cause
causes m (rule n i l r) = rule_causes m.indices n i l r ++ (18, full m || line_waitless m.waits (rule_line m.indices n i l r)) ∷ []
causes m (resolve a b l) = resolve_causes m.loops (line_at m.lines a) (line_at m.lines b) l ++ (18, full m) ∷ []
causes m (rewrite n) = rewrite_causes (line_at m.lines n) ++ (18, full m) ∷ []
causes m (enter n) = wait_causes (line_at m.lines n) ++ (18, full m) ∷ []
causes m (stay n) = wait_causes (line_at m.lines n) ++ (18, full m) ∷ []
causes m verdict = []
causes m (judge sys bytes) = judge_causes m.indices bytes sys
causes m (loop n) = wait_causes (line_at m.lines n) ++ (16, some_open m.loops) ∷ (18, nat_le 64 (length m.loops)) ∷ []
causes m (row n p) = (8, not (named (length m.waits) p)) ∷ (9, not (ascends p)) ∷ (11, not (nat_le (length p) 15)) ∷ not_open m n ∷ (18, full m || rows_full m.loops n) ∷ []
causes m (ready n) = not_open m n ∷ []
causes m (end n) = not_open m n ∷ []
causes m (drop n) = not_open m n ∷ []
causes m (now n r i) = now_causes (closed_row m.loops n r) (line_at m.lines i) ++ (18, full m) ∷ []
causes m (later n r) = later_causes (closed_row m.loops n r) ++ (18, full m) ∷ []

-- ---- what a call that nothing stands against answers and leaves

-- the first of these lines that refutes, counted from i
abbrev pub lowest : ℕ → List Line → Answer
lowest i [] = undecided
lowest i (x ∷ xs) = cond (refutes x) (impossible i) (lowest (i + 1) xs)

-- one line more, and its wait where it needs one
abbrev pub with_line : Model → Option Line → Model
with_line m None = m
with_line m (Some x) = record { indices = m.indices; room = m.room; lines = m.lines ++ x ∷ []; waits = admitted m.waits (wait_of x); loops = m.loops }

-- one made line more
abbrev pub with_made : Model → Option Line → Model
with_made m None = m
with_made m (Some x) = record { indices = m.indices; room = m.room; lines = m.lines ++ x ∷ []; waits = m.waits; loops = m.loops }

abbrev pub resolved_of : Option Line → Option Line → Literal → Option Line
resolved_of None y l = None
resolved_of (Some x) None l = None
resolved_of (Some x) (Some y) l = option_map (λ kind. resolved_line kind x y l) (joint_kind x.kind y.kind)

-- the clauses of a line's wait, by the place at which the wait was given out
abbrev pub entered_of : List Wait → Option Line → Option Line
entered_of ws None = None
entered_of ws (Some x) = and_then (wait_of x) (λ w. option_map (λ n. entered_line x w.goal (wait_literal n)) (place_of ws w))

abbrev pub stayed_of : List Wait → Option Line → Option Line
stayed_of ws None = None
stayed_of ws (Some x) = and_then (wait_of x) (λ w. option_map (λ n. stayed_line w.scope w.goal (wait_literal n)) (place_of ws w))

-- the global line of a row and a sometime line
abbrev pub now_of : Option Row → Option Line → Option Line
now_of None o = None
now_of (Some w) None = None
now_of (Some w) (Some x) = Some (made Global [] (now_right w x) None)

-- the step from a row's wait to its right
abbrev pub later_of : List Wait → Option Row → Option Line
later_of ws None = None
later_of ws (Some w) = option_map (λ n. made (Step w.wait.scope) (wait_literal n ∷ []) (row_right w.wait.goal w.literals) None) (place_of ws w.wait)

-- other loops than before
abbrev pub with_loops : Model → List Loop → Model
with_loops m loops = record { indices = m.indices; room = m.room; lines = m.lines; waits = m.waits; loops = loops }

abbrev pub with_opened : Model → Option Wait → Model
with_opened m None = m
with_opened m (Some w) = with_loops m (m.loops ++ opening w ∷ [])

-- one row more, and what is supposed of it
abbrev pub with_row : Model → ℕ → List Literal → Option Loop → Model
with_row m n p None = m
with_row m n p (Some x) = with_made (with_loops m (at_loop n (add_row p) m.loops)) (Some (supposed n x.goal p))

abbrev pub waits_for : Option Line → Option Wait
waits_for None = None
waits_for (Some x) = wait_of x

-- the first row of a loop that is not met
abbrev pub unmet_row : Model → ℕ → Option ℕ
unmet_row m n = and_then (loop_at m.loops n) (first_unmet m.lines n)

abbrev pub ended_as : Option ℕ → Standing
ended_as None = closed
ended_as (Some r) = dropped

abbrev pub end_answer : ℕ → Option ℕ → Answer
end_answer n None = closes n
end_answer n (Some r) = unmet r

-- a judgement as an answer
abbrev pub judged_as : Judgement → Answer
judged_as Kept = kept
judged_as (Broken n s) = broken n s

abbrev pub gives : Model → Call → Answer
gives m (rule n i l r) = line (length m.lines)
gives m (resolve a b l) = line (length m.lines)
gives m (rewrite n) = line (length m.lines)
gives m (enter n) = line (length m.lines)
gives m (stay n) = line (length m.lines)
gives m verdict = lowest 0 m.lines
gives m (judge sys bytes) = judged_as (judgement sys m.lines)
gives m (loop n) = opens (length m.loops)
gives m (row n p) = line (length m.lines)
gives m (ready n) = told (not (is_some (unmet_row m n)))
gives m (end n) = end_answer n (unmet_row m n)
gives m (drop n) = drops n
gives m (now n r i) = line (length m.lines)
gives m (later n r) = line (length m.lines)

abbrev pub leaves : Model → Call → Model
leaves m (rule n i l r) = with_line m (rule_line m.indices n i l r)
leaves m (resolve a b l) = with_made m (resolved_of (line_at m.lines a) (line_at m.lines b) l)
leaves m (rewrite n) = with_made m (option_map rewritten_line (line_at m.lines n))
leaves m (enter n) = with_made m (entered_of m.waits (line_at m.lines n))
leaves m (stay n) = with_made m (stayed_of m.waits (line_at m.lines n))
leaves m verdict = m
leaves m (judge sys bytes) = m
leaves m (loop n) = with_opened m (waits_for (line_at m.lines n))
leaves m (row n p) = with_row m n p (loop_at m.loops n)
leaves m (ready n) = m
leaves m (end n) = with_loops m (at_loop n (standing_as (ended_as (unmet_row m n))) m.loops)
leaves m (drop n) = with_loops m (at_loop n (standing_as dropped) m.loops)
leaves m (now n r i) = with_made m (now_of (closed_row m.loops n r) (line_at m.lines i))
leaves m (later n r) = with_made m (later_of m.waits (closed_row m.loops n r))

-- ---- every call: the first cause that holds is the answer, and then nothing changes

abbrev pub answer_by : Option ℕ → Answer → Answer
answer_by None given = given
answer_by (Some n) given = refused n

abbrev pub after_by : Option ℕ → Model → Model → Model
after_by None before left = left
after_by (Some n) before left = before

abbrev pub answer : Model → Call → Answer
answer m c = answer_by (first_of (causes m c)) (gives m c)

abbrev pub after : Model → Call → Model
after m c = after_by (first_of (causes m c)) m (leaves m c)
