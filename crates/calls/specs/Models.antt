-- The model of an inspection, which every contract of a call cites. Assumes nothing.
use Rattle.std.specs.Prelude.{ℕ, List, [], ◌++◌, length, drop}
use Rattle.clauses.specs.declared.kinds.Scope.{Scope}
use Rattle.clauses.specs.declared.lines.Line.{Line}
use Rattle.clauses.specs.declared.literals.Literal.{Literal}
use Rattle.calls.specs.declared.waits.Wait.{Wait}

pub data Standing : Type 0 where
  opened : Standing
  closed : Standing
  dropped : Standing

-- a loop: whose moves and which goal it is about, and its rows as they were given
pub record Loop : Type 0 where
  pub scope : Scope
  pub goal : Literal
  pub rows : List (List Literal)
  pub standing : Standing

-- the count of indices, the lines that the table has place for, the lines made, every byte of them,
-- the waits given out, the wait at n being atom 1,024 + n, and the loops
pub record Model : Type 0 where
  pub indices : ℕ
  pub room : ℕ
  pub lines : List Line
  pub waits : List Wait
  pub loops : List Loop

-- a newly opened inspection
abbrev pub fresh : ℕ → ℕ → Model
fresh k room = record { indices = k; room = room; lines = []; waits = []; loops = [] }

-- a table with these lines at its front; beyond them it is as it was
abbrev pub overlay : List Line → List Line → List Line
overlay xs table = xs ++ drop (length xs) table
