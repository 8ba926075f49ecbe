-- The waits that a record of them has given out. Assumes nothing.
use Rattle.std.specs.Prelude.{List}
use Rattle.calls.specs.declared.waits.Wait.{Wait}
use Rattle.inspection.specs.declared.waits.Waits.{Waits}

-- in the order of their atoms
abbrev pub given_out : Waits → List Wait
given_out w = w.given.items
