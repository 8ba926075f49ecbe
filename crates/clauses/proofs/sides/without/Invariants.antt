use Rattle.std.proofs.Common.{◌≡◌, take}
use Rattle.clauses.specs.Lines.{side_of}
use Rattle.clauses.specs.Sides.{without}
use Rattle.clauses.proofs.sides.without.Given as goal

-- so far those that stay were kept
abbrev pub invariant-loop-x : goal.invariant-loop-x
invariant-loop-x l = l.kept ≡ side_of (without l.gone (take l.x-index l.items))
