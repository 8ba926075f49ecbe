use Rattle.std.proofs.Common.{sym}
use Rattle.std.proofs.lemmas.List.{nil_from_length}
use Rattle.ordered.proofs.Uniting.{leads-left, leads-right, leads-less, leads-equal, leads-greater}
use Rattle.ordered.proofs.UnionIterator.next.Goals as goal

pub returns-in-None-Some-clause-steps : goal.returns-in-None-Some-clause-steps
returns-in-None-Some-clause-steps g c = λ o. leads-right o (nil_from_length _ c.in-None-Some.ensures.cases) c.in-None-Some.ensures'.cases.0

pub returns-in-Some-None-clause-steps : goal.returns-in-Some-None-clause-steps
returns-in-Some-None-clause-steps g c = λ o. leads-left o c.in-Some-None.ensures.cases.0 (nil_from_length _ c.in-Some-None.ensures'.cases)

pub returns-in-Less-clause-steps : goal.returns-in-Less-clause-steps
returns-in-Less-clause-steps g c = λ o. leads-less o c.in-Some-Some.ensures.cases.0 c.in-Some-Some.ensures'.cases.0 (sym c.in-Less.ensures)

pub returns-in-Equal-clause-steps : goal.returns-in-Equal-clause-steps
returns-in-Equal-clause-steps g c = λ o. leads-equal o c.in-Some-Some.ensures.cases.0 c.in-Some-Some.ensures'.cases.0 (sym c.in-Equal.ensures)

pub returns-in-Greater-clause-steps : goal.returns-in-Greater-clause-steps
returns-in-Greater-clause-steps g c = λ o. leads-greater o c.in-Some-Some.ensures.cases.0 c.in-Some-Some.ensures'.cases.0 (sym c.in-Greater.ensures)
