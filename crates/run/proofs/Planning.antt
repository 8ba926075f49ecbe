-- What a plan's field leaves. Assumes nothing.
use Rattle.std.proofs.Common.{◌≡◌, ℕ, List, Some, None, Option, sym, refl}
use Rattle.truth.specs.Systems.{System}
use Rattle.plans.specs.Rings.{ring_causes, ring_system}
use Rattle.plans.specs.Tables.{table_causes, table_system}
use Rattle.clauses.specs.Refusals.{first_of}
use Rattle.calls.specs.Calls.{after_by, causes, judge}
use Rattle.calls.specs.Models.{Model}
use Rattle.run.specs.Parts.{numbers_of, pairs_of}
use Rattle.run.specs.Runs.{afterwards, on_plan, ring_request, table_request}

unchanged : (o : Option ℕ) (m : Model) → after_by o m m ≡ m
unchanged None m = refl
unchanged (Some n) m = refl

-- a plan leaves the inspection as it was
plan_leaves : (m : Model) (o : Option ℕ) (sys : System) → m ≡ afterwards m (on_plan o sys)
plan_leaves m None sys = sym (unchanged (first_of (causes m (judge sys 256))) m)
plan_leaves m (Some n) sys = refl

pub table_leaves : (m : Model) (k n : ℕ) (targets truths moves : List ℕ) → m ≡ afterwards m (table_request k n targets truths moves)
table_leaves m k n targets truths moves = plan_leaves m (first_of (table_causes n k (numbers_of targets) (pairs_of truths) (pairs_of moves))) (table_system n k (numbers_of targets) (pairs_of truths) (pairs_of moves))

pub ring_leaves : (m : Model) (k n back : ℕ) (truths : List ℕ) → m ≡ afterwards m (ring_request k n back truths)
ring_leaves m k n back truths = plan_leaves m (first_of (ring_causes n k back (pairs_of truths))) (ring_system n k back (pairs_of truths))
