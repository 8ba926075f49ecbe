use Rattle.std.proofs.Common.{arith}
use Rattle.plans.proofs.Fitting.{table_fits, target_place}
use Rattle.plans.proofs.answers.TablePlanPlan.target.Goals as goal

pub bounds-self-from : goal.bounds-self-from
bounds-self-from c =
    let plan = c.args.self.now in
    let place = target_place plan c.args.state c.args.index c.if-state-self.false c.if-index-self.false in
    let fits = table_fits plan in
    rw (c.from.ensures, c.from-2.ensures, c.from-3.ensures) (omega (arith, place, fits.enough))
