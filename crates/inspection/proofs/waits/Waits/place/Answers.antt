use Rattle.std.proofs.Common.{◌≡◌, is_some, sym, ap, ◌∙◌, rules, tests}
use Rattle.std.proofs.lemmas.Iterator.{YieldsList-from_slice}
use Rattle.std.proofs.lemmas.Iterator.Search.{position_from_yields_List}
use Rattle.calls.specs.Waits.{place_of, same_wait}
use Rattle.inspection.specs.Waits.{given_out}
use Rattle.inspection.proofs.Given.{held_place, position_place}
use Rattle.inspection.proofs.waits.Waits.place.Goals as goal

place : (c : goal.After-position) → c.position.result ≡ place_of (given_out c.args.self.now) c.args.wanted
place c =
    let ws = given_out c.args.self.now in
    let w = c.args.wanted in
    position_from_yields_List (λ v. same_wait v w) _ _ c.position.result c.position.ensures.ran (YieldsList-from_slice ws (cc)) (λ x b q k. search (rules, tests)) ∙ position_place ws w

pub returns-clause-value : goal.returns-clause-value
returns-clause-value c = place c

pub returns-clause-held : goal.returns-clause-held
returns-clause-held c = ap is_some (place c) ∙ sym (held_place (given_out c.args.self.now) c.args.wanted)
