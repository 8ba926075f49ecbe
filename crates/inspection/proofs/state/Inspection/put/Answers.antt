use Rattle.std.proofs.Common.{◌<◌, [], length, take, sym, refl, ap, ◌∙◌, arith, leb-false, length-set}
use Rattle.std.proofs.lemmas.List.{length-take-le, take_more_set}
use Rattle.calls.specs.Calls.{line}
use Rattle.calls.specs.Lawful.{indexed, lawful}
use Rattle.calls.specs.Models.{overlay}
use Rattle.inspection.specs.Waits.{given_out}
use Rattle.calls.proofs.Keeping.{indexed_push, lawful_push}
use Rattle.inspection.proofs.Overlays.{overlay_set}
use Rattle.inspection.proofs.state.Inspection.put.Goals as goal

pub invariant_of-self : goal.invariant_of-self
invariant_of-self c =
    let s = c.args.self.now in
    let long = length-take-le s.made s.lines.now (omega (arith, s.within, s.fits)) in
    let free = leb-false s.room (length (take s.made s.lines.now)) c.requires.room in
    let more = take_more_set s.lines.now s.made c.args.line (omega (arith, free, long, s.fits)) in
    record {
      within = omega (arith, free, long);
      fits = omega (arith, length-set s.lines.now s.made c.args.line, s.fits);
      lawful = ap (lawful (given_out s.waits)) more ∙ lawful_push (given_out s.waits) (take s.made s.lines.now) c.args.line s.lawful c.requires.allowed.lawful;
      indexed = ap (indexed s.indices) more ∙ indexed_push s.indices (take s.made s.lines.now) c.args.line s.indexed c.requires.allowed.indexed;
    }

pub returns : goal.returns
returns c =
    let s = c.args.self.now in
    let long = length-take-le s.made s.lines.now (omega (arith, s.within, s.fits)) in
    let free = leb-false s.room (length (take s.made s.lines.now)) c.requires.room in
    let near : s.made < length s.lines.now = omega (arith, free, long, s.fits) in
    let more = take_more_set s.lines.now s.made c.args.line near in
    record {
      answer = ap line (sym long);
      after = ap (λ xs. record { indices = s.indices; room = s.room; lines = xs; waits = given_out s.waits; loops = [] }) more;
      table = sym (overlay_set s.lines.now s.made c.args.line near) ∙ sym (ap (λ l. overlay l s.lines.now) more);
      lent = refl;
    }
