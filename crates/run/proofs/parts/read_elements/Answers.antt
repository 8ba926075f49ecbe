use Rattle.std.proofs.Common.{map, ap, ◌∙◌, arith}
use Rattle.std.proofs.lemmas.List.{take_all}
use Rattle.run.proofs.Reading.{chunks_read}
use Rattle.run.proofs.parts.read_elements.Goals as goal

pub as_chunks-requires : goal.as_chunks-requires
as_chunks-requires g c = let h = g.met.T.Element.in_turn in (omega (arith, h.few), h.some)

pub returns : goal.returns
returns g c =
    let e = g.T.Element in
    let chunks = c.as_chunks.result.0.now in
    c.loop-bytes.invariant
    ∙ ap (map e.of) (take_all c.loop-bytes.bytes-index chunks c.loop-bytes-test.false)
    ∙ ap (map e.of) c.as_chunks.ensures.front
    ∙ chunks_read g.row.SIZE e.of e.all_of g.met.T.Element.in_turn c.args.part.now
