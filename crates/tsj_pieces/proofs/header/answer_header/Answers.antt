use Prim.Native.Nat.{zero-le}
use Rattle.standard_streams.proofs.Prefixes.{length-take_of_le}
use Rattle.buffer.proofs.Laws.{wrote_within}
use Rattle.tsj_pieces.proofs.Headers.{read_text, header_written}
use Rattle.tsj_pieces.proofs.header.answer_header.Goals as goal

pub slice_bounds-write_or_tell-end : goal.slice_bounds-write_or_tell-end
slice_bounds-write_or_tell-end c = wrote_within zero-le c.put_header-written.ensures

pub slice_bounds-write_or_tell-end-2 : goal.slice_bounds-write_or_tell-end-2
slice_bounds-write_or_tell-end-2 c = length-take_of_le _ _ (wrote_within zero-le c.put_header-written.ensures)

pub returns-then-output-clause-out_after : goal.returns-then-output-clause-out_after
returns-then-output-clause-out_after c =
    read_text c.read_or_tell-input.ensures c.if-input.false c.read_header-found.ensures.is c.put_header-written.ensures

pub returns-clause-answered_header : goal.returns-clause-answered_header
returns-clause-answered_header c =
    header_written c.read_or_tell-input.ensures c.if-input.false c.read_header-found.ensures.is c.put_header-written.ensures
    c.write_or_tell-output.ensures (cc) c.rest_of-rest.ensures

pub returns-clause-out_after : goal.returns-clause-out_after
returns-clause-out_after c = read_text c.read_or_tell-input.ensures c.if-input.false c.read_header-found.ensures.is c.put_header-written.ensures
