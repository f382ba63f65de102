use borrow.Author.Rules.{rules}
use Prim.Native.Nat.{zero-le}
use Rattle.standard_streams.proofs.Prefixes.{length-take_of_le}
use Rattle.buffer.proofs.Laws.{wrote_within, wrote_front}
use Rattle.tsr_run.proofs.run.write_line.Goals as goal

pub slice_bounds-out-end : goal.slice_bounds-out-end
slice_bounds-out-end c = wrote_within zero-le c.put_replay-written.ensures

pub slice_bounds-write_or_tell-end : goal.slice_bounds-write_or_tell-end
slice_bounds-write_or_tell-end c = length-take_of_le _ _ (wrote_within zero-le c.put_replay-written.ensures)

pub returns : goal.returns
returns c = rw (wrote_front zero-le c.put_replay-written.ensures) at c.write_or_tell.ensures
