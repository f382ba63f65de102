use Rattle.half_edge_bits.proofs.Rows.{rowed_more}
use Rattle.half_edge_bits.proofs.add_side.Goals as goal

pub returns : goal.returns
returns c =
    let s = c.requires in
    rw c.with_bit.ensures (rowed_more _ _ _ _ _ s.held s.start s.end s.start_fits)
