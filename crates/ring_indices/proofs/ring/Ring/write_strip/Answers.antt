use Rattle.ring_indices.proofs.Bands.{outer_follows}
use Rattle.ring_indices.proofs.ring.Ring.write_strip.Goals as goal

pub returns : goal.returns
returns c = outer_follows c.args.positive c.args.inner
    c.line-outer.ensures c.write_strip.ensures
