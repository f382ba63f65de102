use Rattle.patch.specs.Subdivide.{subdivision}
use Rattle.patch.proofs.subdivision.isolines.Goals as goal

pub returns-then-discards_any : goal.returns-then-discards_any
unfolding subdivision
returns-then-discards_any c = rw (← c.discards_any.ensures, c.if-discards_any.true)

pub returns : goal.returns
unfolding subdivision
returns c = rw (
  ← c.discards_any.ensures,
  c.if-discards_any.false,
  c.segments_in-lines.ensures.all,
  c.range_of-whole.ensures.spacing,
  c.range_of-whole.ensures.top,
  c.segments_in-along.ensures.all,
  c.range_of-range.ensures.spacing,
  c.range_of-range.ensures.top,
)
