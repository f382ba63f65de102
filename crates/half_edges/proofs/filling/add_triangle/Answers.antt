use native.Mathlib.Omega.{arith}
use Rattle.half_edges.proofs.Forms.{side_at}
use Rattle.half_edges.proofs.filling.add_triangle.Goals as goal

pub add_new-requires-clause-side : goal.add_new-requires-clause-side
add_new-requires-clause-side g c = side_at _ _ c.args.k 0 _ _ c.requires.numbered c.requires.within.0 c.triangle_at-t.ensures (omega arith) (omega arith)

pub add_new-requires-2-clause-side : goal.add_new-requires-2-clause-side
add_new-requires-2-clause-side g c =
    rw c.add_new.ensures.same_extent (side_at _ _ c.args.k 1 _ _ c.requires.numbered c.requires.within.0 c.triangle_at-t.ensures (omega arith) (omega arith))

pub add_new-requires-3-clause-side : goal.add_new-requires-3-clause-side
add_new-requires-3-clause-side g c =
    rw (c.add_new-2.ensures.same_extent, c.add_new.ensures.same_extent)
    (side_at _ _ c.args.k 2 _ _ c.requires.numbered c.requires.within.0 c.triangle_at-t.ensures (omega arith) (omega arith))
