use native.Mathlib.Omega.{arith}
use Rattle.half_edges.proofs.Forms.{side_at}
use Rattle.half_edges.proofs.opens.list_triangle.Goals as goal

pub list_open-one-requires-clause-side : goal.list_open-one-requires-clause-side
list_open-one-requires-clause-side g c = side_at _ _ c.args.k 0 _ _ c.requires.numbered c.requires.within.0 c.triangle_at-t.ensures (omega arith) (omega arith)

pub list_open-two-requires-clause-side : goal.list_open-two-requires-clause-side
list_open-two-requires-clause-side g c = side_at _ _ c.args.k 1 _ _ c.requires.numbered c.requires.within.0 c.triangle_at-t.ensures (omega arith) (omega arith)

pub list_open-requires-clause-side : goal.list_open-requires-clause-side
list_open-requires-clause-side g c = side_at _ _ c.args.k 2 _ _ c.requires.numbered c.requires.within.0 c.triangle_at-t.ensures (omega arith) (omega arith)
