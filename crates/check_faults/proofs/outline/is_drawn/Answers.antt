use native.Mathlib.Omega.{arith}
use Rattle.check_searches.proofs.Read.{triangles_count}
use Rattle.check_faults.proofs.Turns.{numbered}
use Rattle.check_searches.proofs.First.{passed_more, some_found, some_missed}
use Rattle.check_faults.proofs.outline.is_drawn.Goals as goal

pub is_bounded-requires : goal.is_bounded-requires
is_bounded-requires c =
    let x = c in
    rw c.triangle_at.ensures (numbered _ x.args.mesh.indices.now c.loop-k.k x.args.mesh.numbered (omega arith))

pub returns-then-is_bounded : goal.returns-then-is_bounded
returns-then-is_bounded c = some_found (triangles_count c.args.mesh.indices.now)
    c.loop-k.invariant (omega arith) (rw (← c.triangle_at.ensures, ← c.is_bounded.ensures)
    c.if-is_bounded.true)

pub loop-k-preserved : goal.loop-k-preserved
loop-k-preserved c = passed_more c.loop-k.invariant (omega arith) (rw (← c.triangle_at.ensures, ← c.is_bounded.ensures) c.if-is_bounded.false)

pub returns : goal.returns
returns c = some_missed (triangles_count c.args.mesh.indices.now) c.loop-k.invariant (omega arith)
