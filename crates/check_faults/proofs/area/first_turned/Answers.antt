use native.Mathlib.Omega.{arith}
use mathlib.Core.Path.{refl}
use Rattle.check_faults.specs.Turns.{first_turned}
use Rattle.check_faults.proofs.Turns.{numbered}
use Rattle.check_searches.proofs.First.{passed_more, search_found, range_none}
use Rattle.check_searches.proofs.Read.{triangles_count}
use Rattle.check_faults.proofs.area.first_turned.Goals as goal

pub turns-requires-clause-numbered : goal.turns-requires-clause-numbered
turns-requires-clause-numbered c = rw c.triangle_at.ensures (numbered _ c.args.mesh.indices.now c.loop-k.k c.args.mesh.numbered (omega arith))

pub returns-then-not-turns : goal.returns-then-not-turns
unfolding first_turned
returns-then-not-turns c = search_found (triangles_count c.args.mesh.indices.now) c.loop-k.invariant
    (omega arith) (rw (← c.triangle_at.ensures, ← c.turns.ensures, c.if-not-turns.true) refl)

pub loop-k-preserved : goal.loop-k-preserved
loop-k-preserved c = passed_more c.loop-k.invariant (omega arith) (rw (← c.triangle_at.ensures, ← c.turns.ensures, c.if-not-turns.false) refl)

pub returns : goal.returns
unfolding first_turned
returns c = range_none (triangles_count c.args.mesh.indices.now) c.loop-k.invariant (omega arith)
