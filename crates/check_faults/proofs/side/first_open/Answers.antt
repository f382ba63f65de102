use native.Mathlib.Omega.{arith}
use Prim.Native.Nat.{◌*◌}
use mathlib.Core.Path.{ap, refl}
use Rattle.check_searches.proofs.Read.{triangles_count}
use Rattle.check_searches.proofs.First.{search_found, range_none}
use Rattle.check_faults.specs.Outline.{first_open}
use Rattle.check_faults.proofs.side.first_open.Goals as goal

pub returns-then-not-is_closed : goal.returns-then-not-is_closed
unfolding first_open
returns-then-not-is_closed c = search_found (ap (λ n. n * 3) (triangles_count c.args.mesh.indices.now))
    c.loop-m.invariant (omega arith) (rw (← c.is_closed.ensures, c.if-not-is_closed.true) refl)

pub returns : goal.returns
unfolding first_open
returns c = range_none (ap (λ n. n * 3) (triangles_count c.args.mesh.indices.now)) c.loop-m.invariant (omega arith)
