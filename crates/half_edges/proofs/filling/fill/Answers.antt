use native.Mathlib.Omega.{arith}
use Prim.Native.Nat.{◌/◌}
use lib.ListN.{length}
use mathlib.Core.Path.{◌≡◌, refl}
use Rattle.check_searches.proofs.Read.{triangles_count}
use Rattle.half_edges.proofs.Forms.{filled_as}
use Rattle.half_edges.proofs.Repeats.{once_none}
use Rattle.half_edges.proofs.filling.fill.Goals as goal

pub loop-k-init : goal.loop-k-init
loop-k-init g c = (omega arith, record { table = c.requires.empty; once = once_none _ }, refl)

pub add_triangle-requires-clause-numbered : goal.add_triangle-requires-clause-numbered
add_triangle-requires-clause-numbered g c = rw c.loop-k.invariant.2 c.requires.numbered

pub add_triangle-requires-clause-room : goal.add_triangle-requires-clause-room
add_triangle-requires-clause-room g c = rw c.loop-k.invariant.2 c.requires.room

pub returns-then-not-add_triangle-clause-filled : goal.returns-then-not-add_triangle-clause-filled
returns-then-not-add_triangle-clause-filled g c =
    let l = c.loop-k in
    let n = triangles_count c.args.indices.now in
    record { most = omega arith; once = l.invariant.1.once; all = λ e. absurd (omega (arith, e)) }

pub returns-clause-filled : goal.returns-clause-filled
returns-clause-filled g c =
    let l = c.loop-k in
    let n = triangles_count c.args.indices.now in
    let e : l.k ≡ length c.args.indices.now / 3 = omega arith in
    record { most = omega arith; once = rw e at l.invariant.1.once; all = λ h. filled_as (omega (arith, h)) l.invariant.1 }
