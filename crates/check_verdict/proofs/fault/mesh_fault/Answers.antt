use native.Mathlib.Omega.{arith}
use Prim.Native.Nat.{◌/◌, ◌%◌}
use mathlib.Core.Path.{refl}
use lib.ListN.{length}
use borrow.Author.Tests.{eq-eqb}
use Rattle.check_searches.proofs.Read.{points_count}
use Rattle.check_verdict.specs.declared.fault.Fault.TheVariants.{UnknownIndex}
use Rattle.check_verdict.specs.Faults.{mesh_fault}
use Rattle.check_verdict.proofs.Chain.{found, next}
use Rattle.check_faults.proofs.Known.{all_numbered}
use Rattle.check_verdict.proofs.fault.mesh_fault.Goals as goal

pub returns-then-place-indices : goal.returns-then-place-indices
unfolding mesh_fault
returns-then-place-indices c =
    let xs = c.args.points.now in
    rw (eq-eqb (length xs % 3) 0 (omega arith), eq-eqb (length c.args.indices.now % 3) 0 (omega arith), points_count xs)
    (found UnknownIndex _ c.first_unknown-place.ensures refl c.if-place-indices.true)

pub invariant_of-mesh : goal.invariant_of-mesh
invariant_of-mesh c =
    let x = c.args in
    record {
      numbered = rw (points_count x.points.now) (all_numbered (length x.points.now / 3) x.indices.now (omega (arith, c.first_unknown-place.ensures, c.if-place-indices.false)));
    }

pub returns : goal.returns
unfolding mesh_fault
returns c =
    let xs = c.args.points.now in
    rw (eq-eqb (length xs % 3) 0 (omega arith), eq-eqb (length c.args.indices.now % 3) 0 (omega arith), points_count xs)
    (next _ c.first_unknown-place.ensures refl c.if-place-indices.false c.point_fault.ensures)
