use native.Mathlib.Omega.{arith}
use Rattle.check_searches.proofs.Read.{points_count}
use Rattle.check_faults.proofs.side.is_joined.Goals as goal

pub point_at-requires : goal.point_at-requires
point_at-requires c =
    let x = c in
    omega (arith, points_count x.args.mesh.points.now, x.requires.start)

pub point_at-requires-2 : goal.point_at-requires-2
point_at-requires-2 c =
    let x = c in
    omega (arith, points_count x.args.mesh.points.now, x.requires.end)
