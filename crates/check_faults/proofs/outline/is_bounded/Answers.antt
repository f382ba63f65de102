use native.Mathlib.Omega.{arith}
use Rattle.check_searches.proofs.Read.{points_count}
use Rattle.check_faults.proofs.outline.is_bounded.Goals as goal

pub point_at-a-requires : goal.point_at-a-requires
point_at-a-requires c =
    let x = c in
    omega (arith, points_count x.args.points.now, x.requires.a)

pub point_at-b-requires : goal.point_at-b-requires
point_at-b-requires c =
    let x = c in
    omega (arith, points_count x.args.points.now, x.requires.b)

pub point_at-c-requires : goal.point_at-c-requires
point_at-c-requires c =
    let x = c in
    omega (arith, points_count x.args.points.now, x.requires.c)
