use native.Mathlib.Omega.{arith}
use Rattle.check_searches.proofs.Read.{points_count}
use Rattle.check_faults.proofs.area.turns.Goals as goal

pub point_at-p-requires : goal.point_at-p-requires
point_at-p-requires c =
    let x = c in
    omega (arith, points_count x.args.points.now, x.requires.numbered.a)

pub point_at-q-requires : goal.point_at-q-requires
point_at-q-requires c =
    let x = c in
    omega (arith, points_count x.args.points.now, x.requires.numbered.b)

pub point_at-r-requires : goal.point_at-r-requires
point_at-r-requires c =
    let x = c in
    omega (arith, points_count x.args.points.now, x.requires.numbered.c)
