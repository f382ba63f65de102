use native.Mathlib.Omega.{arith}
use Rattle.check_searches.proofs.Read.{points_count}
use Rattle.check_watertight.proofs.closing.reach.Goals as goal

pub reach_by-requires-clause-vertices : goal.reach_by-requires-clause-vertices
reach_by-requires-clause-vertices c = omega (arith, points_count c.args.mesh.points.now)

pub reach_by-requires-2-clause-vertices : goal.reach_by-requires-2-clause-vertices
reach_by-requires-2-clause-vertices c = omega (arith, points_count c.args.mesh.points.now)
