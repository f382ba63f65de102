use native.Mathlib.Omega.{arith}
use Rattle.check_searches.proofs.Read.{triangles_count}
use Rattle.half_edges.proofs.Lists.{opens_as}
use Rattle.half_edges.proofs.opens.open_sides.Goals as goal

pub returns : goal.returns
returns g c = opens_as (omega (arith, triangles_count c.args.indices.now)) c.loop-k.invariant.1
