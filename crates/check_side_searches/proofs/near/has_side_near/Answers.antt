use native.Mathlib.Omega.{arith}
use Rattle.check_searches.proofs.Read.{triangles_count}
use Rattle.check_side_searches.proofs.Sided.{sided_true, sided_all}
use Rattle.check_side_searches.proofs.near.has_side_near.Goals as goal

pub returns-then-has_side_in : goal.returns-then-has_side_in
returns-then-has_side_in c = sided_true _ _ _ c.has_side_in.ensures c.if-has_side_in.true

pub returns : goal.returns
returns c = sided_all _ _ _ c.has_side_in-2.ensures (omega (arith, triangles_count c.args.indices.now))
