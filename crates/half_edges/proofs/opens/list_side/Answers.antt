use native.Mathlib.Omega.{arith}
use Rattle.check_searches.proofs.Read.{triangles_count}
use Rattle.half_edges.proofs.Lists.{opens_more}
use Rattle.half_edges.proofs.opens.list_side.Goals as goal

pub returns : goal.returns
returns c = opens_more _ c.args.m c.args.count _ (omega arith) (omega (arith, c.requires.within, triangles_count c.args.indices.now)) c.requires.listed
