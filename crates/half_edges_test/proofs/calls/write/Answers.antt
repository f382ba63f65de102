use native.Mathlib.Omega.{arith}
use mathlib.Core.Path.{◌≡◌}
use lib.ListN.{length}
use Rattle.mesh_geometry.specs.Words.{read_triangles}
use Rattle.check_searches.proofs.Read.{triangles_count}
use Rattle.half_edges_test.proofs.calls.write.Goals as goal

pub open_sides-count-requires-clause-all : goal.open_sides-count-requires-clause-all
open_sides-count-requires-clause-all g c =
    let f = c.fill-once.ensures in
    let e : c.fill-once.result ≡ length (read_triangles c.args.indices.now) = omega (arith, f.most, c.if-indices-once.true, triangles_count c.args.indices.now) in
    (f.all e).table
