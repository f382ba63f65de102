use native.Mathlib.Omega.{arith}
use mathlib.Core.Path.{◌≡◌}
use lib.ListN.{length}
use Rattle.mesh_geometry.specs.Words.{read_triangles}
use Rattle.check_searches.proofs.Read.{points_count, triangles_count}
use Rattle.half_edge_chains.proofs.Numbers.{numbered_wider}
use Rattle.check_watertight.proofs.Joins.{blank_all, marked_none, shown_once, shown_all}
use Rattle.check_watertight.proofs.closing.reach_by.Goals as goal

pub fill-once-requires-clause-empty : goal.fill-once-requires-clause-empty
fill-once-requires-clause-empty g c = c.empty-table.ensures _

pub fill-once-requires-clause-numbered : goal.fill-once-requires-clause-numbered
fill-once-requires-clause-numbered g c = rw (g.met.T.SizedTable.one_extent c.empty-table.result) (numbered_wider c.args.mesh.numbered c.requires.vertices)

pub fill-once-requires-clause-room : goal.fill-once-requires-clause-room
fill-once-requires-clause-room g c = rw (g.met.T.SizedTable.one_extent c.empty-table.result) c.requires.room

pub returns-then-once-mesh : goal.returns-then-once-mesh
returns-then-once-mesh g c = shown_once _ _ c.fill-once.ensures.filled.most c.fill-once.ensures.filled.once

pub open_sides-count-requires-clause-all : goal.open_sides-count-requires-clause-all
open_sides-count-requires-clause-all g c =
    let ws = c.args.mesh.indices.now in
    let f = c.fill-once.ensures.filled in
    let e : c.fill-once.result ≡ length (read_triangles ws) = omega (arith, f.most, c.if-once-mesh.false, triangles_count ws) in
    (f.all e).table

pub open_sides-count-requires-clause-numbered : goal.open_sides-count-requires-clause-numbered
open_sides-count-requires-clause-numbered g c =
    rw (g.met.T.SizedTable.one_extent c.fill-once.new.table) (numbered_wider c.args.mesh.numbered c.requires.vertices)

pub returns-then-count : goal.returns-then-count
returns-then-count g c = shown_once _ _
    c.fill-once.ensures.filled.most
    c.fill-once.ensures.filled.once

pub all_pieces-joined-requires-clause-drawn : goal.all_pieces-joined-requires-clause-drawn
all_pieces-joined-requires-clause-drawn g c = marked_none _ _ (blank_all _)

pub returns : goal.returns
returns g c =
    let s = c in
    let f = c.fill-once.ensures.filled in
    let h = c.all_pieces-joined.ensures in
    let u = c.first_unmarked-drawn.ensures in
    shown_all _ _ _ _ _ f.most f.once h.closed.0 h.closed.1 (omega (arith, u.0, points_count s.args.mesh.outline.now)) h.marked u.1
