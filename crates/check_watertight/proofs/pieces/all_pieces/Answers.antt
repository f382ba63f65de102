use native.Mathlib.Omega.{arith}
use mathlib.Core.Path.{◌≡◌}
use Rattle.check_searches.proofs.Read.{points_count, triangles_count}
use Rattle.check_watertight.proofs.Joins.{joins_more, joined_all, joined_before}
use Rattle.check_watertight.proofs.pieces.all_pieces.Goals as goal

pub mark_piece-piece-requires-clause-within : goal.mark_piece-piece-requires-clause-within
mark_piece-piece-requires-clause-within c = omega (arith, c.requires.listed.sides c.loop-k.k (omega arith), triangles_count c.args.mesh.indices.now)

pub returns-then-pieces-piece-clause-closed : goal.returns-then-pieces-piece-clause-closed
returns-then-pieces-piece-clause-closed c =
    let l = c.loop-k in
    (omega (arith, c.requires.listed.sides l.k (omega arith)), joined_before _ _ c.args.count l.k (omega arith) c.requires.listed l.invariant.1)

pub loop-k-preserved : goal.loop-k-preserved
loop-k-preserved c =
    let a = c in
    let w = c in
    let l = w.loop-k in
    let s = w in (
      omega arith,
      joins_more _ _ l.k l.invariant.1 (a.mark_piece-piece.ensures.closed (omega (arith, points_count s.args.mesh.outline.now))),
      a.mark_piece-piece.ensures.marked,
      omega arith,
    )

pub returns-clause-closed : goal.returns-clause-closed
returns-clause-closed c =
    let l = c.loop-k in
    let e : l.k ≡ c.args.count = omega arith in
    let n = triangles_count c.args.mesh.indices.now in
    (omega arith, joined_all _ _ c.args.count _ (omega arith) c.requires.listed (rw e at l.invariant.1))
