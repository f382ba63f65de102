use native.Mathlib.Omega.{arith}
use mathlib.Core.Path.{◌≡◌, ◌∙◌, sym}
use lib.ListN.{length}
use Rattle.mesh_geometry.specs.Words.{read_triangles}
use Rattle.check_searches.specs.Triangles.{first_reused}
use Rattle.check_searches.proofs.First.{below_zero, below_more, first_at, first_none, some_at, some_none}
use Rattle.check_searches.proofs.Read.{triangles_count}
use Rattle.check_side_searches.proofs.Skips.{below_skip, without_share}
use Rattle.check_side_searches.proofs.pair.first_reused.Goals as goal

pub loop-i-init : goal.loop-i-init
loop-i-init c =
    let s = c.next_touching-i.ensures in
    (s.most, below_skip _ (below_zero _) s (λ i w. without_share _ _ w))

pub loop-i-preserved : goal.loop-i-preserved
loop-i-preserved c =
    let l = c.loop-i in
    let s = c.next_touching-i-in-loop-i.ensures in
    let n = below_more _ l.i l.invariant.1 (rw (← c.triangle_at.ensures, ← c.share_side.ensures) c.if-share_side.false) in
    (s.most, below_skip _ n s (λ i w. without_share _ _ w))

pub search-preserved : goal.search-preserved
search-preserved c =
    let l = c.loop-i in
    let t = c.triangle_at-t in
    let s = c.search in
    let e : l.i ≡ s.j = omega arith in
    (omega arith, below_more _ s.j s.invariant.1 (some_none _ _ (rw (e, t.ensures) at l.invariant.1)))

pub returns-after-search : goal.returns-after-search
unfolding first_reused
returns-after-search c =
    let s = c.search in
    let xs = c.args.indices.now in
    let e : s.j ≡ length (read_triangles xs) = omega (arith, triangles_count xs) in
    e ∙ sym (first_none _ _ (rw e at s.invariant.1))

pub returns-then-share_side : goal.returns-then-share_side
unfolding first_reused
returns-then-share_side c =
    let l = c.loop-i in
    let t = c.triangle_at-t in
    let s = c.search in
    let xs = c.args.indices.now in
    sym
    (first_at _ _ s.j (omega (arith, triangles_count xs)) s.invariant.1
    (some_at _ _ l.i (omega arith) (rw t.ensures at l.invariant.1) (rw (← t.ensures, ← c.triangle_at.ensures, ← c.share_side.ensures) c.if-share_side.true)))
