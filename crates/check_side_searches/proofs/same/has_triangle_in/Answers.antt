use Rattle.check_side_searches.proofs.Skips.{clear_begins, clear_more}
use Rattle.check_side_searches.proofs.Corners.{without_same}
use Rattle.check_side_searches.proofs.same.has_triangle_in.Goals as goal

pub loop-i-init : goal.loop-i-init
loop-i-init c = clear_begins (λ k w. without_same _ _ w.x_no) c.next_touching-i.ensures

pub loop-i-preserved : goal.loop-i-preserved
loop-i-preserved c =
    clear_more (λ k w. without_same _ _ w.x_no) c.loop-i.invariant
    (rw (← c.triangle_at.ensures, ← c.same_triangle.ensures) c.if-same_triangle.false) c.next_touching-i-in-loop-i.ensures
