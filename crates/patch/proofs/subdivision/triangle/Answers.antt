use native.Mathlib.Omega.{arith}
use mathlib.Core.List.{List, [], ◌∷◌}
use lib.Ieee.{Float}
use Rattle.patch.specs.Subdivide.{subdivision}
use Rattle.patch.proofs.Every.{total}
use Rattle.patch.proofs.Counts.{all_one, not_all_one}
use Rattle.patch.proofs.subdivision.triangle.Goals as goal

pub returns-then-discards_any : goal.returns-then-discards_any
unfolding subdivision
returns-then-discards_any c = rw (← c.discards_any.ensures, c.if-discards_any.true)

-- the code's sum of counts is `total`
pub returns-then-edge0-edge1-eq4 : goal.returns-then-edge0-edge1-eq4
unfolding subdivision total
returns-then-edge0-edge1-eq4 c =
    let a = c.args in
    let xs : List Float = a.outer0 ∷ a.outer1 ∷ a.outer2 ∷ a.inner0 ∷ [] in
    let r = c.range_of-range.result in
    let e = c.range_of-range.ensures in
    rw (← c.discards_any.ensures, c.if-discards_any.false, ← e.spacing, ← e.top, all_one r.spacing r.top r.is_top xs (omega arith) c.if-edge0-edge1-eq4.true)

pub returns : goal.returns
unfolding subdivision total
returns c =
    let a = c.args in
    let xs : List Float = a.outer0 ∷ a.outer1 ∷ a.outer2 ∷ a.inner0 ∷ [] in
    let r = c.range_of-range.result in
    let e = c.range_of-range.ensures in
    rw (← c.discards_any.ensures, c.if-discards_any.false, ← e.spacing, ← e.top, not_all_one r.spacing r.top r.is_top xs (omega arith) c.if-edge0-edge1-eq4.false)
    (rw (← c.segments_in-edge0.ensures.all, ← c.segments_beside-edge1.ensures.all)
    (rw (← c.segments_beside-edge2.ensures.all, ← c.segments_beside-inner.ensures.all, e.spacing, ← c.as_inner-inside.ensures)))
