use native.Mathlib.Omega.{arith}
use mathlib.Core.Path.{refl}
use mathlib.Core.List.{List, [], ◌∷◌}
use lib.Ieee.{Float}
use Rattle.patch.specs.Subdivide.{subdivision}
use Rattle.patch.proofs.Every.{total}
use Rattle.patch.proofs.Counts.{all_one, not_all_one}
use Rattle.patch.proofs.subdivision.quad.Goals as goal

pub returns-then-discards_any : goal.returns-then-discards_any
unfolding subdivision
returns-then-discards_any c = rw (← c.discards_any.ensures, c.if-discards_any.true)

-- the code's sum of counts is `total`
pub returns-then-outline-inner_rows-eq6 : goal.returns-then-outline-inner_rows-eq6
unfolding subdivision total
returns-then-outline-inner_rows-eq6 c =
    let a = c.args in
    let xs : List Float = a.outer0 ∷ a.outer1 ∷ a.outer2 ∷ a.outer3 ∷ a.inner0 ∷ a.inner1 ∷ [] in
    let r = c.range_of-range.result in
    let e = c.range_of-range.ensures in
    rw (← c.discards_any.ensures, c.if-discards_any.false, ← e.spacing, ← e.top, all_one r.spacing r.top r.is_top xs (omega arith) c.if-outline-inner_rows-eq6.true)

pub returns : goal.returns
unfolding subdivision total
returns c =
    let a = c.args in
    let xs : List Float = a.outer0 ∷ a.outer1 ∷ a.outer2 ∷ a.outer3 ∷ a.inner0 ∷ a.inner1 ∷ [] in
    let r = c.range_of-range.result in
    let e = c.range_of-range.ensures in
    rw (← c.discards_any.ensures, c.if-discards_any.false, ← e.spacing, ← e.top, not_all_one r.spacing r.top r.is_top xs refl (λ e. omega arith))
    (rw (← c.segments_in-edge0.ensures.all, ← c.segments_beside-edge1.ensures.all, ← c.segments_beside-edge2.ensures.all, ← c.segments_beside-edge3.ensures.all)
    (rw (← c.segments_beside-inner_rows.ensures.all, ← c.segments_beside-inner_columns.ensures.all, e.spacing, ← c.as_inner-rows.ensures, ← c.as_inner-columns.ensures)))
