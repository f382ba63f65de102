use native.Mathlib.Omega.{arith}
use mathlib.Core.Path.{◌≡◌, sym, ap, ◌∙◌}
use mathlib.Core.Bool.{Bool, true, false, cond}
use Rattle.level.specs.Top.{is_top}
use Rattle.job_fields.specs.Tops.{unknown_place}
use Rattle.job_fields.proofs.Tops.{place_setting, place_top}
use Rattle.job_fields.proofs.top.unknown_place.Goals as goal
use Rattle.job_fields.proofs.top.unknown_place.Goals.{After-is_top}

-- if the first five bytes are in range, the test of the top level decides
decides : (c : After-is_top) (t : Bool) → c.is_top.result ≡ t
    → (let a = c.args in cond t 6 5 ≡ unknown_place a.version a.bytes.now a.at)
decides c t e =
    let first = c.first_unknown-place.ensures in
    let top = rw c.in-Two.is at (c.is_top.ensures ∙ ap is_top c.read_top.ensures) in
    rw c.in-Two.is (sym (place_top _ _ (omega (arith, first)) t (sym top ∙ e)))

pub returns-in-One : goal.returns-in-One
unfolding unknown_place
returns-in-One c = rw c.in-One.is c.first_unknown-place.ensures

pub returns-then-place-lt5 : goal.returns-then-place-lt5
returns-then-place-lt5 c =
    let first = c.first_unknown-place.ensures in
    rw c.in-Two.is (first ∙ sym (place_setting _ _ (omega (arith, first, c.if-place-lt5.true))))

pub returns-then-is_top : goal.returns-then-is_top
returns-then-is_top c = decides (goal.at.returns-then-is_top c).After-is_top true c.if-is_top.true

pub returns-else-is_top : goal.returns-else-is_top
returns-else-is_top c = decides (goal.at.returns-else-is_top c).After-is_top false c.if-is_top.false
