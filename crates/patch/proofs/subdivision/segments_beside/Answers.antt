use mathlib.Core.Path.{◌≡◌, sym, ap, subst, ◌∙◌}
use mathlib.Core.Bool.{true}
use denote.Floats.{passes}
use lib.Ieee.{Float, binary32, of_bits, to_bits, fits}
use lib.Ieee.Bits.{of_bits-to_bits}
use Rattle.patch.specs.Counted.{Counted}
use Rattle.patch.proofs.subdivision.segments_beside.Goals as goal

-- two `f32` with the same bits are equal
same : (x y : Float) → fits binary32 x ≡ true → fits binary32 y ≡ true → to_bits binary32 x ≡ to_bits binary32 y → y ≡ x
same x y h k e = sym (of_bits-to_bits binary32 y (passes (fits binary32 y) k)) ∙ ap (of_bits binary32) (sym e) ∙ of_bits-to_bits binary32 x (passes (fits binary32 x) h)

pub returns-then-level-other : goal.returns-then-level-other
returns-then-level-other c =
    let a = c.args in
    subst (λ (x : Float). Counted a.range.spacing a.range.top x a.own) (same a.level a.other c.well_formed.0.1 c.well_formed.1.0.1 c.if-level-other.true) c.requires
