-- The two ends of a triangle's sides. Assumes nothing.
use Prim.Native.Nat.{ℕ, zero, suc, ◌<◌}
use mathlib.Core.Path.{◌≡◌, refl}
use Rattle.strip.specs.declared.triangle.Triangle.{Triangle}
use Rattle.check_faults.specs.Turns.{Numbered}
use Rattle.check_faults.specs.Outline.{start_corner, end_of}

-- the ends of the third side
pub third_start : (t : Triangle) (e : ℕ) → (e ≡ 0 → ⊥) → (e ≡ 1 → ⊥) → t.c ≡ start_corner t e
third_start t zero h k = absurd (h refl)
third_start t (suc zero) h k = absurd (k refl)
third_start t (suc (suc e)) h k = refl

pub third_end : (t : Triangle) (e : ℕ) → (e ≡ 0 → ⊥) → (e ≡ 1 → ⊥) → t.a ≡ end_of t e
third_end t zero h k = absurd (h refl)
third_end t (suc zero) h k = absurd (k refl)
third_end t (suc (suc e)) h k = refl

-- the ends are numbers of points
pub start_known : (n : ℕ) (t : Triangle) (e : ℕ) → Numbered n t → start_corner t e < n
start_known n t zero h = h.a
start_known n t (suc zero) h = h.b
start_known n t (suc (suc e)) h = h.c

pub end_known : (n : ℕ) (t : Triangle) (e : ℕ) → Numbered n t → end_of t e < n
end_known n t zero h = h.b
end_known n t (suc zero) h = h.c
end_known n t (suc (suc e)) h = h.a
