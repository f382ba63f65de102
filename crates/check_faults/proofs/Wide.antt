-- Areas in signed machine words: they fit, and a word reads back as its number. Assumes nothing.
use Prim.Native.Nat.{ℕ, ◌≤◌, ◌<◌, ◌+◌, ◌*◌}
use mathlib.Core.Path.{◌≡◌, refl}
use native.Mathlib.Omega.{arith}
use native.Mathlib.Nat.{mul-le-mul}
use lib.IntN.{ℤ, pos, negsuc, ◌-ℤ◌, ◌*ℤ◌}
use mir.Syntax.{w64}
use mir.Val.{SFits, to_z, of_z}
use mir.Facts.{to_z-of_z}
use Rattle.mesh_geometry.specs.declared.Point.{Point}
use Rattle.mesh_geometry.specs.Cover.{difference, twice_area}
use Rattle.mesh_geometry.proofs.Signed.{Is, is_diff, is_mul, is_area}
use Rattle.check_faults.specs.Turns.{Small}

is_fits : (z : ℤ) (a b : ℕ) → Is z a b → a ≤ 231928233984 → b ≤ 231928233984 → SFits w64 z
is_fits (pos n) a b h l m = record { sfits = omega arith }
is_fits (negsuc n) a b h l m = record { sfits = omega arith }

word_read : (n : ℕ) → n < 4294967296 → to_z w64 n ≡ pos n
word_read n l = to_z-of_z {w = w64} {z = pos n} (record { sfits = omega arith })

difference_fits : (a b : ℕ) → a < 4294967296 → b < 4294967296 → SFits w64 (difference a b)
difference_fits a b l m = is_fits (difference a b) a b (is_diff a b) (omega arith) (omega arith)

product_fits_lem : (a b c d : ℕ) → a ≤ 196608 → b ≤ 196608 → c ≤ 196608 → d ≤ 196608 → SFits w64 (difference a b *ℤ difference c d)
product_fits_lem a b c d ka kb kc kd =
    is_fits (difference a b *ℤ difference c d) (a * c + b * d) (a * d + b * c)
    (is_mul (difference a b) (difference c d) a b c d (is_diff a b) (is_diff c d))
    (omega (arith, mul-le-mul ka kc, mul-le-mul kb kd)) (omega (arith, mul-le-mul ka kd, mul-le-mul kb kc))

area_fits_lem : (p q r : Point) → Small p → Small q → Small r → SFits w64 (twice_area (record { p = p; q = q; r = r }))
area_fits_lem p q r kp kq kr =
    is_fits (twice_area (record { p = p; q = q; r = r })) _ _ (is_area (record { p = p; q = q; r = r }))
    (omega (arith, mul-le-mul kp.u kq.v, mul-le-mul kq.u kr.v, mul-le-mul kr.u kp.v))
    (omega (arith, mul-le-mul kp.u kr.v, mul-le-mul kr.u kq.v, mul-le-mul kq.u kp.v))

-- the difference of two words, read as a signed number
abbrev pub step : ℕ → ℕ → ℤ
step a b = to_z w64 (of_z w64 (to_z w64 a -ℤ to_z w64 b))

step_read : (a b : ℕ) → a ≤ 196608 → b ≤ 196608 → step a b ≡ difference a b
step_read a b l m =
    rw (word_read a (omega arith), word_read b (omega arith)) (to_z-of_z {w = w64} {z = difference a b} (difference_fits a b (omega arith) (omega arith)))

module _ (a b c d : ℕ) (ka : a ≤ 196608) (kb : b ≤ 196608) (kc : c ≤ 196608) (kd : d ≤ 196608) where
  -- a product of two such differences
  pub product_fits : SFits w64 (step a b *ℤ step c d)
  product_fits = rw (step_read a b ka kb, step_read c d kc kd) (product_fits_lem a b c d ka kb kc kd)

  product_read : to_z w64 (of_z w64 (step a b *ℤ step c d)) ≡ difference a b *ℤ difference c d
  product_read = rw (to_z-of_z {w = w64} {z = step a b *ℤ step c d} product_fits, step_read a b ka kb, step_read c d kc kd) refl

module _ (p q r : Point) (kp : Small p) (kq : Small q) (kr : Small r) where
  -- the difference of the two products, which is twice the area
  area_read_lem : to_z w64 (of_z w64 (step q.u p.u *ℤ step r.v p.v)) -ℤ to_z w64 (of_z w64 (step r.u p.u *ℤ step q.v p.v))
      ≡ twice_area (record { p = p; q = q; r = r })
  unfolding twice_area
  area_read_lem = rw (product_read q.u p.u r.v p.v kq.u kp.u kr.v kp.v, product_read r.u p.u q.v p.v kr.u kp.u kq.v kp.v) refl

  pub area_fits : SFits w64 (to_z w64 (of_z w64 (step q.u p.u *ℤ step r.v p.v)) -ℤ to_z w64 (of_z w64 (step r.u p.u *ℤ step q.v p.v)))
  area_fits = rw area_read_lem (area_fits_lem p q r kp kq kr)

  pub area_read : to_z w64 (of_z w64 (to_z w64 (of_z w64 (step q.u p.u *ℤ step r.v p.v)) -ℤ to_z w64 (of_z w64 (step r.u p.u *ℤ step q.v p.v))))
      ≡ twice_area (record { p = p; q = q; r = r })
  area_read = rw (to_z-of_z area_fits) area_read_lem
