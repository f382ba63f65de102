-- Integers as differences of natural numbers. Assumes nothing.
use Prim.Native.Nat.{ℕ, zero, suc, ◌+◌, ◌-◌, ◌*◌}
use mathlib.Core.Path.{◌≡◌, refl, ap}
use mathlib.Core.Bool.{Bool, true, false, cond}
use native.Mathlib.Omega.{arith}
use lib.Dec.{ltb}
use lib.IntN.{ℤ, pos, negsuc, neg_ℤ, ◌+ℤ◌, ◌-ℤ◌, ◌*ℤ◌, sub_ℕ}
use borrow.Author.Tests.{ltb-true, ltb-false}
use Rattle.mesh_geometry.specs.declared.Point.{Point}
use Rattle.mesh_geometry.specs.Cover.{Face, twice_area}

-- z is a − b
abbrev pub Is : ℤ → ℕ → ℕ → Type 0
Is (pos n) a b = a ≡ b + n
Is (negsuc n) a b = a + suc n ≡ b

is_sub : (a b : ℕ) → Is (sub_ℕ a b) a b
is_sub a b = go (ltb a b) refl
  where
    go : (t : Bool) → ltb a b ≡ t → Is (cond t (negsuc (b - suc a)) (pos (a - b))) a b
    go true e = omega (arith, ltb-true a b e)
    go false e = omega (arith, ltb-false a b e)

-- the same difference
pub is_same : (z : ℤ) (a b c d : ℕ) → Is z a b → a + d ≡ c + b → Is z c d
is_same (pos n) a b c d h e = omega arith
is_same (negsuc n) a b c d h e = omega arith

pub is_neg : (x : ℤ) (a b : ℕ) → Is x a b → Is (neg_ℤ x) b a
is_neg (pos zero) a b h = omega arith
is_neg (pos (suc n)) a b h = omega arith
is_neg (negsuc n) a b h = omega arith

pub is_add : (x y : ℤ) (a b c d : ℕ) → Is x a b → Is y c d → Is (x +ℤ y) (a + c) (b + d)
is_add (pos m) (pos n) a b c d h k = omega arith
is_add (pos m) (negsuc n) a b c d h k = is_same (sub_ℕ m (suc n)) _ _ _ _ (is_sub m (suc n)) (omega arith)
is_add (negsuc m) (pos n) a b c d h k = is_same (sub_ℕ n (suc m)) _ _ _ _ (is_sub n (suc m)) (omega arith)
is_add (negsuc m) (negsuc n) a b c d h k = omega arith

pub is_diff : (a b : ℕ) → Is (pos a -ℤ pos b) a b
is_diff a b = is_same (pos a -ℤ pos b) _ _ _ _
    (is_add (pos a) (neg_ℤ (pos b)) a 0 0 b (omega arith) (is_neg (pos b) b 0 (omega arith))) (omega arith)

is_product : (m n : ℕ) → Is (neg_ℤ (pos (m * n))) 0 (m * n)
is_product m n = is_neg (pos (m * n)) (m * n) 0 (omega arith)

pub is_mul : (x y : ℤ) (a b c d : ℕ) → Is x a b → Is y c d → Is (x *ℤ y) (a * c + b * d) (a * d + b * c)
is_mul (pos m) (pos n) a b c d h k = rw (h, k) (omega arith)
is_mul (pos m) (negsuc n) a b c d h k = is_same (neg_ℤ (pos (m * suc n))) _ _ _ _ (is_product m (suc n)) (rw (h, ← k) (omega arith))
is_mul (negsuc m) (pos n) a b c d h k = is_same (neg_ℤ (pos (suc m * n))) _ _ _ _ (is_product (suc m) n) (rw (← h, k) (omega arith))
is_mul (negsuc m) (negsuc n) a b c d h k = rw (← h, ← k) (omega arith)

-- a difference of two natural numbers, one of which is larger
pub is_above : (z : ℤ) (a b n : ℕ) → Is z a b → a ≡ b + n → z ≡ pos n
is_above (pos m) a b n h e = ap pos (omega arith)
is_above (negsuc m) a b n h e = absurd (omega arith)

pub is_below : (z : ℤ) (a b n : ℕ) → Is z a b → b ≡ a + n → z ≡ neg_ℤ (pos n)
is_below (pos zero) a b n h e = let l : n ≡ 0 = omega arith in rw l
is_below (pos (suc m)) a b n h e = absurd (omega arith)
is_below (negsuc m) a b n h e = let l : n ≡ suc m = omega arith in rw l

-- the weight uP·vQ of a side: twice the area of P, Q, R is the sum over the sides, minus the sum over their reverses
abbrev pub cross : Point → Point → ℕ
cross p q = p.u * q.v

abbrev pub loop : Point → Point → Point → ℕ
loop p q r = cross p q + cross q r + cross r p

is_determinant : (a b c d e f g h : ℕ)
    → Is ((pos a -ℤ pos b) *ℤ (pos c -ℤ pos d) -ℤ (pos e -ℤ pos f) *ℤ (pos g -ℤ pos h))
    (a * c + b * d + (e * h + f * g)) (a * d + b * c + (e * g + f * h))
is_determinant a b c d e f g h =
    let x = pos a -ℤ pos b in
    let y = pos c -ℤ pos d in
    let z = pos e -ℤ pos f in
    let w = pos g -ℤ pos h in
    is_add (x *ℤ y) (neg_ℤ (z *ℤ w)) _ _ _ _ (is_mul x y a b c d (is_diff a b) (is_diff c d))
    (is_neg (z *ℤ w) _ _ (is_mul z w e f g h (is_diff e f) (is_diff g h)))

pub is_area : (t : Face) → Is (twice_area t) (loop t.p t.q t.r) (loop t.p t.r t.q)
unfolding twice_area
is_area t =
    is_same (twice_area t) _ _ _ _
    (is_determinant t.q.u t.p.u t.r.v t.p.v t.r.u t.p.u t.q.v t.p.v) (omega arith)
