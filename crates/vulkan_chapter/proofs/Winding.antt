-- 23.5: every triangle has the vertex order asked for.
-- Assumes nothing.
use Prim.Native.Nat.{ℕ, suc, ◌+◌, ◌*◌}
use mathlib.Core.Path.{◌≡◌}
use native.Mathlib.Omega.{arith}
use lib.IntN.{ℤ, pos, negsuc, neg_ℤ, ◌+ℤ◌, ◌-ℤ◌}
use Rattle.patch.specs.declared.settings.VertexOrder.{VertexOrder}
use Rattle.patch.specs.declared.settings.VertexOrder.TheVariants.{Clockwise, CounterClockwise}
use Rattle.patch.specs.declared.settings.DomainOrigin.{DomainOrigin}
use Rattle.patch.specs.declared.settings.DomainOrigin.TheVariants.{UpperLeft, LowerLeft}
use Rattle.patch.specs.Turn.{positive}
use Rattle.mesh_geometry.specs.Cover.{Face, twice_area, HasSign}
use Rattle.mesh_geometry.proofs.Signed.{Is, is_same, is_neg, is_add, is_above, is_below, is_area, loop}
use Rattle.vulkan_chapter.specs.Winding.{winding_area, Ordered}

is_pos : (n : ℕ) → Is (pos n) n 0
is_pos n = omega arith

is_minus : (n : ℕ) → Is (neg_ℤ (pos n)) 0 n
is_minus n = is_neg (pos n) n 0 (is_pos n)

-- one number more, and one less
is_more : (x : ℤ) (a b c : ℕ) → Is x a b → Is (x +ℤ pos c) (a + c) (b + 0)
is_more x a b c h = is_add x (pos c) a b c 0 h (is_pos c)

is_less : (x : ℤ) (a b c : ℕ) → Is x a b → Is (x -ℤ pos c) (a + 0) (b + c)
is_less x a b c h = is_add x (neg_ℤ (pos c)) a b 0 c h (is_minus c)

is_six : (a b c d e f : ℕ) → Is (pos a -ℤ pos b +ℤ pos c -ℤ pos d +ℤ pos e -ℤ pos f) (a + c + e) (b + d + f)
is_six a b c d e f =
    let x1 = pos a -ℤ pos b in
    let x2 = x1 +ℤ pos c in
    let x3 = x2 -ℤ pos d in
    let x4 = x3 +ℤ pos e in
    is_same (x4 -ℤ pos f) (a + 0 + c + 0 + e + 0) (0 + b + 0 + d + 0 + f) (a + c + e) (b + d + f)
    (is_less x4 _ _ f (is_more x3 _ _ e (is_less x2 _ _ d (is_more x1 _ _ c (is_less (pos a) a 0 b (is_pos a))))))
    (omega arith)

is_winding : (t : Face) → Is (winding_area t) (loop t.p t.q t.r) (loop t.p t.r t.q)
is_winding t =
    is_same (winding_area t) _ _ _ _
    (is_six (t.p.u * t.q.v) (t.q.u * t.p.v) (t.q.u * t.r.v) (t.r.u * t.q.v) (t.r.u * t.p.v) (t.p.u * t.r.v))
    (omega arith)

-- one whole number only is a difference
only : (x y : ℤ) (a b : ℕ) → Is x a b → Is y a b → x ≡ y
only x (pos n) a b h k = is_above x a b n h k
only x (negsuc n) a b h k = is_below x a b (suc n) h (omega arith)

pub winding_area_lem : (t : Face) → winding_area t ≡ twice_area t
winding_area_lem t = only (winding_area t) (twice_area t) _ _ (is_winding t) (is_area t)

pub ordered : (o : VertexOrder) (d : DomainOrigin) (t : Face) → HasSign (positive o d) (twice_area t) → Ordered o d (winding_area t)
ordered Clockwise UpperLeft t h = rw (winding_area_lem t) h
ordered Clockwise LowerLeft t h = rw (winding_area_lem t) h
ordered CounterClockwise UpperLeft t h = rw (winding_area_lem t) h
ordered CounterClockwise LowerLeft t h = rw (winding_area_lem t) h
