-- The sides of a mesh by triangle and corner, and a triangle's sides by number. Assumes nothing.
use Prim.Native.Nat.{ℕ, zero, suc, ◌+◌, ◌*◌, ◌/◌, ◌%◌, ◌<◌}
use mathlib.Core.Path.{◌≡◌, refl, sym, ◌∙◌}
use mathlib.Core.Bool.{Bool, true, false, ◌&&◌, ◌||◌, or-true, true≢false}
use mathlib.Core.Logic.{◌⊎◌, inl, inr, ⊎_elim}
use mathlib.Core.List.{List, [], ◌∷◌, map}
use native.Mathlib.Omega.{arith}
use lib.ListN.{length, get_or, length-map, get_or-map}
use lib.Dec.{eqb}
use borrow.Author.Tests.{eq-eqb, eqb-true}
use Rattle.strip.specs.declared.triangle.Triangle.{Triangle}
use Rattle.mesh_geometry.specs.declared.Point.{Point}
use Rattle.mesh_geometry.specs.Cover.{Face, Side, sides, side}
use Rattle.mesh_geometry.specs.Faces.{at, face_of}
use Rattle.mesh_geometry.proofs.Lists.{get_within}
use Rattle.check_searches.specs.Triangles.{no_triangle, triangle_at, has_side, share_side}
use Rattle.check_faults.specs.Outline.{side_between, start_corner, end_of}

-- side 0, 1 or 2 of a triangle
abbrev pub side_no : Face → ℕ → Side
side_no f zero = record { start = f.p; end = f.q }
side_no f (suc zero) = record { start = f.q; end = f.r }
side_no f (suc (suc e)) = record { start = f.r; end = f.p }

sides_count : (fs : List Face) → length (sides fs) ≡ length fs * 3
unfolding sides
sides_count [] = refl
sides_count (f ∷ fs) = omega (arith, sides_count fs)

at_third : (fs : List Face) (d : Face) (m : ℕ) → m < length fs * 3 → side (sides fs) m ≡ side_no (get_or fs (m / 3) d) (m % 3)
unfolding sides
at_third [] d m l = absurd (omega arith)
at_third (f ∷ fs) d zero l = refl
at_third (f ∷ fs) d (suc zero) l = refl
at_third (f ∷ fs) d (suc (suc zero)) l = refl
at_third (f ∷ fs) d (suc (suc (suc m))) l =
    let e : suc (suc (suc m)) / 3 ≡ suc (m / 3) = omega arith in
    let k : suc (suc (suc m)) % 3 ≡ m % 3 = omega arith in
    rw (e, k) (at_third fs d m (omega arith))

-- a side by its vertices
pub by_numbers : (ps : List Point) (t : Triangle) (e : ℕ) → side_no (face_of (at ps) t) e ≡ side_between ps (start_corner t e) (end_of t e)
by_numbers ps t zero = refl
by_numbers ps t (suc zero) = refl
by_numbers ps t (suc (suc e)) = refl

module _ (ps : List Point) (ts : List Triangle) where
  abbrev pub drawn : List Side
  drawn = sides (map (face_of (at ps)) ts)

  pub drawn_count : length drawn ≡ length ts * 3
  drawn_count = rw (sides_count (map (face_of (at ps)) ts), length-map ts (face_of (at ps)))

  pub side_split : (m : ℕ) → m < length ts * 3 → side drawn m ≡ side_no (face_of (at ps) (triangle_at ts (m / 3))) (m % 3)
  side_split m l =
      at_third (map (face_of (at ps)) ts) (face_of (at ps) no_triangle) m (omega (arith, length-map ts (face_of (at ps))))
      ∙ rw (get_or-map (face_of (at ps)) ts (m / 3) no_triangle)

  pub side_of_lem : (k e : ℕ) → k < length ts → e < 3 → side drawn (k * 3 + e) ≡ side_no (face_of (at ps) (triangle_at ts k)) e
  side_of_lem k e l m =
      let h : (k * 3 + e) / 3 ≡ k = omega arith in
      let g : (k * 3 + e) % 3 ≡ e = omega arith in
      rw (h, g) at (side_split (k * 3 + e) (omega arith))

  pub face_at : (d : Face) (k : ℕ) → k < length ts → get_or (map (face_of (at ps)) ts) k d ≡ face_of (at ps) (triangle_at ts k)
  face_at d k l =
      get_within (map (face_of (at ps)) ts) d (face_of (at ps) no_triangle) k (rw (length-map ts (face_of (at ps))) l)
      ∙ get_or-map (face_of (at ps)) ts k no_triangle

-- one of three tests
pub any_which : (x y z : Bool) → (x || y || z) ≡ true → (x ≡ true) ⊎ ((y ≡ true) ⊎ (z ≡ true))
any_which true y z h = inl refl
any_which false true z h = inr (inl refl)
any_which false false z h = inr (inr h)

pub both_which : (x y : Bool) → (x && y) ≡ true → (x ≡ true) × (y ≡ true)
both_which true y h = (refl, h)
both_which false y h = absurd (true≢false (sym h))

-- x→y is side e of the triangle
pub record SideNo (t : Triangle) (x y : ℕ) : Type 0 where
  pub e : ℕ
  pub few : e < 3
  pub starts : x ≡ start_corner t e
  pub ends : y ≡ end_of t e

pub side_which : (t : Triangle) (x y : ℕ) → has_side t x y ≡ true → SideNo t x y
side_which t x y h = ⊎_elim (λ w. is 0 (omega arith) w) (⊎_elim (λ w. is 1 (omega arith) w) (λ w. is 2 (omega arith) w))
    (any_which (eqb x t.a && eqb y t.b) (eqb x t.b && eqb y t.c) (eqb x t.c && eqb y t.a) h)
  where
    is : (e : ℕ) → e < 3 → (eqb x (start_corner t e) && eqb y (end_of t e)) ≡ true → SideNo t x y
    is e l w =
        let v = both_which (eqb x (start_corner t e)) (eqb y (end_of t e)) w in
        record { e = e; few = l; starts = eqb-true x (start_corner t e) v.0; ends = eqb-true y (end_of t e) v.1 }

pub side_has : (t : Triangle) (e x y : ℕ) → x ≡ start_corner t e → y ≡ end_of t e → has_side t x y ≡ true
side_has t zero x y h k = rw (eq-eqb x t.a h, eq-eqb y t.b k)
side_has t (suc zero) x y h k = rw (eq-eqb x t.b h, eq-eqb y t.c k, or-true)
side_has t (suc (suc e)) x y h k = rw (eq-eqb x t.c h, eq-eqb y t.a k, or-true)

-- side d of s is a side of t
pub share_which : (s t : Triangle) → share_side s t ≡ true → (d : ℕ) × (d < 3) × SideNo t (start_corner s d) (end_of s d)
unfolding share_side
share_which s t h =
    ⊎_elim (λ w. (0, omega arith, side_which t _ _ w)) (⊎_elim (λ w. (1, omega arith, side_which t _ _ w)) (λ w. (2, omega arith, side_which t _ _ w)))
    (any_which (has_side t s.a s.b) (has_side t s.b s.c) (has_side t s.c s.a) h)

pub share_has : (s t : Triangle) (d e : ℕ) → start_corner s d ≡ start_corner t e → end_of s d ≡ end_of t e → share_side s t ≡ true
unfolding share_side
share_has s t zero e h k = rw (side_has t e s.a s.b h k)
share_has s t (suc zero) e h k = rw (side_has t e s.b s.c h k, or-true)
share_has s t (suc (suc d)) e h k = rw (side_has t e s.c s.a h k, or-true)
