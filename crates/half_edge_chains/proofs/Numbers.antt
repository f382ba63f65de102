-- Sides by number: their ends in the index words, and their triangles. Assumes nothing.
use Prim.Native.Nat.{ℕ, zero, suc, ◌+◌, ◌-◌, ◌*◌, ◌/◌, ◌%◌, ◌≤◌, ◌<◌}
use mathlib.Core.Path.{◌≡◌, refl, sym, ap, ◌∙◌}
use mathlib.Core.Bool.{Bool, true, false, ◌&&◌, ◌||◌, true≢false}
use mathlib.Core.List.{List}
use mathlib.Core.Logic.{◌⊎◌, inl, inr}
use native.Mathlib.Omega.{arith}
use lib.Dec.{eqb}
use lib.ListN.{length, get_or}
use borrow.Author.Tests.{eq-eqb, eqb-true}
use Rattle.strip.specs.declared.triangle.Triangle.{Triangle}
use Rattle.mesh_geometry.specs.Words.{read_triangles}
use Rattle.check_searches.specs.Triangles.{triangle_at, has_side, share_side}
use Rattle.check_searches.proofs.Read.{triangle_read}
use Rattle.check_searches.specs.Indices.{AllNumbered}
use Rattle.check_faults.specs.Outline.{start_corner, end_of}
use Rattle.check_faults.proofs.Turns.{numbered}
use Rattle.check_faults.proofs.Corners.{start_known as corner-known, end_known as corner-end-known}
use Rattle.half_edge_chains.specs.Sides.{side_start, side_end}

-- a corner of triangle k in the index words
corner_word : (ws : List ℕ) (k e m : ℕ) → k < length ws / 3 → m ≡ k * 3 + e → e < 3 → get_or ws m 0 ≡ start_corner (triangle_at (read_triangles ws) k) e
corner_word ws k zero m l h b = rw (← triangle_read ws k l) (ap (λ n. get_or ws n 0) (omega arith))
corner_word ws k (suc zero) m l h b = rw (← triangle_read ws k l) (ap (λ n. get_or ws n 0) (omega arith))
corner_word ws k (suc (suc zero)) m l h b = rw (← triangle_read ws k l) (ap (λ n. get_or ws n 0) (omega arith))
corner_word ws k (suc (suc (suc e))) m l h b = absurd (omega arith)

-- a side ends where the next side of its triangle starts
next_corner : (t : Triangle) (e : ℕ) → e < 2 → start_corner t (e + 1) ≡ end_of t e
next_corner t zero l = refl
next_corner t (suc zero) l = refl
next_corner t (suc (suc e)) l = absurd (omega arith)

pub start_word : (ws : List ℕ) (m : ℕ) → m < length ws / 3 * 3 → get_or ws m 0 ≡ side_start (read_triangles ws) m
unfolding side_start
start_word ws m l = corner_word ws (m / 3) (m % 3) m (omega arith) (omega arith) (omega arith)

pub end_word : (ws : List ℕ) (m : ℕ) → m < length ws / 3 * 3 → (m % 3 ≡ 2 → ⊥) → get_or ws (m + 1) 0 ≡ side_end (read_triangles ws) m
unfolding side_end
end_word ws m l h =
    let r : m % 3 < 2 = omega arith in
    corner_word ws (m / 3) (m % 3 + 1) (m + 1) (omega arith) (omega arith) (omega arith) ∙ next_corner (triangle_at (read_triangles ws) (m / 3)) (m % 3) r

pub end_word_last : (ws : List ℕ) (m : ℕ) → m < length ws / 3 * 3 → m % 3 ≡ 2 → get_or ws (m - 2) 0 ≡ side_end (read_triangles ws) m
unfolding side_end
end_word_last ws m l h = rw h (corner_word ws (m / 3) 0 (m - 2) (omega arith) (omega arith) (omega arith))

-- the ends of a side are numbers of points
pub start_known : (n : ℕ) (ws : List ℕ) (m : ℕ) → AllNumbered n ws → m < length ws / 3 * 3 → side_start (read_triangles ws) m < n
unfolding side_start
start_known n ws m h l = corner-known n (triangle_at (read_triangles ws) (m / 3)) (m % 3) (numbered n ws (m / 3) h (omega arith))

pub end_known : (n : ℕ) (ws : List ℕ) (m : ℕ) → AllNumbered n ws → m < length ws / 3 * 3 → side_end (read_triangles ws) m < n
unfolding side_end
end_known n ws m h l = corner-end-known n (triangle_at (read_triangles ws) (m / 3)) (m % 3) (numbered n ws (m / 3) h (omega arith))

pub numbered_wider : {n m : ℕ} {ws : List ℕ} → AllNumbered n ws → n ≤ m → AllNumbered m ws
numbered_wider h l = record { at = λ k b. omega (arith, h.at k b) }

-- side e of triangle k by its number among all sides
pub numbered_start : (ts : List Triangle) (k e m : ℕ) → m ≡ k * 3 + e → e < 3 → side_start ts m ≡ start_corner (triangle_at ts k) e
unfolding side_start
numbered_start ts k e m h l =
    let q : m / 3 ≡ k = omega arith in
    let r : m % 3 ≡ e = omega arith in
    rw (q, r)

pub numbered_end : (ts : List Triangle) (k e m : ℕ) → m ≡ k * 3 + e → e < 3 → side_end ts m ≡ end_of (triangle_at ts k) e
unfolding side_end
numbered_end ts k e m h l =
    let q : m / 3 ≡ k = omega arith in
    let r : m % 3 ≡ e = omega arith in
    rw (q, r)

-- one of three tests holds, and which one
pub one_of : (p q r : Bool) → (p ≡ true) ⊎ ((q ≡ true) ⊎ (r ≡ true)) → (p || q || r) ≡ true
one_of true q r h = refl
one_of false true r h = refl
one_of false false true h = refl
one_of false false false (inl h) = h
one_of false false false (inr (inl h)) = h
one_of false false false (inr (inr h)) = h

pub which_of : (p q r : Bool) → (p || q || r) ≡ true → (p ≡ true) ⊎ ((q ≡ true) ⊎ (r ≡ true))
which_of true q r h = inl refl
which_of false true r h = inr (inl refl)
which_of false false r h = inr (inr h)

pub both : (p q : Bool) → p ≡ true → q ≡ true → (p && q) ≡ true
both p q h k = rw (h, k)

pub both_which : (p q : Bool) → (p && q) ≡ true → (p ≡ true) × (q ≡ true)
both_which true q h = (refl, h)
both_which false q h = absurd (true≢false (sym h))

-- two sides with equal ends
pub same_ends : (x y p q : ℕ) → x ≡ p → y ≡ q → (eqb x p && eqb y q) ≡ true
same_ends x y p q h k = both (eqb x p) (eqb y q) (eq-eqb x p h) (eq-eqb y q k)

pub ends_same : (x y p q : ℕ) → (eqb x p && eqb y q) ≡ true → (x ≡ p) × (y ≡ q)
ends_same x y p q h = let w = both_which (eqb x p) (eqb y q) h in (eqb-true x p w.0, eqb-true y q w.1)

-- every side of a triangle is one of its three
own_side : (t : Triangle) (e : ℕ) → has_side t (start_corner t e) (end_of t e) ≡ true
own_side t zero = one_of (eqb t.a t.a && eqb t.b t.b) (eqb t.a t.b && eqb t.b t.c) (eqb t.a t.c && eqb t.b t.a)
    (inl (same_ends t.a t.b t.a t.b refl refl))
own_side t (suc zero) = one_of (eqb t.b t.a && eqb t.c t.b) (eqb t.b t.b && eqb t.c t.c) (eqb t.b t.c && eqb t.c t.a)
    (inr (inl (same_ends t.b t.c t.b t.c refl refl)))
own_side t (suc (suc e)) = one_of (eqb t.c t.a && eqb t.a t.b) (eqb t.c t.b && eqb t.a t.c) (eqb t.c t.c && eqb t.a t.a)
    (inr (inr (same_ends t.c t.a t.c t.a refl refl)))

pub side_there : {x y : ℕ} (t : Triangle) (e : ℕ) → start_corner t e ≡ x → end_of t e ≡ y → has_side t x y ≡ true
side_there t e h k = rw (← h, ← k) (own_side t e)

-- a side of a triangle, by its number in the triangle
pub record SideOf (t : Triangle) (x y : ℕ) : Type 0 where
  pub number : ℕ
  pub least : number < 3
  pub start : x ≡ start_corner t number
  pub end : y ≡ end_of t number

pub side_which : (t : Triangle) (x y : ℕ) → has_side t x y ≡ true → SideOf t x y
side_which t x y h = pick (which_of (eqb x t.a && eqb y t.b) (eqb x t.b && eqb y t.c) (eqb x t.c && eqb y t.a) h)
  where
    pick : ((eqb x t.a && eqb y t.b) ≡ true) ⊎ (((eqb x t.b && eqb y t.c) ≡ true) ⊎ ((eqb x t.c && eqb y t.a) ≡ true)) → SideOf t x y
    pick (inl k) = let w = ends_same x y t.a t.b k in record { number = 0; least = omega arith; start = w.0; end = w.1 }
    pick (inr (inl k)) = let w = ends_same x y t.b t.c k in record { number = 1; least = omega arith; start = w.0; end = w.1 }
    pick (inr (inr k)) = let w = ends_same x y t.c t.a k in record { number = 2; least = omega arith; start = w.0; end = w.1 }

-- two triangles with a side in common, by its number in each
pub record Shared (s t : Triangle) : Type 0 where
  pub first : ℕ
  pub least : first < 3
  pub side : SideOf t (start_corner s first) (end_of s first)

pub share_which : (s t : Triangle) → share_side s t ≡ true → Shared s t
unfolding share_side
share_which s t h = pick (which_of (has_side t s.a s.b) (has_side t s.b s.c) (has_side t s.c s.a) h)
  where
    pick : (has_side t s.a s.b ≡ true) ⊎ ((has_side t s.b s.c ≡ true) ⊎ (has_side t s.c s.a ≡ true)) → Shared s t
    pick (inl k) = record { first = 0; least = omega arith; side = side_which t s.a s.b k }
    pick (inr (inl k)) = record { first = 1; least = omega arith; side = side_which t s.b s.c k }
    pick (inr (inr k)) = record { first = 2; least = omega arith; side = side_which t s.c s.a k }
