-- Skipped triangles: what their words say about their corners, and their corners about their sides. Assumes nothing.
use Prim.Native.Nat.{ℕ, ◌+◌, ◌*◌, ◌/◌, ◌≤◌, ◌<◌}
use mathlib.Core.Path.{◌≡◌, refl, sym}
use mathlib.Core.Bool.{Bool, true, false, ◌||◌, and-false, true≢false}
use mathlib.Core.List.{List}
use native.Mathlib.Omega.{arith}
use native.Mathlib.Decide.{dec_le}
use lib.ListN.{length}
use lib.Dec.{eqb}
use borrow.Author.Tests.{ne_eqb, eqb-false}
use Rattle.strip.specs.declared.triangle.Triangle.{Triangle}
use Rattle.mesh_geometry.specs.Words.{read_triangles}
use Rattle.check_searches.specs.Indices.{Lacks}
use Rattle.check_searches.specs.Triangles.{triangle_at, has_corner, has_side, share_side}
use Rattle.check_side_searches.specs.Skips.{Without, Skips, Sided}
use Rattle.check_side_searches.specs.Same.{same_triangle, TriangleFound}
use Rattle.check_searches.proofs.First.{Below}
use Rattle.check_searches.proofs.Read.{triangle_read}

pub skips_none : {ts : List Triangle} {from to x y : ℕ} → from ≤ to → Skips ts from to x y from
skips_none l = record { least = omega arith; most = l; none = λ i m n. absurd (omega arith) }

-- more skipped triangles
pub skips_more : {ts : List Triangle} {from to x y m n : ℕ} → Skips ts from to x y m → m ≤ n → n ≤ to
    → ((i : ℕ) → m ≤ i → i < n → Without (triangle_at ts i) x y) → Skips ts from to x y n
skips_more {m = m} s l k h = record {
  least = omega (arith, s.least);
  most = k;
  none = λ i p q. elim (dec_le m i) [ yes j ↦ h i j q | no j ↦ s.none i p (omega arith) ];
}

corner_none : (t : Triangle) (x : ℕ) → (t.a ≡ x → ⊥) → (t.b ≡ x → ⊥) → (t.c ≡ x → ⊥) → has_corner t x ≡ false
corner_none t x a b c = rw (ne_eqb t.a x a, ne_eqb t.b x b, ne_eqb t.c x c)

-- triangles without the word x or y
pub words_without : {ws : List ℕ} {from to x y : ℕ} → Lacks ws from to x y → (i : ℕ) → i < length ws / 3 → from ≤ i * 3 → (i + 1) * 3 ≤ to
    → Without (triangle_at (read_triangles ws) i) x y
words_without {ws = ws} {x = x} {y = y} h i l p q =
    rw (← triangle_read ws i l)
    (record {
      x_no = corner_none _ x (h.x_no (i * 3) p (omega arith)) (h.x_no (i * 3 + 1) (omega arith) (omega arith)) (h.x_no (i * 3 + 2) (omega arith) (omega arith));
      y_no = corner_none _ y (h.y_no (i * 3) p (omega arith)) (h.y_no (i * 3 + 1) (omega arith) (omega arith)) (h.y_no (i * 3 + 2) (omega arith) (omega arith));
    })

or_none : (p q : Bool) → (p || q) ≡ false → (p ≡ false) × (q ≡ false)
or_none true q h = absurd (true≢false h)
or_none false q h = (refl, h)

-- a triangle that fails the corner test
pub test_without : (t : Triangle) (x y : ℕ) → (has_corner t x || has_corner t y) ≡ false → Without t x y
test_without t x y h =
    let w = or_none (has_corner t x) (has_corner t y) h in
    record { x_no = w.0; y_no = w.1 }

-- no corner of a triangle without the corner x equals x
pub apart : (t : Triangle) (x : ℕ) → has_corner t x ≡ false → (t.a ≡ x → ⊥) × (t.b ≡ x → ⊥) × (t.c ≡ x → ⊥)
apart t x h =
    let w = or_none (eqb t.a x || eqb t.b x) (eqb t.c x) h in
    let v = or_none (eqb t.a x) (eqb t.b x) w.0 in
    (eqb-false t.a x v.0, eqb-false t.b x v.1, eqb-false t.c x w.1)

-- no side starts at a corner that the triangle lacks
pub without_side : (t : Triangle) (x y : ℕ) → has_corner t x ≡ false → has_side t x y ≡ false
without_side t x y h =
    let w = apart t x h in
    rw (ne_eqb x t.a (λ e. w.0 (sym e)), ne_eqb x t.b (λ e. w.1 (sym e)), ne_eqb x t.c (λ e. w.2 (sym e)))

-- a side in common contains one of the first two corners
pub without_share : (s t : Triangle) → Without s t.a t.b → share_side s t ≡ false
unfolding share_side
without_share s t h =
    let a = apart s t.a h.x_no in
    let b = apart s t.b h.y_no in
    simp (
      ne_eqb s.a t.a a.0,
      ne_eqb s.b t.a a.1,
      ne_eqb s.c t.a a.2,
      ne_eqb s.a t.b b.0,
      ne_eqb s.b t.b b.1,
      ne_eqb s.c t.b b.2,
      and-false,
    )

-- a search that skips triangles
pub below_skip : (f : ℕ → Bool) {ts : List Triangle} {from to x y r : ℕ} → Below f from → Skips ts from to x y r
    → ((i : ℕ) → Without (triangle_at ts i) x y → f i ≡ false) → Below f r
below_skip f {from = from} b s h i l = elim (dec_le from i) [ yes j ↦ h i (s.none i j l) | no j ↦ b i (omega arith) ]

-- a search from number `from` on that skips triangles; the test fails for all before i
pub record Clear (f : ℕ → Bool) (from to i : ℕ) : Type 0 where
  pub most : i ≤ to
  pub none : (k : ℕ) → from ≤ k → k < i → f k ≡ false

module _ {f : ℕ → Bool} {ts : List Triangle} {x y : ℕ} (h : (k : ℕ) → Without (triangle_at ts k) x y → f k ≡ false) where
  pub clear_begins : {from to r : ℕ} → Skips ts from to x y r → Clear f from to r
  clear_begins s = record { most = s.most; none = λ k l m. h k (s.none k l m) }

  pub clear_more : {from to i r : ℕ} → Clear f from to i → f i ≡ false → Skips ts (i + 1) to x y r → Clear f from to r
  clear_more {i = i} c e s = record {
    most = s.most;
    none = λ k l m. elim (dec_le i k) [
      | yes p ↦ elim (dec_le k i) [ yes q ↦ (let d : k ≡ i = omega arith in rw d e) | no q ↦ h k (s.none k (omega arith) m) ]
      | no p ↦ c.none k l (omega arith)
    ];
  }

-- the search ended without a match
pub sided_missed : {ts : List Triangle} {from to x y i : ℕ} → Clear (λ k. has_side (triangle_at ts k) x y) from to i → to ≤ i → Sided ts from to x y false
sided_missed c l = record { yes = λ e. absurd (true≢false (sym e)); no = λ e k p q. c.none k p (omega arith) }

pub held_missed : {ts : List Triangle} {t : Triangle} {from to i : ℕ} → Clear (λ k. same_triangle (triangle_at ts k) t) from to i → to ≤ i → TriangleFound ts from to t false
held_missed c l = record { yes = λ e. absurd (true≢false (sym e)); no = λ e k p q. c.none k p (omega arith) }
