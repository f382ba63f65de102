-- Triangles with no area or the wrong orientation. Assumes nothing.
use Prim.Native.Nat.{ℕ, zero, suc, ◌+◌, ◌*◌, ◌/◌, ◌<◌}
use mathlib.Core.Path.{◌≡◌, refl, ap, sym, ◌∙◌}
use mathlib.Core.Bool.{Bool, true, false, not, true≢false}
use mathlib.Core.List.{List}
use native.Mathlib.Omega.{arith}
use lib.ListN.{length}
use lib.IntN.{ℤ, pos, negsuc}
use borrow.Author.Tests.{lt-ltb, le-ltb, not-false}
use Rattle.mesh_geometry.specs.Words.{read_triangles}
use Rattle.mesh_geometry.specs.Cover.{HasSign, signed, twice_area}
use Rattle.strip.specs.declared.triangle.Triangle.{Triangle}
use Rattle.mesh_geometry.specs.declared.Point.{Point}
use Rattle.mesh_geometry.specs.Faces.{at, face_of}
use Rattle.mesh_geometry.proofs.Signed.{Is, is_above, is_area, loop}
use Rattle.check_searches.specs.Triangles.{triangle_at}
use Rattle.check_faults.specs.Turns.{has_sign, Numbered, first_turned}
use Rattle.check_searches.proofs.Read.{triangle_read}
use Rattle.check_searches.proofs.First.{first_none, first_all}
use Rattle.check_searches.specs.Indices.{AllNumbered}

-- the corners of every triangle are numbers of points
pub numbered : (n : ℕ) (ws : List ℕ) (k : ℕ) → AllNumbered n ws → k < length ws / 3 → Numbered n (triangle_at (read_triangles ws) k)
numbered n ws k h l =
    rw (← triangle_read ws k l)
    (record { a = h.at (k * 3) (omega arith); b = h.at (k * 3 + 1) (omega arith); c = h.at (k * 3 + 2) (omega arith) })

-- the test of the sign is that of demand 3
pub sign_holds : (p : Bool) (z : ℤ) → has_sign p z ≡ true → HasSign p z
sign_holds true (pos zero) h = absurd (true≢false (sym h ∙ le-ltb 0 0 (omega arith)))
sign_holds true (pos (suc n)) h = record { size = suc n; above = omega arith; is = refl }
sign_holds true (negsuc n) h = absurd (true≢false (sym h))
sign_holds false (pos n) h = absurd (true≢false (sym h ∙ le-ltb n 0 (omega arith)))
sign_holds false (negsuc n) h = record { size = suc n; above = omega arith; is = refl }

sized : (p : Bool) (n : ℕ) → 0 < n → has_sign p (signed p n) ≡ true
sized true n l = lt-ltb 0 n l
sized false zero l = absurd (omega arith)
sized false (suc n) l = refl

pub sign_tests : (p : Bool) (z : ℤ) → HasSign p z → has_sign p z ≡ true
sign_tests p z h = ap (has_sign p) h.is ∙ sized p h.size h.above

-- the search finds no triangle exactly if every triangle has an area and the orientation asked for
pub none_turned : (p : Bool) (ps : List Point) (ts : List Triangle)
    → ((k : ℕ) → k < length ts → HasSign p (twice_area (face_of (at ps) (triangle_at ts k)))) → first_turned p ps ts ≡ length ts
unfolding first_turned
none_turned p ps ts h = first_none _ _ (λ k l. ap not (sign_tests p _ (h k l)))

pub turned_none : (p : Bool) (ps : List Point) (ts : List Triangle) → first_turned p ps ts ≡ length ts
    → (k : ℕ) → k < length ts → HasSign p (twice_area (face_of (at ps) (triangle_at ts k)))
unfolding first_turned
turned_none p ps ts e k l = sign_holds p _ (not-false _ (first_all _ _ e k l))

-- a triangle with three different corners
abbrev pub Apart : Triangle → Type 0
Apart t = (t.a ≡ t.b → ⊥) × (t.b ≡ t.c → ⊥) × (t.c ≡ t.a → ⊥)

-- a triangle with two equal corners has no area
flat : (p : Bool) (z : ℤ) (a b : ℕ) → Is z a b → HasSign p z → a ≡ b → ⊥
flat p z a b i h e = no p (rw (is_above z a b 0 i (omega arith)) at (sign_tests p z h))
  where
    no : (p : Bool) → has_sign p (pos 0) ≡ true → ⊥
    no true e = true≢false (sym e ∙ le-ltb 0 0 (omega arith))
    no false e = true≢false (sym e ∙ le-ltb 0 0 (omega arith))

pub area_apart : (p : Bool) (P : ℕ → Point) (t : Triangle) → HasSign p (twice_area (face_of P t)) → Apart t
area_apart p P t h =
    let no = flat p (twice_area (face_of P t)) (loop (P t.a) (P t.b) (P t.c)) (loop (P t.a) (P t.c) (P t.b)) (is_area (face_of P t)) h in
    (λ e. no (rw e (omega arith)), λ e. no (rw e (omega arith)), λ e. no (rw e (omega arith)))
