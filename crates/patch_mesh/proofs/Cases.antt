-- A property of every patch and its subdivision, by the cases of the subdivision. Assumes nothing.
use Prim.Native.Nat.{ℕ}
use mathlib.Core.Path.{◌≡◌, refl}
use mathlib.Core.Bool.{Bool, true, false, cond}
use mathlib.Core.List.{[], ◌∷◌}
use lib.Ieee.{Float}
use Rattle.level.specs.declared.Spacing.{Spacing}
use Rattle.level.specs.declared.Spacing.TheVariants.{Equal}
use Rattle.level.specs.Segments.{segments_of, inner_segments}
use Rattle.patch.specs.declared.kinds.Patch.{Patch}
use Rattle.patch.specs.declared.kinds.Patch.TheVariants.{Triangles, Quads, Isolines}
use Rattle.patch.specs.declared.subdivision.Subdivision.{Subdivision}
use Rattle.patch.specs.declared.subdivision.Subdivision.TheVariants.{Discarded, PlainTriangle, Triangle, PlainQuad, Quad, Lines}
use Rattle.patch.specs.Every.{every}
use Rattle.patch.specs.Subdivide.{single, discards, cut, subdivision}

-- P holds for a patch and its subdivision, in each case that is drawn
pub record Cases (s : Spacing) (t : ℕ) (P : Patch → Subdivision → Type 0) : Type 0 where
  pub triangle : (a b c i : Float)
      → P (Triangles a b c i) (Triangle (segments_of s t a) (segments_of s t b) (segments_of s t c) (inner_segments s t i))
  pub plain_triangle : (a b c i : Float) → every (single s t) (a ∷ b ∷ c ∷ i ∷ []) ≡ true → P (Triangles a b c i) PlainTriangle
  pub quad : (a b c d i j : Float)
      → P (Quads a b c d i j)
      (Quad (segments_of s t a) (segments_of s t b) (segments_of s t c) (segments_of s t d) (inner_segments s t i) (inner_segments s t j))
  pub plain_quad_lem : (a b c d i j : Float) → every (single s t) (a ∷ b ∷ c ∷ d ∷ i ∷ j ∷ []) ≡ true → P (Quads a b c d i j) PlainQuad
  pub lines : (a b : Float) → P (Isolines a b) (Lines (segments_of Equal t a) (segments_of s t b))

either : (Q : Subdivision → Type 0) (test : Bool) {c d : Subdivision} → (test ≡ true → Q c) → Q d → Q (cond test c d)
either Q true h k = h refl
either Q false h k = k

module _ {s : Spacing} {t : ℕ} {P : Patch → Subdivision → Type 0} (h : Cases s t P) where
  pub drawn_cases : (p : Patch) → P p (cut s t p)
  drawn_cases (Triangles a b c i) = either (P (Triangles a b c i)) _ (h.plain_triangle a b c i) (h.triangle a b c i)
  drawn_cases (Quads a b c d i j) = either (P (Quads a b c d i j)) _ (h.plain_quad_lem a b c d i j) (h.quad a b c d i j)
  drawn_cases (Isolines a b) = h.lines a b

  -- if P also holds for discarded patches, it holds for all
  pub all_cases : ((p : Patch) → P p Discarded) → (p : Patch) → P p (subdivision s t p)
  unfolding subdivision
  all_cases k p = either (P p) (discards p) (λ _. k p) (drawn_cases p)
