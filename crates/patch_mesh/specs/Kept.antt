-- When two patches have the same index words. Their levels matter by segment counts alone, and for plain patches not at all. Assumes nothing.
use Rattle.std.specs.Prelude.{ℕ, ◌≡◌, Bool, true, false, List, [], ◌∷◌}
use Rattle.level.specs.declared.Spacing.{Spacing}
use Rattle.level.specs.declared.Spacing.TheVariants.{Equal}
use Rattle.level.specs.Segments.{segments_of, inner_segments}
use Rattle.patch.specs.declared.kinds.Patch.{Patch}
use Rattle.patch.specs.declared.kinds.Patch.TheVariants.{Triangles, Quads, Isolines}
use Rattle.patch.specs.declared.settings.Settings.{Settings}
use Rattle.patch.specs.declared.subdivision.Subdivision.{Subdivision}
use Rattle.patch.specs.declared.subdivision.Subdivision.TheVariants.{Discarded, PlainTriangle, Triangle, PlainQuad, Quad, Lines}
use Rattle.patch.specs.Subdivide.{subdivision_of}

-- the number of a patch's kind in job files
abbrev pub kind_number : Patch → ℕ
kind_number (Triangles a b c i) = 0
kind_number (Quads a b c d i j) = 1
kind_number (Isolines a b) = 2

-- the segment counts of a patch that is not plain, outer levels first; inner levels follow the rule of 65,537
abbrev pub segment_counts : Spacing → ℕ → Patch → List ℕ
segment_counts s t (Triangles a b c i) = (segments_of s t a).count ∷ (segments_of s t b).count ∷ (segments_of s t c).count ∷ (inner_segments s t i).count ∷ []
segment_counts s t (Quads a b c d i j) =
    (segments_of s t a).count ∷ (segments_of s t b).count ∷ (segments_of s t c).count ∷ (segments_of s t d).count ∷ (inner_segments s t i).count ∷ (inner_segments s t j).count ∷ []
segment_counts s t (Isolines a b) = (segments_of Equal t a).count ∷ (segments_of s t b).count ∷ []

-- the patch is drawn as the plain patch
abbrev pub is_plain : Subdivision → Bool
is_plain Discarded = false
is_plain PlainTriangle = true
is_plain (Triangle a b c i) = false
is_plain PlainQuad = true
is_plain (Quad a b c d m n) = false
is_plain (Lines m n) = false

-- two patches with settings for which drawing gives the same index words: both are plain, or neither is and their counts are equal
pub record Alike (set set' : Settings) (p p' : Patch) : Type 0 where
  pub kind : kind_number p ≡ kind_number p'
  pub mode : set.point_mode ≡ set'.point_mode
  pub order : set.order ≡ set'.order
  pub origin : set.origin ≡ set'.origin
  pub plain : is_plain (subdivision_of set p) ≡ is_plain (subdivision_of set' p')
  pub counts : is_plain (subdivision_of set p) ≡ false
      → segment_counts set.spacing set.top p ≡ segment_counts set'.spacing set'.top p'
