-- What a patch is cut into: nothing if discarded, the plain patch, or n and L of each outer edge and inner level. Assumes nothing.
use Rattle.std.specs.Prelude.{ℕ, Bool, true, false, cond, List, [], ◌∷◌, eqb, Float}
use Rattle.level.specs.declared.Spacing.{Spacing}
use Rattle.level.specs.declared.Spacing.TheVariants.{Equal}
use Rattle.level.specs.Discard.{discarded}
use Rattle.level.specs.Segments.{segments_of, inner_segments}
use Rattle.patch.specs.declared.kinds.Patch.{Patch}
use Rattle.patch.specs.declared.kinds.Patch.TheVariants.{Triangles, Quads, Isolines}
use Rattle.patch.specs.declared.settings.Settings.{Settings}
use Rattle.patch.specs.declared.subdivision.Subdivision.{Subdivision}
use Rattle.patch.specs.declared.subdivision.Subdivision.TheVariants.{Discarded, PlainTriangle, Triangle, PlainQuad, Quad, Lines}
use Rattle.patch.specs.Every.{some, every}

-- the outer levels of a patch, edge after edge
abbrev pub outer_levels : Patch → List Float
outer_levels (Triangles a b c i) = a ∷ b ∷ c ∷ []
outer_levels (Quads a b c d i j) = a ∷ b ∷ c ∷ d ∷ []
outer_levels (Isolines a b) = a ∷ b ∷ []

-- the level gives one segment, under the top level t
abbrev pub single : Spacing → ℕ → Float → Bool
single s t x = eqb (segments_of s t x).count 1

-- the patch is discarded: an outer level is NaN or <= 0
abbrev pub discards : Patch → Bool
discards p = some discarded (outer_levels p)

-- the subdivision of a patch that is not discarded; it is the plain patch if every level that counts gives one segment. The first
-- inner level i of a quad patch gives its rows, the second, j, its columns. The number of isolines always has equal spacing.
abbrev pub cut : Spacing → ℕ → Patch → Subdivision
cut s t (Triangles a b c i) =
    cond (every (single s t) (a ∷ b ∷ c ∷ i ∷ [])) PlainTriangle
    (Triangle (segments_of s t a) (segments_of s t b) (segments_of s t c) (inner_segments s t i))
cut s t (Quads a b c d i j) =
    cond (every (single s t) (a ∷ b ∷ c ∷ d ∷ i ∷ j ∷ [])) PlainQuad
    (Quad (segments_of s t a) (segments_of s t b) (segments_of s t c) (segments_of s t d) (inner_segments s t i) (inner_segments s t j))
cut s t (Isolines a b) = Lines (segments_of Equal t a) (segments_of s t b)

unfoldable pub subdivision : Spacing → ℕ → Patch → Subdivision
subdivision s t p = cond (discards p) Discarded (cut s t p)

-- the subdivision of a patch under these settings
abbrev pub subdivision_of : Settings → Patch → Subdivision
subdivision_of s p = subdivision s.spacing s.top p

-- whether the subdivision draws nothing
abbrev pub is_discarded : Subdivision → Bool
is_discarded Discarded = true
is_discarded PlainTriangle = false
is_discarded (Triangle a b c i) = false
is_discarded PlainQuad = false
is_discarded (Quad a b c d m n) = false
is_discarded (Lines m n) = false
