-- Patches that are alike have the same index words, however their levels differ. Assumes nothing.
use Prim.Native.Nat.{ℕ}
use mathlib.Core.Path.{◌≡◌, refl, sym, ap₂, ◌∙◌}
use mathlib.Core.Bool.{Bool, true, false, cond, true≢false, false≢true}
use mathlib.Core.List.{List, [], ◌∷◌}
use native.Mathlib.Omega.{arith}
use lib.ListN.{length}
use Rattle.level.specs.declared.Spacing.{Spacing}
use Rattle.level.specs.declared.Spacing.TheVariants.{Equal}
use Rattle.level.specs.declared.Segments.{Segments}
use Rattle.level.specs.Top.{Top}
use Rattle.level.specs.Segments.{segments_of, inner_segments}
use Rattle.patch.specs.declared.kinds.Patch.{Patch}
use Rattle.patch.specs.declared.kinds.Patch.TheVariants.{Triangles, Quads, Isolines}
use Rattle.patch.specs.declared.settings.Settings.{Settings}
use Rattle.patch.specs.declared.subdivision.Subdivision.{Subdivision}
use Rattle.patch.specs.declared.subdivision.Subdivision.TheVariants.{PlainTriangle, Triangle, PlainQuad, Quad, Lines}
use Rattle.patch.specs.Every.{every}
use Rattle.patch.specs.Subdivide.{single, discards, cut, subdivision, subdivision_of}
use Rattle.patch.specs.Turn.{positive, turn_asked}
use Rattle.patch_mesh.specs.Points.{points}
use Rattle.patch_mesh.specs.Primitives.{triangles, primitives, in_mode, index_words}
use Rattle.patch_mesh.specs.Counts.{point_count}
use Rattle.patch_mesh.specs.Kept.{kind_number, segment_counts, is_plain, Alike}
use Rattle.patch_mesh.proofs.Counts.{point_count_lem}
use Rattle.patch_mesh.proofs.Demand.{not_discarded}
use Rattle.patch_mesh.proofs.Valid.{cut_valid}

-- plain patches are alike, whatever their counts would be
pub plain_alike : (set set' : Settings) (p p' : Patch) → kind_number p ≡ kind_number p'
    → set.point_mode ≡ set'.point_mode → set.order ≡ set'.order → set.origin ≡ set'.origin
    → is_plain (subdivision_of set p) ≡ true → is_plain (subdivision_of set' p') ≡ true → Alike set set' p p'
plain_alike set set' p p' k m o r h h' = record {
  kind = k;
  mode = m;
  order = o;
  origin = r;
  plain = h ∙ sym h';
  counts = λ n. absurd (true≢false (sym h ∙ n));
}

-- two subdivisions with the same primitives and equally many points
record Same (c c' : Subdivision) : Type 0 where
  primitives : (turn : Bool) → primitives turn c ≡ primitives turn c'
  points : point_count c ≡ point_count c'

triangle : (plain plain' : Bool) (a b c i a' b' c' i' : Segments)
    → (is_plain (cond plain PlainTriangle (Triangle a b c i)) ≡ false
    → ◌≡◌ {A = List ℕ} (a.count ∷ b.count ∷ c.count ∷ i.count ∷ []) (a'.count ∷ b'.count ∷ c'.count ∷ i'.count ∷ []))
    → is_plain (cond plain PlainTriangle (Triangle a b c i)) ≡ is_plain (cond plain' PlainTriangle (Triangle a' b' c' i'))
    → Same (cond plain PlainTriangle (Triangle a b c i)) (cond plain' PlainTriangle (Triangle a' b' c' i'))
unfolding triangles point_count
triangle true true a b c i a' b' c' i' e h = record { primitives = λ t. refl; points = refl }
triangle true false a b c i a' b' c' i' e h = absurd (true≢false h)
triangle false true a b c i a' b' c' i' e h = absurd (false≢true h)
triangle false false a b c i a' b' c' i' e h =
    let counts = e refl in
    record { primitives = λ t. cc; points = cc }

quad : (plain plain' : Bool) (a b c d m n a' b' c' d' m' n' : Segments)
    → (is_plain (cond plain PlainQuad (Quad a b c d m n)) ≡ false
    → ◌≡◌ {A = List ℕ} (a.count ∷ b.count ∷ c.count ∷ d.count ∷ m.count ∷ n.count ∷ []) (a'.count ∷ b'.count ∷ c'.count ∷ d'.count ∷ m'.count ∷ n'.count ∷ []))
    → is_plain (cond plain PlainQuad (Quad a b c d m n)) ≡ is_plain (cond plain' PlainQuad (Quad a' b' c' d' m' n'))
    → Same (cond plain PlainQuad (Quad a b c d m n)) (cond plain' PlainQuad (Quad a' b' c' d' m' n'))
unfolding triangles point_count
quad true true a b c d m n a' b' c' d' m' n' e h = record { primitives = λ t. refl; points = refl }
quad true false a b c d m n a' b' c' d' m' n' e h = absurd (true≢false h)
quad false true a b c d m n a' b' c' d' m' n' e h = absurd (false≢true h)
quad false false a b c d m n a' b' c' d' m' n' e h =
    let counts = e refl in
    record { primitives = λ t. cc; points = cc }

lines : (m n m' n' : Segments) → ◌≡◌ {A = List ℕ} (m.count ∷ n.count ∷ []) (m'.count ∷ n'.count ∷ []) → Same (Lines m n) (Lines m' n')
unfolding point_count
lines m n m' n' e = record { primitives = λ t. cc; points = cc }

module _ (s s' : Spacing) (t t' : ℕ) where
  same : (p p' : Patch) → kind_number p ≡ kind_number p' → (is_plain (cut s t p) ≡ false → segment_counts s t p ≡ segment_counts s' t' p')
      → is_plain (cut s t p) ≡ is_plain (cut s' t' p') → Same (cut s t p) (cut s' t' p')
  same (Triangles a b c i) (Triangles a' b' c' i') k e h =
      triangle (every (single s t) (a ∷ b ∷ c ∷ i ∷ [])) (every (single s' t') (a' ∷ b' ∷ c' ∷ i' ∷ []))
      (segments_of s t a) (segments_of s t b) (segments_of s t c) (inner_segments s t i)
      (segments_of s' t' a') (segments_of s' t' b') (segments_of s' t' c') (inner_segments s' t' i') e h
  same (Quads a b c d i j) (Quads a' b' c' d' i' j') k e h =
      quad (every (single s t) (a ∷ b ∷ c ∷ d ∷ i ∷ j ∷ [])) (every (single s' t') (a' ∷ b' ∷ c' ∷ d' ∷ i' ∷ j' ∷ []))
      (segments_of s t a) (segments_of s t b) (segments_of s t c) (segments_of s t d) (inner_segments s t i) (inner_segments s t j)
      (segments_of s' t' a') (segments_of s' t' b') (segments_of s' t' c') (segments_of s' t' d') (inner_segments s' t' i') (inner_segments s' t' j') e h
  same (Isolines a b) (Isolines a' b') k e h = lines (segments_of Equal t a) (segments_of s t b) (segments_of Equal t' a') (segments_of s' t' b') (e refl)
  same (Triangles a b c i) (Quads a' b' c' d' i' j') k e h = absurd (omega arith)
  same (Triangles a b c i) (Isolines a' b') k e h = absurd (omega arith)
  same (Quads a b c d i j) (Triangles a' b' c' i') k e h = absurd (omega arith)
  same (Quads a b c d i j) (Isolines a' b') k e h = absurd (omega arith)
  same (Isolines a b) (Triangles a' b' c' i') k e h = absurd (omega arith)
  same (Isolines a b) (Quads a' b' c' d' i' j') k e h = absurd (omega arith)

-- with the same point mode and orientation they have the same indices
in_mode_lem : (mode mode' turn turn' : Bool) (c c' : Subdivision) → mode ≡ mode' → turn ≡ turn' → Same c c' → length (points c) ≡ length (points c')
    → in_mode mode turn c ≡ in_mode mode' turn' c'
in_mode_lem false mode' turn turn' c c' m t h n = rw (← m, ← t) (h.primitives turn)
in_mode_lem true mode' turn turn' c c' m t h n = rw (← m, n)

pub kept_connections : (set set' : Settings) → Top set.top → Top set'.top → (p p' : Patch) → discards p ≡ false → discards p' ≡ false → Alike set set' p p'
    → index_words set (subdivision_of set p) ≡ index_words set' (subdivision_of set' p')
unfolding index_words
kept_connections set set' top top' p p' d d' a =
    let s = set.spacing in
    let s' = set'.spacing in
    let t = set.top in
    let t' = set'.top in
    let c = subdivision s t p in
    let c' = subdivision s' t' p' in
    let counts : is_plain (cut s t p) ≡ false → segment_counts s t p ≡ segment_counts s' t' p' = rw (← not_discarded s t p d) a.counts in
    let plain : is_plain (cut s t p) ≡ is_plain (cut s' t' p') = rw (← not_discarded s t p d, ← not_discarded s' t' p' d') a.plain in
    let h : Same c c' = rw (not_discarded s t p d, not_discarded s' t' p' d') (same s s' t t' p p' a.kind counts plain) in
    in_mode_lem set.point_mode set'.point_mode (turn_asked set) (turn_asked set') c c' a.mode
    (ap₂ positive a.order a.origin) h (point_count_lem c (cut_valid s t top p) ∙ h.points ∙ sym (point_count_lem c' (cut_valid s' t' top' p')))
