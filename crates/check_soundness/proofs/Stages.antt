-- A mesh that has passed all stages is sound, and a sound mesh passes them. Assumes nothing.
use Prim.Native.Nat.{ℕ, zero, suc, ◌+◌, ◌*◌, ◌/◌, ◌%◌, ◌<◌}
use mathlib.Core.Path.{◌≡◌, refl, sym, ◌∙◌}
use mathlib.Core.List.{List}
use native.Mathlib.Omega.{arith}
use lib.ListN.{length, length-map}
use Rattle.patch.specs.declared.kinds.Patch.{Patch}
use Rattle.patch.specs.declared.settings.Settings.{Settings}
use Rattle.patch.specs.Turn.{turn_asked}
use Rattle.strip.specs.declared.triangle.Triangle.{Triangle}
use Rattle.mesh_geometry.specs.declared.Point.{Point}
use Rattle.mesh_geometry.specs.Cover.{side, AllDistinct}
use Rattle.mesh_geometry.specs.Faces.{at, face_of}
use Rattle.mesh_geometry.proofs.Lists.{neither}
use Rattle.mesh_geometry.specs.Words.{read_points, read_triangles}
use Rattle.patch_mesh.specs.Demand.{outline_of}
use Rattle.check_soundness.specs.Sound.{sides_in, SoundWords}
use Rattle.check_searches.specs.Triangles.{triangle_at}
use Rattle.check_searches.proofs.Read.{triangles_count}
use Rattle.check_faults.specs.Turns.{Numbered}
use Rattle.check_faults.specs.Outline.{start_corner}
use Rattle.check_faults.proofs.Turns.{numbered, Apart, area_apart}
use Rattle.check_soundness.specs.Firsts.{Every, NoPair}
use Rattle.check_soundness.specs.Means.{NumberedAt, EqualAt, DrawnAt, Kept, PassedSingle, PassedClosed}
use Rattle.check_soundness.proofs.Sides.{drawn_count, side_split, face_at}
use Rattle.check_soundness.proofs.SideTests.{same_numbers}

-- no two points are equal
pub distinct_of : (ps : List Point) → NoPair (EqualAt ps) (length ps) → AllDistinct ps
distinct_of ps h i j l m e = neither i j (λ k. h i j k m e) (λ k. h j i k l (sym e))

-- the corners of every triangle are numbers of points
pub numbers_of : (ps : List Point) (iw : List ℕ) → Every (NumberedAt ps iw) (length iw)
    → (k : ℕ) → k < length (read_triangles iw) → Numbered (length ps) (triangle_at (read_triangles iw) k)
numbers_of ps iw h k l = numbered (length ps) iw k (record { at = h }) (omega (arith, triangles_count iw))

-- sides of a triangle with different corners that start at the same corner are equal
same_corner : (t : Triangle) (d e : ℕ) → Apart t → d < 3 → e < 3 → start_corner t d ≡ start_corner t e → d ≡ e
same_corner t zero zero a l m h = refl
same_corner t zero (suc zero) a l m h = absurd (a.0 h)
same_corner t zero (suc (suc e)) a l m h = absurd (a.2 (sym h))
same_corner t (suc zero) zero a l m h = absurd (a.0 (sym h))
same_corner t (suc zero) (suc zero) a l m h = refl
same_corner t (suc zero) (suc (suc e)) a l m h = absurd (a.1 h)
same_corner t (suc (suc d)) zero a l m h = absurd (a.2 h)
same_corner t (suc (suc d)) (suc zero) a l m h = absurd (a.1 (sym h))
same_corner t (suc (suc d)) (suc (suc e)) a l m h = omega arith

module _ (set : Settings) (p : Patch) (pw iw : List ℕ) where
  abbrev ps : List Point
  ps = read_points pw

  abbrev ts : List Triangle
  ts = read_triangles iw

  -- no side occurs twice
  module _ (s : PassedSingle set p pw iw) where
    shared : (i j : ℕ) → i / 3 < j / 3 → j < length ts * 3 → side (sides_in ps iw) i ≡ side (sides_in ps iw) j → ⊥
    shared i j l m e =
        let a : i / 3 * 3 + i % 3 ≡ i = omega arith in
        let b : j / 3 * 3 + j % 3 ≡ j = omega arith in
        s.1 (i / 3) (j / 3) l (omega arith) (record { d = i % 3; e = j % 3; d_few = omega arith; e_few = omega arith; same = rw (a, b) e })

    within : (i j : ℕ) → i / 3 ≡ j / 3 → i < length ts * 3 → j < length ts * 3 → side (sides_in ps iw) i ≡ side (sides_in ps iw) j → i ≡ j
    within i j c l m e =
        let k : j / 3 < length ts = omega arith in
        let t = triangle_at ts (j / 3) in
        let a = area_apart (turn_asked set) (at ps) t (rw (face_at ps ts _ (j / 3) k) at (s.0.1 (j / 3) k)) in
        let num = numbers_of ps iw s.0.0.0.0.1 in
        let w = same_numbers set p ps iw (distinct_of ps s.0.0.1) num t t (i % 3) (j % 3) (num (j / 3) k) (num (j / 3) k)
        (sym (rw c at (side_split ps ts i l)) ∙ e ∙ side_split ps ts j m) in
        omega (arith, same_corner t (i % 3) (j % 3) a (omega arith) (omega arith) w.0)

    single_of : (i j : ℕ) → i < length ts * 3 → j < length ts * 3 → side (sides_in ps iw) i ≡ side (sides_in ps iw) j → i ≡ j
    single_of i j l m e = within i j (neither (i / 3) (j / 3) (λ k. shared i j k m e) (λ k. shared j i k l (sym e))) l m e

  pub passed_sound : PassedClosed set p pw iw → Every (DrawnAt set p ps iw) (length (outline_of set p)) → SoundWords set p pw iw
  passed_sound c d =
      let s = c.0 in
      let k = s.0.0.0.0 in
      let n = drawn_count ps ts in record {
        thirds = k.0.1.0;
        mesh = record {
          counts = k.0.1.1;
          numbered = k.1;
          inside = s.0.0.0.1;
          distinct = distinct_of ps s.0.0.1;
          turned = λ i l. s.0.1 i (omega (arith, length-map ts (face_of (at ps))));
          single = λ i j l m. single_of s i j (omega arith) (omega arith);
          closed = λ i l. c.1 i (omega arith);
          outlined = d;
        };
      }

  -- conversely, a sound mesh has passed all stages
  pub sound_passed : Kept set p → SoundWords set p pw iw → PassedClosed set p pw iw × Every (DrawnAt set p ps iw) (length (outline_of set p))
  sound_passed k w =
      let s = w.mesh in
      let n = drawn_count ps ts in (
        (
          (
            (
              (
                (((k, (w.thirds, s.counts)), s.numbered), s.inside),
                λ i j l m e. omega (arith, s.distinct i j (omega arith) m e),
              ),
              λ i l. s.turned i (omega (arith, length-map ts (face_of (at ps)))),
            ),
            λ i j l m h. omega (arith, s.single (i * 3 + h.d) (j * 3 + h.e) (omega (arith, h.d_few)) (omega (arith, h.e_few)) h.same, h.d_few, h.e_few),
          ),
          λ i l. s.closed i (omega arith),
        ),
        s.outlined,
      )
