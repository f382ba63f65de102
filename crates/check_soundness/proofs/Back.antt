-- If a fault occurs, and no fault of an earlier kind, it is the answer. Assumes nothing.
use Rattle.check_verdict.specs.declared.fault.Fault.{Fault}
use Rattle.std.specs.Prelude.{Ok, Err}
use Prim.Native.Nat.{ℕ, ◌+◌, ◌*◌, ◌/◌, ◌%◌, ◌<◌}
use mathlib.Core.Path.{◌≡◌, refl, ap, ◌∙◌}
use mathlib.Core.Bool.{Bool, true, false, cond, ◌&&◌}
use mathlib.Core.List.{List}
use native.Mathlib.Omega.{arith}
use lib.ListN.{length}
use lib.Dec.{eqb}
use borrow.Author.Tests.{lt-ltb, le-ltb, eqb-true, eq-eqb}
use Rattle.patch.specs.declared.kinds.Patch.{Patch}
use Rattle.patch.specs.declared.settings.Settings.{Settings}
use Rattle.strip.specs.declared.triangle.Triangle.{Triangle}
use Rattle.mesh_geometry.specs.declared.Point.{Point}
use Rattle.mesh_geometry.specs.Faces.{at}
use Rattle.mesh_geometry.specs.Words.{read_points, read_triangles}
use Rattle.check_searches.specs.Indices.{first_unknown_index}
use Rattle.check_searches.specs.Points.{same_point, first_repeated}
use Rattle.check_searches.specs.Triangles.{triangle_at, share_side, first_reused}
use Rattle.check_verdict.specs.Faults.{Verdict}
use Rattle.check_verdict.specs.declared.fault.Fault.TheVariants as said
use Rattle.check_faults.specs.Inside.{first_outside}
use Rattle.check_faults.specs.Turns.{first_turned}
use Rattle.check_faults.specs.Outline.{first_open, first_missing}
use Rattle.check_verdict.specs.Faults.{or_else, open_side, side_twice, equal_points, outline_fault, side_fault, point_fault, mesh_fault}
use Rattle.check_soundness.specs.Sound.{SoundWords}
use Rattle.check_soundness.specs.Answers.{judged_for}
use Rattle.check_soundness.specs.Checks.{is_triangles}
use Rattle.check_soundness.specs.Firsts.{FirstNot, FirstPair}
use Rattle.check_soundness.specs.Means.{
  NumberedAt,
  InsideAt,
  EqualAt,
  TurnsAt,
  SharedAt,
  ClosedAt,
  DrawnAt,
  Threes,
  Kept,
  PassedThrees,
  PassedNumbered,
  PassedInside,
  PassedDistinct,
  PassedTurned,
  PassedSingle,
  PassedClosed,
}
use Rattle.patch.specs.Turn.{turn_asked}
use Rattle.patch_mesh.specs.Demand.{outline_of}
use Rattle.check_soundness.proofs.Decides.{all_none, first_is, none_pair, later_is, earlier_is}
use Rattle.check_soundness.proofs.PointTests.{numbered_decides, inside_decides, equal_decides}
use Rattle.check_soundness.proofs.SideTests.{turn_decides, share_decides, closed_decides, drawn_decides}
use Rattle.check_soundness.proofs.Stages.{distinct_of, numbers_of, sound_passed}

-- a search that found nothing, and one that found a fault
pass : (fault : Fault) (rest : Verdict) (x n : ℕ) → x ≡ n → or_else x n fault rest ≡ rest
pass fault rest x n e = rw (le-ltb x n (omega arith))

hit : (rest : Verdict) (f : ℕ → Fault) {k : ℕ} (x n : ℕ) → x ≡ k → k < n → or_else x n (f x) rest ≡ Err (f k)
hit rest f x n e l = rw (lt-ltb x n (omega arith)) (ap (λ k. Err (f k)) e)

module _ (set : Settings) (p : Patch) (pw iw : List ℕ) where
  abbrev ps : List Point
  ps = read_points pw

  abbrev ts : List Triangle
  ts = read_triangles iw

  abbrev pub mesh : Verdict
  mesh = mesh_fault (is_triangles p) (turn_asked set) (outline_of set p) pw iw

  -- the answer, as far as the stages before are passed
  to_index : PassedThrees set p pw iw → mesh ≡ or_else (first_unknown_index iw (length ps)) (length iw) (said.UnknownIndex (first_unknown_index iw (length ps)))
      (point_fault (is_triangles p) (judged_for set p pw iw))
  unfolding mesh_fault
  to_index c = rw (eq-eqb (length pw % 3) 0 c.1.0, eq-eqb (length iw % 3) 0 c.1.1)

  to_points : PassedNumbered set p pw iw → mesh ≡ point_fault (is_triangles p) (judged_for set p pw iw)
  unfolding first_unknown_index
  to_points c = to_index c.0 ∙ pass _ _ _ _ (all_none (numbered_decides ps iw) c.1)

  to_equal : PassedInside set p pw iw → mesh ≡ or_else (first_repeated ps) (length ps) (equal_points ps (first_repeated ps)) (side_fault (judged_for set p pw iw))
  unfolding point_fault first_outside
  to_equal c = to_points c.0 ∙ pass _ _ _ _ (all_none (inside_decides p ps) c.1)

  to_sides : PassedDistinct set p pw iw → mesh ≡ side_fault (judged_for set p pw iw)
  unfolding first_repeated
  to_sides c = to_equal c.0 ∙ pass _ _ _ _ (none_pair (λ i j. same_point (at ps i) (at ps j)) (equal_decides ps) c.1)

  to_reused : PassedTurned set p pw iw → mesh ≡ or_else (first_reused ts) (length ts) (side_twice ts (first_reused ts)) (outline_fault (judged_for set p pw iw))
  unfolding side_fault first_turned
  to_reused c = to_sides c.0 ∙ pass _ _ _ _ (all_none (turn_decides set p ps iw) c.1)

  to_outline : PassedSingle set p pw iw → mesh ≡ outline_fault (judged_for set p pw iw)
  unfolding first_reused
  to_outline c =
      to_reused c.0
      ∙ pass _ _ _ _ (none_pair (λ i j. share_side (triangle_at ts i) (triangle_at ts j)) (share_decides set p ps iw (distinct_of ps c.0.0.1) (numbers_of ps iw c.0.0.0.0.1)) c.1)

  to_missing : PassedClosed set p pw iw → mesh ≡ or_else (first_missing (judged_for set p pw iw)) (length (outline_of set p))
      (said.MissingPiece (first_missing (judged_for set p pw iw))) (Ok tt)
  unfolding outline_fault first_open
  to_missing c =
      to_outline c.0
      ∙ pass _ _ _ _ (all_none (closed_decides set p ps iw (distinct_of ps c.0.0.0.1) (numbers_of ps iw c.0.0.0.0.0.1)) c.1)

  -- the answer for each fault
  pub not_threes : (Threes pw iw → ⊥) → mesh ≡ Err said.NotThrees
  unfolding mesh_fault
  not_threes h = go _ (eqb (length pw % 3) 0) (eqb (length iw % 3) 0) refl refl
    where
      go : (v : Verdict) (x y : Bool) → eqb (length pw % 3) 0 ≡ x → eqb (length iw % 3) 0 ≡ y → cond (x && y) v (Err said.NotThrees) ≡ Err said.NotThrees
      go v true true e f = absurd (h (eqb-true (length pw % 3) 0 e, eqb-true (length iw % 3) 0 f))
      go v true false e f = refl
      go v false y e f = refl

  pub unknown_index : (k : ℕ) → PassedThrees set p pw iw → FirstNot (NumberedAt ps iw) (length iw) k → mesh ≡ Err (said.UnknownIndex k)
  unfolding first_unknown_index
  unknown_index k c f = to_index c ∙ hit _ said.UnknownIndex _ _ (first_is (numbered_decides ps iw) k f) f.below

  pub outside : (k : ℕ) → PassedNumbered set p pw iw → FirstNot (InsideAt p ps) (length ps) k → mesh ≡ Err (said.Outside k)
  unfolding point_fault first_outside
  outside k c f = to_points c ∙ hit _ said.Outside _ _ (first_is (inside_decides p ps) k f) f.below

  pub equal_points_lem : (i j : ℕ) → PassedInside set p pw iw → FirstPair (EqualAt ps) (length ps) i j → mesh ≡ Err (said.EqualPoints i j)
  unfolding first_repeated
  equal_points_lem i j c f =
      let t : ℕ → ℕ → Bool = λ x y. same_point (at ps x) (at ps y) in
      to_equal c ∙ hit _ (equal_points ps) _ _ (later_is t (equal_decides ps) f) f.below
      ∙ ap (λ x. Err (said.EqualPoints x j)) (earlier_is t (equal_decides ps) f)

  pub turned : (k : ℕ) → PassedDistinct set p pw iw → FirstNot (TurnsAt set ps iw) (length ts) k → mesh ≡ Err (said.Turned k)
  unfolding side_fault first_turned
  turned k c f = to_sides c ∙ hit _ said.Turned _ _ (first_is (turn_decides set p ps iw) k f) f.below

  pub side_twice_lem : (i j : ℕ) → PassedTurned set p pw iw → FirstPair (SharedAt ps iw) (length ts) i j → mesh ≡ Err (said.SideTwice i j)
  unfolding first_reused
  side_twice_lem i j c f =
      let t : ℕ → ℕ → Bool = λ x y. share_side (triangle_at ts x) (triangle_at ts y) in
      let h = share_decides set p ps iw (distinct_of ps c.0.1) (numbers_of ps iw c.0.0.0.1) in
      to_reused c ∙ hit _ (side_twice ts) _ _ (later_is t h f) f.below ∙ ap (λ x. Err (said.SideTwice x j)) (earlier_is t h f)

  pub open_side_lem : (k e : ℕ) → PassedSingle set p pw iw → e < 3 → FirstNot (ClosedAt set p ps iw) (length ts * 3) (k * 3 + e) → mesh ≡ Err (said.OpenSide k e)
  unfolding outline_fault first_open
  open_side_lem k e c l f =
      let h = closed_decides set p ps iw (distinct_of ps c.0.0.1) (numbers_of ps iw c.0.0.0.0.1) in
      let a : (k * 3 + e) / 3 ≡ k = omega arith in
      let b : (k * 3 + e) % 3 ≡ e = omega arith in
      to_outline c ∙ hit _ open_side _ _ (first_is h (k * 3 + e) f) f.below ∙ rw (a, b)

  pub missing_piece : (k : ℕ) → PassedClosed set p pw iw → FirstNot (DrawnAt set p ps iw) (length (outline_of set p)) k → mesh ≡ Err (said.MissingPiece k)
  unfolding first_missing
  missing_piece k c f = to_missing c ∙ hit _ said.MissingPiece _ _ (first_is (drawn_decides set p ps iw) k f) f.below

  pub accepted : Kept set p → SoundWords set p pw iw → mesh ≡ Ok tt
  unfolding first_missing
  accepted k s =
      let w = sound_passed set p pw iw k s in
      to_missing w.0 ∙ pass _ _ _ _ (all_none (drawn_decides set p ps iw) w.1)
