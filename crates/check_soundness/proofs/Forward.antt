-- The answer of each stage is right. Assumes nothing.
use Rattle.check_verdict.specs.declared.fault.Fault.{Fault}
use Rattle.std.specs.Prelude.{Ok, Err}
use Prim.Native.Nat.{ℕ, ◌+◌, ◌*◌, ◌/◌, ◌%◌, ◌≤◌, ◌<◌}
use mathlib.Core.Path.{◌≡◌, refl}
use mathlib.Core.Bool.{Bool, true, false, cond, ◌&&◌}
use mathlib.Core.Logic.{inr}
use mathlib.Core.List.{List}
use native.Mathlib.Omega.{arith}
use lib.ListN.{length}
use lib.Dec.{ltb, eqb}
use borrow.Author.Tests.{ltb-true, ltb-false, eqb-true, eqb-false}
use Rattle.patch.specs.declared.kinds.Patch.{Patch}
use Rattle.patch.specs.declared.settings.Settings.{Settings}
use Rattle.strip.specs.declared.triangle.Triangle.{Triangle}
use Rattle.mesh_geometry.specs.declared.Point.{Point}
use Rattle.mesh_geometry.specs.Faces.{at}
use Rattle.mesh_geometry.specs.Words.{read_points, read_triangles}
use Rattle.check_searches.specs.Indices.{first_unknown_index}
use Rattle.check_searches.specs.Points.{same_point, first_repeated}
use Rattle.check_searches.specs.Triangles.{triangle_at, share_side, first_reused}
use Rattle.check_verdict.specs.Faults.{Verdict}
use Rattle.check_verdict.specs.declared.fault.Fault.TheVariants as said
use Rattle.check_faults.specs.Inside.{first_outside}
use Rattle.check_faults.specs.Turns.{first_turned}
use Rattle.check_faults.specs.Outline.{first_open, first_missing}
use Rattle.check_verdict.specs.Faults.{or_else, outline_fault, side_fault, point_fault, mesh_fault}
use Rattle.check_soundness.specs.Answers.{judged_for}
use Rattle.check_soundness.specs.Checks.{is_triangles}
use Rattle.check_soundness.specs.Means.{Kept, PassedThrees, PassedNumbered, PassedInside, PassedDistinct, PassedTurned, PassedSingle, PassedClosed, Means}
use Rattle.patch.specs.Turn.{turn_asked}
use Rattle.patch_mesh.specs.Demand.{outline_of}
use Rattle.check_soundness.proofs.Decides.{decides_all, decides_first, pair_none, pair_first}
use Rattle.check_soundness.proofs.PointTests.{numbered_decides, inside_decides, equal_decides}
use Rattle.check_soundness.proofs.SideTests.{turn_decides, share_decides, closed_decides, drawn_decides}
use Rattle.check_soundness.proofs.Stages.{distinct_of, numbers_of, passed_sound}

-- the fault if it is found, else the rest
stage : (P : Verdict → Type 0) (x n : ℕ) (fault : Fault) (rest : Verdict) → (x < n → P (Err fault)) → (n ≤ x → P rest) → P (or_else x n fault rest)
stage P x n fault rest f g = go (ltb x n) refl
  where
    go : (b : Bool) → ltb x n ≡ b → P (cond b (Err fault) rest)
    go true e = f (ltb-true x n e)
    go false e = g (ltb-false x n e)

module _ (set : Settings) (p : Patch) (pw iw : List ℕ) where
  abbrev ps : List Point
  ps = read_points pw

  abbrev ts : List Triangle
  ts = read_triangles iw

  abbrev M : Verdict → Type 0
  M v = Means set p pw iw v

  outline_means : PassedSingle set p pw iw → M (outline_fault (judged_for set p pw iw))
  unfolding outline_fault first_open first_missing
  outline_means s =
      let h = closed_decides set p ps iw (distinct_of ps s.0.0.1) (numbers_of ps iw s.0.0.0.0.1) in
      let g = drawn_decides set p ps iw in
      let m = first_open (judged_for set p pw iw) in
      stage M _ _ _ _
      (λ l. let e : m / 3 * 3 + m % 3 ≡ m = omega arith in (s, omega arith, rw e (decides_first h l)))
      (λ l. let c : PassedClosed set p pw iw = (s, decides_all h l) in
      stage M (first_missing (judged_for set p pw iw)) (length (outline_of set p))
      (said.MissingPiece (first_missing (judged_for set p pw iw))) (Ok tt) (λ k. (c, decides_first g k))
      (λ k. inr (s.0.0.0.0.0.0, passed_sound set p pw iw c (decides_all g k))))

  side_means : PassedDistinct set p pw iw → M (side_fault (judged_for set p pw iw))
  unfolding side_fault first_turned first_reused
  side_means d =
      let h = turn_decides set p ps iw in
      let g = share_decides set p ps iw (distinct_of ps d.1) (numbers_of ps iw d.0.0.1) in
      stage M _ _ _ _ (λ l. (d, decides_first h l))
      (λ l. let t : PassedTurned set p pw iw = (d, decides_all h l) in
      stage M _ _ _ _ (λ k. (t, pair_first (λ i j. share_side (triangle_at ts i) (triangle_at ts j)) g k))
      (λ k. outline_means (t, pair_none (λ i j. share_side (triangle_at ts i) (triangle_at ts j)) g k)))

  point_means : PassedNumbered set p pw iw → M (point_fault (is_triangles p) (judged_for set p pw iw))
  unfolding point_fault first_outside first_repeated
  point_means d =
      let h = inside_decides p ps in
      let g = equal_decides ps in
      stage M _ _ _ _ (λ l. (d, decides_first h l))
      (λ l. let t : PassedInside set p pw iw = (d, decides_all h l) in
      stage M _ _ _ _ (λ k. (t, pair_first (λ i j. same_point (at ps i) (at ps j)) g k))
      (λ k. side_means (t, pair_none (λ i j. same_point (at ps i) (at ps j)) g k)))

  pub mesh_means : Kept set p → M (mesh_fault (is_triangles p) (turn_asked set) (outline_of set p) pw iw)
  unfolding mesh_fault first_unknown_index
  mesh_means d = go (eqb (length pw % 3) 0) (eqb (length iw % 3) 0) refl refl
    where
      go : (x y : Bool) → eqb (length pw % 3) 0 ≡ x → eqb (length iw % 3) 0 ≡ y
          → M (cond (x && y) (or_else (first_unknown_index iw (length ps)) (length iw) (said.UnknownIndex (first_unknown_index iw (length ps)))
          (point_fault (is_triangles p) (judged_for set p pw iw))) (Err said.NotThrees))
      go true true e f =
          let t : PassedThrees set p pw iw = (d, (eqb-true (length pw % 3) 0 e, eqb-true (length iw % 3) 0 f)) in
          let h = numbered_decides ps iw in
          stage M _ _ _ _ (λ l. (t, decides_first h l)) (λ l. point_means (t, decides_all h l))
      go true false e f = (d, λ w. eqb-false (length iw % 3) 0 f w.1)
      go false y e f = (d, λ w. eqb-false (length pw % 3) 0 e w.0)
