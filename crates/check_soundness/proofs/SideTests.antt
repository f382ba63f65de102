-- What the tests of triangles, sides and the outline show. Assumes nothing.
use Prim.Native.Nat.{ℕ, zero, suc, ◌+◌, ◌*◌, ◌/◌, ◌%◌, ◌<◌}
use mathlib.Core.Path.{◌≡◌, refl, ap, sym, ◌∙◌}
use mathlib.Core.Bool.{Bool, true, false, not, ◌||◌, or-true, true≢false}
use mathlib.Core.Logic.{◌⊎◌, inl, inr, ⊎_elim}
use mathlib.Core.List.{List}
use native.Mathlib.Omega.{arith}
use lib.ListN.{length}
use borrow.Author.Tests.{not-false}
use Rattle.patch.specs.declared.kinds.Patch.{Patch}
use Rattle.patch.specs.declared.settings.Settings.{Settings}
use Rattle.strip.specs.declared.triangle.Triangle.{Triangle}
use Rattle.mesh_geometry.specs.declared.Point.{Point}
use Rattle.mesh_geometry.specs.Cover.{Face, Side, reversed, side, piece, twice_area, Occurs, AllDistinct}
use Rattle.mesh_geometry.specs.Faces.{at, face_of}
use Rattle.mesh_geometry.specs.Words.{read_triangles}
use Rattle.patch_mesh.specs.Demand.{outline_of}
use Rattle.check_soundness.specs.Sound.{sides_in}
use Rattle.check_searches.specs.Points.{same_point}
use Rattle.check_searches.specs.Triangles.{triangle_at, has_side, share_side, some_side}
use Rattle.check_searches.proofs.First.{some_here, some_which}
use Rattle.check_faults.specs.JudgedMesh.{JudgedMesh}
use Rattle.check_faults.specs.Turns.{has_sign, Numbered, turns_wrong}
use Rattle.check_faults.specs.Outline.{same_ends, on_outline, side_between, start_corner, end_of, closes, bounds, piece_drawn}
use Rattle.check_faults.proofs.Turns.{sign_holds, sign_tests}
use Rattle.check_faults.proofs.Corners.{start_known, end_known}
use Rattle.check_soundness.specs.Means.{TurnsAt, SharedAt, ClosedAt, DrawnAt}
use Rattle.check_soundness.proofs.Sides.{side_no, by_numbers, drawn_count, side_split, side_of_lem, face_at, any_which, both_which, side_which, side_has, share_which, share_has}
use Rattle.check_soundness.proofs.PointTests.{clash, same_is, is_same}
use Rattle.patch.specs.Turn.{turn_asked}
use Rattle.check_soundness.proofs.Decides.{Decides, DecidesPair}

-- sides by coordinates
ends_is : (s r : Side) → same_ends s r ≡ true → s ≡ r
ends_is s r h =
    let w = both_which (same_point s.start r.start) (same_point s.end r.end) h in
    λ i. record { start = same_is s.start r.start w.0 i; end = same_is s.end r.end w.1 i }

ends_same : (s r : Side) → s ≡ r → same_ends s r ≡ true
ends_same s r e = rw (e, is_same r.start r.start refl, is_same r.end r.end refl)

bounds_which : (f : Face) (s : Side) → bounds f s ≡ true → (e : ℕ) × (e < 3) × (side_no f e ≡ s)
bounds_which f s h =
    ⊎_elim (λ w. (0, omega arith, ends_is (side_no f 0) s w)) (⊎_elim (λ w. (1, omega arith, ends_is (side_no f 1) s w)) (λ w. (2, omega arith, ends_is (side_no f 2) s w)))
    (any_which (same_ends (side_no f 0) s) (same_ends (side_no f 1) s) (same_ends (side_no f 2) s) h)

bounds_side : (f : Face) (e : ℕ) (s : Side) → side_no f e ≡ s → bounds f s ≡ true
bounds_side f zero s h = rw (ends_same (side_no f 0) s h)
bounds_side f (suc zero) s h = rw (ends_same (side_no f 1) s h, or-true)
bounds_side f (suc (suc e)) s h = rw (ends_same (side_no f 2) s h, or-true)

either : (x y : Bool) → (x || y) ≡ true → (x ≡ true) ⊎ (y ≡ true)
either true y h = inl refl
either false y h = inr h

module _ (set : Settings) (p : Patch) (ps : List Point) (iw : List ℕ) where
  abbrev ts : List Triangle
  ts = read_triangles iw

  abbrev mesh : JudgedMesh
  mesh = record { positive = turn_asked set; outline = outline_of set p; points = ps; triangles = ts }

  pub turn_decides : Decides (λ k. turns_wrong (turn_asked set) ps (triangle_at ts k)) (TurnsAt set ps iw) (length ts)
  turn_decides = record {
    good = λ k l e. rw (face_at ps ts _ k l) (sign_holds (turn_asked set) _ (not-false (has_sign (turn_asked set) (twice_area (face_of (at ps) (triangle_at ts k)))) e));
    bad = λ k l e h. clash e (sign_tests (turn_asked set) _ (rw (face_at ps ts _ k l) at h));
  }

  -- for distinct points
  module _ (apart : AllDistinct ps)
      (num : (k : ℕ) → k < length ts → Numbered (length ps) (triangle_at ts k)) where
    pub same_numbers : (s t : Triangle) (d e : ℕ) → Numbered (length ps) s → Numbered (length ps) t
        → side_no (face_of (at ps) s) d ≡ side_no (face_of (at ps) t) e → (start_corner s d ≡ start_corner t e) × (end_of s d ≡ end_of t e)
    same_numbers s t d e m n h =
        let w = sym (by_numbers ps s d) ∙ h ∙ by_numbers ps t e in
        (apart _ _ (start_known _ s d m) (start_known _ t e n) (ap (λ x. x.start) w), apart _ _ (end_known _ s d m) (end_known _ t e n) (ap (λ x. x.end) w))

    pub share_decides : DecidesPair (λ i j. share_side (triangle_at ts i) (triangle_at ts j)) (SharedAt ps iw) (length ts)
    share_decides = record { yes = yes; no = no }
      where
        yes : (i j : ℕ) → i < j → j < length ts → share_side (triangle_at ts i) (triangle_at ts j) ≡ true → SharedAt ps iw i j
        yes i j l m h =
            let w = share_which (triangle_at ts i) (triangle_at ts j) h in
            let v = w.2 in
            record {
              d = w.0;
              e = v.e;
              d_few = w.1;
              e_few = v.few;
              same =
                  side_of_lem ps ts i w.0 (omega arith) w.1 ∙ by_numbers ps (triangle_at ts i) w.0
                  ∙ rw (v.starts, v.ends) (sym (side_of_lem ps ts j v.e m v.few ∙ by_numbers ps (triangle_at ts j) v.e));
            }

        no : (i j : ℕ) → i < j → j < length ts → share_side (triangle_at ts i) (triangle_at ts j) ≡ false → SharedAt ps iw i j → ⊥
        no i j l m h s =
            let k : i < length ts = omega arith in
            let w = same_numbers (triangle_at ts i) (triangle_at ts j) s.d s.e (num i k) (num j m)
            (sym (side_of_lem ps ts i s.d k s.d_few) ∙ s.same ∙ side_of_lem ps ts j s.e m s.e_few) in
            true≢false (sym (share_has (triangle_at ts i) (triangle_at ts j) s.d s.e w.0 w.1) ∙ h)

    -- side m
    module _ (m : ℕ) (l : m < length ts * 3) where
      abbrev t : Triangle
      t = triangle_at ts (m / 3)

      abbrev x : ℕ
      x = start_corner t (m % 3)

      abbrev y : ℕ
      y = end_of t (m % 3)

      own : side (sides_in ps iw) m ≡ side_between ps x y
      own = side_split ps ts m l ∙ by_numbers ps t (m % 3)

      met : some_side ts y x ≡ true → ClosedAt set p ps iw m
      met h =
          let w = some_which (λ i. has_side (triangle_at ts i) y x) (length ts) h in
          let v = side_which (triangle_at ts w.0) y x w.2 in
          inr (
            w.0 * 3 + v.e,
            omega (arith, drawn_count ps ts, w.1, v.few),
            side_of_lem ps ts w.0 v.e w.1 v.few
                ∙ by_numbers ps (triangle_at ts w.0) v.e ∙ rw (← v.starts, ← v.ends) (ap reversed (sym own)),
          )

      edge : on_outline (turn_asked set) (outline_of set p) (side_between ps x y) ≡ true → ClosedAt set p ps iw m
      edge h =
          let w = some_which (λ k. same_ends (piece (turn_asked set) (outline_of set p) k) (side_between ps x y)) (length (outline_of set p)) h in
          inl (w.0, w.1, own ∙ sym (ends_is (piece (turn_asked set) (outline_of set p) w.0) (side_between ps x y) w.2))

      pub closes_closed : closes mesh m ≡ true → ClosedAt set p ps iw m
      closes_closed h = ⊎_elim met edge (either (some_side ts y x) (on_outline (turn_asked set) (outline_of set p) (side_between ps x y)) h)

      as_piece : (k : ℕ) × (k < length (outline_of set p)) × (side (sides_in ps iw) m ≡ piece (turn_asked set) (outline_of set p) k) → closes mesh m ≡ true
      as_piece w = rw (
        some_here (λ k. same_ends (piece (turn_asked set) (outline_of set p) k) (side_between ps x y)) (length (outline_of set p)) w.0 w.1 (ends_same _ (side_between ps x y) (sym w.2 ∙ own)),
        or-true,
      )

      as_reverse : Occurs (reversed (side (sides_in ps iw) m)) (sides_in ps iw) → closes mesh m ≡ true
      as_reverse w =
          let i = w.0 / 3 in
          let c : w.0 < length ts * 3 = omega (arith, drawn_count ps ts, w.1) in
          let b : i < length ts = omega arith in
          let n = num (m / 3) (omega arith) in
          let e = sym (side_split ps ts w.0 c ∙ by_numbers ps (triangle_at ts i) (w.0 % 3)) ∙ w.2 ∙ ap reversed own in
          rw
          (some_here (λ i. has_side (triangle_at ts i) y x) (length ts) i b
          (side_has (triangle_at ts i) (w.0 % 3) y x
          (sym (apart _ _ (start_known _ _ (w.0 % 3) (num i b)) (end_known _ t (m % 3) n) (ap (λ s. s.start) e)))
          (sym (apart _ _ (end_known _ _ (w.0 % 3) (num i b)) (start_known _ t (m % 3) n) (ap (λ s. s.end) e)))))

    pub closed_decides : Decides (λ m. not (closes mesh m)) (ClosedAt set p ps iw) (length ts * 3)
    closed_decides = record {
      good = λ m l e. closes_closed m l (not-false (closes mesh m) e);
      bad = λ m l e h. clash e (⊎_elim (as_piece m l) (as_reverse m l) h);
    }

  pub drawn_decides : Decides (λ k. not (piece_drawn mesh k)) (DrawnAt set p ps iw) (length (outline_of set p))
  drawn_decides = record { good = good; bad = λ k l e h. clash e (bad k h) }
    where
      good : (k : ℕ) → k < length (outline_of set p) → not (piece_drawn mesh k) ≡ false → DrawnAt set p ps iw k
      good k l e =
          let w = some_which (λ i. bounds (face_of (at ps) (triangle_at ts i)) (piece (turn_asked set) (outline_of set p) k)) (length ts) (not-false _ e) in
          let v = bounds_which (face_of (at ps) (triangle_at ts w.0)) (piece (turn_asked set) (outline_of set p) k) w.2 in
          (w.0 * 3 + v.0, omega (arith, drawn_count ps ts, w.1, v.1), side_of_lem ps ts w.0 v.0 w.1 v.1 ∙ v.2)

      bad : (k : ℕ) → DrawnAt set p ps iw k → piece_drawn mesh k ≡ true
      bad k w =
          let c : w.0 < length ts * 3 = omega (arith, drawn_count ps ts, w.1) in
          some_here (λ i. bounds (face_of (at ps) (triangle_at ts i)) (piece (turn_asked set) (outline_of set p) k)) (length ts) (w.0 / 3) (omega arith)
          (bounds_side _ (w.0 % 3) (piece (turn_asked set) (outline_of set p) k) (sym (side_split ps ts w.0 c) ∙ w.2))
