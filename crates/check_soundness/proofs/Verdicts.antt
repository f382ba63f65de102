-- Each answer is given exactly if it is right. Assumes nothing.
use Rattle.std.specs.Prelude.{Ok, Err}
use Prim.Native.Nat.{ℕ}
use mathlib.Core.Path.{◌≡◌, refl, ap, sym, subst, ◌∙◌}
use mathlib.Core.Bool.{Bool, true, false, cond, true≢false}
use mathlib.Core.Logic.{◌↔◌, inl, ⊎_elim}
use mathlib.Core.List.{List}
use lib.ListN.{length}
use lib.Dec.{eqb}
use borrow.Author.Tests.{eqb-true, eq-eqb}
use Rattle.level.specs.Top.{Top, is_top}
use Rattle.patch.specs.declared.kinds.Patch.{Patch}
use Rattle.patch.specs.declared.kinds.Patch.TheVariants.{Triangles, Quads, Isolines}
use Rattle.patch.specs.declared.settings.Settings.{Settings}
use Rattle.patch.specs.Subdivide.{discards}
use Rattle.patch_mesh.specs.Demand.{Surface}
use Rattle.check_verdict.specs.Faults.{Verdict}
use Rattle.check_verdict.specs.declared.fault.Fault.TheVariants as said
use Rattle.check_soundness.specs.Checks.{is_isolines, is_empty}
use Rattle.check_soundness.proofs.Named.{patch_fault, verdict}
use Rattle.check_soundness.specs.Means.{TrianglesAsked, Kept, Empty, Means, CheckedExactly}
use Rattle.check_soundness.specs.Numbers.{verdict_code}
use Rattle.level.proofs.Top.{top_as, is_top_lem, no_top, top_no}
use Rattle.check_soundness.proofs.Sides.{both_which}
use Rattle.check_soundness.proofs.Forward.{mesh_means}
use Rattle.check_soundness.proofs.Numbers.{same_verdict, verdict_told}
use Rattle.check_soundness.proofs.Back.{not_threes, unknown_index, outside, equal_points_lem, turned, side_twice_lem, open_side_lem, missing_piece, accepted}

surface_is : (p : Patch) → is_isolines p ≡ false → Surface p
surface_is (Triangles a b c i) e = tt
surface_is (Quads a b c d i j) e = tt
surface_is (Isolines a b) e = absurd (true≢false e)

is_surface : (p : Patch) → Surface p → is_isolines p ≡ false
is_surface (Triangles a b c i) s = refl
is_surface (Quads a b c d i j) s = refl
is_surface (Isolines a b) s = absurd s

no_surface : (p : Patch) → is_isolines p ≡ true → Surface p → ⊥
no_surface p e s = true≢false (sym e ∙ is_surface p s)

surface_no : (p : Patch) → (Surface p → ⊥) → is_isolines p ≡ true
surface_no (Triangles a b c i) h = absurd (h tt)
surface_no (Quads a b c d i j) h = absurd (h tt)
surface_no (Isolines a b) h = refl

empty_is : (pw iw : List ℕ) → is_empty pw iw ≡ true → Empty pw iw
empty_is pw iw e =
    let w = both_which (eqb (length pw) 0) (eqb (length iw) 0) e in
    (eqb-true (length pw) 0 w.0, eqb-true (length iw) 0 w.1)

is_empty_lem : (pw iw : List ℕ) → Empty pw iw → is_empty pw iw ≡ true
is_empty_lem pw iw h = rw (eq-eqb (length pw) 0 h.0, eq-eqb (length iw) 0 h.1)

not_empty : (pw iw : List ℕ) → (Empty pw iw → ⊥) → is_empty pw iw ≡ false
not_empty pw iw h = go (is_empty pw iw) refl
  where
    go : (b : Bool) → is_empty pw iw ≡ b → b ≡ false
    go true e = absurd (h (empty_is pw iw e))
    go false e = refl

module _ (set : Settings) (p : Patch) (pw iw : List ℕ) where
  -- the answer is right
  pub means : Means set p pw iw (verdict set p pw iw)
  unfolding verdict patch_fault
  means = top (is_top set.top) refl
    where
      discarded : TrianglesAsked set p → discards p ≡ true → (b : Bool) → is_empty pw iw ≡ b → Means set p pw iw (cond b (Ok tt) (Err said.ShouldBeDiscarded))
      discarded a d true e = inl (a, d, empty_is pw iw e)
      discarded a d false e = (a, d, λ h. true≢false (sym (is_empty_lem pw iw h) ∙ e))

      kept : TrianglesAsked set p → (b : Bool) → discards p ≡ b
          → Means set p pw iw (cond b (cond (is_empty pw iw) (Ok tt) (Err said.ShouldBeDiscarded)) (patch_fault set p pw iw))
      kept a true e = discarded a e (is_empty pw iw) refl
      kept a false e = mesh_means set p pw iw (record { asked = a; kept = e })

      dots : Top set.top → Surface p → (b : Bool) → set.point_mode ≡ b
          → Means set p pw iw (cond b (Err said.Dots) (cond (discards p) (cond (is_empty pw iw) (Ok tt) (Err said.ShouldBeDiscarded)) (patch_fault set p pw iw)))
      dots t s true e = (t, s, e)
      dots t s false e = kept (record { top = t; surface = s; filled = e }) (discards p) refl

      lines : Top set.top → (b : Bool) → is_isolines p ≡ b
          → Means set p pw iw (cond b (Err said.Isolines)
          (cond set.point_mode (Err said.Dots) (cond (discards p) (cond (is_empty pw iw) (Ok tt) (Err said.ShouldBeDiscarded)) (patch_fault set p pw iw))))
      lines t true e = (t, no_surface p e)
      lines t false e = dots t (surface_is p e) set.point_mode refl

      top : (b : Bool) → is_top set.top ≡ b
          → Means set p pw iw (cond b (cond (is_isolines p) (Err said.Isolines) (cond set.point_mode (Err said.Dots)
          (cond (discards p) (cond (is_empty pw iw) (Ok tt) (Err said.ShouldBeDiscarded)) (patch_fault set p pw iw)))) (Err said.BadTop))
      top true e = lines (top_as set.top e) (is_isolines p) refl
      top false e = no_top set.top e

  -- triangles can be asked for: the answer by the patch and the mesh
  to_patch : TrianglesAsked set p → verdict set p pw iw ≡ cond (discards p) (cond (is_empty pw iw) (Ok tt) (Err said.ShouldBeDiscarded)) (patch_fault set p pw iw)
  unfolding verdict
  to_patch a = rw (is_top_lem set.top a.top, is_surface p a.surface, a.filled)

  to_mesh : {v : Verdict} → Kept set p → patch_fault set p pw iw ≡ v → verdict set p pw iw ≡ v
  to_mesh k e = to_patch k.asked ∙ rw k.kept e

  empty_accepted : TrianglesAsked set p → discards p ≡ true → Empty pw iw → verdict set p pw iw ≡ (Ok tt)
  empty_accepted a d e = to_patch a ∙ rw (d, is_empty_lem pw iw e)

  -- if an answer is right, it is given
  pub answers : (v : Verdict) → Means set p pw iw v → verdict set p pw iw ≡ v
  unfolding verdict patch_fault
  answers (Err said.BadTop) h = rw (top_no set.top h)
  answers (Err said.Isolines) h = rw (is_top_lem set.top h.0, surface_no p h.1)
  answers (Err said.Dots) h = rw (is_top_lem set.top h.0, is_surface p h.1, h.2)
  answers (Err said.ShouldBeDiscarded) h = to_patch h.0 ∙ rw (h.1, not_empty pw iw h.2)
  answers (Err said.NotThrees) h = to_mesh h.0 (not_threes set p pw iw h.1)
  answers (Err (said.UnknownIndex k)) h = to_mesh h.0.0 (unknown_index set p pw iw k h.0 h.1)
  answers (Err (said.Outside k)) h = to_mesh h.0.0.0 (outside set p pw iw k h.0 h.1)
  answers (Err (said.EqualPoints i j)) h = to_mesh h.0.0.0.0 (equal_points_lem set p pw iw i j h.0 h.1)
  answers (Err (said.Turned k)) h = to_mesh h.0.0.0.0.0 (turned set p pw iw k h.0 h.1)
  answers (Err (said.SideTwice i j)) h = to_mesh h.0.0.0.0.0.0 (side_twice_lem set p pw iw i j h.0 h.1)
  answers (Err (said.OpenSide k e)) h = to_mesh h.0.0.0.0.0.0.0 (open_side_lem set p pw iw k e h.0 h.1 h.2)
  answers (Err (said.MissingPiece k)) h = to_mesh h.0.0.0.0.0.0.0.0 (missing_piece set p pw iw k h.0 h.1)
  answers (Ok x) h = ⊎_elim (λ w. empty_accepted w.0 w.1 w.2) (λ w. to_mesh w.0 (accepted set p pw iw w.0 w.1)) h

  pub exactly : (v : Verdict) → verdict set p pw iw ≡ v ↔ Means set p pw iw v
  exactly v = (λ h. subst (λ (x : Verdict). Means set p pw iw x) h means, answers v)

  -- the whole contract
  pub checked : {r : Verdict} → r ≡ verdict set p pw iw → CheckedExactly set p pw iw r
  checked e = record {
    answer = ap verdict_code e ∙ verdict_told set p pw iw;
    exactly = λ v. (λ h. (exactly v).0 (sym e ∙ same_verdict _ v h), λ m. ap verdict_code (e ∙ answers v m));
  }
