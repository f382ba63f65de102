-- A verdict is determined by its number and values, and the verdict of the searches has the right ones. Assumes nothing.
use Rattle.check_verdict.specs.declared.fault.Fault.{Fault}
use Rattle.std.specs.Prelude.{Ok, Err}
use Prim.Native.Nat.{ℕ, ◌*◌, ◌%◌}
use mathlib.Core.Path.{◌≡◌, refl, sym, ap, ◌∙◌}
use mathlib.Core.Bool.{Bool, true, false, cond, ◌&&◌}
use mathlib.Core.List.{List}
use lib.Dec.{ltb, eqb}
use lib.ListN.{length, get_or}
use Rattle.level.specs.Top.{is_top}
use Rattle.patch.specs.declared.kinds.Patch.{Patch}
use Rattle.patch.specs.declared.settings.Settings.{Settings}
use Rattle.patch.specs.Subdivide.{discards}
use Rattle.mesh_geometry.specs.Words.{read_points}
use Rattle.check_searches.specs.Indices.{first_unknown_index}
use Rattle.check_searches.specs.Points.{first_repeated}
use Rattle.check_searches.specs.Triangles.{first_reused}
use Rattle.check_faults.specs.JudgedMesh.{JudgedMesh}
use Rattle.check_faults.specs.Inside.{first_outside}
use Rattle.check_faults.specs.Turns.{first_turned}
use Rattle.check_faults.specs.Outline.{first_open, first_missing}
use Rattle.answer_codes.specs.AnswerCode.{AnswerCode, refused, done}
use Rattle.check_verdict.specs.Faults.{Verdict}
use Rattle.check_verdict.specs.declared.fault.Fault.TheVariants.{
  BadTop,
  Isolines,
  Dots,
  ShouldBeDiscarded,
  NotThrees,
  UnknownIndex,
  Outside,
  EqualPoints,
  Turned,
  SideTwice,
  OpenSide,
  MissingPiece,
}
use Rattle.check_verdict.specs.Faults.{open_side, side_twice, equal_points, outline_fault, side_fault, point_fault, mesh_fault}
use Rattle.check_soundness.specs.Checks.{is_isolines, is_empty}
use Rattle.check_soundness.proofs.Named.{patch_fault, verdict}
use Rattle.check_soundness.specs.Answers.{fault_verdict, mesh_verdict, check_verdict}
use Rattle.check_soundness.specs.Numbers.{verdict_code}

-- ---- different verdicts have different numbers or values
abbrev pub verdict_in : ℕ → List ℕ → Verdict
verdict_in n vs =
    cond (eqb n 0) (Ok tt)
    (cond (eqb n 11) (Err BadTop)
    (cond (eqb n 20) (Err Isolines)
    (cond (eqb n 21) (Err Dots)
    (cond (eqb n 22) (Err ShouldBeDiscarded)
    (cond (eqb n 23) (Err NotThrees)
    (cond (eqb n 24) (Err (UnknownIndex (get_or vs 0 0)))
    (cond (eqb n 25) (Err (Outside (get_or vs 0 0)))
    (cond (eqb n 26) (Err (EqualPoints (get_or vs 0 0) (get_or vs 1 0)))
    (cond (eqb n 27) (Err (Turned (get_or vs 0 0)))
    (cond (eqb n 28) (Err (SideTwice (get_or vs 0 0) (get_or vs 1 0)))
    (cond (eqb n 29) (Err (OpenSide (get_or vs 0 0) (get_or vs 1 0))) (Err (MissingPiece (get_or vs 0 0))))))))))))))

pub verdict_back : (v : Verdict) → verdict_in (verdict_code v).number (verdict_code v).values ≡ v
verdict_back (Ok x) = refl
verdict_back (Err BadTop) = refl
verdict_back (Err Isolines) = refl
verdict_back (Err Dots) = refl
verdict_back (Err ShouldBeDiscarded) = refl
verdict_back (Err NotThrees) = refl
verdict_back (Err (UnknownIndex place)) = refl
verdict_back (Err (Outside point)) = refl
verdict_back (Err (EqualPoints first second)) = refl
verdict_back (Err (Turned triangle)) = refl
verdict_back (Err (SideTwice first second)) = refl
verdict_back (Err (OpenSide triangle corner)) = refl
verdict_back (Err (MissingPiece piece)) = refl

pub same_verdict : (v w : Verdict) → verdict_code v ≡ verdict_code w → v ≡ w
same_verdict v w e = sym (verdict_back v) ∙ ap (λ (t : AnswerCode). verdict_in t.number t.values) e ∙ verdict_back w

-- ---- the number and values of a verdict that is found in steps
record Has (v : Verdict) (t : AnswerCode) : Type 0 where
  told : verdict_code v ≡ t

-- the fault of a search that found x among n places, or the rest; and the rest unless a test fails
found : (n x : ℕ) (fault : ℕ → Fault) {rest : Verdict} {t : AnswerCode} → Has rest t → Has (cond (ltb x n) (Err (fault x)) rest) (cond (ltb x n) (verdict_code (Err (fault x))) t)
found n x fault {rest} {t} h = go (ltb x n)
  where
    go : (b : Bool) → Has (cond b (Err (fault x)) rest) (cond b (verdict_code (Err (fault x))) t)
    go true = record { told = refl }
    go false = h

unless : (b : Bool) (v : Verdict) {rest : Verdict} {t : AnswerCode} → Has rest t → Has (cond b rest v) (cond b t (verdict_code v))
unless true v h = h
unless false v h = record { told = refl }

fault_has : (triangles : Bool) (mesh : JudgedMesh) → Has (point_fault triangles mesh) (fault_verdict triangles mesh)
unfolding point_fault side_fault outline_fault fault_verdict
fault_has triangles mesh =
    let ps = mesh.points in
    let ts = mesh.triangles in
    found (length ps) (first_outside triangles ps) Outside
    (found (length ps) (first_repeated ps) (equal_points ps)
    (found (length ts) (first_turned mesh.positive ps ts) Turned
    (found (length ts) (first_reused ts) (side_twice ts)
    (found (length ts * 3) (first_open mesh) open_side (found (length mesh.outline) (first_missing mesh) MissingPiece (record { told = refl }))))))

module _ (set : Settings) (p : Patch) (pw iw : List ℕ) where
  mesh_has : Has (patch_fault set p pw iw) (mesh_verdict set p pw iw)
  unfolding patch_fault mesh_fault mesh_verdict
  mesh_has =
      unless (eqb (length pw % 3) 0 && eqb (length iw % 3) 0) (Err NotThrees)
      (found (length iw) (first_unknown_index iw (length (read_points pw))) UnknownIndex (fault_has _ _))

  verdict_has : Has (verdict set p pw iw) (check_verdict set p pw iw)
  unfolding verdict check_verdict
  verdict_has = go (is_top set.top) (is_isolines p) set.point_mode (discards p) (is_empty pw iw)
    where
      go : (t i m d e : Bool) → Has (cond t (cond i (Err Isolines) (cond m (Err Dots) (cond d (cond e (Ok tt) (Err ShouldBeDiscarded)) (patch_fault set p pw iw)))) (Err BadTop))
          (cond t (cond i (refused 20) (cond m (refused 21) (cond d (cond e done (refused 22)) (mesh_verdict set p pw iw)))) (refused 11))
      go false i m d e = record { told = refl }
      go true true m d e = record { told = refl }
      go true false true d e = record { told = refl }
      go true false false true true = record { told = refl }
      go true false false true false = record { told = refl }
      go true false false false e = mesh_has

  pub verdict_told : verdict_code (verdict set p pw iw) ≡ check_verdict set p pw iw
  verdict_told = verdict_has.told

  pub is_verdict : {r : Verdict} → verdict_code r ≡ check_verdict set p pw iw → r ≡ verdict set p pw iw
  is_verdict {r} e = same_verdict r _ (e ∙ sym verdict_told)
