-- The right answer by its number and values: kinds of fault in a fixed order, and of one kind the first place. Assumes nothing.
use Rattle.std.specs.Prelude.{ℕ, ◌*◌, ◌/◌, ◌%◌, Bool, cond, ◌&&◌, List, [], ◌∷◌, ltb, eqb, length}
use Rattle.level.specs.Top.{is_top}
use Rattle.patch.specs.declared.kinds.Patch.{Patch}
use Rattle.patch.specs.declared.settings.Settings.{Settings}
use Rattle.patch.specs.Subdivide.{discards}
use Rattle.patch.specs.Turn.{turn_asked}
use Rattle.mesh_geometry.specs.Faces.{at}
use Rattle.mesh_geometry.specs.Words.{read_points}
use Rattle.patch_mesh.specs.Demand.{outline_of}
use Rattle.check_searches.specs.Indices.{first_unknown_index}
use Rattle.check_searches.specs.Points.{first_equal, first_repeated}
use Rattle.check_searches.specs.Triangles.{triangle_at, first_sharing, first_reused}
use Rattle.check_faults.specs.JudgedMesh.{JudgedMesh, judged}
use Rattle.check_faults.specs.Inside.{first_outside}
use Rattle.check_faults.specs.Turns.{first_turned}
use Rattle.check_faults.specs.Outline.{first_open, first_missing}
use Rattle.answer_codes.specs.AnswerCode.{AnswerCode, refused, done}
use Rattle.check_soundness.specs.Checks.{is_isolines, is_triangles, is_empty}

-- the fault with its values if x is below n, so that a search among n places found one; otherwise the rest
abbrev pub fault_at : ℕ → ℕ → ℕ → (ℕ → List ℕ) → AnswerCode → AnswerCode
fault_at number n x values rest = cond (ltb x n) (record { number = number; values = values x }) rest

-- the values of a fault at one place
abbrev pub here : ℕ → List ℕ
here x = x ∷ []

-- the answer for the mesh; equal points (26) and a side used twice (28) give the earlier partner first
unfoldable pub fault_verdict : Bool → JudgedMesh → AnswerCode
fault_verdict triangles mesh =
    let ps = mesh.points in
    let ts = mesh.triangles in
    fault_at 25 (length ps) (first_outside triangles ps) here
    (fault_at 26 (length ps) (first_repeated ps) (λ j. first_equal ps (at ps j) j ∷ j ∷ [])
    (fault_at 27 (length ts) (first_turned mesh.positive ps ts) here
    (fault_at 28 (length ts) (first_reused ts) (λ j. first_sharing ts (triangle_at ts j) j ∷ j ∷ [])
    (fault_at 29 (length ts * 3) (first_open mesh) (λ m. m / 3 ∷ m % 3 ∷ [])
    (fault_at 30 (length mesh.outline) (first_missing mesh) here done)))))

-- the mesh that words hold, judged by the orientation and the outline of a patch
abbrev pub judged_for : Settings → Patch → List ℕ → List ℕ → JudgedMesh
judged_for set p pw iw = judged (turn_asked set) (outline_of set p) pw iw

-- the answer for a mesh, given as words, of a patch that is not discarded
unfoldable pub mesh_verdict : Settings → Patch → List ℕ → List ℕ → AnswerCode
mesh_verdict set p pw iw =
    cond (eqb (length pw % 3) 0 && eqb (length iw % 3) 0)
    (fault_at 24 (length iw) (first_unknown_index iw (length (read_points pw))) here
    (fault_verdict (is_triangles p) (judged_for set p pw iw)))
    (refused 23)

-- the answer for a mesh of any patch
unfoldable pub check_verdict : Settings → Patch → List ℕ → List ℕ → AnswerCode
check_verdict set p pw iw =
    cond (is_top set.top)
    (cond (is_isolines p) (refused 20)
    (cond set.point_mode (refused 21)
    (cond (discards p) (cond (is_empty pw iw) done (refused 22)) (mesh_verdict set p pw iw))))
    (refused 11)
