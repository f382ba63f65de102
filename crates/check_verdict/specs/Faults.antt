-- The first fault of a mesh: kinds of fault in a fixed order, and of one kind the first place. Assumes nothing.
use Rattle.std.specs.Prelude.{ℕ, ◌*◌, ◌/◌, ◌%◌, Bool, cond, ◌&&◌, List, length, ltb, eqb, Result, Ok, Err}
use Rattle.mesh_geometry.specs.Words.{read_points}
use Rattle.mesh_geometry.specs.declared.Point.{Point}
use Rattle.mesh_geometry.specs.Faces.{at}
use Rattle.strip.specs.declared.triangle.Triangle.{Triangle}
use Rattle.check_searches.specs.Indices.{first_unknown_index}
use Rattle.check_searches.specs.Points.{first_equal, first_repeated}
use Rattle.check_searches.specs.Triangles.{triangle_at, first_sharing, first_reused}
use Rattle.check_verdict.specs.declared.fault.Fault.{Fault}
use Rattle.check_verdict.specs.declared.fault.Fault.TheVariants.{NotThrees, UnknownIndex, Outside, EqualPoints, Turned, SideTwice, OpenSide, MissingPiece}
use Rattle.check_faults.specs.JudgedMesh.{JudgedMesh, judged}
use Rattle.check_faults.specs.Inside.{first_outside}
use Rattle.check_faults.specs.Turns.{first_turned}
use Rattle.check_faults.specs.Outline.{first_open, first_missing}

-- the verdict on a mesh: it has no fault, or its first fault
abbrev pub Verdict : Type 0
Verdict = Result (Unit {0}) Fault

-- the fault if x is below n, so that a search among n places found one; otherwise the rest
abbrev pub or_else : ℕ → ℕ → Fault → Verdict → Verdict
or_else x n fault rest = cond (ltb x n) (Err fault) rest

-- an open side: its triangle, and the corner where it starts
abbrev pub open_side : ℕ → Fault
open_side m = OpenSide (m / 3) (m % 3)

-- triangle j, and the first triangle that it has a side in common with
abbrev pub side_twice : List Triangle → ℕ → Fault
side_twice ts j = SideTwice (first_sharing ts (triangle_at ts j) j) j

-- point j, and the first point that it equals
abbrev pub equal_points : List Point → ℕ → Fault
equal_points ps j = EqualPoints (first_equal ps (at ps j) j) j

-- the faults of open sides, then those of the outline
unfoldable pub outline_fault : JudgedMesh → Verdict
outline_fault mesh =
    or_else (first_open mesh) (length mesh.triangles * 3) (open_side (first_open mesh))
    (or_else (first_missing mesh) (length mesh.outline) (MissingPiece (first_missing mesh)) (Ok tt))

-- the faults of triangles, then of repeated sides, then `outline_fault`
unfoldable pub side_fault : JudgedMesh → Verdict
side_fault mesh =
    let ts = mesh.triangles in
    let turned = first_turned mesh.positive mesh.points ts in
    or_else turned (length ts) (Turned turned)
    (or_else (first_reused ts) (length ts) (side_twice ts (first_reused ts)) (outline_fault mesh))

-- the faults of points, then `side_fault`
unfoldable pub point_fault : Bool → JudgedMesh → Verdict
point_fault triangles mesh =
    let ps = mesh.points in
    or_else (first_outside triangles ps) (length ps) (Outside (first_outside triangles ps))
    (or_else (first_repeated ps) (length ps) (equal_points ps (first_repeated ps)) (side_fault mesh))

-- the fault of a mesh given as words
unfoldable pub mesh_fault : Bool → Bool → List Point → List ℕ → List ℕ → Verdict
mesh_fault triangles positive outline pw iw =
    cond (eqb (length pw % 3) 0 && eqb (length iw % 3) 0)
    (or_else (first_unknown_index iw (length (read_points pw))) (length iw) (UnknownIndex (first_unknown_index iw (length (read_points pw))))
    (point_fault triangles (judged positive outline pw iw))) (Err NotThrees)
