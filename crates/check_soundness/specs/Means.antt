-- When each answer is right. Assumes nothing.
use Rattle.std.specs.Prelude.{ℕ, ◌+◌, ◌*◌, ◌%◌, ◌<◌, ◌≡◌, true, false, Ok, Err, ◌⊎◌, ◌↔◌, List, length, get_or}
use Rattle.level.specs.Top.{Top}
use Rattle.patch.specs.declared.kinds.Patch.{Patch}
use Rattle.patch.specs.declared.settings.Settings.{Settings}
use Rattle.patch.specs.Subdivide.{discards}
use Rattle.patch.specs.Turn.{turn_asked}
use Rattle.mesh_geometry.specs.declared.Point.{Point}
use Rattle.mesh_geometry.specs.Cover.{missing, reversed, side, twice_area, HasSign, piece, Occurs}
use Rattle.mesh_geometry.specs.Words.{read_points, read_triangles}
use Rattle.patch_mesh.specs.Demand.{Surface, outline_of}
use Rattle.mesh_geometry.specs.Faces.{faces_in}
use Rattle.mesh_geometry.specs.Held.{face}
use Rattle.patch_mesh.specs.InPatch.{InPatch, domain_of}
use Rattle.check_soundness.specs.Sound.{sides_in, SoundWords}
use Rattle.check_verdict.specs.Faults.{Verdict}
use Rattle.check_verdict.specs.declared.fault.Fault.TheVariants as said
use Rattle.check_soundness.specs.Answers.{check_verdict}
use Rattle.check_soundness.specs.Firsts.{Every, FirstNot, NoPair, FirstPair}
use Rattle.check_soundness.specs.Numbers.{verdict_code}

-- triangles can be asked for: a good top level, a triangle or quad patch, and no point mode
pub record TrianglesAsked (set : Settings) (p : Patch) : Type 0 where
  pub top : Top set.top
  pub surface : Surface p
  pub filled : set.point_mode ≡ false

-- the same, and the patch is not discarded
pub record Kept (set : Settings) (p : Patch) : Type 0 where
  pub asked : TrianglesAsked set p
  pub kept : discards p ≡ false

-- both lists are empty
abbrev pub Empty : List ℕ → List ℕ → Type 0
Empty pw iw = (length pw ≡ 0) × (length iw ≡ 0)

-- the numbers of point words and of indices are multiples of three
abbrev pub Threes : List ℕ → List ℕ → Type 0
Threes pw iw = (length pw % 3 ≡ 0) × (length iw % 3 ≡ 0)

-- index k is the number of a point
abbrev pub NumberedAt : List Point → List ℕ → ℕ → Type 0
NumberedAt ps iw k = get_or iw k 0 < length ps

-- point k lies in the patch
abbrev pub InsideAt : Patch → List Point → ℕ → Type 0
InsideAt p ps k = InPatch (domain_of p) (get_or ps k missing)

-- points i and j are equal
abbrev pub EqualAt : List Point → ℕ → ℕ → Type 0
EqualAt ps i j = get_or ps i missing ≡ get_or ps j missing

-- triangle k has an area, and the orientation asked for
abbrev pub TurnsAt : Settings → List Point → List ℕ → ℕ → Type 0
TurnsAt set ps iw k = HasSign (turn_asked set) (twice_area (face (faces_in ps iw) k))

-- triangles i and j have a directed side in common
pub record SharedAt (ps : List Point) (iw : List ℕ) (i j : ℕ) : Type 0 where
  pub d : ℕ
  pub e : ℕ
  pub d_few : d < 3
  pub e_few : e < 3
  pub same : side (sides_in ps iw) (i * 3 + d) ≡ side (sides_in ps iw) (j * 3 + e)

-- side m is a piece of the outline or has its reverse among the sides; each triangle has three sides
abbrev pub ClosedAt : Settings → Patch → List Point → List ℕ → ℕ → Type 0
ClosedAt set p ps iw m =
    ((k : ℕ) × (k < length (outline_of set p))
    × (side (sides_in ps iw) m ≡ piece (turn_asked set) (outline_of set p) k))
    ⊎ Occurs (reversed (side (sides_in ps iw) m)) (sides_in ps iw)

-- piece k of the outline is a side
abbrev pub DrawnAt : Settings → Patch → List Point → List ℕ → ℕ → Type 0
DrawnAt set p ps iw k = Occurs (piece (turn_asked set) (outline_of set p) k) (sides_in ps iw)

-- what holds before faults of each kind are searched for
abbrev pub PassedThrees : Settings → Patch → List ℕ → List ℕ → Type 0
PassedThrees set p pw iw = Kept set p × Threes pw iw

abbrev pub PassedNumbered : Settings → Patch → List ℕ → List ℕ → Type 0
PassedNumbered set p pw iw = PassedThrees set p pw iw × Every (NumberedAt (read_points pw) iw) (length iw)

abbrev pub PassedInside : Settings → Patch → List ℕ → List ℕ → Type 0
PassedInside set p pw iw = PassedNumbered set p pw iw × Every (InsideAt p (read_points pw)) (length (read_points pw))

abbrev pub PassedDistinct : Settings → Patch → List ℕ → List ℕ → Type 0
PassedDistinct set p pw iw = PassedInside set p pw iw × NoPair (EqualAt (read_points pw)) (length (read_points pw))

abbrev pub PassedTurned : Settings → Patch → List ℕ → List ℕ → Type 0
PassedTurned set p pw iw = PassedDistinct set p pw iw × Every (TurnsAt set (read_points pw) iw) (length (read_triangles iw))

abbrev pub PassedSingle : Settings → Patch → List ℕ → List ℕ → Type 0
PassedSingle set p pw iw = PassedTurned set p pw iw × NoPair (SharedAt (read_points pw) iw) (length (read_triangles iw))

abbrev pub PassedClosed : Settings → Patch → List ℕ → List ℕ → Type 0
PassedClosed set p pw iw = PassedSingle set p pw iw × Every (ClosedAt set p (read_points pw) iw) (length (read_triangles iw) * 3)

-- the mesh is accepted: two empty lists for a discarded patch, or a mesh that passes every test for any other patch
abbrev pub Accepts : Settings → Patch → List ℕ → List ℕ → Type 0
Accepts set p pw iw = (TrianglesAsked set p × (discards p ≡ true) × Empty pw iw) ⊎ (Kept set p × SoundWords set p pw iw)

-- the answer is right: its fault occurs first at this place, and no fault of an earlier kind occurs
abbrev pub Means : Settings → Patch → List ℕ → List ℕ → Verdict → Type 0
Means set p pw iw (Err said.BadTop) = Top set.top → ⊥
Means set p pw iw (Err said.Isolines) = Top set.top × (Surface p → ⊥)
Means set p pw iw (Err said.Dots) = Top set.top × Surface p × (set.point_mode ≡ true)
Means set p pw iw (Err said.ShouldBeDiscarded) = TrianglesAsked set p × (discards p ≡ true) × (Empty pw iw → ⊥)
Means set p pw iw (Err said.NotThrees) = Kept set p × (Threes pw iw → ⊥)
Means set p pw iw (Err (said.UnknownIndex k)) = PassedThrees set p pw iw × FirstNot (NumberedAt (read_points pw) iw) (length iw) k
Means set p pw iw (Err (said.Outside k)) = PassedNumbered set p pw iw × FirstNot (InsideAt p (read_points pw)) (length (read_points pw)) k
Means set p pw iw (Err (said.EqualPoints i j)) = PassedInside set p pw iw × FirstPair (EqualAt (read_points pw)) (length (read_points pw)) i j
Means set p pw iw (Err (said.Turned k)) = PassedDistinct set p pw iw × FirstNot (TurnsAt set (read_points pw) iw) (length (read_triangles iw)) k
Means set p pw iw (Err (said.SideTwice i j)) = PassedTurned set p pw iw × FirstPair (SharedAt (read_points pw) iw) (length (read_triangles iw)) i j
Means set p pw iw (Err (said.OpenSide k e)) = PassedSingle set p pw iw × (e < 3) × FirstNot (ClosedAt set p (read_points pw) iw) (length (read_triangles iw) * 3) (k * 3 + e)
Means set p pw iw (Err (said.MissingPiece k)) = PassedClosed set p pw iw × FirstNot (DrawnAt set p (read_points pw) iw) (length (outline_of set p)) k
Means set p pw iw (Ok x) = Accepts set p pw iw

-- the contract of the check: the number and values of the answer, and that they are those of a verdict exactly if that verdict is right
pub record CheckedExactly (set : Settings) (p : Patch) (pw iw : List ℕ) (r : Verdict) : Type 0 where
  pub answer : verdict_code r ≡ check_verdict set p pw iw
  pub exactly : (v : Verdict) → verdict_code r ≡ verdict_code v ↔ Means set p pw iw v
