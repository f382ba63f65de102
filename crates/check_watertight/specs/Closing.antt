-- How far a mesh is shown to be free of the faults of sides and outline. Assumes nothing.
use Rattle.std.specs.Prelude.{ℕ, ◌*◌, ◌≤◌, ◌<◌, ◌≡◌, true, List, length, get_or}
use Rattle.mesh_geometry.specs.Cover.{piece}
use Rattle.check_side_searches.specs.Skips.{NewTo}
use Rattle.check_faults.specs.JudgedMesh.{JudgedMesh}
use Rattle.check_faults.specs.Outline.{same_ends, side_between, closes, piece_drawn, ClosedTo, DrawnTo}
use Rattle.check_watertight.specs.declared.closing.Reached.{Reached}
use Rattle.half_edge_chains.specs.Sides.{side_start, side_end}

-- piece k of the outline is side m
pub record IsPiece (mesh : JudgedMesh) (m k : ℕ) : Type 0 where
  pub within : k < length mesh.outline
  pub same : same_ends (piece mesh.positive mesh.outline k) (side_between mesh.points (side_start mesh.triangles m) (side_end mesh.triangles m)) ≡ true

-- no mark is set
pub record Blank (marks : List ℕ) : Type 0 where
  pub at : (k : ℕ) → get_or marks k 0 ≡ 0

-- every marked piece is a side
pub record MarksDrawn (mesh : JudgedMesh) (marks : List ℕ) : Type 0 where
  pub drawn : (k : ℕ) → k < length mesh.outline → 0 < get_or marks k 0 → piece_drawn mesh k ≡ true

-- the first n marks are set
pub record AllMarked (marks : List ℕ) (n : ℕ) : Type 0 where
  pub each : (k : ℕ) → k < n → 0 < get_or marks k 0

-- the first n sides in the list `opens` are closed: the reverse is a side, or the side is a piece of the outline
pub record OpensClosed (mesh : JudgedMesh) (opens : List ℕ) (n : ℕ) : Type 0 where
  pub each : (i : ℕ) → i < n → closes mesh (get_or opens i 0) ≡ true

-- up to r no fault of sides or outline occurs: no triangle has a repeated side, every side is closed, every piece is a side
pub record Shown (mesh : JudgedMesh) (r : Reached) : Type 0 where
  pub once_most : r.once ≤ length mesh.triangles
  pub once : NewTo mesh.triangles r.once
  pub joined_most : r.joined ≤ length mesh.triangles * 3
  pub joined : ClosedTo mesh r.joined
  pub drawn_most : r.drawn ≤ length mesh.outline
  pub drawn : DrawnTo mesh r.drawn
