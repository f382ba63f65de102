-- The outer edges of a patch by number. Assumes nothing.
use Rattle.std.specs.Prelude.{ℕ}
use Rattle.level.specs.declared.Spacing.{Spacing}
use Rattle.level.specs.Segments.{segments_of}
use Rattle.patch.specs.declared.kinds.Patch.{Patch}
use Rattle.mesh_geometry.specs.Edge.{Run}
use Rattle.patch_mesh.specs.Points.{run}
use Rattle.patch_mesh.specs.Demand.{outer_level}

-- n and q of outer edge k, from the spacing, that edge's own level and the top level t
abbrev pub outer_edge : Spacing → ℕ → Patch → ℕ → Run
outer_edge s t p k = run (segments_of s t (outer_level p k))
