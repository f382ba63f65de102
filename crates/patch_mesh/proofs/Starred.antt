-- Document 01's ten starred cases hold, by computation from the definitions. Assumes nothing.
use mathlib.Core.Path.{◌≡◌, refl}
use mathlib.Core.List.{map}
use lib.Ieee.{is_nan, le, of_int}
use Rattle.buffer.specs.Over.{flat}
use Rattle.level.specs.Scale.{scaled_level}
use Rattle.level.specs.Segments.{segments_of, as_inner}
use Rattle.edge.specs.Positions.{position}
use Rattle.edge.specs.Table.{table}
use Rattle.strip.specs.Triangles.{indices}
use Rattle.strip.specs.Rule.{outer_next}
use Rattle.strip.specs.Strips.{strip_from}
use Rattle.mesh_topology.specs.Ring.{ring_at}
use Rattle.mesh_topology.specs.Band.{band_from}
use Rattle.mesh_topology.specs.Nest.{nest}
use Rattle.mesh_topology.specs.Quad.{grid_at, joined_lists, quad}
use Rattle.mesh_topology.specs.Lines.{isolines}
use Rattle.patch.specs.Every.{some, every}
use Rattle.patch.specs.Subdivide.{subdivision}
use Rattle.mesh_geometry.specs.Edge.{ring}
use Rattle.mesh_geometry.specs.TrianglePoints.{rings}
use Rattle.mesh_geometry.specs.QuadPoints.{grid}
use Rattle.patch_mesh.specs.Points.{points}
use Rattle.patch_mesh.specs.Primitives.{triangles, index_words}
use Rattle.patch_mesh.specs.Starred.{worked, starred_table}

pub starred : map worked starred_table ≡ starred_table
unfolding is_nan le of_int scaled_level segments_of as_inner position table outer_next strip_from indices ring_at band_from nest grid_at joined_lists quad
    flat isolines some every subdivision ring rings grid points triangles index_words
starred = refl
