-- Document 01's ten starred cases in one table: seven edges and three patches. Assumes nothing.
use Rattle.std.specs.Prelude.{ℕ, false, List, [], ◌∷◌, map}
use Rattle.level.specs.declared.Spacing.TheVariants.{Equal, FractionalEven, FractionalOdd}
use Rattle.level.specs.declared.Segments.{Segments}
use Rattle.level.specs.Segments.{segments_at, segments_of}
use Rattle.patch.specs.declared.kinds.Patch.{Patch}
use Rattle.patch.specs.declared.kinds.Patch.TheVariants.{Triangles, Quads, Isolines}
use Rattle.patch.specs.declared.settings.Settings.{Settings}
use Rattle.patch.specs.declared.settings.VertexOrder.TheVariants.{CounterClockwise}
use Rattle.patch.specs.declared.settings.DomainOrigin.TheVariants.{LowerLeft}
use Rattle.patch.specs.Subdivide.{subdivision_of}
use Rattle.mesh_geometry.specs.declared.Point.{Point}
use Rattle.mesh_geometry.specs.Edge.{along}
use Rattle.mesh_geometry.specs.Faces.{at}
use Rattle.patch_mesh.specs.Levels.{level1, level2, level3, level4}
use Rattle.patch_mesh.specs.Points.{run, points}
use Rattle.patch_mesh.specs.Primitives.{index_words}

-- the settings of the three patches
abbrev pub usual : Settings
usual = record { spacing = Equal; top = 64; order = CounterClockwise; origin = LowerLeft; point_mode = false }

-- a point and its number
pub record Named : Type 0 where
  pub number : ℕ
  pub point : Point

-- one case: an edge with n and the places q(0) to q(n), or a patch with some of its points and all its indices
pub data Case : Type 0 where
  edge : Segments → ℕ → List ℕ → Case
  patch : Patch → List Named → List ℕ → Case

-- the case with its results replaced by those of the definitions; a case that holds stays the same
abbrev pub worked : Case → Case
worked (edge s n qs) = edge s s.count (along (run s))
worked (patch p named ws) =
    let c = subdivision_of usual p in
    patch p (map (λ m. record { number = m.number; point = at (points c) m.number }) named) (index_words usual c)

-- the table; the last two edges are given by L itself
abbrev pub starred_table : List Case
starred_table =
    edge (segments_of Equal 64 level1) 1 (0 ∷ 65536 ∷ [])
    ∷ edge (segments_of Equal 64 level3) 3 (0 ∷ 21846 ∷ 43690 ∷ 65536 ∷ [])
    ∷ edge (segments_of Equal 64 level4) 4 (0 ∷ 16384 ∷ 32768 ∷ 49152 ∷ 65536 ∷ [])
    ∷ edge (segments_of FractionalOdd 64 level2) 3 (0 ∷ 16384 ∷ 49152 ∷ 65536 ∷ [])
    ∷ edge (segments_of FractionalEven 64 level3) 4 (0 ∷ 10923 ∷ 32768 ∷ 54613 ∷ 65536 ∷ [])
    ∷ edge (segments_at FractionalOdd 65537) 3 (0 ∷ 1 ∷ 65535 ∷ 65536 ∷ [])
    ∷ edge (segments_at FractionalEven 131073) 4 (0 ∷ 1 ∷ 32768 ∷ 65535 ∷ 65536 ∷ [])
    ∷ patch (Triangles level1 level1 level1 level3)
    (record { number = 3; point = record { u = 43692; v = 109224; w = 43692 } } ∷ [])
    (0 ∷ 1 ∷ 3 ∷ 1 ∷ 4 ∷ 3 ∷ 1 ∷ 2 ∷ 4 ∷ 2 ∷ 5 ∷ 4 ∷ 2 ∷ 0 ∷ 5 ∷ 0 ∷ 3 ∷ 5 ∷ 3 ∷ 4 ∷ 5 ∷ [])
    ∷ patch (Quads level1 level1 level1 level1 level1 level3)
    (record { number = 4; point = record { u = 21846; v = 32768; w = 0 } }
    ∷ record { number = 5; point = record { u = 43690; v = 32768; w = 0 } }
    ∷ [])
    (0 ∷ 1 ∷ 4 ∷ 1 ∷ 2 ∷ 4 ∷ 2 ∷ 5 ∷ 4 ∷ 2 ∷ 3 ∷ 5 ∷ 3 ∷ 0 ∷ 5 ∷ 0 ∷ 4 ∷ 5 ∷ [])
    ∷ patch (Isolines level3 level2) [] (0 ∷ 1 ∷ 1 ∷ 2 ∷ 3 ∷ 4 ∷ 4 ∷ 5 ∷ 6 ∷ 7 ∷ 7 ∷ 8 ∷ [])
    ∷ []
