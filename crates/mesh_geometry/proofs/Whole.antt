-- That the areas of a mesh add up follows from four other fields of `Cover`, all on sides. Assumes nothing.
use Prim.Native.Nat.{ℕ, ◌<◌}
use mathlib.Core.Path.{◌≡◌}
use mathlib.Core.Bool.{Bool}
use mathlib.Core.Logic.{◌⊎◌}
use mathlib.Core.List.{List}
use lib.ListN.{length}
use Rattle.mesh_geometry.specs.declared.Point.{Point}
use Rattle.mesh_geometry.specs.Cover.{Face, reversed, sides, side, piece, Occurs, total_twice_area, signed}
use Rattle.mesh_geometry.specs.Edge.{Run, GoodRun, ring}
use Rattle.mesh_geometry.specs.Domain.{Domain, edge_count, place_on}
use Rattle.mesh_geometry.proofs.Lists.{All}
use Rattle.mesh_geometry.proofs.Stokes.{sides_closed}
use Rattle.mesh_geometry.proofs.Areas.{area_of, whole_area}
use Rattle.mesh_geometry.proofs.Winds.{outline_distinct}

module _ (k : Domain) (es : List Run) (n : length es ≡ edge_count k) (good : All GoodRun es) where
  abbrev outline : List Point
  outline = ring (place_on k) 0 es 0

  -- `single`, `outlined`, `outside` and `closed` give `whole`
  pub whole_follows : (b : Bool) (faces : List Face)
      → ((i j : ℕ) → i < length (sides faces) → j < length (sides faces) → side (sides faces) i ≡ side (sides faces) j → i ≡ j)
      → ((k : ℕ) → k < length outline → Occurs (piece b outline k) (sides faces))
      → ((k : ℕ) → k < length outline → Occurs (reversed (piece b outline k)) (sides faces) → ⊥)
      → ((i : ℕ) → i < length (sides faces)
      → ((k : ℕ) × (k < length outline) × (side (sides faces) i ≡ piece b outline k)) ⊎ Occurs (reversed (side (sides faces) i)) (sides faces))
      → total_twice_area faces ≡ signed b (area_of k)
  whole_follows b faces single outlined outside closed =
      whole_area es good k n b faces (sides_closed b outline faces single outlined outside closed (outline_distinct es k n good))
