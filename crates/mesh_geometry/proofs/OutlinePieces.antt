-- A piece of an outline goes from a point to the next, and from the last to the first; or back, if the orientation asked for is
-- the negative one. Assumes nothing.
use Prim.Native.Nat.{ℕ, suc, ◌<◌}
use mathlib.Core.Path.{◌≡◌, refl}
use mathlib.Core.Bool.{true, false}
use mathlib.Core.List.{List}
use native.Mathlib.Omega.{arith}
use lib.ListN.{length, get_or-eq_default}
use Rattle.mesh_geometry.specs.declared.Point.{Point}
use Rattle.mesh_geometry.specs.Cover.{missing, reversed, next_point, piece}
use Rattle.mesh_geometry.specs.Faces.{at}
use Rattle.mesh_geometry.proofs.Lists.{get_within}

module _ (ps : List Point) (k : ℕ) where
  pub piece_next : suc k < length ps → piece true ps k ≡ record { start = at ps k; end = at ps (suc k) }
  unfolding next_point
  piece_next h = rw (get_within ps (at ps 0) missing (suc k) h)

  pub piece_last : suc k ≡ length ps → piece true ps k ≡ record { start = at ps k; end = at ps 0 }
  unfolding next_point
  piece_last h = rw (get_or-eq_default ps (at ps 0) {n = suc k} (omega arith))

  pub piece_back : piece false ps k ≡ reversed (piece true ps k)
  piece_back = refl
