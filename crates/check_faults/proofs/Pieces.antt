-- The points of a closed outline in order. Assumes nothing.
use Prim.Native.Nat.{ℕ, suc, ◌+◌, ◌≤◌, ◌<◌}
use mathlib.Core.Path.{◌≡◌, sym}
use mathlib.Core.List.{List}
use native.Mathlib.Numerals.{add-one}
use native.Mathlib.Omega.{arith}
use lib.ListN.{length, get_or-eq_default}
use Rattle.mesh_geometry.specs.declared.Point.{Point}
use Rattle.mesh_geometry.specs.Cover.{missing, next_point}
use Rattle.mesh_geometry.specs.Faces.{at}
use Rattle.mesh_geometry.proofs.Lists.{get_within}

pub next_inside : (ps : List Point) (k : ℕ) → k + 1 < length ps → at ps (k + 1) ≡ next_point ps k
unfolding next_point
next_inside ps k l = rw (add-one k) (get_within ps missing (at ps 0) (suc k) (omega arith))

pub next_wraps : (ps : List Point) (k : ℕ) → length ps ≤ k + 1 → at ps 0 ≡ next_point ps k
unfolding next_point
next_wraps ps k l = sym (get_or-eq_default ps (at ps 0) (omega arith))
