-- The number of words of points. Assumes nothing.
use Prim.Native.Nat.{◌*◌}
use mathlib.Core.Path.{◌≡◌, refl}
use mathlib.Core.List.{List, [], ◌∷◌}
use native.Mathlib.Omega.{arith}
use lib.ListN.{length}
use Rattle.mesh_geometry.specs.declared.Point.{Point}
use Rattle.mesh_geometry.specs.Words.{vertex_words}

pub words_length : (ps : List Point) → length (vertex_words ps) ≡ 3 * length ps
unfolding vertex_words
words_length [] = refl
words_length (p ∷ ps) = omega (arith, words_length ps)
