-- The corner opposite each side of a triangle lies in the patch, and on the inner side of that side. Assumes nothing.
use Prim.Native.Nat.{ℕ, ◌<◌}
use mathlib.Core.Bool.{Bool, true, false}
use mathlib.Core.List.{List, [], ◌∷◌}
use native.Mathlib.Omega.{arith}
use lib.ListN.{length}
use Rattle.mesh_geometry.specs.declared.Point.{Point}
use Rattle.mesh_geometry.specs.Cover.{Face, Side, missing, sides, twice_area, HasSign, directed}
use Rattle.mesh_geometry.proofs.Lists.{All, none, more, all_at}
use Rattle.mesh_geometry.proofs.Frame.{Left}
use Rattle.mesh_geometry.specs.Words.{read_triangles}
use Rattle.mesh_geometry.specs.Faces.{faces_in}
use Rattle.mesh_geometry.proofs.Rim.{joining}
use Rattle.mesh_geometry.proofs.Sign.{turned_left}

-- all corners of a triangle have the property Q
pub record Corners (Q : Point → Type 0) (t : Face) : Type 0 where
  pub p : Q t.p
  pub q : Q t.q
  pub r : Q t.r

-- all corners of a mesh have Q, if its points do and its indices are numbers of points
pub faces_corners : (Q : Point → Type 0) {ps : List Point} → All Q ps → (ws : List ℕ) → All (λ w. w < length ps) ws
    → All (Corners Q) (faces_in ps ws)
unfolding read_triangles
faces_corners Q h [] ns = none
faces_corners Q h (a ∷ []) ns = none
faces_corners Q h (a ∷ b ∷ []) ns = none
faces_corners Q h (a ∷ b ∷ c ∷ ws) (more i (more j (more k ns))) =
    more (record { p = all_at missing a i h; q = all_at missing b j h; r = all_at missing c k h }) (faces_corners Q h ws ns)

-- a point with the property Q on the left of the side, in its positive direction
pub record Apex (Q : Point → Type 0) (b : Bool) (e : Side) : Type 0 where
  pub third : Point
  pub has : Q third
  pub left : Left (directed b e).start (directed b e).end third

-- the opposite corner of each side of a triangle with the orientation asked for
module _ (Q : Point → Type 0) where
  opposite : (b : Bool) (t : Face) → Corners Q t → HasSign b (twice_area t)
      → Apex Q b (joining t.p t.q) × Apex Q b (joining t.q t.r) × Apex Q b (joining t.r t.p)
  opposite true t c h =
      let l = turned_left true t h in (
        record { third = t.r; has = c.r; left = omega arith },
        record { third = t.p; has = c.p; left = omega arith },
        record { third = t.q; has = c.q; left = omega arith },
      )
  opposite false t c h =
      let l = turned_left false t h in (
        record { third = t.r; has = c.r; left = omega arith },
        record { third = t.p; has = c.p; left = omega arith },
        record { third = t.q; has = c.q; left = omega arith },
      )

  pub sides_apex : (b : Bool) {ts : List Face} → All (Corners Q) ts → All (λ t. HasSign b (twice_area t)) ts → All (Apex Q b) (sides ts)
  unfolding sides
  sides_apex b none none = none
  sides_apex b (more {x = t} c cs) (more h hs) =
      let w = opposite b t c h in
      more w.0 (more w.1 (more w.2 (sides_apex b cs hs)))
