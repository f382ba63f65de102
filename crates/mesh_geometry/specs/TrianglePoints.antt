-- The points of a triangle patch; coordinates add up to S = 196,608. Assumes nothing.
use Rattle.std.specs.Prelude.{ℕ, zero, suc, ◌+◌, ◌-◌, ◌*◌, List, [], ◌∷◌, ◌++◌}
use Rattle.mesh_geometry.specs.declared.Point.{Point}
use Rattle.mesh_geometry.specs.Edge.{Run, ring}

-- the point at place x of edge k on the ring d units inside: start coordinate S − 3x − d, end coordinate 3x − d, opposite
-- coordinate 2d. Ring j is q(j) units inside; edge 0 goes from V to W, 1 from W to U, 2 from U to V, and edge 3 is edge 0 again
abbrev pub triangle_place : ℕ → ℕ → ℕ → Point
triangle_place zero x d = record { u = 2 * d; v = 196608 - (3 * x + d); w = 3 * x - d }
triangle_place (suc zero) x d = record { u = 3 * x - d; v = 2 * d; w = 196608 - (3 * x + d) }
triangle_place (suc (suc zero)) x d = record { u = 196608 - (3 * x + d); v = 3 * x - d; w = 2 * d }
triangle_place (suc (suc (suc k))) x d = triangle_place k x d

-- the centre: a point if the inner level's n is even
abbrev pub centre : Point
centre = record { u = 65536; v = 65536; w = 65536 }

-- the three edges of an inner ring, each with r segments and the places q
abbrev pub alike : (ℕ → ℕ) → ℕ → List Run
alike q r = let e : Run = record { q = q; c = r } in e ∷ e ∷ e ∷ []

-- the points of the ring of the edges es, d units inside, and of all rings within it, where the inner level gives n segments
-- with the places q; the next ring has two segments fewer per edge, and its first place is q 1
unfoldable pub rings : List Run → ℕ → (ℕ → ℕ) → ℕ → List Point
rings es d q zero = centre ∷ []
rings es d q (suc zero) = ring triangle_place 0 es d
rings es d q (suc (suc r)) = ring triangle_place 0 es d ++ rings (alike (λ i. q (suc i)) r) (q 1) (λ i. q (suc i)) r

-- the points of a patch with the outer edges e0, e1 and e2, where `inside` is the edge that the inner level gives
abbrev pub triangle_patch : Run → Run → Run → Run → List Point
triangle_patch e0 e1 e2 inside = rings (e0 ∷ e1 ∷ e2 ∷ []) 0 inside.q inside.c

-- twice the area of a triangle patch
abbrev pub triangle_area : ℕ
triangle_area = 196608 * 196608

-- the points of the plain patch: the corners V, W and U
abbrev pub triangle_corners : List Point
triangle_corners =
    record { u = 0; v = 196608; w = 0 } ∷ record { u = 0; v = 0; w = 196608 } ∷ record { u = 196608; v = 0; w = 0 } ∷ []
