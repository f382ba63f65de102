-- The edges of a patch: the places of the points along them, and the points of a ring of edges. Assumes nothing.
use Rattle.std.specs.Prelude.{ℕ, suc, ◌+◌, ◌-◌, ◌*◌, ◌≤◌, ◌<◌, ◌≡◌, List, [], ◌∷◌, ◌++◌}
use Rattle.edge.specs.Table.{table}
use Rattle.mesh_geometry.specs.declared.Point.{Point}
use Rattle.mesh_geometry.specs.Seam.{OuterEdge, places, Mirrors}

-- q 0 to q n are good places on an edge of 65,536 units: they start at 0, end at 65,536, rise, and mirror
pub record GoodPlaces (q : ℕ → ℕ) (n : ℕ) : Type 0 where
  pub first : q 0 ≡ 0
  pub last : q n ≡ 65536
  pub rises : (i : ℕ) → i < n → q i < q (suc i)
  pub mirrors : (i : ℕ) → i ≤ n → q i + q (n - i) ≡ 65536

-- an edge of c segments, with its points at the places q 0 to q c
pub record Run : Type 0 where
  pub q : ℕ → ℕ
  pub c : ℕ

-- an edge with good places
abbrev pub GoodRun : Run → Type 0
GoodRun e = GoodPlaces e.q e.c

-- the edge of one segment
abbrev pub ends : Run
ends = record { q = λ i. i * 65536; c = 1 }

-- the number of segments of all edges together
abbrev pub around : List Run → ℕ
around [] = 0
around (e ∷ es) = e.c + around es

-- the points of a ring d units inside: those of its edges k, k + 1, .., each edge without its end; `place k x d` is the point
-- at place x of edge k, d units inside
unfoldable pub ring : (ℕ → ℕ → ℕ → Point) → ℕ → List Run → ℕ → List Point
ring place k [] d = []
ring place k (e ∷ es) d = table (λ i. place k (e.q i) d) e.c ++ ring place (suc k) es d

-- the places of an edge's points, both ends included, in walk order
abbrev pub along : Run → List ℕ
along e = table e.q (suc e.c)

-- along each outer edge k, k + 1, .. the points ps have the places of the given run, and these mirror
abbrev pub EdgesPlaced : (ℕ → OuterEdge) → List Point → ℕ → List Run → Type 0
EdgesPlaced edge ps k [] = Unit {0}
EdgesPlaced edge ps k (e ∷ es) = (places (edge k) ps ≡ along e) × Mirrors (along e) × EdgesPlaced edge ps (suc k) es
