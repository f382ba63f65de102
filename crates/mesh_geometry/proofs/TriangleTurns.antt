-- Every triangle of a triangle patch has the positive orientation. Assumes nothing.
use Prim.Native.Nat.{ℕ, zero, suc, ◌+◌, ◌-◌, ◌*◌, ◌≤◌, ◌<◌}
use mathlib.Core.Path.{◌≡◌, refl, sym, ap, ◌∙◌}
use mathlib.Core.List.{[], ◌∷◌, append-nil}
use native.Mathlib.Omega.{arith}
use native.Mathlib.Nat.{add-zero, add_assoc, mul-le-mul}
use Rattle.edge.specs.Table.{table}
use Rattle.mesh_topology.specs.Ring.{ring_at}
use Rattle.mesh_topology.specs.Band.{from}
use Rattle.mesh_topology.specs.Nest.{nest, Edges}
use Rattle.mesh_topology.proofs.Ring.{ring_before}
use Rattle.mesh_topology.proofs.Nest.{edges}
use Rattle.mesh_geometry.specs.declared.Point.{Point}
use Rattle.mesh_geometry.specs.Faces.{at}
use Rattle.mesh_geometry.specs.Edge.{Run, ring}
use Rattle.mesh_geometry.specs.TrianglePoints.{triangle_place, centre, alike, rings}
use Rattle.mesh_geometry.proofs.Lists.{All, none, more, all_append}
use Rattle.mesh_geometry.proofs.Edge.{Span}
use Rattle.mesh_geometry.proofs.StripTurns.{Turns, Line, done, along, band_turns}
use Rattle.mesh_geometry.proofs.Ring.{past, ring_length}
use Rattle.mesh_geometry.proofs.Lines.{Lines, ring_lines, first_lines}
use Rattle.mesh_geometry.proofs.Inside.{Inside, inside_spans, inside_in}
use Rattle.mesh_geometry.proofs.TrianglePlace.{Fits, triangle, middle}

-- the centre as the lines of a ring without segments
centre_lines : (P : ℕ → Point) (base : ℕ) (q : ℕ → ℕ) → Inside q 0 → ((k : ℕ) → P (base + k) ≡ at (centre ∷ []) k)
    → Lines triangle P (ring_at base 0) (q 0) 0 0 (alike q 0)
unfolding ring table
centre_lines P base q v is =
    ring_lines triangle P base 0 (q 0) (alike q 0) (centre ∷ []) refl refl (inside_spans v)
    (rw (add-zero base) at (is 0) ∙ middle (q 0) (v.mirrors 0 0 refl)) is

-- the lines of an inner ring
inner_lines : (P : ℕ → Point) (base : ℕ) (q : ℕ → ℕ) (n : ℕ) → Inside q n → ((k : ℕ) → P (base + k) ≡ at (rings (alike q n) (q 0) q n) k)
    → Lines triangle P (ring_at base (3 * n)) (q 0) 0 0 (alike q n)
unfolding rings
inner_lines P base q zero v is = centre_lines P base q v is
inner_lines P base q (suc zero) v is =
    first_lines triangle P base 3 (q 0) _ _ [] refl refl (inside_spans v) (omega arith) (λ k. rw append-nil (is k))
inner_lines P base q (suc (suc r)) v is =
    first_lines triangle P base (3 * suc (suc r)) (q 0) _ _ _ refl (omega arith) (inside_spans v) (omega arith) is

-- the innermost triangle
one_turns : (P : ℕ → Point) (base d : ℕ) → P base ≡ triangle_place 0 d d → P (base + 1) ≡ triangle_place 1 d d
    → P (base + 2) ≡ triangle_place 2 d d
    → d + d < 65536 → Turns P (record { a = base; b = base + 1; c = base + 2 })
one_turns P base d e f g l =
    rw (e, f, g) (big (196608 - 4 * d - 2 * d) (196608 - (3 * d + d)) (3 * d - d) (omega arith) (omega arith) (omega arith))
  where
    big : (m t s : ℕ) → 1 ≤ m → t ≡ 2 * d + m → s ≡ 2 * d → 2 * d * s + t * (2 * d) + s * t < 2 * d * (2 * d) + s * s + t * t
    big m t s h i j = rw (i, j) (omega (arith, mul-le-mul h h))

-- where a line starts
line_start : (P : ℕ → Point) (base m k o i : ℕ) {d : ℕ} (e : Run) → o ≡ i → i < m → Span d e
    → Line Fits (triangle_place k) P (from o (ring_at base m)) e.q e.c d → P (base + i) ≡ triangle_place k d d
line_start P base m k o i e oi h s l =
    let z : o + 0 ≡ i = omega arith in
    ap P (sym (ring_before base m i h)) ∙ rw z at (l.drawn 0 (omega arith)) ∙ rw s.low

line_at : (F : ℕ → ℕ) (o o' : ℕ) {spot : ℕ → ℕ → Point} {P : ℕ → Point} {x : ℕ → ℕ} {n d : ℕ} → o ≡ o'
    → Line Fits spot P (from o F) x n d → Line Fits spot P (from o' F) x n d
line_at F o o' e l = rw e at l

-- if the points from number `base` on are those of the rings, the triangles on them have the positive orientation
pub nest_turns : (P : ℕ → Point) (n base : ℕ) (e0 e1 e2 : Run) (d : ℕ) (q : ℕ → ℕ) → Inside q n → q 0 ≡ d → All (Span d) (e0 ∷ e1 ∷ e2 ∷ [])
    → Edges e0.c e1.c e2.c n → ((k : ℕ) → P (base + k) ≡ at (rings (e0 ∷ e1 ∷ e2 ∷ []) d q n) k)
    → All (Turns P) (nest base e0.c e1.c e2.c n)
unfolding nest rings
nest_turns P zero base e0 e1 e2 d q v t ss h is = none
nest_turns P (suc zero) base e0 e1 e2 d q v t (more s0 (more s1 (more s2 none))) h is =
    let ss : All (Span d) (e0 ∷ e1 ∷ e2 ∷ []) = more s0 (more s1 (more s2 none)) in
    let l = first_lines triangle P base 3 d e0 (e1 ∷ e2 ∷ []) [] refl (omega arith) ss (omega arith) (λ k. rw append-nil (is k)) in
    more (one_turns P base d (rw (add-zero base) at (line_start P base 3 0 0 0 e0 refl (omega arith) s0 l.0))
    (line_start P base 3 1 (0 + e0.c) 1 e1 (omega arith) (omega arith) s1 l.1.0)
    (line_start P base 3 2 (0 + e0.c + e1.c) 2 e2 (omega arith) (omega arith) s2 l.1.1.0)
    (omega (arith, v.rises 0 (omega arith), v.mirrors 0 1 (omega arith)))) none
nest_turns P (suc (suc r)) base e0 e1 e2 d q v t ss h is =
    let m = e0.c + e1.c + e2.c in
    let w = inside_in v in
    let deeper : d < q 1 = omega (arith, v.rises 0 (omega arith)) in
    let F = first_lines triangle P base m d e0 (e1 ∷ e2 ∷ []) _ refl (omega arith) ss h.0 is in
    let R = ring_at (base + m) (3 * r) in
    let G = inner_lines P (base + m) (λ i. q (suc i)) r w on in
    all_append _
    (band_turns triangle.frame P (ring_at base m) 0
    (along deeper F.0 (line_at R 0 (0 * r) (omega arith) G.0)
    (along deeper F.1.0 (line_at R (0 + r) (1 * r) (omega arith) G.1.0)
    (along deeper F.1.1.0 (line_at R (0 + r + r) (2 * r) (omega arith) G.1.1.0) done))))
    (nest_turns P r (base + m) _ _ _ (q 1) (λ i. q (suc i)) w refl (inside_spans w) (edges r) on)
  where
    on : (k : ℕ) → P (base + (e0.c + e1.c + e2.c) + k) ≡ at (rings (alike (λ i. q (suc i)) r) (q 1) (λ i. q (suc i)) r) k
    on k = rw (add_assoc base (e0.c + e1.c + e2.c) k)
        (is (e0.c + e1.c + e2.c + k)
        ∙ past (ring triangle_place 0 (e0 ∷ e1 ∷ e2 ∷ []) d) _ _ k (omega (arith, ring_length triangle_place 0 (e0 ∷ e1 ∷ e2 ∷ []) d)))
