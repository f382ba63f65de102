-- Lines of vertices along an edge of a ring. Assumes nothing.
use Prim.Native.Nat.{ℕ, ◌+◌, ◌≤◌, ◌<◌}
use mathlib.Core.Path.{◌≡◌, sym, ap, ◌∙◌, subst}
use mathlib.Core.Logic.{⊎_elim}
use native.Mathlib.Omega.{arith}
use Rattle.strip.specs.declared.line.Line.{Line}
use Rattle.strip.specs.Lines.{vertex_along, Follows}
use Rattle.strip.proofs.Lines.{along_line}
use Rattle.mesh_topology.specs.Ring.{ring_at}
use Rattle.mesh_topology.specs.Band.{from}
use Rattle.mesh_topology.proofs.Ring.{ring_point, ring_last}
use Rattle.strip_blocks.specs.Blocks.{line_of}

-- a line along a ring has consecutive vertices, and ends at the ring's vertex there
pub follows_ring : (base total o n last : ℕ) → o + n ≤ total → base + total < 65536 → last ≡ ring_at base total (o + n)
    → (i : ℕ) → i ≤ n → vertex_along (base + o) 1 n last i ≡ from o (ring_at base total) i
follows_ring base total o n last fits small =
    along_line (base + o) 1 n last (from o (ring_at base total))
    (λ i h. ⊎_elim (λ w. absurd (omega arith)) (λ w. omega arith) (ring_point base total (o + i)))

-- the same line, with its start written differently
pub follows_from : {l : Line} (F : ℕ → ℕ) (a b n : ℕ) → a ≡ b → Follows l (from a F) n → Follows l (from b F) n
follows_from {l} F a b n e h = subst (λ (k : ℕ). Follows l (from k F) n) e h

-- a line from x on that ends at the ring's first vertex
pub line_closed : (base total o n x last : ℕ) → x ≡ base + o → o + n ≡ total → base + total < 65536 → last ≡ base
    → (i : ℕ) → i ≤ n → line_of x n last i ≡ from o (ring_at base total) i
line_closed base total o n x last e fits small h =
    rw e (follows_ring base total o n last (omega arith) small (h ∙ sym (ring_last base total) ∙ ap (ring_at base total) (sym fits)))
