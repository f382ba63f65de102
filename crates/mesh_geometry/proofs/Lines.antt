-- The points of a ring by number: one line per edge, its end included. Assumes nothing.
use Prim.Native.Nat.{ℕ, suc, ◌+◌, ◌≤◌, ◌<◌}
use mathlib.Core.Path.{◌≡◌, ap, sym, ◌∙◌}
use mathlib.Core.List.{List, [], ◌∷◌, ◌++◌}
use native.Mathlib.Omega.{arith}
use native.Mathlib.Decide.{dec_le}
use native.Mathlib.Nat.{add-zero, zero-add, add_assoc}
use lib.ListN.{length, get_or-append}
use Rattle.edge.specs.Table.{table}
use Rattle.edge.proofs.Table.{length_table}
use Rattle.mesh_topology.specs.Ring.{ring_at}
use Rattle.mesh_topology.specs.Band.{from}
use Rattle.mesh_topology.proofs.Ring.{ring_last, ring_before}
use Rattle.mesh_geometry.specs.declared.Point.{Point}
use Rattle.mesh_geometry.specs.Cover.{missing}
use Rattle.mesh_geometry.specs.Faces.{at}
use Rattle.mesh_geometry.specs.Edge.{Run, around, ring}
use Rattle.mesh_geometry.proofs.Lists.{All, none, more}
use Rattle.mesh_geometry.proofs.Edge.{Span, span_from, span_to}
use Rattle.mesh_geometry.proofs.StripTurns.{Line}
use Rattle.mesh_geometry.proofs.Shape.{Shape}
use Rattle.mesh_geometry.proofs.Ring.{table_at, past, ring_length}

module _ {sides : ℕ} {Fits : ℕ → ℕ → Type 0} {place : ℕ → ℕ → ℕ → Point} {depth : Point → ℕ} {gain : ℕ → ℕ}
    (shape : Shape sides Fits place depth gain) where
  -- the vertices of F from number o on are lines along the edges k, k + 1, .., d units inside
  abbrev pub Lines : (ℕ → Point) → (ℕ → ℕ) → ℕ → ℕ → ℕ → List Run → Type 0
  Lines P F d k o [] = Unit {0}
  Lines P F d k o (e ∷ es) = Line Fits (place k) P (from o F) e.q e.c d × Lines P F d (suc k) (o + e.c) es

  -- the vertices from number o on are those of a ring, and vertex m is the first again
  module _ (P : ℕ → Point) (F : ℕ → ℕ) (d m : ℕ) (close : P (F m) ≡ place 0 d d) where
    abbrev Drawn : ℕ → ℕ → List Run → Type 0
    Drawn k o es = (i : ℕ) → i < around es → P (F (o + i)) ≡ at (ring place k es d) i

    own : (k o : ℕ) (e : Run) (es : List Run) → Drawn k o (e ∷ es) → (i : ℕ) → i < e.c → P (F (o + i)) ≡ place k (e.q i) d
    unfolding ring
    own k o e es is i h = is i (omega arith) ∙ table_at _ e.c _ i h

    rest : (k o : ℕ) (e : Run) (es : List Run) → Drawn k o (e ∷ es) → Drawn (suc k) (o + e.c) es
    unfolding ring
    rest k o e es is i h = rw (add_assoc o e.c i) (is (e.c + i) (omega arith) ∙ past (table _ e.c) _ e.c i (length_table _ e.c))

    -- the start of an edge, also if edges have no segments
    begin : (k o : ℕ) (es : List Run) → k + length es ≡ sides → o + around es ≡ m → All (Span d) es → Drawn k o es → P (F o) ≡ place k d d
    begin k o [] en em none is =
        let a : o ≡ m = omega arith in
        let b : k ≡ sides = omega arith in
        rw (a, b) (close ∙ sym (shape.round d))
    begin k o (e ∷ es) en em (more s ss) is = elim (dec_le 1 e.c) [
      | yes h ↦ rw (add-zero o) at (own k o e es is 0 h) ∙ rw s.low
      | no h ↦
          let z : e.c ≡ 0 = omega arith in
          let a : o + e.c ≡ o = omega arith in
          let t : d + d ≡ 65536 = omega (arith, s.low, rw z at s.high) in
          rw a at (begin (suc k) (o + e.c) es (omega arith) (omega arith) ss (rest k o e es is)) ∙ sym (shape.next k d d t)
    ]

    lines : (k o : ℕ) (es : List Run) → k + length es ≡ sides → o + around es ≡ m → All (Span d) es → Drawn k o es → Lines P F d k o es
    lines k o [] en em none is = tt
    lines k o (e ∷ es) en em (more s ss) is = (
      record {
        drawn = λ i l. elim (dec_le (suc i) e.c) [
          | yes h ↦ own k o e es is i h
          | no h ↦ let z : i ≡ e.c = omega arith in
              rw z
              (begin (suc k) (o + e.c) es (omega arith) (omega arith) ss (rest k o e es is)
              ∙ sym (shape.next k (e.q e.c) d s.high))
        ];
        fits = λ i l. shape.fits _ _ (span_from s i l) (span_to s i l);
        rises = s.rises;
      },
      lines (suc k) (o + e.c) es (omega arith) (omega arith) ss (rest k o e es is),
    )

  -- the lines of a ring whose m vertices are numbered from `base` on
  pub ring_lines : (P : ℕ → Point) (base m d : ℕ) (es : List Run) (l : List Point) → length es ≡ sides → around es ≡ m → All (Span d) es
      → P base ≡ place 0 d d → ((k : ℕ) → P (base + k) ≡ at (ring place 0 es d ++ l) k) → Lines P (ring_at base m) d 0 0 es
  ring_lines P base m d es l en em ss first is =
      lines P (ring_at base m) d m (rw ring_last first) 0 0 es (omega arith) (omega arith) ss
      (λ i h. rw (zero-add i) (ap P (ring_before base m i (omega arith)) ∙ is i
      ∙ get_or-append (ring place 0 es d) l missing i (omega (arith, ring_length place 0 es d))))

  -- the same, if the first edge has a segment
  pub first_lines : (P : ℕ → Point) (base m d : ℕ) (e : Run) (es : List Run) (l : List Point) → length (e ∷ es) ≡ sides
      → around (e ∷ es) ≡ m → All (Span d) (e ∷ es)
      → 1 ≤ e.c → ((k : ℕ) → P (base + k) ≡ at (ring place 0 (e ∷ es) d ++ l) k) → Lines P (ring_at base m) d 0 0 (e ∷ es)
  unfolding ring
  first_lines P base m d e es l en em (more s ss) h is =
      ring_lines P base m d (e ∷ es) l en em (more s ss)
      (rw (add-zero base) at (is 0)
      ∙ get_or-append (table _ e.c ++ ring place 1 es d) l missing 0 (omega (arith, ring_length place 0 (e ∷ es) d))
      ∙ table_at _ e.c _ 0 h ∙ rw s.low) is
