-- The triangles of nested rings are those that document 01 lists, strip by strip. Assumes nothing.
use Prim.Native.Nat.{ℕ, zero, suc, ◌+◌, ◌*◌, ◌/◌, ◌%◌}
use mathlib.Core.Path.{◌≡◌, refl, sym, ap, ap₂, ◌∙◌}
use mathlib.Core.List.{List, ◌++◌, append_assoc, append-nil}
use native.Mathlib.Omega.{arith}
use native.Mathlib.Nat.{add-zero, zero-add}
use Rattle.strip.specs.declared.triangle.Triangle.{Triangle}
use Rattle.strip.specs.Strips.{strip}
use Rattle.mesh_topology.specs.Sides.{sum}
use Rattle.mesh_topology.specs.Ring.{ring_at}
use Rattle.mesh_topology.specs.Band.{from, band_from, band}
use Rattle.mesh_topology.specs.Nest.{ring_edges, nest}
use Rattle.mesh_topology.specs.Quad.{joined_lists}
use Rattle.mesh_topology.specs.RingVertices.{ring_segments, edge_first, ring_size, ring_first}
use Rattle.mesh_topology.specs.RingStrips.{ring_strip, strips_between, innermost, ring_strips}
use Rattle.mesh_topology.proofs.Joined.{joined_first, joined_same}
use Rattle.mesh_topology.proofs.Sums.{sum_constant}
use Rattle.mesh_topology.proofs.RingVertices.{segments_inside, edge_inside, first_inside}

-- ---- a strip between parts of two rings, by vertex numbers
abbrev part : ℕ → ℕ → ℕ → ℕ → ℕ → ℕ → ℕ → ℕ → List Triangle
part x m o p y m' o' r = strip (from o (ring_at x m)) (from o' (ring_at y m')) p r

same_part : {x x' m n o o' p p' y y' u u' v v' r r' : ℕ} → x ≡ x' → m ≡ n → o ≡ o' → p ≡ p' → y ≡ y' → u ≡ u' → v ≡ v' → r ≡ r' → part x m o p y u v r ≡ part x' n o' p' y' u' v' r'
same_part hx hm ho hp hy hu hv hr = λ i. part (hx i) (hm i) (ho i) (hp i) (hy i) (hu i) (hv i) (hr i)

-- the strips of a patch whose vertices are numbered from `base` on
abbrev part_from : ℕ → (ℕ → ℕ) → ℕ → ℕ → ℕ → List Triangle
part_from base c n j k =
    part (base + ring_first c n j) (ring_size c n j) (edge_first c n j k) (ring_segments c n j k)
    (base + ring_first c n (suc j)) (ring_size c n (suc j)) (edge_first c n (suc j) k) (ring_segments c n (suc j) k)

abbrev list_from : ℕ → (ℕ → ℕ) → ℕ → List Triangle
list_from base c n = joined_lists (λ j. joined_lists (part_from base c n j) 3) (n / 2) ++ innermost (base + ring_first c n (n / 2)) n

module _ (base : ℕ) (c : ℕ → ℕ) (r : ℕ) where
  abbrev total : ℕ
  total = c 0 + c 1 + c 2

  -- the pairs of rings further inside
  first_from : (j : ℕ) → base + ring_first c (suc (suc r)) (suc j) ≡ base + total + ring_first (λ _. r) r j
  unfolding sum
  first_from j = omega (arith, first_inside c r j)

  part_inside : (j k : ℕ) → part_from base c (suc (suc r)) (suc j) k ≡ part_from (base + total) (λ _. r) r j k
  part_inside j k = same_part (first_from j) (edge_inside c r j 3) (edge_inside c r j k) (segments_inside c r j k)
      (first_from (suc j)) (edge_inside c r (suc j) 3) (edge_inside c r (suc j) k) (segments_inside c r (suc j) k)

  -- the outermost pair of rings
  part_first : (k o : ℕ) → edge_first c (suc (suc r)) 0 k ≡ o → part_from base c (suc (suc r)) 0 k ≡ part base total o (c k) (base + total) (3 * r) (k * r) r
  unfolding sum
  part_first k o h =
      same_part (omega arith) (omega arith) h refl (omega arith) (omega arith) (edge_inside c r 0 k ∙ sum_constant r k) (omega arith)

  band_first : joined_lists (part_from base c (suc (suc r)) 0) 3 ≡ band (ring_at base total) (ring_edges (base + total) r (c 0) (c 1) (c 2))
  unfolding joined_lists band_from sum
  band_first =
      let f : ℕ → ℕ → List Triangle = λ k o. part base total o (c k) (base + total) (3 * r) (k * r) r in
      ap₂ (λ s t. s ++ t) (ap₂ (λ s t. s ++ t) (part_first 0 0 refl) (part_first 1 (0 + c 0) refl)) (part_first 2 (0 + c 0 + c 1) refl)
      ∙ (append_assoc (f 0 0) (f 1 (0 + c 0)) (f 2 (0 + c 0 + c 1)) ∙ ap (λ s. f 0 0 ++ (f 1 (0 + c 0) ++ s)) (sym (append-nil (f 2 (0 + c 0 + c 1)))))

  -- the innermost ring
  innermost_inside : innermost (base + ring_first c (suc (suc r)) (suc (r / 2))) (suc (suc r)) ≡ innermost (base + total + ring_first (λ _. r) r (r / 2)) r
  innermost_inside =
      let odd : suc (suc r) % 2 ≡ r % 2 = omega arith in
      rw (odd, first_from (r / 2))

  list_inside : list_from base c (suc (suc r)) ≡ band (ring_at base total) (ring_edges (base + total) r (c 0) (c 1) (c 2)) ++ list_from (base + total) (λ _. r) r
  list_inside =
      let half : suc (suc r) / 2 ≡ suc (r / 2) = omega arith in
      let pairs : ℕ → List Triangle = λ j. joined_lists (part_from base c (suc (suc r)) j) 3 in
      let further : ℕ → List Triangle = λ j. joined_lists (part_from (base + total) (λ _. r) r j) 3 in
      rw half (ap₂ (λ s t. s ++ t)
      (joined_first pairs (r / 2)
      ∙ ap₂ (λ s t. s ++ t) band_first (joined_same (λ j. pairs (suc j)) further (r / 2) (λ j. joined_same _ _ 3 (part_inside j))))
      innermost_inside
      ∙ append_assoc (band (ring_at base total) (ring_edges (base + total) r (c 0) (c 1) (c 2))) (joined_lists further (r / 2)) (innermost (base + total + ring_first (λ _. r) r (r / 2)) r))

nest_from : (n base : ℕ) (c : ℕ → ℕ) → nest base (c 0) (c 1) (c 2) n ≡ list_from base c n
unfolding nest joined_lists sum
nest_from zero base c = refl
nest_from (suc zero) base c = rw (add-zero base)
nest_from (suc (suc r)) base c =
    ap (λ ts. band (ring_at base (c 0 + c 1 + c 2)) (ring_edges (base + (c 0 + c 1 + c 2)) r (c 0) (c 1) (c 2)) ++ ts) (nest_from r (base + (c 0 + c 1 + c 2)) (λ _. r))
    ∙ sym (list_inside base c r)

-- the triangles of a triangle patch are the three strips of each pair of rings, in walk order, then that of the innermost ring
pub nest_exactly : (c : ℕ → ℕ) (n : ℕ) → nest 0 (c 0) (c 1) (c 2) n ≡ ring_strips c n
nest_exactly c n =
    let here : (j k : ℕ) → part_from 0 c n j k ≡ ring_strip c n j k = λ j k. same_part (zero-add _) refl refl refl (zero-add _) refl refl refl in
    nest_from n 0 c
    ∙ ap₂ (λ s t. s ++ t) (joined_same _ (strips_between c n) (n / 2) (λ j. joined_same _ (ring_strip c n j) 3 (here j))) (ap (λ x. innermost x n) (zero-add (ring_first c n (n / 2))))
