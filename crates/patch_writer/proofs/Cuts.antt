-- What is known of a subdivision in each arm of a match on it. Assumes nothing.
use Prim.Native.Nat.{ℕ, ◌*◌, ◌≤◌}
use mathlib.Core.Path.{◌≡◌, sym, subst}
use mathlib.Core.Bool.{Bool}
use mathlib.Core.List.{List}
use native.Mathlib.Omega.{arith}
use lib.ListN.{length}
use Rattle.buffer.specs.Over.{Wrote}
use Rattle.level.specs.declared.Segments.{Segments}
use Rattle.strip.proofs.Strips.{indices_length}
use Rattle.patch.specs.declared.subdivision.Subdivision.{Subdivision}
use Rattle.patch.specs.declared.subdivision.Subdivision.TheVariants.{Triangle, Quad, Lines}
use Rattle.mesh_topology.specs.Nest.{nest, count}
use Rattle.mesh_topology.specs.Quad.{quad, quad_count}
use Rattle.mesh_topology.proofs.Length.{nest_length, quad_length}
use Rattle.patch_mesh.specs.Primitives.{triangles, primitives}
use Rattle.patch_mesh.specs.Counts.{point_count, primitive_count}
use Rattle.patch_mesh.specs.Valid.{ValidCut, ValidLines}
use Rattle.patch_mesh.proofs.Counts.{primitive_count_lem}

-- the arm's own subdivision is valid
pub valid_as : {c d : Subdivision} → ValidCut c → c ≡ d → ValidCut d
valid_as v e = subst ValidCut e v

-- there is room for what it gives
pub room_as : (F : Subdivision → ℕ) {c d : Subdivision} {n : ℕ} → F c ≤ n → c ≡ d → F d ≤ n
room_as F {n = n} h e = subst (λ (d : Subdivision). F d ≤ n) e h

-- that room, where the number of words is known
pub count_fits : (turn : Bool) {c : Subdivision} (d : Subdivision) {n : ℕ} → length (primitives turn c) ≤ n → c ≡ d → ValidCut d → primitive_count d ≤ n
count_fits turn d h e v = omega (arith, room_as (λ c. length (primitives turn c)) h e, primitive_count_lem turn d v)

-- what was written for it was written for the subdivision matched on
pub as_cut : (F : Subdivision → List ℕ) {c d : Subdivision} {xs xs' : List ℕ} {at w : ℕ} → c ≡ d → Wrote xs at (F d) xs' w → Wrote xs at (F c) xs' w
as_cut F {xs = xs} {xs' = xs'} {at = at} {w = w} e h = subst (λ (d : Subdivision). Wrote xs at (F d) xs' w) (sym e) h

-- what was counted of it was counted of the subdivision matched on
pub counted_as : {c d : Subdivision} {n m : ℕ} → c ≡ d → (n ≡ point_count d) × (m ≡ primitive_count d) → (n ≡ point_count c) × (m ≡ primitive_count c)
counted_as {n = n} {m = m} e h = subst (λ (d : Subdivision). (n ≡ point_count d) × (m ≡ primitive_count d)) (sym e) h

-- how many words that is
pub nest_room : (turn : Bool) (a b c i : Segments) → length (primitives turn (Triangle a b c i)) ≡ 3 * count a.count b.count c.count i.count
unfolding triangles
nest_room turn a b c i =
    let ts = nest 0 a.count b.count c.count i.count in
    omega (arith, indices_length turn ts, nest_length i.count 0 a.count b.count c.count)

pub quad_room : (turn : Bool) (a b c d m n : Segments)
    → length (primitives turn (Quad a b c d m n)) ≡ 3 * quad_count a.count b.count c.count d.count m.count n.count
unfolding triangles
quad_room turn a b c d m n =
    let ts = quad 0 a.count b.count c.count d.count m.count n.count in
    omega (arith, indices_length turn ts, quad_length 0 a.count b.count c.count d.count m.count n.count)

pub lines_room : (turn : Bool) (m n : Segments) → ValidLines m n → length (primitives turn (Lines m n)) ≡ 2 * (m.count * n.count)
unfolding primitive_count
lines_room turn m n v = primitive_count_lem turn (Lines m n) v
