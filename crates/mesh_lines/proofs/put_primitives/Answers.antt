use native.Mathlib.Omega.{arith}
use Prim.Native.Nat.{ℕ, ◌+◌, ◌*◌, ◌≤◌, ◌<◌}
use native.Mathlib.Nat.{mul-le-mul_right}
use lib.ListN.{length}
use Rattle.decimal_text.proofs.Rows.{row_within}
use Rattle.mesh_lines.proofs.Listed.{listed_start, listing}
use Rattle.mesh_lines.proofs.put_primitives.Goals as goal

-- the next row is in the list
next_row : (width from i count n : ℕ) → 1 ≤ width → i < count → width * (from + count) ≤ n → (from + i ≤ width * (from + i)) × (width * (from + i) + width ≤ n)
next_row width from i count n some h room =
    (omega (arith, mul-le-mul_right (from + i) some), omega (arith, row_within width (from + i) (from + count) (omega arith)))

pub loop-i-init : goal.loop-i-init
loop-i-init c =
    let a = c.args in
    listed_start 4 18 a.width a.indices.now a.from a.count (λ i. omega (arith, c.type_inv.indices i)) (omega arith) (omega arith)

pub put_primitive-w-requires-clause-room : goal.put_primitive-w-requires-clause-room
put_primitive-w-requires-clause-room c =
    let a = c.args in
    let r = next_row a.width a.from c.loop-i.i a.count (length a.indices.now) (omega arith) (omega arith) (omega arith) in
    search listing

pub loop-i-preserved : goal.loop-i-preserved
loop-i-preserved c = search listing

pub returns-clause-wrote : goal.returns-clause-wrote
returns-clause-wrote c = search listing

pub returns-clause-upper_bound : goal.returns-clause-upper_bound
returns-clause-upper_bound c = search listing
