use native.Mathlib.Omega.{arith}
use native.Mathlib.Nat.{add-mul, mul-le-mul_right}
use Prim.Native.Nat.{ℕ, ◌+◌, ◌*◌, ◌≤◌}
use mathlib.Core.Path.{◌≡◌, ap}
use Rattle.shifted_copies.specs.Copies.{copy}
use Rattle.grid_indices.specs.Grids.{row_words}
use Rattle.grid_indices.proofs.Grids.{grid_row, some_rows, row_length, cells_words, row_shifted}
use Rattle.shifted_copies.proofs.Shifts.{copies_wrote}
use Rattle.grid_indices.proofs.cells.write_cells.Goals as goal

pub returns : goal.returns
unfolding copy
returns c =
    let a = c.args in
    let g = a.grid in
    let row0 = c.write_row-n in
    let some = some_rows g.a g.b (omega arith) in
    rw (cells_words a.positive g.start g.width g.b g.a)
    (copies_wrote (6 * g.b) g.a g.width (grid_row a.positive g.start g.width g.b) (omega arith) (row_length a.positive g.start g.width g.b) some
    (let e : g.start ≡ g.start + 0 * g.width = omega arith in ap (λ (x : ℕ). row_words a.positive x g.width g.b) e)
    (λ r l. row_shifted a.positive g.start g.width g.b (r * g.width) (let below : r + 1 ≤ g.a = omega arith in omega (arith, mul-le-mul_right g.width below, add-mul r 1 g.width)))
    row0.ensures c.write_copies.ensures)
