use native.Mathlib.Omega.{arith}
use Prim.Native.Nat.{◌-◌}
use mathlib.Core.Path.{ap}
use lib.ListN.{length, take}
use Rattle.mesh_geometry.proofs.Grid.{grid_length}
use Rattle.vertices.specs.Grids.{crossing}
use Rattle.vertices.proofs.Parts.{wrote_same}
use Rattle.isoline_points.proofs.Lines.{lines_are}
use Rattle.isoline_points.proofs.isoline.write_rows.Goals as goal

pub write_grid-requires : goal.write_grid-requires
write_grid-requires c = let a = c.args in
    let n = length a.lines.now - 1 - 0 in
    let same = lines_are a.lines.now a.along.now n (omega arith) (omega (arith, c.requires.fact_1.1.some)) in
    let front = take n a.lines.now in
    omega (arith, ap length same, grid_length (crossing front a.along.now) (length front) (length a.along.now))

pub returns : goal.returns
returns c = let a = c.args in
    let n = length a.lines.now - 1 - 0 in
    let same = lines_are a.lines.now a.along.now n (omega arith) (omega (arith, c.requires.fact_1.1.some)) in
    wrote_same same c.write_grid.ensures
