use lib.ListN.{length}
use Rattle.vertices.specs.Rows.{place_in}
use Rattle.vertices.proofs.Loops.{Points}
use Rattle.vertices.proofs.grid.write_row.Given as goal

abbrev pub invariant-loop-u : goal.invariant-loop-u
invariant-loop-u l = Points (λ n. record { u = place_in l.columns n; v = l.v; w = 0 }) l.u-index (length l.columns) l.out l.to l.initial.out l.at
