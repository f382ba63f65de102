use mathlib.Core.Path.{refl}
use Rattle.grid_indices.proofs.Grids.{follows_top}
use Rattle.grid_indices.proofs.grid.Grid.top.Goals as goal

pub returns : goal.returns
returns c = record { count = refl; at = follows_top c.args.self }
