use mathlib.Core.Path.{refl}
use Rattle.grid_indices.proofs.Grids.{follows_left}
use Rattle.grid_indices.proofs.grid.Grid.left.Goals as goal

pub returns : goal.returns
returns c = record { count = refl; at = follows_left c.args.self }
