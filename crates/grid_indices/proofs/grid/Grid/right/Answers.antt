use mathlib.Core.Path.{refl}
use Rattle.grid_indices.proofs.Grids.{follows_right}
use Rattle.grid_indices.proofs.grid.Grid.right.Goals as goal

pub returns : goal.returns
returns c = record { count = refl; at = follows_right c.args.self }
