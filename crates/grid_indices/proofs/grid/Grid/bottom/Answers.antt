use mathlib.Core.Path.{refl}
use Rattle.grid_indices.proofs.Grids.{follows_bottom}
use Rattle.grid_indices.proofs.grid.Grid.bottom.Goals as goal

pub returns : goal.returns
returns c = record { count = refl; at = follows_bottom c.args.self }
