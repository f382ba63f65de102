-- The entries of a row: the position of a point, and 0 after the last point. Assumes nothing.
use mathlib.Core.Path.{◌≡◌, ◌∙◌}
use Prim.Native.Nat.{ℕ, ◌≤◌, ◌<◌}
use native.Mathlib.Omega.{arith}
use borrow.Author.Tests.{le-leb, lt-leb}
use lib.ListN.{get_or}
use Rattle.edge.specs.Positions.{position, entry}
use Rattle.edge.specs.Table.{table}
use Rattle.edge.proofs.Table.{get_table}

module _ (n L i : ℕ) where
  pub entry_point : i ≤ n → entry n L i ≡ position n L i
  unfolding entry
  entry_point h = rw (le-leb i n h)

  pub entry_past : n < i → entry n L i ≡ 0
  unfolding entry
  entry_past h = rw (lt-leb i n h)

  pub at_point : n ≤ 64 → i ≤ n → get_or (table (entry n L) 65) i 0 ≡ position n L i
  at_point h k = get_table (entry n L) 65 0 i (omega arith) ∙ entry_point k

  pub past_points : i < 65 → n < i → get_or (table (entry n L) 65) i 0 ≡ 0
  past_points h k = get_table (entry n L) 65 0 i h ∙ entry_past k
