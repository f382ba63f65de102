-- The caller's memory around a call on shared lists. Assumes nothing.
use Rattle.std.specs.Prelude.{ℕ, List}

-- the caller's memory between two calls: the ten words of the state, and the two lists
pub record Memory : Type 0 where
  pub words : List ℕ
  pub vertices : List ℕ
  pub indices : List ℕ
