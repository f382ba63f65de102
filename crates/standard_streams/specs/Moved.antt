-- How many bytes a read or a write moved, and whether it failed. Assumes nothing.
use Rattle.std.specs.Prelude.{ℕ, ◌≤◌, ◌<◌, ◌≡◌, true, List, ltb, length, take}
use Rattle.standard_streams.specs.declared.input.Input.{Input}
use Rattle.standard_streams.specs.declared.output.Output.{Output}

-- the first n words of xs are there, and are n words
abbrev pub IsPrefixLen : ℕ → List ℕ → Type 0
IsPrefixLen n xs = (n ≤ length xs) × (n ≡ length (take n xs))

-- a write of n bytes: it moved at most n, and failed exactly if it moved fewer
pub record Taken (n : ℕ) (r : Output) : Type 0 where
  pub most : r.count ≤ n
  pub failed : r.failed ≡ ltb r.count n

-- a read of up to n bytes to the front of xs: it moved at most n, and fewer if it failed
pub record Filled (n : ℕ) (xs : List ℕ) (r : Input) : Type 0 where
  pub counts : IsPrefixLen r.count xs
  pub most : r.count ≤ n
  pub short : r.failed ≡ true → r.count < n
