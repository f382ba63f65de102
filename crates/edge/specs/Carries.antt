-- A quotient with its remainder. Assumes nothing.
use Rattle.std.specs.Prelude.{ℕ, ◌+◌, ◌*◌, ◌<◌, ◌≡◌}
use Rattle.edge.specs.declared.carry.Carry.{Carry}

-- c is the quotient and the remainder of x by l
pub record Divides (x l : ℕ) (c : Carry) : Type 0 where
  pub is : x ≡ c.quotient * l + c.remainder
  pub below : c.remainder < l
