use Prim.Native.Nat.{ℕ, ◌+◌, ◌<◌}
use lib.ListN.{get_or}
use Rattle.job_fields.specs.Bytes.{byte_at}
use Rattle.job_fields.specs.Settings.{choices}
use Rattle.job_fields.proofs.setting.first_unknown.Given as goal

abbrev pub invariant-loop-place : goal.invariant-loop-place
invariant-loop-place l = (k : ℕ) → k < l.place → byte_at l.bytes (l.at + k) < get_or choices k 0
