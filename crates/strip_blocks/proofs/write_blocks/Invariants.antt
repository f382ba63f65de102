use mathlib.Core.Path.{◌≡◌}
use lib.ListN.{length}
use Rattle.buffer.proofs.Laws.{Counting}
use Rattle.shifted_copies.specs.Copies.{copy}
use Rattle.strip_blocks.proofs.write_blocks.Given as goal

abbrev pub invariant-loop-block : goal.invariant-loop-block
invariant-loop-block l = Counting (copy 4 l.initial.words) l._block l.k l.out l.to l.initial.out l.at × (l.words ≡ copy 4 l.initial.words l._block) × (length l.words ≡ 24)
