use Rattle.strip_blocks.proofs.Blocks.{Raised}
use Rattle.strip_blocks.proofs.raise.Given as goal

abbrev pub invariant-loop-x : goal.invariant-loop-x
invariant-loop-x l = Raised l.by l.initial.words l.x-index l.words
