use Rattle.buffer.proofs.Laws.{Counting}
use Rattle.strip_blocks.proofs.Blocks.{laid}
use Rattle.strip_blocks.proofs.Pattern.block.Given as goal

abbrev pub invariant-loop-i : goal.invariant-loop-i
invariant-loop-i l = Counting (laid l.self.words l.d l.first) l.i 24 l.words l.i l.initial.words 0
