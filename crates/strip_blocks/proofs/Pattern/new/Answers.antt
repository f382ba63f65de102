use borrow.Author.Rules.{rules}
use Rattle.strip_blocks.specs.Blocks.{block_pattern}
use Rattle.strip_blocks.proofs.Pattern.new.Goals as goal
use Rattle.strip_blocks.proofs.Pattern.new.Goals.{then-positive, else-positive}

pub invariant_of-result : goal.invariant_of-result
unfolding block_pattern
invariant_of-result c =
    elim c.if-positive.branch [ then-positive w ↦ search rules | else-positive w ↦ search rules ]
