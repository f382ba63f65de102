use mathlib.Core.Path.{◌≡◌}
use lib.ListN.{length}
use Rattle.compare_table_flags.specs.Flags.{Partners}
use Rattle.compare_table_flags.proofs.partner.match_by.Given as goal

abbrev pub invariant-loop-k : goal.invariant-loop-k
invariant-loop-k l = Partners l.points l.others l.k l.partners × (length l.partners ≡ length l.initial.partners)
