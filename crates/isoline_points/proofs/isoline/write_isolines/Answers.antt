use native.Mathlib.Omega.{arith}
use mathlib.Core.Path.{refl}
use Rattle.isoline_points.proofs.Lines.{both_stored}
use Rattle.isoline_points.proofs.isoline.write_isolines.Goals as goal

pub write_with_8_rows-requires-clause-stored : goal.write_with_8_rows-requires-clause-stored
write_with_8_rows-requires-clause-stored c =
    both_stored 8 refl c.args.lines c.args.along c.requires.fact_1 c.most_equal-most.ensures c.most_equal-most-2.ensures (omega arith)

pub write_with_16_rows-requires-clause-stored : goal.write_with_16_rows-requires-clause-stored
write_with_16_rows-requires-clause-stored c =
    both_stored 16 refl c.args.lines c.args.along c.requires.fact_1 c.most_equal-most.ensures c.most_equal-most-2.ensures (omega arith)

pub write_with_32_rows-requires-clause-stored : goal.write_with_32_rows-requires-clause-stored
write_with_32_rows-requires-clause-stored c =
    both_stored 32 refl c.args.lines c.args.along c.requires.fact_1 c.most_equal-most.ensures c.most_equal-most-2.ensures (omega arith)

pub write_with_64_rows-requires-clause-stored : goal.write_with_64_rows-requires-clause-stored
write_with_64_rows-requires-clause-stored c =
    let a = c.most_equal-most.ensures in
    let b = c.most_equal-most-2.ensures in both_stored 64 refl c.args.lines c.args.along c.requires.fact_1 a b (b.few (a.few (omega arith)))
