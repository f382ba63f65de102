use native.Mathlib.Omega.{arith}
use Rattle.compare_table_flags.proofs.Tables.{flag_asked, first_is}
use Rattle.compare_table_flags.proofs.flag.first_flag.Goals as goal

pub returns-then-flag : goal.returns-then-flag
returns-then-flag c = flag_asked c.args.flag _ _ c.if-flag.true
    (first_is _ _ _ _ _ c.triangle_at.ensures c.args.mesh.sound
    (λ i. omega (arith, c.args.mesh.small i))
    c.requires.in_range c.has_earlier.ensures)
