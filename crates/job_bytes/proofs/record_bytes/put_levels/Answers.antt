use native.Mathlib.Omega.{arith}
use Rattle.job_fields.specs.Bytes.{low_bytes}
use Rattle.buffer.proofs.Laws.{wrote_then, wrote_within}
use Rattle.job_bytes.specs.Written.{level_bytes}
use Prim.Native.Nat.{◌≤◌}
use lib.ListN.{length}
use Rattle.job_bytes.proofs.record_bytes.put_levels.Goals as goal

pub put_u32-outer2-requires : goal.put_u32-outer2-requires
unfolding low_bytes
put_u32-outer2-requires c = omega arith

pub put_u32-outer3-requires : goal.put_u32-outer3-requires
unfolding low_bytes
put_u32-outer3-requires c = omega arith

pub put_u32-inner0-requires : goal.put_u32-inner0-requires
unfolding low_bytes
put_u32-inner0-requires c = omega arith

pub put_u32-inner1-requires : goal.put_u32-inner1-requires
unfolding low_bytes
put_u32-inner1-requires c = omega arith

pub put_u32-requires : goal.put_u32-requires
unfolding low_bytes
put_u32-requires c = omega arith

pub returns : goal.returns
unfolding level_bytes
returns c =
    let h1 : c.args.at ≤ length c.args.out.now = omega (arith, c.requires) in
    let h2 = wrote_within h1 c.put_u32-outer1.ensures in
    let h3 = wrote_within h2 c.put_u32-outer2.ensures in
    let h4 = wrote_within h3 c.put_u32-outer3.ensures in
    let h5 = wrote_within h4 c.put_u32-inner0.ensures in
    wrote_then h1 c.put_u32-outer1.ensures
    (wrote_then h2 c.put_u32-outer2.ensures
    (wrote_then h3 c.put_u32-outer3.ensures (wrote_then h4 c.put_u32-inner0.ensures (wrote_then h5 c.put_u32-inner1.ensures c.put_u32.ensures))))
