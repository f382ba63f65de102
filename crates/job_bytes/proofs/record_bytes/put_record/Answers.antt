use Rattle.buffer.proofs.Laws.{wrote_then, wrote_within}
use Rattle.job_bytes.specs.Written.{record_bytes}
use Prim.Native.Nat.{◌≤◌, zero-le}
use lib.ListN.{length}
use Rattle.job_bytes.proofs.record_bytes.put_record.Goals as goal

pub returns : goal.returns
unfolding record_bytes
returns c =
    let h1 : 0 ≤ length c.args.out.now = zero-le in
    wrote_then h1 c.put_settings-after_settings.ensures
    (wrote_then (wrote_within h1 c.put_settings-after_settings.ensures) c.put_top-after_top.ensures c.put_levels.ensures)
