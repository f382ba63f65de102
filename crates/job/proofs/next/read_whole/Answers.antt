use Rattle.job.specs.Records.{record_of}
use Rattle.job.proofs.next.read_whole.Goals as goal

pub returns : goal.returns
unfolding record_of
returns c = rw (
  c.levels_of-levels.ensures,
  c.read_bits-bits.ensures,
  c.setting_bytes.ensures,
  c.read_settings-settings.ensures,
  c.read_top-top.ensures,
  c.of_byte-kind.ensures,
)
