use native.Mathlib.Omega.{arith}
use Prim.Native.Nat.{zero-le}
use Rattle.buffer.proofs.Laws.{wrote_then}
use Rattle.job_fields.specs.Bytes.{low_bytes}
use Rattle.job_bytes.specs.Written.{header_bytes}
use Rattle.job_writer.proofs.Answered.{header_written}
use Rattle.job_writer.proofs.header.write_header.Goals as goal

pub overflow_cast-result : goal.overflow_cast-result
unfolding low_bytes
overflow_cast-result c = omega arith

pub returns : goal.returns
unfolding header_bytes
returns c = header_written _ (omega arith) (rw (← c.from-number.ensures) (wrote_then zero-le c.put_all-next.ensures c.put_u16-count.ensures))
