use borrow.Author.Rules.{rules}
use native.Mathlib.Omega.{arith}
use Rattle.job_text.proofs.Answering.{answering_next, answering_step}
use Rattle.job_text.proofs.records.put_records.Goals as goal

pub loop-at-smaller : goal.loop-at-smaller
loop-at-smaller c =
    omega (
      arith,
      answering_next _ c.args.bytes.now
          c.loop-at-test.true
          c.read_record-found.ensures.is c.next_place-at.ensures,
    )

pub loop-at-preserved : goal.loop-at-preserved
loop-at-preserved c = (
  answering_step _ c.args.bytes.now
      c.loop-at-test.true
      c.read_record-found.ensures.is c.next_place-at.ensures
      c.put_reply-written.ensures c.loop-at.invariant.0,
  search rules,
)
