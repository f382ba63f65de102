use native.Mathlib.Omega.{arith}
use mathlib.Core.Path.{ap}
use lib.ListN.{length}
use Rattle.buffer.proofs.Laws.{wrote_then}
use Rattle.decimal_text.proofs.Digits.{digits_one, digits_two, digits_pair, digits_pair_length}
use Rattle.decimal_text.proofs.number.+put_number.Goals as goal

pub put-requires : goal.put-requires
put-requires t c = omega (arith, ap length (digits_one c.args.x c.if-x-lt10.true))

pub returns-then-x-lt10 : goal.returns-then-x-lt10
returns-then-x-lt10 t c =
    rw (digits_one c.args.x c.if-x-lt10.true) c.put.ensures

pub put_pair-requires-clause-room : goal.put_pair-requires-clause-room
put_pair-requires-clause-room t c =
    omega (arith, ap length (digits_two c.args.x (omega arith) (omega arith)))

pub returns-then-x-lt100 : goal.returns-then-x-lt100
returns-then-x-lt100 t c = rw (digits_two c.args.x (omega arith) (omega arith)) c.put_pair.ensures

pub put_number-w-requires : goal.put_number-w-requires
put_number-w-requires t c = omega (arith, digits_pair_length c.args.x (omega arith))

pub put_pair-requires-2-clause-room : goal.put_pair-requires-2-clause-room
put_pair-requires-2-clause-room t c = omega (arith, digits_pair_length c.args.x (omega arith))

pub returns : goal.returns
returns t c = rw (digits_pair c.args.x (omega arith)) (wrote_then (omega arith) c.put_number-w.ensures c.put_pair-2.ensures)
