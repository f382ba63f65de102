use Rattle.strip.specs.Lines.{vertex}
use Rattle.strip_pairs.proofs.Pairs.{fan}
use Rattle.strip_writer.proofs.Halves.{alternate, step_ready, pairs_ready, last_ready, strip_written}
use Rattle.strip_writer.proofs.alternate.write_alternating.Goals as goal

pub returns-then-r-eq0 : goal.returns-then-r-eq0
returns-then-r-eq0 g c =
    let a = c.args in
    rw (fan (vertex a.outer) (vertex a.inner) _ a.outer.count a.inner.count c.requires.counts c.if-r-eq0.true) c.write_fan.ensures

pub put_triangle-to-requires : goal.put_triangle-to-requires
put_triangle-to-requires g c =
    let a = c.args in
    let r = c.requires in
    let begun = alternate a.outer a.inner a.out.now a.at r.counts r.room c.if-r-eq0.false in
    step_ready begun _ c.write_pairs-p.ensures c.write_pairs-p.auto.out

pub write_pairs-q-requires-clause-room : goal.write_pairs-q-requires-clause-room
write_pairs-q-requires-clause-room g c =
    let a = c.args in
    let r = c.requires in
    let begun = alternate a.outer a.inner a.out.now a.at r.counts r.room c.if-r-eq0.false in
    (pairs_ready begun _ c.write_pairs-p.ensures c.write_pairs-p.auto.out c.next-u.ensures c.put_triangle-to.ensures
    c.put_triangle-to.auto.out).1.1

pub write_last-requires-clause-room : goal.write_last-requires-clause-room
write_last-requires-clause-room g c =
    let a = c.args in
    let r = c.requires in
    let begun = alternate a.outer a.inner a.out.now a.at r.counts r.room c.if-r-eq0.false in
    (last_ready begun _ c.write_pairs-p.ensures c.write_pairs-p.auto.out c.next-u.ensures c.put_triangle-to.ensures
    c.put_triangle-to.auto.out c.write_pairs-q.ensures c.write_pairs-q.auto.out).1.1.1

pub returns : goal.returns
returns g c =
    let a = c.args in
    let r = c.requires in
    let begun = alternate a.outer a.inner a.out.now a.at r.counts r.room c.if-r-eq0.false in
    strip_written begun _ c.write_pairs-p.ensures c.write_pairs-p.auto.out c.next-u.ensures c.put_triangle-to.ensures
    c.put_triangle-to.auto.out c.write_pairs-q.ensures c.write_last.ensures
