use Rattle.level.specs.Clamp.{clamp_of}
use Rattle.level.specs.Segments.{segments_of}
use Rattle.level.proofs.Within.{level_from_1_to_64}
use Rattle.level.proofs.Scale.{level_in_range}
use Rattle.level.proofs.Range.segments_for.Goals as goal

pub parts_of-requires : goal.parts_of-requires
parts_of-requires c =
    let r = c.args.self in
    rw (c.clamp-value.ensures, r.from, r.to) (level_from_1_to_64 r.spacing r.top r.is_top c.args.level)

pub segments_at-segments-requires : goal.segments_at-segments-requires
segments_at-segments-requires c =
    let r = c.args.self in
    rw (c.parts_of.ensures, c.clamp-value.ensures, r.from, r.to) (level_in_range r.spacing r.top r.is_top c.args.level)

pub returns-clause-segments : goal.returns-clause-segments
unfolding segments_of
returns-clause-segments c =
    let r = c.args.self in rw (c.segments_at-segments.ensures, c.parts_of.ensures, c.clamp-value.ensures, r.from, r.to)

pub returns-clause-clamp : goal.returns-clause-clamp
unfolding clamp_of
returns-clause-clamp c = let r = c.args.self in rw (c.clamp-value.ensures, r.from, r.to)
