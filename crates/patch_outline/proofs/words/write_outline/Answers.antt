use Rattle.patch_outline.proofs.Around.{both_are, outline_as, three_room, four_room}
use Rattle.patch_outline.proofs.Fronts.{no_outline}
use Rattle.patch_outline.proofs.words.write_outline.Goals as goal

pub write_triangle-requires-clause-room : goal.write_triangle-requires-clause-room
write_triangle-requires-clause-room c =
    three_room (both_are c.in-Some.is c.in-Triangle.is) c.requires.room

pub write_quad-requires-clause-room : goal.write_quad-requires-clause-room
write_quad-requires-clause-room c =
    four_room (both_are c.in-Some.is c.in-Quad.is) c.requires.room

pub returns-in_default : goal.returns-in_default
returns-in_default c = outline_as c.in_default.is no_outline
