-- The text of the answer to one patch. Assumes nothing.
use Rattle.std.specs.Prelude.{ℕ, ◌≡◌, ◌+◌, ◌*◌, ◌/◌, ◌≤◌, List, length}
use Rattle.patch.specs.declared.kinds.Patch.{Patch}
use Rattle.patch.specs.declared.settings.Settings.{Settings}
use Rattle.measure.specs.IfDrawn.{if_drawn}
use Rattle.measure.specs.Sizes.{points_of, indices_of}
use Rattle.tessellate.specs.declared.refusal.DrawRefusal.{DrawRefusal}
use Rattle.tessellate.specs.declared.refusal.DrawRefusal.TheVariants.{BadTop, Discarded, NoRoomForVertices, NoRoomForIndices}
use Rattle.tessellate.specs.Draws.{point_words, connection_words}
use Rattle.decimal_text.specs.Heads.{discarded_line, refused_line}
use Rattle.mesh_text.specs.Widths.{width_of}
use Rattle.mesh_text.specs.Lists.{HoldsMesh, list_text}
use Rattle.patch_text.specs.Room.{room}

-- the text of a refusal
abbrev pub refusal_text : DrawRefusal → List ℕ
refusal_text Discarded = discarded_line
refusal_text NoRoomForVertices = refused_line 3
refusal_text NoRoomForIndices = refused_line 4
refusal_text BadTop = refused_line 11

-- the text of a drawn patch
unfoldable pub drawn_text : Settings → Patch → List ℕ
drawn_text set p = list_text (width_of set.point_mode p) (point_words set p) (connection_words set p) (points_of set p) (indices_of set p)

-- the text of the answer for a patch with full-size lists: bad top level, discarded or drawn
abbrev pub record_text : Settings → Patch → List ℕ
record_text set p = if_drawn set p (refused_line 11) discarded_line (drawn_text set p)

-- P points and I indices of a patch in two lists: their text fits into the room for one record, and is `record_text`
pub record Printed (set : Settings) (p : Patch) (P I : ℕ) (vertices indices : List ℕ) : Type 0 where
  pub holds_mesh : HoldsMesh (width_of set.point_mode p) (length vertices) (length indices) P I
  pub fits : 28 + 33 * P + 18 * (I / width_of set.point_mode p) ≤ room
  pub is : record_text set p ≡ list_text (width_of set.point_mode p) vertices indices P I
