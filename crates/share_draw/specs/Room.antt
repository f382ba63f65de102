-- What the writers of a part require, and what they do. Assumes nothing.
use Rattle.std.specs.Prelude.{ℕ, ◌+◌, ◌≤◌, ◌≡◌, true, false, List, length}
use Rattle.level.specs.Top.{is_top}
use Rattle.patch.specs.declared.kinds.Patch.{Patch}
use Rattle.patch.specs.declared.settings.Settings.{Settings}
use Rattle.patch.specs.Subdivide.{discards}
use Rattle.share_state.specs.declared.state.Designer.{Designer}
use Rattle.share_state.specs.declared.state.SharedList.{SharedList}
use Rattle.share_state.specs.SharedList.{share, part_start, grown, appended}

-- the patch can be drawn, and its `need` words fit between `from` and `to` in the list xs
pub record FitsBetween (set : Settings) (p : Patch) (need from to : ℕ) (xs : List ℕ) : Type 0 where
  pub top : is_top set.top ≡ true
  pub drawn : discards p ≡ false
  pub room : from + need ≤ to
  pub inside : to ≤ length xs

-- the patch can be drawn, and its `need` words fit into what is left of a designer's part
pub record RoomFor (set : Settings) (p : Patch) (need : ℕ) (d : Designer) (t : SharedList) (xs : List ℕ) : Type 0 where
  pub top : is_top set.top ≡ true
  pub drawn : discards p ≡ false
  pub room : (share d t).used + need ≤ (share d t).quota
  pub inside : part_start d t + (share d t).quota ≤ length xs

-- the words ws were appended to a designer's part: xs and xs' are the list before and after, r is the shared list after
pub record Appended (d : Designer) (ws : List ℕ) (t : SharedList) (xs xs' : List ℕ) (r : SharedList) : Type 0 where
  pub list : xs' ≡ appended d ws t xs
  pub shares : r ≡ grown d ws t
