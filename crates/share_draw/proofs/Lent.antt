-- What the two drawing operations do to a list with room. Assumes nothing.
use Prim.Native.Nat.{ℕ, ◌+◌, ◌-◌, ◌≤◌, ◌<◌}
use mathlib.Core.Path.{◌≡◌, ap, ◌∙◌}
use mathlib.Core.Bool.{true, false}
use mathlib.Core.List.{List}
use native.Mathlib.Omega.{arith}
use borrow.Author.Tests.{le-ltb}
use borrow.Rule.Slice.PartMut.{put_mid, mid_len}
use lib.ListN.{length, get_or, take, drop}
use Rattle.buffer.specs.Over.{over}
use Rattle.level.specs.Top.{is_top}
use Rattle.patch.specs.declared.kinds.Patch.{Patch}
use Rattle.patch.specs.declared.settings.Settings.{Settings}
use Rattle.patch.specs.Subdivide.{discards}
use Rattle.patch_mesh.proofs.Demand.{demand}
use Rattle.measure.specs.Sizes.{points_of}
use Rattle.tessellate.specs.Answers.{list_verdict}
use Rattle.answer_codes.specs.AnswerCode.{AnswerCode, drew}
use Rattle.tessellate.specs.Draws.{connection_words}
use Rattle.answer_codes.specs.Drew.{Drew, list_after}
use Rattle.level.proofs.Top.{top_as}
use Rattle.share_state.specs.declared.state.Designer.{Designer}
use Rattle.share_state.specs.declared.state.Share.{Share}
use Rattle.share_state.specs.declared.state.SharedList.{SharedList}
use Rattle.share_state.specs.SharedList.{share, part_start, first_free, with_used}
use Rattle.share_draw.specs.Room.{FitsBetween, RoomFor, Appended}
use Rattle.share_draw.proofs.Parts.{put_back, put_twice, lent_words}

module _ (set : Settings) (p : Patch) (top : is_top set.top ≡ true) (drawn : discards p ≡ false) where
  -- the words are at the front
  pub at_front : (short need have count : ℕ) {t : AnswerCode} {words xs xs' : List ℕ} → need ≤ have → Drew t (list_verdict set p short need have count) words xs xs' → xs' ≡ over xs 0 words
  unfolding list_verdict
  at_front short need have count {t} {words} {xs} h d =
      let is : list_verdict set p short need have count ≡ drew count = rw (top, drawn, le-ltb have need h) in
      d.list ∙ ap (λ (x : AnswerCode). list_after x.number xs words) (d.answer ∙ is)

  -- an index plus n has 16 bits
  pub raised_fits : (n k : ℕ) → n + points_of set p ≤ 65535 → k < length (connection_words set p) → n + get_or (connection_words set p) k 0 < 65536
  raised_fits n k h l = omega (arith, (demand set (top_as set.top top) p drawn).numbered k l)

-- ---- a part of the list xs from `from` to `to`, lent to a drawing operation and put back
module _ {set : Settings} {p : Patch} {need from to : ℕ} {xs : List ℕ} (b : FitsBetween set p need from to xs) (words : List ℕ) (many : length words ≡ need) where
  -- the words are at the beginning of the part
  pub lent_on : (short count : ℕ) {t : AnswerCode} {ys : List ℕ} → Drew t (list_verdict set p short need (length (take (to - from) (drop from xs))) count) words (take (to - from) (drop from xs)) ys
      → put_mid from (to - from) xs ys ≡ over xs from words
  lent_on short count d =
      let room = mid_len from to xs b.inside in
      ap (put_mid from (to - from) xs) (at_front set p b.top b.drawn short need (length (take (to - from) (drop from xs))) count (omega arith) d)
      ∙ put_back xs from to words (omega arith) b.inside

  -- the words are lent again, and replaced by equally many others
  pub lent_again : {zs : List ℕ} (n : ℕ) → n ≡ need → zs ≡ over xs from words → take (from + n - from) (drop from zs) ≡ words
  lent_again {zs} n e is = rw is (lent_words xs from (from + n) words (omega arith) (omega arith))

  pub put_again : {zs : List ℕ} (ys : List ℕ) (n : ℕ) → n ≡ need → length ys ≡ length words → zs ≡ over xs from words → put_mid from (from + n - from) zs ys ≡ over xs from ys
  put_again ys n e k is = put_twice xs _ from to (from + n) words ys (omega arith) b.inside (omega arith) k is

-- ---- a designer's part, by the start and the share that the code found
module _ {d : Designer} {t : SharedList} {start : ℕ} {sh : Share} (e : start ≡ part_start d t) (f : sh ≡ share d t) where
  -- the unused words have the room
  pub between : {set : Settings} {p : Patch} {need : ℕ} {xs : List ℕ} → RoomFor set p need d t xs → FitsBetween set p need (start + sh.used) (start + sh.quota) xs
  between {set} {p} {need} {xs} h = rw (e, f) (record { top = h.top; drawn = h.drawn; room = omega arith; inside = h.inside })

  -- words were appended to the part
  pub append_done : {ws xs xs' : List ℕ} {r : SharedList} (n : ℕ) → n ≡ length ws → xs' ≡ over xs (start + sh.used) ws → r ≡ with_used d (sh.used + n) t → Appended d ws t xs xs' r
  append_done {ws} {xs} {xs'} {r} n k g h =
      let place : start + sh.used ≡ first_free d t = rw (e, f) in
      let used : sh.used + n ≡ (share d t).used + length ws = rw (f, k) in
      record { list = g ∙ ap (λ (m : ℕ). over xs m ws) place; shares = h ∙ ap (λ (m : ℕ). with_used d m t) used }
