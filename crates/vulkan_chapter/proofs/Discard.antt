-- 23.2: a patch is discarded exactly if the chapter discards it.
-- Assumes nothing.
use mathlib.Core.Path.{◌≡◌, refl, sym, ◌∙◌}
use mathlib.Core.Bool.{Bool, true, false, ◌||◌, true≢false}
use mathlib.Core.Logic.{◌↔◌}
use mathlib.Core.List.Memᴰ
use mathlib.Core.List.{List, [], ◌∷◌}
use lib.IntN.{pos}
use lib.Ieee.{Float, fin, le, is_nan}
use lib.Ieee.Bits.{is_true}
use Rattle.level.specs.Discard.{discarded}
use Rattle.patch.specs.declared.kinds.Patch.{Patch}
use Rattle.patch.specs.Every.{some}
use Rattle.patch.specs.Subdivide.{outer_levels, discards}
use Rattle.vulkan_chapter.specs.Members.{Member}
use Rattle.vulkan_chapter.specs.Discard.{Discarding, not_above_zero, not_a_number, PatchDiscarded}

-- one level
discarding_is : (x : Float) → Discarding x → discarded x ≡ true
discarding_is x (not_a_number h) = go (is_nan x) (le x (fin false 0 (pos 0))) (is_true _ h)
  where
    go : (a b : Bool) → a ≡ true → (a || b) ≡ true
    go true b e = refl
    go false b e = absurd (true≢false (sym e))
discarding_is x (not_above_zero h) = go (is_nan x) (le x (fin false 0 (pos 0))) (is_true _ h)
  where
    go : (a b : Bool) → b ≡ true → (a || b) ≡ true
    go true b e = refl
    go false b e = e

is_discarding : (x : Float) → discarded x ≡ true → Discarding x
is_discarding x e = go (is_nan x) (le x (fin false 0 (pos 0))) refl refl e
  where
    go : (a b : Bool) → is_nan x ≡ a → le x (fin false 0 (pos 0)) ≡ b → (a || b) ≡ true → Discarding x
    go true b i j h = not_a_number (rw i tt)
    go false true i j h = not_above_zero (rw j tt)
    go false false i j h = absurd (true≢false (sym h))

-- a list of levels
member_some : {x : Float} {xs : List Float} → Member x xs → discarded x ≡ true → some discarded xs ≡ true
unfolding some
member_some (Memᴰ.head h) e = rw (← h, e)
member_some (Memᴰ.tail {x = y} {xs = xs} w) e = go (discarded y) (some discarded xs) (member_some w e)
  where
    go : (a b : Bool) → b ≡ true → (a || b) ≡ true
    go true b h = refl
    go false b h = h

record Found (xs : List Float) : Type 0 where
  level : Float
  relevant : Member level xs
  is : discarded level ≡ true

some_member : (xs : List Float) → some discarded xs ≡ true → Found xs
unfolding some
some_member [] e = absurd (true≢false (sym e))
some_member (x ∷ xs) e = go (discarded x) refl e (some_member xs)
  where
    go : (a : Bool) → discarded x ≡ a → (a || some discarded xs) ≡ true → (some discarded xs ≡ true → Found xs) → Found (x ∷ xs)
    go true i h f = record { level = x; relevant = Memᴰ.head refl; is = i }
    go false i h f = record { level = (f h).level; relevant = Memᴰ.tail (f h).relevant; is = (f h).is }

discards_where : (p : Patch) → PatchDiscarded p → discards p ≡ true
discards_where p d = member_some d.relevant (discarding_is d.level d.discarding)

discards_only : (p : Patch) → discards p ≡ true → PatchDiscarded p
discards_only p e = let f = some_member (outer_levels p) e in record { level = f.level; relevant = f.relevant; discarding = is_discarding f.level f.is }

-- our test is the chapter's
pub discards_exactly : (p : Patch) → (discards p ≡ true) ↔ PatchDiscarded p
discards_exactly p = (discards_only p, discards_where p)

pub kept : (p : Patch) → discards p ≡ false → PatchDiscarded p → ⊥
kept p e d = true≢false (sym (discards_where p d) ∙ e)
