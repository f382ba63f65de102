-- When a drawing call answers "discarded", by the Vulkan chapter. Assumes nothing.
use Rattle.std.specs.Prelude.{ℕ, ◌≡◌, List, ◌↔◌, Float}
use Rattle.level.specs.Top.{Top}
use Rattle.job_fields.specs.Settings.{choices, AllBelow}
use Rattle.call_inputs.specs.Inputs.{patch_in, settings_in}
use Rattle.vulkan_chapter.specs.Discard.{PatchDiscarded}

-- every setting byte is in range, the top level is good, and the chapter discards the patch
pub record DiscardedIn (bs : List ℕ) (xs : List Float) : Type 0 where
  pub known : AllBelow choices bs 0
  pub top : Top (settings_in bs).top
  pub patch : PatchDiscarded (patch_in bs xs)

-- a call answered r, and its list l became l': it answered 1 exactly if the patch is discarded, and then it wrote nothing
pub record CallDiscards (bs : List ℕ) (xs : List Float) (l l' : List ℕ) (r : ℕ) : Type 0 where
  pub exactly : (r ≡ 1) ↔ DiscardedIn bs xs
  pub untouched : r ≡ 1 → l' ≡ l
