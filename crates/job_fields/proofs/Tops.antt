-- The first setting byte that is out of range, in each version. Assumes nothing.
use Prim.Native.Nat.{ℕ, ◌≤◌, ◌<◌}
use native.Mathlib.Decide.{dec_lt}
use native.Mathlib.Omega.{arith}
use mathlib.Core.Path.{◌≡◌, refl, sym, ◌∙◌}
use mathlib.Core.Bool.{Bool, true, false, cond}
use mathlib.Core.List.{List}
use mathlib.Core.Logic.{◌⊎◌, inl, inr}
use borrow.Author.Tests.{lt-ltb, le-ltb}
use Rattle.level.specs.Top.{is_top}
use Rattle.job_fields.specs.declared.version.Version.{Version}
use Rattle.job_fields.specs.declared.version.Version.TheVariants.{One, Two}
use Rattle.job_fields.specs.Version.{setting_bytes}
use Rattle.job_fields.specs.Settings.{choices, first_unknown_setting}
use Rattle.job_fields.specs.Tops.{top_at, unknown_place, FirstUnknown, AllSettingsKnown}
use Rattle.job_fields.proofs.Limits.{first_is, first_none}

module _ (bs : List ℕ) (at : ℕ) where
  -- version 2: the place is one of the first five, or, if these are in range, the top level decides
  pub place_setting : first_unknown_setting bs at < 5 → unknown_place Two bs at ≡ first_unknown_setting bs at
  unfolding unknown_place
  place_setting h = rw (lt-ltb _ _ h)

  pub place_top : 5 ≤ first_unknown_setting bs at → (t : Bool) → is_top (top_at Two bs at) ≡ t → unknown_place Two bs at ≡ cond t 6 5
  unfolding unknown_place
  place_top h t e = rw (le-ltb _ _ h, e)

  -- either the place is that of the first setting byte out of range, or it is past all setting bytes and all are in range
  abbrev PlaceMeans : Version → Type 0
  PlaceMeans v =
      ((unknown_place v bs at < setting_bytes v) × FirstUnknown v bs at (unknown_place v bs at)) ⊎ ((setting_bytes v ≤ unknown_place v bs at) × AllSettingsKnown v bs at)

  -- version 2, if the first five bytes are in range
  by_top : 5 ≤ first_unknown_setting bs at → (t : Bool) → is_top (top_at Two bs at) ≡ t → PlaceMeans Two
  by_top h false e = rw (place_top h false e) (inl (omega arith, inr ((first_none choices bs at).0 h, e, refl)))
  by_top h true e = rw (place_top h true e) (inr (omega arith, ((first_none choices bs at).0 h, e)))

  -- in each version
  pub place_means : (v : Version) → PlaceMeans v
  unfolding unknown_place
  place_means One = elim (dec_lt (first_unknown_setting bs at) 5) [
    | yes h ↦ inl (h, (first_is choices bs at _).0 (refl, h))
    | no h ↦ let k : 5 ≤ first_unknown_setting bs at = omega arith in inr (k, (first_none choices bs at).0 k)
  ]
  place_means Two = elim (dec_lt (first_unknown_setting bs at) 5) [
    | yes h ↦ rw (place_setting h) (inl (omega arith, inl ((first_is choices bs at _).0 (refl, h))))
    | no h ↦ by_top (omega arith) (is_top (top_at Two bs at)) refl
  ]

  -- `unknown_place` finds the first setting byte out of range
  pub first_place : (v : Version) (place : ℕ) → FirstUnknown v bs at place → (unknown_place v bs at ≡ place) × (place < setting_bytes v)
  unfolding unknown_place
  first_place One place f = (first_is choices bs at place).1 f
  first_place Two place (inl f) = let p = (first_is choices bs at place).1 f in (place_setting (omega arith) ∙ p.0, omega arith)
  first_place Two place (inr (a, t, e)) = (place_top ((first_none choices bs at).1 a) false t ∙ sym e, omega arith)

  -- it finds none if all are in range
  pub all_place : (v : Version) → AllSettingsKnown v bs at → setting_bytes v ≤ unknown_place v bs at
  unfolding unknown_place
  all_place One a = (first_none choices bs at).1 a
  all_place Two (a, t) = omega (arith, place_top ((first_none choices bs at).1 a) true t)

  -- if all settings are in range, the top level is good, as 64 is
  pub all_top : is_top 64 ≡ true → (v : Version) → AllSettingsKnown v bs at → is_top (top_at v bs at) ≡ true
  all_top h One a = h
  all_top h Two (a, t) = t
