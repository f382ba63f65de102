-- Each setting and its byte determine each other. Assumes nothing.
use Prim.Native.Nat.{ℕ, zero, suc, ◌+◌, ◌≤◌, ◌<◌}
use native.Mathlib.Nat.{add-zero}
use native.Mathlib.Omega.{arith}
use mathlib.Core.Path.{◌≡◌, refl, sym}
use mathlib.Core.Bool.{Bool, true, false}
use mathlib.Core.List.{List}
use lib.ListN.{length, get_or}
use Rattle.level.specs.declared.Spacing.{Spacing}
use Rattle.level.specs.declared.Spacing.TheVariants.{Equal, FractionalEven, FractionalOdd}
use Rattle.patch.specs.declared.settings.VertexOrder.{VertexOrder}
use Rattle.patch.specs.declared.settings.VertexOrder.TheVariants.{Clockwise, CounterClockwise}
use Rattle.patch.specs.declared.settings.DomainOrigin.{DomainOrigin}
use Rattle.patch.specs.declared.settings.DomainOrigin.TheVariants.{UpperLeft, LowerLeft}
use Rattle.patch.specs.declared.settings.Settings.{Settings}
use Rattle.job_fields.specs.declared.setting.Kind.{Kind}
use Rattle.job_fields.specs.declared.setting.Kind.TheVariants.{Triangles, Quads, Isolines}
use Rattle.job_fields.specs.Bytes.{byte_at}
use Rattle.job_fields.specs.Settings.{choices, kind_of, spacing_of, order_of, origin_of, point_mode_of, settings_at, AllBelow}
use Rattle.job_fields.specs.Settings.{kind_byte, spacing_byte, order_byte, origin_byte, switch_byte}
use Rattle.job_bytes.specs.Written.{five_bytes}
use Rattle.job_writer.proofs.Has.{Has, has_byte, has_all}

-- ---- a byte in range is the byte of its meaning
module _ {A : Type 0} (f : ℕ → A) (g : A → ℕ) where
  two : g (f 0) ≡ 0 → g (f 1) ≡ 1 → (b : ℕ) → b < 2 → g (f b) ≡ b
  two p q zero h = p
  two p q (suc zero) h = q
  two p q (suc (suc b)) h = absurd (omega arith)

  three : g (f 0) ≡ 0 → g (f 1) ≡ 1 → g (f 2) ≡ 2 → (b : ℕ) → b < 3 → g (f b) ≡ b
  three p q r zero h = p
  three p q r (suc zero) h = q
  three p q r (suc (suc zero)) h = r
  three p q r (suc (suc (suc b))) h = absurd (omega arith)

-- ---- the byte of a setting is in range, and means the setting
kind_back : (k : Kind) → (kind_byte k < 3) × (kind_of (kind_byte k) ≡ k)
kind_back Triangles = (omega arith, refl)
kind_back Quads = (omega arith, refl)
kind_back Isolines = (omega arith, refl)

spacing_back : (s : Spacing) → (spacing_byte s < 3) × (spacing_of (spacing_byte s) ≡ s)
spacing_back Equal = (omega arith, refl)
spacing_back FractionalEven = (omega arith, refl)
spacing_back FractionalOdd = (omega arith, refl)

order_back : (o : VertexOrder) → (order_byte o < 2) × (order_of (order_byte o) ≡ o)
order_back Clockwise = (omega arith, refl)
order_back CounterClockwise = (omega arith, refl)

origin_back : (o : DomainOrigin) → (origin_byte o < 2) × (origin_of (origin_byte o) ≡ o)
origin_back UpperLeft = (omega arith, refl)
origin_back LowerLeft = (omega arith, refl)

switch_back : (b : Bool) → (switch_byte b < 2) × (point_mode_of (switch_byte b) ≡ b)
switch_back false = (omega arith, refl)
switch_back true = (omega arith, refl)

module _ (k : Kind) (s : Settings) where
  five_below : (i : ℕ) → i < 5 → get_or (five_bytes k s) i 0 < get_or choices i 0
  five_below zero h = (kind_back k).0
  five_below (suc zero) h = (spacing_back s.spacing).0
  five_below (suc (suc zero)) h = (order_back s.order).0
  five_below (suc (suc (suc zero))) h = (origin_back s.origin).0
  five_below (suc (suc (suc (suc zero)))) h = (switch_back s.point_mode).0
  five_below (suc (suc (suc (suc (suc i))))) h = absurd (omega arith)

  module _ {bs : List ℕ} {at : ℕ} (has : Has bs at (five_bytes k s)) where
    -- the five bytes of a written record are in range
    pub five_known : AllBelow choices bs at
    five_known i h = rw (has_byte has i h) (five_below i h)

    -- the bytes are read as the kind
    pub five_kind : kind_of (byte_at bs at) ≡ k
    five_kind = rw (rw (add-zero at) at (has_byte has 0 (omega arith)), (kind_back k).1)

    -- the bytes are read as the settings, except the top level
    pub five_settings : settings_at bs at s.top ≡ s
    five_settings = rw (
      has_byte has 1 (omega arith),
      has_byte has 2 (omega arith),
      has_byte has 3 (omega arith),
      has_byte has 4 (omega arith),
      (spacing_back s.spacing).1,
      (order_back s.order).1,
      (origin_back s.origin).1,
      (switch_back s.point_mode).1,
    )

module _ (bs : List ℕ) (at top : ℕ) (known : AllBelow choices bs at) where
  abbrev again : List ℕ
  again = five_bytes (kind_of (byte_at bs at)) (settings_at bs at top)

  five_same : (i : ℕ) → i < 5 → byte_at bs (at + i) ≡ get_or again i 0
  five_same zero h = rw (add-zero at) (sym (three kind_of kind_byte refl refl refl (byte_at bs at) (rw (add-zero at) at (known 0 h))))
  five_same (suc zero) h = sym (three spacing_of spacing_byte refl refl refl (byte_at bs (at + 1)) (known 1 h))
  five_same (suc (suc zero)) h = sym (two order_of order_byte refl refl (byte_at bs (at + 2)) (known 2 h))
  five_same (suc (suc (suc zero))) h = sym (two origin_of origin_byte refl refl (byte_at bs (at + 3)) (known 3 h))
  five_same (suc (suc (suc (suc zero)))) h = sym (two point_mode_of switch_byte refl refl (byte_at bs (at + 4)) (known 4 h))
  five_same (suc (suc (suc (suc (suc i))))) h = absurd (omega arith)

  -- five bytes in range are those of the kind and the settings they mean
  pub five_again : at + 5 ≤ length bs → Has bs at again
  five_again h = has_all bs at again h five_same
