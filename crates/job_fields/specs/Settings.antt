-- The setting bytes of a record: what each value means, and which byte is out of range. Assumes nothing.
use Rattle.std.specs.Prelude.{ℕ, zero, suc, ◌+◌, ◌≤◌, ◌<◌, Bool, true, false, cond, List, [], ◌∷◌, length, get_or, ltb}
use Rattle.job_fields.specs.Bytes.{byte_at}
use Rattle.job_fields.specs.declared.setting.Kind.{Kind}
use Rattle.job_fields.specs.declared.setting.Kind.TheVariants.{Triangles, Quads, Isolines}
use Rattle.level.specs.declared.Spacing.{Spacing}
use Rattle.level.specs.declared.Spacing.TheVariants.{Equal, FractionalEven, FractionalOdd}
use Rattle.patch.specs.declared.settings.VertexOrder.{VertexOrder}
use Rattle.patch.specs.declared.settings.VertexOrder.TheVariants.{Clockwise, CounterClockwise}
use Rattle.patch.specs.declared.settings.DomainOrigin.{DomainOrigin}
use Rattle.patch.specs.declared.settings.DomainOrigin.TheVariants.{UpperLeft, LowerLeft}
use Rattle.patch.specs.declared.settings.Settings.{Settings}

-- how many values each of the first five setting bytes has: kind, spacing, vertex order, domain origin, point mode
abbrev pub choices : List ℕ
choices = 3 ∷ 3 ∷ 2 ∷ 2 ∷ 2 ∷ []

-- the place, from 0, of the first byte from `at` on that is not below its limit; the number of limits if every byte is below its own
unfoldable pub first_over : List ℕ → List ℕ → ℕ → ℕ
first_over [] bs at = 0
first_over (limit ∷ limits) bs at = cond (ltb (byte_at bs at) limit) (suc (first_over limits bs (at + 1))) 0

-- `place` is that of the first byte that is not below its limit
pub record FirstOver (limits bs : List ℕ) (at place : ℕ) : Type 0 where
  pub within : place < length limits
  pub over : get_or limits place 0 ≤ byte_at bs (at + place)
  pub below : (k : ℕ) → k < place → byte_at bs (at + k) < get_or limits k 0

-- every byte is below its limit
abbrev pub AllBelow : List ℕ → List ℕ → ℕ → Type 0
AllBelow limits bs at = (k : ℕ) → k < length limits → byte_at bs (at + k) < get_or limits k 0

-- the place of the first of the five setting bytes that is out of range, or 5
abbrev pub first_unknown_setting : List ℕ → ℕ → ℕ
first_unknown_setting bs at = first_over choices bs at

-- kind: 0 triangles, 1 quads, 2 isolines
abbrev pub kind_of : ℕ → Kind
kind_of zero = Triangles
kind_of (suc zero) = Quads
kind_of (suc (suc b)) = Isolines

-- spacing: 0 equal, 1 even, 2 odd
abbrev pub spacing_of : ℕ → Spacing
spacing_of zero = Equal
spacing_of (suc zero) = FractionalEven
spacing_of (suc (suc b)) = FractionalOdd

-- vertex order: 0 clockwise, 1 counter-clockwise
abbrev pub order_of : ℕ → VertexOrder
order_of zero = Clockwise
order_of (suc b) = CounterClockwise

-- domain origin: 0 upper-left, 1 lower-left
abbrev pub origin_of : ℕ → DomainOrigin
origin_of zero = UpperLeft
origin_of (suc b) = LowerLeft

-- point mode: 0 off, 1 on
abbrev pub point_mode_of : ℕ → Bool
point_mode_of zero = false
point_mode_of (suc b) = true

-- the byte of each value, which reads back as that value
abbrev pub kind_byte : Kind → ℕ
kind_byte Triangles = 0
kind_byte Quads = 1
kind_byte Isolines = 2

abbrev pub spacing_byte : Spacing → ℕ
spacing_byte Equal = 0
spacing_byte FractionalEven = 1
spacing_byte FractionalOdd = 2

abbrev pub order_byte : VertexOrder → ℕ
order_byte Clockwise = 0
order_byte CounterClockwise = 1

abbrev pub origin_byte : DomainOrigin → ℕ
origin_byte UpperLeft = 0
origin_byte LowerLeft = 1

abbrev pub switch_byte : Bool → ℕ
switch_byte false = 0
switch_byte true = 1

-- the settings of the record at `at`, with a given top level
abbrev pub settings_at : List ℕ → ℕ → ℕ → Settings
settings_at bs at top = record {
  spacing = spacing_of (byte_at bs (at + 1));
  order = order_of (byte_at bs (at + 2));
  origin = origin_of (byte_at bs (at + 3));
  point_mode = point_mode_of (byte_at bs (at + 4));
  top = top;
}
