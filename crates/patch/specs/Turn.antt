-- The orientation of a patch's triangles. Assumes nothing.
use Rattle.std.specs.Prelude.{Bool, true, false}
use Rattle.patch.specs.declared.settings.VertexOrder.{VertexOrder}
use Rattle.patch.specs.declared.settings.VertexOrder.TheVariants.{Clockwise, CounterClockwise}
use Rattle.patch.specs.declared.settings.DomainOrigin.{DomainOrigin}
use Rattle.patch.specs.declared.settings.DomainOrigin.TheVariants.{UpperLeft, LowerLeft}
use Rattle.patch.specs.declared.settings.Settings.{Settings}

-- vertex order and domain origin ask for the orientation that strips have, with positive areas
abbrev pub positive : VertexOrder → DomainOrigin → Bool
positive Clockwise UpperLeft = true
positive Clockwise LowerLeft = false
positive CounterClockwise UpperLeft = false
positive CounterClockwise LowerLeft = true

-- the orientation that the settings ask for: true if the signed areas are to be positive
abbrev pub turn_asked : Settings → Bool
turn_asked s = positive s.order s.origin
