-- 23.5, Tessellator Vertex Winding Order.
-- Assumes nothing.
use Rattle.std.specs.Prelude.{◌*◌, true, false, ℤ, pos, ◌+ℤ◌, ◌-ℤ◌}
use Rattle.patch.specs.declared.settings.VertexOrder.{VertexOrder}
use Rattle.patch.specs.declared.settings.VertexOrder.TheVariants.{Clockwise, CounterClockwise}
use Rattle.patch.specs.declared.settings.DomainOrigin.{DomainOrigin}
use Rattle.patch.specs.declared.settings.DomainOrigin.TheVariants.{UpperLeft, LowerLeft}
use Rattle.mesh_geometry.specs.Cover.{Face, HasSign}

-- the chapter's quantity a of a triangle, over whole coordinates
abbrev pub winding_area : Face → ℤ
winding_area t =
    pos (t.p.u * t.q.v) -ℤ pos (t.q.u * t.p.v) +ℤ pos (t.q.u * t.r.v) -ℤ pos (t.r.u * t.q.v) +ℤ pos (t.r.u * t.p.v)
    -ℤ pos (t.p.u * t.r.v)

abbrev pub Positive : ℤ → Type 0
Positive a = HasSign true a

abbrev pub Negative : ℤ → Type 0
Negative a = HasSign false a

-- the sign of a that the vertex order asks for, given the domain origin
abbrev pub Ordered : VertexOrder → DomainOrigin → ℤ → Type 0
Ordered CounterClockwise UpperLeft a = Negative a
Ordered Clockwise UpperLeft a = Positive a
Ordered CounterClockwise LowerLeft a = Positive a
Ordered Clockwise LowerLeft a = Negative a
