-- The number of points and indices of a patch, in closed form. Assumes nothing.
use Rattle.std.specs.Prelude.{ℕ, ◌+◌, ◌-◌, ◌*◌, ◌/◌, Bool, true, false}
use Rattle.patch.specs.declared.settings.Settings.{Settings}
use Rattle.patch.specs.declared.subdivision.Subdivision.{Subdivision}
use Rattle.patch.specs.declared.subdivision.Subdivision.TheVariants.{Discarded, PlainTriangle, Triangle, PlainQuad, Quad, Lines}

-- how many points lie inside the outer ring of a triangle patch whose inner level gives n segments
abbrev pub inside_points : ℕ → ℕ
inside_points n = (3 * ((n - 1) * (n - 1)) + 1) / 4

-- how many triangles such a patch has, less one for each segment of the outer ring
abbrev pub inside_triangles : ℕ → ℕ
inside_triangles n = 3 * (n - 2) + 3 * ((n - 2) * (n - 2)) / 2

-- how many points a patch has
unfoldable pub point_count : Subdivision → ℕ
point_count Discarded = 0
point_count PlainTriangle = 3
point_count (Triangle a b c i) = a.count + b.count + c.count + inside_points i.count
point_count PlainQuad = 4
point_count (Quad a b c d m n) = a.count + b.count + c.count + d.count + (m.count - 1) * (n.count - 1)
point_count (Lines m n) = m.count * (n.count + 1)

-- how many indices its triangles or lines have
unfoldable pub primitive_count : Subdivision → ℕ
primitive_count Discarded = 0
primitive_count PlainTriangle = 3
primitive_count (Triangle a b c i) = 3 * (a.count + b.count + c.count + inside_triangles i.count)
primitive_count PlainQuad = 6
primitive_count (Quad a b c d m n) =
    3 * (a.count + b.count + c.count + d.count + 2 * (m.count - 2) + 2 * (n.count - 2) + 2 * ((m.count - 2) * (n.count - 2)))
primitive_count (Lines m n) = 2 * (m.count * n.count)

-- how many indices a patch has; point mode has one per point
abbrev pub count_in : Bool → Subdivision → ℕ
count_in false s = primitive_count s
count_in true s = point_count s

-- how many indices a patch has with these settings
abbrev pub index_count : Settings → Subdivision → ℕ
index_count set s = count_in set.point_mode s
