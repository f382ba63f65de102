-- What demand 3 asks of one drawn mesh: its points and triangles, with directed sides by their end points and signed areas as
-- whole numbers. Assumes nothing.
use Rattle.std.specs.Prelude.{ℕ, suc, ◌<◌, ◌≡◌, Bool, true, false, ◌⊎◌, List, [], ◌∷◌, length, get_or, ℤ, pos, neg_ℤ, ◌+ℤ◌, ◌-ℤ◌, ◌*ℤ◌}
use Rattle.mesh_geometry.specs.declared.Point.{Point}

-- a triangle by its corners P, Q and R
pub record Face : Type 0 where
  pub p : Point
  pub q : Point
  pub r : Point

-- a directed side
pub record Side : Type 0 where
  pub start : Point
  pub end : Point

-- the side in the reverse direction
abbrev pub reversed : Side → Side
reversed s = record { start = s.end; end = s.start }

-- the value of a look-up past the end of a list of points; the statements below never use it
abbrev pub missing : Point
missing = record { u = 0; v = 0; w = 0 }

-- the three directed sides of each triangle, in order
unfoldable pub sides : List Face → List Side
sides [] = []
sides (t ∷ ts) =
    record { start = t.p; end = t.q } ∷ record { start = t.q; end = t.r } ∷ record { start = t.r; end = t.p } ∷ sides ts

-- side number i
abbrev pub side : List Side → ℕ → Side
side ss i = get_or ss i (record { start = missing; end = missing })

-- a − b, with its sign
abbrev pub difference : ℕ → ℕ → ℤ
difference a b = pos a -ℤ pos b

-- twice the signed area of a triangle: (uQ − uP)·(vR − vP) − (uR − uP)·(vQ − vP)
unfoldable pub twice_area : Face → ℤ
twice_area t =
    difference t.q.u t.p.u *ℤ difference t.r.v t.p.v -ℤ difference t.r.u t.p.u *ℤ difference t.q.v t.p.v

-- the sum of that over all triangles
unfoldable pub total_twice_area : List Face → ℤ
unfolding twice_area
total_twice_area [] = pos 0
total_twice_area (t ∷ ts) = twice_area t +ℤ total_twice_area ts

-- n if the orientation asked for is the positive one, else −n
abbrev pub signed : Bool → ℕ → ℤ
signed true n = pos n
signed false n = neg_ℤ (pos n)

-- z is not 0, and has the sign of the orientation asked for
pub record HasSign (positive : Bool) (z : ℤ) : Type 0 where
  pub size : ℕ
  pub above : 0 < size
  pub is : z ≡ signed positive size

-- the point after point k of a closed outline
unfoldable pub next_point : List Point → ℕ → Point
next_point ps k = get_or ps (suc k) (get_or ps 0 missing)

-- a side, reversed if the orientation asked for is the negative one
abbrev pub directed : Bool → Side → Side
directed true s = s
directed false s = reversed s

-- piece k of an outline in the orientation asked for: from point k to the next point, or back
abbrev pub piece : Bool → List Point → ℕ → Side
piece positive ps k = directed positive (record { start = get_or ps k missing; end = next_point ps k })

-- s is one of the sides
abbrev pub Occurs : Side → List Side → Type 0
Occurs s ss = (i : ℕ) × (i < length ss) × (side ss i ≡ s)

-- no two points are equal
abbrev pub AllDistinct : List Point → Type 0
AllDistinct ps = (i j : ℕ) → i < length ps → j < length ps → get_or ps i missing ≡ get_or ps j missing → i ≡ j

-- the mesh covers its patch: `positive` is the orientation asked for, `area` twice the area of the patch, `outline` the points
-- of the outline in walk order
pub record Cover (positive : Bool) (area : ℕ) (outline points : List Point) (faces : List Face) : Type 0 where
  pub distinct : AllDistinct points
  -- every triangle has an area, and the orientation asked for
  pub turned : (k : ℕ) → k < length faces
      → HasSign positive (twice_area (get_or faces k (record { p = missing; q = missing; r = missing })))
  -- no directed side occurs twice
  pub single : (i j : ℕ) → i < length (sides faces) → j < length (sides faces) → side (sides faces) i ≡ side (sides faces) j → i ≡ j
  -- each piece of the outline is a side (by `single`, exactly once), and its reverse is not
  pub outlined : (k : ℕ) → k < length outline → Occurs (piece positive outline k) (sides faces)
  pub outside : (k : ℕ) → k < length outline → Occurs (reversed (piece positive outline k)) (sides faces) → ⊥
  -- every other side has its reverse among the sides
  pub closed : (i : ℕ) → i < length (sides faces)
      → ((k : ℕ) × (k < length outline) × (side (sides faces) i ≡ piece positive outline k))
      ⊎ Occurs (reversed (side (sides faces) i)) (sides faces)
  -- the areas add up to that of the patch
  pub whole : total_twice_area faces ≡ signed positive area
