-- The sides of a mesh whose triangles are given by vertex numbers. Assumes nothing.
use Prim.Native.Nat.{ℕ, zero, suc, ◌+◌, ◌≤◌, ◌<◌}
use mathlib.Core.Path.{◌≡◌, refl, ap, ap₂, sym, ◌∙◌}
use mathlib.Core.Logic.{◌⊎◌, inl, inr, ⊎_elim}
use mathlib.Core.List.{List, [], ◌∷◌, map}
use native.Mathlib.Omega.{arith}
use native.Mathlib.Decide.{dec_le}
use lib.ListN.{length, get_or, length-map}
use Rattle.strip.specs.declared.triangle.Triangle.{Triangle}
use Rattle.mesh_topology.specs.Sides.{hit, sum_sides, uses}
use Rattle.mesh_topology.proofs.Hits.{hit_at, hit_self}
use Rattle.mesh_geometry.specs.declared.Point.{Point}
use Rattle.mesh_geometry.specs.Cover.{Side, reversed, sides, side, Occurs}
use Rattle.mesh_geometry.specs.Faces.{face_of}
use Rattle.mesh_geometry.proofs.Lists.{neither}

-- a directed side by its two vertex numbers
pub record Piece : Type 0 where
  pub from : ℕ
  pub to : ℕ

abbrev none_of : Piece
none_of = record { from = 0; to = 0 }

abbrev pub drawn : (ℕ → Point) → Piece → Side
drawn P s = record { start = P s.from; end = P s.to }

pieces : List Triangle → List Piece
pieces [] = []
pieces (t ∷ ts) =
    record { from = t.a; to = t.b } ∷ record { from = t.b; to = t.c } ∷ record { from = t.c; to = t.a } ∷ pieces ts

sides_are : (P : ℕ → Point) (ts : List Triangle) → sides (map (face_of P) ts) ≡ map (drawn P) (pieces ts)
unfolding sides pieces
sides_are P [] = refl
sides_are P (t ∷ ts) = rw (sides_are P ts)

-- the sum of a weight over all pieces
tally : (ℕ → ℕ → ℕ) → List Piece → ℕ
tally f [] = 0
tally f (s ∷ ss) = f s.from s.to + tally f ss

tally_is : (f : ℕ → ℕ → ℕ) (ts : List Triangle) → sum_sides f ts ≡ tally f (pieces ts)
unfolding sum_sides pieces tally
tally_is f [] = refl
tally_is f (t ∷ ts) = omega (arith, tally_is f ts)

tally_at : (l : List Piece) (i : ℕ) → i < length l → 1 ≤ tally (hit (get_or l i none_of).from (get_or l i none_of).to) l
unfolding tally
tally_at [] i h = absurd (omega arith)
tally_at (s ∷ l) zero h = omega (arith, hit_self s.from s.to)
tally_at (s ∷ l) (suc i) h = omega (arith, tally_at l i (omega arith))

tally_two : (l : List Piece) (i j : ℕ) → i < j → j < length l → get_or l i none_of ≡ get_or l j none_of
    → 2 ≤ tally (hit (get_or l i none_of).from (get_or l i none_of).to) l
unfolding tally
tally_two [] i j h k e = absurd (omega arith)
tally_two (s ∷ l) i zero h k e = absurd (omega arith)
tally_two (s ∷ l) zero (suc j) h k e =
    omega (arith, hit_self s.from s.to, rw (← e) at (tally_at l j (omega arith)))
tally_two (s ∷ l) (suc i) (suc j) h k e = omega (arith, tally_two l i j (omega arith) (omega arith) e)

find : (x y : ℕ) (l : List Piece) → 1 ≤ tally (hit x y) l
    → (i : ℕ) × (i < length l) × (x ≡ (get_or l i none_of).from) × (y ≡ (get_or l i none_of).to)
unfolding tally
find x y [] h = absurd (omega arith)
find x y (s ∷ l) h = elim (dec_le 1 (hit x y s.from s.to)) [
  | yes k ↦ (0, omega arith, (hit_at x y _ _ k).0, (hit_at x y _ _ k).1)
  | no k ↦ let w = find x y l (omega arith) in (suc w.0, omega (arith, w.1), w.2, w.3)
]

get_map : {A B : Type 0} (f : A → B) (l : List A) (i : ℕ) (d : A) (e : B) → i < length l → get_or (map f l) i e ≡ f (get_or l i d)
get_map f [] i d e h = absurd (omega arith)
get_map f (x ∷ l) zero d e h = refl
get_map f (x ∷ l) (suc i) d e h = get_map f l i d e (omega arith)

-- what a mesh by vertex numbers needs; piece k of its outline goes from X k to Y k
pub record Joins (top total : ℕ) (X Y : ℕ → ℕ) (ts : List Triangle) : Type 0 where
  pub within : (x y : ℕ) → 1 ≤ uses x y ts → (x < top) × (y < top)
  pub single : (x y : ℕ) → uses x y ts ≤ 1
  pub outline : (k : ℕ) → k < total → uses (X k) (Y k) ts ≡ 1
  pub outside : (k : ℕ) → k < total → uses (Y k) (X k) ts ≡ 0
  pub met : (x y : ℕ) → 1 ≤ uses x y ts → ((k : ℕ) × (k < total) × (x ≡ X k) × (y ≡ Y k)) ⊎ (uses y x ts ≡ 1)

-- the same for points, no two of which are equal
module _ (P : ℕ → Point) (top total : ℕ) (X Y : ℕ → ℕ) (ts : List Triangle) (j : Joins top total X Y ts)
    (apart : (x y : ℕ) → x < top → y < top → P x ≡ P y → x ≡ y) where
  abbrev mesh : List Side
  mesh = sides (map (face_of P) ts)

  abbrev nth : ℕ → Piece
  nth i = get_or (pieces ts) i none_of

  count : length mesh ≡ length (pieces ts)
  count = rw sides_are (length-map (pieces ts) (drawn P))

  here : (i : ℕ) → i < length mesh → side mesh i ≡ drawn P (nth i)
  here i h = rw sides_are (get_map (drawn P) (pieces ts) i none_of _ (omega (arith, count)))

  used : (i : ℕ) → i < length mesh → 1 ≤ uses (nth i).from (nth i).to ts
  used i h = rw tally_is (tally_at (pieces ts) i (omega (arith, count)))

  occurs : (x y : ℕ) → 1 ≤ uses x y ts → Occurs (drawn P (record { from = x; to = y })) mesh
  occurs x y h =
      let w = find x y (pieces ts) (rw tally_is at h) in
      let l : w.0 < length mesh = omega (arith, w.1, count) in
      (w.0, l, here w.0 l ∙ ap₂ (λ a b. drawn P (record { from = a; to = b })) (sym w.2) (sym w.3))

  -- a side whose points are those of x→y is x→y
  alike : (i x y : ℕ) → i < length mesh → x < top → y < top → side mesh i ≡ drawn P (record { from = x; to = y })
      → ((nth i).from ≡ x) × ((nth i).to ≡ y)
  alike i x y l m n e =
      let d = sym (here i l) ∙ e in
      let w = j.within _ _ (used i l) in
      (apart _ x w.0 m (ap (λ (s : Side). s.start) d), apart _ y w.1 n (ap (λ (s : Side). s.end) d))

  single_less : (i k : ℕ) → i < k → k < length mesh → side mesh i ≡ side mesh k → ⊥
  single_less i k l m e =
      let w = j.within _ _ (used k m) in
      let a = alike i (nth k).from (nth k).to (omega arith) w.0 w.1 (e ∙ here k m) in
      omega (
        arith,
        rw (← tally_is) at (tally_two (pieces ts) i k l (omega (arith, count)) (λ n. record { from = a.0 n; to = a.1 n })),
        j.single (nth i).from (nth i).to,
      )

  pub single_side : (i k : ℕ) → i < length mesh → k < length mesh → side mesh i ≡ side mesh k → i ≡ k
  single_side i k l m e = neither i k (λ h. single_less i k h m e) (λ h. single_less k i h l (sym e))

  pub outlined_side : (k : ℕ) → k < total → Occurs (drawn P (record { from = X k; to = Y k })) mesh
  outlined_side k h = occurs (X k) (Y k) (omega (arith, j.outline k h))

  pub outside_side : (k : ℕ) → k < total → Occurs (drawn P (record { from = Y k; to = X k })) mesh → ⊥
  outside_side k h o =
      let w = j.within (X k) (Y k) (omega (arith, j.outline k h)) in
      let a = alike o.0 (Y k) (X k) o.1 w.1 w.0 o.2 in
      omega (arith, j.outside k h, rw (a.0, a.1) at (used o.0 o.1))

  pub closed_side : (i : ℕ) → i < length mesh
      → ((k : ℕ) × (k < total) × (side mesh i ≡ drawn P (record { from = X k; to = Y k }))) ⊎ Occurs (reversed (side mesh i)) mesh
  closed_side i h =
      ⊎_elim (λ m. inl (m.0, m.1, here i h ∙ ap₂ (λ a b. drawn P (record { from = a; to = b })) m.2 m.3))
      (λ m. inr (let o = occurs _ _ (omega (arith, m)) in (o.0, o.1, o.2 ∙ ap reversed (sym (here i h))))) (j.met _ _ (used i h))
