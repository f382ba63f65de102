-- 23.6 and 23.7: the triangles of a strip join its two lines, and fill the area between them.
-- Assumes nothing.
use Prim.Native.Nat.{ℕ, zero, suc, ◌+◌, ◌≤◌, ◌<◌}
use mathlib.Core.Path.{◌≡◌, refl}
use mathlib.Core.Bool.{Bool, true, false}
use mathlib.Core.List.Memᴰ
use mathlib.Core.List.Perm
use mathlib.Core.List.{List, [], ◌∷◌, map, Perm}
use native.Mathlib.Omega.{arith}
use native.Mathlib.Decide.{dec_le}
use Rattle.strip.specs.declared.triangle.Triangle.{Triangle}
use Rattle.strip.specs.Triangles.{turned}
use Rattle.strip.specs.Mirror.{SameCorners}
use Rattle.strip.specs.Rule.{outer_next, step_outer, step_inner}
use Rattle.strip.specs.Strips.{step_triangle, strip_from, strip}
use Rattle.strip.proofs.Rule.{Rule, rule}
use Rattle.mesh_topology.specs.Quad.{joined_lists}
use Rattle.mesh_topology.proofs.Walk.{Way, on}
use Rattle.mesh_geometry.proofs.Lists.{All, none, more}
use Rattle.mesh_geometry.proofs.Members.{all_member}
use Rattle.vulkan_chapter.specs.Members.{Member}
use Rattle.vulkan_chapter.specs.Between.{NumberedLine, Based, Joins, on_first, on_second, BaseDrawn, BandFilled}

-- ---- corners in another order
backwards : (x y z : ℕ) → Perm (x ∷ y ∷ z ∷ []) (z ∷ y ∷ x ∷ [])
backwards x y z = Perm.trans (Perm.swap y x (z ∷ [])) (Perm.trans (Perm.cons y (Perm.swap z x [])) (Perm.swap z y (x ∷ [])))

pub same_turned : (b : Bool) (t : Triangle) → SameCorners (turned b t) t
same_turned true t = Perm.refl _
same_turned false t = Perm.cons t.a (Perm.swap t.b t.c [])

module _ {A B : NumberedLine} {s t : Triangle} (same : SameCorners s t) where
  based_same : {a : ℕ} → Based A B a t → Based A B a s
  based_same w = record { b = w.b; on = w.on; corners = Perm.trans same w.corners }

pub joins_same : {A B : NumberedLine} {s t : Triangle} → SameCorners s t → Joins A B t → Joins A B s
joins_same same (on_first a h w) = on_first a h (based_same same w)
joins_same same (on_second b h w) = on_second b h (based_same same w)

-- ---- lists of triangles
pub member_joined : (L : ℕ → List Triangle) (n k : ℕ) {t : Triangle} → k < n → Member t (L k) → Member t (joined_lists L n)
unfolding joined_lists
member_joined L zero k h m = absurd (omega arith)
member_joined L (suc n) k h m = elim (dec_le n k) [
  | yes l ↦ let e : k ≡ n = omega arith in Memᴰ.append_right (joined_lists L n) (rw e at m)
  | no l ↦ Memᴰ.append_left (L n) (member_joined L n k (omega arith) m)
]

-- what holds for every triangle, whatever the order of its corners, holds for the turned triangles
pub each_turned : (b : Bool) {Q : Triangle → Type 0} (ts : List Triangle) → ((s t : Triangle) → SameCorners s t → Q t → Q s) → All Q ts
    → (t : Triangle) → Member t (map (turned b) ts) → Q t
each_turned b ts same h t m =
    let w = Memᴰ.of_map (turned b) ts m in
    rw (← w.2) (same (turned b w.0) w.0 (same_turned b w.0) (all_member h w.1))

base_in : {A B : NumberedLine} {ts ts' : List Triangle} {a : ℕ} → ((t : Triangle) → Member t ts → Member t ts') → BaseDrawn A B ts a → BaseDrawn A B ts' a
base_in f d = record { triangle = d.triangle; drawn = f d.triangle d.drawn; based = d.based }

pub filled_in : {A B : NumberedLine} {ts ts' : List Triangle} → ((t : Triangle) → Member t ts → Member t ts') → BandFilled A B ts → BandFilled A B ts'
filled_in f w = record { first = λ a h. base_in f (w.first a h); second = λ b h. base_in f (w.second b h) }

base_turned : (b : Bool) {A B : NumberedLine} {ts : List Triangle} {a : ℕ} → BaseDrawn A B ts a → BaseDrawn A B (map (turned b) ts) a
base_turned b d = record {
  triangle = turned b d.triangle;
  drawn = Memᴰ.map (turned b) d.drawn;
  based = based_same (same_turned b d.triangle) d.based;
}

pub filled_turned : (b : Bool) {A B : NumberedLine} {ts : List Triangle} → BandFilled A B ts → BandFilled A B (map (turned b) ts)
filled_turned b w = record { first = λ a h. base_turned b (w.first a h); second = λ c h. base_turned b (w.second c h) }

-- ---- a strip
module _ (A B : NumberedLine) where
  step_joins : (t : Bool) (a b : ℕ) → a ≤ A.segments → b ≤ B.segments → step_outer t a ≤ A.segments → step_inner t b ≤ B.segments
      → Joins A B (step_triangle A.vertex B.vertex t a b)
  step_joins true a b u v l m = on_first a l (record { b = b; on = v; corners = Perm.refl _ })
  step_joins false a b u v l m = on_second b m (record { b = a; on = u; corners = backwards (A.vertex a) (B.vertex (suc b)) (B.vertex b) })

  later : {C D : NumberedLine} {t : Triangle} {ts : List Triangle} {x : ℕ} → BaseDrawn C D ts x → BaseDrawn C D (t ∷ ts) x
  later d = base_in (λ t m. Memᴰ.tail m) d

  -- a step passes its own segment, and no other
  first_step : (t : Bool) (ts : List Triangle) (a b x : ℕ) → b ≤ B.segments → a ≤ x → (step_outer t a ≤ x → BaseDrawn A B ts x)
      → BaseDrawn A B (step_triangle A.vertex B.vertex t a b ∷ ts) x
  first_step false ts a b x v h k = later (k h)
  first_step true ts a b x v h k = elim (dec_le (suc a) x) [
    | yes l ↦ later (k l)
    | no l ↦
        let e : x ≡ a = omega arith in
        rw e (record { triangle = _; drawn = Memᴰ.head refl; based = record { b = b; on = v; corners = Perm.refl _ } })
  ]

  second_step : (t : Bool) (ts : List Triangle) (a b x : ℕ) → a ≤ A.segments → b ≤ x → (step_inner t b ≤ x → BaseDrawn B A ts x)
      → BaseDrawn B A (step_triangle A.vertex B.vertex t a b ∷ ts) x
  second_step true ts a b x u h k = later (k h)
  second_step false ts a b x u h k = elim (dec_le (suc b) x) [
    | yes l ↦ later (k l)
    | no l ↦
        let e : x ≡ b = omega arith in
        let c = backwards (A.vertex a) (B.vertex (suc b)) (B.vertex b) in
        rw e (record { triangle = _; drawn = Memᴰ.head refl; based = record { b = a; on = u; corners = c } })
  ]

  module _ (next : ℕ → ℕ → Bool) (keeps : Rule next A.segments B.segments) where
    abbrev walk : ℕ → ℕ → ℕ → List Triangle
    walk n a b = strip_from A.vertex B.vertex next n a b

    abbrev Left : ℕ → ℕ → ℕ → Type 0
    Left n a b = Way A.segments B.segments n a b

    further : (n a b : ℕ) → Left (suc n) a b → Left n (step_outer (next a b) a) (step_inner (next a b) b)
    further n a b w = on A.vertex B.vertex next A.segments B.segments keeps n a b w

    walk_joins : (n a b : ℕ) → Left n a b → All (Joins A B) (walk n a b)
    unfolding strip_from
    walk_joins zero a b w = none
    walk_joins (suc n) a b w =
        let z = further n a b w in
        more (step_joins (next a b) a b w.outer w.inner z.outer z.inner) (walk_joins n _ _ z)

    walk_first : (n a b : ℕ) → Left n a b → (x : ℕ) → a ≤ x → x < A.segments → BaseDrawn A B (walk n a b) x
    unfolding strip_from
    walk_first zero a b w x h l = absurd (omega (arith, w.left, w.inner))
    walk_first (suc n) a b w x h l = first_step (next a b) _ a b x w.inner h (λ k. walk_first n _ _ (further n a b w) x k l)

    walk_second : (n a b : ℕ) → Left n a b → (x : ℕ) → b ≤ x → x < B.segments → BaseDrawn B A (walk n a b) x
    unfolding strip_from
    walk_second zero a b w x h l = absurd (omega (arith, w.left, w.outer))
    walk_second (suc n) a b w x h l = second_step (next a b) _ a b x w.outer h (λ k. walk_second n _ _ (further n a b w) x k l)

  start : Way A.segments B.segments (A.segments + B.segments) 0 0
  start = record { outer = omega arith; inner = omega arith; left = omega arith }

  pub strip_joins : All (Joins A B) (strip A.vertex B.vertex A.segments B.segments)
  strip_joins = walk_joins (outer_next A.segments B.segments) (rule A.segments B.segments) (A.segments + B.segments) 0 0 start

  pub strip_fills : BandFilled A B (strip A.vertex B.vertex A.segments B.segments)
  strip_fills =
      let next = outer_next A.segments B.segments in
      let keeps = rule A.segments B.segments in
      let n = A.segments + B.segments in
      record {
        first = λ a h. walk_first next keeps n 0 0 start a (omega arith) h;
        second = λ b h. walk_second next keeps n 0 0 start b (omega arith) h;
      }
