-- Stokes' theorem for a mesh that covers its patch: for every weight of directed sides, the sum over the sides minus the sum
-- over their reverses is the same as for the outline. Assumes nothing.
use Prim.Native.Nat.{ℕ, ◌+◌, ◌≤◌, ◌<◌}
use mathlib.Core.Path.{◌≡◌, ap, sym, ◌∙◌}
use mathlib.Core.Logic.{◌⊎◌, inl, inr, ⊎_elim}
use mathlib.Core.Bool.{Bool}
use mathlib.Core.List.Memᴰ
use mathlib.Core.List.{List, ◌++◌, map, Memᴰ}
use native.Mathlib.Omega.{arith}
use lib.ListN.{length}
use Rattle.mesh_geometry.specs.declared.Point.{Point}
use Rattle.mesh_geometry.specs.Cover.{Face, Side, reversed, sides, side, piece, Occurs, Cover}
use Rattle.mesh_geometry.proofs.Lists.{Distinct, distinct_append}
use Rattle.mesh_geometry.proofs.Members.{sum, sum_append, sum_map, member_at, at_member, all_members, distinct_places, distinct_map, within_sum}
use Rattle.mesh_geometry.proofs.Walk.{pieces, each_piece, piece_member, pieces_distinct}

-- the weight of the reversed side
abbrev pub back : (Side → ℕ) → Side → ℕ
back f s = f (reversed s)

-- no side of ss occurs twice, and each has its reverse in ss, except the pieces ps of an outline
pub record Closed (ss ps : List Side) : Type 0 where
  pub single : Distinct ss
  pub apart : Distinct ps
  pub outlined : (x : Side) → Memᴰ x ps → Memᴰ x ss
  pub outside : (x : Side) → Memᴰ x ps → Memᴰ (reversed x) ss → ⊥
  pub closed : (x : Side) → Memᴰ x ss → Memᴰ x ps ⊎ Memᴰ (reversed x) ss

module _ {ss ps : List Side} (c : Closed ss ps) where
  -- with the reversed pieces added, each side has its reverse
  abbrev all : List Side
  all = ss ++ map reversed ps

  all_distinct : Distinct all
  all_distinct =
      distinct_append (λ x. Memᴰ x ss) (λ y. Memᴰ (reversed y) ps) (map reversed ps)
      (λ x y m n e. c.outside (reversed y) n (Memᴰ.cast (sym e) m))
      (all_members ss (λ x m. m))
      (all_members (map reversed ps) (λ y m. let w = Memᴰ.of_map reversed ps m in Memᴰ.cast (ap reversed (sym w.2)) w.1))
      c.single (distinct_map reversed (λ x y e. ap reversed e) c.apart)

  meets : (x : Side) → Memᴰ x all → Memᴰ (reversed x) all
  meets x m = ⊎_elim
      (λ n. ⊎_elim (λ p. Memᴰ.append_right ss (Memᴰ.map reversed p)) (λ r. Memᴰ.append_left (map reversed ps) r) (c.closed x n))
      (λ n. let w = Memᴰ.of_map reversed ps n in
      Memᴰ.append_left (map reversed ps) (Memᴰ.cast (ap reversed (sym w.2)) (c.outlined w.0 w.1)))
      (Memᴰ.append_cases ss m)

  half : (f : Side → ℕ) → sum f all ≤ sum (back f) all
  half f = rw (← (sum_map reversed f all)) (within_sum f (map reversed all) all_distinct (λ x m. Memᴰ.map reversed (meets x m)))

  pub stokes : (f : Side → ℕ) → sum f ss + sum (back f) ps ≡ sum (back f) ss + sum f ps
  stokes f = omega (
    arith,
    half f,
    half (back f),
    sum_append f ss (map reversed ps),
    sum_append (back f) ss (map reversed ps),
    sum_map reversed f ps,
    sum_map reversed (back f) ps,
  )

-- four fields of `Cover` give this for a mesh: `single`, `outlined`, `outside` and `closed`
pub sides_closed : (b : Bool) (outline : List Point) (faces : List Face)
    → ((i j : ℕ) → i < length (sides faces) → j < length (sides faces) → side (sides faces) i ≡ side (sides faces) j → i ≡ j)
    → ((k : ℕ) → k < length outline → Occurs (piece b outline k) (sides faces))
    → ((k : ℕ) → k < length outline → Occurs (reversed (piece b outline k)) (sides faces) → ⊥)
    → ((i : ℕ) → i < length (sides faces)
    → ((k : ℕ) × (k < length outline) × (side (sides faces) i ≡ piece b outline k)) ⊎ Occurs (reversed (side (sides faces) i)) (sides faces))
    → Distinct outline → Closed (sides faces) (pieces b outline)
sides_closed b outline faces single outlined outside closed d = record {
  single = distinct_places (sides faces) _ single;
  apart = pieces_distinct b d;
  outlined = each_piece b outline (λ x. Memᴰ x (sides faces))
      (λ k h. let w = outlined k h in Memᴰ.cast (sym w.2) (member_at (sides faces) _ w.0 w.1));
  outside = each_piece b outline (λ x. Memᴰ (reversed x) (sides faces) → ⊥) (λ k h m. outside k h (at_member _ m));
  closed = λ x m. let w = at_member _ m in
      ⊎_elim (λ p. inl (Memᴰ.cast (sym w.2 ∙ p.2) (piece_member b outline p.0 p.1)))
      (λ r. inr (Memᴰ.cast (ap reversed (sym w.2) ∙ sym r.2) (member_at (sides faces) _ r.0 r.1))) (closed w.0 w.1);
}

pub cover_closed : {b : Bool} {area : ℕ} {outline points : List Point} {faces : List Face}
    → Cover b area outline points faces → Distinct outline → Closed (sides faces) (pieces b outline)
cover_closed {b} {area} {outline} {points} {faces} c = sides_closed b outline faces c.single c.outlined c.outside c.closed
