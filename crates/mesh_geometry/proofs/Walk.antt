-- The pieces of a closed outline as a list, in walk order. Assumes nothing.
use Prim.Native.Nat.{ℕ, zero, suc, ◌<◌}
use mathlib.Core.Path.{◌≡◌, refl, ap, ◌∙◌}
use mathlib.Core.Bool.{Bool, true, false}
use mathlib.Core.List.{List, [], ◌∷◌, ◌++◌, map, Memᴰ}
use native.Mathlib.Omega.{arith}
use lib.ListN.{length, get_or, length-map, get_or-map}
use Rattle.mesh_geometry.specs.declared.Point.{Point}
use Rattle.mesh_geometry.specs.Cover.{Side, reversed, missing, next_point, directed, piece}
use Rattle.mesh_geometry.proofs.Lists.{All, none, more, all_more, Distinct}
use Rattle.mesh_geometry.proofs.Members.{member_at, at_member, distinct_map}

-- the sides from each point to the next, and from the last to z
unfoldable pub walk : Point → List Point → List Side
walk z [] = []
walk z (p ∷ ps) = record { start = p; end = get_or ps 0 z } ∷ walk z ps

-- all pieces of an outline, in walk order
abbrev pub walked : List Point → List Side
walked ps = walk (get_or ps 0 missing) ps

-- the pieces in the orientation asked for
abbrev pub pieces : Bool → List Point → List Side
pieces b ps = map (directed b) (walked ps)

pub walk_append : (z : Point) (ps qs : List Point) → walk z (ps ++ qs) ≡ walk (get_or qs 0 z) ps ++ walk z qs
unfolding walk
walk_append z [] qs = refl
walk_append z (p ∷ []) qs = refl
walk_append z (p ∷ q ∷ ps) qs = rw (walk_append z (q ∷ ps) qs)

walk_length : (z : Point) (ps : List Point) → length (walk z ps) ≡ length ps
unfolding walk
walk_length z [] = refl
walk_length z (p ∷ ps) = ap suc (walk_length z ps)

walk_at : (z : Point) (d : Side) (ps : List Point) (k : ℕ) → k < length ps
    → get_or (walk z ps) k d ≡ record { start = get_or ps k missing; end = get_or ps (suc k) z }
unfolding walk
walk_at z d [] k h = absurd (omega arith)
walk_at z d (p ∷ ps) zero h = refl
walk_at z d (p ∷ ps) (suc k) h = walk_at z d ps k (omega arith)

module _ (b : Bool) (ps : List Point) where
  pub pieces_length : length (pieces b ps) ≡ length ps
  pieces_length = length-map (walked ps) (directed b) ∙ walk_length _ ps

  abbrev unused : Side
  unused = record { start = missing; end = missing }

  pub piece_at : (k : ℕ) → k < length ps → get_or (pieces b ps) k (directed b unused) ≡ piece b ps k
  unfolding next_point
  piece_at k h = get_or-map (directed b) (walked ps) k unused ∙ ap (directed b) (walk_at _ _ ps k h)

  -- a property of each piece by number holds for every piece in the list
  pub each_piece : (Q : Side → Type 0) → ((k : ℕ) → k < length ps → Q (piece b ps k)) → (x : Side) → Memᴰ x (pieces b ps) → Q x
  each_piece Q law x m =
      let w = at_member (directed b unused) m in
      let l : w.0 < length ps = omega (arith, w.1, pieces_length) in
      rw (← w.2, piece_at w.0 l) (law w.0 l)

  pub piece_member : (k : ℕ) → k < length ps → Memᴰ (piece b ps k) (pieces b ps)
  piece_member k h = rw (← (piece_at k h)) (member_at (pieces b ps) _ k (omega (arith, pieces_length)))

-- an outline of distinct points has distinct pieces
walk_starts : {Q : Point → Type 0} (z : Point) {ps : List Point} → All Q ps → All (λ s. Q s.start) (walk z ps)
unfolding walk
walk_starts z none = none
walk_starts z (more h hs) = more h (walk_starts z hs)

walk_distinct : (z : Point) {ps : List Point} → Distinct ps → Distinct (walk z ps)
unfolding walk
walk_distinct z none = none
walk_distinct z (more apart d) = more (all_more (λ s h e. h (ap (λ (t : Side). t.start) e)) (walk_starts z apart)) (walk_distinct z d)

pub pieces_distinct : (b : Bool) {ps : List Point} → Distinct ps → Distinct (pieces b ps)
pieces_distinct b d = distinct_map (directed b) (same b) (walk_distinct _ d)
  where
    same : (b : Bool) (x y : Side) → directed b x ≡ directed b y → x ≡ y
    same true x y e = e
    same false x y e = ap reversed e
