-- 23.3: the lengths of the segments along an edge, for every n and L that a level gives.
-- Assumes nothing.
use Prim.Native.Nat.{ℕ, zero, suc, ◌+◌, ◌-◌, ◌*◌, ◌/◌, ◌%◌, ◌≤◌, ◌<◌}
use mathlib.Core.Path.{◌≡◌, refl, ap}
use native.Mathlib.Decide.{dec_le}
use native.Mathlib.Nat.{lt_of_mul-lt-mul_right, le_of_mul-le-mul_right}
use native.Mathlib.Omega.{arith}
use Rattle.level.specs.Segments.{Valid}
use Rattle.edge.specs.Positions.{reach, position}
use Rattle.edge.proofs.Ends.{starts, ends}
use Rattle.edge.proofs.Mirrored.{mirrored}
use Rattle.edge.proofs.Rises.{rises_suc}
use Rattle.vulkan_chapter.specs.Lengths.{segment, off, Divided, AllEqual, Inner, Additional, Decreases, Vanishes}
use Rattle.edge.proofs.Reach.{low, high, reach_short}
use Rattle.vulkan_chapter.proofs.Floors.{Floor, floor, of_short, more_least, more_most, twice_most, twice_least, floor_falls}

-- the whole length of a segment, 65536 * 65536 / L, rounded down
abbrev pub full : ℕ → ℕ
full L = 2147483648 * 2 / L

-- a segment of that length: at most one unit longer, and not shorter; the middle one of an odd number may be one unit shorter
pub record Full (n L s : ℕ) : Type 0 where
  pub least : full L ≤ s + n % 2
  pub most : s ≤ full L + 1

module _ (n L : ℕ) (v : Valid n L) where
  reach_floor : (d : ℕ) → d + 2 ≤ n → Floor L d (reach L d)
  reach_floor d h = of_short (reach_short n L v d h)

  pub divided : Divided n (position n L)
  divided = record { start = starts n L v; end = ends n L v; rises = rises_suc n L v }

  -- ---- the inner segments
  full_floor : Floor L 2 (full L)
  full_floor = floor L 2 (omega arith)

  pub inner_full : (i : ℕ) → Inner n i → Full n L (segment (position n L) i)
  inner_full i h = elim (dec_le (2 * i + 2) n) [
    | yes a ↦
        let d = n - (2 * i + 2) in
        let x = reach_floor d (omega arith) in
        let y = reach_floor (d + 2) (omega arith) in
        let p = low n L i (d + 2) (omega arith) in
        let p' = low n L (suc i) d (omega arith) in
        let l = more_least L d (reach L d) (reach L (d + 2)) (full L) x y full_floor in
        let m = more_most L d (reach L d) (reach L (d + 2)) (full L) x y full_floor in
        record { least = omega arith; most = omega arith }
    | no a ↦ elim (dec_le n (2 * i)) [
      | yes b ↦
          let d = 2 * i - n in
          let x = reach_floor d (omega arith) in
          let y = reach_floor (d + 2) (omega arith) in
          let p = high n L i d (omega arith) in
          let p' = high n L (suc i) (d + 2) (omega arith) in
          let l = more_least L d (reach L d) (reach L (d + 2)) (full L) x y full_floor in
          let m = more_most L d (reach L d) (reach L (d + 2)) (full L) x y full_floor in
          record { least = omega arith; most = omega arith }
      | no b ↦
          let x = reach_floor 1 (omega arith) in
          let p = low n L i 1 (omega arith) in
          let p' = high n L (suc i) 1 (omega arith) in
          let l = twice_least L (reach L 1) (full L) x full_floor in
          let m = twice_most L (reach L 1) (full L) x full_floor in
          let odd : n % 2 ≡ 1 = omega arith in
          record { least = omega arith; most = omega arith }
    ]
  ]

  -- ---- the two additional ones
  -- what is left of half the edge
  pub two_is : 1 < n → segment (position n L) 0 + reach L (n - 2) ≡ 32768
  two_is h =
      omega (arith, low n L 1 (n - 2) (omega arith), starts n L v, (reach_short n L v (n - 2) (omega arith)).inside)

  two_most : 1 < n → segment (position n L) 0 ≤ full L + 1
  two_most h =
      let a = reach L (n - 2) in
      let x = reach_floor (n - 2) (omega arith) in
      let k : 32768 * L < (a + full L + 2) * L = omega (arith, x.to, full_floor.to) in
      omega (arith, two_is h, lt_of_mul-lt-mul_right L k)

  two_least : L ≡ 65536 * n → 1 < n → full L ≤ segment (position n L) 0
  two_least e h =
      let a = reach L (n - 2) in
      let x = reach_floor (n - 2) (omega arith) in
      let k : (a + full L) * L ≤ 32768 * L = omega (arith, x.from, full_floor.from) in
      omega (arith, two_is h, le_of_mul-le-mul_right k (omega arith))

  pub two_equal : segment (position n L) 0 ≡ segment (position n L) (n - 1)
  two_equal =
      let e : suc (n - 1) ≡ n = omega arith in
      rw e (omega (arith, starts n L v, ends n L v, mirrored n L 1 (omega arith)))

  pub additional : Additional n (position n L)
  additional = record {
    rest_equal = λ i j h k. omega (arith, (inner_full i h).most, (inner_full j k).least);
    two_equal = two_equal;
    two_shorter = λ i h. omega (arith, two_most (omega arith), (inner_full i h).least);
  }

  pub vanishes : 1 < n → Vanishes n L (position n L)
  vanishes h k l =
      let a = reach L (n - 2) in
      let x = reach_floor (n - 2) (omega arith) in
      let m : 32768 * L < (k + a + 1) * L = omega (arith, x.to) in
      omega (arith, two_is h, lt_of_mul-lt-mul_right L m)

  -- ---- equal spacing, and n - f = 0
  any_full : L ≡ 65536 * n → 1 < n → (i : ℕ) → i < n → Full n L (segment (position n L) i)
  any_full e h zero l = record { least = omega (arith, two_least e h); most = two_most h }
  any_full e h (suc i) l = elim (dec_le (suc (suc (suc i))) n) [
    | yes a ↦ inner_full (suc i) (omega arith)
    | no a ↦
        let s : suc i ≡ n - 1 = omega arith in
        rw (s, ← two_equal) (record { least = omega (arith, two_least e h); most = two_most h })
  ]

  pub all_equal : L ≡ 65536 * n → AllEqual n (position n L)
  all_equal e i j h k = elim (dec_le 2 n) [
    | yes a ↦ omega (arith, (any_full e a i h).most, (any_full e a j k).least)
    | no a ↦
        let x : i ≡ 0 = omega arith in
        let y : j ≡ 0 = omega arith in
        rw (x, y) (omega arith)
  ]

-- ---- two levels of the same n
module _ (n L L' : ℕ) (v : Valid n L) (v' : Valid n L') (h : L ≤ L') where
  pub decreases : Decreases n (position n L) (position n L')
  decreases = record {
    two_shrink = elim (dec_le 2 n) [
      | yes a ↦ omega (
        arith,
        two_is n L v a,
        two_is n L' v' a,
        floor_falls L L' (n - 2) (reach L (n - 2)) (reach L' (n - 2)) h (reach_floor n L v (n - 2) (omega arith)) (reach_floor n L' v' (n - 2) (omega arith)),
      )
      | no a ↦
          let e : n ≡ 1 = omega arith in
          omega (arith, starts n L v, starts n L' v', ends n L v, ends n L' v', ap (position n L) e, ap (position n L') e)
    ];
    rest_grow = λ i j a b.
        omega (
          arith,
          (inner_full n L v i a).least,
          (inner_full n L' v' j b).most,
          floor_falls L L' 2 (full L) (full L') h (floor L 2 (omega arith)) (floor L' 2 (omega arith)),
        );
  }

-- ---- the bounds are the least: 2 units on 5 segments, 1 unit on 6, between segments that the chapter calls equal
pub off_odd : (segment (position 5 233353) 1 ≡ segment (position 5 233353) 2 + off 5) × (off 5 ≡ 2)
unfolding position
off_odd = (refl, refl)

pub off_even : (segment (position 6 355114) 1 ≡ segment (position 6 355114) 2 + off 6) × (off 6 ≡ 1)
unfolding position
off_even = (refl, refl)

-- and where the two are not to be longer than the rest: 3 equal segments
pub off_two : segment (position 3 196608) 0 ≡ segment (position 3 196608) 1 + off 3
unfolding position
off_two = refl
