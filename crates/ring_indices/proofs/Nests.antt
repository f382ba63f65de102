-- The words of nested rings, band by band. Assumes nothing.
use Prim.Native.Nat.{ℕ, zero, suc, ◌+◌, ◌-◌, ◌*◌, ◌≤◌}
use mathlib.Core.Path.{◌≡◌}
use mathlib.Core.Bool.{Bool}
use mathlib.Core.List.{List, [], ◌++◌}
use native.Mathlib.Omega.{arith}
use lib.ListN.{length, length-append}
use Rattle.buffer.specs.Over.{Wrote}
use Rattle.buffer.proofs.Laws.{Left, left_fits, left_step}
use Rattle.strip.specs.Triangles.{corners, turned, indices}
use Rattle.strip.proofs.Strips.{strip_length, indices_length, indices_append}
use Rattle.mesh_topology.specs.Ring.{ring_at}
use Rattle.mesh_topology.specs.Band.{band_from, band}
use Rattle.mesh_topology.specs.Nest.{ring_edges, nest, count}
use Rattle.mesh_topology.proofs.Length.{nest_length}

-- the index words of one band
abbrev pub band_words : Bool → ℕ → ℕ → ℕ → ℕ → ℕ → List ℕ
band_words positive base a b c r = indices positive (band (ring_at base (a + b + c)) (ring_edges (base + (a + b + c)) r a b c))

module _ (positive : Bool) (base a b c : ℕ) where
  -- one word per corner
  band_length : (r : ℕ) → length (band_words positive base a b c r) ≡ 3 * (a + b + c + 3 * r)
  unfolding band_from
  band_length r =
      let triangles = band (ring_at base (a + b + c)) (ring_edges (base + (a + b + c)) r a b c) in
      let many : length triangles ≡ a + b + c + 3 * r = simp (length-append, strip_length) (omega arith) in
      omega (arith, indices_length positive triangles)

  pub nest_words_length : (n : ℕ) → length (indices positive (nest base a b c n)) ≡ 3 * count a b c n
  nest_words_length n = omega (arith, indices_length positive (nest base a b c n), nest_length n base a b c)

  -- the outermost band, then what is inside it
  nest_more : (n : ℕ) → 2 ≤ n
      → indices positive (nest base a b c n) ≡ band_words positive base a b c (n - 2) ++ indices positive (nest (base + (a + b + c)) (n - 2) (n - 2) (n - 2) (n - 2))
  unfolding nest
  nest_more zero h = absurd (omega arith)
  nest_more (suc zero) h = absurd (omega arith)
  nest_more (suc (suc r)) h =
      let e : suc (suc r) - 2 ≡ r = omega arith in
      rw e (indices_append positive (band (ring_at base (a + b + c)) (ring_edges (base + (a + b + c)) r a b c)) (nest (base + (a + b + c)) r r r r))

  -- there is room for the outermost band
  pub band_fits : (n : ℕ) → 2 ≤ n → {out xs ys : List ℕ} {w at : ℕ} → Left out w (indices positive (nest base a b c n)) xs at ys
      → w + 3 * (a + b + c + 3 * (n - 2)) ≤ length out
  band_fits n h l = omega (arith, band_length (n - 2), left_fits (band_words positive base a b c (n - 2)) _ (nest_more n h) l)

  -- what is left once it is written
  pub band_written : (n : ℕ) → 2 ≤ n → {out out' xs ys : List ℕ} {w w' at : ℕ} → Wrote out w (band_words positive base a b c (n - 2)) out' w'
      → Left out w (indices positive (nest base a b c n)) xs at ys → Left out' w' (indices positive (nest (base + (a + b + c)) (n - 2) (n - 2) (n - 2) (n - 2))) xs at ys
  band_written n h p l = left_step p (nest_more n h) l

  -- no triangle inside, or one
  pub nest_none : (n : ℕ) → n ≡ 0 → indices positive (nest base a b c n) ≡ []
  unfolding nest indices
  nest_none n h = rw h

  pub nest_one : (n : ℕ) → n ≡ 1 → indices positive (nest base a b c n) ≡ corners (turned positive (record { a = base; b = base + 1; c = base + 2 }))
  unfolding nest indices
  nest_one n h = rw h

pub one_triangle : (a b c n : ℕ) → n ≡ 1 → count a b c n ≡ 1
unfolding count
one_triangle a b c n h = rw h
