-- n and L of a scaled level, and of every level, are exactly those that document 01's sentences determine. Assumes nothing.
use Prim.Native.Nat.{ℕ}
use mathlib.Core.Path.{◌≡◌, refl, sym, ap, ◌∙◌}
use mathlib.Core.Logic.{◌↔◌}
use native.Mathlib.Omega.{arith}
use lib.Ieee.{Float}
use Rattle.level.specs.Top.{Top}
use Rattle.level.specs.Clamp.{clamped_level}
use Rattle.level.specs.Scale.{scaled_level, LeastParts}
use Rattle.level.specs.Segments.{segments_at, segments_of}
use Rattle.level.specs.Rounding.{LeastCount, scaled_after, Rounded, FromLevel}
use Rattle.level.specs.declared.Spacing.{Spacing}
use Rattle.level.specs.declared.Spacing.TheVariants.{Equal, FractionalEven, FractionalOdd}
use Rattle.level.specs.declared.Segments.{Segments}
use Rattle.level.proofs.Scale.{level_least_parts}

-- ---- for a scaled level
pub least_count : (s : Spacing) (L : ℕ) → LeastCount s L (segments_at s L).count
least_count Equal L = record { kind = tt; enough = omega arith; least = λ k _ h. omega arith }
least_count FractionalEven L = record { kind = omega arith; enough = omega arith; least = λ k e h. omega arith }
least_count FractionalOdd L = record { kind = omega arith; enough = omega arith; least = λ k o h. omega arith }

scaled_after_lem : (s : Spacing) (L : ℕ) → (segments_at s L).scaled ≡ scaled_after s L (segments_at s L).count
scaled_after_lem Equal L = refl
scaled_after_lem FractionalEven L = refl
scaled_after_lem FractionalOdd L = refl

rounded : (s : Spacing) (L : ℕ) → Rounded s L (segments_at s L)
rounded s L = record { count = least_count s L; scaled = scaled_after_lem s L }

-- two least counts are equal
count_only : {s : Spacing} {L m n : ℕ} → LeastCount s L m → LeastCount s L n → m ≡ n
count_only {s} {L} {m} {n} h k = omega (arith, h.least n k.kind k.enough, k.least m h.kind h.enough)

same_segments : (g h : Segments) → g.count ≡ h.count → g.scaled ≡ h.scaled → g ≡ h
same_segments g h c l = λ i. record { count = c i; scaled = l i }

rounded_only : (s : Spacing) (L : ℕ) (g : Segments) → Rounded s L g → g ≡ segments_at s L
rounded_only s L g h =
    let c : g.count ≡ (segments_at s L).count = count_only h.count (least_count s L) in
    same_segments g (segments_at s L) c (h.scaled ∙ ap (scaled_after s L) c ∙ sym (scaled_after_lem s L))

pub rounded_exactly : (s : Spacing) (L : ℕ) (g : Segments) → (g ≡ segments_at s L) ↔ Rounded s L g
rounded_exactly s L g = (λ e. rw e (rounded s L), rounded_only s L g)

-- ---- for every level
parts_only : {x : Float} {L M : ℕ} → LeastParts x L → LeastParts x M → L ≡ M
parts_only {x} {L} {M} h k = omega (arith, h.least M k.enough, k.least L h.enough)

module _ (s : Spacing) (t : ℕ) (top : Top t) (x : Float) where
  from_level_only : (L : ℕ) (g : Segments) → FromLevel s t x L g → (L ≡ scaled_level (clamped_level s t x)) × (g ≡ segments_of s t x)
  unfolding segments_of
  from_level_only L g h =
      let e : L ≡ scaled_level (clamped_level s t x) = parts_only h.parts (level_least_parts s t top x) in
      (e, rounded_only s L g h.rounded ∙ ap (segments_at s) e)

  from_level : (L : ℕ) (g : Segments) → (L ≡ scaled_level (clamped_level s t x)) × (g ≡ segments_of s t x) → FromLevel s t x L g
  unfolding segments_of
  from_level L g h = rw (h.0, h.1) (record { parts = level_least_parts s t top x; rounded = rounded s (scaled_level (clamped_level s t x)) })

  pub level_exactly : (L : ℕ) (g : Segments) → ((L ≡ scaled_level (clamped_level s t x)) × (g ≡ segments_of s t x)) ↔ FromLevel s t x L g
  level_exactly L g = (from_level L g, from_level_only L g)
