-- What measuring a patch with a good top level shows. Assumes nothing.
use Prim.Native.Nat.{ℕ, ◌-◌, ◌/◌}
use mathlib.Core.Path.{◌≡◌, refl, ◌∙◌}
use mathlib.Core.Bool.{Bool, true, false, cond}
use native.Mathlib.Omega.{arith}
use Rattle.level.specs.Top.{is_top}
use Rattle.patch.specs.declared.kinds.Patch.{Patch}
use Rattle.patch.specs.declared.settings.Settings.{Settings}
use Rattle.patch.specs.Subdivide.{discards}
use Rattle.level_clamps.specs.Clamps.{clamps_of}
use Rattle.measure.specs.declared.size.Size.{Size}
use Rattle.std.proofs.Common.{Result, Ok, Err}
use Rattle.measure.specs.declared.cut.NotDrawn.{NotDrawn}
use Rattle.measure.specs.declared.cut.NotDrawn.TheVariants.{Discarded}
use Rattle.measure.specs.Sizes.{points_of, indices_of}
use Rattle.answer_codes.specs.AnswerCode.{AnswerCode, refused}
use Rattle.measure.proofs.Measured.{measured}
use Rattle.share_state.specs.declared.state.Share.{Share}
use Rattle.share_answers.specs.Refusals.{share_refusal_of}
use Rattle.share_answers.specs.Answers.{draw_code, room_verdict, part_verdict}

-- both counts of a patch that is not discarded
pub record Counted (set : Settings) (p : Patch) (m k : ℕ) : Type 0 where
  pub drawn : discards p ≡ false
  pub points : m ≡ points_of set p
  pub indices : k ≡ indices_of set p

module _ (set : Settings) (p : Patch) (top : is_top set.top ≡ true) where
  abbrev size : Bool → Result Size NotDrawn
  size x = cond x (Err Discarded) (Ok (record { points = points_of set p; indices = indices_of set p; clamps = clamps_of set.spacing set.top p }))

  is_size : measured set p ≡ size (discards p)
  unfolding measured
  is_size = rw top

  -- a patch that is not measured is discarded
  pub says_discarded : {reason : NotDrawn} → Err reason ≡ measured set p → (n v i : ℕ) → draw_code (Err (share_refusal_of reason)) ≡ part_verdict set p n v i
  unfolding part_verdict
  says_discarded {reason} e n v i = go (discards p) (e ∙ is_size)
    where
      go : (x : Bool) → Err reason ≡ size x → draw_code (Err (share_refusal_of reason)) ≡ cond x (refused 1) (room_verdict n v i (points_of set p) (indices_of set p))
      go true h = let same : reason ≡ Discarded = cc in rw same
      go false h = let z : ◌≡◌ {A = ℕ} 0 1 = cc in absurd (omega arith)

  pub is_counted : {s : Size} → Ok s ≡ measured set p → Counted set p s.points s.indices
  is_counted {s} e = go (discards p) refl (e ∙ is_size)
    where
      go : (x : Bool) → discards p ≡ x → Ok s ≡ size x → Counted set p s.points s.indices
      go true d h = let z : ◌≡◌ {A = ℕ} 0 1 = cc in absurd (omega arith)
      go false d h = record { drawn = d; points = cc; indices = cc }

-- the answer of a part, by the shares that the code found
pub part_says : (set : Settings) (p : Patch) {t : AnswerCode} {m k : ℕ} {a b a' b' : Share} → a ≡ a' → b ≡ b' → Counted set p m k
    → t ≡ room_verdict (a.used / 3) (a.quota - a.used) (b.quota - b.used) m k
    → t ≡ part_verdict set p (a'.used / 3) (a'.quota - a'.used) (b'.quota - b'.used)
unfolding part_verdict
part_says set p e f k h = rw (k.drawn, ← k.points, ← k.indices, ← e, ← f) h
