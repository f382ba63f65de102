-- The answer of measuring is determined by its number and values. Assumes nothing.
use Prim.Native.Nat.{ℕ}
use mathlib.Core.Path.{◌≡◌, refl, sym, ap, ◌∙◌}
use mathlib.Core.Bool.{Bool, true, false, cond}
use mathlib.Core.List.{List}
use lib.Dec.{eqb}
use lib.ListN.{get_or, drop}
use Rattle.level.specs.Top.{is_top}
use Rattle.patch.specs.declared.kinds.Patch.{Patch}
use Rattle.patch.specs.declared.settings.Settings.{Settings}
use Rattle.patch.specs.Subdivide.{discards}
use Rattle.level_clamps.specs.Clamps.{clamps_of}
use Rattle.level_clamps.proofs.Numbers.{clamps_in, clamps_back}
use Rattle.std.proofs.Common.{Result, Ok, Err}
use Rattle.level_clamps.specs.declared.Clamps.{Clamps}
use Rattle.measure.specs.declared.cut.NotDrawn.{NotDrawn}
use Rattle.measure.specs.declared.cut.NotDrawn.TheVariants.{BadTop, Discarded}
use Rattle.measure.specs.declared.size.Size.{Size}
use Rattle.measure.specs.IfDrawn.{if_drawn}
use Rattle.measure.specs.Sizes.{size_code, points_of, indices_of, measure_verdict}
use Rattle.answer_codes.specs.AnswerCode.{AnswerCode, refused}

-- ---- no two answers have the same number and values
abbrev pub counts_with : ℕ → ℕ → Clamps → Size
counts_with p i c = record { points = p; indices = i; clamps = c }

abbrev pub size_in : ℕ → List ℕ → Result Size NotDrawn
size_in n vs =
    cond (eqb n 0) (Ok (counts_with (get_or vs 0 0) (get_or vs 1 0) (clamps_in (drop 2 vs)))) (cond (eqb n 1) (Err Discarded) (Err BadTop))

pub size_back : (s : Result Size NotDrawn) → size_in (size_code s).number (size_code s).values ≡ s
size_back (Ok s) = ap (λ c. Ok (counts_with s.points s.indices c)) (clamps_back s.clamps)
size_back (Err Discarded) = refl
size_back (Err BadTop) = refl

pub same_size : (r s : Result Size NotDrawn) → size_code r ≡ size_code s → r ≡ s
same_size r s e = sym (size_back r) ∙ ap (λ (t : AnswerCode). size_in t.number t.values) e ∙ size_back s

-- ---- the answer that has the verdict's number and values
module _ (set : Settings) (p : Patch) where
  unfoldable pub measured : Result Size NotDrawn
  measured = if_drawn set p (Err BadTop) (Err Discarded) (Ok (counts_with (points_of set p) (indices_of set p) (clamps_of set.spacing set.top p)))

  pub measured_told : size_code measured ≡ measure_verdict set p
  unfolding measured measure_verdict
  measured_told = go (is_top set.top) (discards p) (Ok (counts_with (points_of set p) (indices_of set p) (clamps_of set.spacing set.top p)))
    where
      go : (t d : Bool) (s : Result Size NotDrawn)
          → size_code (cond t (cond d (Err Discarded) s) (Err BadTop)) ≡ cond t (cond d (refused 1) (size_code s)) (refused 11)
      go false d s = refl
      go true true s = refl
      go true false s = refl

  pub is_measured : {r : Result Size NotDrawn} → size_code r ≡ measure_verdict set p → r ≡ measured
  is_measured {r} e = same_size r measured (e ∙ sym measured_told)
