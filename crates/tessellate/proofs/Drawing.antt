-- What an operation that draws does with a patch's cut. Assumes nothing.
use Prim.Native.Nat.{ℕ, suc, ◌≤◌, ◌<◌}
use mathlib.Core.Path.{◌≡◌, sym, ap, ◌∙◌}
use mathlib.Core.List.{List}
use Rattle.buffer.specs.Over.{over}
use Rattle.patch.specs.declared.kinds.Patch.{Patch}
use Rattle.patch.specs.declared.settings.Settings.{Settings}
use Rattle.patch.specs.declared.subdivision.Subdivision.{Subdivision}
use Rattle.std.proofs.Common.{refl, Ok, Err}
use Rattle.measure.specs.declared.cut.NotDrawn.{NotDrawn}
use Rattle.measure.specs.declared.cut.NotDrawn.TheVariants.{BadTop, Discarded}
use Rattle.measure.specs.Cuts.{cut_of}
use Rattle.measure.proofs.Cutting.{bad_top_lem, is_discarded_lem, is_cut}
use Rattle.answer_codes.specs.AnswerCode.{refused, drew}
use Rattle.answer_codes.specs.Drew.{Drew}
use Rattle.answer_codes.proofs.Drew.{untouched, written}
use Rattle.tessellate.specs.Refusals.{refusal_of, refusal_code}
use Rattle.tessellate.specs.Answers.{list_verdict}
use Rattle.tessellate.proofs.Draws.{told_bad, told_discarded, told_short, told_drawn}

module _ (set : Settings) (p : Patch) (short need have count : ℕ) {words xs : List ℕ} where
  -- a refusal leaves the list as it was
  pub draw_refused : (e : NotDrawn) → Err e ≡ cut_of set p → Drew (refusal_code (refusal_of e)) (list_verdict set p short need have count) words xs xs
  draw_refused BadTop is = untouched 10 refl (told_bad set p short need have count (bad_top_lem set p is))
  draw_refused Discarded is = let d = is_discarded_lem set p is in untouched 0 refl (told_discarded set p short need have count d.0 d.1)

  module _ {c : Subdivision} (is : Ok c ≡ cut_of set p) where
    pub draw_short : (k : ℕ) → short ≡ suc k → have < need → Drew (refused short) (list_verdict set p short need have count) words xs xs
    draw_short k s h =
        let i = is_cut set p is in
        untouched k (ap refused s) (told_short set p short need have count i.top i.drawn h ∙ ap refused s)

    -- otherwise the list begins with the words
    pub draw_done : {n : ℕ} {xs' : List ℕ} → need ≤ have → n ≡ count → xs' ≡ over xs 0 words → Drew (drew n) (list_verdict set p short need have count) words xs xs'
    draw_done {n = n} h m l =
        let i = is_cut set p is in
        written n refl (told_drawn set p short need have count i.top i.drawn h ∙ ap drew (sym m)) l
