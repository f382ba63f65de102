-- From the contracts of the two drawing operations to the text of a record. Assumes nothing.
use Prim.Native.Nat.{ℕ, zero, suc, ◌*◌, ◌/◌, ◌≤◌}
use mathlib.Core.Path.{◌≡◌, refl, sym, ap, ◌∙◌}
use mathlib.Core.Bool.{Bool, true, false, cond}
use mathlib.Core.List.{List}
use native.Mathlib.Nat.{mul-div-le}
use native.Mathlib.Omega.{arith}
use borrow.Author.Tests.{le-ltb}
use lib.Dec.{ltb}
use lib.ListN.{length}
use Rattle.level.specs.Top.{Top, is_top}
use Rattle.patch.specs.declared.kinds.Patch.{Patch}
use Rattle.patch.specs.declared.settings.Settings.{Settings}
use Rattle.patch.specs.Subdivide.{discards, subdivision_of}
use Rattle.mesh_geometry.proofs.Words.{words_length}
use Rattle.patch_mesh.specs.Points.{points}
use Rattle.std.proofs.Common.{Result, Ok, Err}
use Rattle.tessellate.specs.declared.refusal.DrawRefusal.{DrawRefusal}
use Rattle.tessellate.specs.declared.refusal.DrawRefusal.TheVariants.{BadTop, Discarded, NoRoomForVertices, NoRoomForIndices}
use Rattle.tessellate.specs.Refusals.{refusal_code}
use Rattle.measure.specs.Sizes.{points_of, indices_of}
use Rattle.tessellate.specs.Answers.{points_code, indices_code, list_verdict}
use Rattle.answer_codes.specs.AnswerCode.{AnswerCode, refused, drew}
use Rattle.tessellate.specs.Draws.{DrewPoints, DrewIndices, point_words, connection_words}
use Rattle.tessellate.proofs.Together.{drawn_means}
use Rattle.level.proofs.Top.{top_as}
use Rattle.decimal_text.specs.Lines.{rows}
use Rattle.decimal_text.specs.Heads.{discarded_line, refused_line}
use Rattle.mesh_text.specs.Widths.{width_of}
use Rattle.patch_text.specs.Room.{FullSize}
use Rattle.patch_text.specs.Answers.{Printed, refusal_text, drawn_text, record_text}
use Rattle.patch_text.proofs.Rows.{rows_front}
use Rattle.patch_text.proofs.Sizes.{width_range, points_fit, indices_fit, text_fits}

module _ (set : Settings) (p : Patch) where
  -- the text for the number of an answer
  abbrev numbered : ℕ → List ℕ
  numbered zero = drawn_text set p
  numbered (suc zero) = discarded_line
  numbered (suc (suc n)) = refused_line (suc (suc n))

  -- if there is room for every good top level, the number of the operation's answer gives the text
  said : (short need have count : ℕ) → (Top set.top → need ≤ have) → {t : AnswerCode} → t ≡ list_verdict set p short need have count → record_text set p ≡ numbered t.number
  unfolding list_verdict
  said short need have count long e = go (is_top set.top) (discards p) refl ∙ ap (λ (t : AnswerCode). numbered t.number) (sym e)
    where
      go : (t b : Bool) → is_top set.top ≡ t
          → cond t (cond b discarded_line (drawn_text set p)) (refused_line 11)
          ≡ numbered (cond t (cond b (refused 1) (cond (ltb have need) (refused short) (drew count))) (refused 11)).number
      go false b e = refl
      go true true e = refl
      go true false e = rw (le-ltb have need (long (top_as set.top e)))

  numbered_refusal : (e : DrawRefusal) → numbered (refusal_code e).number ≡ refusal_text e
  numbered_refusal BadTop = refl
  numbered_refusal Discarded = refl
  numbered_refusal NoRoomForVertices = refl
  numbered_refusal NoRoomForIndices = refl

  -- the text that the answers to drawing points and to drawing indices give
  points_said : (r : Result ℕ DrawRefusal) {v v' : List ℕ} {n : ℕ} → DrewPoints set p v v' r → FullSize (length v) n → record_text set p ≡ numbered (points_code r).number
  points_said r {v} d h = said 3 (3 * points_of set p) (length v) (points_of set p) (λ top. omega (arith, points_fit set top p)) d.answer

  indices_said : (r : Result ℕ DrawRefusal) {i i' : List ℕ} {n : ℕ} → DrewIndices set p i i' r → FullSize n (length i) → record_text set p ≡ numbered (indices_code r).number
  indices_said r {i} d h = said 4 (indices_of set p) (length i) (indices_of set p) (λ top. omega (arith, indices_fit set top p)) d.answer

  pub points_refused : (e : DrawRefusal) {v v' : List ℕ} {n : ℕ} → DrewPoints set p v v' (Err e) → FullSize (length v) n → record_text set p ≡ refusal_text e
  points_refused e d h = points_said (Err e) d h ∙ numbered_refusal e

  pub indices_refused : (e : DrawRefusal) {i i' : List ℕ} {n : ℕ} → DrewIndices set p i i' (Err e) → FullSize n (length i) → record_text set p ≡ refusal_text e
  indices_refused e d h = indices_said (Err e) d h ∙ numbered_refusal e

  -- both lists were drawn
  pub printed : {P I : ℕ} {v v' i i' : List ℕ} → FullSize (length v) (length i) → length v' ≡ length v → length i' ≡ length i → DrewPoints set p v v' (Ok P)
      → DrewIndices set p i i' (Ok I) → Printed set p P I v' i'
  unfolding drawn_text
  printed {P} {I} {v} {v'} {i} h ev ei d d' =
      let w = width_of set.point_mode p in
      let width = width_range set.point_mode p in
      let fp = drawn_means set p 2 (3 * points_of set p) (length v) (points_of set p) P d.answer in
      let f = drawn_means set p 3 (indices_of set p) (length i) (indices_of set p) I d'.answer in
      let lines : rows 3 v' 0 P ≡ rows 3 (point_words set p) 0 (points_of set p) =
      rw (d.list, fp.count) (rows_front 3 (points_of set p) v (point_words set p) (omega (arith, words_length (points (subdivision_of set p))))) in
      record {
        holds_mesh = record {
          some = width.0;
          most = width.1;
          vertices = omega (arith, fp.count, points_fit set f.top p);
          indices = omega (arith, f.room, f.count);
        };
        fits = rw (fp.count, f.count) (text_fits set f.top p);
        is =
            indices_said (Ok I) d' h
            ∙ rw (lines, d'.list, fp.count, f.count, rows_front w (indices_of set p / w) i (connection_words set p) (mul-div-le (indices_of set p) w));
      }
