-- What a run wrote is the text of the whole job. Assumes nothing.
use Prim.Native.Nat.{ℕ, ◌+◌, ◌*◌, ◌≤◌, ◌<◌}
use mathlib.Core.Path.{◌≡◌, refl, sym, ap, subst, ◌∙◌}
use mathlib.Core.Bool.{Bool, true, false, cond, ◌||◌}
use mathlib.Core.List.{List, [], ◌∷◌, ◌++◌, append-nil}
use native.Mathlib.Decide.{dec_le}
use native.Mathlib.Nat.{zero-mul}
use native.Mathlib.Omega.{arith}
use borrow.Author.Tests.{lt-ltb, le-ltb}
use lib.ListN.{length, take, length-append}
use Rattle.standard_streams.specs.declared.output.Output.{Output}
use Rattle.standard_streams.specs.Moved.{Taken}
use Rattle.standard_streams.proofs.Takes.{taken_short, taken_all, taken_fewer, taken_whole, taken_after}
use Rattle.job.specs.Header.{header_of}
use Rattle.job_fields.specs.declared.version.Version.{Version}
use Rattle.std.specs.Prelude.{Option, Some, None}
use Rattle.job_text.specs.Jobs.{start_text, rest_text, job_text, rest_of}
use Rattle.job_text.specs.Pieces.{joined_pieces, RecordPieces, last, more, WholeAfter, said_after}
use Rattle.job_text.proofs.Pieces.{job_in_pieces, job_of_few_bytes}
use Rattle.tsj_pieces.specs.declared.header.Start.{Start}
use Rattle.tsj_run.specs.declared.records.Answered.{Answered}
use Rattle.tsj_pieces.specs.Headers.{AnsweredHeader}
use Rattle.tsj_run.specs.Rests.{rest_size, pieces, AnsweredRest}
use Rattle.tsj_run.specs.Runs.{JobRan}

empty : (l : List ℕ) → length l ≡ 0 → l ≡ []
empty [] e = refl
empty (x ∷ l) e = absurd (omega arith)

-- a write of nothing
none_taken : {r : Output} → Taken 0 r → (r.count ≡ 0) × (r.failed ≡ false)
none_taken {r} t = (omega (arith, t.most), t.failed ∙ le-ltb r.count 0 (omega arith))

joined_length : (t : Bool) (e l : List ℕ) → length (joined_pieces (pieces t e l)) ≤ length e + length l
unfolding joined_pieces
joined_length true e l = omega (arith, length-append e [])
joined_length false e l = omega (arith, length-append e (l ++ []), length-append l [])

-- where nothing follows, nothing was read or written
module _ (rest : Option Version) {bs : List ℕ} {r : Answered} (b : AnsweredRest rest bs r) (e : rest ≡ None) where
  none_written : (r.output.count ≡ 0) × (r.output.failed ≡ false)
  none_written = none_taken (rw e at b.taken)

  none_read : joined_pieces (pieces r.last.failed b.earlier (take r.last.count bs)) ≡ []
  none_read =
      let size : rest_size rest ≡ 0 = ap rest_size e in
      let none : length b.earlier ≡ 0 = b.whole ∙ ap (λ (n : ℕ). n * b.chunks) size ∙ zero-mul b.chunks in
      let last = take r.last.count bs in
      empty _ (omega (arith, joined_length r.last.failed b.earlier last, b.last.counts, b.last.most))

-- all pieces except the last are whole records
whole_pieces : (rest : Option Version) {bs : List ℕ} {r : Answered} (b : AnsweredRest rest bs r) → WholeAfter rest (pieces r.last.failed b.earlier (take r.last.count bs))
whole_pieces None b = tt
whole_pieces (Some v) {bs} {r} b = go r.last.failed
  where
    go : (t : Bool) → RecordPieces v (pieces t b.earlier (take r.last.count bs))
    go true = last b.earlier
    go false = more {c = b.earlier} (256 * b.chunks) (omega (arith, b.whole)) (last (take r.last.count bs))

-- fewer than five bytes are not a job
few_rest : (hs : List ℕ) → length hs < 5 → rest_of (header_of hs) ≡ None
unfolding header_of
few_rest hs h = rw (lt-ltb (length hs) 5 h)

-- the text of a header, and of the pieces after it
text_length : (hs : List ℕ) (cs : List (List ℕ)) → length hs ≤ 5 → WholeAfter (rest_of (header_of hs)) cs → (rest_of (header_of hs) ≡ None → joined_pieces cs ≡ [])
    → length (job_text (hs ++ joined_pieces cs)) ≡ length (start_text (header_of hs)) + length (said_after (rest_of (header_of hs)) cs)
text_length hs cs l w n = elim (dec_le 5 (length hs)) [
  | yes h ↦ ap length (job_in_pieces hs cs (omega arith) w) ∙ length-append (start_text (header_of hs)) (said_after (rest_of (header_of hs)) cs)
  | no h ↦
      let none = few_rest hs (omega arith) in
      rw (n none, append-nil hs, none)
      (ap length (job_of_few_bytes hs (omega arith) ∙ ap (λ (x : Option Version). start_text (header_of hs) ++ said_after x []) none) ∙ length-append (start_text (header_of hs)) [])
]

-- it is at least the text of the header
text_least : (hs : List ℕ) → length (start_text (header_of hs)) ≤ length (job_text (hs ++ []))
unfolding job_text
text_least hs = rw (append-nil hs) (omega (arith, length-append (start_text (header_of hs)) (rest_text hs (header_of hs))))

module _ {hs bs : List ℕ} {start : Start} {r : Answered} (a : AnsweredHeader hs start) (b : AnsweredRest start.rest bs r) where
  ran_text : (t u : Bool) → start.input.failed ≡ t → start.output.failed ≡ u
      → Taken (length (cond t [] (job_text (take start.input.count hs ++ joined_pieces (pieces r.last.failed b.earlier (take r.last.count bs))))))
      (record { count = start.output.count + r.output.count; failed = u || r.output.failed })
  ran_text true u h g =
      let head = none_taken (rw h at a.taken) in
      let tail = none_written start.rest b (a.rest ∙ rw h) in
      let no : u ≡ false = sym g ∙ head.1 in
      rw (no, tail.1) (taken_all (omega arith) (omega arith))
  ran_text false true h g =
      let none : start.rest ≡ None = a.rest ∙ rw (h, g) in
      let short = taken_fewer (rw h at a.taken) g in
      rw (none_read start.rest b none) (taken_short (omega (arith, none_written start.rest b none, text_least (take start.input.count hs))))
  ran_text false false h g =
      let front = take start.input.count hs in
      let follows : start.rest ≡ rest_of (header_of front) = a.rest ∙ rw (h, g) in
      let cs = pieces r.last.failed b.earlier (take r.last.count bs) in
      let head = taken_whole (rw h at a.taken) g in
      let length-is =
      text_length front cs (omega (arith, a.read.counts, a.read.most)) (subst (λ (x : Option Version). WholeAfter x cs) follows (whole_pieces start.rest b))
      (λ n. none_read start.rest b (follows ∙ n)) in
      rw (length-is, ← head, ← follows) (taken_after b.taken start.output.count)

  pub ran : JobRan hs bs (record { start = start; records = r })
  ran = record { header = a; records = b; whole = ran_text start.input.failed start.output.failed refl refl }
