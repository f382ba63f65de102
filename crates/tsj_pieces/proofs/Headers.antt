-- The results of reading and answering a header meet the contract. Assumes nothing.
use Prim.Native.Nat.{ℕ}
use mathlib.Core.Path.{◌≡◌, refl, ap, ◌∙◌}
use mathlib.Core.Bool.{true, false}
use mathlib.Core.List.{List}
use native.Mathlib.Omega.{arith}
use lib.ListN.{length, take}
use Rattle.buffer.specs.Over.{Wrote}
use Rattle.buffer.proofs.Laws.{over_front}
use Rattle.standard_streams.specs.declared.input.Input.{Input}
use Rattle.standard_streams.specs.declared.output.Output.{Output}
use Rattle.standard_streams.specs.Moved.{Filled, Taken}
use Rattle.standard_streams.proofs.Takes.{taken_all}
use Rattle.job.specs.declared.header.Header.{Header}
use Rattle.job.specs.declared.header.HeaderError.{HeaderError}
use Rattle.job_fields.specs.declared.version.Version.{Version}
use Rattle.std.specs.Prelude.{Result, Option, None}
use Rattle.job_text.specs.Jobs.{start_text, rest_of}
use Rattle.tsj_pieces.specs.Headers.{header_in, header_text, AnsweredHeader}

module _ {hs : List ℕ} {input : Input} (f : Filled 5 hs input) where
  -- reading failed
  module _ (h : input.failed ≡ true) where
    pub header_unread : AnsweredHeader hs (record { input = input; output = record { count = 0; failed = false }; rest = None })
    header_unread = record { read = f; taken = rw h (taken_all (omega arith) (omega arith)); rest = rw h }

    pub unread_text : (out : List ℕ) → take (length (header_text hs input)) out ≡ header_text hs input
    unread_text out = rw h

  -- the text of the header is at the front of out, and was passed to a write
  module _ (h : input.failed ≡ false) {found : Result Header HeaderError} (e : found ≡ header_in hs input) {xs out : List ℕ} {w : ℕ} (p : Wrote xs 0 (start_text found) out w) where
    text_is : header_text hs input ≡ start_text found
    text_is = rw (h, e)

    pub read_text : take (length (header_text hs input)) out ≡ header_text hs input
    read_text = rw (text_is, p.is) (over_front xs (start_text found) (length (start_text found)) refl)

    module _ {output : Output} (t : Taken (length (take w out)) output) where
      handed : Taken (length (header_text hs input)) output
      handed = let front : take w out ≡ start_text found = rw p.is (over_front xs (start_text found) w (omega (arith, p.next))) in rw text_is (rw front at t)

      pub header_unwritten : output.failed ≡ true → AnsweredHeader hs (record { input = input; output = output; rest = None })
      header_unwritten g = record { read = f; taken = handed; rest = rw (h, g) }

      pub header_written : {rest : Option Version} → output.failed ≡ false → rest ≡ rest_of found → AnsweredHeader hs (record { input = input; output = output; rest = rest })
      header_written g s = record { read = f; taken = handed; rest = rw (h, g) (s ∙ ap rest_of e) }
