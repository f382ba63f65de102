-- A call that reads a job file gives each number exactly if it is right. Assumes nothing.
use Prim.Native.Nat.{ℕ, ◌≤◌, ◌<◌}
use mathlib.Core.Path.{◌≡◌, refl, sym, ap, ◌∙◌}
use mathlib.Core.Bool.{Bool, true, false, cond, true≢false}
use mathlib.Core.List.{List, [], ◌∷◌}
use mathlib.Core.Logic.{◌↔◌}
use native.Mathlib.Decide.{dec_le}
use native.Mathlib.Omega.{arith}
use lib.Dec.{eqb}
use lib.ListN.{length, get_or}
use Rattle.call_answers.specs.Replies.{one_word}
use Rattle.job.specs.declared.header.Header.{Header}
use Rattle.std.specs.Prelude.{Result, Ok, Err, Some, None}
use Rattle.job.specs.declared.header.HeaderError.{HeaderError}
use Rattle.job.specs.declared.header.HeaderError.TheVariants.{NotAJob, UnknownVersion}
use Rattle.job.specs.declared.next.RecordError.TheVariants.{CutRecord, UnknownSetting}
use Rattle.job.specs.Records as records
use Rattle.job_fields.specs.declared.version.Version.{Version}
use Rattle.job.specs.Header.{first_record, header_with, header_of}
use Rattle.job.specs.Records.{Answer, record_at, record_of, cursor_after}
use Rattle.job.proofs.Headers.{header_exactly}
use Rattle.job.proofs.Records.{record_exactly}
use Rattle.job_words.specs.declared.found.Found.{Found}
use Rattle.job_words.specs.Inputs.{is_version, version_of_number}
use Rattle.job_words.specs.Found.{found_of, found_at}
use Rattle.job_words.proofs.Places.{found_end, found_other, found_here}
use Rattle.answer_codes.specs.Reports.{Reports}
use Rattle.answer_codes.proofs.Exactly.{number_exactly, reported_exactly}
use Rattle.job_exports.specs.Calls.{read_code, HeaderAsked, RecordMemory, RecordAsked}
use Rattle.job_exports.specs.Exactly.{HeaderExactly, ReadThere, RecordExactly}
use Rattle.job_exports.proofs.Back.{version_number_lem}

-- ---- headers
abbrev header_number : Result Header HeaderError → ℕ
header_number h = (read_code h).number

abbrev header_words : Result Header HeaderError → List ℕ
header_words h = one_word (read_code h).values

abbrev header_in : ℕ → List ℕ → Result Header HeaderError
header_in n c = cond (eqb n 0) (Ok (header_with (version_of_number (get_or c 0 0)))) (cond (eqb n 5) (Err NotAJob) (Err UnknownVersion))

header_same : (l : List ℕ) (h : Result Header HeaderError) → header_of l ≡ h → header_in (header_number h) (header_words h) ≡ h
header_same l (Ok header) e =
    let first : header.next ≡ first_record = ((header_exactly l (Ok header)).0 e).3 in
    rw ((version_number_lem header.version).1, ← first)
header_same l (Err NotAJob) e = refl
header_same l (Err UnknownVersion) e = refl

pub header_call_exactly : (l : List ℕ) {c' : List ℕ} {r : ℕ} → HeaderAsked l c' r → HeaderExactly l c' r
header_call_exactly l a =
    let told : Reports header_number header_words (header_of l) _ _ = record { number = a.number; words = a.counts } in
    let same = header_same l (header_of l) refl in
    record {
      read = λ v.
          let e = reported_exactly header_in same told (header_exactly l) (Ok (header_with v)) (rw (version_number_lem v).1) in
          ((λ h. e.0 (record { number = h.0; words = h.1 })), λ m. ((e.1 m).number, (e.1 m).words));
      not_a_job = number_exactly header_in same told (header_exactly l) 5 refl;
      unknown_version = number_exactly header_in same told (header_exactly l) 6 refl;
    }

-- ---- records
-- what is found: the end, an unknown version, or what is there
data Stands : Type 0 where
  ended : Stands
  other : Stands
  here : Answer → Stands

module _ (n : ℕ) (l : List ℕ) (at : ℕ) where
  abbrev v : Version
  v = version_of_number n

  abbrev found_for : Stands → ℕ
  found_for ended = 255
  found_for other = 6
  found_for (here x) = (found_of (length l) x).number

  abbrev places_for : Stands → List ℕ
  places_for ended = 0 ∷ []
  places_for other = 0 ∷ []
  places_for (here x) = (found_of (length l) x).place ∷ []

  abbrev stands_in : ℕ → List ℕ → Stands
  stands_in k p =
      cond (eqb k 255) ended
      (cond (eqb k 6) other
      (cond (eqb k 0) (here (records.read (record_of v l at) (cursor_after v at)))
      (cond (eqb k 7) (here (Err CutRecord)) (here (Err (UnknownSetting (get_or p 0 0) (cursor_after v at)))))))

  abbrev Means : Stands → Type 0
  Means ended = length l ≤ at
  Means other = (at < length l) × (is_version n ≡ false)
  Means (here x) = ReadThere n l at x

  -- what is found, and that it is exactly that
  record Right (a : Stands) : Type 0 where
    exactly : (b : Stands) → a ≡ b ↔ Means b
    same : stands_in (found_for a) (places_for a) ≡ a
    number : (found_at n l at).number ≡ found_for a
    place : (found_at n l at).place ∷ [] ≡ places_for a

  means_as : {a b : Stands} → Means a → a ≡ b → Means b
  means_as m e = rw e at m

  at_end_lem : length l ≤ at → Right ended
  at_end_lem h = record {
    exactly = λ b. ((λ e. means_as {a = ended} h e), back b);
    same = refl;
    number = ap (λ (f : Found). f.number) (found_end n l at h);
    place = ap (λ (f : Found). f.place ∷ []) (found_end n l at h);
  }
    where
      back : (b : Stands) → Means b → ended ≡ b
      back ended m = refl
      back other m = absurd (omega (arith, m.0))
      back (here x) m = absurd (omega (arith, m.left))

  of_other : at < length l → is_version n ≡ false → Right other
  of_other h e = record {
    exactly = λ b. ((λ f. means_as {a = other} (h, e) f), back b);
    same = refl;
    number = ap (λ (f : Found). f.number) (found_other n l at h e);
    place = ap (λ (f : Found). f.place ∷ []) (found_other n l at h e);
  }
    where
      back : (b : Stands) → Means b → other ≡ b
      back ended m = absurd (omega arith)
      back other m = refl
      back (here x) m = absurd (true≢false (sym m.known ∙ e))

  there : at < length l → is_version n ≡ true → Right (here (record_at v l at))
  there h e = record {
    exactly = λ b. ((λ f. means_as {a = here (record_at v l at)} (record { left = h; known = e; means = (record_exactly v l at (record_at v l at)).0 refl }) f), back b);
    same = read (record_at v l at) refl;
    number = ap (λ (f : Found). f.number) (found_here n l at h e);
    place = ap (λ (f : Found). f.place ∷ []) (found_here n l at h e);
  }
    where
      back : (b : Stands) → Means b → here (record_at v l at) ≡ b
      back ended m = absurd (omega arith)
      back other m = absurd (true≢false (sym e ∙ m.1))
      back (here x) m = ap here ((record_exactly v l at x).1 m.means)

      read : (x : Answer) → record_at v l at ≡ x → stands_in (found_for (here x)) (places_for (here x)) ≡ here x
      read (Ok (Some there)) f =
          let m = (record_exactly v l at (Ok (Some there))).0 f in
          rw (← m.2, ← m.3)
      read (Ok None) f = absurd (omega (arith, (record_exactly v l at (Ok None)).0 f))
      read (Err CutRecord) f = refl
      read (Err (UnknownSetting place next)) f =
          let m = (record_exactly v l at (Err (UnknownSetting place next))).0 f in
          rw (← m.2)

  tells : {after : RecordMemory} {r : ℕ} (a : Stands) → Right a → RecordAsked n l at after r → RecordExactly n l at after.place r
  tells a t asked =
      let told : Reports found_for places_for a _ _ = record { number = asked.number ∙ t.number; words = asked.place ∙ t.place } in
      record {
        read = number_exactly stands_in t.same told t.exactly 0 refl;
        unknown_version = number_exactly stands_in t.same told t.exactly 6 refl;
        cut_record = number_exactly stands_in t.same told t.exactly 7 refl;
        unknown_setting_lem = λ place.
            let e = reported_exactly stands_in t.same told t.exactly (here (Err (UnknownSetting place (cursor_after v at)))) refl in
            ((λ h. e.0 (record { number = h.0; words = h.1 })), λ m. ((e.1 m).number, (e.1 m).words));
        end = number_exactly stands_in t.same told t.exactly 255 refl;
      }

  pub record_call_exactly : {after : RecordMemory} {r : ℕ} → RecordAsked n l at after r → RecordExactly n l at after.place r
  record_call_exactly asked = elim (dec_le (length l) at) [
    | yes h ↦ tells ended (at_end_lem h) asked
    | no h ↦ by_version_lem (is_version n) refl (omega arith) asked
  ]
    where
      by_version_lem : (b : Bool) → is_version n ≡ b → at < length l → {after : RecordMemory} {r : ℕ} → RecordAsked n l at after r → RecordExactly n l at after.place r
      by_version_lem true e h asked = tells (here (record_at v l at)) (there h e) asked
      by_version_lem false e h asked = tells other (of_other h e) asked
