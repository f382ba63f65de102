-- What the calls wrote, the calls read back; and a header that was read is written as the same bytes. Assumes nothing.
use Prim.Native.Nat.{ℕ, ◌≤◌, ◌<◌}
use mathlib.Core.Path.{◌≡◌, refl, sym, ap, ◌∙◌}
use mathlib.Core.Bool.{Bool, true, false, cond, ◌||◌}
use mathlib.Core.List.{List, [], ◌∷◌}
use native.Mathlib.Omega.{arith}
use borrow.Author.Tests.{ltb-false, le-ltb, eqb-true}
use lib.Dec.{ltb, eqb}
use lib.ListN.{length, take, drop, get_or, length-take, length-drop}
use Rattle.buffer.proofs.Laws.{over_front}
use Rattle.answer_codes.specs.AnswerCode.{AnswerCode, refused, drew}
use Rattle.call_answers.specs.Replies.{unknown_setting, bad_top, one_word}
use Rattle.call_inputs.specs.Inputs.{top_in}
use Rattle.job.specs.declared.header.Header.{Header}
use Rattle.std.specs.Prelude.{Result, Ok, Err}
use Rattle.job.specs.declared.header.HeaderError.{HeaderError}
use Rattle.job.specs.declared.header.HeaderError.TheVariants.{NotAJob, UnknownVersion}
use Rattle.job.specs.Records as records
use Rattle.job_fields.specs.declared.version.Version.{Version}
use Rattle.job_fields.specs.declared.version.Version.TheVariants.{One, Two}
use Rattle.job_fields.specs.Settings.{choices, AllBelow, first_unknown_setting}
use Rattle.job_fields.specs.Version.{version_number, record_size}
use Rattle.job_fields.proofs.Limits.{first_none}
use Rattle.job.specs.Header.{header_of}
use Rattle.job.specs.Records.{record_at, cursor_after}
use Rattle.job_bytes.specs.Written.{header_bytes, takes_top, record_bytes}
use Rattle.job_bytes.specs.Patterns.{Patterns}
use Rattle.job_bytes.proofs.Lengths.{header_length, record_length}
use Rattle.job_writer.specs.Whole.{Bytes}
use Rattle.job_writer.specs.Answers.{bytes_verdict, wrote}
use Rattle.job_writer.proofs.Has.{has_byte}
use Rattle.job_writer.proofs.SettingBytes.{five_again}
use Rattle.job_writer.proofs.Headers.{header_back, header_again}
use Rattle.job_writer.proofs.RoundTrip.{record_back}
use Rattle.job_words.specs.declared.found.Found.{Found}
use Rattle.job_words.specs.Inputs.{is_version, version_of_number, bits_in, record_in}
use Rattle.job_words.specs.Found.{settings_out, found_of, found_at}
use Rattle.job_words.proofs.Places.{found_here}
use Rattle.job_exports.specs.Back.{SixPatterns, ReadBack}
use Rattle.job_exports.specs.Calls.{header_says, record_says, HeaderCalled, RecordCalled, read_code, HeaderAsked, RecordMemory, RecordAsked}
use Rattle.job_exports.proofs.Calls.{header_known}

-- ---- a version and its number
number_version : (n : ℕ) → is_version n ≡ true → version_number (version_of_number n) ≡ n
unfolding is_version version_of_number
number_version n e = go (eqb n 1) (eqb n 2) refl refl e
  where
    go : (a b : Bool) → eqb n 1 ≡ a → eqb n 2 ≡ b → (a || b) ≡ true → version_number (cond a One Two) ≡ n
    go true b f g h = sym (eqb-true n 1 f)
    go false true f g h = sym (eqb-true n 2 g)
    go false false f g h = let z : ◌≡◌ {A = ℕ} 0 1 = cc in absurd (omega arith)

pub version_number_lem : (v : Version) → (is_version (version_number v) ≡ true) × (version_of_number (version_number v) ≡ v)
unfolding is_version version_of_number
version_number_lem One = (refl, refl)
version_number_lem Two = (refl, refl)

-- ---- writing that was answered with 0
-- there was room, and the answer is that many bytes
record Roomy (size have : ℕ) : Type 0 where
  room : size ≤ have
  is : bytes_verdict size have ≡ wrote size

roomy : (size have : ℕ) → (bytes_verdict size have).number ≡ 0 → Roomy size have
roomy size have = go (ltb have size) refl
  where
    go : (b : Bool) → ltb have size ≡ b → (cond b (refused 10) (wrote size)).number ≡ 0 → Roomy size have
    go true f e = absurd (omega arith)
    go false f e = record { room = ltb-false have size f; is = rw f }

record HeaderWent (n have : ℕ) : Type 0 where
  known : is_version n ≡ true
  is : header_says n have ≡ wrote 5

header_went : (n have : ℕ) → (header_says n have).number ≡ 0 → HeaderWent n have
unfolding header_says
header_went n have e = go (is_version n) refl e
  where
    go : (b : Bool) → is_version n ≡ b → (cond b (bytes_verdict 5 have) (refused 6)).number ≡ 0 → HeaderWent n have
    go true f e = record { known = f; is = rw f (roomy 5 have e).is }
    go false f e = absurd (omega arith)

record RecordWent (n : ℕ) (bs : List ℕ) (have : ℕ) : Type 0 where
  known : is_version n ≡ true
  top : takes_top (version_of_number n) (top_in bs) ≡ true
  settings : 5 ≤ first_unknown_setting bs 0
  is : record_says n bs have ≡ wrote (record_size (version_of_number n))

record_went : (n : ℕ) (bs : List ℕ) (have : ℕ) → (record_says n bs have).number ≡ 0 → RecordWent n bs have
unfolding record_says
record_went n bs have e = go (is_version n) (takes_top (version_of_number n) (top_in bs)) (ltb (first_unknown_setting bs 0) 5) refl refl refl e
  where
    go : (a b c : Bool) → is_version n ≡ a → takes_top (version_of_number n) (top_in bs) ≡ b → ltb (first_unknown_setting bs 0) 5 ≡ c
        → (cond a (cond b (cond c (unknown_setting (first_unknown_setting bs 0)) (bytes_verdict (record_size (version_of_number n)) have)) bad_top) (refused 6)).number ≡ 0 → RecordWent n bs have
    go true true false f g h e = record { known = f; top = g; settings = ltb-false (first_unknown_setting bs 0) 5 h; is = rw (f, g, h) (roomy (record_size (version_of_number n)) have e).is }
    go true true true f g h e = absurd (omega arith)
    go true false c f g h e = absurd (omega arith)
    go false b c f g h e = absurd (omega arith)

-- ---- headers
-- a written header is read as the same version, whatever follows it
pub header_read_back : (n : ℕ) {l l' c' : List ℕ} → HeaderCalled n l l' c' 0 → (file : List ℕ) → take 5 file ≡ take (get_or c' 0 0) l'
    → {k' : List ℕ} {r : ℕ} → HeaderAsked file k' r → (r ≡ 0) × (k' ≡ n ∷ [])
header_read_back n {l} {l'} {c'} c file e a =
    let v = version_of_number n in
    let w = header_went n (length l) (sym c.says.number) in
    let count : get_or c' 0 0 ≡ 5 = ap (λ (x : List ℕ). get_or x 0 0) c.says.counts ∙ ap (λ (t : AnswerCode). get_or t.values 0 0) w.is in
    let front : take 5 file ≡ header_bytes v = e ∙ ap (λ (k : ℕ). take k l') count ∙ ap (take 5) c.list ∙ over_front l (header_bytes v) 5 (sym (header_length v)) in
    let read : read_code (header_of file) ≡ drew n = ap read_code (header_back v file front) ∙ ap drew (number_version n w.known) in
    (a.number ∙ ap (λ (t : AnswerCode). t.number) read, a.counts ∙ ap (λ (t : AnswerCode). one_word t.values) read)

-- a header that was read, written in the version that was returned into a list with room: the answer 0, and the same bytes
pub header_copied : (l : List ℕ) {c' : List ℕ} → Bytes l → HeaderAsked l c' 0 → {k k' d' : List ℕ} {r : ℕ} → 5 ≤ length k
    → HeaderCalled (get_or c' 0 0) k k' d' r → (r ≡ 0) × (take 5 k' ≡ take 5 l)
header_copied l {c'} b a {k} {k'} {d'} {r} room c = go (header_of l) refl (sym a.number) a.counts
  where
    written : (v : Version) → take 5 l ≡ header_bytes v → get_or c' 0 0 ≡ version_number v → (r ≡ 0) × (take 5 k' ≡ take 5 l)
    written v again e =
        let known : is_version (get_or c' 0 0) ≡ true = rw e (version_number_lem v).0 in
        let is : version_of_number (get_or c' 0 0) ≡ v = rw e (version_number_lem v).1 in
        let right : header_says (get_or c' 0 0) (length k) ≡ wrote 5 = header_known (get_or c' 0 0) (length k) known ∙ rw (le-ltb (length k) 5 room) in
        let z : r ≡ 0 = c.says.number ∙ ap (λ (t : AnswerCode). t.number) right in
        (z, rw (rw (z, is) at c.list) (over_front k (header_bytes v) 5 (sym (header_length v))) ∙ sym again)

    go : (h : Result Header HeaderError) → header_of l ≡ h → (read_code (header_of l)).number ≡ 0 → c' ≡ one_word (read_code (header_of l)).values → (r ≡ 0) × (take 5 k' ≡ take 5 l)
    go (Ok header) e z w =
        written header.version (header_again header.version l header.next b e)
        (ap (λ (x : List ℕ). get_or x 0 0) (w ∙ ap (λ (h : Result Header HeaderError). one_word (read_code h).values) e))
    go (Err NotAJob) e z w = let f = ap (λ (h : Result Header HeaderError). (read_code h).number) e in absurd (omega arith)
    go (Err UnknownVersion) e z w = let f = ap (λ (h : Result Header HeaderError). (read_code h).number) e in absurd (omega arith)

-- ---- records
-- six bytes or six words, as a C caller passes them
six : (l : List ℕ) → length l ≡ 6 → l ≡ get_or l 0 0 ∷ get_or l 1 0 ∷ get_or l 2 0 ∷ get_or l 3 0 ∷ get_or l 4 0 ∷ get_or l 5 0 ∷ []
six (a ∷ b ∷ c ∷ d ∷ e ∷ f ∷ []) h = refl
six [] h = absurd (omega arith)
six (a ∷ []) h = absurd (omega arith)
six (a ∷ b ∷ []) h = absurd (omega arith)
six (a ∷ b ∷ c ∷ []) h = absurd (omega arith)
six (a ∷ b ∷ c ∷ d ∷ []) h = absurd (omega arith)
six (a ∷ b ∷ c ∷ d ∷ e ∷ []) h = absurd (omega arith)
six (a ∷ b ∷ c ∷ d ∷ e ∷ f ∷ g ∷ l) h = absurd (omega arith)

six_same : {a a' b b' c c' d d' e e' f : ℕ} → a ≡ a' → b ≡ b' → c ≡ c' → d ≡ d' → e ≡ e'
    → ◌≡◌ {A = List ℕ} (a ∷ b ∷ c ∷ d ∷ e ∷ f ∷ []) (a' ∷ b' ∷ c' ∷ d' ∷ e' ∷ f ∷ [])
six_same p q r s t = cc

settings_back : (bs ps : List ℕ) → length bs ≡ 6 → AllBelow choices bs 0 → settings_out (record_in bs ps) ≡ bs
settings_back bs ps n known =
    let five = five_again bs 0 (top_in bs) known (omega arith) in
    sym
    (six bs n
    ∙ six_same (has_byte five 0 (omega arith)) (has_byte five 1 (omega arith)) (has_byte five 2 (omega arith)) (has_byte five 3 (omega arith)) (has_byte five 4 (omega arith)))

patterns_small : (ps : List ℕ) → SixPatterns ps → Patterns (bits_in ps)
patterns_small ps h = record { outer0 = h.small 0; outer1 = h.small 1; outer2 = h.small 2; outer3 = h.small 3; inner0 = h.small 4; inner1 = h.small 5 }

-- if a file has bytes at a place, a byte is left there
left_there : (file : List ℕ) (at size : ℕ) (ys : List ℕ) → 1 ≤ size → length ys ≡ size → take size (drop at file) ≡ ys → at < length file
left_there file at size ys one n e = omega (arith, n, ap length e, length-take size (drop at file), length-drop at file)

-- the bytes of a written record, anywhere in a file, are read as the same record
pub record_read_back : (n : ℕ) (bs ps : List ℕ) → length bs ≡ 6 → SixPatterns ps → {l l' c' : List ℕ} → RecordCalled n bs ps l l' c' 0
    → (file : List ℕ) (at : ℕ) → take (get_or c' 0 0) (drop at file) ≡ take (get_or c' 0 0) l' → {after : RecordMemory} {r : ℕ}
    → RecordAsked n file at after r → ReadBack n bs ps at after r
record_read_back n bs ps n6 h {l} {l'} {c'} c file at e a =
    let v = version_of_number n in
    let x = record_in bs ps in
    let w = record_went n bs (length l) (sym c.says.number) in
    let known = (first_none choices bs 0).0 w.settings in
    let count : get_or c' 0 0 ≡ record_size v = ap (λ (y : List ℕ). get_or y 0 0) c.says.counts ∙ ap (λ (t : AnswerCode). get_or t.values 0 0) w.is in
    let there : take (record_size v) (drop at file) ≡ record_bytes v x =
    ap (λ (k : ℕ). take k (drop at file)) (sym count) ∙ e ∙ ap (λ (k : ℕ). take k l') count ∙ ap (take (record_size v)) c.list
    ∙ over_front l (record_bytes v x) (record_size v) (sym (record_length v x)) in
    let read : record_at v file at ≡ records.read x (cursor_after v at) = record_back v file at x (record { top = w.top; patterns = patterns_small ps h }) there in
    let found : found_at n file at ≡ found_of (length file) (records.read x (cursor_after v at)) =
    found_here n file at (left_there file at (record_size v) (record_bytes v x) (omega arith) (record_length v x) there) w.known ∙ ap (found_of (length file)) read in
    record {
      number = a.number ∙ ap (λ (f : Found). f.number) found;
      settings = a.settings ∙ ap (λ (f : Found). f.settings) found ∙ settings_back bs ps n6 known;
      patterns = a.patterns ∙ ap (λ (f : Found). f.patterns) found ∙ sym (six ps h.six);
      next = a.next ∙ ap (λ (f : Found). f.next ∷ []) found;
      place = a.place ∙ ap (λ (f : Found). f.place ∷ []) found;
    }
