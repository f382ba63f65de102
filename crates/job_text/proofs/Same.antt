-- Equal bytes are read as the same record. Assumes nothing.
use Prim.Native.Nat.{ℕ, zero, suc, ◌+◌, ◌≤◌, ◌<◌}
use mathlib.Core.Path.{◌≡◌, refl, ap, ◌∙◌}
use mathlib.Core.Bool.{Bool, true, false, cond}
use mathlib.Core.List.{List, [], ◌∷◌, ◌++◌}
use native.Mathlib.Nat.{add_assoc, add-zero}
use native.Mathlib.Omega.{arith}
use lib.ListN.{length, get_or-append}
use lib.Seq.{get_or-append-add}
use Rattle.job_fields.specs.declared.version.Version.{Version}
use Rattle.job_fields.specs.declared.version.Version.TheVariants.{One, Two}
use Rattle.job_fields.specs.declared.levels.Levels.{Levels}
use Rattle.job.specs.declared.record.Record.{Record}
use Rattle.std.specs.Prelude.{Ok, Err, None}
use Rattle.job.specs.declared.next.RecordError.TheVariants.{CutRecord, UnknownSetting}
use Rattle.job_fields.specs.Version.{setting_bytes, record_size}
use Rattle.job_fields.specs.Bytes.{byte_at, word}
use Rattle.job_fields.specs.Settings.{choices, first_over, kind_of, settings_at}
use Rattle.job_fields.specs.Tops.{top_at, unknown_place}
use Rattle.job_fields.specs.Levels.{bits_at, levels_of}
use Rattle.job.specs.Records.{record_of, read, cursor_after, at_end, incomplete, unknown, record_at}
use Rattle.patch.specs.declared.settings.Settings.{Settings}
use Rattle.job_record_text.specs.Replies.{record_reply}
use Rattle.job_text.proofs.Sizes.{settings_least}

-- k bytes from a on and k bytes from b on are equal
abbrev pub Agree : ℕ → List ℕ → ℕ → List ℕ → ℕ → Type 0
Agree k bs a cs b = (j : ℕ) → j < k → byte_at bs (a + j) ≡ byte_at cs (b + j)

-- with bytes before
pub agree_after : (k : ℕ) (hs bs : List ℕ) (at : ℕ) → Agree k (hs ++ bs) (length hs + at) bs at
agree_after k hs bs at j l = rw (add_assoc (length hs) at j) (get_or-append-add hs bs (at + j) 0)

-- with bytes after
pub agree_before : (k : ℕ) (bs cs : List ℕ) (at : ℕ) → at + k ≤ length bs → Agree k (bs ++ cs) at bs at
agree_before k bs cs at h j l = get_or-append bs cs 0 (at + j) (omega arith)

module _ (bs cs : List ℕ) where
  -- of m + n bytes, the last n
  later : (m n a b : ℕ) → Agree (m + n) bs a cs b → Agree n bs (a + m) cs (b + m)
  later m n a b h j l = rw (add_assoc a m j, add_assoc b m j) (h (m + j) (omega arith))

  fewer : (m n a b : ℕ) → m ≤ n → Agree n bs a cs b → Agree m bs a cs b
  fewer m n a b l h j k = h j (omega arith)

  first : (n a b : ℕ) → Agree (suc n) bs a cs b → byte_at bs a ≡ byte_at cs b
  first n a b h = rw (add-zero a, add-zero b) at (h 0 (omega arith))

  pub word_agrees : (k a b : ℕ) → Agree k bs a cs b → word k bs a ≡ word k cs b
  unfolding word
  word_agrees zero a b h = refl
  word_agrees (suc k) a b h = rw (first k a b h, word_agrees k (a + 1) (b + 1) (later 1 k a b (fewer (1 + k) (suc k) a b (omega arith) h)))

  over_agrees : (limits : List ℕ) (a b : ℕ) → Agree (length limits) bs a cs b → first_over limits bs a ≡ first_over limits cs b
  unfolding first_over
  over_agrees [] a b h = refl
  over_agrees (m ∷ ms) a b h =
      rw (first (length ms) a b h, over_agrees ms (a + 1) (b + 1) (later 1 (length ms) a b (fewer (1 + length ms) (suc (length ms)) a b (omega arith) h)))

  bits_agree : (a b : ℕ) → Agree 24 bs a cs b → bits_at bs a ≡ bits_at cs b
  bits_agree a b h =
      let w0 = word_agrees 4 a b (fewer 4 24 a b (omega arith) h) in
      rw (w0, w 4 (omega arith), w 8 (omega arith), w 12 (omega arith), w 16 (omega arith), w 20 (omega arith))
    where
      w : (m : ℕ) → m + 4 ≤ 24 → word 4 bs (a + m) ≡ word 4 cs (b + m)
      w m l = word_agrees 4 (a + m) (b + m) (later m 4 a b (fewer (m + 4) 24 a b l h))

  -- the top level, if the setting bytes are equal
  top_agrees : (v : Version) (a b : ℕ) → Agree (setting_bytes v) bs a cs b → top_at v bs a ≡ top_at v cs b
  top_agrees One a b h = refl
  top_agrees Two a b h = h 5 (omega arith)

  -- the place of the first setting byte that is out of range
  place_agrees : (v : Version) (a b : ℕ) → Agree (setting_bytes v) bs a cs b → unknown_place v bs a ≡ unknown_place v cs b
  unfolding unknown_place
  place_agrees One a b h = over_agrees choices a b h
  place_agrees Two a b h = rw (over_agrees choices a b (fewer 5 6 a b (omega arith) h), top_agrees Two a b h)

  -- the settings, with a given top level
  settings_agree : (a b t : ℕ) → Agree 5 bs a cs b → settings_at bs a t ≡ settings_at cs b t
  settings_agree a b t h = rw (h 1 (omega arith), h 2 (omega arith), h 3 (omega arith), h 4 (omega arith))

  -- the parts of a record: the byte of its kind, its settings and the bits of its levels
  of_parts : ℕ → Settings → Levels ℕ → Record
  of_parts kind settings bits = record { kind = kind_of kind; settings = settings; levels = levels_of bits; bits = bits }

  -- the record, part by part
  record_agrees : (v : Version) (a b : ℕ) → Agree (record_size v) bs a cs b → record_of v bs a ≡ record_of v cs b
  unfolding record_of of_parts
  record_agrees v a b h =
      let s = setting_bytes v in
      let settings = fewer s (record_size v) a b (omega arith) h in
      let five = fewer 5 s a b (settings_least v) settings in
      ap (λ (k : ℕ). of_parts k (settings_at bs a (top_at v bs a)) (bits_at bs (a + s))) (first 4 a b five)
      ∙ ap (λ (t : ℕ). of_parts (byte_at cs b) (settings_at bs a t) (bits_at bs (a + s))) (top_agrees v a b settings)
      ∙ ap (λ (x : Settings). of_parts (byte_at cs b) x (bits_at bs (a + s))) (settings_agree a b (top_at v cs b) five)
      ∙ ap (of_parts (byte_at cs b) (settings_at cs b (top_at v cs b))) (bits_agree (a + s) (b + s) (later s 24 a b h))

  -- the text is the same
  pub reply_agrees : (v : Version) (a b : ℕ) → Agree (record_size v) bs a cs b → at_end bs a ≡ at_end cs b → incomplete v bs a ≡ incomplete v cs b → record_reply
      (record_at v bs a) ≡ record_reply (record_at v cs b)
  unfolding record_at
  reply_agrees v a b h e c =
      let r = record_agrees v a b h in
      let u = place_agrees v a b (fewer (setting_bytes v) (record_size v) a b (omega arith) h) in
      rw (e, c, u, r) (go (at_end cs b) (incomplete v cs b) (unknown v cs b))
    where
      go : (e c u : Bool)
          → record_reply (cond e (Ok None) (cond c (Err CutRecord) (cond u (Err (UnknownSetting (unknown_place v cs b) (cursor_after v a))) (read (record_of v cs b) (cursor_after v a)))))
          ≡ record_reply (cond e (Ok None) (cond c (Err CutRecord) (cond u (Err (UnknownSetting (unknown_place v cs b) (cursor_after v b))) (read (record_of v cs b) (cursor_after v b)))))
      go true c u = refl
      go false true u = refl
      go false false true = refl
      go false false false = refl
