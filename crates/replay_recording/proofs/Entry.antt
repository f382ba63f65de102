-- The recorded and the replayed answer of a written entry are the answer that drawing gave. Assumes nothing.
use Prim.Native.Nat.{ℕ, ◌+◌, ◌<◌}
use mathlib.Core.Path.{◌≡◌, refl, sym, ap, subst, ◌∙◌}
use mathlib.Core.Bool.{Bool, true, false, cond}
use mathlib.Core.List.{[], ◌∷◌, ◌++◌}
use native.Mathlib.Omega.{arith}
use lib.ListN.{length, take, get_or, length-append}
use lib.Seq.{take_all}
use Rattle.level.specs.Top.{Top, is_top}
use Rattle.patch.specs.declared.kinds.Patch.{Patch}
use Rattle.patch.specs.declared.settings.Settings.{Settings}
use Rattle.patch.specs.Subdivide.{discards}
use Rattle.measure.specs.Sizes.{points_of, indices_of}
use Rattle.level.proofs.Top.{top_as}
use Rattle.tessellate.specs.Answers.{points_code, indices_code}
use Rattle.patch_text.proofs.Sizes.{points_fit, indices_fit}
use Rattle.job_fields.specs.declared.version.Version.TheVariants.{One}
use Rattle.job.specs.Records as records
use Rattle.job_fields.specs.Bytes.{low_bytes}
use Rattle.job.specs.Patches.{patch_of}
use Rattle.job.specs.Records.{record_at, cursor_after}
use Rattle.job_bytes.specs.Written.{record_bytes}
use Rattle.job_bytes.proofs.Lengths.{record_length}
use Rattle.job_writer.proofs.Has.{Has, has_front, has_back, has_byte, word_has}
use Rattle.job_writer.proofs.RoundTrip.{record_same}
use Rattle.replay_entry.specs.declared.outcome.Outcome.{Outcome}
use Rattle.replay_entry.specs.Outcomes.{refusal, drawn, patch_outcome}
use Rattle.replay_entry.specs.Entries.{record_outcome, recorded, replayed, agrees}
use Rattle.replay_entry.proofs.Drawings.{drawn_together}
use Rattle.replay_entry.proofs.Today.{replayed_read, read_top}
use Rattle.replay_entry.proofs.Sides.{equal_same}
use Rattle.replay_recording.specs.Recordings.{RecordedCall, WasMade, answered_outcome, outcome_bytes, entry_bytes}

-- both counts of a patch fit into two bytes
counts_fit : (set : Settings) (p : Patch) → Top set.top → ((patch_outcome set p).points < 65536) × ((patch_outcome set p).indices < 65536)
unfolding patch_outcome
counts_fit set p top = go (discards p)
  where
    go : (t : Bool) → ((cond t (refusal 1) (drawn (points_of set p) (indices_of set p))).points < 65536) × ((cond t (refusal 1) (drawn (points_of set p) (indices_of set p))).indices < 65536)
    go true = omega arith
    go false = (omega (arith, points_fit set top p), omega (arith, indices_fit set top p))

module _ (c : RecordedCall) where
  -- an entry has 34 bytes
  pub entry_length : length (entry_bytes c) ≡ 34
  unfolding entry_bytes low_bytes
  entry_length = length-append (record_bytes One c.entry) (outcome_bytes (answered_outcome c)) ∙ ap (λ (n : ℕ). n + 5) (record_length One c.entry)

  whole : Has (entry_bytes c) 0 (record_bytes One c.entry ++ outcome_bytes (answered_outcome c))
  unfolding entry_bytes
  whole = record { is = take_all (length (entry_bytes c)) (entry_bytes c) (omega arith) }

  -- where the answer begins
  tail_at : Has (entry_bytes c) 29 (outcome_bytes (answered_outcome c))
  tail_at =
      let e : 0 + length (record_bytes One c.entry) ≡ 29 = omega (arith, record_length One c.entry) in
      subst (λ (n : ℕ). Has (entry_bytes c) n (outcome_bytes (answered_outcome c))) e (has_back (record_bytes One c.entry) (outcome_bytes (answered_outcome c)) whole)

  module _ (p : (answered_outcome c).points < 65536) (i : (answered_outcome c).indices < 65536) where
    pub entry_recorded : recorded (entry_bytes c) ≡ answered_outcome c
    unfolding recorded low_bytes
    entry_recorded =
        let o = answered_outcome c in
        let counts = has_back (o.answer ∷ []) (low_bytes 2 o.points ++ low_bytes 2 o.indices) tail_at in
        rw (
          has_byte tail_at 0 (omega arith),
          word_has 2 o.points p (has_front (low_bytes 2 o.points) (low_bytes 2 o.indices) counts),
          word_has 2 o.indices i (has_back (low_bytes 2 o.points) (low_bytes 2 o.indices) counts),
        )

  module _ (m : WasMade c) where
    read : record_at One (entry_bytes c) 0 ≡ records.read c.entry (cursor_after One 0)
    read = record_same One (entry_bytes c) 0 c.entry m.writable m.levels (subst (λ (n : ℕ). take n (entry_bytes c) ≡ record_bytes One c.entry)
        (record_length One c.entry) (has_front (record_bytes One c.entry) (outcome_bytes (answered_outcome c)) whole).is)

    top : is_top c.entry.settings.top ≡ true
    top = read_top (entry_bytes c) c.entry (cursor_after One 0) (sym read)

    pub answered_is : answered_outcome c ≡ record_outcome c.entry
    answered_is =
        drawn_together c.entry.settings (patch_of c.entry) top c.points c.indices
        {a = record { number = (points_code c.points).number; first = get_or (points_code c.points).values 0 0; second = get_or (points_code c.points).values 1 0 }}
        {b = record { number = (indices_code c.indices).number; first = get_or (indices_code c.indices).values 0 0; second = get_or (indices_code c.indices).values 1 0 }}
        m.full m.drew_points m.drew_indices (record { number = refl; first = refl; second = refl }) (record { number = refl; first = refl; second = refl })

    -- the entry agrees
    pub entry_agrees : agrees (entry_bytes c) ≡ true
    entry_agrees =
        let small = counts_fit c.entry.settings (patch_of c.entry) (top_as c.entry.settings.top top) in
        let fits = subst (λ (o : Outcome). (o.points < 65536) × (o.indices < 65536)) (sym answered_is) small in
        equal_same (recorded (entry_bytes c)) (replayed (entry_bytes c)) (entry_recorded fits.0 fits.1 ∙ answered_is ∙ sym (replayed_read (entry_bytes c) c.entry (cursor_after One 0) (sym read)))
