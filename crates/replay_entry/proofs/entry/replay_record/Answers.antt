use mathlib.Core.Path.{sym, ap, ◌∙◌}
use Rattle.level.specs.Top.{is_top}
use Rattle.patch.specs.declared.settings.Settings.{Settings}
use Rattle.replay_entry.proofs.Today.{replayed_unknown, replayed_read, read_top, not_end}
use Rattle.replay_entry.proofs.entry.replay_record.Goals as goal

pub draw_patch-requires-clause-good_top : goal.draw_patch-requires-clause-good_top
draw_patch-requires-clause-good_top c =
    let found = c.in-Ok-Some.found in
    ap (λ (s : Settings). is_top s.top) c.settings_of-settings.ensures
    ∙ read_top c.args.entry.now found.«record» found.next (rw c.in-Ok-Some.field-0-is at c.in-Ok-Some.ensures.is)

pub returns-in-Ok-Some : goal.returns-in-Ok-Some
returns-in-Ok-Some c =
    let found = c.in-Ok-Some.found in
    c.draw_patch.ensures ∙ rw (
      c.settings_of-settings.ensures,
      c.patch_of-patch.ensures,
    ) (sym (replayed_read c.args.entry.now found.«record» found.next (rw c.in-Ok-Some.field-0-is at c.in-Ok-Some.ensures.is)))

pub returns-in-Ok-None : goal.returns-in-Ok-None
returns-in-Ok-None c = absurd (not_end _ c.requires.whole (rw c.in-Ok-None.field-0-is at c.in-Ok-None.ensures.is))

pub returns-in-Err-UnknownSetting : goal.returns-in-Err-UnknownSetting
returns-in-Err-UnknownSetting c =
    c.refused_by-in-Err-UnknownSetting.ensures
    ∙ sym (replayed_unknown _ _ _ (rw c.in-Err-UnknownSetting.field-0-is at c.in-Err-UnknownSetting.ensures.is))
