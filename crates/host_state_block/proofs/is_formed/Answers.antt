use mathlib.Core.Path.{refl, sym, ◌∙◌}
use mathlib.Core.Bool.{false≢true}
use Rattle.checks.proofs.Laws.{part_from_lem}
use Rattle.host_state_block.proofs.Checked.{settings_ill, slots_ill, slots_formed}
use Rattle.host_state_block.proofs.is_formed.Goals.{then-good_settings, else-good_settings}
use Rattle.host_state_block.proofs.is_formed.Goals as goal

pub returns-then-are_slots_formed : goal.returns-then-are_slots_formed
returns-then-are_slots_formed c =
    elim c.if-good_settings.branch [
      | then-good_settings w ↦ c.are_distinct.ensures
          ∙ slots_formed c.args.block.now _ _ _ c.settings_of-settings.ensures (part_from_lem 12 c.args.block.now) c.addresses_of.ensures
          (sym c.good_settings.ensures ∙ w.if-good_settings.true) (sym w.are_slots_formed.ensures ∙ sym w.value-is ∙ c.if-are_slots_formed.true)
      | else-good_settings w ↦ absurd (false≢true (sym w.if-good_settings.false ∙ sym w.value-is ∙ c.if-are_slots_formed.true))
    ]

pub returns-else-are_slots_formed : goal.returns-else-are_slots_formed
returns-else-are_slots_formed c =
    elim c.if-good_settings.branch [
      | then-good_settings w ↦ c.if-are_slots_formed.false
          ∙ slots_ill c.args.block.now _ _ _ c.settings_of-settings.ensures (part_from_lem 12 c.args.block.now) refl
          (sym c.good_settings.ensures ∙ w.if-good_settings.true) (sym w.are_slots_formed.ensures ∙ sym w.value-is ∙ c.if-are_slots_formed.false)
      | else-good_settings w ↦ c.if-are_slots_formed.false
          ∙ settings_ill c.args.block.now _ _ _ c.settings_of-settings.ensures (part_from_lem 12 c.args.block.now) refl
          (sym c.good_settings.ensures ∙ w.if-good_settings.false)
    ]
