use Rattle.std.proofs.Common.{◌∙◌, ap, refl}
use Rattle.suspend_image.specs.Sheets.{SheetBytes}
use Rattle.order_search.proofs.StandLemmas.{rows_of}
use Rattle.order_search.proofs.quest.Quest.rows.Goals as goal

pub returns-in-Ok-read_state-clause-rows : goal.returns-in-Ok-read_state-clause-rows
returns-in-Ok-read_state-clause-rows c = (
  c.as_slice.result.now,
  rows_of c.as_slice.result.now _ _ c.in-Ok-read_state.state (c.save.ensures.machine.whole refl) (c.requires.sound.matched c.requires.usable)
      c.requires.within c.requires.reserved c.in-Ok.ensures.saveable
      (c.as_slice.ensures ∙ ap (λ (sheet : SheetBytes). sheet.bytes) (c.in-Ok.ensures.saved refl)) c.in-Ok-read_state.ensures.spelled,
)

pub returns-in-Ok-read_state-clause-read : goal.returns-in-Ok-read_state-clause-read
returns-in-Ok-read_state-clause-read c = record {
  file = c.as_slice.result.now;
  spelled = c.in-Ok-read_state.ensures.spelled;
  matched = c.in-Ok-read_state.ensures.matched;
}
