-- State bytes tell states apart.
use Rattle.std.proofs.Common.{◌≡◌, ◌∙◌, ℕ, List, sym, ap, subst}
use Rattle.machine_model.specs.Runs.Matched.{Matched}
use Rattle.snapshot_rows.specs.declared.state.State.{State}
use Rattle.snapshot_rows.specs.Machines.{machine_of}
use Rattle.suspend_image.specs.Forms.{Spells}
use Rattle.suspend_image.specs.Saveable.{SpellsMachine}
use Rattle.suspend_image.specs.StateBytes.{saved_bytes}
use Rattle.suspend_image.proofs.Saved.StateAgainLemmas.{saved_spelled}
use Rattle.suspend_image.proofs.Saved.StateBackLemmas.{spelled_is_saved}
use Rattle.suspend_image.proofs.SpellsLemmas.{spelled_once}
use Rattle.snapshot_laws.specs.Spelled.{BytesTellStates, SpellableSpelled, SpelledBySaved}

pub spelled_by_saved : SpelledBySaved
spelled_by_saved m is =
    let spells : SpellsMachine is.file m = is.spells in
    let matched : Matched (machine_of is.file spells.state) = subst Matched (sym spells.machine) is.matched in
    sym (spelled_is_saved is.file spells.state spells.spelled matched) ∙ ap saved_bytes spells.machine

pub bytes_tell : BytesTellStates
bytes_tell one other is also same =
    let spells : SpellsMachine is.file one = is.spells in
    let others : SpellsMachine also.file other = also.spells in
    let files : is.file ≡ also.file = spelled_by_saved one is ∙ same ∙ sym (spelled_by_saved other also) in
    let spelled : Spells is.file others.state = subst (λ (file : List ℕ). Spells file others.state) (sym files) others.spelled in
    let states : spells.state ≡ others.state = spelled_once is.file spells.state others.state spells.spelled spelled in
    sym spells.machine
    ∙ (ap (λ (s : State). machine_of is.file s) states ∙ (ap (λ (file : List ℕ). machine_of file others.state) files ∙ others.machine))

pub spellable_spelled : SpellableSpelled
spellable_spelled m is = record { matched = is.matched; file = saved_bytes m; spells = saved_spelled m is.matched is.saveable }
