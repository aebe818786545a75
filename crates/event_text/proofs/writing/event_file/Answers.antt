use Rattle.std.proofs.Common.{◌≡◌, ◌≤◌, List, ℕ, length, ap, ◌∙◌, arith, subst, take_all}
use Rattle.xk_base.specs.declared.limits.TheConstants.{EVENT_FILE_LIMIT}
use Rattle.event_text.specs.EventFile.{input_of}
use Rattle.event_text.specs.Spelling.{event_lines}
use Rattle.event_text.proofs.WrittenLineLemmas.{lines_are_read}
use Rattle.event_text.proofs.writing.event_file.Goals as goal

pub returns-clause-asks : goal.returns-clause-asks
returns-clause-asks c askable few =
    let end : length c.args.events.now ≤ c.loop-event.event-index = omega arith in
    let is : c.loop-event.file.items ≡ event_lines c.args.events.now =
    c.loop-event.invariant ∙ ap event_lines (take_all c.loop-event.event-index c.args.events.now end) in
    ap input_of is ∙ lines_are_read c.args.events.now askable (subst (λ (bytes : List ℕ). length bytes ≤ EVENT_FILE_LIMIT) is few)
