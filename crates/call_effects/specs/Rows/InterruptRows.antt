-- The verdicts on ClaimInterrupt and FreeInterrupt: the tests in their order, then the claim.
use Rattle.std.specs.Prelude.{[], ◌∷◌}
use Rattle.syscall_codec.specs.CallWords.{interrupt_argument, interrupt_handler, interrupt_number}
use Rattle.syscall_codec.specs.ReplyWords.{plain_words}
use Rattle.machine_model.specs.Calling.InterruptCalls.{claim_refusals, free_refusals}
use Rattle.machine_model.specs.State.Machine.{Claim}
use Rattle.call_effects.specs.Effects.{Claims, Frees}
use Rattle.call_effects.specs.Verdicts.{RefusedIf, Row, answers_caller}

-- ClaimInterrupt: the interrupt is the caller's process's
abbrev pub claim_row : Row
claim_row m w =
    let claim : Claim = record { pid = m.cursor.pid; handler = interrupt_handler w; argument = interrupt_argument w } in
    RefusedIf (claim_refusals m (interrupt_number w) (interrupt_handler w))
    (answers_caller m plain_words (Claims (interrupt_number w) claim ∷ []))

-- FreeInterrupt: it is nobody's
abbrev pub free_row : Row
free_row m w =
    RefusedIf (free_refusals m (interrupt_number w))
    (answers_caller m plain_words (Frees (interrupt_number w) ∷ []))
