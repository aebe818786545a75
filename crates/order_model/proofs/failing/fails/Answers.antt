use Rattle.std.proofs.Common.{◌∙◌, ap, sym}
use Rattle.std.specs.Prelude.{not}
use Rattle.order_model.specs.declared.failing.Failing.{Failing}
use Rattle.order_model.specs.Failing.{fails_of, has_text}
use Rattle.order_model.proofs.FailingLemmas.{exit_there, fault_there, waits_there}
use Rattle.order_model.proofs.failing.fails.Goals as goal

pub returns-in-Exit : goal.returns-in-Exit
returns-in-Exit c p stand =
    c.some_ended.ensures
    ∙ (exit_there p _ _ stand c.deref.result.now c.deref.ensures.value ∙ sym (ap (λ (f : Failing). fails_of f p) c.in-Exit.is))

pub returns-in-Fault : goal.returns-in-Fault
returns-in-Fault c p stand =
    c.some_ended-in-Fault.ensures
    ∙ (fault_there p _ _ stand c.deref-in-Fault.result.now c.deref-in-Fault.ensures.value ∙ sym (ap (λ (f : Failing). fails_of f p) c.in-Fault.is))

pub returns-in-Waits : goal.returns-in-Waits
returns-in-Waits c p stand =
    c.some_stuck.ensures stand.file ∙ (waits_there p _ _ stand c.in-Waits.who ∙ sym (ap (λ (f : Failing). fails_of f p) c.in-Waits.is))

pub returns-in-Console : goal.returns-in-Console
unfolding fails_of
returns-in-Console c p stand =
    c.has_text.ensures
    ∙ ((λ i. has_text ((c.deref-in-Console.ensures.value ∙ stand.console) i) (c.as_bytes.ensures.value i))
    ∙ sym (ap (λ (f : Failing). fails_of f p) c.in-Console.is))

pub returns-in-ConsoleNot : goal.returns-in-ConsoleNot
unfolding fails_of
returns-in-ConsoleNot c p stand =
    ap not c.has_text-in-ConsoleNot.ensures
    ∙ ((λ i. not (has_text ((c.deref-in-ConsoleNot.ensures.value ∙ stand.console) i) (c.as_bytes-in-ConsoleNot.ensures.value i)))
    ∙ sym (ap (λ (f : Failing). fails_of f p) c.in-ConsoleNot.is))
