-- No call delivers an interrupt, or makes a number pending: no effect does.
use Rattle.std.proofs.Common.{◌≡◌, Bool, true, false, nat_eq}
use Rattle.std.specs.Prelude.{not, if◌then◌else◌}
use Rattle.std.proofs.lemmas.Bool.{and_parts, false≢true}
use Rattle.machine_model.specs.Calling.Calls.{call}
use Rattle.machine_model.specs.Ending.Closing.{closed, senders_held_gone, senders_queued_gone}
use Rattle.machine_model.specs.Ending.Ends.{forgotten}
use Rattle.machine_model.specs.State.Machine.{Machine}
use Rattle.machine_model.specs.State.Order.{turn}
use Rattle.machine_model.specs.Stepping.Interrupts.{is_claim_of}
use Rattle.call_effects.specs.Effects.{Effect, Pages, HasHeap, Starts, Waits, Awaits, EndsTurn, Founds, Connects, TakesNumber, Serves, ClosesServers, Unqueues, Orphans, Forgets, Claims, Frees, apply}
use Rattle.call_effects.proofs.LeadingLemmas.{call_leads}
use Rattle.interrupt_laws.proofs.QuietLemmas.{CallQuiet, LeavesPending}

still_pending : (b old : Bool) → (if b then false else old) ≡ true → old ≡ true
still_pending true old e = absurd (false≢true e)
still_pending false old e = e

effect_quiet : (effect : Effect) (m : Machine) → LeavesPending m (apply effect m)
unfolding turn closed senders_queued_gone senders_held_gone forgotten
effect_quiet (Pages step) m k e = e
effect_quiet (HasHeap n) m k e = e
effect_quiet (Starts who thread) m k e = e
effect_quiet (Waits who state) m k e = e
effect_quiet (Awaits true number) m k e = e
effect_quiet (Awaits false number) m k e = e
effect_quiet EndsTurn m k e = e
effect_quiet (Founds server) m k e = e
effect_quiet (Connects serial) m k e = e
effect_quiet TakesNumber m k e = e
effect_quiet (Serves serial step) m k e = e
effect_quiet (ClosesServers which) m k e = e
effect_quiet (Unqueues pid) m k e = e
effect_quiet (Orphans pid) m k e = e
effect_quiet (Forgets pid) m k e = (and_parts (m.pending k) (not (is_claim_of pid (m.claims k))) e).0
effect_quiet (Claims n claim) m k e = e
effect_quiet (Frees n) m k e = still_pending (nat_eq k n) (m.pending k) e

pub call_quiet : CallQuiet call
call_quiet m w = call_leads LeavesPending (λ n k e. e) (λ a b c h j k e. h k (j k e)) effect_quiet m w
