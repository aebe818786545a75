-- ClaimInterrupt and FreeInterrupt. Each is its list of refusals in their order, then its change and its reply, and then the
-- call from its words. The caller is the thread of the cursor.
use Rattle.std.specs.Prelude.{ℕ, ◌%◌, ◌==◌, Bool, false, not, nat_eq, nat_lt, is_some, List, [], ◌∷◌, Some, None}
use Rattle.xk_base.specs.declared.errors.XousError.{XousError}
use Rattle.xk_base.specs.declared.errors.XousError.TheVariants.{BadAlignment, InterruptNotFound, InterruptInUse}
use Rattle.xk_base.specs.declared.limits.TheConstants.{INTERRUPT_LIMIT, TIMER_INTERRUPT}
use Rattle.syscall_codec.specs.CallWords.{interrupt_number, interrupt_handler, interrupt_argument}
use Rattle.xk_base.specs.Tables.Counting.{put_at}
use Rattle.syscall_codec.specs.ReplyWords.{plain_words}
use Rattle.machine_model.specs.State.Changes.{Change, Served, Call, answering, unless_refused}
use Rattle.machine_model.specs.Stepping.Interrupts.{is_claim_of, disarmed_if}
use Rattle.machine_model.specs.State.Machine.{Machine}
use Rattle.machine_model.specs.State.Threads.{answer_to}

-- ---- ClaimInterrupt

abbrev pub claim_refusals : Machine → ℕ → ℕ → List (Bool × XousError)
claim_refusals m k handler =
    (not (nat_lt k INTERRUPT_LIMIT), InterruptNotFound)
    ∷ (not (handler % 4 == 0), BadAlignment)
    ∷ (is_some (m.claims k), InterruptInUse)
    ∷ []

-- the interrupt is the caller's process's
abbrev pub claim_served : Machine → ℕ → ℕ → ℕ → Change
claim_served m k handler argument =
    answering (answer_to m.cursor plain_words)
    (record m { claims = put_at nat_eq m.claims k (Some (record { pid = m.cursor.pid; handler = handler; argument = argument })) })

unfoldable pub claim_call : Call
claim_call m w =
    unless_refused (claim_refusals m (interrupt_number w) (interrupt_handler w))
    (Served (claim_served m (interrupt_number w) (interrupt_handler w) (interrupt_argument w)))

-- ---- FreeInterrupt

abbrev pub free_refusals : Machine → ℕ → List (Bool × XousError)
free_refusals m k =
    (not (is_claim_of m.cursor.pid (m.claims k)), InterruptNotFound)
    ∷ []

-- nobody has claimed the interrupt, and it isn't pending; where it is the timer's, the timer is disarmed
abbrev pub free_served : Machine → ℕ → Change
free_served m k =
    answering (answer_to m.cursor plain_words)
    (record m {
      claims = put_at nat_eq m.claims k None;
      pending = put_at nat_eq m.pending k false;
      compare = disarmed_if (k == TIMER_INTERRUPT) m.compare;
    })

unfoldable pub free_call : Call
free_call m w = unless_refused (free_refusals m (interrupt_number w)) (Served (free_served m (interrupt_number w)))
