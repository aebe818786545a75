-- A call keeps what is another's.
use Rattle.std.proofs.Common.{◌≡◌, ◌≢◌, ℕ, List, Option, Some, None, refl, sym, ap, ◌∙◌, subst}
use Rattle.std.specs.Prelude.{if◌then◌else◌}
use Rattle.std.specs.Option.{option_and_then, option_map}
use Rattle.std.proofs.lemmas.Option.{none-some}
use Rattle.xk_base.specs.declared.errors.XousError.{XousError}
use Rattle.xk_base.specs.declared.ids.ThreadId.{ThreadId}
use Rattle.xk_base.specs.Tables.Circle.{same_thread}
use Rattle.xk_base.specs.Tables.Counting.{put_at}
use Rattle.machine_model.specs.Calling.Calls.{call}
use Rattle.machine_model.specs.Ending.Closing.{any_server, closed, servers_closed}
use Rattle.machine_model.specs.Ending.Ends.{death}
use Rattle.machine_model.specs.Runs.Matched.{Matched}
use Rattle.machine_model.specs.State.Changes.{Change, Outcome, Refused, Retried, Served, call_settled, with_refusal}
use Rattle.machine_model.specs.State.Machine.{Machine, Thread}
use Rattle.machine_model.specs.State.Order.{turn}
use Rattle.machine_model.specs.State.Threads.{passed}
use Rattle.machine_model.specs.Stepping.Acts.{call_by, executes, words_if_call}
use Rattle.machine_model.specs.Stepping.Step.{step}
use Rattle.machine_laws.proofs.Threading.ThreadStepLemmas.{acted_call, turned_to}
use Rattle.call_effects.specs.Rows.ThreadRows.{terminate_row}
use Rattle.call_effects.proofs.ServedLemmas.{OfPlan, OfServed, done}
use Rattle.noninterference_laws.proofs.InstructionLemmas.{other_thread}
use Rattle.noninterference_laws.specs.Fates.{Doing}
use Rattle.noninterference_laws.specs.KeptOthers.{CallKeepsOthers, KeepsOthers, by_call}
use Rattle.noninterference_laws.proofs.DeathLemmas.{dead_pages, dead_servers, dead_threads}
use Rattle.noninterference_laws.proofs.LedgerLemmas.{call_pages}
use Rattle.noninterference_laws.proofs.PageLemmas.{KeepsPages}
use Rattle.noninterference_laws.proofs.PlainPartLemmas.{KeepsClaims, KeepsPending, KeepsProcesses, call_claims, call_pending}
use Rattle.noninterference_laws.proofs.PlainPartLemmas.{call_processes}
use Rattle.noninterference_laws.proofs.ServerLemmas.{KeepsServers, call_servers}
use Rattle.noninterference_laws.proofs.ThreadLemmas.{KeepsThreads, call_threads}
use Rattle.noninterference_laws.proofs.PartLemmas.{KeepsChange, KeepsParts, left_parts, settled_parts, step_others}

module _ (m : Machine) (h : Matched m) (who : ThreadId) (w : List ℕ) where
  abbrev here : Machine
  here = turned_to who m

  abbrev doing : Doing
  doing = by_call who w m

  other_put : (change : Thread → Thread) (id : ThreadId) → id.pid ≢ who.pid
      → put_at same_thread m.threads who (option_map change (m.threads who)) id ≡ m.threads id
  other_put change id other = ap (λ b. if b then option_map change (m.threads who) else m.threads id) (other_thread id who other)

  refused_parts : (error : XousError) → KeepsParts doing (call_settled here (Refused error)).machine
  unfolding call_settled
  refused_parts error =
      left_parts doing (call_settled here (Refused error)).machine
      (record { threads = other_put (with_refusal error); process = refl; claims = refl; pending = λ k claim there other. refl; servers = refl; ledger = refl })

  retried_parts : KeepsParts doing (call_settled here Retried).machine
  unfolding call_settled turn
  retried_parts =
      left_parts doing (call_settled here Retried).machine
      (record { threads = λ id other. refl; process = refl; claims = refl; pending = λ k claim there other. refl; servers = refl; ledger = refl })

  served_parts : (change : Change) → KeepsChange doing change → KeepsParts doing (call_settled here (Served change)).machine
  unfolding call_settled
  served_parts change keeps =
      settled_parts doing (record change {
        machine = record change.machine {
          threads = put_at same_thread change.machine.threads who (option_map passed (change.machine.threads who));
        };
      })
      (record {
        threads = record {
          same = λ id other.
              ap (λ b. if b then option_map passed (change.machine.threads who) else change.machine.threads id) (other_thread id who other)
              ∙ keeps.threads.same id other;
          why = keeps.threads.why;
        };
        process = keeps.process;
        claims = keeps.claims;
        pending = keeps.pending;
        servers = keeps.servers;
        pages = keeps.pages;
      })

  terminates_threads : OfPlan (λ plan. KeepsThreads doing (done here plan)) (terminate_row here w)
  unfolding death servers_closed closed any_server
  terminates_threads = dead_threads m h who.pid who m.reserved m.threads (λ id other. refl) doing.call

  terminates_servers : OfPlan (λ plan. KeepsServers doing (done here plan).machine) (terminate_row here w)
  unfolding death servers_closed
  terminates_servers = dead_servers m h who.pid who m.reserved m.threads (λ id other. refl) doing.call

  terminates_pages : OfPlan (λ plan. KeepsPages who.pid m.ledger (done here plan).machine.ledger) (terminate_row here w)
  unfolding death servers_closed
  terminates_pages = dead_pages m h who.pid who m.reserved m.threads (λ id other. refl) doing.call

  pub called_parts : KeepsParts doing (call_settled here (call here w)).machine
  called_parts =
      go (call here w) (call_threads m who w h terminates_threads) (call_processes m who w) (call_claims m who w) (call_pending m who w)
      (call_servers m who w h terminates_servers) (call_pages m who w h terminates_pages)
    where
      go : (outcome : Outcome) → OfServed (KeepsThreads doing) outcome → OfServed (λ change. KeepsProcesses m who.pid change.machine) outcome
          → OfServed (λ change. KeepsClaims m who.pid change.machine) outcome → OfServed (λ change. KeepsPending m who.pid change.machine) outcome
          → OfServed (λ change. KeepsServers doing change.machine) outcome
          → OfServed (λ change. KeepsPages who.pid m.ledger change.machine.ledger) outcome → KeepsParts doing (call_settled here outcome).machine
      go (Refused error) a b c d e f = refused_parts error
      go Retried a b c d e f = retried_parts
      go (Served change) a b c d e f =
          served_parts change (record { threads = a; process = b; claims = c; pending = d; servers = e; pages = f })

-- the step that makes the call
pub call_keeps : CallKeepsOthers
unfolding call_by
call_keeps m who words h acts c = go (m.threads who) refl c
  where
    go : (o : Option Thread) → m.threads who ≡ o → option_and_then (λ t. option_and_then (words_if_call t) (executes m who t)) o ≡ Some words
        → KeepsOthers (by_call who words m) (step m).machine
    go None q r = absurd (none-some words r)
    go (Some t) q r =
        step_others (by_call who words m) m who t acts q
        (subst (KeepsParts (by_call who words m)) (sym (acted_call m who words t r)) (called_parts m h who words))
