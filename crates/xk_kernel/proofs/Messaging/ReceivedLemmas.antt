-- The parts that a receive leaves are sound.
use Rattle.xk_ports.specs.declared.store.SwapStore.{Ghosts as SwapStore}
use Rattle.std.proofs.Common.{◌≡◌, ◌+◌, Bool, true, false, Option, Some, None, Ok, sym, ap, ◌∙◌, refl}
use Rattle.std.specs.Prelude.{◌==◌, ◌&&◌, if◌then◌else◌}
use Rattle.ledger_model.specs.Loans.{loans}
use Rattle.machine_model.specs.Calling.ServerCalls.{named_server, own_server_refusals}
use Rattle.machine_model.specs.Messaging.ReceiveCalls.{oldest_queued, receive_served, received, try_receive_served, waits_at}
use Rattle.machine_model.specs.State.Changes.{Change, Outcome, Refused, Retried, Served, answering, call_settled, first_refusal, only, refused_or, settled}
use Rattle.machine_model.specs.State.Machine.{Machine}
use Rattle.machine_model.specs.State.Threads.{answer_to}
use Rattle.send_path.proofs.Receivers.ReceiveLemmas.{still_matched}
use Rattle.send_path.proofs.Taken.{CallTables, without_memory, taken}
use Rattle.send_path.specs.Rows.{IsServed, IsRow, receive_row}
use Rattle.xk_parts.specs.Sound.{AreLoansSound, AreSeatsSound, AreSound}
use Rattle.server_table.specs.ServersOf.{servers_of}
use Rattle.thread_table.specs.Shown.{process_count}
use Rattle.vm_memory.specs.Memory.{ledger}
use Rattle.syscall_codec.specs.ReplyWords.{plain_words}
use Rattle.xk_base.specs.declared.errors.XousError.{XousError}
use Rattle.xk_base.specs.declared.ids.Sid.{Sid}
use Rattle.xk_base.specs.declared.messages.Message.{Message}
use Rattle.xk_kernel.specs.Calling.{IsCaller}
use Rattle.xk_kernel.specs.State.{machine_of}
use Rattle.xk_kernel.specs.declared.kernel.Kernel.{Kernel}
use Rattle.xk_kernel.proofs.Acting.OrderLemmas.{ready_is}
use Rattle.xk_kernel.proofs.Messaging.PartsLemmas.{tables, tables_matched}
use Rattle.xk_parts.specs.Parts.{machine_at, no_store}

-- ---- it is made for as many processes

module _ (m : Machine) (sid : Sid) where
  abbrev got : Bool → Change
  got wait = if wait then receive_served m sid else try_receive_served m sid

  got_processes : (wait : Bool) → (got wait).machine.processes ≡ m.processes
  got_processes wait = by wait (oldest_queued m (named_server m sid))
    where
      by : (b : Bool) (o : Option Message)
          → (if b then received m (named_server m sid) o (waits_at (named_server m sid) m)
          else received m (named_server m sid) o (answering (answer_to m.cursor plain_words) m)).machine.processes ≡ m.processes
      by true None = refl
      by true (Some message) = refl
      by false None = refl
      by false (Some message) = refl

  abbrev change_in : Outcome → Change
  change_in (Served change) = change
  change_in (Refused error) = only m
  change_in Retried = only m

  row_processes : (wait : Bool) (change : Change) → receive_row sid wait m ≡ Served change → change.machine.processes ≡ m.processes
  row_processes wait change e = go (first_refusal (own_server_refusals m sid)) e
    where
      go : (o : Option XousError) → refused_or o (Served (got wait)) ≡ Served change → change.machine.processes ≡ m.processes
      go None is = sym (ap (λ x. (change_in x).machine.processes) is) ∙ got_processes wait
      go (Some error) is = sym (ap (λ x. (change_in x).machine.processes) is)

  pub received_processes : (wait : Bool) (after : Machine) (change : Change) → receive_row sid wait m ≡ Served change
      → after ≡ (call_settled m (receive_row sid wait m)).machine → after.processes ≡ m.processes
  unfolding call_settled settled
  received_processes wait after change served machine =
      ap (λ (x : Machine). x.processes) machine ∙ ap (λ o. (call_settled m o).machine.processes) served ∙ row_processes wait change served

-- ---- it is sound

module _ {W : Type 0} (S : SwapStore W) (k : Kernel W) (calls : IsCaller S k) (sid : Sid) (waits : Bool) (new : CallTables)
    (row : IsRow no_store.held (receive_row sid waits) k.cursor (without_memory (tables k)) (without_memory new) (Ok (tt {0}))) where
  abbrev served : IsServed (receive_row sid waits (machine_at no_store.held k.cursor (without_memory (tables k)) (machine_of S.held k))) (machine_at no_store.held k.cursor (without_memory (tables k)) (machine_of S.held k))
      (machine_at no_store.held k.cursor (without_memory new) (machine_of S.held k)) k.log new.log
  served = row (machine_of S.held k)

  pub received_count : process_count new.threads ≡ process_count k.threads
  unfolding machine_at
  received_count =
      received_processes (machine_at no_store.held k.cursor (without_memory (tables k)) (machine_of S.held k)) sid waits (machine_at no_store.held k.cursor (without_memory new) (machine_of S.held k)) served.change served.served
      served.machine

  pub received_sound : (waits && (k.cursor.tid.0 == 1)) ≡ false → new.servers ≡ k.servers → AreSeatsSound (servers_of new.servers) new.queues
      → AreLoansSound (loans (ledger S.held k.mem)) (servers_of new.servers) new.queues → AreSound S k.cursor (taken (record { mem = k.mem; tables = new }))
  unfolding machine_of machine_at
  received_sound free same seats lent = record {
    machine = record (machine_of S.held k) { steps = k.steps + 1 };
    matched =
        still_matched k.cursor (tables k) new sid waits (machine_of S.held k) (tables_matched S k calls.whole calls.matched)
        (ready_is S.held k k.cursor ∙ calls.ready) free served;
    mem = calls.whole.mem;
    processes = received_count ∙ calls.whole.threads;
    procs = tt;
    seats = seats;
    loans = lent;
  }
