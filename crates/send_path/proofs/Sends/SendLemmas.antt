-- What the tests of a send find in the parts, and which outcome in the machine that is.
use Rattle.xk_ports.specs.declared.store.SwapStore.{Ghosts as SwapStore}
use Rattle.std.proofs.Common.{◌≡◌, ℕ, ◌+◌, ◌/◌, ◌<◌, ◌≤◌, Bool, true, false, List, length, map, Option, Some, None, refl, sym, ap, subst, ◌∙◌, arith}
use Rattle.std.specs.Prelude.{IfSome, ◌==◌, ◌&&◌, ◌||◌, ◌%◌, ◌≢◌, not, slice_index_or, Result, Ok, Err, if◌then◌else◌}
use Rattle.std.proofs.lemmas.Bool.{eq-eqb, eqb-false, eqb-true, false≢true, or_parts}
use Rattle.std.proofs.lemmas.List.{length-map}
use Rattle.ledger_model.specs.LeastRun.{least_run}
use Rattle.ledger_model.specs.Loans.{LoanRun, Loans, Stands}
use Rattle.ledger_model.specs.RunTests.{any_free, any_not_sent}
use Rattle.machine_laws.proofs.Calling.RunRefusalLemmas.{not_false}
use Rattle.machine_model.specs.Calling.MemoryCalls.{is_aligned, is_bad_range}
use Rattle.machine_model.specs.Messaging.Messages.{carries_pages, new_message}
use Rattle.machine_model.specs.Messaging.SendCalls.{is_lend_mut, send_call, sent, sent_pages}
use Rattle.machine_model.specs.State.Changes.{Refused, Retried, Served}
use Rattle.machine_model.specs.State.Machine.{Machine}
use Rattle.msg_queue.specs.Seats.{Seat, message_of, seat_of, used_of}
use Rattle.msg_queue.specs.declared.held.Held.{Held}
use Rattle.process_table.specs.ProcessMap.{connections_of}
use Rattle.process_table.specs.Shown.{processes_of}
use Rattle.process_table.specs.declared.table.Processes.{Processes}
use Rattle.server_table.specs.ServersOf.{servers_of}
use Rattle.sv32_space.specs.Tie.{Held as HeldBytes}
use Rattle.thread_table.specs.Shown.{process_count}
use Rattle.vm_memory.proofs.Changing.LoanCallLemmas.{found_arrival}
use Rattle.vm_memory.specs.Memory.{ledger, processes}
use Rattle.xk_base.specs.Calls.Kinds.{kind_at}
use Rattle.xk_base.specs.Numbers.Windows.{page_of}
use Rattle.xk_base.specs.Tables.Circle.{is_pid}
use Rattle.xk_base.specs.declared.errors.XousError.{XousError}
use Rattle.xk_base.specs.declared.errors.XousError.TheVariants.{BadAddress, BadAlignment, InvalidSyscall, MemoryInUse, ServerNotFound, ServerQueueFull, ShareViolation}
use Rattle.xk_base.specs.declared.ids.Number.{Number}
use Rattle.xk_base.specs.declared.ids.Pid.{Pid}
use Rattle.xk_base.specs.declared.ids.Place.{Place}
use Rattle.xk_base.specs.declared.ids.ThreadId.{ThreadId}
use Rattle.xk_base.specs.declared.ids.Vpn.{Vpn}
use Rattle.xk_base.specs.declared.messages.Message.{Message}
use Rattle.xk_base.specs.declared.messages.MsgKind.{MsgKind}
use Rattle.xk_base.specs.declared.windows.Window.TheVariants.{Message as MessageWindow}
use Rattle.send_path.specs.Arrivals.{IsReached, IsUnreached}
use Rattle.send_path.proofs.Taken.{CallParts, over}
use Rattle.send_path.specs.Sending.{MayGo, arrival_of, asked_words, pages_answer, IsAboveMessages}
use Rattle.xk_parts.specs.Sound.{AreSound, IsLoanOf}
use Rattle.send_path.specs.declared.seats.Reached.{Reached}
use Rattle.send_path.specs.declared.sending.Asked.{Asked}
use Rattle.send_path.proofs.Sends.MatchedSendLemmas.{fresh}
use Rattle.send_path.proofs.Servers.ReachedLemmas.{arrival_low}
use Rattle.send_path.proofs.Sends.SendRowLemmas.{full, no_kind, no_run, no_server, pages_refused, run_found}
use Rattle.send_path.proofs.Sends.SentLemmas.{at_send, reached_there, server, unreached}
use Rattle.send_path.proofs.Sends.SentSoundLemmas.{loan_made, made_is}
use Rattle.xk_parts.specs.Parts.{machine_at}

-- ---- the answer of the tests of pages

abbrev by_tests : Bool → Bool → Bool → Result (Unit {0}) XousError
by_tests a b c = if a then Err BadAlignment else (if b then Err BadAddress else (if c then Err ShareViolation else Ok tt))

abbrev pub is_queue_full : Result (Unit {0}) XousError → Bool
is_queue_full (Err ServerQueueFull) = true
is_queue_full _ = false

not_full : (a b c : Bool) → is_queue_full (by_tests a b c) ≡ false
not_full true b c = refl
not_full false true c = refl
not_full false false true = refl
not_full false false false = refl

abbrev is_ok : Result (Unit {0}) XousError → Bool
is_ok (Ok done) = true
is_ok (Err error) = false

all_passed : (a b c : Bool) → by_tests a b c ≡ Ok tt → (a ≡ false) × (b ≡ false) × (c ≡ false)
all_passed true b c e = absurd (false≢true (ap is_ok e))
all_passed false true c e = absurd (false≢true (ap is_ok e))
all_passed false false true e = absurd (false≢true (ap is_ok e))
all_passed false false false e = (refl, refl, refl)

second_false : (a b : Bool) → (a && b) ≡ false → a ≡ true → b ≡ false
second_false true b e q = e
second_false false b e q = absurd (false≢true q)

-- a range of pages has one at least
some_pages : (address size : ℕ) → is_bad_range address size ≡ false → 1 ≤ size / 4096
some_pages address size e =
    let outer = or_parts (size == 0 || not (is_aligned size)) (not (is_aligned address)) e in
    let inner = or_parts (size == 0) (not (is_aligned size)) outer.0 in
    let positive : size ≢ 0 = eqb-false size 0 inner.0 in
    let whole : size % 4096 ≡ 0 = eqb-true (size % 4096) 0 (not_false (is_aligned size) inner.1) in
    omega (arith, positive, whole)

pub other_error : (error : XousError) → is_queue_full (Err error) ≡ false → error ≢ ServerQueueFull
other_error error f = λ e. false≢true (sym f ∙ ap (λ x. is_queue_full (Err x)) e)

-- ---- the slots of a seat

shown_used : (seat : Seat) → length (map message_of seat.queued) + length (map message_of seat.held) ≡ used_of seat
shown_used seat = λ i. length-map seat.queued message_of i + length-map seat.held message_of i

module _ {W : Type 0} (S : SwapStore W) (who : ThreadId) (procs : Processes) (number : Number) (old : CallParts W)
    (sound : AreSound S who (over procs old)) (above : IsAboveMessages number old.tables.servers old.tables.queues) (asked : Asked) where
  abbrev w : List ℕ
  w = asked_words asked

  abbrev M : Machine → Machine
  M m = at_send S.held who procs number old m

  abbrev address : ℕ
  address = slice_index_or asked.words 0 0

  abbrev size : ℕ
  size = slice_index_or asked.words 1 0

  pub no_server_row : IsUnreached (connections_of (processes_of procs who.pid.0)) asked.cid.0 (servers_of old.tables.servers) → (m : Machine)
      → send_call (M m) w ≡ Refused ServerNotFound
  no_server_row none m = no_server (M m) w (unreached S.held who procs number old asked.cid.0 none m)

  module _ (to : Reached) (its : IsReached (connections_of (processes_of procs who.pid.0)) asked.cid.0 (servers_of old.tables.servers) to) where
    abbrev seat : Seat
    seat = seat_of old.tables.queues to.seat

    pub no_kind_row : kind_at asked.kind ≡ None → (m : Machine) → send_call (M m) w ≡ Refused InvalidSyscall
    no_kind_row none m =
        no_kind (M m) w (server S.held who procs number old asked.cid.0 to its sound.seats.all)
        (reached_there S.held who procs number old asked.cid.0 to its sound.seats.all m) none

    module _ (kind : MsgKind) (named : kind_at asked.kind ≡ Some kind) where
      abbrev answer : ℕ → Result (Unit {0}) XousError
      answer n = pages_answer n (ledger S.held old.mem) who.pid kind address size

      answer_is : (r : Result (Unit {0}) XousError) → answer (processes old.mem) ≡ r → answer (process_count old.tables.threads) ≡ r
      answer_is r e = ap answer sound.processes ∙ e

      pub pages_row : (error : XousError) → answer (processes old.mem) ≡ Err error → (m : Machine) → send_call (M m) w ≡ Refused error
      unfolding machine_at
      pages_row error e m =
          pages_refused (M m) w (server S.held who procs number old asked.cid.0 to its sound.seats.all)
          (reached_there S.held who procs number old asked.cid.0 to its sound.seats.all m) kind named error (answer_is (Err error) e)

      pub pages_error : (error : XousError) → answer (processes old.mem) ≡ Err error → error ≢ ServerQueueFull
      pages_error error e = λ f.
          false≢true (sym (not_full (carries_pages kind && is_bad_range address size)
          (carries_pages kind && any_free (processes old.mem) (ledger S.held old.mem) (page_of who.pid address) (size / 4096))
          (carries_pages kind && any_not_sent (processes old.mem) (ledger S.held old.mem) (page_of who.pid address) (size / 4096) (is_lend_mut kind)))
          ∙ ap is_queue_full (e ∙ ap Err f))

      module _ (passed : answer (processes old.mem) ≡ Ok tt) where
        pub full_row : used_of seat ≡ 128 → (m : Machine) → send_call (M m) w ≡ Retried
        unfolding machine_at
        full_row used m =
            full (M m) w (server S.held who procs number old asked.cid.0 to its sound.seats.all)
            (reached_there S.held who procs number old asked.cid.0 to its sound.seats.all m) kind named (answer_is (Ok tt) passed)
            (eq-eqb (length (map message_of seat.queued) + length (map message_of seat.held)) 128 (shown_used seat ∙ used))

        module _ (room : used_of seat < 128) where
          has_room : (length (map message_of seat.queued) + length (map message_of seat.held) == 128) ≡ false
          has_room = go (length (map message_of seat.queued) + length (map message_of seat.held) == 128) refl
            where
              go : (b : Bool) → (length (map message_of seat.queued) + length (map message_of seat.held) == 128) ≡ b → b ≡ false
              go false q = refl
              go true q =
                  let used : used_of seat ≡ 128 =
                  sym (shown_used seat) ∙ eqb-true (length (map message_of seat.queued) + length (map message_of seat.held)) 128 q in
                  absurd (omega arith)

          abbrev place_at : ℕ → Option Vpn
          place_at n = arrival_of n (ledger S.held old.mem) to.pid kind (size / 4096)

          place_is : (m : Machine) (r : Option Vpn) → place_at (processes old.mem) ≡ r
              → arrival_of (process_count old.tables.threads) (ledger S.held old.mem) its.seat.server.pid kind (size / 4096) ≡ r
          place_is m r e =
              (λ i. arrival_of (sound.processes i) (ledger S.held old.mem) (its.own i) kind (size / 4096)) ∙ e

          pub no_run_row : place_at (processes old.mem) ≡ None → (m : Machine) → send_call (M m) w ≡ Refused MemoryInUse
          unfolding machine_at
          no_run_row none m =
              no_run (M m) w (server S.held who procs number old asked.cid.0 to its sound.seats.all)
              (reached_there S.held who procs number old asked.cid.0 to its sound.seats.all m) kind named (answer_is (Ok tt) passed) has_room
              (place_is m None none)

          module _ (first : Vpn) (found : place_at (processes old.mem) ≡ Some first) where
            pub run_row : (m : Machine) → send_call (M m) w ≡ Served (sent (M m) kind w first)
            unfolding machine_at
            run_row m =
                run_found (M m) w (server S.held who procs number old asked.cid.0 to its sound.seats.all)
                (reached_there S.held who procs number old asked.cid.0 to its sound.seats.all m) kind named (answer_is (Ok tt) passed) has_room
                first (place_is m (Some first) found)

            module _ (carries : carries_pages kind ≡ true) where
              least : least_run (processes old.mem) (ledger S.held old.mem) to.pid MessageWindow (size / 4096) ≡ Some first
              least =
                  sym (ap (λ b. if b then least_run (processes old.mem) (ledger S.held old.mem) to.pid MessageWindow (size / 4096)
                  else Some (record { 0 = 0 })) carries)
                  ∙ found

              parts : (carries_pages kind && is_bad_range address size ≡ false)
                  × (carries_pages kind && any_free (processes old.mem) (ledger S.held old.mem) (page_of who.pid address) (size / 4096) ≡ false)
                  × (carries_pages kind && any_not_sent (processes old.mem) (ledger S.held old.mem) (page_of who.pid address) (size / 4096) (is_lend_mut kind) ≡ false)
              parts =
                  all_passed (carries_pages kind && is_bad_range address size)
                  (carries_pages kind && any_free (processes old.mem) (ledger S.held old.mem) (page_of who.pid address) (size / 4096))
                  (carries_pages kind && any_not_sent (processes old.mem) (ledger S.held old.mem) (page_of who.pid address) (size / 4096) (is_lend_mut kind))
                  passed

              range : is_bad_range address size ≡ false
              range = second_false (carries_pages kind) (is_bad_range address size) parts.0 carries

              pub may_go : is_pid (processes old.mem) to.pid.0 ≡ true
                  → MayGo (processes old.mem) (ledger S.held old.mem)
                  (record { kind = kind; from = page_of who.pid address; count = size / 4096; to = record { pid = to.pid; vpn = first }; number = number })
              may_go pid = record {
                some = some_pages address size range;
                there = second_false (carries_pages kind)
                    (any_free (processes old.mem) (ledger S.held old.mem) (page_of who.pid address) (size / 4096)) parts.1 carries;
                sendable = second_false (carries_pages kind)
                    (any_not_sent (processes old.mem) (ledger S.held old.mem) (page_of who.pid address) (size / 4096) (is_lend_mut kind)) parts.2 carries;
                arrival = found_arrival (processes old.mem) (ledger S.held old.mem) to.pid (size / 4096) first pid least;
                fresh = fresh S who procs number old sound above;
              }

              pub first_low : first.0 < 1048576
              first_low = arrival_low (processes old.mem) (ledger S.held old.mem) to.pid (size / 4096) first least

-- ---- the loan of what is sent

module _ {W : Type 0} (held : W → HeldBytes) (who : ThreadId) (procs : Processes) (number : Number) (old : CallParts W) (kind : MsgKind)
    (w : List ℕ) (from to : Place) (own : from.pid ≡ who.pid) (all : Loans) (h : Held) (m : Machine)
    (msg : h.msg ≡ new_message (at_send held who procs number old m) kind w to.vpn)
    (made : h.loan ≡ loan_made kind from (sent_pages w) to number) (stands : IfSome h.loan (λ run. Stands all run)) where
  pub held_loan : (pid : Pid) → pid ≡ to.pid → (run : LoanRun) → h.loan ≡ Some run → IsLoanOf all pid h.msg run
  unfolding machine_at
  held_loan pid there run e =
      subst (λ (p : Pid). IsLoanOf all p h.msg run) (sym there)
      (subst (λ (x : Message). IsLoanOf all to.pid x run) (sym msg)
      (made_is all (at_send held who procs number old m) w from to number own refl kind
      (subst (λ (o : Option LoanRun). IfSome o (λ run. Stands all run)) made stands) run (sym made ∙ e)))
