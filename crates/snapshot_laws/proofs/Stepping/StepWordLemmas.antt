-- Each step and each event keeps the numbers of the machine words.
use Rattle.std.proofs.Common.{◌≡◌, ℕ, zero, suc, ◌+◌, ◌<◌, ◌≤◌, Bool, true, false, List, [], ◌∷◌, Option, Some, None, refl, arith}
use Rattle.std.specs.Prelude.{◌%◌, ◌==◌, All, nat_le, nat_lt, if◌then◌else◌, slice_index, unwrap_or}
use Rattle.std.specs.Option.{option_and_then, option_map_or}
use Rattle.std.proofs.lemmas.Bool.{and_parts, eqb-true, leb-true, ltb-true}
use Rattle.std.proofs.lemmas.List.Elements.{All-head, All-tail}
use Rattle.xk_base.specs.declared.ids.Pid.{Pid}
use Rattle.xk_base.specs.declared.ids.ThreadId.{ThreadId}
use Rattle.xk_base.specs.declared.limits.TheConstants.{TID_LIMIT, TIMER_INTERRUPT}
use Rattle.xk_base.specs.declared.pages.Access.TheVariants.{Load, Store}
use Rattle.xk_base.specs.declared.pages.Width.{Width}
use Rattle.xk_base.specs.declared.pages.Width.TheVariants.{Byte, Half, Word}
use Rattle.xk_base.specs.declared.records.What.TheVariants.{End}
use Rattle.xk_base.specs.Calls.Registers.{arguments_of, reg_at}
use Rattle.syscall_codec.specs.ReplyWords.{refused_words}
use Rattle.xk_base.specs.Tables.Circle.{is_pid, is_thread_id, is_tid, same_thread}
use Rattle.xk_base.specs.UserMemory.{compare_stored, low_bytes, size_of}
use Rattle.ledger_model.specs.Ledger.{Bytes, Console, Contents, PageName, byte_of, contents_of}
use Rattle.machine_model.specs.Calling.Calls.{call}
use Rattle.machine_model.specs.Ending.Ends.{death, handler_ended, thread_ended}
use Rattle.machine_model.specs.Hart.Instructions.{Executed, Next, Stores, StoresToConsole, StoresToTimer, CallsKernel, Traps}
use Rattle.machine_model.specs.Runs.Matched.{Matched}
use Rattle.machine_model.specs.Runs.Moments.{Cause, caused}
use Rattle.machine_model.specs.State.Changes.{Outcome, Refused, Retried, Served, call_settled, settled, with_refusal}
use Rattle.machine_model.specs.State.Machine.{Machine, Reservation, Thread}
use Rattle.machine_model.specs.State.Order.{next_ready, ready_at}
use Rattle.machine_model.specs.State.Threads.{change_thread, passed, with_registers}
use Rattle.machine_model.specs.State.Views.{memory_of, page_reached, stored, timer_set, write_to}
use Rattle.machine_model.specs.Stepping.Interrupts.{is_claim_of}
use Rattle.machine_model.specs.Stepping.Reservations.{reservation_of, reserved_by, unreserved}
use Rattle.machine_model.specs.Stepping.Step.{Recorded, acted, after, counted, ends_handler, ends_thread, executed, performed, reservation_left}
use Rattle.machine_model.proofs.Runs.KeptLemmas.{matched_at}
use Rattle.machine_laws.proofs.Executing.InstructionEffectLemmas.{execute_at_sound, is_store_whole}
use Rattle.machine_laws.proofs.Threading.ThreadStepLemmas.{turned_to}
use Rattle.call_effects.specs.Effects.{EndsTurn}
use Rattle.machine_laws.specs.Records.{records_by}
use Rattle.machine_laws.proofs.Stepping.CauseCaseLemmas.{CauseCase, IsDead, Kills, NoneActs, Picks, Raises, RestCase, Rests, Steps, Turns, Unclaimed, case_of}
use Rattle.snapshot_laws.specs.KeepingWords.{AllKeepWords}
use Rattle.snapshot_laws.specs.Words.{IsMachineOfWords, IsThreadOfWords, greatest}
use Rattle.snapshot_laws.proofs.Calling.AnswerWordLemmas.{refused_are, settled_keeps}
use Rattle.snapshot_laws.proofs.Calling.RowWordLemmas.{IsCalling, IsOutcomeOfWords, called_keeps}
use Rattle.snapshot_laws.proofs.Changing.EffectWordLemmas.{apply_keeps, change_are}
use Rattle.snapshot_laws.proofs.Changing.HoldingLemmas.{Holds, if_holds, map_holds, none_holds, some_holds}
use Rattle.snapshot_laws.proofs.Changing.PageWordLemmas.{stored_whole}
use Rattle.snapshot_laws.proofs.Executing.InstructionWordLemmas.{IsMemoryOfWords, IsOfWords, IsThreadLeft, IsTimerOfWords, execute_at_are}
use Rattle.snapshot_laws.proofs.Executing.InstructionWordLemmas.{reservation_fits}
use Rattle.snapshot_laws.proofs.Stepping.EndWordLemmas.{cursor_are, death_is, handler_ended_is, pended_is, taken_place, thread_ended_is}
use Rattle.snapshot_laws.proofs.Stepping.EndWordLemmas.{timed_are}
use Rattle.snapshot_laws.proofs.Words.RegisterLemmas.{arguments_are, with_arguments_are, word_at}
use Rattle.snapshot_laws.proofs.Words.SignedLemmas.{wraps_fits}

abbrev Fits : ℕ → Type 0
Fits n = n ≤ greatest

-- ---- memory as a process sees it

byte_fits : (xs : List ℕ) (i : ℕ) → All (λ b. b < 256) xs → slice_index xs i < 256
byte_fits [] i h = omega arith
byte_fits (x ∷ xs) zero h = All-head (λ b. b < 256) x xs h
byte_fits (x ∷ xs) (suc i) h = byte_fits xs i (All-tail (λ b. b < 256) x xs h)

module _ (m : Machine) (pid : Pid) (h : IsMachineOfWords m) where
  of_contents : (name : PageName) (offset : ℕ) (o : Option Contents) → contents_of m.ledger name ≡ o → option_map_or (byte_of offset) o 0 < 256
  of_contents name offset None e = omega arith
  of_contents name offset (Some Console) e = omega arith
  of_contents name offset (Some (Bytes bytes)) e = byte_fits bytes offset (h.whole.each name bytes e).each

  of_page : (offset : ℕ) (o : Option PageName) → option_map_or (byte_of offset) (option_and_then (contents_of m.ledger) o) 0 < 256
  of_page offset None = omega arith
  of_page offset (Some name) = of_contents name offset (contents_of m.ledger name) refl

  memory_are : m.steps ≤ greatest → IsMemoryOfWords (memory_of m pid)
  unfolding memory_of
  memory_are few = record {
    bytes = λ a. of_page (a % 4096) (page_reached m pid Load a);
    timer = if_holds IsTimerOfWords (is_claim_of pid (m.claims TIMER_INTERRUPT)) (Some (record { steps = m.steps; compare = m.compare })) None
        (some_holds IsTimerOfWords (record { steps = m.steps; compare = m.compare }) (record { steps = few; compare = h.compare }))
        (none_holds IsTimerOfWords);
  }

-- ---- what comes of a call

past : (t : Thread) → IsThreadOfWords t → IsThreadOfWords (passed t)
past t h = record { pc = wraps_fits (t.pc + 4); regs = h.regs }

call_settled_are : (m : Machine) (outcome : Outcome) → IsMachineOfWords m → IsOutcomeOfWords outcome → IsMachineOfWords (call_settled m outcome).machine
unfolding call_settled
call_settled_are m (Refused error) h f =
    change_are m m.cursor (with_refusal error) h
    (λ t g. record { pc = wraps_fits (t.pc + 4); regs = with_arguments_are (refused_words error) t.regs (refused_are error) g.regs })
call_settled_are m Retried h f = apply_keeps EndsTurn m tt h
call_settled_are m (Served change) h f =
    settled_keeps (record change { machine = change_thread m.cursor passed change.machine }) f.1 (change_are change.machine m.cursor passed f.0 past)

-- ---- the step of the cursor's thread

compare_are : (offset : ℕ) (width : Width) (value : ℕ) (o : Option ℕ) → value ≤ greatest → Holds Fits o → Holds Fits (compare_stored offset width value o)
compare_are offset Byte value o f h = h
compare_are offset Half value o f h = h
compare_are offset Word value o f h =
    if_holds Fits (offset == 4) (Some value) (if offset == 8 then None else o) (some_holds Fits value f)
    (if_holds Fits (offset == 8) None o (none_holds Fits) h)

module _ (m : Machine) (t : Thread) (there : m.threads m.cursor ≡ Some t) (k : Matched m) (h : IsMachineOfWords m) (few : m.steps < greatest) where
  own : IsThreadOfWords t
  own = h.threads m.cursor t there

  known : is_thread_id m.processes m.cursor ≡ true
  known = k.body.ids.known m.cursor t there

  calling : IsCalling m (arguments_of t.regs)
  calling =
      let ids : (is_pid m.processes m.cursor.pid.0 ≡ true) × (is_tid m.cursor.tid.0 ≡ true) =
      and_parts (is_pid m.processes m.cursor.pid.0) (is_tid m.cursor.tid.0) known in
      let pids = and_parts (nat_le 2 m.cursor.pid.0) (nat_lt m.cursor.pid.0 (m.processes + 2)) ids.0 in
      let tids = and_parts (nat_le 1 m.cursor.tid.0) (nat_le m.cursor.tid.0 TID_LIMIT) ids.1 in
      let pid : m.cursor.pid.0 < m.processes + 2 = ltb-true m.cursor.pid.0 (m.processes + 2) pids.1 in
      let tid : m.cursor.tid.0 ≤ TID_LIMIT = leb-true m.cursor.tid.0 TID_LIMIT tids.1 in
      let processes : m.processes ≤ 64 = k.body.processes.few in
      let number : m.next_number ≤ m.steps + 1 = k.rest.stepped.number_steps in
      record {
        matched = k;
        machine = h;
        number = omega arith;
        pid = omega arith;
        tid = omega arith;
        words = arguments_are t.regs own.regs;
      }

  registers : (regs : List ℕ) (pc : ℕ) (n : Machine) → IsMachineOfWords n → IsThreadLeft regs pc
      → IsMachineOfWords (change_thread m.cursor (with_registers regs pc) n)
  registers regs pc n g f = change_are n m.cursor (with_registers regs pc) g (λ u old. record { pc = f.next; regs = f.registers })

  executed_are : (e : Executed) → IsOfWords e → is_store_whole e ≡ true → IsMachineOfWords (executed m t e).machine
  unfolding stored timer_set
  executed_are (Next regs pc) f al = registers regs pc m h f
  executed_are (Stores address width value regs pc) f al =
      let ledger = write_to (page_reached m m.cursor.pid Store address) (address % 4096) (low_bytes width value) m.ledger in
      registers regs pc (record m { ledger = ledger }) (record {
        whole = stored_whole (page_reached m m.cursor.pid Store address) address width value m.ledger (eqb-true (address % size_of width) 0 al) h.whole;
        threads = h.threads;
        servers = h.servers;
        claims = h.claims;
        compare = h.compare;
        reserved = h.reserved;
      }) f
  executed_are (StoresToConsole offset value regs pc) f al = registers regs pc m h f
  executed_are (StoresToTimer offset width value regs pc) f al =
      registers regs pc (record m { compare = compare_stored offset width value m.compare }) (record {
        whole = h.whole;
        threads = h.threads;
        servers = h.servers;
        claims = h.claims;
        compare = compare_are offset width value m.compare f.1 h.compare;
        reserved = h.reserved;
      }) f.0
  executed_are CallsKernel f al = call_settled_are m (call m (arguments_of t.regs)) h (called_keeps m (arguments_of t.regs) calling)
  executed_are (Traps cause value) f al = taken_place (death m.cursor.pid m) (death_is m.cursor.pid m h)

  memory : IsMemoryOfWords (memory_of m m.cursor.pid)
  memory = memory_are m m.cursor.pid h (omega arith)

  acted_are : IsMachineOfWords (acted m t).machine
  acted_are = go (ends_thread m.cursor t.pc) (ends_handler m.cursor t.pc)
    where
      done : IsMachineOfWords (executed m t (performed m m.cursor t).executed).machine
      done =
          executed_are (performed m m.cursor t).executed
          (execute_at_are (memory_of m m.cursor.pid) memory t.regs own.regs t.pc own.pc (reserved_by m.cursor m.reserved))
          (execute_at_sound t.regs t.pc (reserved_by m.cursor m.reserved) (memory_of m m.cursor.pid) (k.body.threads.pcs m.cursor t there)).1

      go : (a b : Bool) → IsMachineOfWords (if a then after (End m.cursor) (settled (thread_ended m.cursor (reg_at t.regs 10) m)) else (
          if b then after (End m.cursor) (settled (handler_ended m.cursor.pid m)) else
          executed m t (performed m m.cursor t).executed)).machine
      go true b =
          taken_place (thread_ended m.cursor (reg_at t.regs 10) m)
          (thread_ended_is m.cursor (reg_at t.regs 10) (word_at t.regs 10 own.regs.words) m h)
      go false true = taken_place (handler_ended m.cursor.pid m) (handler_ended_is m.cursor.pid m h)
      go false false = done

  -- ---- the reservation that the step leaves

  reserved_fits : (o : Option Reservation) → ((r : Reservation) → o ≡ Some r → r.address ≤ greatest) → Holds Fits (reserved_by m.cursor o)
  reserved_fits None f = none_holds Fits
  reserved_fits (Some r) f = if_holds Fits (same_thread r.who m.cursor) (Some r.address) None (some_holds Fits r.address (f r refl)) (none_holds Fits)

  abbrev IsReservationOfWords : Reservation → Type 0
  IsReservationOfWords r = r.address ≤ greatest

  left_fits : Holds IsReservationOfWords (reservation_left m t)
  left_fits =
      if_holds IsReservationOfWords (ends_thread m.cursor t.pc) None _ (none_holds IsReservationOfWords)
      (if_holds IsReservationOfWords (ends_handler m.cursor t.pc) None (reservation_of m.cursor (performed m m.cursor t).reserved) (none_holds IsReservationOfWords)
      (map_holds IsReservationOfWords (λ address. record { who = m.cursor; address = address }) (performed m m.cursor t).reserved
      (reservation_fits (memory_of m m.cursor.pid) memory t.regs own.regs t.pc own.pc (reserved_by m.cursor m.reserved) (reserved_fits m.reserved h.reserved))))

  pub counted_are : IsMachineOfWords (counted m (Some t) (acted m t)).machine
  counted_are =
      let a = acted_are in
      record {
        whole = a.whole;
        threads = a.threads;
        servers = a.servers;
        claims = a.claims;
        compare = a.compare;
        reserved = left_fits;
      }

-- ---- whatever it is

unreserved_are : (m : Machine) → IsMachineOfWords m → IsMachineOfWords (unreserved m)
unreserved_are m h = record {
  whole = h.whole;
  threads = h.threads;
  servers = h.servers;
  claims = h.claims;
  compare = h.compare;
  reserved = none_holds (λ (r : Reservation). r.address ≤ greatest);
}

pub causes_keep : AllKeepWords
causes_keep cause m k few h = by cause (record { machine = caused cause m; records = records_by cause m }) (case_of cause m)
  where
    rests : (cause : Cause) (cursor : ThreadId) (reserved : Option Reservation) → RestCase m cause cursor reserved
        → IsMachineOfWords (record m { cursor = cursor; reserved = reserved })
    rests _ _ _ (NoneActs e) = h
    rests _ _ _ (Picks who) = cursor_are m h (if ready_at m who then who else m.cursor)
    rests _ _ _ (Unclaimed n e) = unreserved_are m h
    rests _ _ _ (IsDead pid e) = unreserved_are m h
    rests _ _ _ Turns = cursor_are m h (unwrap_or (next_ready m m.cursor) m.cursor)

    by : (cause : Cause) (next : Recorded) → CauseCase m cause next → IsMachineOfWords next.machine
    by _ _ (Rests cause cursor reserved rest) = rests cause cursor reserved rest
    by _ _ (Steps who t acts there case) =
        timed_are (counted (turned_to who m) (Some t) (acted (turned_to who m) t))
        (counted_are (turned_to who m) t there (matched_at who m k) (cursor_are m h who) few)
    by _ _ (Raises n claim e) = taken_place _ (pended_is n claim (unreserved m) (unreserved_are m h))
    by _ _ (Kills pid e) = taken_place (death pid (unreserved m)) (death_is pid (unreserved m) (unreserved_are m h))
