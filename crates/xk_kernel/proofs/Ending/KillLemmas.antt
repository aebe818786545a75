-- A process dies: its death over the parts of the kernel is that of the machine that the kernel stands for.
use Rattle.xk_ports.specs.declared.store.SwapStore.{Ghosts as SwapStore}
use Rattle.std.proofs.Common.{◌≡◌, ℕ, ◌≤◌, ◌+◌, ◌<◌, Bool, [], ◌∷◌, ◌++◌, length, Option, Some, is_some, refl, sym, ap, subst, ◌∙◌, arith}
use Rattle.std.specs.Prelude.{unwrap_or}
use Rattle.std.proofs.lemmas.List.{length-map}
use Rattle.kill_path.proofs.TakenAll.{DeathParts, all_taken, at_its_turn}
use Rattle.kill_path.specs.Dying.{Dies, IsDeath, disarmed_with}
use Rattle.xk_parts.specs.Sound.{AreServersSound, AreSound}
use Rattle.kill_path.proofs.FitLemmas.{open_loans, servers_of_matched}
use Rattle.ledger_model.specs.Loans.{loans}
use Rattle.machine_model.specs.Ending.Closing.{closed, senders_held_gone, senders_queued_gone, servers_closed}
use Rattle.machine_model.specs.Ending.Ends.{death, forgotten}
use Rattle.machine_model.specs.Runs.Matched.{Matched, is_living}
use Rattle.machine_model.specs.State.Changes.{replies, settled}
use Rattle.machine_model.specs.State.Machine.{Machine}
use Rattle.machine_model.specs.State.Threads.{Answers}
use Rattle.machine_model.specs.Stepping.Interrupts.{disarmed_if, is_claim_of}
use Rattle.process_table.specs.ProcessMap.{is_alive}
use Rattle.process_table.specs.Shown.{processes_of}
use Rattle.send_path.proofs.Taken.{parts_of}
use Rattle.send_path.specs.Keeping.{KeepsMemory}
use Rattle.sv32_space.specs.Tie.{Held}
use Rattle.thread_table.specs.Shown.{process_count}
use Rattle.vm_memory.specs.Memory.{Size, ledger, processes}
use Rattle.xk_base.specs.Log.{LogState}
use Rattle.xk_base.specs.Tables.Circle.{id_at, is_thread_id, listed_ids, thread_ids}
use Rattle.xk_base.specs.Tables.Counting.{count_below, listed_below}
use Rattle.xk_base.proofs.CountingLemmas.{count_below-bound, length-listed_below}
use Rattle.xk_base.specs.declared.ids.Pid.{Pid}
use Rattle.xk_base.specs.declared.ids.ThreadId.{ThreadId}
use Rattle.xk_base.specs.declared.limits.TheConstants.{RECORD_LIMIT, TIMER_INTERRUPT}
use Rattle.xk_base.specs.declared.records.What.TheVariants.{Gone, Reply}
use Rattle.xk_kernel.specs.Sound.{IsUsable, IsWhole, Keeps}
use Rattle.xk_kernel.specs.State.{machine_of}
use Rattle.xk_kernel.specs.Telling.{Tells, log_with}
use Rattle.xk_kernel.specs.declared.kernel.Kernel.{Kernel}
use Rattle.xk_kernel.proofs.Acting.ThreadLemmas.{machine_of_log}
use Rattle.xk_kernel.proofs.Calling.LogLemmas.{log_with-next}
use Rattle.xk_kernel.proofs.Calling.TellingLemmas.{told_length}
use Rattle.xk_kernel.proofs.Ending.EventLemmas.{alive_of}
use Rattle.xk_kernel.proofs.Messaging.PartsLemmas.{new_keeps, new_usable}
use Rattle.xk_parts.specs.Parts.{machine_at}

-- ---- records

-- a thread has one reply at most
few_replies : (n : ℕ) (answers : Answers) → length (replies n answers) ≤ thread_ids n
unfolding listed_ids
few_replies n answers =
    let test : ℕ → Bool = λ k. is_some (answers (id_at k)) in
    let each = length-map (listed_ids n (λ id. is_some (answers id))) (λ id. Reply id (unwrap_or (answers id) [])) in
    let ids = length-map (listed_below (thread_ids n) test) id_at in
    let listed = length-listed_below (thread_ids n) test in
    let few : count_below (thread_ids n) test ≤ thread_ids n = count_below-bound (thread_ids n) test in
    subst (λ k. k ≤ thread_ids n) (sym (each ∙ ids ∙ listed)) few

-- ---- parts

-- the parts of the kernel that a death takes
abbrev pub death_parts : {W : Type 0} → Kernel W → DeathParts W
death_parts k = record { parts = parts_of k.mem k.threads k.servers k.queues k.log; procs = k.procs; claims = k.claims }

-- the kernel with such parts, and this timer
abbrev pub with_all : {W : Type 0} → Kernel W → Option ℕ → DeathParts W → Kernel W
with_all k timer new = record k {
  mem = new.parts.mem;
  threads = new.parts.tables.threads;
  procs = new.procs;
  servers = new.parts.tables.servers;
  queues = new.parts.tables.queues;
  claims = new.claims;
  log = new.parts.tables.log;
  timer = timer;
}

-- THE MACHINE of these parts, all else as in the kernel but for the timer, is that of the kernel with them
all_machine : {W : Type 0} (held : W → Held) (k : Kernel W) (timer : Option ℕ) (new : DeathParts W)
    → process_count new.parts.tables.threads ≡ processes new.parts.mem
    → at_its_turn held (all_taken new) (record (machine_of held k) { compare = timer }) ≡ machine_of held (with_all k timer new)
unfolding machine_of machine_at
all_machine held k timer new e = λ i. record (machine_of held (with_all k timer new)) { processes = e i }

-- whether the process lives
pub alive_told : {W : Type 0} (held : W → Held) (k : Kernel W) (pid : Pid) → is_living (machine_of held k) pid ≡ is_alive (processes_of k.procs pid.0)
unfolding machine_of
alive_told held k pid = alive_of (processes_of k.procs pid.0)

-- ---- before

module _ {W : Type 0} (S : SwapStore W) (k : Kernel W) (whole : IsWhole S k) where
  own_machine : at_its_turn S.held (all_taken (death_parts k)) (machine_of S.held k) ≡ machine_of S.held k
  unfolding machine_of
  own_machine = all_machine S.held k k.timer (death_parts k) whole.threads

  pub all_sound : Matched (machine_of S.held k) → AreSound S k.cursor (all_taken (death_parts k))
  unfolding machine_of
  all_sound matched = record {
    machine = machine_of S.held k;
    matched = subst Matched (sym own_machine) matched;
    mem = whole.mem;
    processes = whole.threads;
    procs = whole.procs ∙ sym whole.threads;
    seats = whole.servers.messages.seats;
    loans = open_loans (loans (ledger S.held k.mem)) k.servers k.queues whole.servers.messages;
  }

  -- ---- after

  module _ (pid : Pid) (new : DeathParts W) (dies : Dies S.held pid (all_taken (death_parts k)) (all_taken new))
      (who : ThreadId) (sound : AreSound S who (all_taken new))
      (keeps : KeepsMemory S k.mem new.parts.mem) (timer : Option ℕ)
      (disarmed : timer ≡ disarmed_if (is_claim_of pid ((machine_of S.held k).claims TIMER_INTERRUPT)) k.timer) where
    abbrev m : Machine
    m = machine_of S.held k

    abbrev dead : Kernel W
    dead = with_all k timer new

    unarmed : disarmed_with pid (Some k.claims) m ≡ record m { compare = timer }
    unfolding machine_of
    unarmed = λ i. record m { compare = sym disarmed i }

    did : IsDeath pid m (machine_of S.held dead) k.log new.parts.tables.log
    did =
        subst (λ (a : Machine). IsDeath pid m a k.log new.parts.tables.log) (ap (at_its_turn S.held (all_taken new)) unarmed ∙ all_machine S.held k timer new sound.processes)
        (subst (λ (b : Machine). IsDeath pid b (at_its_turn S.held (all_taken new) (disarmed_with pid (Some k.claims) m)) k.log new.parts.tables.log) own_machine (dies m))

    procs_stay : processes new.parts.mem ≡ processes k.mem
    procs_stay = ap (λ (s : Size). s.procs) keeps.size

    room_stays : new.parts.tables.log.room ≡ k.log.room
    room_stays = ap (λ (log : LogState). log.room) did.replies

    servers_stay : AreServersSound (processes new.parts.mem) (loans (ledger S.held new.parts.mem)) new.parts.tables.servers new.parts.tables.queues
    unfolding machine_at
    servers_stay =
        subst (λ n. AreServersSound n (loans (ledger S.held new.parts.mem)) new.parts.tables.servers new.parts.tables.queues) sound.processes
        (servers_of_matched (machine_at S.held who (all_taken new) sound.machine) sound.matched new.parts.tables.servers new.parts.tables.queues refl sound.seats
        (loans (ledger S.held new.parts.mem)) sound.matched.body.loans sound.loans)

    pub dead_whole : IsWhole S dead
    dead_whole = record {
      mem = sound.mem;
      threads = sound.processes;
      procs = sound.procs ∙ sound.processes;
      cursor = ap (λ n. is_thread_id n k.cursor) procs_stay ∙ whole.cursor;
      room = subst (λ n. RECORD_LIMIT ≤ n) (sym room_stays) whole.room;
      servers = servers_stay;
    }

    pub dead_keeps : Keeps S k dead
    dead_keeps = new_keeps S k dead keeps room_stays

    pub dead_usable : IsUsable k → IsUsable dead
    dead_usable usable = new_usable S k dead keeps usable

    -- the replies, and then that the process is gone
    death_told : (settled (death pid m)).told ≡ replies m.processes (death pid m).answers ++ Gone pid ∷ []
    unfolding settled death servers_closed closed senders_queued_gone senders_held_gone forgotten
    death_told = refl

    pub death_tells : (last : LogState) → last ≡ log_with (Gone pid ∷ []) new.parts.tables.log → Tells S.held k (record dead { log = last }) (settled (death pid m))
    death_tells last gone = record {
      machine = machine_of_log S.held dead last ∙ did.machine;
      log =
          log_with-next (replies m.processes (death pid m).answers) (Gone pid ∷ []) k.log new.parts.tables.log last did.replies gone
          ∙ ap (λ told. log_with told k.log) (sym death_told);
    }

    -- the record that it is gone still fits
    pub room_left : length k.log.records + 1984 < k.log.room → length new.parts.tables.log.records < new.parts.tables.log.room
    unfolding machine_of
    room_left fits =
        let few : processes k.mem ≤ 64 = whole.mem.few in
        let told : length (replies (processes k.mem) (death pid m).answers) ≤ thread_ids (processes k.mem) = few_replies (processes k.mem) (death pid m).answers in
        let grew : length new.parts.tables.log.records ≡ length k.log.records + length (replies (processes k.mem) (death pid m).answers) =
        told_length k.log new.parts.tables.log (replies (processes k.mem) (death pid m).answers) did.replies in
        omega (arith, few, told, grew, fits, room_stays)
