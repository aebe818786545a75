-- A thread is taken from its table for its quiet steps, and put back after them.
use Rattle.xk_ports.specs.declared.store.SwapStore.{Ghosts as SwapStore}
use Rattle.std.proofs.Common.{◌≡◌, ℕ, zero, suc, ◌+◌, ◌<◌, ◌≤◌, ◌%◌, if◌then◌else◌, Bool, true, false, not, ◌&&◌, is_some, Option, Some, refl, sym, ap, subst, ◌∙◌, arith}
use Rattle.std.specs.Prelude.{nat_lt}
use Rattle.std.specs.Option.{option_map, option_map_or}
use Rattle.std.proofs.lemmas.Bool.{false≢true, ltb-false, ltb-true}
use Rattle.machine_laws.proofs.Threading.ChangedThreadLemmas.{like_changed}
use Rattle.machine_laws.proofs.Threading.LikeThreadLemmas.{matched_with, with_threads}
use Rattle.machine_laws.proofs.Threading.ThreadMoveLemmas.{matched_reserved}
use Rattle.machine_model.specs.Runs.Matched.{Matched}
use Rattle.machine_model.specs.State.Machine.{Machine, Thread}
use Rattle.machine_model.specs.State.Order.{actor, is_ready, next_ready, ready_at}
use Rattle.machine_model.specs.State.Threads.{change_thread, put_thread, with_registers}
use Rattle.machine_model.specs.Stepping.Reservations.{reservation_of, reserved_by}
use Rattle.machine_model.specs.Stepping.Timer.{is_due}
use Rattle.xk_parts.specs.Shown.{state_of, thread_of}
use Rattle.sv32_space.specs.Tie.{Held}
use Rattle.thread_table.specs.States.{is_ready_state}
use Rattle.thread_table.specs.Shown.{process_count, threads_of}
use Rattle.thread_table.specs.declared.table.Threads.{Threads}
use Rattle.thread_table.specs.declared.thread.Thread.{Thread as TableThread}
use Rattle.thread_table.specs.declared.thread.ThreadState.{ThreadState as TableState}
use Rattle.thread_table.specs.declared.thread.ThreadState.TheVariants as table
use Rattle.xk_base.specs.Log.{LogState}
use Rattle.xk_base.specs.Tables.Circle.{same_thread}
use Rattle.xk_base.specs.Tables.Counting.{put_at}
use Rattle.xk_base.specs.declared.ids.ThreadId.{ThreadId}
use Rattle.xk_kernel.specs.Quiet.{GoesQuietly, RunsQuietly, in_hand, is_quiet, thread_goes_on, timer_rests}
use Rattle.xk_kernel.specs.Sound.{IsWhole}
use Rattle.xk_kernel.specs.State.{as_reservation, machine_of}
use Rattle.xk_kernel.specs.declared.kernel.Kernel.{Kernel}
use Rattle.xk_kernel.proofs.Acting.ThreadLemmas.{change_there, machine_put, put_same}
use Rattle.xk_kernel.proofs.Memory.MemoryPartLemmas.{memory_machine}
use Rattle.xk_kernel.proofs.Quieting.HandLemmas.{owned, owned_quiet, owned_steps}
use Rattle.xk_kernel.proofs.Quieting.QuietStepLemmas.{goes_from}
use Rattle.xk_kernel.proofs.Quieting.RowLemmas.{Hand, KeepsHand, hand_in, matched_still}

-- ---- a step that isn't quiet

right_false : (a : Bool) → (a && false) ≡ false
right_false true = refl
right_false false = refl

module _ (m : Machine) where
  abbrev rest_of : Bool
  rest_of = option_map_or (thread_goes_on m) (m.threads m.cursor) false

  -- the cursor's thread isn't Ready
  pub unready_is_loud : ready_at m m.cursor ≡ false → is_quiet m ≡ false
  unfolding is_quiet
  unready_is_loud e = ap (λ b. b && (timer_rests m && rest_of)) e

  -- the timer is due at its end
  pub due_is_loud : is_due m.compare (m.steps + 1) ≡ true → is_quiet m ≡ false
  unfolding is_quiet
  due_is_loud e = ap (λ b. ready_at m m.cursor && (not b && rest_of)) e ∙ right_false (ready_at m m.cursor)

  -- a thread that is Ready at its turn acts
  pub ready_acts : ready_at m m.cursor ≡ true → is_some (actor m) ≡ true
  unfolding actor
  ready_acts e = ap (λ b. is_some (if b then Some m.cursor else next_ready m m.cursor)) e

-- ---- the thread is put back

pub put_back : {W : Type 0} (held : W → Held) (k : Kernel W) (threads : Threads) (who : ThreadId) (t : TableThread)
    → threads_of threads ≡ put_at same_thread (threads_of k.threads) who (Some t)
    → (kept : Option (ThreadId × ℕ)) (reserved : Option ℕ) → option_map as_reservation kept ≡ reservation_of who reserved
    → (steps : ℕ) (log : LogState)
    → machine_of held (record k { threads = threads; steps = steps; reserved = kept; log = log }) ≡ in_hand who (thread_of t) reserved steps (machine_of held k)
unfolding machine_of
put_back held k threads who t is kept reserved same steps log =
    λ i. record (machine_put held k threads who (Some t) is i) { steps = steps; reserved = same i }

pub whole_back : {W : Type 0} (S : SwapStore W) (k : Kernel W) (threads : Threads) → process_count threads ≡ process_count k.threads
    → (kept : Option (ThreadId × ℕ)) (steps : ℕ) (log : LogState) → log.room ≡ k.log.room
    → IsWhole S k → IsWhole S (record k { threads = threads; steps = steps; reserved = kept; log = log })
whole_back S k threads count kept steps log room whole = record {
  mem = whole.mem;
  threads = count ∙ whole.threads;
  procs = whole.procs;
  cursor = whole.cursor;
  room = let old = whole.room in omega (arith, old, room);
  servers = whole.servers;
}

-- ---- over the whole run

ready_before : (s : TableState) → is_ready (state_of s) ≡ true → is_ready_state s ≡ true
ready_before table.Ready e = refl
ready_before (table.Receiving serial) e = absurd (false≢true e)
ready_before (table.Waiting number) e = absurd (false≢true e)
ready_before (table.Joining tid) e = absurd (false≢true e)
ready_before table.Idle e = absurd (false≢true e)

module _ {W : Type 0} (S : SwapStore W) (k : Kernel W) (hand : Hand) (at : (machine_of S.held k).threads k.cursor ≡ Some (thread_of hand.thread)) where
  pub ready_in_hand : ready_at (machine_of S.held k) k.cursor ≡ true → is_ready_state hand.thread.state ≡ true
  ready_in_hand ready =
      ready_before hand.thread.state (sym (ap (λ (o : Option Thread). option_map_or (λ (t : Thread). is_ready t.state) o false) at) ∙ ready)

  pub aligned_in_hand : Matched (machine_of S.held k) → hand.thread.pc % 4 ≡ 0
  aligned_in_hand matched = matched.body.threads.pcs k.cursor (thread_of hand.thread) at

  -- taken out with its own reservation it is as in its table, but for the reservation of another
  module _ (own : hand.reserved ≡ reserved_by k.cursor (machine_of S.held k).reserved) where
    abbrev m : Machine
    m = machine_of S.held k

    abbrev taken : Machine
    taken = hand_in S.held k.cursor k hand k.steps

    is_owned : taken ≡ owned k.cursor m
    unfolding machine_of
    is_owned = λ i. record (put_same m k.cursor (thread_of hand.thread) at i) { steps = k.steps; reserved = reservation_of k.cursor (own i) }

    quiet_taken : is_quiet taken ≡ is_quiet m
    unfolding machine_of
    quiet_taken = ap is_quiet is_owned ∙ owned_quiet m (thread_of hand.thread) at

    pub goes_taken : (n : ℕ) (new : Machine) → GoesQuietly (suc n) taken new → GoesQuietly (suc n) m new
    unfolding machine_of
    goes_taken n new goes =
        goes_from n (owned k.cursor m) m new (owned_quiet m (thread_of hand.thread) at)
        (owned_steps m (thread_of hand.thread) at (sym quiet_taken ∙ goes.0))
        (subst (λ (x : Machine). GoesQuietly (suc n) x new) is_owned goes)

    -- .. and after its steps
    module _ (mid : Kernel W) (left : Hand)
        (kept : KeepsHand S k mid hand left) where
      abbrev after_steps : ℕ → Machine
      after_steps n = hand_in S.held k.cursor mid left (k.steps + n)

      pub still_there : (machine_of S.held mid).threads k.cursor ≡ Some (thread_of hand.thread)
      unfolding machine_of
      still_there = ap (λ (x : Kernel W). (machine_of S.held x).threads k.cursor) kept.same ∙ at

      pub still_steps : mid.steps ≡ k.steps
      still_steps = ap (λ (x : Kernel W). x.steps) kept.same

      -- the machine with the thread put back
      pub came_back : (new : Kernel W) (n : ℕ) → machine_of S.held new ≡ in_hand k.cursor (thread_of left.thread) left.reserved (mid.steps + n) (machine_of S.held mid)
          → machine_of S.held new ≡ after_steps n
      came_back new n is = is ∙ ap (λ s. in_hand k.cursor (thread_of left.thread) left.reserved (s + n) (machine_of S.held mid)) still_steps

      still_compare : (machine_of S.held mid).compare ≡ k.timer
      unfolding machine_of
      still_compare = ap (λ (x : Kernel W). x.timer) kept.same

      comes_later : (n : ℕ) → (machine_of S.held mid).steps ≤ k.steps + n
      unfolding machine_of
      comes_later n = let same : mid.steps ≡ k.steps = still_steps in omega (arith, same)

      -- whatever the bytes are, it is matched
      pub matched_back : Matched m → (n : ℕ) → Matched (after_steps n)
      matched_back matched n =
          let old : Machine = machine_of S.held mid in
          let f : Thread → Thread = with_registers left.thread.regs left.thread.pc in
          let there : Matched old = matched_still S k mid hand left kept matched in
          let changed : put_thread k.cursor (Some (thread_of left.thread)) old ≡ change_thread k.cursor f old =
          (λ i. put_thread k.cursor (Some (thread_of (record left.thread { state = kept.state i }))) old)
          ∙ change_there old k.cursor f (thread_of hand.thread) still_there in
          let later : old.steps ≤ k.steps + n = comes_later n in
          let moved : Matched (with_threads old.cursor (k.steps + n) (change_thread k.cursor f old).threads old) =
          matched_with (change_thread k.cursor f old).threads old
          (like_changed old k.cursor f there (λ u e. record { state = refl; pc = kept.aligned })) there old.cursor (k.steps + n) later in
          subst Matched (λ i. record (sym changed i) { steps = k.steps + n; reserved = reservation_of k.cursor left.reserved })
          (matched_reserved (with_threads old.cursor (k.steps + n) (change_thread k.cursor f old).threads old) moved (reservation_of k.cursor left.reserved))

      module _ (until most : ℕ) (few : until ≤ most) (due : until < most → is_due k.timer (k.steps + until + 1) ≡ true) where
        -- where so many were done, the timer is due by the next
        due_now : (n : ℕ) → n ≡ until → n < most → is_quiet (after_steps n) ≡ false
        due_now n e less =
            due_is_loud (after_steps n)
            (ap (λ compare. is_due compare (k.steps + n + 1)) still_compare ∙ ap (λ d. is_due k.timer (k.steps + d + 1)) e ∙ due (subst (λ d. d < most) e less))

        next_is_loud : (n : ℕ) → n ≤ until → (n < until → is_quiet (after_steps n) ≡ false) → n < most → is_quiet (after_steps n) ≡ false
        next_is_loud n within loud less = go (nat_lt n until) refl
          where
            go : (b : Bool) → nat_lt n until ≡ b → is_quiet (after_steps n) ≡ false
            go true e = loud (ltb-true n until e)
            go false e = let same : n ≡ until = omega (arith, ltb-false n until e) in due_now n same less

        -- no step was quiet: the machine is as before
        pub none_quiet : RunsQuietly until 0 taken (after_steps 0) → RunsQuietly most 0 m (machine_of S.held mid)
        unfolding machine_of
        none_quiet runs = record { steps = same; next = λ less. ap is_quiet same ∙ sym quiet_taken ∙ ap is_quiet (sym runs.steps) ∙ loud less }
          where
            ledgers : (machine_of S.held mid).ledger ≡ m.ledger
            ledgers = ap (λ (x : Machine). x.ledger) runs.steps

            same : machine_of S.held mid ≡ m
            same = ap (machine_of S.held) kept.same ∙ memory_machine S.held k mid.mem kept.rest.sizes ∙ (λ i. record m { ledger = ledgers i })

            loud : 0 < most → is_quiet (after_steps 0) ≡ false
            loud less = next_is_loud 0 (omega arith) runs.next less

        -- so many were, and the thread is put back
        pub some_quiet : (done : ℕ) (new : Machine) → 0 < done → done ≤ until → RunsQuietly until done taken (after_steps done) → new ≡ after_steps done
            → RunsQuietly most done m new
        some_quiet zero new some within runs is = absurd (omega (arith, some))
        some_quiet (suc n) new some within runs is = record {
          steps = subst (GoesQuietly (suc n) m) (sym is) (goes_taken n (after_steps (suc n)) runs.steps);
          next = λ less. ap is_quiet is ∙ next_is_loud (suc n) within runs.next less;
        }
