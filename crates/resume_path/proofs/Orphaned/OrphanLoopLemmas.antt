-- The messages whose lender died are held again one after the other: what holds before and after each.
use Rattle.xk_ports.specs.declared.store.SwapStore.{Ghosts as SwapStore}
use Rattle.std.proofs.Common.{◌≡◌, ℕ, ◌+◌, ◌-◌, ◌≤◌, ◌<◌, Bool, true, false, List, length, Option, Some, None, Result, refl, sym, ap, subst, ◌∙◌, arith, inl, inr}
use Rattle.std.specs.Prelude.{◌==◌, ◌&&◌, OnErr, slice_get, replicate, if◌then◌else◌}
use Rattle.std.proofs.lemmas.Bool.{and_from, and_parts, and_right, both_ways, cases_Bool, cases_lt}
use Rattle.std.proofs.lemmas.Option.{same_Some}
use Rattle.ledger_model.proofs.LedgerLemmas.{same_ledger}
use Rattle.ledger_model.proofs.Stepping.WritingLemmas.{bare-loans}
use Rattle.ledger_model.specs.Ledger.{Ledger, Orphan, empty_ledger}
use Rattle.ledger_model.specs.Loans.{LoanRun}
use Rattle.msg_queue.specs.Seats.{Seat, changed_at, empty_seat, seat_of, used_of, with_held}
use Rattle.msg_queue.specs.declared.held.Held.{Held as HeldMessage}
use Rattle.snapshot_rows.specs.Machines.{message_of}
use Rattle.snapshot_rows.specs.declared.state.MessageRow.{MessageRow}
use Rattle.snapshot_rows.specs.declared.state.ServerRow.{ServerRow}
use Rattle.snapshot_rows.specs.declared.state.State.{State}
use Rattle.vm_memory.specs.Memory.{frames_for_pages, ledger, store_of}
use Rattle.vm_memory.specs.declared.memory.Memory.{Memory}
use Rattle.xk_base.specs.Outside.{Rose}
use Rattle.xk_base.specs.declared.limits.TheConstants.{SERVER_LIMIT}
use Rattle.xk_base.specs.declared.messages.Message.{Message}
use Rattle.resume_path.proofs.Rows.ApartLemmas.{all_before_end, is_next, not_before, others_same}
use Rattle.resume_path.proofs.Lending.BackLemmas.{Agree, back_changed, back_same, held_again, none_back, room_for}
use Rattle.resume_path.proofs.Homes.ComingLemmas.{frames_same}
use Rattle.resume_path.proofs.Lending.LentBackLemmas.{all_orphans, no_orphan_more}
use Rattle.resume_path.proofs.Rows.MessageRowLemmas.{few_messages, no_orphan_of, none_queued, number_of, orphans_before_end, server_low}
use Rattle.resume_path.proofs.Rows.OnceLemmas.{get_first, get_right}
use Rattle.resume_path.proofs.Orphaned.OrphanStepLemmas.{on_err}
use Rattle.resume_path.proofs.Orphaned.OrphansBackLemmas.{all_before, next_before, none_before, run_there}
use Rattle.resume_path.proofs.Homes.PagesBackLemmas.{keeps_over, keeps_same}
use Rattle.resume_path.specs.Coming.{HasCome, HasFailed, KeepsSize}
use Rattle.resume_path.specs.Messages.{AreBack, IsStopped, is_lend_row, is_orphan_among, is_orphan_back, is_orphaned, row_held, row_run, run_at}
use Rattle.resume_path.specs.Resumable.{IsResumable, state_ledger, state_pages}
use Rattle.resume_path.specs.Standing.{is_message_before, orphan_among, orphans_before, orphans_of, pages_before, row_messages, standing, standing_of}

rose_over : (before mid now : ℕ) → before ≤ mid → Rose mid now → Rose before now
rose_over before mid now le rose = omega (arith, le, rose)

none_among : (o : Option Orphan) → orphan_among (λ number. false) o ≡ None
none_among None = refl
none_among (Some orphan) = refl

no_orphans : (l : Ledger) → standing (orphans_of (λ number. false)) l ≡ empty_ledger
unfolding standing
no_orphans l = same_ledger (standing (orphans_of (λ number. false)) l) empty_ledger (λ p. refl) (λ p. none_among (l.orphan p))

orphans_alone : (l : Ledger) (s : State) → standing (orphans_of (λ number. true)) l ≡ standing (pages_before s.pages 0) l
unfolding standing
orphans_alone l s = refl

-- a message whose lender died, as it is held
pub orphan_held : (s : State) (i : ℕ) (server : ServerRow) → slice_get s.servers i ≡ Some server → (k : ℕ) (row : MessageRow)
    → slice_get (row_messages server) k ≡ Some row
    → is_orphaned row ≡ true → (msg : Message) (loan : LoanRun) → msg ≡ message_of row → run_at s i k ≡ Some loan
    → record { msg = msg; loan = Some loan } ≡ row_held s.pages server.pid row
orphan_held s i server there k row at orphaned msg loan same run =
    let lends = (and_parts (is_lend_row row) (row.sender_pid == 0) orphaned).0 in
    let is : Some loan ≡ (if is_lend_row row then Some (row_run s.pages server.pid row) else None) =
    sym run ∙ (run_there s i server there k row at ∙ sym (ap (λ b. if b then Some (row_run s.pages server.pid row) else None) lends)) in
    λ j. record { msg = same j; loan = is j }

-- the messages before the k-th of the i-th server whose lender died are held, and their orphans are there
pub record AreOrphansTo {W : Type 0} (S : SwapStore W) (file : List ℕ)
    (s : State) (old now : Memory W) (queues : List Seat) (i k : ℕ) : Type 0 where
  pub come : HasCome S (state_pages file s) now (standing_of file s (orphans_before s.servers i k))
  pub back : AreBack s (is_orphan_back s.servers i k) queues
  pub keeps : KeepsSize S old now

module _ {W : Type 0} (S : SwapStore W) (file : List ℕ) (s : State)
    (h : IsResumable file s) where
  abbrev Keeps : Memory W → Memory W → Type 0
  Keeps old new = KeepsSize S old new

  abbrev Comes : Memory W → Ledger → Type 0
  Comes m l = HasCome S (state_pages file s) m l

  abbrev whole : Ledger
  whole = state_ledger file s

  abbrev To : Memory W → Memory W → List Seat → ℕ → ℕ → Type 0
  To old now queues i k = AreOrphansTo S file s old now queues i k

  pub orphans_none : (m : Memory W) (queues : List Seat) → queues ≡ replicate SERVER_LIMIT empty_seat → Comes m empty_ledger → To m m queues 0 0
  orphans_none m queues empty come = record {
    come = subst (Comes m) (sym (ap (λ f. standing (orphans_of f) whole) (none_before s.servers) ∙ no_orphans whole)) come;
    back = subst (AreBack s (is_orphan_back s.servers 0 0)) (sym empty)
        (none_back s (is_orphan_back s.servers 0 0) (λ y. and_right (is_orphaned y) (is_message_before s.servers 0 0 y.number)
        (λ j. none_before s.servers j y.number)));
    keeps = keeps_same S m;
  }

  -- ---- what a failure leaves

  module _ (old now : Memory W) (keeps : Keeps old now) where
    pub full_over : {A E : Type 0} (r : Result A E) → frames_for_pages now < state_pages file s → OnErr r (frames_for_pages old < state_pages file s)
    full_over r full =
        let same = frames_same S old now keeps in
        on_err r (frames_for_pages old < state_pages file s) (omega (arith, same, full))

    pub stopped_over : {A E : Type 0} (r : Result A E) (new : Memory W) (queues : List Seat) → IsStopped S file s now new queues
        → OnErr r (IsStopped S file s old new queues)
    stopped_over r new queues stopped = on_err r (IsStopped S file s old new queues) (record {
      numbers = stopped.numbers;
      sound = stopped.sound;
      loans = stopped.loans;
      back = stopped.back;
      rose = rose_over (S.faults (store_of old)) (S.faults (store_of now)) (S.faults (store_of new)) keeps.store.never_falls stopped.rose;
    })

  pub orphans_failed : {A E : Type 0} (r : Result A E) (old now new : Memory W) (queues : List Seat) (i k : ℕ) → To old now queues i k
      → HasFailed S now new → OnErr r (IsStopped S file s old new queues)
  orphans_failed r old now new queues i k to failed = on_err r (IsStopped S file s old new queues) (record {
    numbers = is_message_before s.servers i k;
    sound = failed.sound;
    loans = failed.loans ∙ bare-loans (standing_of file s (orphans_before s.servers i k)) (ledger S.held now) to.come.rights;
    back = to.back;
    rose = rose_over (S.faults (store_of old)) (S.faults (store_of now)) (S.faults (store_of new)) to.keeps.store.never_falls failed.rose;
  })

  -- ---- a server

  module _ (i : ℕ) (server : ServerRow) (there : slice_get s.servers i ≡ Some server) (old : Memory W) where
    -- all of its messages
    pub orphans_server : (now : Memory W) (queues : List Seat) (k : ℕ) → length (row_messages server) ≤ k → To old now queues i k
        → To old now queues (i + 1) 0
    orphans_server now queues k all to =
        let same = all_before s i server there k all in
        record {
          come = subst (λ f. Comes now (standing (orphans_of f) whole)) (sym same) to.come;
          back = subst (λ f. AreBack s (is_orphan_among f) queues) (sym same) to.back;
          keeps = to.keeps;
        }

    module _ (k : ℕ) (row : MessageRow) (at : slice_get (row_messages server) k ≡ Some row) where
      abbrev before : MessageRow → Bool
      before = is_orphan_back s.servers i k

      abbrev after : MessageRow → Bool
      after = is_orphan_back s.servers i (k + 1)

      not_yet : before row ≡ false
      not_yet = and_right (is_orphaned row) (is_message_before s.servers i k row.number) (not_before file s h i server there k k row (omega arith) at)

      same_other : (j l : ℕ) (other : ServerRow) (y : MessageRow) → slice_get s.servers j ≡ Some other → slice_get (row_messages other) l ≡ Some y
          → ((j ≡ i) → (l ≡ k) → ⊥) → after y ≡ before y
      same_other j l other y to e differ = ap (λ b. is_orphaned y && b) (others_same file s h i server there k row at j l other y to e differ)

      -- any message whose lender didn't die
      pub orphan_skipped : is_orphaned row ≡ false → (now : Memory W) (queues : List Seat) → To old now queues i k → To old now queues i (k + 1)
      orphan_skipped apart now queues to = record {
        come = subst (Comes now) (sym (ap (λ f. standing (orphans_of f) whole) (next_before s i server there k row at)
            ∙ no_orphan_more whole (is_message_before s.servers i k) (number_of row) (no_orphan_of file s h i server there k row at apart))) to.come;
        back = back_same s before after queues to.back (λ j other there_too l y e. agree j other there_too l y e);
        keeps = to.keeps;
      }
        where
          agree : (j : ℕ) (other : ServerRow) → slice_get s.servers j ≡ Some other → Agree before after other
          agree j other there_too l y e = elim (cases_Bool (is_orphaned y)) [
            | inl is ↦ same_other j l other y there_too e (λ same_server same_place.
                let server_is : other ≡ server = same_Some other server (sym there_too ∙ (ap (slice_get s.servers) same_server ∙ there)) in
                let row_is : y ≡ row =
                same_Some y row (sym e ∙ (ap (λ (x : ServerRow). slice_get (row_messages x) l) server_is
                ∙ (ap (slice_get (row_messages server)) same_place ∙ at))) in
                both_ways (is_orphaned row) apart (subst (λ (x : MessageRow). is_orphaned x ≡ true) row_is is))
            | inr isnt ↦ (λ m. isnt m && is_message_before s.servers i (k + 1) y.number) ∙ sym (λ m. isnt m && is_message_before s.servers i k y.number)
          ]

      module _ (orphaned : is_orphaned row ≡ true) (now : Memory W) (queues : List Seat) (to : To old now queues i k) where
        -- one whose lender died is a held one
        second : length server.queued ≤ k
        second = elim (cases_lt k (length server.queued)) [
          | inl first ↦ absurd (both_ways (is_orphaned row)
              (none_queued file s h i server there k row (sym (get_first server.queued server.held k first) ∙ at)) orphaned)
          | inr high ↦ high
        ]

        pub orphan_room : used_of (seat_of queues i) < 128
        orphan_room =
            room_for s before after queues to.back i (server_low file s h i server there) server there k row at not_yet (few_messages file s h i server there)

        pub orphan_next : (new : Memory W) (next : List Seat) (again : HeldMessage) → Keeps now new
            → Comes new (standing_of file s (orphans_before s.servers i (k + 1)))
            → again ≡ row_held s.pages server.pid row → next ≡ changed_at i (with_held again) queues → To old new next i (k + 1)
        orphan_next new next again keeps come is changed = record {
          come = come;
          back = subst (AreBack s after) (sym (changed ∙ ap (λ (m : HeldMessage). changed_at i (with_held m) queues) is))
              (back_changed s before after queues to.back i (server_low file s h i server there) server there (with_held (row_held s.pages server.pid row))
              (held_again s before after queues to.back i (server_low file s h i server there) server there k row at not_yet passes
              (λ l y e differ. same_other i l server y there e (λ same_server same_place. differ same_place)) second behind)
              (λ j other differ there_too l y e. same_other j l other y there_too e (λ same_server same_place. differ same_server)));
          keeps = keeps_over S old now new to.keeps keeps;
        }
          where
            passes : after row ≡ true
            passes = and_from (is_orphaned row) (is_message_before s.servers i (k + 1) row.number) orphaned (is_next file s h i server there k row at)

            behind : (l : ℕ) (y : MessageRow) → slice_get server.held l ≡ Some y → k - length server.queued ≤ l → before y ≡ false
            behind l y e high =
                and_right (is_orphaned y) (is_message_before s.servers i k y.number)
                (not_before file s h i server there k (length server.queued + l) y (omega (arith, high)) (get_right server.queued server.held l ∙ e))

  -- ---- all servers

  module _ (old now : Memory W) (queues : List Seat) (i : ℕ) (end : i ≡ length s.servers) (to : To old now queues i 0) where
    pub orphans_come_back : Comes now (standing_of file s (pages_before s.pages 0))
    orphans_come_back = subst (Comes now)
        (ap (λ n. standing_of file s (orphans_before s.servers n 0)) end
        ∙ (all_orphans whole (is_message_before s.servers (length s.servers) 0) (orphans_before_end file s h) ∙ orphans_alone whole s))
        to.come

    pub orphans_back_all : AreBack s is_orphaned queues
    orphans_back_all = back_same s (is_orphan_back s.servers i 0) is_orphaned queues to.back (λ j other there l y e.
        sym (ap (λ b. is_orphaned y && b) (ap (λ n. is_message_before s.servers n 0 y.number) end ∙ all_before_end file s h j l other y there e)
        ∙ and_true (is_orphaned y)))
      where
        and_true : (b : Bool) → (b && true) ≡ b
        and_true true = refl
        and_true false = refl
