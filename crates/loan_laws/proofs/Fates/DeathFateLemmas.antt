-- The fate of a number in the death of a process: the loans of its servers' messages close, and so do those that it has queued; those
-- of its messages that others hold become orphans; every other is left.
use Rattle.std.proofs.Common.{◌≡◌, ℕ, ◌<◌, ◌≤◌, ◌⊎◌, Bool, true, false, Option, Some, None, refl, sym, ap, ◌∙◌, arith, inl, inr, subst}
use Rattle.std.specs.Prelude.{◌==◌, if◌then◌else◌, nat_eq}
use Rattle.std.specs.Option.{option_map}
use Rattle.std.proofs.lemmas.Bool.{eq-eqb, eqb-true, false≢true}
use Rattle.std.proofs.lemmas.Option.{none-some}
use Rattle.xk_base.specs.declared.ids.Number.{Number}
use Rattle.xk_base.specs.declared.ids.Pid.{Pid}
use Rattle.xk_base.specs.declared.ids.Place.{Place}
use Rattle.xk_base.specs.declared.ids.ThreadId.{ThreadId}
use Rattle.xk_base.specs.Tables.Counting.{put_at}
use Rattle.ledger_model.specs.Ledger.{Homed, Ledger, Orphaned, Page, contents_of}
use Rattle.ledger_model.specs.Loans.{IsFresh, LoanRun, Stands, loans, without_lender}
use Rattle.ledger_model.specs.Places.{place_after}
use Rattle.ledger_model.specs.Steps.{forget}
use Rattle.machine_model.specs.Ending.Closing.{with_senderless_from, without_queued_from}
use Rattle.machine_model.specs.Ending.Ends.{dead_process, death, forgotten}
use Rattle.machine_model.specs.Messaging.LoanSets.{end_loans, freed_but, orphan_loans, page_but}
use Rattle.machine_model.specs.Runs.LoanSpan.{IsIn, IsLenderGone, IsOut, IsServerGone, page_bytes, page_name, unlent}
use Rattle.machine_model.specs.Runs.Matched.{Matched, is_living}
use Rattle.machine_model.specs.Runs.Moments.{Moment}
use Rattle.machine_model.specs.State.Changes.{settled}
use Rattle.machine_model.specs.State.Machine.{Machine, Process, Reservation}
use Rattle.machine_model.proofs.Ending.CloseManyLemmas.{ended_is_fresh}
use Rattle.machine_model.proofs.Matching.LoanSetLawLemmas.{orphaned_stands}
use Rattle.machine_model.proofs.Runs.SpanLemmas.{out_or_in}
use Rattle.machine_laws.proofs.Dying.DeathClosingLemmas.{closed_numbers, own, queued_numbers}
use Rattle.machine_laws.proofs.Dying.DeathForgetLemmas.{left_if}
use Rattle.machine_laws.proofs.Dying.DeathHeldLemmas.{held_below, held_numbers}
use Rattle.machine_laws.proofs.Dying.DeathLemmas.{death_is, first, first_matched, last_forgettable, second}
use Rattle.machine_laws.proofs.Messaging.ListedLemmas.{passing_server}
use Rattle.loan_laws.specs.Fates.{Fate, IsGivenBack, IsKept}
use Rattle.loan_laws.specs.Leaving.{Leaves}
use Rattle.loan_laws.proofs.Fates.FateLemmas.{fate_ends, fate_in, fate_left, fate_out}
use Rattle.loan_laws.proofs.Fates.EndedFateLemmas.{ended_home_page}
use Rattle.loan_laws.proofs.Fates.LikeLemmas.{IsLike, like_both, like_same, settled_like}
use Rattle.loan_laws.proofs.Leaving.LedgerStepLemmas.{ends_leave, forget_leaves, orphans_leave}
use Rattle.loan_laws.proofs.Leaving.NumberPageLemmas.{leaves_both, left_loans, name_left}
use Rattle.loan_laws.proofs.Leaving.OrphanedPageLemmas.{orphan_contents, orphans_fresh}
use Rattle.loan_laws.proofs.Lending.ClosedLendLemmas.{IsLendAt, lend_of_closed}
use Rattle.loan_laws.proofs.Lending.DeadSenderLemmas.{IsLenderOf, IsQueuedLend, held_lender, lender_lives, queued_lend}
use Rattle.ledger_model.proofs.Loans.OfNumberLemmas.{SameOf, fresh_still, stands_still}

-- `base` is the state before. The process dies in one that differs from it in the cursor and the reservation at most.
module _ (number : Number) (base : Machine) (cursor : ThreadId) (reserved : Option Reservation) (pid : Pid) where
  abbrev m : Machine
  m = record base { cursor = cursor; reserved = reserved }

  as_dying : (a : LoanRun) → IsOut number base a → IsOut number m a
  as_dying a out = record { numbered = out.numbered; some = out.some; stands = out.stands }

  module _ (before : Matched base) (h : Matched m) (moment : Moment) (like : IsLike moment.machine (forgotten pid (second m h pid))) where
    abbrev closed : Number → Bool
    closed = closed_numbers m h pid

    abbrev queued : Number → Bool
    queued = queued_numbers m h pid

    abbrev held : Number → Bool
    held = held_numbers (first m h pid) (first_matched m h pid) pid

    -- the ledger without the loans of the closed servers, without those that were queued, with orphans, and without the process's pages
    abbrev l1 : Ledger
    l1 = end_loans closed m.ledger

    abbrev l2 : Ledger
    l2 = end_loans queued l1

    abbrev l3 : Ledger
    l3 = orphan_loans m.processes held l2

    abbrev l4 : Ledger
    l4 = forget pid l3

    ledger_now : moment.machine.ledger ≡ l4
    ledger_now = like.ledger ∙ forgotten_ledger
      where
        forgotten_ledger : (forgotten pid (second m h pid)).ledger ≡ l4
        forgotten_ledger = unfold forgotten in refl

    servers_now : moment.machine.servers ≡ (second m h pid).servers
    servers_now = like.servers ∙ forgotten_servers
      where
        forgotten_servers : (forgotten pid (second m h pid)).servers ≡ (second m h pid).servers
        forgotten_servers = unfold forgotten in refl

    process_now : moment.machine.process ≡ put_at nat_eq base.process pid.0 dead_process
    process_now = like.process ∙ forgotten_process
      where
        forgotten_process : (forgotten pid (second m h pid)).process ≡ put_at nat_eq base.process pid.0 dead_process
        forgotten_process = unfold forgotten in refl

    climbs : base.next_number ≤ moment.machine.next_number
    climbs =
        let same : moment.machine.next_number ≡ base.next_number = like.number ∙ forgotten_number in omega arith
      where
        forgotten_number : (forgotten pid (second m h pid)).next_number ≡ base.next_number
        forgotten_number = unfold forgotten in refl

    -- the process isn't alive afterwards
    dies : (home : Place) → home.pid.0 ≡ pid.0 → is_living moment.machine home.pid ≡ false
    dies home same =
        ap (λ (process : ℕ → Process). (process home.pid.0).alive) process_now
        ∙ ap (λ b. (if b then dead_process else base.process home.pid.0).alive) (eq-eqb home.pid.0 pid.0 same)

    -- ---- what each part leaves

    forget_leaves_it : Leaves number l3 l4
    forget_leaves_it =
        forget_leaves number m.processes l3 pid (λ p e. (last_forgettable m h pid).can.not_lent p (eqb-true p.pid.0 pid.0 e))

    orphans_leave_it : held number ≡ false → Leaves number l2 l3
    orphans_leave_it e = orphans_leave number held e m.processes m.capacity l2 (first_matched m h pid).body.ledger.lawful

    ends_leave_it : closed number ≡ false → queued number ≡ false → Leaves number m.ledger l2
    ends_leave_it e f = leaves_both number m.ledger l1 l2 (ends_leave number closed e m.ledger) (ends_leave number queued f l1)

    still_fresh : (x y : Ledger) → Leaves number x y → IsFresh (loans x) number → IsFresh (loans y) number
    still_fresh x y left fresh = fresh_still (loans x) (loans y) number (left_loans number x y left) fresh

    -- ---- a number that is in, or of a message of the servers

    from_second : IsFresh (loans l2) number → IsIn number moment.machine
    from_second fresh =
        subst (λ l. IsFresh (loans l) number) (sym ledger_now)
        (still_fresh l3 l4 forget_leaves_it (orphans_fresh m.processes held l2 number fresh))

    from_first : IsFresh (loans l1) number → IsIn number moment.machine
    from_first fresh = go (queued number) refl
      where
        go : (b : Bool) → queued number ≡ b → IsIn number moment.machine
        go true e = from_second (ended_is_fresh queued number l1 e)
        go false e = from_second (still_fresh l1 l2 (ends_leave number queued e l1) fresh)

    stays_in : IsIn number base → IsIn number moment.machine
    stays_in fresh = go (closed number) refl
      where
        go : (b : Bool) → closed number ≡ b → IsIn number moment.machine
        go true e = from_first (ended_is_fresh closed number m.ledger e)
        go false e = from_first (still_fresh m.ledger l1 (ends_leave number closed e m.ledger) fresh)

    -- ---- the loan of a message of the servers

    unlent_stays : (p : Place) (page : Page) → l1.home p ≡ Some (unlent page) → (p.pid.0 == pid.0) ≡ false → l4.home p ≡ Some (unlent page)
    unlent_stays p page e apart = forgotten_home ∙ (ap (λ b. if b then None else l3.home p) apart ∙ (orphaned_home ∙ ap (page_but held) (ended_home ∙ ap (option_map (freed_but queued)) e)))
      where
        forgotten_home : l4.home p ≡ (if p.pid.0 == pid.0 then None else l3.home p)
        forgotten_home = unfold forget in refl

        orphaned_home : l3.home p ≡ page_but held (l2.home p)
        orphaned_home = unfold orphan_loans in refl

        ended_home : l2.home p ≡ option_map (freed_but queued) (l1.home p)
        ended_home = unfold end_loans in refl

    lives_apart : (home : Place) → is_living moment.machine home.pid ≡ true → (home.pid.0 == pid.0) ≡ false
    lives_apart home lives = go (home.pid.0 == pid.0) refl
      where
        go : (b : Bool) → (home.pid.0 == pid.0) ≡ b → b ≡ false
        go false e = refl
        go true e = absurd (false≢true (sym (dies home (eqb-true home.pid.0 pid.0 e)) ∙ lives))

    closed_fate : closed number ≡ true → (a : LoanRun) → IsOut number base a → Fate number base moment
    closed_fate e a out =
        fate_ends number base moment a out (from_first (ended_is_fresh closed number m.ledger e)) (inr (inl server_gone)) given_back climbs
      where
        at : IsLendAt (own m h pid) m number
        at = lend_of_closed m number h (own m h pid) e a (as_dying a out)

        server_gone : IsServerGone number base moment
        server_gone = record {
          serial = at.serial;
          server = at.server;
          live = at.live;
          sent = at.sent;
          gone = ap (λ servers. servers at.serial) servers_now
              ∙ gone_there at.closes;
        }
          where
            gone_there : own m h pid at.serial ≡ true → (second m h pid).servers at.serial ≡ None
            gone_there e = ap (λ b. option_map (with_senderless_from pid) (option_map (without_queued_from pid) (if b then None else base.servers at.serial))) e

        given_back : IsGivenBack base moment a
        given_back home k page lender lives low there =
            ap (λ (l : Ledger). l.home (place_after home k)) ledger_now
            ∙ unlent_stays (place_after home k) page
            (ended_home_page closed m.ledger a home k page out.stands (ap closed out.numbered ∙ e) lender low there) (lives_apart home lives)

    -- ---- a queued loan of the process

    queued_fate : closed number ≡ false → queued number ≡ true → (a : LoanRun) → IsOut number base a → Fate number base moment
    queued_fate e f a out =
        fate_ends number base moment a out (from_second (ended_is_fresh queued number l1 f)) (inr (inr lender_gone)) given_back climbs
      where
        at : IsQueuedLend m number h a (as_dying a out) pid
        at =
            let passing = passing_server _ _ f in
            queued_lend m number h a (as_dying a out) pid passing.serial passing.server
            (left_if (own m h pid passing.serial) (base.servers passing.serial) passing.server passing.live).1 passing.passes

        lender_gone : IsLenderGone number a base moment
        lender_gone = record {
          serial = at.serial;
          server = at.server;
          live = at.live;
          queued = at.queued;
          home = at.by.home;
          lender = at.by.lender;
          lived = lender_lives m number h a (as_dying a out) at.by.home at.by.lender;
          died = dies at.by.home at.by.own;
        }

        given_back : IsGivenBack base moment a
        given_back home k page lender lives low there =
            let same : home.pid.0 ≡ pid.0 =
            sym (ap (λ (o : Option Place). lender_pid o) (sym at.by.lender ∙ lender)) ∙ at.by.own in
            absurd (false≢true (sym (dies home same) ∙ lives))
          where
            lender_pid : Option Place → ℕ
            lender_pid None = 0
            lender_pid (Some p) = p.pid.0

    -- ---- a loan that others hold of the process

    held_fate : closed number ≡ false → queued number ≡ false → held number ≡ true → (a : LoanRun) → IsOut number base a → Fate number base moment
    held_fate e f g a out =
        fate_out number base moment a (without_lender a) out
        (record { numbered = out.numbered; some = out.some; stands = stands_now }) kept climbs
      where
        left : Leaves number m.ledger l2
        left = ends_leave_it e f

        left_a : Leaves a.number m.ledger l2
        left_a = subst (λ k. Leaves k m.ledger l2) (sym out.numbered) left

        stands_second : Stands (loans l2) a
        stands_second = stands_still (loans m.ledger) (loans l2) a (left_loans a.number m.ledger l2 left_a) out.stands

        out_first : IsOut number (first m h pid) a
        out_first = record { numbered = out.numbered; some = out.some; stands = stands_second }

        by : IsLenderOf pid a
        by = held_lender (first m h pid) number (first_matched m h pid) a out_first pid g

        goes : held a.number ≡ true
        goes = ap held out.numbered ∙ g

        stands_third : Stands (loans l3) (without_lender a)
        stands_third =
            orphaned_stands m.processes m.capacity held l2 m.next_number (held_below (first m h pid) (first_matched m h pid) pid)
            (first_matched m h pid).body.ledger.lawful a by.home by.lender goes stands_second

        stands_now : Stands (loans moment.machine.ledger) (without_lender a)
        stands_now =
            subst (λ l. Stands (loans l) (without_lender a)) (sym ledger_now)
            (stands_still (loans l3) (loans l4) (without_lender a)
            (subst (λ k. SameOf k (loans l3) (loans l4)) (sym out.numbered) (left_loans number l3 l4 forget_leaves_it)) stands_third)

        orphan_stays : (q : Place) → contents_of l4 (Orphaned q) ≡ contents_of l3 (Orphaned q)
        orphan_stays q = unfold forget in refl

        name : (k : ℕ) → page_name a k ≡ Homed (place_after by.home k)
        name k = ap (λ o. page_name (record a { lender = o }) k) by.lender

        same_bytes : (k : ℕ) → k < a.count → page_bytes base a k ≡ page_bytes moment.machine (without_lender a) k
        same_bytes k low =
            (name_left m.ledger l2 a k left_a out.stands low).contents
            ∙ (ap (contents_of l2) (name k)
            ∙ (sym (orphan_contents m.processes m.capacity held l2 (first_matched m h pid).body.ledger.lawful a stands_second goes by.home by.lender k low)
            ∙ (sym (orphan_stays (place_after a.holder k)) ∙ ap (λ l. contents_of l (Orphaned (place_after a.holder k))) (sym ledger_now))))

        kept : IsKept number base moment a (without_lender a)
        kept = record {
          kind = refl;
          count = refl;
          lender = λ home none. absurd (none-some home none);
          rights = λ home k none low. absurd (none-some home none);
          holder = inl refl;
          bytes = λ k low. inl (same_bytes k low);
        }

    -- ---- all

    by_sets : (a b c : Bool) → closed number ≡ a → queued number ≡ b → held number ≡ c
        → IsIn number base ⊎ ((loan : LoanRun) × IsOut number base loan) → Fate number base moment
    by_sets a b c e f g (inl fresh) = fate_in number base moment fresh (stays_in fresh) climbs
    by_sets true b c e f g (inr (a, out)) = closed_fate e a out
    by_sets false true c e f g (inr (a, out)) = queued_fate e f a out
    by_sets false false true e f g (inr (a, out)) = held_fate e f g a out
    by_sets false false false e f g (inr (a, out)) =
        fate_left number base moment before
        (subst (λ l. Leaves number base.ledger l) (sym ledger_now)
        (leaves_both number m.ledger l2 l4 (ends_leave_it e f)
        (leaves_both number l2 l3 l4 (orphans_leave_it g) forget_leaves_it)))
        climbs

    forgotten_fate : Fate number base moment
    forgotten_fate = by_sets (closed number) (queued number) (held number) refl refl refl (out_or_in base number before)

  pub death_fate : Matched base → (h : Matched m) → (moment : Moment) → IsLike moment.machine (death pid m).machine → Fate number base moment
  death_fate before h moment like =
      forgotten_fate before h moment
      (like_both moment.machine (death pid m).machine (forgotten pid (second m h pid)) like
      (like_both (death pid m).machine (settled (death pid m)).machine (forgotten pid (second m h pid))
      back (like_same (settled (death pid m)).machine (forgotten pid (second m h pid)) (death_is m h pid))))
    where
      settling : IsLike (settled (death pid m)).machine (death pid m).machine
      settling = settled_like (death pid m)

      back : IsLike (death pid m).machine (settled (death pid m)).machine
      back = record {
        ledger = sym settling.ledger;
        servers = sym settling.servers;
        process = sym settling.process;
        number = sym settling.number;
      }
