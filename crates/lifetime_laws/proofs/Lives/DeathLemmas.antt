-- What the death of a process does to pages: its own go, or become orphans of those who hold them; what it held is given back or up; all
-- others stay.
use Rattle.std.proofs.Common.{◌≡◌, ◌≢◌, ◌⊎◌, ℕ, ◌+◌, ◌<◌, Bool, ◌&&◌, true, false, length, Option, Some, None, is_some, get_or, refl, sym, ap, ◌∙◌, arith, inl, inr, subst}
use Rattle.std.specs.Prelude.{◌==◌, if◌then◌else◌}
use Rattle.std.specs.List.{list_any}
use Rattle.std.specs.Option.{option_map, option_or}
use Rattle.std.proofs.lemmas.Bool.{and_parts, eq-eqb, eqb-true, false≢true}
use Rattle.std.proofs.lemmas.List.{get_or_append_left, length-append}
use Rattle.std.proofs.lemmas.Option.{none-some, same_Some}
use Rattle.xk_base.specs.declared.ids.Number.{Number}
use Rattle.xk_base.specs.declared.ids.Pid.{Pid}
use Rattle.xk_base.specs.declared.ids.Place.{Place}
use Rattle.xk_base.specs.declared.ids.ThreadId.{ThreadId}
use Rattle.xk_base.specs.declared.messages.Message.{Message}
use Rattle.ledger_model.specs.Ledger.{Homed, Ledger, Orphan, Orphaned, Page, PageLoan, PageName, loan_at, loan_of}
use Rattle.ledger_model.specs.Lawful.{IsLawful}
use Rattle.ledger_model.specs.Loans.{IsFresh, LoanRun, Stands, loans}
use Rattle.ledger_model.specs.Reach.{lender_of}
use Rattle.ledger_model.proofs.LedgerLemmas.{lender_of-holder}
use Rattle.machine_model.specs.Ending.Closing.{closed, senders_held_gone, senders_queued_gone, servers_closed, with_senderless_from, without_queued_from}
use Rattle.machine_model.specs.Ending.Ends.{dead_process, death, forgotten}
use Rattle.machine_model.specs.Messaging.LoanSets.{freed_but, loan_but, orphan_but, page_but}
use Rattle.machine_model.specs.Messaging.MessageCounts.{HasNone, count_at}
use Rattle.machine_model.specs.Messaging.Messages.{is_lend_of, is_of_number, is_sent_from}
use Rattle.machine_model.specs.Runs.Isolation.{IsOrphaned}
use Rattle.machine_model.specs.Runs.LoanSpan.{IsForwarded, IsIn, IsOut}
use Rattle.machine_model.specs.Runs.Matched.{Matched, is_living}
use Rattle.machine_model.specs.Runs.Moments.{Moment}
use Rattle.machine_model.specs.State.Changes.{settled}
use Rattle.machine_model.specs.State.Machine.{Machine, Process, Reservation, Server}
use Rattle.machine_model.specs.State.Servers.{is_server_of, messages_of}
use Rattle.machine_model.proofs.Runs.SpanLemmas.{out_or_in}
use Rattle.machine_laws.proofs.Dying.DeathLemmas.{death_matched}
use Rattle.machine_laws.proofs.Messaging.ListedLemmas.{listed_at}
use Rattle.noninterference_laws.proofs.Seeing.DeathLemmas.{ended, orphaned, own, queued_home, shut, unqueued, was_there}
use Rattle.noninterference_laws.proofs.Seeing.HeldLemmas.{HasLoans, has_loans, some_server}
use Rattle.loan_laws.proofs.Fates.DeathFateLemmas.{death_fate}
use Rattle.loan_laws.proofs.Fates.LikeLemmas.{IsLike, settled_like}
use Rattle.noninterference_laws.proofs.DeathLemmas.{home_fate}
use Rattle.noninterference_laws.proofs.OrphanLemmas.{not_sent}
use Rattle.noninterference_laws.proofs.PageLemmas.{stands_there}
use Rattle.lifetime_laws.specs.Causes.{Dies}
use Rattle.lifetime_laws.specs.Deeds.{Allocated, Bereft, Deed, GivenBack, GivenUp, LivesOn, Nothing, Orphaning, OwnerDied, Released}
use Rattle.lifetime_laws.specs.Deeds.{Returning, Stays, StaysOrphan, stands}
use Rattle.lifetime_laws.specs.Lives.{LivesThrough, PagesLive}
use Rattle.lifetime_laws.specs.Tracing.{AreOne}
use Rattle.lifetime_laws.proofs.Lives.EndedLemmas.{loan_ended, orphan_ended, out_of_loan}
use Rattle.lifetime_laws.proofs.Lives.OrphanLemmas.{Arises, arisen, dead, dead_home, dead_orphan, left, left_home, orphan_from}
use Rattle.lifetime_laws.proofs.Lives.OverLemmas.{loan_over, none_lent}

-- `before` is the state before. The process dies in one that differs from it in the cursor and the reservation at most.
module _ (before : Machine) (first : Matched before) (cursor : ThreadId) (reserved : Option Reservation) (pid : Pid)
    (h : Matched (record before { cursor = cursor; reserved = reserved })) (lived : is_living before pid ≡ true) (moment : Moment)
    (like : IsLike moment.machine (death pid (record before { cursor = cursor; reserved = reserved })).machine)
    (unforwarded : (a : LoanRun) (number : Number) → IsForwarded number a before moment → ⊥) where
  abbrev m : Machine
  m = record before { cursor = cursor; reserved = reserved }

  abbrev after : Ledger
  after = moment.machine.ledger

  loans_here : HasLoans m
  loans_here = has_loans m h

  lawful : IsLawful before.processes before.capacity before.ledger
  lawful = first.body.ledger.lawful

  is : after ≡ dead pid m
  is = like.ledger

  -- ---- the process

  process_now : (p : Place) → p.pid.0 ≡ pid.0 → is_living moment.machine p.pid ≡ false
  unfolding death servers_closed closed senders_queued_gone senders_held_gone forgotten
  process_now p same =
      ap (λ (process : ℕ → Process). (process p.pid.0).alive) like.process
      ∙ ap (λ b. (if b then dead_process else before.process p.pid.0).alive) (eq-eqb p.pid.0 pid.0 same)

  dies : (p : Place) → p.pid.0 ≡ pid.0 → Dies p.pid before moment
  dies p same = record { lived = ap (λ k. (before.process k).alive) same ∙ lived; died = process_now p same }

  -- ---- its servers

  of_process : (k : ℕ) (server : Server) → before.servers k ≡ Some server → own pid m k ≡ true → server.pid.0 ≡ pid.0
  of_process k server live e = eqb-true server.pid.0 pid.0 (sym (ap (is_server_of pid) live) ∙ e)

  server_gone : (k : ℕ) → own pid m k ≡ true → moment.machine.servers k ≡ None
  unfolding death servers_closed closed senders_queued_gone senders_held_gone forgotten
  server_gone k e =
      ap (λ servers. servers k) like.servers
      ∙ ap (λ b. option_map (with_senderless_from pid) (option_map (without_queued_from pid) (if b then None else before.servers k))) e

  -- ---- the page at a home

  -- a page whose home isn't of the process stands there afterwards
  abbrev kept_home : Option Page → Option Page
  kept_home o = page_but (orphaned pid m) (option_map (freed_but (unqueued pid m)) (option_map (freed_but (ended pid m)) o))

  home_now : (p : Place) (b : Bool) → (p.pid.0 == pid.0) ≡ b → after.home p ≡ (if b then None else kept_home (before.ledger.home p))
  home_now p b e =
      ap (λ (l : Ledger). l.home p) is
      ∙ (dead_home pid m p
      ∙ (ap (λ c. if c then None else page_but (orphaned pid m) ((left pid m).home p)) e
      ∙ ap (λ o. if b then None else page_but (orphaned pid m) o) (left_home pid m p)))

  apart : (p : Place) → (p.pid.0 == pid.0) ≡ false → p.pid ≢ pid
  apart p e same = false≢true (sym e ∙ eq-eqb p.pid.0 pid.0 (ap (λ (k : Pid). k.0) same))

  not_left : (p : Place) (page : Page) → (p.pid.0 == pid.0) ≡ false → before.ledger.home p ≡ Some page → after.home p ≢ None
  not_left p page e there gone =
      stands_there pid before.ledger (dead pid m) p page (home_fate before first pid cursor reserved before.threads (λ id other. refl) None p (apart p e)) there
      (sym (ap (λ (l : Ledger). l.home p) is) ∙ gone)

  record StandsOn (p : Place) : Type 0 where
    page : Page
    there : after.home p ≡ Some page
    deed : Deed
    lives : LivesOn before moment (Homed p) deed (Homed p)

  stands_on : (p : Place) (page : Page) → (p.pid.0 == pid.0) ≡ false → before.ledger.home p ≡ Some page → StandsOn p
  stands_on p page e there = go page.loan refl
    where
      now : (o : Option PageLoan) → page.loan ≡ o
          → after.home p ≡ page_but (orphaned pid m) (Some (record page { loan = loan_but (unqueued pid m) (loan_but (ended pid m) o) }))
      now o lent =
          home_now p false e
          ∙ (ap kept_home there
          ∙ ap (λ x. page_but (orphaned pid m) (Some (record page { loan = loan_but (unqueued pid m) (loan_but (ended pid m) x) }))) lent)

      as_it_was : (o : Option PageLoan) → page.loan ≡ o → Some (record page { loan = o }) ≡ Some page
      as_it_was o lent = ap (λ x. Some (record page { loan = x })) (sym lent)

      stays : after.home p ≡ Some page → StandsOn p
      stays same = record { page = page; there = same; deed = Nothing; lives = Stays p page there same }

      of_tests : (loan : PageLoan) → page.loan ≡ Some loan → (a b c : Bool) → ended pid m loan.number ≡ a → unqueued pid m loan.number ≡ b
          → orphaned pid m loan.number ≡ c → StandsOn p
      of_tests loan lent true b c q r s =
          let back : after.home p ≡ Some (record page { loan = None }) =
          now (Some loan) lent
          ∙ ap (λ x. page_but (orphaned pid m) (Some (record page { loan = loan_but (unqueued pid m) (if x then None else Some loan) }))) q in
          record {
            page = record page { loan = None };
            there = back;
            deed = Returning loan.number;
            lives = GivenBack p page loan there lent back
                (loan_ended before cursor reserved h moment pid (own pid m) of_process server_gone p loan (ap loan_of there ∙ lent) q);
          }
      of_tests loan lent false true c q r s =
          absurd (false≢true (sym e ∙ eq-eqb p.pid.0 pid.0 (queued_home pid m (λ k. true) loans_here p loan (ap loan_of there ∙ lent) r)))
      of_tests loan lent false false true q r s =
          absurd (not_left p page e there
          (now (Some loan) lent
          ∙ (ap (λ x. page_but (orphaned pid m) (Some (record page { loan = loan_but (unqueued pid m) (if x then None else Some loan) }))) q
          ∙ (ap (λ x. page_but (orphaned pid m) (Some (record page { loan = if x then None else Some loan }))) r
          ∙ ap (λ x. if x then None else Some (record page { loan = Some loan })) s))))
      of_tests loan lent false false false q r s =
          stays (now (Some loan) lent
          ∙ (ap (λ x. page_but (orphaned pid m) (Some (record page { loan = loan_but (unqueued pid m) (if x then None else Some loan) }))) q
          ∙ (ap (λ x. page_but (orphaned pid m) (Some (record page { loan = if x then None else Some loan }))) r
          ∙ (ap (λ x. if x then None else Some (record page { loan = Some loan })) s ∙ as_it_was (Some loan) lent))))

      go : (o : Option PageLoan) → page.loan ≡ o → StandsOn p
      go None lent = stays (now None lent ∙ as_it_was None lent)
      go (Some loan) lent =
          of_tests loan lent (ended pid m loan.number) (unqueued pid m loan.number) (orphaned pid m loan.number) refl refl refl

  -- .. and none stands where none stood
  none_new : (p : Place) → before.ledger.home p ≡ None → after.home p ≡ None
  none_new p there = go (p.pid.0 == pid.0) refl
    where
      go : (b : Bool) → (p.pid.0 == pid.0) ≡ b → after.home p ≡ None
      go true e = home_now p true e
      go false e = home_now p false e ∙ ap kept_home there

  -- ---- where pages come from and where they go

  -- a page at a home, and else its orphan, where there is one
  abbrev orphan_name : Option Orphan → Place → Option PageName
  orphan_name None q = None
  orphan_name (Some orphan) q = Some (Orphaned q)

  abbrev lent_name : Option PageLoan → Option PageName
  lent_name None = None
  lent_name (Some loan) = orphan_name (after.orphan loan.holder) loan.holder

  abbrev home_name : Option Page → Option PageLoan → Place → Option PageName
  home_name (Some page) o p = Some (Homed p)
  home_name None o p = lent_name o

  abbrev forth : PageName → Option PageName
  forth (Homed p) = home_name (after.home p) (loan_at before.ledger p) p
  forth (Orphaned q) = orphan_name (after.orphan q) q

  -- an orphan that stood comes from itself, and any other from the page that was lent to its place
  abbrev lender_name : Option Place → Option PageName
  lender_name None = None
  lender_name (Some home) = Some (Homed home)

  abbrev orphan_source : Option Orphan → Option Place → Place → Option PageName
  orphan_source (Some orphan) lender q = Some (Orphaned q)
  orphan_source None lender q = lender_name lender

  abbrev back : PageName → Option PageName
  back (Homed p) = Some (Homed p)
  back (Orphaned q) = orphan_source (before.ledger.orphan q) (lender_of before.processes before.ledger q) q

  abbrev Same : PageName → PageName → Type 0
  Same old new = AreOne back forth (LivesThrough before moment) old new

  page_stays : (p : Place) → StandsOn p → Same (Homed p) (Homed p)
  page_stays p on = record {
    back = refl;
    forth = ap (λ o. home_name o (loan_at before.ledger p) p) on.there;
    lives = (on.deed, on.lives);
  }

  orphan_stays : (q : Place) (orphan : Orphan) → before.ledger.orphan q ≡ Some orphan → after.orphan q ≡ Some orphan → Same (Orphaned q) (Orphaned q)
  orphan_stays q orphan there now = record {
    back = ap (λ o. orphan_source o (lender_of before.processes before.ledger q) q) there;
    forth = ap (λ o. orphan_name o q) now;
    lives = (Nothing, StaysOrphan q orphan there now);
  }

  orphan_now : (q : Place) → after.orphan q ≡ (dead pid m).orphan q
  orphan_now q = ap (λ (l : Ledger). l.orphan q) is

  -- ---- a page that becomes an orphan

  module _ (q home : Place) (orphan : Orphan) (now : after.orphan q ≡ Some orphan) (arises : Arises pid m q home orphan) where
    abbrev was : IsOrphaned before.ledger moment.machine.ledger home q orphan
    was = record {
      page = arises.was.page;
      loan = arises.was.loan;
      stood = arises.was.stood;
      lent = arises.was.lent;
      held = arises.was.held;
      same = arises.was.same;
      left = ap (λ (l : Ledger). l.home home) is ∙ arises.was.left;
    }

    lent_at : loan_at before.ledger home ≡ Some arises.was.loan
    lent_at = ap loan_of arises.was.stood ∙ arises.was.lent

    none_before : before.ledger.orphan q ≡ None
    none_before = ap before.ledger.orphan (sym arises.was.held) ∙ lawful.holder_no_orphan home arises.was.loan lent_at

    lender : lender_of before.processes before.ledger q ≡ Some home
    lender =
        ap (lender_of before.processes before.ledger) (sym arises.was.held)
        ∙ lender_of-holder before.processes before.capacity before.ledger home arises.was.loan lawful lent_at

    left_now : after.home home ≡ None
    left_now = ap (λ (l : Ledger). l.home home) is ∙ arises.was.left

    -- it was of the process
    own_home : home.pid.0 ≡ pid.0
    own_home = go (home.pid.0 == pid.0) refl
      where
        go : (b : Bool) → (home.pid.0 == pid.0) ≡ b → home.pid.0 ≡ pid.0
        go true e = eqb-true home.pid.0 pid.0 e
        go false e = absurd (not_left home arises.was.page e arises.was.stood left_now)

    bereft : Same (Homed home) (Orphaned q)
    bereft = record {
      back = ap (λ o. orphan_source o (lender_of before.processes before.ledger q) q) none_before ∙ ap lender_name lender;
      forth = ap (λ o. home_name o (loan_at before.ledger home) home) left_now
          ∙ (ap lent_name lent_at ∙ (ap (λ x. orphan_name (after.orphan x) x) arises.was.held ∙ ap (λ o. orphan_name o q) now));
      lives = (Orphaning orphan.number, Bereft home q orphan none_before now was arises.number arises.kind (dies home own_home));
    }

  -- ---- a page of the process that becomes none

  -- the state after the death, which is matched
  abbrev end : Machine
  end = (settled (death pid m)).machine

  same_ledger : end.ledger ≡ after
  same_ledger = (settled_like (death pid m)).ledger ∙ sym like.ledger

  in_or_out : (number : Number) → IsIn number moment.machine ⊎ ((b : LoanRun) × IsOut number moment.machine b)
  in_or_out number = go (out_or_in end number (death_matched m h pid))
    where
      go : IsIn number end ⊎ ((b : LoanRun) × IsOut number end b) → IsIn number moment.machine ⊎ ((b : LoanRun) × IsOut number moment.machine b)
      go (inl fresh) = inl (subst (λ l. IsFresh (loans l) number) same_ledger fresh)
      go (inr (b, out)) =
          inr (b, record { numbered = out.numbered; some = out.some; stands = subst (λ l. Stands (loans l) b) same_ledger out.stands })

  over : (p : Place) (page : Page) (loan : PageLoan) → before.ledger.home p ≡ Some page → page.loan ≡ Some loan → after.home p ≡ None
      → after.orphan loan.holder ≡ None → IsIn loan.number moment.machine
  over p page loan there lent gone none =
      let out = out_of_loan before first p loan (ap loan_of there ∙ lent) in
      loan_over before moment p page loan there lent gone none (death_fate loan.number before cursor reserved pid first h moment like)
      (λ a forwarded. unforwarded a loan.number forwarded) out.0 out.1 (in_or_out loan.number)

  -- no server has its message any more
  unsent : (number : Number) → IsIn number moment.machine → HasNone moment.machine.servers (is_lend_of number)
  unsent number fresh n =
      ap (λ servers. count_at (is_lend_of number) (servers n)) (like.servers ∙ sym (settled_like (death pid m)).servers)
      ∙ none_lent end (death_matched m h pid) number (subst (λ l. IsFresh (loans l) number) (sym same_ledger) fresh) n

  abbrev Goes : PageName → Type 0
  Goes old = ((new : PageName) × (stands after new ≡ true) × Same old new) ⊎ ((forth old ≡ None) × Released before moment old)

  dead_page : (p : Place) (page : Page) → before.ledger.home p ≡ Some page → p.pid.0 ≡ pid.0 → after.home p ≡ None → Goes (Homed p)
  dead_page p page there its gone = go page.loan refl
    where
      lent_to : (o : Option PageLoan) → page.loan ≡ o → forth (Homed p) ≡ lent_name o
      lent_to o lent = ap (λ x. home_name x (loan_at before.ledger p) p) gone ∙ ap lent_name (ap loan_of there ∙ lent)

      of_loan : (loan : PageLoan) → page.loan ≡ Some loan → (o : Option Orphan) → after.orphan loan.holder ≡ o → Goes (Homed p)
      of_loan loan lent None e =
          inr (
            lent_to (Some loan) lent ∙ ap (λ o. orphan_name o loan.holder) e,
            OwnerDied p page there gone (dies p its)
                (λ other f.
                subst (λ (x : PageLoan). HasNone moment.machine.servers (is_lend_of x.number)) (same_Some loan other (sym lent ∙ f))
                (unsent loan.number (over p page loan there lent gone e))),
          )
      of_loan loan lent (Some orphan) e = from (orphan_from pid m loan.holder orphan (sym (orphan_now loan.holder) ∙ e))
        where
          lent_there : loan_at before.ledger p ≡ Some loan
          lent_there = ap loan_of there ∙ lent

          from : (before.ledger.orphan loan.holder ≡ Some orphan) ⊎ ((home : Place) × Arises pid m loan.holder home orphan) → Goes (Homed p)
          from (inl stood) = absurd (none-some orphan (sym (lawful.holder_no_orphan p loan lent_there) ∙ stood))
          from (inr (home, arises)) =
              let same : home ≡ p =
              lawful.holders_differ home p arises.was.loan loan (lent_at loan.holder home orphan e arises) lent_there arises.was.held in
              inl (
                Orphaned loan.holder,
                ap is_some e,
                subst (λ x. Same (Homed x) (Orphaned loan.holder)) same (bereft loan.holder home orphan e arises),
              )

      go : (o : Option PageLoan) → page.loan ≡ o → Goes (Homed p)
      go None lent =
          inr (lent_to None lent, OwnerDied p page there gone (dies p its) (λ loan e. absurd (none-some loan (sym lent ∙ e))))
      go (Some loan) lent = of_loan loan lent (after.orphan loan.holder) refl

  -- ---- an orphan that is given up

  -- no thread of the process waits for its message
  not_queued : (q : Place) (orphan : Orphan) → before.ledger.orphan q ≡ Some orphan → unqueued pid m orphan.number ≡ false
  not_queued q orphan there = go (unqueued pid m orphan.number) refl
    where
      because : unqueued pid m orphan.number ≡ true → false ≡ true
      because e =
          let test = λ (x : Message). is_of_number orphan.number x && is_sent_from pid x in
          let at = some_server (shut pid m) (λ n server. list_any test server.queued) e in
          let place = listed_at test at.1.queued at.3 in
          let message : Message = get_or at.1.queued place.0 place.1 in
          let parts = and_parts (is_of_number orphan.number message) (is_sent_from pid message) place.3 in
          let low : place.0 < length at.1.queued = place.2 in
          let long : length (messages_of at.1) ≡ length at.1.queued + length at.1.held = length-append at.1.queued at.1.held in
          let same : get_or (messages_of at.1) place.0 place.1 ≡ message = get_or_append_left at.1.queued at.1.held place.1 place.0 low in
          sym (not_sent m loans_here q orphan there at.0 at.1 (was_there pid m (λ k. true) loans_here at.0 at.1 at.2) place.0 place.1 (omega arith)
          (ap (is_of_number orphan.number) same ∙ parts.0) pid)
          ∙ (ap (is_sent_from pid) same ∙ parts.1)

      go : (b : Bool) → unqueued pid m orphan.number ≡ b → b ≡ false
      go false e = refl
      go true e = absurd (false≢true (because e))

  never_none : (o : Option Orphan) (orphan : Orphan) → option_or o (Some orphan) ≢ None
  never_none None orphan e = none-some orphan (sym e)
  never_none (Some x) orphan e = none-some x (sym e)

  its_message : (q : Place) (orphan : Orphan) → before.ledger.orphan q ≡ Some orphan → after.orphan q ≡ None → ended pid m orphan.number ≡ true
  its_message q orphan there gone = go (ended pid m orphan.number) refl
    where
      go : (b : Bool) → ended pid m orphan.number ≡ b → b ≡ true
      go true e = refl
      go false e =
          absurd (never_none (arisen pid m q) orphan
          (sym (orphan_now q
          ∙ (dead_orphan pid m q
          ∙ (ap (λ o. option_or (arisen pid m q) (orphan_but (unqueued pid m) (orphan_but (ended pid m) o))) there
          ∙ (ap (λ a. option_or (arisen pid m q) (orphan_but (unqueued pid m) (if a then None else Some orphan))) e
          ∙ ap (λ b. option_or (arisen pid m q) (if b then None else Some orphan)) (not_queued q orphan there)))))
          ∙ gone))

  -- ---- all

  abbrev Comes : PageName → Type 0
  Comes new = ((old : PageName) × (stands before.ledger old ≡ true) × Same old new) ⊎ ((back new ≡ None) × Allocated before moment new)

  comes : (new : PageName) → stands after new ≡ true → Comes new
  comes (Homed p) there = go (before.ledger.home p) refl
    where
      of_test : (page : Page) → before.ledger.home p ≡ Some page → (b : Bool) → (p.pid.0 == pid.0) ≡ b → Comes (Homed p)
      of_test page e true f = absurd (false≢true (sym (ap is_some (home_now p true f)) ∙ there))
      of_test page e false f = inl (Homed p, ap is_some e, page_stays p (stands_on p page f e))

      go : (o : Option Page) → before.ledger.home p ≡ o → Comes (Homed p)
      go None e = absurd (false≢true (sym (ap is_some (none_new p e)) ∙ there))
      go (Some page) e = of_test page e (p.pid.0 == pid.0) refl
  comes (Orphaned q) there = go (after.orphan q) refl there
    where
      from : (orphan : Orphan) → after.orphan q ≡ Some orphan
          → (before.ledger.orphan q ≡ Some orphan) ⊎ ((home : Place) × Arises pid m q home orphan) → Comes (Orphaned q)
      from orphan e (inl stood) = inl (Orphaned q, ap is_some stood, orphan_stays q orphan stood e)
      from orphan e (inr (home, arises)) = inl (Homed home, ap is_some arises.was.stood, bereft q home orphan e arises)

      go : (o : Option Orphan) → after.orphan q ≡ o → is_some o ≡ true → Comes (Orphaned q)
      go None e f = absurd (false≢true f)
      go (Some orphan) e f = from orphan e (orphan_from pid m q orphan (sym (orphan_now q) ∙ e))

  goes : (old : PageName) → stands before.ledger old ≡ true → Goes old
  goes (Homed p) there = go (before.ledger.home p) refl there
    where
      of_test : (page : Page) → before.ledger.home p ≡ Some page → (b : Bool) → (p.pid.0 == pid.0) ≡ b → Goes (Homed p)
      of_test page e true f = dead_page p page e (eqb-true p.pid.0 pid.0 f) (home_now p true f)
      of_test page e false f =
          let on : StandsOn p = stands_on p page f e in
          inl (Homed p, ap is_some on.there, page_stays p on)

      go : (o : Option Page) → before.ledger.home p ≡ o → is_some o ≡ true → Goes (Homed p)
      go None e f = absurd (false≢true f)
      go (Some page) e f = of_test page e (p.pid.0 == pid.0) refl
  goes (Orphaned q) there = go (before.ledger.orphan q) refl there
    where
      from : (orphan now : Orphan) → before.ledger.orphan q ≡ Some orphan → after.orphan q ≡ Some now
          → (before.ledger.orphan q ≡ Some now) ⊎ ((home : Place) × Arises pid m q home now) → Goes (Orphaned q)
      from orphan now e f (inl stood) = inl (Orphaned q, ap is_some f, orphan_stays q now stood f)
      from orphan now e f (inr (home, arises)) = absurd (none-some orphan (sym (none_before q home now f arises) ∙ e))

      of_after : (orphan : Orphan) → before.ledger.orphan q ≡ Some orphan → (o : Option Orphan) → after.orphan q ≡ o → Goes (Orphaned q)
      of_after orphan e None f =
          inr (
            ap (λ o. orphan_name o q) f,
            GivenUp q orphan e f
                (orphan_ended before cursor reserved h moment pid (own pid m) of_process server_gone q orphan e (its_message q orphan e f)),
          )
      of_after orphan e (Some now) f = from orphan now e f (orphan_from pid m q now (sym (orphan_now q) ∙ f))

      go : (o : Option Orphan) → before.ledger.orphan q ≡ o → is_some o ≡ true → Goes (Orphaned q)
      go None e f = absurd (false≢true f)
      go (Some orphan) e f = of_after orphan e (after.orphan q) refl

  pub death_lives : PagesLive before moment
  death_lives = record { from = back; to = forth; comes = comes; goes = goes }
