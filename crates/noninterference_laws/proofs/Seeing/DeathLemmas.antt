-- Where the pages come from that others than a group can load after a death.
use Rattle.std.proofs.Common.{◌≡◌, ℕ, ◌<◌, ◌+◌, Bool, ◌&&◌, true, false, inl, inr, length, get_or, Option, Some, None, refl, sym, ap, ◌∙◌, arith}
use Rattle.std.specs.Prelude.{◌==◌, if◌then◌else◌, not}
use Rattle.std.specs.List.{list_any}
use Rattle.std.specs.Option.{option_map}
use Rattle.std.proofs.lemmas.Bool.{and_parts, eq-eqb, eqb-true, false≢true}
use Rattle.std.proofs.lemmas.List.{get_or_append_left, length-append}
use Rattle.std.proofs.lemmas.Option.{none-some}
use Rattle.xk_base.specs.declared.ids.Number.{Number}
use Rattle.xk_base.specs.declared.ids.Pid.{Pid}
use Rattle.xk_base.specs.declared.ids.Place.{Place}
use Rattle.xk_base.specs.declared.ids.ThreadId.{ThreadId}
use Rattle.xk_base.specs.declared.messages.Message.{Message}
use Rattle.ledger_model.specs.Ledger.{Bytes, Homed, Ledger, Orphan, Orphaned, Page, PageLoan, contents_of, loan_at, loan_of}
use Rattle.ledger_model.specs.Steps.{forget}
use Rattle.machine_model.specs.Ending.Closing.{any_server, closed, is_held_from, is_message_at, is_queued_from, senders_held_gone, senders_queued_gone, servers_closed}
use Rattle.machine_model.specs.Ending.Ends.{death, end_with_last_thread, forgotten, has_threads, thread_ended}
use Rattle.machine_model.specs.Messaging.LoanSets.{end_loans, freed_but, is_lent_by, loan_but, orphan_loans, page_but}
use Rattle.machine_model.specs.Messaging.Messages.{is_of_number, is_sent_from}
use Rattle.machine_model.specs.State.Machine.{Machine, Server}
use Rattle.machine_model.specs.State.Servers.{is_server_of, messages_of}
use Rattle.machine_model.specs.State.Threads.{put_thread}
use Rattle.machine_laws.proofs.Messaging.ListedLemmas.{listed_at}
use Rattle.confidentiality_laws.proofs.Keeping.OrphanedPageLemmas.{OnlyOrphans, end_loans_orphans, forget_orphans, orphan_loans_orphans}
use Rattle.confidentiality_laws.proofs.Keeping.OrphanedPageLemmas.{orphans_then}
use Rattle.noninterference_laws.specs.Handing.{ended_over, left_over, no_pages}
use Rattle.noninterference_laws.specs.Inside.{Group}
use Rattle.noninterference_laws.proofs.Seeing.HeldLemmas.{HasLoans, at_servers, home_of_sender, some_server}
use Rattle.noninterference_laws.proofs.Seeing.LedgerStepLemmas.{Handed, Shown, Source, Sources, held_in, same_orphan, stay_sources}
use Rattle.noninterference_laws.proofs.Seeing.ShownLemmas.{loan_shows, shows, shows_home, shows_orphan, shows_page}

module _ (pid : Pid) (m : Machine) where
  abbrev pub own : ℕ → Bool
  own n = is_server_of pid (m.servers n)

  abbrev pub shut : Machine
  shut = (servers_closed pid m).machine

  abbrev pub taken : Machine
  taken = senders_queued_gone pid shut

  abbrev pub senderless : Machine
  senderless = senders_held_gone pid taken

  abbrev pub ended : Number → Bool
  ended = is_message_at own m

  abbrev pub unqueued : Number → Bool
  unqueued = is_queued_from pid shut

  abbrev pub orphaned : Number → Bool
  orphaned = is_held_from pid taken

  abbrev dead : Ledger
  dead = (death pid m).machine.ledger

  pub orphans_of_death : OnlyOrphans m.ledger (death pid m).machine.ledger
  unfolding death servers_closed closed senders_queued_gone senders_held_gone forgotten
  orphans_of_death =
      orphans_then m.ledger shut.ledger (forgotten pid senderless).ledger (end_loans_orphans ended m.ledger)
      (orphans_then shut.ledger taken.ledger (forgotten pid senderless).ledger (end_loans_orphans unqueued shut.ledger)
      (orphans_then taken.ledger senderless.ledger (forgotten pid senderless).ledger
      (orphan_loans_orphans taken.processes orphaned taken.ledger)
      (forget_orphans pid senderless.ledger)))

  module _ (group : Group) (h : HasLoans m) where
    -- what is on loan to its servers it holds
    pub own_held : (p : Place) (loan : PageLoan) → loan_at m.ledger p ≡ Some loan → ended loan.number ≡ true → loan.holder.pid.0 ≡ pid.0
    own_held p loan there e =
        let at = at_servers m h own p loan there e in
        ap (λ (x : Pid). x.0) at.4 ∙ eqb-true at.1.pid.0 pid.0 (sym (ap (is_server_of pid) at.2) ∙ at.3)

    still_there : (n : ℕ) (server : Server) (b : Bool) → (if b then None else m.servers n) ≡ Some server → m.servers n ≡ Some server
    still_there n server true e = absurd (none-some server e)
    still_there n server false e = e

    pub was_there : (n : ℕ) (server : Server) → shut.servers n ≡ Some server → m.servers n ≡ Some server
    unfolding servers_closed closed
    was_there n server e = still_there n server (own n) e

    -- what is on loan by messages that it has queued is of its pages
    pub queued_home : (p : Place) (loan : PageLoan) → loan_at m.ledger p ≡ Some loan → unqueued loan.number ≡ true → p.pid.0 ≡ pid.0
    queued_home p loan there e =
        let at = some_server shut (λ n server. list_any (λ x. is_of_number loan.number x && is_sent_from pid x) server.queued) e in
        let place = listed_at (λ x. is_of_number loan.number x && is_sent_from pid x) at.1.queued at.3 in
        let message : Message = get_or at.1.queued place.0 place.1 in
        let parts = and_parts (is_of_number loan.number message) (is_sent_from pid message) place.3 in
        let low : place.0 < length at.1.queued = place.2 in
        let long : length (messages_of at.1) ≡ length at.1.queued + length at.1.held = length-append at.1.queued at.1.held in
        let same : get_or (messages_of at.1) place.0 place.1 ≡ message = get_or_append_left at.1.queued at.1.held place.1 place.0 low in
        home_of_sender m h p loan there at.0 at.1 (was_there at.0 at.1 at.2) place.0 place.1 (omega arith)
        (ap (is_of_number loan.number) same ∙ parts.0) pid (ap (is_sent_from pid) same ∙ parts.1)

    -- ---- homes

    abbrev left_page : Bool → Option Page → Option Page
    left_page b o = if b then None else page_but orphaned (option_map (freed_but unqueued) (option_map (freed_but ended) o))

    abbrev twice : Page → Page
    twice page = freed_but unqueued (freed_but ended page)

    home_is : (p : Place) → (death pid m).machine.ledger.home p ≡ left_page (p.pid.0 == pid.0) (m.ledger.home p)
    unfolding death servers_closed closed senders_queued_gone senders_held_gone forgotten forget orphan_loans end_loans
    home_is p = refl

    -- a loan that went is one of those that ended
    went : (p : Place) → (p.pid.0 == pid.0) ≡ false → (o : Option PageLoan) → loan_at m.ledger p ≡ o
        → shows_home group p (loan_but unqueued (loan_but ended o)) ≡ true → shows_home group p o ≡ false → is_lent_by ended o ≡ true
    went p apart None there s hidden = absurd (false≢true (sym hidden ∙ s))
    went p apart (Some loan) there s hidden = go (ended loan.number) (unqueued loan.number) refl refl s
      where
        go : (a b : Bool) → ended loan.number ≡ a → unqueued loan.number ≡ b
            → shows_home group p (loan_but unqueued (if a then None else Some loan)) ≡ true → ended loan.number ≡ true
        go true b q r t = q
        go false true q r t =
            absurd (false≢true (sym apart ∙ eq-eqb p.pid.0 pid.0 (queued_home p loan there r)))
        go false false q r t =
            absurd (false≢true (sym hidden ∙ (sym (ap (λ c. shows_home group p (if c then None else Some loan)) r) ∙ t)))

    home_source : (p : Place) → shows group (death pid m).machine.ledger (Homed p) ≡ true
        → Source group pid (left_over m pid) m.ledger (death pid m).machine.ledger (Homed p)
    home_source p s =
        go (p.pid.0 == pid.0) (m.ledger.home p) refl refl (sym (ap (shows_page group p) (home_is p)) ∙ s)
      where
        of_page : (page : Page) → m.ledger.home p ≡ Some page → (p.pid.0 == pid.0) ≡ false → dead.home p ≡ Some (twice page)
            → Source group pid (left_over m pid) m.ledger dead (Homed p)
        of_page page there apart is = hidden (shows group m.ledger (Homed p)) refl
          where
            holds : contents_of dead (Homed p) ≡ contents_of m.ledger (Homed p)
            holds = ap (option_map held_in) is ∙ sym (ap (option_map held_in) there)

            lent : shows group m.ledger (Homed p) ≡ false → is_lent_by ended (loan_at m.ledger p) ≡ true
            lent f =
                ap (is_lent_by ended) (ap loan_of there)
                ∙ went p apart page.loan (ap loan_of there) (sym (ap (shows_page group p) is) ∙ s) (sym (ap (shows_page group p) there) ∙ f)

            lent_shows : (o : Option PageLoan) → loan_at m.ledger p ≡ o → is_lent_by ended o ≡ true → group pid.0 ≡ false
                → shows group m.ledger (Homed p) ≡ true
            lent_shows None e f other = absurd (false≢true f)
            lent_shows (Some loan) e f other = loan_shows group p (m.ledger.home p) loan e (ap group (own_held p loan e f) ∙ other)

            hidden : (b : Bool) → shows group m.ledger (Homed p) ≡ b → Source group pid (left_over m pid) m.ledger dead (Homed p)
            hidden true q = Shown (Homed p) q holds
            hidden false q = Handed q (Homed p) (lent q) (lent_shows (loan_at m.ledger p) refl (lent q)) holds

        of_test : (page : Page) → m.ledger.home p ≡ Some page → (p.pid.0 == pid.0) ≡ false → (c : Bool) → is_lent_by orphaned (twice page).loan ≡ c
            → shows_page group p (if c then None else Some (twice page)) ≡ true → Source group pid (left_over m pid) m.ledger dead (Homed p)
        of_test page there apart true q t = absurd (false≢true t)
        of_test page there apart false q t =
            of_page page there apart
            (home_is p ∙ ((λ i. left_page (apart i) (there i)) ∙ ap (λ c. if c then None else Some (twice page)) q))

        go : (b : Bool) (o : Option Page) → (p.pid.0 == pid.0) ≡ b → m.ledger.home p ≡ o → shows_page group p (left_page b o) ≡ true
            → Source group pid (left_over m pid) m.ledger dead (Homed p)
        go true o q r t = absurd (false≢true t)
        go false None q r t = absurd (false≢true t)
        go false (Some page) q r t = of_test page r q (is_lent_by orphaned (twice page).loan) refl t

    -- ---- orphans

    not_true : (b : Bool) → not b ≡ true → b ≡ false
    not_true false e = refl
    not_true true e = absurd (false≢true e)

    orphan_source : (q : Place) → shows group (death pid m).machine.ledger (Orphaned q) ≡ true
        → Source group pid (left_over m pid) m.ledger (death pid m).machine.ledger (Orphaned q)
    orphan_source q s = go ((death pid m).machine.ledger.orphan q) refl s
      where
        go : (o : Option Orphan) → (death pid m).machine.ledger.orphan q ≡ o → shows_orphan group q o ≡ true
            → Source group pid (left_over m pid) m.ledger (death pid m).machine.ledger (Orphaned q)
        go None e t = absurd (false≢true t)
        go (Some orphan) e t = elim (orphans_of_death.orphans q orphan e) [
          | inl stood ↦ same_orphan group pid (left_over m pid) m.ledger (death pid m).machine.ledger q (e ∙ sym stood) s
          | inr was ↦
              Shown (Homed was.0)
              (loan_shows group was.0 (m.ledger.home was.0) was.1.loan (ap loan_of was.1.stood ∙ was.1.lent)
              (ap (λ (x : Place). group x.pid.0) was.1.held ∙ not_true (group q.pid.0) t))
              (ap (option_map (λ (x : Orphan). Bytes x.bytes)) e ∙ (ap (λ c. Some c) (sym was.1.same) ∙ sym (ap (option_map held_in) was.1.stood)))
        ]

    pub death_sources : Sources group pid (left_over m pid) m.ledger (death pid m).machine.ledger
    death_sources (Homed p) s = home_source p s
    death_sources (Orphaned q) s = orphan_source q s

-- ---- the end of a thread

last_sources : (group : Group) (others : Bool) (pid : Pid) (m : Machine) → HasLoans m
    → Sources group pid (if others then no_pages else left_over m pid) m.ledger (end_with_last_thread others pid m).machine.ledger
last_sources group true pid m h = stay_sources group pid no_pages m.ledger
last_sources group false pid m h = death_sources pid m group h

pub ended_sources : (group : Group) (who : ThreadId) (a0 : ℕ) (m : Machine) → HasLoans m
    → Sources group who.pid (ended_over m who) m.ledger (thread_ended who a0 m).machine.ledger
unfolding thread_ended any_server
ended_sources group who a0 m h =
    last_sources group (has_threads (put_thread who None m) who.pid) who.pid (put_thread who None m)
    (record { lawful = h.lawful; loans = h.loans; numbers = h.numbers })
