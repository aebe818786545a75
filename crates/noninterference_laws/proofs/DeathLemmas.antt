-- What the death of a process makes of all that is another's.
use Rattle.std.proofs.Common.{◌≡◌, ◌≢◌, ℕ, ◌+◌, ◌<◌, Bool, ◌&&◌, true, false, inl, inr, length, Option, Some, None, refl, sym, ap, ◌∙◌, arith, get_or}
use Rattle.std.specs.Prelude.{◌==◌, if◌then◌else◌}
use Rattle.std.specs.List.{list_any}
use Rattle.std.specs.Option.{option_and_then, option_map, option_or}
use Rattle.std.proofs.lemmas.Bool.{and_parts, eq-eqb, eqb-true, false≢true}
use Rattle.std.proofs.lemmas.List.{get_or-append-add, get_or_append_left, length-append}
use Rattle.std.proofs.lemmas.Option.{none-some, same_Some}
use Rattle.xk_base.specs.declared.ids.Number.{Number}
use Rattle.xk_base.specs.declared.ids.Pid.{Pid}
use Rattle.xk_base.specs.declared.ids.Place.{Place}
use Rattle.xk_base.specs.declared.ids.ThreadId.{ThreadId}
use Rattle.xk_base.specs.declared.messages.Message.{Message}
use Rattle.ledger_model.specs.Ledger.{Orphan, Page, PageLoan, loan_at, loan_of}
use Rattle.ledger_model.specs.Reach.{lender_of}
use Rattle.ledger_model.specs.Steps.{forget}
use Rattle.machine_model.specs.Ending.Closing.{any_server, closed, senders_held_gone, senders_queued_gone, servers_closed, with_senderless_from, without_queued_from}
use Rattle.machine_model.specs.Ending.Ends.{dead_process, death, forgotten}
use Rattle.machine_model.specs.Messaging.LoanSets.{end_loans, freed_but, loan_but, orphan_but, orphan_loans, orphan_of_page, page_but}
use Rattle.machine_model.specs.Messaging.Messages.{is_of_number, is_sent_from}
use Rattle.machine_model.specs.Runs.Matched.{Matched, is_living}
use Rattle.machine_model.specs.State.Machine.{Machine, Reservation, Server, Thread}
use Rattle.machine_model.specs.State.Servers.{is_server_of, messages_of}
use Rattle.machine_laws.proofs.Messaging.ListedLemmas.{listed_at}
use Rattle.noninterference_laws.proofs.Seeing.DeathLemmas.{ended, orphaned, orphans_of_death, own_held, queued_home, shut, taken, unqueued}
use Rattle.noninterference_laws.proofs.Seeing.DeathLemmas.{was_there}
use Rattle.noninterference_laws.proofs.Seeing.HeldLemmas.{HasLoans, has_loans, home_of_sender, some_server}
use Rattle.noninterference_laws.specs.Fates.{Arises, Doing, HomeFate, LoanEnds, Loses, MadeCall, OrphanFate, OrphanStays, Own, PageStays}
use Rattle.noninterference_laws.specs.Fates.{ServerFate, ServerStays}
use Rattle.noninterference_laws.proofs.AnswerLemmas.{unserved_why}
use Rattle.noninterference_laws.proofs.OrphanLemmas.{at_servers_of, not_sent}
use Rattle.noninterference_laws.proofs.OtherLemmas.{apart_pid, same_pid, server_pid}
use Rattle.noninterference_laws.proofs.PageLemmas.{KeepsPages, stands_there}
use Rattle.noninterference_laws.proofs.PlainPartLemmas.{KeepsClaims, KeepsPending, KeepsProcesses, forgotten_claim, forgotten_pending}
use Rattle.noninterference_laws.proofs.PlainPartLemmas.{put_process}
use Rattle.noninterference_laws.proofs.ServerLemmas.{KeepsServers, owned}
use Rattle.noninterference_laws.proofs.ThreadLemmas.{KeepsThreads}

-- The process dies in a state that is like the one before, but for the cursor, the reservation and its own threads.
module _ (m : Machine) (h : Matched m) (pid : Pid) (cursor : ThreadId) (reserved : Option Reservation) (threads : ThreadId → Option Thread)
    (others : (id : ThreadId) → id.pid ≢ pid → threads id ≡ m.threads id) (call : Option MadeCall) where
  abbrev pub here : Machine
  here = record m { cursor = cursor; reserved = reserved; threads = threads }

  abbrev doing : Doing
  doing = record { pid = pid; call = call; before = m }

  abbrev left : Machine
  left = (death pid here).machine

  loans_here : HasLoans here
  loans_here = let at = has_loans m h in record { lawful = at.lawful; loans = at.loans; numbers = at.numbers }

  -- ---- processes and claims

  pub dead_processes : KeepsProcesses m pid left
  unfolding death servers_closed closed senders_queued_gone senders_held_gone forgotten
  dead_processes = put_process m pid dead_process

  pub dead_claims : KeepsClaims m pid left
  unfolding death servers_closed closed senders_queued_gone senders_held_gone forgotten
  dead_claims = forgotten_claim m pid

  pub dead_pending : KeepsPending m pid left
  unfolding death servers_closed closed senders_queued_gone senders_held_gone forgotten
  dead_pending = forgotten_pending m pid

  not_living : is_living left pid ≡ false
  unfolding death servers_closed closed senders_queued_gone senders_held_gone forgotten
  not_living = ap (λ b. (if b then dead_process else m.process pid.0).alive) (eq-eqb pid.0 pid.0 refl)

  -- ---- servers

  abbrev of_dead : Option Server → Option Server
  of_dead o = option_map (with_senderless_from pid) (option_map (without_queued_from pid) o)

  server_there : (n : ℕ) (o : Option Server) → m.servers n ≡ o → ServerFate doing (is_living left pid) n (of_dead o)
  server_there n None e = ServerStays (sym e)
  server_there n (Some server) e = Loses server not_living e refl

  pub dead_servers : KeepsServers doing left
  unfolding death servers_closed closed senders_queued_gone senders_held_gone forgotten
  dead_servers n = go (is_server_of pid (m.servers n)) refl
    where
      go : (b : Bool) → is_server_of pid (m.servers n) ≡ b
          → ServerFate doing (is_living left pid) n (of_dead (if b then None else m.servers n))
      go true e = Own (owned pid (m.servers n) e) tt
      go false e = server_there n (m.servers n) refl

  -- ---- threads

  pub dead_threads : KeepsThreads doing (death pid here)
  unfolding death servers_closed closed senders_queued_gone senders_held_gone forgotten any_server
  dead_threads = record {
    same = λ id other. ap (λ b. if b then None else threads id) (apart_pid id.pid pid other) ∙ others id other;
    why = λ id other.
        unserved_why doing left.servers id (λ n. is_server_of pid (m.servers n))
        (λ n server e live. server_pid pid server (sym (ap (is_server_of pid) live) ∙ e))
        (λ n e. ap (λ b. of_dead (if b then None else m.servers n)) e);
  }

  -- ---- pages

  abbrev its_own : Number → Bool
  its_own = ended pid here

  abbrev its_queued : Number → Bool
  its_queued = unqueued pid here

  abbrev its_held : Number → Bool
  its_held = orphaned pid here

  -- a server that is left after the queues are cleared was there, and held the same
  was_holding : (n : ℕ) (server : Server) → (taken pid here).servers n ≡ Some server
      → (old : Server) × (m.servers n ≡ Some old) × (old.held ≡ server.held)
  unfolding senders_queued_gone
  was_holding n server e = go ((shut pid here).servers n) refl e
    where
      go : (o : Option Server) → (shut pid here).servers n ≡ o → option_map (without_queued_from pid) o ≡ Some server
          → (old : Server) × (m.servers n ≡ Some old) × (old.held ≡ server.held)
      go None q r = absurd (none-some server r)
      go (Some old) q r =
          (old, was_there pid here (λ k. true) loans_here n old q, ap (λ (x : Server). x.held) (same_Some (without_queued_from pid old) server r))

  -- what is on loan by messages of it that are held is of its pages
  held_home : (p : Place) (loan : PageLoan) → loan_at m.ledger p ≡ Some loan → its_held loan.number ≡ true → p.pid.0 ≡ pid.0
  held_home p loan there e =
      let test : Message → Bool = λ x. is_of_number loan.number x && is_sent_from pid x in
      let at = some_server (taken pid here) (λ n server. list_any test server.held) e in
      let old = was_holding at.0 at.1 at.2 in
      let place = listed_at test old.0.held (ap (list_any test) old.2 ∙ at.3) in
      let message : Message = get_or old.0.held place.0 place.1 in
      let parts = and_parts (is_of_number loan.number message) (is_sent_from pid message) place.3 in
      let low : place.0 < length old.0.held = place.2 in
      let long : length (messages_of old.0) ≡ length old.0.queued + length old.0.held = length-append old.0.queued old.0.held in
      let same : get_or (messages_of old.0) (length old.0.queued + place.0) place.1 ≡ message =
      get_or-append-add old.0.queued old.0.held place.0 place.1 in
      home_of_sender here loans_here p loan there at.0 old.0 old.1 (length old.0.queued + place.0) place.1 (omega arith)
      (ap (is_of_number loan.number) same ∙ parts.0) pid (ap (is_sent_from pid) same ∙ parts.1)

  abbrev left_page : Bool → Option Page → Option Page
  left_page b o = if b then None else page_but its_held (option_map (freed_but its_queued) (option_map (freed_but its_own) o))

  home_is : (p : Place) → left.ledger.home p ≡ left_page (p.pid.0 == pid.0) (m.ledger.home p)
  unfolding death servers_closed closed senders_queued_gone senders_held_gone forgotten forget orphan_loans end_loans
  home_is p = refl

  module _ (p : Place) (other : p.pid ≢ pid) where
    apart : (p.pid.0 == pid.0) ≡ false
    apart = apart_pid p.pid pid other

    page_fate : (page : Page) → m.ledger.home p ≡ Some page → HomeFate pid m.ledger left.ledger p
    page_fate page there = go page.loan refl
      where
        with_its : Option PageLoan → Option Page
        with_its o = page_but its_held (Some (record page { loan = loan_but its_queued (loan_but its_own o) }))

        now : (o : Option PageLoan) → page.loan ≡ o → left.ledger.home p ≡ with_its o
        now o e = home_is p ∙ ((λ i. left_page (apart i) (there i)) ∙ ap with_its e)

        as_it_was : (o : Option PageLoan) → page.loan ≡ o → Some (record page { loan = o }) ≡ m.ledger.home p
        as_it_was o e = ap (λ x. Some (record page { loan = x })) (sym e) ∙ sym there

        of_tests : (loan : PageLoan) → page.loan ≡ Some loan → (a b c : Bool) → its_own loan.number ≡ a → its_queued loan.number ≡ b
            → its_held loan.number ≡ c → HomeFate pid m.ledger left.ledger p
        of_tests loan lent true b c q r s =
            LoanEnds page loan there lent
            (same_pid loan.holder.pid pid (own_held pid here (λ k. true) loans_here p loan (ap loan_of there ∙ lent) q))
            (now (Some loan) lent
            ∙ ap (λ a. page_but its_held (Some (record page { loan = loan_but its_queued (if a then None else Some loan) }))) q)
        of_tests loan lent false true c q r s =
            absurd (other (same_pid p.pid pid (queued_home pid here (λ k. true) loans_here p loan (ap loan_of there ∙ lent) r)))
        of_tests loan lent false false true q r s =
            absurd (other (same_pid p.pid pid (held_home p loan (ap loan_of there ∙ lent) s)))
        of_tests loan lent false false false q r s =
            PageStays
            (now (Some loan) lent
            ∙ (ap (λ a. page_but its_held (Some (record page { loan = loan_but its_queued (if a then None else Some loan) }))) q
            ∙ (ap (λ b. page_but its_held (Some (record page { loan = if b then None else Some loan }))) r
            ∙ (ap (λ c. if c then None else Some (record page { loan = Some loan })) s ∙ as_it_was (Some loan) lent))))

        go : (o : Option PageLoan) → page.loan ≡ o → HomeFate pid m.ledger left.ledger p
        go None e = PageStays (now None e ∙ as_it_was None e)
        go (Some loan) e = of_tests loan e (its_own loan.number) (its_queued loan.number) (its_held loan.number) refl refl refl

    pub home_fate : HomeFate pid m.ledger left.ledger p
    home_fate = go (m.ledger.home p) refl
      where
        go : (o : Option Page) → m.ledger.home p ≡ o → HomeFate pid m.ledger left.ledger p
        go None e = PageStays (home_is p ∙ ((λ i. left_page (apart i) (e i)) ∙ sym e))
        go (Some page) e = page_fate page e

  -- ---- orphans

  -- an orphan's message isn't of the process's sending
  not_queued : (q : Place) (orphan : Orphan) → m.ledger.orphan q ≡ Some orphan → its_queued orphan.number ≡ false
  not_queued q orphan there = go (its_queued orphan.number) refl
    where
      because : its_queued orphan.number ≡ true → false ≡ true
      because e =
          let test = λ (x : Message). is_of_number orphan.number x && is_sent_from pid x in
          let at = some_server (shut pid here) (λ n server. list_any test server.queued) e in
          let place = listed_at test at.1.queued at.3 in
          let message : Message = get_or at.1.queued place.0 place.1 in
          let parts = and_parts (is_of_number orphan.number message) (is_sent_from pid message) place.3 in
          let low : place.0 < length at.1.queued = place.2 in
          let long : length (messages_of at.1) ≡ length at.1.queued + length at.1.held = length-append at.1.queued at.1.held in
          let same : get_or (messages_of at.1) place.0 place.1 ≡ message = get_or_append_left at.1.queued at.1.held place.1 place.0 low in
          sym (not_sent here loans_here q orphan there at.0 at.1 (was_there pid here (λ k. true) loans_here at.0 at.1 at.2) place.0 place.1 (omega arith)
          (ap (is_of_number orphan.number) same ∙ parts.0) pid)
          ∙ (ap (is_sent_from pid) same ∙ parts.1)

      go : (b : Bool) → its_queued orphan.number ≡ b → b ≡ false
      go false e = refl
      go true e = absurd (false≢true (because e))

  module _ (q : Place) (other : q.pid ≢ pid) where
    not_own : (orphan : Orphan) → m.ledger.orphan q ≡ Some orphan → its_own orphan.number ≡ false
    not_own orphan there = go (its_own orphan.number) refl
      where
        go : (b : Bool) → its_own orphan.number ≡ b → b ≡ false
        go false e = refl
        go true e =
            let at = at_servers_of here loans_here q orphan there (λ n. is_server_of pid (m.servers n)) e in
            absurd (other (sym at.4 ∙ server_pid pid at.1 (sym (ap (is_server_of pid) at.2) ∙ at.3)))

    abbrev arisen : Option Orphan
    arisen = option_and_then (orphan_of_page its_held) (option_and_then (taken pid here).ledger.home (lender_of m.processes (taken pid here).ledger q))

    orphan_is : left.ledger.orphan q ≡ option_or arisen (orphan_but its_queued (orphan_but its_own (m.ledger.orphan q)))
    unfolding death servers_closed closed senders_queued_gone senders_held_gone forgotten forget orphan_loans end_loans
    orphan_is = refl

    never_none : (o : Option Orphan) (orphan : Orphan) → option_or o (Some orphan) ≢ None
    never_none None orphan e = none-some orphan (sym e)
    never_none (Some x) orphan e = none-some x (sym e)

    -- an orphan that stood doesn't go
    none_before : left.ledger.orphan q ≡ None → (o : Option Orphan) → m.ledger.orphan q ≡ o → o ≡ None
    none_before gone None e = refl
    none_before gone (Some orphan) e =
        absurd (never_none arisen orphan
        (sym (orphan_is
        ∙ (ap (λ o. option_or arisen (orphan_but its_queued (orphan_but its_own o))) e
        ∙ (ap (λ a. option_or arisen (orphan_but its_queued (if a then None else Some orphan))) (not_own orphan e)
        ∙ ap (λ b. option_or arisen (if b then None else Some orphan)) (not_queued q orphan e))))
        ∙ gone))

    pub orphan_fate : OrphanFate pid m.ledger left.ledger q
    orphan_fate = go (left.ledger.orphan q) refl
      where
        own_page : (home : Place) (page : Page) → m.ledger.home home ≡ Some page → left.ledger.home home ≡ None → (b : Bool) → (home.pid.0 == pid.0) ≡ b
            → home.pid ≡ pid
        own_page home page there gone true e = same_pid home.pid pid (eqb-true home.pid.0 pid.0 e)
        own_page home page there gone false e =
            absurd (stands_there pid m.ledger left.ledger home page
            (home_fate home (λ same. false≢true (sym e ∙ eq-eqb home.pid.0 pid.0 (ap (λ (x : Pid). x.0) same)))) there gone)

        go : (o : Option Orphan) → left.ledger.orphan q ≡ o → OrphanFate pid m.ledger left.ledger q
        go None e = OrphanStays (e ∙ sym (none_before e (m.ledger.orphan q) refl))
        go (Some orphan) e = elim ((orphans_of_death pid here).orphans q orphan e) [
          | inl stood ↦ OrphanStays (e ∙ sym stood)
          | inr was ↦
              Arises was.0 orphan
              (ap m.ledger.orphan (sym was.1.held)
              ∙ h.body.ledger.lawful.holder_no_orphan was.0 was.1.loan (ap loan_of was.1.stood ∙ was.1.lent))
              (own_page was.0 was.1.page was.1.stood was.1.left (was.0.pid.0 == pid.0) refl) e was.1
        ]

  pub dead_pages : KeepsPages pid m.ledger left.ledger
  dead_pages = record { homes = home_fate; orphans = orphan_fate }
