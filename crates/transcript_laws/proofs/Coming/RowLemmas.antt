-- What each served call lets come to which place.
use Rattle.std.proofs.Common.{◌≡◌, ◌≢◌, ℕ, ◌⊎◌, inl, inr, Bool, true, false, List, [], ◌∷◌, ◌++◌, Option, Some, None, is_none, is_some, refl, sym, ap, ◌∙◌, subst}
use Rattle.std.specs.Prelude.{◌==◌, ◌/◌, ◌-◌, ◌+◌, ◌&&◌, ◌||◌, if◌then◌else◌, unwrap_or}
use Rattle.std.specs.Option.{option_and_then, option_map, option_map_or}
use Rattle.std.proofs.lemmas.Bool.{and_parts, eq-eqb, false≢true, or_parts}
use Rattle.std.proofs.lemmas.Option.{none-some, same_Some}
use Rattle.xk_base.specs.declared.errors.XousError.TheVariants.{ServerQueueFull}
use Rattle.xk_base.specs.declared.ids.Number.{Number}
use Rattle.xk_base.specs.declared.ids.Pid.{Pid}
use Rattle.xk_base.specs.declared.ids.Place.{Place}
use Rattle.xk_base.specs.declared.ids.Serial.{Serial}
use Rattle.xk_base.specs.declared.ids.ThreadId.{ThreadId}
use Rattle.xk_base.specs.declared.ids.Vpn.{Vpn}
use Rattle.xk_base.specs.declared.limits.TheConstants.{CONSOLE_ADDRESS, PAGE_SIZE}
use Rattle.xk_base.specs.declared.messages.Message.{Message}
use Rattle.xk_base.specs.declared.messages.MsgKind.{MsgKind}
use Rattle.xk_base.specs.declared.messages.MsgKind.TheVariants.{BlockingScalar, Lend, LendMut, Move, Scalar}
use Rattle.xk_base.specs.declared.pages.LoanKind.{LoanKind}
use Rattle.xk_base.specs.declared.pages.LoanKind.TheVariants.{Exclusive, Shared}
use Rattle.xk_base.specs.declared.pages.Right.{Right}
use Rattle.syscall_codec.specs.CallNumbers.{forward_message}
use Rattle.syscall_codec.specs.CallWords.{call_number, forward_cid, heap_bytes, map_flags, map_phys, map_size, map_virt, range_address}
use Rattle.syscall_codec.specs.CallWords.{range_flags, range_size, send_address, send_cid}
use Rattle.syscall_codec.specs.Flags.{right_of}
use Rattle.xk_base.specs.Calls.Kinds.{is_answered}
use Rattle.syscall_codec.specs.ReplyWords.{plain_words}
use Rattle.ledger_model.specs.Conditions.{is_lent}
use Rattle.ledger_model.specs.Ledger.{Bytes, Console, Ledger, Page, PageLoan, loan_at, loan_of}
use Rattle.ledger_model.specs.Loans.{loan_of_run, loans, of_number, same_number}
use Rattle.ledger_model.specs.Places.{in_run, moved, same_place}
use Rattle.ledger_model.specs.RunTests.{any_console, any_lacks, any_not_sent, any_on_loan}
use Rattle.ledger_model.specs.Steps.{give, lend, make, make_console, new_page, pass, passed, passed_loan, with_loan, zero_page}
use Rattle.ledger_model.proofs.LedgerLemmas.{same_number-true}
use Rattle.ledger_model.proofs.PlaceLemmas.{in_run-true, moved-in_run, same_place-true}
use Rattle.ledger_model.proofs.Stepping.GivingLemmas.{give_left}
use Rattle.machine_model.specs.Calling.Calls.{call}
use Rattle.machine_model.specs.Calling.MemoryCalls.{caller_place, heap_of, heap_start, map_address, mapped_ledger}
use Rattle.machine_model.specs.Calling.ServerCalls.{named_server, named_sid}
use Rattle.machine_model.specs.Ending.Closing.{closed, is_message_at, servers_closed}
use Rattle.machine_model.specs.Ending.Ends.{death}
use Rattle.machine_model.specs.Messaging.ForwardCalls.{are_one_server, forward_refusals, held_place, is_passable_of, next_arrival, passable, passed_from, passed_number, passed_place, passed_to, with_first}
use Rattle.machine_model.specs.Messaging.Messages.{carries_pages, is_lend, is_lend_of, loan_kind, new_message, new_number}
use Rattle.machine_model.specs.Messaging.LoanSets.{end_loans}
use Rattle.machine_model.specs.Messaging.ReturnCalls.{named_number}
use Rattle.machine_model.specs.Messaging.SendCalls.{arrival, arrival_refusals, is_full_for, named_kind, send_refusals, sender_left, sends_lend_mut, sends_pages, sent_pages, sent_place}
use Rattle.machine_model.specs.Runs.Isolation.{IsNewPage}
use Rattle.machine_model.specs.Runs.LoanSpan.{is_send}
use Rattle.machine_model.specs.Runs.Matched.{IsMessageLent, IsOnLoan, Matched, lend_run}
use Rattle.machine_model.specs.Runs.Moments.{ByStep, Cause}
use Rattle.machine_model.specs.State.Changes.{Change}
use Rattle.machine_model.specs.State.Machine.{Machine, Server}
use Rattle.machine_model.specs.State.Order.{actor, ready_at}
use Rattle.machine_model.specs.State.Servers.{server_at}
use Rattle.machine_model.specs.State.Threads.{answer_to}
use Rattle.machine_model.specs.Stepping.Acts.{call_by, is_call_served}
use Rattle.machine_model.proofs.Matching.CountLemmas.{all_right}
use Rattle.machine_laws.proofs.Calling.RunRefusalLemmas.{run_not_lent}
use Rattle.machine_laws.proofs.Returning.GivenBackLemmas.{found_at}
use Rattle.call_effects.specs.Effects.{Sends, paged}
use Rattle.call_effects.specs.Footprints.{LedgerPart, names}
use Rattle.call_effects.specs.Rows.MessageRows.{forward_row, passed_if, sent_to_row}
use Rattle.call_effects.specs.Rows.ServerRows.{destroy_row}
use Rattle.call_effects.specs.Rows.ThreadRows.{terminate_row}
use Rattle.call_effects.specs.Verdicts.{Plan}
use Rattle.call_effects.proofs.PartLemmas.{OfChanging, of_parts}
use Rattle.machine_model.proofs.Calling.TableLemmas.{◌also◌}
use Rattle.call_effects.proofs.ServedLemmas.{OfPlan, OfServed, done}
use Rattle.confidentiality_laws.proofs.Keeping.CallLemmas.{none_hold}
use Rattle.confidentiality_laws.proofs.Keeping.DeathLemmas.{death_orphans}
use Rattle.confidentiality_laws.proofs.Keeping.MemoryCallLemmas.{HasNoHome}
use Rattle.confidentiality_laws.proofs.Keeping.SendCallLemmas.{run_free}
use Rattle.call_effects.specs.Held.{IsHeld}
use Rattle.call_effects.proofs.HeldLemmas.{is_held}
use Rattle.transcript_laws.specs.Coming.{IsLent, IsMade, IsMoved, PagesCome, is_told_place, makes_pages}
use Rattle.transcript_laws.specs.Serving.{IsForwarded, IsForwardedTo, IsSent, IsSentTo, IsServedBy}
use Rattle.transcript_laws.proofs.Coming.LedgerLemmas.{end_loan_none, end_loans_none, none_comes, only_orphans, reduce_none, remove_none}
use Rattle.transcript_laws.proofs.Coming.LedgerLemmas.{same_ledger}
use Rattle.transcript_laws.specs.CallKinds.{LeadsTo}
use Rattle.transcript_laws.proofs.CallKindLemmas.{leads_to}
use Rattle.transcript_laws.proofs.Serving.AtServerLemmas.{AreMeant, one_meant}
use Rattle.transcript_laws.proofs.Serving.ForwardRowLemmas.{lends_of, passed_to_it}
use Rattle.transcript_laws.proofs.Serving.RowLemmas.{not_cursor}
use Rattle.machine_model.specs.State.Servers.{is_full}

-- ---- where the pages of a held lend are

loans_home : (l : Ledger) (p : Place) → (loans l).home p ≡ loan_at l p
unfolding loans
loans_home l p = refl

-- a page on loan by the number of a held lend is on loan to one of the places that the lend tells
module _ (m : Machine) (h : Matched m) (test : Message → Bool) (x : Message) (at : IsHeld m test x) (lends : is_lend x.kind ≡ true)
    (sent : is_some x.sender ≡ true) where
  lent : IsMessageLent (loans m.ledger) at.server x
  lent =
      let place = found_at test at.server.held x at.found in
      subst (IsMessageLent (loans m.ledger) at.server) place.3
      (all_right (IsMessageLent (loans m.ledger) at.server) at.server.queued at.server.held (h.body.loans.lends at.serial.0 at.server at.there) place.0 place.1
      place.2)

  held_told : (p : Place) (loan : PageLoan) → loan_at m.ledger p ≡ Some loan → same_number loan.number x.number ≡ true
      → is_told_place at.server x loan.holder ≡ true
  held_told p loan e same = of_kind (loan_kind x.kind) refl
    where
      found : of_number x.number ((loans m.ledger).home p) ≡ Some loan
      found = ap (of_number x.number) (loans_home m.ledger p ∙ e) ∙ ap (λ b. if b then Some loan else None) same

      first : Place
      first = record { pid = at.server.pid; vpn = x.first }

      in_lenders : (kind : LoanKind) (lender : Place) → loan_of_run (lend_run at.server x kind (Some lender)) p ≡ Some loan
          → in_run first x.count loan.holder ≡ true
      in_lenders kind lender q = go (in_run lender x.count p) refl q
        where
          go : (b : Bool) → in_run lender x.count p ≡ b
              → (if b then Some (record { holder = moved lender first p; kind = kind; number = x.number }) else None) ≡ Some loan
              → in_run first x.count loan.holder ≡ true
          go true r f =
              subst (λ (l : PageLoan). in_run first x.count l.holder ≡ true)
              (same_Some (record { holder = moved lender first p; kind = kind; number = x.number }) loan f) (moved-in_run lender first p x.count r)
          go false r f = absurd (none-some loan f)

      by_sender : (kind : LoanKind) (o : Option ThreadId) → is_some o ≡ true → IsOnLoan (loans m.ledger) at.server x kind o
          → in_run first x.count loan.holder ≡ true
      by_sender kind None some on = absurd (false≢true some)
      by_sender kind (Some who) some on = in_lenders kind on.0 (sym (on.2.homes p) ∙ found)

      of_kind : (o : Option LoanKind) → loan_kind x.kind ≡ o → in_run first x.count loan.holder ≡ true
      of_kind None q = absurd (false≢true (ap is_some (sym q) ∙ lends))
      of_kind (Some kind) q = by_sender kind x.sender sent (lent kind q).loan

-- ---- calls

module _ (cause : Cause) (by_step : cause ≡ ByStep) (m : Machine) (h : Matched m) (ready : ready_at m m.cursor ≡ true) (w : List ℕ)
    (acts : actor m ≡ Some m.cursor) (calls : call_by m m.cursor ≡ Some w) (went : is_call_served m m.cursor w ≡ true) where
  abbrev Comes : Ledger → Type 0
  Comes after = PagesCome cause m after

  abbrev OfIt : Plan → Type 0
  OfIt plan = Comes (done m plan).machine.ledger

  abbrev served_by : (pid : Pid) → m.cursor.pid ≡ pid → IsServedBy pid w cause m
  served_by pid own = record { who = m.cursor; step = by_step; by_who = acts; of_process = own; call = calls; served = went }

  -- ---- pages that are made

  module _ (makes : makes_pages (call_number w) ≡ true) where
    made : (p : Place) (new page : Page) → m.cursor.pid ≡ p.pid → IsNewPage new → Some new ≡ Some page → IsMade p page cause m
    made p new page own is e = record {
      words = w;
      served = served_by p.pid own;
      makes = makes;
      new = subst IsNewPage (same_Some new page e) is;
    }

    -- these places get a new page
    makes_come : (places : Place → Bool) (new : Page) → IsNewPage new → new.loan ≡ None → ((p : Place) → places p ≡ true → m.cursor.pid ≡ p.pid)
        → Comes (record m.ledger { home = λ p. if places p then Some new else m.ledger.home p })
    makes_come places new is no_loan own = record {
      homes = λ p page empty e. home p page empty (places p) refl e;
      loans = λ p loan e. on_loan p loan (places p) e;
      orphans = λ q orphan e. inl (ap is_some e);
    }
      where
        home : (p : Place) (page : Page) → m.ledger.home p ≡ None → (b : Bool) → places p ≡ b → (if b then Some new else m.ledger.home p) ≡ Some page
            → IsMade p page cause m ⊎ IsMoved p page cause m (record m.ledger { home = λ q. if places q then Some new else m.ledger.home q })
        home p page empty true q e = inl (made p new page (own p q) is e)
        home p page empty false q e = absurd (none-some page (sym empty ∙ e))

        on_loan : (p : Place) (loan : PageLoan) (b : Bool) → loan_of (if b then Some new else m.ledger.home p) ≡ Some loan
            → (loan_at m.ledger p ≡ Some loan) ⊎ IsLent loan cause m
        on_loan p loan true e = absurd (none-some loan (sym no_loan ∙ e))
        on_loan p loan false e = inl e

    make_come : (first : Place) → first.pid ≡ m.cursor.pid → (n : ℕ) (right : Right) → Comes (make first n right m.ledger)
    unfolding make
    make_come first own n right =
        makes_come (in_run first n) (new_page right (Bytes zero_page)) (inl refl) refl
        (λ p e. sym own ∙ (let same : p.pid.0 ≡ first.pid.0 = (in_run-true first n p e).pid in λ i. record { 0 = sym same i }))

    maps_come : (console : Bool) (first : Place) → first.pid ≡ m.cursor.pid → (n : ℕ) (right : Right) → Comes (mapped_ledger console first n right m.ledger)
    unfolding make_console
    maps_come true first own n right =
        makes_come (λ p. same_place p first) (new_page (record { w = right.w; x = false }) Console) (inr refl) refl
        (λ p e. sym own ∙ sym (ap (λ (q : Place). q.pid) (same_place-true p first e)))
    maps_come false first own n right = make_come first own n right

  -- ---- sends

  module _ (is : is_send (call_number w) ≡ true) (live : LeadsTo m (send_cid w)) (first : Vpn) where
    abbrev from : Place
    from = caller_place m (send_address w)

    abbrev to : Place
    to = sent_place m w first

    abbrev n : ℕ
    n = sent_pages w

    -- the first place is of the server's process
    to_is : to ≡ record { pid = live.server.pid; vpn = first }
    to_is = ap at (ap (λ o. option_and_then (λ (serial : Serial). m.servers serial.0) o) live.leads ∙ live.there)
      where
        at : Option Server → Place
        at o = record { pid = option_map_or (λ (server : Server). server.pid) o m.cursor.pid; vpn = first }

    told : (p : Place) → in_run to n p ≡ true → in_run (record { pid = live.server.pid; vpn = first }) n p ≡ true
    told p e = subst (λ at. in_run at n p ≡ true) to_is e

    abbrev is_sent : (kind : MsgKind) → named_kind w ≡ Some kind → IsSentTo live.serial.0 (new_message m kind w first) cause m
    is_sent kind named = record {
      pid = m.cursor.pid;
      words = w;
      served = served_by m.cursor.pid refl;
      sends = is;
      leads = live.leads;
      kind = kind;
      named = named;
      first = first;
      is = refl;
    }

    -- a lend puts its pages on loan to places that its message tells
    lend_comes : (kind : MsgKind) (how : LoanKind) → named_kind w ≡ Some kind → is_lend kind ≡ true
        → ((p : Place) → in_run to n p ≡ true → is_told_place live.server (new_message m kind w first) p ≡ true)
        → Comes (lend from n to how (new_number m) m.ledger)
    unfolding lend
    lend_comes kind how named lends fits = record {
      homes = λ p page empty e. absurd (home p page empty (in_run from n p) e);
      loans = λ p loan e. on_loan p loan (in_run from n p) refl e;
      orphans = λ q orphan e. inl (ap is_some e);
    }
      where
        new : Place → PageLoan
        new p = record { holder = moved from to p; kind = how; number = new_number m }

        home : (p : Place) (page : Page) → m.ledger.home p ≡ None → (b : Bool)
            → (if b then option_map (with_loan (new p)) (m.ledger.home p) else m.ledger.home p) ≡ Some page → ⊥
        home p page empty true e = none-some page (sym (ap (option_map (with_loan (new p))) empty) ∙ e)
        home p page empty false e = none-some page (sym empty ∙ e)

        lent_now : (p : Place) → in_run from n p ≡ true → IsLent (new p) cause m
        lent_now p q = record {
          n = live.serial.0;
          server = live.server;
          there = live.there;
          message = new_message m kind w first;
          arrives = IsSent (is_sent kind named);
          lends = lends;
          numbered = refl;
          place = fits (moved from to p) (moved-in_run from to p n q);
        }

        of_page : (p : Place) (loan : PageLoan) → in_run from n p ≡ true → (o : Option Page) → loan_of (option_map (with_loan (new p)) o) ≡ Some loan
            → (loan_at m.ledger p ≡ Some loan) ⊎ IsLent loan cause m
        of_page p loan q None e = absurd (none-some loan e)
        of_page p loan q (Some page) e = inr (subst (λ l. IsLent l cause m) (same_Some (new p) loan e) (lent_now p q))

        on_loan : (p : Place) (loan : PageLoan) (b : Bool) → in_run from n p ≡ b
            → loan_of (if b then option_map (with_loan (new p)) (m.ledger.home p) else m.ledger.home p) ≡ Some loan
            → (loan_at m.ledger p ≡ Some loan) ⊎ IsLent loan cause m
        on_loan p loan true q e = of_page p loan q (m.ledger.home p) e
        on_loan p loan false q e = inl e

    -- a move brings its pages, of which none is on loan, to places that its message tells
    move_comes : named_kind w ≡ Some Move → HasNoHome m.ledger to n → ((p : Place) → in_run from n p ≡ true → loan_at m.ledger p ≡ None)
        → Comes (give from n to m.ledger)
    unfolding give
    move_comes named free unlent = record {
      homes = λ p page empty e. home p page empty (in_run to n p) refl e;
      loans = λ p loan e. on_loan p loan (in_run to n p) refl e;
      orphans = λ q orphan e. inl (ap is_some e);
    }
      where
        -- where the page came from is no new place
        apart : (q : Place) (page : Page) → m.ledger.home q ≡ Some page → (b : Bool) → in_run to n q ≡ b → in_run to n q ≡ false
        apart q page e true r = absurd (none-some page (sym (free q r) ∙ e))
        apart q page e false r = r

        brings : (p : Place) (page : Page) → in_run to n p ≡ true → m.ledger.home (moved to from p) ≡ Some page
            → IsMoved p page cause m (give from n to m.ledger)
        brings p page q e = record {
          n = live.serial.0;
          server = live.server;
          there = live.there;
          message = new_message m Move w first;
          sent = is_sent Move named;
          moves = refl;
          place = told p q;
          from = moved to from p;
          own = refl;
          stood = e;
          left = give_left from n to m.ledger (moved to from p) (apart (moved to from p) page e (in_run to n (moved to from p)) refl)
              (moved-in_run to from p n q);
        }

        kept : (p : Place) (page : Page) → m.ledger.home p ≡ None → (b : Bool) → (if b then None else m.ledger.home p) ≡ Some page → ⊥
        kept p page empty true e = none-some page e
        kept p page empty false e = none-some page (sym empty ∙ e)

        home : (p : Place) (page : Page) → m.ledger.home p ≡ None → (b : Bool) → in_run to n p ≡ b
            → (if b then m.ledger.home (moved to from p) else (if in_run from n p then None else m.ledger.home p)) ≡ Some page
            → IsMade p page cause m ⊎ IsMoved p page cause m (give from n to m.ledger)
        home p page empty true q e = inr (brings p page q e)
        home p page empty false q e = absurd (kept p page empty (in_run from n p) e)

        left_loan : (p : Place) (loan : PageLoan) (b : Bool) → loan_of (if b then None else m.ledger.home p) ≡ Some loan
            → (loan_at m.ledger p ≡ Some loan) ⊎ IsLent loan cause m
        left_loan p loan true e = absurd (none-some loan e)
        left_loan p loan false e = inl e

        on_loan : (p : Place) (loan : PageLoan) (b : Bool) → in_run to n p ≡ b
            → loan_of (if b then m.ledger.home (moved to from p) else (if in_run from n p then None else m.ledger.home p)) ≡ Some loan
            → (loan_at m.ledger p ≡ Some loan) ⊎ IsLent loan cause m
        on_loan p loan true q e = absurd (none-some loan (sym (unlent (moved to from p) (moved-in_run to from p n q)) ∙ e))
        on_loan p loan false q e = left_loan p loan (in_run from n p) e

    sent_comes : (o : Option MsgKind) → named_kind w ≡ o → (sends_pages w ≡ true → HasNoHome m.ledger to n)
        → (sends_pages w ≡ true → (p : Place) → in_run from n p ≡ true → loan_at m.ledger p ≡ None)
        → Comes (paged (Sends (unwrap_or o Scalar) from n to (new_number m)) m.ledger)
    sent_comes None q free unlent = none_comes cause m m.ledger (same_ledger m.ledger)
    sent_comes (Some Scalar) q free unlent = none_comes cause m m.ledger (same_ledger m.ledger)
    sent_comes (Some BlockingScalar) q free unlent = none_comes cause m m.ledger (same_ledger m.ledger)
    sent_comes (Some LendMut) q free unlent = lend_comes LendMut Exclusive q refl told
    sent_comes (Some Lend) q free unlent = lend_comes Lend Shared q refl told
    sent_comes (Some Move) q free unlent =
        let carries : sends_pages w ≡ true = ap (λ o. option_map_or carries_pages o false) q in
        move_comes q (free carries) (unlent carries)

  -- ---- the tests of a send

  waits_ledger : (b : Bool) (number : Number) (x : Machine) → (sender_left b number x).ledger ≡ x.ledger
  waits_ledger true number x = refl
  waits_ledger false number x = refl

  found_free : sends_pages w ≡ true → sends_pages w && is_none (arrival m w) ≡ false
      → HasNoHome m.ledger (sent_place m w (unwrap_or (arrival m w) (record { 0 = 0 }))) (sent_pages w)
  unfolding arrival
  found_free carries e = run_free m w (server_at m (send_cid w)) refl (arrival m w) refl (sym (ap (λ b. b && is_none (arrival m w)) carries) ∙ e)

  not_lent : (o : Option Page) → is_some (loan_of o) ≡ false → loan_of o ≡ None
  not_lent o e = go (loan_of o) refl
    where
      go : (l : Option PageLoan) → loan_of o ≡ l → loan_of o ≡ None
      go None q = q
      go (Some loan) q = absurd (false≢true (sym e ∙ ap is_some q))

  run_unlent : sends_pages w ≡ true → sends_pages w && any_not_sent m.processes m.ledger (caller_place m (send_address w)) (sent_pages w) (sends_lend_mut w) ≡ false
      → (p : Place) → in_run (caller_place m (send_address w)) (sent_pages w) p ≡ true → loan_at m.ledger p ≡ None
  run_unlent carries e p inside =
      let from = caller_place m (send_address w) in
      let many = sent_pages w in
      let none = sym (ap (λ b. b && any_not_sent m.processes m.ledger from many (sends_lend_mut w)) carries) ∙ e in
      let one = or_parts (any_on_loan m.processes m.ledger from many || any_console m.ledger from many)
      (sends_lend_mut w && any_lacks (record { w = true; x = false }) m.ledger from many) none in
      let two = or_parts (any_on_loan m.processes m.ledger from many) (any_console m.ledger from many) one.0 in
      by (m.ledger.home p) (run_not_lent m.processes m.ledger from many two.0 p inside)
    where
      by : (o : Option Page) → is_lent o ≡ false → loan_of o ≡ None
      by None q = refl
      by (Some page) q = not_lent (Some page) q

  sent_to_comes : is_send (call_number w) ≡ true → is_none (server_at m (send_cid w)) ≡ false → is_full (server_at m (send_cid w)) ≡ false
      → sends_pages w && any_not_sent m.processes m.ledger (caller_place m (send_address w)) (sent_pages w) (sends_lend_mut w) ≡ false
      → OfPlan OfIt (sent_to_row m w)
  sent_to_comes is live room unsent found =
      subst (PagesCome cause m) (sym (waits_ledger (is_answered (unwrap_or (named_kind w) Scalar)) (new_number m) _))
      (sent_comes is (leads_to m h w (send_cid w) live room) (unwrap_or (arrival m w) (record { 0 = 0 })) (named_kind w) refl
      (λ carries. found_free carries (none_hold (arrival_refusals w (arrival m w)) found).0) (λ carries. run_unlent carries unsent))

  -- ---- forwards

  plain : (servers : ℕ → Option Server) → AreMeant cause m servers (answer_to m.cursor plain_words)
  plain servers = one_meant cause m servers m.cursor plain_words (inl refl, not_cursor m ready servers plain_words)

  passed_comes : call_number w ≡ forward_message → (first : Vpn) → (o : Option Message) → passable m (passed_number w) ≡ o
      → is_none (server_at m (forward_cid w)) ≡ false → is_full (server_at m (forward_cid w)) ≡ false
      → are_one_server (passed_from m (passed_number w)) (passed_to m (forward_cid w)) ≡ false
      → OfPlan OfIt (passed_if m (passed_number w) (forward_cid w) first o)
  passed_comes e first None there live room apart = none_comes cause m m.ledger (same_ledger m.ledger)
  passed_comes e first (Some x) there live room apart = comes
    where
      at : IsHeld m (is_passable_of (passed_number w)) x
      at = is_held m (is_passable_of (passed_number w)) x there

      passes : is_passable_of (passed_number w) x ≡ true
      passes = at.passes

      sent : is_some x.sender ≡ true
      sent = (and_parts (is_lend_of (passed_number w) x) (is_some x.sender) passes).1

      lends : is_lend x.kind ≡ true
      lends = lends_of cause m h w served_by plain x passes

      onward : LeadsTo m (forward_cid w)
      onward = leads_to m h w (forward_cid w) live room

      distinct : onward.serial.0 ≢ at.serial.0
      distinct same =
          false≢true (sym apart ∙ ((λ i. are_one_server (at.is i) (onward.leads i)) ∙ eq-eqb at.serial.0 onward.serial.0 (sym same)))

      forwards : IsForwardedTo onward.serial.0 (with_first first x) cause m
      forwards = passed_to_it cause m h w served_by plain e x at onward.serial distinct onward.leads first

      from : Place
      from = held_place m x

      to : Place
      to = passed_place m (forward_cid w) first

      to_is : to ≡ record { pid = onward.server.pid; vpn = first }
      to_is = ap place (ap (λ o. option_and_then (λ (serial : Serial). m.servers serial.0) o) onward.leads ∙ onward.there)
        where
          place : Option Server → Place
          place o = record { pid = option_map_or (λ (server : Server). server.pid) o m.cursor.pid; vpn = first }

      from_is : record { pid = at.server.pid; vpn = x.first } ≡ from
      from_is = ap (λ (pid : Pid). place pid) at.own
        where
          place : Pid → Place
          place pid = record { pid = pid; vpn = x.first }

      passed_on : (p : Place) (loan : PageLoan) → loan_at m.ledger p ≡ Some loan → same_number loan.number x.number ≡ true
          → IsLent (record loan { holder = moved from to loan.holder }) cause m
      passed_on p loan q same = record {
        n = onward.serial.0;
        server = onward.server;
        there = onward.there;
        message = with_first first x;
        arrives = IsForwarded forwards;
        lends = lends;
        numbered = sym (same_number-true loan.number x.number same);
        place = subst (λ first_place. in_run first_place x.count (moved from to loan.holder) ≡ true) to_is
            (moved-in_run from to loan.holder x.count
            (subst (λ first_place. in_run first_place x.count loan.holder ≡ true) from_is
            (held_told m h (is_passable_of (passed_number w)) x at lends sent p loan q same)));
      }

      of_loan : (p : Place) (page : Page) (loan : PageLoan) → m.ledger.home p ≡ Some page → (o : Option PageLoan) → page.loan ≡ o
          → option_map (passed_loan x.number from to) o ≡ Some loan → (loan_at m.ledger p ≡ Some loan) ⊎ IsLent loan cause m
      of_loan p page loan q None r f = absurd (none-some loan f)
      of_loan p page loan q (Some old) r f = go (same_number old.number x.number) refl f
        where
          was : loan_at m.ledger p ≡ Some old
          was = ap loan_of q ∙ r

          go : (b : Bool) → same_number old.number x.number ≡ b
              → Some (if b then record old { holder = moved from to old.holder } else old) ≡ Some loan
              → (loan_at m.ledger p ≡ Some loan) ⊎ IsLent loan cause m
          go true s g =
              inr (subst (λ l. IsLent l cause m) (same_Some (record old { holder = moved from to old.holder }) loan g) (passed_on p old was s))
          go false s g = inl (was ∙ g)

      of_page : (p : Place) (loan : PageLoan) (o : Option Page) → m.ledger.home p ≡ o → loan_of (option_map (passed x.number from to) o) ≡ Some loan
          → (loan_at m.ledger p ≡ Some loan) ⊎ IsLent loan cause m
      of_page p loan None q f = absurd (none-some loan f)
      of_page p loan (Some page) q f = of_loan p page loan q page.loan refl f

      home : (p : Place) (page : Page) → m.ledger.home p ≡ None → option_map (passed x.number from to) (m.ledger.home p) ≡ Some page → ⊥
      home p page empty q = none-some page (sym (ap (option_map (passed x.number from to)) empty) ∙ q)

      comes : Comes (pass x.number from to m.ledger)
      comes = unfold pass in record {
        homes = λ p page empty q. absurd (home p page empty q);
        loans = λ p loan q. of_page p loan (m.ledger.home p) refl q;
        orphans = λ q orphan f. inl (ap is_some f);
      }

  forward_comes : call_number w ≡ forward_message → OfPlan OfIt (forward_row m w)
  forward_comes e = λ none found.
      let parts = none_hold (forward_refusals m (passed_number w) (forward_cid w)) none in
      passed_comes e (unwrap_or (next_arrival m (passed_number w) (forward_cid w)) (record { 0 = 0 })) (passable m (passed_number w)) refl parts.1.0 parts.1.1.1.0 parts.1.1.0

  -- ---- ends

  terminate_comes : OfPlan OfIt (terminate_row m w)
  unfolding death servers_closed closed
  terminate_comes = none_comes cause m (death m.cursor.pid m).machine.ledger (only_orphans m.ledger (death m.cursor.pid m).machine.ledger (death_orphans m.cursor.pid m))

  destroy_comes : OfPlan OfIt (destroy_row m w)
  unfolding closed
  destroy_comes none =
      let ends = is_message_at (λ k. k == (named_server m (named_sid w)).0) m in
      none_comes cause m (end_loans ends m.ledger) (end_loans_none ends m.ledger)

  -- ---- the calls that can change the ledger

  abbrev P : Change → Type 0
  P change = Comes change.machine.ledger

  each : OfChanging (λ parts. names parts LedgerPart) P m w
  each =
      (λ e none.
      maps_come (ap makes_pages e) (map_phys w == CONSOLE_ADDRESS) (caller_place m (map_address m (map_virt w) (map_size w))) refl (map_size w / PAGE_SIZE)
      (right_of (map_flags w)))
      also (λ e none.
      make_come (ap makes_pages e) (caller_place m (heap_start + heap_of m)) refl (heap_bytes w / PAGE_SIZE) (record { w = true; x = false }))
      also (λ e none.
      none_comes cause m _ (remove_none (in_run (caller_place m (heap_start + (heap_of m - heap_bytes w))) (heap_bytes w / PAGE_SIZE)) m.ledger))
      also (λ e none.
      none_comes cause m _ (reduce_none (in_run (caller_place m (range_address w)) (range_size w / PAGE_SIZE)) (right_of (range_flags w)) m.ledger))
      also (λ e none passed.
      let parts = none_hold (send_refusals m w) none in
      sent_to_comes (ap is_send e) parts.0 passed parts.1.1.1.1.0)
      also (λ e none.
      none_comes cause m _ (remove_none (in_run (caller_place m (range_address w)) (range_size w / PAGE_SIZE)) m.ledger))
      also (λ e none. none_comes cause m _ (end_loan_none (named_number w) m.ledger))
      also (λ e. terminate_comes)
      also (λ e none.
      let parts = none_hold (send_refusals m w ++ (is_full_for m w, ServerQueueFull) ∷ []) none in
      sent_to_comes (ap is_send e) parts.0 parts.1.1.1.1.1.0 parts.1.1.1.1.0)
      also (λ e. destroy_comes)
      also (λ e. forward_comes e)
      also tt

  pub call_comes : OfServed P (call m w)
  call_comes =
      of_parts (λ parts. names parts LedgerPart) P m w each
      (λ change rest untouched. subst (PagesCome cause m) (sym (rest.ledger untouched)) (none_comes cause m m.ledger (same_ledger m.ledger)))
