-- While only some orphans of a state are back, with the messages that hold them, the servers can be closed too.
use Rattle.std.proofs.Common.{◌≡◌, ℕ, ◌≤◌, Bool, true, false, ◌&&◌, List, [], ◌∷◌, ◌++◌, map, get_or, filter, Option, Some, None, refl, sym, ap, subst, ◌∙◌, arith, inl, inr}
use Rattle.std.specs.Prelude.{◌==◌, IfSome, IsTrue, if◌then◌else◌, is_none, slice_get}
use Rattle.std.specs.List.{All, find, position_or_len}
use Rattle.std.specs.Option.{option_and_then, option_map}
use Rattle.std.proofs.lemmas.Bool.{and_from, and_parts, cases_Bool, cond-false, cond-true, eq-eqb, eqb-true, false≢true}
use Rattle.std.proofs.lemmas.List.{get_or_append_left, length-append}
use Rattle.std.proofs.lemmas.List.Elements.{All-append, All-filter, All-map, All-tail, filter_passes}
use Rattle.std.proofs.lemmas.List.Folds.{find_at}
use Rattle.std.proofs.lemmas.Option.{none-some, same_Some, slice_get-get_or}
use Rattle.xk_parts.specs.Sound.{HasKnownSender}
use Rattle.xk_parts.specs.Sound.{AreServersSound, IsLoanFit, IsLoanFitOf}
use Rattle.ledger_model.specs.Ledger.{Orphan}
use Rattle.ledger_model.specs.Loans.{LoanRun, Loans, OrphanLoan, Stands, lent_from, loan_of_orphan, loans, orphan_of_number, orphan_of_run, same_number}
use Rattle.ledger_model.specs.Places.{in_run}
use Rattle.machine_model.specs.Messaging.MessageCounts.{HasAtMostOne, count_at}
use Rattle.machine_model.specs.Messaging.Messages.{is_lend, is_lend_of, is_of_number}
use Rattle.machine_model.specs.Runs.Matched.{AreLoansMatched, IsMessageLent, IsOnLoan, lend_run}
use Rattle.machine_model.specs.State.Machine.{Server}
use Rattle.machine_model.specs.State.Servers.{messages_of}
use Rattle.msg_queue.specs.Seats.{Seat, seat_of}
use Rattle.msg_queue.specs.declared.held.Held.{Held}
use Rattle.xk_parts.specs.Shown.{servers_shown}
use Rattle.xk_parts.specs.Seats.{messages_at}
use Rattle.xk_parts.specs.Sound.{IsLoanOf}
use Rattle.server_table.specs.Listed.{listed_servers}
use Rattle.server_table.specs.ServerState.{Server as TableServer}
use Rattle.server_table.specs.ServersOf.{servers_of as table_servers}
use Rattle.server_table.specs.declared.table.Servers.{Servers}
use Rattle.snapshot_rows.proofs.KeyLemmas.{mapped}
use Rattle.snapshot_rows.specs.Machines.{message_of, server_of, servers_of, thread_at_id}
use Rattle.snapshot_rows.specs.Order.{server_key}
use Rattle.snapshot_rows.specs.declared.state.MessageRow.{MessageRow}
use Rattle.snapshot_rows.specs.declared.state.ServerRow.{ServerRow}
use Rattle.snapshot_rows.specs.declared.state.State.{State}
use Rattle.xk_base.specs.Calls.Kinds.{is_answered}
use Rattle.xk_base.specs.Tables.Circle.{is_pid, is_thread_id}
use Rattle.xk_base.specs.declared.ids.Number.{Number}
use Rattle.xk_base.specs.declared.ids.Pid.{Pid}
use Rattle.xk_base.specs.declared.ids.Place.{Place}
use Rattle.xk_base.specs.declared.ids.ThreadId.{ThreadId}
use Rattle.xk_base.specs.declared.limits.TheConstants.{PROCESS_LIMIT}
use Rattle.xk_base.specs.declared.pages.LoanKind.{LoanKind}
use Rattle.resume_path.proofs.Seated.PartCountLemmas.{at_most_one, fewer_at, one_too, same_at}
use Rattle.resume_path.proofs.Lending.RunBackLemmas.{row_found, run_back, run_lender, run_some, run_stands}
use Rattle.resume_path.proofs.Seated.ShownBackLemmas.{IsRowOf, lend_told, live_row, part_server, seat_here, seats_back, shown}
use Rattle.resume_path.specs.Messages.{AreBack, first_lent, is_lend_row, is_orphan_among, is_orphaned, row_held, row_run}
use Rattle.resume_path.specs.Resumable.{IsResumable, state_ledger}
use Rattle.resume_path.specs.Standing.{orphan_among, orphans_of, row_messages, standing, standing_of}
use Rattle.resume_path.specs.Tables.{row_seat}

-- ---- orphans of some numbers

-- the loan of an orphan that is among them
orphan_back : (numbers : ℕ → Bool) (o : Option Orphan) (orphan : OrphanLoan) → option_map loan_of_orphan (orphan_among numbers o) ≡ Some orphan
    → (option_map loan_of_orphan o ≡ Some orphan) × (numbers orphan.number.0 ≡ true)
orphan_back numbers None orphan e = absurd (none-some orphan e)
orphan_back numbers (Some x) orphan e = elim (cases_Bool (numbers x.number.0)) [
  | inr other ↦
      absurd (none-some orphan (sym (ap (λ b. option_map loan_of_orphan (if b then Some x else None)) other) ∙ e))
  | inl own ↦
      let there : Some (loan_of_orphan x) ≡ Some orphan = sym (ap (λ b. option_map loan_of_orphan (if b then Some x else None)) own) ∙ e in
      (there, sym (ap (λ (l : OrphanLoan). numbers l.number.0) (same_Some (loan_of_orphan x) orphan there)) ∙ own)
]

-- by one of the numbers the same are orphans
same_orphan : (numbers : ℕ → Bool) (number : Number) (o : Option Orphan) → numbers number.0 ≡ true
    → orphan_of_number number (option_map loan_of_orphan (orphan_among numbers o)) ≡ orphan_of_number number (option_map loan_of_orphan o)
same_orphan numbers number None among = refl
same_orphan numbers number (Some x) among = elim (cases_Bool (numbers x.number.0)) [
  | inl own ↦ ap (λ b. orphan_of_number number (option_map loan_of_orphan (if b then Some x else None))) own
  | inr other ↦
      ap (λ b. orphan_of_number number (option_map loan_of_orphan (if b then Some x else None))) other
      ∙ sym (cond-false (same_number x.number number) (Some (loan_of_orphan x)) None (strange (same_number x.number number) refl other))
]
  where
    strange : (b : Bool) → same_number x.number number ≡ b → numbers x.number.0 ≡ false → b ≡ false
    strange false e other = refl
    strange true e other = absurd (false≢true (sym other ∙ (ap numbers (eqb-true x.number.0 number.0 e) ∙ among)))

-- ---- what holds of a list of two

all_front : {A : Type 0} (P : A → Type 0) (xs ys : List A) → All P (xs ++ ys) → All P xs
all_front P xs ys all j d low =
    let long = length-append xs ys in
    subst P (get_or_append_left xs ys d j low) (all j d (omega (arith, low, long)))

all_behind : {A : Type 0} (P : A → Type 0) (xs ys : List A) → All P (xs ++ ys) → All P ys
all_behind P [] ys all = all
all_behind P (x ∷ xs) ys all = all_behind P xs ys (All-tail P x (xs ++ ys) all)

module _ (file : List ℕ) (s : State) (h : IsResumable file s) (numbers : ℕ → Bool) where
  abbrev whole : Loans
  whole = loans (state_ledger file s)

  abbrev part : Loans
  part = loans (standing_of file s (orphans_of numbers))

  abbrev back : MessageRow → Bool
  back = is_orphan_among numbers

  -- a loan of orphans by one of the numbers stands
  stays : (run : LoanRun) → run.lender ≡ None → numbers run.number.0 ≡ true → Stands whole run → Stands part run
  unfolding loans standing
  stays run none among stands = record {
    homes = λ p. sym (ap (λ o. option_and_then (λ from. lent_from run from p) o) none);
    orphans = λ p. same_orphan numbers run.number ((state_ledger file s).orphan p) among ∙ stands.orphans p;
  }

  -- ---- a message that is back

  -- it is a lend without a sender
  is_lend_back : (row : MessageRow) → back row ≡ true → (is_lend_row row ≡ true) × ((row.sender_pid == 0) ≡ true) × (numbers row.number ≡ true)
  is_lend_back row e =
      let both = and_parts (is_orphaned row) (numbers row.number) e in
      let parts = and_parts (is_lend_row row) (row.sender_pid == 0) both.0 in
      (parts.0, parts.1, both.1)

  module _ (i : ℕ) (server : ServerRow) (there : slice_get s.servers i ≡ Some server) where
    -- it stands among the messages of its server
    abbrev IsAt : MessageRow → Type 0
    IsAt row = (k : ℕ) × (slice_get (row_messages server) k ≡ Some row)

    each_at : All IsAt (row_messages server)
    each_at j d low = (j, slice_get-get_or (row_messages server) j d low)

    -- what holds of each that is back holds of those that are shown
    of_those_back : (P : MessageRow → Type 0) → ((row : MessageRow) → IsAt row → back row ≡ true → P row)
        → All P (filter back server.queued) × All P (filter back server.held)
    of_those_back P says = (
      λ j d low. says (get_or (filter back server.queued) j d)
          (All-filter back IsAt server.queued (all_front IsAt server.queued server.held each_at) j d low)
          (filter_passes back server.queued j d low),
      λ j d low. says (get_or (filter back server.held) j d) (All-filter back IsAt server.held (all_behind IsAt server.queued server.held each_at) j d low)
          (filter_passes back server.held j d low),
    )

    -- its loan stands
    run_part : (row : MessageRow) → IsAt row → back row ≡ true → IsLoanOf part (record { 0 = server.pid }) (message_of row) (row_run s.pages server.pid row)
    run_part row at e =
        let lend = is_lend_back row e in
        let own = run_back file s h i at.0 server row there at.1 lend.0 in
        record {
          stands = stays (row_run s.pages server.pid row) (no_lender row lend.1) lend.2 own.stands;
          number = own.number;
          kind = own.kind;
          first = own.first;
          count = own.count;
          lender = own.lender;
        }
      where
        no_lender : (row : MessageRow) → (row.sender_pid == 0) ≡ true → (row_run s.pages server.pid row).lender ≡ None
        no_lender row e = ap (λ b. if b then None else first_lent s.pages row.number) e

    fit_part : (row : MessageRow) → IsAt row → back row ≡ true → IsLoanFit part (record { 0 = server.pid }) (row_held s.pages server.pid row)
    fit_part row at e =
        subst (IsLoanFitOf part (record { 0 = server.pid }) (message_of row))
        (sym (ap (λ b. if b then Some (row_run s.pages server.pid row) else None) (is_lend_back row e).0)) (run_part row at e)

    no_sender : (row : MessageRow) → IsAt row → back row ≡ true → HasKnownSender (row_held s.pages server.pid row)
    no_sender row at e =
        subst (λ (o : Option ThreadId). IfSome o (λ id. (is_thread_id PROCESS_LIMIT id ≡ true) × (is_answered (message_of row).kind ≡ true)))
        (sym (ap (λ b. if b then None else Some (thread_at_id row.sender_pid row.sender_tid)) (is_lend_back row e).1)) tt

    lent_part : (row : MessageRow) → IsAt row → back row ≡ true → IsMessageLent part (part_server back server) (message_of row)
    lent_part row at e kind is =
        let own = run_part row at e in
        let lend = is_lend_back row e in
        let same : (row_run s.pages server.pid row).kind ≡ kind = same_Some (row_run s.pages server.pid row).kind kind (sym own.kind ∙ is) in
        record {
          count = run_some file s h i at.0 server row there at.1 lend.0;
          loan =
              subst (λ (o : Option ThreadId). IsOnLoan part (part_server back server) (message_of row) kind o)
              (sym (ap (λ b. if b then None else Some (thread_at_id row.sender_pid row.sender_tid)) lend.1))
              (subst (λ (k : LoanKind). Stands part (lend_run (part_server back server) (message_of row) k None)) same
              (subst (λ (o : Option Place). Stands part (lend_run (part_server back server) (message_of row) (row_run s.pages server.pid row).kind o))
              (ap (λ b. if b then None else first_lent s.pages row.number) lend.1) own.stands));
        }

    -- an orphan's message is back where its number is among them
    message_back : (p : Place) (orphan : OrphanLoan) → whole.orphan p ≡ Some orphan → numbers orphan.number.0 ≡ true
        → (row : MessageRow) → IsAt row → is_lend_of orphan.number (message_of row) ≡ true → back row ≡ true
    message_back p orphan is among row at e =
        and_from (is_orphaned row) (numbers row.number) (and_from (is_lend_row row) (row.sender_pid == 0) lend (no_sender_of (row.sender_pid == 0) refl))
        (ap numbers numbered ∙ among)
      where
        both : (is_of_number orphan.number (message_of row) ≡ true) × (is_lend (message_of row).kind ≡ true)
        both = and_parts (is_of_number orphan.number (message_of row)) (is_lend (message_of row).kind) e

        lend : is_lend_row row ≡ true
        lend = sym (lend_told row.kind) ∙ both.1

        numbered : row.number ≡ orphan.number.0
        numbered = eqb-true row.number orphan.number.0 both.0

        -- a loan from a sender's pages has no orphan
        no_sender_of : (b : Bool) → (row.sender_pid == 0) ≡ b → b ≡ true
        no_sender_of true q = refl
        no_sender_of false q =
            let run = row_run s.pages server.pid row in
            let own : Stands whole run = run_stands file s h i at.0 server row there at.1 lend in
            let lender = run_lender file s h i at.0 server row there at.1 lend q in
            let from : run.lender ≡ Some lender.0 = ap (λ b. if b then None else first_lent s.pages row.number) q ∙ lender.1 in
            let none : orphan_of_run run p ≡ None =
            ap (λ (o : Option Place). if is_none o && in_run run.holder run.count p then Some (record { kind = run.kind; number = run.number }) else None)
            from in
            let some : orphan_of_number run.number (whole.orphan p) ≡ Some orphan =
            ap (orphan_of_number run.number) is
            ∙ cond-true (same_number orphan.number run.number) (Some orphan) None (eq-eqb orphan.number.0 row.number (sym numbered)) in
            absurd (none-some orphan (sym (own.orphans p ∙ none) ∙ some))

  -- ---- all servers

  module _ (t : Servers) (are_listed : table_servers t ≡ listed_servers (map row_seat s.servers) s.next_serial) (q : List Seat) (are : AreBack s back q) where
    shown_part : (n : ℕ) → servers_shown t q n ≡ option_map (part_server back) (find (λ r. server_key r == n) s.servers)
    shown_part n = shown file s h t are_listed back q are n

    -- a row that was found stands in the list
    abbrev HasRow : ℕ → Server → Type 0
    HasRow n server = (i : ℕ) × (row : ServerRow) × (slice_get s.servers i ≡ Some row) × (part_server back row ≡ server)

    has_row : (n : ℕ) (server : Server) → servers_shown t q n ≡ Some server → HasRow n server
    has_row n server e =
        let test : ServerRow → Bool = λ r. server_key r == n in
        let own = mapped (part_server back) (find (λ r. server_key r == n) s.servers) server (sym (shown_part n) ∙ e) in
        (position_or_len test s.servers, own.0, sym (find_at test s.servers) ∙ own.1, own.2)

    numbers_part : (number : Number) → HasAtMostOne (servers_shown t q) (is_of_number number)
    numbers_part number =
        at_most_one (servers_of s.servers) (servers_shown t q) (is_of_number number)
        (λ n. subst (λ (o : Option Server). count_at (is_of_number number) o ≤ count_at (is_of_number number) (servers_of s.servers n)) (sym (shown_part n))
        (fewer_at back (is_of_number number) (find (λ r. server_key r == n) s.servers)))
        (h.matched.body.servers.numbers number)

    loans_part : AreLoansMatched part (servers_shown t q)
    unfolding loans standing
    loans_part = record {
      lends = λ n server e. (
          let own = has_row n server e in
          let each = of_those_back own.0 own.1 own.2 (λ row. IsMessageLent part (part_server back own.1) (message_of row)) (lent_part own.0 own.1 own.2) in
          subst (λ (v : Server). All (IsMessageLent part v) (messages_of v)) own.3
          (All-append (IsMessageLent part (part_server back own.1)) (map message_of (filter back own.1.queued)) (map message_of (filter back own.1.held))
          (All-map (IsMessageLent part (part_server back own.1)) message_of (filter back own.1.queued) each.0)
          (All-map (IsMessageLent part (part_server back own.1)) message_of (filter back own.1.held) each.1))
          );
      loans_sent = λ p loan e. absurd (none-some loan e);
      orphans_sent = λ p orphan e. (
          let own = orphan_back numbers ((state_ledger file s).orphan p) orphan e in
          one_too (servers_of s.servers) (servers_shown t q) (is_lend_of orphan.number) (as_many p orphan own.0 own.1)
          (h.matched.body.loans.orphans_sent p orphan own.0)
          );
    }
      where
        as_many : (p : Place) (orphan : OrphanLoan) → whole.orphan p ≡ Some orphan → numbers orphan.number.0 ≡ true
            → (n : ℕ) → count_at (is_lend_of orphan.number) (servers_shown t q n) ≡ count_at (is_lend_of orphan.number) (servers_of s.servers n)
        as_many p orphan is among n =
            ap (count_at (is_lend_of orphan.number)) (shown_part n) ∙ by_row (find (λ r. server_key r == n) s.servers) refl
          where
            by_row : (o : Option ServerRow) → find (λ r. server_key r == n) s.servers ≡ o
                → count_at (is_lend_of orphan.number) (option_map (part_server back) o) ≡ count_at (is_lend_of orphan.number) (option_map server_of o)
            by_row None e = refl
            by_row (Some row) e =
                let place = position_or_len (λ (r : ServerRow). server_key r == n) s.servers in
                let there : slice_get s.servers place ≡ Some row = sym (find_at (λ (r : ServerRow). server_key r == n) s.servers) ∙ e in
                let says : All (λ m. is_lend_of orphan.number (message_of m) ≡ true → back m ≡ true) (row_messages row) =
                λ j d low. message_back place row there p orphan is among (get_or (row_messages row) j d) (each_at place row there j d low) in
                same_at back (is_lend_of orphan.number) row
                (all_front (λ m. is_lend_of orphan.number (message_of m) ≡ true → back m ≡ true) row.queued row.held says)
                (all_behind (λ m. is_lend_of orphan.number (message_of m) ≡ true → back m ≡ true) row.queued row.held says)

    -- what is said of each message that is back is said of the seats of live servers
    at_seats : (P : Pid → Held → Type 0)
        → ((i : ℕ) (server : ServerRow) → slice_get s.servers i ≡ Some server → (row : MessageRow) → (k : ℕ) × (slice_get (row_messages server) k ≡ Some row)
        → back row ≡ true → P (record { 0 = server.pid }) (row_held s.pages server.pid row))
        → (n : ℕ) (v : TableServer) → (table_servers t).live n ≡ Some v → All (P v.pid) (messages_at (seat_of q v.seat))
    at_seats P says n v e =
        let own : IsRowOf s n v = live_row file s h t are_listed n v e in
        let each = of_those_back own.place own.row own.there (λ m. P (record { 0 = own.row.pid }) (row_held s.pages own.row.pid m))
        (says own.place own.row own.there) in
        subst (λ (x : TableServer). All (P x.pid) (messages_at (seat_of q x.seat))) (sym own.is)
        (subst (λ (seat : Seat). All (P (record { 0 = own.row.pid })) (messages_at seat))
        (sym (seat_here file s h t are_listed back q are own.place own.row own.there))
        (All-append (P (record { 0 = own.row.pid })) (map (row_held s.pages own.row.pid) (filter back own.row.queued))
        (map (row_held s.pages own.row.pid) (filter back own.row.held))
        (All-map (P (record { 0 = own.row.pid })) (row_held s.pages own.row.pid) (filter back own.row.queued) each.0)
        (All-map (P (record { 0 = own.row.pid })) (row_held s.pages own.row.pid) (filter back own.row.held) each.1)))

    -- THEY CAN BE CLOSED
    pub servers_part : AreServersSound s.n part t q
    servers_part = record {
      messages = record {
        seats = seats_back file s h t are_listed back q are;
        fit = at_seats (λ pid held. IsLoanFit part pid held) fit_part;
        senders = at_seats (λ pid held. HasKnownSender held) no_sender;
        numbers = numbers_part;
      };
      loans = loans_part;
      owners = λ n v e. (
          let own : IsRowOf s n v = live_row file s h t are_listed n v e in
          subst (λ (x : TableServer). IsTrue (is_pid s.n x.pid.0)) (sym own.is)
          (h.matched.body.processes.pids (record { 0 = own.row.pid })
          (h.matched.body.servers.living own.row.serial (server_of own.row) (ap (option_map server_of) (row_found file s h own.place own.row own.there))))
          );
    }
