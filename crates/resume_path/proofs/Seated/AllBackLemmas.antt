-- When all messages of a state are back with their loans, the servers are those of its machine, and they can be closed.
use Rattle.std.proofs.Common.{◌≡◌, ℕ, Bool, true, List, [], ◌∷◌, ◌++◌, map, get_or, filter, Option, Some, None, refl, sym, ap, subst, ◌∙◌}
use Rattle.std.specs.Prelude.{◌==◌, slice_get}
use Rattle.std.specs.List.{All, find}
use Rattle.std.specs.Option.{option_map}
use Rattle.std.proofs.lemmas.List.{map-append}
use Rattle.std.proofs.lemmas.List.Elements.{All-map}
use Rattle.std.proofs.lemmas.Option.{cond_some, slice_get-get_or}
use Rattle.kill_path.proofs.FitLemmas.{servers_of_matched}
use Rattle.xk_parts.specs.Sound.{AreServersSound}
use Rattle.ledger_model.specs.Loans.{LoanRun, Loans, loans}
use Rattle.machine_model.specs.Runs.Matched.{AreLoansMatched}
use Rattle.msg_queue.specs.Seats.{Seat, seat_of}
use Rattle.msg_queue.specs.declared.held.Held.{Held}
use Rattle.xk_parts.specs.Shown.{servers_shown}
use Rattle.xk_parts.specs.Sound.{AreLoansAt, AreLoansSound, IsLoanOf}
use Rattle.server_table.specs.Listed.{listed_servers}
use Rattle.server_table.specs.ServerState.{Server as TableServer}
use Rattle.server_table.specs.ServersOf.{servers_of as table_servers}
use Rattle.server_table.specs.declared.table.Servers.{Servers}
use Rattle.snapshot_rows.specs.Machines.{machine_of as state_machine, message_of, server_of, servers_of}
use Rattle.snapshot_rows.specs.Order.{server_key}
use Rattle.snapshot_rows.specs.declared.state.MessageRow.{MessageRow}
use Rattle.snapshot_rows.specs.declared.state.ServerRow.{ServerRow}
use Rattle.snapshot_rows.specs.declared.state.State.{State}
use Rattle.resume_path.proofs.Lending.RunBackLemmas.{run_back}
use Rattle.resume_path.proofs.Seated.ShownBackLemmas.{IsRowOf, live_row, part_server, seat_here, seats_back, shown}
use Rattle.resume_path.specs.Messages.{AreBack, is_lend_row, row_held, row_run}
use Rattle.resume_path.specs.Resumable.{IsResumable, state_ledger}
use Rattle.resume_path.specs.Standing.{row_messages}
use Rattle.resume_path.specs.Tables.{row_seat}

abbrev pub all_rows : MessageRow → Bool
all_rows row = true

kept_all : (rows : List MessageRow) → filter all_rows rows ≡ rows
kept_all [] = refl
kept_all (row ∷ rows) = ap (λ xs. row ∷ xs) (kept_all rows)

whole_server : (row : ServerRow) → part_server all_rows row ≡ server_of row
whole_server row = λ i. record {
  sid = record { 0 = row.sid };
  pid = record { 0 = row.pid };
  queued = map message_of (kept_all row.queued i);
  held = map message_of (kept_all row.held i);
}

whole_servers : (o : Option ServerRow) → option_map (part_server all_rows) o ≡ option_map server_of o
whole_servers None = refl
whole_servers (Some row) = ap Some (whole_server row)

module _ (file : List ℕ) (s : State) (h : IsResumable file s) (t : Servers)
    (are_listed : table_servers t ≡ listed_servers (map row_seat s.servers) s.next_serial)
    (q : List Seat) (are : AreBack s all_rows q) where
  abbrev all : Loans
  all = loans (state_ledger file s)

  -- THE SERVERS are those of the state
  pub shown_all : servers_shown t q ≡ servers_of s.servers
  shown_all = λ i n. (shown file s h t are_listed all_rows q are n ∙ whole_servers (find (λ r. server_key r == n) s.servers)) i

  -- each message has its loan
  abbrev Fits : ServerRow → Held → Type 0
  Fits row held = (run : LoanRun) → held.loan ≡ Some run → IsLoanOf all (record { 0 = row.pid }) held.msg run

  loan_back : (i : ℕ) (row : ServerRow) → slice_get s.servers i ≡ Some row → AreLoansAt all (record { 0 = row.pid }) (seat_of q i)
  loan_back i row there =
      subst (λ (seat : Seat). AreLoansAt all (record { 0 = row.pid }) seat) (sym (seat_here file s h t are_listed all_rows q are i row there))
      (subst (All (Fits row)) messages (All-map (Fits row) (row_held s.pages row.pid) (row_messages row) each))
    where
      messages : map (row_held s.pages row.pid) (row_messages row)
          ≡ map (row_held s.pages row.pid) (filter all_rows row.queued) ++ map (row_held s.pages row.pid) (filter all_rows row.held)
      messages =
          map-append (row_held s.pages row.pid) row.queued row.held
          ∙ (λ i. map (row_held s.pages row.pid) (sym (kept_all row.queued) i) ++ map (row_held s.pages row.pid) (sym (kept_all row.held) i))

      each : All (λ m. Fits row (row_held s.pages row.pid m)) (row_messages row)
      each j d low run is =
          let m : MessageRow = get_or (row_messages row) j d in
          let own = cond_some (is_lend_row m) (row_run s.pages row.pid m) run is in
          subst (λ (r : LoanRun). IsLoanOf all (record { 0 = row.pid }) (message_of m) r) own.1
          (run_back file s h i j row m there (slice_get-get_or (row_messages row) j d low) own.0)

  loans_back : AreLoansSound all (table_servers t) q
  loans_back n v e =
      let own : IsRowOf s n v = live_row file s h t are_listed n v e in
      subst (λ (x : TableServer). AreLoansAt all x.pid (seat_of q x.seat)) (sym own.is) (loan_back own.place own.row own.there)

  -- .. AND THEY CAN BE CLOSED
  pub servers_back : AreServersSound s.n all t q
  servers_back =
      servers_of_matched (state_machine file s) h.matched t q (sym shown_all) (seats_back file s h t are_listed all_rows q are) all
      (subst (AreLoansMatched all) (sym shown_all) h.matched.body.loans) loans_back
