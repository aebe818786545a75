-- The servers that a table and the queues show while messages of a state come back.
use Rattle.std.proofs.Common.{◌≡◌, ℕ, Bool, true, false, List, [], ◌∷◌, map, get_or, filter, Option, Some, None, refl, sym, ap, subst, ◌∙◌}
use Rattle.std.specs.Prelude.{◌==◌, ◌||◌, is_some, if◌then◌else◌, slice_get}
use Rattle.std.specs.List.{All, find, position_or_len}
use Rattle.std.specs.Option.{option_map, option_map_or}
use Rattle.std.proofs.lemmas.List.Elements.{All-append, All-map, All-nil}
use Rattle.std.proofs.lemmas.List.Folds.{find_at}
use Rattle.std.proofs.lemmas.Option.{none-some, slice_get-map}
use Rattle.ledger_model.specs.Loans.{LoanRun}
use Rattle.machine_model.specs.Messaging.Messages.{is_lend}
use Rattle.machine_model.specs.State.Machine.{Server}
use Rattle.msg_queue.specs.Seats.{Seat, empty_seat, message_of as held_message, seat_of}
use Rattle.xk_parts.specs.Shown.{server_of as shown_server, server_with, servers_shown}
use Rattle.xk_parts.specs.Seats.{HasLoanIfLend, HasNoServer, messages_at}
use Rattle.xk_parts.specs.Sound.{AreSeatsSound}
use Rattle.server_table.proofs.ListedLemmas.{by_list_found, by_list_is}
use Rattle.server_table.specs.Listed.{by_list, listed_servers}
use Rattle.server_table.specs.ServerState.{Server as TableServer, ServerState}
use Rattle.server_table.specs.ServersOf.{servers_of as table_servers}
use Rattle.server_table.specs.declared.table.ServerSeat.{ServerSeat}
use Rattle.server_table.specs.declared.table.Servers.{Servers}
use Rattle.snapshot_rows.proofs.KeyLemmas.{mapped}
use Rattle.snapshot_matching.proofs.ServerRows.SenderLemmas.{by_kind, kind_of}
use Rattle.snapshot_matching.proofs.ServerRows.ServerRowLemmas.{found_server}
use Rattle.snapshot_rows.specs.Machines.{message_of}
use Rattle.snapshot_rows.specs.Order.{server_key}
use Rattle.snapshot_rows.specs.declared.state.MessageRow.{MessageRow}
use Rattle.snapshot_rows.specs.declared.state.PageRow.{PageRow}
use Rattle.snapshot_rows.specs.declared.state.ServerRow.{ServerRow}
use Rattle.snapshot_rows.specs.declared.state.State.{State}
use Rattle.resume_path.proofs.Lending.RunBackLemmas.{row_found}
use Rattle.resume_path.proofs.Rows.SeatListLemmas.{seats_rise}
use Rattle.resume_path.specs.Messages.{AreBack, is_lend_row, row_held, row_run, row_seat_with}
use Rattle.resume_path.specs.Resumable.{IsResumable}
use Rattle.resume_path.specs.Tables.{row_seat}

-- ---- messages

-- a message of a state is a lend exactly where its kind is
pub lend_told : (k : ℕ) → is_lend (kind_of k) ≡ ((k == 1) || (k == 2))
lend_told k = by_kind (λ n. is_lend (kind_of n) ≡ ((n == 1) || (n == 2))) k refl refl refl refl refl (λ a b c d e. rw (a, b, c, d, e) refl)

some_if : (b : Bool) (run : LoanRun) → is_some (if b then Some run else None) ≡ b
some_if true run = refl
some_if false run = refl

pub has_its_loan : (pages : List PageRow) (pid : ℕ) (row : MessageRow) → HasLoanIfLend (row_held pages pid row)
has_its_loan pages pid row = some_if (is_lend_row row) (row_run pages pid row) ∙ sym (lend_told row.kind)

same_messages : (pages : List PageRow) (pid : ℕ) (rows : List MessageRow) → map held_message (map (row_held pages pid) rows) ≡ map message_of rows
same_messages pages pid [] = refl
same_messages pages pid (row ∷ rows) = ap (λ xs. message_of row ∷ xs) (same_messages pages pid rows)

-- ---- servers

-- the server of a row as it stands at its place in the table
abbrev pub seated : ℕ → ServerRow → TableServer
seated i row = record { sid = record { 0 = row.sid }; pid = record { 0 = row.pid }; seat = i }

-- .. and with those of its messages that are back
abbrev pub part_server : (MessageRow → Bool) → ServerRow → Server
part_server back row = record {
  sid = record { 0 = row.sid };
  pid = record { 0 = row.pid };
  queued = map message_of (filter back row.queued);
  held = map message_of (filter back row.held);
}

-- the row of a live server, at its place
pub record IsRowOf (s : State) (n : ℕ) (v : TableServer) : Type 0 where
  pub place : ℕ
  pub row : ServerRow
  pub there : slice_get s.servers place ≡ Some row
  pub its_serial : row.serial ≡ n
  pub is : v ≡ seated place row

module _ (file : List ℕ) (s : State) (h : IsResumable file s) (t : Servers)
    (are_listed : table_servers t ≡ listed_servers (map row_seat s.servers) s.next_serial) where
  abbrev listed : List ServerSeat
  listed = map row_seat s.servers

  live_by_list : (n : ℕ) → (table_servers t).live n ≡ by_list listed n
  live_by_list n = ap (λ (x : ServerState). x.live n) are_listed

  pub row_live : (i : ℕ) (row : ServerRow) → slice_get s.servers i ≡ Some row → (table_servers t).live row.serial ≡ Some (seated i row)
  row_live i row there =
      live_by_list row.serial
      ∙ by_list_is listed i (row_seat row) (seats_rise file s h) (slice_get-map row_seat s.servers i ∙ ap (option_map row_seat) there)

  pub live_row : (n : ℕ) (v : TableServer) → (table_servers t).live n ≡ Some v → IsRowOf s n v
  live_row n v e =
      let found = by_list_found listed n v (sym (live_by_list n) ∙ e) in
      let its = mapped row_seat (slice_get s.servers found.0) found.1 (sym (slice_get-map row_seat s.servers found.0) ∙ found.2) in
      record {
        place = found.0;
        row = its.0;
        there = its.1;
        its_serial = ap (λ (seat : ServerSeat). seat.serial.0) its.2 ∙ found.3;
        is = sym found.4 ∙ ap (λ (seat : ServerSeat). record { sid = seat.sid; pid = seat.pid; seat = found.0 }) (sym its.2);
      }

  module _ (back : MessageRow → Bool) (q : List Seat) (are : AreBack s back q) where
    pub seat_here : (i : ℕ) (row : ServerRow) → slice_get s.servers i ≡ Some row → seat_of q i ≡ row_seat_with s.pages back row
    seat_here i row there = are.seats i ∙ ap (λ o. option_map_or (row_seat_with s.pages back) o empty_seat) there

    pub shown_here : (i : ℕ) (row : ServerRow) → slice_get s.servers i ≡ Some row → shown_server q (seated i row) ≡ part_server back row
    shown_here i row there =
        ap (λ seat. server_with seat (seated i row)) (seat_here i row there)
        ∙ (λ j. record {
          sid = record { 0 = row.sid };
          pid = record { 0 = row.pid };
          queued = same_messages s.pages row.pid (filter back row.queued) j;
          held = same_messages s.pages row.pid (filter back row.held) j;
        })

    -- WHAT IS SHOWN: each server of the state, with the messages that are back
    pub shown : (n : ℕ) → servers_shown t q n ≡ option_map (part_server back) (find (λ r. server_key r == n) s.servers)
    shown n = by_live ((table_servers t).live n) refl
      where
        by_row : (o : Option ServerRow) → find (λ r. server_key r == n) s.servers ≡ o → (table_servers t).live n ≡ None → o ≡ None
        by_row None e none = refl
        by_row (Some row) e none =
            let place = position_or_len (λ (r : ServerRow). server_key r == n) s.servers in
            let there : slice_get s.servers place ≡ Some row = sym (find_at (λ (r : ServerRow). server_key r == n) s.servers) ∙ e in
            let live : (table_servers t).live n ≡ Some (seated place row) =
            subst (λ (k : ℕ). (table_servers t).live k ≡ Some (seated place row)) (found_server n s.servers row e) (row_live place row there) in
            absurd (none-some (seated place row) (sym none ∙ live))

        by_live : (o : Option TableServer) → (table_servers t).live n ≡ o
            → option_map (shown_server q) ((table_servers t).live n) ≡ option_map (part_server back) (find (λ r. server_key r == n) s.servers)
        by_live None e =
            ap (option_map (shown_server q)) e
            ∙ sym (ap (option_map (part_server back)) (by_row (find (λ r. server_key r == n) s.servers) refl e))
        by_live (Some v) e =
            let own : IsRowOf s n v = live_row n v e in
            let found : find (λ r. server_key r == n) s.servers ≡ Some own.row =
            subst (λ (k : ℕ). find (λ r. server_key r == k) s.servers ≡ Some own.row) own.its_serial (row_found file s h own.place own.row own.there) in
            ap (option_map (shown_server q)) e
            ∙ (ap (λ (x : TableServer). Some (shown_server q x)) own.is
            ∙ (ap Some (shown_here own.place own.row own.there)
            ∙ sym (ap (option_map (part_server back)) found)))

    pub seats_back : AreSeatsSound (table_servers t) q
    seats_back = record {
      all = are.all;
      empty = λ seat low none. no_row seat none (slice_get s.servers seat) refl;
      loans = λ seat. subst (λ x. All HasLoanIfLend (messages_at x)) (sym (are.seats seat)) (each (slice_get s.servers seat));
    }
      where
        no_row : (seat : ℕ) → HasNoServer (table_servers t) seat → (o : Option ServerRow) → slice_get s.servers seat ≡ o → seat_of q seat ≡ empty_seat
        no_row seat none None e = are.seats seat ∙ ap (λ o. option_map_or (row_seat_with s.pages back) o empty_seat) e
        no_row seat none (Some row) e = absurd (none row.serial (seated seat row) (row_live seat row e) refl)

        each : (o : Option ServerRow) → All HasLoanIfLend (messages_at (option_map_or (row_seat_with s.pages back) o empty_seat))
        each None = All-nil HasLoanIfLend
        each (Some row) =
            All-append HasLoanIfLend (map (row_held s.pages row.pid) (filter back row.queued)) (map (row_held s.pages row.pid) (filter back row.held))
            (All-map HasLoanIfLend (row_held s.pages row.pid) (filter back row.queued)
            (λ j d low. has_its_loan s.pages row.pid (get_or (filter back row.queued) j d)))
            (All-map HasLoanIfLend (row_held s.pages row.pid) (filter back row.held)
            (λ j d low. has_its_loan s.pages row.pid (get_or (filter back row.held) j d)))
