-- The loop over the servers in the order of their serials.
use Rattle.std.proofs.Common.{◌≡◌, ℕ, ◌+◌, ◌*◌, ◌≤◌, ◌<◌, List, length, Option, Some, None, ap, arith}
use Rattle.std.specs.Prelude.{is_some}
use Rattle.std.specs.Option.{option_map}
use Rattle.msg_queue.specs.Seats.{Seat}
use Rattle.xk_parts.specs.Shown.{server_of, servers_shown}
use Rattle.server_table.proofs.Lemmas.{live_below}
use Rattle.server_table.specs.ServersOf.{servers_of}
use Rattle.server_table.specs.declared.table.Servers.{Servers}
use Rattle.suspend_image.specs.Sheets.{SheetBytes}
use Rattle.suspend_image.specs.Spelling.{server_bytes}
use Rattle.snapshot_rows.specs.declared.state.ServerRow.{ServerRow}
use Rattle.xk_base.proofs.CountingLemmas.{count_below-same}
use Rattle.xk_base.specs.Tables.Counting.{count_below}
use Rattle.save_path.specs.Fitting.{EachBelow, IsServerFit}
use Rattle.save_path.specs.Rows.{rows_below, server_at}
use Rattle.save_path.proofs.FittingLemmas.{each_gap, each_this}
use Rattle.suspend_image.specs.SavedRows.{server_row}
use Rattle.save_path.specs.Servers.{IsNext, IsNextServer, table_server}
use Rattle.save_path.specs.Written.{Appends, Fits}
use Rattle.save_path.specs.declared.servers.Seated.{Seated}
use Rattle.save_path.proofs.RowsBelowLemmas.{length-more, length-rows}
use Rattle.save_path.proofs.SheetLemmas.{HasWritten, written_gap, written_more, written_room}
use Rattle.save_path.proofs.TableLemmas.{is_some-map, server_gone, server_there}

module _ (t : Servers) (q : List Seat) where
  abbrev row : ℕ → Option ServerRow
  row = server_at (servers_shown t q)

  abbrev AreFew : Type 0
  AreFew = (bound : ℕ) → count_below bound (λ n. is_some (servers_shown t q n)) ≤ 64

  rows_few : AreFew → (n : ℕ) → length (rows_below n row) ≤ 64
  rows_few few n =
      let count = length-rows row n in
      let same : count_below n (λ k. is_some (row k)) ≡ count_below n (λ k. is_some (servers_shown t q k)) =
      count_below-same n (λ k. is_some (row k)) (λ k. is_some (servers_shown t q k)) (λ k low. is_some-map (server_row k) (servers_shown t q k)) in
      let most = few n in
      omega arith

  module _ (low : ℕ) (start sheet : SheetBytes) (many : ℕ) (written : HasWritten server_bytes 5664 row low start sheet many) where
    pub servers_written : AreFew → many ≤ 64
    servers_written few = let most = rows_few few low in let count = written.count in omega arith

    -- the last server was written
    pub servers_end : IsNextServer (servers_of t) low None → low ≤ (servers_of t).next → HasWritten server_bytes 5664 row (servers_of t).next start sheet many
    servers_end none le = written_gap server_bytes 5664 row low (servers_of t).next start sheet many written le
        (λ i from under. server_gone t q i (none i from))

    module _ (s : Seated) (next : IsNext (servers_of t) low s) where
      at_next : HasWritten server_bytes 5664 row s.server.serial.0 start sheet many
      at_next = written_gap server_bytes 5664 row low s.server.serial.0 start sheet many written next.behind
          (λ i from under. server_gone t q i (next.least i from under))

      there : row s.server.serial.0 ≡ Some (server_row s.server.serial.0 (server_of q (table_server s)))
      there = server_there t q s.server.serial.0 (table_server s) next.live

      pub one_more : AreFew → many + 1 ≤ 64
      one_more few =
          let count = at_next.count in
          let more = length-more row s.server.serial.0 (server_row s.server.serial.0 (server_of q (table_server s))) there in
          let most = rows_few few (s.server.serial.0 + 1) in
          omega arith

      pub serial_below : s.server.serial.0 < (servers_of t).next
      serial_below = live_below t s.server.serial.0 (table_server s) next.live

      pub server_room : AreFew → Fits start (5664 * 64) → Fits sheet 5664
      server_room few fits = written_room server_bytes 5664 row low 64 start sheet many written (one_more few) fits

      pub server_written : (new : SheetBytes) → Appends sheet new (server_bytes (server_row s.server.serial.0 (server_of q (table_server s)))) 5664
          → HasWritten server_bytes 5664 row (s.server.serial.0 + 1) start new (many + 1)
      server_written new appends =
          written_more server_bytes 5664 row s.server.serial.0 start sheet new many (server_row s.server.serial.0 (server_of q (table_server s))) at_next there
          appends.is appends.few

  -- ---- each server fits

  shown_none : (n : ℕ) → (servers_of t).live n ≡ None → servers_shown t q n ≡ None
  shown_none n e = ap (option_map (server_of q)) e

  pub servers_fit_next : (low : ℕ) (s : Seated) → IsNext (servers_of t) low s → EachBelow low (servers_shown t q) IsServerFit
      → IsServerFit (server_of q (table_server s)) → EachBelow (s.server.serial.0 + 1) (servers_shown t q) IsServerFit
  servers_fit_next low s next below its =
      each_this (servers_shown t q) IsServerFit s.server.serial.0 (server_of q (table_server s))
      (each_gap (servers_shown t q) IsServerFit low s.server.serial.0 below (λ k from under. shown_none k (next.least k from under)))
      (ap (option_map (server_of q)) next.live) its

  pub servers_fit_all : (low : ℕ) → IsNextServer (servers_of t) low None → EachBelow low (servers_shown t q) IsServerFit
      → EachBelow (servers_of t).next (servers_shown t q) IsServerFit
  servers_fit_all low none below =
      each_gap (servers_shown t q) IsServerFit low (servers_of t).next below (λ k from under. shown_none k (none k from))
