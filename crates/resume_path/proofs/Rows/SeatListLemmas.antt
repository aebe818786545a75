-- The list of the servers of a state, of which a table is made again: its serials ascend below the next one, and its identifiers differ.
use Rattle.std.proofs.Common.{◌≡◌, ℕ, zero, suc, ◌+◌, ◌≤◌, ◌<◌, List, [], ◌∷◌, length, map, get_or, Option, Some, None, sym, ap, subst, ◌∙◌, arith, inl, inr, add-one}
use Rattle.std.specs.Prelude.{◌==◌}
use Rattle.std.specs.List.{All, AllPairs, find}
use Rattle.std.specs.List.Sorted.{IsStrictlyIncreasing}
use Rattle.std.specs.Option.{option_map}
use Rattle.std.proofs.lemmas.Bool.{cases_Bool, leb-true}
use Rattle.std.proofs.lemmas.List.{get_or-map, length-map}
use Rattle.std.proofs.lemmas.List.Elements.{All-map}
use Rattle.std.proofs.lemmas.List.Kept.{AllPairs-from_increasing}
use Rattle.std.proofs.lemmas.Option.{slice_get-get_or}
use Rattle.server_table.specs.Listed.{HaveTwoSids, serials_of}
use Rattle.server_table.specs.declared.table.ServerSeat.{ServerSeat}
use Rattle.suspend_image.proofs.OrderLemmas.{servers_ascend}
use Rattle.snapshot_matching.proofs.ServerRows.ServerLemmas.{few_told}
use Rattle.snapshot_rows.specs.Order.{AreInOrder, after, server_key}
use Rattle.snapshot_rows.specs.Machines.{server_of}
use Rattle.snapshot_rows.specs.declared.state.ServerRow.{ServerRow}
use Rattle.snapshot_rows.specs.declared.state.State.{State}
use Rattle.xk_base.specs.Tables.Sids.{same_sid}
use Rattle.xk_base.specs.declared.limits.TheConstants.{SERVER_LIMIT}
use Rattle.resume_path.proofs.Lending.RunBackLemmas.{row_found}
use Rattle.resume_path.specs.Resumable.{IsResumable}
use Rattle.resume_path.specs.Tables.{row_seat}

abbrev no_row : ServerRow
no_row = record { sid = []; serial = 0; pid = 0; queued = []; held = [] }

rise_at : (before : Option ℕ) (rows : List ServerRow) (k : ℕ) → AreInOrder (λ before r. after before ≤ server_key r) server_key before rows
    → suc k < length rows
    → (get_or rows k no_row).serial < (get_or rows (suc k) no_row).serial
rise_at before [] k forms low = absurd (omega arith)
rise_at before (x ∷ []) k forms low = absurd (omega arith)
rise_at before (x ∷ y ∷ rows) zero forms low = let next : x.serial + 1 ≤ y.serial = forms.1.0 in omega (arith, next)
rise_at before (x ∷ y ∷ rows) (suc k) forms low = rise_at (Some x.serial) (y ∷ rows) k forms.1 (omega (arith, low))

module _ (file : List ℕ) (s : State) (h : IsResumable file s) where
  abbrev listed : List ServerSeat
  listed = map row_seat s.servers

  abbrev serials : List ℕ
  serials = serials_of listed

  counted : length listed ≡ length s.servers
  counted = length-map s.servers row_seat

  at_row : (k : ℕ) → k < length s.servers → get_or serials k 0 ≡ (get_or s.servers k no_row).serial
  at_row k low =
      let same = counted in
      get_or-map (λ (seat : ServerSeat). seat.serial.0) listed k (row_seat no_row) 0 (omega (arith, low, same))
      ∙ ap (λ (seat : ServerSeat). seat.serial.0) (get_or-map row_seat s.servers k no_row (row_seat no_row) low)

  pub seats_rise : IsStrictlyIncreasing serials
  seats_rise k low =
      let rows = counted in
      let all = length-map listed (λ (seat : ServerSeat). seat.serial.0) in
      let inside : k + 1 < length s.servers = omega (arith, low, rows, all) in
      let first = at_row k (omega (arith, inside)) in
      let second = at_row (k + 1) inside in
      let next = rise_at None s.servers k (servers_ascend file s h.spelled) (omega (arith, inside)) in
      let same : (get_or s.servers (suc k) no_row).serial ≡ (get_or s.servers (k + 1) no_row).serial = ap (λ n. (get_or s.servers n no_row).serial)
      (sym (add-one k)) in
      omega (arith, first, second, next, same)

  row_at : (k : ℕ) (d : ServerRow) → k < length s.servers → find (λ r. server_key r == (get_or s.servers k d).serial) s.servers ≡ Some (get_or s.servers k d)
  row_at k d low = row_found file s h k (get_or s.servers k d) (slice_get-get_or s.servers k d low)

  pub seats_given : All (λ serial. serial < s.next_serial) serials
  seats_given =
      All-map (λ serial. serial < s.next_serial) (λ (seat : ServerSeat). seat.serial.0) listed
      (All-map (λ (seat : ServerSeat). seat.serial.0 < s.next_serial) row_seat s.servers
      (λ k d low. h.matched.rest.above.serials (get_or s.servers k d).serial (server_of (get_or s.servers k d)) (ap (option_map server_of) (row_at k d low))))

  pub seats_named : AllPairs HaveTwoSids listed
  seats_named i j d before low =
      let same = counted in
      let later : j < length s.servers = omega (arith, low, same) in
      let first = get_or-map row_seat s.servers i no_row d (omega (arith, before, later)) in
      let second = get_or-map row_seat s.servers j no_row d later in
      subst (λ (a : ServerSeat). HaveTwoSids a (get_or listed j d)) (sym first)
      (subst (λ (b : ServerSeat). HaveTwoSids (row_seat (get_or s.servers i no_row)) b) (sym second) (two i j before later))
    where
      two : (i j : ℕ) → i < j → j < length s.servers → HaveTwoSids (row_seat (get_or s.servers i no_row)) (row_seat (get_or s.servers j no_row))
      two i j before later = elim (cases_Bool (same_sid (row_seat (get_or s.servers i no_row)).sid (row_seat (get_or s.servers j no_row)).sid)) [
        | inr differ ↦ differ
        | inl one ↦
            let a : ServerRow = get_or s.servers i no_row in
            let b : ServerRow = get_or s.servers j no_row in
            let earlier : i < length s.servers = omega (arith, before, later) in
            let same : a.serial ≡ b.serial = h.matched.body.servers.sids a.serial b.serial (server_of a) (server_of b)
            (ap (option_map server_of) (row_at i no_row earlier)) (ap (option_map server_of) (row_at j no_row later)) one in
            let rows = counted in
            let all = length-map listed (λ (seat : ServerSeat). seat.serial.0) in
            let rise : get_or serials i 0 < get_or serials j 0 = AllPairs-from_increasing serials seats_rise i j 0 before (omega (arith, later, rows, all)) in
            let first = at_row i earlier in
            let second = at_row j later in
            absurd (omega (arith, same, rise, first, second))
      ]

  pub seats_few : length listed ≤ SERVER_LIMIT
  seats_few =
      let same = counted in
      let few = leb-true (length s.servers) 64 ((few_told s.servers (servers_ascend file s h.spelled)).1 h.matched.body.servers.few) in
      omega (arith, same, few)
