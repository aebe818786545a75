-- A table that is made again from the list of its servers: names, owners and serials are as they were, and the seats
-- close up.
use Rattle.std.proofs.Common.{◌≡◌, ℕ, zero, suc, ◌<◌, ◌≤◌, true, List, [], ◌∷◌, length, get_or, Option, Some, None, is_some, refl, ap, sym, subst, ◌∙◌, arith}
use Rattle.std.specs.Prelude.{All, AllPairs, slice_get}
use Rattle.std.specs.List.{Contains, cons_option, filter_map}
use Rattle.std.specs.List.Sorted.{IsStrictlyIncreasing}
use Rattle.std.specs.Option.{option_map}
use Rattle.std.proofs.lemmas.Bool.{false_from_ne_true}
use Rattle.std.proofs.lemmas.List.{get_or-map, length-map}
use Rattle.std.proofs.lemmas.List.Elements.{All-head, All-tail, All-weaker}
use Rattle.std.proofs.lemmas.Option.{none-some, same_Some, slice_get-get_or}
use Rattle.xk_base.specs.declared.ids.Pid.{Pid}
use Rattle.xk_base.specs.declared.ids.Sid.{Sid}
use Rattle.xk_base.specs.declared.limits.TheConstants.{SERVER_LIMIT}
use Rattle.xk_base.specs.Tables.RowMap.{row_map}
use Rattle.xk_base.specs.Tables.Counting.{count_below}
use Rattle.xk_base.specs.Tables.Sids.{same_sid}
use Rattle.xk_base.proofs.CountingLemmas.{count_below-bound, length-listed_below}
use Rattle.server_table.specs.declared.table.ServerSeat.{ServerSeat}
use Rattle.server_table.specs.declared.table.Servers.{Servers}
use Rattle.server_table.specs.Listed.{HaveTwoSids, by_list, rows_of, serials_of}
use Rattle.server_table.specs.ServersOf.{servers_of}
use Rattle.server_table.specs.ServerState.{Server, live_count, live_serials, seat_view}
use Rattle.server_table.proofs.Lemmas.{live_serials-ascends, live_serials-live, live_serials-contains, sids_differ}
use Rattle.server_table.proofs.ListedLemmas.{by_list_found, by_list_is, rows_rise}

-- ---- the rows of any servers by serial

abbrev seats_from : (ℕ → Option Server) → List ℕ → List ServerSeat
seats_from live ns = filter_map (λ n. option_map (seat_view n) (live n)) ns

-- each living server has its row
listed_serials : (live : ℕ → Option Server) (ns : List ℕ) → All (λ n. is_some (live n) ≡ true) ns → serials_of (seats_from live ns) ≡ ns
listed_serials live [] there = refl
listed_serials live (n ∷ ns) there = go (live n) (All-head (λ k. is_some (live k) ≡ true) n ns there)
    (listed_serials live ns (All-tail (λ k. is_some (live k) ≡ true) n ns there))
  where
    go : (o : Option Server) → is_some o ≡ true → serials_of (seats_from live ns) ≡ ns
        → serials_of (cons_option (option_map (seat_view n) o) (seats_from live ns)) ≡ n ∷ ns
    go None h rest = cc
    go (Some v) h rest = ap (λ ks. n ∷ ks) rest

-- .. and a row tells of a living server
record IsRowOf (live : ℕ → Option Server) (row : ServerSeat) : Type 0 where
  server : Server
  alive : live row.serial.0 ≡ Some server
  sid : row.sid ≡ server.sid
  pid : row.pid ≡ server.pid

row_is : (live : ℕ → Option Server) (ns : List ℕ) (i : ℕ) (row : ServerSeat) → slice_get (seats_from live ns) i ≡ Some row → IsRowOf live row
row_is live [] i row h = absurd (none-some row h)
row_is live (n ∷ ns) i row h = go (live n) refl (row_is live ns) i h
  where
    go : (o : Option Server) → live n ≡ o → ((k : ℕ) (r : ServerSeat) → slice_get (seats_from live ns) k ≡ Some r → IsRowOf live r)
        → (k : ℕ) → slice_get (cons_option (option_map (seat_view n) o) (seats_from live ns)) k ≡ Some row → IsRowOf live row
    go None q rest k h = rest k row h
    go (Some v) q rest zero h =
        let same : seat_view n v ≡ row = same_Some (seat_view n v) row h in
        record {
          server = v;
          alive = sym (ap (λ r. live r.serial.0) same) ∙ q;
          sid = sym (ap (λ r. r.sid) same);
          pid = sym (ap (λ r. r.pid) same);
        }
    go (Some v) q rest (suc k) h = rest k row h

-- ---- the rows of a table

-- their serials are those of the living servers ..
pub rows_serials : (t : Servers) → serials_of (rows_of (servers_of t)) ≡ live_serials (servers_of t)
rows_serials t =
    let s = servers_of t in
    listed_serials s.live (live_serials s)
    (All-weaker (λ n. (n < s.next) × (is_some (s.live n) ≡ true)) (λ n. is_some (s.live n) ≡ true) (λ n h. h.1) (live_serials s) (live_serials-live s))

-- .. so that a table can be made again from them: they are few ..
pub rows_few : (t : Servers) → length (rows_of (servers_of t)) ≤ SERVER_LIMIT
unfolding servers_of
rows_few t =
    let s = servers_of t in
    let size : length (serials_of (rows_of s)) ≡ length (rows_of s) = length-map (rows_of s) (λ row. row.serial.0) in
    let many : length (serials_of (rows_of s)) ≡ live_count s = ap length (rows_serials t) ∙ length-listed_below s.next (λ n. is_some (s.live n)) in
    let counted : live_count s ≤ SERVER_LIMIT = rw t.counted (count_below-bound SERVER_LIMIT (λ i. is_some (row_map t.seats.items i))) in
    omega arith

-- .. their serials ascend ..
pub rows_ascend : (t : Servers) → IsStrictlyIncreasing (serials_of (rows_of (servers_of t)))
rows_ascend t = subst IsStrictlyIncreasing (sym (rows_serials t)) (live_serials-ascends (servers_of t))

-- .. and no two have one identifier
pub rows_named : (t : Servers) → AllPairs HaveTwoSids (rows_of (servers_of t))
rows_named t i j d l within =
    let s = servers_of t in
    let rows = rows_of s in
    let a : ServerSeat = get_or rows i d in
    let b : ServerSeat = get_or rows j d in
    let first : IsRowOf s.live a = row_is s.live (live_serials s) i a (slice_get-get_or rows i d (omega arith)) in
    let second : IsRowOf s.live b = row_is s.live (live_serials s) j b (slice_get-get_or rows j d within) in
    let rise : a.serial.0 < b.serial.0 = rows_rise rows i j a b (rows_ascend t) (slice_get-get_or rows i d (omega arith)) (slice_get-get_or rows j d within) l in
    false_from_ne_true (same_sid a.sid b.sid) (λ same.
    let one : a.serial.0 ≡ b.serial.0 = sids_differ t a.serial.0 b.serial.0 first.server second.server first.alive second.alive
    (sym (ap (λ x. same_sid x b.sid) first.sid ∙ ap (λ y. same_sid first.server.sid y) second.sid) ∙ same) in
    omega arith)

-- ---- the table that is made again

-- what callers know of a server beside its seat
abbrev pub name_and_owner : Server → Sid × Pid
name_and_owner v = (v.sid, v.pid)

-- each serial finds a server with the same name and owner, or none as before
pub same_servers : (t : Servers) (n : ℕ) → option_map name_and_owner (by_list (rows_of (servers_of t)) n) ≡ option_map name_and_owner ((servers_of t).live n)
same_servers t n = go ((servers_of t).live n) refl (by_list (rows_of (servers_of t)) n) refl
  where
    rows : List ServerSeat
    rows = rows_of (servers_of t)

    listed : (i : ℕ) (e : ServerSeat) → slice_get rows i ≡ Some e → IsRowOf (servers_of t).live e
    listed i e h = row_is (servers_of t).live (live_serials (servers_of t)) i e h

    there : (v : Server) → (servers_of t).live n ≡ Some v → (i : ℕ) × (e : ServerSeat) × (slice_get rows i ≡ Some e) × (e.serial.0 ≡ n)
    there v h =
        let at : Contains (serials_of rows) n = subst (λ ns. Contains ns n) (sym (rows_serials t)) (live_serials-contains t n v h) in
        let inside : at.0 < length rows = rw (sym (length-map rows (λ row. row.serial.0))) at.1 in
        let d : ServerSeat = seat_view n v in
        (at.0, get_or rows at.0 d, slice_get-get_or rows at.0 d inside, sym (get_or-map (λ row. row.serial.0) rows at.0 d n inside) ∙ at.2)

    go : (o : Option Server) → (servers_of t).live n ≡ o → (p : Option Server) → by_list rows n ≡ p
        → option_map name_and_owner (by_list rows n) ≡ option_map name_and_owner ((servers_of t).live n)
    go None q None r = ap (option_map name_and_owner) (r ∙ sym q)
    go None q (Some w) r =
        let at = by_list_found rows n w r in
        let row : IsRowOf (servers_of t).live at.1 = listed at.0 at.1 at.2 in
        absurd (none-some row.server (sym q ∙ ap (servers_of t).live (sym at.3) ∙ row.alive))
    go (Some v) q p r =
        let at = there v q in
        let row : IsRowOf (servers_of t).live at.1 = listed at.0 at.1 at.2 in
        let same : row.server ≡ v = same_Some row.server v (sym row.alive ∙ ap (servers_of t).live at.3 ∙ q) in
        ap (option_map name_and_owner) (ap (by_list rows) (sym at.3) ∙ by_list_is rows at.0 at.1 (rows_ascend t) at.2)
        ∙ (λ i. Some (row.sid i, row.pid i))
        ∙ ap (λ w. Some (name_and_owner w)) same
        ∙ ap (option_map name_and_owner) (sym q)
