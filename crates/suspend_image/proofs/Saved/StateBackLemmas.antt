-- A file that spells a state in which the machine can be is the state bytes of that machine.
use Rattle.std.proofs.Common.{◌≡◌, ℕ, zero, suc, ◌+◌, ◌-◌, ◌≤◌, ◌<◌, Bool, true, false, cond, eqb, ltb, List, [], ◌∷◌, ◌++◌, map, length, get_or, Some, None, refl, sym, ap, ◌∙◌, append_assoc, arith}
use Rattle.std.specs.Prelude.{is_some, ◌&&◌}
use Rattle.std.specs.List.{flat_map, AllByRecursion}
use Rattle.std.proofs.lemmas.Bool.{eqb-true, eq-eqb, le-ltb}
use Rattle.std.proofs.lemmas.List.{append-nil}
use Rattle.xk_base.specs.declared.ids.Place.{Place}
use Rattle.xk_base.specs.declared.windows.Window.TheVariants.{Message}
use Rattle.xk_base.specs.Tables.Circle.{listed_ids, same_thread}
use Rattle.xk_base.specs.Tables.Counting.{listed_below}
use Rattle.xk_base.proofs.CircleLemmas.{listed_ids-contains}
use Rattle.xk_base.proofs.CountingLemmas.{listed_below-contains}
use Rattle.ledger_model.specs.Ledger.{Ledger, Page, Orphan}
use Rattle.ledger_model.specs.Lawful.{IsLawful}
use Rattle.ledger_model.specs.Listings.{home_places, orphan_places}
use Rattle.ledger_model.specs.Places.{same_place}
use Rattle.ledger_model.proofs.Loans.NumberingLemmas.{listed_places-contains, is_place_in-user}
use Rattle.machine_model.specs.State.Machine.{Machine}
use Rattle.machine_model.specs.Runs.Matched.{Matched}
use Rattle.snapshot_rows.specs.declared.state.State.{State}
use Rattle.snapshot_rows.specs.declared.state.ProcRow.{ProcRow}
use Rattle.snapshot_rows.specs.declared.state.ThreadRow.{ThreadRow}
use Rattle.snapshot_rows.specs.declared.state.PageRow.{PageRow}
use Rattle.snapshot_rows.specs.declared.state.OrphanRow.{OrphanRow}
use Rattle.suspend_image.specs.Words.{word_bytes}
use Rattle.snapshot_rows.specs.Order.{thread_key, server_key, claim_key, page_key, orphan_key, least_first, least_second}
use Rattle.suspend_image.specs.Spelling.{machine_bytes, proc_bytes, thread_bytes, server_bytes, claim_bytes, page_bytes, orphan_bytes, rows_bytes, parts_bytes, with_header, state_bytes}
use Rattle.suspend_image.specs.Forms.{IsFlag, IsProcRow, IsThreadRow, IsServerRow, IsClaimRow, IsPageRow, IsOrphanRow, Spells}
use Rattle.snapshot_rows.specs.Machines.{thread_at_id, place_at, process_of, no_process, processes_of, thread_of, server_of, claim_of}
use Rattle.snapshot_rows.specs.Machines.{pending_of, ledger_page, ledger_orphan, machine_of}
use Rattle.suspend_image.specs.SavedRows.{machine_row, proc_row}
use Rattle.suspend_image.specs.StateBytes.{pids, thread_entries, server_entries, claim_entries, page_entries, orphan_entries, saved_process, saved_thread, saved_server, saved_claim, saved_page, saved_orphan, saved_parts, saved_bytes}
use Rattle.snapshot_rows.proofs.KeyLemmas.{Less, less_apart, less_through, less_behind}
use Rattle.suspend_image.proofs.OrderLemmas.{pages_ascend, orphans_ascend}
use Rattle.suspend_image.proofs.Saved.AlikeLemmas.{rows_rise, rows_all, placed_all, table_same, rows_alike}
use Rattle.suspend_image.proofs.Saved.EntryLemmas.{Has, has_of}
use Rattle.suspend_image.proofs.Saved.PlacedAgainLemmas.{place_is, place_own}
use Rattle.suspend_image.proofs.Saved.RiseLemmas.{Rises, id_key, place_key, numbers_rise, ids_rise, places_rise}
use Rattle.suspend_image.proofs.Saved.RowBackLemmas.{timer_back, reserved_back, proc_back, thread_back, server_back, pending_each, claim_back, page_back, orphan_back}
use Rattle.suspend_image.proofs.Saved.ThreadAgainLemmas.{id_is, id_own}

-- ---- numbers in ascending order, from the first on

-- the numbers from `k` on, so many of them, that pass the test
abbrev listed_from : ℕ → ℕ → (ℕ → Bool) → List ℕ
listed_from zero k test = []
listed_from (suc count) k test = cond (test k) (k ∷ []) [] ++ listed_from count (k + 1) test

listed_both : (count k : ℕ) (test : ℕ → Bool) → listed_below k test ++ listed_from count k test ≡ listed_below (k + count) test
unfolding listed_below
listed_both zero k test =
    let same : k ≡ k + 0 = omega arith in
    append-nil (listed_below k test) ∙ ap (λ (n : ℕ). listed_below n test) same
listed_both (suc count) k test =
    let next : suc k ≡ k + 1 = omega arith in
    let same : suc k + count ≡ k + suc count = omega arith in
    sym (append_assoc (listed_below k test) (cond (test k) (k ∷ []) []) (listed_from count (k + 1) test))
    ∙ ap (λ (n : ℕ). listed_below (suc k) test ++ listed_from count n test) (sym next)
    ∙ listed_both count (suc k) test ∙ ap (λ (n : ℕ). listed_below n test) same

-- those below n that are still to come, from `k` on
abbrev listed_left : ℕ → ℕ → (ℕ → Bool) → List ℕ
listed_left n k test = listed_from (n - k) k test

left_first : (n : ℕ) (test : ℕ → Bool) → listed_below n test ≡ listed_left n 0 test
unfolding listed_below
left_first n test =
    let zero_off : n - 0 ≡ n = omega arith in
    let none : 0 + n ≡ n = omega arith in
    sym (ap (λ (c : ℕ). listed_from c 0 test) zero_off ∙ listed_both n 0 test ∙ ap (λ (c : ℕ). listed_below c test) none)

-- ---- processes, from the first pid on

procs_from : (procs rows : List ProcRow) (count k : ℕ) → count ≡ length rows
    → ((i : ℕ) → get_or procs (k + i) no_process ≡ get_or rows i no_process) → AllByRecursion IsProcRow rows
    → flat_map (λ pid. proc_bytes (proc_row (processes_of procs pid))) (map (λ j. j + 2) (listed_from count k (λ j. true))) ≡ flat_map proc_bytes rows
procs_from procs [] zero k many here all = refl
procs_from procs [] (suc count) k many here all = absurd (omega (arith, many))
procs_from procs (r ∷ rows) zero k many here all = absurd (omega (arith, many))
procs_from procs (r ∷ rows) (suc count) k many here all =
    let above : ltb (k + 2) 2 ≡ false = le-ltb (k + 2) 2 (omega arith) in
    let index : k + 2 - 2 ≡ k + 0 = omega arith in
    let first : processes_of procs (k + 2) ≡ process_of r =
    ap (λ (b : Bool). process_of (cond b no_process (get_or procs (k + 2 - 2) no_process))) above
    ∙ ap (λ (j : ℕ). process_of (get_or procs j no_process)) index ∙ ap process_of (here 0) in
    let row : proc_bytes (proc_row (processes_of procs (k + 2))) ≡ proc_bytes r =
    ap (λ p. proc_bytes (proc_row p)) first ∙ ap proc_bytes (proc_back r all.0) in
    let rest = procs_from procs rows count (k + 1) (omega (arith, many)) (λ i. (
    let next : k + 1 + i ≡ k + suc i = omega arith in
    ap (λ (j : ℕ). get_or procs j no_process) next ∙ here (suc i)
    )) all.1 in
    λ i. row i ++ rest i

both_all : {A : Type 0} (P Q R : A → Type 0) → ((x : A) → P x → Q x → R x) → (xs : List A) → AllByRecursion P xs → AllByRecursion Q xs → AllByRecursion R xs
both_all P Q R both [] p q = tt
both_all P Q R both (x ∷ xs) p q = (both x p.0 q.0, both_all P Q R both xs p.1 q.1)

homes_rise : (n : ℕ) (l : Ledger) → Rises (λ a b. Less (place_key a) (place_key b)) (home_places n l)
unfolding home_places
homes_rise n l = places_rise n (λ p. is_some (l.home p))

orphan_places_rise : (n : ℕ) (l : Ledger) → Rises (λ a b. Less (place_key a) (place_key b)) (orphan_places n l)
unfolding orphan_places
orphan_places_rise n l = places_rise n (λ p. is_some (l.orphan p))

homes_all : (n capacity : ℕ) (l : Ledger) → IsLawful n capacity l → (p : Place) (page : Page) → l.home p ≡ Some page → Has p (home_places n l)
unfolding home_places
homes_all n capacity l lawful p page at =
    has_of p (home_places n l) (listed_places-contains n (λ q. is_some (l.home q)) p (lawful.home_lies p page at) (ap is_some at))

orphan_places_all : (n capacity : ℕ) (l : Ledger) → IsLawful n capacity l → (p : Place) (o : Orphan) → l.orphan p ≡ Some o → Has p (orphan_places n l)
unfolding orphan_places
orphan_places_all n capacity l lawful p o at =
    has_of p (orphan_places n l)
    (listed_places-contains n (λ q. is_some (l.orphan q)) p (is_place_in-user n Message p (lawful.orphan_lies p o at)) (ap is_some at))

module _ (file : List ℕ) (s : State) (spells : Spells file s) (matched : Matched (machine_of file s)) where
  abbrev m : Machine
  m = machine_of file s

  numbers_back : machine_bytes (machine_row (machine_of file s)) ≡ machine_bytes s
  unfolding machine_bytes
  numbers_back =
      let form = spells.form in
      let timer = timer_back s.armed s.compare form.armed.at_most form.compare in
      let reserved = reserved_back s.n s.reserved s.reserved_pid s.reserved_tid s.reserved_address form.reserved.at_most
      form.reserved_pid form.reserved_tid form.reserved_address in
      λ i. word_bytes (s.cap ∷ s.n ∷ s.steps ∷ s.cursor_pid ∷ s.cursor_tid ∷ s.next_number ∷ s.next_serial ∷ timer.0 i ∷ timer.1 i
      ∷ reserved.0 i ∷ reserved.1 i ∷ reserved.2 i ∷ reserved.3 i ∷ [])

  procs_back : flat_map (saved_process (machine_of file s)) (pids s.n) ≡ flat_map proc_bytes s.procs
  procs_back =
      let many = spells.form.many_procs in
      ap (λ (ks : List ℕ). flat_map (saved_process m) (map (λ j. j + 2) ks)) (left_first s.n (λ j. true))
      ∙ procs_from s.procs s.procs (s.n - 0) 0 (omega (arith, many)) (λ i. (
      let same : 0 + i ≡ i = omega arith in
      ap (λ (j : ℕ). get_or s.procs j no_process) same
      )) spells.form.procs

  threads_back : rows_bytes saved_thread (thread_entries (machine_of file s)) ≡ rows_bytes thread_bytes s.threads
  threads_back =
      let ids = listed_ids s.n (λ id. is_some (m.threads id)) in
      let keyed = λ (r : ThreadRow). thread_at_id r.pid r.tid in
      let up = rows_rise Less less_through thread_key (IsThreadRow s.n) (λ b r is. less_behind 2 1 b (thread_key r) is.pid.at_least is.tid.at_least)
      None s.threads spells.form.threads in
      let same = table_same m.threads same_thread id_is id_own (λ a b. Less (id_key a) (id_key b)) (λ k. less_apart (id_key k))
      (λ a b c. less_through (id_key a) (id_key b) (id_key c)) thread_of keyed (λ k r. eqb r.pid k.pid.0 && eqb r.tid k.tid.0) (λ k r. refl) s.threads ids
      (ids_rise s.n (λ id. is_some (m.threads id)))
      (λ k t at. has_of k ids (listed_ids-contains s.n (λ j. is_some (m.threads j)) k (matched.body.ids.known k t at) (ap is_some at)))
      up (λ k. refl) in
      rows_alike saved_thread thread_bytes (λ r. (keyed r, thread_of r)) (thread_entries m) s.threads same
      (rows_all (IsThreadRow s.n) thread_key (λ r. saved_thread (thread_at_id r.pid r.tid, thread_of r) ≡ thread_bytes r)
      (λ before r is. thread_back r is.state is.waits) None s.threads spells.form.threads)

  is_number : (a b : ℕ) → eqb a b ≡ true → a ≡ b
  is_number a b e = eqb-true a b e

  own_number : (a : ℕ) → eqb a a ≡ true
  own_number a = eq-eqb a a refl

  never_low : (k : ℕ) → k < k → ⊥
  never_low k low = omega (arith, low)

  lower_through : (a b c : ℕ) → a < b → b < c → a < c
  lower_through a b c p q = omega (arith, p, q)

  servers_back : rows_bytes saved_server (server_entries (machine_of file s)) ≡ rows_bytes server_bytes s.servers
  servers_back =
      let serials = listed_below s.next_serial (λ serial. is_some (m.servers serial)) in
      let up = rows_rise (λ a b. a < b) lower_through server_key (IsServerRow s.n) (λ b r is. (let low = is.serial.at_least in omega (arith, low)))
      None s.servers spells.form.servers in
      let same = table_same m.servers (λ a b. eqb a b) is_number own_number (λ a b. a < b) never_low lower_through server_of (λ r. r.serial)
      (λ k r. eqb r.serial k) (λ k r. refl) s.servers serials (numbers_rise s.next_serial (λ serial. is_some (m.servers serial)))
      (λ k v at. has_of k serials (listed_below-contains s.next_serial k (λ j. is_some (m.servers j)) (matched.rest.above.serials k v at) (ap is_some at)))
      up (λ k. refl) in
      rows_alike saved_server server_bytes (λ r. (r.serial, server_of r)) (server_entries m) s.servers same
      (rows_all (IsServerRow s.n) server_key (λ r. saved_server (r.serial, server_of r) ≡ server_bytes r)
      (λ before r is. server_back s.n r is.queued is.held) None s.servers spells.form.servers)

  claims_back : rows_bytes (saved_claim (machine_of file s)) (claim_entries (machine_of file s)) ≡ rows_bytes claim_bytes s.claims
  claims_back =
      let numbers = listed_below 32 (λ number. is_some (m.claims number)) in
      let up = rows_rise (λ a b. a < b) lower_through claim_key (IsClaimRow s.n) (λ b r is. (let low = is.number.at_least in omega (arith, low)))
      None s.claims spells.form.claims in
      let same = table_same m.claims (λ a b. eqb a b) is_number own_number (λ a b. a < b) never_low lower_through claim_of (λ r. r.number)
      (λ k r. eqb r.number k) (λ k r. refl) s.claims numbers (numbers_rise 32 (λ number. is_some (m.claims number)))
      (λ k v at. has_of k numbers (listed_below-contains 32 k (λ j. is_some (m.claims j)) (matched.rest.claims.numbers k v at) (ap is_some at)))
      up (λ k. refl) in
      rows_alike (saved_claim m) claim_bytes (λ r. (r.number, claim_of r)) (claim_entries m) s.claims same
      (both_all (λ c. IsFlag c.pending) (λ c. pending_of s.claims c.number ≡ eqb c.pending 1) (λ c. saved_claim m (c.number, claim_of c) ≡ claim_bytes c)
      (λ c flag said. claim_back (pending_of s.claims) c flag said) s.claims
      (rows_all (IsClaimRow s.n) claim_key (λ c. IsFlag c.pending) (λ before c is. is.pending) None s.claims spells.form.claims)
      (pending_each s.claims up))

  pages_back : rows_bytes saved_page (page_entries (machine_of file s)) ≡ rows_bytes (page_bytes file) s.pages
  pages_back =
      let keyed = λ (r : PageRow). place_at r.pid r.page in
      let up = rows_rise Less less_through page_key
      (λ before r. (least_first 0 before ≤ (page_key r).0) × (least_second 0 before (page_key r).0 ≤ (page_key r).1))
      (λ b r low. less_behind 0 0 b (page_key r) low.0 low.1) None s.pages (pages_ascend file s spells) in
      let same = table_same m.ledger.home same_place place_is place_own (λ a b. Less (place_key a) (place_key b)) (λ k. less_apart (place_key k))
      (λ a b c. less_through (place_key a) (place_key b) (place_key c)) (ledger_page file) keyed (λ k r. eqb r.pid k.pid.0 && eqb r.page k.vpn.0) (λ k r. refl)
      s.pages (home_places s.n m.ledger) (homes_rise s.n m.ledger) (homes_all s.n s.cap m.ledger matched.body.ledger.lawful) up (λ k. refl) in
      rows_alike saved_page (page_bytes file) (λ r. (keyed r, ledger_page file r)) (page_entries m) s.pages same
      (placed_all (IsPageRow (length file) s.n) page_key (page_bytes file) (λ r. saved_page (place_at r.pid r.page, ledger_page file r) ≡ page_bytes file r)
      (λ before left r is. page_back file s.n r (record {
        right = is.right.at_most;
        kind = is.kind.at_most;
        holder_pid = is.holder_pid;
        holder_page = is.holder_page;
        number = is.number;
      })) _ None s.pages spells.form.pages)

  orphans_back : rows_bytes saved_orphan (orphan_entries (machine_of file s)) ≡ rows_bytes (orphan_bytes file) s.orphans
  orphans_back =
      let keyed = λ (r : OrphanRow). place_at r.pid r.page in
      let up = rows_rise Less less_through orphan_key
      (λ before r. (least_first 0 before ≤ (orphan_key r).0) × (least_second 0 before (orphan_key r).0 ≤ (orphan_key r).1))
      (λ b r low. less_behind 0 0 b (orphan_key r) low.0 low.1) None s.orphans (orphans_ascend file s spells) in
      let same = table_same m.ledger.orphan same_place place_is place_own (λ a b. Less (place_key a) (place_key b)) (λ k. less_apart (place_key k))
      (λ a b c. less_through (place_key a) (place_key b) (place_key c)) (ledger_orphan file) keyed
      (λ k r. eqb r.pid k.pid.0 && eqb r.page k.vpn.0) (λ k r. refl)
      s.orphans (orphan_places s.n m.ledger) (orphan_places_rise s.n m.ledger)
      (orphan_places_all s.n s.cap m.ledger matched.body.ledger.lawful) up (λ k. refl) in
      rows_alike saved_orphan (orphan_bytes file) (λ r. (keyed r, ledger_orphan file r)) (orphan_entries m) s.orphans same
      (placed_all (IsOrphanRow (length file) s.n) orphan_key (orphan_bytes file)
      (λ r. saved_orphan (place_at r.pid r.page, ledger_orphan file r) ≡ orphan_bytes file r)
      (λ before left r is. orphan_back file r is.kind) 0 None s.orphans spells.form.orphans)

  parts_back : saved_parts (machine_of file s) ≡ parts_bytes file s
  unfolding saved_parts parts_bytes
  parts_back =
      let numbers = numbers_back in
      let processes = procs_back in
      let threads = threads_back in
      let servers = servers_back in
      let claims = claims_back in
      let pages = pages_back in
      let orphans = orphans_back in
      λ i. numbers i ++ (processes i ++ (threads i ++ (servers i ++ (claims i ++ (pages i ++ orphans i)))))

  pub spelled_is_saved : saved_bytes (machine_of file s) ≡ file
  unfolding saved_bytes state_bytes
  spelled_is_saved = ap with_header parts_back ∙ sym spells.bytes
