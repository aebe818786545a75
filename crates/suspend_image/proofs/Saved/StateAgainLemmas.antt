-- State bytes are read as the state that they spell.
use Rattle.std.proofs.Common.{◌≡◌, ℕ, ◌+◌, ◌≤◌, ◌<◌, true, cond, eqb, List, [], ◌∷◌, ◌++◌, map, length, Option, Some, None, refl, sym, ap, subst, ◌∙◌, append_assoc, arith}
use Rattle.std.specs.Prelude.{is_some, codes}
use Rattle.std.specs.List.{flat_map, AllByRecursion}
use Rattle.std.specs.Option.{option_map, unwrap_or}
use Rattle.std.proofs.lemmas.List.{length-map}
use Rattle.std.proofs.lemmas.List.Folds.{flat_map-map}
use Rattle.xk_base.specs.declared.ids.Place.{Place}
use Rattle.xk_base.specs.declared.windows.Window.TheVariants.{Message}
use Rattle.kernel_args.specs.CheckNumber.{check_number}
use Rattle.ledger_model.specs.Ledger.{Bytes, Page, Orphan, Homed, Orphaned, loan_of}
use Rattle.ledger_model.specs.Listings.{home_places, orphan_places}
use Rattle.ledger_model.specs.Places.{is_user_place, same_place}
use Rattle.ledger_model.proofs.Loans.NumberingLemmas.{listed_places-contains, is_place_in-user}
use Rattle.machine_model.specs.State.Machine.{Machine, Reservation}
use Rattle.machine_model.specs.Runs.Matched.{Matched}
use Rattle.snapshot_rows.specs.declared.state.State.{State}
use Rattle.suspend_image.specs.Words.{word, word_bytes}
use Rattle.suspend_image.specs.Reading.{greatest}
use Rattle.snapshot_rows.specs.Order.{page_key, orphan_key}
use Rattle.suspend_image.specs.Spelling.{machine_bytes, proc_bytes, thread_bytes, server_bytes, claim_bytes, page_bytes, orphan_bytes, rows_bytes, parts_bytes, with_header, state_bytes}
use Rattle.suspend_image.specs.Forms.{IsField, IsPageRow, IsOrphanRow, ArePlaced, HasForm, Spells}
use Rattle.snapshot_rows.specs.Machines.{thread_at_id, ledger_page, ledger_orphan, ledger_of, machine_of}
use Rattle.suspend_image.specs.SavedRows.{flag, reserved_pid, reserved_tid, reserved_address, machine_row, proc_row, thread_row, server_row, claim_row}
use Rattle.suspend_image.specs.StateBytes.{pids, thread_entries, server_entries, claim_entries, page_entries, orphan_entries, saved_process, saved_thread, saved_server, saved_claim, saved_page, saved_orphan, saved_parts, saved_bytes}
use Rattle.suspend_image.specs.Saveable.{IsSaveable, SpellsMachine}
use Rattle.snapshot_rows.proofs.KeyLemmas.{Less}
use Rattle.suspend_image.proofs.SpellsLemmas.{spelled_once}
use Rattle.suspend_image.proofs.Saved.EntryLemmas.{some, At, Has, has_of, entries_hold, found_told, lookup_told}
use Rattle.suspend_image.proofs.Saved.RiseLemmas.{Rises, place_key, places_rise, entries_rise, all_follow_none}
use Rattle.suspend_image.proofs.Saved.RoomLemmas.{all_by, threads_many, servers_many, claims_many, pages_few, orphans_few, saved_fits}
use Rattle.suspend_image.proofs.Saved.ThreadAgainLemmas.{word as is_word, IsId, id_bounds, threads_form, threads_again}
use Rattle.suspend_image.proofs.Saved.ServerAgainLemmas.{servers_form, servers_again}
use Rattle.suspend_image.proofs.Saved.ClaimAgainLemmas.{flag_form, procs_form, procs_counted, processes_again, claims_form, claims_again, pending_again}
use Rattle.suspend_image.proofs.Saved.PlacedAgainLemmas.{user_place, message_place, place_is, place_own, Ends, ends_behind, IsKnown, page_rows, pages_spelled, pages_placed, is_at, pages_tell, pages_many, IsOrphanKnown, orphan_rows, orphans_spelled, orphans_placed, is_orphan_at, orphans_tell, orphans_many}

-- ---- rows and their number

rows_mapped : {A B : Type 0} (spell : B → List ℕ) (row : A → B) (xs : List A) → rows_bytes (λ x. spell (row x)) xs ≡ rows_bytes spell (map row xs)
unfolding rows_bytes
rows_mapped spell row xs = λ i. word_bytes (sym (length-map xs row) i ∷ []) ++ sym (flat_map-map spell row xs) i

rows_same : {A B : Type 0} (spell : A → List ℕ) (other : B → List ℕ) (xs : List A) (ys : List B) → length xs ≡ length ys
    → flat_map spell xs ≡ flat_map other ys → rows_bytes spell xs ≡ rows_bytes other ys
unfolding rows_bytes
rows_same spell other xs ys many same = λ i. word_bytes (many i ∷ []) ++ same i

rows_split : {A : Type 0} (spell : A → List ℕ) (xs : List A) → rows_bytes spell xs ≡ word_bytes (length xs ∷ []) ++ flat_map spell xs
unfolding rows_bytes
rows_split spell xs = refl

ends_as : (file one other : List ℕ) → one ≡ other → Ends file one → Ends file other
ends_as file one other same ends = record { front = ends.front; parts = ends.parts ∙ ap (λ (b : List ℕ). ends.front ++ b) same }

-- ---- the timer and the reservation

compare_again : (o : Option ℕ) → cond (eqb (flag (is_some o)) 1) (Some (unwrap_or o 0)) None ≡ o
compare_again None = refl
compare_again (Some at) = refl

reserved_again : (o : Option Reservation)
    → cond (eqb (flag (is_some o)) 1) (Some (record { who = thread_at_id (reserved_pid o) (reserved_tid o); address = reserved_address o })) None ≡ o
reserved_again None = refl
reserved_again (Some r) = refl

compare_field : (o : Option ℕ) → ((at : ℕ) → o ≡ Some at → at ≤ greatest) → IsField (eqb (flag (is_some o)) 1) 0 greatest (unwrap_or o 0)
compare_field None few = record { at_least = omega arith; at_most = omega arith }
compare_field (Some at) few = record { at_least = omega arith; at_most = few at refl }

record IsReservedForm (n : ℕ) (o : Option Reservation) : Type 0 where
  pub pid : IsField (eqb (flag (is_some o)) 1) 2 (n + 1) (reserved_pid o)
  pub tid : IsField (eqb (flag (is_some o)) 1) 1 31 (reserved_tid o)
  pub address : IsField (eqb (flag (is_some o)) 1) 0 greatest (reserved_address o)

reserved_form : (n : ℕ) (o : Option Reservation) → ((r : Reservation) → o ≡ Some r → IsId n r.who × (r.address ≤ greatest)) → IsReservedForm n o
reserved_form n None known = record {
  pid = record { at_least = omega arith; at_most = omega arith };
  tid = record { at_least = omega arith; at_most = omega arith };
  address = record { at_least = omega arith; at_most = omega arith };
}
reserved_form n (Some r) known =
    let is = known r refl in
    record {
      pid = record { at_least = is.0.pid_least; at_most = is.0.pid_most };
      tid = record { at_least = is.0.tid_least; at_most = is.0.tid_most };
      address = record { at_least = omega arith; at_most = is.1 };
    }

module _ (m : Machine) (matched : Matched m) (saveable : IsSaveable m) where
  abbrev file : List ℕ
  file = saved_bytes m

  -- what stands behind the pages
  abbrev last_part : List ℕ
  last_part = rows_bytes saved_orphan (orphan_entries m)

  -- ---- where the pages and the orphans stand

  parts_end : Ends (saved_bytes m) (saved_parts m)
  unfolding saved_bytes
  parts_end =
      let parts = saved_parts m in
      let size = 16 + length parts in
      let check = check_number parts in
      ends_behind file (word check) parts
      (ends_behind file (word size) (word check ++ parts)
      (ends_behind file (codes "XousSt01") (word size ++ (word check ++ parts)) (record { front = []; parts = refl })))

  pages_end : Ends (saved_bytes m) (rows_bytes saved_page (page_entries m) ++ rows_bytes saved_orphan (orphan_entries m))
  unfolding saved_parts
  pages_end =
      let pages = rows_bytes saved_page (page_entries m) ++ last_part in
      let claims = rows_bytes (saved_claim m) (claim_entries m) in
      let servers = rows_bytes saved_server (server_entries m) in
      let threads = rows_bytes saved_thread (thread_entries m) in
      let processes = flat_map (saved_process m) (pids m.processes) in
      ends_behind file claims pages
      (ends_behind file servers (claims ++ pages)
      (ends_behind file threads (servers ++ (claims ++ pages))
      (ends_behind file processes (threads ++ (servers ++ (claims ++ pages)))
      (ends_behind file (machine_bytes (machine_row m)) (processes ++ (threads ++ (servers ++ (claims ++ pages)))) parts_end))))

  page_bytes_end : Ends (saved_bytes m) (flat_map saved_page (page_entries m) ++ rows_bytes saved_orphan (orphan_entries m))
  page_bytes_end =
      let number = word_bytes (length (page_entries m) ∷ []) in
      let pages = flat_map saved_page (page_entries m) in
      ends_behind file number (pages ++ last_part)
      (ends_as file (rows_bytes saved_page (page_entries m) ++ last_part) (number ++ (pages ++ last_part))
      (ap (λ (b : List ℕ). b ++ last_part) (rows_split saved_page (page_entries m)) ∙ append_assoc number pages last_part) pages_end)

  orphan_bytes_end : Ends (saved_bytes m) (flat_map saved_orphan (orphan_entries m))
  orphan_bytes_end =
      let number = word_bytes (length (orphan_entries m) ∷ []) in
      let orphans = flat_map saved_orphan (orphan_entries m) in
      ends_behind file number orphans
      (ends_as file last_part (number ++ orphans) (rows_split saved_orphan (orphan_entries m))
      (ends_behind file (rows_bytes saved_page (page_entries m)) last_part pages_end))

  -- ---- what is known of them

  page_known : (e : Place × Page) → At m.ledger.home e → IsKnown m.processes e
  page_known e at =
      let lawful = matched.body.ledger.lawful in
      record {
        place = user_place m.processes e.0 (lawful.home_lies e.0 e.1 at);
        loan = λ loan is. (message_place m.processes loan.holder (lawful.holder_lies e.0 loan (ap loan_of at ∙ is)), saveable.loans e.0 e.1 loan at is);
        whole = λ bytes is. (saveable.sizes.whole.each (Homed e.0) bytes (ap (option_map (λ page. page.contents)) at ∙ ap some is)).size;
      }

  pages_known : AllByRecursion (IsKnown m.processes) (page_entries m)
  pages_known =
      all_by (At m.ledger.home) (IsKnown m.processes) page_known (page_entries m) (entries_hold m.ledger.home (home_places m.processes m.ledger))

  orphan_known : (e : Place × Orphan) → At m.ledger.orphan e → IsOrphanKnown m.processes e
  orphan_known e at = record {
    place = message_place m.processes e.0 (matched.body.ledger.lawful.orphan_lies e.0 e.1 at);
    number = saveable.orphans e.0 e.1 at;
    whole = (saveable.sizes.whole.each (Orphaned e.0) e.1.bytes (ap (option_map (λ o. Bytes o.bytes)) at)).size;
  }

  orphans_known : AllByRecursion (IsOrphanKnown m.processes) (orphan_entries m)
  orphans_known =
      all_by (At m.ledger.orphan) (IsOrphanKnown m.processes) orphan_known (orphan_entries m)
      (entries_hold m.ledger.orphan (orphan_places m.processes m.ledger))

  homes_rise : Rises (λ a b. Less (place_key a) (place_key b)) (home_places m.processes m.ledger)
  unfolding home_places
  homes_rise = places_rise m.processes (λ p. is_some (m.ledger.home p))

  orphan_places_rise : Rises (λ a b. Less (place_key a) (place_key b)) (orphan_places m.processes m.ledger)
  unfolding orphan_places
  orphan_places_rise = places_rise m.processes (λ p. is_some (m.ledger.orphan p))

  homes_all : (p : Place) (page : Page) → m.ledger.home p ≡ Some page → Has p (home_places m.processes m.ledger)
  unfolding home_places
  homes_all p page at =
      has_of p (home_places m.processes m.ledger)
      (listed_places-contains m.processes (λ q. is_some (m.ledger.home q)) p (matched.body.ledger.lawful.home_lies p page at) (ap is_some at))

  orphan_lies : (p : Place) (o : Orphan) → m.ledger.orphan p ≡ Some o → is_user_place m.processes p ≡ true
  orphan_lies p o at = is_place_in-user m.processes Message p (matched.body.ledger.lawful.orphan_lies p o at)

  orphan_places_all : (p : Place) (o : Orphan) → m.ledger.orphan p ≡ Some o → Has p (orphan_places m.processes m.ledger)
  unfolding orphan_places
  orphan_places_all p o at =
      has_of p (orphan_places m.processes m.ledger)
      (listed_places-contains m.processes (λ q. is_some (m.ledger.orphan q)) p (orphan_lies p o at) (ap is_some at))

  -- ---- the state

  abbrev pub saved_state : State
  saved_state = record (machine_row m) {
    procs = map (λ pid. proc_row (m.process pid)) (pids m.processes);
    threads = map (λ e. thread_row e.0 e.1) (thread_entries m);
    servers = map (λ e. server_row e.0 e.1) (server_entries m);
    claims = map (λ e. claim_row m.pending e.0 e.1) (claim_entries m);
    pages = page_rows (length file) last_part (page_entries m);
    orphans = orphan_rows (length file) (orphan_entries m);
  }

  orphans_same : rows_bytes saved_orphan (orphan_entries m) ≡ rows_bytes (orphan_bytes (saved_bytes m)) saved_state.orphans
  orphans_same =
      rows_same saved_orphan (orphan_bytes file) (orphan_entries m) saved_state.orphans (sym (orphans_many file m.processes (orphan_entries m)))
      (sym (orphans_spelled file m.processes (orphan_entries m) orphans_known orphan_bytes_end))

  pages_same : rows_bytes saved_page (page_entries m) ≡ rows_bytes (page_bytes (saved_bytes m)) saved_state.pages
  pages_same =
      rows_same saved_page (page_bytes file) (page_entries m) saved_state.pages (sym (pages_many file last_part m.processes (page_entries m)))
      (sym (pages_spelled file last_part m.processes (page_entries m) pages_known page_bytes_end))

  parts_same : saved_parts m ≡ parts_bytes (saved_bytes m) saved_state
  unfolding saved_parts parts_bytes machine_bytes
  parts_same =
      let processes = sym (flat_map-map proc_bytes (λ pid. proc_row (m.process pid)) (pids m.processes)) in
      let threads = rows_mapped thread_bytes (λ e. thread_row e.0 e.1) (thread_entries m) in
      let servers = rows_mapped server_bytes (λ e. server_row e.0 e.1) (server_entries m) in
      let claims = rows_mapped claim_bytes (λ e. claim_row m.pending e.0 e.1) (claim_entries m) in
      let pages = pages_same in
      let orphans = orphans_same in
      λ i. machine_bytes (machine_row m) ++ (processes i ++ (threads i ++ (servers i ++ (claims i ++ (pages i ++ orphans i)))))

  bytes_same : saved_bytes m ≡ state_bytes (saved_bytes m) saved_state
  unfolding saved_bytes state_bytes
  bytes_same = ap with_header parts_same

  -- ---- its form

  few : length (saved_bytes m) < 0x100000000
  few =
      let fits = saved_fits m matched saveable.sizes in
      let capacity = saveable.capacity in
      let processes = matched.body.processes.few in
      omega (arith, fits, capacity, processes)

  pages_form : ArePlaced (IsPageRow (length (saved_bytes m)) m.processes) page_key (page_bytes (saved_bytes m))
      (length (rows_bytes (orphan_bytes (saved_bytes m)) saved_state.orphans)) None saved_state.pages
  pages_form =
      subst (λ (b : List ℕ). ArePlaced (IsPageRow (length file) m.processes) page_key (page_bytes file) (length b) None saved_state.pages) orphans_same
      (pages_placed file last_part m.processes None (page_entries m) pages_known
      (entries_rise m.ledger.home (λ a b. Less (place_key a) (place_key b)) (home_places m.processes m.ledger) homes_rise)
      (all_follow_none Less (λ e. place_key e.0) (page_entries m)) page_bytes_end)

  orphans_form : ArePlaced (IsOrphanRow (length (saved_bytes m)) m.processes) orphan_key (orphan_bytes (saved_bytes m)) 0 None saved_state.orphans
  orphans_form =
      orphans_placed file m.processes None (orphan_entries m) orphans_known
      (entries_rise m.ledger.orphan (λ a b. Less (place_key a) (place_key b)) (orphan_places m.processes m.ledger) orphan_places_rise)
      (all_follow_none Less (λ e. place_key e.0) (orphan_entries m)) orphan_bytes_end

  form : HasForm (saved_bytes m) saved_state
  form =
      let capacity = saveable.capacity in
      let processes = matched.body.processes.few in
      let some_process = saveable.some_process in
      let steps = saveable.steps in
      let numbers = matched.rest.stepped.number_steps in
      let serials = matched.rest.stepped.serial_steps in
      let cursor = id_bounds m.processes m.cursor saveable.cursor in
      let reserved = reserved_form m.processes m.reserved (λ r is. (id_bounds m.processes r.who (saveable.reserved_by r is), saveable.reserved_at r is)) in
      let threads = threads_many m matched saveable.sizes in
      let servers = servers_many m matched saveable.sizes in
      let claims = claims_many m matched saveable.sizes in
      let pages = pages_few m matched saveable.sizes in
      let orphans = orphans_few m matched saveable.sizes in
      let thread_rows = length-map (thread_entries m) (λ e. thread_row e.0 e.1) in
      let server_rows = length-map (server_entries m) (λ e. server_row e.0 e.1) in
      let claim_rows = length-map (claim_entries m) (λ e. claim_row m.pending e.0 e.1) in
      let rows = pages_many file last_part m.processes (page_entries m) in
      let left = orphans_many file m.processes (orphan_entries m) in
      record {
        cap = is_word m.capacity (omega (arith, capacity));
        n = record { at_least = some_process; at_most = processes };
        steps = record { at_least = omega arith; at_most = steps };
        cursor_pid = record { at_least = cursor.pid_least; at_most = cursor.pid_most };
        cursor_tid = record { at_least = cursor.tid_least; at_most = cursor.tid_most };
        next_number = is_word m.next_number (omega (arith, numbers, steps));
        next_serial = is_word m.next_serial (omega (arith, serials, steps));
        armed = flag_form (is_some m.compare);
        compare = compare_field m.compare saveable.compare;
        reserved = flag_form (is_some m.reserved);
        reserved_pid = reserved.pid;
        reserved_tid = reserved.tid;
        reserved_address = reserved.address;
        many_procs = procs_counted m matched saveable;
        procs = procs_form m matched saveable;
        many_threads = is_word _ (omega (arith, threads, thread_rows, processes));
        threads = threads_form m matched saveable;
        many_servers = is_word _ (omega (arith, servers, server_rows));
        servers = servers_form m matched saveable;
        many_claims = is_word _ (omega (arith, claims, claim_rows));
        claims = claims_form m matched saveable;
        many_pages = is_word _ (omega (arith, pages, rows, capacity));
        pages = pages_form;
        many_orphans = is_word _ (omega (arith, orphans, left, capacity));
        orphans = orphans_form;
      }

  -- ---- the machine that it says

  homes_again : (p : Place) → (ledger_of (saved_bytes m) saved_state.pages saved_state.orphans).home p ≡ m.ledger.home p
  homes_again p =
      found_told m.ledger.home same_place place_is place_own (ledger_page file) (is_at file last_part m.processes) saved_state.pages (page_entries m)
      (pages_tell file last_part m.processes m.ledger.home (page_entries m) pages_known page_bytes_end) p
      ∙ lookup_told m.ledger.home same_place place_is place_own (home_places m.processes m.ledger) homes_all p

  orphans_again : (p : Place) → (ledger_of (saved_bytes m) saved_state.pages saved_state.orphans).orphan p ≡ m.ledger.orphan p
  orphans_again p =
      found_told m.ledger.orphan same_place place_is place_own (ledger_orphan file) (is_orphan_at file m.processes) saved_state.orphans (orphan_entries m)
      (orphans_tell file m.processes m.ledger.orphan (orphan_entries m) orphans_known orphan_bytes_end) p
      ∙ lookup_told m.ledger.orphan same_place place_is place_own (orphan_places m.processes m.ledger) orphan_places_all p

  machine_again : machine_of (saved_bytes m) saved_state ≡ m
  machine_again =
      let homes = homes_again in
      let orphans = orphans_again in
      let threads = threads_again m matched saveable in
      let processes = processes_again m matched saveable in
      let servers = servers_again m matched saveable in
      let claims = claims_again m matched saveable in
      let pending = pending_again m matched saveable in
      λ i. record {
        capacity = m.capacity;
        processes = m.processes;
        ledger = record { home = λ p. homes p i; orphan = λ p. orphans p i };
        steps = m.steps;
        cursor = m.cursor;
        threads = λ id. threads id i;
        process = λ pid. processes pid i;
        servers = λ serial. servers serial i;
        claims = λ number. claims number i;
        pending = λ number. pending number i;
        next_number = m.next_number;
        next_serial = m.next_serial;
        compare = compare_again m.compare i;
        reserved = reserved_again m.reserved i;
      }

  pub saved_spelled : SpellsMachine (saved_bytes m) m
  saved_spelled = record {
    state = saved_state;
    spelled = record { form = form; few = few; bytes = bytes_same };
    machine = machine_again;
  }

-- two states that are spelled alike are one
pub saved_once : (m other : Machine) → Matched m → IsSaveable m → Matched other → IsSaveable other → saved_bytes m ≡ saved_bytes other → m ≡ other
saved_once m other matched saveable also too same =
    let one = saved_spelled m matched saveable in
    let two = saved_spelled other also too in
    let there : Spells (saved_bytes m) two.state = subst (λ (b : List ℕ). Spells b two.state) (sym same) two.spelled in
    let rows : one.state ≡ two.state = spelled_once (saved_bytes m) one.state two.state one.spelled there in
    sym one.machine ∙ (λ i. machine_of (same i) (rows i)) ∙ two.machine
