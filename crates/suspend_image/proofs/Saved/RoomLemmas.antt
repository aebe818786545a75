-- The bytes of a state fit into a sheet that was made for its processes and its capacity.
use Rattle.std.proofs.Common.{◌≡◌, ℕ, ◌+◌, ◌*◌, ◌≤◌, Bool, true, false, List, [], ◌∷◌, ◌++◌, map, length, Option, Some, None, refl, sym, ap, subst, ◌∙◌, arith, length-drop, inl, inr}
use Rattle.std.specs.Prelude.{is_some, not, ◌&&◌, All}
use Rattle.std.specs.List.{flat_map, AllByRecursion}
use Rattle.std.specs.Option.{option_map}
use Rattle.std.proofs.lemmas.Bool.{cases_Bool}
use Rattle.std.proofs.lemmas.List.{length-append, length-map}
use Rattle.std.proofs.lemmas.List.Concat.{length-flat_map}
use Rattle.std.proofs.lemmas.List.Elements.{All-from_recursion, All-head, All-tail}
use Rattle.std.proofs.lemmas.List.Sums.{sum_by-le}
use Rattle.xk_base.specs.declared.ids.Place.{Place}
use Rattle.xk_base.specs.declared.ids.ThreadId.{ThreadId}
use Rattle.xk_base.specs.declared.messages.Message.{Message}
use Rattle.xk_base.specs.Tables.Circle.{listed_ids, id_at}
use Rattle.xk_base.specs.Tables.Counting.{count_below, listed_below}
use Rattle.xk_base.proofs.CountingLemmas.{count_below-bound, length-listed_below}
use Rattle.ledger_model.specs.Ledger.{Contents, Console, Bytes, Page, Orphan, Ledger, Homed, Orphaned, has_bytes, is_counted, pages}
use Rattle.ledger_model.specs.Lawful.{IsLawful}
use Rattle.ledger_model.specs.Listings.{home_places, orphan_places}
use Rattle.ledger_model.specs.Places.{count_places, first_place}
use Rattle.ledger_model.proofs.Loans.NumberingLemmas.{count_places-one, count_places-le, length-listed_places, first_place-none, first_place-passes, first_place-lies}
use Rattle.machine_model.specs.State.Machine.{Machine, Process, Thread, Server, Claim}
use Rattle.machine_model.specs.State.Servers.{messages_of, slots_used}
use Rattle.machine_model.specs.Runs.Matched.{Matched}
use Rattle.suspend_image.specs.Words.{word_bytes}
use Rattle.suspend_image.specs.Sheets.{room_for}
use Rattle.suspend_image.specs.Spelling.{machine_bytes, proc_bytes, thread_bytes, message_bytes, server_bytes, claim_bytes, page_words, orphan_words, rows_bytes, with_header}
use Rattle.suspend_image.specs.SavedRows.{machine_row, proc_row, thread_row, message_row, server_row, claim_row, page_row, orphan_row}
use Rattle.suspend_image.specs.StateBytes.{pids, thread_entries, server_entries, claim_entries, page_entries, orphan_entries, bytes_of, saved_process, saved_thread, saved_server, saved_claim, saved_page, saved_orphan, saved_parts, saved_bytes}
use Rattle.suspend_image.specs.Saveable.{HasSizes}
use Rattle.suspend_image.proofs.Sheets.SpellingLemmas.{length-word_bytes}
use Rattle.suspend_image.proofs.Saved.EntryLemmas.{some, At, entries_hold, entries_few}

-- ---- pieces of at most so many bytes

pub flat_map_few : {A : Type 0} (spell : A → List ℕ) (most : ℕ) (xs : List A) → AllByRecursion (λ x. length (spell x) ≤ most) xs
    → length (flat_map spell xs) ≤ length xs * most
flat_map_few spell most xs all =
    subst (λ (k : ℕ). k ≤ length xs * most) (sym (length-flat_map spell xs))
    (sum_by-le (λ x. length (spell x)) most xs (All-from_recursion (λ x. length (spell x) ≤ most) xs all))

pub all_by : {A : Type 0} (P Q : A → Type 0) → ((x : A) → P x → Q x) → (xs : List A) → AllByRecursion P xs → AllByRecursion Q xs
all_by P Q next [] all = tt
all_by P Q next (x ∷ xs) all = (next x all.0, all_by P Q next xs all.1)

pub all_of : {A : Type 0} (P : A → Type 0) → ((x : A) → P x) → (xs : List A) → AllByRecursion P xs
all_of P each [] = tt
all_of P each (x ∷ xs) = (each x, all_of P each xs)

rows_few : {A : Type 0} (spell : A → List ℕ) (most : ℕ) (xs : List A) → AllByRecursion (λ x. length (spell x) ≤ most) xs
    → length (rows_bytes spell xs) ≤ 4 + length xs * most
unfolding rows_bytes
rows_few spell most xs all =
    let few = flat_map_few spell most xs all in
    let number = length-word_bytes (length xs ∷ []) in
    let both = length-append (word_bytes (length xs ∷ [])) (flat_map spell xs) in
    omega arith

-- ---- each row

numbers_size : (m : Machine) → length (machine_bytes (machine_row m)) ≡ 52
unfolding machine_bytes
numbers_size m = length-word_bytes _

process_size : (p : Process) → length p.connections ≤ 32 → length (proc_bytes (proc_row p)) ≤ 140
unfolding proc_bytes
process_size p few =
    let serials = length-map p.connections (λ serial. serial.0) in
    let words = length-word_bytes ((proc_row p).alive ∷ p.heap ∷ length (proc_row p).serials ∷ (proc_row p).serials) in
    omega (arith, words, serials, few)

thread_size : (id : ThreadId) (t : Thread) → length t.regs ≡ 32 → length (thread_bytes (thread_row id t)) ≤ 144
unfolding thread_bytes
thread_size id t count =
    let regs = length-drop 1 t.regs in
    let row = thread_row id t in
    let words = length-word_bytes (row.pid ∷ row.tid ∷ row.pc ∷ row.state ∷ row.waits ∷ row.regs) in
    omega (arith, words, regs, count)

message_size : (m : Message) → length m.words ≡ 4 → length (message_bytes (message_row m)) ≤ 44
unfolding message_bytes
message_size m four =
    let row = message_row m in
    let words = length-word_bytes (row.number ∷ row.sender_pid ∷ row.sender_tid ∷ row.kind ∷ row.id ∷ (row.words ++ row.first ∷ row.count ∷ [])) in
    let last = length-append row.words (row.first ∷ row.count ∷ []) in
    omega (arith, words, last, four)

claim_size : (pending : ℕ → Bool) (number : ℕ) (c : Claim) → length (claim_bytes (claim_row pending number c)) ≤ 20
unfolding claim_bytes
claim_size pending number c =
    let row = claim_row pending number c in
    omega (arith, length-word_bytes (row.number ∷ row.pid ∷ row.handler ∷ row.arg ∷ row.pending ∷ []))

page_words_size : (p : Place) (page : Page) → length (page_words (page_row 0 p page)) ≡ 28
page_words_size p page = length-word_bytes _

orphan_words_size : (p : Place) (o : Orphan) → length (orphan_words (orphan_row 0 p o)) ≡ 16
orphan_words_size p o = length-word_bytes _

-- ---- a server with its messages

pub by_recursion : {A : Type 0} (P : A → Type 0) (xs : List A) → All P xs → AllByRecursion P xs
by_recursion P [] all = tt
by_recursion P (x ∷ xs) all = (All-head P x xs all, by_recursion P xs (All-tail P x xs all))

pub both_by_recursion : {A : Type 0} (P : A → Type 0) (xs ys : List A) → AllByRecursion P (xs ++ ys) → AllByRecursion P xs × AllByRecursion P ys
both_by_recursion P [] ys all = (tt, all)
both_by_recursion P (x ∷ xs) ys all = (let rest = both_by_recursion P xs ys all.1 in ((all.0, rest.0), rest.1))

abbrev HasFour : Message → Type 0
HasFour m = length m.words ≡ 4

messages_few : (ms : List Message) → AllByRecursion HasFour ms → AllByRecursion (λ r. length (message_bytes r) ≤ 44) (map message_row ms)
messages_few [] all = tt
messages_few (m ∷ ms) all = (message_size m all.0, messages_few ms all.1)

messages_size : (ms : List Message) → AllByRecursion HasFour ms → length (flat_map message_bytes (map message_row ms)) ≤ length ms * 44
messages_size ms all =
    let few = flat_map_few message_bytes 44 (map message_row ms) (messages_few ms all) in
    let many = length-map ms message_row in
    omega (arith, few, many)

server_size : (n : ℕ) (s : Server) → length s.sid.0 ≡ 4 → All HasFour (messages_of s) → slots_used s ≤ 128 → length (server_bytes (server_row n s)) ≤ 5664
unfolding server_bytes
server_size n s four each_four slots =
    let row = server_row n s in
    let each = both_by_recursion HasFour s.queued s.held (by_recursion HasFour (messages_of s) each_four) in
    let queued = messages_size s.queued each.0 in
    let held = messages_size s.held each.1 in
    let words = length-word_bytes (row.sid ++ row.serial ∷ row.pid ∷ length row.queued ∷ length row.held ∷ []) in
    let numbers = length-append row.sid (row.serial ∷ row.pid ∷ length row.queued ∷ length row.held ∷ []) in
    let messages = length-append (flat_map message_bytes row.queued) (flat_map message_bytes row.held) in
    let all = length-append (word_bytes (row.sid ++ row.serial ∷ row.pid ∷ length row.queued ∷ length row.held ∷ []))
    (flat_map message_bytes row.queued ++ flat_map message_bytes row.held) in
    omega (arith, queued, held, words, numbers, four, messages, all, slots)

-- ---- pieces together

seven_size : (a b c d e f g : List ℕ)
    → length (a ++ (b ++ (c ++ (d ++ (e ++ (f ++ g)))))) ≡ length a + length b + length c + length d + length e + length f + length g
seven_size a b c d e f g =
    let one = length-append a (b ++ (c ++ (d ++ (e ++ (f ++ g))))) in
    let two = length-append b (c ++ (d ++ (e ++ (f ++ g)))) in
    let three = length-append c (d ++ (e ++ (f ++ g))) in
    let four = length-append d (e ++ (f ++ g)) in
    let five = length-append e (f ++ g) in
    let six = length-append f g in
    omega (arith, one, two, three, four, five, six)

header_size : (parts : List ℕ) → length (with_header parts) ≡ 16 + length parts
header_size parts = omega arith

-- ---- how many there are

ids_few : (n : ℕ) (test : ThreadId → Bool) → length (listed_ids n test) ≤ n * 31
unfolding listed_ids
ids_few n test =
    let ks = listed_below (n * 31) (λ k. test (id_at k)) in
    let ids : length (map id_at ks) ≡ length ks = length-map ks id_at in
    let many : length ks ≡ count_below (n * 31) (λ k. test (id_at k)) = length-listed_below (n * 31) (λ k. test (id_at k)) in
    let few : count_below (n * 31) (λ k. test (id_at k)) ≤ n * 31 = count_below-bound (n * 31) (λ k. test (id_at k)) in
    omega (arith, ids, many, few)

pids_few : (n : ℕ) → length (pids n) ≤ n
pids_few n =
    let ks = listed_below n (λ k. true) in
    let ids : length (pids n) ≡ length ks = length-map ks (λ k. k + 2) in
    let many : length ks ≡ count_below n (λ k. true) = length-listed_below n (λ k. true) in
    let few : count_below n (λ k. true) ≤ n = count_below-bound n (λ k. true) in
    omega (arith, ids, many, few)

-- a page that doesn't count: the console
abbrev uncounted : Option Page → Bool
uncounted o = is_some o && not (is_counted o)

some_of : {A : Type 0} (o : Option A) → is_some o ≡ true → (x : A) × (o ≡ Some x)
some_of None e = absurd cc
some_of (Some x) e = (x, refl)

console_of : (o : Option Page) → uncounted o ≡ true → (page : Page) × (o ≡ Some page) × (page.contents ≡ Console)
console_of None e = absurd cc
console_of (Some page) e = go page.contents refl e
  where
    go : (c : Contents) → page.contents ≡ c → not (has_bytes c) ≡ true → (p : Page) × (some page ≡ Some p) × (p.contents ≡ Console)
    go Console is e = (page, refl, is)
    go (Bytes bytes) is e = absurd cc

agree : (o : Option Page) → uncounted o ≡ false → is_some o ≡ is_counted o
agree None e = refl
agree (Some page) e = go page.contents e
  where
    go : (c : Contents) → not (has_bytes c) ≡ false → true ≡ has_bytes c
    go Console e = absurd cc
    go (Bytes bytes) e = refl

homes_few : (n capacity : ℕ) (l : Ledger) → IsLawful n capacity l
    → count_places n (λ p. is_some (l.home p)) ≤ count_places n (λ p. is_counted (l.home p)) + 1
homes_few n capacity l lawful = go (first_place n (λ p. uncounted (l.home p))) refl
  where
    go : (o : Option Place) → first_place n (λ p. uncounted (l.home p)) ≡ o
        → count_places n (λ p. is_some (l.home p)) ≤ count_places n (λ p. is_counted (l.home p)) + 1
    go None e =
        let less : count_places n (λ p. is_some (l.home p)) ≤ count_places n (λ p. is_counted (l.home p)) =
        count_places-le n (λ p. is_some (l.home p)) (λ p. is_counted (l.home p)) (λ p there. (
        let page = some_of (l.home p) there in
        let counts = first_place-none n (λ q. uncounted (l.home q)) e p (lawful.home_lies p page.0 page.1) in
        sym (agree (l.home p) counts) ∙ there
        )) in
        omega (arith, less)
    go (Some q) e =
        let found = console_of (l.home q) (first_place-passes n (λ p. uncounted (l.home p)) q e) in
        let one : count_places n (λ p. is_some (l.home p)) ≡ count_places n (λ p. is_counted (l.home p)) + 1 =
        count_places-one n q (λ p. is_some (l.home p)) (λ p. is_counted (l.home p)) (first_place-lies n (λ p. uncounted (l.home p)) q e)
        (ap is_some found.1) (ap is_counted found.1 ∙ ap has_bytes found.2)
        (λ p other. elim (cases_Bool (uncounted (l.home p))) [
          | inl is ↦ (
              let also = console_of (l.home p) is in
              absurd (other (lawful.one_console p q also.0 found.0 also.1 found.1 also.2 found.2))
              )
          | inr isnt ↦ agree (l.home p) isnt
        ]) in
        omega (arith, one)

-- ---- each part

module _ (m : Machine) (matched : Matched m) (sizes : HasSizes m) where
  processes_size : length (flat_map (saved_process m) (pids m.processes)) ≤ m.processes * 140
  processes_size =
      let each = flat_map_few (saved_process m) 140 (pids m.processes)
      (all_of (λ pid. length (saved_process m pid) ≤ 140)
      (λ pid. process_size (m.process pid) (matched.body.processes.connections (record { 0 = pid }))) (pids m.processes)) in
      let few = pids_few m.processes in
      omega (arith, each, few)

  threads_size : length (rows_bytes saved_thread (thread_entries m)) ≤ 4 + m.processes * 4464
  threads_size =
      let ids = listed_ids m.processes (λ id. is_some (m.threads id)) in
      let each = rows_few saved_thread 144 (thread_entries m)
      (all_by (At m.threads) (λ e. length (saved_thread e) ≤ 144) (λ e at. thread_size e.0 e.1 (sizes.registers e.0 e.1 at))
      (thread_entries m) (entries_hold m.threads ids)) in
      let few = entries_few m.threads ids in
      let most = ids_few m.processes (λ id. is_some (m.threads id)) in
      omega (arith, each, few, most)

  servers_size : length (rows_bytes saved_server (server_entries m)) ≤ 362500
  servers_size =
      let serials = listed_below m.next_serial (λ serial. is_some (m.servers serial)) in
      let each = rows_few saved_server 5664 (server_entries m)
      (all_by (At m.servers) (λ e. length (saved_server e) ≤ 5664)
      (λ e at. server_size e.0 e.1 (sizes.identifiers e.0 e.1 at) (sizes.words e.0 e.1 at) (matched.body.servers.slots e.0 e.1 at))
      (server_entries m) (entries_hold m.servers serials)) in
      let few = entries_few m.servers serials in
      let many = length-listed_below m.next_serial (λ serial. is_some (m.servers serial)) in
      let most = matched.body.servers.few m.next_serial in
      omega (arith, each, few, many, most)

  claims_size : length (rows_bytes (saved_claim m) (claim_entries m)) ≤ 644
  claims_size =
      let numbers = listed_below 32 (λ number. is_some (m.claims number)) in
      let each = rows_few (saved_claim m) 20 (claim_entries m)
      (all_of (λ e. length (saved_claim m e) ≤ 20) (λ e. claim_size m.pending e.0 e.1) (claim_entries m)) in
      let few = entries_few m.claims numbers in
      let many = length-listed_below 32 (λ number. is_some (m.claims number)) in
      let most = count_below-bound 32 (λ number. is_some (m.claims number)) in
      omega (arith, each, few, many, most)

  page_size : (e : Place × Page) → At m.ledger.home e → length (saved_page e) ≤ 4124
  page_size e at = go e.1.contents refl
    where
      go : (c : Contents) → e.1.contents ≡ c → length (page_words (page_row 0 e.0 e.1) ++ bytes_of c) ≤ 4124
      go Console is =
          let words = page_words_size e.0 e.1 in
          let both = length-append (page_words (page_row 0 e.0 e.1)) [] in
          omega (arith, words, both)
      go (Bytes bytes) is =
          let words = page_words_size e.0 e.1 in
          let both = length-append (page_words (page_row 0 e.0 e.1)) bytes in
          let size = (sizes.whole.each (Homed e.0) bytes (ap (option_map (λ page. page.contents)) at ∙ ap some is)).size in
          omega (arith, words, both, size)

  orphan_size : (e : Place × Orphan) → At m.ledger.orphan e → length (saved_orphan e) ≤ 4112
  orphan_size e at =
      let words = orphan_words_size e.0 e.1 in
      let both = length-append (orphan_words (orphan_row 0 e.0 e.1)) e.1.bytes in
      let size = (sizes.whole.each (Orphaned e.0) e.1.bytes (ap (option_map (λ o. Bytes o.bytes)) at)).size in
      omega (arith, words, both, size)

  pages_size : length (rows_bytes saved_page (page_entries m)) ≤ 4 + (count_places m.processes (λ p. is_counted (m.ledger.home p)) + 1) * 4124
  unfolding home_places
  pages_size =
      let homes = home_places m.processes m.ledger in
      let each = rows_few saved_page 4124 (page_entries m)
      (all_by (At m.ledger.home) (λ e. length (saved_page e) ≤ 4124) page_size (page_entries m) (entries_hold m.ledger.home homes)) in
      let few = entries_few m.ledger.home homes in
      let many = length-listed_places m.processes (λ p. is_some (m.ledger.home p)) in
      let most = homes_few m.processes m.capacity m.ledger matched.body.ledger.lawful in
      omega (arith, each, few, many, most)

  orphans_size : length (rows_bytes saved_orphan (orphan_entries m)) ≤ 4 + count_places m.processes (λ p. is_some (m.ledger.orphan p)) * 4112
  unfolding orphan_places
  orphans_size =
      let places = orphan_places m.processes m.ledger in
      let each = rows_few saved_orphan 4112 (orphan_entries m)
      (all_by (At m.ledger.orphan) (λ e. length (saved_orphan e) ≤ 4112) orphan_size (orphan_entries m) (entries_hold m.ledger.orphan places)) in
      let few = entries_few m.ledger.orphan places in
      let many = length-listed_places m.processes (λ p. is_some (m.ledger.orphan p)) in
      omega (arith, each, few, many)

  within : count_places m.processes (λ p. is_counted (m.ledger.home p)) + count_places m.processes (λ p. is_some (m.ledger.orphan p)) ≤ m.capacity
  unfolding pages
  within = matched.body.ledger.lawful.within

  -- ---- how many there are

  pub threads_many : length (thread_entries m) ≤ m.processes * 31
  threads_many =
      let few = entries_few m.threads (listed_ids m.processes (λ id. is_some (m.threads id))) in
      let most = ids_few m.processes (λ id. is_some (m.threads id)) in
      omega (arith, few, most)

  pub servers_many : length (server_entries m) ≤ 64
  servers_many =
      let few = entries_few m.servers (listed_below m.next_serial (λ serial. is_some (m.servers serial))) in
      let many = length-listed_below m.next_serial (λ serial. is_some (m.servers serial)) in
      let most = matched.body.servers.few m.next_serial in
      omega (arith, few, many, most)

  pub claims_many : length (claim_entries m) ≤ 32
  claims_many =
      let few = entries_few m.claims (listed_below 32 (λ number. is_some (m.claims number))) in
      let many = length-listed_below 32 (λ number. is_some (m.claims number)) in
      let most = count_below-bound 32 (λ number. is_some (m.claims number)) in
      omega (arith, few, many, most)

  pub pages_few : length (page_entries m) ≤ m.capacity + 1
  unfolding home_places
  pages_few =
      let few = entries_few m.ledger.home (home_places m.processes m.ledger) in
      let many = length-listed_places m.processes (λ p. is_some (m.ledger.home p)) in
      let most = homes_few m.processes m.capacity m.ledger matched.body.ledger.lawful in
      let room = within in
      omega (arith, few, many, most, room)

  pub orphans_few : length (orphan_entries m) ≤ m.capacity
  unfolding orphan_places
  orphans_few =
      let few = entries_few m.ledger.orphan (orphan_places m.processes m.ledger) in
      let many = length-listed_places m.processes (λ p. is_some (m.ledger.orphan p)) in
      let room = within in
      omega (arith, few, many, room)

  -- ---- the whole

  pub saved_fits : length (saved_bytes m) ≤ room_for m.processes m.capacity
  unfolding saved_bytes saved_parts
  saved_fits =
      let parts = seven_size (machine_bytes (machine_row m)) (flat_map (saved_process m) (pids m.processes)) (rows_bytes saved_thread (thread_entries m))
      (rows_bytes saved_server (server_entries m)) (rows_bytes (saved_claim m) (claim_entries m)) (rows_bytes saved_page (page_entries m))
      (rows_bytes saved_orphan (orphan_entries m)) in
      let all = header_size (saved_parts m) in
      let one = numbers_size m in
      let two = processes_size in
      let three = threads_size in
      let four = servers_size in
      let five = claims_size in
      let six = pages_size in
      let seven = orphans_size in
      let room = within in
      omega (arith, parts, all, one, two, three, four, five, six, seven, room)
