-- The messages whose lender died come back one after the other, each with its orphans.
use Rattle.xk_ports.specs.declared.store.SwapStore.{Ghosts as SwapStore}
use Rattle.std.proofs.Common.{◌≡◌, ℕ, ◌+◌, ◌^◌, ◌≤◌, ◌<◌, Bool, true, false, List, length, get_or, Some, None, Ok, refl, sym, ap, subst, ◌∙◌, arith, inl, inr}
use Rattle.std.specs.Prelude.{◌==◌, IfSome, is_some, slice_get, if◌then◌else◌}
use Rattle.std.specs.Option.{option_and_then, option_map}
use Rattle.std.proofs.lemmas.Bool.{and_parts, cases_lt}
use Rattle.std.proofs.lemmas.Option.{slice_get_past, slice_get_read}
use Rattle.ledger_model.proofs.Pages.BareLemmas.{bare-free}
use Rattle.ledger_model.proofs.Stepping.WritingLemmas.{bare-loans, bare-pages}
use Rattle.ledger_model.specs.Conditions.{CanLend}
use Rattle.ledger_model.specs.Lawful.{IsLawful}
use Rattle.ledger_model.specs.Ledger.{Bytes, Ledger, pages}
use Rattle.ledger_model.specs.Loans.{IsFresh, LoanRun, Stands, bare, loans}
use Rattle.ledger_model.specs.Places.{in_run, place_after}
use Rattle.ledger_model.specs.Steps.{lend, make, new_page, orphan_loan, zero_page}
use Rattle.loan_flags.specs.Sending.{mem_kind}
use Rattle.snapshot_rows.specs.Machines.{place_at}
use Rattle.snapshot_rows.specs.declared.state.MessageRow.{MessageRow}
use Rattle.snapshot_rows.specs.declared.state.ServerRow.{ServerRow}
use Rattle.snapshot_rows.specs.declared.state.State.{State}
use Rattle.vm_memory.proofs.Changing.CrowdedLemmas.{make_bare}
use Rattle.vm_memory.specs.Loaning.Sending.{IsFreeArrival, send_answer}
use Rattle.vm_memory.specs.Memory.{capacity_of, ledger, processes, room_in}
use Rattle.vm_memory.specs.Pages.Making.{make_answer}
use Rattle.vm_memory.specs.declared.memory.Memory.{Memory}
use Rattle.xk_base.specs.Tables.Circle.{is_pid}
use Rattle.xk_base.specs.declared.ids.Place.{Place}
use Rattle.xk_base.specs.declared.windows.Window.TheVariants.{Map}
use Rattle.resume_path.proofs.Rows.ApartLemmas.{before_all, before_more, before_none, not_before}
use Rattle.resume_path.proofs.Lending.LendLemmas.{and_number}
use Rattle.resume_path.proofs.Rows.MessageRowLemmas.{number_of, orphan_stands, some_lent}
use Rattle.resume_path.proofs.Orphaned.OrphanBackLemmas.{can_lend_filled, few, free_now, made, made_keeps, orphan_there, orphans_back, process, room}
use Rattle.resume_path.proofs.Orphaned.OrphanStepLemmas.{come_lawful}
use Rattle.resume_path.proofs.Homes.PageRowLemmas.{still_made}
use Rattle.resume_path.proofs.Lending.SentLemmas.{arrives, sent}
use Rattle.resume_path.specs.Coming.{HasCome}
use Rattle.resume_path.specs.Messages.{first_lent, is_lend_row, is_orphaned, row_at, row_kind, row_run, run_at}
use Rattle.resume_path.specs.Resumable.{IsResumable, state_ledger, state_pages}
use Rattle.resume_path.specs.Standing.{IsHomeOf, filling_right, is_message_before, orphans_before, orphans_of, row_messages, standing, standing_of, with_orphan_pages}

-- ---- the rows as a loop reads them

pub server_within : (s : State) (i k : ℕ) → is_some (row_at s i k) ≡ true → i < length s.servers
server_within s i k is = elim (cases_lt i (length s.servers)) [
  | inl within ↦ within
  | inr past ↦
      absurd (no (sym (ap (λ o. is_some (option_and_then (λ (server : ServerRow). slice_get (row_messages server) k) o)) (slice_get_past s.servers i past))
      ∙ is))
]
  where
    no : false ≡ true → ⊥
    no e = absurd cc

pub server_read : (s : State) (i : ℕ) (rows : List ServerRow) (server : ServerRow) → rows ≡ s.servers → i < length s.servers → server ≡ get_or rows i server
    → slice_get s.servers i ≡ Some server
server_read s i rows server same within is =
    slice_get_read s.servers (length s.servers) i server refl within (is ∙ ap (λ (xs : List ServerRow). get_or xs i server) same)

pub server_there : (s : State) (i k : ℕ) (rows : List ServerRow) (server : ServerRow) → is_some (row_at s i k) ≡ true → rows ≡ s.servers
    → server ≡ get_or rows i server
    → slice_get s.servers i ≡ Some server
server_there s i k rows server some same is = server_read s i rows server same (server_within s i k some) is

module _ (s : State) (i : ℕ) (server : ServerRow) (there : slice_get s.servers i ≡ Some server) (k : ℕ) where
  row_is : row_at s i k ≡ slice_get (row_messages server) k
  row_is = ap (option_and_then (λ (one : ServerRow). slice_get (row_messages one) k)) there

  pub row_within : is_some (row_at s i k) ≡ true → k < length (row_messages server)
  row_within is = elim (cases_lt k (length (row_messages server))) [
    | inl within ↦ within
    | inr past ↦ absurd (no (sym (ap is_some (row_is ∙ slice_get_past (row_messages server) k past)) ∙ is))
  ]
    where
      no : false ≡ true → ⊥
      no e = absurd cc

  module _ (row : MessageRow) (at : slice_get (row_messages server) k ≡ Some row) where
    pub row_there : row_at s i k ≡ Some row
    row_there = row_is ∙ at

    pub row_says : (P : MessageRow → Type 0) → IfSome (row_at s i k) P → P row
    row_says P says = subst (λ o. IfSome o P) row_there says

    pub row_said : (P : MessageRow → Type 0) → P row → IfSome (row_at s i k) P
    row_said P says = subst (λ o. IfSome o P) (sym row_there) says

    pub run_there : run_at s i k ≡ Some (row_run s.pages server.pid row)
    run_there = ap (option_and_then (λ (one : ServerRow). option_map (row_run s.pages one.pid) (slice_get (row_messages one) k))) there
        ∙ ap (option_map (row_run s.pages server.pid)) at

    pub next_before : is_message_before s.servers i (k + 1) ≡ and_number (is_message_before s.servers i k) (number_of row)
    next_before = λ j number. before_more s.servers i server there k row at number j

  pub all_before : length (row_messages server) ≤ k → is_message_before s.servers (i + 1) 0 ≡ is_message_before s.servers i k
  all_before all = λ j number. before_all s.servers i server there k all number j

pub none_before : (servers : List ServerRow) → is_message_before servers 0 0 ≡ (λ number. false)
none_before servers = λ j number. before_none servers number j

-- ---- the orphans of one message

module _ {W : Type 0} (S : SwapStore W)
    (file : List ℕ) (s : State) (h : IsResumable file s) (i : ℕ) (server : ServerRow) (there : slice_get s.servers i ≡ Some server)
    (k : ℕ) (row : MessageRow) (at : slice_get (row_messages server) k ≡ Some row) (orphaned : is_orphaned row ≡ true)
    (old : Memory W) (procs : processes old ≡ s.n) (cap : capacity_of old ≡ s.cap)
    (come : HasCome S (state_pages file s) old (standing_of file s (orphans_before s.servers i k)))
    (from : Place) (own : from.pid.0 ≡ server.pid) (first : from.vpn.0 ≡ 0x60000) where
  abbrev whole : Ledger
  whole = state_ledger file s

  abbrev so_far : ℕ → Bool
  so_far = is_message_before s.servers i k

  abbrev now : Ledger
  now = standing_of file s (orphans_before s.servers i k)

  abbrev to : Place
  to = place_at server.pid row.first

  abbrev made_now : Ledger
  made_now = make from row.count filling_right now

  abbrev filled_now : Ledger
  filled_now = with_orphan_pages whole from row.count to now

  stands : Stands (loans whole) (record { lender = None; holder = to; count = row.count; kind = row_kind row; number = number_of row })
  stands = orphan_stands file s h i server there k row at orphaned

  pub some : 1 ≤ row.count
  some = some_lent file s h i server there k row at (and_parts (is_lend_row row) (row.sender_pid == 0) orphaned).0

  not_yet : so_far row.number ≡ false
  not_yet = not_before file s h i server there k k row (omega arith) at

  pub orphans_process : is_pid (processes old) from.pid.0 ≡ true
  orphans_process =
      ap (λ n. is_pid n from.pid.0) procs
      ∙ process s.n s.cap whole h.matched.body.ledger.lawful so_far from row.count to (row_kind row) (number_of row) stands some not_yet own first

  fits_whole : pages s.n now + row.count ≤ pages s.n whole
  fits_whole = room s.n s.cap whole h.matched.body.ledger.lawful so_far from row.count to (row_kind row) (number_of row) stands some not_yet own first

  fits_cap : pages s.n now + row.count ≤ s.cap
  fits_cap = let fits = fits_whole in let within = h.matched.body.ledger.lawful.within in omega (arith, fits, within)

  pub orphans_fit : pages (processes old) now + row.count ≤ state_pages file s
  orphans_fit = let fits = fits_whole in let same : pages (processes old) now ≡ pages s.n now = ap (λ n. pages n now) procs in omega (arith, fits, same)

  pub orphans_fit_now : pages (processes old) (ledger S.held old) + row.count ≤ state_pages file s
  orphans_fit_now = let fits = orphans_fit in let same = bare-pages (processes old) now (ledger S.held old) come.rights in omega (arith, fits, same)

  pub orphans_served : make_answer (room_in old) (ledger S.held old) from.pid Map (Some from.vpn) row.count ≡ Ok from.vpn
  orphans_served =
      let same = bare-pages s.n now (ledger S.held old) come.rights in
      let fits = fits_cap in
      (λ j. make_answer (record { procs = procs j; capacity = cap j }) (ledger S.held old) from.pid Map (Some from.vpn) row.count)
      ∙ made s.n s.cap whole h.matched.body.ledger.lawful so_far from row.count to (row_kind row) (number_of row) stands some not_yet own first
      (ledger S.held old)
      (λ p inside. bare-free s.n now (ledger S.held old) p come.rights
      ∙ free_now s.n s.cap whole h.matched.body.ledger.lawful so_far from row.count to (row_kind row) (number_of row) stands some not_yet own first p inside)
      (omega (arith, same, fits))

  pub orphans_low : from.vpn.0 + row.count < 2 ^ 32
  orphans_low =
      let limit = few s.n s.cap whole h.matched.body.ledger.lawful so_far from row.count to (row_kind row) (number_of row) stands some not_yet own first in
      omega (arith, limit, first)

  pub orphans_there : (j : ℕ) → j < row.count → is_some (whole.orphan (place_after to j)) ≡ true
  orphans_there j low =
      orphan_there s.n s.cap whole h.matched.body.ledger.lawful so_far from row.count to (row_kind row) (number_of row) stands some not_yet own first j low

  -- once the pages are made
  module _ (mid : Memory W) (rights : bare (ledger S.held mid) ≡ bare (make from row.count filling_right (ledger S.held old))) where
    made_alike : bare (ledger S.held mid) ≡ bare made_now
    made_alike = rights ∙ make_bare from row.count filling_right now (ledger S.held old) come.rights

    pub made_loans : loans (ledger S.held mid) ≡ loans (ledger S.held old)
    made_loans =
        bare-loans made_now (ledger S.held mid) made_alike
        ∙ (made_keeps s.n s.cap whole h.matched.body.ledger.lawful so_far from row.count to (row_kind row) (number_of row) stands some not_yet own first
        ∙ sym (bare-loans now (ledger S.held old) come.rights))

    new_home : (p : Place) → in_run from row.count p ≡ true → IsHomeOf made_now p filling_right
    unfolding make
    new_home p inside = record {
      page = new_page filling_right (Bytes zero_page);
      there = ap (λ b. if b then Some (new_page filling_right (Bytes zero_page)) else now.home p) inside;
      its_right = refl;
      no_loan = refl;
      bytes = refl;
    }

    pub made_homes : (p : Place) → in_run from row.count p ≡ true → IsHomeOf (ledger S.held mid) p filling_right
    made_homes p inside = still_made made_now (ledger S.held mid) p filling_right made_alike (new_home p inside)

  -- once they are filled
  module _ (full : Memory W) (full_procs : processes full ≡ s.n) (full_come : HasCome S (state_pages file s) full filled_now) where
    can : CanLend s.n (ledger S.held full) from row.count to (row_kind row) (number_of row)
    can = can_lend_filled s.n s.cap whole h.matched.body.ledger.lawful so_far from row.count to (row_kind row) (number_of row) stands some not_yet own first
        (ledger S.held full) full_come.rights

    pub orphans_sent : send_answer (processes full) (ledger S.held full) from row.count (mem_kind (row_kind row)) ≡ Ok tt
    orphans_sent = ap (λ n. send_answer n (ledger S.held full) from row.count (mem_kind (row_kind row))) full_procs
        ∙ sent s.n (ledger S.held full) from row.count to (row_kind row) (number_of row) can

    pub orphans_arrive : IsFreeArrival (processes full) (ledger S.held full) to row.count
    orphans_arrive = subst (λ n. IsFreeArrival n (ledger S.held full) to row.count) (sym full_procs)
        (arrives s.n (ledger S.held full) from row.count to (row_kind row) (number_of row) can)

    pub orphans_fresh : IsFresh (loans (ledger S.held full)) (number_of row)
    orphans_fresh = can.fresh

  -- .. lent, and without their lender
  pub orphans_come : (new : Memory W) (n : ℕ) → n ≡ s.n
      → HasCome S (state_pages file s) new
      (orphan_loan n (number_of row) (lend from row.count to (row_kind row) (number_of row) filled_now))
      → HasCome S (state_pages file s) new (standing_of file s (orphans_before s.servers i (k + 1)))
  orphans_come new n is =
      let lawful_now = subst (λ m. IsLawful m (capacity_of old) now) procs (come_lawful S (state_pages file s) old now come) in
      let fits = fits_cap in
      let target : orphan_loan n (number_of row) (lend from row.count to (row_kind row) (number_of row) filled_now)
      ≡ standing_of file s (orphans_before s.servers i (k + 1)) =
      ap (λ m. orphan_loan m (number_of row) (lend from row.count to (row_kind row) (number_of row) filled_now)) is
      ∙ (orphans_back s.n s.cap whole h.matched.body.ledger.lawful so_far from row.count to (row_kind row) (number_of row) stands some not_yet own first
      (capacity_of old) lawful_now (omega (arith, fits, cap))
      ∙ ap (λ f. standing (orphans_of f) whole) (sym (next_before s i server there k row at))) in
      λ done. subst (HasCome S (state_pages file s) new) target done

  -- the loan that its message has
  pub orphans_run : (loan : LoanRun) → loan ≡ record { lender = None; holder = to; count = row.count; kind = row_kind row; number = number_of row }
      → run_at s i k ≡ Some loan
  orphans_run loan is =
      let dead = (and_parts (is_lend_row row) (row.sender_pid == 0) orphaned).1 in
      run_there s i server there k row at
      ∙ ap (λ (r : LoanRun). Some r)
      (ap (λ b. record {
        lender = if b then None else first_lent s.pages row.number;
        holder = to;
        count = row.count;
        kind = row_kind row;
        number = number_of row;
      }) dead ∙ sym is)
