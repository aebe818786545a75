-- The messages whose lender didn't die come back one after the other, each with its loan: what holds before and after each.
use Rattle.xk_ports.specs.declared.store.SwapStore.{Ghosts as SwapStore}
use Rattle.std.proofs.Common.{◌≡◌, ℕ, ◌+◌, ◌-◌, ◌≤◌, ◌<◌, Bool, true, false, List, length, Option, Some, None, Ok, refl, sym, ap, subst, ◌∙◌, arith, inl, inr}
use Rattle.std.specs.Prelude.{◌==◌, ◌&&◌, ◌||◌, ◌≢◌, All, is_some, slice_get, if◌then◌else◌}
use Rattle.std.specs.List.{list_any}
use Rattle.std.specs.Option.{option_and_then, option_map}
use Rattle.std.proofs.lemmas.Bool.{both_ways, cases_Bool, or_from, or_right}
use Rattle.std.proofs.lemmas.Option.{same_Some}
use Rattle.ledger_model.proofs.LedgerLemmas.{same_ledger}
use Rattle.ledger_model.proofs.Pages.BareLemmas.{bare-can_lend}
use Rattle.ledger_model.specs.Conditions.{CanLend}
use Rattle.ledger_model.specs.Ledger.{Ledger, Page}
use Rattle.ledger_model.specs.Loans.{LoanRun, IsFresh, Stands, loans}
use Rattle.ledger_model.specs.Steps.{lend}
use Rattle.loan_flags.specs.Sending.{mem_kind}
use Rattle.msg_queue.specs.Seats.{Seat, changed_at, seat_of, used_of, with_held_at, with_queued}
use Rattle.msg_queue.specs.declared.held.Held.{Held as HeldMessage}
use Rattle.snapshot_rows.proofs.KeyLemmas.{found_any}
use Rattle.suspend_image.specs.Forms.{IsPageRow}
use Rattle.snapshot_rows.specs.Machines.{ledger_page, message_of, place_at}
use Rattle.snapshot_rows.specs.Order.{page_key}
use Rattle.suspend_image.specs.Spelling.{orphan_bytes, page_bytes, rows_bytes}
use Rattle.snapshot_rows.specs.declared.state.MessageRow.{MessageRow}
use Rattle.snapshot_rows.specs.declared.state.PageRow.{PageRow}
use Rattle.snapshot_rows.specs.declared.state.ServerRow.{ServerRow}
use Rattle.snapshot_rows.specs.declared.state.State.{State}
use Rattle.vm_memory.specs.Loaning.Loans.{KeepsSeats}
use Rattle.vm_memory.specs.Loaning.Sending.{IsFreeArrival, send_answer}
use Rattle.vm_memory.specs.Memory.{ledger, processes}
use Rattle.vm_memory.specs.declared.memory.Memory.{Memory}
use Rattle.xk_base.specs.declared.ids.Place.{Place}
use Rattle.resume_path.proofs.Rows.ApartLemmas.{all_before_end, is_before, is_next, not_before, others_same}
use Rattle.resume_path.proofs.Lending.BackLemmas.{Agree, back_changed, back_same, held_again_at, place_again, queued_again, room_for}
use Rattle.resume_path.proofs.Lending.FirstLentLemmas.{first_is}
use Rattle.resume_path.proofs.Lending.LendLemmas.{next_lent}
use Rattle.resume_path.proofs.Lending.LentBackLemmas.{all_loans, can_lend_again, loans_of, no_loan_more}
use Rattle.resume_path.proofs.Rows.MessageRowLemmas.{few_messages, lender_stands, loans_before_end, no_loan_of_orphan, no_loan_of_other, none_queued, number_of, server_low, some_lent}
use Rattle.resume_path.proofs.Rows.OnceLemmas.{get_left, get_right}
use Rattle.resume_path.proofs.Orphaned.OrphanStepLemmas.{lend_comes}
use Rattle.resume_path.proofs.Orphaned.OrphansBackLemmas.{all_before, next_before, none_before}
use Rattle.resume_path.proofs.Homes.PagesBackLemmas.{keeps_over, keeps_same}
use Rattle.resume_path.proofs.Rows.RowLemmas.{each_placed, take_past}
use Rattle.resume_path.proofs.Lending.SentLemmas.{arrives, sent}
use Rattle.resume_path.specs.Coming.{HasCome, KeepsSize}
use Rattle.resume_path.specs.Messages.{AreBack, first_lent, held_row_at, is_back, is_lend_row, is_orphaned, row_held, row_kind, row_run}
use Rattle.resume_path.specs.Resumable.{IsResumable, state_ledger, state_pages}
use Rattle.resume_path.specs.Standing.{is_home_before, is_message_before, loans_before, page_among, pages_before, row_messages, standing, standing_of}

-- the pids of pages are small
pub page_pids : (file : List ℕ) (s : State) → IsResumable file s → (rows : List PageRow) → rows ≡ s.pages → All (λ (page : PageRow). page.pid < 256) rows
page_pids file s h rows same = subst (All (λ (page : PageRow). page.pid < 256)) (sym same) (λ k d low.
    let least = h.spelled.form.n.at_most in
    let pid = each_placed (IsPageRow (length file) s.n) page_key (page_bytes file) (λ (x : PageRow). x.pid ≤ s.n + 1) (λ before left x is. is.pid.at_most)
    (length (rows_bytes (orphan_bytes file) s.orphans)) None s.pages k d h.spelled.form.pages low in
    omega (arith, least, pid))

-- ---- one message

-- the loan of a lend from that place on
abbrev pub lent_run : ServerRow → MessageRow → Place → LoanRun
lent_run server row from = record {
  lender = Some from;
  holder = place_at server.pid row.first;
  count = row.count;
  kind = row_kind row;
  number = number_of row;
}

module _ (s : State) (i : ℕ) (server : ServerRow) (there : slice_get s.servers i ≡ Some server) (k : ℕ) (row : MessageRow)
    (at : slice_get (row_messages server) k ≡ Some row) where
  pub held_there : held_row_at s i k ≡ Some (row_held s.pages server.pid row)
  held_there = ap (option_and_then (λ (one : ServerRow). option_map (row_held s.pages one.pid) (slice_get (row_messages one) k))) there
      ∙ ap (option_map (row_held s.pages server.pid)) at

  -- what lends nothing is held without a loan
  pub held_alone : is_lend_row row ≡ false → (again : HeldMessage) → again ≡ record { msg = message_of row; loan = None } → held_row_at s i k ≡ Some again
  held_alone none again is =
      held_there
      ∙ ap (λ (m : HeldMessage). Some m) (ap (λ b. record { msg = message_of row; loan = if b then Some (row_run s.pages server.pid row) else None }) none
      ∙ sym is)

  pub held_lent : is_lend_row row ≡ true → is_orphaned row ≡ false → (from : Place) → first_lent s.pages row.number ≡ Some from → (again : HeldMessage)
      → again ≡ record { msg = message_of row; loan = Some (lent_run server row from) }
      → held_row_at s i k ≡ Some again
  held_lent lends apart from found again is =
      let lived : (row.sender_pid == 0) ≡ false = sym (ap (λ b. b && (row.sender_pid == 0)) lends) ∙ apart in
      held_there
      ∙ ap (λ (m : HeldMessage). Some m)
      ((λ j. record {
        msg = message_of row;
        loan = if lends j then Some (record {
          lender = if lived j then None else found j;
          holder = place_at server.pid row.first;
          count = row.count;
          kind = row_kind row;
          number = number_of row;
        }) else None;
      }) ∙ sym is)

-- the messages before the k-th of the i-th server are back, and all whose lender died
pub record AreLentTo {W : Type 0} (S : SwapStore W) (file : List ℕ) (s : State)
    (old now : Memory W) (queues : List Seat) (i k : ℕ) : Type 0 where
  pub come : HasCome S (state_pages file s) now (standing_of file s (loans_before s.servers i k))
  pub back : AreBack s (is_back s.servers i k) queues
  pub keeps : KeepsSize S old now

module _ {W : Type 0} (S : SwapStore W) (file : List ℕ) (s : State)
    (h : IsResumable file s) where
  abbrev Keeps : Memory W → Memory W → Type 0
  Keeps old new = KeepsSize S old new

  abbrev Comes : Memory W → Ledger → Type 0
  Comes m l = HasCome S (state_pages file s) m l

  abbrev whole : Ledger
  whole = state_ledger file s

  module _ (i : ℕ) (server : ServerRow) (there : slice_get s.servers i ≡ Some server) (k : ℕ) (row : MessageRow)
      (at : slice_get (row_messages server) k ≡ Some row) where
    -- no loan has the number of a message that lends nothing, or whose lender died
    same_alone : is_lend_row row ≡ false → standing_of file s (loans_before s.servers i (k + 1)) ≡ standing_of file s (loans_before s.servers i k)
    same_alone none = ap (λ f. standing (loans_of f) whole) (next_before s i server there k row at)
        ∙ no_loan_more whole (is_message_before s.servers i k) (number_of row) (no_loan_of_other file s h i server there k row at none)

    same_orphaned : is_orphaned row ≡ true → standing_of file s (loans_before s.servers i (k + 1)) ≡ standing_of file s (loans_before s.servers i k)
    same_orphaned dead = ap (λ f. standing (loans_of f) whole) (next_before s i server there k row at)
        ∙ no_loan_more whole (is_message_before s.servers i k) (number_of row) (no_loan_of_orphan file s h i server there k row at dead)

    pub alone_comes : is_lend_row row ≡ false → (m : Memory W) → Comes m (standing_of file s (loans_before s.servers i k))
        → Comes m (standing_of file s (loans_before s.servers i (k + 1)))
    alone_comes none m come = subst (Comes m) (sym (same_alone none)) come

    -- ---- a lend

    -- its pages begin at the first page that is on loan by its number
    lender_first : is_lend_row row ≡ true → is_orphaned row ≡ false → (lender : Place)
        → Stands (loans whole) (lent_run server row lender)
        → first_lent s.pages row.number ≡ Some lender
    lender_first lends apart lender stands =
        first_is file s h (lent_run server row lender) lender refl stands
        (some_lent file s h i server there k row at lends)

    pub lender_found : is_lend_row row ≡ true → is_orphaned row ≡ false → is_some (first_lent s.pages row.number) ≡ true
    lender_found lends apart =
        let lender = lender_stands file s h i server there k row at lends apart in ap is_some (lender_first lends apart lender.0 lender.1)

    -- .. which is a page of its sender's process
    pub lender_is : is_lend_row row ≡ true → is_orphaned row ≡ false → (from : Place) → first_lent s.pages row.number ≡ Some from
        → from.pid.0 ≡ row.sender_pid
    lender_is lends apart from found =
        let lender = lender_stands file s h i server there k row at lends apart in
        ap (λ (p : Place). p.pid.0) (same_Some from lender.0 (sym found ∙ lender_first lends apart lender.0 lender.1))
        ∙ lender.2

    module _ (lends : is_lend_row row ≡ true) (apart : is_orphaned row ≡ false) (from : Place) (found : first_lent s.pages row.number ≡ Some from)
        (old : Memory W) (procs : processes old ≡ s.n)
        (come : Comes old (standing_of file s (loans_before s.servers i k))) where
      abbrev to : Place
      to = place_at server.pid row.first

      stands : Stands (loans whole) (lent_run server row from)
      stands =
          let lender = lender_stands file s h i server there k row at lends apart in
          let same : lender.0 ≡ from = same_Some lender.0 from (sym (lender_first lends apart lender.0 lender.1) ∙ found) in
          subst (λ (p : Place). Stands (loans whole) (lent_run server row p))
          same lender.1

      not_yet : is_message_before s.servers i k row.number ≡ false
      not_yet = not_before file s h i server there k k row (omega arith) at

      can : CanLend s.n (ledger S.held old) from row.count to (row_kind row) (number_of row)
      can = bare-can_lend s.n (standing_of file s (loans_before s.servers i k)) (ledger S.held old) come.rights from row.count to (row_kind row) (number_of row)
          (can_lend_again s.n s.cap whole h.matched.body.ledger.lawful (is_message_before s.servers i k) from row.count to (row_kind row) (number_of row) stands
          not_yet)

      pub lent_sent : send_answer (processes old) (ledger S.held old) from row.count (mem_kind (row_kind row)) ≡ Ok tt
      lent_sent = ap (λ n. send_answer n (ledger S.held old) from row.count (mem_kind (row_kind row))) procs
          ∙ sent s.n (ledger S.held old) from row.count to (row_kind row) (number_of row) can

      pub lent_arrive : IsFreeArrival (processes old) (ledger S.held old) to row.count
      lent_arrive = subst (λ n. IsFreeArrival n (ledger S.held old) to row.count) (sym procs)
          (arrives s.n (ledger S.held old) from row.count to (row_kind row) (number_of row) can)

      pub lent_fresh : IsFresh (loans (ledger S.held old)) (number_of row)
      lent_fresh = can.fresh

      pub lent_comes : (new : Memory W) → KeepsSeats S old new
          → ledger S.held new ≡ lend from row.count to (row_kind row) (number_of row) (ledger S.held old)
          → Comes new (standing_of file s (loans_before s.servers i (k + 1)))
      lent_comes new keeps is =
          subst (Comes new)
          (sym (next_lent whole (loans_of (is_message_before s.servers i k)) from row.count to (row_kind row) (number_of row) stands (λ p. refl))
          ∙ ap (λ f. standing (loans_of f) whole) (sym (next_before s i server there k row at)))
          (lend_comes S old new keeps (state_pages file s) (standing_of file s (loans_before s.servers i k)) come
          from row.count to (row_kind row) (number_of row) is)

  -- ---- the loops

  abbrev To : Memory W → Memory W → List Seat → ℕ → ℕ → Type 0
  To old now queues i k = AreLentTo S file s old now queues i k

  no_home : (o : Option Page) (b : Bool) → is_some o ≡ b → option_map (page_among (λ number. false)) o
      ≡ (if b then option_map (page_among (λ number. false)) o else None)
  no_home o true e = refl
  no_home None false e = refl
  no_home (Some page) false e = absurd cc

  all_homes : standing (loans_of (λ number. false)) whole ≡ standing (pages_before s.pages (length s.pages)) whole
  unfolding standing
  all_homes = same_ledger (standing (loans_of (λ number. false)) whole) (standing (pages_before s.pages (length s.pages)) whole)
      (λ p. no_home (whole.home p) (is_home_before s.pages (length s.pages) p) (
      found_any (ledger_page file) (λ (page : PageRow). page.pid == p.pid.0 && page.page == p.vpn.0) s.pages
      ∙ ap (list_any (λ (page : PageRow). page.pid == p.pid.0 && page.page == p.vpn.0)) (sym (take_past (length s.pages) s.pages (omega arith)))
      ))
      (λ p. refl)

  pub lent_none : (m : Memory W) (queues : List Seat) → Comes m (standing_of file s (pages_before s.pages (length s.pages))) → AreBack s is_orphaned queues
      → To m m queues 0 0
  lent_none m queues come back = record {
    come = subst (Comes m) (sym (ap (λ f. standing (loans_of f) whole) (none_before s.servers) ∙ all_homes)) come;
    back = back_same s is_orphaned (is_back s.servers 0 0) queues back (λ j other there l y e.
        ap (λ b. is_orphaned y || b) (λ n. none_before s.servers n y.number) ∙ or_false (is_orphaned y));
    keeps = keeps_same S m;
  }
    where
      or_false : (b : Bool) → (b || false) ≡ b
      or_false true = refl
      or_false false = refl

  module _ (i : ℕ) (server : ServerRow) (there : slice_get s.servers i ≡ Some server) (old : Memory W) where
    pub lent_server : (now : Memory W) (queues : List Seat) (k : ℕ) → length (row_messages server) ≤ k → To old now queues i k → To old now queues (i + 1) 0
    lent_server now queues k all to =
        let same = all_before s i server there k all in
        record {
          come = subst (λ f. Comes now (standing (loans_of f) whole)) (sym same) to.come;
          back = subst (λ (f : ℕ → Bool). AreBack s (λ m. is_orphaned m || f m.number) queues) (sym same) to.back;
          keeps = to.keeps;
        }

    module _ (k : ℕ) (row : MessageRow) (at : slice_get (row_messages server) k ≡ Some row) where
      abbrev before : MessageRow → Bool
      before = is_back s.servers i k

      abbrev after : MessageRow → Bool
      after = is_back s.servers i (k + 1)

      same_other : (j l : ℕ) (other : ServerRow) (y : MessageRow) → slice_get s.servers j ≡ Some other → slice_get (row_messages other) l ≡ Some y
          → ((j ≡ i) → (l ≡ k) → ⊥) → after y ≡ before y
      same_other j l other y to e differ = ap (λ b. is_orphaned y || b) (others_same file s h i server there k row at j l other y to e differ)

      -- one whose lender died is there before
      pub lent_skipped : is_orphaned row ≡ true → (now : Memory W) (queues : List Seat) → To old now queues i k → To old now queues i (k + 1)
      lent_skipped dead now queues to = record {
        come = subst (Comes now) (sym (same_orphaned i server there k row at dead)) to.come;
        back = back_same s before after queues to.back (λ j other there_too l y e. agree j other there_too l y e);
        keeps = to.keeps;
      }
        where
          agree : (j : ℕ) (other : ServerRow) → slice_get s.servers j ≡ Some other → Agree before after other
          agree j other there_too l y e = elim (cases_Bool (is_orphaned y)) [
            | inl is ↦ (λ m. is m || is_message_before s.servers i (k + 1) y.number) ∙ sym (λ m. is m || is_message_before s.servers i k y.number)
            | inr isnt ↦ same_other j l other y there_too e (λ same_server same_place.
                let server_is : other ≡ server = same_Some other server (sym there_too ∙ (ap (slice_get s.servers) same_server ∙ there)) in
                let row_is : y ≡ row =
                same_Some y row (sym e ∙ (ap (λ (x : ServerRow). slice_get (row_messages x) l) server_is
                ∙ (ap (slice_get (row_messages server)) same_place ∙ at))) in
                both_ways (is_orphaned y) isnt (ap is_orphaned row_is ∙ dead))
          ]

      module _ (apart : is_orphaned row ≡ false) (now : Memory W) (queues : List Seat) (to : To old now queues i k) where
        not_back : before row ≡ false
        not_back = or_from (is_orphaned row) (is_message_before s.servers i k row.number) apart (not_before file s h i server there k k row (omega arith) at)

        is_after : after row ≡ true
        is_after = or_right (is_orphaned row) (is_message_before s.servers i (k + 1) row.number) (is_next file s h i server there k row at)

        same_here : (l : ℕ) (y : MessageRow) → slice_get (row_messages server) l ≡ Some y → l ≢ k → after y ≡ before y
        same_here l y e differ = same_other i l server y there e (λ same_server same_place. differ same_place)

        same_there : (j : ℕ) (other : ServerRow) → j ≢ i → slice_get s.servers j ≡ Some other → Agree before after other
        same_there j other differ there_too l y e = same_other j l other y there_too e (λ same_server same_place. differ same_server)

        pub lent_room : used_of (seat_of queues i) < 128
        lent_room =
            room_for s before after queues to.back i (server_low file s h i server there) server there k row at not_back (few_messages file s h i server there)

        held_before : (l : ℕ) (y : MessageRow) → slice_get server.held l ≡ Some y → l < k - length server.queued → before y ≡ true
        held_before l y e low =
            or_right (is_orphaned y) (is_message_before s.servers i k y.number)
            (is_before s.servers i server there k (length server.queued + l) y (omega (arith, low)) (get_right server.queued server.held l ∙ e))

        -- the place of a held one
        pub lent_place : length server.queued ≤ k → k - length server.queued ≤ length (seat_of queues i).held
        lent_place second =
            place_again s before after queues to.back i (server_low file s h i server there) server there k row at not_back is_after same_here second
            held_before

        module _ (new : Memory W) (next : List Seat) (again : HeldMessage) (keeps : Keeps now new)
            (come : Comes new (standing_of file s (loans_before s.servers i (k + 1))))
            (is : again ≡ row_held s.pages server.pid row) where
          pub lent_queued : k < length server.queued → next ≡ changed_at i (with_queued again) queues → To old new next i (k + 1)
          lent_queued first changed = record {
            come = come;
            back = subst (AreBack s after) (sym (changed ∙ ap (λ (m : HeldMessage). changed_at i (with_queued m) queues) is))
                (back_changed s before after queues to.back i (server_low file s h i server there) server there (with_queued (row_held s.pages server.pid row))
                (queued_again s before after queues to.back i (server_low file s h i server there) server there k row at not_back is_after same_here first
                behind) same_there);
            keeps = keeps_over S old now new to.keeps keeps;
          }
            where
              behind : (l : ℕ) (y : MessageRow) → slice_get server.queued l ≡ Some y → k ≤ l → before y ≡ false
              behind l y e high =
                  or_from (is_orphaned y) (is_message_before s.servers i k y.number) (none_queued file s h i server there l y e)
                  (not_before file s h i server there k l y high (get_left server.queued server.held l y e))

          pub lent_held : length server.queued ≤ k → next ≡ changed_at i (with_held_at (k - length server.queued) again) queues → To old new next i (k + 1)
          lent_held second changed = record {
            come = come;
            back = subst (AreBack s after) (sym (changed ∙ ap (λ (m : HeldMessage). changed_at i (with_held_at (k - length server.queued) m) queues) is))
                (back_changed s before after queues to.back i (server_low file s h i server there) server there
                (with_held_at (k - length server.queued) (row_held s.pages server.pid row))
                (held_again_at s before after queues to.back i (server_low file s h i server there) server there k row at not_back is_after same_here second
                held_before) same_there);
            keeps = keeps_over S old now new to.keeps keeps;
          }

  -- ---- all servers

  module _ (old now : Memory W) (queues : List Seat) (i : ℕ) (end : i ≡ length s.servers) (to : To old now queues i 0) where
    pub all_come : Comes now whole
    all_come = subst (Comes now)
        (ap (λ n. standing_of file s (loans_before s.servers n 0)) end ∙ all_loans whole (is_message_before s.servers (length s.servers) 0)
        (loans_before_end file s h))
        to.come

    pub all_back : AreBack s (λ row. true) queues
    all_back = back_same s (is_back s.servers i 0) (λ row. true) queues to.back (λ j other there l y e.
        sym (or_right (is_orphaned y) (is_message_before s.servers i 0 y.number)
        (ap (λ n. is_message_before s.servers n 0 y.number) end ∙ all_before_end file s h j l other y there e)))
