-- What the form and the matching of a state say of one of its messages, and of the server that has it.
use Rattle.std.proofs.Common.{◌≡◌, ℕ, ◌+◌, ◌≤◌, ◌<◌, Bool, true, false, ◌&&◌, List, length, map, take, get_or, Option, Some, None, refl, sym, ap, subst, ◌∙◌, arith, inl, inr}
use Rattle.std.specs.Prelude.{◌==◌, not, is_some, slice_get, All, if◌then◌else◌}
use Rattle.std.specs.List.{count_by, find, flat_map, list_any}
use Rattle.std.specs.Option.{option_map, unwrap_or}
use Rattle.std.proofs.lemmas.Bool.{and_parts, both_ways, cases_Bool, eqb-false, eqb-true, false_from_ne_true, leb-true, or_cases, or_parts, true≢false}
use Rattle.std.proofs.lemmas.List.{length-map, map-append}
use Rattle.std.proofs.lemmas.List.Elements.{All-append, All-from_recursion}
use Rattle.std.proofs.lemmas.List.Sums.{sum_by-append}
use Rattle.std.proofs.lemmas.Option.{get_or_from_slice_get, same_Some, slice_get-map, slice_get_within}
use Rattle.ledger_model.proofs.LedgerLemmas.{cases_Option}
use Rattle.ledger_model.proofs.Loans.OfNumberLemmas.{loan_of_run-None, of_number-Some, orphan_of_number-Some, orphan_of_run-lent}
use Rattle.ledger_model.specs.Ledger.{Ledger, Orphan, PageLoan, loan_at}
use Rattle.ledger_model.specs.Loans.{IsFresh, LoanRun, Stands, loan_of_orphan, loans, of_number, orphan_loan_at, orphan_of_number}
use Rattle.machine_model.specs.Messaging.MessageCounts.{HasOne}
use Rattle.machine_model.specs.Messaging.Messages.{is_lend, is_lend_of, loan_kind}
use Rattle.machine_model.specs.Runs.Matched.{IsLendMatched, IsMessageLent, IsOnLoan}
use Rattle.machine_model.specs.State.Servers.{messages_of}
use Rattle.snapshot_rows.proofs.KeyLemmas.{number_is, number_own}
use Rattle.suspend_image.proofs.OrderLemmas.{servers_ascend}
use Rattle.snapshot_matching.proofs.ServerRows.ServerLemmas.{few_told}
use Rattle.snapshot_matching.proofs.ServerRows.TotalLemmas.{listed, one_total, total}
use Rattle.suspend_image.specs.Forms.{IsField, IsMessageRow, IsServerRow}
use Rattle.snapshot_rows.specs.Machines.{message_of, place_at, sender_of, server_of, servers_of, thread_at_id}
use Rattle.snapshot_rows.specs.Order.{after, server_key}
use Rattle.snapshot_rows.specs.declared.state.MessageRow.{MessageRow}
use Rattle.snapshot_rows.specs.declared.state.ServerRow.{ServerRow}
use Rattle.snapshot_rows.specs.declared.state.State.{State}
use Rattle.xk_base.specs.Calls.Kinds.{is_answered, kind_at}
use Rattle.xk_base.specs.declared.ids.Number.{Number}
use Rattle.xk_base.specs.declared.ids.Pid.{Pid}
use Rattle.xk_base.specs.declared.ids.Place.{Place}
use Rattle.xk_base.specs.declared.messages.MsgKind.TheVariants.{LendMut, Lend, Move, Scalar, BlockingScalar}
use Rattle.xk_base.specs.declared.pages.LoanKind.TheVariants.{Shared, Exclusive}
use Rattle.resume_path.proofs.Rows.ApartLemmas.{is_earlier, numbers_apart}
use Rattle.resume_path.proofs.Rows.OnceLemmas.{any_counted, any_in_rows}
use Rattle.resume_path.proofs.Rows.RowLemmas.{each_in_order, found_own, take_past}
use Rattle.resume_path.specs.Messages.{is_lend_row, is_orphaned, row_kind}
use Rattle.resume_path.specs.Resumable.{IsResumable, state_ledger}
use Rattle.resume_path.specs.Standing.{is_message_before, row_messages}

-- ---- kinds

abbrev pub number_of : MessageRow → Number
number_of row = record { 0 = row.number }

lend_kind : (row : MessageRow) → is_lend_row row ≡ true → loan_kind (message_of row).kind ≡ Some (row_kind row)
lend_kind row e = elim (or_cases (row.kind == 1) (row.kind == 2) e) [
  | inl one ↦ by_kind row.kind 1 (eqb-true row.kind 1 one) refl
  | inr two ↦ by_kind row.kind 2 (eqb-true row.kind 2 two) refl
]
  where
    by_kind : (k n : ℕ) → k ≡ n → loan_kind (unwrap_or (kind_at n) Scalar) ≡ Some (if n == 2 then Shared else Exclusive)
        → loan_kind (unwrap_or (kind_at k) Scalar) ≡ Some (if k == 2 then Shared else Exclusive)
    by_kind k n same is = subst (λ (m : ℕ). loan_kind (unwrap_or (kind_at m) Scalar) ≡ Some (if m == 2 then Shared else Exclusive)) (sym same) is

lend_answered : (row : MessageRow) → is_lend_row row ≡ true → is_answered (message_of row).kind ≡ true
lend_answered row e = elim (or_cases (row.kind == 1) (row.kind == 2) e) [
  | inl one ↦ by_kind row.kind 1 (eqb-true row.kind 1 one) refl
  | inr two ↦ by_kind row.kind 2 (eqb-true row.kind 2 two) refl
]
  where
    by_kind : (k n : ℕ) → k ≡ n → is_answered (unwrap_or (kind_at n) Scalar) ≡ true → is_answered (unwrap_or (kind_at k) Scalar) ≡ true
    by_kind k n same is = subst (λ (m : ℕ). is_answered (unwrap_or (kind_at m) Scalar) ≡ true) (sym same) is

no_lend_kind : (row : MessageRow) → is_lend_row row ≡ false → is_lend (message_of row).kind ≡ false
no_lend_kind row e =
    let both = or_parts (row.kind == 1) (row.kind == 2) e in
    go (row.kind == 1) (row.kind == 2) (row.kind == 3) (row.kind == 4) (row.kind == 5) both.0 both.1
  where
    go : (a b c d f : Bool) → a ≡ false → b ≡ false
        → is_lend (unwrap_or (if a then Some LendMut else (if b then Some Lend else
        (if c then Some Move else (if d then Some Scalar else (if f then Some BlockingScalar else None))))) Scalar) ≡ false
    go true b c d f p q = absurd (true≢false p)
    go false true c d f p q = absurd (true≢false q)
    go false false true d f p q = refl
    go false false false true f p q = refl
    go false false false false true p q = refl
    go false false false false false p q = refl

kind_known : (k : ℕ) → 1 ≤ k → k ≤ 5 → is_some (kind_at k) ≡ true
kind_known k low high = elim (cases_Bool (k == 1)) [
  | inl e ↦ rw e refl
  | inr a ↦ rw a (elim (cases_Bool (k == 2)) [
    | inl e ↦ rw e refl
    | inr b ↦ rw b (elim (cases_Bool (k == 3)) [
      | inl e ↦ rw e refl
      | inr c ↦ rw c (elim (cases_Bool (k == 4)) [
        | inl e ↦ rw e refl
        | inr d ↦ rw d (elim (cases_Bool (k == 5)) [
          | inl e ↦ rw e refl
          | inr f ↦
              let one = eqb-false k 1 a in
              let two = eqb-false k 2 b in
              let three = eqb-false k 3 c in
              let four = eqb-false k 4 d in
              let five = eqb-false k 5 f in
              absurd (omega (arith, low, high, one, two, three, four, five))
        ])
      ])
    ])
  ])
]

field_most : (b : Bool) (least most number limit : ℕ) → most ≤ limit → IsField b least most number → number ≤ limit
field_most true least most number limit few field = let high = field.at_most in omega (arith, few, high)
field_most false least most number limit few field = let high = field.at_most in omega (arith, high)

-- ---- one element of a list of which something holds

pub at_all : {A : Type 0} (P : A → Type 0) (xs : List A) (k : ℕ) (x : A) → All P xs → slice_get xs k ≡ Some x → P x
at_all P xs k x all at = subst P (get_or_from_slice_get xs k x x at) (all k x (slice_get_within xs k x at))

-- a lend of a number
pub record SentAt (servers : List ServerRow) (number : Number) : Type 0 where
  pub i : ℕ
  pub k : ℕ
  pub server : ServerRow
  pub row : MessageRow
  pub there : slice_get servers i ≡ Some server
  pub at : slice_get (row_messages server) k ≡ Some row
  pub numbered : row.number ≡ number.0
  pub lends : is_lend (message_of row).kind ≡ true

module _ (file : List ℕ) (s : State) (h : IsResumable file s) where
  abbrev whole : Ledger
  whole = state_ledger file s

  pub few_servers : length s.servers ≤ 64
  few_servers = leb-true (length s.servers) 64 ((few_told s.servers (servers_ascend file s h.spelled)).1 h.matched.body.servers.few)

  lend_sent : (number : Number) → HasOne (servers_of s.servers) (is_lend_of number) → SentAt s.servers number
  lend_sent number one =
      let good : MessageRow → Bool = λ m. is_lend_of number (message_of m) in
      let sum : total good s.servers ≡ 1 = (one_total (is_lend_of number) good (λ m. refl) s.servers (servers_ascend file s h.spelled)).1 one in
      let counted : count_by good (flat_map row_messages s.servers) ≡ total good s.servers =
      listed row_messages good good (λ server. sum_by-append (λ m. if good m then 1 else 0) server.queued server.held) s.servers in
      let any : list_any good (flat_map row_messages s.servers) ≡ true = any_counted good (flat_map row_messages s.servers) (omega (arith, sum, counted)) in
      let all : take (length s.servers) s.servers ≡ s.servers = take_past (length s.servers) s.servers (omega arith) in
      let found = any_in_rows row_messages good s.servers (length s.servers) (ap (λ rows. list_any good (flat_map row_messages rows)) all ∙ any) in
      let both = and_parts (found.element.number == number.0) (is_lend (message_of found.element).kind) found.passes in
      record {
        i = found.row_place;
        k = found.place;
        server = found.row;
        row = found.element;
        there = found.row_there;
        at = found.there;
        numbered = eqb-true found.element.number number.0 both.0;
        lends = both.1;
      }

  sent_before_end : (number : Number) → HasOne (servers_of s.servers) (is_lend_of number) → is_message_before s.servers (length s.servers) 0 number.0 ≡ true
  sent_before_end number one =
      let sent = lend_sent number one in
      is_earlier s.servers (length s.servers) sent.i sent.k sent.server sent.row (slice_get_within s.servers sent.i sent.server sent.there) sent.there sent.at
      number.0 sent.numbered

  -- at the end the messages of all loans and orphans are before
  pub loans_before_end : (p : Place) (loan : PageLoan) → loan_at whole p ≡ Some loan → is_message_before s.servers (length s.servers) 0 loan.number.0 ≡ true
  unfolding loans
  loans_before_end p loan is = sent_before_end loan.number (h.matched.body.loans.loans_sent p loan is)

  pub orphans_before_end : (p : Place) (orphan : Orphan) → whole.orphan p ≡ Some orphan
      → is_message_before s.servers (length s.servers) 0 orphan.number.0 ≡ true
  unfolding loans
  orphans_before_end p orphan is =
      sent_before_end orphan.number (h.matched.body.loans.orphans_sent p (loan_of_orphan orphan) (ap (option_map loan_of_orphan) is))

  -- ---- a server

  module _ (i : ℕ) (server : ServerRow) (there : slice_get s.servers i ≡ Some server) where
    low : i < length s.servers
    low = slice_get_within s.servers i server there

    read : get_or s.servers i server ≡ server
    read = get_or_from_slice_get s.servers i server server there

    server_found : servers_of s.servers server.serial ≡ Some (server_of server)
    server_found = ap (option_map server_of) (subst (λ (r : ServerRow). find (λ (x : ServerRow). x.serial == r.serial) s.servers ≡ Some r) read
        (found_own server_key (λ k (x : ServerRow). server_key x == k) (λ a b. a < b) (λ before x. after before ≤ server_key x)
        (λ before x above. omega (arith, above))
        (number_is server_key) (λ k less. omega (arith, less)) (λ a b c less next. omega (arith, less, next)) (number_own server_key) None s.servers i server
        (servers_ascend file s h.spelled) low))

    pub server_low : i < 64
    server_low = let below = low in let few = few_servers in omega (arith, below, few)

    pub few_messages : length server.queued + length server.held ≤ 128
    few_messages =
        let slots = h.matched.body.servers.slots server.serial (server_of server) server_found in
        let queued = length-map server.queued message_of in
        let held = length-map server.held message_of in
        omega (arith, slots, queued, held)

    form : (P : ServerRow → Type 0) → ((before : Option ℕ) (x : ServerRow) → IsServerRow s.n before x → P x) → P server
    form P says = subst P read (each_in_order (IsServerRow s.n) server_key P says None s.servers i server h.spelled.form.servers low)

    pub pid_small : server.pid < 256
    pid_small =
        let pid : server.pid ≤ s.n + 1 = form (λ (x : ServerRow). x.pid ≤ s.n + 1) (λ before x is. is.pid.at_most) in
        let least = h.spelled.form.n.at_most in
        omega (arith, pid, least)

    message_forms : All (IsMessageRow s.n) (row_messages server)
    message_forms = form (λ (x : ServerRow). All (IsMessageRow s.n) (row_messages x)) (λ before x is.
        All-append (IsMessageRow s.n) x.queued x.held (All-from_recursion (IsMessageRow s.n) x.queued is.queued)
        (All-from_recursion (IsMessageRow s.n) x.held is.held))

    -- no message that is queued is one whose lender died
    pub none_queued : (k : ℕ) (row : MessageRow) → slice_get server.queued k ≡ Some row → is_orphaned row ≡ false
    none_queued k row at = false_from_ne_true (is_orphaned row) (λ is.
        let both = and_parts (is_lend_row row) (row.sender_pid == 0) is in
        let has : is_some (sender_of row) ≡ is_answered (message_of row).kind =
        at_all (λ m. is_some m.sender ≡ is_answered m.kind) (map message_of server.queued) k (message_of row)
        (h.matched.body.senders.queued server.serial (server_of server) server_found) (slice_get-map message_of server.queued k ∙ ap (option_map message_of) at)
        in
        let none : is_some (sender_of row) ≡ false = ap (λ b. is_some (if b then None else Some (thread_at_id row.sender_pid row.sender_tid))) both.1 in
        both_ways (is_some (sender_of row)) none (has ∙ lend_answered row both.0))

    -- ---- a message

    module _ (k : ℕ) (row : MessageRow) (at : slice_get (row_messages server) k ≡ Some row) where
      row_form : IsMessageRow s.n row
      row_form = at_all (IsMessageRow s.n) (row_messages server) k row message_forms at

      pub kind_there : is_some (kind_at row.kind) ≡ true
      kind_there = let is = row_form in kind_known row.kind is.kind.at_least is.kind.at_most

      pub sender_pid_small : row.sender_pid < 256
      sender_pid_small =
          let is = row_form in
          let few = h.spelled.form.n.at_most in
          let most = field_most (not (row.sender_pid == 0)) 2 (s.n + 1) row.sender_pid 255 (omega (arith, few)) is.sender_pid in
          omega (arith, most)

      pub sender_tid_small : row.sender_tid < 256
      sender_tid_small =
          let is = row_form in
          let most = field_most (not (row.sender_pid == 0)) 1 31 row.sender_tid 255 (omega arith) is.sender_tid in
          omega (arith, most)

      messages_are : messages_of (server_of server) ≡ map message_of (row_messages server)
      messages_are = sym (map-append message_of server.queued server.held)

      lend_matched : is_lend_row row ≡ true → IsLendMatched (loans whole) (server_of server) (message_of row) (row_kind row)
      lend_matched lends =
          at_all (IsMessageLent (loans whole) (server_of server)) (map message_of (row_messages server)) k (message_of row)
          (subst (All (IsMessageLent (loans whole) (server_of server))) messages_are (h.matched.body.loans.lends server.serial (server_of server) server_found))
          (slice_get-map message_of (row_messages server) k ∙ ap (option_map message_of) at) (row_kind row) (lend_kind row lends)

      pub some_lent : is_lend_row row ≡ true → 1 ≤ row.count
      some_lent lends = (lend_matched lends).count

      abbrev run_from : Option Place → LoanRun
      run_from lender = record { lender = lender; holder = place_at server.pid row.first; count = row.count; kind = row_kind row; number = number_of row }

      -- the loan of one whose lender died
      pub orphan_stands : is_orphaned row ≡ true → Stands (loans whole) (run_from None)
      orphan_stands is =
          let both = and_parts (is_lend_row row) (row.sender_pid == 0) is in
          let none : sender_of row ≡ None = ap (λ b. if b then None else Some (thread_at_id row.sender_pid row.sender_tid)) both.1 in
          subst (IsOnLoan (loans whole) (server_of server) (message_of row) (row_kind row)) none (lend_matched both.0).loan

      -- .. and of any other lend, from places of its sender's process
      pub lender_stands : is_lend_row row ≡ true → is_orphaned row ≡ false
          → (lender : Place) × Stands (loans whole) (run_from (Some lender)) × (lender.pid.0 ≡ row.sender_pid)
      lender_stands lends apart =
          let lived : (row.sender_pid == 0) ≡ false = sym (ap (λ b. b && (row.sender_pid == 0)) lends) ∙ apart in
          let some : sender_of row ≡ Some (thread_at_id row.sender_pid row.sender_tid) =
          ap (λ b. if b then None else Some (thread_at_id row.sender_pid row.sender_tid)) lived in
          let loan = subst (IsOnLoan (loans whole) (server_of server) (message_of row) (row_kind row)) some (lend_matched lends).loan in
          (loan.0, loan.2, ap (λ (pid : Pid). pid.0) loan.1)

      -- a message that lends nothing has the number of no loan
      fresh_number : is_lend_row row ≡ false → (number : Number) → number.0 ≡ row.number → HasOne (servers_of s.servers) (is_lend_of number) → ⊥
      fresh_number none number same one =
          let sent = lend_sent number one in
          let places = numbers_apart file s h sent.i sent.k i k sent.server server sent.row row sent.there sent.at there at (sent.numbered ∙ same) in
          let server_is : sent.server ≡ server = same_Some sent.server server (sym sent.there ∙ (ap (slice_get s.servers) places.0 ∙ there)) in
          let row_is : sent.row ≡ row =
          same_Some sent.row row (sym sent.at ∙ (ap (λ (x : ServerRow). slice_get (row_messages x) sent.k) server_is
          ∙ (ap (slice_get (row_messages server)) places.1 ∙ at))) in
          both_ways (is_lend (message_of row).kind) (no_lend_kind row none) (subst (λ (x : MessageRow). is_lend (message_of x).kind ≡ true) row_is sent.lends)

      fresh : is_lend_row row ≡ false → IsFresh (loans whole) (number_of row)
      fresh none = record {
        homes = λ p. elim (cases_Option (of_number (number_of row) ((loans whole).home p))) [
          | inl is ↦ is
          | inr found ↦
              let loan = of_number-Some (number_of row) ((loans whole).home p) found.0 found.1 in
              absurd (fresh_number none found.0.number (ap (λ (n : Number). n.0) loan.1) (h.matched.body.loans.loans_sent p found.0 loan.0))
        ];
        orphans = λ p. elim (cases_Option (orphan_of_number (number_of row) ((loans whole).orphan p))) [
          | inl is ↦ is
          | inr found ↦
              let loan = orphan_of_number-Some (number_of row) ((loans whole).orphan p) found.0 found.1 in
              absurd (fresh_number none found.0.number (ap (λ (n : Number). n.0) loan.1) (h.matched.body.loans.orphans_sent p found.0 loan.0))
        ];
      }

      -- no orphan has the number of a message whose lender didn't die
      pub no_orphan_of : is_orphaned row ≡ false → (p : Place) → orphan_of_number (number_of row) (orphan_loan_at whole p) ≡ None
      unfolding loans
      no_orphan_of apart p = elim (cases_Bool (is_lend_row row)) [
        | inl lends ↦ let run = lender_stands lends apart in run.1.orphans p ∙ orphan_of_run-lent (run_from (Some run.0)) run.0 p refl
        | inr none ↦ (fresh none).orphans p
      ]

      -- no page is on loan by the number of a message that lends nothing, or whose lender died
      pub no_loan_of_orphan : is_orphaned row ≡ true → (p : Place) → of_number (number_of row) (loan_at whole p) ≡ None
      unfolding loans
      no_loan_of_orphan is p = (orphan_stands is).homes p ∙ loan_of_run-None (run_from None) p refl

      pub no_loan_of_other : is_lend_row row ≡ false → (p : Place) → of_number (number_of row) (loan_at whole p) ≡ None
      unfolding loans
      no_loan_of_other none p = (fresh none).homes p
