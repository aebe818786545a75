-- The loan of a lend of a state is that of its row: from the homes of its sender's pages on, or of orphans.
use Rattle.std.proofs.Common.{◌≡◌, ℕ, ◌≤◌, ◌<◌, Bool, true, false, List, length, map, get_or, Option, Some, None, refl, sym, ap, subst, ◌∙◌, arith, inl, inr}
use Rattle.std.specs.Prelude.{◌==◌, ◌||◌, if◌then◌else◌, slice_get}
use Rattle.std.specs.List.{All, find}
use Rattle.std.specs.Option.{option_map, unwrap_or}
use Rattle.std.proofs.lemmas.Bool.{cases_Bool, eqb-true}
use Rattle.std.proofs.lemmas.List.{get_or-map, length-map, map-append}
use Rattle.std.proofs.lemmas.Option.{get_or_from_slice_get, slice_get_within}
use Rattle.ledger_model.specs.Loans.{LoanRun, Loans, Stands, loans}
use Rattle.machine_model.specs.Messaging.Messages.{loan_kind}
use Rattle.machine_model.specs.Runs.Matched.{IsLendMatched, IsMessageLent, IsOnLoan, lend_run}
use Rattle.xk_parts.specs.Sound.{IsLenderOf, IsLoanOf}
use Rattle.snapshot_rows.proofs.KeyLemmas.{either, number_is, number_own}
use Rattle.suspend_image.proofs.OrderLemmas.{servers_ascend}
use Rattle.snapshot_rows.specs.Machines.{message_of, server_of, thread_at_id}
use Rattle.snapshot_rows.specs.Order.{after, server_key}
use Rattle.snapshot_rows.specs.declared.state.MessageRow.{MessageRow}
use Rattle.snapshot_rows.specs.declared.state.ServerRow.{ServerRow}
use Rattle.snapshot_rows.specs.declared.state.State.{State}
use Rattle.xk_base.specs.Calls.Kinds.{kind_at}
use Rattle.xk_base.specs.declared.ids.Pid.{Pid}
use Rattle.xk_base.specs.declared.ids.Place.{Place}
use Rattle.xk_base.specs.declared.ids.ThreadId.{ThreadId}
use Rattle.xk_base.specs.declared.messages.Message.{Message}
use Rattle.xk_base.specs.declared.messages.MsgKind.TheVariants.{Scalar}
use Rattle.xk_base.specs.declared.pages.LoanKind.TheVariants.{Shared, Exclusive}
use Rattle.resume_path.proofs.Lending.FirstLentLemmas.{first_is}
use Rattle.resume_path.proofs.Rows.RowLemmas.{found_own}
use Rattle.resume_path.specs.Messages.{first_lent, is_lend_row, row_kind, row_run}
use Rattle.resume_path.specs.Resumable.{IsResumable, state_ledger}
use Rattle.resume_path.specs.Standing.{row_messages}

-- the row of a server is that of its serial
pub row_found : (file : List ℕ) (s : State) → IsResumable file s → (i : ℕ) (server : ServerRow) → slice_get s.servers i ≡ Some server
    → find (λ r. server_key r == server.serial) s.servers ≡ Some server
row_found file s h i server there =
    let is : get_or s.servers i server ≡ server = get_or_from_slice_get s.servers i server server there in
    subst (λ (row : ServerRow). find (λ r. server_key r == row.serial) s.servers ≡ Some row) is
    (found_own server_key (λ k r. server_key r == k) (λ a b. a < b) (λ before r. after before ≤ server_key r) (λ before r low. omega (arith, low))
    (number_is server_key) (λ k low. omega (arith, low)) (λ a b c x y. omega (arith, x, y)) (number_own server_key) None s.servers i server
    (servers_ascend file s h.spelled) (slice_get_within s.servers i server there))

-- the kind of a lend's loan
lend_kind : (k : ℕ) → ((k == 1) || (k == 2)) ≡ true → loan_kind (unwrap_or (kind_at k) Scalar) ≡ Some (if k == 2 then Shared else Exclusive)
lend_kind k lend = elim (cases_Bool (k == 1)) [
  | inl one ↦ subst (λ (n : ℕ). loan_kind (unwrap_or (kind_at n) Scalar) ≡ Some (if n == 2 then Shared else Exclusive)) (sym (eqb-true k 1 one)) refl
  | inr other ↦
      let two = eqb-true k 2 (either (k == 1) (k == 2) other lend) in
      subst (λ (n : ℕ). loan_kind (unwrap_or (kind_at n) Scalar) ≡ Some (if n == 2 then Shared else Exclusive)) (sym two) refl
]

module _ (file : List ℕ) (s : State) (h : IsResumable file s) (i k : ℕ) (server : ServerRow) (row : MessageRow) (there : slice_get s.servers i ≡ Some server)
    (at : slice_get (row_messages server) k ≡ Some row) (lend : is_lend_row row ≡ true) where
  abbrev all : Loans
  all = loans (state_ledger file s)

  abbrev pid : Pid
  pid = record { 0 = server.pid }

  abbrev message : Message
  message = message_of row

  lent : IsLendMatched all (server_of server) message (row_kind row)
  lent = own (row_kind row) (lend_kind row.kind lend)
    where
      each : All (IsMessageLent all (server_of server)) (map message_of (row_messages server))
      each =
          subst (All (IsMessageLent all (server_of server))) (sym (map-append message_of server.queued server.held))
          (h.matched.body.loans.lends server.serial (server_of server) (ap (option_map server_of) (row_found file s h i server there)))

      inside : k < length (row_messages server)
      inside = slice_get_within (row_messages server) k row at

      is : get_or (map message_of (row_messages server)) k message ≡ message
      is =
          get_or-map message_of (row_messages server) k row message inside
          ∙ ap message_of (get_or_from_slice_get (row_messages server) k row row at)

      own : IsMessageLent all (server_of server) message
      own =
          subst (IsMessageLent all (server_of server)) is
          (each k message (let same = length-map (row_messages server) message_of in omega (arith, inside, same)))

  pub run_some : 1 ≤ row.count
  run_some = lent.count

  -- the loan from the place where it begins
  abbrev run_from : Option Place → LoanRun
  run_from lender = lend_run (server_of server) message (row_kind row) lender

  abbrev sender : Bool → Option ThreadId
  sender none = if none then None else Some (thread_at_id row.sender_pid row.sender_tid)

  -- what is to be shown of it, as far as it has a sender
  abbrev IsRowRun : Bool → Type 0
  IsRowRun none =
      Stands all (run_from (if none then None else first_lent s.pages row.number))
      × IsLenderOf (sender none) (if none then None else first_lent s.pages row.number)

  by_sender : (none : Bool) → IsOnLoan all (server_of server) message (row_kind row) (sender none) → IsRowRun none
  by_sender true on = (on, refl)
  by_sender false on =
      let first : first_lent s.pages row.number ≡ Some on.0 = first_is file s h (run_from (Some on.0)) on.0 refl on.2 lent.count in
      (subst (λ (o : Option Place). Stands all (run_from o)) (sym first) on.2, (on.0, first, on.1))

  row_lent : IsRowRun (row.sender_pid == 0)
  row_lent = by_sender (row.sender_pid == 0) lent.loan

  pub run_stands : Stands all (row_run s.pages server.pid row)
  run_stands = row_lent.0

  pub run_lender : (row.sender_pid == 0) ≡ false → (lender : Place) × (first_lent s.pages row.number ≡ Some lender)
  run_lender some =
      let from : IsLenderOf (sender false) (first_lent s.pages row.number) = (subst IsRowRun some row_lent).1 in
      (from.0, from.1)

  pub run_back : IsLoanOf all pid message (row_run s.pages server.pid row)
  run_back = record {
    stands = run_stands;
    number = refl;
    kind = lend_kind row.kind lend;
    first = refl;
    count = refl;
    lender = row_lent.1;
  }
