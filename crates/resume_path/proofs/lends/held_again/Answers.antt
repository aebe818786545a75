use Rattle.std.proofs.Common.{◌≡◌, ℕ, ◌<◌, true, false, List, Some, None, Fits, ap, arith, subst, sym, w8, ◌∙◌}
use Rattle.std.specs.Prelude.{is_some}
use Rattle.std.proofs.lemmas.Bool.{false≢true}
use Rattle.ledger_model.specs.Steps.{lend}
use Rattle.loan_flags.specs.Sending.{mem_kind}
use Rattle.snapshot_rows.specs.Machines.{place_at}
use Rattle.snapshot_rows.specs.Order.{AscendInTwo, page_key}
use Rattle.snapshot_rows.specs.declared.state.PageRow.{PageRow}
use Rattle.suspend_image.proofs.OrderLemmas.{pages_ascend}
use Rattle.vm_memory.specs.Loaning.Sending.{send_answer}
use Rattle.vm_memory.specs.Memory.{ledger, processes}
use Rattle.xk_base.specs.declared.messages.Message.{Message}
use Rattle.resume_path.proofs.Lending.LentLoopLemmas.{alone_comes, held_alone, held_lent, lender_found, lender_is, lent_arrive, lent_comes, lent_fresh, lent_sent, page_pids}
use Rattle.resume_path.proofs.Rows.MessageRowLemmas.{kind_there, number_of, pid_small, sender_pid_small, sender_tid_small, some_lent}
use Rattle.resume_path.proofs.Orphaned.OrphansBackLemmas.{row_says, server_there}
use Rattle.resume_path.specs.Messages.{first_lent, is_lend_row, is_orphaned, row_kind}
use Rattle.resume_path.proofs.lends.held_again.Goals as goal

fits : {n : ℕ} → n < 256 → Fits w8 n
fits low = omega (arith, low)

-- src/lends.rt
pub message-msg-requires-clause-kind : goal.message-msg-requires-clause-kind
message-msg-requires-clause-kind g c =
    let there =
    server_there c.args.state.now c.args.i c.args.k c.as_slice.result.now c.index-as_slice-i.result c.requires.there c.as_slice.ensures c.index-as_slice-i.is in
    kind_there c.args.file.now c.args.state.now c.requires.resumable c.args.i c.index-as_slice-i.result there c.args.k c.message_at-row.result.now
    c.message_at-row.ensures

pub message-msg-requires-clause-pid : goal.message-msg-requires-clause-pid
message-msg-requires-clause-pid g c =
    let there =
    server_there c.args.state.now c.args.i c.args.k c.as_slice.result.now c.index-as_slice-i.result c.requires.there c.as_slice.ensures c.index-as_slice-i.is in
    sender_pid_small c.args.file.now c.args.state.now c.requires.resumable c.args.i c.index-as_slice-i.result there c.args.k c.message_at-row.result.now
    c.message_at-row.ensures

pub message-msg-requires-clause-tid : goal.message-msg-requires-clause-tid
message-msg-requires-clause-tid g c =
    let there =
    server_there c.args.state.now c.args.i c.args.k c.as_slice.result.now c.index-as_slice-i.result c.requires.there c.as_slice.ensures c.index-as_slice-i.is in
    sender_tid_small c.args.file.now c.args.state.now c.requires.resumable c.args.i c.index-as_slice-i.result there c.args.k c.message_at-row.result.now
    c.message_at-row.ensures

pub returns-then-not-is_lend-clause-come : goal.returns-then-not-is_lend-clause-come
returns-then-not-is_lend-clause-come g c =
    let there =
    server_there c.args.state.now c.args.i c.args.k c.as_slice.result.now c.index-as_slice-i.result c.requires.there c.as_slice.ensures c.index-as_slice-i.is in
    alone_comes g.W.SwapStore c.args.file.now c.args.state.now
    c.requires.resumable c.args.i c.index-as_slice-i.result there c.args.k c.message_at-row.result.now c.message_at-row.ensures
    (sym c.is_lend.ensures ∙ c.if-not-is_lend.true) c.args.mem.now c.requires.come

pub returns-then-not-is_lend-clause-held : goal.returns-then-not-is_lend-clause-held
returns-then-not-is_lend-clause-held g c =
    let there =
    server_there c.args.state.now c.args.i c.args.k c.as_slice.result.now c.index-as_slice-i.result c.requires.there c.as_slice.ensures c.index-as_slice-i.is in
    held_alone c.args.state.now c.args.i c.index-as_slice-i.result there c.args.k c.message_at-row.result.now c.message_at-row.ensures
    (sym c.is_lend.ensures ∙ c.if-not-is_lend.true)
    (record { msg = c.message-msg.result; loan = None }) (ap (λ (m : Message). record { msg = m; loan = None }) c.message-msg.ensures)

pub first_lent_by-requires-clause-pids : goal.first_lent_by-requires-clause-pids
first_lent_by-requires-clause-pids g c =
    page_pids c.args.file.now c.args.state.now c.requires.resumable c.as_slice-2.result.now c.as_slice-2.ensures

pub first_lent_by-requires-clause-order : goal.first_lent_by-requires-clause-order
first_lent_by-requires-clause-order g c =
    subst (AscendInTwo page_key) (sym c.as_slice-2.ensures) (pages_ascend c.args.file.now c.args.state.now c.requires.resumable.spelled)

pub first_lent_by-requires-clause-lender : goal.first_lent_by-requires-clause-lender
first_lent_by-requires-clause-lender g c = λ from found.
    let there =
    server_there c.args.state.now c.args.i c.args.k c.as_slice.result.now c.index-as_slice-i.result c.requires.there c.as_slice.ensures c.index-as_slice-i.is in
    let apart =
    row_says c.args.state.now c.args.i c.index-as_slice-i.result there c.args.k c.message_at-row.result.now c.message_at-row.ensures
    (λ row. is_orphaned row ≡ false) c.requires.lent in
    let lends : is_lend_row c.message_at-row.result.now ≡ true = sym c.is_lend.ensures ∙ c.if-not-is_lend.false in
    lender_is g.W.SwapStore c.args.file.now c.args.state.now
    c.requires.resumable c.args.i c.index-as_slice-i.result there c.args.k c.message_at-row.result.now c.message_at-row.ensures lends apart from
    (ap (λ (pages : List PageRow). first_lent pages c.message_at-row.result.now.number) (sym c.as_slice-2.ensures) ∙ found)

pub unreachable-requires : goal.unreachable-requires
unreachable-requires g c =
    let there =
    server_there c.args.state.now c.args.i c.args.k c.as_slice.result.now c.index-as_slice-i.result c.requires.there c.as_slice.ensures c.index-as_slice-i.is in
    let apart =
    row_says c.args.state.now c.args.i c.index-as_slice-i.result there c.args.k c.message_at-row.result.now c.message_at-row.ensures
    (λ row. is_orphaned row ≡ false) c.requires.lent in
    let lends : is_lend_row c.message_at-row.result.now ≡ true = sym c.is_lend.ensures ∙ c.if-not-is_lend.false in
    let some =
    lender_found g.W.SwapStore c.args.file.now c.args.state.now
    c.requires.resumable c.args.i c.index-as_slice-i.result there c.args.k c.message_at-row.result.now c.message_at-row.ensures lends apart in
    let none : first_lent c.args.state.now.pages c.message_at-row.result.now.number ≡ None =
    ap (λ (pages : List PageRow). first_lent pages c.message_at-row.result.now.number) (sym c.as_slice-2.ensures) ∙ (sym c.first_lent_by.ensures ∙ c.in-None.is) in
    false≢true (sym (ap is_some none) ∙ some)

pub overflow_cast-to : goal.overflow_cast-to
overflow_cast-to g c =
    let there =
    server_there c.args.state.now c.args.i c.args.k c.as_slice.result.now c.index-as_slice-i.result c.requires.there c.as_slice.ensures c.index-as_slice-i.is in
    fits (pid_small c.args.file.now c.args.state.now c.requires.resumable c.args.i c.index-as_slice-i.result there)

pub lend-loan-requires-clause-some : goal.lend-loan-requires-clause-some
lend-loan-requires-clause-some g c =
    let there =
    server_there c.args.state.now c.args.i c.args.k c.as_slice.result.now c.index-as_slice-i.result c.requires.there c.as_slice.ensures c.index-as_slice-i.is in
    let apart =
    row_says c.args.state.now c.args.i c.index-as_slice-i.result there c.args.k c.message_at-row.result.now c.message_at-row.ensures
    (λ row. is_orphaned row ≡ false) c.requires.lent in
    let lends : is_lend_row c.message_at-row.result.now ≡ true = sym c.is_lend.ensures ∙ c.if-not-is_lend.false in
    some_lent c.args.file.now c.args.state.now c.requires.resumable c.args.i c.index-as_slice-i.result there c.args.k c.message_at-row.result.now
    c.message_at-row.ensures lends

pub lend-loan-requires-clause-may : goal.lend-loan-requires-clause-may
lend-loan-requires-clause-may g c =
    let there =
    server_there c.args.state.now c.args.i c.args.k c.as_slice.result.now c.index-as_slice-i.result c.requires.there c.as_slice.ensures c.index-as_slice-i.is in
    let apart =
    row_says c.args.state.now c.args.i c.index-as_slice-i.result there c.args.k c.message_at-row.result.now c.message_at-row.ensures
    (λ row. is_orphaned row ≡ false) c.requires.lent in
    let lends : is_lend_row c.message_at-row.result.now ≡ true = sym c.is_lend.ensures ∙ c.if-not-is_lend.false in
    let found : first_lent c.args.state.now.pages c.message_at-row.result.now.number ≡ Some c.in-Some.from =
    ap (λ (pages : List PageRow). first_lent pages c.message_at-row.result.now.number) (sym c.as_slice-2.ensures) ∙ (sym c.first_lent_by.ensures ∙ c.in-Some.is) in
    ap (λ kind. send_answer (processes c.args.mem.now) (ledger g.W.SwapStore.held c.args.mem.now) c.in-Some.from c.message_at-row.result.now.count
    (mem_kind kind)) c.loan_kind.ensures
    ∙
    lent_sent g.W.SwapStore c.args.file.now c.args.state.now
    c.requires.resumable c.args.i c.index-as_slice-i.result there
    c.args.k c.message_at-row.result.now c.message_at-row.ensures lends apart c.in-Some.from found c.args.mem.now c.requires.processes c.requires.come

pub lend-loan-requires-clause-arrival : goal.lend-loan-requires-clause-arrival
lend-loan-requires-clause-arrival g c =
    let there =
    server_there c.args.state.now c.args.i c.args.k c.as_slice.result.now c.index-as_slice-i.result c.requires.there c.as_slice.ensures c.index-as_slice-i.is in
    let apart =
    row_says c.args.state.now c.args.i c.index-as_slice-i.result there c.args.k c.message_at-row.result.now c.message_at-row.ensures
    (λ row. is_orphaned row ≡ false) c.requires.lent in
    let lends : is_lend_row c.message_at-row.result.now ≡ true = sym c.is_lend.ensures ∙ c.if-not-is_lend.false in
    let found : first_lent c.args.state.now.pages c.message_at-row.result.now.number ≡ Some c.in-Some.from =
    ap (λ (pages : List PageRow). first_lent pages c.message_at-row.result.now.number) (sym c.as_slice-2.ensures) ∙ (sym c.first_lent_by.ensures ∙ c.in-Some.is) in
    lent_arrive g.W.SwapStore c.args.file.now c.args.state.now
    c.requires.resumable c.args.i c.index-as_slice-i.result there
    c.args.k c.message_at-row.result.now c.message_at-row.ensures lends apart c.in-Some.from found c.args.mem.now c.requires.processes c.requires.come

pub lend-loan-requires-clause-fresh : goal.lend-loan-requires-clause-fresh
lend-loan-requires-clause-fresh g c =
    let there =
    server_there c.args.state.now c.args.i c.args.k c.as_slice.result.now c.index-as_slice-i.result c.requires.there c.as_slice.ensures c.index-as_slice-i.is in
    let apart =
    row_says c.args.state.now c.args.i c.index-as_slice-i.result there c.args.k c.message_at-row.result.now c.message_at-row.ensures
    (λ row. is_orphaned row ≡ false) c.requires.lent in
    let lends : is_lend_row c.message_at-row.result.now ≡ true = sym c.is_lend.ensures ∙ c.if-not-is_lend.false in
    let found : first_lent c.args.state.now.pages c.message_at-row.result.now.number ≡ Some c.in-Some.from =
    ap (λ (pages : List PageRow). first_lent pages c.message_at-row.result.now.number) (sym c.as_slice-2.ensures) ∙ (sym c.first_lent_by.ensures ∙ c.in-Some.is) in
    lent_fresh g.W.SwapStore c.args.file.now c.args.state.now
    c.requires.resumable c.args.i c.index-as_slice-i.result there
    c.args.k c.message_at-row.result.now c.message_at-row.ensures lends apart c.in-Some.from found c.args.mem.now c.requires.processes c.requires.come

pub returns-clause-come : goal.returns-clause-come
returns-clause-come g c =
    let there =
    server_there c.args.state.now c.args.i c.args.k c.as_slice.result.now c.index-as_slice-i.result c.requires.there c.as_slice.ensures c.index-as_slice-i.is in
    let apart =
    row_says c.args.state.now c.args.i c.index-as_slice-i.result there c.args.k c.message_at-row.result.now c.message_at-row.ensures
    (λ row. is_orphaned row ≡ false) c.requires.lent in
    let lends : is_lend_row c.message_at-row.result.now ≡ true = sym c.is_lend.ensures ∙ c.if-not-is_lend.false in
    let found : first_lent c.args.state.now.pages c.message_at-row.result.now.number ≡ Some c.in-Some.from =
    ap (λ (pages : List PageRow). first_lent pages c.message_at-row.result.now.number) (sym c.as_slice-2.ensures) ∙ (sym c.first_lent_by.ensures ∙ c.in-Some.is) in
    lent_comes g.W.SwapStore c.args.file.now c.args.state.now
    c.requires.resumable c.args.i c.index-as_slice-i.result there
    c.args.k c.message_at-row.result.now c.message_at-row.ensures lends apart c.in-Some.from found c.args.mem.now c.requires.processes c.requires.come
    c.lend-loan.new.self c.lend-loan.ensures.keeps
    (c.lend-loan.ensures.ledger
    ∙ ap (λ kind. lend c.in-Some.from c.message_at-row.result.now.count (place_at c.index-as_slice-i.result.pid c.message_at-row.result.now.first) kind
    (number_of c.message_at-row.result.now) (ledger g.W.SwapStore.held c.args.mem.now)) c.loan_kind.ensures)

pub returns-clause-held : goal.returns-clause-held
returns-clause-held g c =
    let there =
    server_there c.args.state.now c.args.i c.args.k c.as_slice.result.now c.index-as_slice-i.result c.requires.there c.as_slice.ensures c.index-as_slice-i.is in
    let apart =
    row_says c.args.state.now c.args.i c.index-as_slice-i.result there c.args.k c.message_at-row.result.now c.message_at-row.ensures
    (λ row. is_orphaned row ≡ false) c.requires.lent in
    let lends : is_lend_row c.message_at-row.result.now ≡ true = sym c.is_lend.ensures ∙ c.if-not-is_lend.false in
    let found : first_lent c.args.state.now.pages c.message_at-row.result.now.number ≡ Some c.in-Some.from =
    ap (λ (pages : List PageRow). first_lent pages c.message_at-row.result.now.number) (sym c.as_slice-2.ensures) ∙ (sym c.first_lent_by.ensures ∙ c.in-Some.is) in
    let loan : c.lend-loan.result ≡ record {
      lender = Some c.in-Some.from;
      holder = place_at c.index-as_slice-i.result.pid c.message_at-row.result.now.first;
      count = c.message_at-row.result.now.count;
      kind = row_kind c.message_at-row.result.now;
      number = number_of c.message_at-row.result.now;
    } =
    c.lend-loan.ensures.loan
    ∙ ap (λ kind. record {
      lender = Some c.in-Some.from;
      holder = place_at c.index-as_slice-i.result.pid c.message_at-row.result.now.first;
      count = c.message_at-row.result.now.count;
      kind = kind;
      number = number_of c.message_at-row.result.now;
    }) c.loan_kind.ensures in
    held_lent c.args.state.now c.args.i c.index-as_slice-i.result there c.args.k c.message_at-row.result.now c.message_at-row.ensures lends apart c.in-Some.from
    found
    (record { msg = c.message-msg.result; loan = Some c.lend-loan.result }) (λ j. record { msg = c.message-msg.ensures j; loan = Some (loan j) })
