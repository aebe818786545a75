use Rattle.std.proofs.Common.{◌≡◌, ℕ, ◌<◌, true, None, Fits, ap, arith, refl, w8, ◌∙◌}
use Rattle.ledger_model.specs.Loans.{LoanRun, without_lender}
use Rattle.ledger_model.specs.Steps.{lend, orphan_loan}
use Rattle.loan_flags.specs.Sending.{mem_kind}
use Rattle.snapshot_rows.specs.Machines.{place_at}
use Rattle.vm_memory.specs.Loaning.Sending.{send_answer}
use Rattle.vm_memory.specs.Memory.{frames_for_pages, ledger, processes}
use Rattle.xk_base.specs.declared.ids.Place.{Place}
use Rattle.xk_base.specs.declared.ids.Vpn.{Vpn}
use Rattle.resume_path.proofs.Homes.ComingLemmas.{frames_same}
use Rattle.resume_path.proofs.Rows.MessageRowLemmas.{number_of, pid_small}
use Rattle.resume_path.proofs.Orphaned.OrphanStepLemmas.{lend_comes, on_err, orphan_comes, procs_kept, seats_keep}
use Rattle.resume_path.proofs.Orphaned.OrphansBackLemmas.{made_homes, made_loans, orphans_arrive, orphans_come, orphans_fit, orphans_fit_now, orphans_fresh, orphans_low, orphans_process, orphans_run, orphans_sent, orphans_served, orphans_there, row_says, server_there, some}
use Rattle.resume_path.proofs.Homes.PagesBackLemmas.{failed_over}
use Rattle.resume_path.specs.Coming.{HasFailed}
use Rattle.resume_path.specs.Messages.{is_orphaned, row_kind}
use Rattle.resume_path.specs.Resumable.{state_ledger, state_pages}
use Rattle.resume_path.specs.Standing.{orphans_before, standing_of, with_orphan_pages}
use Rattle.resume_path.proofs.orphans.lend_orphans.Goals as goal

-- where the pages are made
abbrev from : ℕ → Vpn → Place
from pid first = record { pid = record { 0 = pid }; vpn = first }

fits : {n : ℕ} → n < 256 → Fits w8 n
fits low = omega (arith, low)

-- src/orphans.rt
pub overflow_cast-pid : goal.overflow_cast-pid
overflow_cast-pid g c =
    let there =
    server_there c.args.state.now c.args.i c.args.k c.as_slice.result.now c.index-as_slice-i.result c.requires.there c.as_slice.ensures c.index-as_slice-i.is in
    fits (pid_small c.args.file.now c.args.state.now c.requires.resumable c.args.i c.index-as_slice-i.result there)

pub make_run-requires-clause-process : goal.make_run-requires-clause-process
make_run-requires-clause-process g c =
    let there =
    server_there c.args.state.now c.args.i c.args.k c.as_slice.result.now c.index-as_slice-i.result c.requires.there c.as_slice.ensures c.index-as_slice-i.is in
    let orphaned = row_says c.args.state.now c.args.i c.index-as_slice-i.result there c.args.k c.message_at-row.result.now c.message_at-row.ensures
    (λ row. is_orphaned row ≡ true) c.requires.orphaned in
    orphans_process g.W.SwapStore c.args.file.now c.args.state.now c.requires.resumable c.args.i
    c.index-as_slice-i.result there
    c.args.k c.message_at-row.result.now c.message_at-row.ensures orphaned c.args.mem.now c.requires.processes c.requires.capacity c.requires.come
    (from c.index-as_slice-i.result.pid c.first.result) refl c.first.ensures

pub make_run-requires-clause-some : goal.make_run-requires-clause-some
make_run-requires-clause-some g c =
    let there =
    server_there c.args.state.now c.args.i c.args.k c.as_slice.result.now c.index-as_slice-i.result c.requires.there c.as_slice.ensures c.index-as_slice-i.is in
    let orphaned = row_says c.args.state.now c.args.i c.index-as_slice-i.result there c.args.k c.message_at-row.result.now c.message_at-row.ensures
    (λ row. is_orphaned row ≡ true) c.requires.orphaned in
    some g.W.SwapStore c.args.file.now c.args.state.now c.requires.resumable c.args.i
    c.index-as_slice-i.result there
    c.args.k c.message_at-row.result.now c.message_at-row.ensures orphaned c.args.mem.now c.requires.processes c.requires.capacity c.requires.come
    (from c.index-as_slice-i.result.pid c.first.result) refl c.first.ensures

pub make_run-requires-clause-served : goal.make_run-requires-clause-served
make_run-requires-clause-served g c =
    let there =
    server_there c.args.state.now c.args.i c.args.k c.as_slice.result.now c.index-as_slice-i.result c.requires.there c.as_slice.ensures c.index-as_slice-i.is in
    let orphaned = row_says c.args.state.now c.args.i c.index-as_slice-i.result there c.args.k c.message_at-row.result.now c.message_at-row.ensures
    (λ row. is_orphaned row ≡ true) c.requires.orphaned in
    orphans_served g.W.SwapStore c.args.file.now c.args.state.now c.requires.resumable c.args.i
    c.index-as_slice-i.result there
    c.args.k c.message_at-row.result.now c.message_at-row.ensures orphaned c.args.mem.now c.requires.processes c.requires.capacity c.requires.come
    (from c.index-as_slice-i.result.pid c.first.result) refl c.first.ensures

pub returns-in_err-make_run-clause-full : goal.returns-in_err-make_run-clause-full
returns-in_err-make_run-clause-full g c =
    let there =
    server_there c.args.state.now c.args.i c.args.k c.as_slice.result.now c.index-as_slice-i.result c.requires.there c.as_slice.ensures c.index-as_slice-i.is in
    let orphaned = row_says c.args.state.now c.args.i c.index-as_slice-i.result there c.args.k c.message_at-row.result.now c.message_at-row.ensures
    (λ row. is_orphaned row ≡ true) c.requires.orphaned in
    let fit =
    orphans_fit_now g.W.SwapStore c.args.file.now c.args.state.now c.requires.resumable c.args.i
    c.index-as_slice-i.result there
    c.args.k c.message_at-row.result.now c.message_at-row.ensures orphaned c.args.mem.now c.requires.processes c.requires.capacity c.requires.come
    (from c.index-as_slice-i.result.pid c.first.result) refl c.first.ensures in
    on_err c.from_residual.result (frames_for_pages c.args.mem.now < state_pages c.args.file.now c.args.state.now)
    (omega (arith, fit, c.in_err-make_run.ensures.full))

pub fill_orphans-requires-clause-sound : goal.fill_orphans-requires-clause-sound
fill_orphans-requires-clause-sound g c =
    let there =
    server_there c.args.state.now c.args.i c.args.k c.as_slice.result.now c.index-as_slice-i.result c.requires.there c.as_slice.ensures c.index-as_slice-i.is in
    let orphaned = row_says c.args.state.now c.args.i c.index-as_slice-i.result there c.args.k c.message_at-row.result.now c.message_at-row.ensures
    (λ row. is_orphaned row ≡ true) c.requires.orphaned in
    let made_come = c.in_ok-make_run.ensures.comes (state_pages c.args.file.now c.args.state.now)
    (standing_of c.args.file.now c.args.state.now (orphans_before c.args.state.now.servers c.args.i c.args.k)) c.requires.come
    (
    orphans_fit g.W.SwapStore c.args.file.now c.args.state.now c.requires.resumable c.args.i
    c.index-as_slice-i.result there
    c.args.k c.message_at-row.result.now c.message_at-row.ensures orphaned c.args.mem.now c.requires.processes c.requires.capacity c.requires.come
    (from c.index-as_slice-i.result.pid c.first.result) refl c.first.ensures
    ) in
    made_come.sound

pub fill_orphans-requires-clause-low : goal.fill_orphans-requires-clause-low
fill_orphans-requires-clause-low g c =
    let there =
    server_there c.args.state.now c.args.i c.args.k c.as_slice.result.now c.index-as_slice-i.result c.requires.there c.as_slice.ensures c.index-as_slice-i.is in
    let orphaned = row_says c.args.state.now c.args.i c.index-as_slice-i.result there c.args.k c.message_at-row.result.now c.message_at-row.ensures
    (λ row. is_orphaned row ≡ true) c.requires.orphaned in
    orphans_low g.W.SwapStore c.args.file.now c.args.state.now c.requires.resumable c.args.i
    c.index-as_slice-i.result there
    c.args.k c.message_at-row.result.now c.message_at-row.ensures orphaned c.args.mem.now c.requires.processes c.requires.capacity c.requires.come
    (from c.index-as_slice-i.result.pid c.first.result) refl c.first.ensures

pub fill_orphans-requires-clause-there : goal.fill_orphans-requires-clause-there
fill_orphans-requires-clause-there g c =
    let there =
    server_there c.args.state.now c.args.i c.args.k c.as_slice.result.now c.index-as_slice-i.result c.requires.there c.as_slice.ensures c.index-as_slice-i.is in
    let orphaned = row_says c.args.state.now c.args.i c.index-as_slice-i.result there c.args.k c.message_at-row.result.now c.message_at-row.ensures
    (λ row. is_orphaned row ≡ true) c.requires.orphaned in
    orphans_there g.W.SwapStore c.args.file.now c.args.state.now c.requires.resumable c.args.i
    c.index-as_slice-i.result there
    c.args.k c.message_at-row.result.now c.message_at-row.ensures orphaned c.args.mem.now c.requires.processes c.requires.capacity c.requires.come
    (from c.index-as_slice-i.result.pid c.first.result) refl c.first.ensures

pub fill_orphans-requires-clause-homes : goal.fill_orphans-requires-clause-homes
fill_orphans-requires-clause-homes g c =
    let there =
    server_there c.args.state.now c.args.i c.args.k c.as_slice.result.now c.index-as_slice-i.result c.requires.there c.as_slice.ensures c.index-as_slice-i.is in
    let orphaned = row_says c.args.state.now c.args.i c.index-as_slice-i.result there c.args.k c.message_at-row.result.now c.message_at-row.ensures
    (λ row. is_orphaned row ≡ true) c.requires.orphaned in
    made_homes g.W.SwapStore c.args.file.now c.args.state.now c.requires.resumable c.args.i
    c.index-as_slice-i.result there
    c.args.k c.message_at-row.result.now c.message_at-row.ensures orphaned c.args.mem.now c.requires.processes c.requires.capacity c.requires.come
    (from c.index-as_slice-i.result.pid c.first.result) refl c.first.ensures c.make_run.new.mem c.in_ok-make_run.ensures.rights

pub returns-in_err-fill_orphans-clause-failed : goal.returns-in_err-fill_orphans-clause-failed
returns-in_err-fill_orphans-clause-failed g c =
    let there =
    server_there c.args.state.now c.args.i c.args.k c.as_slice.result.now c.index-as_slice-i.result c.requires.there c.as_slice.ensures c.index-as_slice-i.is in
    let orphaned = row_says c.args.state.now c.args.i c.index-as_slice-i.result there c.args.k c.message_at-row.result.now c.message_at-row.ensures
    (λ row. is_orphaned row ≡ true) c.requires.orphaned in
    let same =
    made_loans g.W.SwapStore c.args.file.now c.args.state.now c.requires.resumable c.args.i
    c.index-as_slice-i.result there
    c.args.k c.message_at-row.result.now c.message_at-row.ensures orphaned c.args.mem.now c.requires.processes c.requires.capacity c.requires.come
    (from c.index-as_slice-i.result.pid c.first.result) refl c.first.ensures c.make_run.new.mem c.in_ok-make_run.ensures.rights in
    on_err c.from_residual-in_err-fill_orphans.result
    (HasFailed g.W.SwapStore c.args.mem.now c.fill_orphans.new.mem)
    (failed_over g.W.SwapStore c.args.mem.now c.make_run.new.mem
    c.fill_orphans.new.mem
    c.in_ok-make_run.ensures.keeps same c.in_err-fill_orphans.ensures.failed)

pub returns-in_err-fill_orphans-clause-full : goal.returns-in_err-fill_orphans-clause-full
returns-in_err-fill_orphans-clause-full g c =
    let there =
    server_there c.args.state.now c.args.i c.args.k c.as_slice.result.now c.index-as_slice-i.result c.requires.there c.as_slice.ensures c.index-as_slice-i.is in
    let orphaned = row_says c.args.state.now c.args.i c.index-as_slice-i.result there c.args.k c.message_at-row.result.now c.message_at-row.ensures
    (λ row. is_orphaned row ≡ true) c.requires.orphaned in
    let made_come = c.in_ok-make_run.ensures.comes (state_pages c.args.file.now c.args.state.now)
    (standing_of c.args.file.now c.args.state.now (orphans_before c.args.state.now.servers c.args.i c.args.k)) c.requires.come
    (
    orphans_fit g.W.SwapStore c.args.file.now c.args.state.now c.requires.resumable c.args.i
    c.index-as_slice-i.result there
    c.args.k c.message_at-row.result.now c.message_at-row.ensures orphaned c.args.mem.now c.requires.processes c.requires.capacity c.requires.come
    (from c.index-as_slice-i.result.pid c.first.result) refl c.first.ensures
    ) in
    let same =
    frames_same g.W.SwapStore c.args.mem.now c.make_run.new.mem
    c.in_ok-make_run.ensures.keeps in
    let full =
    c.in_err-fill_orphans.ensures.full (state_pages c.args.file.now c.args.state.now)
    (standing_of c.args.file.now c.args.state.now (orphans_before c.args.state.now.servers c.args.i c.args.k)) made_come in
    on_err c.from_residual-in_err-fill_orphans.result (frames_for_pages c.args.mem.now < state_pages c.args.file.now c.args.state.now)
    (omega (arith, same, full))

pub lend-loan-requires-clause-sound : goal.lend-loan-requires-clause-sound
lend-loan-requires-clause-sound g c =
    let there =
    server_there c.args.state.now c.args.i c.args.k c.as_slice.result.now c.index-as_slice-i.result c.requires.there c.as_slice.ensures c.index-as_slice-i.is in
    let orphaned = row_says c.args.state.now c.args.i c.index-as_slice-i.result there c.args.k c.message_at-row.result.now c.message_at-row.ensures
    (λ row. is_orphaned row ≡ true) c.requires.orphaned in
    let made_come = c.in_ok-make_run.ensures.comes (state_pages c.args.file.now c.args.state.now)
    (standing_of c.args.file.now c.args.state.now (orphans_before c.args.state.now.servers c.args.i c.args.k)) c.requires.come
    (
    orphans_fit g.W.SwapStore c.args.file.now c.args.state.now c.requires.resumable c.args.i
    c.index-as_slice-i.result there
    c.args.k c.message_at-row.result.now c.message_at-row.ensures orphaned c.args.mem.now c.requires.processes c.requires.capacity c.requires.come
    (from c.index-as_slice-i.result.pid c.first.result) refl c.first.ensures
    ) in
    let full_come =
    c.in_ok-fill_orphans.ensures.comes (state_pages c.args.file.now c.args.state.now)
    (standing_of c.args.file.now c.args.state.now (orphans_before c.args.state.now.servers c.args.i c.args.k)) made_come in
    full_come.sound

pub lend-loan-requires-clause-usable : goal.lend-loan-requires-clause-usable
lend-loan-requires-clause-usable g c =
    let there =
    server_there c.args.state.now c.args.i c.args.k c.as_slice.result.now c.index-as_slice-i.result c.requires.there c.as_slice.ensures c.index-as_slice-i.is in
    let orphaned = row_says c.args.state.now c.args.i c.index-as_slice-i.result there c.args.k c.message_at-row.result.now c.message_at-row.ensures
    (λ row. is_orphaned row ≡ true) c.requires.orphaned in
    let made_come = c.in_ok-make_run.ensures.comes (state_pages c.args.file.now c.args.state.now)
    (standing_of c.args.file.now c.args.state.now (orphans_before c.args.state.now.servers c.args.i c.args.k)) c.requires.come
    (
    orphans_fit g.W.SwapStore c.args.file.now c.args.state.now c.requires.resumable c.args.i
    c.index-as_slice-i.result there
    c.args.k c.message_at-row.result.now c.message_at-row.ensures orphaned c.args.mem.now c.requires.processes c.requires.capacity c.requires.come
    (from c.index-as_slice-i.result.pid c.first.result) refl c.first.ensures
    ) in
    let full_come =
    c.in_ok-fill_orphans.ensures.comes (state_pages c.args.file.now c.args.state.now)
    (standing_of c.args.file.now c.args.state.now (orphans_before c.args.state.now.servers c.args.i c.args.k)) made_come in
    full_come.usable

pub lend-loan-requires-clause-some : goal.lend-loan-requires-clause-some
lend-loan-requires-clause-some g c =
    let there =
    server_there c.args.state.now c.args.i c.args.k c.as_slice.result.now c.index-as_slice-i.result c.requires.there c.as_slice.ensures c.index-as_slice-i.is in
    let orphaned = row_says c.args.state.now c.args.i c.index-as_slice-i.result there c.args.k c.message_at-row.result.now c.message_at-row.ensures
    (λ row. is_orphaned row ≡ true) c.requires.orphaned in
    some g.W.SwapStore c.args.file.now c.args.state.now c.requires.resumable c.args.i
    c.index-as_slice-i.result there
    c.args.k c.message_at-row.result.now c.message_at-row.ensures orphaned c.args.mem.now c.requires.processes c.requires.capacity c.requires.come
    (from c.index-as_slice-i.result.pid c.first.result) refl c.first.ensures

pub lend-loan-requires-clause-may : goal.lend-loan-requires-clause-may
lend-loan-requires-clause-may g c =
    let there =
    server_there c.args.state.now c.args.i c.args.k c.as_slice.result.now c.index-as_slice-i.result c.requires.there c.as_slice.ensures c.index-as_slice-i.is in
    let orphaned = row_says c.args.state.now c.args.i c.index-as_slice-i.result there c.args.k c.message_at-row.result.now c.message_at-row.ensures
    (λ row. is_orphaned row ≡ true) c.requires.orphaned in
    let made_come = c.in_ok-make_run.ensures.comes (state_pages c.args.file.now c.args.state.now)
    (standing_of c.args.file.now c.args.state.now (orphans_before c.args.state.now.servers c.args.i c.args.k)) c.requires.come
    (
    orphans_fit g.W.SwapStore c.args.file.now c.args.state.now c.requires.resumable c.args.i
    c.index-as_slice-i.result there
    c.args.k c.message_at-row.result.now c.message_at-row.ensures orphaned c.args.mem.now c.requires.processes c.requires.capacity c.requires.come
    (from c.index-as_slice-i.result.pid c.first.result) refl c.first.ensures
    ) in
    let full_come =
    c.in_ok-fill_orphans.ensures.comes (state_pages c.args.file.now c.args.state.now)
    (standing_of c.args.file.now c.args.state.now (orphans_before c.args.state.now.servers c.args.i c.args.k)) made_come in
    let procs =
    procs_kept g.W.SwapStore c.make_run.new.mem
    c.fill_orphans.new.mem c.args.state.now.n c.in_ok-fill_orphans.ensures.keeps
    (procs_kept g.W.SwapStore c.args.mem.now c.make_run.new.mem
    c.args.state.now.n c.in_ok-make_run.ensures.keeps c.requires.processes) in
    ap (λ kind. send_answer (processes c.fill_orphans.new.mem) (ledger g.W.SwapStore.held c.fill_orphans.new.mem)
    (from c.index-as_slice-i.result.pid c.first.result)
    c.message_at-row.result.now.count (mem_kind kind)) c.loan_kind.ensures
    ∙
    orphans_sent g.W.SwapStore c.args.file.now c.args.state.now c.requires.resumable c.args.i
    c.index-as_slice-i.result there
    c.args.k c.message_at-row.result.now c.message_at-row.ensures orphaned c.args.mem.now c.requires.processes c.requires.capacity c.requires.come
    (from c.index-as_slice-i.result.pid c.first.result) refl c.first.ensures c.fill_orphans.new.mem procs full_come

pub lend-loan-requires-clause-arrival : goal.lend-loan-requires-clause-arrival
lend-loan-requires-clause-arrival g c =
    let there =
    server_there c.args.state.now c.args.i c.args.k c.as_slice.result.now c.index-as_slice-i.result c.requires.there c.as_slice.ensures c.index-as_slice-i.is in
    let orphaned = row_says c.args.state.now c.args.i c.index-as_slice-i.result there c.args.k c.message_at-row.result.now c.message_at-row.ensures
    (λ row. is_orphaned row ≡ true) c.requires.orphaned in
    let made_come = c.in_ok-make_run.ensures.comes (state_pages c.args.file.now c.args.state.now)
    (standing_of c.args.file.now c.args.state.now (orphans_before c.args.state.now.servers c.args.i c.args.k)) c.requires.come
    (
    orphans_fit g.W.SwapStore c.args.file.now c.args.state.now c.requires.resumable c.args.i
    c.index-as_slice-i.result there
    c.args.k c.message_at-row.result.now c.message_at-row.ensures orphaned c.args.mem.now c.requires.processes c.requires.capacity c.requires.come
    (from c.index-as_slice-i.result.pid c.first.result) refl c.first.ensures
    ) in
    let full_come =
    c.in_ok-fill_orphans.ensures.comes (state_pages c.args.file.now c.args.state.now)
    (standing_of c.args.file.now c.args.state.now (orphans_before c.args.state.now.servers c.args.i c.args.k)) made_come in
    let procs =
    procs_kept g.W.SwapStore c.make_run.new.mem
    c.fill_orphans.new.mem c.args.state.now.n c.in_ok-fill_orphans.ensures.keeps
    (procs_kept g.W.SwapStore c.args.mem.now c.make_run.new.mem
    c.args.state.now.n c.in_ok-make_run.ensures.keeps c.requires.processes) in
    orphans_arrive g.W.SwapStore c.args.file.now c.args.state.now c.requires.resumable c.args.i
    c.index-as_slice-i.result there
    c.args.k c.message_at-row.result.now c.message_at-row.ensures orphaned c.args.mem.now c.requires.processes c.requires.capacity c.requires.come
    (from c.index-as_slice-i.result.pid c.first.result) refl c.first.ensures c.fill_orphans.new.mem procs full_come

pub lend-loan-requires-clause-fresh : goal.lend-loan-requires-clause-fresh
lend-loan-requires-clause-fresh g c =
    let there =
    server_there c.args.state.now c.args.i c.args.k c.as_slice.result.now c.index-as_slice-i.result c.requires.there c.as_slice.ensures c.index-as_slice-i.is in
    let orphaned = row_says c.args.state.now c.args.i c.index-as_slice-i.result there c.args.k c.message_at-row.result.now c.message_at-row.ensures
    (λ row. is_orphaned row ≡ true) c.requires.orphaned in
    let made_come = c.in_ok-make_run.ensures.comes (state_pages c.args.file.now c.args.state.now)
    (standing_of c.args.file.now c.args.state.now (orphans_before c.args.state.now.servers c.args.i c.args.k)) c.requires.come
    (
    orphans_fit g.W.SwapStore c.args.file.now c.args.state.now c.requires.resumable c.args.i
    c.index-as_slice-i.result there
    c.args.k c.message_at-row.result.now c.message_at-row.ensures orphaned c.args.mem.now c.requires.processes c.requires.capacity c.requires.come
    (from c.index-as_slice-i.result.pid c.first.result) refl c.first.ensures
    ) in
    let full_come =
    c.in_ok-fill_orphans.ensures.comes (state_pages c.args.file.now c.args.state.now)
    (standing_of c.args.file.now c.args.state.now (orphans_before c.args.state.now.servers c.args.i c.args.k)) made_come in
    let procs =
    procs_kept g.W.SwapStore c.make_run.new.mem
    c.fill_orphans.new.mem c.args.state.now.n c.in_ok-fill_orphans.ensures.keeps
    (procs_kept g.W.SwapStore c.args.mem.now c.make_run.new.mem
    c.args.state.now.n c.in_ok-make_run.ensures.keeps c.requires.processes) in
    orphans_fresh g.W.SwapStore c.args.file.now c.args.state.now c.requires.resumable c.args.i
    c.index-as_slice-i.result there
    c.args.k c.message_at-row.result.now c.message_at-row.ensures orphaned c.args.mem.now c.requires.processes c.requires.capacity c.requires.come
    (from c.index-as_slice-i.result.pid c.first.result) refl c.first.ensures c.fill_orphans.new.mem procs full_come

pub orphan-requires-clause-usable : goal.orphan-requires-clause-usable
orphan-requires-clause-usable g c =
    let there =
    server_there c.args.state.now c.args.i c.args.k c.as_slice.result.now c.index-as_slice-i.result c.requires.there c.as_slice.ensures c.index-as_slice-i.is in
    let orphaned = row_says c.args.state.now c.args.i c.index-as_slice-i.result there c.args.k c.message_at-row.result.now c.message_at-row.ensures
    (λ row. is_orphaned row ≡ true) c.requires.orphaned in
    let made_come = c.in_ok-make_run.ensures.comes (state_pages c.args.file.now c.args.state.now)
    (standing_of c.args.file.now c.args.state.now (orphans_before c.args.state.now.servers c.args.i c.args.k)) c.requires.come
    (
    orphans_fit g.W.SwapStore c.args.file.now c.args.state.now c.requires.resumable c.args.i
    c.index-as_slice-i.result there
    c.args.k c.message_at-row.result.now c.message_at-row.ensures orphaned c.args.mem.now c.requires.processes c.requires.capacity c.requires.come
    (from c.index-as_slice-i.result.pid c.first.result) refl c.first.ensures
    ) in
    let full_come =
    c.in_ok-fill_orphans.ensures.comes (state_pages c.args.file.now c.args.state.now)
    (standing_of c.args.file.now c.args.state.now (orphans_before c.args.state.now.servers c.args.i c.args.k)) made_come in
    c.lend-loan.ensures.keeps.failed ∙ full_come.usable

pub returns-clause-come : goal.returns-clause-come
returns-clause-come g c =
    let there =
    server_there c.args.state.now c.args.i c.args.k c.as_slice.result.now c.index-as_slice-i.result c.requires.there c.as_slice.ensures c.index-as_slice-i.is in
    let orphaned = row_says c.args.state.now c.args.i c.index-as_slice-i.result there c.args.k c.message_at-row.result.now c.message_at-row.ensures
    (λ row. is_orphaned row ≡ true) c.requires.orphaned in
    let made_come = c.in_ok-make_run.ensures.comes (state_pages c.args.file.now c.args.state.now)
    (standing_of c.args.file.now c.args.state.now (orphans_before c.args.state.now.servers c.args.i c.args.k)) c.requires.come
    (
    orphans_fit g.W.SwapStore c.args.file.now c.args.state.now c.requires.resumable c.args.i
    c.index-as_slice-i.result there
    c.args.k c.message_at-row.result.now c.message_at-row.ensures orphaned c.args.mem.now c.requires.processes c.requires.capacity c.requires.come
    (from c.index-as_slice-i.result.pid c.first.result) refl c.first.ensures
    ) in
    let full_come =
    c.in_ok-fill_orphans.ensures.comes (state_pages c.args.file.now c.args.state.now)
    (standing_of c.args.file.now c.args.state.now (orphans_before c.args.state.now.servers c.args.i c.args.k)) made_come in
    let procs =
    procs_kept g.W.SwapStore c.make_run.new.mem
    c.fill_orphans.new.mem c.args.state.now.n c.in_ok-fill_orphans.ensures.keeps
    (procs_kept g.W.SwapStore c.args.mem.now c.make_run.new.mem
    c.args.state.now.n c.in_ok-make_run.ensures.keeps c.requires.processes) in
    let lent =
    lend_comes g.W.SwapStore c.fill_orphans.new.mem
    c.lend-loan.new.self c.lend-loan.ensures.keeps (state_pages c.args.file.now c.args.state.now)
    (with_orphan_pages (state_ledger c.args.file.now c.args.state.now) (from c.index-as_slice-i.result.pid c.first.result) c.message_at-row.result.now.count
    (place_at c.index-as_slice-i.result.pid c.message_at-row.result.now.first)
    (standing_of c.args.file.now c.args.state.now (orphans_before c.args.state.now.servers c.args.i c.args.k))) full_come
    (from c.index-as_slice-i.result.pid c.first.result) c.message_at-row.result.now.count
    (place_at c.index-as_slice-i.result.pid c.message_at-row.result.now.first)
    (row_kind c.message_at-row.result.now) (number_of c.message_at-row.result.now)
    (c.lend-loan.ensures.ledger
    ∙ ap (λ kind. lend (from c.index-as_slice-i.result.pid c.first.result) c.message_at-row.result.now.count
    (place_at c.index-as_slice-i.result.pid c.message_at-row.result.now.first) kind (number_of c.message_at-row.result.now)
    (ledger g.W.SwapStore.held c.fill_orphans.new.mem))
    c.loan_kind.ensures) in
    let lent_procs =
    procs_kept g.W.SwapStore c.fill_orphans.new.mem
    c.lend-loan.new.self c.args.state.now.n
    (seats_keep g.W.SwapStore c.fill_orphans.new.mem
    c.lend-loan.new.self c.lend-loan.ensures.keeps) procs in
    let alone =
    orphan_comes g.W.SwapStore c.lend-loan.new.self
    c.orphan.new.self c.orphan.ensures.keeps (state_pages c.args.file.now c.args.state.now)
    (lend (from c.index-as_slice-i.result.pid c.first.result) c.message_at-row.result.now.count
    (place_at c.index-as_slice-i.result.pid c.message_at-row.result.now.first)
    (row_kind c.message_at-row.result.now) (number_of c.message_at-row.result.now)
    (with_orphan_pages (state_ledger c.args.file.now c.args.state.now) (from c.index-as_slice-i.result.pid c.first.result) c.message_at-row.result.now.count
    (place_at c.index-as_slice-i.result.pid c.message_at-row.result.now.first)
    (standing_of c.args.file.now c.args.state.now (orphans_before c.args.state.now.servers c.args.i c.args.k)))) lent
    (processes c.lend-loan.new.self) (number_of c.message_at-row.result.now)
    (c.orphan.ensures.ledger
    ∙ ap (λ (loan : LoanRun). orphan_loan (processes c.lend-loan.new.self) loan.number (ledger g.W.SwapStore.held c.lend-loan.new.self))
    c.lend-loan.ensures.loan) in
    orphans_come g.W.SwapStore c.args.file.now c.args.state.now c.requires.resumable c.args.i
    c.index-as_slice-i.result there
    c.args.k c.message_at-row.result.now c.message_at-row.ensures orphaned c.args.mem.now c.requires.processes c.requires.capacity c.requires.come
    (from c.index-as_slice-i.result.pid c.first.result) refl c.first.ensures c.orphan.new.self (processes c.lend-loan.new.self) lent_procs alone

pub returns-clause-loan : goal.returns-clause-loan
returns-clause-loan g c =
    let there =
    server_there c.args.state.now c.args.i c.args.k c.as_slice.result.now c.index-as_slice-i.result c.requires.there c.as_slice.ensures c.index-as_slice-i.is in
    let orphaned = row_says c.args.state.now c.args.i c.index-as_slice-i.result there c.args.k c.message_at-row.result.now c.message_at-row.ensures
    (λ row. is_orphaned row ≡ true) c.requires.orphaned in
    orphans_run g.W.SwapStore c.args.file.now c.args.state.now c.requires.resumable c.args.i
    c.index-as_slice-i.result there
    c.args.k c.message_at-row.result.now c.message_at-row.ensures orphaned c.args.mem.now c.requires.processes c.requires.capacity c.requires.come
    (from c.index-as_slice-i.result.pid c.first.result) refl c.first.ensures c.orphan.result
    (c.orphan.ensures.loan ∙ (ap without_lender c.lend-loan.ensures.loan
    ∙ ap (λ kind. record {
      lender = None;
      holder = place_at c.index-as_slice-i.result.pid c.message_at-row.result.now.first;
      count = c.message_at-row.result.now.count;
      kind = kind;
      number = number_of c.message_at-row.result.now;
    }) c.loan_kind.ensures))
