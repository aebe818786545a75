use Rattle.std.proofs.Common.{List, ℕ, ◌≤◌, ◌++◌, length, ap, sym, subst, arith}
use Rattle.std.specs.Prelude.{All}
use Rattle.std.proofs.lemmas.List.Elements.{All-weaker}
use Rattle.kernel_args.specs.declared.args.ProcArgs.{ProcArgs}
use Rattle.kernel_args.specs.declared.args.ProcName.{ProcName}
use Rattle.kernel_args.specs.Contents.{IsProcess}
use Rattle.kernel_args.specs.Image.{Spells}
use Rattle.kernel_args.specs.Writing.{names_contents}
use Rattle.kernel_args.proofs.WritingLemmas.{appended}
use Rattle.kernel_args.proofs.WritableLemmas.{writable_is_fit, written_spells}
use Rattle.kernel_args.proofs.writing.write_args.Goals as goal

pub append_processes-requires : goal.append_processes-requires
append_processes-requires c =
    let fit = writable_is_fit c.args.args.now c.requires in
    subst (λ (l : List ProcArgs). All (λ p. length p.sections ≤ 32) l) (sym c.as_slice.ensures)
    (All-weaker (IsProcess c.args.args.now.version) (λ p. length p.sections ≤ 32) (λ p h. h.few) c.args.args.now.procs fit.procs)

pub append_names-requires : goal.append_names-requires
append_names-requires c =
    let fit = writable_is_fit c.args.args.now c.requires in
    let short = fit.names in
    omega (arith, ap (λ (l : List ProcName). length (names_contents l)) c.as_slice-2.ensures)

pub returns-clause-written : goal.returns-clause-written
returns-clause-written c =
    appended c.args.args.now c.new-out.result c.append_header.new.out c.append_slots.new.out c.append_processes.new.out c.append_names.new.out c.as_slice.result.now c.as_slice-2.result.now
    c.new-out.ensures c.in_ok-append_header.ensures c.in_ok-append_slots.ensures c.in_ok-append_processes.ensures c.in_ok-append_names.ensures c.as_slice.ensures c.as_slice-2.ensures

pub returns-clause-read_back : goal.returns-clause-read_back
returns-clause-read_back c more =
    let is =
    appended c.args.args.now c.new-out.result c.append_header.new.out c.append_slots.new.out c.append_processes.new.out c.append_names.new.out c.as_slice.result.now c.as_slice-2.result.now
    c.new-out.ensures c.in_ok-append_header.ensures c.in_ok-append_slots.ensures c.in_ok-append_processes.ensures c.in_ok-append_names.ensures c.as_slice.ensures c.as_slice-2.ensures in
    subst (λ (l : List ℕ). Spells (l ++ more) c.args.args.now) (sym is) (written_spells c.args.args.now more c.requires)
