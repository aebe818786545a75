use Rattle.std.proofs.Common.{◌≡◌, ◌<◌, ◌*◌, List, true, false, length, ap, sym, ◌∙◌, subst, arith}
use Rattle.std.specs.Prelude.{All}
use Rattle.std.specs.List.{flat_map}
use Rattle.kernel_args.specs.declared.args.ProcArgs.{ProcArgs}
use Rattle.kernel_args.specs.declared.args.ProcName.{ProcName}
use Rattle.kernel_args.specs.Contents.{IsProcess}
use Rattle.kernel_args.specs.Writing.{names_contents, process_row, names_row, HasPid}
use Rattle.kernel_args.proofs.HeaderLemmas.{version_is_good, version_when_good, ram_is_good, ram_when_good}
use Rattle.kernel_args.proofs.WritingLemmas.{short_slots}
use Rattle.kernel_args.proofs.WritableLemmas.{refused, decided}
use Rattle.kernel_args.proofs.writing.writable.Goals as goal
use Rattle.kernel_args.proofs.writing.writable.Goals.{then-is_bad_version-via-then-is_bad_version, then-is_bad_version-via-else-is_bad_version+then-is_bad_ram, then-is_bad_version-via-else-is_bad_version+else-is_bad_ram+then-not-are_slots, then-is_bad_version-via-else-is_bad_version+else-is_bad_ram+else-not-are_slots+then-not-is_process_count}

pub returns-then-is_bad_version : goal.returns-then-is_bad_version
returns-then-is_bad_version c =
    let args = c.args.args.now in
    let count = ap (λ (l : List ProcArgs). length l) c.as_slice-processes.ensures in
    elim c.then-is_bad_version.branch [
      | then-is_bad_version-via-then-is_bad_version w ↦
          refused args (λ fit. let e : true ≡ false = sym w.if-is_bad_version.true ∙ c.is_bad_version.ensures ∙ version_is_good args.version fit.version in absurd cc)
      | then-is_bad_version-via-else-is_bad_version+then-is_bad_ram w ↦
          refused args (λ fit. let e : true ≡ false = sym w.if-is_bad_ram.true ∙ w.is_bad_ram.ensures ∙ ram_is_good args.ram_start args.ram_size fit.ram in absurd cc)
      | then-is_bad_version-via-else-is_bad_version+else-is_bad_ram+then-not-are_slots w ↦
          refused args (λ fit. let e : true ≡ false = sym (w.are_slots.ensures.1 fit.slots) ∙ w.if-not-are_slots.true in absurd cc)
      | then-is_bad_version-via-else-is_bad_version+else-is_bad_ram+else-not-are_slots+then-not-is_process_count w ↦
          refused args (λ fit. let some = fit.some in let few = fit.few in
          let e : true ≡ false = sym (w.is_process_count.ensures.1 (omega arith, omega arith)) ∙ w.if-not-is_process_count.true in absurd cc)
    ]

pub returns-in_default : goal.returns-in_default
returns-in_default c =
    let args = c.args.args.now in
    refused args (λ fit. c.in_default.ensures (subst (λ (l : List ProcArgs). All (IsProcess args.version) l) (sym c.as_slice-processes.ensures) fit.procs))

pub returns-in_default-names_tag_size : goal.returns-in_default-names_tag_size
returns-in_default-names_tag_size c =
    let size = ap (λ (l : List ProcName). length (names_contents l)) c.as_slice.ensures in
    refused c.args.args.now (λ fit. let short = fit.names in omega (arith, c.in_default-names_tag_size.ensures))

pub overflow_add-result : goal.overflow_add-result
overflow_add-result c = omega (arith, short_slots c.args.args.now.slots)

pub overflow_add-result-2 : goal.overflow_add-result-2
overflow_add-result-2 c = omega (arith, short_slots c.args.args.now.slots, c.in-Some.ensures.2)

pub overflow_add-result-3 : goal.overflow_add-result-3
overflow_add-result-3 c = omega (arith, short_slots c.args.args.now.slots, c.in-Some.ensures.2, c.in-Some-names_tag_size.ensures.3)

pub returns : goal.returns
returns c =
    let args = c.args.args.now in
    let count = ap (λ (l : List ProcArgs). length l) c.as_slice-processes.ensures in
    let within = c.is_process_count.ensures.0 c.if-not-is_process_count.false in
    let some = within.0 in
    let few = within.1 in
    decided args c.slots_size.result c.in-Some.processes_size c.in-Some-names_tag_size.names_size
    (record {
      words = omega arith;
      ram_name = omega arith;
      version = version_when_good args.version (sym c.is_bad_version.ensures ∙ c.if-is_bad_version.false);
      ram = ram_when_good args.ram_start args.ram_size (sym c.is_bad_ram.ensures ∙ c.if-is_bad_ram.false);
      some = omega arith;
      few = omega arith;
      procs = subst (λ (l : List ProcArgs). All (IsProcess args.version) l) c.as_slice-processes.ensures c.in-Some.ensures.0;
      pids = subst (λ (l : List ProcName). All HasPid l) c.as_slice.ensures c.in-Some-names_tag_size.ensures.0;
      slots = c.are_slots.ensures.0 c.if-not-are_slots.false;
      names = subst (λ (l : List ProcName). length (names_contents l) < 4 * 65536) c.as_slice.ensures c.in-Some-names_tag_size.ensures.2;
    })
    c.slots_size.ensures
    (c.in-Some.ensures.1 ∙ ap (λ (l : List ProcArgs). length (flat_map process_row l)) c.as_slice-processes.ensures)
    (c.in-Some-names_tag_size.ensures.1 ∙ ap (λ (l : List ProcName). length (names_row l)) c.as_slice.ensures)
