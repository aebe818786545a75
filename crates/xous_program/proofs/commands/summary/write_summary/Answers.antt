use Rattle.std.proofs.Common.{◌∙◌, ◌++◌, List, ℕ, subst}
use Rattle.boot_plan.specs.declared.plans.BootPlan.{BootPlan}
use Rattle.boot_plan.specs.declared.plans.ProcPlan.{ProcPlan}
use Rattle.std.specs.Prelude.{OnErr, OnOk}
use Rattle.xk_ports.specs.Told.{Grows, GrowsByProperPrefix}
use Rattle.xk_ports.proofs.ToldLemmas.{Grows-append}
use Rattle.xous_program.specs.Summary.{process_lines, ram_line, summary_of, total_line}
use Rattle.host_io.proofs.ToldLemmas.{front_later, front_longer, on_err, on_err_map, on_ok_map}
use Rattle.xous_program.proofs.commands.summary.write_summary.Goals as goal

pub returns-in_err-put_all-clause-front : goal.returns-in_err-put_all-clause-front
returns-in_err-put_all-clause-front g c =
    let plan : BootPlan = c.args.plan.now in
    let before = g.K.Sink.written c.args.out.now in
    let after = g.K.Sink.written c.put_all.new.out in
    let T : List ℕ → Type 0 = λ text. GrowsByProperPrefix before after text in
    on_err c.from_residual.result (T (summary_of plan))
    (front_longer before after (ram_line plan) (process_lines 2 plan.procs ++ total_line plan)
    (subst T (c.as_slice.ensures.value ∙ c.ram_line.ensures) c.in_err-put_all.ensures.front))

pub returns-in_err-write_processes-clause-front : goal.returns-in_err-write_processes-clause-front
returns-in_err-write_processes-clause-front g c =
    let plan : BootPlan = c.args.plan.now in
    let before = g.K.Sink.written c.args.out.now in
    let mid = g.K.Sink.written c.put_all.new.out in
    let after = g.K.Sink.written c.write_processes.new.out in
    let R : List ℕ → Type 0 = λ text. Grows before mid text in
    let S : List ProcPlan → Type 0 = λ ps. GrowsByProperPrefix mid after (process_lines 2 ps) in
    on_err c.from_residual-in_err-write_processes.result (GrowsByProperPrefix before after (summary_of plan))
    (front_later before mid after (ram_line plan) (process_lines 2 plan.procs ++ total_line plan)
    (subst R (c.as_slice.ensures.value ∙ c.ram_line.ensures) c.in_ok-put_all.ensures.appended)
    (front_longer mid after (process_lines 2 plan.procs) (total_line plan) (subst S c.as_slice-2.ensures c.in_err-write_processes.ensures.front)))

pub returns-clause-appended : goal.returns-clause-appended
returns-clause-appended g c =
    let plan : BootPlan = c.args.plan.now in
    let before = g.K.Sink.written c.args.out.now in
    let first = g.K.Sink.written c.put_all.new.out in
    let second = g.K.Sink.written c.write_processes.new.out in
    let after = g.K.Sink.written c.put_all-2.new.out in
    let R : List ℕ → Type 0 = λ text. Grows before first text in
    let S : List ProcPlan → Type 0 = λ ps. Grows first second (process_lines 2 ps) in
    let T : List ℕ → Type 0 = λ text. OnOk c.put_all-2.result (Grows second after text) in
    let ram : R (ram_line plan) = subst R (c.as_slice.ensures.value ∙ c.ram_line.ensures) c.in_ok-put_all.ensures.appended in
    let lines : S plan.procs = subst S c.as_slice-2.ensures c.in_ok-write_processes.ensures.appended in
    let total : T (total_line plan) = subst T (c.as_slice-3.ensures.value ∙ c.total_line.ensures) c.put_all-2.ensures.appended in
    on_ok_map c.put_all-2.result (Grows second after (total_line plan)) (Grows before after (summary_of plan))
    (λ last. Grows-append before first after (ram_line plan) (process_lines 2 plan.procs ++ total_line plan) ram
    (Grows-append first second after (process_lines 2 plan.procs) (total_line plan) lines last))
    total

pub returns-clause-front : goal.returns-clause-front
returns-clause-front g c =
    let plan : BootPlan = c.args.plan.now in
    let before = g.K.Sink.written c.args.out.now in
    let first = g.K.Sink.written c.put_all.new.out in
    let second = g.K.Sink.written c.write_processes.new.out in
    let after = g.K.Sink.written c.put_all-2.new.out in
    let R : List ℕ → Type 0 = λ text. Grows before first text in
    let S : List ProcPlan → Type 0 = λ ps. Grows first second (process_lines 2 ps) in
    let T : List ℕ → Type 0 = λ text. OnErr c.put_all-2.result (GrowsByProperPrefix second after text) in
    let ram : R (ram_line plan) = subst R (c.as_slice.ensures.value ∙ c.ram_line.ensures) c.in_ok-put_all.ensures.appended in
    let lines : S plan.procs = subst S c.as_slice-2.ensures c.in_ok-write_processes.ensures.appended in
    let total : T (total_line plan) = subst T (c.as_slice-3.ensures.value ∙ c.total_line.ensures) c.put_all-2.ensures.front in
    on_err_map c.put_all-2.result (GrowsByProperPrefix second after (total_line plan)) (GrowsByProperPrefix before after (summary_of plan))
    (λ last. front_later before first after (ram_line plan) (process_lines 2 plan.procs ++ total_line plan) ram
    (front_later first second after (process_lines 2 plan.procs) (total_line plan) lines last))
    total
