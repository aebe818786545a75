use Rattle.std.proofs.Common.{◌≡◌, ◌∙◌, ◌+◌, List, ℕ, suc, take, drop, get_or, sym, ap, subst, arith}
use Rattle.boot_plan.specs.declared.plans.ProcPlan.{ProcPlan}
use Rattle.xk_ports.specs.Told.{Grows, GrowsByProperPrefix}
use Rattle.xk_ports.proofs.ToldLemmas.{Grows-append}
use Rattle.xous_program.specs.Summary.{process_line, process_lines}
use Rattle.xous_program.proofs.Output.SummaryLemmas.{lines_next, lines_split}
use Rattle.host_io.proofs.ToldLemmas.{on_err, prefix_after}
use Rattle.xous_program.proofs.commands.summary.write_processes.Goals as goal

pub returns-in_err-put_all-clause-front : goal.returns-in_err-put_all-clause-front
returns-in_err-put_all-clause-front g c =
    let ps : List ProcPlan = c.args.processes.now in
    let i : ℕ = c.loop-process.process-index in
    let pid : ℕ = c.loop-process.pid in
    let p : ProcPlan = c.process-item.result in
    let before = g.K.Sink.written c.args.out.now in
    let mid = g.K.Sink.written c.loop-process.out in
    let after = g.K.Sink.written c.put_all.new.out in
    let T : List ℕ → Type 0 = λ text. GrowsByProperPrefix mid after text in
    let P : List ℕ → Type 0 = λ text. GrowsByProperPrefix before after text in
    let front : T (process_line pid (get_or ps i p)) =
    subst T (c.as_slice.ensures.value ∙ c.process_line.ensures ∙ ap (process_line pid) c.process-item.is) c.in_err-put_all.ensures.front in
    on_err c.from_residual.result (P (process_lines 2 ps))
    (subst P (sym (lines_split ps i pid p c.loop-process-test.true c.loop-process.invariant.pid))
    (prefix_after before mid after (process_lines 2 (take i ps)) (process_line pid (get_or ps i p)) (process_lines (suc pid) (drop (suc i) ps)) c.loop-process.invariant.written front))

pub loop-process-preserved : goal.loop-process-preserved
loop-process-preserved g c =
    let ps : List ProcPlan = c.args.processes.now in
    let i : ℕ = c.loop-process.process-index in
    let pid : ℕ = c.loop-process.pid in
    let p : ProcPlan = c.process-item.result in
    let before = g.K.Sink.written c.args.out.now in
    let mid = g.K.Sink.written c.loop-process.out in
    let after = g.K.Sink.written c.put_all.new.out in
    let T : List ℕ → Type 0 = λ text. Grows mid after text in
    let P : List ℕ → Type 0 = λ text. Grows before after text in
    let line : T (process_line pid (get_or ps i p)) =
    subst T (c.as_slice.ensures.value ∙ c.process_line.ensures ∙ ap (process_line pid) c.process-item.is) c.in_ok-put_all.ensures.appended in
    let next : i + 1 ≡ suc i = omega arith in
    record {
      pid = omega (arith, c.loop-process.invariant.pid);
      written = subst P (sym (ap (λ (n : ℕ). process_lines 2 (take n ps)) next ∙ lines_next ps i pid p c.loop-process-test.true c.loop-process.invariant.pid))
          (Grows-append before mid after (process_lines 2 (take i ps)) (process_line pid (get_or ps i p)) c.loop-process.invariant.written line);
      later = omega (arith, c.loop-process.invariant.later, c.put_all.ensures.never_falls);
    }
