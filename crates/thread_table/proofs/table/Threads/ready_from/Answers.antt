use Rattle.std.proofs.Common.{◌≡◌, ◌<◌, ◌≤◌, ℕ, false, length, Option, IfNone, sym, subst, ◌∙◌, arith}
use Rattle.thread_table.specs.ThreadMap.{is_ready_in}
use Rattle.thread_table.specs.Shown.{process_count, threads_of}
use Rattle.thread_table.proofs.MarkLemmas.{not_ready, one_more}
use Rattle.thread_table.proofs.table.Threads.ready_from.Goals as goal
use Rattle.thread_table.proofs.table.Threads.ready_from.Goals.{else-has-via-then-has+else-is_ready_in, else-has-via-else-has}

pub returns-in_err-first-clause-none : goal.returns-in_err-first-clause-none
unfolding process_count threads_of
returns-in_err-first-clause-none c =
    let t = c.args.self.now in
    let inside : c.args.row < length t.ready.items = omega (arith, c.requires.row, t.sets, t.ready.ok.0) in
    subst (λ (r : Option ℕ). IfNone r ((tid : ℕ) → c.args.from ≤ tid → is_ready_in (threads_of t) c.args.row tid ≡ false)) (sym c.from_residual.ensures)
    (λ tid low. not_ready t.procs t.ready.items t.by_place.items c.args.row c.index-tids.result.now t.marked inside c.index-tids.ensures tid
    (c.in_err-first.ensures.none tid low))

pub loop-tid-init : goal.loop-tid-init
unfolding process_count threads_of
loop-tid-init c =
    let t = c.args.self.now in
    let inside : c.args.row < length t.ready.items = omega (arith, c.requires.row, t.sets, t.ready.ok.0) in
    λ tid low early. not_ready t.procs t.ready.items t.by_place.items c.args.row c.index-tids.result.now t.marked inside c.index-tids.ensures tid
    (c.in_ok-first.ensures.first tid low early)

pub loop-tid-preserved : goal.loop-tid-preserved
unfolding process_count threads_of
loop-tid-preserved c =
    let t = c.args.self.now in
    let inside : c.args.row < length t.ready.items = omega (arith, c.requires.row, t.sets, t.ready.ok.0) in
    let here : is_ready_in (threads_of t) c.args.row c.loop-tid.tid ≡ false =
    elim c.else-has.branch [
      | else-has-via-then-has+else-is_ready_in w ↦ sym w.is_ready_in.ensures ∙ w.if-is_ready_in.false
      | else-has-via-else-has w ↦
          not_ready t.procs t.ready.items t.by_place.items c.args.row c.index-tids.result.now t.marked inside c.index-tids.ensures c.loop-tid.tid
          (sym c.has.ensures ∙ w.if-has.false)
    ] in
    one_more (λ (tid : ℕ). is_ready_in (threads_of t) c.args.row tid) c.args.from c.loop-tid.tid c.loop-tid.invariant here
