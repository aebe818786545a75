use Rattle.std.proofs.Common.{◌≡◌, ap, ◌∙◌, arith}
use Rattle.thread_table.specs.Shown.{threads_of}
use Rattle.kill_path.specs.Noted.{noted}
use Rattle.kill_path.proofs.Threads.ReceivingLemmas.{all_up_to, none_up_to, noted_up_to, one_more_up_to}
use Rattle.kill_path.proofs.telling.note_receiving.Goals as goal

pub loop-k-init : goal.loop-k-init
loop-k-init c = none_up_to c.args.pid c.args.serial (threads_of c.args.threads.now) (noted c.args.noted_ids.now)

pub loop-k-preserved : goal.loop-k-preserved
loop-k-preserved c =
    one_more_up_to c.args.pid c.args.serial (threads_of c.args.threads.now) (noted c.args.noted_ids.now) c.loop-k.k (omega arith)
    (noted c.loop-k.noted_ids) (noted c.note_if_receiving.new.noted_ids) c.loop-k.invariant c.note_if_receiving.ensures

pub returns : goal.returns
returns c =
    let done : c.loop-k.k ≡ 31 = omega arith in
    c.loop-k.invariant
    ∙ ap (λ k. noted_up_to k c.args.pid c.args.serial (threads_of c.args.threads.now) (noted c.args.noted_ids.now)) done
    ∙ all_up_to c.args.pid c.args.serial (threads_of c.args.threads.now) (noted c.args.noted_ids.now)
