use Rattle.std.proofs.Common.{◌≡◌, ◌+◌, refl, subst, arith}
use Rattle.vm_memory.specs.Memory.{ledger, processes}
use Rattle.xk_base.specs.declared.ids.Pid.{Pid}
use Rattle.kill_path.specs.Closing.{Closable, closable}
use Rattle.kill_path.specs.Noted.{noted}
use Rattle.kill_path.proofs.Servers.CloseAllLemmas.{AreFrom, all_empty, all_fresh, all_from, left_from, more_gone, none_gone}
use Rattle.kill_path.proofs.KeepLemmas.{after_both, same_memory}
use Rattle.kill_path.proofs.closing_all.close_all.Goals as goal

pub loop-k-init : goal.loop-k-init
loop-k-init g c =
    let old : Closable = closable (ledger g.W.SwapStore.held c.args.mem.now) c.args.servers.now c.args.queues.now (noted c.new-untold.result) in
    record {
      stays = same_memory g.W.SwapStore c.args.mem.now c.requires.sound;
      messages = c.requires.servers.messages;
      closed = none_gone old;
      from = all_from (processes c.args.mem.now) old c.requires.servers;
    }

pub loop-k-preserved : goal.loop-k-preserved
loop-k-preserved g c =
    let old : Closable = closable (ledger g.W.SwapStore.held c.args.mem.now) c.args.servers.now c.args.queues.now (noted c.new-untold.result) in
    let now : Closable = closable (ledger g.W.SwapStore.held c.loop-k.mem) c.loop-k.servers c.loop-k.queues (noted c.loop-k.untold) in
    let new : Closable = closable (ledger g.W.SwapStore.held c.close_servers.new.mem) c.close_servers.new.servers c.close_servers.new.queues (noted c.close_servers.new.answered) in
    let pid : Pid = record { 0 = c.loop-k.k + 2 } in
    record {
      stays = after_both g.W.SwapStore c.args.mem.now c.loop-k.mem c.close_servers.new.mem
          c.loop-k.invariant.stays c.close_servers.ensures.stays;
      messages = c.close_servers.ensures.messages;
      closed = more_gone pid old now new c.loop-k.invariant.closed c.close_servers.ensures.closed;
      from = left_from pid (c.loop-k.k + 2) (c.loop-k.k + 1 + 2) now new c.close_servers.ensures.closed refl (omega arith) c.loop-k.invariant.from;
    }

pub returns-clause-no_loan : goal.returns-clause-no_loan
returns-clause-no_loan g c =
    let old : Closable = closable (ledger g.W.SwapStore.held c.args.mem.now) c.args.servers.now c.args.queues.now (noted c.new-untold.result) in
    let now : Closable = closable (ledger g.W.SwapStore.held c.loop-k.mem) c.loop-k.servers c.loop-k.queues (noted c.loop-k.untold) in
    let done : c.loop-k.k + 2 ≡ 66 = omega arith in
    all_fresh (processes c.args.mem.now) old c.requires.servers now c.requires.sound.few c.loop-k.invariant.closed c.loop-k.invariant.messages
    (subst (λ low. AreFrom low now) done c.loop-k.invariant.from)

pub returns-clause-empty : goal.returns-clause-empty
returns-clause-empty g c =
    let old : Closable = closable (ledger g.W.SwapStore.held c.args.mem.now) c.args.servers.now c.args.queues.now (noted c.new-untold.result) in
    let now : Closable = closable (ledger g.W.SwapStore.held c.loop-k.mem) c.loop-k.servers c.loop-k.queues (noted c.loop-k.untold) in
    let done : c.loop-k.k + 2 ≡ 66 = omega arith in
    all_empty (processes c.args.mem.now) old c.requires.servers now c.requires.sound.few c.loop-k.invariant.closed c.loop-k.invariant.messages
    (subst (λ low. AreFrom low now) done c.loop-k.invariant.from)
