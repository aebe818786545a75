use Rattle.std.proofs.Common.{◌≡◌, ◌++◌, OnOk, subst, sym}
use Rattle.order_model.specs.Endings.{ThreadSeen}
use Rattle.snapshot_rows.specs.Machines.{machine_of}
use Rattle.order_text.specs.Texts.{about_text}
use Rattle.order_text.proofs.AboutLemmas.{joining_seen, waiting_seen}
use Rattle.order_text.proofs.waits.put_about.Goals as goal

pub returns-in-2 : goal.returns-in-2
returns-in-2 c file =
    subst (λ (seen : ThreadSeen). OnOk c.put_waits.result (c.put_waits.new.text.items ≡ c.args.text.now.items ++ about_text c.args.named (record { 0 = c.args.pid }) seen))
    (sym (waiting_seen (machine_of file c.args.state.now) c.args.thread.now c.in-2.is)) (c.put_waits.ensures file)

pub returns-in-3 : goal.returns-in-3
returns-in-3 c file =
    subst (λ (seen : ThreadSeen). OnOk c.put_joins.result (c.put_joins.new.text.items ≡ c.args.text.now.items ++ about_text c.args.named (record { 0 = c.args.pid }) seen))
    (sym (joining_seen (machine_of file c.args.state.now) c.args.thread.now c.in-3.is)) (c.put_joins.ensures c.args.named)
