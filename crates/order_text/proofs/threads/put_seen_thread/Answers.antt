use Rattle.std.proofs.Common.{◌≡◌, ◌++◌, ◌∙◌, ℕ, List, OnOk, Some, ap, subst, sym}
use Rattle.std.specs.List.{find}
use Rattle.std.specs.Prelude.{◌==◌, ◌&&◌, codes, decimal}
use Rattle.order_model.specs.Endings.{ThreadSeen, state_seen}
use Rattle.snapshot_rows.specs.declared.state.ThreadRow.{ThreadRow}
use Rattle.snapshot_rows.specs.Machines.{machine_of, thread_of}
use Rattle.order_text.specs.Texts.{about_text, thread_text}
use Rattle.order_text.proofs.AboutLemmas.{row_seen}
use Rattle.order_text.proofs.TextLemmas.{two_pieces}
use Rattle.order_text.proofs.threads.put_seen_thread.Goals as goal

pub returns-in-Some : goal.returns-in-Some
returns-in-Some c file =
    let old = c.args.text.now.items in
    let who = c.args.who in
    let row = c.in-Some.row in
    let about = state_seen (machine_of file c.args.state.now) (thread_of row).state in
    let found : find (λ t. t.pid == who.pid.0 && t.tid == who.tid.0) c.args.state.now.threads ≡ Some row =
    sym (c.row_of.ensures ∙ ap (find (λ (t : ThreadRow). t.pid == who.pid.0 && t.tid == who.tid.0)) c.as_slice.ensures) ∙ c.in-Some.is in
    let first : c.put_thread.new.text.items ≡ old ++ thread_text who =
    c.in_ok-put_thread.ensures
    ∙ (ap (λ (n : ℕ). old ++ (decimal n ++ (codes "." ++ decimal c.from-2.result))) c.from.ensures
    ∙ ap (λ (n : ℕ). old ++ (decimal who.pid.0 ++ (codes "." ++ decimal n))) c.from-2.ensures) in
    subst (λ (xs : List ℕ). OnOk c.put_about.result (c.put_about.new.text.items ≡ xs))
    (two_pieces old (thread_text who) (about_text c.args.named who.pid about) c.put_thread.new.text.items _ first
    (ap (λ (n : ℕ). c.put_thread.new.text.items ++ about_text c.args.named (record { 0 = n }) about) c.from-in-Some.ensures)
    ∙ ap (λ (seen : ThreadSeen). old ++ (thread_text who ++ about_text c.args.named who.pid seen)) (sym (row_seen file c.args.state.now who row found)))
    (c.put_about.ensures file)
