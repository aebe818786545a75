use Rattle.std.proofs.Common.{◌≡◌, ◌+◌, ◌++◌, ◌∙◌, ℕ, List, OnOk, Option, ap, refl, subst, true}
use Rattle.std.specs.List.{flat_map}
use Rattle.std.specs.Prelude.{map}
use Rattle.machine_model.specs.State.Machine.{Machine}
use Rattle.order_model.specs.declared.exits.Exit.{Exit}
use Rattle.order_model.specs.Endings.{process_seen, seen_of}
use Rattle.order_model.specs.Exits.{exit_in}
use Rattle.snapshot_rows.specs.Machines.{machine_of}
use Rattle.xk_base.specs.Tables.Counting.{listed_below}
use Rattle.order_text.specs.Texts.{console_part, process_text, seen_text}
use Rattle.order_text.proofs.TextLemmas.{two_pieces}
use Rattle.order_text.proofs.seen.put_seen.Goals as goal

pub returns : goal.returns
unfolding seen_of seen_text
returns c p stand =
    let sights = c.args.sights in
    let processes = λ (m : Machine) (exits : ℕ → Option Exit).
    flat_map (process_text sights) (map (λ k. process_seen m exits (record { 0 = k + 2 })) (listed_below m.processes (λ k. true))) in
    let console : c.deref.result.now ≡ p.console = c.deref.ensures.value ∙ stand.console in
    let exits : exit_in c.deref-2.result.now ≡ p.exits = ap exit_in c.deref-2.ensures.value ∙ (λ i pid. stand.exits pid i) in
    subst (λ (xs : List ℕ). OnOk c.put_processes.result (c.put_processes.new.text.items ≡ xs))
    (two_pieces c.args.text.now.items (console_part sights.console c.args.hex c.deref.result.now)
    (processes (machine_of stand.file c.args.state.now) (exit_in c.deref-2.result.now)) c.put_console_part.new.text.items _
    c.in_ok-put_console_part.ensures refl
    ∙ (λ i. c.args.text.now.items ++ (console_part sights.console c.args.hex (console i) ++ processes (stand.rows i) (exits i))))
    (c.put_processes.ensures stand.file)
