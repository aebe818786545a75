use Rattle.std.proofs.Common.{◌≡◌, ◌+◌, ◌++◌, ◌∙◌, ℕ, ap, arith, sym, true}
use Rattle.std.specs.List.{flat_map}
use Rattle.std.specs.Prelude.{map}
use Rattle.std.proofs.lemmas.List.{append-nil}
use Rattle.order_model.specs.Endings.{process_seen}
use Rattle.order_model.specs.Exits.{exit_in}
use Rattle.snapshot_rows.specs.Machines.{machine_of}
use Rattle.xk_base.specs.Tables.Counting.{listed_below}
use Rattle.order_text.specs.Texts.{process_text}
use Rattle.order_text.proofs.TextLemmas.{next_piece}
use Rattle.order_text.proofs.seen.put_processes.Goals as goal

pub loop-place-init : goal.loop-place-init
unfolding listed_below
loop-place-init c file = sym (append-nil c.args.text.now.items)

pub loop-place-preserved : goal.loop-place-preserved
loop-place-preserved c file =
    next_piece (process_text c.args.sights) (λ (k : ℕ). process_seen (machine_of file c.args.state.now) (exit_in c.args.ends.now) (record { 0 = k + 2 })) c.args.text.now.items
    c.loop-place.text.items c.put_process.new.text.items c.loop-place.place (c.loop-place.invariant file) (c.in_ok-put_process.ensures file)

pub returns : goal.returns
returns c file =
    let all : c.loop-place.place ≡ c.args.state.now.n = omega (arith, c.loop-place-test.false) in
    c.loop-place.invariant file
    ∙ ap (λ (n : ℕ). c.args.text.now.items
    ++ flat_map (process_text c.args.sights) (map (λ k. process_seen (machine_of file c.args.state.now) (exit_in c.args.ends.now) (record { 0 = k + 2 })) (listed_below n (λ k. true)))) all
