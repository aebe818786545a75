use Rattle.std.proofs.Common.{◌≡◌, ◌++◌, ◌∙◌, ℕ, ap, arith, sym, true}
use Rattle.std.specs.List.{flat_map}
use Rattle.std.proofs.lemmas.List.{append-nil}
use Rattle.order_model.specs.Exits.{exit_in}
use Rattle.order_search.specs.Keys.{exit_bytes, exits_bytes}
use Rattle.order_search.proofs.KeyLemmas.{next_exit}
use Rattle.xk_base.specs.Tables.Counting.{listed_below}
use Rattle.order_search.proofs.beside.push_exits.Goals as goal

pub loop-number-init : goal.loop-number-init
unfolding listed_below
loop-number-init c = sym (append-nil c.args.bytes.now.items)

pub loop-number-preserved : goal.loop-number-preserved
loop-number-preserved c =
    next_exit (exit_in c.args.ends.now) c.loop-number.number c.args.bytes.now.items c.loop-number.bytes.items c.push_exit.new.bytes.items
    c.loop-number.invariant (c.in_ok-push_exit.ensures ∙ ap (λ exit. c.loop-number.bytes.items ++ exit_bytes exit) c.exit_in.ensures)

pub returns : goal.returns
unfolding exits_bytes
returns c =
    let all : c.loop-number.number ≡ 256 = omega (arith, c.loop-number-test.false) in
    c.loop-number.invariant
    ∙ ap (λ (n : ℕ). c.args.bytes.now.items ++ flat_map (λ pid. exit_bytes (exit_in c.args.ends.now pid)) (listed_below n (λ pid. true))) all
