use Rattle.std.proofs.Common.{◌+◌, ◌∙◌, Bool, arith, false, sym, ℕ}
use Rattle.std.specs.Option.{option_map_or}
use Rattle.order_model.specs.Exits.{exit_in}
use Rattle.order_model.specs.Failing.{is_bad}
use Rattle.order_model.proofs.FailingLemmas.{none_found, some_found}
use Rattle.order_model.proofs.failing.some_ended.Goals as goal

pub returns-then-has_ended : goal.returns-then-has_ended
returns-then-has_ended c =
    let ended : ℕ → Bool = λ k. option_map_or (is_bad c.args.how) (exit_in c.args.ends.now (k + 2)) false in
    some_found c.args.count c.loop-place.place ended (omega arith) (sym c.has_ended.ensures ∙ c.if-has_ended.true)

pub returns : goal.returns
returns c =
    let ended : ℕ → Bool = λ k. option_map_or (is_bad c.args.how) (exit_in c.args.ends.now (k + 2)) false in
    none_found c.args.count ended (λ k low. c.loop-place.invariant k (omega (arith, low)))
