use Rattle.std.proofs.Common.{◌≡◌, ◌++◌, ◌∙◌, List, ap, arith, length, refl, sym, ℕ}
use Rattle.std.proofs.lemmas.Option.{slice_get_read}
use Rattle.order_text.specs.Lines.{failures_below}
use Rattle.order_text.proofs.LineLemmas.{failure_there, failures_on, no_failures}
use Rattle.order_text.proofs.answer.put_failures.Goals as goal

pub loop-place-init : goal.loop-place-init
loop-place-init c = no_failures c.args.fails.now c.args.list.now c.args.text.now.items

pub loop-place-preserved : goal.loop-place-preserved
loop-place-preserved c =
    let list = c.args.list.now in
    let there = slice_get_read list (length list) c.loop-place.place c.index-list-place.result refl (omega arith) c.index-list-place.is in
    failures_on c.args.fails.now list c.loop-place.place c.args.text.now.items c.loop-place.text.items c.put_failure_of.new.text.items
    c.loop-place.invariant
    (c.in_ok-put_failure_of.ensures
    ∙ ap (λ (xs : List ℕ). c.loop-place.text.items ++ xs)
    (sym (failure_there c.args.fails.now list c.loop-place.place c.index-list-place.result there)))

pub returns : goal.returns
returns c =
    let done : c.loop-place.place ≡ length c.args.list.now = omega arith in
    c.loop-place.invariant ∙ ap (λ (n : ℕ). c.args.text.now.items ++ failures_below n c.args.fails.now c.args.list.now) done
