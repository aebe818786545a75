use Rattle.std.proofs.Common.{◌≡◌, ◌++◌, Bool, List, OnOk, [], false, subst, sym, ℕ}
use Rattle.std.specs.Prelude.{◌==◌, codes, if◌then◌else◌}
use Rattle.std.proofs.lemmas.Bool.{false_from_ne_true}
use Rattle.std.proofs.lemmas.Bool.Decides.{Decides-eqb}
use Rattle.order_text.proofs.LineLemmas.{two_pieces}
use Rattle.order_text.specs.Lines.{counted}
use Rattle.order_text.proofs.sizes.put_preempted.Goals as goal

pub returns : goal.returns
returns c =
    let some : (c.args.count == 0) ≡ false = false_from_ne_true (c.args.count == 0) (λ e. c.if-count-eq0.false ((Decides-eqb c.args.count 0).0 e)) in
    let text : List ℕ = codes ", " ++ counted c.args.count (codes "preemption") in
    subst (λ (b : Bool). OnOk c.put_counted.result (c.put_counted.new.text.items ≡ c.args.text.now.items ++ (if b then [] else text))) (sym some)
    (two_pieces c.put_counted.result c.args.text.now.items c.put.new.text.items c.put_counted.new.text.items (codes ", ")
    (counted c.args.count (codes "preemption")) c.in_ok-put.ensures c.put_counted.ensures)
