use Rattle.std.proofs.Common.{◌≡◌, ◌++◌, OnOk, subst, sym, ℕ}
use Rattle.std.specs.Prelude.{codes, decimal}
use Rattle.graph_search.specs.declared.found.Strategy.{Strategy}
use Rattle.order_text.proofs.LineLemmas.{two_pieces}
use Rattle.order_text.specs.Lines.{level_text}
use Rattle.order_text.proofs.answer.put_level.Goals as goal

pub returns-in_ok-put-in-Depth : goal.returns-in_ok-put-in-Depth
returns-in_ok-put-in-Depth c =
    subst (λ (by : Strategy). OnOk c.put_number.result (c.put_number.new.text.items ≡ c.args.text.now.items ++ level_text by c.args.preemptions))
    (sym c.in-Depth.is)
    (two_pieces c.put_number.result c.args.text.now.items c.put.new.text.items c.put_number.new.text.items (codes " preemptions ")
    (decimal c.args.preemptions) c.in_ok-put-in-Depth.ensures
    (subst (λ (n : ℕ). OnOk c.put_number.result (c.put_number.new.text.items ≡ c.put.new.text.items ++ decimal n)) c.from.ensures c.put_number.ensures))
