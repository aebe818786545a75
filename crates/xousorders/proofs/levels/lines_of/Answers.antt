use Rattle.std.proofs.Common.{◌≡◌, ◌∙◌, ◌++◌, List, ℕ, ap, arith, length}
use Rattle.order_search.specs.Found.{finding_of}
use Rattle.order_text.specs.Lines.{differ_text, endings_text, failures_text}
use Rattle.xousorders.specs.Reports.{searched_line}
use Rattle.order_text.proofs.LineLemmas.{four_pieces}
use Rattle.xousorders.proofs.levels.lines_of.Goals as goal

pub returns : goal.returns
returns c =
    let told = c.args.told.now in
    let view = c.args.view.now in
    let list = told.endings.list.items in
    let count : c.len.result ≡ length list = omega (arith, told.endings.list.ok.0) in
    four_pieces (searched_line (finding_of c.args.quest.now.subject told.found)) (endings_text told.endings)
    (failures_text view.fails.items list) (differ_text view.differ (length list)) c.put_searched.new.text.items c.put_endings.new.text.items
    c.put_failures.new.text.items c.put_differ.new.text.items
    (c.in_ok-put_searched.ensures
    ∙ ap (λ (xs : List ℕ). xs ++ searched_line (finding_of c.args.quest.now.subject told.found)) c.new-text.ensures.items)
    c.in_ok-put_endings.ensures
    (c.in_ok-put_failures.ensures
    ∙ (λ i. c.put_endings.new.text.items ++ failures_text (c.deref.ensures.value i) (c.deref-2.ensures.value i)))
    (c.in_ok-put_differ.ensures ∙ ap (λ (n : ℕ). c.put_failures.new.text.items ++ differ_text view.differ n) count)
