use Rattle.std.proofs.Common.{rules, tests, ◌≡◌, ℕ, Bool, length, is_some, refl, ◌∙◌}
use Rattle.std.proofs.lemmas.Iterator.{YieldsList-from_range}
use Rattle.std.proofs.lemmas.Iterator.Consumers.{YieldsList-from_filter, count_from_yields_List}
use Rattle.std.proofs.lemmas.List.Sums.{length-filter}
use Rattle.std.specs.List.{filter, range_with_len}
use Rattle.thread_table.specs.ThreadMap.{thread_above}
use Rattle.thread_table.specs.Shown.{threads_of}
use Rattle.thread_table.proofs.CountLemmas.{count_all}
use Rattle.thread_table.proofs.table.Threads.live.Goals as goal

pub returns : goal.returns
returns c =
    let test : ℕ → Bool = λ k. is_some (threads_of c.args.self.now (thread_above c.args.pid k)) in
    let counted : c.count-live.result ≡ length (filter test (range_with_len 0 30)) =
    count_from_yields_List _ c.count-live.result c.count-live.ensures.ran
    (YieldsList-from_filter _ test (YieldsList-from_range 0 30 30 c.filter.ensures.source refl) c.filter.ensures.closure (λ x b q k. search (rules, tests))) in
    counted ∙ length-filter test (range_with_len 0 30) ∙ count_all 30 test
