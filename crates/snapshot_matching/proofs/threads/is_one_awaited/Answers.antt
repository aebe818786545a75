use Rattle.std.proofs.Common.{rules, sym, ◌∙◌}
use Rattle.std.proofs.lemmas.List.Sorted.{answers_always}
use Rattle.snapshot_rows.specs.Order.{server_key}
use Rattle.snapshot_matching.proofs.ServerRows.SearchLemmas.{found_alone, none_found}
use Rattle.snapshot_matching.proofs.ThreadRows.ReceivingLemmas.{is_own}
use Rattle.snapshot_matching.proofs.threads.is_one_awaited.Goals as goal

pub returns-in-Ok : goal.returns-in-Ok
returns-in-Ok c =
    c.is_awaited.ensures
    ∙ sym (found_alone server_key c.args.thread.now.waits (is_own c.args.thread.now) c.args.servers.now c.binary_search_by_key.result c.in-Ok.i
    c.index-servers-i.result c.in-Ok.is c.requires c.binary_search_by_key.ensures.bound
    (c.binary_search_by_key.ensures.position server_key (answers_always _ _ _ (λ f a r g called. search rules))) c.index-servers-i.is)

pub returns-in-Err : goal.returns-in-Err
returns-in-Err c =
    sym (none_found server_key c.args.thread.now.waits (is_own c.args.thread.now) c.args.servers.now c.binary_search_by_key.result c.in-Err.field-0
    c.in-Err.is c.requires c.binary_search_by_key.ensures.bound
    (c.binary_search_by_key.ensures.position server_key (answers_always _ _ _ (λ f a r g called. search rules))))
