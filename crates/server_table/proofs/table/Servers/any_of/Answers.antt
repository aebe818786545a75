use Rattle.std.proofs.Common.{rules, tests, ◌≡◌, length, min, sym, ap, ◌∙◌, arith}
use Rattle.std.proofs.lemmas.Iterator.{YieldsList-from_slice}
use Rattle.std.proofs.lemmas.Iterator.Consumers.{YieldsList-from_filter_map, min_from_yields_List}
use Rattle.std.specs.List.{filter_map, reduce}
use Rattle.std.specs.Option.{option_map}
use Rattle.xk_base.specs.Tables.Sids.{serial_of}
use Rattle.xk_base.specs.declared.limits.TheConstants.{SERVER_LIMIT}
use Rattle.server_table.specs.Seats.{own_serial}
use Rattle.server_table.specs.ServersOf.{servers_of}
use Rattle.server_table.proofs.AnsweredLemmas.{least_of_is}
use Rattle.server_table.proofs.table.Servers.any_of.Goals as goal

pub returns : goal.returns
unfolding servers_of
returns c =
    let xs = c.args.self.now.seats.items in
    let size : length xs ≡ SERVER_LIMIT = omega arith in
    let least : option_map (λ x. x) c.min.result ≡ reduce min (filter_map (own_serial c.args.pid) xs) =
    min_from_yields_List {v = λ x. x} _ c.min.result c.min.ensures.ran (YieldsList-from_filter_map _ (own_serial c.args.pid)
    (YieldsList-from_slice xs (search rules)) c.filter_map-serials.ensures.closure (λ x r q k. search (rules, tests))) in
    let mapped : c.map.result ≡ option_map serial_of (option_map (λ x. x) c.min.result) = search rules in
    mapped ∙ ap (option_map serial_of) least ∙ sym (least_of_is xs c.args.self.now.next c.args.pid c.args.self.now.apart size)
