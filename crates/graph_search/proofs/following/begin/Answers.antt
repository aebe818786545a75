use Rattle.graph_search.proofs.WholeLemmas.{begun_as, key_there, only_key}
use Rattle.graph_search.proofs.following.begin.Goals as goal

pub returns-in-Ok-clause-search : goal.returns-in-Ok-clause-search
returns-in-Ok-clause-search g c =
    let at = g.S.Space.setting c.args.space.now in
    begun_as (g.S.Space.after at) (g.S.Space.IsKey at) (g.S.Space.IsNote at) g.S.Key.Ord.cmp (g.S.Space.start at) c.args.strategy c.new.result.items
    c.new-in-Ok.result.items c.insert.new.self.keys c.new-in-Ok-2.result.items c.in_ok-key.key c.new.ensures.items c.new-in-Ok.ensures.items
    c.new-in-Ok-2.ensures.items
    (only_key g.S.Key.Ord.cmp c.new-seen.result c.insert.new.self c.in_ok-key.key c.new-seen.ensures.empty c.in-Ok.ensures.updates)
    (key_there g.S.Key.Ord.cmp c.new-seen.result c.insert.new.self c.in_ok-key.key c.in-Ok.ensures.updates) c.in_ok-key.ensures.key
