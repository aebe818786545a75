use Rattle.std.proofs.Common.{◌∙◌, ap, is_some, refl}
use Rattle.order_search.proofs.BeforeLemmas.{ended_before, played_before}
use Rattle.order_search.proofs.before.play_before.Goals as goal

pub play_file-requires-clause-picked : goal.play_file-requires-clause-picked
play_file-requires-clause-picked c = ap is_some c.in-Ok.ensures

pub returns-in-Ok-Played-clause-plays : goal.returns-in-Ok-Played-clause-plays
returns-in-Ok-Played-clause-plays c m begins =
    let there = played_before m _ c.args.events.now _ _ _ _ c.in-Ok.ensures c.new-console.ensures refl refl (c.in-Ok-Played.ensures.runs m (begins _)) in
    record {
      machine = there.0;
      console_is = c.into_bytes.ensures ∙ there.1;
      ending = ended_before m _ c.args.events.now _ _ _ c.in-Ok.ensures refl (c.in-Ok-Played.ensures.runs m (begins _))
          ∙ c.in-Ok-Played.field-0-is;
    }

pub returns-in-Ok-LimitMet-clause-fault : goal.returns-in-Ok-LimitMet-clause-fault
returns-in-Ok-LimitMet-clause-fault c m begins =
    ended_before m _ c.args.events.now _ _ _ c.in-Ok.ensures refl (c.in-Ok-LimitMet.ensures.runs m (begins _)) ∙ c.in-Ok-LimitMet.field-0-is

pub returns-in-Ok-BadLine-clause-fault : goal.returns-in-Ok-BadLine-clause-fault
returns-in-Ok-BadLine-clause-fault c m begins =
    ended_before m _ c.args.events.now _ _ _ c.in-Ok.ensures refl (c.in-Ok-BadLine.ensures.runs m (begins _)) ∙ c.in-Ok-BadLine.field-0-is
