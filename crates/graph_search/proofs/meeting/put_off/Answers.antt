use Rattle.std.proofs.Common.{◌≡◌, ◌-◌, ℕ, suc, length, refl, arith}
use Rattle.std.specs.Prelude.{slice_get, Some}
use Rattle.std.proofs.lemmas.Option.{slice_get_read}
use Rattle.graph_search.specs.Searching.{progress_of}
use Rattle.graph_search.proofs.WaitLemmas.{waits_next, waits_none}
use Rattle.graph_search.proofs.meeting.put_off.Goals as goal

pub loop-left-init : goal.loop-left-init
loop-left-init g c = record { few = omega arith; waits = waits_none c.args.from c.args.edges.now (progress_of c.args.search.now) _ (omega arith) }

pub loop-left-preserved : goal.loop-left-preserved
loop-left-preserved g c =
    let n : ℕ = c.loop-left.left - 1 in
    let is : c.loop-left.left ≡ suc n = omega arith in
    let there : slice_get c.args.edges.now n ≡ Some c.index-edges-left.result =
    slice_get_read c.args.edges.now (length c.args.edges.now) n c.index-edges-left.result refl (omega arith) c.index-edges-left.is in
    record {
      few = omega arith;
      waits = waits_next c.args.from c.args.edges.now (progress_of c.args.search.now) c.loop-left.left n c.index-edges-left.result
          (progress_of c.loop-left.search) c.push.new.self.items is there c.loop-left.invariant.waits c.in_ok-push.ensures.items;
    }
