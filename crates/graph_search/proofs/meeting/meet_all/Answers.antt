use Rattle.std.proofs.Common.{◌≡◌, ◌+◌, ℕ, suc, length, refl, sym, subst, arith}
use Rattle.std.specs.Prelude.{slice_get, Some}
use Rattle.std.proofs.lemmas.Option.{slice_get_read}
use Rattle.graph_search.specs.Searching.{MeetsInTurn, progress_of}
use Rattle.graph_search.proofs.meeting.meet_all.Goals as goal

pub loop-edge-preserved : goal.loop-edge-preserved
loop-edge-preserved g c =
    let there : slice_get c.args.edges.now c.loop-edge.edge-index ≡ Some c.edge-item.result =
    slice_get_read c.args.edges.now (length c.args.edges.now) c.loop-edge.edge-index c.edge-item.result refl (omega arith) c.edge-item.is in
    let next : suc c.loop-edge.edge-index ≡ c.loop-edge.edge-index + 1 = omega arith in
    record {
      in_turn = subst (λ (n : ℕ). MeetsInTurn g.K.Ord.cmp c.args.from c.args.edges.now n (progress_of c.args.search.now) (progress_of c.meet.new.search)) next
          (progress_of c.loop-edge.search, (c.edge-item.result, (there, (c.loop-edge.invariant.in_turn, c.in-Ok.ensures.met))));
      within = λ h. c.meet.ensures.within (c.loop-edge.invariant.within h);
    }

pub returns-in-Err-clause-some : goal.returns-in-Err-clause-some
returns-in-Err-clause-some g c = record {
  met = c.loop-edge.edge-index;
  few = omega arith;
  in_turn = subst (MeetsInTurn g.K.Ord.cmp c.args.from c.args.edges.now c.loop-edge.edge-index (progress_of c.args.search.now)) (sym c.in-Err.ensures.err)
      c.loop-edge.invariant.in_turn;
}

pub returns-in-Err-clause-within : goal.returns-in-Err-clause-within
returns-in-Err-clause-within g c = λ h. c.meet.ensures.within (c.loop-edge.invariant.within h)

pub returns-clause-all : goal.returns-clause-all
returns-clause-all g c =
    let all : c.loop-edge.edge-index ≡ length c.args.edges.now = omega arith in
    subst (λ (n : ℕ). MeetsInTurn g.K.Ord.cmp c.args.from c.args.edges.now n (progress_of c.args.search.now) (progress_of c.loop-edge.search)) all
    c.loop-edge.invariant.in_turn

pub returns-clause-some : goal.returns-clause-some
returns-clause-some g c = record { met = c.loop-edge.edge-index; few = omega arith; in_turn = c.loop-edge.invariant.in_turn }
