use Rattle.std.proofs.Common.{◌≡◌, ◌-◌, ℕ, List, length, get_or, refl, sym, ◌∙◌, ap, arith}
use Rattle.std.specs.Prelude.{Some, vec_len}
use Rattle.graph_search.specs.Searching.{progress_of}
use Rattle.graph_search.proofs.MeetLemmas.{meets_waiting}
use Rattle.graph_search.proofs.TakeLemmas.{popped}
use Rattle.graph_search.proofs.meeting.take.Goals as goal

pub returns-clause-one : goal.returns-clause-one
returns-clause-one g c is =
    let w = c.index.result.now in
    let same : c.meet.new.search.waiting.items ≡ c.args.search.now.waiting.items =
    meets_waiting g.K.Ord.cmp w.from w.edge (progress_of c.args.search.now) (progress_of c.meet.new.search) c.in-Ok.ensures.met in
    let size : length c.meet.new.search.waiting.items ≡ length c.args.search.now.waiting.items = ap length same in
    let at_last : w ≡ get_or c.meet.new.search.waiting.items (vec_len c.meet.new.search.waiting - 1) w =
    c.index.ensures
    ∙ (ap (λ (ws : List _). get_or ws (c.len-count.result - 1) w) (sym same)
    ∙ ap (λ (k : ℕ). get_or c.meet.new.search.waiting.items k w) (omega (arith, size))) in
    record {
      last = w;
      others = c.pop.new.self.items;
      waited = popped c.args.search.now.waiting.items c.meet.new.search.waiting.items c.pop.new.self.items c.pop.result w same c.pop.ensures.items
          (c.pop.ensures.value w (omega (arith, size)) ∙ ap Some (sym at_last));
      mid = progress_of c.meet.new.search;
      meets = c.in-Ok.ensures.met;
      is = refl;
    }
