use Rattle.std.proofs.Common.{◌≡◌, ◌-◌, ◌++◌, ℕ, suc, List, length, ◌∙◌, refl, sym, ap, arith, ◌≤◌}
use Rattle.std.specs.Prelude.{reverse, slice_get, Some}
use Rattle.std.proofs.lemmas.List.{take_at}
use Rattle.std.proofs.lemmas.Option.{slice_get_read}
use Rattle.graph_search.specs.Paths.{labels_to}
use Rattle.graph_search.proofs.PathLemmas.{labels_to-start, one_back}
use Rattle.graph_search.proofs.found.path_to.Goals as goal

pub loop-at-preserved : goal.loop-at-preserved
loop-at-preserved g c =
    let edges = c.args.edges.now in
    let k : ℕ = c.loop-at.at - 1 in
    let is : c.loop-at.at ≡ suc k = omega arith in
    let there : slice_get c.args.edges.now k ≡ Some c.index-edges-at.result = slice_get_read c.args.edges.now _ k _ refl (omega arith) c.index-edges-at.is in
    let before : c.index-edges-at.result.from ≤ k = c.requires.tree k _ there in
    record {
      within = omega arith;
      passed = c.loop-at.invariant.passed ∙ one_back c.args.edges.now k c.loop-at.at c.index-edges-at.result c.loop-at.path.items c.push.new.self.items c.requires.tree is there c.in_ok-push.ensures.items;
    }

pub returns : goal.returns
returns g c =
    let at_start : c.loop-at.at ≡ 0 = omega arith in
    let size : length c.reverse.new.self ≡ c.loop-at.path.len = c.reverse.ensures.len ∙ c.as_mut_slice.ensures.len in
    let same : c.reverse.new.self ≡ reverse c.loop-at.path.items = c.reverse.ensures.after ∙ ap reverse c.as_mut_slice.ensures.value in
    take_at _ _ _ size
    ∙ (same
    ∙ sym (c.loop-at.invariant.passed
    ∙ (ap (λ (n : ℕ). labels_to c.args.edges.now n ++ reverse c.loop-at.path.items) at_start
    ∙ ap (λ (front : List _). front ++ reverse c.loop-at.path.items) (labels_to-start c.args.edges.now))))
