use Rattle.std.proofs.Common.{◌≡◌, false, Ok, refl, ap, ◌∙◌, arith}
use Rattle.graph_search.specs.Searching.{Takes, progress_of}
use Rattle.graph_search.proofs.MeetLemmas.{goes_further, goes_nowhere}
use Rattle.graph_search.proofs.TakeLemmas.{taken_on, takes_goes}
use Rattle.graph_search.proofs.WholeLemmas.{whole}
use Rattle.graph_search.proofs.following.follow.Goals as goal

pub loop-search-init : goal.loop-search-init
loop-search-init g c = record {
  search = c.requires;
  goes = goes_nowhere (progress_of c.args.search.now) (progress_of c.args.search.now) refl;
  within = λ h. h;
}

pub loop-search-preserved : goal.loop-search-preserved
loop-search-preserved g c =
    let at = g.S.Space.setting c.args.space.now in
    let old = progress_of c.loop-search.search in
    let new = progress_of c.take.new.search in
    let t : Takes g.S.Key.Ord.cmp old new = c.take.ensures.one (c.in-Ok-true.is ∙ ap Ok c.in-Ok-true.field-0-test) in
    record {
      search = taken_on (g.S.Space.after at) (g.S.Space.IsKey at) (g.S.Space.IsNote at) g.S.Key.Ord.cmp (g.S.Space.start at) old new
          c.loop-search.invariant.search (omega arith) t;
      goes = goes_further (progress_of c.args.search.now) old new c.loop-search.invariant.goes (takes_goes g.S.Key.Ord.cmp old new t);
      within = λ h. c.take.ensures.within (c.loop-search.invariant.within h);
    }

pub returns-in-Ok-false-clause-whole : goal.returns-in-Ok-false-clause-whole
returns-in-Ok-false-clause-whole g c is =
    let at = g.S.Space.setting c.args.space.now in
    let none : c.take.result ≡ Ok false = c.in-Ok-false.is ∙ ap Ok c.in-Ok-false.field-0-test in
    whole (g.S.Space.after at) (g.S.Space.IsKey at) (g.S.Space.IsNote at) g.S.Key.Ord.cmp (g.S.Space.start at) c.loop-search.search c.take.new.search
    c.loop-search.invariant.search (omega arith) (c.take.ensures.none none)
    (c.take.ensures.same (λ other. (let no : ⊥ = cc in no)))
