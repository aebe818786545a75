use Rattle.std.proofs.Common.{◌≡◌, Some, IsSome, refl, ap, subst, ◌∙◌, slice_index_or}
use Rattle.std.specs.Vec.{with_item}
use Rattle.xk_base.specs.Tables.Circle.{place_of}
use Rattle.thread_table.specs.declared.thread.Thread.{Thread}
use Rattle.thread_table.specs.Shown.{threads_of}
use Rattle.thread_table.proofs.LendingLemmas.{count_stays, given_back, given_back_as, lent_from, still_marked}
use Rattle.thread_table.proofs.table.Threads.thread_mut.Goals as goal

pub thread_in-requires : goal.thread_in-requires
thread_in-requires c =
    let t = c.args.self.now in
    subst IsSome (lent_from t c.args.id c.place_of.result c.index_mut.result.now c.requires c.place_of.ensures
    (c.index_mut.ensures.value ∙ ap (λ v. slice_index_or v.items c.place_of.result c.index_mut.result.now) c.mark_lent.ensures.places)) c.requires

-- whatever is written into it
pub invariant_of-self-lent : goal.invariant_of-self-lent
invariant_of-self-lent c = λ w.
    let s = c.mark_lent.new.self in (
      s.few,
      (
        s.whole,
        (
          s.sets,
          (
            still_marked c.args.self.now c.args.id w s.ready s.by_place c.place_of.result c.requires c.mark_lent.ensures.sets
                c.mark_lent.ensures.places c.place_of.ensures,
            tt,
          ),
        ),
      ),
    )

pub returns : goal.returns
returns c =
    let t = c.args.self.now in
    let id = c.args.id in
    let there : threads_of t id ≡ c.index_mut.result.now =
    lent_from t id c.place_of.result c.index_mut.result.now c.requires c.place_of.ensures
    (c.index_mut.ensures.value ∙ ap (λ v. slice_index_or v.items c.place_of.result c.index_mut.result.now) c.mark_lent.ensures.places) in
    let places : (w : Thread) → with_item c.mark_lent.new.self.by_place c.place_of.result (Some w) ≡ with_item t.by_place (place_of id) (Some w) =
    λ w i. with_item (c.mark_lent.ensures.places i) (c.place_of.ensures i) (Some w) in (
      (refl, λ w. given_back_as t id w _ c.requires c.mark_lent.ensures.count (places w) c.mark_lent.ensures.sets c.mark_lent.ensures.lent),
      record {
        lends = tt;
        value = there ∙ c.thread_in.ensures.value;
        writes = λ thread. given_back t id thread c.requires;
        count = count_stays t id;
      },
    )
