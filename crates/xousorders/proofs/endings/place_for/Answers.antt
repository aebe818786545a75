use Rattle.std.proofs.Common.{List, arith, inl, inr, refl, subst, ℕ}
use Rattle.order_text.specs.declared.endings.Ending.{Ending}
use Rattle.xousorders.specs.Endings.{IsAt, NoneIs}
use Rattle.xousorders.proofs.EndingLemmas.{pushed_at}
use Rattle.xousorders.proofs.endings.place_for.Goals as goal

pub returns-in-Some-clause-alike : goal.returns-in-Some-clause-alike
returns-in-Some-clause-alike c =
    subst (λ (es : List Ending). IsAt es c.in-Some.place (record { text = c.args.seen.items; fails = c.args.fails })) c.deref.ensures.value
    (subst (λ (text : List ℕ). IsAt c.deref.result.now c.in-Some.place (record { text = text; fails = c.args.fails })) c.deref-2.ensures.value
    c.in-Some.ensures.place)

pub returns-in-Some-clause-lists : goal.returns-in-Some-clause-lists
returns-in-Some-clause-lists c = inl refl

pub returns-in_ok-push-in-None-clause-alike : goal.returns-in_ok-push-in-None-clause-alike
returns-in_ok-push-in-None-clause-alike c =
    pushed_at c.args.list.now.items c.push.new.self.items _ c.len-place.result (record { text = c.args.seen.items; fails = c.args.fails })
    c.in_ok-push-in-None.ensures.items (omega arith) refl

pub returns-in_ok-push-in-None-clause-lists : goal.returns-in_ok-push-in-None-clause-lists
returns-in_ok-push-in-None-clause-lists c = inr (record {
  ending = _;
  first = refl;
  order_is = refl;
  alike = refl;
  none = subst (λ (es : List Ending). NoneIs es (record { text = c.args.seen.items; fails = c.args.fails })) c.deref.ensures.value
      (subst (λ (text : List ℕ). NoneIs c.deref.result.now (record { text = text; fails = c.args.fails })) c.deref-2.ensures.value
      (c.place_of.ensures.none c.in-None.is));
  list = c.in_ok-push-in-None.ensures.items;
})
