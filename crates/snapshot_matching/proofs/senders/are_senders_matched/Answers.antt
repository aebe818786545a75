use Rattle.std.proofs.Common.{◌≤◌, List, sym, subst, ◌∙◌}
use Rattle.std.specs.List.{flat_map, count_by}
use Rattle.snapshot_matching.specs.declared.waits.Wait.{Wait}
use Rattle.snapshot_matching.specs.WaitParts.{waits_of, thread_wait, is_wait_at, HaveSameWaits, AreAlikeWaits}
use Rattle.snapshot_matching.proofs.ServerRows.SentWaitLemmas.{kept_once, messages_right, senders_matched}
use Rattle.snapshot_matching.proofs.senders.are_senders_matched.Goals as goal

pub returns-then-not-all_messages_right : goal.returns-then-not-all_messages_right
returns-then-not-all_messages_right c = (
  λ never. absurd cc,
  λ matched. sym c.if-not-all_messages_right.true ∙ c.all_messages_right.ensures ∙ messages_right c.args.threads.now c.args.servers.now c.requires.threads c.requires.servers matched,
)

pub are_same-requires : goal.are_same-requires
are_same-requires c k =
    subst (λ (xs : List Wait). count_by (is_wait_at k) xs ≤ 1) (sym c.in_ok-kept.ensures) (kept_once _ c.args.threads.now c.requires.threads k)

pub returns : goal.returns
returns c =
    senders_matched c.args.threads.now c.args.servers.now c.requires.threads c.requires.servers (sym c.all_messages_right.ensures ∙ c.if-not-all_messages_right.false) c.are_same.result
    (λ holds. subst (λ (xs : List Wait). AreAlikeWaits (flat_map waits_of c.args.servers.now) xs) c.in_ok-kept.ensures (subst (λ (xs : List Wait). AreAlikeWaits xs c.in_ok-kept.kept.items) c.in_ok-said.ensures (c.are_same.ensures.alike holds)))
    (λ same. c.are_same.ensures.told (subst (λ (xs : List Wait). HaveSameWaits c.in_ok-said.said.items xs) (sym c.in_ok-kept.ensures) (subst (λ (xs : List Wait). HaveSameWaits xs (flat_map thread_wait c.args.threads.now)) (sym c.in_ok-said.ensures) same)))
