-- How a message stands in a matched state: in exactly one way; and what moves it.
use Rattle.std.proofs.Common.{◌≡◌, ◌≢◌, ℕ, zero, suc, ◌+◌, ◌<◌, ◌≤◌, ◌⊎◌, inl, inr, Bool, true, false, get_or, Option, Some, None, refl, sym, ap, ◌∙◌, arith}
use Rattle.std.specs.Prelude.{◌||◌}
use Rattle.std.specs.List.{list_any}
use Rattle.std.proofs.lemmas.List.Folds.{list_any-append}
use Rattle.std.proofs.lemmas.Bool.{cases_lt, eqb-true, false≢true}
use Rattle.xk_base.specs.declared.ids.Number.{Number}
use Rattle.xk_base.specs.declared.messages.Message.{Message}
use Rattle.machine_model.specs.Messaging.MessageCounts.{HasNone, count_at, count_in}
use Rattle.machine_model.specs.Messaging.Messages.{is_of_number}
use Rattle.machine_model.specs.Runs.Matched.{Matched}
use Rattle.machine_model.specs.State.Machine.{Machine, Server}
use Rattle.machine_model.specs.State.Servers.{messages_of}
use Rattle.machine_model.proofs.Matching.CountLemmas.{count_in-append, first_in}
use Rattle.machine_model.proofs.Matching.OneMessageLemmas.{HasServer, one_is_there, one_server, same_or_not}
use Rattle.machine_laws.proofs.Messaging.ListedLemmas.{at_listed, listed_at, listed_left, listed_right, not_counted}
use Rattle.transcript_laws.specs.Following.{Held, Holds, Keeping, Lacks, Over, Queued, Queues, Standing, Stands, Unsent, keeping}
use Rattle.transcript_laws.specs.Following.{keeping_by}

-- ---- how one server keeps it

-- how a message stands that a server keeps so
abbrev pub standing_at : Keeping → Standing
standing_at Lacks = Over
standing_at Queues = Queued
standing_at Holds = Held

-- it stands as before, or is lost with its server or its sender
pub data MayLose : Standing → Standing → Type 0 where
  Kept : (a : Standing) → MayLose a a
  LosesQueued : MayLose Queued Over
  LosesHeld : MayLose Held Over

pub queues_not_lacks : Queues ≢ Lacks
queues_not_lacks e = cc

pub holds_not_lacks : Holds ≢ Lacks
holds_not_lacks e = cc

queues_not_holds : Queues ≢ Holds
queues_not_holds e = cc

module _ (number : Number) where
  abbrev test : Message → Bool
  test = is_of_number number

  -- a server that has none of the number lacks it
  count_lacks : (server : Server) → count_in test (messages_of server) ≡ 0 → keeping number (Some server) ≡ Lacks
  count_lacks server e =
      let sum : count_in test (messages_of server) ≡ count_in test server.queued + count_in test server.held =
      count_in-append test server.queued server.held in
      (λ i. keeping_by (not_counted test server.queued (let a : count_in test server.queued ≡ 0 = omega arith in a) i)
      (not_counted test server.held (let b : count_in test server.held ≡ 0 = omega arith in b) i))

  pub none_lacks : (o : Option Server) → count_at test o ≡ 0 → keeping number o ≡ Lacks
  none_lacks None e = refl
  none_lacks (Some server) e = count_lacks server e

  -- one that doesn't lack it counts it
  pub some_counted : (o : Option Server) → keeping number o ≢ Lacks → 1 ≤ count_at test o
  some_counted o some = go (count_at test o) refl
    where
      go : (c : ℕ) → count_at test o ≡ c → 1 ≤ c
      go zero e = absurd (some (none_lacks o e))
      go (suc c) e = omega arith

  -- .. and the other way round
  pub some_not_lacks : (server : Server) → 1 ≤ count_in test (messages_of server) → keeping number (Some server) ≡ Lacks → ⊥
  some_not_lacks server some e = go (list_any test server.queued) (list_any test server.held) refl refl e
    where
      listed : (list_any test server.queued || list_any test server.held) ≡ true
      listed =
          let at = first_in test (messages_of server) some in
          sym (list_any-append test server.queued server.held) ∙ at_listed test (messages_of server) at.0 at.1 at.2 at.3

      go : (a b : Bool) → list_any test server.queued ≡ a → list_any test server.held ≡ b → keeping_by a b ≡ Lacks → ⊥
      go true b p q r = queues_not_lacks r
      go false true p q r = holds_not_lacks r
      go false false p q r = false≢true ((λ i. sym p i || sym q i) ∙ listed)

  -- ---- in a matched state

  module _ (m : Machine) (h : Matched m) where
    pub one_place : (i j : ℕ) → keeping number (m.servers i) ≢ Lacks → keeping number (m.servers j) ≢ Lacks → i ≡ j
    one_place i j some also = elim (h.body.servers.numbers number) [
      | inl none ↦ absurd (some (none_lacks (m.servers i) (none i)))
      | inr one ↦ one_is_there m.servers test one i (some_counted (m.servers i) some) ∙ sym (one_is_there m.servers test one j (some_counted (m.servers j) also))
    ]

    -- all others lack it
    pub others_lack : (i j : ℕ) → keeping number (m.servers i) ≢ Lacks → j ≢ i → keeping number (m.servers j) ≡ Lacks
    others_lack i j some other = go (keeping number (m.servers j)) refl
      where
        go : (k : Keeping) → keeping number (m.servers j) ≡ k → k ≡ Lacks
        go Lacks e = refl
        go Queues e = absurd (other (one_place j i (λ lacks. queues_not_lacks (sym e ∙ lacks)) some))
        go Holds e = absurd (other (one_place j i (λ lacks. holds_not_lacks (sym e ∙ lacks)) some))

    -- its number was given
    pub kept_low : (i : ℕ) → keeping number (m.servers i) ≢ Lacks → number.0 < m.next_number
    kept_low i some = go (m.servers i) refl some
      where
        at_server : (server : Server) → m.servers i ≡ Some server → (b : Bool) → list_any test (messages_of server) ≡ b → keeping number (Some server) ≢ Lacks
            → number.0 < m.next_number
        at_server server e false q kept =
            absurd (kept (λ i. keeping_by (listed_left test server.queued server.held q i) (listed_right test server.queued server.held q i)))
        at_server server e true q kept =
            let at = listed_at test (messages_of server) q in
            let low : (get_or (messages_of server) at.0 at.1).number.0 < m.next_number = h.rest.above.numbers i server e at.0 at.1 at.2 in
            let same : (get_or (messages_of server) at.0 at.1).number.0 ≡ number.0 =
            eqb-true (get_or (messages_of server) at.0 at.1).number.0 number.0 at.3 in
            omega arith

        go : (o : Option Server) → m.servers i ≡ o → keeping number o ≢ Lacks → number.0 < m.next_number
        go None e kept = absurd (kept refl)
        go (Some server) e kept = at_server server e (list_any test (messages_of server)) refl kept

    -- one whose number isn't given is nowhere
    pub unsent_lacks : m.next_number ≤ number.0 → (i : ℕ) → keeping number (m.servers i) ≡ Lacks
    unsent_lacks high i = go (keeping number (m.servers i)) refl
      where
        go : (k : Keeping) → keeping number (m.servers i) ≡ k → k ≡ Lacks
        go Lacks e = refl
        go Queues e = absurd (let low : number.0 < m.next_number = kept_low i (λ lacks. queues_not_lacks (sym e ∙ lacks)) in omega arith)
        go Holds e = absurd (let low : number.0 < m.next_number = kept_low i (λ lacks. holds_not_lacks (sym e ∙ lacks)) in omega arith)

    -- ---- it stands in one way

    pub some_standing : (a : Standing) × Stands number m a
    some_standing = elim (h.body.servers.numbers number) [
      | inl none ↦ by_count none (cases_lt number.0 m.next_number)
      | inr one ↦ by_server (one_server m.servers test one)
    ]
      where
        by_count : HasNone m.servers test → (number.0 < m.next_number) ⊎ (m.next_number ≤ number.0) → (a : Standing) × Stands number m a
        by_count none (inl low) = (Over, (low, λ n. none_lacks (m.servers n) (none n)))
        by_count none (inr high) = (Unsent, high)

        by_server : HasServer m.servers test → (a : Standing) × Stands number m a
        by_server at = go (keeping number (m.servers at.serial)) refl
          where
            go : (k : Keeping) → keeping number (m.servers at.serial) ≡ k → (a : Standing) × Stands number m a
            go Queues e = (Queued, (at.serial, e))
            go Holds e = (Held, (at.serial, e))
            go Lacks e = absurd (some_not_lacks at.server at.some (sym (ap (keeping number) at.live) ∙ e))

    apart : Stands number m Queued → Stands number m Held → ⊥
    apart p q =
        let same : p.0 ≡ q.0 = one_place p.0 q.0 (λ lacks. queues_not_lacks (sym p.1 ∙ lacks)) (λ lacks. holds_not_lacks (sym q.1 ∙ lacks)) in
        queues_not_holds (sym p.1 ∙ (ap (λ j. keeping number (m.servers j)) same ∙ q.1))

    pub one_standing : (a b : Standing) → Stands number m a → Stands number m b → a ≡ b
    one_standing Unsent Unsent p q = refl
    one_standing Unsent Queued p q = absurd (queues_not_lacks (sym q.1 ∙ unsent_lacks p q.0))
    one_standing Unsent Held p q = absurd (holds_not_lacks (sym q.1 ∙ unsent_lacks p q.0))
    one_standing Unsent Over p q = absurd (omega (arith, q.0))
    one_standing Queued Unsent p q = absurd (queues_not_lacks (sym p.1 ∙ unsent_lacks q p.0))
    one_standing Queued Queued p q = refl
    one_standing Queued Held p q = absurd (apart p q)
    one_standing Queued Over p q = absurd (queues_not_lacks (sym p.1 ∙ q.1 p.0))
    one_standing Held Unsent p q = absurd (holds_not_lacks (sym p.1 ∙ unsent_lacks q p.0))
    one_standing Held Queued p q = absurd (apart q p)
    one_standing Held Held p q = refl
    one_standing Held Over p q = absurd (holds_not_lacks (sym p.1 ∙ q.1 p.0))
    one_standing Over Unsent p q = absurd (omega (arith, p.0))
    one_standing Over Queued p q = absurd (queues_not_lacks (sym q.1 ∙ p.1 q.0))
    one_standing Over Held p q = absurd (holds_not_lacks (sym q.1 ∙ p.1 q.0))
    one_standing Over Over p q = refl

    -- ---- what it makes of that

    module _ (next : Machine) where
      -- each server keeps it as before
      pub same_stands : ((n : ℕ) → keeping number (next.servers n) ≡ keeping number (m.servers n)) → next.next_number ≡ m.next_number
          → (a : Standing) → Stands number m a → Stands number next a
      same_stands same count Unsent p = omega (arith, count)
      same_stands same count Queued p = (p.0, same p.0 ∙ p.1)
      same_stands same count Held p = (p.0, same p.0 ∙ p.1)
      same_stands same count Over p = (omega (arith, count, p.0), λ n. same n ∙ p.1 n)

      -- a server keeps it so, and all others lack it
      pub now_stands : (i : ℕ) (k : Keeping) → keeping number (next.servers i) ≡ k → ((n : ℕ) → n ≢ i → keeping number (next.servers n) ≡ Lacks)
          → number.0 < next.next_number → Stands number next (standing_at k)
      now_stands i Queues here others low = (i, here)
      now_stands i Holds here others low = (i, here)
      now_stands i Lacks here others low = (low, λ n. all n (same_or_not n i))
        where
          all : (n : ℕ) → (n ≡ i) ⊎ (n ≢ i) → keeping number (next.servers n) ≡ Lacks
          all n (inl same) = ap (λ j. keeping number (next.servers j)) same ∙ here
          all n (inr other) = others n other

      gone : ((n : ℕ) → (keeping number (next.servers n) ≡ keeping number (m.servers n)) ⊎ (keeping number (next.servers n) ≡ Lacks))
          → next.next_number ≡ m.next_number → (i : ℕ) → keeping number (m.servers i) ≢ Lacks → keeping number (next.servers i) ≡ Lacks
          → Stands number next Over
      gone each count i some lacks =
          (let low : number.0 < m.next_number = kept_low i some in omega (arith, count, low), λ n. all n (same_or_not n i) (each n))
        where
          all : (n : ℕ) → (n ≡ i) ⊎ (n ≢ i) → (keeping number (next.servers n) ≡ keeping number (m.servers n)) ⊎ (keeping number (next.servers n) ≡ Lacks)
              → keeping number (next.servers n) ≡ Lacks
          all n (inl same) e = ap (λ j. keeping number (next.servers j)) same ∙ lacks
          all n (inr other) (inl left) = left ∙ others_lack i n some other
          all n (inr other) (inr lost) = lost

      -- some servers lack it from now on
      pub lost_stands : ((n : ℕ) → (keeping number (next.servers n) ≡ keeping number (m.servers n)) ⊎ (keeping number (next.servers n) ≡ Lacks))
          → next.next_number ≡ m.next_number → (a : Standing) → Stands number m a → (b : Standing) × Stands number next b × MayLose a b
      lost_stands each count Unsent p = (Unsent, omega (arith, count), Kept Unsent)
      lost_stands each count Queued p = go (each p.0)
        where
          go : (keeping number (next.servers p.0) ≡ keeping number (m.servers p.0)) ⊎ (keeping number (next.servers p.0) ≡ Lacks)
              → (b : Standing) × Stands number next b × MayLose Queued b
          go (inl same) = (Queued, (p.0, same ∙ p.1), Kept Queued)
          go (inr lacks) = (Over, gone each count p.0 (λ q. queues_not_lacks (sym p.1 ∙ q)) lacks, LosesQueued)
      lost_stands each count Held p = go (each p.0)
        where
          go : (keeping number (next.servers p.0) ≡ keeping number (m.servers p.0)) ⊎ (keeping number (next.servers p.0) ≡ Lacks)
              → (b : Standing) × Stands number next b × MayLose Held b
          go (inl same) = (Held, (p.0, same ∙ p.1), Kept Held)
          go (inr lacks) = (Over, gone each count p.0 (λ q. holds_not_lacks (sym p.1 ∙ q)) lacks, LosesHeld)
      lost_stands each count Over p = (Over, (omega (arith, count, p.0), λ n. go n (each n)), Kept Over)
        where
          go : (n : ℕ) → (keeping number (next.servers n) ≡ keeping number (m.servers n)) ⊎ (keeping number (next.servers n) ≡ Lacks)
              → keeping number (next.servers n) ≡ Lacks
          go n (inl same) = same ∙ p.1 n
          go n (inr lacks) = lacks
