-- A message that a thread waits for stays at its server, whatever another process does.
use Rattle.std.proofs.Common.{◌≡◌, ◌≢◌, ◌≤◌, ◌+◌, Bool, true, false, List, [], ◌∷◌, ◌++◌, filter, map, Option, Some, None, refl, sym, ap, ◌∙◌, inl, inr, subst, arith}
use Rattle.std.specs.Prelude.{◌==◌, ◌&&◌, IfSome, if◌then◌else◌, not}
use Rattle.std.specs.Option.{option_map_or}
use Rattle.std.proofs.lemmas.Bool.{and_parts, eqb-true, false≢true}
use Rattle.std.proofs.lemmas.Option.{same_Some}
use Rattle.xk_base.specs.declared.ids.Number.{Number}
use Rattle.xk_base.specs.declared.ids.Pid.{Pid}
use Rattle.xk_base.specs.declared.ids.ThreadId.{ThreadId}
use Rattle.xk_base.specs.declared.messages.Message.{Message}
use Rattle.xk_base.specs.Calls.Kinds.{is_answered}
use Rattle.xk_base.specs.Tables.Circle.{is_thread_of, same_thread}
use Rattle.machine_model.specs.Ending.Closing.{senderless_from, with_senderless_from, without_queued_from}
use Rattle.machine_model.specs.Messaging.MessageCounts.{count_in}
use Rattle.machine_model.specs.Messaging.Messages.{is_of_number, is_sent_by, is_sent_from, with_queued, with_received}
use Rattle.machine_model.specs.Runs.Matched.{is_sent_as}
use Rattle.machine_model.specs.State.Machine.{Machine, Server}
use Rattle.machine_model.specs.State.Servers.{messages_of}
use Rattle.machine_model.proofs.Matching.CountLemmas.{count_in-append, one_if}
use Rattle.machine_laws.proofs.Messaging.FilterLemmas.{filter_others}
use Rattle.machine_laws.proofs.Threading.ThreadPutLemmas.{alike}
use Rattle.noninterference_laws.specs.Fates.{Doing, Gains, Loses, MadeCall, Own, ServerFate, ServerStays}
use Rattle.lifetime_laws.specs.Waiting.{IsAskedInside}

-- ---- more messages count as many or more

abbrev Has : (Message → Bool) → List Message → Type 0
Has test xs = 1 ≤ count_in test xs

with_newer : (test : Message → Bool) (xs ys zs : List Message) → Has test (xs ++ zs) → Has test ((xs ++ ys) ++ zs)
with_newer test xs ys zs has =
    let before : count_in test (xs ++ zs) ≡ count_in test xs + count_in test zs = count_in-append test xs zs in
    let outer : count_in test ((xs ++ ys) ++ zs) ≡ count_in test (xs ++ ys) + count_in test zs = count_in-append test (xs ++ ys) zs in
    let inner : count_in test (xs ++ ys) ≡ count_in test xs + count_in test ys = count_in-append test xs ys in
    omega arith

with_behind : (test : Message → Bool) (xs ys zs : List Message) → Has test (xs ++ zs) → Has test (xs ++ (zs ++ ys))
with_behind test xs ys zs has =
    let before : count_in test (xs ++ zs) ≡ count_in test xs + count_in test zs = count_in-append test xs zs in
    let outer : count_in test (xs ++ (zs ++ ys)) ≡ count_in test xs + count_in test (zs ++ ys) = count_in-append test xs (zs ++ ys) in
    let inner : count_in test (zs ++ ys) ≡ count_in test zs + count_in test ys = count_in-append test zs ys in
    omega arith

received_has : (test : Message → Bool) (message : Message) (server : Server) → Has test (messages_of server)
    → Has test (messages_of (with_received message server))
received_has test message server has = go (is_answered message.kind)
  where
    go : (b : Bool) → Has test (server.queued ++ (if b then server.held ++ message ∷ [] else server.held))
    go true = with_behind test server.queued (message ∷ []) server.held has
    go false = has

-- ---- the death of a process takes no message of another's

mapped_counts : (test : Message → Bool) (f : Message → Message) → ((x : Message) → test (f x) ≡ test x) → (xs : List Message)
    → count_in test (map f xs) ≡ count_in test xs
unfolding count_in
mapped_counts test f same [] = refl
mapped_counts test f same (x ∷ xs) = λ i. one_if (same x i) + mapped_counts test f same xs i

module _ (by : Pid) (id : ThreadId) (apart : id.pid ≢ by) (number : Number) where
  -- a sender of the process is another thread
  not_same : (who : ThreadId) → (who.pid.0 == by.0) ≡ true → same_thread id who ≡ false
  not_same who own = go (same_thread id who) refl
    where
      go : (b : Bool) → same_thread id who ≡ b → b ≡ false
      go true e = absurd (apart (ap (λ (x : ThreadId). x.pid) (alike id who e) ∙ (λ i. record { 0 = eqb-true who.pid.0 by.0 own i })))
      go false e = refl

  not_from : (o : Option ThreadId) → option_map_or (same_thread id) o false ≡ true → is_thread_of by o ≡ false
  not_from None e = refl
  not_from (Some who) e = go (who.pid.0 == by.0) refl
    where
      go : (b : Bool) → (who.pid.0 == by.0) ≡ b → b ≡ false
      go true own = absurd (false≢true (sym (not_same who own) ∙ e))
      go false own = refl

  kept_queued : (x : Message) → is_sent_as id number x ≡ true → not (is_sent_from by x) ≡ true
  kept_queued x e = ap not (not_from x.sender (and_parts (is_of_number number x) (is_sent_by id x) e).1)

  kept_sender : (o : Option ThreadId)
      → option_map_or (same_thread id) (if is_thread_of by o then None else o) false ≡ option_map_or (same_thread id) o false
  kept_sender None = refl
  kept_sender (Some who) = go (who.pid.0 == by.0) refl
    where
      go : (b : Bool) → (who.pid.0 == by.0) ≡ b → option_map_or (same_thread id) (if b then None else Some who) false ≡ same_thread id who
      go true own = sym (not_same who own)
      go false own = refl

  kept_held : (x : Message) → is_sent_as id number (senderless_from by x) ≡ is_sent_as id number x
  kept_held x = ap (λ b. is_of_number number x && b) (kept_sender x.sender)

  left_has : (server : Server) → Has (is_sent_as id number) (messages_of server)
      → Has (is_sent_as id number) (messages_of (with_senderless_from by (without_queued_from by server)))
  left_has server has =
      let before = count_in-append (is_sent_as id number) server.queued server.held in
      let later =
      count_in-append (is_sent_as id number) (filter (λ x. not (is_sent_from by x)) server.queued) (map (senderless_from by) server.held) in
      let queued = sym (filter_others (is_sent_as id number) (λ x. not (is_sent_from by x)) kept_queued server.queued) in
      let held = sym (mapped_counts (is_sent_as id number) (senderless_from by) kept_held server.held) in
      subst (λ n. 1 ≤ n) (before ∙ ((λ i. queued i + held i) ∙ sym later)) has

-- ---- at its server

module _ (set : Pid → Bool) (m : Machine) (by : Pid) (outside : set by ≡ false) (call : Option MadeCall) (after : Machine) (id : ThreadId)
    (inside : set id.pid ≡ true) (number : Number) where
  abbrev doing : Doing
  doing = record { pid = by; call = call; before = m }

  -- a process of the set isn't the one that does it
  not_by : (pid : Pid) → set pid ≡ true → pid ≢ by
  not_by pid own same = false≢true (sym outside ∙ (ap set (sym same) ∙ own))

  pub asked_still : (lives : Bool) (asked : IsAskedInside set m id number) → ServerFate doing lives asked.n (after.servers asked.n)
      → IsAskedInside set after id number
  asked_still lives asked (Own was now) =
      absurd (not_by asked.server.pid asked.inside (subst (λ o. IfSome o (λ (x : Server). x.pid ≡ by)) asked.live was))
  asked_still lives asked (ServerStays same) = record {
    n = asked.n;
    server = asked.server;
    live = same ∙ asked.live;
    inside = asked.inside;
    has = asked.has;
  }
  asked_still lives asked (Gains made message old called brought live later) =
      let is : old ≡ asked.server = same_Some old asked.server (sym live ∙ asked.live) in
      elim later [
        | inl queued ↦ record {
          n = asked.n;
          server = with_queued message asked.server;
          live = queued ∙ ap (λ x. Some (with_queued message x)) is;
          inside = asked.inside;
          has = with_newer (is_sent_as id number) asked.server.queued (message ∷ []) asked.server.held asked.has;
        }
        | inr received ↦ record {
          n = asked.n;
          server = with_received message asked.server;
          live = received ∙ ap (λ x. Some (with_received message x)) is;
          inside = asked.inside;
          has = received_has (is_sent_as id number) message asked.server asked.has;
        }
      ]
  asked_still lives asked (Loses old dead live later) =
      let is : old ≡ asked.server = same_Some old asked.server (sym live ∙ asked.live) in
      record {
        n = asked.n;
        server = with_senderless_from by (without_queued_from by asked.server);
        live = later ∙ ap (λ x. Some (with_senderless_from by (without_queued_from by x))) is;
        inside = asked.inside;
        has = left_has by id (not_by id.pid inside) number asked.server asked.has;
      }
