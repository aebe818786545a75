-- A server ends, or a process dies: messages are lost with it, and none else is moved.
use Rattle.std.proofs.Common.{◌≡◌, ℕ, zero, suc, ◌+◌, ◌≤◌, ◌⊎◌, inl, inr, Bool, true, false, List, [], ◌∷◌, cond, filter, map, Option, Some, None, refl, sym, ap, ◌∙◌, arith}
use Rattle.std.specs.Prelude.{◌==◌, ◌||◌, if◌then◌else◌, is_some, not}
use Rattle.std.specs.List.{list_any}
use Rattle.std.specs.Option.{option_map, option_or}
use Rattle.std.proofs.lemmas.Bool.{eq-eqb, false≢true, or_parts}
use Rattle.xk_base.specs.declared.ids.Number.{Number}
use Rattle.xk_base.specs.declared.ids.Pid.{Pid}
use Rattle.xk_base.specs.declared.ids.Serial.{Serial}
use Rattle.xk_base.specs.declared.messages.Message.{Message}
use Rattle.syscall_codec.specs.CallNumbers.{destroy_server, terminate_process}
use Rattle.syscall_codec.specs.CallWords.{call_number}
use Rattle.syscall_codec.specs.ReplyWords.{plain_words}
use Rattle.machine_model.specs.Ending.Closing.{closed, is_sender_at, refused_server, senderless_from, senders_held_gone, senders_queued_gone, servers_closed, with_senderless_from, without_queued_from}
use Rattle.machine_model.specs.Ending.Ends.{death, forgotten}
use Rattle.machine_model.specs.Messaging.MessageCounts.{count_in}
use Rattle.machine_model.specs.Messaging.Messages.{is_of_number, is_sent_from}
use Rattle.machine_model.specs.Messaging.Receivers.{receiving_at}
use Rattle.machine_model.specs.Runs.Matched.{Matched}
use Rattle.machine_model.specs.State.Machine.{Machine, Server}
use Rattle.machine_model.specs.State.Servers.{is_server_of, messages_of}
use Rattle.machine_model.specs.State.Threads.{answer_to, both_answers}
use Rattle.machine_model.proofs.Matching.CountLemmas.{count_in-append}
use Rattle.machine_laws.proofs.Messaging.ListedLemmas.{not_counted}
use Rattle.call_effects.proofs.ServedLemmas.{done}
use Rattle.transcript_laws.specs.Following.{Lacks, Standing, Stands, keeping, keeping_by}
use Rattle.transcript_laws.proofs.Following.ReceiveLemmas.{at_most_one}
use Rattle.transcript_laws.proofs.Following.SayLemmas.{asks}
use Rattle.transcript_laws.proofs.Following.ServedLemmas.{Follows, Quiet, answer_itself, both_quiet, leaves_it, one_quiet, refused_quiet}
use Rattle.transcript_laws.proofs.Following.StandLemmas.{MayLose, lost_stands}
use Rattle.transcript_laws.proofs.Following.TellLemmas.{Destroys}
use Rattle.call_effects.specs.Rows.ThreadRows.{death_plan}
use Rattle.transcript_laws.specs.CallKinds.{destroying}

module _ (number : Number) where
  abbrev test : Message → Bool
  test = is_of_number number

  -- that held messages lose their sender leaves which there are
  pub senderless_any : (pid : Pid) (xs : List Message) → list_any test (map (senderless_from pid) xs) ≡ list_any test xs
  senderless_any pid [] = refl
  senderless_any pid (x ∷ xs) = ap (λ b. test x || b) (senderless_any pid xs)

  -- what is left of a list was in it
  pub left_any : (keep : Message → Bool) (xs : List Message) → list_any test xs ≡ false → list_any test (filter keep xs) ≡ false
  left_any keep [] e = refl
  left_any keep (x ∷ xs) e =
      let parts = or_parts (test x) (list_any test xs) e in
      go (keep x) parts.0 (left_any keep xs parts.1)
    where
      go : (b : Bool) → test x ≡ false → list_any test (filter keep xs) ≡ false → list_any test (cond b (x ∷ filter keep xs) (filter keep xs)) ≡ false
      go true p q = (λ i. p i || q i)
      go false p q = q

  module _ (m : Machine) (h : Matched m) (pid : Pid) where
    -- a server without what the process queued, and without it as a sender
    abbrev left : Server → Server
    left server = with_senderless_from pid (without_queued_from pid server)

    left_keeps : (n : ℕ) (server : Server) → m.servers n ≡ Some server
        → (keeping number (Some (left server)) ≡ keeping number (Some server)) ⊎ (keeping number (Some (left server)) ≡ Lacks)
    left_keeps n server there =
        go (list_any test server.queued) (list_any test server.held) (list_any test (filter (λ x. not (is_sent_from pid x)) server.queued)) refl refl refl
      where
        held_same : list_any test (map (senderless_from pid) server.held) ≡ list_any test server.held
        held_same = senderless_any pid server.held

        after : (b c : Bool) → list_any test (filter (λ x. not (is_sent_from pid x)) server.queued) ≡ b → list_any test server.held ≡ c
            → keeping number (Some (left server)) ≡ keeping_by b c
        after b c p q = (λ i. keeping_by (p i) ((held_same ∙ q) i))

        before : (b c : Bool) → list_any test server.queued ≡ b → list_any test server.held ≡ c → keeping number (Some server) ≡ keeping_by b c
        before b c p q = (λ i. keeping_by (p i) (q i))

        -- it isn't both queued and held
        not_twice : list_any test server.queued ≡ true → list_any test server.held ≡ true → ⊥
        not_twice p q =
            let most : count_in test (messages_of server) ≤ 1 = at_most_one number m h n server there in
            let sum : count_in test (messages_of server) ≡ count_in test server.queued + count_in test server.held =
            count_in-append test server.queued server.held in
            let one : 1 ≤ count_in test server.queued = counted server.queued p in
            let other : 1 ≤ count_in test server.held = counted server.held q in
            omega arith
          where
            counted : (xs : List Message) → list_any test xs ≡ true → 1 ≤ count_in test xs
            counted xs e = some (count_in test xs) refl
              where
                some : (c : ℕ) → count_in test xs ≡ c → 1 ≤ c
                some zero z = absurd (false≢true (sym (not_counted test xs z) ∙ e))
                some (suc c) z = omega arith

        go : (q c b : Bool) → list_any test server.queued ≡ q → list_any test server.held ≡ c
            → list_any test (filter (λ x. not (is_sent_from pid x)) server.queued) ≡ b
            → (keeping number (Some (left server)) ≡ keeping number (Some server)) ⊎ (keeping number (Some (left server)) ≡ Lacks)
        go true c true p r s = inl (after true c s r ∙ sym (before true c p r))
        go true true false p r s = absurd (not_twice p r)
        go true false false p r s = inr (after false false s r)
        go false c true p r s =
            absurd (false≢true (sym (left_any (λ x. not (is_sent_from pid x)) server.queued p) ∙ s))
        go false c false p r s = inl (after false c s r ∙ sym (before false c p r))

    pub death_keeps : (n : ℕ)
        → (keeping number ((death pid m).machine.servers n) ≡ keeping number (m.servers n)) ⊎ (keeping number ((death pid m).machine.servers n) ≡ Lacks)
    unfolding death servers_closed closed senders_queued_gone senders_held_gone forgotten
    death_keeps n = go (is_server_of pid (m.servers n)) (m.servers n) refl
      where
        go : (b : Bool) (o : Option Server) → m.servers n ≡ o
            → (keeping number (option_map (with_senderless_from pid) (option_map (without_queued_from pid) (if b then None else o))) ≡ keeping number o)
            ⊎ (keeping number (option_map (with_senderless_from pid) (option_map (without_queued_from pid) (if b then None else o))) ≡ Lacks)
        go true o e = inr refl
        go false None e = inl refl
        go false (Some server) e = left_keeps n server e

    pub death_number : (death pid m).machine.next_number ≡ m.next_number
    unfolding death servers_closed closed senders_queued_gone senders_held_gone forgotten
    death_number = refl

    -- how a message stands after the death
    pub death_stands : (a : Standing) → Stands number m a → (b : Standing) × Stands number (death pid m).machine b × MayLose a b
    death_stands = lost_stands number m h (death pid m).machine death_keeps death_number

  module _ (m : Machine) (h : Matched m) (w : List ℕ) where
    pub terminate_follows : call_number w ≡ terminate_process → Follows number m w (done m (death_plan m.cursor.pid m))
    unfolding death servers_closed closed
    terminate_follows e a stands =
        let at = death_stands m h m.cursor.pid a stands in
        record {
          mid = a;
          last = a;
          end = at.0;
          call = leaves_it number m w terminate_process e refl _ a;
          told = Quiet (refused_quiet number (λ id. false) (is_sender_at (λ n. is_server_of m.cursor.pid (m.servers n)) m)) a;
          lost = at.2;
          stands = at.1;
          settled = inl (ap asks e);
          delivery = refl;
          processes = same;
        }
      where
        same : (death m.cursor.pid m).machine.processes ≡ m.processes
        same = unfold death in unfold forgotten in unfold senders_held_gone in unfold senders_queued_gone in unfold servers_closed in unfold closed in refl

    pub destroy_follows : call_number w ≡ destroy_server → (serial : Serial) → Follows number m w (done m (destroying m serial))
    unfolding closed
    destroy_follows e serial a stands =
        let at = lost_stands number m h (closed this m).machine each refl a stands in
        record {
          mid = at.0;
          last = at.0;
          end = at.0;
          call = Destroys (eq-eqb (call_number w) destroy_server e) plain a at.0 at.2;
          told = Quiet (both_quiet number (λ id. false) (answer_to m.cursor plain_words)
              (both_answers (refused_server (is_sender_at this m)) (refused_server (receiving_at m serial)))
              (one_quiet number (λ id. false) m.cursor plain_words refl)
              (both_quiet number (λ id. false) (refused_server (is_sender_at this m)) (refused_server (receiving_at m serial))
              (refused_quiet number (λ id. false) (is_sender_at this m)) (refused_quiet number (λ id. false) (receiving_at m serial)))) at.0;
          lost = refl;
          stands = at.1;
          settled = inr (ap is_some plain);
          delivery = refl;
          processes = refl;
        }
      where
        this : ℕ → Bool
        this n = n == serial.0

        each : (n : ℕ) → (keeping number ((closed this m).machine.servers n) ≡ keeping number (m.servers n)) ⊎ (keeping number ((closed this m).machine.servers n) ≡ Lacks)
        each n = go (this n)
          where
            go : (b : Bool) → (keeping number (if b then None else m.servers n) ≡ keeping number (m.servers n)) ⊎ (keeping number (if b then None else m.servers n) ≡ Lacks)
            go true = inr refl
            go false = inl refl

        plain : both_answers (answer_to m.cursor plain_words) (both_answers (refused_server (is_sender_at this m)) (refused_server (receiving_at m serial))) m.cursor
            ≡ Some plain_words
        plain =
            ap (λ o. option_or o (both_answers (refused_server (is_sender_at this m)) (refused_server (receiving_at m serial)) m.cursor))
            (answer_itself m.cursor plain_words)
