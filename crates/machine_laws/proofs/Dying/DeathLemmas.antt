-- The death of a process keeps the machine matched, and so does a kill.
use Rattle.std.proofs.Common.{◌≡◌, ℕ, ◌+◌, ◌≤◌, Bool, true, false, List, [], ◌∷◌, cond, filter, get_or, map, Option, Some, None, refl, sym, ap, ◌∙◌, arith, subst}
use Rattle.std.specs.Prelude.{◌==◌, if◌then◌else◌, not}
use Rattle.std.specs.List.{All}
use Rattle.std.specs.Option.{option_map, option_map_or}
use Rattle.std.proofs.lemmas.Bool.{and_parts, false≢true}
use Rattle.std.proofs.lemmas.List.Elements.{All-append, All-cons, All-map, All-nil}
use Rattle.std.proofs.lemmas.Option.{none-some, same_Some}
use Rattle.xk_base.specs.declared.ids.Number.{Number}
use Rattle.xk_base.specs.declared.ids.Pid.{Pid}
use Rattle.xk_base.specs.declared.ids.ThreadId.{ThreadId}
use Rattle.xk_base.specs.declared.messages.Message.{Message}
use Rattle.xk_base.specs.Tables.Circle.{same_thread}
use Rattle.machine_model.specs.Ending.Closing.{any_server, closed, senderless_from, senders_held_gone, senders_queued_gone, servers_closed, with_senderless_from, without_queued_from}
use Rattle.machine_model.specs.Ending.Ends.{death, forgotten}
use Rattle.machine_model.specs.Messaging.MessageCounts.{HasIf}
use Rattle.machine_model.specs.Messaging.Messages.{is_of_number, is_sent_by, is_sent_from}
use Rattle.machine_model.specs.Runs.Kept.{KillKeepsMatched, Settles}
use Rattle.machine_model.specs.Runs.Matched.{Matched, is_sent_as, waits_for}
use Rattle.machine_model.specs.State.Changes.{settled}
use Rattle.machine_model.specs.State.Machine.{Machine, Server, Thread}
use Rattle.machine_model.specs.State.Servers.{is_server_of, messages_of}
use Rattle.machine_model.specs.State.Threads.{no_answers, with_answer}
use Rattle.machine_model.specs.Stepping.Events.{killed, killed_if}
use Rattle.machine_model.specs.Stepping.Reservations.{unreserved}
use Rattle.machine_model.proofs.Matching.CountLemmas.{first_in}
use Rattle.machine_model.proofs.Matching.OneMessageLemmas.{HasServer, one_server}
use Rattle.machine_laws.proofs.Dying.DeathClosingLemmas.{gone, own, queued_gone_machine, queued_gone_matched, refused}
use Rattle.machine_laws.proofs.Dying.DeathForgetLemmas.{IsForgettable, forgotten_matched}
use Rattle.machine_laws.proofs.Dying.DeathHeldLemmas.{held_gone_machine, held_gone_matched, held_numbers}
use Rattle.machine_laws.proofs.Dying.DeathLoanLemmas.{plain_forgettable}
use Rattle.machine_laws.proofs.Dying.StoppedThreadLemmas.{other_answer}
use Rattle.machine_laws.proofs.Threading.ThreadMoveLemmas.{matched_reserved}
use Rattle.machine_laws.proofs.Threading.ThreadPutLemmas.{alike}
use Rattle.machine_laws.proofs.Threading.ThreadStepLemmas.{settles}

-- what a filter keeps passes it
kept_pass : (keep : Message → Bool) (xs : List Message) → All (λ x. keep x ≡ true) (filter keep xs)
kept_pass keep [] = All-nil (λ x. keep x ≡ true)
kept_pass keep (x ∷ xs) = go (keep x) refl (kept_pass keep xs)
  where
    go : (b : Bool) → keep x ≡ b → All (λ y. keep y ≡ true) (filter keep xs) → All (λ y. keep y ≡ true) (cond b (x ∷ filter keep xs) (filter keep xs))
    go true e rest = All-cons (λ y. keep y ≡ true) x (filter keep xs) e rest
    go false e rest = rest

not_from_true : (b : Bool) → not b ≡ true → b ≡ false
not_from_true true e = absurd (false≢true e)
not_from_true false e = refl

-- a thread's message is one of its process
sent_from : (pid : Pid) (id : ThreadId) (x : Message) → (id.pid.0 == pid.0) ≡ true → is_sent_by id x ≡ true → is_sent_from pid x ≡ true
sent_from pid id x own by = go x.sender by
  where
    go : (o : Option ThreadId) → option_map_or (same_thread id) o false ≡ true → option_map_or (λ (who : ThreadId). who.pid.0 == pid.0) o false ≡ true
    go None e = e
    go (Some who) e = sym (ap (λ (v : ThreadId). v.pid.0 == pid.0) (alike id who e)) ∙ own

module _ (m : Machine) (h : Matched m) (pid : Pid) where
  abbrev pub first : Machine
  first = queued_gone_machine m h pid

  pub first_matched : Matched first
  first_matched = queued_gone_matched m h pid

  abbrev pub second : Machine
  second = held_gone_machine first first_matched pid

  pub second_matched : Matched second
  second_matched = held_gone_matched first first_matched pid

  -- ---- what is left of the process

  record WasServer (k : ℕ) (server : Server) : Type 0 where
    old : Server
    there : m.servers k ≡ Some old
    stays : own m h pid k ≡ false
    same : with_senderless_from pid (without_queued_from pid old) ≡ server

  was_server : (k : ℕ) (server : Server) → second.servers k ≡ Some server → WasServer k server
  was_server k server e = go (own m h pid k) (m.servers k) refl refl e
    where
      go : (b : Bool) (o : Option Server) → own m h pid k ≡ b → m.servers k ≡ o
          → option_map (with_senderless_from pid) (option_map (without_queued_from pid) (if b then None else o)) ≡ Some server → WasServer k server
      go true o q r f = absurd (none-some server f)
      go false None q r f = absurd (none-some server f)
      go false (Some old) q r f =
          record { old = old; there = r; stays = q; same = same_Some (with_senderless_from pid (without_queued_from pid old)) server f }

  -- no server is of it
  strange : (k : ℕ) (server : Server) → second.servers k ≡ Some server → (server.pid.0 == pid.0) ≡ false
  strange k server e =
      let w : WasServer k server = was_server k server e in
      sym (ap (λ (y : Server). y.pid.0 == pid.0) w.same) ∙ (sym (ap (is_server_of pid) w.there) ∙ w.stays)

  -- no message is from it
  senderless : (x : Message) → is_sent_from pid (senderless_from pid x) ≡ false
  senderless x = go (is_sent_from pid x) refl
    where
      go : (b : Bool) → is_sent_from pid x ≡ b → option_map_or (λ (who : ThreadId). who.pid.0 == pid.0) (if b then None else x.sender) false ≡ false
      go true e = refl
      go false e = e

  unsent : (k : ℕ) (server : Server) → second.servers k ≡ Some server → All (λ x. is_sent_from pid x ≡ false) (messages_of server)
  unsent k server e =
      let w : WasServer k server = was_server k server e in
      subst (λ (y : Server). All (λ x. is_sent_from pid x ≡ false) (messages_of y)) w.same
      (All-append (λ x. is_sent_from pid x ≡ false) (filter (λ x. not (is_sent_from pid x)) w.old.queued) (map (senderless_from pid) w.old.held)
      (λ j d low. not_from_true (is_sent_from pid (get_or (filter (λ x. not (is_sent_from pid x)) w.old.queued) j d))
      (kept_pass (λ x. not (is_sent_from pid x)) w.old.queued j d low))
      (All-map (λ x. is_sent_from pid x ≡ false) (senderless_from pid) w.old.held (λ j d low. senderless (get_or w.old.held j d))))

  -- .. so none of its threads waits
  unwaiting : (id : ThreadId) (number : Number) → (id.pid.0 == pid.0) ≡ true → waits_for second.threads id number ≡ false
  unwaiting id number own = go (waits_for second.threads id number) (second_matched.body.senders.senders id number)
    where
      at_server : HasServer second.servers (is_sent_as id number) → true ≡ false
      at_server at =
          let place = first_in (is_sent_as id number) (messages_of at.server) at.some in
          let x : Message = get_or (messages_of at.server) place.0 place.1 in
          let parts = and_parts (is_of_number number x) (is_sent_by id x) place.3 in
          sym (sent_from pid id x own parts.1) ∙ unsent at.serial at.server at.live place.0 place.1 place.2

      go : (b : Bool) → HasIf b second.servers (is_sent_as id number) → b ≡ false
      go false none = refl
      go true one = at_server (one_server second.servers (is_sent_as id number) one)

  -- .. and so no page of it is on loan
  pub last_forgettable : IsForgettable second pid
  last_forgettable = plain_forgettable second second_matched pid strange unwaiting

  last_matched : Matched (forgotten pid second)
  last_matched = forgotten_matched second second_matched pid last_forgettable

  -- ---- the same threads are left

  no_answer : (o : Option Thread) → option_map (with_answer None) o ≡ o
  no_answer None = refl
  no_answer (Some t) = refl

  thread_same : (id : ThreadId) (b : Bool) → (id.pid.0 == pid.0) ≡ b
      → option_map (with_answer (refused m h pid id)) (if b then None else m.threads id) ≡ (if b then None else second.threads id)
  thread_same id true e = refl
  thread_same id false e =
      sym (no_answer (option_map (with_answer (refused m h pid id)) (m.threads id)))
      ∙ sym (λ i. option_map (with_answer (other_answer pid (held_numbers first first_matched pid) (λ n. false) first.threads no_answers id e i))
      (option_map (with_answer (other_answer pid (gone m h pid) (own m h pid) m.threads (refused m h pid) id e i)) (m.threads id)))

  pub death_is : (settled (death pid m)).machine ≡ forgotten pid second
  unfolding settled death servers_closed closed senders_queued_gone senders_held_gone forgotten any_server
  death_is = λ i. record (forgotten pid second) { threads = λ id. thread_same id (id.pid.0 == pid.0) refl i }

  pub death_matched : Matched (settled (death pid m)).machine
  death_matched = subst Matched (sym death_is) last_matched

  pub death_keeps : Settles m (settled (death pid m)).machine
  death_keeps = settles m (settled (death pid m)).machine later death_matched
    where
      forgotten_later : (forgotten pid second).steps ≤ m.steps + 1
      forgotten_later = unfold forgotten in omega arith

      later : (settled (death pid m)).machine.steps ≤ m.steps + 1
      later = subst (λ (left : Machine). left.steps ≤ m.steps + 1) (sym death_is) forgotten_later

-- a kill ends a reservation, and is a death where the process lives
pub kill_keeps : KillKeepsMatched
unfolding killed
kill_keeps pid m h = go (m.process pid.0).alive
  where
    go : (b : Bool) → Matched (killed_if b pid (unreserved m)).machine
    go false = matched_reserved m h None
    go true = death_matched (unreserved m) (matched_reserved m h None) pid
