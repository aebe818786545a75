-- Whom a served call answers, and what it leaves of the threads: the caller is answered or waits, each other thread that is answered
-- waited, and no other thread begins or ceases to wait.
use Rattle.std.proofs.Common.{◌≡◌, ℕ, ◌⊎◌, inl, inr, Bool, true, false, List, Option, Some, None, refl, sym, ap, ◌∙◌}
use Rattle.std.specs.Prelude.{is_some, nat_eq, if◌then◌else◌}
use Rattle.std.specs.Option.{option_map, option_map_or, option_or}
use Rattle.std.proofs.lemmas.Bool.{eqb-true, false≢true}
use Rattle.xk_base.specs.declared.ids.Number.{Number}
use Rattle.xk_base.specs.declared.ids.Serial.{Serial}
use Rattle.xk_base.specs.declared.ids.ThreadId.{ThreadId}
use Rattle.xk_base.specs.declared.messages.Message.{Message}
use Rattle.syscall_codec.specs.ReplyWords.{message_words, plain_words}
use Rattle.xk_base.specs.Tables.Circle.{same_thread}
use Rattle.xk_base.specs.Tables.Counting.{put_at}
use Rattle.machine_model.specs.Ending.Closing.{refused_server}
use Rattle.machine_model.specs.Messaging.Messages.{is_sent_by}
use Rattle.machine_model.specs.Messaging.ReturnCalls.{sender_gets}
use Rattle.machine_model.specs.Messaging.SendCalls.{sender_answered, sender_left}
use Rattle.machine_model.specs.Runs.Matched.{Matched}
use Rattle.machine_model.specs.State.Changes.{Change, answering, only}
use Rattle.machine_model.specs.State.Machine.{Machine, Process, Thread, ThreadState, Waiting}
use Rattle.machine_model.specs.State.Threads.{Answers, answer_to, both_answers, change_thread, with_state}
use Rattle.machine_model.proofs.Matching.CountLemmas.{all_right}
use Rattle.machine_laws.proofs.Returning.GivenBackLemmas.{found_at}
use Rattle.machine_laws.proofs.Threading.ThreadAnswerLemmas.{same_thread-self}
use Rattle.machine_laws.proofs.Threading.ThreadPutLemmas.{alike}
use Rattle.transcript_laws.specs.Answering.{AnswersWhoWaits, awaits_reply, is_waiting}
use Rattle.transcript_laws.proofs.Answering.FitLemmas.{no_sender, same_waits, waits_unless}
use Rattle.call_effects.specs.Effects.{arriving, at_server}
use Rattle.call_effects.specs.Held.{IsHeld}
use Rattle.call_effects.specs.Rows.MessageRows.{arrival_answers}
use Rattle.machine_model.specs.State.Servers.{change_server}

-- the processes are as alive
abbrev pub AreAsAlive : Machine → Machine → Type 0
AreAsAlive m n = (pid : ℕ) → (n.process pid).alive ≡ (m.process pid).alive

-- ---- answers

-- the answer to one thread is to no other
pub answers_no_other : (who id : ThreadId) (words : List ℕ) → same_thread id who ≡ false → is_some (answer_to who words id) ≡ false
answers_no_other who id words apart = ap (λ b. is_some (if b then Some words else None)) apart

pub answers_itself : (who : ThreadId) (words : List ℕ) → is_some (answer_to who words who) ≡ true
answers_itself who words = ap (λ b. is_some (if b then Some words else None)) (same_thread-self who)

pub answered_is : (who id : ThreadId) (words : List ℕ) → is_some (answer_to who words id) ≡ true → id ≡ who
answered_is who id words e = go (same_thread id who) refl e
  where
    go : (b : Bool) → same_thread id who ≡ b → is_some (if b then Some words else None) ≡ true → id ≡ who
    go true q r = alike id who q
    go false q r = absurd (false≢true r)

-- who is answered by one of two
pub by_either : (a b : Option (List ℕ)) → is_some (option_or a b) ≡ true → (is_some a ≡ true) ⊎ (is_some b ≡ true)
by_either None b e = inr e
by_either (Some words) b e = inl refl

pub by_first : (a b : Option (List ℕ)) → is_some a ≡ true → is_some (option_or a b) ≡ true
by_first None b e = absurd (false≢true e)
by_first (Some words) b e = refl

pub by_second : (a b : Option (List ℕ)) → is_some b ≡ true → is_some (option_or a b) ≡ true
by_second None b e = e
by_second (Some words) b e = refl

-- ---- the caller alone is answered, and the threads are left

pub plain_fits : (m n : Machine) (words : List ℕ) → n.threads ≡ m.threads → AreAsAlive m n → AnswersWhoWaits m (answering (answer_to m.cursor words) n)
plain_fits m n words same alive = record {
  others = λ id apart some. absurd (false≢true (sym (answers_no_other m.cursor id words apart) ∙ some));
  caller = inl (answers_itself m.cursor words);
  threads = λ id apart. ap (λ (t : ThreadId → Option Thread). is_waiting (t id)) same;
  alive = alive;
  gone = refl;
}

-- the process's heap or connections change
pub put_alive : (process : ℕ → Process) (pid : ℕ) (p : Process) → p.alive ≡ (process pid).alive
    → (q : ℕ) → (put_at nat_eq process pid p q).alive ≡ (process q).alive
put_alive process pid p e q = go (nat_eq q pid) refl
  where
    go : (b : Bool) → nat_eq q pid ≡ b → (if b then p else process q).alive ≡ (process q).alive
    go true r = e ∙ ap (λ k. (process k).alive) (sym (eqb-true q pid r))
    go false r = refl

-- ---- the caller waits

module _ (m : Machine) (t : Thread) (there : m.threads m.cursor ≡ Some t) where
  pub now_waits : (state : ThreadState) → awaits_reply state ≡ true
      → is_waiting (put_at same_thread m.threads m.cursor (option_map (with_state state) (m.threads m.cursor)) m.cursor) ≡ true
  now_waits state waits =
      ap (λ b. is_waiting (if b then option_map (with_state state) (m.threads m.cursor) else m.threads m.cursor)) (same_thread-self m.cursor)
      ∙ (ap (λ o. is_waiting (option_map (with_state state) o)) there ∙ waits)

  pub others_left : (state : ThreadState) (id : ThreadId) → same_thread id m.cursor ≡ false
      → is_waiting (put_at same_thread m.threads m.cursor (option_map (with_state state) (m.threads m.cursor)) id) ≡ is_waiting (m.threads id)
  others_left state id apart = ap (λ b. is_waiting (if b then option_map (with_state state) (m.threads m.cursor) else m.threads id)) apart

  pub waiting_fits : (state : ThreadState) → awaits_reply state ≡ true → AnswersWhoWaits m (only (change_thread m.cursor (with_state state) m))
  waiting_fits state waits = record {
    others = λ id apart some. absurd (false≢true some);
    caller = inr (now_waits state waits);
    threads = others_left state;
    alive = λ pid. refl;
    gone = refl;
  }

  -- ---- a send

  module _ (serial : Serial) (message : Message) (number : Number) (paged : Machine) (same : paged.threads ≡ m.threads) (alive : AreAsAlive m paged) where
    abbrev left : Bool → Machine
    left b = sender_left b number (record paged { cursor = m.cursor })

    abbrev sending : Option ThreadId → Bool → Change
    sending o b = record {
      machine = change_server serial (at_server (arriving o message)) (left b);
      answers = both_answers (arrival_answers o message) (sender_answered b m.cursor);
      delivery = None;
      gone = None;
    }

    sending_threads : (b : Bool) (id : ThreadId) → same_thread id m.cursor ≡ false → is_waiting ((left b).threads id) ≡ is_waiting (m.threads id)
    sending_threads true id apart =
        ap (λ (x : ThreadId → Option Thread). is_waiting (put_at same_thread x m.cursor (option_map (with_state (Waiting number)) (x m.cursor)) id)) same
        ∙ others_left (Waiting number) id apart
    sending_threads false id apart = ap (λ (x : ThreadId → Option Thread). is_waiting (x id)) same

    sending_caller : (o : Option ThreadId) (b : Bool) → (is_some ((sending o b).answers m.cursor) ≡ true) ⊎ (is_waiting ((left b).threads m.cursor) ≡ true)
    sending_caller o true =
        inr (ap (λ (x : ThreadId → Option Thread). is_waiting (put_at same_thread x m.cursor (option_map (with_state (Waiting number)) (x m.cursor)) m.cursor)) same
        ∙ now_waits (Waiting number) refl)
    sending_caller o false =
        inl (by_second (arrival_answers o message m.cursor) (answer_to m.cursor plain_words m.cursor) (answers_itself m.cursor plain_words))

    sending_others : (o : Option ThreadId) → ((who : ThreadId) → o ≡ Some who → is_waiting (m.threads who) ≡ true) → (b : Bool) (id : ThreadId)
        → same_thread id m.cursor ≡ false → is_some ((sending o b).answers id) ≡ true → is_waiting (m.threads id) ≡ true
    sending_others None waits true id apart some = absurd (false≢true some)
    sending_others None waits false id apart some = absurd (false≢true (sym (answers_no_other m.cursor id plain_words apart) ∙ some))
    sending_others (Some who) waits b id apart some =
        go b (by_either (answer_to who (message_words message) id) (sender_answered b m.cursor id) some)
      where
        go : (b : Bool) → (is_some (answer_to who (message_words message) id) ≡ true) ⊎ (is_some (sender_answered b m.cursor id) ≡ true)
            → is_waiting (m.threads id) ≡ true
        go b (inl e) = same_waits m id who (answered_is who id (message_words message) e) (waits who refl)
        go true (inr e) = absurd (false≢true e)
        go false (inr e) = absurd (false≢true (sym (answers_no_other m.cursor id plain_words apart) ∙ e))

    sending_alive : (b : Bool) → AreAsAlive m (left b)
    sending_alive true = alive
    sending_alive false = alive

    pub sending_fits : (o : Option ThreadId) (b : Bool) → ((who : ThreadId) → o ≡ Some who → is_waiting (m.threads who) ≡ true) → AnswersWhoWaits m (sending o b)
    sending_fits o b waits = record {
      others = sending_others o waits b;
      caller = sending_caller o b;
      threads = sending_threads b;
      alive = sending_alive b;
      gone = refl;
    }

-- ---- a return

-- the sender of a held message waits
pub held_sender_waits : (m : Machine) → Matched m → (test : Message → Bool) (x : Message) → IsHeld m test x → (who : ThreadId) → x.sender ≡ Some who
    → is_waiting (m.threads who) ≡ true
held_sender_waits m h test x held who sender =
    let at = found_at test held.server.held x held.found in
    waits_unless (m.threads who) (λ free.
    false≢true (sym (all_right (λ y. is_sent_by who y ≡ false) held.server.queued held.server.held (no_sender m h who free held.serial.0 held.server held.there) at.0 at.1 at.2)
    ∙ (ap (is_sent_by who) at.3 ∙ (ap (λ o. option_map_or (same_thread who) o false) sender ∙ same_thread-self who))))

module _ (m : Machine) (h : Matched m) (n : Machine) (same : n.threads ≡ m.threads) (alive : AreAsAlive m n) where
  pub given_fits : (words : List ℕ) (o : Option ThreadId) → ((who : ThreadId) → o ≡ Some who → is_waiting (m.threads who) ≡ true)
      → AnswersWhoWaits m (answering (both_answers (answer_to m.cursor plain_words) (sender_gets words o)) n)
  given_fits words o waits = record {
    others = λ id apart some. by o waits id apart (by_either (answer_to m.cursor plain_words id) (sender_gets words o id) some);
    caller = inl (by_first (answer_to m.cursor plain_words m.cursor) (sender_gets words o m.cursor) (answers_itself m.cursor plain_words));
    threads = λ id apart. ap (λ (t : ThreadId → Option Thread). is_waiting (t id)) same;
    alive = alive;
    gone = refl;
  }
    where
      by : (o : Option ThreadId) → ((who : ThreadId) → o ≡ Some who → is_waiting (m.threads who) ≡ true) → (id : ThreadId)
          → same_thread id m.cursor ≡ false
          → (is_some (answer_to m.cursor plain_words id) ≡ true) ⊎ (is_some (sender_gets words o id) ≡ true) → is_waiting (m.threads id) ≡ true
      by o waits id apart (inl e) = absurd (false≢true (sym (answers_no_other m.cursor id plain_words apart) ∙ e))
      by None waits id apart (inr e) = absurd (false≢true e)
      by (Some who) waits id apart (inr e) = same_waits m id who (answered_is who id words e) (waits who refl)

  -- the caller and these others are answered
  pub also_fits : (answers : Answers) → ((id : ThreadId) → is_some (answers id) ≡ true → is_waiting (m.threads id) ≡ true)
      → AnswersWhoWaits m (answering (both_answers (answer_to m.cursor plain_words) answers) n)
  also_fits answers waits = record {
    others = λ id apart some. by id apart (by_either (answer_to m.cursor plain_words id) (answers id) some);
    caller = inl (by_first (answer_to m.cursor plain_words m.cursor) (answers m.cursor) (answers_itself m.cursor plain_words));
    threads = λ id apart. ap (λ (t : ThreadId → Option Thread). is_waiting (t id)) same;
    alive = alive;
    gone = refl;
  }
    where
      by : (id : ThreadId) → same_thread id m.cursor ≡ false
          → (is_some (answer_to m.cursor plain_words id) ≡ true) ⊎ (is_some (answers id) ≡ true) → is_waiting (m.threads id) ≡ true
      by id apart (inl e) = absurd (false≢true (sym (answers_no_other m.cursor id plain_words apart) ∙ e))
      by id apart (inr e) = waits id e

-- who is refused by one of two tests
pub refused_by : (f g : ThreadId → Bool) (id : ThreadId) → is_some (both_answers (refused_server f) (refused_server g) id) ≡ true
    → (f id ≡ true) ⊎ (g id ≡ true)
refused_by f g id e = go (f id) (g id) refl refl e
  where
    go : (a b : Bool) → f id ≡ a → g id ≡ b → is_some (option_or (if a then refused_server (λ x. true) id else None) (if b then refused_server (λ x. true) id else None)) ≡ true
        → (f id ≡ true) ⊎ (g id ≡ true)
    go true b p q r = inl p
    go false true p q r = inr q
    go false false p q r = absurd (false≢true r)
