-- The threads after a send: the sender is past its call and waits for the answer, or is answered at once, and so is the thread that
-- gets the message, where one is Receiving.
use Rattle.std.proofs.Common.{◌≡◌, ℕ, Bool, true, false, inl, inr, List, Option, Some, None, refl, sym, ap, ◌∙◌, subst}
use Rattle.std.specs.Prelude.{◌%◌, ◌==◌, ◌&&◌, ◌||◌, if◌then◌else◌, is_some, not}
use Rattle.std.specs.Option.{option_map_or, option_or}
use Rattle.std.proofs.lemmas.Bool.{false≢true}
use Rattle.std.proofs.lemmas.Option.{same_Some}
use Rattle.xk_base.specs.declared.ids.Number.{Number}
use Rattle.xk_base.specs.declared.ids.Serial.{Serial}
use Rattle.xk_base.specs.declared.ids.ThreadId.{ThreadId}
use Rattle.xk_base.specs.Tables.Circle.{same_thread}
use Rattle.syscall_codec.specs.ReplyWords.{plain_words}
use Rattle.machine_model.specs.Messaging.SendCalls.{sender_answered}
use Rattle.machine_model.specs.Runs.Matched.{is_waiting_for, waits_for}
use Rattle.machine_model.specs.State.Machine.{Process, Thread, ThreadState, Ready, Receiving, Waiting}
use Rattle.machine_model.specs.State.Order.{is_ready}
use Rattle.machine_model.specs.State.Threads.{Answers, answer_to, both_answers, no_answers, passed, with_state}
use Rattle.machine_laws.proofs.Messaging.AnsweredThreadLemmas.{answered, waits_now, was_in}
use Rattle.machine_laws.proofs.Messaging.PutThreadLemmas.{AreMatchedAlone, MayBe, answered_alone, found, put, put_alone, put_or_was, put_waits}
use Rattle.machine_laws.proofs.Threading.ThreadAnswerLemmas.{following-aligned}
use Rattle.machine_laws.proofs.Threading.ThreadPutLemmas.{alike}

-- the answer to the thread that gets the message
abbrev pub receiver_gets : List ℕ → Option ThreadId → Answers
receiver_gets words None = no_answers
receiver_gets words (Some who) = answer_to who words

-- the thread gets the message
abbrev pub gets_message : Option ThreadId → ThreadId → Bool
gets_message o id = option_map_or (same_thread id) o false

-- what the sender's thread is before answers are given
abbrev pub sender_next : Bool → Number → Thread → Thread
sender_next true number t = passed (with_state (Waiting number) t)
sender_next false number t = passed t

-- a message of that number, which is to be answered to the sender, or not at all, is sent as that
abbrev pub sends_as : Bool → ThreadId → Number → ThreadId → Number → Bool
sends_as b c sent id number = (sent.0 == number.0) && option_map_or (same_thread id) (if b then Some c else None) false

-- who is answered, and who waits, by what is known of a thread: it gets the message, the sender is to be answered, it is the sender,
-- the number is that of the message, and it waited before
table : (gets b sends d waited : Bool) → (sends ≡ true → waited ≡ false) → (gets ≡ true → waited ≡ false) → (gets ≡ true → sends ≡ false)
    → (if gets || (not b && sends) then false else (if sends then b && d else waited)) ≡ ((d && (b && sends)) || waited)
table true b true d w s g n = absurd (false≢true (sym (n refl)))
table true true false true w s g n = sym (g refl)
table true true false false w s g n = sym (g refl)
table true false false true w s g n = sym (g refl)
table true false false false w s g n = sym (g refl)
table false true true true w s g n = refl
table false true true false w s g n = sym (s refl)
table false false true true w s g n = sym (s refl)
table false false true false w s g n = sym (s refl)
table false true false true w s g n = refl
table false true false false w s g n = refl
table false false false true w s g n = refl
table false false false false w s g n = refl

some_answer : (words : List ℕ) (o : Option ThreadId) (b : Bool) (c id : ThreadId)
    → is_some (both_answers (receiver_gets words o) (sender_answered b c) id) ≡ (gets_message o id || (not b && same_thread id c))
some_answer words None true c id = refl
some_answer words None false c id = go (same_thread id c)
  where
    go : (q : Bool) → is_some {T = List ℕ} (if q then Some plain_words else None) ≡ q
    go true = refl
    go false = refl
some_answer words (Some who) true c id = go (same_thread id who)
  where
    go : (r : Bool) → is_some {T = List ℕ} (option_or (if r then Some words else None) None) ≡ (r || false)
    go true = refl
    go false = refl
some_answer words (Some who) false c id = go (same_thread id who) (same_thread id c)
  where
    go : (r q : Bool) → is_some {T = List ℕ} (option_or (if r then Some words else None) (if q then Some plain_words else None)) ≡ (r || q)
    go true q = refl
    go false true = refl
    go false false = refl

waits_if : (b : Bool) (sent number : Number) (t : Thread) → t.state ≡ Ready
    → is_waiting_for number (sender_next b sent t).state ≡ (b && (sent.0 == number.0))
waits_if true sent number t e = refl
waits_if false sent number t e = ap (is_waiting_for number) e

sends_if : (b : Bool) (c : ThreadId) (sent : Number) (id : ThreadId) (number : Number)
    → sends_as b c sent id number ≡ ((sent.0 == number.0) && (b && same_thread id c))
sends_if true c sent id number = refl
sends_if false c sent id number = refl

module _ (n : ℕ) (p : ℕ → Process) (t : ThreadId → Option Thread) (h : AreMatchedAlone n p t) (c : ThreadId) (old : Thread) (there : t c ≡ Some old)
    (ready : old.state ≡ Ready) (b : Bool) (above : b ≡ true → (c.tid.0 == 1) ≡ false) (sent : Number) (words : List ℕ)
    (o : Option ThreadId) (at : Serial)
    (receives : (who : ThreadId) → o ≡ Some who → (u : Thread) × (t who ≡ Some u) × (u.state ≡ Receiving at)) where
  abbrev answers : Answers
  answers = both_answers (receiver_gets words o) (sender_answered b c)

  abbrev pub sent_threads : ThreadId → Option Thread
  sent_threads = answered (put t c (sender_next b sent old)) answers

  next_pc : (q : Bool) → (sender_next q sent old).pc % 4 ≡ 0
  next_pc true = following-aligned old.pc (h.threads.pcs c old there)
  next_pc false = following-aligned old.pc (h.threads.pcs c old there)

  next_fit : (q : Bool) → (q ≡ true → (c.tid.0 == 1) ≡ false) → MayBe c (sender_next q sent old).state
  next_fit true f = f refl
  next_fit false f = subst (MayBe c) (sym ready) tt

  pub sent_alone : AreMatchedAlone n p sent_threads
  sent_alone =
      answered_alone n p (put t c (sender_next b sent old)) answers
      (put_alone t c (sender_next b sent old) n p old there (next_pc b) (next_fit b above) h)

  -- who gets the message waits for no answer, and isn't the sender
  getter : (id : ThreadId) → gets_message o id ≡ true → (u : Thread) × (t id ≡ Some u) × (u.state ≡ Receiving at)
  getter id e = go o refl e
    where
      go : (r : Option ThreadId) → o ≡ r → gets_message r id ≡ true → (u : Thread) × (t id ≡ Some u) × (u.state ≡ Receiving at)
      go None q f = absurd (false≢true f)
      go (Some who) q f =
          subst (λ (y : ThreadId). (u : Thread) × (t y ≡ Some u) × (u.state ≡ Receiving at)) (sym (alike id who f)) (receives who q)

  getter_waits_not : (id : ThreadId) (number : Number) → gets_message o id ≡ true → waits_for t id number ≡ false
  getter_waits_not id number e =
      let u = getter id e in
      ap (λ r. option_map_or (λ (v : Thread). is_waiting_for number v.state) r false) u.1 ∙ ap (is_waiting_for number) u.2

  getter_sends_not : (id : ThreadId) → gets_message o id ≡ true → same_thread id c ≡ false
  getter_sends_not id e = go (same_thread id c) refl
    where
      go : (q : Bool) → same_thread id c ≡ q → q ≡ false
      go false r = refl
      go true r =
          let u = getter id e in
          let same : u.0 ≡ old = same_Some u.0 old (sym u.1 ∙ ap t (alike id c r) ∙ there) in
          absurd (false≢true (sym (ap is_ready u.2) ∙ ap (λ (v : Thread). is_ready v.state) same ∙ ap is_ready ready))

  sender_waits_not : (id : ThreadId) (number : Number) → same_thread id c ≡ true → waits_for t id number ≡ false
  sender_waits_not id number e =
      ap (λ q. waits_for t q number) (alike id c e)
      ∙ ap (λ r. option_map_or (λ (v : Thread). is_waiting_for number v.state) r false) there ∙ ap (is_waiting_for number) ready

  -- a thread waits where it is the sender of the message, or did before
  pub sent_waits : (id : ThreadId) (number : Number)
      → waits_for sent_threads id number ≡ (sends_as b c sent id number || waits_for t id number)
  sent_waits id number =
      waits_now (put t c (sender_next b sent old)) answers id number
      ∙ (λ i. if some_answer words o b c id i then false else put_waits t c (sender_next b sent old) id number i)
      ∙ (λ i. if gets_message o id || (not b && same_thread id c) then false
      else (if same_thread id c then waits_if b sent number old ready i else waits_for t id number))
      ∙ table (gets_message o id) b (same_thread id c) (sent.0 == number.0) (waits_for t id number)
      (sender_waits_not id number) (getter_waits_not id number) (getter_sends_not id)
      ∙ sym (ap (λ s. s || waits_for t id number) (sends_if b c sent id number))

  -- a thread that is Receiving was so before
  pub sent_receives : (id : ThreadId) (u : Thread) (serial : Serial) → sent_threads id ≡ Some u → u.state ≡ Receiving serial
      → (v : Thread) × (t id ≡ Some v) × (v.state ≡ Receiving serial)
  sent_receives id u serial e s = elim (put_or_was t c (sender_next b sent old) id) [
    | inl f ↦ absurd (not_receiving b (ap (λ (v : Thread). v.state) (found t c (sender_next b sent old) id w.0 w.1 f) ∙ w.3))
    | inr f ↦ (w.0, sym f ∙ w.1, w.3)
  ]
    where
      w : (v : Thread) × (put t c (sender_next b sent old) id ≡ Some v) × (answers id ≡ None) × (v.state ≡ Receiving serial)
      w = was_in (put t c (sender_next b sent old)) answers id u (Receiving serial) e s refl

      is_receiving : ThreadState → Bool
      is_receiving (Receiving other) = true
      is_receiving _ = false

      not_receiving : (q : Bool) → (sender_next q sent old).state ≡ Receiving serial → ⊥
      not_receiving true r = false≢true (ap is_receiving r)
      not_receiving false r = false≢true (sym (ap is_receiving ready) ∙ ap is_receiving r)
