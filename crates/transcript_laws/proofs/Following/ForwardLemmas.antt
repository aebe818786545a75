-- An accepted forward: a held message leaves its server, and arrives at another.
use Rattle.std.proofs.Common.{◌≡◌, ◌≢◌, ℕ, ◌<◌, ◌⊎◌, inl, inr, Bool, true, false, List, Option, Some, None, refl, sym, ap, ◌∙◌, subst, arith}
use Rattle.std.specs.Prelude.{◌==◌, ◌&&◌, if◌then◌else◌, is_some, nat_eq}
use Rattle.std.specs.Option.{option_map, option_or}
use Rattle.std.proofs.lemmas.Bool.{eq-eqb, eqb-true, false≢true}
use Rattle.std.proofs.lemmas.Option.{same_Some}
use Rattle.xk_base.specs.declared.ids.Number.{Number}
use Rattle.xk_base.specs.declared.ids.Serial.{Serial}
use Rattle.xk_base.specs.declared.ids.ThreadId.{ThreadId}
use Rattle.xk_base.specs.declared.ids.Vpn.{Vpn}
use Rattle.xk_base.specs.declared.messages.Message.{Message}
use Rattle.syscall_codec.specs.CallNumbers.{forward_message}
use Rattle.syscall_codec.specs.CallWords.{call_number, forward_token, return_token}
use Rattle.syscall_codec.specs.ReplyWords.{message_words, plain_words}
use Rattle.xk_base.specs.Tables.Circle.{same_thread}
use Rattle.machine_model.specs.Messaging.ForwardCalls.{is_passable_of, passed_number, with_first}
use Rattle.machine_model.specs.Messaging.Messages.{is_of_number, without_held}
use Rattle.machine_model.specs.Messaging.Receivers.{receiver}
use Rattle.machine_model.specs.Runs.Matched.{Matched}
use Rattle.machine_model.specs.State.Changes.{Change}
use Rattle.machine_model.specs.State.Machine.{Machine, Ready, Receiving, Server, Thread, ThreadState}
use Rattle.machine_model.specs.State.Order.{ready_at}
use Rattle.machine_model.specs.State.Servers.{change_server}
use Rattle.machine_model.specs.State.Threads.{Answers, answer_to, both_answers}
use Rattle.machine_model.proofs.Matching.OneMessageLemmas.{same_or_not}
use Rattle.machine_laws.proofs.Sending.SentReceiverLemmas.{receiver_receives}
use Rattle.machine_laws.proofs.Threading.ThreadAnswerLemmas.{IsReadyThread, ready_thread}
use Rattle.machine_laws.proofs.Threading.ThreadPutLemmas.{alike}
use Rattle.call_effects.specs.Effects.{arriving, at_server}
use Rattle.call_effects.specs.Rows.MessageRows.{arrival_answers}
use Rattle.call_effects.proofs.ServedLemmas.{done}
use Rattle.call_effects.specs.Held.{IsHeld}
use Rattle.transcript_laws.specs.Following.{Lacks, Queued, Standing, Stands, is_return_call, keeping}
use Rattle.transcript_laws.proofs.Following.KeepLemmas.{change_elsewhere, change_here, change_same, returned_other, returned_this}
use Rattle.transcript_laws.proofs.Following.ReturnLemmas.{is_kept, not_queued, stood_held}
use Rattle.transcript_laws.proofs.Following.SendLemmas.{arrival_other, arrival_quiet, arrival_says, arrival_this, arrived_as}
use Rattle.transcript_laws.proofs.Following.SendLemmas.{receiver_known}
use Rattle.transcript_laws.proofs.Following.ServedLemmas.{Follows, Quiet, ServedSays, answer_itself, one_quiet}
use Rattle.transcript_laws.proofs.Following.StandLemmas.{kept_low, now_stands, others_lack, same_stands, standing_at}
use Rattle.transcript_laws.proofs.Following.TellLemmas.{CallSays, Forwards, Leaves}
use Rattle.transcript_laws.proofs.CallKindUseLemmas.{passable_number}
use Rattle.transcript_laws.specs.CallKinds.{IsPassing, passing, place_at_server}

-- a thread that is Ready doesn't wait for a message
ready_not_receiving : (serial : Serial) (s : ThreadState) → s ≡ Ready → s ≡ Receiving serial → ⊥
ready_not_receiving serial s a b = let e : Ready ≡ Receiving serial = sym a ∙ b in cc

module _ (m : Machine) (ready : ready_at m m.cursor ≡ true) (serial : Serial) where
  -- so the caller is not who gets the message
  pub not_caller : (who : ThreadId) → receiver m serial ≡ Some who → same_thread m.cursor who ≡ false
  not_caller who e = go (same_thread m.cursor who) refl
    where
      r : IsReadyThread m m.cursor
      r = ready_thread m m.cursor ready

      go : (b : Bool) → same_thread m.cursor who ≡ b → b ≡ false
      go false q = refl
      go true q =
          let at = receiver_receives m serial who e in
          let same : r.thread ≡ at.0 = same_Some r.thread at.0 (sym r.there ∙ (ap m.threads (alike m.cursor who q) ∙ at.1)) in
          absurd (ready_not_receiving serial at.0.state (ap (λ (t : Thread). t.state) (sym same) ∙ r.ready) at.2)

  -- .. and is answered that the call was served
  pub arrival_plain : (x : Message) → both_answers (arrival_answers (receiver m serial) x) (answer_to m.cursor plain_words) m.cursor ≡ Some plain_words
  arrival_plain x = go (receiver m serial) refl
    where
      go : (o : Option ThreadId) → receiver m serial ≡ o → both_answers (arrival_answers o x) (answer_to m.cursor plain_words) m.cursor ≡ Some plain_words
      go None e = answer_itself m.cursor plain_words
      go (Some who) e =
          ap (λ b. option_or (if b then Some (message_words x) else None) (answer_to m.cursor plain_words m.cursor)) (not_caller who e)
          ∙ answer_itself m.cursor plain_words

-- ---- the forward

module _ (number : Number) (m : Machine) (h : Matched m) (ready : ready_at m m.cursor ≡ true) (w : List ℕ) (e : call_number w ≡ forward_message)
    (x : Message) (at : IsHeld m (is_passable_of (passed_number w)) x) (named : is_of_number (passed_number w) x ≡ true) (to : Serial) (server : Server)
    (there : m.servers to.0 ≡ Some server) (apart : to.0 ≢ at.serial.0) (first : Vpn) where
  abbrev next : Message
  next = with_first first x

  abbrev o : Option ThreadId
  o = receiver m to

  abbrev gone : Machine
  gone = change_server at.serial (without_held x.number) m

  abbrev answers : Answers
  answers = both_answers (arrival_answers o next) (answer_to m.cursor plain_words)

  plain : answers m.cursor ≡ Some plain_words
  plain = arrival_plain m ready to next

  module _ (later : Machine) (servers : later.servers ≡ (change_server to (at_server (arriving o next)) gone).servers)
      (count : later.next_number ≡ m.next_number) (processes : later.processes ≡ m.processes) where
    abbrev change : Change
    change = record { machine = later; answers = answers; delivery = None; gone = None }

    kept : (n : ℕ) → keeping number (later.servers n) ≡ keeping number ((change_server to (at_server (arriving o next)) gone).servers n)
    kept n = ap (λ (s : ℕ → Option Server). keeping number (s n)) servers

    named_by : x.number.0 ≡ forward_token w
    named_by = eqb-true x.number.0 (forward_token w) named

    other : is_of_number number x ≡ false → (a : Standing) → Stands number m a → ServedSays number m w change a
    other strange a stands = record {
      mid = a;
      last = a;
      end = a;
      call = Leaves (λ i. eq-eqb (call_number w) forward_message e i && (ap (λ j. j == number.0) (sym named_by) ∙ strange) i) (λ i. is_return_call (e i) && (return_token w == number.0)) a;
      told = Quiet (arrival_quiet number next m.processes (answer_to m.cursor plain_words) (one_quiet number (λ id. false) m.cursor plain_words refl) strange o) a;
      lost = refl;
      stands = same_stands number m h later
          (λ n. kept n ∙ (change_same number to (at_server (arriving o next)) gone (λ s f. arrival_other number next strange o s) n
          ∙ change_same number at.serial (without_held x.number) m
          (λ s f. returned_other number x.number s (λ same. false≢true (sym strange ∙ eq-eqb x.number.0 number.0 (sym same)))) n))
          count a stands;
      settled = inr (ap is_some plain);
      delivery = refl;
      processes = processes;
    }

    this : x.number ≡ number → (a : Standing) → Stands number m a → ServedSays number m w change a
    this same a stands = record {
      mid = Queued;
      last = standing_at (arrived_as number next o);
      end = standing_at (arrived_as number next o);
      call = subst (λ s. CallSays number w (answers m.cursor ≡ Some plain_words) s Queued) (sym (stood_held number m h (is_passable_of (passed_number w)) x at is a stands))
          (Forwards (eq-eqb (call_number w) forward_message e) (eq-eqb (forward_token w) number.0 (sym named_by ∙ ap (λ (k : Number). k.0) same)) plain);
      told = arrival_says number next m.processes (answer_to m.cursor plain_words) (one_quiet number (λ id. false) m.cursor plain_words refl) is o
          (receiver_known m h to);
      lost = refl;
      stands = now_stands number m h later to.0 (arrived_as number next o)
          (kept to.0 ∙ (change_here number to (at_server (arriving o next)) gone server still_there
          ∙ arrival_this number next is o server (sym (ap (keeping number) there) ∙ others_lack number m h at.serial.0 to.0 some apart)))
          (λ n away. kept n ∙ (change_elsewhere number to (at_server (arriving o next)) gone n away ∙ left n (same_or_not n at.serial.0)))
          (let low : number.0 < m.next_number = kept_low number m h at.serial.0 some in omega (arith, count, low));
      settled = inr (ap is_some plain);
      delivery = refl;
      processes = processes;
    }
      where
        is : is_of_number number x ≡ true
        is = eq-eqb x.number.0 number.0 (ap (λ (k : Number). k.0) same)

        some : keeping number (m.servers at.serial.0) ≢ Lacks
        some = is_kept number m h (is_passable_of (passed_number w)) x at is

        still_there : gone.servers to.0 ≡ Some server
        still_there = go (nat_eq to.0 at.serial.0) refl
          where
            go : (b : Bool) → nat_eq to.0 at.serial.0 ≡ b
                → (if b then option_map (without_held x.number) (m.servers at.serial.0) else m.servers to.0) ≡ Some server
            go true q = absurd (apart (eqb-true to.0 at.serial.0 q))
            go false q = there

        left : (n : ℕ) → (n ≡ at.serial.0) ⊎ (n ≢ at.serial.0) → keeping number (gone.servers n) ≡ Lacks
        left n (inl here) =
            ap (λ j. keeping number (gone.servers j)) here
            ∙ (change_here number at.serial (without_held x.number) m at.server at.there
            ∙ (ap (λ j. keeping number (Some (without_held j at.server))) same
            ∙ returned_this number at.server (not_queued number m h (is_passable_of (passed_number w)) x at is)))
        left n (inr away) = change_elsewhere number at.serial (without_held x.number) m n away ∙ others_lack number m h at.serial.0 n some away

    pub forwarded_says : (a : Standing) → Stands number m a → ServedSays number m w change a
    forwarded_says a stands = go (is_of_number number x) refl
      where
        go : (b : Bool) → is_of_number number x ≡ b → ServedSays number m w change a
        go false q = other q a stands
        go true q = let same : x.number.0 ≡ number.0 = eqb-true x.number.0 number.0 q in this (λ i. record { 0 = same i }) a stands

-- ---- the call

pub passes_follows : (number : Number) (m : Machine) → Matched m → ready_at m m.cursor ≡ true → (w : List ℕ) → call_number w ≡ forward_message → (it : IsPassing m w)
    → Follows number m w (done m (passing m it.message it.held.serial it.to.serial (place_at_server it.to.server it.first)))
passes_follows number m h ready w e it =
    forwarded_says number m h ready w e it.message it.held (passable_number (passed_number w) it.message it.held.passes) it.to.serial it.to.server it.to.there
    it.apart it.first _ refl refl refl
