-- A return takes a held message away.
use Rattle.std.proofs.Common.{◌≡◌, ◌≢◌, ℕ, zero, suc, ◌+◌, ◌<◌, ◌≤◌, inr, Bool, true, false, List, Option, Some, None, refl, sym, ap, ◌∙◌, subst, arith}
use Rattle.std.specs.Prelude.{◌==◌, ◌&&◌, if◌then◌else◌, is_some}
use Rattle.std.specs.List.{list_any}
use Rattle.std.specs.Option.{option_or}
use Rattle.std.proofs.lemmas.Bool.{eq-eqb, eqb-true, false≢true}
use Rattle.xk_base.specs.declared.ids.Number.{Number}
use Rattle.xk_base.specs.declared.ids.ThreadId.{ThreadId}
use Rattle.xk_base.specs.declared.messages.Message.{Message}
use Rattle.syscall_codec.specs.CallNumbers.{forward_message, return_memory, return_scalar1}
use Rattle.syscall_codec.specs.CallWords.{call_number, forward_token, return_offset, return_token}
use Rattle.syscall_codec.specs.CallWords.{return_valid, return_value1, return_value2}
use Rattle.syscall_codec.specs.ReplyWords.{plain_words, returned_words, scalar1_words, scalar2_words}
use Rattle.machine_model.specs.Messaging.MessageCounts.{count_in}
use Rattle.machine_model.specs.Messaging.Messages.{is_of_number, without_held}
use Rattle.machine_model.specs.Messaging.ReturnCalls.{named_number, sender_gets}
use Rattle.machine_model.specs.Runs.Matched.{Matched}
use Rattle.machine_model.specs.State.Machine.{Machine, Server}
use Rattle.machine_model.specs.State.Servers.{change_server, messages_of}
use Rattle.machine_model.specs.State.Threads.{Answers, answer_to, both_answers}
use Rattle.machine_model.proofs.Matching.CountLemmas.{count_in-append}
use Rattle.machine_laws.proofs.Messaging.ListedLemmas.{at_listed, not_counted}
use Rattle.machine_laws.proofs.Returning.GivenBackLemmas.{found_at}
use Rattle.call_effects.proofs.ServedLemmas.{done}
use Rattle.call_effects.specs.Held.{IsHeld}
use Rattle.transcript_laws.specs.Following.{Held, Holds, Lacks, Over, Standing, Stands, is_message_of, is_return_call, keeping, keeping_by}
use Rattle.transcript_laws.proofs.Following.KeepLemmas.{change_elsewhere, change_here, change_same, returned_other, returned_this}
use Rattle.transcript_laws.proofs.Following.ReceiveLemmas.{at_most_one}
use Rattle.transcript_laws.proofs.Following.ServedLemmas.{Follows, Quiet, ServedSays, answer_itself, both_quiet, none_quiet, one_quiet}
use Rattle.transcript_laws.proofs.Following.StandLemmas.{holds_not_lacks, kept_low, now_stands, one_standing, others_lack, same_stands}
use Rattle.transcript_laws.proofs.Following.TellLemmas.{CallSays, IsQuiet, Leaves, Returns}
use Rattle.transcript_laws.proofs.CallKindUseLemmas.{loan_leaves, returnable_number}
use Rattle.transcript_laws.specs.CallKinds.{IsReturning, is_returnable, returning, words_back}

-- ---- a held message

module _ (number : Number) (m : Machine) (h : Matched m) (test : Message → Bool) (x : Message) (at : IsHeld m test x) (named : is_of_number number x ≡ true) where
  abbrev server : Server
  server = at.server

  pub held_listed : list_any (is_of_number number) server.held ≡ true
  held_listed =
      let place = found_at test server.held x at.found in
      at_listed (is_of_number number) server.held place.0 place.1 place.2 (ap (is_of_number number) place.3 ∙ named)

  -- it isn't queued there too
  pub not_queued : list_any (is_of_number number) server.queued ≡ false
  not_queued =
      let most : count_in (is_of_number number) (messages_of server) ≤ 1 = at_most_one number m h at.serial.0 server at.there in
      let sum : count_in (is_of_number number) (messages_of server) ≡ count_in (is_of_number number) server.queued + count_in (is_of_number number) server.held =
      count_in-append (is_of_number number) server.queued server.held in
      let some : 1 ≤ count_in (is_of_number number) server.held = counted in
      not_counted (is_of_number number) server.queued (omega arith)
    where
      counted : 1 ≤ count_in (is_of_number number) server.held
      counted = go (count_in (is_of_number number) server.held) refl
        where
          go : (c : ℕ) → count_in (is_of_number number) server.held ≡ c → 1 ≤ c
          go zero z = absurd (false≢true (sym (not_counted (is_of_number number) server.held z) ∙ held_listed))
          go (suc c) z = omega arith

  pub was_held : keeping number (m.servers at.serial.0) ≡ Holds
  was_held = ap (keeping number) at.there ∙ (λ i. keeping_by (not_queued i) (held_listed i))

  pub is_kept : keeping number (m.servers at.serial.0) ≢ Lacks
  is_kept lacks = holds_not_lacks (sym was_held ∙ lacks)

  pub stood_held : (a : Standing) → Stands number m a → a ≡ Held
  stood_held a stands = one_standing number m h a Held stands (at.serial.0, was_held)

-- ---- a return

module _ (number : Number) (m : Machine) (h : Matched m) (w : List ℕ) (returns : is_return_call (call_number w) ≡ true)
    (it : IsReturning m (call_number w) w) where
  abbrev words : List ℕ
  words = words_back (call_number w) w

  silent : is_message_of number words ≡ false
  silent = go (call_number w == return_memory) (call_number w == return_scalar1)
    where
      go : (a b : Bool)
          → is_message_of number (if a then returned_words (return_offset w) (return_valid w) else (
          if b then scalar1_words (return_value1 w) else scalar2_words (return_value1 w) (return_value2 w))) ≡ false
      go true b = refl
      go false true = refl
      go false false = refl

  apart : (call_number w == forward_message) ≡ false
  apart = go (call_number w == forward_message) refl
    where
      go : (b : Bool) → (call_number w == forward_message) ≡ b → b ≡ false
      go false e = refl
      go true e = absurd (false≢true (sym (ap is_return_call (eqb-true (call_number w) forward_message e)) ∙ returns))

  abbrev answers : Option ThreadId → Answers
  answers sender = both_answers (answer_to m.cursor plain_words) (sender_gets words sender)

  quiet_sender : (o : Option ThreadId) → IsQuiet (sender_gets words o) number (λ id. false)
  quiet_sender None = none_quiet number (λ id. false)
  quiet_sender (Some who) = one_quiet number (λ id. false) who words silent

  quiet : (o : Option ThreadId) → IsQuiet (answers o) number (λ id. false)
  quiet o =
      both_quiet number (λ id. false) (answer_to m.cursor plain_words) (sender_gets words o)
      (one_quiet number (λ id. false) m.cursor plain_words refl) (quiet_sender o)

  plain : (o : Option ThreadId) → answers o m.cursor ≡ Some plain_words
  plain o = ap (λ x. option_or x (sender_gets words o m.cursor)) (answer_itself m.cursor plain_words)

  module _ (o : Option ThreadId) (next : Machine) (now : next.servers ≡ (change_server it.held.serial (without_held (named_number w)) m).servers)
      (count : next.next_number ≡ m.next_number) (processes : next.processes ≡ m.processes) where
    abbrev test : Message → Bool
    test = is_returnable (call_number w) w

    abbrev x : Message
    x = it.message

    abbrev at : IsHeld m (is_returnable (call_number w) w) it.message
    at = it.held

    abbrev k : Number
    k = named_number w

    is_x : is_of_number k x ≡ true
    is_x = returnable_number (call_number w) w x at.passes

    kept : (n : ℕ) → keeping number (next.servers n) ≡ keeping number ((change_server at.serial (without_held k) m).servers n)
    kept n = ap (λ (s : ℕ → Option Server). keeping number (s n)) now

    pub returned_says : (a : Standing) → Stands number m a → ServedSays number m w (record { machine = next; answers = answers o; delivery = None; gone = None }) a
    returned_says a stands = go (k.0 == number.0) refl
      where
        other : (k.0 == number.0) ≡ false → ServedSays number m w (record { machine = next; answers = answers o; delivery = None; gone = None }) a
        other e = record {
          mid = a;
          last = a;
          end = a;
          call = Leaves (λ i. apart i && (forward_token w == number.0)) (λ i. returns i && e i) a;
          told = Quiet (quiet o) a;
          lost = refl;
          stands = same_stands number m h next
              (λ n. kept n ∙ change_same number at.serial (without_held k) m
              (λ s f. returned_other number k s (λ same. false≢true (sym e ∙ eq-eqb k.0 number.0 (sym same)))) n)
              count a stands;
          settled = inr (ap is_some (plain o));
          delivery = refl;
          processes = processes;
        }

        this : k ≡ number → ServedSays number m w (record { machine = next; answers = answers o; delivery = None; gone = None }) a
        this same = record {
          mid = Over;
          last = Over;
          end = Over;
          call = subst (λ s. CallSays number w (answers o m.cursor ≡ Some plain_words) s Over) (sym (stood_held number m h test x at named a stands))
              (Returns returns (eq-eqb (return_token w) number.0 (ap (λ (j : Number). j.0) same)) (plain o));
          told = Quiet (quiet o) Over;
          lost = refl;
          stands = now_stands number m h next at.serial.0 Lacks
              (kept at.serial.0 ∙ (change_here number at.serial (without_held k) m at.server at.there
              ∙ (ap (λ j. keeping number (Some (without_held j at.server))) same
              ∙ returned_this number at.server (not_queued number m h test x at named))))
              (λ n apart. kept n ∙ (change_elsewhere number at.serial (without_held k) m n apart
              ∙ others_lack number m h at.serial.0 n (is_kept number m h test x at named) apart))
              (let low : number.0 < m.next_number = kept_low number m h at.serial.0 (is_kept number m h test x at named) in omega (arith, count, low));
          settled = inr (ap is_some (plain o));
          delivery = refl;
          processes = processes;
        }
          where
            named : is_of_number number x ≡ true
            named = subst (λ j. is_of_number j x ≡ true) same is_x

        go : (b : Bool) → (k.0 == number.0) ≡ b → ServedSays number m w (record { machine = next; answers = answers o; delivery = None; gone = None }) a
        go false e = other e
        go true e = let q : k.0 ≡ number.0 = eqb-true k.0 number.0 e in this (λ i. record { 0 = q i })

-- ---- the call

pub returns_follows : (number : Number) (m : Machine) → Matched m → (w : List ℕ) → is_return_call (call_number w) ≡ true → (it : IsReturning m (call_number w) w)
    → Follows number m w (done m (returning m (call_number w) w it))
returns_follows number m h w is it =
    let leaves = loan_leaves (call_number w) w (change_server it.held.serial (without_held (named_number w)) m) in
    returned_says number m h w is it it.message.sender _ leaves.servers leaves.next_number leaves.processes
