-- What a served call says of a message; and the calls that leave it.
use Rattle.std.proofs.Common.{◌≡◌, ℕ, ◌⊎◌, inl, Bool, true, false, List, Option, Some, None, refl, sym, ap, ◌∙◌, subst}
use Rattle.std.specs.Prelude.{◌==◌, ◌&&◌, ◌||◌, if◌then◌else◌, is_some}
use Rattle.std.specs.Option.{option_or}
use Rattle.std.proofs.lemmas.Bool.{or_parts}
use Rattle.std.proofs.lemmas.Option.{none-some, same_Some}
use Rattle.xk_base.specs.declared.ids.Number.{Number}
use Rattle.xk_base.specs.declared.ids.ThreadId.{ThreadId}
use Rattle.syscall_codec.specs.CallNumbers.{destroy_server, forward_message}
use Rattle.syscall_codec.specs.CallWords.{call_number, forward_token, return_token}
use Rattle.syscall_codec.specs.ReplyWords.{plain_words}
use Rattle.xk_base.specs.Tables.Circle.{is_thread_id, same_thread}
use Rattle.machine_model.specs.Ending.Closing.{refused_server}
use Rattle.machine_model.specs.State.Changes.{Change}
use Rattle.machine_model.specs.State.Machine.{Machine}
use Rattle.machine_model.specs.State.Threads.{Answers, answer_to, both_answers, no_answers}
use Rattle.machine_model.specs.Runs.Matched.{Matched}
use Rattle.machine_laws.proofs.Threading.ThreadAnswerLemmas.{same_thread-self}
use Rattle.transcript_laws.specs.Following.{Queued, Standing, Stands, is_message_of, is_return_call, keeping, left_by}
use Rattle.transcript_laws.proofs.Following.SayLemmas.{asks}
use Rattle.transcript_laws.proofs.Following.StandLemmas.{same_stands}
use Rattle.transcript_laws.proofs.Following.TellLemmas.{CallSays, GoneSays, IsQuiet, Leaves}

-- ---- what answers say

-- none of them is the message, or one is, to a thread of this id
pub data AnswersSay (number : Number) (processes : ℕ) (answers : Answers) : Standing → Standing → Type 0 where
  Quiet : IsQuiet answers number (λ id. false) → (a : Standing) → AnswersSay number processes answers a a
  One : (who : ThreadId) (words : List ℕ) → answers who ≡ Some words → is_message_of number words ≡ true
      → IsQuiet answers number (λ id. same_thread id who) → is_thread_id processes who ≡ true
      → AnswersSay number processes answers Queued (left_by words)

module _ (number : Number) (but : ThreadId → Bool) where
  pub none_quiet : IsQuiet no_answers number but
  none_quiet id words other e = absurd (none-some words e)

  pub one_quiet : (who : ThreadId) (words : List ℕ) → is_message_of number words ≡ false → IsQuiet (answer_to who words) number but
  one_quiet who words is id others other e = go (same_thread id who) e
    where
      go : (b : Bool) → (if b then Some words else None) ≡ Some others → is_message_of number others ≡ false
      go true q = subst (λ x. is_message_of number x ≡ false) (same_Some words others q) is
      go false q = absurd (none-some others q)

  pub both_quiet : (f g : Answers) → IsQuiet f number but → IsQuiet g number but → IsQuiet (both_answers f g) number but
  both_quiet f g p q id words other e = go (f id) refl e
    where
      go : (o : Option (List ℕ)) → f id ≡ o → option_or o (g id) ≡ Some words → is_message_of number words ≡ false
      go None r s = q id words other s
      go (Some some) r s = p id words other (r ∙ s)

  pub refused_quiet : (test : ThreadId → Bool) → IsQuiet (refused_server test) number but
  refused_quiet test id words other e = go (test id) e
    where
      go : (b : Bool) → (if b then refused_server (λ x. true) id else None) ≡ Some words → is_message_of number words ≡ false
      go true q = subst (λ x. is_message_of number x ≡ false) (same_Some _ words q) refl
      go false q = absurd (none-some words q)

-- an answer to a thread alone is to that thread
pub to_itself : (number : Number) (who : ThreadId) (words : List ℕ) → IsQuiet (answer_to who words) number (λ id. same_thread id who)
to_itself number who words id others other e =
    absurd (none-some others (sym (ap (λ b. if b then Some words else None) other) ∙ e))

pub answer_itself : (who : ThreadId) (words : List ℕ) → answer_to who words who ≡ Some words
answer_itself who words = ap (λ b. if b then Some words else None) (same_thread-self who)

-- ---- a served call

module _ (number : Number) (m : Machine) (w : List ℕ) where
  -- it leads the message from how it stood before
  pub record ServedSays (change : Change) (a : Standing) : Type 0 where
    pub mid : Standing
    pub last : Standing
    pub end : Standing
    pub call : CallSays number w (change.answers m.cursor ≡ Some plain_words) a mid
    pub told : AnswersSay number m.processes change.answers mid last
    pub lost : GoneSays change.gone last end
    pub stands : Stands number change.machine end
    pub settled : (asks (call_number w) ≡ false) ⊎ (is_some (change.answers m.cursor) ≡ true)
    pub delivery : change.delivery ≡ None
    pub processes : change.machine.processes ≡ m.processes

  abbrev pub Follows : Change → Type 0
  Follows change = (a : Standing) → Stands number m a → ServedSays change a

  -- a call that asks nothing of messages says nothing of this one
  pub leaves_it : (k : ℕ) → call_number w ≡ k → asks k ≡ false → (plain : Type 0) (a : Standing) → CallSays number w plain a a
  leaves_it k e none plain a =
      let parts = or_parts (k == forward_message) (is_return_call k || (k == destroy_server)) none in
      let others = or_parts (is_return_call k) (k == destroy_server) parts.1 in
      Leaves (λ i. (ap (λ j. j == forward_message) e ∙ parts.0) i && (forward_token w == number.0))
      (λ i. (ap is_return_call e ∙ others.0) i && (return_token w == number.0)) a

  -- it is so of a call that leaves servers and the next number
  pub simple : Matched m → (k : ℕ) → call_number w ≡ k → asks k ≡ false → (change : Change)
      → ((n : ℕ) → keeping number (change.machine.servers n) ≡ keeping number (m.servers n)) → change.machine.next_number ≡ m.next_number
      → IsQuiet change.answers number (λ id. false) → change.gone ≡ None → change.delivery ≡ None → change.machine.processes ≡ m.processes → Follows change
  simple h k e none change same count quiet gone delivery processes a stands = record {
    mid = a;
    last = a;
    end = a;
    call = leaves_it k e none (change.answers m.cursor ≡ Some plain_words) a;
    told = Quiet quiet a;
    lost = subst (λ o. GoneSays o a a) (sym gone) refl;
    stands = same_stands number m h change.machine same count a stands;
    settled = inl (ap asks e ∙ none);
    delivery = delivery;
    processes = processes;
  }
