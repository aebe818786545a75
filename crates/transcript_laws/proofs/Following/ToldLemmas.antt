-- What a change, a refusal and the timer tell of a message.
use Rattle.std.proofs.Common.{◌≡◌, ℕ, inl, inr, Bool, true, false, List, [], ◌∷◌, ◌++◌, Option, Some, None, refl, ap, ◌∙◌, arith}
use Rattle.std.specs.Prelude.{◌==◌, ◌&&◌, if◌then◌else◌, is_some}
use Rattle.std.specs.Option.{option_map_or, option_or}
use Rattle.xk_base.specs.declared.ids.Number.{Number}
use Rattle.xk_base.specs.declared.ids.ThreadId.{ThreadId}
use Rattle.xk_base.specs.declared.records.What.{What}
use Rattle.xk_base.specs.declared.records.What.TheVariants.{Call, Reply, Retry, Byte, Fault, End, Irq, Gone}
use Rattle.syscall_codec.specs.CallNumbers.{destroy_server, forward_message}
use Rattle.syscall_codec.specs.CallWords.{call_number, forward_token, return_token}
use Rattle.xk_base.specs.Tables.Circle.{listed_ids}
use Rattle.machine_model.specs.State.Changes.{Change, Delivery, Told, death_told, delivery_told, replies, settled}
use Rattle.machine_model.specs.State.Machine.{Machine, Server}
use Rattle.machine_model.specs.Stepping.Timer.{is_due, stands_after_irq, timed, timed_if, timer_change, with_irq, with_irq_if}
use Rattle.machine_model.proofs.Runs.TimerLemmas.{timed_raised}
use Rattle.transcript_laws.proofs.Ordering.ChangeLemmas.{places_ascend}
use Rattle.transcript_laws.specs.Following.{Held, Over, Queued, Leads, LeadInTurn, Standing, Stands, Stays, Unsent, answer_in, is_plain}
use Rattle.transcript_laws.specs.Following.{is_return_call, is_served_by, keeping, next_answer}
use Rattle.transcript_laws.proofs.Following.SayLemmas.{AreSettled, IsAlike, IsSettled, next_append, say_append, say_first, say_none}
use Rattle.transcript_laws.proofs.Following.SayLemmas.{says_alike}
use Rattle.transcript_laws.proofs.Following.ServedLemmas.{AnswersSay, One, Quiet}
use Rattle.transcript_laws.proofs.Following.TellLemmas.{GoneSays, deaths_settled, delivery_say, gone_say, quiet_say, replies_settled}
use Rattle.transcript_laws.proofs.Following.TellLemmas.{settled_append}

-- the same servers and the same next number
pub like_stands : (number : Number) (m next : Machine) → next.servers ≡ m.servers → next.next_number ≡ m.next_number → (a : Standing)
    → Stands number m a → Stands number next a
like_stands number m next servers count Unsent p = omega (arith, count, p)
like_stands number m next servers count Queued p = (p.0, ap (λ (s : ℕ → Option Server). keeping number (s p.0)) servers ∙ p.1)
like_stands number m next servers count Held p = (p.0, ap (λ (s : ℕ → Option Server). keeping number (s p.0)) servers ∙ p.1)
like_stands number m next servers count Over p =
    (omega (arith, count, p.0), λ n. ap (λ (s : ℕ → Option Server). keeping number (s n)) servers ∙ p.1 n)

-- ---- what is told

-- from this standing, what is told leads to how the message stands then
pub record MessageTold (number : Number) (a : Standing) (done : Told) : Type 0 where
  pub end : Standing
  pub stands : Stands number done.machine end
  pub says : LeadInTurn number done.told a end
  pub settled : AreSettled done.told

abbrev pub Tells : Number → Machine → Told → Type 0
Tells number m done = (a : Standing) → Stands number m a → MessageTold number a done

-- a record that moves no message, before what is told
pub quiet_first : (number : Number) (a : Standing) (what : What) (done : Told) → ((later : List What) → Leads number what later a a)
    → ((later : List What) → IsSettled what later) → MessageTold number a done → MessageTold number a (record done { told = what ∷ done.told })
quiet_first number a what done says settled t = record {
  end = t.end;
  stands = t.stands;
  says = say_first number what done.told a a t.end (says done.told) t.says;
  settled = unfold AreSettled in (settled done.told, t.settled);
}

pub nothing_told : (number : Number) (m : Machine) (a : Standing) → Stands number m a → MessageTold number a (record { machine = m; told = [] })
nothing_told number m a stands = record { end = a; stands = stands; says = say_none number a; settled = unfold AreSettled in tt }

-- ---- a change

settled_more : (what : What) (later more : List What) → IsSettled what later → IsSettled what (later ++ more)
settled_more (Call who words) later more (inl none) = inl none
settled_more (Call who words) later more (inr some) = inr (ap is_some (next_append who later more some) ∙ some)
settled_more (Reply who words) later more s = tt
settled_more (Retry who) later more s = tt
settled_more (Byte who byte) later more s = tt
settled_more (Fault who cause value) later more s = tt
settled_more (End who) later more s = tt
settled_more (Irq pid k) later more s = tt
settled_more (Gone pid) later more s = tt

-- of the delivery of an interrupt
delivery_quiet : (number : Number) (o : Option Delivery) (a : Standing) → LeadInTurn number (delivery_told o) a a
delivery_quiet number None a = say_none number a
delivery_quiet number (Some d) a = say_first number (Irq d.pid d.number) [] a a a (Stays (Irq d.pid d.number) [] a refl) (say_none number a)

deliveries_settled : (o : Option Delivery) → AreSettled (delivery_told o)
unfolding AreSettled
deliveries_settled None = tt
deliveries_settled (Some d) = (tt, tt)

module _ (number : Number) (change : Change) where
  -- what follows the replies
  abbrev pub later : List What
  later = delivery_told change.delivery ++ death_told change.gone

  later_settled : AreSettled later
  later_settled =
      settled_append (delivery_told change.delivery) (death_told change.gone) (deliveries_settled change.delivery) (deaths_settled change.gone) settled_more

  pub change_settled : AreSettled (settled change).told
  unfolding settled
  change_settled =
      settled_append (replies change.machine.processes change.answers) later
      (replies_settled change.answers (listed_ids change.machine.processes (λ id. is_some (change.answers id)))) later_settled settled_more

  answers_say : (a b : Standing) → AnswersSay number change.machine.processes change.answers a b
      → LeadInTurn number (replies change.machine.processes change.answers) a b
  answers_say _ _ (Quiet quiet a) = quiet_say change.answers number change.machine.processes quiet a
  answers_say _ _ (One who words e is quiet known) =
      delivery_say change.answers number who words e is quiet change.machine.processes (places_ascend change.machine.processes change.answers) known

  pub change_says : (a b c : Standing) → AnswersSay number change.machine.processes change.answers a b → GoneSays change.gone b c
      → LeadInTurn number (settled change).told a c
  unfolding settled
  change_says a b c answers gone =
      say_append number (replies change.machine.processes change.answers) later a b c
      (replies_settled change.answers (listed_ids change.machine.processes (λ id. is_some (change.answers id))))
      (answers_say a b answers)
      (say_append number (delivery_told change.delivery) (death_told change.gone) b b c (deliveries_settled change.delivery)
      (delivery_quiet number change.delivery b) (gone_say number change.gone b c gone))

  pub change_tells : (a b c : Standing) → AnswersSay number change.machine.processes change.answers a b → GoneSays change.gone b c
      → Stands number change.machine c → MessageTold number a (settled change)
  change_tells a b c answers gone stands = record {
    end = c;
    stands = like_stands number change.machine (settled change).machine (unfold settled in refl) (unfold settled in refl) c stands;
    says = change_says a b c answers gone;
    settled = change_settled;
  }

-- ---- the timer

module _ (number : Number) (d : Delivery) where
  same_answer : (who : ThreadId) (told : List What) → next_answer who (with_irq d told) ≡ next_answer who told
  unfolding next_answer
  same_answer who [] = refl
  same_answer who (what ∷ told) = go (same_answer who told) (stands_after_irq d.pid what)
    where
      go : next_answer who (with_irq d told) ≡ next_answer who told → (b : Bool)
          → next_answer who (if b then Irq d.pid d.number ∷ what ∷ told else what ∷ with_irq d told) ≡ option_or (answer_in who what) (next_answer who told)
      go rest true = refl
      go rest false = ap (option_or (answer_in who what)) rest

  alike_irq : (what : What) (told : List What) → IsAlike number what told (with_irq d told)
  alike_irq (Call who words) told =
      let same : is_served_by who (with_irq d told) ≡ is_served_by who told = ap (λ o. option_map_or is_plain o false) (same_answer who told) in
      record {
        forward = ap (λ b. (call_number words == forward_message) && ((forward_token words == number.0) && b)) same;
        returned = ap (λ b. is_return_call (call_number words) && ((return_token words == number.0) && b)) same;
        end = ap (λ b. (call_number words == destroy_server) && b) same;
      }
  alike_irq (Reply who words) told = record { forward = refl; returned = refl; end = refl }
  alike_irq (Retry who) told = record { forward = refl; returned = refl; end = refl }
  alike_irq (Byte who byte) told = record { forward = refl; returned = refl; end = refl }
  alike_irq (Fault who cause value) told = record { forward = refl; returned = refl; end = refl }
  alike_irq (End who) told = record { forward = refl; returned = refl; end = refl }
  alike_irq (Irq pid k) told = record { forward = refl; returned = refl; end = refl }
  alike_irq (Gone pid) told = record { forward = refl; returned = refl; end = refl }

  settled_irq : (what : What) (told : List What) → IsSettled what told → IsSettled what (with_irq d told)
  settled_irq (Call who words) told (inl none) = inl none
  settled_irq (Call who words) told (inr some) = inr (ap is_some (same_answer who told) ∙ some)
  settled_irq (Reply who words) told s = tt
  settled_irq (Retry who) told s = tt
  settled_irq (Byte who byte) told s = tt
  settled_irq (Fault who cause value) told s = tt
  settled_irq (End who) told s = tt
  settled_irq (Irq pid k) told s = tt
  settled_irq (Gone pid) told s = tt

  irq_says : (told : List What) (a b : Standing) → LeadInTurn number told a b → LeadInTurn number (with_irq d told) a b
  unfolding LeadInTurn
  irq_says [] a b says = (a, Stays (Irq d.pid d.number) [] a refl, says)
  irq_says (what ∷ told) a b says = go (irq_says told says.0 b says.2) (stands_after_irq d.pid what)
    where
      go : LeadInTurn number (with_irq d told) says.0 b → (c : Bool)
          → LeadInTurn number (if c then Irq d.pid d.number ∷ what ∷ told else what ∷ with_irq d told) a b
      go rest true = (a, Stays (Irq d.pid d.number) (what ∷ told) a refl, says)
      go rest false = (says.0, says_alike number what told (with_irq d told) a says.0 (alike_irq what told) says.1, rest)

  irq_settled : (told : List What) → AreSettled told → AreSettled (with_irq d told)
  unfolding AreSettled
  irq_settled [] s = (tt, tt)
  irq_settled (what ∷ told) s = go (irq_settled told s.1) (stands_after_irq d.pid what)
    where
      go : AreSettled (with_irq d told) → (c : Bool) → AreSettled (if c then Irq d.pid d.number ∷ what ∷ told else what ∷ with_irq d told)
      go rest true = (tt, s)
      go rest false = (settled_irq what told s.0, rest)

pub timed_told : (number : Number) (a : Standing) (done : Told) → MessageTold number a done → MessageTold number a (timed done)
timed_told number a done t = record {
  end = t.end;
  stands = like_stands number done.machine (timed done).machine (ap (λ (m : Machine). m.servers) (timed_raised done).is)
      (ap (λ (m : Machine). m.next_number) (timed_raised done).is) t.end t.stands;
  says = says (is_due done.machine.compare done.machine.steps);
  settled = ends (is_due done.machine.compare done.machine.steps);
}
  where
    irq_if : (o : Option Delivery) → LeadInTurn number (with_irq_if o done.told) a t.end
    irq_if None = t.says
    irq_if (Some d) = irq_says number d done.told a t.end t.says

    settled_if : (o : Option Delivery) → AreSettled (with_irq_if o done.told)
    settled_if None = t.settled
    settled_if (Some d) = irq_settled number d done.told t.settled

    says : (b : Bool) → LeadInTurn number (timed_if b done).told a t.end
    says false = t.says
    says true = irq_if (timer_change done.machine).delivery

    ends : (b : Bool) → AreSettled (timed_if b done).told
    ends false = t.settled
    ends true = settled_if (timer_change done.machine).delivery
