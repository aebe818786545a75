-- What an outcome of a call leaves and tells, once its caller is past it and has its answer.
use Rattle.std.proofs.Common.{◌≡◌, ℕ, ◌<◌, Bool, true, false, inl, inr, List, [], ◌∷◌, ◌++◌, map, zero, suc, None, Some, refl, sym, ap, ◌∙◌, arith}
use Rattle.std.specs.Prelude.{◌≢◌, is_some, unwrap_or, if◌then◌else◌, Option}
use Rattle.std.specs.Option.{option_map}
use Rattle.std.proofs.lemmas.Bool.{cases_lt}
use Rattle.std.proofs.lemmas.List.{append_assoc}
use Rattle.machine_laws.proofs.Threading.ThreadAnswerLemmas.{same_thread-self, IsReadyThread, ready_thread}
use Rattle.machine_laws.proofs.Threading.ThreadPutLemmas.{alike}
use Rattle.machine_model.specs.State.Changes.{Outcome, Refused, Retried, Served, Told, answering, call_settled, only, replies, settled, with_refusal}
use Rattle.machine_model.specs.State.Machine.{Machine, Thread}
use Rattle.machine_model.specs.State.Order.{ready_at, turn}
use Rattle.machine_model.specs.Stepping.Step.{after}
use Rattle.machine_model.specs.State.Threads.{answer_to, change_thread, give_answers, no_answers, passed, with_answer}
use Rattle.sv32_space.specs.Tie.{Held}
use Rattle.xk_base.proofs.CircleLemmas.{id_at-place_of, place_of-bound, place_of-id_at}
use Rattle.xk_base.specs.Tables.Circle.{id_at, is_thread_id, listed_ids, place_of, same_thread, thread_ids}
use Rattle.xk_base.specs.Tables.Counting.{listed_below}
use Rattle.xk_base.specs.Log.{LogState}
use Rattle.syscall_codec.specs.ReplyWords.{refused_words}
use Rattle.xk_base.specs.declared.errors.XousError.{XousError}
use Rattle.xk_base.specs.declared.ids.ThreadId.{ThreadId}
use Rattle.xk_base.specs.declared.records.What.{What}
use Rattle.xk_base.specs.declared.records.What.TheVariants.{Reply, Retry}
use Rattle.xk_kernel.specs.State.{machine_of}
use Rattle.xk_kernel.specs.Telling.{Tells, log_with}
use Rattle.xk_kernel.specs.declared.kernel.Kernel.{Kernel}

-- ---- one answer has one record

none_listed : (n : ℕ) (f : ℕ → Bool) → ((j : ℕ) → j < n → f j ≡ false) → listed_below n f ≡ []
unfolding listed_below
none_listed zero f none = refl
none_listed (suc n) f none = λ i. (none_listed n f (λ j l. none j (omega arith)) i) ++ (if none n (omega arith) i then n ∷ [] else [])

one_listed : (n k : ℕ) (f : ℕ → Bool) → k < n → f k ≡ true → ((j : ℕ) → j < n → j ≢ k → f j ≡ false) → listed_below n f ≡ k ∷ []
unfolding listed_below
one_listed zero k f l here others = absurd (omega arith)
one_listed (suc n) k f l here others =
    elim (cases_lt k n) [
      | inl below ↦
          let last : f n ≡ false = others n (omega arith) (λ e. absurd (omega arith)) in
          λ i. (one_listed n k f below here (λ j b. others j (omega arith)) i) ++ (if last i then n ∷ [] else [])
      | inr above ↦
          let same : n ≡ k = omega arith in
          let last : f n ≡ true = ap f same ∙ here in
          (λ i. (none_listed n f (λ j b. others j (omega arith) (λ e. absurd (omega arith))) i) ++ (if last i then n ∷ [] else []))
          ∙ ap (λ j. j ∷ []) same
    ]

answered_alone : (n : ℕ) (who : ThreadId) (words : List ℕ) → is_thread_id n who ≡ true
    → listed_ids n (λ id. is_some (answer_to who words id)) ≡ who ∷ []
unfolding listed_ids
answered_alone n who words h =
    ap (map id_at) (one_listed (thread_ids n) (place_of who) (λ k. is_some (answer_to who words (id_at k))) (place_of-bound n who h)
    (ap (λ id. is_some (answer_to who words id)) (id_at-place_of n who h) ∙ ap (λ b. is_some (if b then Some words else None)) (same_thread-self who))
    (λ j l other. go j other (same_thread (id_at j) who) refl))
    ∙ ap (λ id. id ∷ []) (id_at-place_of n who h)
  where
    go : (j : ℕ) → j ≢ place_of who → (b : Bool) → same_thread (id_at j) who ≡ b → is_some (if b then Some words else None) ≡ false
    go j other true e = absurd (other (sym (place_of-id_at j) ∙ ap place_of (alike (id_at j) who e)))
    go j other false e = refl

pub one_reply : (n : ℕ) (who : ThreadId) (words : List ℕ) → is_thread_id n who ≡ true → replies n (answer_to who words) ≡ Reply who words ∷ []
one_reply n who words h =
    ap (map (λ id. Reply id (unwrap_or (answer_to who words id) []))) (answered_alone n who words h)
    ∙ ap (λ b. Reply who (unwrap_or (if b then Some words else None) []) ∷ []) (same_thread-self who)

pub no_reply : (n : ℕ) → replies n no_answers ≡ []
unfolding listed_ids
no_reply n = ap (λ ks. map (λ id. Reply id (unwrap_or (no_answers id) [])) (map id_at ks)) (none_listed (thread_ids n) (λ k. false) (λ j l. refl))

-- ---- who isn't answered stays

unanswered : (o : Option Thread) → option_map (with_answer None) o ≡ o
unanswered None = refl
unanswered (Some t) = refl

pub nobody_answered : (m : Machine) → give_answers no_answers m ≡ m
nobody_answered m = λ i. record m { threads = λ id. unanswered (m.threads id) i }

-- ---- what a settled outcome is

-- the caller is past its call and is answered
pub answered_is : (m next : Machine) (words : List ℕ) (o : Outcome) → is_thread_id next.processes m.cursor ≡ true
    → Served (answering (answer_to m.cursor words) next) ≡ o
    → call_settled m o ≡ record { machine = give_answers (answer_to m.cursor words) (change_thread m.cursor passed next); told = Reply m.cursor words ∷ [] }
unfolding call_settled settled
answered_is m next words o h e =
    ap (call_settled m) (sym e)
    ∙ (λ i. record {
      machine = give_answers (answer_to m.cursor words) (change_thread m.cursor passed next);
      told = one_reply next.processes m.cursor words h i ++ ([] ++ []);
    })

-- it is past its call, and waits
pub waits_is : (m next : Machine) (o : Outcome) → Served (only next) ≡ o
    → call_settled m o ≡ record { machine = change_thread m.cursor passed next; told = [] }
unfolding call_settled settled
waits_is m next o e =
    ap (call_settled m) (sym e)
    ∙ (λ i. record { machine = nobody_answered (change_thread m.cursor passed next) i; told = no_reply next.processes i ++ ([] ++ []) })

-- the call will be made again: the turn ends
pub retried_is : (m : Machine) (o : Outcome) → Retried ≡ o → call_settled m o ≡ record { machine = turn m; told = Retry m.cursor ∷ [] }
unfolding call_settled
retried_is m o e = ap (call_settled m) (sym e)

-- a Ready caller is past its call, and is answered the error
pub refused_is : (m : Machine) (error : XousError) (o : Outcome) → ready_at m m.cursor ≡ true → Refused error ≡ o
    → call_settled m o
    ≡ record { machine = give_answers (answer_to m.cursor (refused_words error)) (change_thread m.cursor passed m); told = Reply m.cursor (refused_words error) ∷ [] }
unfolding call_settled
refused_is m error o ready e =
    ap (call_settled m) (sym e)
    ∙ (λ i. record {
      machine = record m { threads = λ id. sym (at id (same_thread id m.cursor)) i };
      told = Reply m.cursor (refused_words error) ∷ [];
    })
  where
    r : IsReadyThread m m.cursor
    r = ready_thread m m.cursor ready

    caller : option_map (with_answer (Some (refused_words error))) (option_map passed (m.threads m.cursor)) ≡ option_map (with_refusal error) (m.threads m.cursor)
    caller =
        ap (λ o. option_map (with_answer (Some (refused_words error))) (option_map passed o)) r.there
        ∙ (λ i. Some (record (with_refusal error r.thread) { state = sym r.ready i }))
        ∙ sym (ap (option_map (with_refusal error)) r.there)

    at : (id : ThreadId) (b : Bool)
        → option_map (with_answer (if b then Some (refused_words error) else None)) (if b then option_map passed (m.threads m.cursor) else m.threads id)
        ≡ (if b then option_map (with_refusal error) (m.threads m.cursor) else m.threads id)
    at id true = caller
    at id false = unanswered (m.threads id)

-- ---- who is answered is there

-- a thread that is past its call is there, as before
pub there_past : (m next : Machine) (who : ThreadId) → next ≡ change_thread who passed m → is_some (m.threads who) ≡ true → is_some (next.threads who) ≡ true
there_past m next who e there =
    ap (λ (n : Machine). is_some (n.threads who)) e
    ∙ ap (λ b. is_some (if b then option_map passed (m.threads who) else m.threads who)) (same_thread-self who)
    ∙ mapped (m.threads who) there
  where
    mapped : (o : Option Thread) → is_some o ≡ true → is_some (option_map passed o) ≡ true
    mapped None h = h
    mapped (Some t) h = refl

pub ready_there : (m : Machine) (who : ThreadId) → ready_at m who ≡ true → is_some (m.threads who) ≡ true
ready_there m who ready = ap is_some (ready_thread m who ready).there

-- ---- the log tells it all

module _ {W : Type 0} (held : W → Held) (old new : Kernel W) where
  -- the log tells this, and the machine is that one
  pub tells_so : (done : Told) (machine : Machine) (told : List What) → done ≡ record { machine = machine; told = told } → machine_of held new ≡ machine
      → new.log ≡ log_with told old.log → Tells held old new done
  tells_so done machine told is same log = record {
    machine = same ∙ sym (ap (λ (d : Told). d.machine) is);
    log = log ∙ sym (ap (λ (d : Told). log_with d.told old.log) is);
  }

  -- .. after a first record
  pub tells_first : (first : What) (mid : Kernel W) (done : Told) → mid.log ≡ log_with (first ∷ []) old.log → Tells held mid new done → Tells held old new (after first done)
  tells_first first mid done log tells = record {
    machine = tells.machine;
    log = tells.log ∙ ap (log_with done.told) log ∙ ap (λ records. record old.log { records = records }) (append_assoc old.log.records _ _);
  }

  -- .. and the room of the log stays
  pub tells_room : (done : Told) → Tells held old new done → new.log.room ≡ old.log.room
  tells_room done tells = ap (λ (log : LogState). log.room) tells.log
