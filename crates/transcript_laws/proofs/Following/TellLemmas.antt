-- What a call, the answers that it gives, and a death tell of a message.
use Rattle.std.proofs.Common.{◌≡◌, ℕ, zero, suc, ◌<◌, Bool, true, false, List, [], ◌∷◌, ◌++◌, get_or, length, map, Option, Some, None, refl, sym, ap, ◌∙◌, subst, arith}
use Rattle.std.specs.Prelude.{◌==◌, ◌&&◌, ◌||◌, if◌then◌else◌, is_some, slice_index_or, unwrap_or}
use Rattle.std.specs.List.{All, AllPairs}
use Rattle.std.specs.Option.{option_map_or, option_or}
use Rattle.std.proofs.lemmas.Bool.{and_from, eq-eqb, eqb-true, false≢true}
use Rattle.xk_base.specs.declared.ids.Number.{Number}
use Rattle.xk_base.specs.declared.ids.Pid.{Pid}
use Rattle.xk_base.specs.declared.ids.ThreadId.{ThreadId}
use Rattle.xk_base.specs.declared.records.What.{What}
use Rattle.xk_base.specs.declared.records.What.TheVariants.{Call, Reply, Gone}
use Rattle.syscall_codec.specs.CallNumbers.{destroy_server, forward_message}
use Rattle.syscall_codec.specs.CallWords.{call_number, forward_token, return_token}
use Rattle.syscall_codec.specs.ReplyWords.{plain_words}
use Rattle.xk_base.specs.Tables.Circle.{is_thread_id, listed_ids, place_of, same_thread}
use Rattle.xk_base.proofs.CircleLemmas.{listed_ids-contains, listed_ids-passes}
use Rattle.machine_model.specs.Runs.LoanSpan.{is_send}
use Rattle.machine_model.specs.State.Changes.{death_told, replies}
use Rattle.machine_model.specs.State.Threads.{Answers}
use Rattle.machine_laws.proofs.Threading.ThreadAnswerLemmas.{same_thread-self}
use Rattle.machine_laws.proofs.Threading.ThreadPutLemmas.{alike}
use Rattle.transcript_laws.specs.Following.{Accepted, Delivered, Forwarded, Held, LostHeld, LostQueued, Over, Queued, Returned, Leads}
use Rattle.transcript_laws.specs.Following.{LeadInTurn, Standing, Stays, Unsent, is_end_in, is_forward_of, is_message_of, is_plain}
use Rattle.transcript_laws.specs.Following.{is_return_call, is_return_of, is_served_by, left_by, next_answer}
use Rattle.transcript_laws.proofs.Following.SayLemmas.{AreSettled, IsSettled, next_append, say_first, say_none}
use Rattle.transcript_laws.proofs.Following.StandLemmas.{Kept, LosesHeld, LosesQueued, MayLose}

-- ---- the next answer among replies

module _ (answers : Answers) where
  abbrev reply : ThreadId → What
  reply id = Reply id (unwrap_or (answers id) [])

  answer_among : (who : ThreadId) (words : List ℕ) → answers who ≡ Some words → (ids : List ThreadId) (k : ℕ) → k < length ids → get_or ids k who ≡ who
      → next_answer who (map reply ids) ≡ Some words
  unfolding next_answer
  answer_among who words e [] k low here = absurd (omega arith)
  answer_among who words e (id ∷ ids) zero low here =
      ap (λ b. option_or (if b then Some (unwrap_or (answers id) []) else None) (next_answer who (map reply ids)))
      (ap (λ x. same_thread x who) here ∙ same_thread-self who)
      ∙ (ap (λ x. Some (unwrap_or (answers x) [])) here ∙ ap (λ o. Some (unwrap_or o [])) e)
  answer_among who words e (id ∷ ids) (suc k) low here =
      go (answer_among who words e ids k (omega arith) here) (same_thread id who) refl
    where
      go : next_answer who (map reply ids) ≡ Some words → (b : Bool) → same_thread id who ≡ b
          → option_or (if b then Some (unwrap_or (answers id) []) else None) (next_answer who (map reply ids)) ≡ Some words
      go rest true q = ap (λ x. Some (unwrap_or (answers x) [])) (alike id who q) ∙ ap (λ o. Some (unwrap_or o [])) e
      go rest false q = rest

  pub answer_told : (n : ℕ) (who : ThreadId) (words : List ℕ) → answers who ≡ Some words → is_thread_id n who ≡ true → (later : List What)
      → next_answer who (replies n answers ++ later) ≡ Some words
  answer_told n who words e known later =
      next_append who (replies n answers) later (ap is_some first) ∙ first
    where
      first : next_answer who (replies n answers) ≡ Some words
      first =
          let at = listed_ids-contains n (λ id. is_some (answers id)) who known (ap is_some e) in
          answer_among who words e (listed_ids n (λ id. is_some (answers id))) at.0 at.1 at.2

  -- ---- what replies say

  -- no reply but one to these threads is that of the message
  abbrev pub IsQuiet : Number → (ThreadId → Bool) → Type 0
  IsQuiet number but = (id : ThreadId) (words : List ℕ) → but id ≡ false → answers id ≡ Some words → is_message_of number words ≡ false

  module _ (number : Number) where
    stays_by : (id : ThreadId) (later : List What) (a : Standing) → is_message_of number (unwrap_or (answers id) []) ≡ false
        → Leads number (reply id) later a a
    stays_by id later a e = Stays (reply id) later a (λ i. e i || (false || false))

    silent : (but : ThreadId → Bool) → IsQuiet number but → (id : ThreadId) → but id ≡ false → is_some (answers id) ≡ true
        → is_message_of number (unwrap_or (answers id) []) ≡ false
    silent but quiet id other some = go (answers id) refl some
      where
        go : (o : Option (List ℕ)) → answers id ≡ o → is_some o ≡ true → is_message_of number (unwrap_or o []) ≡ false
        go None e s = absurd (false≢true s)
        go (Some words) e s = quiet id words other e

    quiet_ids : (but : ThreadId → Bool) → IsQuiet number but → (a : Standing) (ids : List ThreadId)
        → All (λ id. (but id ≡ false) × (is_some (answers id) ≡ true)) ids → LeadInTurn number (map reply ids) a a
    quiet_ids but quiet a [] all = say_none number a
    quiet_ids but quiet a (id ∷ ids) all =
        let here = all 0 id (omega arith) in
        say_first number (reply id) (map reply ids) a a a (stays_by id (map reply ids) a (silent but quiet id here.0 here.1))
        (quiet_ids but quiet a ids (λ k d low. all (suc k) d (omega arith)))

    pub quiet_say : (n : ℕ) → IsQuiet number (λ id. false) → (a : Standing) → LeadInTurn number (replies n answers) a a
    quiet_say n quiet a =
        quiet_ids (λ id. false) quiet a (listed_ids n (λ id. is_some (answers id)))
        (λ k d low. (refl, (listed_ids-passes n (λ id. is_some (answers id)) k d low).1))

    module _ (who : ThreadId) (words : List ℕ) (e : answers who ≡ Some words) (is : is_message_of number words ≡ true)
        (quiet : IsQuiet number (λ id. same_thread id who)) where
      other_place : (id : ThreadId) → (place_of id ≡ place_of who → ⊥) → same_thread id who ≡ false
      other_place id apart = go (same_thread id who) refl
        where
          go : (b : Bool) → same_thread id who ≡ b → b ≡ false
          go false q = refl
          go true q = absurd (apart (ap place_of (alike id who q)))

      delivered : (later : List What) → Leads number (reply who) later Queued (left_by words)
      delivered later =
          subst (λ o. Leads number (Reply who (unwrap_or o [])) later Queued (left_by words)) (sym e) (Delivered who words later is)

      one_ids : (ids : List ThreadId) → AllPairs (λ (a b : ThreadId). place_of a < place_of b) ids → All (λ id. is_some (answers id) ≡ true) ids
          → (k : ℕ) → k < length ids → get_or ids k who ≡ who → LeadInTurn number (map reply ids) Queued (left_by words)
      one_ids [] ascend all k low here = absurd (omega arith)
      one_ids (id ∷ ids) ascend all zero low here =
          say_first number (reply id) (map reply ids) Queued (left_by words) (left_by words)
          (subst (λ x. Leads number (reply x) (map reply ids) Queued (left_by words)) (sym here) (delivered (map reply ids)))
          (quiet_ids (λ x. same_thread x who) quiet (left_by words) ids
          (λ j d l. (other_place (slice_index_or ids j d) (later j d l), all (suc j) d (omega arith))))
        where
          same : place_of id ≡ place_of who
          same = ap place_of here

          later : (j : ℕ) (d : ThreadId) → j < length ids → place_of (slice_index_or ids j d) ≡ place_of who → ⊥
          later j d l q =
              let up : place_of id < place_of (slice_index_or ids j d) = ascend 0 (suc j) d (omega arith) (omega arith) in
              let equal : place_of id ≡ place_of who = same in
              omega arith
      one_ids (id ∷ ids) ascend all (suc k) low here =
          say_first number (reply id) (map reply ids) Queued Queued (left_by words)
          (stays_by id (map reply ids) Queued
          (silent (λ x. same_thread x who) quiet id (other_place id before) (all 0 id (omega arith))))
          (one_ids ids (λ i j d l within. ascend (suc i) (suc j) d (omega arith) (omega arith)) (λ j d l. all (suc j) d (omega arith)) k (omega arith) here)
        where
          before : place_of id ≡ place_of who → ⊥
          before q =
              let l : k < length ids = omega arith in
              let up : place_of id < place_of (get_or ids k who) = ascend 0 (suc k) who (omega arith) (omega arith) in
              let equal : place_of (get_or ids k who) ≡ place_of who = ap place_of here in
              omega arith

      pub delivery_say : (n : ℕ) → AllPairs (λ (a b : ThreadId). place_of a < place_of b) (listed_ids n (λ id. is_some (answers id)))
          → is_thread_id n who ≡ true → LeadInTurn number (replies n answers) Queued (left_by words)
      delivery_say n ascend known =
          let at = listed_ids-contains n (λ id. is_some (answers id)) who known (ap is_some e) in
          one_ids (listed_ids n (λ id. is_some (answers id))) ascend
          (λ k d low. (listed_ids-passes n (λ id. is_some (answers id)) k d low).1) at.0 at.1 at.2

-- replies, and a death, are settled
pub replies_settled : (answers : Answers) (ids : List ThreadId) → AreSettled (map (λ id. Reply id (unwrap_or (answers id) [])) ids)
unfolding AreSettled
replies_settled answers [] = tt
replies_settled answers (id ∷ ids) = (tt, replies_settled answers ids)

pub deaths_settled : (o : Option Pid) → AreSettled (death_told o)
unfolding AreSettled
deaths_settled None = tt
deaths_settled (Some pid) = (tt, tt)

pub settled_append : (xs ys : List What) → AreSettled xs → AreSettled ys → (each : (what : What) (later more : List What) → IsSettled what later → IsSettled what (later ++ more))
    → AreSettled (xs ++ ys)
unfolding AreSettled
settled_append [] ys x y each = y
settled_append (what ∷ xs) ys x y each = (each what xs ys x.0, settled_append xs ys x.1 y each)

-- ---- what is told of a death

-- the message is lost with the process, or isn't
abbrev pub GoneSays : Option Pid → Standing → Standing → Type 0
GoneSays None a b = a ≡ b
GoneSays (Some pid) a b = MayLose a b

pub gone_say : (number : Number) (o : Option Pid) (a b : Standing) → GoneSays o a b → LeadInTurn number (death_told o) a b
unfolding LeadInTurn
gone_say number None a b e = e
gone_say number (Some pid) a b lose = (b, says a b lose, refl)
  where
    says : (a b : Standing) → MayLose a b → Leads number (Gone pid) [] a b
    says _ _ (Kept a) = Stays (Gone pid) [] a refl
    says _ _ LosesQueued = LostQueued (Gone pid) [] refl
    says _ _ LosesHeld = LostHeld (Gone pid) [] refl

-- ---- what a call says, where it was served

-- `plain`: the caller is answered that it was served
pub data CallSays (number : Number) (w : List ℕ) (plain : Type 0) : Standing → Standing → Type 0 where
  Sends : is_send (call_number w) ≡ true → CallSays number w plain Unsent Queued
  Forwards : (call_number w == forward_message) ≡ true → (forward_token w == number.0) ≡ true → plain → CallSays number w plain Held Queued
  Returns : is_return_call (call_number w) ≡ true → (return_token w == number.0) ≡ true → plain → CallSays number w plain Held Over
  Destroys : (call_number w == destroy_server) ≡ true → plain → (a b : Standing) → MayLose a b → CallSays number w plain a b
  Leaves : ((call_number w == forward_message) && (forward_token w == number.0)) ≡ false
      → (is_return_call (call_number w) && (return_token w == number.0)) ≡ false → (a : Standing) → CallSays number w plain a a

and_three : (a b c : Bool) → (a && b) ≡ false → (a && (b && c)) ≡ false
and_three true true c e = absurd (false≢true (sym e))
and_three true false c e = refl
and_three false b c e = refl

not_both : (x y z : ℕ) → (x == y) ≡ true → (y == z) ≡ false → (x == z) ≡ false
not_both x y z e f = go (x == z) refl
  where
    go : (b : Bool) → (x == z) ≡ b → b ≡ false
    go false q = refl
    go true q = absurd (false≢true (sym f ∙ eq-eqb y z (sym (eqb-true x y e) ∙ eqb-true x z q)))

pub call_say : (number : Number) (who : ThreadId) (w : List ℕ) (later : List What) (a b : Standing)
    → CallSays number w (next_answer who later ≡ Some plain_words) a b → Leads number (Call who w) later a b
call_say number who w later _ _ (Sends e) = Accepted (Call who w) later e
call_say number who w later _ _ (Forwards e token plain) =
    Forwarded (Call who w) later
    (and_from (call_number w == forward_message) ((forward_token w == number.0) && is_served_by who later) e
    (and_from (forward_token w == number.0) (is_served_by who later) token (ap (λ o. option_map_or is_plain o false) plain)))
call_say number who w later _ _ (Returns e token plain) =
    Returned (Call who w) later
    (and_from (is_return_call (call_number w)) ((return_token w == number.0) && is_served_by who later) e
    (and_from (return_token w == number.0) (is_served_by who later) token (ap (λ o. option_map_or is_plain o false) plain)))
call_say number who w later _ _ (Destroys e plain a b lose) = go a b lose
  where
    ends : is_end_in (Call who w) later ≡ true
    ends = and_from (call_number w == destroy_server) (is_served_by who later) e (ap (λ o. option_map_or is_plain o false) plain)

    no_forward : is_forward_of number (Call who w) later ≡ false
    no_forward =
        (λ i. not_both (call_number w) destroy_server forward_message e refl i && ((forward_token w == number.0) && is_served_by who later))

    no_return : is_return_of number (Call who w) later ≡ false
    no_return =
        (λ i. is_return_call (eqb-true (call_number w) destroy_server e i) && ((return_token w == number.0) && is_served_by who later))

    go : (a b : Standing) → MayLose a b → Leads number (Call who w) later a b
    go _ _ (Kept a) = Stays (Call who w) later a (λ i. false || (no_forward i || no_return i))
    go _ _ LosesQueued = LostQueued (Call who w) later ends
    go _ _ LosesHeld = LostHeld (Call who w) later ends
call_say number who w later _ _ (Leaves forward returned a) =
    Stays (Call who w) later a
    (λ i. false
    || (and_three (call_number w == forward_message) (forward_token w == number.0) (is_served_by who later) forward i
    || and_three (is_return_call (call_number w)) (return_token w == number.0) (is_served_by who later) returned i))
