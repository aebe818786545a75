-- What a server holds stays held there, or leaves the server.
use Rattle.std.proofs.Common.{◌≡◌, ◌≢◌, ℕ, zero, suc, ◌<◌, ◌≤◌, inl, inr, Bool, true, false, List, [], ◌∷◌, drop, Some, refl, sym, ap, ◌∙◌, subst, arith}
use Rattle.std.specs.Prelude.{◌||◌, not, slice_get}
use Rattle.std.specs.List.{list_any}
use Rattle.std.proofs.lemmas.Bool.{cases_lt, eq-eqb, false≢true, or_parts}
use Rattle.std.proofs.lemmas.Option.{none-some, same_Some}
use Rattle.xk_base.specs.declared.ids.Number.{Number}
use Rattle.xk_base.specs.declared.ids.Pid.{Pid}
use Rattle.xk_base.specs.declared.messages.Message.{Message}
use Rattle.machine_laws.proofs.Stepping.EveryStepLemmas.{every_run_keeps}
use Rattle.machine_model.specs.Messaging.Messages.{is_of_number, is_sent_from}
use Rattle.machine_model.specs.Runs.Matched.{Matched}
use Rattle.machine_model.specs.Runs.Moments.{Cause, IsRun, Moment, caused, state_at}
use Rattle.machine_model.specs.State.Machine.{Machine, Server}
use Rattle.transcript_laws.specs.AtServers.{IsAt}
use Rattle.transcript_laws.specs.Following.{Holds, Keeping, Lacks, Queues, keeping, keeping_by}
use Rattle.transcript_laws.specs.Serving.{Arrives, DiesIn, Ends, Forwards, Founded, IsForwarded, IsSent, ListStep, Lists, LosesSender}
use Rattle.transcript_laws.specs.Serving.{Queues as QueuesOne, Receives, Returns, ServerStep, Stays, Takes, told_by}
use Rattle.transcript_laws.proofs.AtServers.PlaceLemmas.{number_of}
use Rattle.transcript_laws.proofs.Following.EndLemmas.{left_any}
use Rattle.transcript_laws.proofs.Following.KeepLemmas.{queued_other}
use Rattle.transcript_laws.proofs.Following.StandLemmas.{kept_low, one_place}
use Rattle.transcript_laws.proofs.Serving.OrderLemmas.{queued_listed}
use Rattle.transcript_laws.proofs.Serving.ServedStepLemmas.{all_served}
use Rattle.transcript_laws.proofs.Turning.FairLemmas.{Caused, Ended, Link, link}
use Rattle.lifetime_laws.specs.Prompt.{IsHeldAt}

module _ (number : Number) where
  abbrev test : Message → Bool
  test = is_of_number number

  there_listed : (xs : List Message) (i : ℕ) (x : Message) → slice_get xs i ≡ Some x → test x ≡ true → list_any test xs ≡ true
  there_listed [] zero x there e = absurd (none-some x there)
  there_listed [] (suc i) x there e = absurd (none-some x there)
  there_listed (y ∷ xs) zero x there e = (λ i. (ap test (same_Some y x there) ∙ e) i || list_any test xs)
  there_listed (y ∷ xs) (suc i) x there e = ap (λ b. test y || b) (there_listed xs i x there e) ∙ or_true (test y)
    where
      or_true : (b : Bool) → (b || true) ≡ true
      or_true true = refl
      or_true false = refl

  drop_none : (xs : List Message) → list_any test xs ≡ false → list_any test (drop 1 xs) ≡ false
  drop_none [] e = refl
  drop_none (x ∷ xs) e = (or_parts (test x) (list_any test xs) e).1

  -- what is held isn't queued
  unqueued : (server : Server) → keeping number (Some server) ≡ Holds → list_any test server.queued ≡ false
  unqueued server e = go (list_any test server.queued) (list_any test server.held) refl e
    where
      go : (a b : Bool) → list_any test server.queued ≡ a → keeping_by a b ≡ Holds → a ≡ false
      go true b p q = absurd (let r : Queues ≡ Holds = q in cc)
      go false b p q = refl

  held_not_lacks : (server : Server) → list_any test server.held ≡ true → keeping number (Some server) ≢ Lacks
  held_not_lacks server e none = go (list_any test server.queued) (sym (ap (λ b. keeping_by (list_any test server.queued) b) e) ∙ none)
    where
      go : (a : Bool) → keeping_by a true ≡ Lacks → ⊥
      go true q = let r : Queues ≡ Lacks = q in cc
      go false q = let r : Holds ≡ Lacks = q in cc

  of_number : (x : Message) → x.number ≡ number → test x ≡ true
  of_number x e = eq-eqb x.number.0 number.0 (ap (λ (k : Number). k.0) e)

  -- a message that comes to a server isn't there yet
  arrives_new : (n : ℕ) (x : Message) (cause : Cause) (m : Machine) → Matched m → Arrives n x cause m → x.number ≡ number
      → IsAt number n m → ⊥
  arrives_new n x cause m h (IsSent s) named some =
      let low : number.0 < m.next_number = kept_low number m h n some in
      let is : x.number.0 ≡ m.next_number = ap (λ (y : Message). y.number.0) s.is in
      let same : x.number.0 ≡ number.0 = ap (λ (k : Number). k.0) named in
      absurd (omega arith)
  arrives_new n x cause m h (IsForwarded f) named some = f.apart (one_place number m h n f.from some other)
    where
      is_held : f.held.number ≡ number
      is_held = sym (ap (λ (y : Message). y.number) f.is) ∙ named

      other : IsAt number f.from m
      other none =
          held_not_lacks f.server (there_listed f.server.held f.place f.held f.held_there (of_number f.held is_held))
          (sym (ap (keeping number) f.there) ∙ none)

  -- ---- one moment

  module _ (n : ℕ) (cause : Cause) (m next : Machine) (Dies : Pid → Type 0) (h : Matched m) (held : IsHeldAt number n m) where
    list_unqueued : (before after : Server) → ListStep n cause m next Dies before after → keeping number (Some before) ≡ Holds
        → keeping number (Some after) ≡ Queues → ⊥
    list_unqueued before after (QueuesOne x a is) was now = go (test x) refl
      where
        go : (b : Bool) → test x ≡ b → ⊥
        go true e = arrives_new n x cause m h a (number_of number x e) (λ none. let q : Holds ≡ Lacks = sym held ∙ none in cc)
        go false e =
            let same : keeping number (Some after) ≡ Holds = ap (λ (s : Server). keeping number (Some s)) is ∙ (queued_other number x before e ∙ was) in
            let q : Queues ≡ Holds = sym now ∙ same in cc
    list_unqueued before after (Receives x who a empty own waits is) was now =
        false≢true (sym (unqueued before was) ∙ (sym (ap (λ (s : Server). list_any test s.queued) is) ∙ queued_listed number after now))
    list_unqueued before after (Takes x who first own r is) was now =
        false≢true (sym (drop_none before.queued (unqueued before was))
        ∙ (sym (ap (λ (s : Server). list_any test s.queued) is) ∙ queued_listed number after now))
    list_unqueued before after (Returns k r is) was now =
        false≢true (sym (unqueued before was) ∙ (sym (ap (λ (s : Server). list_any test s.queued) is) ∙ queued_listed number after now))
    list_unqueued before after (Forwards to x r from kept is) was now =
        false≢true (sym (unqueued before was) ∙ (sym (ap (λ (s : Server). list_any test s.queued) is) ∙ queued_listed number after now))
    list_unqueued before after (LosesSender pid dies is) was now =
        false≢true (sym (left_any number (λ x. not (is_sent_from pid x)) before.queued (unqueued before was))
        ∙ (sym (ap (λ (s : Server). list_any test s.queued) is) ∙ queued_listed number after now))

    not_queued : ServerStep n cause m next Dies → keeping number (next.servers n) ≡ Queues → ⊥
    not_queued (Stays e) now = let q : Holds ≡ Queues = sym held ∙ (sym (ap (keeping number) e) ∙ now) in cc
    not_queued (Founded server none there queued nothing) now = let q : Lacks ≡ Holds = sym (ap (keeping number) none) ∙ held in cc
    not_queued (Ends server there e why) now = let q : Lacks ≡ Queues = sym (ap (keeping number) e) ∙ now in cc
    not_queued (Lists before after there now_there step) now =
        list_unqueued before after step (sym (ap (keeping number) there) ∙ held) (sym (ap (keeping number) now_there) ∙ now)

    held_next : ServerStep n cause m next Dies → IsAt number n next → IsHeldAt number n next
    held_next step some = go (keeping number (next.servers n)) refl
      where
        go : (k : Keeping) → keeping number (next.servers n) ≡ k → keeping number (next.servers n) ≡ Holds
        go Holds e = e
        go Queues e = absurd (not_queued step e)
        go Lacks e = absurd (some e)

  -- ---- runs

  module _ (n : ℕ) (start : Machine) (moments : List Moment) (h : Matched start) (run : IsRun start moments) where
    moment_held : (i : ℕ) → IsHeldAt number n (state_at start moments i) → IsAt number n (state_at start moments (suc i))
        → IsHeldAt number n (state_at start moments (suc i))
    moment_held i held some = go (link start moments run i)
      where
        m : Machine
        m = state_at start moments i

        go : Link start moments i → IsHeldAt number n (state_at start moments (suc i))
        go (Caused moment there e) =
            let kept : Matched m = every_run_keeps start moments h run i in
            subst (IsHeldAt number n) (sym e)
            (held_next n moment.cause m (caused moment.cause m) (DiesIn (told_by moment.cause m)) kept held
            ((all_served moment.cause m kept).servers n) (subst (IsAt number n) e some))
        go (Ended none e) = subst (IsHeldAt number n) (sym e) held

    pub run_held : (first last : ℕ) → first ≤ last → IsHeldAt number n (state_at start moments first)
        → ((i : ℕ) → first ≤ i → i ≤ last → IsAt number n (state_at start moments i)) → IsHeldAt number n (state_at start moments last)
    run_held first zero le held some = subst (λ k. IsHeldAt number n (state_at start moments k)) (omega arith) held
    run_held first (suc last) le held some = elim (cases_lt last first) [
      | inl below ↦ subst (λ k. IsHeldAt number n (state_at start moments k)) (omega arith) held
      | inr above ↦
          moment_held last (run_held first last above held (λ i p q. some i p (omega arith))) (some (suc last) le (omega arith))
    ]
