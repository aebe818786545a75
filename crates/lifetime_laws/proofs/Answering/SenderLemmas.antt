-- The sender of a message at a prompt server waits for a bounded number of steps.
use Rattle.std.proofs.Common.{◌≡◌, ℕ, zero, suc, ◌+◌, ◌-◌, ◌<◌, ◌≤◌, ◌⊎◌, inl, inr, Bool, true, false, List, [], ◌∷◌, ◌++◌, map, Option, Some, None, refl, sym, ap, ◌∙◌, subst, arith}
use Rattle.std.specs.Prelude.{◌&&◌}
use Rattle.std.specs.List.{All, Contains, list_any}
use Rattle.std.proofs.lemmas.Bool.{cases_lt, false≢true, or_parts}
use Rattle.xk_base.specs.declared.ids.Number.{Number}
use Rattle.xk_base.specs.declared.ids.ThreadId.{ThreadId}
use Rattle.xk_base.specs.declared.messages.Message.{Message}
use Rattle.xk_base.specs.declared.records.Rec.{Rec}
use Rattle.xk_base.specs.declared.records.What.{What}
use Rattle.xk_base.specs.declared.records.What.TheVariants.{Reply}
use Rattle.machine_laws.specs.Records.{records_by}
use Rattle.machine_laws.proofs.Stepping.EveryStepLemmas.{every_run_keeps}
use Rattle.machine_model.specs.Messaging.MessageCounts.{HasIf, HasOne, count_at, count_in}
use Rattle.machine_model.specs.Messaging.Messages.{is_of_number, is_sent_by}
use Rattle.machine_model.specs.Runs.Matched.{Matched, is_sent_as, waits_for}
use Rattle.machine_model.specs.Runs.Moments.{IsRun, Moment, state_at}
use Rattle.machine_model.specs.State.Machine.{Machine, Server}
use Rattle.machine_model.proofs.Matching.CountLemmas.{count_in-append, one_if}
use Rattle.transcript_laws.specs.Answered.{IsSenderAnswered}
use Rattle.transcript_laws.specs.AtServers.{IsAt}
use Rattle.transcript_laws.specs.Following.{Lacks, keeping}
use Rattle.transcript_laws.specs.Serving.{DiesIn, told_by}
use Rattle.transcript_laws.proofs.AtServers.PlaceLemmas.{lacks_parts}
use Rattle.transcript_laws.proofs.Serving.ServedStepLemmas.{senders_answered}
use Rattle.transcript_laws.proofs.Serving.TakenLemmas.{told_record}
use Rattle.transcript_laws.proofs.Turning.FairLemmas.{Caused, Ended, Link, link}
use Rattle.lifetime_laws.specs.Prompt.{ByDeath, ByReply, EndsWait, IsAnsweredIn, IsAnsweredInTime, IsServing, StaysAt, Workers, deadline}
use Rattle.lifetime_laws.specs.Scheduling.{AreStepsFair}
use Rattle.lifetime_laws.proofs.Answering.FreedLemmas.{freed_is_told}
use Rattle.lifetime_laws.proofs.Answering.PromptLemmas.{leaves_in_time}
use Rattle.lifetime_laws.proofs.Answering.WorkLemmas.{moment_counts}

-- what holds of each record holds of whatever is told
all_told : (P : What → Type 0) (records : List Rec) → All (λ (rec : Rec). P rec.what) records → (what : What)
    → Contains (map (λ (rec : Rec). rec.what) records) what → P what
all_told P [] h what at = absurd (let low : at.0 < 0 = at.1 in omega arith)
all_told P (rec ∷ records) h what (zero, low, is) = subst P is (h 0 rec (omega arith))
all_told P (rec ∷ records) h what (suc j, low, is) = all_told P records (λ i x l. h (suc i) x (omega arith)) what (j, omega arith, is)

module _ (who : ThreadId) (number : Number) where
  abbrev sent : Message → Bool
  sent = is_sent_as who number

  -- ---- where its message is

  none_sent : (xs : List Message) → list_any (is_of_number number) xs ≡ false → count_in sent xs ≡ 0
  unfolding count_in
  none_sent [] e = refl
  none_sent (x ∷ xs) e =
      let parts = or_parts (is_of_number number x) (list_any (is_of_number number) xs) e in
      let first : one_if (sent x) ≡ 0 = ap (λ b. one_if (b && is_sent_by who x)) parts.0 in
      let rest : count_in sent xs ≡ 0 = none_sent xs parts.1 in
      omega arith

  counted_at : (n : ℕ) (m : Machine) → 1 ≤ count_at sent (m.servers n) → IsAt number n m
  counted_at n m some none = go (m.servers n) some none
    where
      go : (o : Option Server) → 1 ≤ count_at sent o → keeping number o ≡ Lacks → ⊥
      go None some none = absurd (omega arith)
      go (Some server) some none =
          let parts = lacks_parts number server none in
          let queued : count_in sent server.queued ≡ 0 = none_sent server.queued parts.0 in
          let held : count_in sent server.held ≡ 0 = none_sent server.held parts.1 in
          let sum : count_in sent (server.queued ++ server.held) ≡ count_in sent server.queued + count_in sent server.held =
          count_in-append sent server.queued server.held in
          absurd (omega arith)

  waits_for_one : (m : Machine) → Matched m → waits_for m.threads who number ≡ true → HasOne m.servers sent
  waits_for_one m h e = subst (λ b. HasIf b m.servers sent) e (h.body.senders.senders who number)

  -- ---- over a run

  module _ (start : Machine) (moments : List Moment) (h : Matched start) (run : IsRun start moments) (most : ℕ)
      (fair : AreStepsFair most start moments) (pace n : ℕ) (workers : Workers) (first last : ℕ) (le : first ≤ last)
      (serves : IsServing pace n workers start moments first last) (stays : StaysAt number n start moments first last) where
    abbrev at : ℕ → Machine
    at i = state_at start moments i

    matched : (i : ℕ) → Matched (at i)
    matched i = every_run_keeps start moments h run i

    abbrev Waits : ℕ → Type 0
    Waits i = waits_for (at i).threads who number ≡ true

    abbrev bound : ℕ
    bound = deadline most start.processes pace number n (at first)

    -- while it waits its message is at the server
    sent_there : (i : ℕ) → first ≤ i → i ≤ last → Waits i → 1 ≤ count_at sent ((at i).servers n)
    sent_there i p q waits =
        let one : HasOne (at i).servers sent = waits_for_one (at i) (matched i) waits in
        let some : 1 ≤ count_at sent ((at i).servers one.serial) = let here : count_at sent ((at i).servers one.serial) ≡ 1 = one.here in omega arith in
        subst (λ k. 1 ≤ count_at sent ((at i).servers k)) (stays i one.serial p q (counted_at one.serial (at i) some)) some

    in_time : (until : ℕ) → first ≤ until → until ≤ last → ((i : ℕ) → first ≤ i → i ≤ until → Waits i) → (at until).steps < bound
    in_time until p q waits =
        leaves_in_time start moments h run most fair pace n workers number first until p
        (record {
          prompt = record {
            receives = λ k i j a b. serves.prompt.receives k i j a (omega arith);
            gives_up = λ k i j a b. serves.prompt.gives_up k i j a (omega arith);
            receiver_ready = λ k i a b. serves.prompt.receiver_ready k i a (omega arith);
            holder_ready = λ k i a b. serves.prompt.holder_ready k i a (omega arith);
          };
          turns = record {
            order = λ i moment a b. serves.turns.order i moment a (omega arith);
            receiver = λ i a b. serves.turns.receiver i a (omega arith);
            holder = λ k i a b. serves.turns.holder k i a (omega arith);
          };
        })
        (λ i a b. counted_at n (at i) (sent_there i a (omega arith) (waits i a b)))

    -- the first moment in which the wait ends
    record Frees : Type 0 where
      i : ℕ
      from : first ≤ i
      until : i < last
      waited : (j : ℕ) → first ≤ j → j ≤ i → Waits j
      freed_then : waits_for (at (suc i)).threads who number ≡ false

    one_longer : (i : ℕ) → ((j : ℕ) → first ≤ j → j ≤ i → Waits j) → Waits (suc i) → (j : ℕ) → first ≤ j → j ≤ suc i → Waits j
    one_longer i waits now j a b = elim (cases_lt i j) [
      | inl above ↦ subst Waits (omega arith) now
      | inr below ↦ waits j a below
    ]

    search : (gap i : ℕ) → i + gap ≡ last → first ≤ i → ((j : ℕ) → first ≤ j → j ≤ i → Waits j)
        → ((j : ℕ) → first ≤ j → j ≤ last → Waits j) ⊎ Frees
    search zero i e p waits = inl (λ j a b. waits j a (omega arith))
    search (suc gap) i e p waits =
        go (waits_for (at (suc i)).threads who number) refl (λ now. search gap (suc i) (omega arith) (omega arith) (one_longer i waits now))
      where
        go : (b : Bool) → waits_for (at (suc i)).threads who number ≡ b
            → (Waits (suc i) → ((j : ℕ) → first ≤ j → j ≤ last → Waits j) ⊎ Frees)
            → ((j : ℕ) → first ≤ j → j ≤ last → Waits j) ⊎ Frees
        go true now later = later now
        go false now later = inr (record { i = i; from = p; until = omega arith; waited = waits; freed_then = now })

    abbrev Answered : Type 0
    Answered = (i : ℕ) × (first ≤ i) × (i < last) × IsAnsweredIn who number start moments i × ((at (suc i)).steps ≤ bound)

    -- what is told in the moment that frees it
    ends_by : (i : ℕ) → Waits i → waits_for (at (suc i)).threads who number ≡ false → EndsWait who number start moments i
    ends_by i waits freed = go (link start moments run i)
      where
        go : Link start moments i → EndsWait who number start moments i
        go (Ended none e) =
            absurd (false≢true (sym freed ∙ (ap (λ (m : Machine). waits_for m.threads who number) e ∙ waits)))
        go (Caused moment there e) =
            by (freed_is_told moment.cause (at i) (matched i) who number waits (sym (ap (λ (m : Machine). waits_for m.threads who number) e) ∙ freed))
          where
            by : ((words : List ℕ) × Contains (told_by moment.cause (at i)) (Reply who words)) ⊎ DiesIn (told_by moment.cause (at i)) who.pid
                → EndsWait who number start moments i
            by (inr dies) = ByDeath moment there dies
            by (inl (words, told)) =
                let place = told_record (records_by moment.cause (at i)) (Reply who words) told in
                ByReply words
                (record { moment = moment; there = there; who = who; place = place.0; record_there = place.1; told = place.2; is = place.3 }) refl
                (all_told (IsSenderAnswered moment.cause (at i)) (records_by moment.cause (at i)) (senders_answered moment.cause (at i) (matched i))
                (Reply who words) told number waits)

    answered : Frees → Answered
    answered f = (
      f.i,
      f.from,
      f.until,
      record { waited = waits; freed = f.freed_then; ends = ends_by f.i waits f.freed_then },
      soon,
    )
      where
        from : first ≤ f.i
        from = f.from

        until : f.i < last
        until = f.until

        waits : Waits f.i
        waits = f.waited f.i from (omega arith)

        soon : (at (suc f.i)).steps ≤ bound
        soon =
            let less : (at f.i).steps < bound = in_time f.i from (omega arith) f.waited in
            let one : (at (suc f.i)).steps ≤ (at f.i).steps + 1 = moment_counts start moments run f.i in
            omega arith

    by_search : (gap : ℕ) → first + gap ≡ last → Waits first → bound ≤ (at last).steps → Answered
    by_search gap e now enough = go (search gap first e (omega arith) (λ j a b. subst Waits (omega arith) now))
      where
        go : ((j : ℕ) → first ≤ j → j ≤ last → Waits j) ⊎ Frees → Answered
        go (inl all) = let less : (at last).steps < bound = in_time last le (omega arith) all in absurd (omega (arith, less, enough))
        go (inr f) = answered f

pub answered_in_time : (start : Machine) (moments : List Moment) → Matched start → IsRun start moments → (most : ℕ)
    → AreStepsFair most start moments
    → IsAnsweredInTime most start moments
answered_in_time start moments h run most fair pace n workers who number first last le serves stays waits enough =
    by_search who number start moments h run most fair pace n workers first last le serves stays (last - first) (omega arith) waits enough
