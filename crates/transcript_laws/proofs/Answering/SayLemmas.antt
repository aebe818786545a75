-- What the records of a change say of a thread.
use Rattle.std.proofs.Common.{◌≡◌, ◌≢◌, ℕ, zero, suc, ◌<◌, Bool, true, false, List, [], ◌∷◌, ◌++◌, length, get_or, map, Option, Some, None, refl, sym, ap, ◌∙◌, subst, arith}
use Rattle.std.specs.Prelude.{◌==◌, is_some, slice_index_or, unwrap_or}
use Rattle.std.specs.List.{All, AllPairs}
use Rattle.std.specs.Option.{option_map}
use Rattle.std.proofs.lemmas.Bool.{false≢true}
use Rattle.xk_base.specs.declared.ids.Pid.{Pid}
use Rattle.xk_base.specs.declared.ids.ThreadId.{ThreadId}
use Rattle.xk_base.specs.declared.records.What.{What}
use Rattle.xk_base.specs.declared.records.What.TheVariants.{Reply, Gone}
use Rattle.xk_base.specs.Tables.Circle.{is_thread_id, listed_ids, place_of, same_thread}
use Rattle.xk_base.proofs.CircleLemmas.{listed_ids-contains, listed_ids-passes}
use Rattle.machine_model.specs.State.Changes.{Change, death_told, delivery_told, replies, settled}
use Rattle.machine_model.specs.State.Machine.{Thread}
use Rattle.machine_model.specs.State.Threads.{Answers, with_answer}
use Rattle.machine_laws.proofs.Threading.ThreadAnswerLemmas.{same_thread-self}
use Rattle.machine_laws.proofs.Threading.ThreadPutLemmas.{alike}
use Rattle.transcript_laws.specs.AnsweredOnce.{Dead, DiesIf, Free, LeadsIf, Says, SayInTurn, Standing, Waits, standing, standing_by}
use Rattle.transcript_laws.specs.Answering.{is_waiting}
use Rattle.transcript_laws.proofs.Ordering.ChangeLemmas.{places_ascend}
use Rattle.transcript_laws.proofs.Ordering.PairLemmas.{pairs_head, pairs_tail}

-- ---- lists of records

module _ (who : ThreadId) where
  pub say_none : (a : Standing) → SayInTurn who [] a a
  unfolding SayInTurn
  say_none a = refl

  pub say_first : (what : What) (told : List What) (a b c : Standing) → Says who what a b → SayInTurn who told b c → SayInTurn who (what ∷ told) a c
  unfolding SayInTurn
  say_first what told a b c says later = (b, says, later)

  pub say_append : (xs ys : List What) (a b c : Standing) → SayInTurn who xs a b → SayInTurn who ys b c → SayInTurn who (xs ++ ys) a c
  unfolding SayInTurn
  say_append [] ys a b c x y = subst (λ s. SayInTurn who ys s c) (sym x) y
  say_append (what ∷ xs) ys a b c x y = (x.0, x.1, say_append xs ys x.0 b c x.2 y)

-- a record of another thread leaves this one, and its own leads as it does
pub of_another : (b : Bool) (first second a : Standing) → b ≡ false → LeadsIf b first second a a
of_another b first second a e = subst (λ x. LeadsIf x first second a a) (sym e) refl

pub of_itself : (b : Bool) (first second : Standing) → b ≡ true → LeadsIf b first second first second
of_itself b first second e = subst (λ x. LeadsIf x first second first second) (sym e) (refl, refl)

-- ---- replies

module _ (who : ThreadId) (answers : Answers) where
  abbrev reply : ThreadId → What
  reply id = Reply id (unwrap_or (answers id) [])

  others_say : (ids : List ThreadId) (a : Standing) → All (λ id. same_thread id who ≡ false) ids → SayInTurn who (map reply ids) a a
  others_say [] a apart = say_none who a
  others_say (id ∷ ids) a apart =
      say_first who (reply id) (map reply ids) a a a (of_another (same_thread id who) Waits Free a (apart 0 id (omega arith)))
      (others_say ids a (λ k d lt. apart (suc k) d (omega arith)))

  -- at another place
  other_place : (id : ThreadId) → (place_of id ≡ place_of who → ⊥) → same_thread id who ≡ false
  other_place id apart = go (same_thread id who) refl
    where
      go : (b : Bool) → same_thread id who ≡ b → b ≡ false
      go false e = refl
      go true e = absurd (apart (ap place_of (alike id who e)))

  one_says : (ids : List ThreadId) → AllPairs (λ (a b : ThreadId). place_of a < place_of b) ids → (k : ℕ) → k < length ids
      → get_or ids k who ≡ who → SayInTurn who (map reply ids) Waits Free
  one_says [] ascend k lt here = absurd (omega arith)
  one_says (id ∷ ids) ascend zero lt here =
      say_first who (reply id) (map reply ids) Waits Free Free
      (of_itself (same_thread id who) Waits Free (ap (λ x. same_thread x who) here ∙ same_thread-self who))
      (others_say ids Free (λ j d low. other_place (slice_index_or ids j d) (later j d low)))
    where
      same : place_of id ≡ place_of who
      same = ap place_of here

      later : (j : ℕ) (d : ThreadId) → j < length ids → place_of (slice_index_or ids j d) ≡ place_of who → ⊥
      later j d low e =
          let up : place_of id < place_of (slice_index_or ids j d) = pairs_head (λ (a b : ThreadId). place_of a < place_of b) id ids ascend j d low in
          let equal : place_of id ≡ place_of who = same in
          omega arith
  one_says (id ∷ ids) ascend (suc k) lt here =
      say_first who (reply id) (map reply ids) Waits Waits Free
      (of_another (same_thread id who) Waits Free Waits (other_place id before))
      (one_says ids (pairs_tail (λ (a b : ThreadId). place_of a < place_of b) id ids ascend) k (omega arith) here)
    where
      before : place_of id ≡ place_of who → ⊥
      before e =
          let low : k < length ids = omega arith in
          let up : place_of id < place_of (get_or ids k who) = pairs_head (λ (a b : ThreadId). place_of a < place_of b) id ids ascend k who low in
          let equal : place_of (get_or ids k who) ≡ place_of who = ap place_of here in
          omega arith

module _ (n : ℕ) (answers : Answers) (who : ThreadId) where
  pub answered_say : is_some (answers who) ≡ true → is_thread_id n who ≡ true → SayInTurn who (replies n answers) Waits Free
  answered_say some known =
      let at = listed_ids-contains n (λ id. is_some (answers id)) who known some in
      one_says who answers (listed_ids n (λ id. is_some (answers id))) (places_ascend n answers) at.0 at.1 at.2

  pub unanswered_say : (a : Standing) → is_some (answers who) ≡ false → SayInTurn who (replies n answers) a a
  unanswered_say a none =
      others_say who answers (listed_ids n (λ id. is_some (answers id))) a
      (λ k d lt. apart (slice_index_or (listed_ids n (λ id. is_some (answers id))) k d) (listed_ids-passes n (λ id. is_some (answers id)) k d lt).1)
    where
      apart : (id : ThreadId) → is_some (answers id) ≡ true → same_thread id who ≡ false
      apart id some = go (same_thread id who) refl
        where
          go : (b : Bool) → same_thread id who ≡ b → b ≡ false
          go false e = refl
          go true e = absurd (false≢true (sym none ∙ (ap (λ x. is_some (answers x)) (sym (alike id who e)) ∙ some)))

-- ---- a change

-- the process of the thread is the one that dies
abbrev pub dies_by : Option Pid → ThreadId → Bool
dies_by None who = false
dies_by (Some pid) who = pid.0 == who.pid.0

-- how the threads stand before the change, and what it makes of them
pub record ChangeFits (before : ThreadId → Standing) (change : Change) : Type 0 where
  pub delivery : change.delivery ≡ None
  pub answered : (who : ThreadId) → is_some (change.answers who) ≡ true → (before who ≡ Waits) × (is_thread_id change.machine.processes who ≡ true)
  pub left : (who : ThreadId) → dies_by change.gone who ≡ false → is_some (change.answers who) ≡ false → standing change.machine who ≡ before who
  pub freed : (who : ThreadId) → dies_by change.gone who ≡ false → is_some (change.answers who) ≡ true → (change.machine.process who.pid.0).alive ≡ true
  pub dead : (who : ThreadId) → dies_by change.gone who ≡ true → (before who ≢ Dead) × ((change.machine.process who.pid.0).alive ≡ false)

given_waits : (o : Option (List ℕ)) (t : Option Thread) → is_some o ≡ true → is_waiting (option_map (with_answer o) t) ≡ false
given_waits None t e = absurd (false≢true e)
given_waits (Some words) None e = refl
given_waits (Some words) (Some t) e = refl

ungiven_waits : (o : Option (List ℕ)) (t : Option Thread) → is_some o ≡ false → is_waiting (option_map (with_answer o) t) ≡ is_waiting t
ungiven_waits None None e = refl
ungiven_waits None (Some t) e = refl
ungiven_waits (Some words) t e = absurd (false≢true (sym e))

free_not_dead : Free ≢ Dead
free_not_dead e = cc

module _ (before : ThreadId → Standing) (change : Change) (fits : ChangeFits before change) (who : ThreadId) where
  abbrev later : List What
  later = delivery_told change.delivery ++ death_told change.gone

  abbrev end : Standing
  end = standing_by (change.machine.process who.pid.0).alive (is_waiting (option_map (with_answer (change.answers who)) (change.machine.threads who)))

  -- what follows the replies
  deaths_say : (o : Option Pid) (a : Standing) → (dies_by o who ≡ false → a ≡ end) → (dies_by o who ≡ true → (a ≢ Dead) × (end ≡ Dead))
      → SayInTurn who (death_told o) a end
  deaths_say None a lives dies = subst (SayInTurn who [] a) (lives refl) (say_none who a)
  deaths_say (Some pid) a lives dies = go (pid.0 == who.pid.0) refl
    where
      go : (b : Bool) → (pid.0 == who.pid.0) ≡ b → SayInTurn who (Gone pid ∷ []) a end
      go true e = say_first who (Gone pid) [] a end end (subst (λ x. DiesIf x a end) (sym e) (dies e)) (say_none who end)
      go false e = say_first who (Gone pid) [] a end end (subst (λ x. DiesIf x a end) (sym e) (lives e)) (say_none who end)

  later_say : (a : Standing) → (dies_by change.gone who ≡ false → a ≡ end) → (dies_by change.gone who ≡ true → (a ≢ Dead) × (end ≡ Dead))
      → SayInTurn who later a end
  later_say a lives dies =
      subst (λ o. SayInTurn who (delivery_told o ++ death_told change.gone) a end) (sym fits.delivery) (deaths_say change.gone a lives dies)

  ends_dead : dies_by change.gone who ≡ true → end ≡ Dead
  ends_dead e = ap (λ b. standing_by b (is_waiting (option_map (with_answer (change.answers who)) (change.machine.threads who)))) (fits.dead who e).1

  all_say : SayInTurn who (replies change.machine.processes change.answers ++ later) (before who) end
  all_say = go (is_some (change.answers who)) refl
    where
      go : (b : Bool) → is_some (change.answers who) ≡ b → SayInTurn who (replies change.machine.processes change.answers ++ later) (before who) end
      go true some =
          say_append who (replies change.machine.processes change.answers) later (before who) Free end
          (subst (λ s. SayInTurn who (replies change.machine.processes change.answers) s Free) (sym (fits.answered who some).0)
          (answered_say change.machine.processes change.answers who some (fits.answered who some).1))
          (later_say Free lives (λ e. (free_not_dead, ends_dead e)))
        where
          lives : dies_by change.gone who ≡ false → Free ≡ end
          lives e =
              sym (ap (λ b. standing_by b (is_waiting (option_map (with_answer (change.answers who)) (change.machine.threads who)))) (fits.freed who e some)
              ∙ ap (standing_by true) (given_waits (change.answers who) (change.machine.threads who) some))
      go false none =
          say_append who (replies change.machine.processes change.answers) later (before who) (before who) end
          (unanswered_say change.machine.processes change.answers who (before who) none)
          (later_say (before who) lives (λ e. ((fits.dead who e).0, ends_dead e)))
        where
          lives : dies_by change.gone who ≡ false → before who ≡ end
          lives e =
              sym (ap (standing_by (change.machine.process who.pid.0).alive) (ungiven_waits (change.answers who) (change.machine.threads who) none)
              ∙ fits.left who e none)

  pub change_says : SayInTurn who (settled change).told (before who) (standing (settled change).machine who)
  unfolding settled
  change_says = all_say
