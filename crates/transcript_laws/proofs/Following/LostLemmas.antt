-- Nothing is lost: what isn't at a server in the end was over at the start, or was ended by a record.
use Rattle.std.proofs.Common.{◌≡◌, ℕ, ◌⊎◌, inl, inr, Bool, true, false, List, [], ◌∷◌, length, map, refl, ap, ◌∙◌, subst, arith}
use Rattle.std.specs.Prelude.{◌||◌, if◌then◌else◌, not, slice_index}
use Rattle.std.proofs.lemmas.Bool.{and_from}
use Rattle.xk_base.specs.declared.events.Event.{Event}
use Rattle.xk_base.specs.declared.ids.Number.{Number}
use Rattle.xk_base.specs.declared.records.Rec.{Rec}
use Rattle.xk_base.specs.declared.records.What.{What}
use Rattle.xk_base.specs.declared.records.What.TheVariants.{Reply}
use Rattle.xk_base.specs.Calls.Kinds.{is_waiting_kind}
use Rattle.machine_laws.specs.Records.{records_of}
use Rattle.machine_laws.specs.HistoryMoments.{moments_of}
use Rattle.machine_laws.proofs.Histories.MomentLemmas.{history_is_run}
use Rattle.machine_model.specs.Runs.Matched.{Matched}
use Rattle.machine_model.specs.Runs.Moments.{IsRun, Moment, state_at}
use Rattle.machine_model.specs.State.Machine.{Machine}
use Rattle.transcript_laws.specs.Following.{Accepted, Delivered, Forwarded, Held, LostHeld, LostQueued, Over, Queued, Returned, Leads}
use Rattle.transcript_laws.specs.Following.{LeadInTurn, Standing, Stands, Stays, Unsent, is_end_in, is_last_delivery_of, is_message_of}
use Rattle.transcript_laws.specs.Following.{is_return_of}
use Rattle.transcript_laws.specs.NothingLost.{HasEnding, IsAtServer, NothingIsLost, StandsOnce, is_ending_of}
use Rattle.transcript_laws.proofs.Following.CountLemmas.{last_matched}
use Rattle.transcript_laws.proofs.Following.StandLemmas.{one_standing, some_standing}
use Rattle.transcript_laws.proofs.Following.StepLemmas.{run_leads}

or_true : (b : Bool) → (b || true) ≡ true
or_true true = refl
or_true false = refl

pub stands_once : (m : Machine) (number : Number) → Matched m → StandsOnce number m
stands_once m number h =
    let some = some_standing number m h in
    record { standing = some.0; stands = some.1; only = λ other stands. one_standing number m h other some.0 stands some.1 }

module _ (number : Number) where
  -- the end of a server or a process can end it
  lost : (what : What) (later : List What) → is_end_in what later ≡ true → is_ending_of number what later ≡ true
  lost what later e =
      ap (λ b. is_return_of number what later || (is_last_delivery_of number what || b)) e
      ∙ (ap (λ b. is_return_of number what later || b) (or_true (is_last_delivery_of number what)) ∙ or_true (is_return_of number what later))

  -- a record that makes a message over ends it
  says_ending : (what : What) (later : List What) (a b : Standing) → Leads number what later a b → b ≡ Over → (a ≡ Over) ⊎ (is_ending_of number what later ≡ true)
  says_ending what later _ _ (Accepted _ _ e) p = absurd (let q : Queued ≡ Over = p in cc)
  says_ending _ later _ _ (Delivered who words _ e) p = inr (go (is_waiting_kind (slice_index words 2)) refl p)
    where
      go : (b : Bool) → is_waiting_kind (slice_index words 2) ≡ b → (if b then Held else Over) ≡ Over → is_ending_of number (Reply who words) later ≡ true
      go true q r = absurd (let s : Held ≡ Over = r in cc)
      go false q r = (λ i. and_from (is_message_of number words) (not (is_waiting_kind (slice_index words 2))) e (ap not q) i || false)
  says_ending what later _ _ (Forwarded _ _ e) p = absurd (let q : Queued ≡ Over = p in cc)
  says_ending what later _ _ (Returned _ _ e) p = inr (λ i. e i || (is_last_delivery_of number what || is_end_in what later))
  says_ending what later _ _ (LostQueued _ _ e) p = inr (lost what later e)
  says_ending what later _ _ (LostHeld _ _ e) p = inr (lost what later e)
  says_ending what later _ _ (Stays _ _ a e) p = inl p

  later_ending : (what : What) (told : List What) → HasEnding number told → HasEnding number (what ∷ told)
  later_ending what told e = record {
    before = what ∷ e.before;
    what = e.what;
    later = e.later;
    here = ap (λ xs. what ∷ xs) e.here;
    ends = e.ends;
  }

  told_ending : (told : List What) (a b : Standing) → LeadInTurn number told a b → b ≡ Over → (a ≡ Over) ⊎ HasEnding number told
  unfolding LeadInTurn
  told_ending [] a b says over = inl (says ∙ over)
  told_ending (what ∷ told) a b says over = go (told_ending told says.0 b says.2 over)
    where
      here : (says.0 ≡ Over) → (a ≡ Over) ⊎ HasEnding number (what ∷ told)
      here e = by (says_ending what told a says.0 says.1 e)
        where
          by : (a ≡ Over) ⊎ (is_ending_of number what told ≡ true) → (a ≡ Over) ⊎ HasEnding number (what ∷ told)
          by (inl q) = inl q
          by (inr q) = inr (record { before = []; what = what; later = told; here = refl; ends = q })

      go : (says.0 ≡ Over) ⊎ HasEnding number told → (a ≡ Over) ⊎ HasEnding number (what ∷ told)
      go (inl e) = here e
      go (inr e) = inr (later_ending what told e)

-- ---- runs and histories

pub run_loses_nothing : (start : Machine) (moments : List Moment) → Matched start → IsRun start moments → NothingIsLost start moments
run_loses_nothing start moments h run number low = go last.0 refl last.1
  where
    last : (b : Standing) × Stands number (state_at start moments (length moments)) b
    last = some_standing number (state_at start moments (length moments)) (last_matched start moments h run)

    first : (a : Standing) × Stands number start a
    first = some_standing number start h

    ended : (a : Standing) → Stands number start a
        → (a ≡ Over) ⊎ HasEnding number (map (λ (rec : Rec). rec.what) (records_of start moments))
        → Stands number start Over ⊎ HasEnding number (map (λ (rec : Rec). rec.what) (records_of start moments))
    ended a stands (inl e) = inl (subst (Stands number start) e stands)
    ended a stands (inr e) = inr e

    go : (b : Standing) → last.0 ≡ b → Stands number (state_at start moments (length moments)) b
        → IsAtServer number (state_at start moments (length moments))
        ⊎ (Stands number start Over ⊎ HasEnding number (map (λ (rec : Rec). rec.what) (records_of start moments)))
    go Unsent e stands = absurd (omega (arith, stands, low))
    go Queued e stands = inl (inl stands)
    go Held e stands = inl (inr stands)
    go Over e stands =
        inr (ended first.0 first.1
        (told_ending number (map (λ (rec : Rec). rec.what) (records_of start moments)) first.0 Over
        (run_leads start moments h run number first.0 Over first.1 stands) refl))

pub history_loses_nothing : (events : List Event) (limit : ℕ) (start : Machine) → Matched start → NothingIsLost start (moments_of events limit start)
history_loses_nothing events limit start h = run_loses_nothing start (moments_of events limit start) h (history_is_run events limit start)
