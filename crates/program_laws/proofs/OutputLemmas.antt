-- What is written of two histories that tell the same outside.
use Rattle.std.proofs.Common.{◌≡◌, ℕ, ◌++◌, Option, Some, None, refl, sym, ap, ◌∙◌}
use Rattle.std.specs.Prelude.{is_some, not, if◌then◌else◌}
use Rattle.std.specs.List.{flat_map}
use Rattle.std.specs.Option.{option_map}
use Rattle.xk_base.specs.declared.ids.Place.{Place}
use Rattle.event_text.specs.EventFile.{input_of}
use Rattle.ledger_model.specs.Ledger.{Bytes, Console, Contents, Ledger, Orphan, Page, has_bytes, loan_of}
use Rattle.ledger_model.specs.Listings.{home_places, orphan_places}
use Rattle.ledger_model.specs.Loans.{bare, bare_contents, bare_orphan, bare_page}
use Rattle.ledger_model.specs.Places.{first_place, listed_places}
use Rattle.ledger_model.specs.Reach.{Role, holder_role, home_or, is_held_at, lender_of, lent_role, orphan_or_holder, role_at}
use Rattle.page_views.specs.Here.{here_at, here_of, info_of_loan}
use Rattle.page_views.specs.declared.places.Here.TheVariants.{Own}
use Rattle.machine_model.specs.State.Machine.{Machine}
use Rattle.machine_laws.specs.History.{history}
use Rattle.noninterference_laws.specs.Inside.{Group, outside}
use Rattle.noninterference_laws.specs.TwoInsides.{TellTheSameOutside}
use Rattle.noninterference_laws.proofs.Running.HistoryLemmas.{histories_keep}
use Rattle.xk_kernel.specs.Start.{start}
use Rattle.xk_kernel.proofs.Starting.FirstLawfulLemmas.{start_of_plan_matched}
use Rattle.event_player.specs.History.{end_of, run_of}
use Rattle.event_player.specs.Table.{orphan_line, orphans_text, page_line, pages_text, table_of}
use Rattle.event_player.specs.Telling.{closing, last_line, told}
use Rattle.event_player.specs.declared.ending.Ending.{Ending}
use Rattle.event_player.specs.declared.ending.Ending.TheVariants.{LimitMet}
use Rattle.event_player.specs.declared.telling.Telling.{Telling}
use Rattle.event_player.specs.declared.telling.Telling.TheVariants.{Ledger as TellsLedger, Nothing, Run, Trace}
use Rattle.program_laws.specs.Exchanged.{HistoriesAreAlike, OutputsAreAlike}
use Rattle.program_laws.proofs.ExchangedStartLemmas.{starts_alike}

-- ---- the table needs no bytes

loan_bare : (o : Option Page) → loan_of (option_map bare_page o) ≡ loan_of o
loan_bare None = refl
loan_bare (Some page) = refl

lender_bare : (procs : ℕ) (l : Ledger) (p : Place) → lender_of procs (bare l) p ≡ lender_of procs l p
unfolding lender_of bare
lender_bare procs l p = λ i. first_place procs (λ q. is_held_at p (loan_bare (l.home q) i))

holder_bare : (l : Ledger) (o : Option Place) → holder_role (bare l) o ≡ holder_role l o
unfolding bare
holder_bare l None = refl
holder_bare l (Some home) = ap (lent_role home) (loan_bare (l.home home))

bytes_bare : (c : Contents) → has_bytes (bare_contents c) ≡ has_bytes c
bytes_bare Console = refl
bytes_bare (Bytes bytes) = refl

here_from : (home : Option Page) (orphan : Option Orphan) (role : Role)
    → here_of (home_or (option_map bare_page home) (orphan_or_holder (option_map bare_orphan orphan) role))
    ≡ here_of (home_or home (orphan_or_holder orphan role))
here_from (Some page) orphan role = ap (λ b. Own page.right (not b) (option_map info_of_loan page.loan)) (bytes_bare page.contents)
here_from None (Some orphan) role = refl
here_from None None role = refl

here_bare : (procs : ℕ) (l : Ledger) (p : Place) → here_at procs (bare l) p ≡ here_at procs l p
unfolding role_at bare
here_bare procs l p =
    ap (λ r. here_of (home_or (option_map bare_page (l.home p)) (orphan_or_holder (option_map bare_orphan (l.orphan p)) r)))
    (ap (holder_role (bare l)) (lender_bare procs l p) ∙ holder_bare l (lender_of procs l p))
    ∙ here_from (l.home p) (l.orphan p) (holder_role l (lender_of procs l p))

some_bare : {A B : Type 0} (f : A → B) (o : Option A) → is_some (option_map f o) ≡ is_some o
some_bare f None = refl
some_bare f (Some x) = refl

homes_bare : (procs : ℕ) (l : Ledger) → home_places procs (bare l) ≡ home_places procs l
unfolding home_places bare
homes_bare procs l = λ i. listed_places procs (λ p. some_bare bare_page (l.home p) i)

orphans_bare : (procs : ℕ) (l : Ledger) → orphan_places procs (bare l) ≡ orphan_places procs l
unfolding orphan_places bare
orphans_bare procs l = λ i. listed_places procs (λ p. some_bare bare_orphan (l.orphan p) i)

table_bare : (m : Machine) → table_of (record m { ledger = bare m.ledger }) ≡ table_of m
unfolding pages_text orphans_text
table_bare m =
    λ i. flat_map (λ place. page_line place (here_bare m.processes m.ledger place i)) (homes_bare m.processes m.ledger i)
    ++ flat_map (λ place. orphan_line place (here_bare m.processes m.ledger place i)) (orphans_bare m.processes m.ledger i)

module _ (group : Group) (m n : Machine) (e : outside group m ≡ outside group n) where
  table_outside : (x : Machine) → table_of (outside group x) ≡ table_of (record x { ledger = bare x.ledger })
  unfolding pages_text orphans_text
  table_outside x = refl

  table_alike : table_of m ≡ table_of n
  table_alike =
      sym (table_bare m) ∙ (sym (table_outside m) ∙ (ap table_of e ∙ (table_outside n ∙ table_bare n)))

  closing_alike : (tells : Telling) (ending : Ending) → closing tells m ending ≡ closing tells n ending
  closing_alike Trace ending = ap (λ (x : Machine). last_line x.steps ending) e
  closing_alike Run ending = refl
  closing_alike TellsLedger ending = λ i. table_alike i ++ last_line (e i).steps ending
  closing_alike Nothing ending = refl

-- ---- histories

pub histories_alike : HistoriesAreAlike
histories_alike group plan one other events limit exchanged =
    histories_keep group events limit (start plan one) (start plan other) (start_of_plan_matched plan one exchanged.lawful exchanged.can_start)
    (record { start = starts_alike group plan one other exchanged.differ; acts = exchanged.acts })

-- ---- what is written

pub outputs_alike : OutputsAreAlike
outputs_alike group plan one other events limit exchanged = record {
  written = λ tells. λ i. told tells (same.records i) ++ closed tells i;
  ended = ends;
}
  where
    same : TellTheSameOutside group (history (input_of events).events limit (start plan one)) (history (input_of events).events limit (start plan other))
    same = histories_alike group plan one other (input_of events).events limit exchanged

    ends : (run_of limit (start plan one) events).ending ≡ (run_of limit (start plan other) events).ending
    ends = ap (λ b. if b then LimitMet else end_of (input_of events).bad) same.met

    closed : (tells : Telling)
        → closing tells (run_of limit (start plan one) events).machine (run_of limit (start plan one) events).ending
        ≡ closing tells (run_of limit (start plan other) events).machine (run_of limit (start plan other) events).ending
    closed tells =
        closing_alike group (run_of limit (start plan one) events).machine (run_of limit (start plan other) events).machine same.last.outside tells
        (run_of limit (start plan one) events).ending
        ∙ ap (closing tells (run_of limit (start plan other) events).machine) ends
