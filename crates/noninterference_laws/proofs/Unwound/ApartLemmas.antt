-- A page that alone differs in two states differs alone after what a process does, where it stands before and after.
use Rattle.std.proofs.Common.{◌≡◌, ◌≢◌, ℕ, Bool, true, false, List, Option, Some, None, refl, sym, ap, ◌∙◌, inl, inr, subst}
use Rattle.std.specs.Option.{option_map}
use Rattle.std.proofs.lemmas.Option.{none-some}
use Rattle.xk_base.specs.declared.ids.Pid.{Pid}
use Rattle.xk_base.specs.declared.ids.Place.{Place}
use Rattle.xk_base.specs.declared.ids.ThreadId.{ThreadId}
use Rattle.ledger_model.specs.Lawful.{IsLawful}
use Rattle.ledger_model.specs.Ledger.{Bytes, Console, Contents, Homed, Ledger, Orphan, Orphaned, Page, PageName, contents_of}
use Rattle.ledger_model.specs.Loans.{bare}
use Rattle.ledger_model.specs.Steps.{zero_page}
use Rattle.machine_model.specs.Calling.Calls.{call}
use Rattle.machine_model.specs.Ending.Ends.{death, end_with_last_thread, has_threads, thread_ended}
use Rattle.machine_model.specs.Runs.Isolation.{IsNewPage, without_bytes}
use Rattle.machine_model.specs.Runs.Matched.{Matched}
use Rattle.machine_model.specs.State.Changes.{Change}
use Rattle.machine_model.specs.State.Machine.{Machine}
use Rattle.machine_model.specs.State.Threads.{put_thread}
use Rattle.confidentiality_laws.specs.EmptyPlaces.{MovesToEmptyPlaces}
use Rattle.confidentiality_laws.proofs.Carrying.EndLemmas.{death_through, thread_ended_through}
use Rattle.confidentiality_laws.proofs.Keeping.CallLemmas.{ledger_after}
use Rattle.confidentiality_laws.proofs.Keeping.CallStepLemmas.{call_keeps}
use Rattle.confidentiality_laws.proofs.Keeping.DeathLemmas.{death_keeps}
use Rattle.confidentiality_laws.proofs.Keeping.StandingPageLemmas.{stays}
use Rattle.confidentiality_laws.proofs.Ledgers.OtherBytesLemmas.{contents_through, page_through, through}
use Rattle.confidentiality_laws.proofs.Ledgers.PairLemmas.{both, both_first, both_second, first, first_zero_page, paired, second}
use Rattle.confidentiality_laws.proofs.Ledgers.PairLemmas.{second_zero_page, through_first, through_second}
use Rattle.confidentiality_laws.proofs.Spreading.CallLemmas.{both_lawful, both_matched}
use Rattle.noninterference_laws.proofs.Seeing.LedgerStepLemmas.{held_by, held_in}
use Rattle.noninterference_laws.proofs.Seeing.PairLemmas.{CarriesLedger, alike_through, through_held}
use Rattle.noninterference_laws.proofs.Seeing.SeenLemmas.{call_carries_ledger}
use Rattle.noninterference_laws.specs.SecretSum.{HoldSameBut}

-- where a page stands with other bytes, it stands
through_stands : (g : List ℕ → List ℕ) (l : Ledger) (place : Place) (page : Page) → (through g l).home place ≡ Some page
    → (old : Page) × (l.home place ≡ Some old)
unfolding through
through_stands g l place page e = go (l.home place) refl e
  where
    go : (o : Option Page) → l.home place ≡ o → option_map (page_through g) o ≡ Some page → (old : Page) × (l.home place ≡ Some old)
    go None q r = absurd (none-some page r)
    go (Some old) q r = (old, q)

-- what a page holds afterwards: the same in both, or what it held that the page comes from
data Source (from : PageName → Option PageName) (before after : Ledger) (page : PageName) : Type 0 where
  Alike : contents_of (through first after) page ≡ contents_of (through second after) page → Source from before after page
  Of : (old : PageName) → from page ≡ Some old → contents_of after page ≡ contents_of before old → Source from before after page

module _ (before after : Ledger) where
  both_hold : (page : PageName) (o : Option Contents) → contents_of after page ≡ o
      → option_map (contents_through first) o ≡ option_map (contents_through second) o
      → contents_of (through first after) page ≡ contents_of (through second after) page
  both_hold page o is same =
      through_held first after page
      ∙ (ap (option_map (contents_through first)) is
      ∙ (same ∙ (ap (option_map (contents_through second)) (sym is) ∙ sym (through_held second after page))))

  new_alike : (page : PageName) (new : Page) → contents_of after page ≡ Some new.contents → IsNewPage new
      → contents_of (through first after) page ≡ contents_of (through second after) page
  new_alike page new is fresh = elim fresh [
    | inl zeros ↦
        both_hold page (Some (Bytes zero_page)) (is ∙ ap (λ c. Some c) zeros) (ap (λ x. Some (Bytes x)) (first_zero_page ∙ sym second_zero_page))
    | inr console ↦ both_hold page (Some Console) (is ∙ ap (λ c. Some c) console) refl
  ]

  module _ (keeps : MovesToEmptyPlaces before after) where
    source : (page : PageName) → Source keeps.bytes.from before after page
    source (Homed p) = go (after.home p) refl
      where
        go : (o : Option Page) → after.home p ≡ o → Source keeps.bytes.from before after (Homed p)
        go None e = Alike (both_hold (Homed p) None (ap (option_map held_in) e) refl)
        go (Some page) e = elim (keeps.bytes.homes p page e) [
          | inl new ↦ Alike (new_alike (Homed p) page (ap (option_map held_in) e) new.2)
          | inr was ↦
              Of (Homed was.0) was.1
              (ap (option_map held_in) e ∙ (ap (λ c. Some c) was.2.same ∙ sym (ap (option_map held_in) was.2.stood)))
        ]
    source (Orphaned q) = go (after.orphan q) refl
      where
        go : (o : Option Orphan) → after.orphan q ≡ o → Source keeps.bytes.from before after (Orphaned q)
        go None e = Alike (both_hold (Orphaned q) None (ap (option_map held_by) e) refl)
        go (Some orphan) e = elim (keeps.bytes.orphans q orphan e) [
          | inl stayed ↦ Of (Orphaned q) stayed.0 (ap (option_map held_by) e ∙ sym (ap (option_map held_by) stayed.1))
          | inr was ↦
              Of (Homed was.0) was.1
              (ap (option_map held_by) e ∙ (ap (λ c. Some c) (sym was.2.same) ∙ sym (ap (option_map held_in) was.2.stood)))
        ]

    -- a page comes from one that stands before and after only where it is that
    own_source : (place : Place) (old now : Page) → before.home place ≡ Some old → after.home place ≡ Some now → (page : PageName)
        → keeps.bytes.from page ≡ Some (Homed place) → page ≡ Homed place
    own_source place old now stood stands page from = elim (keeps.standing place old stood) [
      | inl gone ↦ absurd (none-some now (sym gone ∙ stands))
      | inr own ↦ keeps.bytes.one_to_one page (Homed place) (Homed place) from own
    ]

module _ (place : Place) where
  module _ (a b : Ledger) (e : bare a ≡ bare b) (after : Ledger) (keeps : MovesToEmptyPlaces (paired a b) after)
      (same : HoldSameBut place a b) (old now : Page) (stood : a.home place ≡ Some old) (stands : (through first after).home place ≡ Some now) where
    of_old : (page : PageName) → page ≢ Homed place → (from : PageName) → keeps.bytes.from page ≡ Some from
        → contents_of after page ≡ contents_of (paired a b) from
        → contents_of (through first after) page ≡ contents_of (through second after) page
    of_old page other from is holds =
        alike_through first after (paired a b) page from holds
        ∙ (ap (λ l. contents_of l from) (through_first a b e)
        ∙ (same from apart
        ∙ (sym (ap (λ l. contents_of l from) (through_second a b e)) ∙ sym (alike_through second after (paired a b) page from holds))))
      where
        before : (page : Page) × ((paired a b).home place ≡ Some page)
        before = through_stands first (paired a b) place old (ap (λ (l : Ledger). l.home place) (through_first a b e) ∙ stood)

        later : (page : Page) × (after.home place ≡ Some page)
        later = through_stands first after place now stands

        apart : from ≢ Homed place
        apart it = other (own_source (paired a b) after keeps place before.0 later.0 before.1 later.1 page (is ∙ ap (λ x. Some x) it))

    by_source : (page : PageName) → page ≢ Homed place → Source keeps.bytes.from (paired a b) after page
        → contents_of (through first after) page ≡ contents_of (through second after) page
    by_source page other (Alike is) = is
    by_source page other (Of from is holds) = of_old page other from is holds

    paired_hold : HoldSameBut place (through first after) (through second after)
    paired_hold page other = by_source page other (source (paired a b) after keeps page)

  -- ---- what carries bytes as they are

  module _ (m n : Machine) (e : without_bytes m ≡ without_bytes n) (same : HoldSameBut place m.ledger n.ledger) (old : Page)
      (stood : m.ledger.home place ≡ Some old) where
    carried_hold : (f : Machine → Ledger) → CarriesLedger f → MovesToEmptyPlaces (both m n e).ledger (f (both m n e))
        → (now : Page) → (f m).home place ≡ Some now → HoldSameBut place (f m) (f n)
    carried_hold f carries keeps now stands =
        subst (λ l. HoldSameBut place l (f n)) one
        (subst (λ l. HoldSameBut place (through first (f (both m n e))) l) other
        (paired_hold m.ledger n.ledger (ap (λ (x : Machine). x.ledger) e) (f (both m n e)) keeps same old now stood
        (ap (λ (l : Ledger). l.home place) one ∙ stands)))
      where
        one : through first (f (both m n e)) ≡ f m
        one = carries first first_zero_page (both m n e) ∙ ap f (both_first m n e)

        other : through second (f (both m n e)) ≡ f n
        other = carries second second_zero_page (both m n e) ∙ ap f (both_second m n e)

    pub call_hold : Matched m → (w : List ℕ) (now : Page) → (ledger_after m (call m w)).home place ≡ Some now
        → HoldSameBut place (ledger_after m (call m w)) (ledger_after n (call n w))
    call_hold h w now stands =
        carried_hold (λ x. ledger_after x (call x w)) (call_carries_ledger w) (call_keeps (both m n e) w (both_matched m n e h)) now stands

    pub death_hold : IsLawful m.processes m.capacity m.ledger → (pid : Pid) (now : Page) → (death pid m).machine.ledger.home place ≡ Some now
        → HoldSameBut place (death pid m).machine.ledger (death pid n).machine.ledger
    death_hold lawful pid now stands =
        carried_hold (λ x. (death pid x).machine.ledger) (λ g zeros x. ap (λ (c : Change). c.machine.ledger) (death_through g pid x))
        (death_keeps pid (both m n e) (both_lawful m n e lawful)) now stands

    last_keeps : (others : Bool) (pid : Pid) (x : Machine) → IsLawful x.processes x.capacity x.ledger
        → MovesToEmptyPlaces x.ledger (end_with_last_thread others pid x).machine.ledger
    last_keeps true pid x lawful = stays x.ledger
    last_keeps false pid x lawful = death_keeps pid x lawful

    ended_keeps : (who : ThreadId) (a0 : ℕ) (x : Machine) → IsLawful x.processes x.capacity x.ledger
        → MovesToEmptyPlaces x.ledger (thread_ended who a0 x).machine.ledger
    unfolding thread_ended
    ended_keeps who a0 x lawful = last_keeps (has_threads (put_thread who None x) who.pid) who.pid (put_thread who None x) lawful

    pub ended_hold : IsLawful m.processes m.capacity m.ledger → (who : ThreadId) (a0 : ℕ) (now : Page)
        → (thread_ended who a0 m).machine.ledger.home place ≡ Some now
        → HoldSameBut place (thread_ended who a0 m).machine.ledger (thread_ended who a0 n).machine.ledger
    ended_hold lawful who a0 now stands =
        carried_hold (λ x. (thread_ended who a0 x).machine.ledger)
        (λ g zeros x. ap (λ (c : Change). c.machine.ledger) (thread_ended_through g who a0 x))
        (ended_keeps who a0 (both m n e) (both_lawful m n e lawful)) now stands
