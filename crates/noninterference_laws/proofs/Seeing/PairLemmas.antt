-- Where the pages come from that others can load is the same in two states that are the same but for bytes.
use Rattle.std.proofs.Common.{◌≡◌, ℕ, Bool, true, false, List, Option, Some, None, refl, sym, ap, ◌∙◌}
use Rattle.std.specs.Option.{option_map}
use Rattle.xk_base.specs.declared.ids.Number.{Number}
use Rattle.xk_base.specs.declared.ids.Pid.{Pid}
use Rattle.xk_base.specs.declared.ids.Place.{Place}
use Rattle.ledger_model.specs.Ledger.{Bytes, Console, Contents, Homed, Ledger, Orphan, Orphaned, Page, PageName, contents_of, loan_of}
use Rattle.ledger_model.specs.Steps.{zero_page}
use Rattle.machine_model.specs.Messaging.LoanSets.{is_lent_by}
use Rattle.machine_model.specs.Runs.Isolation.{without_bytes}
use Rattle.machine_model.specs.State.Machine.{Machine}
use Rattle.confidentiality_laws.proofs.Ledgers.OtherBytesLemmas.{contents_through, machine_through, orphan_through, page_through, through}
use Rattle.confidentiality_laws.proofs.Ledgers.PairLemmas.{both, both_first, both_second, first, first_zero_page, second, second_zero_page}
use Rattle.noninterference_laws.specs.Handing.{lent_pages}
use Rattle.noninterference_laws.specs.Inside.{Group}
use Rattle.noninterference_laws.proofs.Seeing.LedgerStepLemmas.{Handed, Shown, Source, Sources, TheConsole, Zeros, held_by, held_in}
use Rattle.noninterference_laws.proofs.Seeing.ShownLemmas.{shows, shows_orphan, shows_page}

-- ---- with other bytes

module _ (g : List ℕ → List ℕ) where
  page_shows : (group : Group) (p : Place) (o : Option Page) → shows_page group p (option_map (page_through g) o) ≡ shows_page group p o
  page_shows group p None = refl
  page_shows group p (Some page) = refl

  orphan_shows : (group : Group) (p : Place) (o : Option Orphan) → shows_orphan group p (option_map (orphan_through g) o) ≡ shows_orphan group p o
  orphan_shows group p None = refl
  orphan_shows group p (Some orphan) = refl

  -- the same pages show
  pub shows_through : (group : Group) (l : Ledger) (page : PageName) → shows group (through g l) page ≡ shows group l page
  unfolding through
  shows_through group l (Homed p) = page_shows group p (l.home p)
  shows_through group l (Orphaned p) = orphan_shows group p (l.orphan p)

  loan_alike : (o : Option Page) → loan_of (option_map (page_through g) o) ≡ loan_of o
  loan_alike None = refl
  loan_alike (Some page) = refl

  -- .. and are on loan
  pub lent_through : (test : Number → Bool) (l : Ledger) (page : PageName) → lent_pages test (through g l) page ≡ lent_pages test l page
  unfolding through
  lent_through test l (Homed p) = ap (is_lent_by test) (loan_alike (l.home p))
  lent_through test l (Orphaned p) = refl

  page_held : (o : Option Page) → option_map held_in (option_map (page_through g) o) ≡ option_map (contents_through g) (option_map held_in o)
  page_held None = refl
  page_held (Some page) = refl

  orphan_held : (o : Option Orphan) → option_map held_by (option_map (orphan_through g) o) ≡ option_map (contents_through g) (option_map held_by o)
  orphan_held None = refl
  orphan_held (Some orphan) = refl

  pub through_held : (l : Ledger) (page : PageName) → contents_of (through g l) page ≡ option_map (contents_through g) (contents_of l page)
  unfolding through
  through_held l (Homed p) = page_held (l.home p)
  through_held l (Orphaned q) = orphan_held (l.orphan q)

  -- what holds what another held does with other bytes
  pub alike_through : (a b : Ledger) (page old : PageName) → contents_of a page ≡ contents_of b old
      → contents_of (through g a) page ≡ contents_of (through g b) old
  alike_through a b page old e = through_held a page ∙ (ap (option_map (contents_through g)) e ∙ sym (through_held b old))

-- ---- of two states

-- What a page holds afterwards in both that others can load: the same; what a page held in both that others could load before; or what
-- a page held in both that is handed over, where others could not load a page of its name.
pub data FromBoth (group : Group) (pid : Pid) (handed : PageName → Bool) (before other after other_after : Ledger) (page : PageName) : Type 0 where
  Alike : contents_of after page ≡ contents_of other_after page → FromBoth group pid handed before other after other_after page
  FromShown : (old : PageName) → shows group before old ≡ true → contents_of after page ≡ contents_of before old
      → contents_of other_after page ≡ contents_of other old → FromBoth group pid handed before other after other_after page
  FromHanded : shows group before page ≡ false → (old : PageName) → handed old ≡ true → (group pid.0 ≡ false → shows group before old ≡ true)
      → contents_of after page ≡ contents_of before old → contents_of other_after page ≡ contents_of other old
      → FromBoth group pid handed before other after other_after page

-- the step of ledgers carries bytes as they are
abbrev pub CarriesLedger : (Machine → Ledger) → Type 0
CarriesLedger f = (g : List ℕ → List ℕ) → g zero_page ≡ zero_page → (m : Machine) → through g (f m) ≡ f (machine_through g m)

-- the pages of a set are the same with other bytes
abbrev pub CarriesPages : (Machine → PageName → Bool) → Type 0
CarriesPages handed = (g : List ℕ → List ℕ) (m : Machine) (page : PageName) → handed (machine_through g m) page ≡ handed m page

module _ (group : Group) (pid : Pid) (f : Machine → Ledger) (carries : CarriesLedger f) (handed : Machine → PageName → Bool)
    (pages : CarriesPages handed) (m n : Machine) (e : without_bytes m ≡ without_bytes n) where
  abbrev two : Machine
  two = both m n e

  -- of the first and of the second it is what is of both
  is_first : through first (f two) ≡ f m
  is_first = carries first first_zero_page two ∙ ap f (both_first m n e)

  is_second : through second (f two) ≡ f n
  is_second = carries second second_zero_page two ∙ ap f (both_second m n e)

  was_first : through first two.ledger ≡ m.ledger
  was_first = ap (λ (x : Machine). x.ledger) (both_first m n e)

  was_second : through second two.ledger ≡ n.ledger
  was_second = ap (λ (x : Machine). x.ledger) (both_second m n e)

  shown : (page : PageName) → shows group two.ledger page ≡ shows group m.ledger page
  shown page = sym (shows_through first group two.ledger page) ∙ ap (λ l. shows group l page) was_first

  shown_after : (page : PageName) → shows group (f two) page ≡ shows group (f m) page
  shown_after page = sym (shows_through first group (f two) page) ∙ ap (λ l. shows group l page) is_first

  handed_same : (page : PageName) → handed two page ≡ handed m page
  handed_same page = sym (pages first two page) ∙ ap (λ x. handed x page) (both_first m n e)

  first_holds : (page old : PageName) → contents_of (f two) page ≡ contents_of two.ledger old → contents_of (f m) page ≡ contents_of m.ledger old
  first_holds page old same =
      sym (ap (λ l. contents_of l page) is_first)
      ∙ (alike_through first (f two) two.ledger page old same ∙ ap (λ l. contents_of l old) was_first)

  second_holds : (page old : PageName) → contents_of (f two) page ≡ contents_of two.ledger old → contents_of (f n) page ≡ contents_of n.ledger old
  second_holds page old same =
      sym (ap (λ l. contents_of l page) is_second)
      ∙ (alike_through second (f two) two.ledger page old same ∙ ap (λ l. contents_of l old) was_second)

  new_holds : (page : PageName) (c : Contents) → contents_of (f two) page ≡ Some c → contents_through first c ≡ contents_through second c
      → contents_of (f m) page ≡ contents_of (f n) page
  new_holds page c is same =
      sym (ap (λ l. contents_of l page) is_first)
      ∙ (through_held first (f two) page
      ∙ (ap (option_map (contents_through first)) is
      ∙ (ap (λ x. Some x) same
      ∙ (sym (ap (option_map (contents_through second)) is)
      ∙ (sym (through_held second (f two) page) ∙ ap (λ l. contents_of l page) is_second)))))

  by_source : (page : PageName) → Source group pid (handed two) two.ledger (f two) page
      → FromBoth group pid (handed m) m.ledger n.ledger (f m) (f n) page
  by_source page (Zeros is) = Alike (new_holds page (Bytes zero_page) is (ap (λ x. Bytes x) (first_zero_page ∙ sym second_zero_page)))
  by_source page (TheConsole is) = Alike (new_holds page Console is refl)
  by_source page (Shown old s same) = FromShown old (sym (shown old) ∙ s) (first_holds page old same) (second_holds page old same)
  by_source page (Handed hidden old is seen same) =
      FromHanded (sym (shown page) ∙ hidden) old (sym (handed_same old) ∙ is) (λ other. sym (shown old) ∙ seen other)
      (first_holds page old same) (second_holds page old same)

  pub from_both : Sources group pid (handed two) two.ledger (f two) → (page : PageName) → shows group (f m) page ≡ true
      → FromBoth group pid (handed m) m.ledger n.ledger (f m) (f n) page
  from_both sources page s = by_source page (sources page (shown_after page ∙ s))
