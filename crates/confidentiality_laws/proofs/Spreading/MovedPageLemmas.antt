-- Where no byte is changed, what differs between two ledgers after it is what differed before.
use Rattle.std.proofs.Common.{◌≡◌, ℕ, List, ◌⊎◌, Option, Some, None, refl, sym, ap, ◌∙◌, inl, inr, subst}
use Rattle.std.specs.Option.{option_map}
use Rattle.ledger_model.specs.Ledger.{Ledger, Contents, Console, Bytes, Orphan, Page, PageName, Homed, Orphaned, contents_of}
use Rattle.ledger_model.specs.Loans.{bare}
use Rattle.ledger_model.specs.Steps.{zero_page}
use Rattle.machine_model.specs.Runs.Isolation.{ChangesNoByte, without_bytes}
use Rattle.machine_model.specs.State.Machine.{Machine}
use Rattle.confidentiality_laws.specs.Differences.{HoldsWhat, OnlyMovesDifferences}
use Rattle.confidentiality_laws.proofs.Ledgers.OtherBytesLemmas.{contents_through, machine_through, orphan_through, page_through, through}
use Rattle.confidentiality_laws.proofs.Ledgers.PairLemmas.{both, both_first, both_second, first, first_zero_page, paired, second}
use Rattle.confidentiality_laws.proofs.Ledgers.PairLemmas.{second_zero_page, through_first, through_second}

-- ---- where a page comes from

-- no page stands there, or it is new, or it has what a page held before
data Origin (before after : Ledger) (page : PageName) : Type 0 where
  Nothing : contents_of after page ≡ None → Origin before after page
  Zeros : contents_of after page ≡ Some (Bytes zero_page) → Origin before after page
  TheConsole : contents_of after page ≡ Some Console → Origin before after page
  From : (old : PageName) → contents_of after page ≡ contents_of before old → Origin before after page

abbrev held : Page → Contents
held page = page.contents

abbrev held_by : Orphan → Contents
held_by orphan = Bytes orphan.bytes

module _ (before after : Ledger) (keeps : ChangesNoByte before after) where
  origin_of : (page : PageName) → Origin before after page
  origin_of (Homed p) = go (after.home p) refl
    where
      go : (o : Option Page) → after.home p ≡ o → Origin before after (Homed p)
      go None e = Nothing (ap (option_map held) e)
      go (Some page) e = elim (keeps.homes p page e) [
        | inl new ↦ elim (new.2) [
          | inl zeros ↦ Zeros (ap (option_map held) e ∙ ap (λ c. Some c) zeros)
          | inr console ↦ TheConsole (ap (option_map held) e ∙ ap (λ c. Some c) console)
        ]
        | inr was ↦
            From (Homed was.0) (ap (option_map held) e ∙ (ap (λ c. Some c) was.2.same ∙ sym (ap (option_map held) was.2.stood)))
      ]
  origin_of (Orphaned q) = go (after.orphan q) refl
    where
      go : (o : Option Orphan) → after.orphan q ≡ o → Origin before after (Orphaned q)
      go None e = Nothing (ap (option_map held_by) e)
      go (Some orphan) e = elim (keeps.orphans q orphan e) [
        | inl stayed ↦ From (Orphaned q) (ap (option_map held_by) e ∙ sym (ap (option_map held_by) stayed.1))
        | inr was ↦
            From (Homed was.0)
            (ap (option_map held_by) e ∙ (ap (λ c. Some c) (sym was.2.same) ∙ sym (ap (option_map held) was.2.stood)))
      ]

-- ---- two ledgers as one

page_held : (g : List ℕ → List ℕ) (o : Option Page)
    → option_map held (option_map (page_through g) o) ≡ option_map (contents_through g) (option_map held o)
page_held g None = refl
page_held g (Some page) = refl

orphan_held : (g : List ℕ → List ℕ) (o : Option Orphan)
    → option_map held_by (option_map (orphan_through g) o) ≡ option_map (contents_through g) (option_map held_by o)
orphan_held g None = refl
orphan_held g (Some orphan) = refl

through_held : (g : List ℕ → List ℕ) (l : Ledger) (page : PageName)
    → contents_of (through g l) page ≡ option_map (contents_through g) (contents_of l page)
unfolding through
through_held g l (Homed p) = page_held g (l.home p)
through_held g l (Orphaned q) = orphan_held g (l.orphan q)

module _ (a b : Ledger) (e : bare a ≡ bare b) (after : Ledger) where
  -- what both hold where the one of both holds this
  both_hold : (page : PageName) (c : Option Contents) → contents_of after page ≡ c
      → option_map (contents_through first) c ≡ option_map (contents_through second) c
      → contents_of (through first after) page ≡ contents_of (through second after) page
  both_hold page c is same =
      through_held first after page
      ∙ (ap (option_map (contents_through first)) is
      ∙ (same ∙ (ap (option_map (contents_through second)) (sym is) ∙ sym (through_held second after page))))

  by_origin : (page : PageName) → Origin (paired a b) after page
      → (contents_of (through first after) page ≡ contents_of (through second after) page)
      ⊎ ((old : PageName) × HoldsWhat a b (through first after) (through second after) page old)
  by_origin page (Nothing is) = inl (both_hold page None is refl)
  by_origin page (Zeros is) =
      inl (both_hold page (Some (Bytes zero_page)) is (ap (λ x. Some (Bytes x)) (first_zero_page ∙ sym second_zero_page)))
  by_origin page (TheConsole is) = inl (both_hold page (Some Console) is refl)
  by_origin page (From old is) = inr (
    old,
    record {
      here =
          through_held first after page
          ∙ (ap (option_map (contents_through first)) is
          ∙ (sym (through_held first (paired a b) old) ∙ ap (λ l. contents_of l old) (through_first a b e)));
      there =
          through_held second after page
          ∙ (ap (option_map (contents_through second)) is
          ∙ (sym (through_held second (paired a b) old) ∙ ap (λ l. contents_of l old) (through_second a b e)));
    },
  )

  paired_moves : ChangesNoByte (paired a b) after → OnlyMovesDifferences a b (through first after) (through second after)
  paired_moves keeps page = by_origin page (origin_of (paired a b) after keeps page)

-- ---- what carries bytes as they are, and changes none

abbrev pub CarriesLedger : (Machine → Ledger) → Type 0
CarriesLedger f = (g : List ℕ → List ℕ) → g zero_page ≡ zero_page → (m : Machine) → through g (f m) ≡ f (machine_through g m)

pub carried_moves : (f : Machine → Ledger) → CarriesLedger f → (m n : Machine) (e : without_bytes m ≡ without_bytes n)
    → ChangesNoByte (both m n e).ledger (f (both m n e)) → OnlyMovesDifferences m.ledger n.ledger (f m) (f n)
carried_moves f carries m n e keeps =
    subst (λ l. OnlyMovesDifferences m.ledger n.ledger l (f n))
    (carries first first_zero_page (both m n e) ∙ ap f (both_first m n e))
    (subst (λ l. OnlyMovesDifferences m.ledger n.ledger (through first (f (both m n e))) l)
    (carries second second_zero_page (both m n e) ∙ ap f (both_second m n e))
    (paired_moves m.ledger n.ledger (ap (λ (x : Machine). x.ledger) e) (f (both m n e)) keeps))

-- ledgers that stay
pub stay_moves : (a b : Ledger) → OnlyMovesDifferences a b a b
stay_moves a b page = inr (page, record { here = refl; there = refl })
