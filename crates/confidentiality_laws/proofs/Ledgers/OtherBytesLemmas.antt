-- A ledger with other bytes in the same pages: the bytes of each page through a function. Without its bytes it is the same.
use Rattle.std.proofs.Common.{◌≡◌, ℕ, List, [], Option, Some, None, refl, ap, sym, ◌∙◌}
use Rattle.std.specs.Option.{option_map}
use Rattle.ledger_model.specs.Ledger.{Ledger, Contents, Console, Bytes, Orphan, Page}
use Rattle.ledger_model.specs.Loans.{bare, bare_contents, bare_orphan, bare_page}
use Rattle.ledger_model.proofs.LedgerLemmas.{same_ledger}
use Rattle.machine_model.specs.Runs.Isolation.{without_bytes}
use Rattle.machine_model.specs.State.Machine.{Machine}

abbrev pub contents_through : (List ℕ → List ℕ) → Contents → Contents
contents_through g Console = Console
contents_through g (Bytes bytes) = Bytes (g bytes)

abbrev pub page_through : (List ℕ → List ℕ) → Page → Page
page_through g page = record page { contents = contents_through g page.contents }

abbrev pub orphan_through : (List ℕ → List ℕ) → Orphan → Orphan
orphan_through g orphan = record orphan { bytes = g orphan.bytes }

unfoldable pub through : (List ℕ → List ℕ) → Ledger → Ledger
through g ledger = record {
  home = λ p. option_map (page_through g) (ledger.home p);
  orphan = λ p. option_map (orphan_through g) (ledger.orphan p);
}

abbrev pub machine_through : (List ℕ → List ℕ) → Machine → Machine
machine_through g m = record m { ledger = through g m.ledger }

-- ---- without its bytes it is the same

module _ (g : List ℕ → List ℕ) where
  contents_bare : (c : Contents) → bare_contents (contents_through g c) ≡ bare_contents c
  contents_bare Console = refl
  contents_bare (Bytes bytes) = refl

  page_bare : (o : Option Page) → option_map bare_page (option_map (page_through g) o) ≡ option_map bare_page o
  page_bare None = refl
  page_bare (Some page) = ap (λ c. Some (record page { contents = c })) (contents_bare page.contents)

  orphan_bare : (o : Option Orphan) → option_map bare_orphan (option_map (orphan_through g) o) ≡ option_map bare_orphan o
  orphan_bare None = refl
  orphan_bare (Some orphan) = refl

  pub bare_through : (l : Ledger) → bare (through g l) ≡ bare l
  unfolding bare through
  bare_through l = same_ledger (bare (through g l)) (bare l) (λ p. page_bare (l.home p)) (λ p. orphan_bare (l.orphan p))

-- ---- no bytes at all

abbrev pub no_bytes : List ℕ → List ℕ
no_bytes bytes = []

pub bare_is : (l : Ledger) → bare l ≡ through no_bytes l
unfolding bare through
bare_is l = refl

pub without_is : (m : Machine) → without_bytes m ≡ machine_through no_bytes m
without_is m = ap (λ l. record m { ledger = l }) (bare_is m.ledger)

pub through_twice : (g : List ℕ → List ℕ) (l : Ledger) → through no_bytes (through g l) ≡ through no_bytes l
through_twice g l = sym (bare_is (through g l)) ∙ (bare_through g l ∙ bare_is l)

-- machines that are the same without bytes
pub alike_through : (m n : Machine) → without_bytes m ≡ without_bytes n
    → machine_through no_bytes m ≡ machine_through no_bytes n
alike_through m n e = sym (without_is m) ∙ (e ∙ without_is n)

pub alike_without : (m n : Machine) → machine_through no_bytes m ≡ machine_through no_bytes n
    → without_bytes m ≡ without_bytes n
alike_without m n e = without_is m ∙ (e ∙ sym (without_is n))
