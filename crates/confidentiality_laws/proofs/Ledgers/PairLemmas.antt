-- Two ledgers that are the same but for bytes as one: each page holds the bytes of both, and gives back those of either.
use Rattle.std.proofs.Common.{◌≡◌, ℕ, zero, suc, List, [], ◌∷◌, ◌++◌, length, take, drop, replicate, Option, Some, None, refl, sym, ap}
use Rattle.std.specs.Prelude.{◌==◌, if◌then◌else◌}
use Rattle.std.specs.Option.{option_map}
use Rattle.std.proofs.Math.Seq.{take-append_seam, drop-append_seam}
use Rattle.std.proofs.lemmas.Option.{none-some, same_Some}
use Rattle.ledger_model.specs.Ledger.{Ledger, Contents, Console, Bytes, Orphan, Page}
use Rattle.ledger_model.specs.Loans.{bare, bare_contents, bare_orphan, bare_page}
use Rattle.ledger_model.specs.Steps.{zero_page}
use Rattle.ledger_model.proofs.LedgerLemmas.{same_ledger}
use Rattle.machine_model.specs.Runs.Isolation.{without_bytes}
use Rattle.machine_model.specs.State.Machine.{Machine}
use Rattle.confidentiality_laws.proofs.Ledgers.OtherBytesLemmas.{contents_through, machine_through, orphan_through, page_through, through}

-- ---- bytes

-- a mark, the length of the first, and the bytes of both
abbrev pair : List ℕ → List ℕ → List ℕ
pair x y = 1 ∷ length x ∷ (x ++ y)

abbrev first_part : List ℕ → List ℕ
first_part [] = []
first_part (n ∷ bytes) = take n bytes

abbrev second_part : List ℕ → List ℕ
second_part [] = []
second_part (n ∷ bytes) = drop n bytes

-- the first and the second of a pair; zeros are no pair, and stay
abbrev pub first : List ℕ → List ℕ
first [] = []
first (b ∷ bytes) = if b == 0 then b ∷ bytes else first_part bytes

abbrev pub second : List ℕ → List ℕ
second [] = []
second (b ∷ bytes) = if b == 0 then b ∷ bytes else second_part bytes

first_of : (x y : List ℕ) → first (pair x y) ≡ x
first_of x y = take-append_seam x y

second_of : (x y : List ℕ) → second (pair x y) ≡ y
second_of x y = drop-append_seam x y

first_zeros : (n : ℕ) → first (replicate n 0) ≡ replicate n 0
first_zeros zero = refl
first_zeros (suc n) = refl

second_zeros : (n : ℕ) → second (replicate n 0) ≡ replicate n 0
second_zeros zero = refl
second_zeros (suc n) = refl

pub first_zero_page : first zero_page ≡ zero_page
unfolding zero_page
first_zero_page = first_zeros 4096

pub second_zero_page : second zero_page ≡ zero_page
unfolding zero_page
second_zero_page = second_zeros 4096

-- ---- pages

abbrev pair_contents : Contents → Contents → Contents
pair_contents Console d = Console
pair_contents (Bytes x) Console = Console
pair_contents (Bytes x) (Bytes y) = Bytes (pair x y)

abbrev pub pair_page : Option Page → Option Page → Option Page
pair_page None b = None
pair_page (Some x) None = None
pair_page (Some x) (Some y) = Some (record x { contents = pair_contents x.contents y.contents })

abbrev pair_orphan : Option Orphan → Option Orphan → Option Orphan
pair_orphan None b = None
pair_orphan (Some x) None = None
pair_orphan (Some x) (Some y) = Some (record x { bytes = pair x.bytes y.bytes })

unfoldable pub paired : Ledger → Ledger → Ledger
paired a b = record {
  home = λ p. pair_page (a.home p) (b.home p);
  orphan = λ p. pair_orphan (a.orphan p) (b.orphan p);
}

first_contents : (c d : Contents) → bare_contents c ≡ bare_contents d → contents_through first (pair_contents c d) ≡ c
first_contents Console d e = refl
first_contents (Bytes x) Console e = absurd (cc)
first_contents (Bytes x) (Bytes y) e = ap (λ b. Bytes b) (first_of x y)

second_contents : (c d : Contents) → bare_contents c ≡ bare_contents d → contents_through second (pair_contents c d) ≡ d
second_contents Console Console e = refl
second_contents Console (Bytes y) e = absurd (cc)
second_contents (Bytes x) Console e = absurd (cc)
second_contents (Bytes x) (Bytes y) e = ap (λ b. Bytes b) (second_of x y)

first_page : (a b : Option Page) → option_map bare_page a ≡ option_map bare_page b
    → option_map (page_through first) (pair_page a b) ≡ a
first_page None b e = refl
first_page (Some x) None e = absurd (none-some (bare_page x) (sym e))
first_page (Some x) (Some y) e =
    let same : bare_page x ≡ bare_page y = same_Some (bare_page x) (bare_page y) e in
    ap (λ c. Some (record x { contents = c })) (first_contents x.contents y.contents (ap (λ (q : Page). q.contents) same))

second_page : (a b : Option Page) → option_map bare_page a ≡ option_map bare_page b
    → option_map (page_through second) (pair_page a b) ≡ b
second_page None None e = refl
second_page None (Some y) e = absurd (none-some (bare_page y) e)
second_page (Some x) None e = absurd (none-some (bare_page x) (sym e))
second_page (Some x) (Some y) e =
    let same : bare_page x ≡ bare_page y = same_Some (bare_page x) (bare_page y) e in
    let held : contents_through second (pair_contents x.contents y.contents) ≡ y.contents =
    second_contents x.contents y.contents (ap (λ (q : Page). q.contents) same) in
    λ i. Some (record { right = (same i).right; contents = held i; loan = (same i).loan })

first_orphan : (a b : Option Orphan) → option_map bare_orphan a ≡ option_map bare_orphan b
    → option_map (orphan_through first) (pair_orphan a b) ≡ a
first_orphan None b e = refl
first_orphan (Some x) None e = absurd (none-some (bare_orphan x) (sym e))
first_orphan (Some x) (Some y) e = ap (λ b. Some (record x { bytes = b })) (first_of x.bytes y.bytes)

second_orphan : (a b : Option Orphan) → option_map bare_orphan a ≡ option_map bare_orphan b
    → option_map (orphan_through second) (pair_orphan a b) ≡ b
second_orphan None None e = refl
second_orphan None (Some y) e = absurd (none-some (bare_orphan y) e)
second_orphan (Some x) None e = absurd (none-some (bare_orphan x) (sym e))
second_orphan (Some x) (Some y) e =
    let same : bare_orphan x ≡ bare_orphan y = same_Some (bare_orphan x) (bare_orphan y) e in
    let held : second (pair x.bytes y.bytes) ≡ y.bytes = second_of x.bytes y.bytes in
    λ i. Some (record { kind = (same i).kind; bytes = held i; number = (same i).number })

-- ---- ledgers and machines

module _ (a b : Ledger) (e : bare a ≡ bare b) where
  pub through_first : through first (paired a b) ≡ a
  unfolding through paired bare
  through_first =
      same_ledger (through first (paired a b)) a (λ p. first_page (a.home p) (b.home p) (ap (λ (l : Ledger). l.home p) e))
      (λ p. first_orphan (a.orphan p) (b.orphan p) (ap (λ (l : Ledger). l.orphan p) e))

  pub through_second : through second (paired a b) ≡ b
  unfolding through paired bare
  through_second =
      same_ledger (through second (paired a b)) b (λ p. second_page (a.home p) (b.home p) (ap (λ (l : Ledger). l.home p) e))
      (λ p. second_orphan (a.orphan p) (b.orphan p) (ap (λ (l : Ledger). l.orphan p) e))

module _ (m n : Machine) (e : without_bytes m ≡ without_bytes n) where
  abbrev pub both : Machine
  both = record m { ledger = paired m.ledger n.ledger }

  alike : bare m.ledger ≡ bare n.ledger
  alike = ap (λ (x : Machine). x.ledger) e

  pub both_first : machine_through first both ≡ m
  both_first = λ i. record m { ledger = through_first m.ledger n.ledger alike i }

  pub both_second : machine_through second both ≡ n
  both_second = λ i. record (e i) { ledger = through_second m.ledger n.ledger alike i }
