-- What a store writes: bytes within one page, which leave the loans and the homes as they are.
use Rattle.std.proofs.Common.{◌≡◌, ℕ, zero, suc, ◌+◌, ◌<◌, ◌≤◌, List, length, Option, Some, None, refl, sym, ap, arith}
use Rattle.std.specs.Prelude.{◌%◌, ◌/◌, ◌^◌}
use Rattle.std.specs.Int.{bytes_low_first, byte_at}
use Rattle.std.specs.List.{All}
use Rattle.std.specs.Option.{option_map}
use Rattle.std.proofs.lemmas.List.Elements.{All-nil, All-cons}
use Rattle.std.proofs.lemmas.Option.{none-some}
use Rattle.xk_base.specs.declared.ids.Pid.{Pid}
use Rattle.xk_base.specs.declared.ids.Place.{Place}
use Rattle.xk_base.specs.declared.pages.Access.TheVariants.{Store}
use Rattle.xk_base.specs.declared.pages.Width.{Width}
use Rattle.xk_base.specs.declared.pages.Width.TheVariants.{Byte, Half, Word}
use Rattle.xk_base.specs.UserMemory.{size_of, low_bytes}
use Rattle.ledger_model.specs.Conditions.{CanWrite}
use Rattle.ledger_model.specs.Ledger.{Ledger, Page, PageName}
use Rattle.ledger_model.specs.Loans.{bare, bare_page}
use Rattle.ledger_model.specs.Steps.{write}
use Rattle.ledger_model.proofs.Stepping.WritingLemmas.{write_bare, write_loans, write_lawful}
use Rattle.machine_model.specs.State.Machine.{Machine}
use Rattle.machine_model.specs.Runs.Matched.{Matched}
use Rattle.machine_model.specs.State.Views.{page_reached}
use Rattle.xk_base.specs.Numbers.Windows.{page_of}
use Rattle.machine_laws.proofs.Calling.PageChangeLemmas.{IsLikeLedger, stands_now}

-- ---- the bytes

byte_at-below : (i n : ℕ) → byte_at i n < 256
byte_at-below zero n = omega arith
byte_at-below (suc i) n = below_256 (n / 256 ^ suc i)
  where
    below_256 : (k : ℕ) → k % 256 < 256
    below_256 k = omega arith

length_of : (i k n : ℕ) → length (bytes_low_first i k n) ≡ k
length_of i zero n = refl
length_of i (suc k) n = ap suc (length_of (suc i) k n)

pub each_of : (i k n : ℕ) → All (λ b. b < 256) (bytes_low_first i k n)
each_of i zero n = All-nil (λ b. b < 256)
each_of i (suc k) n = All-cons (λ b. b < 256) (byte_at i n) (bytes_low_first (suc i) k n) (byte_at-below i n) (each_of (suc i) k n)

-- a width that the address is a multiple of ends within the page
width_fits : (width : Width) (address : ℕ) → address % size_of width ≡ 0 → address % 4096 + size_of width ≤ 4096
width_fits Byte address e = omega arith
width_fits Half address e = omega arith
width_fits Word address e = omega arith

pub bytes_fit : (width : Width) (address value : ℕ) → address % size_of width ≡ 0
    → address % 4096 + length (low_bytes width value) ≤ 4096
bytes_fit width address value e =
    let n : length (low_bytes width value) ≡ size_of width = length_of 0 (size_of width) value in
    let fits : address % 4096 + size_of width ≤ 4096 = width_fits width address e in
    omega arith

-- the store may write them
abbrev pub may_store : (m : Machine) (pid : Pid) (address : ℕ) (width : Width) (value : ℕ) (page : PageName)
    → page_reached m pid Store address ≡ Some page → address % size_of width ≡ 0
    → CanWrite m.processes m.ledger page (address % 4096) (low_bytes width value)
may_store m pid address width value page e al = record {
  place = page_of pid address;
  reached = e;
  fits = bytes_fit width address value al;
  each = each_of 0 (size_of width) value;
}

-- ---- the ledger

bare_stood : (a b : Option Page) → option_map bare_page a ≡ option_map bare_page b → (page : Page) → a ≡ Some page
    → (q : Page) × (b ≡ Some q)
bare_stood None b e page q = absurd (none-some page q)
bare_stood (Some v) None e page q = absurd (none-some (bare_page v) (sym e))
bare_stood (Some v) (Some u) e page q = (u, refl)

write_stood : (page : PageName) (offset : ℕ) (bytes : List ℕ) (l : Ledger) (p : Place) (new : Page)
    → (write page offset bytes l).home p ≡ Some new → (old : Page) × (l.home p ≡ Some old)
unfolding bare
write_stood page offset bytes l p new e =
    bare_stood ((write page offset bytes l).home p) (l.home p) (ap (λ (b : Ledger). b.home p) (write_bare page offset bytes l)) new e

pub like_written : (m : Machine) (page : PageName) (offset : ℕ) (bytes : List ℕ) → Matched m
    → CanWrite m.processes m.ledger page offset bytes → IsLikeLedger m (write page offset bytes m.ledger)
like_written m page offset bytes h can = record {
  lawful = write_lawful m.processes m.capacity page offset bytes m.ledger h.body.ledger.lawful can;
  same = write_loans page offset bytes m.ledger;
  stand = λ p new e. let old = write_stood page offset bytes m.ledger p new e in stands_now m h p old.0 old.1;
}
