-- What may be sent, by the entries of the pages: BadAddress where a place has no page, then ShareViolation where a page is on
-- loan on either side, is the console, or is to be lent mutably and has no w.
use Rattle.std.specs.Prelude.{ℕ, Bool, true, false, not, ◌&&◌, if◌then◌else◌, Option, Some, None, Result, Ok, Err}
use Rattle.std.specs.List.{list_any}
use Rattle.xk_base.specs.declared.errors.XousError.{XousError}
use Rattle.xk_base.specs.declared.errors.XousError.TheVariants.{BadAddress, ShareViolation}
use Rattle.xk_base.specs.declared.ids.Place.{Place}
use Rattle.xk_base.specs.declared.messages.MemKind.{MemKind}
use Rattle.xk_base.specs.declared.messages.MemKind.TheVariants.{LendMut, Lend, Move}
use Rattle.xk_base.specs.declared.pages.LoanKind.{LoanKind}
use Rattle.xk_base.specs.declared.pages.LoanKind.TheVariants.{Shared, Exclusive}
use Rattle.ledger_model.specs.Places.{run}
use Rattle.sv32_space.specs.declared.sides.Side.{Side}
use Rattle.sv32_space.specs.declared.sides.Side.TheVariants.{Own, LentOut, LentIn, MutOut, MutIn}
use Rattle.sv32_space.specs.declared.sides.Entry.{Entry}
use Rattle.sv32_space.specs.declared.sides.Entry.TheVariants.{Free, At, OnConsole}
use Rattle.sv32_space.specs.Entries.{Entries}
use Rattle.sv32_space.specs.EntryLedger.{is_free_entry}

-- a page with that side can't be sent
abbrev pub is_unsendable_side : Bool → Side → Bool
is_unsendable_side mutably (Own right) = mutably && not right.w
is_unsendable_side mutably (LentOut right) = true
is_unsendable_side mutably LentIn = true
is_unsendable_side mutably (MutOut x) = true
is_unsendable_side mutably MutIn = true

-- .. with that entry
abbrev pub is_unsendable : Bool → Option Entry → Bool
is_unsendable mutably None = false
is_unsendable mutably (Some Free) = false
is_unsendable mutably (Some (At side seat)) = is_unsendable_side mutably side
is_unsendable mutably (Some (OnConsole w)) = true

-- a place of the run has no page
unfoldable pub any_missing : Entries → Place → ℕ → Bool
any_missing E first n = list_any (λ p. is_free_entry (E p)) (run first n)

-- a page of the run can't be sent
unfoldable pub any_unsendable : Bool → Entries → Place → ℕ → Bool
any_unsendable mutably E first n = list_any (λ p. is_unsendable mutably (E p)) (run first n)

abbrev pub is_mutable : MemKind → Bool
is_mutable LendMut = true
is_mutable Lend = false
is_mutable Move = false

-- the message that makes a loan of that kind
abbrev pub mem_kind : LoanKind → MemKind
mem_kind Shared = Lend
mem_kind Exclusive = LendMut

-- each test is made of all pages before the next
abbrev pub send_answer : Entries → Place → ℕ → MemKind → Result (Unit {0}) XousError
send_answer E from n kind =
    if any_missing E from n then Err BadAddress else (
    if any_unsendable (is_mutable kind) E from n then Err ShareViolation else Ok tt)
