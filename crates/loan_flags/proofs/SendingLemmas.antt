-- What may be sent, place by place.
use Rattle.std.proofs.Common.{◌≡◌, ℕ, ◌<◌, ◌≤◌, ◌^◌, Bool, true, false, ◌&&◌, Option, Some, None, Result, Ok, Err, refl, sym, ap, ◌∙◌, arith}
use Rattle.std.specs.Prelude.{is_some, not, if◌then◌else◌}
use Rattle.std.specs.List.{list_any}
use Rattle.std.proofs.lemmas.Bool.Decides.{nat_tests}
use Rattle.std.proofs.lemmas.Bool.{true≢false}
use Rattle.xk_base.specs.declared.errors.XousError.{XousError}
use Rattle.xk_base.specs.declared.errors.XousError.TheVariants.{BadAddress, ShareViolation}
use Rattle.xk_base.specs.declared.ids.Place.{Place}
use Rattle.xk_base.specs.declared.pages.LoanKind.{LoanKind}
use Rattle.xk_base.specs.declared.pages.LoanKind.TheVariants.{Exclusive}
use Rattle.xk_base.specs.Tables.Circle.{is_pid}
use Rattle.xk_base.specs.Numbers.Windows.{window_at}
use Rattle.phys_pages.specs.Ram.{RamBytes}
use Rattle.ledger_model.specs.Places.{place_after, run}
use Rattle.ledger_model.proofs.Runs.RunTestLemmas.{each_fails, none_passes, some_passes}
use Rattle.sv32_space.specs.declared.sides.Side.TheVariants.{Own, LentOut, LentIn, MutOut, MutIn}
use Rattle.sv32_space.specs.declared.sides.Entry.{Entry}
use Rattle.sv32_space.specs.declared.sides.Entry.TheVariants.{Free, At, OnConsole}
use Rattle.sv32_space.specs.Agreement.{right_in, seat_in}
use Rattle.sv32_space.specs.Entries.{Entries}
use Rattle.sv32_space.specs.EntryLedger.{is_free_entry}
use Rattle.sv32_space.specs.SpelledEntries.{entries}
use Rattle.loan_flags.specs.PageLoans.{IsLendable}
use Rattle.loan_flags.specs.Sending.{any_missing, any_unsendable, is_mutable, is_unsendable, mem_kind, send_answer}
use Rattle.sv32_space.proofs.EntryLemmas.{no_entry_elsewhere}

no_user : (b : Bool) (q : Place) → is_some (window_at q.vpn.0) ≡ false → (b && is_some (window_at q.vpn.0)) ≡ false
no_user true q e = e
no_user false q e = refl

-- no entry outside the windows
pub no_entry_outside : (procs : ℕ) (ram : RamBytes) (q : Place) → is_some (window_at q.vpn.0) ≡ false → entries procs ram q ≡ None
no_entry_outside procs ram q e = no_entry_elsewhere procs ram q (no_user (is_pid procs q.pid.0) q e)

-- .. nor past the address space
pub no_window : (v : ℕ) → 2 ^ 32 ≤ v → window_at v ≡ None
no_window v past = grind (arith, nat_tests)

pub no_entry_past : (procs : ℕ) (ram : RamBytes) (q : Place) → 2 ^ 32 ≤ q.vpn.0 → entries procs ram q ≡ None
no_entry_past procs ram q past = no_entry_outside procs ram q (ap is_some (no_window q.vpn.0 past))

-- ---- a test of the entries of a run

pub missing_found : (E : Entries) (first : Place) (n i : ℕ) → i < n → is_free_entry (E (place_after first i)) ≡ true → true ≡ any_missing E first n
unfolding any_missing
missing_found E first n i low t = sym (some_passes (λ p. is_free_entry (E p)) first n i low t)

pub none_missing : (E : Entries) (first : Place) (n : ℕ) → ((i : ℕ) → i < n → is_free_entry (E (place_after first i)) ≡ false) → false ≡ any_missing E first n
unfolding any_missing
none_missing E first n h = sym (none_passes (λ p. is_free_entry (E p)) first n h)

pub unsendable_found : (mutably : Bool) (E : Entries) (first : Place) (n i : ℕ) → i < n → is_unsendable mutably (E (place_after first i)) ≡ true
    → true ≡ any_unsendable mutably E first n
unfolding any_unsendable
unsendable_found mutably E first n i low t = sym (some_passes (λ p. is_unsendable mutably (E p)) first n i low t)

pub none_unsendable : (mutably : Bool) (E : Entries) (first : Place) (n : ℕ)
    → ((i : ℕ) → i < n → is_unsendable mutably (E (place_after first i)) ≡ false) → false ≡ any_unsendable mutably E first n
unfolding any_unsendable
none_unsendable mutably E first n h = sym (none_passes (λ p. is_unsendable mutably (E p)) first n h)

-- ---- what a run that may be sent is

own_entry : (mutably : Bool) (o : Option Entry) → is_free_entry o ≡ false → is_unsendable mutably o ≡ false
    → (o ≡ Some (At (Own (right_in o)) (seat_in o))) × (mutably ≡ true → (right_in o).w ≡ true)
own_entry mutably None f g = absurd (true≢false f)
own_entry mutably (Some Free) f g = absurd (true≢false f)
own_entry mutably (Some (At (Own right) s)) f g = (refl, λ m. has_w right.w (ap (λ b. b && not right.w) (sym m) ∙ g))
  where
    has_w : (w : Bool) → (true && not w) ≡ false → w ≡ true
    has_w true e = refl
    has_w false e = absurd (true≢false e)
own_entry mutably (Some (At (LentOut right) s)) f g = absurd (true≢false g)
own_entry mutably (Some (At LentIn s)) f g = absurd (true≢false g)
own_entry mutably (Some (At (MutOut x) s)) f g = absurd (true≢false g)
own_entry mutably (Some (At MutIn s)) f g = absurd (true≢false g)
own_entry mutably (Some (OnConsole w)) f g = absurd (true≢false g)

-- the two tests of an accepted send
abbrev send_tests : Bool → Bool → Result (Unit {0}) XousError
send_tests a b = if a then Err BadAddress else (if b then Err ShareViolation else Ok tt)

answer_parts : (a b : Bool) → send_tests a b ≡ Ok tt → (a ≡ false) × (b ≡ false)
answer_parts true b e = cc
answer_parts false true e = cc
answer_parts false false e = (refl, refl)

exclusive_is_mutable : (kind : LoanKind) → kind ≡ Exclusive → is_mutable (mem_kind kind) ≡ true
exclusive_is_mutable kind e = ap (λ k. is_mutable (mem_kind k)) e

-- each page of a run that may be sent in a loan of that kind may be lent so
pub sendable_lendable : (E : Entries) (from : Place) (n : ℕ) (kind : LoanKind) → send_answer E from n (mem_kind kind) ≡ Ok tt
    → (i : ℕ) → i < n → IsLendable E kind (place_after from i)
unfolding any_missing any_unsendable
sendable_lendable E from n kind may i low =
    let parts : (list_any (λ p. is_free_entry (E p)) (run from n) ≡ false) × (list_any (λ p. is_unsendable (is_mutable (mem_kind kind)) (E p)) (run from n) ≡ false) =
    answer_parts (list_any (λ p. is_free_entry (E p)) (run from n)) (list_any (λ p. is_unsendable (is_mutable (mem_kind kind)) (E p)) (run from n)) may in
    let own : (E (place_after from i) ≡ Some (At (Own (right_in (E (place_after from i)))) (seat_in (E (place_after from i)))))
    × (is_mutable (mem_kind kind) ≡ true → (right_in (E (place_after from i))).w ≡ true) =
    own_entry (is_mutable (mem_kind kind)) (E (place_after from i))
    (each_fails (λ p. is_free_entry (E p)) from n parts.0 i low)
    (each_fails (λ p. is_unsendable (is_mutable (mem_kind kind)) (E p)) from n parts.1 i low) in
    record { own = record { entry = own.0 }; writable = λ e. own.1 (exclusive_is_mutable kind e) }
