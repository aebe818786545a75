-- The small memory of `small_space`: one process, the frames 21 to 63, and 16 slots.
use Rattle.std.proofs.Common.{◌≡◌, ℕ, ◌≤◌, true, Some, None, refl, sym, ap, subst, ◌∙◌, arith}
use Rattle.std.proofs.lemmas.Bool.{and_parts}
use Rattle.std.proofs.lemmas.Bool.Decides.{nat_tests}
use Rattle.std.proofs.lemmas.Option.{none-some}
use Rattle.xk_base.specs.Tables.Circle.{is_pid}
use Rattle.xk_base.specs.declared.ids.Number.{Number}
use Rattle.xk_base.specs.declared.ids.Place.{Place}
use Rattle.xk_base.specs.declared.ids.Vpn.{Vpn}
use Rattle.xk_base.specs.declared.windows.Window.TheVariants.{Message}
use Rattle.xk_base.specs.declared.pages.Right.{Right}
use Rattle.phys_pages.specs.declared.infos.Seat.{Seat}
use Rattle.phys_pages.specs.Owners.{Extent, OwnerTable, extent, infos, no_infos}
use Rattle.phys_pages.specs.Ram.{RamBytes, area}
use Rattle.ledger_model.specs.Loans.{LoanRun, Stands, bare}
use Rattle.ledger_model.specs.Places.{in_run, is_place_in, is_user_place}
use Rattle.ledger_model.proofs.Stepping.WritingLemmas.{bare-loans}
use Rattle.sv32_space.specs.Agreement.{Agrees, Infos, on_loan, owned_by, procs_of}
use Rattle.sv32_space.specs.declared.sides.Entry.TheVariants.{At, Free}
use Rattle.sv32_space.specs.declared.sides.Side.TheVariants.{Own}
use Rattle.sv32_space.specs.EntryLoans.{IsUnlent, StandsIn}
use Rattle.sv32_space.specs.PageChanges.{with_entry, with_info}
use Rattle.sv32_space.specs.Spaces.{IsMade, root_at}
use Rattle.sv32_space.specs.SpelledEntries.{entries}
use Rattle.sv32_space.specs.Tie.{Held, agrees, bytes_at, ledger_in}
use Rattle.sv32_space.proofs.Agreeing.EmptyAgreementLemmas.{empty_agrees}
use Rattle.sv32_space.proofs.Agreeing.LoanStandingLemmas.{in_stands, stands_in}
use Rattle.sv32_space.proofs.Agreeing.PageAgreementLemmas.{make_agrees}
use Rattle.sv32_space.proofs.EntryLemmas.{no_entry_elsewhere}
use Rattle.loan_flags.specs.FreeRuns.{least_free}
use Rattle.loan_flags.specs.Keeping.{Tables, entries_of, tables}
use Rattle.loan_flags.proofs.FreeRunLemmas.{least_frees, least_lies}
use Rattle.loan_flags.proofs.PageChangeLemmas.{SetsEntry, agrees_after}

abbrev pub small : Extent
small = record { first = 21; frames = 43; slots = 16 }

-- the one process
only : (pid : ℕ) → is_pid 1 pid ≡ true → pid ≡ 2
only pid h = grind (arith, nat_tests)

small_process : (owners : OwnerTable) → extent owners ≡ small → is_pid (procs_of (extent owners)) 2 ≡ true
small_process owners extents = ap (λ (x : Extent). is_pid (procs_of x) 2) extents

-- ---- without a page

pub empty_space_agrees : (ram : RamBytes) (owners : OwnerTable) → (area ram).frames ≡ 64 → extent owners ≡ small → infos owners ≡ no_infos
    → ((pid : ℕ) → 2 ≤ pid → root_at pid ≡ 0 → IsMade ram pid)
    → ((procs : ℕ) (q : Place) → root_at q.pid.0 ≡ 0 → is_user_place procs q ≡ true → entries procs ram q ≡ Some Free) → agrees ram owners
empty_space_agrees ram owners frames extents none made free =
    subst (λ t. Agrees (IsMade ram) (area ram).frames (entries (procs_of t) ram) t (infos owners)) (sym extents)
    (subst (λ I. Agrees (IsMade ram) (area ram).frames (entries 1 ram) small I) (sym none) (record {
      first = refl;
      last = sym frames;
      made = λ pid h. made pid (omega (arith, only pid h)) (root_of_only pid (only pid h));
      entries = empty_agrees 1 (entries 1 ram) (λ q h. free 1 q (root_of_only q.pid.0 (only q.pid.0 (and_parts (is_pid 1 q.pid.0) _ h).0)) h)
          (λ q h. no_entry_elsewhere 1 ram q h);
    }))
  where
    root_of_only : (pid : ℕ) → pid ≡ 2 → root_at pid ≡ 0
    root_of_only pid e = ap root_at e

pub none_unlent : (I : Infos) (number : Number) → I ≡ no_infos → IsUnlent I number
none_unlent I number none = record { none = λ s home x e. absurd (none-some (on_loan home x) (sym (ap (λ (J : Infos). J s) none) ∙ e)) }

-- ---- a page comes

pub page_agrees : (ram put : RamBytes) (owners left : OwnerTable) (home : Place) (right : Right) (s : Seat) → agrees ram owners
    → entries_of (tables ram owners) home ≡ Some Free → infos owners s ≡ None
    → SetsEntry (procs_of (extent owners)) ram put home (At (Own right) s)
    → infos left ≡ with_info (infos owners) s (Some (owned_by home)) → extent left ≡ extent owners → agrees put left
page_agrees ram put owners left home right s agree free empty sets told same =
    agrees_after (tables ram owners) (tables put left) (with_entry (entries_of (tables ram owners)) home (At (Own right) s))
    (with_info (infos owners) s (Some (owned_by home)))
    (record { entries_are = sets.entries_are; infos_are = told; extent_is = same; area_is = sets.area_is; made = sets.made; pages = sets.pages })
    agree (make_agrees (procs_of (extent owners)) (entries_of (tables ram owners)) (infos owners) home right s agree.entries free empty)

pub home_process : (owners : OwnerTable) (home : Place) (vpn : ℕ) → extent owners ≡ small → home ≡ record { pid = record { 0 = 2 }; vpn = record { 0 = vpn } }
    → is_pid (procs_of (extent owners)) home.pid.0 ≡ true
home_process owners home vpn extents is = ap (λ (q : Place). is_pid (procs_of (extent owners)) q.pid.0) is ∙ small_process owners extents

-- the process's space is made
pub small_made : (ram : RamBytes) (owners : OwnerTable) → agrees ram owners → extent owners ≡ small → IsMade ram 2
small_made ram owners agree extents = agree.made 2 (small_process owners extents)

-- ---- free places

module _ (t : Tables) (ram : RamBytes) (owners : OwnerTable) (view : tables ram owners ≡ t) (agree : agrees ram owners) (extents : extent owners ≡ small)
    (v : Vpn) (first : Place) (is : first ≡ record { pid = record { 0 = 2 }; vpn = v })
    (least : least_free (entries 1 ram) (record { 0 = 2 }) Message 2 ≡ Some v) where
  least_told : least_free (entries_of (tables ram owners)) (record { 0 = 2 }) Message 2 ≡ Some v
  least_told = subst (λ (x : Extent). least_free (entries (procs_of x) ram) (record { 0 = 2 }) Message 2 ≡ Some v) (sym extents) least

  pub places_free : (p : Place) → in_run first 2 p ≡ true → entries_of t p ≡ Some Free
  places_free p h =
      subst (λ (u : Tables). entries_of u p ≡ Some Free) view
      (least_frees (procs_of (extent owners)) (entries_of (tables ram owners)) (infos owners) agree.entries (record { 0 = 2 }) Message 2 v
      (small_process owners extents) least_told p (subst (λ (q : Place). in_run q 2 p ≡ true) is h))

  pub places_lie : (p : Place) → in_run first 2 p ≡ true → is_place_in 1 Message p ≡ true
  places_lie p h =
      subst (λ (x : Extent). is_place_in (procs_of x) Message p ≡ true) extents
      (least_lies (procs_of (extent owners)) (entries_of (tables ram owners)) (infos owners) agree.entries (record { 0 = 2 }) Message 2 v
      (small_process owners extents) least_told p (subst (λ (q : Place). in_run q 2 p ≡ true) is h))

-- ---- loans stand over an exchange

pub loan_stands : (ram two : RamBytes) (owners left : OwnerTable) → agrees ram owners → agrees two left → (held now : Held)
    → bare (ledger_in two left now) ≡ bare (ledger_in ram owners held) → (loan : LoanRun)
    → StandsIn (entries_of (tables ram owners)) (infos owners) loan → StandsIn (entries_of (tables two left)) (infos left) loan
loan_stands ram two owners left agree agreed held now same loan stands =
    stands_in (procs_of (extent left)) (entries_of (tables two left)) (infos left) (bytes_at two now) agreed.entries loan
    (subst (λ l. Stands l loan) (sym (bare-loans (ledger_in ram owners held) (ledger_in two left now) same))
    (in_stands (procs_of (extent owners)) (entries_of (tables ram owners)) (infos owners) (bytes_at ram held) agree.entries loan stands))
