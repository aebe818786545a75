-- The memory as the orphans of a message come back: what each call asks of it, and what it leaves.
use Rattle.xk_ports.specs.declared.store.SwapStore.{Ghosts as SwapStore}
use Rattle.std.proofs.Common.{◌≡◌, ℕ, ◌+◌, ◌-◌, ◌≤◌, ◌<◌, Bool, true, false, cond, List, [], ◌∷◌, length, take, drop, Option, Some, None, Result, Ok, Err, refl, sym, ap, subst, ◌∙◌, arith, inl, inr}
use Rattle.std.specs.Prelude.{◌==◌, ◌&&◌, OnErr, is_some, All, slice_range}
use Rattle.std.specs.List.{find}
use Rattle.std.specs.Option.{option_map}
use Rattle.std.proofs.lemmas.Bool.{cases_Bool}
use Rattle.std.proofs.lemmas.List.{length-drop, length-take-le}
use Rattle.std.proofs.lemmas.List.Elements.{All-head, All-tail}
use Rattle.std.proofs.lemmas.Option.{none-some, same_Some}
use Rattle.boot_plan.specs.Capacity.{capacity}
use Rattle.ledger_model.proofs.Pages.BareLemmas.{bare-lawful}
use Rattle.ledger_model.proofs.PlaceLemmas.{in_run-after}
use Rattle.ledger_model.proofs.Stepping.WritingLemmas.{bare-loans}
use Rattle.ledger_model.specs.Lawful.{IsLawful}
use Rattle.ledger_model.specs.Ledger.{Homed, Ledger, Orphan}
use Rattle.ledger_model.specs.Loans.{bare}
use Rattle.ledger_model.specs.Places.{in_run, place_after}
use Rattle.ledger_model.specs.Reach.{reach}
use Rattle.ledger_model.specs.Steps.{lend, make, orphan_loan, write}
use Rattle.suspend_image.proofs.StandingLemmas.{spelled_stands, OrphanStandsIn}
use Rattle.snapshot_rows.specs.Machines.{ledger_orphan, contents_at}
use Rattle.snapshot_rows.specs.declared.state.OrphanRow.{OrphanRow}
use Rattle.snapshot_rows.specs.declared.state.State.{State}
use Rattle.vm_memory.proofs.Changing.SoundMemoryLemmas.{bare-ledger}
use Rattle.vm_memory.specs.Bytes.{none_out}
use Rattle.vm_memory.specs.Loaning.Loans.{KeepsSeats}
use Rattle.vm_memory.specs.Memory.{IsUsable, Size, blank_ledger, capacity_of, frames_for_pages, ledger, processes}
use Rattle.vm_memory.specs.Sound.{IsSound}
use Rattle.vm_memory.specs.Using.Access.{reaches_bytes}
use Rattle.vm_memory.specs.declared.memory.Memory.{Memory}
use Rattle.xk_base.specs.declared.ids.Number.{Number}
use Rattle.xk_base.specs.declared.ids.Place.{Place}
use Rattle.xk_base.specs.declared.pages.Access.TheVariants.{Store}
use Rattle.xk_base.specs.declared.pages.LoanKind.{LoanKind}
use Rattle.resume_path.proofs.Homes.ComingLemmas.{exact_comes, frames_same, keeps_equal}
use Rattle.resume_path.proofs.Homes.FillingLemmas.{all_filled, filled, next_filled, none_filled}
use Rattle.resume_path.proofs.Homes.PageRowLemmas.{made_bytes, made_reached, still_made}
use Rattle.resume_path.proofs.Homes.PagesBackLemmas.{failed_over, keeps_over, keeps_same}
use Rattle.resume_path.proofs.Homes.PuttingLemmas.{out_full}
use Rattle.resume_path.proofs.Lending.SentLemmas.{lend_bare, orphan_bare}
use Rattle.resume_path.specs.Coming.{HasCome, HasFailed, KeepsSize}
use Rattle.resume_path.specs.Resumable.{IsResumable, state_ledger}
use Rattle.resume_path.specs.Standing.{IsHomeOf, filling_right, with_orphan_pages}

pub on_err : {A E : Type 0} (r : Result A E) (P : Type 0) → P → OnErr r P
on_err (Ok x) P p = tt
on_err (Err e) P p = p

-- ---- an orphan in the file

some_mapped : {A B : Type 0} (f : A → B) (o : Option A) → is_some (option_map f o) ≡ true → is_some o ≡ true
some_mapped f None e = e
some_mapped f (Some x) e = refl

found_all : {A : Type 0} (P : A → Type 0) (test : A → Bool) (rows : List A) (x : A) → All P rows → find test rows ≡ Some x → P x
found_all P test [] x all e = absurd (none-some x e)
found_all P test (y ∷ rows) x all e = elim (cases_Bool (test y)) [
  | inl does ↦ subst P (same_Some y x (sym (ap (λ (b : Bool). cond b (Some y) (find test rows)) does) ∙ e)) (All-head P y rows all)
  | inr doesnt ↦ found_all P test rows x (All-tail P y rows all) (sym (ap (λ (b : Bool). cond b (Some y) (find test rows)) doesnt) ∙ e)
]

abbrev pub is_orphan_at : Place → OrphanRow → Bool
is_orphan_at at o = o.pid == at.pid.0 && o.page == at.vpn.0

module _ (file : List ℕ) (s : State) (h : IsResumable file s) (at : Place) (there : is_some ((state_ledger file s).orphan at) ≡ true) where
  pub orphan_found : (rows : List OrphanRow) → rows ≡ s.orphans → is_some (find (is_orphan_at at) rows) ≡ true
  orphan_found rows same =
      ap (λ (xs : List OrphanRow). is_some (find (is_orphan_at at) xs)) same ∙ some_mapped (ledger_orphan file) (find (is_orphan_at at) s.orphans) there

  module _ (rows : List OrphanRow) (same : rows ≡ s.orphans) (begin : ℕ)
      (is : option_map (λ (o : OrphanRow). o.from) (find (is_orphan_at at) rows) ≡ Some begin) where
    row_found : (row : OrphanRow) × (find (is_orphan_at at) s.orphans ≡ Some row) × (row.from ≡ begin)
    row_found =
        go (find (is_orphan_at at) s.orphans) (sym (ap (λ (xs : List OrphanRow). option_map (λ (o : OrphanRow). o.from) (find (is_orphan_at at) xs)) same) ∙ is)
      where
        go : (o : Option OrphanRow) → option_map (λ (o : OrphanRow). o.from) o ≡ Some begin → (row : OrphanRow) × (o ≡ Some row) × (row.from ≡ begin)
        go None e = absurd (none-some begin e)
        go (Some row) e = (row, refl, same_Some row.from begin e)

    pub orphan_read : (orphan : Orphan) × ((state_ledger file s).orphan at ≡ Some orphan) × (orphan.bytes ≡ contents_at file begin)
    orphan_read = let found = row_found in (ledger_orphan file found.0, ap (option_map (ledger_orphan file)) found.1, ap (contents_at file) found.2)

    pub orphan_stands : begin + 4096 ≤ length file
    orphan_stands =
        let found = row_found in
        let stands = found_all (OrphanStandsIn file) (is_orphan_at at) s.orphans found.0 (spelled_stands file s h.spelled).orphans found.1 in
        omega (arith, stands, found.2)

-- the 4096 bytes that begin there, as a part of the file
pub page_part : (file : List ℕ) (begin : ℕ) → contents_at file begin ≡ slice_range file begin (begin + 4096)
page_part file begin = let many : 4096 ≡ begin + 4096 - begin = omega arith in ap (λ n. take n (drop begin file)) many

pub part_long : (file : List ℕ) (begin : ℕ) → begin + 4096 ≤ length file → length (slice_range file begin (begin + 4096)) ≡ 4096
part_long file begin stands =
    let left = length-drop begin file in
    let long : length (contents_at file begin) ≡ 4096 = length-take-le 4096 (drop begin file) (omega (arith, left, stands)) in
    ap (λ (xs : List ℕ). length xs) (sym (page_part file begin)) ∙ long

-- ---- a memory that has come

pub still_come : {W : Type 0} (S : SwapStore W) (m : Memory W) → IsSound S.slot_count m → IsUsable m
    → HasCome S (frames_for_pages m + 1) m (ledger S.held m)
still_come S m sound usable = record {
  sound = sound;
  usable = usable;
  rights = refl;
  whole = λ known. refl;
  near = λ has. absurd (omega (arith, has));
}

pub come_lawful : {W : Type 0} (S : SwapStore W) (total : ℕ) (m : Memory W) (l : Ledger)
    → HasCome S total m l → IsLawful (processes m) (capacity_of m) l
come_lawful S total m l come =
    bare-lawful (processes m) (capacity_of m) (blank_ledger m) l (sym come.rights ∙ bare-ledger S.held m) come.sound.lawful

module _ {W : Type 0} (S : SwapStore W) where
  abbrev Keeps : Memory W → Memory W → Type 0
  Keeps old new = KeepsSize S old new

  pub procs_kept : (old new : Memory W) (n : ℕ) → Keeps old new → processes old ≡ n → processes new ≡ n
  procs_kept old new n keeps is = ap (λ (x : Size). x.procs) keeps.size ∙ is

  pub capacity_kept : (old new : Memory W) (n : ℕ) → Keeps old new → capacity_of old ≡ n → capacity_of new ≡ n
  capacity_kept old new n keeps is = ap (λ (x : Size). capacity x.area.frames x.procs x.slots) keeps.size ∙ is

  -- ---- filling

  -- the first i pages of the run are filled
  pub record AreFilledTo (whole : Ledger) (from : Place) (n : ℕ) (to : Place) (old now : Memory W) (i : ℕ) : Type 0 where
    pub sound : IsSound S.slot_count now
    pub usable : IsUsable now
    pub rights : bare (ledger S.held now) ≡ bare (ledger S.held old)
    pub comes : (total : ℕ) (l : Ledger) → HasCome S total old (make from n filling_right l)
        → HasCome S total now (filled whole from n to i l)
    pub keeps : Keeps old now

  module _ (whole : Ledger) (from : Place) (n : ℕ) (to : Place) (old : Memory W) where
    pub filled_none : IsSound S.slot_count old → IsUsable old → AreFilledTo whole from n to old old 0
    filled_none sound usable = record {
      sound = sound;
      usable = usable;
      rights = refl;
      comes = λ total l come. subst (HasCome S total old) (sym (none_filled whole from n to l)) come;
      keeps = keeps_same S old;
    }

    module _ (now : Memory W) (i : ℕ) (back : AreFilledTo whole from n to old now i) where
      pub filled_all : n ≤ i → i ≤ n → (total : ℕ) (l : Ledger) → HasCome S total old (make from n filling_right l)
          → HasCome S total now (with_orphan_pages whole from n to l)
      filled_all high low total l come =
          let end : i ≡ n = omega (arith, high, low) in
          subst (HasCome S total now) (ap (λ k. filled whole from n to k l) end ∙ all_filled whole from n to l)
          (back.comes total l come)

      -- the next can be written
      next_home : i < n → ((p : Place) → in_run from n p ≡ true → IsHomeOf (ledger S.held old) p filling_right)
          → IsHomeOf (ledger S.held now) (place_after from i) filling_right
      next_home low homes =
          still_made (ledger S.held old) (ledger S.held now) (place_after from i) filling_right back.rights (homes (place_after from i) (in_run-after from n i low))

      pub next_may : i < n → ((p : Place) → in_run from n p ≡ true → IsHomeOf (ledger S.held old) p filling_right)
          → reaches_bytes (processes now) (ledger S.held now) (place_after from i) Store ≡ true
      next_may low homes = made_bytes (processes now) (ledger S.held now) (place_after from i) filling_right (next_home low homes) refl

      pub next_reached : i < n → ((p : Place) → in_run from n p ≡ true → IsHomeOf (ledger S.held old) p filling_right)
          → reach (processes now) (ledger S.held now) (place_after from i) Store ≡ Some (Homed (place_after from i))
      next_reached low homes = made_reached (processes now) (ledger S.held now) (place_after from i) filling_right (next_home low homes) refl

      -- with one more
      pub filled_next : (new : Memory W) (bytes : List ℕ) (orphan : Orphan) → i < n → whole.orphan (place_after to i) ≡ Some orphan → orphan.bytes ≡ bytes
          → length bytes ≡ 4096
          → Keeps now new → bare (ledger S.held new) ≡ bare (ledger S.held now)
          → ((total : ℕ) (l : Ledger) → HasCome S total now l
          → HasCome S total new (write (Homed (place_after from i)) 0 bytes l))
          → AreFilledTo whole from n to old new (i + 1)
      filled_next new bytes orphan low there same long keeps rights comes =
          let own = comes (frames_for_pages now + 1) (ledger S.held now) (still_come S now back.sound back.usable) in
          record {
            sound = own.sound;
            usable = own.usable;
            rights = rights ∙ back.rights;
            comes = λ total l come. subst (HasCome S total new) (next_filled whole from n to i l orphan bytes low there same long)
                (comes total (filled whole from n to i l) (back.comes total l come));
            keeps = keeps_over S old now new back.keeps keeps;
          }

      pub filling_failed : {A E : Type 0} (r : Result A E) (new : Memory W) → HasFailed S now new
          → OnErr r (HasFailed S old new)
      filling_failed r new failed = on_err r (HasFailed S old new)
          (failed_over S old now new back.keeps (bare-loans (ledger S.held old) (ledger S.held now) back.rights) failed)

      pub filling_full : {A E : Type 0} (r : Result A E) → none_out now ≡ false → (total : ℕ) (l : Ledger)
          → HasCome S total old (make from n filling_right l) → OnErr r (frames_for_pages old < total)
      filling_full r out total l come =
          let full = out_full S total now (filled whole from n to i l) (back.comes total l come) out in
          let same = frames_same S old now back.keeps in
          on_err r (frames_for_pages old < total) (omega (arith, full, same))

  -- ---- lending

  module _ (old new : Memory W) (keeps : KeepsSeats S old new) where
    pub seats_keep : Keeps old new
    seats_keep = keeps_equal S old new keeps.size keeps.store

    module _ (total : ℕ) (l : Ledger) (come : HasCome S total old l) where
      pub lend_comes : (from : Place) (n : ℕ) (to : Place) (kind : LoanKind) (number : Number) → ledger S.held new ≡ lend from n to kind number (ledger S.held old)
          → HasCome S total new (lend from n to kind number l)
      lend_comes from n to kind number is =
          exact_comes S old new seats_keep total l come (lend from n to kind number) keeps.sound
          (keeps.failed ∙ come.usable)
          (lend_bare from n to kind number) is keeps.none

      pub orphan_comes : (procs : ℕ) (number : Number) → ledger S.held new ≡ orphan_loan procs number (ledger S.held old)
          → HasCome S total new (orphan_loan procs number l)
      orphan_comes procs number is =
          exact_comes S old new seats_keep total l come (orphan_loan procs number) keeps.sound (keeps.failed ∙ come.usable)
          (orphan_bare procs number) is keeps.none
