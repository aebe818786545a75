-- A memory comes from one ledger to the next.
use Rattle.std.proofs.Common.{◌≡◌, ℕ, ◌+◌, ◌≤◌, Bool, true, false, ◌&&◌, List, Option, Some, None, Result, Ok, Err, refl, sym, ap, subst, ◌∙◌, arith, inl, inr}
use Rattle.std.specs.Prelude.{◌||◌, OnErr, if◌then◌else◌}
use Rattle.std.specs.Option.{option_and_then, option_map, option_map_or}
use Rattle.std.proofs.lemmas.Bool.{false≢true}
use Rattle.boot_plan.specs.Capacity.{page_frames}
use Rattle.ledger_model.proofs.Stepping.WritingLemmas.{bare-pages, write_bare}
use Rattle.ledger_model.proofs.Pages.BareLemmas.{bare-contents, bare-reach}
use Rattle.ledger_model.specs.Ledger.{Console, Contents, Homed, Ledger, Page, PageName, contents_of, has_bytes, pages}
use Rattle.ledger_model.specs.Loans.{bare, bare_page, loans}
use Rattle.ledger_model.specs.Places.{in_run, same_place}
use Rattle.ledger_model.specs.Reach.{reach}
use Rattle.ledger_model.specs.Steps.{make, make_console, new_page, reduce, with_right, write}
use Rattle.vm_memory.proofs.Changing.CrowdedLemmas.{make_bare}
use Rattle.vm_memory.specs.Bytes.{MeansBytesOver, MeansBytes, is_known, none_out}
use Rattle.vm_memory.specs.Memory.{IsUsable, Size, frames_for_pages, ledger, processes, size, store_of}
use Rattle.vm_memory.specs.Pages.Making.{after_make}
use Rattle.vm_memory.specs.Sound.{IsSound}
use Rattle.vm_memory.specs.Using.Access.{reaches_bytes, write_page}
use Rattle.vm_memory.specs.declared.memory.Memory.{Memory}
use Rattle.xk_base.specs.Outside.{Rose}
use Rattle.xk_base.specs.declared.errors.XousError.{XousError}
use Rattle.xk_base.specs.declared.ids.Place.{Place}
use Rattle.xk_base.specs.declared.ids.Vpn.{Vpn}
use Rattle.xk_base.specs.declared.pages.Access.{Access}
use Rattle.xk_base.specs.declared.pages.Access.TheVariants.{Store}
use Rattle.xk_base.specs.declared.pages.Right.{Right}
use Rattle.resume_path.specs.Coming.{HasCome, HasFailed, HasFrames, IsKnownUntil, KeepsSize}
use Rattle.xk_ports.specs.declared.store.SwapStore.{Ghosts as SwapStore}
use Rattle.xk_ports.specs.Keeping.{KeepsStore}

-- ---- steps of ledgers that are alike but for bytes

reduced_page : (b : Bool) (right : Right) (o : Option Page)
    → option_map bare_page (if b then option_map (with_right right) o else o) ≡ (if b then option_map (with_right right) (option_map bare_page o) else option_map bare_page o)
reduced_page true right None = refl
reduced_page true right (Some page) = refl
reduced_page false right o = refl

pub reduce_bare : (places : Place → Bool) (right : Right) (a b : Ledger) → bare a ≡ bare b → bare (reduce places right a) ≡ bare (reduce places right b)
unfolding bare reduce
reduce_bare places right a b e = λ i. record {
  home = λ p. (reduced_page (places p) right (a.home p)
      ∙ (ap (λ (x : Ledger). if places p then option_map (with_right right) (x.home p) else x.home p) e
      ∙ sym (reduced_page (places p) right (b.home p)))) i;
  orphan = λ p. (e i).orphan p;
}

pub console_bare : (place : Place) (w : Bool) (a b : Ledger) → bare a ≡ bare b → bare (make_console place w a) ≡ bare (make_console place w b)
unfolding bare make_console
console_bare place w a b e = λ i. record {
  home = λ p. at p (same_place p place) i;
  orphan = λ p. (e i).orphan p;
}
  where
    at : (p : Place) (own : Bool) → option_map bare_page (if own then Some (new_page (record { w = w; x = false }) Console) else a.home p)
        ≡ option_map bare_page (if own then Some (new_page (record { w = w; x = false }) Console) else b.home p)
    at p true = refl
    at p false = ap (λ (x : Ledger). x.home p) e

pub writes_bare : (name : PageName) (offset : ℕ) (bytes : List ℕ) (a b : Ledger) → bare a ≡ bare b → bare (write name offset bytes a) ≡ bare (write name offset bytes b)
writes_bare name offset bytes a b e = write_bare name offset bytes a ∙ (e ∙ sym (write_bare name offset bytes b))

-- ---- one call

over_first : (k a b : Bool) → (k || (a && b)) ≡ true → (k || a) ≡ true
over_first true a b e = refl
over_first false true b e = refl
over_first false false b e = absurd (false≢true e)

known_over : (k a b : Bool) → k ≡ true → (k || (a && b)) ≡ true
known_over true a b e = refl
known_over false a b e = absurd (false≢true e)

near_over : (k a b : Bool) → a ≡ true → b ≡ true → (k || (a && b)) ≡ true
near_over true a b e f = refl
near_over false a b e f = λ i. e i && f i

module _ {W : Type 0} (S : SwapStore W) (old new : Memory W)
    (keeps : KeepsSize S old new) where
  pub frames_same : frames_for_pages new ≡ frames_for_pages old
  frames_same = ap (λ (s : Size). page_frames s.area.frames s.procs) keeps.size

  pub had_frames : (total : ℕ) → HasFrames new total → HasFrames old total
  had_frames total has = let same = frames_same in omega (arith, same, has)

  known_same : is_known S new ≡ is_known S old
  known_same = λ i. keeps.store.honest i && keeps.store.told i

  pub was_known : (total : ℕ) → IsKnownUntil S new total → IsKnownUntil S old total
  was_known total (inl known) = inl (sym known_same ∙ known)
  was_known total (inr has) = inr (had_frames total has)

  pub first_means : MeansBytesOver S old new → MeansBytes S old
  first_means over = over_first (is_known S old) (none_out old) (none_out new) over

  module _ (total : ℕ) (l : Ledger) (come : HasCome S total old l) where
    -- bytes are known over the call where they are known until there are so many pages
    over : (HasFrames old total → none_out old ≡ true → none_out new ≡ true) → IsKnownUntil S new total → MeansBytesOver S old new
    over none (inl known) = known_over (is_known S old) (none_out old) (none_out new) (sym known_same ∙ known)
    over none (inr has) =
        let there = had_frames total has in
        near_over (is_known S old) (none_out old) (none_out new) (come.near there) (none there (come.near there))

    -- so the memory comes to the ledger after the step
    pub step_comes : (step : Ledger → Ledger) → IsSound S.slot_count new → IsUsable new
        → ((a b : Ledger) → bare a ≡ bare b → bare (step a) ≡ bare (step b))
        → bare (ledger S.held new) ≡ bare (step (ledger S.held old))
        → (MeansBytesOver S old new → ledger S.held new ≡ step (ledger S.held old))
        → (HasFrames old total → none_out old ≡ true → none_out new ≡ true)
        → HasCome S total new (step l)
    step_comes step sound usable alike rights whole none = record {
      sound = sound;
      usable = usable;
      rights = rights ∙ alike (ledger S.held old) l come.rights;
      whole = λ known. whole (over none known) ∙ ap step (come.whole (was_known total known));
      near = λ has. (let there = had_frames total has in none there (come.near there));
    }

    -- .. where the step is done whatever the store tells
    pub exact_comes : (step : Ledger → Ledger) → IsSound S.slot_count new → IsUsable new
        → ((a b : Ledger) → bare a ≡ bare b → bare (step a) ≡ bare (step b))
        → ledger S.held new ≡ step (ledger S.held old) → (none_out old ≡ true → none_out new ≡ true)
        → HasCome S total new (step l)
    exact_comes step sound usable alike is none = step_comes step sound usable alike (ap bare is) (λ known. is) (λ has. none)

    -- pages are made
    pub make_comes : (first : Place) (n : ℕ) (right : Right) → IsSound S.slot_count new → IsUsable new
        → bare (ledger S.held new) ≡ bare (make first n right (ledger S.held old))
        → (MeansBytesOver S old new → ledger S.held new ≡ make first n right (ledger S.held old))
        → (pages (processes old) (ledger S.held old) + n ≤ frames_for_pages old → none_out old ≡ true → none_out new ≡ true)
        → pages (processes old) l + n ≤ total → HasCome S total new (make first n right l)
    make_comes first n right sound usable rights whole near fits =
        step_comes (make first n right) sound usable (λ a b e. make_bare first n right b a e) rights whole
        (λ has. near (let same = bare-pages (processes old) l (ledger S.held old) come.rights in omega (arith, same, fits, has)))

-- ---- a page that is reached to be filled

bytes_or : (o : Option Contents) → option_map_or has_bytes o false ≡ option_map_or (λ (b : Bool). b) (option_map has_bytes o) false
bytes_or None = refl
bytes_or (Some c) = refl

-- it is so too in a ledger that is alike but for bytes
pub reached_alike : (procs : ℕ) (l m : Ledger) (at : Place) (access : Access) → bare m ≡ bare l → reaches_bytes procs m at access ≡ reaches_bytes procs l at access
reached_alike procs l m at access e =
    ap (λ o. option_map_or has_bytes (option_and_then (contents_of m) o) false) (bare-reach procs l m at access e) ∙ by_name (reach procs l at access)
  where
    by_name : (o : Option PageName) → option_map_or has_bytes (option_and_then (contents_of m) o) false ≡ option_map_or has_bytes (option_and_then (contents_of l) o) false
    by_name None = refl
    by_name (Some name) =
        bytes_or (contents_of m name) ∙ (ap (λ b. option_map_or (λ (x : Bool). x) b false) (bare-contents l m name e) ∙ sym (bytes_or (contents_of l name)))

-- .. and what is written there is written to that page
pub written_there : (procs : ℕ) (l m k : Ledger) (at : Place) (bytes : List ℕ) → bare m ≡ bare l → reach procs l at Store ≡ Some (Homed at)
    → k ≡ write_page (reach procs m at Store) bytes m → k ≡ write (Homed at) 0 bytes m
written_there procs l m k at bytes e there is = is ∙ ap (λ o. write_page o bytes m) (bare-reach procs l m at Store e ∙ there)

-- a call that was to be served was
pub served_make : (first : Place) (n : ℕ) (right : Right) (r answer : Result Vpn XousError) (l : Ledger) → r ≡ answer → answer ≡ Ok first.vpn
    → after_make first.pid n right r l ≡ make first n right l
served_make first n right r answer l is served = ap (λ x. after_make first.pid n right x l) (is ∙ served)

-- ---- the calls as wholes

-- a failure that is handed on
pub on_failed : {W A E : Type 0} (S : SwapStore W) (r : Result A E) (old new : Memory W) → IsSound S.slot_count new
    → loans (ledger S.held new) ≡ loans (ledger S.held old) → Rose (S.faults (store_of old)) (S.faults (store_of new)) → OnErr r (HasFailed S old new)
on_failed S (Ok x) old new sound same rose = tt
on_failed S (Err e) old new sound same rose = record { sound = sound; loans = same; rose = rose }

module _ {W : Type 0} (S : SwapStore W) where
  abbrev Keeps : Memory W → Memory W → Type 0
  Keeps old new = KeepsSize S old new

  -- what leaves the store alone keeps it
  pub keeps_equal : (old new : Memory W) → size new ≡ size old → store_of new ≡ store_of old → Keeps old new
  keeps_equal old new sizes stores = record {
    size = sizes;
    store = subst (λ (w : W). KeepsStore S (store_of old) w) (sym stores) (record {
      honest = refl;
      told = refl;
      slots = refl;
      preparations = refl;
      never_falls = omega arith;
    });
  }

  -- a page that is brought in
  near_comes : (old mid : Memory W) → Keeps old mid → IsSound S.slot_count mid → IsUsable mid → bare (ledger S.held mid) ≡ bare (ledger S.held old)
      → (MeansBytes S old → ledger S.held mid ≡ ledger S.held old) → (none_out old ≡ true → mid ≡ old)
      → (total : ℕ) (l : Ledger) → HasCome S total old l → HasCome S total mid l
  near_comes old mid keeps sound usable rights whole none total l come =
      step_comes S old mid keeps total l come (λ k. k) sound usable (λ a b e. e) rights
      (λ over. whole (first_means S old mid keeps over)) (λ has near. ap none_out (none near) ∙ near)

  module _ (old mid new : Memory W) (at : Place) (bytes w : List ℕ) (first : Keeps old mid) (rights : bare (ledger S.held mid) ≡ bare (ledger S.held old))
      (home : reach (processes old) (ledger S.held old) at Store ≡ Some (Homed at)) (is : w ≡ bytes)
      (writes : ledger S.held new ≡ write_page (reach (processes mid) (ledger S.held mid) at Store) w (ledger S.held mid)) where
    -- the bytes are those of the page then
    fill_writes : ledger S.held new ≡ write (Homed at) 0 bytes (ledger S.held mid)
    fill_writes =
        let procs : processes mid ≡ processes old = ap (λ (s : Size). s.procs) first.size in
        written_there (processes mid) (ledger S.held old) (ledger S.held mid) (ledger S.held new) at w rights (ap (λ n. reach n (ledger S.held old) at Store) procs ∙ home) writes
        ∙ ap (λ xs. write (Homed at) 0 xs (ledger S.held mid)) is

    pub fill_rights : bare (ledger S.held new) ≡ bare (ledger S.held old)
    fill_rights = ap bare fill_writes ∙ (write_bare (Homed at) 0 bytes (ledger S.held mid) ∙ rights)

    pub fill_comes : IsSound S.slot_count mid → IsUsable mid → (MeansBytes S old → ledger S.held mid ≡ ledger S.held old) → (none_out old ≡ true → mid ≡ old)
        → size new ≡ size mid → store_of new ≡ store_of mid → IsSound S.slot_count new → IsUsable new → none_out new ≡ none_out mid
        → (total : ℕ) (l : Ledger) → HasCome S total old l → HasCome S total new (write (Homed at) 0 bytes l)
    fill_comes sound usable whole none sizes stores sounds uses same total l come =
        exact_comes S mid new (keeps_equal mid new sizes stores) total l
        (near_comes old mid first sound usable rights whole none total l come) (write (Homed at) 0 bytes) sounds uses (writes_bare (Homed at) 0 bytes) fill_writes
        (λ near. same ∙ near)

  -- a page is reduced
  pub reduce_comes : (old new : Memory W) (at : Place) (right : Right) → size new ≡ size old → store_of new ≡ store_of old → IsSound S.slot_count new → IsUsable new
      → ledger S.held new ≡ reduce (in_run at 1) right (ledger S.held old) → (none_out old ≡ true → none_out new ≡ true)
      → (total : ℕ) (l : Ledger) → HasCome S total old l → HasCome S total new (reduce (in_run at 1) right l)
  reduce_comes old new at right sizes stores sound usable is none total l come =
      exact_comes S old new (keeps_equal old new sizes stores) total l come (reduce (in_run at 1) right) sound usable
      (reduce_bare (in_run at 1) right) is none

  -- the console is mapped
  pub console_comes : (old new : Memory W) (at : Place) (w : Bool) → size new ≡ size old → store_of new ≡ store_of old → IsSound S.slot_count new → IsUsable new
      → ledger S.held new ≡ make_console at w (ledger S.held old) → (none_out old ≡ true → none_out new ≡ true)
      → (total : ℕ) (l : Ledger) → HasCome S total old l → HasCome S total new (make_console at w l)
  console_comes old new at w sizes stores sound usable is none total l come =
      exact_comes S old new (keeps_equal old new sizes stores) total l come (make_console at w) sound usable
      (console_bare at w) is none
