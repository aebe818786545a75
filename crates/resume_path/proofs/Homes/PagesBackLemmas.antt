-- The pages of a state come back one after the other: what holds of the memory before and after each.
use Rattle.xk_ports.specs.declared.store.SwapStore.{Ghosts as SwapStore}
use Rattle.std.proofs.Common.{◌≡◌, ℕ, ◌+◌, ◌≤◌, ◌<◌, true, false, List, length, get_or, Option, Some, None, Result, Ok, Err, refl, sym, ap, subst, ◌∙◌, arith}
use Rattle.std.specs.Prelude.{OnErr, is_some, not}
use Rattle.std.specs.Option.{option_map}
use Rattle.boot_plan.specs.Capacity.{capacity}
use Rattle.ledger_model.proofs.Loans.NumberingLemmas.{first_place-same}
use Rattle.ledger_model.proofs.Pages.BareLemmas.{bare-free}
use Rattle.ledger_model.proofs.Stepping.WritingLemmas.{bare-loans, bare-pages}
use Rattle.ledger_model.specs.Conditions.{is_console}
use Rattle.ledger_model.specs.Ledger.{Bytes, Console, Contents, Ledger, Page, has_bytes, pages}
use Rattle.ledger_model.specs.Loans.{bare, bare_contents, bare_page, loans}
use Rattle.ledger_model.specs.Places.{is_place_in, is_user_place}
use Rattle.ledger_model.specs.Reach.{is_free}
use Rattle.ledger_model.specs.RunTests.{console_mapped}
use Rattle.snapshot_rows.specs.Machines.{ledger_page, place_at}
use Rattle.snapshot_rows.specs.declared.state.PageRow.{PageRow}
use Rattle.snapshot_rows.specs.declared.state.State.{State}
use Rattle.sv32_space.specs.PageSteps.{place_page, without_loan}
use Rattle.sv32_space.specs.Tie.{Held}
use Rattle.vm_memory.specs.Memory.{Size, capacity_of, frames_for_pages, ledger, processes, store_of}
use Rattle.vm_memory.specs.declared.memory.Memory.{Memory}
use Rattle.xk_base.specs.Outside.{Rose}
use Rattle.xk_base.specs.declared.ids.Place.{Place}
use Rattle.xk_base.specs.declared.windows.Window.TheVariants.{Map}
use Rattle.resume_path.proofs.Homes.ComingLemmas.{frames_same}
use Rattle.resume_path.proofs.Homes.StandingLemmas.{console_in_map, console_right, next_fits, next_free_home, next_home_lies, next_pid, next_room, next_standing, no_console_yet, row_stands, same_loans_yet}
use Rattle.resume_path.specs.Coming.{HasCome, HasFailed, KeepsSize}
use Rattle.resume_path.specs.Resumable.{IsResumable, state_ledger, state_pages}
use Rattle.resume_path.specs.Standing.{pages_before, standing_of}

pub rose_over : (before mid now : ℕ) → before ≤ mid → Rose mid now → Rose before now
rose_over before mid now le rose = omega (arith, le, rose)

-- the pages of the first k rows are back
pub record ArePagesTo {W : Type 0} (S : SwapStore W)
    (file : List ℕ) (s : State) (old now : Memory W) (k : ℕ) : Type 0 where
  pub come : HasCome S (state_pages file s) now (standing_of file s (pages_before s.pages k))
  pub keeps : KeepsSize S old now

module _ {W : Type 0} (S : SwapStore W) where
  abbrev Keeps : Memory W → Memory W → Type 0
  Keeps old new = KeepsSize S old new

  pub keeps_same : (m : Memory W) → Keeps m m
  keeps_same m = record {
    size = refl;
    store = record { honest = refl; told = refl; slots = refl; preparations = refl; never_falls = omega arith };
  }

  pub keeps_over : (a b c : Memory W) → Keeps a b → Keeps b c → Keeps a c
  keeps_over a b c x y = record {
    size = y.size ∙ x.size;
    store = record {
      honest = y.store.honest ∙ x.store.honest;
      told = y.store.told ∙ x.store.told;
      slots = y.store.slots ∙ x.store.slots;
      preparations = y.store.preparations ∙ x.store.preparations;
      never_falls = omega (arith, x.store.never_falls, y.store.never_falls);
    };
  }

  -- a failure later on is one of the whole, where loans were the same until then
  pub failed_over : (a b c : Memory W) → Keeps a b → loans (ledger S.held b) ≡ loans (ledger S.held a) → HasFailed S b c → HasFailed S a c
  failed_over a b c x same failed = record {
    sound = failed.sound;
    loans = failed.loans ∙ same;
    rose = rose_over (S.faults (store_of a)) (S.faults (store_of b)) (S.faults (store_of c)) x.store.never_falls failed.rose;
  }

  -- ---- the loop

  module _ (file : List ℕ) (s : State) (old now : Memory W) (k : ℕ) (back : ArePagesTo S file s old now k) where
    -- no loan has changed
    pub same_loans_back : HasCome S (state_pages file s) old (standing_of file s (pages_before s.pages 0))
        → loans (ledger S.held now) ≡ loans (ledger S.held old)
    same_loans_back start =
        bare-loans (standing_of file s (pages_before s.pages k)) (ledger S.held now) back.come.rights
        ∙ (same_loans_yet s.pages k 0 (state_ledger file s)
        ∙ sym (bare-loans (standing_of file s (pages_before s.pages 0)) (ledger S.held old) start.rights))

    -- what stands is told by rights and loans alone
    pub free_back : (n : ℕ) (d : PageRow) → is_free n (standing_of file s (pages_before s.pages k)) (place_at (get_or s.pages k d).pid (get_or s.pages k d).page) ≡ true
        → is_free n (ledger S.held now) (place_at (get_or s.pages k d).pid (get_or s.pages k d).page) ≡ true
    free_back n d free =
        bare-free n (standing_of file s (pages_before s.pages k)) (ledger S.held now) (place_at (get_or s.pages k d).pid (get_or s.pages k d).page) back.come.rights ∙ free

    pub pages_back : (n : ℕ) → pages n (ledger S.held now) ≡ pages n (standing_of file s (pages_before s.pages k))
    pages_back n = bare-pages n (standing_of file s (pages_before s.pages k)) (ledger S.held now) back.come.rights

    -- one page more is back
    pub next_pages : (d : PageRow) (new : Memory W) (h : IsResumable file s) (low : k < length s.pages) → Keeps now new
        → HasCome S (state_pages file s) new
        (place_page (place_at (get_or s.pages k d).pid (get_or s.pages k d).page) (without_loan (ledger_page file (get_or s.pages k d))) (standing_of file s (pages_before s.pages k)))
        → ArePagesTo S file s old new (k + 1)
    next_pages d new h low keeps come = record {
      come = subst (λ l. HasCome S (state_pages file s) new l) (sym (next_standing file s h k d low)) come;
      keeps = keeps_over old now new back.keeps keeps;
    }

-- ---- the console is told by rights and loans too

contents_bare : (c : Contents) → not (has_bytes (bare_contents c)) ≡ not (has_bytes c)
contents_bare Console = refl
contents_bare (Bytes bytes) = refl

console_bare_page : (o : Option Page) → is_console (option_map bare_page o) ≡ is_console o
console_bare_page None = refl
console_bare_page (Some page) = contents_bare page.contents

pub console_alike : (procs : ℕ) (l m : Ledger) → bare m ≡ bare l → console_mapped procs m ≡ console_mapped procs l
unfolding console_mapped bare
console_alike procs l m e =
    ap is_some (first_place-same procs (λ p. is_console (m.home p)) (λ p. is_console (l.home p))
    (λ p. sym (console_bare_page (m.home p)) ∙ (ap (λ (x : Ledger). is_console (x.home p)) e ∙ console_bare_page (l.home p))))

on_err : {A E : Type 0} (r : Result A E) (P : Type 0) → P → OnErr r P
on_err (Ok x) P p = tt
on_err (Err e) P p = p

-- what a row asks of the memory before it comes back
pub record IsAsked {W : Type 0} (held : W → Held) (m : Memory W) (file : List ℕ) (row : PageRow) : Type 0 where
  pub pid : row.pid < 256
  pub place : is_user_place (processes m) (place_at row.pid row.page) ≡ true
  pub free : is_free (processes m) (ledger held m) (place_at row.pid row.page) ≡ true
  pub room : row.right < 4 → pages (processes m) (ledger held m) + 1 ≤ capacity_of m
  pub bytes : row.right < 4 → row.from + 4096 ≤ length file
  pub window : 4 ≤ row.right → is_place_in (processes m) Map (place_at row.pid row.page) ≡ true
  pub first : 4 ≤ row.right → console_mapped (processes m) (ledger held m) ≡ false
  pub no_fetch : 4 ≤ row.right → row.right < 6

-- ---- what is asked before a row comes back, of the memory as it is then

module _ {W : Type 0} (S : SwapStore W) (file : List ℕ) (s : State)
    (h : IsResumable file s) (old now : Memory W) (k : ℕ) (d : PageRow) (low : k < length s.pages) (procs : processes old ≡ s.n) (cap : capacity_of old ≡ s.cap)
    (back : ArePagesTo S file s old now k) where
  abbrev part : Ledger
  part = standing_of file s (pages_before s.pages k)

  abbrev row : PageRow
  row = get_or s.pages k d

  abbrev at : Place
  at = place_at row.pid row.page

  procs_now : processes now ≡ s.n
  procs_now = ap (λ (x : Size). x.procs) back.keeps.size ∙ procs

  cap_now : capacity_of now ≡ s.cap
  cap_now = ap (λ (x : Size). capacity x.area.frames x.procs x.slots) back.keeps.size ∙ cap

  pub place_asked : is_user_place (processes now) at ≡ true
  place_asked = ap (λ n. is_user_place n at) procs_now ∙ next_home_lies file s h k d low

  pub free_asked : is_free (processes now) (ledger S.held now) at ≡ true
  free_asked =
      ap (λ n. is_free n (ledger S.held now) at) procs_now ∙ (bare-free s.n part (ledger S.held now) at back.come.rights ∙ next_free_home file s h k d low)

  pages_now : pages (processes now) (ledger S.held now) ≡ pages s.n part
  pages_now = ap (λ n. pages n (ledger S.held now)) procs_now ∙ bare-pages s.n part (ledger S.held now) back.come.rights

  pub room_asked : row.right < 4 → pages (processes now) (ledger S.held now) + 1 ≤ capacity_of now
  room_asked bytes =
      let same = pages_now in
      let room = next_room file s h k d low bytes in
      let all = cap_now in
      omega (arith, same, room, all)

  pub fits_asked : row.right < 4 → pages (processes now) part + 1 ≤ state_pages file s
  fits_asked bytes =
      let same : pages (processes now) part ≡ pages s.n part = ap (λ n. pages n part) procs_now in
      let fits = next_fits file s h k d low bytes in
      omega (arith, same, fits)

  pub window_asked : 4 ≤ row.right → is_place_in (processes now) Map at ≡ true
  window_asked console = ap (λ n. is_place_in n Map at) procs_now ∙ console_in_map file s h k d low console

  pub first_asked : 4 ≤ row.right → console_mapped (processes now) (ledger S.held now) ≡ false
  first_asked console =
      ap (λ n. console_mapped n (ledger S.held now)) procs_now ∙ (console_alike s.n part (ledger S.held now) back.come.rights ∙ no_console_yet file s h k d low console)

  -- all of it at once, for the row as a loop reads it
  pub row_asked : (rows : List PageRow) → rows ≡ s.pages → IsAsked S.held now file (get_or rows k d)
  row_asked rows is = subst (λ (xs : List PageRow). IsAsked S.held now file (get_or xs k d)) (sym is) (record {
    pid = next_pid file s h k d low;
    place = place_asked;
    free = free_asked;
    room = room_asked;
    bytes = row_stands file s h k d low;
    window = window_asked;
    first = first_asked;
    no_fetch = console_right file s h k d low;
  })

  pub row_fits : (rows : List PageRow) → rows ≡ s.pages → (get_or rows k d).right < 4 → pages (processes now) part + 1 ≤ state_pages file s
  row_fits rows is bytes = fits_asked (subst (λ (xs : List PageRow). (get_or xs k d).right < 4) is bytes)

  -- .. and what stands after it
  pub row_back : (rows : List PageRow) → rows ≡ s.pages → (new : Memory W) → KeepsSize S now new
      → HasCome S (state_pages file s) new
      (place_page (place_at (get_or rows k d).pid (get_or rows k d).page) (without_loan (ledger_page file (get_or rows k d))) part)
      → ArePagesTo S file s old new (k + 1)
  row_back rows is new keeps come =
      next_pages S file s old now k back d new h low keeps
      (subst (λ (xs : List PageRow). HasCome S (state_pages file s) new
      (place_page (place_at (get_or xs k d).pid (get_or xs k d).page) (without_loan (ledger_page file (get_or xs k d))) part)) is come)

  -- a failure on the way is one of the whole
  pub row_failed : {A E : Type 0} (r : Result A E) (new : Memory W) → HasCome S (state_pages file s) old (standing_of file s (pages_before s.pages 0))
      → HasFailed S now new → OnErr r (HasFailed S old new)
  row_failed r new start failed =
      on_err r (HasFailed S old new)
      (failed_over S old now new back.keeps (same_loans_back S file s old now k back start) failed)

  pub row_full : {A E : Type 0} (r : Result A E) → frames_for_pages now < state_pages file s → OnErr r (frames_for_pages old < state_pages file s)
  row_full r full =
      let same = frames_same S old now back.keeps in
      on_err r (frames_for_pages old < state_pages file s) (omega (arith, same, full))
