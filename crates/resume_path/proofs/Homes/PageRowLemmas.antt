-- A page of a state comes back: it is made at its free home, filled, and reduced to its right.
use Rattle.std.proofs.Common.{◌≡◌, ℕ, ◌+◌, ◌/◌, ◌%◌, ◌≤◌, ◌<◌, Bool, true, false, ◌&&◌, List, ◌++◌, length, Option, Some, None, Ok, Err, refl, sym, ap, subst, ◌∙◌, arith, inl, inr}
use Rattle.std.specs.Prelude.{◌==◌, ◌||◌, not, nat_lt, is_some, if◌then◌else◌}
use Rattle.std.specs.Option.{option_map, option_map_or, option_and_then}
use Rattle.std.proofs.lemmas.Bool.{cases_Bool, false≢true}
use Rattle.std.proofs.lemmas.Bool.Decides.{nat_tests}
use Rattle.std.proofs.lemmas.List.{append-nil}
use Rattle.std.proofs.Math.ListN.{drop_of_length-le}
use Rattle.std.proofs.lemmas.Option.{none-some, same_Some}
use Rattle.ledger_model.proofs.LedgerLemmas.{reach-role, role_at-home}
use Rattle.ledger_model.specs.Ledger.{Bytes, Console, Contents, Homed, Ledger, Page, contents_of, has_bytes, pages}
use Rattle.ledger_model.specs.Loans.{bare, bare_contents, bare_page}
use Rattle.ledger_model.specs.Places.{in_run, run, same_place}
use Rattle.ledger_model.specs.Reach.{HomePlace, home_may, is_free, is_free_role, reach, role_at}
use Rattle.ledger_model.specs.Conditions.{is_within}
use Rattle.ledger_model.specs.RunTests.{any_free, any_lacks, any_on_loan, any_used, asks_more, console_mapped, fits_window, is_on_loan}
use Rattle.ledger_model.specs.Steps.{make, make_console, new_page, reduce, with_right, write, written, written_page, zero_page}
use Rattle.snapshot_rows.specs.Machines.{ledger_page, contents_at}
use Rattle.snapshot_rows.specs.declared.state.PageRow.{PageRow}
use Rattle.sv32_space.specs.PageSteps.{place_page, without_loan}
use Rattle.vm_memory.specs.Pages.Making.{console_answer, if_room, make_answer}
use Rattle.vm_memory.specs.Pages.Removing.{reduce_answer}
use Rattle.vm_memory.specs.Using.Access.{reaches_bytes}
use Rattle.resume_path.specs.Standing.{IsHomeOf}
use Rattle.xk_base.specs.Numbers.Windows.{in_window, window_at}
use Rattle.xk_base.specs.declared.errors.XousError.TheVariants.{AccessDenied, BadAddress, MemoryInUse, ShareViolation}
use Rattle.xk_base.specs.declared.ids.Place.{Place}
use Rattle.xk_base.specs.declared.pages.Access.TheVariants.{Store}
use Rattle.xk_base.specs.declared.pages.Right.{Right}
use Rattle.xk_base.specs.declared.windows.Window.{Window}
use Rattle.xk_base.specs.declared.windows.Window.TheVariants.{Image, Heap, Message, Map, Stack}

-- ---- the answers of `make` and `make_console` at a free place

-- a page whose window this is lies in it
pub window_holds : (vpn : ℕ) (w : Window) → window_at vpn ≡ Some w → in_window w vpn ≡ true
window_holds vpn w e = elim (cases_Bool (in_window Image vpn)) [
  | inl a ↦ subst (λ v. in_window v vpn ≡ true) (let is : window_at vpn ≡ Some Image = rw a refl in same_Some Image w (sym is ∙ e)) a
  | inr a ↦ elim (cases_Bool (in_window Heap vpn)) [
    | inl b ↦ subst (λ v. in_window v vpn ≡ true) (let is : window_at vpn ≡ Some Heap = rw (a, b) refl in same_Some Heap w (sym is ∙ e)) b
    | inr b ↦ elim (cases_Bool (in_window Message vpn)) [
      | inl c ↦ subst (λ v. in_window v vpn ≡ true) (let is : window_at vpn ≡ Some Message = rw (a, b, c) refl in same_Some Message w (sym is ∙ e)) c
      | inr c ↦ elim (cases_Bool (in_window Map vpn)) [
        | inl d ↦ subst (λ v. in_window v vpn ≡ true) (let is : window_at vpn ≡ Some Map = rw (a, b, c, d) refl in same_Some Map w (sym is ∙ e)) d
        | inr d ↦ elim (cases_Bool (in_window Stack vpn)) [
          | inl f ↦ subst (λ v. in_window v vpn ≡ true) (let is : window_at vpn ≡ Some Stack = rw (a, b, c, d, f) refl in same_Some Stack w (sym is ∙ e)) f
          | inr f ↦ let none : window_at vpn ≡ None = rw (a, b, c, d, f) refl in absurd (none-some w (sym none ∙ e))
        ]
      ]
    ]
  ]
]

fits_one : (w : Window) (vpn : ℕ) → in_window w vpn ≡ true → fits_window w vpn 1 ≡ true
fits_one w vpn lies = grind (arith, nat_tests, lies)

unused_one : (procs : ℕ) (l : Ledger) (at : Place) → is_free procs l at ≡ true → any_used procs l at 1 ≡ false
unfolding any_used run
unused_one procs l at free = ap (λ b. not b || false) free

pub make_served : (procs capacity : ℕ) (l : Ledger) (at : Place) (w : Window) → window_at at.vpn.0 ≡ Some w → is_free procs l at ≡ true
    → pages procs l + 1 ≤ capacity → make_answer (record { procs = procs; capacity = capacity }) l at.pid w (Some at.vpn) 1 ≡ Ok at.vpn
make_served procs capacity l at w lies free room =
    let within : nat_lt capacity (pages procs l + 1) ≡ false = grind (arith, nat_tests, room) in
    (λ i. if_room (within i) (if not (fits_one w at.vpn.0 (window_holds at.vpn.0 w lies) i) then Err BadAddress else (
    if unused_one procs l at free i then Err MemoryInUse else Ok at.vpn)))

pub console_served : (procs : ℕ) (l : Ledger) (at : Place) → in_window Map at.vpn.0 ≡ true → is_free procs l at ≡ true
    → console_mapped procs l ≡ false → console_answer procs l at.pid (Some at.vpn) ≡ Ok at.vpn
console_served procs l at lies free first =
    λ i. if first i then Err MemoryInUse else (if not (fits_one Map at.vpn.0 lies i) then Err BadAddress else (
    if unused_one procs l at free i then Err MemoryInUse else Ok at.vpn))

-- ---- a page that was made

bare_has : (c : Contents) (bytes : List ℕ) → bare_contents c ≡ bare_contents (Bytes bytes) → has_bytes c ≡ true
bare_has Console bytes e = absurd (false≢true (ap has_bytes e))
bare_has (Bytes old) bytes e = refl

bare_back : (o : Option Page) (new : Page) → option_map bare_page o ≡ Some (bare_page new) → (page : Page) × (o ≡ Some page) × (bare_page page ≡ bare_page new)
bare_back None new e = absurd (none-some (bare_page new) e)
bare_back (Some page) new e = (page, refl, same_Some (bare_page page) (bare_page new) e)

in_own : (at : Place) → in_run at 1 at ≡ true
in_own at = grind (arith, nat_tests)

pub made_there : (l k : Ledger) (at : Place) (right : Right) → bare k ≡ bare (make at 1 right l) → IsHomeOf k at right
unfolding bare make
made_there l k at right e =
    let here : option_map bare_page (k.home at) ≡ Some (bare_page (new_page right (Bytes zero_page))) =
    ap (λ (x : Ledger). x.home at) e ∙ ap (λ b. option_map bare_page (if b then Some (new_page right (Bytes zero_page)) else l.home at)) (in_own at) in
    let back = bare_back (k.home at) (new_page right (Bytes zero_page)) here in
    record {
      page = back.0;
      there = back.1;
      its_right = ap (λ (p : Page). p.right) back.2;
      no_loan = ap (λ (p : Page). p.loan) back.2;
      bytes = bare_has back.0.contents zero_page (ap (λ (p : Page). p.contents) back.2);
    }

-- .. as it still is in a ledger that is alike but for bytes
pub still_made : (l k : Ledger) (at : Place) (right : Right) → bare k ≡ bare l → IsHomeOf l at right → IsHomeOf k at right
unfolding bare
still_made l k at right e made =
    let here : option_map bare_page (k.home at) ≡ Some (bare_page made.page) = ap (λ (x : Ledger). x.home at) e ∙ ap (option_map bare_page) made.there in
    let back = bare_back (k.home at) made.page here in
    record {
      page = back.0;
      there = back.1;
      its_right = ap (λ (p : Page). p.right) back.2 ∙ made.its_right;
      no_loan = ap (λ (p : Page). p.loan) back.2 ∙ made.no_loan;
      bytes = has_too back.0.contents made.page.contents (ap (λ (p : Page). p.contents) back.2) made.bytes;
    }
  where
    has_too : (c d : Contents) → bare_contents c ≡ bare_contents d → has_bytes d ≡ true → has_bytes c ≡ true
    has_too c Console e f = absurd cc
    has_too c (Bytes bytes) e f = bare_has c bytes e

module _ (procs : ℕ) (l : Ledger) (at : Place) (right : Right) (made : IsHomeOf l at right) where
  made_role : role_at procs l at ≡ HomePlace made.page
  made_role = role_at-home procs l at made.page made.there

  -- its process can write it
  pub made_reached : right.w ≡ true → reach procs l at Store ≡ Some (Homed at)
  made_reached w =
      reach-role procs l at Store (HomePlace made.page) made_role
      ∙ ap (λ b. if b then Some (Homed at) else None) (ap (λ o. home_may made.page.right o Store) made.no_loan ∙ (ap (λ (r : Right). r.w) made.its_right ∙ w))

  pub made_bytes : right.w ≡ true → reaches_bytes procs l at Store ≡ true
  made_bytes w =
      ap (λ o. option_map_or has_bytes (option_and_then (contents_of l) o) false) (made_reached w)
      ∙ (ap (λ (o : Option Page). option_map_or has_bytes (option_map (λ page. page.contents) o) false) made.there ∙ made.bytes)

  pub made_reduced : (asked : Right) → is_within asked right ≡ true → reduce_answer procs l at 1 asked ≡ Ok tt
  unfolding any_free any_on_loan any_lacks run is_free
  made_reduced asked within =
      λ i. if is_free_role (made_role i) || false then Err BadAddress else (
      if on_loan i || false then Err ShareViolation else (
      if lacks i || false then Err AccessDenied else Ok tt))
    where
      on_loan : is_on_loan (role_at procs l at) ≡ false
      on_loan = ap is_on_loan made_role ∙ ap is_some made.no_loan

      lacks : asks_more asked (l.home at) ≡ false
      lacks = ap (asks_more asked) made.there ∙ (ap (λ r. not (is_within asked r)) made.its_right ∙ ap not within)

-- a right asks for nothing more than itself with w
pub within_writable : (right : Right) → is_within right (record { w = true; x = right.x }) ≡ true
within_writable right = by right.w right.x
  where
    by : (w x : Bool) → ((not w || true) && (not x || x)) ≡ true
    by true true = refl
    by true false = refl
    by false true = refl
    by false false = refl

-- ---- the page when it is back

in_one_same : (at p : Place) → in_run at 1 p ≡ same_place p at
in_one_same at p = elim (cases_Bool (same_place p at)) [
  | inl same ↦ grind (arith, nat_tests, same)
  | inr other ↦ grind (arith, nat_tests, other)
]

pub written_all : (old bytes : List ℕ) → length old ≡ 4096 → length bytes ≡ 4096 → written old 0 bytes ≡ bytes
written_all old bytes long same =
    ap (λ xs. bytes ++ xs) (drop_of_length-le old {i = 0 + length bytes} (omega (arith, long, same))) ∙ append-nil bytes

pub zero_long : length zero_page ≡ 4096
unfolding zero_page
zero_long = refl

pub page_back : (at : Place) (right : Right) (x : Bool) (bytes : List ℕ) (l : Ledger) → length bytes ≡ 4096
    → reduce (in_run at 1) right (write (Homed at) 0 bytes (make at 1 (record { w = true; x = x }) l))
    ≡ place_page at (record { right = right; contents = Bytes bytes; loan = None }) l
unfolding reduce write make place_page
page_back at right x bytes l long = λ i. record { home = λ p. at_place p (in_run at 1 p) (same_place p at) (in_one_same at p) i; orphan = l.orphan }
  where
    at_place : (p : Place) (b s : Bool) → b ≡ s
        → (if b then option_map (with_right right) (if s then option_map (written_page 0 bytes) (if b then Some (new_page (record { w = true; x = x }) (Bytes zero_page)) else l.home p)
        else (if b then Some (new_page (record { w = true; x = x }) (Bytes zero_page)) else l.home p))
        else (if s then option_map (written_page 0 bytes) (if b then Some (new_page (record { w = true; x = x }) (Bytes zero_page)) else l.home p)
        else (if b then Some (new_page (record { w = true; x = x }) (Bytes zero_page)) else l.home p)))
        ≡ (if s then Some (record { right = right; contents = Bytes bytes; loan = None }) else l.home p)
    at_place p true true e = ap (λ xs. Some (record { right = right; contents = Bytes xs; loan = None })) (written_all zero_page bytes zero_long long)
    at_place p false false e = refl
    at_place p true false e = absurd cc
    at_place p false true e = absurd cc

-- the page of a row, and the console's
pub row_page_back : (file : List ℕ) (row : PageRow) → row.right < 4
    → without_loan (ledger_page file row) ≡ record { right = (ledger_page file row).right; contents = Bytes (contents_at file row.from); loan = None }
row_page_back file row low =
    let there : nat_lt row.right 4 ≡ true = grind (arith, nat_tests, low) in
    ap (λ b. record { right = (ledger_page file row).right; contents = if b then Bytes (contents_at file row.from) else Console; loan = None }) there

pub console_back : (file : List ℕ) (row : PageRow) (at : Place) (l : Ledger) → 4 ≤ row.right → row.right < 6
    → make_console at (row.right % 2 == 1) l ≡ place_page at (without_loan (ledger_page file row)) l
unfolding make_console place_page
console_back file row at l high low =
    let away : nat_lt row.right 4 ≡ false = grind (arith, nat_tests, high) in
    let no_fetch : (row.right / 2 % 2 == 1) ≡ false = grind (arith, nat_tests, high, low) in
    λ i. record {
      home = λ p. if same_place p at then Some (record { right = record { w = row.right % 2 == 1; x = sym no_fetch i }; contents = if sym away i then Bytes (contents_at file row.from) else Console; loan = None }) else l.home p;
      orphan = l.orphan;
    }
