-- What a row says comes back to its home: a page by three steps, the console by one.
use Rattle.xk_ports.specs.declared.store.SwapStore.{Ghosts as SwapStore}
use Rattle.std.proofs.Common.{◌≡◌, ℕ, ◌%◌, ◌≤◌, ◌<◌, Bool, true, false, List, length, Some, None, Result, Ok, Err, sym, ap, subst, ◌∙◌, inl, inr}
use Rattle.std.specs.Prelude.{◌==◌}
use Rattle.std.proofs.lemmas.Bool.{and_parts, cases_lt, false≢true}
use Rattle.ledger_model.specs.Ledger.{Bytes, Homed, Ledger}
use Rattle.ledger_model.specs.Places.{in_run, is_place_in}
use Rattle.ledger_model.specs.Reach.{is_free}
use Rattle.ledger_model.specs.RunTests.{console_mapped}
use Rattle.ledger_model.specs.Steps.{make, make_console, reduce, write}
use Rattle.snapshot_rows.specs.Machines.{ledger_page, place_at, contents_at}
use Rattle.snapshot_rows.specs.declared.state.PageRow.{PageRow}
use Rattle.sv32_space.specs.PageSteps.{place_page, without_loan}
use Rattle.vm_memory.specs.Bytes.{none_out}
use Rattle.vm_memory.specs.Memory.{frames_for_pages}
use Rattle.vm_memory.specs.Pages.Making.{after_console, console_answer}
use Rattle.vm_memory.specs.declared.memory.Memory.{Memory}
use Rattle.xk_base.specs.Numbers.Windows.{in_window}
use Rattle.xk_base.specs.Tables.Circle.{is_pid}
use Rattle.xk_base.specs.declared.errors.XousError.{XousError}
use Rattle.xk_base.specs.declared.ids.Place.{Place}
use Rattle.xk_base.specs.declared.ids.Vpn.{Vpn}
use Rattle.xk_base.specs.declared.pages.Right.{Right}
use Rattle.xk_base.specs.declared.windows.Window.TheVariants.{Map}
use Rattle.resume_path.proofs.Homes.PageRowLemmas.{console_back, console_served, page_back, row_page_back}
use Rattle.resume_path.specs.Coming.{HasCome}

-- a page is out only where there are more pages than frames
pub out_full : {W : Type 0} (S : SwapStore W) (total : ℕ) (m : Memory W) (l : Ledger)
    → HasCome S total m l → none_out m ≡ false → frames_for_pages m < total
out_full S total m l come out = elim (cases_lt (frames_for_pages m) total) [
  | inl more ↦ more
  | inr few ↦ absurd (false≢true (sym out ∙ come.near few))
]

-- ---- a page

pub put_comes : {W : Type 0} (S : SwapStore W) (total : ℕ) (m : Memory W) (l : Ledger)
    (file : List ℕ) (row : PageRow) (at : Place) (right : Right) (x : Bool) (bytes : List ℕ)
    → at ≡ place_at row.pid row.page → right ≡ (ledger_page file row).right → bytes ≡ contents_at file row.from → length bytes ≡ 4096 → row.right < 4
    → HasCome S total m (reduce (in_run at 1) right (write (Homed at) 0 bytes (make at 1 (record { w = true; x = x }) l)))
    → HasCome S total m (place_page (place_at row.pid row.page) (without_loan (ledger_page file row)) l)
put_comes S total m l file row at right x bytes place its content long low come =
    subst (λ k. HasCome S total m k)
    (page_back at right x bytes l long
    ∙ ((λ i. place_page (place i) (record { right = its i; contents = Bytes (content i); loan = None }) l)
    ∙ ap (λ page. place_page (place_at row.pid row.page) page l) (sym (row_page_back file row low))))
    come

-- ---- the console

served_console : (procs : ℕ) (l : Ledger) (at : Place) → is_place_in procs Map at ≡ true → is_free procs l at ≡ true → console_mapped procs l ≡ false
    → console_answer procs l at.pid (Some at.vpn) ≡ Ok at.vpn
served_console procs l at lies free first =
    console_served procs l at (and_parts (is_pid procs at.pid.0) (in_window Map at.vpn.0) lies).1 free first

pub console_not_refused : (procs : ℕ) (l : Ledger) (at : Place) (e : XousError) (r : Result Vpn XousError) → is_place_in procs Map at ≡ true → is_free procs l at ≡ true
    → console_mapped procs l ≡ false → r ≡ console_answer procs l at.pid (Some at.vpn) → r ≡ Err e → ⊥
console_not_refused procs l at e r lies free first is refused = ok_err at.vpn e r (is ∙ served_console procs l at lies free first) refused
  where
    ok_err : (v : Vpn) (e : XousError) (r : Result Vpn XousError) → r ≡ Ok v → r ≡ Err e → ⊥
    ok_err v e r a b = absurd cc

pub console_done : (procs : ℕ) (l : Ledger) (at : Place) (w : Bool) (r : Result Vpn XousError) → is_place_in procs Map at ≡ true → is_free procs l at ≡ true
    → console_mapped procs l ≡ false → r ≡ console_answer procs l at.pid (Some at.vpn) → after_console at.pid w r l ≡ make_console at w l
console_done procs l at w r lies free first is = ap (λ x. after_console at.pid w x l) (is ∙ served_console procs l at lies free first)

pub put_console_comes : {W : Type 0} (S : SwapStore W) (total : ℕ) (m : Memory W) (l : Ledger)
    (file : List ℕ) (row : PageRow) (at : Place) → at ≡ place_at row.pid row.page → 4 ≤ row.right → row.right < 6
    → HasCome S total m (make_console at (row.right % 2 == 1) l)
    → HasCome S total m (place_page (place_at row.pid row.page) (without_loan (ledger_page file row)) l)
put_console_comes S total m l file row at place high low come =
    subst (λ k. HasCome S total m k)
    (console_back file row at l high low ∙ ap (λ p. place_page p (without_loan (ledger_page file row)) l) place) come
