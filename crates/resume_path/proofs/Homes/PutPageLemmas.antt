-- A page comes back in three steps: what each of them finds, and what a failure between them leaves.
use Rattle.xk_ports.specs.declared.store.SwapStore.{Ghosts as SwapStore}
use Rattle.std.proofs.Common.{◌≡◌, ℕ, ◌+◌, ◌-◌, ◌≤◌, ◌<◌, true, List, length, take, drop, Some, Result, Ok, Err, refl, ap, ◌∙◌, arith}
use Rattle.std.specs.Prelude.{OnErr, is_some}
use Rattle.std.proofs.lemmas.Bool.{and_parts}
use Rattle.ledger_model.proofs.Stepping.MakingLemmas.{make_loans}
use Rattle.ledger_model.proofs.Stepping.WritingLemmas.{bare-loans}
use Rattle.ledger_model.specs.Ledger.{Homed, Ledger, pages}
use Rattle.ledger_model.specs.Loans.{bare, loans}
use Rattle.ledger_model.specs.Places.{is_user_place}
use Rattle.ledger_model.specs.Reach.{reach}
use Rattle.ledger_model.specs.Steps.{make, write}
use Rattle.snapshot_rows.specs.Machines.{contents_at}
use Rattle.sv32_space.specs.Tie.{Held}
use Rattle.vm_memory.proofs.Changing.AnsweringLemmas.{can_answered}
use Rattle.vm_memory.specs.Memory.{IsUsable, frames_for_pages, ledger, processes}
use Rattle.vm_memory.specs.Pages.Making.{make_answer}
use Rattle.vm_memory.specs.Pages.Removing.{reduce_answer}
use Rattle.vm_memory.specs.Sound.{IsSound}
use Rattle.vm_memory.specs.Using.Access.{reaches_bytes}
use Rattle.vm_memory.specs.declared.memory.Memory.{Memory}
use Rattle.xk_base.specs.Numbers.Windows.{window_at}
use Rattle.xk_base.specs.Tables.Circle.{is_pid}
use Rattle.xk_base.specs.declared.ids.Place.{Place}
use Rattle.xk_base.specs.declared.pages.Access.TheVariants.{Store}
use Rattle.xk_base.specs.declared.pages.Right.{Right}
use Rattle.xk_base.specs.declared.windows.Window.{Window}
use Rattle.resume_path.proofs.Homes.PageRowLemmas.{made_bytes, made_reached, made_reduced, made_there, still_made, within_writable}
use Rattle.resume_path.proofs.Homes.StandingLemmas.{contents_long}
use Rattle.resume_path.specs.Coming.{HasCome}
use Rattle.resume_path.specs.Standing.{IsHomeOf}

-- a user place is one of a process, in a window
pub user_pid : (procs : ℕ) (at : Place) → is_user_place procs at ≡ true → is_pid procs at.pid.0 ≡ true
user_pid procs at lies = (and_parts (is_pid procs at.pid.0) (is_some (window_at at.vpn.0)) lies).0

-- The memory has come to its own ledger. (What is said until there are so many pages isn't asked of it: there are fewer frames.)
pub own_come : {W : Type 0} (S : SwapStore W) (total : ℕ) (m : Memory W) → IsSound S.slot_count m → IsUsable m
    → frames_for_pages m < total → HasCome S total m (ledger S.held m)
own_come S total m sound usable few = record {
  sound = sound;
  usable = usable;
  rights = refl;
  whole = λ known. refl;
  near = λ has. absurd (omega (arith, has, few));
}

-- more than there are frames, and than there are pages
abbrev pub beyond : {W : Type 0} → (W → Held) → Memory W → ℕ
beyond held m = frames_for_pages m + pages (processes m) (ledger held m) + 2

module _ (procs capacity : ℕ) (l k : Ledger) (at : Place) (right : Right) (window : Window) (process : is_pid procs at.pid.0 ≡ true)
    (served : make_answer (record { procs = procs; capacity = capacity }) l at.pid window (Some at.vpn) 1 ≡ Ok at.vpn) (rights : bare k ≡ bare (make at 1 right l)) where
  -- no loan has changed
  pub made_loans : loans k ≡ loans l
  made_loans =
      bare-loans (make at 1 right l) k rights
      ∙ make_loans procs capacity at 1 right l (can_answered procs capacity l at.pid window (Some at.vpn) 1 at.vpn process served)

-- ---- the steps, of which the first makes a page that can be written at its home

abbrev pub writable : Right → Right
writable right = record { w = true; x = right.x }

module _ {W : Type 0} (S : SwapStore W) (m n : Memory W) (at : Place) (right : Right) (sound : IsSound S.slot_count m)
    (usable : IsUsable m)
    (makes : (total : ℕ) (l : Ledger) → HasCome S total m l → pages (processes m) l + 1 ≤ total
    → HasCome S total n (make at 1 (writable right) l))
    (rights : bare (ledger S.held n) ≡ bare (make at 1 (writable right) (ledger S.held m))) where
  pub made_come : HasCome S (beyond S.held m) n (make at 1 (writable right) (ledger S.held m))
  made_come =
      makes (beyond S.held m) (ledger S.held m) (own_come S (beyond S.held m) m sound usable (omega arith)) (omega arith)

  its_home : IsHomeOf (ledger S.held n) at (writable right)
  its_home = made_there (ledger S.held m) (ledger S.held n) at (writable right) rights

  pub may_fill : reaches_bytes (processes n) (ledger S.held n) at Store ≡ true
  may_fill = made_bytes (processes n) (ledger S.held n) at (writable right) its_home refl

  pub fills_home : reach (processes n) (ledger S.held n) at Store ≡ Some (Homed at)
  fills_home = made_reached (processes n) (ledger S.held n) at (writable right) its_home refl

  module _ (k : Memory W) (bytes : List ℕ)
      (fills : (total : ℕ) (l : Ledger) → HasCome S total n l → HasCome S total k (write (Homed at) 0 bytes l))
      (kept : bare (ledger S.held k) ≡ bare (ledger S.held n)) where
    pub filled_come : HasCome S (beyond S.held m) k (write (Homed at) 0 bytes (make at 1 (writable right) (ledger S.held m)))
    filled_come = fills (beyond S.held m) (make at 1 (writable right) (ledger S.held m)) made_come

    pub may_reduce : reduce_answer (processes k) (ledger S.held k) at 1 right ≡ Ok tt
    may_reduce =
        made_reduced (processes k) (ledger S.held k) at (writable right) (still_made (ledger S.held n) (ledger S.held k) at (writable right) kept its_home) right
        (within_writable right)

-- the bytes with which it is filled are those of its row
pub row_bytes : (file : List ℕ) (from : ℕ) → take (from + 4096 - from) (drop from file) ≡ contents_at file from
row_bytes file from = let many : from + 4096 - from ≡ 4096 = omega arith in ap (λ n. take n (drop from file)) many

pub row_bytes_long : (file : List ℕ) (from : ℕ) → from + 4096 ≤ length file → length (take (from + 4096 - from) (drop from file)) ≡ 4096
row_bytes_long file from stands = ap length (row_bytes file from) ∙ contents_long file from stands

-- ---- a failure

pub on_err : {A E : Type 0} (r : Result A E) (P : Type 0) → P → OnErr r P
on_err (Ok x) P p = tt
on_err (Err e) P p = p
