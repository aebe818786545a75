-- Where new pages go, and what `make` and `make_console` answer and do. A test of several places is made of all of them
-- before the next test.
use Rattle.std.specs.Prelude.{◌≡◌, ℕ, ◌+◌, ◌≤◌, Bool, true, not, nat_lt, if◌then◌else◌, Option, Some, None, Result, Ok, Err}
use Rattle.xk_base.specs.declared.errors.XousError.{XousError}
use Rattle.xk_base.specs.declared.errors.XousError.TheVariants.{BadAddress, MemoryInUse, OutOfMemory}
use Rattle.xk_base.specs.declared.ids.Pid.{Pid}
use Rattle.xk_base.specs.declared.ids.Place.{Place}
use Rattle.xk_base.specs.declared.ids.Vpn.{Vpn}
use Rattle.xk_base.specs.declared.pages.Right.{Right}
use Rattle.xk_base.specs.declared.windows.Window.{Window}
use Rattle.xk_base.specs.declared.windows.Window.TheVariants.{Map}
use Rattle.ledger_model.specs.Ledger.{Ledger, pages}
use Rattle.ledger_model.specs.LeastRun.{least_run}
use Rattle.ledger_model.specs.Loans.{bare}
use Rattle.ledger_model.specs.RunTests.{fits_window, any_used, console_mapped}
use Rattle.ledger_model.specs.Steps.{make, make_console}
use Rattle.xk_ports.specs.declared.store.SwapStore.{Ghosts as SwapStore}
use Rattle.xk_ports.specs.Keeping.{KeepsStore}
use Rattle.vm_memory.specs.declared.memory.Memory.{Memory}
use Rattle.vm_memory.specs.Bytes.{MeansBytesOver, none_out}
use Rattle.vm_memory.specs.Memory.{Room, ledger, size, store_of}
use Rattle.vm_memory.specs.Sound.{IsSound}

abbrev pub page_place : Pid → Vpn → Place
page_place pid vpn = record { pid = pid; vpn = vpn }

-- ---- the place of a run of n pages in a window of a process

-- a run that a search found
abbrev pub run_found : Option Vpn → Result Vpn XousError
run_found None = Err MemoryInUse
run_found (Some first) = Ok first

-- at the named page, where the run lies in the window and all its places are free; where none is named, the least free run
abbrev pub run_place : ℕ → Ledger → Pid → Window → Option Vpn → ℕ → Result Vpn XousError
run_place procs ledger pid window None n = run_found (least_run procs ledger pid window n)
run_place procs ledger pid window (Some first) n =
    if not (fits_window window first.0 n) then Err BadAddress else (
    if any_used procs ledger (page_place pid first) n then Err MemoryInUse else Ok first)

-- ---- make

-- .. and the capacity holds for n pages more
abbrev pub if_room : Bool → Result Vpn XousError → Result Vpn XousError
if_room over (Ok first) = if over then Err OutOfMemory else Ok first
if_room over (Err error) = Err error

abbrev pub make_answer : Room → Ledger → Pid → Window → Option Vpn → ℕ → Result Vpn XousError
make_answer room ledger pid window at n =
    if_room (nat_lt room.capacity (pages room.procs ledger + n)) (run_place room.procs ledger pid window at n)

-- n pages of zeros at the place that was answered; nothing on a refusal
abbrev pub after_make : Pid → ℕ → Right → Result Vpn XousError → Ledger → Ledger
after_make pid n right (Ok first) ledger = make (page_place pid first) n right ledger
after_make pid n right (Err error) ledger = ledger

-- What `make` leaves where it answers Failed: the call would have been served, and the first pages of its run may be made.
-- All else is as before; bytes too, where they are known.
pub record HasMadeFirst (known : Type 0) (answer : Result Vpn XousError) (pid : Pid) (n : ℕ) (right : Right)
    (old new : Ledger) : Type 0 where
  pub first : Vpn
  pub count : ℕ
  pub served : answer ≡ Ok first
  pub few : count ≤ n
  pub rights : bare new ≡ bare (make (page_place pid first) count right old)
  pub whole : known → new ≡ make (page_place pid first) count right old

-- The pages of a run are made, and others may have gone out; nothing else changes, whatever the store answers or does.
pub record MakesPages {W : Type 0} (S : SwapStore W)
    (old new : Memory W) (first : Place) (n : ℕ) (right : Right) : Type 0 where
  pub sound : IsSound S.slot_count new
  pub rights : bare (ledger S.held new) ≡ bare (make first n right (ledger S.held old))
  -- bytes too, where the store is honest and tells, or no page is out before and after
  pub whole : MeansBytesOver S old new → ledger S.held new ≡ make first n right (ledger S.held old)
  -- no page comes in
  pub none : none_out new ≡ true → none_out old ≡ true
  pub size : size new ≡ size old
  pub store : KeepsStore S (store_of old) (store_of new)

-- The first pages of a run are made.
pub record MakesFirst {W : Type 0} (S : SwapStore W)
    (old new : Memory W) (first : Place) (n : ℕ) (right : Right) : Type 0 where
  pub count : ℕ
  pub few : count ≤ n
  pub made : MakesPages S old new first count right

-- ---- the console

-- one process has the console, at one place of its Map window
abbrev pub console_answer : ℕ → Ledger → Pid → Option Vpn → Result Vpn XousError
console_answer procs ledger pid at =
    if console_mapped procs ledger then Err MemoryInUse else run_place procs ledger pid Map at 1

abbrev pub after_console : Pid → Bool → Result Vpn XousError → Ledger → Ledger
after_console pid w (Ok first) ledger = make_console (page_place pid first) w ledger
after_console pid w (Err error) ledger = ledger
