-- Memory as the processes of the machine see it, and the stores of an instruction.
use Rattle.std.specs.Prelude.{ℕ, ◌%◌, Bool, true, false, not, ◌&&◌, ◌||◌, List, is_some, if◌then◌else◌, Option, Some, None}
use Rattle.std.specs.Option.{option_and_then, option_map_or}
use Rattle.xk_base.specs.declared.ids.Pid.{Pid}
use Rattle.xk_base.specs.declared.limits.TheConstants.{TIMER_INTERRUPT}
use Rattle.xk_base.specs.declared.pages.Access.{Access}
use Rattle.xk_base.specs.declared.pages.Access.TheVariants.{Fetch, Load, Store}
use Rattle.xk_base.specs.declared.pages.Width.{Width}
use Rattle.ledger_model.specs.Ledger.{Ledger, Contents, PageName, byte_of, contents_of, has_bytes}
use Rattle.ledger_model.specs.Reach.{reach}
use Rattle.ledger_model.specs.Steps.{write}
use Rattle.xk_base.specs.UserMemory.{Memory, Timer, timer_at, compare_stored, low_bytes}
use Rattle.xk_base.specs.Numbers.Windows.{page_of}
use Rattle.machine_model.specs.State.Machine.{Machine}
use Rattle.machine_model.specs.Stepping.Interrupts.{is_claim_of}

-- the page that the process reaches at the address by the access, or none where it hasn't that access
abbrev pub page_reached : Machine → Pid → Access → ℕ → Option PageName
page_reached m pid access address = reach m.processes m.ledger (page_of pid address) access

-- what the page holds that the process may load at the address. A page that it may fetch from or store to is one
-- that it may load.
abbrev pub contents_seen : Machine → Pid → ℕ → Option Contents
contents_seen m pid address = option_and_then (contents_of m.ledger) (page_reached m pid Load address)

-- the timer as the process sees it in this step: it is there for the process that has claimed its interrupt
abbrev pub timer_of : Machine → Pid → Option Timer
timer_of m pid =
    if is_claim_of pid (m.claims TIMER_INTERRUPT) then Some (record { steps = m.steps; compare = m.compare }) else None

-- the timer's page is for loads and stores
abbrev pub is_of_timer_page : Access → Bool
is_of_timer_page Fetch = false
is_of_timer_page Load = true
is_of_timer_page Store = true

-- memory as the process sees it: the pages that it reaches, and the timer's where it is there
unfoldable pub memory_of : Machine → Pid → Memory
memory_of m pid = record {
  may = λ access address. (is_some (timer_at (timer_of m pid) address) && is_of_timer_page access)
      || is_some (page_reached m pid access address);
  console = λ address. option_map_or (λ contents. not (has_bytes contents)) (contents_seen m pid address) false;
  byte = λ address. option_map_or (byte_of (address % 4096)) (contents_seen m pid address) 0;
  timer = timer_of m pid;
}

-- the bytes stand at that offset of the page, if there is one
abbrev pub write_to : Option PageName → ℕ → List ℕ → Ledger → Ledger
write_to None offset bytes ledger = ledger
write_to (Some page) offset bytes ledger = write page offset bytes ledger

-- the machine after a store by the process
unfoldable pub stored : Pid → ℕ → Width → ℕ → Machine → Machine
stored pid address width value m = record m {
  ledger = write_to (page_reached m pid Store address) (address % 4096) (low_bytes width value) m.ledger;
}

-- the machine after a store to the timer's page at this offset
unfoldable pub timer_set : ℕ → Width → ℕ → Machine → Machine
timer_set offset width value m = record m { compare = compare_stored offset width value m.compare }
