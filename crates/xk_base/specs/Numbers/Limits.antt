-- The limits of the machine, each pinned to the number that it is, and what follows from them alone.
use Rattle.std.specs.Prelude.{◌≡◌, ℕ, ◌*◌}
use Rattle.xk_base.specs.declared.limits.TheConstants.{PAGE_SIZE, PROCESS_LIMIT, FIRST_PROCESS_LIMIT, TID_LIMIT, SERVER_LIMIT}
use Rattle.xk_base.specs.declared.limits.TheConstants.{MESSAGE_LIMIT, CONNECTION_LIMIT, INTERRUPT_LIMIT, TABLE_FRAMES, FRAME_LIMIT}
use Rattle.xk_base.specs.declared.limits.TheConstants.{SLOT_LIMIT, IMAGE_LIMIT, SECTION_LIMIT, EVENT_LINE_LIMIT, EVENT_FILE_LIMIT}
use Rattle.xk_base.specs.declared.limits.TheConstants.{STEP_LIMIT, DEFAULT_STEPS, RECORD_LIMIT, CONSOLE_ADDRESS, TIMER_ADDRESS}
use Rattle.xk_base.specs.declared.limits.TheConstants.{TIMER_INTERRUPT}

-- Definitions name the limits by the constants of src/limits.rt. These are their values.
pub record AreLimits : Type 0 where
  -- bytes of a page and of a frame
  pub page_size : PAGE_SIZE ≡ 4096
  -- processes of an image, and of one of version 1
  pub processes : PROCESS_LIMIT ≡ 64
  pub first_processes : FIRST_PROCESS_LIMIT ≡ 32
  -- a thread's id is 1 to this; 1 is the interrupt thread
  pub tids : TID_LIMIT ≡ 31
  -- servers that are alive at one time
  pub servers : SERVER_LIMIT ≡ 64
  -- slots of a server: queued, held and to be forgotten, together
  pub messages : MESSAGE_LIMIT ≡ 128
  -- connections of a process
  pub connections : CONNECTION_LIMIT ≡ 32
  -- interrupt numbers are below this
  pub interrupts : INTERRUPT_LIMIT ≡ 32
  -- frames of a process's tables: the root, and four tables for each of the five windows
  pub tables : TABLE_FRAMES ≡ 21
  -- frames of RAM, and slots of the swap store: 64 MiB each
  pub frames : FRAME_LIMIT ≡ 16384
  pub slots : SLOT_LIMIT ≡ 16384
  -- bytes of an image file: 64 MiB
  pub image : IMAGE_LIMIT ≡ 67108864
  -- sections of a process
  pub sections : SECTION_LIMIT ≡ 32
  -- bytes of a line of an event file before its line feed, and of the whole file: 1 GiB
  pub event_line : EVENT_LINE_LIMIT ≡ 64
  pub event_file : EVENT_FILE_LIMIT ≡ 1073741824
  -- the greatest step limit, and the one where none is given
  pub steps : STEP_LIMIT ≡ 4000000000
  pub default_steps : DEFAULT_STEPS ≡ 10000000
  -- records of one step or event
  pub records : RECORD_LIMIT ≡ 2048
  -- the physical address of the console's page; RAM ends there at the latest
  pub console : CONSOLE_ADDRESS ≡ 0xF0000000
  -- the virtual address of the timer's page, and the interrupt that it raises
  pub timer_page : TIMER_ADDRESS ≡ 0xF0001000
  pub timer_interrupt : TIMER_INTERRUPT ≡ 20

-- the frames that hold the page tables of so many processes
abbrev pub table_frames : ℕ → ℕ
table_frames processes = 21 * processes
