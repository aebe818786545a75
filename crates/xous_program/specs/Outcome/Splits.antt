-- Two setups that have one capacity, split in their own ways into frames of RAM and slots of the swap store.
use Rattle.std.specs.Prelude.{◌≡◌, ℕ, ◌-◌, ◌*◌, ◌/◌, List, length, map, drop, Option, None}
use Rattle.kernel_args.specs.declared.args.Args.{Args}
use Rattle.kernel_args.specs.declared.args.ProcArgs.{ProcArgs}
use Rattle.boot_plan.specs.Capacity.{capacity}
use Rattle.boot_plan.specs.Slots.{slots_used}
use Rattle.program_status.specs.Plans.{IsSoundImage}

-- an image, and the slots that its run asks for
pub record Setup : Type 0 where
  pub image : List ℕ
  pub asked : Option ℕ

-- a process of an image as it is loaded: its bytes stand so far behind the row of tags, and it is told without its check word
abbrev pub behind_row : Args → ProcArgs → ProcArgs
behind_row args process = record process { load = process.load - 4 * args.words; check = None }

-- Two images with these arguments load the same: their processes are the same, and so are the bytes behind their rows of tags. RAM, the
-- slots that they give, their versions, the names and all other tags are free.
pub record LoadAlike (image other : List ℕ) (args others : Args) : Type 0 where
  pub processes : map (behind_row others) others.procs ≡ map (behind_row args) args.procs
  pub bytes : drop (4 * others.words) other ≡ drop (4 * args.words) image

-- The image has no fault in its run, and frames and slots have room for so many pages.
pub record HasCapacity (setup : Setup) (pages : ℕ) : Type 0 where
  pub args : Args
  pub sound : IsSoundImage setup.image setup.asked args
  pub room : pages ≡ capacity (args.ram_size / 4096) (length args.procs) (slots_used args setup.asked)

-- Two setups load the same, and are free in how they split their capacity: by RAM, by the slots asked for, and by those that the images
-- give.
pub record SplitOneCapacity (one other : Setup) : Type 0 where
  pub pages : ℕ
  pub capacity : HasCapacity one pages
  pub other_capacity : HasCapacity other pages
  pub images : LoadAlike one.image other.image capacity.args other_capacity.args
