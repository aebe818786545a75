-- The walk of Sv32 in user mode (RISC-V Privileged, 4.3.1 and 4.3.2 "Virtual Address Translation Process"), on the bytes
-- of RAM. SUM and MXR don't matter: the first speaks of supervisor mode, and the second is 0. Of the two schemes that
-- the manual permits in step 7, this is the one with page faults: A and D are left to software.
use Rattle.std.specs.Prelude.{ℕ, ◌+◌, ◌*◌, ◌^◌, ◌==◌, Bool, not, ◌&&◌, ◌||◌, if◌then◌else◌, Option, Some, None}
use Rattle.xk_base.specs.Numbers.Fields.{field, bits_of}
use Rattle.xk_base.specs.declared.pages.Access.{Access}
use Rattle.xk_base.specs.declared.pages.Access.TheVariants.{Fetch, Load, Store}
use Rattle.phys_pages.specs.Ram.{RamBytes, area, words, ppn_of}
use Rattle.sv32_space.specs.declared.walking.Walked.{Walked}
use Rattle.sv32_space.specs.declared.walking.Walked.TheVariants.{Reaches, PageFault}

-- the virtual address: VPN[1], VPN[0] and the offset in the page
abbrev pub vpn_1 : ℕ → ℕ
vpn_1 va = bits_of va 31 22

abbrev pub vpn_0 : ℕ → ℕ
vpn_0 va = bits_of va 21 12

abbrev pub page_offset : ℕ → ℕ
page_offset va = bits_of va 11 0

-- a flag of an entry, by its bit
abbrev pub flag : ℕ → ℕ → Bool
flag entry k = field k 1 entry == 1

abbrev pub flag_v : ℕ → Bool
flag_v entry = flag entry 0

abbrev pub flag_r : ℕ → Bool
flag_r entry = flag entry 1

abbrev pub flag_w : ℕ → Bool
flag_w entry = flag entry 2

abbrev pub flag_x : ℕ → Bool
flag_x entry = flag entry 3

abbrev pub flag_u : ℕ → Bool
flag_u entry = flag entry 4

abbrev pub flag_a : ℕ → Bool
flag_a entry = flag entry 6

abbrev pub flag_d : ℕ → Bool
flag_d entry = flag entry 7

-- the physical page number of an entry, and its parts PPN[1] and PPN[0]
abbrev pub entry_ppn : ℕ → ℕ
entry_ppn entry = bits_of entry 31 10

abbrev pub ppn_1 : ℕ → ℕ
ppn_1 entry = bits_of entry 31 20

abbrev pub ppn_0 : ℕ → ℕ
ppn_0 entry = bits_of entry 19 10

-- step 3: an entry without V, or with W and without R, is not valid
abbrev pub is_valid : ℕ → Bool
is_valid entry = flag_v entry && (flag_r entry || not (flag_w entry))

-- step 4: an entry with R or X is a leaf; another points to a table
abbrev pub is_leaf : ℕ → Bool
is_leaf entry = flag_r entry || flag_x entry

-- 4.3.1: in an entry that points to a table, U, A and D are reserved
abbrev pub is_pointer : ℕ → Bool
is_pointer entry = not (flag_u entry || flag_a entry || flag_d entry)

-- step 5: the access is allowed by R, W or X
abbrev pub is_allowed : ℕ → Access → Bool
is_allowed entry Fetch = flag_x entry
is_allowed entry Load = flag_r entry
is_allowed entry Store = flag_w entry

-- step 7: A, and D before a store
abbrev pub is_marked : ℕ → Access → Bool
is_marked entry Fetch = flag_a entry
is_marked entry Load = flag_a entry
is_marked entry Store = flag_a entry && flag_d entry

-- steps 5 and 7 in user mode: the leaf lets the access through
abbrev pub lets_through : ℕ → Access → Bool
lets_through entry access = flag_u entry && is_allowed entry access && is_marked entry access

-- step 6: a leaf of the first level is misaligned where PPN[0] isn't 0
abbrev pub is_aligned : ℕ → Bool
is_aligned entry = ppn_0 entry == 0

-- From an entry of the last level: a leaf, whose page holds the address (step 8). A pointer there is a page fault.
abbrev pub from_last_level : ℕ → ℕ → Access → Walked
from_last_level entry va access =
    if is_valid entry && is_leaf entry && lets_through entry access then Reaches (entry_ppn entry * 4096 + page_offset va) else PageFault

-- from a leaf of the first level, which maps 4 MiB: PPN[0] is that of the virtual address (step 8)
abbrev pub from_large_leaf : ℕ → ℕ → Access → Walked
from_large_leaf entry va access =
    if lets_through entry access && is_aligned entry then Reaches (ppn_1 entry * 2 ^ 22 + vpn_0 va * 4096 + page_offset va) else PageFault

-- The entry at an index of the table in a page (step 2): a table has 1024 entries of four bytes. None outside RAM
abbrev pub entry_in_table : RamBytes → ℕ → ℕ → Option ℕ
entry_in_table ram ppn index = words ram (ppn * 4096 + 4 * index)

-- from what an entry of the last level holds, if it stands in RAM
abbrev pub from_last_entry : Option ℕ → ℕ → Access → Walked
from_last_entry None va access = PageFault
from_last_entry (Some entry) va access = from_last_level entry va access

-- from an entry that points to a table
abbrev pub from_pointer : RamBytes → ℕ → ℕ → Access → Walked
from_pointer ram entry va access = from_last_entry (entry_in_table ram (entry_ppn entry) (vpn_0 va)) va access

-- from an entry of the root
abbrev pub from_root : RamBytes → ℕ → ℕ → Access → Walked
from_root ram entry va access =
    if is_valid entry then (
    if is_leaf entry then from_large_leaf entry va access else (
    if is_pointer entry then from_pointer ram entry va access else PageFault)) else PageFault

abbrev pub from_root_entry : RamBytes → Option ℕ → ℕ → Access → Walked
from_root_entry ram None va access = PageFault
from_root_entry ram (Some entry) va access = from_root ram entry va access

-- THE WALK from a root table in a frame of RAM. A table outside RAM is a page fault.
unfoldable pub walk_of : RamBytes → ℕ → ℕ → Access → Walked
walk_of ram root va access = from_root_entry ram (entry_in_table ram (ppn_of (area ram) root) (vpn_1 va)) va access
