-- What the first pages hold.
use Rattle.std.specs.Prelude.{◌≡◌, ℕ, ◌+◌, ◌/◌, ◌%◌, nat_lt, if◌then◌else◌, List, slice_index}
use Rattle.kernel_args.specs.declared.args.Section.{Section}
use Rattle.boot_plan.specs.declared.plans.PagePlan.{PagePlan}
use Rattle.kernel_args.specs.Loads.{file_size}
use Rattle.boot_plan.specs.Sections.{is_writable, is_executable}

-- the byte of a page at an offset below 4096: the page has len bytes of the file, then zeros
abbrev pub page_byte : List ℕ → PagePlan → ℕ → ℕ
page_byte file page offset = if nat_lt offset page.len then slice_index file (page.from + offset) else 0

-- byte k of a section whose bytes stand in the file from an offset on: behind them it has zeros
abbrev pub section_byte : List ℕ → ℕ → Section → ℕ → ℕ
section_byte file offset s k = if nat_lt k (file_size s) then slice_index file (offset + k) else 0

-- The page of byte k of the section holds that byte where the section's address says, with the section's right.
pub record HoldsByte (file : List ℕ) (offset : ℕ) (s : Section) (k : ℕ) (page : PagePlan) : Type 0 where
  pub vpn : page.vpn.0 ≡ (s.addr + k) / 4096
  pub byte : page_byte file page ((s.addr + k) % 4096) ≡ section_byte file offset s k
  pub w : page.right.w ≡ is_writable s
  pub x : page.right.x ≡ is_executable s
