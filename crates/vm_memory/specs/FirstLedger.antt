-- The first ledger: the pages of a plan at their homes, with their bytes from the file, and no loan.
use Rattle.std.specs.Prelude.{ℕ, ◌-◌, ◌==◌, nat_le, List, map, Option, None, find, slice_get, if◌then◌else◌}
use Rattle.std.specs.List.{range_with_len}
use Rattle.std.specs.Option.{option_and_then, option_map}
use Rattle.boot_plan.specs.Content.{page_byte}
use Rattle.boot_plan.specs.declared.plans.BootPlan.{BootPlan}
use Rattle.boot_plan.specs.declared.plans.PagePlan.{PagePlan}
use Rattle.boot_plan.specs.declared.plans.ProcPlan.{ProcPlan}
use Rattle.ledger_model.specs.Ledger.{Ledger, Bytes, Page}

-- the 4096 bytes of a page of the plan: its bytes of the file, then zeros
unfoldable pub page_bytes : List ℕ → PagePlan → List ℕ
page_bytes file page = map (page_byte file page) (range_with_len 0 4096)

abbrev pub first_page : List ℕ → PagePlan → Page
first_page file page = record { right = page.right; contents = Bytes (page_bytes file page); loan = None }

-- the process of a pid: the pids are 2, 3 and so on, in the order of the plan
abbrev pub process_of : BootPlan → ℕ → Option ProcPlan
process_of plan pid = if nat_le 2 pid then slice_get plan.procs (pid - 2) else None

-- the page that a process of the plan has at a page number
abbrev pub planned_page : ℕ → ProcPlan → Option PagePlan
planned_page vpn process = find (λ page. page.vpn.0 == vpn) process.pages

unfoldable pub first_ledger : BootPlan → List ℕ → Ledger
first_ledger plan file = record {
  home = λ p. option_map (first_page file) (option_and_then (planned_page p.vpn.0) (process_of plan p.pid.0));
  orphan = λ p. None;
}
