-- A memory on its way to its first pages.
use Rattle.std.specs.Prelude.{◌≡◌, ℕ, ◌+◌, ◌<◌, ◌≤◌, Bool, true, List, [], ◌∷◌, length, sum_by, None}
use Rattle.xk_base.specs.declared.ids.Pid.{Pid}
use Rattle.xk_base.specs.declared.ids.Place.{Place}
use Rattle.boot_plan.specs.declared.plans.PagePlan.{PagePlan}
use Rattle.boot_plan.specs.declared.plans.ProcPlan.{ProcPlan}
use Rattle.phys_pages.specs.Owners.{OwnerTable, extent, infos, frame_seat}
use Rattle.ledger_model.specs.Ledger.{Ledger, loan_at}
use Rattle.ledger_model.specs.Loans.{bare}
use Rattle.sv32_space.specs.PageSteps.{place_page}
use Rattle.sv32_space.specs.Tie.{Held}
use Rattle.xk_ports.specs.declared.store.SwapStore.{Ghosts as SwapStore}
use Rattle.xk_ports.specs.Keeping.{KeepsStore}
use Rattle.vm_memory.specs.declared.memory.Memory.{Memory}
use Rattle.vm_memory.specs.Bytes.{MeansBytesOver, none_out, used_frames}
use Rattle.vm_memory.specs.FirstLedger.{first_page}
use Rattle.vm_memory.specs.Memory.{frames_for_pages, ledger, size, store_of}
use Rattle.vm_memory.specs.Sound.{IsSound}

-- ---- where pages stand

-- the frames of the table behind the first `used` ones are free
abbrev pub AreFreeFrom : OwnerTable → ℕ → Type 0
AreFreeFrom owners used = (k : ℕ) → used ≤ k → k < (extent owners).frames → infos owners (frame_seat ((extent owners).first + k)) ≡ None

-- no page is out, and the pages stand in the first frames
pub record FillsFirstFrames {W : Type 0} (m : Memory W) : Type 0 where
  pub none : none_out m ≡ true
  pub free : AreFreeFrom m.owners m.pages

-- .. as they do while there are frames for all pages; when there are more, one frame alone is free
pub record FillsInOrder {W : Type 0} (m : Memory W) : Type 0 where
  pub first : m.pages ≤ frames_for_pages m → FillsFirstFrames m
  pub past : frames_for_pages m < m.pages → used_frames m.owners ≡ frames_for_pages m

-- ---- what is placed

-- how many pages these processes have
abbrev pub page_count : List ProcPlan → ℕ
page_count plan = sum_by (λ p. length p.pages) plan

-- no page is on loan, and there is no orphan
pub record IsUnlent (ledger : Ledger) : Type 0 where
  pub loans : (q : Place) → loan_at ledger q ≡ None
  pub orphans : (q : Place) → ledger.orphan q ≡ None

-- the process has no page
abbrev pub HasNoPage : ℕ → Ledger → Type 0
HasNoPage pid ledger = (q : Place) → q.pid.0 ≡ pid → ledger.home q ≡ None

-- the ledger with the pages of a process, placed one after the other
abbrev pub place_pages : List ℕ → Pid → List PagePlan → Ledger → Ledger
place_pages file pid [] ledger = ledger
place_pages file pid (page ∷ rest) ledger =
    place_pages file pid rest (place_page (record { pid = pid; vpn = page.vpn }) (first_page file page) ledger)

-- .. and with those of the processes with the pids from this one on
abbrev pub place_processes : List ℕ → ℕ → List ProcPlan → Ledger → Ledger
place_processes file pid [] ledger = ledger
place_processes file pid (process ∷ rest) ledger =
    place_processes file (pid + 1) rest (place_pages file (record { 0 = pid }) process.pages ledger)

-- So many pages are placed, as that step of the ledger places them, and others may have gone out; nothing else changes,
-- whatever the store answers or does.
pub record PlacesPages {W : Type 0} (S : SwapStore W)
    (old new : Memory W) (count : ℕ) (place : Ledger → Ledger) : Type 0 where
  pub sound : IsSound S.slot_count new
  pub pages : new.pages ≡ old.pages + count
  pub rights : bare (ledger S.held new) ≡ bare (place (ledger S.held old))
  -- bytes too, where the store is honest and tells, or no page is out before and after
  pub whole : MeansBytesOver S old new → ledger S.held new ≡ place (ledger S.held old)
  -- no page comes in
  pub none : none_out new ≡ true → none_out old ≡ true
  pub size : size new ≡ size old
  pub store : KeepsStore S (store_of old) (store_of new)

-- What stays on any answer while pages are placed: no page is on loan, and the store is kept.
pub record KeepsUnlent {W : Type 0} (S : SwapStore W)
    (old new : Memory W) : Type 0 where
  pub sound : IsSound S.slot_count new
  pub unlent : IsUnlent (ledger S.held new)
  pub store : KeepsStore S (store_of old) (store_of new)
