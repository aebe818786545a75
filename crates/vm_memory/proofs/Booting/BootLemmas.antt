-- The processes of a plan, as their pages are placed one after the other.
use Rattle.xk_ports.specs.declared.store.SwapStore.{Ghosts as SwapStore}
use Rattle.xk_base.specs.Tables.Circle.{is_pid}
use Rattle.std.proofs.Common.{◌≡◌, ℕ, ◌+◌, ◌<◌, ◌≤◌, Bool, true, false, ◌&&◌, ◌||◌, List, [], ◌∷◌, ◌++◌, take, drop, length, get_or, sum_by, refl, sym, ap, subst, ◌∙◌, arith, length-take}
use Rattle.std.specs.Prelude.{All, nat_le, nat_lt}
use Rattle.std.proofs.lemmas.Bool.{and_from, le-leb, lt-ltb}
use Rattle.std.proofs.lemmas.List.{take_all, take_more, take-append-drop}
use Rattle.std.proofs.lemmas.List.Sums.{sum_by-append, sum_by-cons}
use Rattle.boot_plan.specs.Capacity.{capacity}
use Rattle.boot_plan.specs.Lawful.{IsLawfulProcess}
use Rattle.boot_plan.specs.declared.plans.BootPlan.{BootPlan}
use Rattle.boot_plan.specs.declared.plans.ProcPlan.{ProcPlan}
use Rattle.ledger_model.specs.Ledger.{Ledger, empty_ledger}
use Rattle.ledger_model.specs.Loans.{bare}
use Rattle.sv32_space.specs.Tie.{Held}
use Rattle.vm_memory.specs.declared.memory.Memory.{Memory}
use Rattle.vm_memory.specs.Bytes.{MeansBytes, MeansBytesOver, is_known, none_out}
use Rattle.vm_memory.specs.FirstLedger.{first_ledger}
use Rattle.vm_memory.specs.Memory.{IsUsable, Size, processes, capacity_of, frames_for_pages, ledger}
use Rattle.vm_memory.specs.Sound.{IsSound}
use Rattle.vm_memory.specs.Starting.{FillsInOrder, HasNoPage, IsUnlent, KeepsUnlent, PlacesPages, page_count, place_pages, place_processes}
use Rattle.vm_memory.proofs.Booting.FirstPageLemmas.{first_is, processes_unlent, processes_more, processes_home_other}
use Rattle.vm_memory.proofs.Booting.PlacingLemmas.{kept_placed, none_bare, pages_bare, placed_none, placed_then, unlent_bare}
use Rattle.vm_memory.proofs.Booting.ProcessPlacedLemmas.{same_frames}
use Rattle.vm_memory.proofs.Changing.ShiftedLemmas.{known_kept}

nothing_unlent : IsUnlent empty_ledger
nothing_unlent = record { loans = λ q. refl; orphans = λ q. refl }

module _ {W : Type 0} (S : SwapStore W) (file : List ℕ) (plan : List ProcPlan) where
  abbrev count : ProcPlan → ℕ
  count p = length p.pages

  -- the pages of the first k processes are placed
  pub record AreBooted (k : ℕ) (old now : Memory W) : Type 0 where
    pub placed : PlacesPages S old now (page_count (take k plan)) (place_processes file 2 (take k plan))
    pub order : FillsInOrder now
    pub usable : IsUsable now

  module _ (old : Memory W) (sound : IsSound S.slot_count old) (same : processes old ≡ length plan) (empty : ledger S.held old ≡ empty_ledger) where
    pub nothing_booted : FillsInOrder old → IsUsable old → AreBooted 0 old old
    nothing_booted order usable = record { placed = placed_none S old sound; order = order; usable = usable }

    unlent : (k : ℕ) → IsUnlent (place_processes file 2 (take k plan) (ledger S.held old))
    unlent k = processes_unlent file 2 (take k plan) (ledger S.held old) (subst (λ l. IsUnlent l) (sym empty) nothing_unlent)

    pub kept_booted : (now : Memory W) (k : ℕ) → AreBooted k old now → KeepsUnlent S old now
    kept_booted now k h = kept_placed S old now (sum_by count (take k plan)) (place_processes file 2 (take k plan)) h.placed (unlent k)

    -- all of them
    pub all_booted : (now : Memory W) (k : ℕ) → k ≡ length plan → AreBooted k old now
        → PlacesPages S old now (page_count plan) (place_processes file 2 plan)
    all_booted now k all h = subst (λ (ps : List ProcPlan). PlacesPages S old now (page_count ps) (place_processes file 2 ps))
        (take_all k plan (omega (arith, all))) h.placed

    module _ (now : Memory W) (k : ℕ) (low : k < length plan) (d : ProcPlan) (h : AreBooted k old now) where
      taken_size : length (take k plan) ≡ k
      taken_size = simp length-take (omega arith)

      procs_now : processes now ≡ length plan
      procs_now = ap (λ (s : Size). s.procs) h.placed.size ∙ same

      pub next_process : is_pid (processes now) (k + 2) ≡ true
      next_process = and_from (nat_le 2 (k + 2)) (nat_lt (k + 2) (processes now + 2)) (le-leb 2 (k + 2) (omega arith)) (lt-ltb (k + 2) (processes now + 2) (omega (arith, procs_now)))

      pub next_unlent : IsUnlent (ledger S.held now)
      next_unlent = unlent_bare (place_processes file 2 (take k plan) (ledger S.held old)) (ledger S.held now) h.placed.rights (unlent k)

      pub next_has_none : HasNoPage (k + 2) (ledger S.held now)
      next_has_none = none_bare (k + 2) (place_processes file 2 (take k plan) (ledger S.held old)) (ledger S.held now) h.placed.rights
          (λ q e. processes_home_other file 2 (take k plan) (ledger S.held old) q (omega (arith, taken_size, e)) ∙ ap (λ (l : Ledger). l.home q) empty)

      more_counted : sum_by count (take k plan) + length (get_or plan k d).pages ≡ sum_by count (take (k + 1) plan)
      more_counted =
          let step : sum_by count (take (k + 1) plan) ≡ sum_by count (take k plan ++ get_or plan k d ∷ []) = ap (sum_by count) (take_more plan k d low) in
          let split : sum_by count (take k plan ++ get_or plan k d ∷ []) ≡ sum_by count (take k plan) + sum_by count (get_or plan k d ∷ []) = sum_by-append count (take k plan) (get_or plan k d ∷ []) in
          let one : sum_by count (get_or plan k d ∷ []) ≡ length (get_or plan k d).pages + sum_by count [] = sum_by-cons count (get_or plan k d) [] in
          omega arith

      -- the pages placed so far, and the next process's, are among all
      counted : sum_by count (take k plan) + length (get_or plan k d).pages + sum_by count (drop (k + 1) plan) ≡ sum_by count plan
      counted =
          let cut : take (k + 1) plan ++ drop (k + 1) plan ≡ plan = take-append-drop (k + 1) plan in
          let more : sum_by count (take (k + 1) plan ++ drop (k + 1) plan) ≡ sum_by count (take (k + 1) plan) + sum_by count (drop (k + 1) plan) = sum_by-append count (take (k + 1) plan) (drop (k + 1) plan) in
          let all : sum_by count (take (k + 1) plan ++ drop (k + 1) plan) ≡ sum_by count plan = ap (sum_by count) cut in
          omega (arith, more, all, more_counted)

      pub next_process_room : old.pages + page_count plan ≤ capacity_of old → now.pages + length (get_or plan k d).pages ≤ capacity_of now
      next_process_room fits =
          let room : capacity_of now ≡ capacity_of old = ap (λ (s : Size). capacity s.area.frames s.procs s.slots) h.placed.size in
          omega (arith, h.placed.pages, counted, room, fits)

      -- .. past the frames, where the store was asked
      pub next_process_full : frames_for_pages now < now.pages + length (get_or plan k d).pages
          → frames_for_pages old < old.pages + page_count plan
      next_process_full past = omega (arith, past, h.placed.pages, counted, same_frames S.slot_count old now sound h.placed.sound h.placed.size)

      pub next_booted : (new : Memory W)
          → PlacesPages S now new (length (get_or plan k d).pages) (place_pages file (record { 0 = k + 2 }) (get_or plan k d).pages)
          → FillsInOrder new → IsUsable new → AreBooted (k + 1) old new
      next_booted new step order usable = record {
        placed = placed_then S old now new (sum_by count (take k plan)) (length (get_or plan k d).pages) (sum_by count (take (k + 1) plan))
            (place_processes file 2 (take k plan)) (place_pages file (record { 0 = k + 2 }) (get_or plan k d).pages) (place_processes file 2 (take (k + 1) plan)) h.placed step
            (λ l x e. pages_bare file (record { 0 = k + 2 }) (get_or plan k d).pages l x e) more_counted
            (λ l. ap (λ n. place_pages file (record { 0 = n }) (get_or plan k d).pages (place_processes file 2 (take k plan) l)) number
            ∙ (sym (processes_more file 2 (take k plan) (get_or plan k d) l)
            ∙ sym (ap (λ xs. place_processes file 2 xs l) (take_more plan k d low))));
        order = order;
        usable = usable;
      }
        where
          number : k + 2 ≡ 2 + length (take k plan)
          number = omega (arith, taken_size)

-- ---- what a boot leaves

module _ {W : Type 0} (S : SwapStore W) (file : List ℕ) (plan : BootPlan)
    (old now : Memory W) (n : ℕ) (procs : List ProcPlan) (same : procs ≡ plan.procs) (empty : ledger S.held old ≡ empty_ledger)
    (lawful : All (IsLawfulProcess (length file)) plan.procs) (h : PlacesPages S old now n (place_processes file 2 procs)) where
  first_made : place_processes file 2 procs (ledger S.held old) ≡ first_ledger plan file
  first_made = ap (λ ps. place_processes file 2 ps (ledger S.held old)) same ∙ (ap (place_processes file 2 plan.procs) empty ∙ first_is file (length file) plan lawful)

  pub booted_rights : bare (ledger S.held now) ≡ bare (first_ledger plan file)
  booted_rights = h.rights ∙ ap bare first_made

  -- no page was out at first
  pub booted_whole : none_out old ≡ true → MeansBytes S now → ledger S.held now ≡ first_ledger plan file
  booted_whole none means = h.whole over ∙ first_made
    where
      kept : is_known S now ≡ is_known S old
      kept = known_kept S old.store now.store h.store

      over : MeansBytesOver S old now
      over = from (is_known S old) (is_known S now) (none_out old) (none_out now) kept none means
        where
          from : (known known_now a b : Bool) → known_now ≡ known → a ≡ true → (known_now || b) ≡ true → (known || (a && b)) ≡ true
          from true known_now a b same first h = refl
          from false known_now a b same first h = and_from a b first (sym (ap (λ x. x || b) same) ∙ h)
