-- The walk in the page tables of a process comes to a page exactly where Reach gives the access and the page isn't out.
use Rattle.xk_ports.specs.declared.store.SwapStore.{Ghosts as SwapStore}
use Rattle.std.proofs.Common.{◌≡◌, ℕ, ◌/◌, ◌^◌, ◌<◌, if◌then◌else◌, Bool, true, false, ◌&&◌, Option, Some, None, refl, sym, ap, ◌∙◌}
use Rattle.std.specs.Prelude.{not, is_some}
use Rattle.xk_base.specs.Tables.Circle.{is_pid}
use Rattle.xk_base.specs.Numbers.Windows.{page_of}
use Rattle.xk_base.specs.declared.ids.Frame.{Frame as FrameNumber}
use Rattle.xk_base.specs.declared.ids.Pid.{Pid}
use Rattle.xk_base.specs.declared.ids.Place.{Place}
use Rattle.xk_base.specs.declared.pages.Access.{Access}
use Rattle.phys_pages.specs.declared.infos.Seat.TheVariants.{Frame, Slot}
use Rattle.phys_pages.specs.Owners.{infos}
use Rattle.phys_pages.specs.Ram.{Area, area, frame_of}
use Rattle.ledger_model.specs.Reach.{owner_may, reach}
use Rattle.sv32_space.specs.declared.sides.Entry.{Entry}
use Rattle.sv32_space.specs.declared.sides.Entry.TheVariants.{Free, At, OnConsole}
use Rattle.sv32_space.specs.EntryReach.{entry_may, side_may, entry_name}
use Rattle.sv32_space.specs.Spaces.{root_at}
use Rattle.sv32_space.specs.SpelledEntries.{entries}
use Rattle.sv32_space.specs.Walk.{walk_of}
use Rattle.sv32_space.specs.declared.walking.Walked.{Walked}
use Rattle.sv32_space.specs.declared.walking.Walked.TheVariants.{Reaches, PageFault}
use Rattle.vm_memory.specs.declared.memory.Memory.{Memory}
use Rattle.page_views.specs.declared.targets.Target.TheVariants.{Page, Nothing, Console}
use Rattle.vm_memory.specs.Bytes.{is_out, names_slot}
use Rattle.vm_memory.specs.Memory.{ledger, processes}
use Rattle.vm_memory.specs.Sound.{IsSound}
use Rattle.page_views.specs.EntryAccess.{entry_target, is_given_target}
use Rattle.vm_memory.specs.Using.Walking.{is_reachable, is_reached, walk_reaches}
use Rattle.vm_memory.proofs.Using.ReachedLemmas.{reach_by, reach_nowhere}
use Rattle.vm_memory.proofs.Using.WalkTargetLemmas.{frame_target, walk_target, walk_leads}

-- a walk's end, as a target
reached_target : (a : Area) (w : Walked) → is_reached w ≡ is_given_target (walk_target a w)
reached_target a PageFault = refl
reached_target a (Reaches address) = by_frame (frame_of a (address / 4096))
  where
    by_frame : (o : Option FrameNumber) → true ≡ is_given_target (frame_target o)
    by_frame None = refl
    by_frame (Some f) = refl

-- an entry leads somewhere where it gives the access and names no slot
pub given_entry : (o : Option Entry) (access : Access) → is_given_target (entry_target o access) ≡ (entry_may o access && not (names_slot o))
given_entry None access = refl
given_entry (Some Free) access = refl
given_entry (Some (At side (Frame f))) access = by_given (side_may side access)
  where
    by_given : (b : Bool) → is_given_target (if b then Page f else Nothing) ≡ (b && true)
    by_given true = refl
    by_given false = refl
given_entry (Some (At side (Slot s))) access = by_given (side_may side access)
  where
    by_given : (b : Bool) → false ≡ (b && false)
    by_given true = refl
    by_given false = refl
given_entry (Some (OnConsole w)) access = by_given (owner_may (record { w = w; x = false }) access)
  where
    by_given : (b : Bool) → is_given_target (if b then Console else Nothing) ≡ (b && true)
    by_given true = refl
    by_given false = refl

some_if : {A : Type 0} (b : Bool) (x : A) → is_some (if b then Some x else None) ≡ b
some_if true x = refl
some_if false x = refl

module _ {W : Type 0} (S : SwapStore W) (m : Memory W) (sound : IsSound S.slot_count m) where
  -- what is reached at a place is what its entry gives
  pub reach_some : (p : Place) (access : Access) → is_some (reach (processes m) (ledger S.held m) p access) ≡ entry_may (entries (processes m) m.ram p) access
  reach_some p access = by_entry (entries (processes m) m.ram p) refl
    where
      by_entry : (o : Option Entry) → entries (processes m) m.ram p ≡ o
          → is_some (reach (processes m) (ledger S.held m) p access) ≡ entry_may (entries (processes m) m.ram p) access
      by_entry None e = ap is_some (reach_nowhere S m sound p access e) ∙ sym (ap (λ o. entry_may o access) e)
      by_entry (Some entry) e = ap is_some (reach_by S m sound p entry access e)
          ∙ (some_if (entry_may (Some entry) access) (entry_name (infos m.owners) p entry) ∙ sym (ap (λ o. entry_may o access) e))

  -- THE WALK
  pub walk_is_reach : (pid : Pid) (address : ℕ) (access : Access) → is_pid (processes m) pid.0 ≡ true → address < 2 ^ 32
      → walk_reaches m pid address access ≡ is_reachable S.held m pid address access
  unfolding is_out
  walk_is_reach pid address access process fits =
      reached_target (area m.ram) (walk_of m.ram (root_at pid.0) address access)
      ∙ (ap is_given_target (walk_leads S.slot_count m sound pid address access fits process)
      ∙ (given_entry (entries (processes m) m.ram (page_of pid address)) access
      ∙ ap (λ b. b && not (names_slot (entries (processes m) m.ram (page_of pid address)))) (sym (reach_some (page_of pid address) access))))
