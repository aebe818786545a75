-- A page of the plan is a page of zeros that is filled.
use Rattle.xk_ports.specs.declared.store.SwapStore.{Ghosts as SwapStore}
use Rattle.std.proofs.Common.{◌≡◌, ℕ, if◌then◌else◌, nat_eq, List, length, Some, refl, sym, ap, ◌∙◌, inl, inr}
use Rattle.std.specs.Option.{option_map}
use Rattle.std.proofs.lemmas.List.{length-replicate}
use Rattle.std.proofs.lemmas.List.FromFn.{length-map-range_with_len}
use Rattle.xk_base.specs.Tables.Counting.{put_at}
use Rattle.xk_base.specs.declared.ids.Frame.{Frame as FrameNumber}
use Rattle.xk_base.specs.declared.ids.Place.{Place}
use Rattle.xk_base.specs.declared.pages.Right.{Right}
use Rattle.boot_plan.specs.Content.{page_byte}
use Rattle.boot_plan.specs.declared.plans.PagePlan.{PagePlan}
use Rattle.phys_pages.specs.declared.infos.Seat.TheVariants.{Frame}
use Rattle.phys_pages.specs.Owners.{infos, seat_eq}
use Rattle.phys_pages.specs.Ram.{area, pages, with_page}
use Rattle.phys_pages.proofs.PageLemmas.{length-pages, pages-with_page, area-with_page}
use Rattle.ledger_model.specs.Ledger.{Ledger, Bytes, Homed}
use Rattle.ledger_model.specs.Places.{in_run, same_place}
use Rattle.ledger_model.specs.Steps.{make, new_page, write, written_page, zero_page}
use Rattle.ledger_model.proofs.LedgerLemmas.{same_ledger}
use Rattle.ledger_model.proofs.PlaceLemmas.{same_place_tells}
use Rattle.sv32_space.specs.declared.sides.Side.TheVariants.{Own}
use Rattle.sv32_space.specs.Agreement.{owned_by, right_in}
use Rattle.sv32_space.specs.declared.sides.Entry.TheVariants.{At}
use Rattle.sv32_space.specs.Entries.{Entries}
use Rattle.sv32_space.specs.PageSteps.{place_page}
use Rattle.sv32_space.specs.SpelledEntries.{entries}
use Rattle.sv32_space.specs.Tie.{Held}
use Rattle.sv32_space.proofs.Ledgers.EntryLedgerLemmas.{in_one-at, in_one-apart}
use Rattle.sv32_space.proofs.Ledgers.PageLedgerLemmas.{seat_put}
use Rattle.vm_memory.specs.declared.memory.Memory.{Memory}
use Rattle.vm_memory.specs.FirstLedger.{page_bytes}
use Rattle.vm_memory.specs.Memory.{size, processes, ledger}
use Rattle.vm_memory.specs.Sound.{IsSound}
use Rattle.vm_memory.proofs.Bytes.PageWriteLemmas.{sound_after, size_after, whole_page, written_after}
use Rattle.vm_memory.proofs.Using.WalkTargetLemmas.{IsPageFrame, page_frame}

pub length-page_bytes : (file : List ℕ) (plan : PagePlan) → length (page_bytes file plan) ≡ 4096
unfolding page_bytes
length-page_bytes file plan = length-map-range_with_len (page_byte file plan) 0 4096

zeros_whole : length zero_page ≡ 4096
unfolding zero_page
zeros_whole = length-replicate {A = ℕ} 4096 0

-- a new page of zeros that is written whole
write_made : (at : Place) (right : Right) (bytes : List ℕ) (l : Ledger) → length bytes ≡ 4096
    → write (Homed at) 0 bytes (make at 1 right l) ≡ place_page at (new_page right (Bytes bytes)) l
unfolding write make place_page
write_made at right bytes l whole = same_ledger (write (Homed at) 0 bytes (make at 1 right l)) (place_page at (new_page right (Bytes bytes)) l) homes (λ q. refl)
  where
    homes : (q : Place) → (if same_place q at then option_map (written_page 0 bytes) (if in_run at 1 q then Some (new_page right (Bytes zero_page)) else l.home q) else (if in_run at 1 q then Some (new_page right (Bytes zero_page)) else l.home q))
        ≡ (if same_place q at then Some (new_page right (Bytes bytes)) else l.home q)
    homes q = elim (same_place_tells q at) [
      | inl k ↦ rw (k.0, in_one-at at q k.1) (ap (λ b. Some (new_page right (Bytes b))) (sym (whole_page zero_page bytes zeros_whole whole)))
      | inr k ↦ rw (k.0, in_one-apart at q k.1) refl
    ]

module _ {W : Type 0} (S : SwapStore W) (m n : Memory W) (sound : IsSound S.slot_count n) (at : Place) (right : Right) (f : FrameNumber)
    (made : ledger S.held n ≡ make at 1 right (ledger S.held m))
    (owned : infos n.owners ≡ put_at seat_eq (infos m.owners) (Frame f) (Some (owned_by at))) where
  abbrev E : Entries
  E = entries (processes n) n.ram

  here : E at ≡ Some (At (Own (right_in (E at))) (Frame f))
  here = sound.agree.entries.home (Frame f) at (ap (λ I. I (Frame f)) owned ∙ seat_put (infos m.owners) (Frame f) (Some (owned_by at)))

  pub made_frame : IsPageFrame (processes n) (area n.ram).frames f.0
  made_frame = page_frame S.slot_count n sound at (Own (right_in (E at))) f here

  module _ (bytes : List ℕ) (whole : length bytes ≡ 4096) where
    abbrev k : Memory W
    k = record n { ram = with_page n.ram f.0 bytes }

    now : pages (with_page n.ram f.0 bytes) ≡ put_at nat_eq (pages n.ram) f.0 bytes
    now = pages-with_page n.ram f.0 bytes made_frame.inside whole

    pub filled_sound : IsSound S.slot_count k
    filled_sound = sound_after S n sound (with_page n.ram f.0 bytes) f bytes (area-with_page n.ram f.0 bytes) now made_frame.no_table

    pub filled_size : size k ≡ size n
    filled_size = size_after S n sound (with_page n.ram f.0 bytes) f bytes (area-with_page n.ram f.0 bytes) now made_frame.no_table

    pub filled_ledger : ledger S.held k ≡ place_page at (new_page right (Bytes bytes)) (ledger S.held m)
    filled_ledger =
        written_after S n sound (with_page n.ram f.0 bytes) f bytes (area-with_page n.ram f.0 bytes) now made_frame.no_table
        at (Own (right_in (E at))) here 0 bytes (whole_page (pages n.ram f.0) bytes (length-pages n.ram f.0 made_frame.inside) whole)
        ∙ ap (write (Homed at) 0 bytes) made ∙ write_made at right bytes (ledger S.held m) whole
