-- Where no page is out, there are frames for all pages: each stands in a frame of its own, and one frame more is free.
use Rattle.xk_ports.specs.declared.store.SwapStore.{Ghosts as SwapStore}
use Rattle.std.proofs.Common.{◌≡◌, ℕ, ◌+◌, ◌-◌, ◌≤◌, ◌<◌, Bool, true, false, refl, ap, ◌∙◌, arith}
use Rattle.std.specs.Prelude.{◌==◌, is_some, if◌then◌else◌}
use Rattle.std.proofs.lemmas.Bool.{cond-false, cond-true, eq-eqb, eqb-true, ne_eqb}
use Rattle.phys_pages.specs.Owners.{extent, infos, frame_seat}
use Rattle.ledger_model.specs.Ledger.{pages}
use Rattle.vm_memory.proofs.Booting.ProcessPlacedLemmas.{table_of}
use Rattle.vm_memory.proofs.Changing.SoundMemoryLemmas.{pages-ledger}
use Rattle.vm_memory.specs.Bytes.{none_out, used_slots}
use Rattle.vm_memory.specs.Memory.{IsUsable, frames_for_pages, ledger, processes}
use Rattle.vm_memory.specs.Sound.{IsSound}
use Rattle.vm_memory.specs.declared.memory.Memory.{Memory}
use Rattle.xk_base.proofs.CountingLemmas.{count_below-bound, count_below-one}
use Rattle.xk_base.specs.Tables.Counting.{count_below}

-- fewer pass than there are where one doesn't
one_fails : (n k : ℕ) (test : ℕ → Bool) → k < n → test k ≡ false → count_below n test + 1 ≤ n
one_fails n k test low fails =
    let one = count_below-one n k (λ j. if j == k then true else test j) test low
    (cond-true (k == k) true (test k) (eq-eqb k k refl)) fails (λ j b ne. cond-false (j == k) true (test j) (ne_eqb j k ne)) in
    let bound = count_below-bound n (λ j. if j == k then true else test j) in
    omega (arith, one, bound)

pub near_pages_fit : {W : Type 0} (S : SwapStore W) (m : Memory W) → IsSound S.slot_count m → IsUsable m → none_out m ≡ true
    → pages (processes m) (ledger S.held m) ≤ frames_for_pages m
unfolding none_out
near_pages_fit S m sound usable none =
    let free = sound.room usable in
    let table = table_of S.slot_count m sound in
    let there : (extent m.owners).first + (free.frame - (extent m.owners).first) ≡ free.frame = omega (arith, free.within.0) in
    let few = one_fails (extent m.owners).frames (free.frame - (extent m.owners).first) (λ k. is_some (infos m.owners (frame_seat ((extent m.owners).first + k))))
    (omega (arith, free.within.0, free.within.1)) (ap (λ f. is_some (infos m.owners (frame_seat f))) there ∙ ap is_some free.free) in
    let no_slot : used_slots m.owners ≡ 0 = eqb-true (used_slots m.owners) 0 none in
    let same = pages-ledger S.held m in
    omega (arith, few, no_slot, same, sound.seats, sound.pages, table.room)
