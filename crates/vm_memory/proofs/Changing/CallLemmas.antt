-- What the calls say of a memory that stays sound.
use Rattle.std.proofs.Common.{◌≡◌, ℕ, ◌+◌, ◌<◌, ◌≤◌, Bool, true, false, ◌||◌, ◌==◌, None, ap, sym, subst, ◌∙◌, inl, inr, arith}
use Rattle.std.specs.Prelude.{is_some}
use Rattle.std.proofs.lemmas.Bool.{both_ways, eqb-true, or_right}
use Rattle.xk_base.specs.Tables.Counting.{count_below}
use Rattle.xk_base.proofs.CountingLemmas.{count_below-le, count_below-none, count_below-one}
use Rattle.xk_base.specs.declared.ids.Slot.{Slot as SlotNumber}
use Rattle.phys_pages.specs.declared.infos.Seat.TheVariants.{Slot}
use Rattle.phys_pages.specs.Owners.{OwnerTable, extent, infos, slot_seat}
use Rattle.phys_pages.proofs.OwnerLemmas.{infos-within}
use Rattle.ledger_model.proofs.LedgerLemmas.{cases_Option}
use Rattle.vm_memory.specs.declared.memory.Memory.{Memory}
use Rattle.vm_memory.specs.Bytes.{MeansBytes, is_known, none_out, pages_out, used_slots}
use Rattle.xk_ports.specs.declared.store.SwapStore.{Ghosts as SwapStore}
use Rattle.xk_ports.specs.Keeping.{KeepsStore, tells_truly}
use Rattle.vm_memory.specs.Memory.{Size, size}
use Rattle.vm_memory.specs.Pages.Changing.{ChangesPagesAlone}
use Rattle.vm_memory.proofs.Changing.CountLemmas.{zero_each}

-- a memory with no slots has no page out
count_none : (n : ℕ) (f : ℕ → Bool) → n ≡ 0 → count_below n f ≡ 0
unfolding count_below
count_none n f e = ap (λ k. count_below k f) e

pub no_slots-none_out : {W : Type 0} (m : Memory W) → (size m).slots ≡ 0 → none_out m ≡ true
unfolding none_out
no_slots-none_out m none = ap (λ k. k == 0) (count_none (extent m.owners).slots (λ k. is_some (infos m.owners (slot_seat k))) none)

pub no_slots-means : {W : Type 0} (S : SwapStore W) (m : Memory W) → (size m).slots ≡ 0 → MeansBytes S m
no_slots-means S m none = or_right (is_known S m) (none_out m) (no_slots-none_out m none)

-- where no page is out no slot is used, and the other way round
pub none_out-slots : {W : Type 0} (m : Memory W) → none_out m ≡ true → (s : SlotNumber) → infos m.owners (Slot s) ≡ None
unfolding none_out
none_out-slots m none s = elim (cases_Option (infos m.owners (Slot s))) [
  | inl free ↦ free
  | inr used ↦
      let low : s.0 < (extent m.owners).slots = infos-within m.owners (Slot s) used.0 used.1 in
      let each : is_some (infos m.owners (Slot s)) ≡ false =
      zero_each (extent m.owners).slots (λ k. is_some (infos m.owners (slot_seat k))) (eqb-true (used_slots m.owners) 0 none) s.0 low in
      absurd (both_ways (is_some (infos m.owners (Slot s))) each (ap is_some used.1))
]

pub none_used : {W : Type 0} (m : Memory W) → none_out m ≡ true → used_slots m.owners ≡ 0
unfolding none_out
none_used m none = eqb-true (used_slots m.owners) 0 none

pub slots-none_out : {W : Type 0} (m : Memory W) → ((s : SlotNumber) → infos m.owners (Slot s) ≡ None) → none_out m ≡ true
unfolding none_out
slots-none_out m free = ap (λ k. k == 0) (count_below-none (extent m.owners).slots (λ k. is_some (infos m.owners (slot_seat k)))
    (λ k low. ap is_some (free (record { 0 = k }))))

-- a change after which a slot without a page has none puts no page out
pub none_out-kept : {W : Type 0} (old new : Memory W) → ((s : SlotNumber) → infos old.owners (Slot s) ≡ None → infos new.owners (Slot s) ≡ None)
    → none_out old ≡ true → none_out new ≡ true
none_out-kept old new kept none = slots-none_out new (λ s. kept s (none_out-slots old none s))

-- .. and no more pages are out than before
pub no_more_used : (old new : OwnerTable) → (extent new).slots ≡ (extent old).slots
    → ((s : SlotNumber) → infos old (Slot s) ≡ None → infos new (Slot s) ≡ None) → used_slots new ≤ used_slots old
no_more_used old new table kept =
    let less : count_below (extent old).slots (λ k. is_some (infos new (slot_seat k))) ≤ used_slots old =
    count_below-le (extent old).slots (λ k. is_some (infos new (slot_seat k))) (λ k. is_some (infos old (slot_seat k))) still in
    subst (λ n. count_below n (λ k. is_some (infos new (slot_seat k))) ≤ used_slots old) (sym table) less
  where
    still : (k : ℕ) → k < (extent old).slots → is_some (infos new (slot_seat k)) ≡ true → is_some (infos old (slot_seat k)) ≡ true
    still k low used = elim (cases_Option (infos old (slot_seat k))) [
      | inl free ↦ absurd (both_ways (is_some (infos new (slot_seat k))) (ap is_some (kept (record { 0 = k }) free)) used)
      | inr some ↦ ap is_some some.1
    ]

-- a page at a slot that was free is one more, where all other slots stay
pub one_more_used : (old new : OwnerTable) (s : SlotNumber) → (extent new).slots ≡ (extent old).slots → s.0 < (extent old).slots
    → infos old (Slot s) ≡ None → is_some (infos new (Slot s)) ≡ true
    → ((r : SlotNumber) → (r.0 ≡ s.0 → ⊥) → infos new (Slot r) ≡ infos old (Slot r)) → used_slots new ≡ used_slots old + 1
one_more_used old new s table low free used rest =
    let more : count_below (extent old).slots (λ k. is_some (infos new (slot_seat k))) ≡ used_slots old + 1 =
    count_below-one (extent old).slots s.0 (λ k. is_some (infos new (slot_seat k))) (λ k. is_some (infos old (slot_seat k))) low used (ap is_some free)
    (λ k l apart. ap is_some (rest (record { 0 = k }) apart)) in
    ap (λ n. count_below n (λ k. is_some (infos new (slot_seat k)))) table ∙ more

pub either_kept : (a b c d : Bool) → c ≡ a → (b ≡ true → d ≡ true) → (a || b) ≡ true → (c || d) ≡ true
either_kept true b c d same kept h = ap (λ x. x || d) same
either_kept false b c d same kept h = ap (λ x. x || d) same ∙ kept h

pub means-kept : {W : Type 0} (S : SwapStore W) (old new : Memory W) → new.store ≡ old.store
    → (none_out old ≡ true → none_out new ≡ true) → MeansBytes S old → MeansBytes S new
means-kept S old new same kept means =
    either_kept (is_known S old) (none_out old) (is_known S new) (none_out new) (ap (tells_truly S) same) kept means

-- .. as a change of pages alone does
pub alone-none_out : {W : Type 0} (old new : Memory W) → ChangesPagesAlone old new → none_out old ≡ true → none_out new ≡ true
alone-none_out old new rest = none_out-kept old new rest.slots

pub alone-no_more : {W : Type 0} (old new : Memory W) → ChangesPagesAlone old new → pages_out new ≤ pages_out old
alone-no_more old new rest = no_more_used old.owners new.owners (ap (λ (s : Size). s.slots) rest.size) rest.slots

pub alone-means : {W : Type 0} (S : SwapStore W) (old new : Memory W) → ChangesPagesAlone old new
    → MeansBytes S old → MeansBytes S new
alone-means S old new rest = means-kept S old new rest.store (alone-none_out old new rest)

-- a store that stays is kept
pub same_store : {W : Type 0} (S : SwapStore W) (old new : W)
    → new ≡ old → KeepsStore S old new
same_store S old new e =
    let count : S.faults new ≡ S.faults old = ap S.faults e in
    record {
      honest = ap S.is_honest e;
      told = ap (λ w. is_some (S.held w)) e;
      slots = ap S.slot_count e;
      preparations = ap S.asked e;
      never_falls = omega (arith, count);
    }
