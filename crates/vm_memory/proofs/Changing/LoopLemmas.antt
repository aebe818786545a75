-- Runs that are made, removed and reduced page by page: what holds after the first i pages.
use Rattle.xk_ports.specs.declared.store.SwapStore.{Ghosts as SwapStore}
use Rattle.std.proofs.Common.{◌≡◌, ℕ, ◌+◌, ◌<◌, ◌≤◌, ◌^◌, true, false, refl, sym, ap, ◌∙◌, inl, inr, arith}
use Rattle.std.proofs.lemmas.Bool.{both_ways, cases_lt}
use Rattle.boot_plan.specs.Capacity.{capacity, page_frames}
use Rattle.std.specs.Prelude.{is_some}
use Rattle.xk_base.specs.declared.ids.Frame.{Frame as FrameNumber}
use Rattle.xk_base.specs.declared.ids.Place.{Place}
use Rattle.xk_base.specs.declared.pages.Right.{Right}
use Rattle.phys_pages.specs.declared.infos.Seat.TheVariants.{Frame}
use Rattle.phys_pages.specs.Owners.{infos}
use Rattle.ledger_model.specs.Conditions.{CanMake}
use Rattle.ledger_model.specs.Ledger.{Ledger, pages}
use Rattle.ledger_model.specs.Places.{in_run, is_user_place, place_after}
use Rattle.ledger_model.specs.Reach.{is_free, role_at}
use Rattle.ledger_model.specs.RunTests.{any_lacks, any_on_loan, asks_more, is_on_loan}
use Rattle.ledger_model.specs.Steps.{make, reduce, remove}
use Rattle.ledger_model.proofs.Stepping.MakingLemmas.{make_pages}
use Rattle.ledger_model.proofs.PlaceLemmas.{IsInRun, in_run-after, in_run-from, in_run-true}
use Rattle.sv32_space.specs.Tie.{Held}
use Rattle.sv32_space.proofs.RunLemmas.{make_next, remove_next, reduce_next}
use Rattle.vm_memory.specs.declared.memory.Memory.{Memory}
use Rattle.vm_memory.specs.Bytes.{none_out}
use Rattle.vm_memory.specs.Pages.Changing.{ChangesPagesAlone}
use Rattle.vm_memory.specs.Memory.{Size, capacity_of, frames_for_pages, ledger, processes}
use Rattle.vm_memory.specs.Sound.{IsSound}
use Rattle.vm_memory.proofs.Using.NowhereLemmas.{no_user}
use Rattle.vm_memory.proofs.Changing.LastFrameLemmas.{last_used}
use Rattle.vm_memory.proofs.Changing.RunLemmas.{free_ahead, lent_ahead, lent_ahead_reduced, within_ahead}
use Rattle.vm_memory.proofs.Changing.ShiftedLemmas.{unmoved}
use Rattle.vm_memory.proofs.Changing.SoundMemoryLemmas.{pages-ledger}

run_wider : (first : Place) (i n : ℕ) (p : Place) → i ≤ n → in_run first i p ≡ true → in_run first n p ≡ true
run_wider first i n p few e =
    let there : IsInRun first i p = in_run-true first i p e in
    in_run-from first n p (record { pid = there.pid; from = there.from; to = omega (arith, there.to) })

-- a shorter run may be made where a longer one may
pub fewer : (procs capacity : ℕ) (l : Ledger) (first : Place) (n i : ℕ) → i ≤ n → CanMake procs capacity l first n → CanMake procs capacity l first i
fewer procs capacity l first n i low can = record {
  lies = λ p e. can.lies p (run_wider first i n p low e);
  free = λ p e. can.free p (run_wider first i n p low e);
  room = omega (arith, low, can.room);
}

pub rest_same : {W : Type 0} (m : Memory W) → ChangesPagesAlone m m
rest_same m = record { size = refl; store = refl; failed = refl; slots = λ s free. free }

pub rest_then : {W : Type 0} (a b c : Memory W) → ChangesPagesAlone a b → ChangesPagesAlone b c → ChangesPagesAlone a c
rest_then a b c first second = record {
  size = second.size ∙ first.size;
  store = second.store ∙ first.store;
  failed = second.failed ∙ first.failed;
  slots = λ s free. second.slots s (first.slots s free);
}

-- ---- another frame at hand

pub handed_sound : {W : Type 0} (S : SwapStore W) (m : Memory W) → IsSound S.slot_count m → (f : FrameNumber) (hand : ℕ) → hand ≡ f.0 + 1
    → is_some (infos m.owners (Frame f)) ≡ true → IsSound S.slot_count (record m { hand = hand })
handed_sound S m sound f hand behind used =
    let moves = unmoved S m sound m.failed hand (λ usable. sound.room usable) (last_used (record m { hand = hand }) f behind used) in
    moves.sound

pub handed_ledger : {W : Type 0} (held : W → Held) (m : Memory W) (hand : ℕ) → ledger held (record m { hand = hand }) ≡ ledger held m
unfolding ledger
handed_ledger held m hand = refl

pub handed_none : {W : Type 0} (m : Memory W) (hand : ℕ) → none_out (record m { hand = hand }) ≡ none_out m
unfolding none_out
handed_none m hand = refl

pub handed_rest : {W : Type 0} (old new : Memory W) (hand : ℕ) → ChangesPagesAlone old new → ChangesPagesAlone old (record new { hand = hand })
handed_rest old new hand rest = record { size = rest.size; store = rest.store; failed = rest.failed; slots = rest.slots }

-- ---- the next page of a run

module _ {W : Type 0} (S : SwapStore W) (m0 m : Memory W) (sound : IsSound S.slot_count m) (rest : ChangesPagesAlone m0 m) (first : Place) (n i : ℕ) (low : i < n) where
  abbrev L0 : Ledger
  L0 = ledger S.held m0

  procs_same : processes m ≡ processes m0
  procs_same = ap (λ (s : Size). s.procs) rest.size

  capacity_same : capacity_of m ≡ capacity_of m0
  capacity_same = ap (λ (s : Size). capacity s.area.frames s.procs s.slots) rest.size

  module _ (right : Right) (can : CanMake (processes m0) (capacity_of m0) (ledger S.held m0) first n) (so_far : ledger S.held m ≡ make first i right (ledger S.held m0)) where
    can_first : CanMake (processes m0) (capacity_of m0) L0 first i
    can_first = fewer (processes m0) (capacity_of m0) L0 first n i (omega arith) can

    pub next_lies : is_user_place (processes m) (place_after first i) ≡ true
    next_lies = ap (λ k. is_user_place k (place_after first i)) procs_same ∙ can.lies (place_after first i) (in_run-after first n i low)

    pub next_free : is_free (processes m) (ledger S.held m) (place_after first i) ≡ true
    next_free = ap (λ k. is_free k (ledger S.held m) (place_after first i)) procs_same
        ∙ (ap (λ l. is_free (processes m0) l (place_after first i)) so_far
        ∙ free_ahead (processes m0) (capacity_of m0) L0 first i right can_first (can.free (place_after first i) (in_run-after first n i low)))

    pub next_room : m.pages + 1 ≤ capacity_of m
    next_room =
        let counted : m.pages ≡ pages (processes m) (ledger S.held m) = sound.pages ∙ sym (pages-ledger S.held m) in
        let same : pages (processes m) (ledger S.held m) ≡ pages (processes m0) (make first i right L0) =
        ap (λ k. pages k (ledger S.held m)) procs_same ∙ ap (pages (processes m0)) so_far in
        let more : pages (processes m0) (make first i right L0) ≡ pages (processes m0) L0 + i = make_pages (processes m0) (capacity_of m0) first i right L0 can_first in
        omega (arith, counted, same, more, can.room, capacity_same)

    pub next_left : IsSound S.slot_count m0 → m0.pages + n ≤ frames_for_pages m0 → m.pages + 1 ≤ frames_for_pages m
    next_left before fits =
        let counted : m.pages ≡ pages (processes m) (ledger S.held m) = sound.pages ∙ sym (pages-ledger S.held m) in
        let same : pages (processes m) (ledger S.held m) ≡ pages (processes m0) (make first i right L0) =
        ap (λ k. pages k (ledger S.held m)) procs_same ∙ ap (pages (processes m0)) so_far in
        let more : pages (processes m0) (make first i right L0) ≡ pages (processes m0) L0 + i = make_pages (processes m0) (capacity_of m0) first i right L0 can_first in
        let counted_before : m0.pages ≡ pages (processes m0) L0 = before.pages ∙ sym (pages-ledger S.held m0) in
        let frames : frames_for_pages m ≡ frames_for_pages m0 = ap (λ (s : Size). page_frames s.area.frames s.procs) rest.size in
        omega (arith, counted, same, more, counted_before, fits, frames)

    pub next_made : (m2 : Memory W) → ledger S.held m2 ≡ make (place_after first i) 1 right (ledger S.held m) → ledger S.held m2 ≡ make first (i + 1) right (ledger S.held m0)
    next_made m2 e = e ∙ (ap (make (place_after first i) 1 right) so_far ∙ sym (make_next first i right L0))

  module _ (free : any_on_loan (processes m0) (ledger S.held m0) first n ≡ false) (so_far : ledger S.held m ≡ remove (in_run first i) (ledger S.held m0)) where
    pub next_not_lent : is_on_loan (role_at (processes m) (ledger S.held m) (place_after first i)) ≡ false
    next_not_lent = ap (λ k. is_on_loan (role_at k (ledger S.held m) (place_after first i))) procs_same
        ∙ (ap (λ l. is_on_loan (role_at (processes m0) l (place_after first i))) so_far
        ∙ lent_ahead (processes m0) L0 first n i free low)

    pub next_removed : (m2 : Memory W) → ledger S.held m2 ≡ remove (in_run (place_after first i) 1) (ledger S.held m) → ledger S.held m2 ≡ remove (in_run first (i + 1)) (ledger S.held m0)
    next_removed m2 e = e ∙ (ap (remove (in_run (place_after first i) 1)) so_far ∙ sym (remove_next first i L0))

  module _ (right : Right) (free : any_on_loan (processes m0) (ledger S.held m0) first n ≡ false) (within : any_lacks right (ledger S.held m0) first n ≡ false)
      (so_far : ledger S.held m ≡ reduce (in_run first i) right (ledger S.held m0)) where
    pub next_not_lent_reduced : is_on_loan (role_at (processes m) (ledger S.held m) (place_after first i)) ≡ false
    next_not_lent_reduced = ap (λ k. is_on_loan (role_at k (ledger S.held m) (place_after first i))) procs_same
        ∙ (ap (λ l. is_on_loan (role_at (processes m0) l (place_after first i))) so_far
        ∙ lent_ahead_reduced (processes m0) L0 first n i right free low)

    pub next_within : asks_more right ((ledger S.held m).home (place_after first i)) ≡ false
    next_within = ap (λ l. asks_more right (l.home (place_after first i))) so_far ∙ within_ahead L0 first n i right within low

    pub next_reduced : (m2 : Memory W) → ledger S.held m2 ≡ reduce (in_run (place_after first i) 1) right (ledger S.held m)
        → ledger S.held m2 ≡ reduce (in_run first (i + 1)) right (ledger S.held m0)
    next_reduced m2 e = e ∙ (ap (reduce (in_run (place_after first i) 1) right) so_far ∙ sym (reduce_next first i right L0))

-- a user place has a page number of 32 bits
pub user_bound : (procs : ℕ) (p : Place) → is_user_place procs p ≡ true → p.vpn.0 < 2 ^ 32
user_bound procs p user = elim (cases_lt p.vpn.0 (2 ^ 32)) [
  | inl low ↦ low
  | inr past ↦ absurd (both_ways (is_user_place procs p) (no_user procs p past) user)
]
