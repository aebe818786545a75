-- Pages that are made where others may have to go out.
use Rattle.std.proofs.Common.{◌≡◌, ℕ, ◌+◌, ◌<◌, ◌≤◌, Bool, true, false, ◌&&◌, ◌||◌, if◌then◌else◌, Some, refl, sym, ap, ◌∙◌, arith}
use Rattle.std.specs.Option.{option_map}
use Rattle.std.specs.Prelude.{Result, Ok}
use Rattle.xk_base.specs.declared.errors.XousError.{XousError}
use Rattle.xk_base.specs.declared.ids.Pid.{Pid}
use Rattle.xk_base.specs.declared.ids.Vpn.{Vpn}
use Rattle.std.proofs.lemmas.Bool.{and_from, and_parts, or_left, or_right}
use Rattle.boot_plan.specs.Capacity.{capacity}
use Rattle.xk_base.specs.Tables.Counting.{put_at}
use Rattle.xk_base.specs.declared.ids.Frame.{Frame as FrameNumber}
use Rattle.xk_base.specs.declared.ids.Place.{Place}
use Rattle.xk_base.specs.declared.pages.Right.{Right}
use Rattle.phys_pages.specs.declared.infos.PageInfo.{PageInfo}
use Rattle.phys_pages.specs.declared.infos.Seat.TheVariants.{Frame, Slot}
use Rattle.phys_pages.specs.Owners.{infos, seat_eq}
use Rattle.ledger_model.specs.Conditions.{CanMake}
use Rattle.ledger_model.specs.Ledger.{Bytes, Ledger, pages}
use Rattle.ledger_model.specs.Loans.{bare, bare_page}
use Rattle.ledger_model.specs.Places.{in_run, is_user_place, place_after}
use Rattle.ledger_model.specs.Reach.{is_free}
use Rattle.ledger_model.specs.Steps.{make, new_page, zero_page}
use Rattle.ledger_model.proofs.LedgerLemmas.{same_ledger}
use Rattle.ledger_model.proofs.Pages.BareLemmas.{bare-free}
use Rattle.ledger_model.proofs.PlaceLemmas.{in_run-after}
use Rattle.ledger_model.proofs.Stepping.MakingLemmas.{make_pages}
use Rattle.ledger_model.proofs.Stepping.WritingLemmas.{bare-pages}
use Rattle.sv32_space.specs.Tie.{Held}
use Rattle.sv32_space.proofs.RunLemmas.{make_next, make_none}
use Rattle.xk_ports.specs.declared.store.SwapStore.{Ghosts as SwapStore}
use Rattle.xk_ports.specs.Keeping.{tells_truly}
use Rattle.vm_memory.specs.declared.memory.Memory.{Memory}
use Rattle.vm_memory.specs.Bytes.{MeansBytesOver, is_known, none_out}
use Rattle.vm_memory.specs.Memory.{Size, capacity_of, ledger, processes}
use Rattle.vm_memory.specs.Pages.Changing.{ChangesPagesAlone}
use Rattle.vm_memory.specs.Pages.Exchanging.{MovesPages}
use Rattle.vm_memory.specs.Pages.Making.{HasMadeFirst, MakesFirst, MakesPages, page_place}
use Rattle.vm_memory.specs.Sound.{IsSound}
use Rattle.vm_memory.proofs.Changing.CallLemmas.{alone-none_out, none_out-kept, same_store}
use Rattle.vm_memory.proofs.Changing.LoopLemmas.{fewer}
use Rattle.vm_memory.proofs.Changing.RunLemmas.{free_ahead}
use Rattle.vm_memory.proofs.Changing.ShiftedLemmas.{keeps_all, known_kept, store_then}
use Rattle.vm_memory.proofs.Changing.SoundMemoryLemmas.{pages-ledger}

-- ledgers that are equal but for their bytes are so after pages are made
pub make_bare : (at : Place) (n : ℕ) (right : Right) (l k : Ledger) → bare k ≡ bare l → bare (make at n right k) ≡ bare (make at n right l)
unfolding bare make
make_bare at n right l k e = same_ledger (bare (make at n right k)) (bare (make at n right l)) homes (λ p. ap (λ (x : Ledger). x.orphan p) e)
  where
    homes : (p : Place) → (bare (make at n right k)).home p ≡ (bare (make at n right l)).home p
    homes p = by_test (in_run at n p)
      where
        by_test : (b : Bool) → option_map bare_page (if b then Some (new_page right (Bytes zero_page)) else k.home p)
            ≡ option_map bare_page (if b then Some (new_page right (Bytes zero_page)) else l.home p)
        by_test true = refl
        by_test false = ap (λ (x : Ledger). x.home p) e

-- a memory with another mark of failure has the same ledger
pub marked_ledger : {W : Type 0} (held : W → Held) (m : Memory W) (failed : Bool) → ledger held (record m { failed = failed }) ≡ ledger held m
unfolding ledger
marked_ledger held m failed = refl

pub marked_none : {W : Type 0} (m : Memory W) (failed : Bool) → none_out (record m { failed = failed }) ≡ none_out m
unfolding none_out
marked_none m failed = refl

-- what is known over two changes is known over each
pub over_from : (known known_now a b : Bool) → known_now ≡ known → (known ≡ false → a ≡ true) → (known ≡ false → b ≡ true) → (known_now || (a && b)) ≡ true
over_from true known_now a b same first second = or_left known_now (a && b) same
over_from false known_now a b same first second = or_right known_now (a && b) (and_from a b (first refl) (second refl))

pub ends_of : (known a b : Bool) → (known || (a && b)) ≡ true → known ≡ false → (a ≡ true) × (b ≡ true)
ends_of true a b h none = absurd cc
ends_of false a b h none = and_parts a b h

module _ {W : Type 0} (S : SwapStore W) where
  -- ---- one page

  module _ (m : Memory W) (at : Place) (right : Right) (f : FrameNumber) (info : PageInfo) (m2 m3 : Memory W)
      (placed : ledger S.held m2 ≡ make at 1 right (ledger S.held (record m { failed = true })))
      (owned : infos m2.owners ≡ put_at seat_eq (infos m.owners) (Frame f) (Some info))
      (rest : ChangesPagesAlone (record m { failed = true }) m2) (moves : MovesPages S m2 m3)
      (over : MeansBytesOver S m2 m3 → ledger S.held m3 ≡ ledger S.held m2) (none : none_out m3 ≡ true → none_out m2 ≡ true) where
    placed_there : ledger S.held m2 ≡ make at 1 right (ledger S.held m)
    placed_there = placed ∙ ap (make at 1 right) (marked_ledger S.held m true)

    none_before : none_out m2 ≡ true → none_out m ≡ true
    none_before = none_out-kept m2 m (λ s free. ap (λ I. I (Slot s)) (sym owned) ∙ free)

    none_after : none_out m ≡ true → none_out m2 ≡ true
    none_after h = alone-none_out (record m { failed = true }) m2 rest (marked_none m true ∙ h)

    pub page_made : MakesPages S m m3 at 1 right
    page_made = record {
      sound = moves.sound;
      rights = moves.rights ∙ ap bare placed_there;
      whole = λ means. over (over_from (is_known S m) (is_known S m2) (none_out m2) (none_out m3)
          (ap (tells_truly S) rest.store)
          (λ unknown. none_after (ends_of (is_known S m) (none_out m) (none_out m3) means unknown).0)
          (λ unknown. (ends_of (is_known S m) (none_out m) (none_out m3) means unknown).1)) ∙ placed_there;
      none = λ h. none_before (none h);
      size = moves.size ∙ rest.size;
      store = store_then S m.store m2.store m3.store
          (same_store S m.store m2.store rest.store) moves.store;
    }

  -- ---- a run

  pub none_made : (m : Memory W) → IsSound S.slot_count m → (first : Place) (right : Right) → MakesPages S m m first 0 right
  none_made m sound first right = record {
    sound = sound;
    rights = ap bare (sym (make_none first right (ledger S.held m)));
    whole = λ means. sym (make_none first right (ledger S.held m));
    none = λ h. h;
    size = refl;
    store = keeps_all S m.store;
  }

  pub more_made : (m k n : Memory W) (first : Place) (i : ℕ) (right : Right) → MakesPages S m k first i right
      → MakesPages S k n (place_after first i) 1 right → MakesPages S m n first (i + 1) right
  more_made m k n first i right x y = record {
    sound = y.sound;
    rights = y.rights ∙ (make_bare (place_after first i) 1 right (make first i right (ledger S.held m)) (ledger S.held k) x.rights
        ∙ ap bare (sym (make_next first i right (ledger S.held m))));
    whole = λ means.
        let ends = ends_of (is_known S m) (none_out m) (none_out n) means in
        let same = known_kept S m.store k.store x.store in
        y.whole (over_from (is_known S m) (is_known S k) (none_out k) (none_out n) same
        (λ unknown. y.none (ends unknown).1) (λ unknown. (ends unknown).1))
        ∙ (ap (make (place_after first i) 1 right)
        (x.whole (over_from (is_known S m) (is_known S m) (none_out m) (none_out k) refl
        (λ unknown. (ends unknown).0) (λ unknown. y.none (ends unknown).1)))
        ∙ sym (make_next first i right (ledger S.held m)));
    none = λ h. x.none (y.none h);
    size = y.size ∙ x.size;
    store = store_then S m.store k.store n.store x.store y.store;
  }

  -- the next page of the run may be made
  module _ (m k : Memory W) (first : Place) (n i : ℕ) (low : i < n) (right : Right) (can : CanMake (processes m) (capacity_of m) (ledger S.held m) first n)
      (x : MakesPages S m k first i right) where
    procs_same : processes k ≡ processes m
    procs_same = ap (λ (s : Size). s.procs) x.size

    can_so_far : CanMake (processes m) (capacity_of m) (ledger S.held m) first i
    can_so_far = fewer (processes m) (capacity_of m) (ledger S.held m) first n i (omega arith) can

    pub crowded_lies : is_user_place (processes k) (place_after first i) ≡ true
    crowded_lies = ap (λ p. is_user_place p (place_after first i)) procs_same ∙ can.lies (place_after first i) (in_run-after first n i low)

    pub crowded_free : is_free (processes k) (ledger S.held k) (place_after first i) ≡ true
    crowded_free = ap (λ p. is_free p (ledger S.held k) (place_after first i)) procs_same
        ∙ (bare-free (processes m) (make first i right (ledger S.held m)) (ledger S.held k) (place_after first i) x.rights
        ∙ free_ahead (processes m) (capacity_of m) (ledger S.held m) first i right can_so_far (can.free (place_after first i) (in_run-after first n i low)))

    pub crowded_room : k.pages + 1 ≤ capacity_of k
    crowded_room =
        let counted : k.pages ≡ pages (processes k) (ledger S.held k) = x.sound.pages ∙ sym (pages-ledger S.held k) in
        let same : pages (processes k) (ledger S.held k) ≡ pages (processes m) (make first i right (ledger S.held m)) =
        ap (λ p. pages p (ledger S.held k)) procs_same ∙ bare-pages (processes m) (make first i right (ledger S.held m)) (ledger S.held k) x.rights in
        let more : pages (processes m) (make first i right (ledger S.held m)) ≡ pages (processes m) (ledger S.held m) + i =
        make_pages (processes m) (capacity_of m) first i right (ledger S.held m) can_so_far in
        let room : capacity_of k ≡ capacity_of m = ap (λ (s : Size). capacity s.area.frames s.procs s.slots) x.size in
        omega (arith, counted, same, more, can.room, room)

  -- a run for which frames were free
  pub near_made : (m n : Memory W) (first : Place) (count : ℕ) (right : Right) → IsSound S.slot_count n → ledger S.held n ≡ make first count right (ledger S.held m)
      → ChangesPagesAlone m n → (none_out n ≡ true → none_out m ≡ true) → MakesPages S m n first count right
  near_made m n first count right sound placed rest none = record {
    sound = sound;
    rights = ap bare placed;
    whole = λ means. placed;
    none = none;
    size = rest.size;
    store = same_store S m.store n.store rest.store;
  }

  -- what `make` leaves of it where it answers Failed
  pub first_made : (m n : Memory W) (answer : Result Vpn XousError) (pid : Pid) (first : Vpn) (count : ℕ) (right : Right) → answer ≡ Ok first
      → MakesFirst S m n (page_place pid first) count right
      → HasMadeFirst (MeansBytesOver S m n) answer pid count right (ledger S.held m) (ledger S.held n)
  first_made m n answer pid first count right served x = record {
    first = first;
    count = x.count;
    served = served;
    few = x.few;
    rights = x.made.rights;
    whole = x.made.whole;
  }
