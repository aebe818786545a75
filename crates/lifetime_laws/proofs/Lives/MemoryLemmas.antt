-- What the calls on memory do to pages: they allocate them where none stood, reduce them, or release them.
use Rattle.std.proofs.Common.{◌≡◌, ℕ, ◌+◌, ◌-◌, ◌/◌, Bool, true, false, List, [], ◌∷◌, Option, Some, None, refl, sym, ap, ◌∙◌, inl, inr, is_some}
use Rattle.std.specs.Prelude.{◌%◌, ◌==◌, if◌then◌else◌, nat_lt, not}
use Rattle.std.specs.Option.{option_map}
use Rattle.std.proofs.lemmas.Bool.{eqb-true, ltb-false}
use Rattle.xk_base.specs.declared.errors.XousError.TheVariants.{BadAlignment, InvalidLimit, OutOfMemory, ShareViolation}
use Rattle.xk_base.specs.declared.ids.Place.{Place}
use Rattle.xk_base.specs.declared.ids.ThreadId.{ThreadId}
use Rattle.xk_base.specs.declared.limits.TheConstants.{CONSOLE_ADDRESS, PAGE_SIZE}
use Rattle.xk_base.specs.declared.pages.Right.{Right}
use Rattle.xk_base.specs.declared.windows.Window.TheVariants.{Map}
use Rattle.syscall_codec.specs.CallNumbers.{decrease_heap, increase_heap, map_memory, unmap_memory, update_memory_flags}
use Rattle.syscall_codec.specs.CallWords.{call_number, heap_bytes, map_flags, map_phys, map_size, map_virt, range_address, range_flags}
use Rattle.syscall_codec.specs.CallWords.{range_size}
use Rattle.syscall_codec.specs.Flags.{flag_execute, has_flag, right_of}
use Rattle.ledger_model.specs.Conditions.{CanReduce}
use Rattle.ledger_model.specs.Ledger.{Bytes, Console, Homed, Ledger, Page, pages}
use Rattle.ledger_model.specs.LeastRun.{least_run}
use Rattle.ledger_model.specs.Places.{in_run, same_place}
use Rattle.ledger_model.specs.RunTests.{any_on_loan}
use Rattle.ledger_model.specs.Steps.{make, make_console, new_page, reduce, remove, with_right, zero_page}
use Rattle.ledger_model.proofs.LedgerLemmas.{is_free-true}
use Rattle.ledger_model.proofs.PlaceLemmas.{in_run-true, same_place-true}
use Rattle.machine_model.specs.Calling.MemoryCalls.{are_too_many, caller_place, heap_limit, heap_of, heap_start, is_aligned, map_address, mapped_ledger}
use Rattle.machine_model.specs.Runs.Matched.{Matched}
use Rattle.machine_model.specs.Runs.Moments.{Moment}
use Rattle.machine_model.specs.State.Machine.{Machine}
use Rattle.machine_model.specs.State.Order.{ready_at}
use Rattle.machine_model.proofs.Runs.KeptLemmas.{matched_at}
use Rattle.machine_laws.proofs.Calling.HeapCallLemmas.{can_grow}
use Rattle.machine_laws.proofs.Calling.MapCallLemmas.{IsFreeRun, console_one, map_run, mappable}
use Rattle.machine_laws.proofs.Calling.MemoryCallStepLemmas.{unmap_loan, update_allowed}
use Rattle.machine_laws.proofs.Calling.RunRefusalLemmas.{can_reduce, none_holds, not_false, run_not_lent}
use Rattle.machine_laws.proofs.Threading.ThreadStepLemmas.{actor_ready, turned_to}
use Rattle.call_effects.specs.Rows.MemoryRows.{decrease_row, increase_row, map_row, unmap_row, update_row}
use Rattle.call_effects.proofs.ServedLemmas.{OfPlan, done}
use Rattle.loan_laws.proofs.Fates.ServedFateLemmas.{IsCaller}
use Rattle.lifetime_laws.specs.Causes.{IsCallOf}
use Rattle.lifetime_laws.specs.Deeds.{Allocated, Deed, Grown, LivesOn, Mapped, Reduced, Reducing, Released, Shrunk, Unmapped}
use Rattle.lifetime_laws.specs.Lives.{PagesLive}
use Rattle.lifetime_laws.proofs.Lives.ServedLemmas.{HasServedLife, call_of, stepped, unlent_page}
use Rattle.lifetime_laws.proofs.Lives.TurnLemmas.{Comes, Empty, Goes, Lives, Turns, home_stays, homes_live}

-- ---- pages of a set of places

module _ (m : Machine) (moment : Moment) (places : Place → Bool) where
  abbrev Home : Place → (Place → Option Page) → Type 0
  Home p then_ = moment.machine.ledger.home p ≡ (if places p then then_ p else m.ledger.home p)

  module _ (orphans : (q : Place) → moment.machine.ledger.orphan q ≡ m.ledger.orphan q) where
    -- new ones stand where none stood
    pub made_lives : (new : Page) → ((p : Place) → Home p (λ q. Some new)) → ((p : Place) → places p ≡ true → m.ledger.home p ≡ None)
        → ((p : Place) → places p ≡ true → m.ledger.home p ≡ None → moment.machine.ledger.home p ≡ Some new → Allocated m moment (Homed p))
        → PagesLive m moment
    made_lives new homes free made = homes_live m moment orphans (λ p. at p (places p) refl)
      where
        at : (p : Place) (b : Bool) → places p ≡ b → Turns m moment (Homed p)
        at p true e =
            let now : moment.machine.ledger.home p ≡ Some new = homes p ∙ ap (λ b. if b then Some new else m.ledger.home p) e in
            Comes (ap is_some (free p e)) (ap is_some now) (made p e (free p e) now)
        at p false e = home_stays m moment p (homes p ∙ ap (λ b. if b then Some new else m.ledger.home p) e)

    -- they go
    pub removed_lives : ((p : Place) → Home p (λ q. None))
        → ((p : Place) (page : Page) → places p ≡ true → m.ledger.home p ≡ Some page → moment.machine.ledger.home p ≡ None
        → Released m moment (Homed p)) → PagesLive m moment
    removed_lives homes gone = homes_live m moment orphans (λ p. at p (places p) refl)
      where
        at : (p : Place) (b : Bool) → places p ≡ b → Turns m moment (Homed p)
        at p true e = go (m.ledger.home p) refl
          where
            now : moment.machine.ledger.home p ≡ None
            now = homes p ∙ ap (λ b. if b then None else m.ledger.home p) e

            go : (o : Option Page) → m.ledger.home p ≡ o → Turns m moment (Homed p)
            go None q = Empty (ap is_some q) (ap is_some now)
            go (Some page) q = Goes (ap is_some q) (ap is_some now) (gone p page e q now)
        at p false e = home_stays m moment p (homes p ∙ ap (λ b. if b then None else m.ledger.home p) e)

    -- they change, and stand
    pub changed_lives : (change : Place → Page → Page) → ((p : Place) → Home p (λ q. option_map (change q) (m.ledger.home q)))
        → ((p : Place) (page : Page) → places p ≡ true → m.ledger.home p ≡ Some page → moment.machine.ledger.home p ≡ Some (change p page)
        → (deed : Deed) × LivesOn m moment (Homed p) deed (Homed p)) → PagesLive m moment
    changed_lives change homes each = homes_live m moment orphans (λ p. at p (places p) refl)
      where
        at : (p : Place) (b : Bool) → places p ≡ b → Turns m moment (Homed p)
        at p true e = go (m.ledger.home p) refl
          where
            now : moment.machine.ledger.home p ≡ option_map (change p) (m.ledger.home p)
            now = homes p ∙ ap (λ b. if b then option_map (change p) (m.ledger.home p) else m.ledger.home p) e

            go : (o : Option Page) → m.ledger.home p ≡ o → Turns m moment (Homed p)
            go None q = Empty (ap is_some q) (ap is_some (now ∙ ap (option_map (change p)) q))
            go (Some page) q =
                let there : moment.machine.ledger.home p ≡ Some (change p page) = now ∙ ap (option_map (change p)) q in
                let lives = each p page e q there in
                Lives (ap is_some q) (ap is_some there) lives.0 lives.1
        at p false e = home_stays m moment p (homes p ∙ ap (λ b. if b then option_map (change p) (m.ledger.home p) else m.ledger.home p) e)

-- ---- steps of the ledger

module _ (m : Machine) (moment : Moment) (first : Place) (n : ℕ) where
  abbrev IsBy : ℕ → Type 0
  IsBy number = (p : Place) → p.pid.0 ≡ first.pid.0 → IsCallOf p.pid number m moment

  abbrev zeros : Right → Page
  zeros right = new_page right (Bytes zero_page)

  abbrev console : Right → Page
  console right = new_page (record { w = right.w; x = false }) Console

  own : (p : Place) → in_run first n p ≡ true → p.pid.0 ≡ first.pid.0
  own p inside = (in_run-true first n p inside).pid

  mapped_lives : (is_console : Bool) (right : Right) → moment.machine.ledger ≡ mapped_ledger is_console first n right m.ledger
      → ((p : Place) → in_run first n p ≡ true → m.ledger.home p ≡ None) → (is_console ≡ true → m.ledger.home first ≡ None)
      → IsBy map_memory → PagesLive m moment
  unfolding make make_console
  mapped_lives false right is free alone by =
      made_lives m moment (in_run first n) (λ q. ap (λ (l : Ledger). l.orphan q) is) (zeros right) (λ p. ap (λ (l : Ledger). l.home p) is) free
      (λ p e none now. Mapped p (zeros right) none now (inl refl) refl (by p (own p e)))
  mapped_lives true right is free alone by =
      made_lives m moment (λ p. same_place p first) (λ q. ap (λ (l : Ledger). l.orphan q) is) (console right) (λ p. ap (λ (l : Ledger). l.home p) is)
      (λ p e. ap m.ledger.home (same_place-true p first e) ∙ alone refl)
      (λ p e none now. Mapped p (console right) none now (inr refl) refl (by p (ap (λ (x : Place). x.pid.0) (same_place-true p first e))))

  grown_lives : moment.machine.ledger ≡ make first n (record { w = true; x = false }) m.ledger
      → ((p : Place) → in_run first n p ≡ true → m.ledger.home p ≡ None) → IsBy increase_heap → PagesLive m moment
  unfolding make
  grown_lives is free by =
      made_lives m moment (in_run first n) (λ q. ap (λ (l : Ledger). l.orphan q) is) (zeros (record { w = true; x = false }))
      (λ p. ap (λ (l : Ledger). l.home p) is) free (λ p e none now. Grown p none now (by p (own p e)))

  gone_lives : moment.machine.ledger ≡ remove (in_run first n) m.ledger
      → ((p : Place) (page : Page) → in_run first n p ≡ true → m.ledger.home p ≡ Some page → moment.machine.ledger.home p ≡ None
      → Released m moment (Homed p)) → PagesLive m moment
  unfolding remove
  gone_lives is gone =
      removed_lives m moment (in_run first n) (λ q. ap (λ (l : Ledger). l.orphan q) is) (λ p. ap (λ (l : Ledger). l.home p) is) gone

  reduced_lives : (right : Right) → moment.machine.ledger ≡ reduce (in_run first n) right m.ledger → CanReduce m.ledger (in_run first n) right
      → IsBy update_memory_flags → PagesLive m moment
  unfolding reduce
  reduced_lives right is can by =
      changed_lives m moment (in_run first n) (λ q. ap (λ (l : Ledger). l.orphan q) is) (λ q. with_right right)
      (λ p. ap (λ (l : Ledger). l.home p) is)
      (λ p page e there now. (
        Reducing,
        Reduced p page right there (unlent_page m.ledger p page there (can.not_lent p e)) (can.within p page e there) now (by p (own p e)),
      ))

-- ---- the calls

module _ (m : Machine) (who : ThreadId) (w : List ℕ) (h : Matched m) (calls : IsCaller m who w) where
  abbrev here : Machine
  here = turned_to who m

  turned : Matched here
  turned = matched_at who m h

  ready : ready_at here here.cursor ≡ true
  ready = actor_ready m who calls.acts

  pub map_lives : call_number w ≡ map_memory → OfPlan (λ plan. HasServedLife m who w (done here plan)) (map_row here w)
  map_lives named = λ none n like accepted.
      let can = mappable here (map_phys w) (map_virt w) (map_size w) (map_flags w) none in
      let first = caller_place here (map_address here (map_virt w) (map_size w)) in
      let run : IsFreeRun here (map_size w / PAGE_SIZE) first =
      map_run here (map_virt w) (map_size w / PAGE_SIZE) (map_virt w == 0) (least_run here.processes here.ledger here.cursor.pid Map (map_size w / PAGE_SIZE)) refl
      can.fits can.unused can.found in
      mapped_lives m (stepped n) first (map_size w / PAGE_SIZE) (map_phys w == CONSOLE_ADDRESS) (right_of (map_flags w)) like.ledger
      (λ p inside. (is_free-true m.processes m.ledger p (run.free p inside)).home)
      (λ console. (is_free-true m.processes m.ledger first
      (run.free first (console_one (map_phys w == CONSOLE_ADDRESS) (has_flag (map_flags w) flag_execute) first (map_size w) can.one console))).home)
      (λ p same. call_of m who w n p.pid map_memory calls accepted (sym same) named)

  pub increase_lives : call_number w ≡ increase_heap → OfPlan (λ plan. HasServedLife m who w (done here plan)) (increase_row here w)
  increase_lives named = λ none n like accepted.
      let bytes = heap_bytes w in
      let third = (are_too_many here (bytes / PAGE_SIZE), OutOfMemory) ∷ [] in
      let second = (nat_lt heap_limit (heap_of here + bytes), InvalidLimit) ∷ third in
      let e1 = none_holds (not (is_aligned bytes)) BadAlignment second none in
      let e2 = none_holds (nat_lt heap_limit (heap_of here + bytes)) InvalidLimit third e1.1 in
      let e3 = none_holds (are_too_many here (bytes / PAGE_SIZE)) OutOfMemory [] e2.1 in
      let can = can_grow here turned ready bytes (eqb-true (bytes % PAGE_SIZE) 0 (not_false (is_aligned bytes) e1.0))
      (ltb-false heap_limit (heap_of here + bytes) e2.0) (ltb-false here.capacity (pages here.processes here.ledger + bytes / PAGE_SIZE) e3.0) in
      grown_lives m (stepped n) (caller_place here (heap_start + heap_of here)) (bytes / PAGE_SIZE) like.ledger
      (λ p inside. (is_free-true m.processes m.ledger p (can.free p inside)).home)
      (λ p same. call_of m who w n p.pid increase_heap calls accepted (sym same) named)

  pub decrease_lives : call_number w ≡ decrease_heap → OfPlan (λ plan. HasServedLife m who w (done here plan)) (decrease_row here w)
  decrease_lives named = λ none n like accepted.
      let bytes = heap_bytes w in
      let first = caller_place here (heap_start + (heap_of here - bytes)) in
      let loan = any_on_loan here.processes here.ledger first (bytes / PAGE_SIZE) in
      let third = (loan, ShareViolation) ∷ [] in
      let second = (nat_lt (heap_of here) bytes, InvalidLimit) ∷ third in
      let e1 = none_holds (not (is_aligned bytes)) BadAlignment second none in
      let e2 = none_holds (nat_lt (heap_of here) bytes) InvalidLimit third e1.1 in
      let e3 = none_holds loan ShareViolation [] e2.1 in
      gone_lives m (stepped n) first (bytes / PAGE_SIZE) like.ledger
      (λ p page inside there now.
      Shrunk p page there (unlent_page m.ledger p page there (run_not_lent m.processes m.ledger first (bytes / PAGE_SIZE) e3.0 p inside)) now
      (call_of m who w n p.pid decrease_heap calls accepted (sym (own m (stepped n) first (bytes / PAGE_SIZE) p inside)) named))

  pub unmap_lives : call_number w ≡ unmap_memory → OfPlan (λ plan. HasServedLife m who w (done here plan)) (unmap_row here w)
  unmap_lives named = λ none n like accepted.
      let first = caller_place here (range_address w) in
      let size = range_size w / PAGE_SIZE in
      gone_lives m (stepped n) first size like.ledger
      (λ p page inside there now.
      Unmapped p page there
      (unlent_page m.ledger p page there (run_not_lent m.processes m.ledger first size (unmap_loan here (range_address w) (range_size w) none) p inside)) now
      (call_of m who w n p.pid unmap_memory calls accepted (sym (own m (stepped n) first size p inside)) named))

  pub update_lives : call_number w ≡ update_memory_flags → OfPlan (λ plan. HasServedLife m who w (done here plan)) (update_row here w)
  update_lives named = λ none n like accepted.
      let first = caller_place here (range_address w) in
      let size = range_size w / PAGE_SIZE in
      let allowed = update_allowed here (range_address w) (range_size w) (range_flags w) none in
      reduced_lives m (stepped n) first size (right_of (range_flags w)) like.ledger
      (can_reduce m.processes m.ledger first size (right_of (range_flags w)) allowed.0 allowed.1)
      (λ p same. call_of m who w n p.pid update_memory_flags calls accepted (sym same) named)
