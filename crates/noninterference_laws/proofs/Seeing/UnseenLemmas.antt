-- Whatever comes next leaves the inside of a group unseen, where the group acts alike.
use Rattle.std.proofs.Common.{◌≡◌, ℕ, Bool, true, false, ◌⊎◌, inl, inr, List, Option, Some, None, refl, sym, ap, ◌∙◌}
use Rattle.std.specs.Prelude.{◌%◌, ◌==◌, if◌then◌else◌}
use Rattle.std.specs.Option.{option_map}
use Rattle.std.proofs.lemmas.Bool.{false≢true}
use Rattle.std.proofs.lemmas.Option.{same_Some}
use Rattle.xk_base.specs.declared.ids.Pid.{Pid}
use Rattle.xk_base.specs.declared.ids.Place.{Place}
use Rattle.xk_base.specs.declared.ids.ThreadId.{ThreadId}
use Rattle.xk_base.specs.declared.pages.Access.TheVariants.{Load, Store}
use Rattle.xk_base.specs.Calls.Registers.{arguments_of, reg_at}
use Rattle.xk_base.specs.Numbers.Windows.{page_of}
use Rattle.xk_base.specs.UserMemory.{low_bytes}
use Rattle.ledger_model.specs.Ledger.{Ledger, PageName, contents_of}
use Rattle.ledger_model.specs.Reach.{reach}
use Rattle.ledger_model.proofs.Pages.BareLemmas.{reach-bare}
use Rattle.ledger_model.proofs.ReachingLemmas.{reached_contents}
use Rattle.machine_model.specs.Ending.Ends.{death, forgotten}
use Rattle.machine_model.specs.Hart.Atomics.{Performed}
use Rattle.machine_model.specs.Hart.Instructions.{CallsKernel, Executed, Next, Stores, StoresToConsole, StoresToTimer, Traps}
use Rattle.machine_model.specs.Runs.Matched.{Matched}
use Rattle.machine_model.specs.Runs.Moments.{ByIrq, ByKill, ByPick, ByStep, ByTurn, Cause, caused}
use Rattle.machine_model.specs.State.Changes.{Told, settled}
use Rattle.machine_model.specs.Ending.Closing.{any_server, closed, senders_held_gone, senders_queued_gone, servers_closed}
use Rattle.machine_model.specs.State.Machine.{Claim, Machine, Thread}
use Rattle.machine_model.specs.State.Order.{actor, turn}
use Rattle.machine_model.specs.State.Views.{page_reached, stored, timer_set, write_to}
use Rattle.machine_model.specs.Stepping.Events.{killed, killed_if, picked, raised, raised_if}
use Rattle.machine_model.specs.Stepping.Reservations.{unreserved}
use Rattle.machine_model.specs.Stepping.Step.{Recorded, ends_handler, ends_thread, performed, step}
use Rattle.machine_model.proofs.Runs.TimerLemmas.{pended_raised}
use Rattle.machine_model.proofs.StepLemmas.{no_step}
use Rattle.machine_laws.proofs.Threading.ThreadAnswerLemmas.{ready_thread}
use Rattle.machine_laws.proofs.Threading.ThreadStepLemmas.{actor_ready, performed_turned, step_ledger, turned_to}
use Rattle.confidentiality_laws.proofs.Isolating.RunLemmas.{by_cause}
use Rattle.confidentiality_laws.proofs.Isolating.StepLemmas.{acts}
use Rattle.confidentiality_laws.proofs.Ledgers.OtherBytesLemmas.{no_bytes}
use Rattle.confidentiality_laws.proofs.Spreading.WrittenPageLemmas.{stored_is_loaded}
use Rattle.noninterference_laws.specs.Acting.{Act, ActsAlike, Arms, Calls, DoesAlike, EndsHandler, EndsThread, Faults, HandsAlike, Prints}
use Rattle.noninterference_laws.specs.Acting.{Silent, act_of, act_of_thread}
use Rattle.noninterference_laws.specs.Handing.{HandsOver, HoldAlike, PagesAreEnough, act_over, left_over}
use Rattle.noninterference_laws.specs.Inside.{Group, IsSeenByOther, SameButInside}
use Rattle.noninterference_laws.specs.TwoInsides.{InsideIsUnseen}
use Rattle.noninterference_laws.proofs.Seeing.SeenLemmas.{Gives, both_written, did_holds, died_holds, held_alike, own_holds, seen_there}
use Rattle.noninterference_laws.proofs.Seeing.SeenLemmas.{shade_shows}
use Rattle.noninterference_laws.proofs.Seeing.PairLemmas.{shows_through}
use Rattle.noninterference_laws.proofs.Seeing.ShownLemmas.{seen_shows, shows, shows_seen}
use Rattle.noninterference_laws.proofs.Stepping.ActLemmas.{act_by, did, own_does, written_bare}
use Rattle.noninterference_laws.proofs.Stepping.CauseLemmas.{cause_shade}
use Rattle.noninterference_laws.proofs.Stepping.ShadeLemmas.{actor_shade, recorded_shade, shade, shaded, unshaded}
use Rattle.noninterference_laws.proofs.Stepping.StepLemmas.{performed_same, thread_same}

-- ---- acts that leave the ledger but for bytes

is_quiet : Act → Bool
is_quiet Silent = true
is_quiet (Prints byte) = true
is_quiet (Arms compare) = true
is_quiet (Calls words) = false
is_quiet (Faults cause value) = false
is_quiet (EndsThread a0) = false
is_quiet EndsHandler = false

console_quiet : (b : Bool) (value : ℕ) → is_quiet (if b then Prints value else Silent) ≡ true
unfolding is_quiet
console_quiet true value = refl
console_quiet false value = refl

-- the same pages show after them
quiet_shows : (group : Group) (x : Machine) (who : ThreadId) (page : PageName) (act : Act) → is_quiet act ≡ true
    → shows group (did x who act).machine.ledger page ≡ shows group x.ledger page
unfolding is_quiet
quiet_shows group x who page Silent q = refl
quiet_shows group x who page (Prints byte) q = refl
quiet_shows group x who page (Arms compare) q = refl
quiet_shows group x who page (Calls words) q = absurd (false≢true q)
quiet_shows group x who page (Faults cause value) q = absurd (false≢true q)
quiet_shows group x who page (EndsThread a0) q = absurd (false≢true q)
quiet_shows group x who page EndsHandler q = absurd (false≢true q)

-- what does another act makes the ledger of it
loud_ledger : (x : Machine) (who : ThreadId) (t : Thread) (a b : Bool) (y : Executed) → is_quiet (act_by x t a b y) ≡ false
    → (acts x who t a b y).machine.ledger ≡ (did x who (act_by x t a b y)).machine.ledger
unfolding is_quiet
loud_ledger x who t true b y q = refl
loud_ledger x who t false true y q = refl
loud_ledger x who t false false (Next regs pc) q = absurd (false≢true (sym q))
loud_ledger x who t false false (Stores address width value regs pc) q = absurd (false≢true (sym q))
loud_ledger x who t false false (StoresToConsole offset value regs pc) q =
    absurd (false≢true (sym q ∙ console_quiet (offset == 0) (value % 256)))
loud_ledger x who t false false (StoresToTimer offset width value regs pc) q = absurd (false≢true (sym q))
loud_ledger x who t false false CallsKernel q = refl
loud_ledger x who t false false (Traps cause value) q = refl

module _ (group : Group) (m n : Machine) (h : Matched m) (same : SameButInside group m n) where
  e : shade group m ≡ shade group n
  e = shaded group m n same.outside

  -- ---- a step, with the threads that do it

  module _ (who : ThreadId) (t u : Thread) (turn_is : actor m ≡ Some who) (there : m.threads who ≡ Some t) (there_too : n.threads who ≡ Some u) where
    its_turn : actor n ≡ Some who
    its_turn = sym (actor_shade group m n e) ∙ turn_is

    abbrev does : Machine → Thread → Executed
    does x v = (performed (turned_to who x) who v).executed

    abbrev mine : Ledger
    mine = (acts m who t (ends_thread who t.pc) (ends_handler who t.pc) (does m t)).machine.ledger

    abbrev its : Ledger
    its = (acts n who u (ends_thread who u.pc) (ends_handler who u.pc) (does n u)).machine.ledger

    step_mine : (step m).machine.ledger ≡ mine
    step_mine = step_ledger m who t turn_is there

    step_its : (step n).machine.ledger ≡ its
    step_its = step_ledger n who u its_turn there_too

    steps_hold : (page : PageName) → contents_of mine page ≡ contents_of its page
        → contents_of (step m).machine.ledger page ≡ contents_of (step n).machine.ledger page
    steps_hold page same_there =
        ap (λ l. contents_of l page) step_mine ∙ (same_there ∙ ap (λ l. contents_of l page) (sym step_its))

    shows_mine : (page : PageName) → IsSeenByOther group (step m).machine page → shows group mine page ≡ true
    shows_mine page seen = sym (ap (λ l. shows group l page) step_mine) ∙ seen_shows group (step m).machine page seen

    -- ---- of the group

    module _ (own : group who.pid.0 ≡ true) where
      abbrev act_in : Machine → Thread → Act
      act_in x v = act_by x v (ends_thread who v.pc) (ends_handler who v.pc) (does x v)

      act_turned : (x : Machine) (v : Thread) → act_of_thread x who v ≡ act_in x v
      act_turned x v =
          ap (λ (p : Performed). act_by x v (ends_thread who v.pc) (ends_handler who v.pc) p.executed) (performed_turned x who v)

      acts_same : act_of m who ≡ act_of n who → act_in m t ≡ act_in n u
      acts_same is =
          sym (act_turned m t)
          ∙ (same_Some (act_of_thread m who t) (act_of_thread n who u)
          (sym (ap (option_map (act_of_thread m who)) there) ∙ (is ∙ ap (option_map (act_of_thread n who)) there_too))
          ∙ act_turned n u)

      shows_did : (page : PageName) → shows group mine page ≡ true → shows group (did m who (act_in m t)).machine.ledger page ≡ true
      shows_did page s =
          sym (shade_shows group (acts m who t (ends_thread who t.pc) (ends_handler who t.pc) (does m t)).machine (did m who (act_in m t)).machine
          (ap (λ (told : Told). told.machine) (own_does group m who own t (ends_thread who t.pc) (ends_handler who t.pc) (does m t))) page)
          ∙ s

      -- a page that was seen before holds the same
      seen_before : act_of m who ≡ act_of n who → (page : PageName) → IsSeenByOther group m page → shows group mine page ≡ true
          → contents_of mine page ≡ contents_of its page
      seen_before is page seen s =
          own_holds group m who own t page seen (ends_thread who t.pc) (ends_handler who t.pc) (does m t)
          ∙ (did_holds group m n h same who (act_in m t) page
          (λ hidden old hands before. absurd (false≢true (sym hidden ∙ seen_shows group m page seen)))
          (shows_did page s)
          ∙ (ap (λ act. contents_of (did n who act).machine.ledger page) (acts_same is)
          ∙ sym (own_holds group n who own u page (seen_there group m n same.outside page seen) (ends_thread who u.pc) (ends_handler who u.pc) (does n u))))

      pub own_step_holds : act_of m who ≡ act_of n who → HandsAlike group ByStep m n → (page : PageName)
          → IsSeenByOther group (step m).machine page
          → contents_of (step m).machine.ledger page ≡ contents_of (step n).machine.ledger page
      own_step_holds is hands page seen = elim (hands page seen) [
        | inl before ↦ steps_hold page (seen_before is page before (shows_mine page seen))
        | inr done ↦ done
      ]

      -- what it hands over holds the same, where the pages did
      module _ (act : Act) (over : HandsOver who act m n) where
        its_act_is : (x : Machine) (v : Thread) → x.threads who ≡ Some v → act_of x who ≡ Some act → act_in x v ≡ act
        its_act_is x v stands is =
            sym (act_turned x v)
            ∙ same_Some (act_of_thread x who v) act (sym (ap (option_map (act_of_thread x who)) stands) ∙ is)

        mine_is : act_in m t ≡ act
        mine_is = its_act_is m t there over.one

        its_is_too : act_in n u ≡ act
        its_is_too = its_act_is n u there_too over.other

        does_act : (x : Machine) (v : Thread) → act_in x v ≡ act → is_quiet act ≡ false
            → (acts x who v (ends_thread who v.pc) (ends_handler who v.pc) (does x v)).machine.ledger ≡ (did x who act).machine.ledger
        does_act x v is loud =
            loud_ledger x who v (ends_thread who v.pc) (ends_handler who v.pc) (does x v) (ap is_quiet is ∙ loud)
            ∙ ap (λ a. (did x who a).machine.ledger) is

        shown_by_act : (page : PageName) → shows group mine page ≡ true → shows group (did m who act).machine.ledger page ≡ true
        shown_by_act page s = sym (ap (λ a. shows group (did m who a).machine.ledger page) mine_is) ∙ shows_did page s

        new_holds : (page : PageName) → shows group m.ledger page ≡ false → shows group mine page ≡ true
            → contents_of mine page ≡ contents_of its page
        new_holds page hidden s = go (is_quiet act) refl
          where
            go : (b : Bool) → is_quiet act ≡ b → contents_of mine page ≡ contents_of its page
            go true q = absurd (false≢true (sym hidden ∙ (sym (quiet_shows group m who page act q) ∙ shown_by_act page s)))
            go false q =
                ap (λ l. contents_of l page) (does_act m t mine_is q)
                ∙ (did_holds group m n h same who act page (λ unseen old handed before. over.pages old handed) (shown_by_act page s)
                ∙ ap (λ l. contents_of l page) (sym (does_act n u its_is_too q)))

        pub pages_hand : HandsAlike group ByStep m n
        pages_hand page seen = go (shows group m.ledger page) refl
          where
            go : (b : Bool) → shows group m.ledger page ≡ b
                → IsSeenByOther group m page ⊎ (contents_of (step m).machine.ledger page ≡ contents_of (step n).machine.ledger page)
            go true q = inl (shows_seen group m h.body.ledger.lawful page q)
            go false q = inr (steps_hold page (new_holds page q (shows_mine page seen)))

    -- ---- of another

    module _ (other : group who.pid.0 ≡ false) where
      one_thread : t ≡ u
      one_thread =
          same_Some t u (sym there ∙ (thread_same group who m n e other same ∙ there_too))

      -- what it hands over it could load before
      shown_before : (handed : PageName → Bool) (page : PageName) → Gives group m n h same handed who.pid page
      shown_before handed page hidden old hands before = held_alike group m n h same old (before other)

      store_holds : (address : ℕ) (bytes : List ℕ) (o : Option PageName) → page_reached m who.pid Store address ≡ o → (page : PageName)
          → shows group (write_to o (address % 4096) bytes m.ledger) page ≡ true
          → (shows group (write_to o (address % 4096) bytes m.ledger) page ≡ shows group m.ledger page)
          → contents_of (write_to o (address % 4096) bytes m.ledger) page ≡ contents_of (write_to o (address % 4096) bytes n.ledger) page
      store_holds address bytes None r page s shows_same = held_alike group m n h same page s
      store_holds address bytes (Some name) r page s shows_same =
          let at : Place = page_of who.pid address in
          let loads : reach m.processes m.ledger at Load ≡ Some name = stored_is_loaded m.processes m.ledger at name r in
          let held = reached_contents m.processes m.ledger at Load name loads in
          both_written m.ledger n.ledger name page (address % 4096) bytes held.0 held.1
          (same.seen name (record { place = at; other = other; reached = loads }))
          (λ no. held_alike group m n h same page (sym shows_same ∙ s))

      reached_same : (address : ℕ) → page_reached m who.pid Store address ≡ page_reached n who.pid Store address
      reached_same address =
          sym (reach-bare m.processes m.ledger (page_of who.pid address) Store)
          ∙ (ap (λ (x : Machine). reach x.processes x.ledger (page_of who.pid address) Store) same.outside
          ∙ reach-bare n.processes n.ledger (page_of who.pid address) Store)

      shows_written : (o : Option PageName) (offset : ℕ) (bytes : List ℕ) (page : PageName)
          → shows group (write_to o offset bytes m.ledger) page ≡ shows group m.ledger page
      shows_written o offset bytes page =
          sym (shows_through no_bytes group (write_to o offset bytes m.ledger) page)
          ∙ (ap (λ l. shows group l page) (written_bare o offset bytes m.ledger) ∙ shows_through no_bytes group m.ledger page)

      stored_holds : (address : ℕ) (bytes : List ℕ) (page : PageName)
          → shows group (write_to (page_reached m who.pid Store address) (address % 4096) bytes m.ledger) page ≡ true
          → contents_of (write_to (page_reached m who.pid Store address) (address % 4096) bytes m.ledger) page
          ≡ contents_of (write_to (page_reached n who.pid Store address) (address % 4096) bytes n.ledger) page
      stored_holds address bytes page s =
          store_holds address bytes (page_reached m who.pid Store address) refl page s
          (shows_written (page_reached m who.pid Store address) (address % 4096) bytes page)
          ∙ ap (λ o. contents_of (write_to o (address % 4096) bytes n.ledger) page) (reached_same address)

      by_act : (act : Act) (page : PageName) → shows group (did m who act).machine.ledger page ≡ true
          → contents_of (did m who act).machine.ledger page ≡ contents_of (did n who act).machine.ledger page
      by_act act page s = did_holds group m n h same who act page (shown_before (act_over m who act) page) s

      acted_holds : (x y : Bool) (z : Executed) (page : PageName) → shows group (acts m who t x y z).machine.ledger page ≡ true
          → contents_of (acts m who t x y z).machine.ledger page ≡ contents_of (acts n who t x y z).machine.ledger page
      unfolding stored timer_set
      acted_holds true y z page s = by_act (EndsThread (reg_at t.regs 10)) page s
      acted_holds false true z page s = by_act EndsHandler page s
      acted_holds false false (Next regs pc) page s = held_alike group m n h same page s
      acted_holds false false (Stores address width value regs pc) page s = stored_holds address (low_bytes width value) page s
      acted_holds false false (StoresToConsole offset value regs pc) page s = held_alike group m n h same page s
      acted_holds false false (StoresToTimer offset width value regs pc) page s = held_alike group m n h same page s
      acted_holds false false CallsKernel page s = by_act (Calls (arguments_of t.regs)) page s
      acted_holds false false (Traps cause value) page s = by_act (Faults cause value) page s

      its_is : (acts n who t (ends_thread who t.pc) (ends_handler who t.pc) (does m t)).machine.ledger ≡ its
      its_is =
          ap (λ (p : Performed). (acts n who t (ends_thread who t.pc) (ends_handler who t.pc) p.executed).machine.ledger)
          (performed_same group who m n e other same t)
          ∙ ap (λ (v : Thread). (acts n who v (ends_thread who v.pc) (ends_handler who v.pc) (does n v)).machine.ledger) one_thread

      pub other_step_holds : (page : PageName) → IsSeenByOther group (step m).machine page
          → contents_of (step m).machine.ledger page ≡ contents_of (step n).machine.ledger page
      other_step_holds page seen =
          steps_hold page
          (acted_holds (ends_thread who t.pc) (ends_handler who t.pc) (does m t) page (shows_mine page seen)
          ∙ ap (λ l. contents_of l page) its_is)

  -- ---- any step

  -- what leaves both ledgers
  left_holds : (x y : Machine) → x.ledger ≡ m.ledger → y.ledger ≡ n.ledger → (page : PageName) → IsSeenByOther group x page
      → contents_of x.ledger page ≡ contents_of y.ledger page
  left_holds x y p q page seen =
      ap (λ l. contents_of l page) p
      ∙ (held_alike group m n h same page (sym (ap (λ l. shows group l page) p) ∙ seen_shows group x page seen)
      ∙ ap (λ l. contents_of l page) (sym q))

  step_holds : ActsAlike group ByStep m n → (page : PageName) → IsSeenByOther group (step m).machine page
      → contents_of (step m).machine.ledger page ≡ contents_of (step n).machine.ledger page
  step_holds acts_alike page seen = go (actor m) refl
    where
      by : (who : ThreadId) → actor m ≡ Some who → (b : Bool) → group who.pid.0 ≡ b
          → contents_of (step m).machine.ledger page ≡ contents_of (step n).machine.ledger page
      by who q true own =
          let mine = ready_thread m who (actor_ready m who q) in
          let its = ready_thread n who (actor_ready n who (sym (actor_shade group m n e) ∙ q)) in
          let alike = acts_alike who q own in
          own_step_holds who mine.thread its.thread q mine.there its.there own alike.act alike.hands page seen
      by who q false other =
          let mine = ready_thread m who (actor_ready m who q) in
          let its = ready_thread n who (actor_ready n who (sym (actor_shade group m n e) ∙ q)) in
          other_step_holds who mine.thread its.thread q mine.there its.there other page seen

      go : (o : Option ThreadId) → actor m ≡ o → contents_of (step m).machine.ledger page ≡ contents_of (step n).machine.ledger page
      go None q =
          left_holds (step m).machine (step n).machine (ap (λ (r : Recorded). r.machine.ledger) (no_step m q))
          (ap (λ (r : Recorded). r.machine.ledger) (no_step n (sym (actor_shade group m n e) ∙ q))) page seen
      go (Some who) q = by who q (group who.pid.0) refl

  step_hands : (who : ThreadId) (act : Act) → actor m ≡ Some who → group who.pid.0 ≡ true → HandsOver who act m n → DoesAlike group who m n
  step_hands who act q own over =
      let mine = ready_thread m who (actor_ready m who q) in
      let its = ready_thread n who (actor_ready n who (sym (actor_shade group m n e) ∙ q)) in
      record {
        act = over.one ∙ sym over.other;
        hands = pages_hand who mine.thread its.thread q mine.there its.there own act over;
      }

  -- ---- events

  raised_ledger : (k : ℕ) (o : Option Claim) (x : Machine) → (raised_if k o x).machine.ledger ≡ x.ledger
  raised_ledger k None x = refl
  raised_ledger k (Some claim) x = ap (λ (y : Machine). y.ledger) (pended_raised k claim x).is

  irq_ledger : (k : ℕ) (x : Machine) → (raised k x).machine.ledger ≡ x.ledger
  unfolding raised
  irq_ledger k x = raised_ledger k (x.claims k) (unreserved x)

  -- a death looks neither at the cursor nor at the reservation
  killed_ledger : (pid : Pid) (x : Machine) (c : ThreadId) → (death pid (unreserved x)).machine.ledger ≡ (death pid (turned_to c x)).machine.ledger
  unfolding death servers_closed closed any_server senders_queued_gone senders_held_gone forgotten
  killed_ledger pid x c = refl

  killed_holds : (pid : Pid) (b : Bool) (page : PageName) → Gives group m n h same (left_over m pid) pid page
      → shows group (killed_if b pid (unreserved m)).machine.ledger page ≡ true
      → contents_of (killed_if b pid (unreserved m)).machine.ledger page ≡ contents_of (killed_if b pid (unreserved n)).machine.ledger page
  unfolding settled
  killed_holds pid false page gives s = held_alike group m n h same page s
  killed_holds pid true page gives s =
      ap (λ l. contents_of l page) (killed_ledger pid m m.cursor)
      ∙ (died_holds group m n h same m.cursor pid page gives (sym (ap (λ l. shows group l page) (killed_ledger pid m m.cursor)) ∙ s)
      ∙ ap (λ l. contents_of l page) (sym (killed_ledger pid n m.cursor)))

  kill_gives : (pid : Pid) (page : PageName) → Gives group m n h same (left_over m pid) pid page → IsSeenByOther group (killed pid m).machine page
      → contents_of (killed pid m).machine.ledger page ≡ contents_of (killed pid n).machine.ledger page
  unfolding killed
  kill_gives pid page gives seen =
      killed_holds pid (m.process pid.0).alive page gives (seen_shows group (killed pid m).machine page seen)
      ∙ ap (λ b. contents_of (killed_if b pid (unreserved n)).machine.ledger page) (ap (λ (x : Machine). (x.process pid.0).alive) same.outside)

  kill_holds : (pid : Pid) → ActsAlike group (ByKill pid) m n → (page : PageName) → IsSeenByOther group (killed pid m).machine page
      → contents_of (killed pid m).machine.ledger page ≡ contents_of (killed pid n).machine.ledger page
  kill_holds pid hands page seen = go (group pid.0) refl
    where
      go : (b : Bool) → group pid.0 ≡ b → contents_of (killed pid m).machine.ledger page ≡ contents_of (killed pid n).machine.ledger page
      go false other = kill_gives pid page (λ hidden old is before. held_alike group m n h same old (before other)) seen
      go true own = elim (hands own page seen) [
        | inl before ↦
            kill_gives pid page (λ hidden old is shown. absurd (false≢true (sym hidden ∙ seen_shows group m page before))) seen
        | inr done ↦ done
      ]

  kill_hands : (pid : Pid) → HoldAlike (left_over m pid) m n → HandsAlike group (ByKill pid) m n
  kill_hands pid alike page seen = inr (kill_gives pid page (λ hidden old is before. alike old is) seen)

  cause_holds : (cause : Cause) → ActsAlike group cause m n → (page : PageName) → IsSeenByOther group (caused cause m) page
      → contents_of (caused cause m).ledger page ≡ contents_of (caused cause n).ledger page
  unfolding picked turn
  cause_holds ByStep alike page seen = step_holds alike page seen
  cause_holds (ByPick who) alike page seen = left_holds (picked who m).machine (picked who n).machine refl refl page seen
  cause_holds (ByIrq k) alike page seen =
      left_holds (raised k m).machine (raised k n).machine (irq_ledger k m) (irq_ledger k n) page seen
  cause_holds (ByKill pid) alike page seen = kill_holds pid alike page seen
  cause_holds ByTurn alike page seen = left_holds (turn m) (turn n) refl refl page seen

pub inside_unseen : InsideIsUnseen
inside_unseen group cause m n h same alike = record {
  records = ap (λ (r : Recorded). r.records) shades;
  states = record {
    outside = unshaded group (caused cause m) (caused cause n) (ap (λ (r : Recorded). r.machine) shades);
    seen = λ page seen. cause_holds group m n h same cause alike page seen;
  };
}
  where
    shades : recorded_shade group (by_cause cause m) ≡ recorded_shade group (by_cause cause n)
    shades = cause_shade group m n same cause alike

pub pages_enough : PagesAreEnough
pages_enough = record {
  steps = λ group who act m n h same q own over. step_hands group m n h same who act q own over;
  kills = λ group pid m n h same alike. kill_hands group m n h same pid alike;
}
