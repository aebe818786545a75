-- Each page that others than a group can load holds the same after whatever comes next, where it was so before.
use Rattle.std.proofs.Common.{◌≡◌, ◌≢◌, ℕ, Bool, true, false, List, Option, Some, None, refl, sym, ap, ◌∙◌}
use Rattle.std.specs.Prelude.{◌%◌, ◌==◌, if◌then◌else◌}
use Rattle.std.proofs.lemmas.Bool.{false≢true}
use Rattle.xk_base.specs.declared.ids.Pid.{Pid}
use Rattle.xk_base.specs.declared.ids.Place.{Place}
use Rattle.xk_base.specs.declared.ids.ThreadId.{ThreadId}
use Rattle.xk_base.specs.declared.pages.Access.TheVariants.{Load, Store}
use Rattle.syscall_codec.specs.CallWords.{call_number}
use Rattle.syscall_codec.specs.CallNumbers.{destroy_server, forward_message, return_memory, send_message, terminate_process}
use Rattle.syscall_codec.specs.CallNumbers.{try_send_message}
use Rattle.xk_base.specs.Numbers.Windows.{page_of}
use Rattle.xk_base.specs.UserMemory.{low_bytes}
use Rattle.ledger_model.specs.Lawful.{IsLawful}
use Rattle.ledger_model.specs.Ledger.{Bytes, Console, Contents, Ledger, PageName, contents_of}
use Rattle.ledger_model.specs.Loans.{same_number}
use Rattle.ledger_model.specs.Reach.{reach}
use Rattle.ledger_model.specs.Steps.{write}
use Rattle.ledger_model.proofs.Pages.BareLemmas.{reach-bare}
use Rattle.ledger_model.proofs.ReachingLemmas.{write_changed, write_console, write_others}
use Rattle.machine_model.specs.Calling.Calls.{call}
use Rattle.machine_model.specs.Calling.ServerCalls.{named_server, named_sid}
use Rattle.machine_model.specs.Ending.Closing.{any_server, is_message_at}
use Rattle.machine_model.specs.Ending.Ends.{death, handler_ended, has_threads, thread_ended}
use Rattle.machine_model.specs.Hart.Instructions.{CallsKernel, Executed, Next, Stores, StoresToConsole, StoresToTimer, Traps}
use Rattle.machine_model.specs.Messaging.ForwardCalls.{passed_number}
use Rattle.machine_model.specs.Messaging.ReturnCalls.{named_number}
use Rattle.machine_model.specs.Runs.Isolation.{without_bytes}
use Rattle.machine_model.specs.Runs.Matched.{Matched}
use Rattle.machine_model.specs.State.Changes.{Change, Outcome, Refused, Retried, Served, settled}
use Rattle.machine_model.specs.State.Machine.{Claim, Idle, Machine, Thread}
use Rattle.machine_model.specs.State.Servers.{is_server_of, with_sid}
use Rattle.machine_model.specs.State.Threads.{change_thread, put_thread, thread_id, with_state}
use Rattle.machine_model.specs.State.Views.{page_reached, stored, timer_set, write_to}
use Rattle.machine_model.specs.Stepping.Interrupts.{delivered, delivered_lowest, handler_started, is_free_for_interrupt, lowest_pending}
use Rattle.machine_model.proofs.Runs.KeptLemmas.{matched_at}
use Rattle.machine_laws.proofs.Threading.ThreadStepLemmas.{turned_to}
use Rattle.confidentiality_laws.proofs.Carrying.CallTableLemmas.{call_carries}
use Rattle.confidentiality_laws.proofs.Carrying.ChangeLemmas.{outcome_through}
use Rattle.confidentiality_laws.proofs.Carrying.EndLemmas.{death_through, thread_ended_through}
use Rattle.confidentiality_laws.proofs.Isolating.StepLemmas.{acts}
use Rattle.confidentiality_laws.proofs.Keeping.CallLemmas.{ledger_after, settled_ledger}
use Rattle.confidentiality_laws.proofs.Ledgers.OtherBytesLemmas.{machine_through, no_bytes, through}
use Rattle.confidentiality_laws.proofs.Ledgers.PairLemmas.{both}
use Rattle.confidentiality_laws.proofs.Spreading.CallLemmas.{both_matched}
use Rattle.noninterference_laws.proofs.InstructionLemmas.{same_page, same_page_at, same_page_true}
use Rattle.noninterference_laws.proofs.ReachedPageLemmas.{stored_alone}
use Rattle.noninterference_laws.specs.Acting.{Act, Arms, Calls, EndsHandler, EndsThread, Faults, Prints, Silent}
use Rattle.noninterference_laws.specs.Handing.{act_over, called_over, destroyed_over, ended_over, left_over, no_pages}
use Rattle.noninterference_laws.specs.Inside.{Group, IsSeenByOther, SameButInside, outside}
use Rattle.noninterference_laws.proofs.Seeing.DeathLemmas.{death_sources, ended_sources}
use Rattle.noninterference_laws.proofs.Seeing.HeldLemmas.{has_loans}
use Rattle.noninterference_laws.proofs.Seeing.PairLemmas.{Alike, CarriesLedger, CarriesPages, FromBoth, FromHanded, FromShown, from_both}
use Rattle.noninterference_laws.proofs.Seeing.PairLemmas.{lent_through, shows_through}
use Rattle.noninterference_laws.proofs.Seeing.RowLemmas.{call_sources}
use Rattle.noninterference_laws.proofs.Seeing.ShownLemmas.{shows, shows_seen}
use Rattle.noninterference_laws.proofs.Stepping.ActLemmas.{act_by, did}
use Rattle.noninterference_laws.proofs.Stepping.ShadeLemmas.{shade}
use Rattle.noninterference_laws.proofs.Stepping.StepLemmas.{between, between_bare}
use Rattle.noninterference_laws.proofs.Veiling.EffectLemmas.{call_veil, change_veil, outcome_veil}
use Rattle.noninterference_laws.proofs.Veiling.EndLemmas.{death_veil, thread_ended_veil}
use Rattle.noninterference_laws.proofs.Veiling.VeilLemmas.{veil}

-- ---- with other bytes

chosen_page : (b : Bool) (f g u v : PageName → Bool) (page : PageName) → f page ≡ u page → g page ≡ v page
    → (if b then f else g) page ≡ (if b then u else v) page
chosen_page true f g u v page a b = a
chosen_page false f g u v page a b = b

left_carries : (pid : Pid) → CarriesPages (λ m. left_over m pid)
unfolding any_server
left_carries pid g m page = lent_through g (is_message_at (λ n. is_server_of pid (m.servers n)) m) m.ledger page

ended_carries : (who : ThreadId) → CarriesPages (λ m. ended_over m who)
unfolding has_threads
ended_carries who g m page =
    chosen_page (has_threads (put_thread who None m) who.pid) no_pages (left_over (machine_through g m) who.pid) no_pages (left_over m who.pid) page
    refl (left_carries who.pid g m page)

destroyed_carries : (w : List ℕ) → CarriesPages (λ m. destroyed_over m w)
unfolding any_server with_sid
destroyed_carries w g m page = lent_through g (is_message_at (λ n. n == (named_server m (named_sid w)).0) m) m.ledger page

called_carries : (w : List ℕ) → CarriesPages (λ m. called_over m w)
called_carries w g m page =
    chosen_page (number == send_message) _ _ _ _ page refl
    (chosen_page (number == try_send_message) _ _ _ _ page refl
    (chosen_page (number == return_memory) _ _ _ _ page (lent_through g (λ x. same_number x (named_number w)) m.ledger page)
    (chosen_page (number == forward_message) _ _ _ _ page (lent_through g (λ x. same_number x (passed_number w)) m.ledger page)
    (chosen_page (number == destroy_server) _ _ _ _ page (destroyed_carries w g m page)
    (chosen_page (number == terminate_process) _ _ _ _ page (left_carries m.cursor.pid g m page) refl)))))
  where
    number : ℕ
    number = call_number w

outcome_ledger : (g : List ℕ → List ℕ) (m : Machine) (outcome : Outcome)
    → through g (ledger_after m outcome) ≡ ledger_after (machine_through g m) (outcome_through g outcome)
outcome_ledger g m (Refused error) = refl
outcome_ledger g m Retried = refl
outcome_ledger g m (Served change) = refl

pub call_carries_ledger : (w : List ℕ) → CarriesLedger (λ m. ledger_after m (call m w))
call_carries_ledger w g zeros m =
    outcome_ledger g m (call m w) ∙ ap (ledger_after (machine_through g m)) (call_carries g zeros m w)

-- ---- handlers leave the ledger

started_ledger : (m : Machine) (pid : Pid) (k : ℕ) (o : Option Claim) → (handler_started m pid k o).machine.ledger ≡ m.ledger
started_ledger m pid k None = refl
started_ledger m pid k (Some claim) = refl

lowest_ledger : (m : Machine) (pid : Pid) (o : Option ℕ) → (delivered_lowest m pid o).machine.ledger ≡ m.ledger
lowest_ledger m pid None = refl
lowest_ledger m pid (Some k) = started_ledger m pid k (m.claims k)

delivered_ledger : (pid : Pid) (m : Machine) → (delivered pid m).machine.ledger ≡ m.ledger
unfolding delivered
delivered_ledger pid m = lowest_ledger m pid (if is_free_for_interrupt m pid then lowest_pending m pid else None)

handler_ledger : (pid : Pid) (m : Machine) → (handler_ended pid m).machine.ledger ≡ m.ledger
unfolding handler_ended
handler_ledger pid m = delivered_ledger pid (change_thread (thread_id pid 1) (with_state Idle) m)

-- ---- stores

-- a page that another process can load isn't written
module _ (x : Machine) (pid : Pid) (page : PageName) (place : Place) (apart : place.pid ≢ pid)
    (loads : reach x.processes x.ledger place Load ≡ Some page) where
  unwritten : (address : ℕ) (bytes : List ℕ) (o : Option PageName) → page_reached x pid Store address ≡ o
      → contents_of (write_to o (address % 4096) bytes x.ledger) page ≡ contents_of x.ledger page
  unwritten address bytes None e = refl
  unwritten address bytes (Some name) e = go (same_page page name) refl
    where
      go : (b : Bool) → same_page page name ≡ b
          → contents_of (write name (address % 4096) bytes x.ledger) page ≡ contents_of x.ledger page
      go true q =
          absurd (apart (sym (ap (λ (p : Place). p.pid)
          (stored_alone x.processes x.ledger (page_of pid address) place page (e ∙ ap (λ k. Some k) (sym (same_page_true page name q))) loads))))
      go false q = write_others name page (address % 4096) bytes x.ledger (λ same. false≢true (sym q ∙ same_page_at page name same))

-- the same bytes written to a page that holds the same
pub both_written : (a b : Ledger) (name page : PageName) (offset : ℕ) (bytes : List ℕ) (c : Contents) → contents_of a name ≡ Some c
    → contents_of a name ≡ contents_of b name → (same_page page name ≡ false → contents_of a page ≡ contents_of b page)
    → contents_of (write name offset bytes a) page ≡ contents_of (write name offset bytes b) page
both_written a b name page offset bytes c holds same else_ = go (same_page page name) refl
  where
    changed : (c : Contents) → contents_of a name ≡ Some c
        → contents_of (write name offset bytes a) name ≡ contents_of (write name offset bytes b) name
    changed Console e =
        write_console name offset bytes a e ∙ sym (write_console name offset bytes b (sym same ∙ e))
    changed (Bytes old) e = write_changed name offset bytes old a e ∙ sym (write_changed name offset bytes old b (sym same ∙ e))

    go : (d : Bool) → same_page page name ≡ d
        → contents_of (write name offset bytes a) page ≡ contents_of (write name offset bytes b) page
    go true q =
        ap (contents_of (write name offset bytes a)) (same_page_true page name q)
        ∙ (changed c holds ∙ ap (contents_of (write name offset bytes b)) (sym (same_page_true page name q)))
    go false q =
        write_others name page offset bytes a (λ is. false≢true (sym q ∙ same_page_at page name is))
        ∙ (else_ q ∙ sym (write_others name page offset bytes b (λ is. false≢true (sym q ∙ same_page_at page name is))))

-- ---- machines whose outside is the same

-- the same pages show
pub shade_shows : (group : Group) (x y : Machine) → shade group x ≡ shade group y → (page : PageName)
    → shows group x.ledger page ≡ shows group y.ledger page
shade_shows group x y e page =
    sym (shows_through no_bytes group x.ledger page)
    ∙ (ap (λ (z : Machine). shows group z.ledger page) e ∙ shows_through no_bytes group y.ledger page)

veil_ledger : (group : Group) (x : Machine) (outcome : Outcome) → ledger_after x (outcome_veil group outcome) ≡ ledger_after x outcome
veil_ledger group x (Refused error) = refl
veil_ledger group x Retried = refl
veil_ledger group x (Served change) = refl

module _ (group : Group) (m n : Machine) (h : Matched m) (same : SameButInside group m n) where
  lawful : IsLawful m.processes m.capacity m.ledger
  lawful = h.body.ledger.lawful

  pub held_alike : (page : PageName) → shows group m.ledger page ≡ true → contents_of m.ledger page ≡ contents_of n.ledger page
  held_alike page s = same.seen page (shows_seen group m lawful page s)

  bytes_apart : without_bytes m ≡ without_bytes (between m n)
  bytes_apart = between_bare group m n same.outside

  veiled : veil group (between m n) ≡ veil group n
  veiled = λ i. record n { threads = (same.outside i).threads; reserved = (same.outside i).reserved }

  -- what a page holds that is handed over, and wasn't seen by others before, is the same in both
  abbrev pub Gives : (PageName → Bool) → Pid → PageName → Type 0
  Gives handed pid page =
      shows group m.ledger page ≡ false → (old : PageName) → handed old ≡ true → (group pid.0 ≡ false → shows group m.ledger old ≡ true)
      → contents_of m.ledger old ≡ contents_of n.ledger old

  settle : (pid : Pid) (handed : PageName → Bool) (after other : Ledger) (page : PageName)
      → FromBoth group pid handed m.ledger n.ledger after other page → Gives handed pid page
      → contents_of after page ≡ contents_of other page
  settle pid handed after other page (Alike e) gives = e
  settle pid handed after other page (FromShown old s here there) gives = here ∙ (held_alike old s ∙ sym there)
  settle pid handed after other page (FromHanded hidden old is seen here there) gives =
      here ∙ (gives hidden old is seen ∙ sym there)

  -- ---- what an act makes of the ledger

  module _ (who : ThreadId) where
    abbrev mine : Machine
    mine = turned_to who m

    abbrev its : Machine
    its = turned_to who n

    abbrev middle : Machine
    middle = turned_to who (between m n)

    apart : without_bytes mine ≡ without_bytes middle
    apart = ap (turned_to who) bytes_apart

    two_matched : Matched (both mine middle apart)
    two_matched = both_matched mine middle apart (matched_at who m h)

    veiled_turned : veil group middle ≡ veil group its
    veiled_turned = ap (turned_to who) veiled

    call_middle : (w : List ℕ) → ledger_after middle (call middle w) ≡ ledger_after its (call its w)
    call_middle w =
        sym (veil_ledger group middle (call middle w))
        ∙ (ap (ledger_after its) (call_veil group middle w ∙ (ap (λ x. outcome_veil group (call x w)) veiled_turned ∙ sym (call_veil group its w)))
        ∙ veil_ledger group its (call its w))

    death_middle : (pid : Pid) → (death pid middle).machine.ledger ≡ (death pid its).machine.ledger
    death_middle pid =
        ap (λ (c : Change). c.machine.ledger)
        (death_veil group pid middle ∙ (ap (λ x. change_veil group (death pid x)) veiled_turned ∙ sym (death_veil group pid its)))

    ended_middle : (a0 : ℕ) → (thread_ended who a0 middle).machine.ledger ≡ (thread_ended who a0 its).machine.ledger
    ended_middle a0 =
        ap (λ (c : Change). c.machine.ledger)
        (thread_ended_veil group who a0 middle
        ∙ (ap (λ x. change_veil group (thread_ended who a0 x)) veiled_turned ∙ sym (thread_ended_veil group who a0 its)))

    called_holds : (w : List ℕ) (page : PageName) → Gives (called_over mine w) who.pid page
        → shows group (ledger_after mine (call mine w)) page ≡ true
        → contents_of (ledger_after mine (call mine w)) page ≡ contents_of (ledger_after its (call its w)) page
    called_holds w page gives s =
        settle who.pid (called_over mine w) (ledger_after mine (call mine w)) (ledger_after middle (call middle w)) page
        (from_both group who.pid (λ x. ledger_after x (call x w)) (call_carries_ledger w) (λ x. called_over x w) (called_carries w) mine middle apart
        (call_sources group (both mine middle apart) w two_matched) page s) gives
        ∙ ap (λ l. contents_of l page) (call_middle w)

    pub died_holds : (pid : Pid) (page : PageName) → Gives (left_over mine pid) pid page
        → shows group (death pid mine).machine.ledger page ≡ true
        → contents_of (death pid mine).machine.ledger page ≡ contents_of (death pid its).machine.ledger page
    died_holds pid page gives s =
        settle pid (left_over mine pid) (death pid mine).machine.ledger (death pid middle).machine.ledger page
        (from_both group pid (λ x. (death pid x).machine.ledger) (λ g zeros x. ap (λ (c : Change). c.machine.ledger) (death_through g pid x))
        (λ x. left_over x pid) (left_carries pid) mine middle apart
        (death_sources pid (both mine middle apart) group (has_loans (both mine middle apart) two_matched)) page s) gives
        ∙ ap (λ l. contents_of l page) (death_middle pid)

    ended_holds : (a0 : ℕ) (page : PageName) → Gives (ended_over mine who) who.pid page
        → shows group (thread_ended who a0 mine).machine.ledger page ≡ true
        → contents_of (thread_ended who a0 mine).machine.ledger page ≡ contents_of (thread_ended who a0 its).machine.ledger page
    ended_holds a0 page gives s =
        settle who.pid (ended_over mine who) (thread_ended who a0 mine).machine.ledger (thread_ended who a0 middle).machine.ledger page
        (from_both group who.pid (λ x. (thread_ended who a0 x).machine.ledger)
        (λ g zeros x. ap (λ (c : Change). c.machine.ledger) (thread_ended_through g who a0 x)) (λ x. ended_over x who) (ended_carries who) mine middle apart
        (ended_sources group who a0 (both mine middle apart) (has_loans (both mine middle apart) two_matched)) page s) gives
        ∙ ap (λ l. contents_of l page) (ended_middle a0)

    pub did_holds : (act : Act) (page : PageName) → Gives (act_over m who act) who.pid page → shows group (did m who act).machine.ledger page ≡ true
        → contents_of (did m who act).machine.ledger page ≡ contents_of (did n who act).machine.ledger page
    unfolding settled any_server has_threads
    did_holds Silent page gives s = held_alike page s
    did_holds (Prints byte) page gives s = held_alike page s
    did_holds (Arms compare) page gives s = held_alike page s
    did_holds (Calls words) page gives s =
        ap (λ l. contents_of l page) (settled_ledger mine (call mine words))
        ∙ (called_holds words page gives (sym (ap (λ l. shows group l page) (settled_ledger mine (call mine words))) ∙ s)
        ∙ ap (λ l. contents_of l page) (sym (settled_ledger its (call its words))))
    did_holds (Faults cause value) page gives s = died_holds who.pid page gives s
    did_holds (EndsThread a0) page gives s = ended_holds a0 page gives s
    did_holds EndsHandler page gives s =
        ap (λ l. contents_of l page) (handler_ledger who.pid mine)
        ∙ (held_alike page (sym (ap (λ l. shows group l page) (handler_ledger who.pid mine)) ∙ s)
        ∙ ap (λ l. contents_of l page) (sym (handler_ledger who.pid its)))

-- ---- what a thread does, and its act

-- a page that others than the group can load holds after a step of the group what it holds after its act
module _ (group : Group) (x : Machine) (who : ThreadId) (own : group who.pid.0 ≡ true) (t : Thread) (page : PageName)
    (seen : IsSeenByOther group x page) where
  another : seen.place.pid ≢ who.pid
  another e = false≢true (sym seen.other ∙ (ap (λ (p : Pid). group p.0) e ∙ own))

  console_ledger : (b : Bool) (value : ℕ) → (did x who (if b then Prints value else Silent)).machine.ledger ≡ x.ledger
  console_ledger true value = refl
  console_ledger false value = refl

  pub own_holds : (a b : Bool) (y : Executed)
      → contents_of (acts x who t a b y).machine.ledger page ≡ contents_of (did x who (act_by x t a b y)).machine.ledger page
  unfolding stored timer_set
  own_holds true b y = refl
  own_holds false true y = refl
  own_holds false false (Next regs pc) = refl
  own_holds false false (Stores address width value regs pc) =
      unwritten x who.pid page seen.place another seen.reached address (low_bytes width value) (page_reached x who.pid Store address) refl
  own_holds false false (StoresToConsole offset value regs pc) =
      ap (λ l. contents_of l page) (sym (console_ledger (offset == 0) (value % 256)))
  own_holds false false (StoresToTimer offset width value regs pc) = refl
  own_holds false false CallsKernel = refl
  own_holds false false (Traps cause value) = refl

-- what is seen in one is seen in the other
pub seen_there : (group : Group) (m n : Machine) → outside group m ≡ outside group n → (page : PageName) → IsSeenByOther group m page
    → IsSeenByOther group n page
seen_there group m n e page seen = record {
  place = seen.place;
  other = seen.other;
  reached =
      sym (reach-bare n.processes n.ledger seen.place Load)
      ∙ (sym (ap (λ (x : Machine). reach x.processes x.ledger seen.place Load) e)
      ∙ (reach-bare m.processes m.ledger seen.place Load ∙ seen.reached));
}
