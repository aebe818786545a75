-- A step of the process that runs the program does its line, is known to others by its line, and leaves the process at a line.
use Rattle.std.proofs.Common.{◌≡◌, ℕ, Bool, true, false, List, Option, Some, None, refl, sym, ap, ◌∙◌, arith, subst}
use Rattle.std.specs.Prelude.{◌==◌, ◌%◌, if◌then◌else◌}
use Rattle.std.specs.Option.{option_map}
use Rattle.std.proofs.lemmas.Bool.{and_right, eqb-true, false≢true}
use Rattle.std.proofs.lemmas.Option.{none-some, same_Some}
use Rattle.xk_base.specs.declared.ids.Pid.{Pid}
use Rattle.xk_base.specs.declared.ids.Place.{Place}
use Rattle.xk_base.specs.declared.ids.ThreadId.{ThreadId}
use Rattle.xk_base.specs.declared.limits.TheConstants.{TIMER_INTERRUPT}
use Rattle.xk_base.specs.declared.pages.Access.TheVariants.{Store}
use Rattle.xk_base.specs.declared.pages.Width.TheVariants.{Word}
use Rattle.xk_base.specs.Calls.Registers.{arguments_of, reg_at}
use Rattle.xk_base.specs.Numbers.Windows.{page_of}
use Rattle.xk_base.specs.UserMemory.{low_bytes, number_loaded}
use Rattle.syscall_codec.specs.CallNumbers.{create_server_with_address, receive_message, return_scalar1}
use Rattle.syscall_codec.specs.CallWords.{call_number}
use Rattle.ledger_model.specs.Ledger.{Homed, Ledger}
use Rattle.ledger_model.specs.Places.{same_place}
use Rattle.ledger_model.specs.Steps.{write, written, written_contents, written_page}
use Rattle.ledger_model.proofs.PlaceLemmas.{same_place-refl}
use Rattle.machine_model.specs.Calling.Calls.{call}
use Rattle.machine_model.specs.Hart.Atomics.{Performed, execute_at, leaving}
use Rattle.machine_model.specs.Hart.Instructions.{Next, sum_of}
use Rattle.machine_model.specs.Runs.Matched.{Matched}
use Rattle.machine_model.specs.State.Changes.{Outcome, Refused, Retried, Served, Told, call_settled}
use Rattle.machine_model.specs.State.Machine.{Claim, Idle, Machine, Ready, Thread}
use Rattle.machine_model.specs.State.Order.{actor}
use Rattle.machine_model.specs.State.Threads.{thread_id}
use Rattle.machine_model.specs.State.Views.{memory_of, page_reached, stored, write_to}
use Rattle.machine_model.specs.Stepping.Acts.{executes}
use Rattle.machine_model.specs.Stepping.Interrupts.{is_claim_of}
use Rattle.machine_model.specs.Stepping.Reservations.{reserved_by}
use Rattle.machine_model.specs.Stepping.Step.{acted, counted, ends_handler, ends_thread, executed, performed, step}
use Rattle.machine_model.specs.Stepping.Timer.{timed}
use Rattle.machine_model.proofs.Runs.TimerLemmas.{timed_raised}
use Rattle.call_effects.specs.Footprints.{LedgerPart, footprint, names}
use Rattle.call_effects.proofs.FootprintLemmas.{calls_leave_the_rest}
use Rattle.machine_laws.proofs.Stepping.StepKindLemmas.{acted_as_executed}
use Rattle.machine_laws.proofs.Threading.ThreadAnswerLemmas.{IsReadyThread, ready_thread, same_thread-self}
use Rattle.machine_laws.proofs.Threading.ThreadStepLemmas.{actor_ready, step_of_thread, turned_to}
use Rattle.confidentiality_laws.proofs.Keeping.CallLemmas.{ledger_after, settled_ledger}
use Rattle.noninterference_laws.specs.Acting.{Act, Calls, EndsThread, Silent, act_of, act_of_executed, act_of_thread}
use Rattle.noninterference_laws.specs.SecretSum.{Answer, Begin, Create, Grow, HasOwnPage, IsAt, IsLoaded, Line, Name, NameCreate, NameReceive}
use Rattle.noninterference_laws.specs.SecretSum.{NameReturn, Receive, Repeat, Return, RunsProgram, can_be, entry, line_address, sum_address}
use Rattle.noninterference_laws.specs.SecretSum.{sum_place}
use Rattle.noninterference_laws.proofs.InstructionLemmas.{timed_other}
use Rattle.noninterference_laws.proofs.Unwound.LineLemmas.{does, executes_line, reached, reaches}
use Rattle.noninterference_laws.proofs.Unwound.OthersLemmas.{fits, not_started}
use Rattle.noninterference_laws.proofs.Unwound.OwnCallLemmas.{StaysIn, apart, creates, receives, returns}
use Rattle.noninterference_laws.proofs.Unwound.RegisterLemmas.{Fits, after_answer, after_begin, after_name, after_name_create}
use Rattle.noninterference_laws.proofs.Unwound.RegisterLemmas.{after_name_receive, after_name_return, number_called}

-- ---- the sum is written

code_apart : (pid : Pid) → same_place (page_of pid entry) (sum_place pid) ≡ false
code_apart pid = and_right (pid.0 == pid.0) false refl

-- the page of the sum, with other bytes
written_own : (place : Place) (bytes : List ℕ) (l : Ledger) (own : HasOwnPage l place)
    → (later : HasOwnPage (write (Homed place) 0 bytes l) place) × (later.page.right ≡ own.page.right)
unfolding write
written_own place bytes l own = (
  record {
    page = written_page 0 bytes own.page;
    there = rw (same_place-refl place, own.there) refl;
    unlent = own.unlent;
    bytes = written own.bytes 0 bytes;
    holds = ap (written_contents 0 bytes) own.holds;
  },
  refl,
)

written_code : (pid : Pid) (bytes : List ℕ) (l : Ledger)
    → (write (Homed (sum_place pid)) 0 bytes l).home (page_of pid entry) ≡ l.home (page_of pid entry)
unfolding write
written_code pid bytes l = rw (code_apart pid) refl

pub written_loaded : (pid : Pid) (bytes : List ℕ) (l : Ledger) → IsLoaded l pid → IsLoaded (write (Homed (sum_place pid)) 0 bytes l) pid
written_loaded pid bytes l loaded =
    let sum = written_own (sum_place pid) bytes l loaded.sum in
    record {
      code = record {
        page = loaded.code.page;
        there = written_code pid bytes l ∙ loaded.code.there;
        unlent = loaded.code.unlent;
        bytes = loaded.code.bytes;
        holds = loaded.code.holds;
      };
      executable = loaded.executable;
      program = loaded.program;
      sum = sum.0;
      writable = ap (λ right. right.w) sum.1 ∙ loaded.writable;
    }

-- ---- acts

never_ends : (pid : Pid) (line : Line) → ends_thread (thread_id pid 2) (line_address line) ≡ false
never_ends pid Begin = refl
never_ends pid NameCreate = refl
never_ends pid Create = refl
never_ends pid Name = refl
never_ends pid NameReceive = refl
never_ends pid Receive = refl
never_ends pid Grow = refl
never_ends pid Answer = refl
never_ends pid NameReturn = refl
never_ends pid Return = refl
never_ends pid Repeat = refl

-- what a line is to others
abbrev pub act_at : Line → List ℕ → Act
act_at Begin regs = Silent
act_at NameCreate regs = Silent
act_at Create regs = Calls (arguments_of regs)
act_at Name regs = Silent
act_at NameReceive regs = Silent
act_at Receive regs = Calls (arguments_of regs)
act_at Grow regs = Silent
act_at Answer regs = Silent
act_at NameReturn regs = Silent
act_at Return regs = Calls (arguments_of regs)
act_at Repeat regs = Silent

acts_so : (m : Machine) (t : Thread) (sum : ℕ) (line : Line) → act_of_executed m t (does line sum t.regs) ≡ act_at line t.regs
acts_so m t sum Begin = refl
acts_so m t sum NameCreate = refl
acts_so m t sum Create = refl
acts_so m t sum Name = refl
acts_so m t sum NameReceive = refl
acts_so m t sum Receive = refl
acts_so m t sum Grow = refl
acts_so m t sum Answer = refl
acts_so m t sum NameReturn = refl
acts_so m t sum Return = refl
acts_so m t sum Repeat = refl

module _ (pid : Pid) (m : Machine) (h : Matched m) (runs : RunsProgram pid m) where
  abbrev pub first : ThreadId
  first = thread_id pid 2

  abbrev tid_of : ℕ → ThreadId
  tid_of tid = thread_id pid tid

  abbrev pub here : Machine
  here = turned_to first m

  abbrev pub t : Thread
  t = runs.thread

  abbrev pub sum : ℕ
  sum = number_loaded (memory_of m pid) sum_address Word

  pub goes_on : ends_thread first t.pc ≡ false
  goes_on = ap (ends_thread first) runs.at.pc ∙ never_ends pid runs.line

  pub performed_line : performed m first t ≡ leaving (reserved_by first m.reserved) (does runs.line sum t.regs)
  performed_line =
      ap (λ pc. execute_at t.regs pc (reserved_by first m.reserved) (memory_of m pid)) runs.at.pc
      ∙ executes_line (memory_of m pid) (reaches m pid runs.loaded) t.regs (reserved_by first m.reserved) runs.line runs.at.address

  executes_so : executes m first t ≡ Some (does runs.line sum t.regs)
  executes_so =
      ap (λ b. if b then None else (if ends_handler first t.pc then None else Some (performed m first t).executed)) goes_on
      ∙ ap (λ (p : Performed). Some p.executed) performed_line

  pub acted_line : acted here t ≡ executed here t (does runs.line sum t.regs)
  acted_line = acted_as_executed m first t (does runs.line sum t.regs) executes_so

  pub act_is : act_of m first ≡ Some (act_at runs.line t.regs)
  act_is =
      ap (option_map (act_of_thread m first)) runs.there
      ∙ (ap (λ b. Some (if b then EndsThread (reg_at t.regs 10) else act_of_executed m t (performed m first t).executed)) goes_on
      ∙ (ap (λ (p : Performed). Some (act_of_executed m t p.executed)) performed_line ∙ ap (λ act. Some act) (acts_so m t sum runs.line)))

  -- ---- whose step it is

  -- no other thread of the process is Ready
  pub first_acts : (who : ThreadId) → actor m ≡ Some who → who.pid ≡ pid → who ≡ first
  first_acts who turn own = go (who.tid.0 == 2) (who.tid.0 == 1) refl refl
    where
      r : IsReadyThread m who
      r = ready_thread m who (actor_ready m who turn)

      its : who ≡ tid_of who.tid.0
      its = λ i. record { pid = own i; tid = who.tid }

      there : m.threads (tid_of who.tid.0) ≡ Some r.thread
      there = sym (ap m.threads its) ∙ r.there

      go : (a b : Bool) → (who.tid.0 == 2) ≡ a → (who.tid.0 == 1) ≡ b → who ≡ first
      go true b e f = its ∙ ap tid_of (eqb-true who.tid.0 2 e)
      go false true e f =
          let one : runs.handler ≡ r.thread =
          same_Some runs.handler r.thread (sym runs.handler_there ∙ (ap (λ k. m.threads (tid_of k)) (sym (eqb-true who.tid.0 1 f)) ∙ there)) in
          absurd (idle_ready (sym runs.idle ∙ (ap (λ (x : Thread). x.state) one ∙ r.ready)))
        where
          idle_ready : Idle ≡ Ready → ⊥
          idle_ready x = cc
      go false false e f =
          absurd (none-some r.thread (sym (runs.alone who.tid.0 (λ is. false≢true (sym f ∙ ap (λ k. k == 1) is)) (λ is. false≢true (sym e ∙ ap (λ k. k == 2) is)))
          ∙ there))

  -- ---- what it leaves

  module _ (ready : t.state ≡ Ready) where
    next_stays : (next : Line) (regs : List ℕ) → Fits next regs → StaysIn pid m h runs (executed here t (Next regs (line_address next))).machine
    next_stays next regs fit = record {
      line = next;
      thread = record t { regs = regs; pc = line_address next };
      there = rw (same_thread-self first, runs.there) refl;
      at = record { pc = refl; enough = fit.enough; zero = fit.zero; address = fit.address; call = fit.call; state = ap (can_be next) ready };
      others = λ tid other. rw (apart pid m h runs tid other) refl;
      claims = refl;
    }

    line_stays : (line : Line) → IsAt line t → StaysIn pid m h runs (executed here t (does line sum t.regs)).machine
    unfolding stored
    line_stays Begin at = next_stays NameCreate _ (after_begin t.regs (fits Begin t at))
    line_stays NameCreate at = next_stays Create _ (after_name_create t.regs (fits NameCreate t at))
    line_stays Create at = creates pid m h runs at ready
    line_stays Name at = next_stays NameReceive _ (after_name t.regs (fits Name t at))
    line_stays NameReceive at = next_stays Receive _ (after_name_receive t.regs (fits NameReceive t at))
    line_stays Receive at = receives pid m h runs at ready
    line_stays Grow at =
        let fit : Fits Grow t.regs = fits Grow t at in
        let stays = next_stays Answer t.regs (record { enough = fit.enough; zero = fit.zero; address = fit.address; call = tt }) in
        record { line = stays.line; thread = stays.thread; there = stays.there; at = stays.at; others = stays.others; claims = stays.claims }
    line_stays Answer at = next_stays NameReturn _ (after_answer t.regs (fits Answer t at))
    line_stays NameReturn at = next_stays Return _ (after_name_return t.regs (fits NameReturn t at))
    line_stays Return at = returns pid m h runs at ready
    line_stays Repeat at =
        let fit : Fits Repeat t.regs = fits Repeat t at in
        next_stays Name t.regs (record { enough = fit.enough; zero = fit.zero; address = fit.address; call = tt })

  -- ---- the pages

  -- a call of the program leaves the ledger
  called_ledger : (w : List ℕ) (number : ℕ) → call_number w ≡ number → names (footprint number) LedgerPart ≡ false
      → ledger_after here (call here w) ≡ m.ledger
  called_ledger w number is untouched = go (call here w) refl
    where
      go : (outcome : Outcome) → call here w ≡ outcome → ledger_after here outcome ≡ m.ledger
      go (Refused error) e = refl
      go Retried e = refl
      go (Served change) e = (calls_leave_the_rest here w change e).ledger (ap (λ k. names (footprint k) LedgerPart) is ∙ untouched)

  pub call_ledger : (number : ℕ) → reg_at t.regs 10 ≡ number → names (footprint number) LedgerPart ≡ false
      → (call_settled here (call here (arguments_of t.regs))).machine.ledger ≡ m.ledger
  call_ledger number is untouched =
      settled_ledger here (call here (arguments_of t.regs))
      ∙ called_ledger (arguments_of t.regs) number (number_called t.regs runs.at.enough ∙ is) untouched

  -- the sum is written at its place
  pub grown_ledger : (value : ℕ) → write_to (page_reached m pid Store sum_address) (sum_address % 4096) (low_bytes Word value) m.ledger
      ≡ write (Homed (sum_place pid)) 0 (low_bytes Word value) m.ledger
  grown_ledger value =
      ap (λ o. write_to o 0 (low_bytes Word value) m.ledger) (reached m pid runs.loaded (sum_place pid) runs.loaded.sum Store runs.loaded.writable)

  line_loaded : (line : Line) → IsAt line t → IsLoaded (executed here t (does line sum t.regs)).machine.ledger pid
  unfolding stored
  line_loaded Begin at = runs.loaded
  line_loaded NameCreate at = runs.loaded
  line_loaded Create at = subst (λ l. IsLoaded l pid) (sym (call_ledger create_server_with_address at.call refl)) runs.loaded
  line_loaded Name at = runs.loaded
  line_loaded NameReceive at = runs.loaded
  line_loaded Receive at = subst (λ l. IsLoaded l pid) (sym (call_ledger receive_message at.call refl)) runs.loaded
  line_loaded Grow at =
      subst (λ l. IsLoaded l pid) (sym (grown_ledger (sum_of sum (reg_at t.regs 14))))
      (written_loaded pid (low_bytes Word (sum_of sum (reg_at t.regs 14))) m.ledger runs.loaded)
  line_loaded Answer at = runs.loaded
  line_loaded NameReturn at = runs.loaded
  line_loaded Return at = subst (λ l. IsLoaded l pid) (sym (call_ledger return_scalar1 at.call refl)) runs.loaded
  line_loaded Repeat at = runs.loaded

  -- ---- the step

  module _ (turn : actor m ≡ Some first) where
    ready : t.state ≡ Ready
    ready =
        let r : IsReadyThread m first = ready_thread m first (actor_ready m first turn) in
        ap (λ (x : Thread). x.state) (same_Some t r.thread (sym runs.there ∙ r.there)) ∙ r.ready

    abbrev left : Machine
    left = (acted here t).machine

    stays : StaysIn pid m h runs left
    stays = subst (λ (told : Told). StaysIn pid m h runs told.machine) (sym acted_line) (line_stays ready runs.line runs.at)

    loaded : IsLoaded left.ledger pid
    loaded = subst (λ (told : Told). IsLoaded told.machine.ledger pid) (sym acted_line) (line_loaded runs.line runs.at)

    abbrev counts : Told
    counts = counted here (Some t) (acted here t)

    is : (step m).machine ≡ (timed counts).machine
    is = step_of_thread m first t turn runs.there

    unclaimed : is_claim_of pid (left.claims TIMER_INTERRUPT) ≡ false
    unclaimed = ap (λ (f : ℕ → Option Claim). is_claim_of pid (f TIMER_INTERRUPT)) stays.claims ∙ runs.no_claim TIMER_INTERRUPT

    threads : (tid : ℕ) → (step m).machine.threads (tid_of tid) ≡ left.threads (tid_of tid)
    threads tid =
        ap (λ (x : Machine). x.threads (tid_of tid)) is
        ∙ timed_other (tid_of tid) counts (not_started pid (left.claims TIMER_INTERRUPT) unclaimed (tid_of tid) refl)

    claims : (step m).machine.claims ≡ m.claims
    claims = ap (λ (x : Machine). x.claims) (is ∙ (timed_raised counts).is) ∙ stays.claims

    ledger : (step m).machine.ledger ≡ left.ledger
    ledger = ap (λ (x : Machine). x.ledger) (is ∙ (timed_raised counts).is)

    pub own_step_runs : RunsProgram pid (step m).machine
    own_step_runs = record {
      loaded = subst (λ l. IsLoaded l pid) (sym ledger) loaded;
      line = stays.line;
      thread = stays.thread;
      there = threads 2 ∙ stays.there;
      at = stays.at;
      handler = runs.handler;
      handler_there = threads 1 ∙ (stays.others 1 (λ e. absurd (omega (arith, e))) ∙ runs.handler_there);
      idle = runs.idle;
      alone = λ tid a b. threads tid ∙ (stays.others tid b ∙ runs.alone tid a b);
      no_claim = λ k. ap (λ (f : ℕ → Option Claim). is_claim_of pid (f k)) claims ∙ runs.no_claim k;
    }
