-- A step of the process that runs the program leads from two states that differ in the sum alone to two such states.
use Rattle.std.proofs.Common.{◌≡◌, ◌≢◌, ℕ, ◌+◌, Bool, List, [], Option, Some, None, refl, sym, ap, ◌∙◌}
use Rattle.std.specs.Prelude.{if◌then◌else◌}
use Rattle.std.specs.Option.{option_map}
use Rattle.std.proofs.lemmas.Option.{none-some, same_Some}
use Rattle.xk_base.specs.declared.ids.Pid.{Pid}
use Rattle.xk_base.specs.declared.ids.Place.{Place}
use Rattle.xk_base.specs.declared.ids.ThreadId.{ThreadId}
use Rattle.xk_base.specs.declared.pages.Access.TheVariants.{Store}
use Rattle.xk_base.specs.declared.pages.Width.TheVariants.{Word}
use Rattle.xk_base.specs.Calls.Registers.{reg_at}
use Rattle.xk_base.specs.Numbers.Windows.{page_of}
use Rattle.xk_base.specs.UserMemory.{low_bytes}
use Rattle.syscall_codec.specs.CallNumbers.{create_server_with_address, receive_message, return_scalar1}
use Rattle.ledger_model.specs.Ledger.{Bytes, Console, Contents, Homed, Ledger, Page, PageName, contents_of}
use Rattle.ledger_model.specs.Loans.{bare_contents, bare_page}
use Rattle.ledger_model.proofs.ReachingLemmas.{write_others}
use Rattle.machine_model.specs.Hart.Atomics.{Performed, unless_ended}
use Rattle.machine_model.specs.Hart.Instructions.{Stores, sum_of}
use Rattle.machine_model.specs.Runs.Isolation.{without_bytes}
use Rattle.machine_model.specs.Runs.Matched.{Matched}
use Rattle.machine_model.specs.State.Changes.{Told}
use Rattle.machine_model.specs.State.Machine.{Claim, Machine, Reservation, Thread}
use Rattle.machine_model.specs.State.Order.{actor}
use Rattle.machine_model.specs.State.Threads.{change_thread, thread_id, with_registers}
use Rattle.machine_model.specs.State.Views.{page_reached, stored}
use Rattle.machine_model.specs.Stepping.Interrupts.{is_claim_of}
use Rattle.machine_model.specs.Stepping.Reservations.{reservation_of, reserved_by}
use Rattle.machine_model.specs.Stepping.Step.{acted, counted, ends_handler, ends_thread, executed, reservation_left, step}
use Rattle.machine_model.specs.Stepping.Timer.{timed}
use Rattle.machine_laws.proofs.Threading.ThreadStepLemmas.{performed_turned, step_ledger, step_of_thread, turned_to}
use Rattle.confidentiality_laws.proofs.Carrying.ChangeLemmas.{told_through}
use Rattle.confidentiality_laws.proofs.Carrying.InterruptLemmas.{timed_through}
use Rattle.confidentiality_laws.proofs.Isolating.InstructionLemmas.{executed_alike}
use Rattle.confidentiality_laws.proofs.Isolating.StepLemmas.{actor_alike}
use Rattle.confidentiality_laws.proofs.Ledgers.OtherBytesLemmas.{alike_through, alike_without, machine_through, no_bytes}
use Rattle.noninterference_laws.specs.SecretSum.{Answer, Begin, Create, DifferInSum, Grow, HasOwnPage, HoldSameBut, IsAt, IsLoaded, Line, Name}
use Rattle.noninterference_laws.specs.SecretSum.{NameCreate, NameReceive, NameReturn, Receive, Repeat, Return, RunsProgram, entry, sum_address}
use Rattle.noninterference_laws.specs.SecretSum.{sum_place}
use Rattle.noninterference_laws.proofs.ReachedPageLemmas.{homed_once}
use Rattle.noninterference_laws.proofs.Stepping.ActLemmas.{written_bare}
use Rattle.noninterference_laws.proofs.Unwound.LineLemmas.{does}
use Rattle.noninterference_laws.proofs.Unwound.OthersLemmas.{bare_home, same_page_there}
use Rattle.noninterference_laws.proofs.Unwound.OwnStepLemmas.{acted_line, call_ledger, grown_ledger, performed_line, sum}

-- a page that holds bytes in the one, and is the same but for bytes in the other
bytes_there : (c d : Contents) (bytes : List ℕ) → bare_contents c ≡ bare_contents d → d ≡ Bytes bytes → (own : List ℕ) × (c ≡ Bytes own)
bytes_there Console d bytes e f = absurd (let no : Console ≡ Bytes [] = e ∙ ap bare_contents f in cc)
bytes_there (Bytes own) d bytes e f = (own, refl)

-- the low bytes of what is stored are left out
stored_alike : (x : Machine) (t : Thread) (v u : ℕ) (regs : List ℕ) (pc : ℕ)
    → told_through no_bytes (executed x t (Stores sum_address Word v regs pc)) ≡ told_through no_bytes (executed x t (Stores sum_address Word u regs pc))
unfolding stored
stored_alike x t v u regs pc =
    ap (λ l. record { machine = record (change_thread x.cursor (with_registers regs pc) x) { ledger = l }; told = [] })
    (written_bare o 0 (low_bytes Word v) x.ledger ∙ sym (written_bare o 0 (low_bytes Word u) x.ledger))
  where
    o : Option PageName
    o = page_reached x x.cursor.pid Store sum_address

-- what a line leaves reserved doesn't depend on the sum
ended_alike : (line : Line) (a b : ℕ) (regs : List ℕ) (r : Option ℕ) → unless_ended r (does line a regs) ≡ unless_ended r (does line b regs)
ended_alike Begin a b regs r = refl
ended_alike NameCreate a b regs r = refl
ended_alike Create a b regs r = refl
ended_alike Name a b regs r = refl
ended_alike NameReceive a b regs r = refl
ended_alike Receive a b regs r = refl
ended_alike Grow a b regs r = refl
ended_alike Answer a b regs r = refl
ended_alike NameReturn a b regs r = refl
ended_alike Return a b regs r = refl
ended_alike Repeat a b regs r = refl

-- what a step left, if its thread did not end
abbrev if_neither : Bool → Bool → Option Reservation → Option Reservation
if_neither a b r = if a then None else (if b then None else r)

module _ (pid : Pid) (m n : Machine) (d : DifferInSum pid m n) where
  -- ---- the other runs the program too

  code_other : Homed (page_of pid entry) ≢ Homed (sum_place pid)
  code_other e =
      let same : page_of pid entry ≡ sum_place pid = homed_once (page_of pid entry) (sum_place pid) e in
      absurd (let no : ◌≡◌ {A = ℕ} 16 17 = ap (λ (p : Place). p.vpn.0) same in cc)

  its_bare : (p : Place) → option_map bare_page (n.ledger.home p) ≡ option_map bare_page (m.ledger.home p)
  its_bare p = sym (bare_home m.ledger n.ledger p (ap (λ (x : Machine). x.ledger) d.but_bytes))

  same_code : n.ledger.home (page_of pid entry) ≡ m.ledger.home (page_of pid entry)
  same_code =
      same_page_there (n.ledger.home (page_of pid entry)) (m.ledger.home (page_of pid entry)) (its_bare (page_of pid entry))
      (sym (d.but_sum (Homed (page_of pid entry)) code_other))

  -- the page of its sum
  its_sum : (own : HasOwnPage n.ledger (sum_place pid)) × (own.page.right ≡ d.runs.loaded.sum.page.right)
  its_sum = go (n.ledger.home (sum_place pid)) refl (its_bare (sum_place pid) ∙ ap (option_map bare_page) d.runs.loaded.sum.there)
    where
      of_page : (y : Page) → n.ledger.home (sum_place pid) ≡ Some y → bare_page y ≡ bare_page d.runs.loaded.sum.page
          → (own : HasOwnPage n.ledger (sum_place pid)) × (own.page.right ≡ d.runs.loaded.sum.page.right)
      of_page y q same =
          let holds = bytes_there y.contents d.runs.loaded.sum.page.contents d.runs.loaded.sum.bytes (ap (λ (x : Page). x.contents) same)
          d.runs.loaded.sum.holds in (
            record {
              page = y;
              there = q;
              unlent = ap (λ (x : Page). x.loan) same ∙ d.runs.loaded.sum.unlent;
              bytes = holds.0;
              holds = holds.1;
            },
            ap (λ (x : Page). x.right) same,
          )

      go : (o : Option Page) → n.ledger.home (sum_place pid) ≡ o → option_map bare_page o ≡ Some (bare_page d.runs.loaded.sum.page)
          → (own : HasOwnPage n.ledger (sum_place pid)) × (own.page.right ≡ d.runs.loaded.sum.page.right)
      go None q e = absurd (none-some (bare_page d.runs.loaded.sum.page) e)
      go (Some y) q e = of_page y q (same_Some (bare_page y) (bare_page d.runs.loaded.sum.page) e)

  pub its_loaded : IsLoaded n.ledger pid
  its_loaded = record {
    code = record {
      page = d.runs.loaded.code.page;
      there = same_code ∙ d.runs.loaded.code.there;
      unlent = d.runs.loaded.code.unlent;
      bytes = d.runs.loaded.code.bytes;
      holds = d.runs.loaded.code.holds;
    };
    executable = d.runs.loaded.executable;
    program = d.runs.loaded.program;
    sum = its_sum.0;
    writable = ap (λ right. right.w) its_sum.1 ∙ d.runs.loaded.writable;
  }

  pub its_thread : (tid : ℕ) → n.threads (thread_id pid tid) ≡ m.threads (thread_id pid tid)
  its_thread tid = sym (ap (λ (x : Machine). x.threads (thread_id pid tid)) d.but_bytes)

  pub its_claims : n.claims ≡ m.claims
  its_claims = sym (ap (λ (x : Machine). x.claims) d.but_bytes)

  abbrev pub its_runs : RunsProgram pid n
  its_runs = record {
    loaded = its_loaded;
    line = d.runs.line;
    thread = d.runs.thread;
    there = its_thread 2 ∙ d.runs.there;
    at = d.runs.at;
    handler = d.runs.handler;
    handler_there = its_thread 1 ∙ d.runs.handler_there;
    idle = d.runs.idle;
    alone = λ tid a b. its_thread tid ∙ d.runs.alone tid a b;
    no_claim = λ k. ap (λ (f : ℕ → Option Claim). is_claim_of pid (f k)) its_claims ∙ d.runs.no_claim k;
  }

  -- ---- a step of the process

  abbrev first : ThreadId
  first = thread_id pid 2

  abbrev t : Thread
  t = d.runs.thread

  abbrev mine : Machine
  mine = turned_to first m

  abbrev its : Machine
  its = turned_to first n

  module _ (h : Matched m) (k : Matched n) (turn : actor m ≡ Some first) where
    e : machine_through no_bytes m ≡ machine_through no_bytes n
    e = alike_through m n d.but_bytes

    turn_too : actor n ≡ Some first
    turn_too = sym (actor_alike m n e) ∙ turn

    my_sum : ℕ
    my_sum = sum pid m h d.runs

    its_own_sum : ℕ
    its_own_sum = sum pid n k its_runs

    -- ---- but for bytes

    executed_too : (line : Line)
        → told_through no_bytes (executed mine t (does line my_sum t.regs)) ≡ told_through no_bytes (executed its t (does line its_own_sum t.regs))
    executed_too Begin = executed_alike mine its (ap (turned_to first) e) t (does Begin my_sum t.regs)
    executed_too NameCreate = executed_alike mine its (ap (turned_to first) e) t (does NameCreate my_sum t.regs)
    executed_too Create = executed_alike mine its (ap (turned_to first) e) t (does Create my_sum t.regs)
    executed_too Name = executed_alike mine its (ap (turned_to first) e) t (does Name my_sum t.regs)
    executed_too NameReceive = executed_alike mine its (ap (turned_to first) e) t (does NameReceive my_sum t.regs)
    executed_too Receive = executed_alike mine its (ap (turned_to first) e) t (does Receive my_sum t.regs)
    executed_too Grow =
        executed_alike mine its (ap (turned_to first) e) t (does Grow my_sum t.regs)
        ∙ stored_alike its t (sum_of my_sum (reg_at t.regs 14)) (sum_of its_own_sum (reg_at t.regs 14)) t.regs _
    executed_too Answer = executed_alike mine its (ap (turned_to first) e) t (does Answer my_sum t.regs)
    executed_too NameReturn = executed_alike mine its (ap (turned_to first) e) t (does NameReturn my_sum t.regs)
    executed_too Return = executed_alike mine its (ap (turned_to first) e) t (does Return my_sum t.regs)
    executed_too Repeat = executed_alike mine its (ap (turned_to first) e) t (does Repeat my_sum t.regs)

    acted_too : told_through no_bytes (acted mine t) ≡ told_through no_bytes (acted its t)
    unfolding my_sum its_own_sum
    acted_too =
        ap (told_through no_bytes) (acted_line pid m h d.runs)
        ∙ (executed_too d.runs.line ∙ sym (ap (told_through no_bytes) (acted_line pid n k its_runs)))

    abbrev leaves : Option ℕ → Option Reservation
    leaves r = if_neither (ends_thread first t.pc) (ends_handler first t.pc) (reservation_of first r)

    left_by : (p : Performed) → Option Reservation
    left_by p = leaves p.reserved

    left_too : reservation_left mine t ≡ reservation_left its t
    unfolding my_sum its_own_sum left_by
    left_too =
        ap left_by (sym (performed_turned m first t) ∙ performed_line pid m h d.runs)
        ∙ (ap leaves (ended_alike d.runs.line my_sum its_own_sum t.regs (reserved_by first m.reserved))
        ∙ (ap (λ (x : Machine). leaves (unless_ended (reserved_by first x.reserved) (does d.runs.line its_own_sum t.regs))) e
        ∙ ap left_by (sym (performed_line pid n k its_runs) ∙ performed_turned n first t)))

    counts_too : told_through no_bytes (counted mine (Some t) (acted mine t)) ≡ told_through no_bytes (counted its (Some t) (acted its t))
    counts_too = λ i. record (acted_too i) { machine = record (acted_too i).machine { steps = (e i).steps + 1; reserved = left_too i } }

    timed_too : told_through no_bytes (timed (counted mine (Some t) (acted mine t))) ≡ told_through no_bytes (timed (counted its (Some t) (acted its t)))
    timed_too =
        timed_through no_bytes (counted mine (Some t) (acted mine t))
        ∙ (ap timed counts_too ∙ sym (timed_through no_bytes (counted its (Some t) (acted its t))))

    pub own_but_bytes : without_bytes (step m).machine ≡ without_bytes (step n).machine
    own_but_bytes =
        alike_without (step m).machine (step n).machine
        (ap (machine_through no_bytes) (step_of_thread m first t turn d.runs.there)
        ∙ (ap (λ (told : Told). told.machine) timed_too ∙ sym (ap (machine_through no_bytes) (step_of_thread n first t turn_too its_runs.there))))

    -- ---- but for the sum

    abbrev Holds : Ledger → Ledger → Type 0
    Holds one other = HoldSameBut (sum_place pid) one other

    called_hold : (number : ℕ) → reg_at t.regs 10 ≡ number → (one other : Ledger) → one ≡ m.ledger → other ≡ n.ledger → Holds one other
    called_hold number is one other p q page apart =
        ap (λ l. contents_of l page) p ∙ (d.but_sum page apart ∙ sym (ap (λ l. contents_of l page) q))

    line_hold : (line : Line) → IsAt line t
        → Holds (executed mine t (does line my_sum t.regs)).machine.ledger (executed its t (does line its_own_sum t.regs)).machine.ledger
    unfolding stored my_sum its_own_sum
    line_hold Begin at = d.but_sum
    line_hold NameCreate at = d.but_sum
    line_hold Create at =
        called_hold create_server_with_address at.call _ _ (call_ledger pid m h d.runs create_server_with_address at.call refl)
        (call_ledger pid n k its_runs create_server_with_address at.call refl)
    line_hold Name at = d.but_sum
    line_hold NameReceive at = d.but_sum
    line_hold Receive at =
        called_hold receive_message at.call _ _ (call_ledger pid m h d.runs receive_message at.call refl)
        (call_ledger pid n k its_runs receive_message at.call refl)
    line_hold Grow at = λ page apart.
        ap (λ l. contents_of l page) (grown_ledger pid m h d.runs (sum_of my_sum (reg_at t.regs 14)))
        ∙ (write_others (Homed (sum_place pid)) page 0 (low_bytes Word (sum_of my_sum (reg_at t.regs 14))) m.ledger apart
        ∙ (d.but_sum page apart
        ∙ (sym (write_others (Homed (sum_place pid)) page 0 (low_bytes Word (sum_of its_own_sum (reg_at t.regs 14))) n.ledger apart)
        ∙ sym (ap (λ l. contents_of l page) (grown_ledger pid n k its_runs (sum_of its_own_sum (reg_at t.regs 14)))))))
    line_hold Answer at = d.but_sum
    line_hold NameReturn at = d.but_sum
    line_hold Return at =
        called_hold return_scalar1 at.call _ _ (call_ledger pid m h d.runs return_scalar1 at.call refl)
        (call_ledger pid n k its_runs return_scalar1 at.call refl)
    line_hold Repeat at = d.but_sum

    pub own_but_sum : Holds (step m).machine.ledger (step n).machine.ledger
    unfolding my_sum its_own_sum
    own_but_sum page apart =
        ap (λ l. contents_of l page) (step_ledger m first t turn d.runs.there ∙ ap (λ (told : Told). told.machine.ledger) (acted_line pid m h d.runs))
        ∙ (line_hold d.runs.line d.runs.at page apart
        ∙ sym (ap (λ l. contents_of l page) (step_ledger n first t turn_too its_runs.there
        ∙ ap (λ (told : Told). told.machine.ledger) (acted_line pid n k its_runs))))
