-- What other processes do, and what comes by no process, leaves a process that runs the program at its line, or answers it there.
use Rattle.std.proofs.Common.{◌≡◌, ◌≢◌, ℕ, ◌≤◌, Bool, true, false, List, get_or, length, Option, Some, None, refl, sym, ap, ◌∙◌, arith, subst}
use Rattle.std.specs.Prelude.{◌==◌}
use Rattle.std.specs.List.{Contains}
use Rattle.std.specs.Option.{option_map, option_map_or}
use Rattle.std.proofs.lemmas.Bool.{eq-eqb, eqb-true, false≢true}
use Rattle.std.proofs.lemmas.List.Elements.{Contains-append_right}
use Rattle.std.proofs.lemmas.Option.{none-some, same_Some}
use Rattle.xk_base.specs.declared.ids.Number.{Number}
use Rattle.xk_base.specs.declared.ids.Pid.{Pid}
use Rattle.xk_base.specs.declared.ids.Place.{Place}
use Rattle.xk_base.specs.declared.ids.Serial.{Serial}
use Rattle.xk_base.specs.declared.ids.ThreadId.{ThreadId}
use Rattle.xk_base.specs.declared.messages.Message.{Message}
use Rattle.xk_base.specs.declared.pages.Access.TheVariants.{Load}
use Rattle.xk_base.specs.Numbers.Windows.{page_of}
use Rattle.xk_base.specs.Calls.Registers.{with_arguments}
use Rattle.xk_base.specs.Tables.Circle.{same_thread}
use Rattle.ledger_model.specs.Ledger.{Homed, Ledger, Page}
use Rattle.ledger_model.specs.Loans.{bare, bare_page}
use Rattle.machine_model.specs.Messaging.Receivers.{is_receiving}
use Rattle.machine_model.specs.Runs.Matched.{Matched, is_waiting_for}
use Rattle.machine_model.specs.State.Machine.{Claim, Idle, Joining, Machine, Ready, Receiving, Server, Thread, ThreadState, Waiting}
use Rattle.machine_model.specs.State.Servers.{messages_of}
use Rattle.machine_model.specs.State.Threads.{thread_id, with_answer}
use Rattle.machine_model.specs.Stepping.Interrupts.{is_claim_of}
use Rattle.machine_model.proofs.Matching.MatchedLemmas.{senders_wait}
use Rattle.noninterference_laws.specs.Causes.{LeavesAll}
use Rattle.noninterference_laws.specs.Fates.{Answered, Comes, Doing, HomeFate, IsAnswered, LoanEnds, LoanPasses, MadeCall, PageStays, Receives}
use Rattle.noninterference_laws.specs.Fates.{Returned, ThreadFate, ThreadStays, Unserved}
use Rattle.noninterference_laws.specs.Integrity.{LeavesOthers}
use Rattle.noninterference_laws.specs.KeptOthers.{KeepsOthers}
use Rattle.noninterference_laws.specs.SecretSum.{Answer, Begin, Create, Grow, Name, NameCreate, NameReceive, NameReturn, Receive, Repeat}
use Rattle.noninterference_laws.specs.SecretSum.{HasCall, HasOwnPage, IsAt, IsLoaded, Line, Return, RunsProgram, can_be, entry, is_growing}
use Rattle.noninterference_laws.specs.SecretSum.{sum_place}
use Rattle.noninterference_laws.proofs.OtherLemmas.{same_pid}
use Rattle.noninterference_laws.proofs.Unwound.LineLemmas.{reached}
use Rattle.noninterference_laws.proofs.Unwound.RegisterLemmas.{Fits, reply_fits}

-- ---- states

never_waits : (line : Line) (s : ThreadState) (number : Number) → can_be line s ≡ true → is_waiting_for number s ≡ false
never_waits line Ready number e = refl
never_waits line (Receiving serial) number e = refl
never_waits line (Waiting other) number e = absurd (false≢true e)
never_waits line (Joining tid) number e = refl
never_waits line Idle number e = refl

grows_where : (line : Line) (s : ThreadState) (serial : Serial) → can_be line s ≡ true → is_receiving serial s ≡ true → is_growing line ≡ true
grows_where line Ready serial e r = absurd (false≢true r)
grows_where line (Receiving other) serial e r = e
grows_where line (Waiting other) serial e r = absurd (false≢true r)
grows_where line (Joining tid) serial e r = absurd (false≢true r)
grows_where line Idle serial e r = absurd (false≢true r)

-- where the sum grows no call is made
calls_nothing : (line : Line) (regs : List ℕ) → is_growing line ≡ true → HasCall line regs
calls_nothing Begin regs e = tt
calls_nothing NameCreate regs e = tt
calls_nothing Create regs e = absurd (false≢true e)
calls_nothing Name regs e = tt
calls_nothing NameReceive regs e = tt
calls_nothing Receive regs e = absurd (false≢true e)
calls_nothing Grow regs e = tt
calls_nothing Answer regs e = tt
calls_nothing NameReturn regs e = tt
calls_nothing Return regs e = absurd (false≢true e)
calls_nothing Repeat regs e = tt

pub fits : (line : Line) (t : Thread) → IsAt line t → Fits line t.regs
fits line t at = record { enough = at.enough; zero = at.zero; address = at.address; call = at.call }

-- a thread that is answered with four words or more where the sum grows
replied_at : (line : Line) (t : Thread) (words : List ℕ) → IsAt line t → is_growing line ≡ true → 4 ≤ length words
    → IsAt line (with_answer (Some words) t)
replied_at line t words at grows four =
    let now : Fits line (with_arguments words t.regs) =
    reply_fits line words t.regs four (fits line t at) (calls_nothing line (with_arguments words t.regs) grows) in
    record { pc = at.pc; enough = now.enough; zero = now.zero; address = now.address; call = now.call; state = refl }

-- ---- pages

-- a page that isn't on loan stays
pub fate_stays : (by : Pid) (before after : Ledger) (place : Place) → HasOwnPage before place → HomeFate by before after place
    → after.home place ≡ before.home place
fate_stays by before after place own (PageStays same) = same
fate_stays by before after place own (LoanEnds page loan there lent held later) =
    let one : own.page ≡ page = same_Some own.page page (sym own.there ∙ there) in
    absurd (none-some loan (sym own.unlent ∙ (ap (λ (x : Page). x.loan) one ∙ lent)))
fate_stays by before after place own (LoanPasses page loan to there lent held later) =
    let one : own.page ≡ page = same_Some own.page page (sym own.there ∙ there) in
    absurd (none-some loan (sym own.unlent ∙ (ap (λ (x : Page). x.loan) one ∙ lent)))
fate_stays by before after place own (Comes from page none mine there later) = absurd (none-some own.page (sym none ∙ own.there))

pub own_at : (before after : Ledger) (place : Place) → after.home place ≡ before.home place → HasOwnPage before place → HasOwnPage after place
own_at before after place same own =
    record { page = own.page; there = same ∙ own.there; unlent = own.unlent; bytes = own.bytes; holds = own.holds }

pub loaded_at : (pid : Pid) (before after : Ledger) → after.home (page_of pid entry) ≡ before.home (page_of pid entry)
    → after.home (sum_place pid) ≡ before.home (sum_place pid) → IsLoaded before pid → IsLoaded after pid
unfolding own_at
loaded_at pid before after code sum loaded = record {
  code = own_at before after (page_of pid entry) code loaded.code;
  executable = loaded.executable;
  program = loaded.program;
  sum = own_at before after (sum_place pid) sum loaded.sum;
  writable = loaded.writable;
}

-- a page whose right, loan and contents are as before
pub same_page_there : (o p : Option Page) → option_map bare_page o ≡ option_map bare_page p
    → option_map (λ (x : Page). x.contents) o ≡ option_map (λ (x : Page). x.contents) p → o ≡ p
same_page_there None None e f = refl
same_page_there None (Some y) e f = absurd (none-some (bare_page y) e)
same_page_there (Some x) None e f = absurd (none-some (bare_page x) (sym e))
same_page_there (Some x) (Some y) e f =
    let same : bare_page x ≡ bare_page y = same_Some (bare_page x) (bare_page y) e in
    let holds : x.contents ≡ y.contents = same_Some x.contents y.contents f in
    λ i. Some (record { right = (same i).right; contents = holds i; loan = (same i).loan })

pub bare_home : (l k : Ledger) (p : Place) → bare l ≡ bare k → option_map bare_page (l.home p) ≡ option_map bare_page (k.home p)
unfolding bare
bare_home l k p e = ap (λ (x : Ledger). x.home p) e

-- ---- claims

-- a thread of the process isn't one that an interrupt starts
pub not_started : (pid : Pid) (o : Option Claim) → is_claim_of pid o ≡ false → (id : ThreadId) → id.pid ≡ pid
    → option_map_or (λ (claim : Claim). same_thread id (thread_id claim.pid 1)) o false ≡ false
not_started pid None none id own = refl
not_started pid (Some claim) none id own = go (id.pid.0 == claim.pid.0) refl
  where
    go : (b : Bool) → (id.pid.0 == claim.pid.0) ≡ b → same_thread id (thread_id claim.pid 1) ≡ false
    go false e = rw e refl
    go true e =
        let same : claim.pid ≡ pid = same_pid claim.pid pid (sym (eqb-true id.pid.0 claim.pid.0 e) ∙ ap (λ (p : Pid). p.0) own) in
        absurd (false≢true (sym none ∙ eq-eqb claim.pid.0 pid.0 (ap (λ (p : Pid). p.0) same)))

module _ (pid : Pid) (m : Machine) (h : Matched m) (runs : RunsProgram pid m) where
  abbrev first : ThreadId
  first = thread_id pid 2

  abbrev interrupt : ThreadId
  interrupt = thread_id pid 1

  abbrev tid_of : ℕ → ThreadId
  tid_of tid = thread_id pid tid

  -- ---- messages

  -- a thread that never waits sent no message
  pub sent_none : (id : ThreadId) (t : Thread) → m.threads id ≡ Some t → ((number : Number) → is_waiting_for number t.state ≡ false)
      → (message : Message) (n : ℕ) (server : Server) → m.servers n ≡ Some server → Contains (messages_of server) message
      → message.sender ≡ Some id → ⊥
  sent_none id t there never message n server live at sender =
      let found : Message = get_or (messages_of server) at.0 message in
      false≢true
      (sym (never found.number)
      ∙ (sym (ap (λ (o : Option Thread). option_map_or (λ (x : Thread). is_waiting_for found.number x.state) o false) there)
      ∙ senders_wait m h n server live at.0 message at.1 id (ap (λ (x : Message). x.sender) at.2 ∙ sender)))

  module _ (by : Pid) (call : Option MadeCall) where
    abbrev doing : Doing
    doing = record { pid = by; call = call; before = m }

    -- so it is answered only where it receives, with four words or more
    answered_where : (servers : ℕ → Option Server) (id : ThreadId) (t : Thread) → m.threads id ≡ Some t
        → ((number : Number) → is_waiting_for number t.state ≡ false) → (words : List ℕ) → IsAnswered doing servers id words
        → (serial : Serial) × (is_receiving serial t.state ≡ true) × (4 ≤ length words)
    answered_where servers id t there never words (Receives made message serial is brought receives told) = (
      serial,
      sym (ap (λ (o : Option Thread). option_map_or (λ (x : Thread). is_receiving serial x.state) o false) there) ∙ receives,
      subst (λ (w : List ℕ). 4 ≤ length w) (sym told) (omega arith),
    )
    answered_where servers id t there never words (Returned made message is named held sender tells) =
        absurd (sent_none id t there never message held.serial held.server held.live
        (Contains-append_right held.server.queued held.server.held message held.there) sender)
    answered_where servers id t there never words (Unserved message at sender gone told) =
        absurd (sent_none id t there never message at.serial at.server at.live at.there sender)

    first_never : (number : Number) → is_waiting_for number runs.thread.state ≡ false
    first_never number = never_waits runs.line runs.thread.state number runs.at.state

    idle_never : (number : Number) → is_waiting_for number runs.handler.state ≡ false
    idle_never number = ap (is_waiting_for number) runs.idle

    -- the first thread stays, or is answered at its line
    first_kept : (servers : ℕ → Option Server) (later : Option Thread) → ThreadFate doing servers first later
        → (t : Thread) × (later ≡ Some t) × IsAt runs.line t
    first_kept servers later (ThreadStays same) = (runs.thread, same ∙ runs.there, runs.at)
    first_kept servers later (Answered thread words there why is) =
        let one : runs.thread ≡ thread = same_Some runs.thread thread (sym runs.there ∙ there) in
        let receives = answered_where servers first runs.thread runs.there first_never words why in (
          with_answer (Some words) runs.thread,
          is ∙ ap (λ (t : Thread). Some (with_answer (Some words) t)) (sym one),
          replied_at runs.line runs.thread words runs.at
              (grows_where runs.line runs.thread.state receives.0 runs.at.state receives.1) receives.2,
        )

    handler_kept : (servers : ℕ → Option Server) (later : Option Thread) → ThreadFate doing servers interrupt later → later ≡ Some runs.handler
    handler_kept servers later (ThreadStays same) = same ∙ runs.handler_there
    handler_kept servers later (Answered thread words there why is) =
        let receives = answered_where servers interrupt runs.handler runs.handler_there idle_never words why in
        absurd (false≢true (sym (ap (is_receiving receives.0) runs.idle) ∙ receives.1))

    none_kept : (servers : ℕ → Option Server) (tid : ℕ) → m.threads (tid_of tid) ≡ None → (later : Option Thread)
        → ThreadFate doing servers (tid_of tid) later → later ≡ None
    none_kept servers tid none later (ThreadStays same) = same ∙ none
    none_kept servers tid none later (Answered thread words there why is) = absurd (none-some thread (sym none ∙ there))

    module _ (after : Machine) (other : pid ≢ by) (keeps : KeepsOthers doing after) where
      fate : (tid : ℕ) → ThreadFate doing after.servers (tid_of tid) (after.threads (tid_of tid))
      fate tid = keeps.threads (tid_of tid) other (not_started pid _ (runs.no_claim _) (tid_of tid) refl)

      claimed_kept : (k : ℕ) (o : Option Claim) → after.claims k ≡ o → is_claim_of pid o ≡ false
      claimed_kept k None e = refl
      claimed_kept k (Some claim) e = go (claim.pid.0 == pid.0) refl
        where
          go : (b : Bool) → (claim.pid.0 == pid.0) ≡ b → b ≡ false
          go false f = refl
          go true f =
              let own : claim.pid ≡ pid = same_pid claim.pid pid (eqb-true claim.pid.0 pid.0 f) in
              let before : m.claims k ≡ Some claim = (keeps.claims k claim (λ is. other (sym own ∙ is))).0 e in
              sym f ∙ (sym (ap (is_claim_of pid) before) ∙ runs.no_claim k)

      stays : (place : Place) → place.pid ≡ pid → HasOwnPage m.ledger place → after.ledger.home place ≡ m.ledger.home place
      stays place mine own = fate_stays by m.ledger after.ledger place own (keeps.homes place (λ is. other (sym mine ∙ is)))

      pub fates_keep : RunsProgram pid after
      fates_keep =
          let kept = first_kept after.servers (after.threads first) (fate 2) in
          record {
            loaded =
                loaded_at pid m.ledger after.ledger (stays (page_of pid entry) refl runs.loaded.code)
                (stays (sum_place pid) refl runs.loaded.sum) runs.loaded;
            line = runs.line;
            thread = kept.0;
            there = kept.1;
            at = kept.2;
            handler = runs.handler;
            handler_there = handler_kept after.servers (after.threads interrupt) (fate 1);
            idle = runs.idle;
            alone = λ tid a b. none_kept after.servers tid (runs.alone tid a b) (after.threads (tid_of tid)) (fate tid);
            no_claim = λ k. claimed_kept k (after.claims k) refl;
          }

  -- ---- what leaves its threads

  -- its pages, threads and claims are as before
  pub left_runs : (after : Machine) → after.ledger.home (page_of pid entry) ≡ m.ledger.home (page_of pid entry)
      → after.ledger.home (sum_place pid) ≡ m.ledger.home (sum_place pid) → ((tid : ℕ) → after.threads (tid_of tid) ≡ m.threads (tid_of tid))
      → after.claims ≡ m.claims → RunsProgram pid after
  left_runs after code sum threads claims = record {
    loaded = loaded_at pid m.ledger after.ledger code sum runs.loaded;
    line = runs.line;
    thread = runs.thread;
    there = threads 2 ∙ runs.there;
    at = runs.at;
    handler = runs.handler;
    handler_there = threads 1 ∙ runs.handler_there;
    idle = runs.idle;
    alone = λ tid a b. threads tid ∙ runs.alone tid a b;
    no_claim = λ k. ap (λ (f : ℕ → Option Claim). is_claim_of pid (f k)) claims ∙ runs.no_claim k;
  }

  -- an instruction of another
  module _ (by : Pid) (after : Machine) (other : pid ≢ by) (leaves : LeavesOthers by m after) where
    unwritten : (place : Place) → place.pid ≡ pid → HasOwnPage m.ledger place → after.ledger.home place ≡ m.ledger.home place
    unwritten place mine own =
        same_page_there (after.ledger.home place) (m.ledger.home place) (bare_home after.ledger m.ledger place leaves.pages)
        (leaves.bytes (Homed place) (record {
          place = place;
          other = λ is. other (sym mine ∙ is);
          reached = reached m pid runs.loaded place own Load refl;
        }))

    pub instruction_leaves_runs : RunsProgram pid after
    instruction_leaves_runs =
        left_runs after (unwritten (page_of pid entry) refl runs.loaded.code) (unwritten (sum_place pid) refl runs.loaded.sum)
        (λ tid. leaves.threads (tid_of tid) other (not_started pid _ (runs.no_claim _) (tid_of tid) refl)) leaves.claims

  -- what comes by no process, and starts no thread of it
  module _ (started : ThreadId → Bool) (after : Machine) (not_its : (tid : ℕ) → started (tid_of tid) ≡ false) (leaves : LeavesAll started m after) where
    pub all_left_runs : RunsProgram pid after
    all_left_runs =
        left_runs after (ap (λ (l : Ledger). l.home (page_of pid entry)) leaves.ledger) (ap (λ (l : Ledger). l.home (sum_place pid)) leaves.ledger)
        (λ tid. leaves.threads (tid_of tid) (not_its tid)) leaves.claims
