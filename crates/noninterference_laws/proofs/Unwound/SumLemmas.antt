-- "They differ in the sum alone" is an unwinding of the process that runs the program, so nobody is told the sum.
use Rattle.std.proofs.Common.{◌≡◌, ◌≢◌, ℕ, Bool, true, false, inl, inr, List, Option, Some, None, refl, sym, ap, ◌∙◌, arith, subst}
use Rattle.std.specs.Prelude.{◌==◌, IsTrue, if◌then◌else◌}
use Rattle.std.specs.Option.{option_map}
use Rattle.std.proofs.lemmas.Bool.{eq-eqb, eqb-true, false≢true}
use Rattle.std.proofs.lemmas.Option.{none-some}
use Rattle.xk_base.specs.declared.events.Event.{Event}
use Rattle.xk_base.specs.declared.ids.Pid.{Pid}
use Rattle.xk_base.specs.declared.ids.ThreadId.{ThreadId}
use Rattle.xk_base.specs.declared.pages.Width.TheVariants.{Word}
use Rattle.xk_base.specs.Calls.Registers.{arguments_of, reg_at}
use Rattle.xk_base.specs.Tables.Circle.{is_pid}
use Rattle.xk_base.specs.UserMemory.{low_bytes}
use Rattle.syscall_codec.specs.CallNumbers.{create_server_with_address, receive_message, return_scalar1}
use Rattle.ledger_model.specs.Ledger.{Homed, Orphaned, Page, PageLoan, PageName, loan_at, loan_of}
use Rattle.ledger_model.specs.Loans.{bare, bare_page}
use Rattle.ledger_model.proofs.Pages.BareLemmas.{bare-lawful}
use Rattle.ledger_model.proofs.ReachingLemmas.{write_others}
use Rattle.ledger_model.proofs.Stepping.WritingLemmas.{bare-loans, write_bare}
use Rattle.machine_model.specs.Ending.Ends.{dead_process, death, forgotten}
use Rattle.machine_model.specs.Ending.Closing.{closed, is_message_at, senders_held_gone, senders_queued_gone, servers_closed}
use Rattle.machine_model.specs.Messaging.LoanSets.{is_lent_by}
use Rattle.machine_model.specs.Runs.Isolation.{IsSameFor, without_bytes}
use Rattle.machine_model.specs.Runs.Matched.{Matched, is_living}
use Rattle.machine_model.specs.Runs.Moments.{ByIrq, ByKill, ByPick, ByStep, ByTurn, Cause, caused}
use Rattle.machine_model.specs.State.Changes.{settled}
use Rattle.machine_model.specs.State.Machine.{Idle, Machine, Process, Thread}
use Rattle.machine_model.specs.State.Order.{actor, turn}
use Rattle.machine_model.specs.State.Servers.{is_server_of}
use Rattle.machine_model.specs.State.Start.{HasThread}
use Rattle.machine_model.specs.State.Threads.{first_thread, thread_id}
use Rattle.machine_model.specs.Stepping.Acts.{does_instruction}
use Rattle.machine_model.specs.Stepping.Events.{killed, killed_if, picked, raised}
use Rattle.machine_model.specs.Stepping.Interrupts.{is_claim_of}
use Rattle.machine_model.specs.Stepping.Reservations.{unreserved}
use Rattle.machine_model.specs.Stepping.Step.{Recorded, step}
use Rattle.machine_model.proofs.StepLemmas.{no_step}
use Rattle.machine_laws.specs.History.{history}
use Rattle.machine_laws.proofs.Calling.PageChangeLemmas.{matched_on, stands_now}
use Rattle.machine_laws.proofs.Threading.ThreadAnswerLemmas.{IsReadyThread, ready_thread, thread_living}
use Rattle.machine_laws.proofs.Threading.ThreadStepLemmas.{actor_ready}
use Rattle.confidentiality_laws.proofs.Isolating.RunLemmas.{cause_alike}
use Rattle.confidentiality_laws.proofs.Isolating.StepLemmas.{actor_alike, step_alike}
use Rattle.confidentiality_laws.proofs.Ledgers.OtherBytesLemmas.{alike_through, alike_without, machine_through, no_bytes}
use Rattle.confidentiality_laws.proofs.Spreading.CauseLemmas.{irq_ledger}
use Rattle.noninterference_laws.specs.Acting.{ActsAlike, DoesAlike, HandsAlike, act_of}
use Rattle.noninterference_laws.specs.Causes.{StepKeepsOthers}
use Rattle.noninterference_laws.specs.Handing.{HoldAlike, act_over, handing_at, handings, left_over}
use Rattle.noninterference_laws.specs.Inside.{Group, IsSeenByOther, SameButInside}
use Rattle.noninterference_laws.specs.SecretSum.{Answer, Begin, BeginsProgram, Create, DifferInSum, DifferInSumAlone, Grow, IsAt, Line, Name}
use Rattle.noninterference_laws.specs.SecretSum.{NameCreate, NameReceive, NameReturn, Receive, Repeat, Return, RunsProgram, entry, only_process}
use Rattle.noninterference_laws.specs.SecretSum.{sum_place, with_sum}
use Rattle.noninterference_laws.specs.TwoInsides.{TellTheSameOutside}
use Rattle.noninterference_laws.specs.Unwinding.{IsUnwinding}
use Rattle.noninterference_laws.proofs.OtherLemmas.{apart_pid, same_pid}
use Rattle.noninterference_laws.proofs.Seeing.InsideLemmas.{inside_there}
use Rattle.noninterference_laws.proofs.Seeing.UnseenLemmas.{pages_enough}
use Rattle.noninterference_laws.proofs.StepLemmas.{all_keep}
use Rattle.noninterference_laws.proofs.Unwound.GroupLemmas.{unwound_histories}
use Rattle.noninterference_laws.proofs.Unwound.OthersLemmas.{all_left_runs, bare_home, fates_keep, instruction_leaves_runs, not_started}
use Rattle.noninterference_laws.proofs.Unwound.OwnStepLemmas.{act_at, act_is, first_acts, own_step_runs}
use Rattle.noninterference_laws.proofs.Unwound.PairOthersLemmas.{kill_hold, left_hold, step_hold}
use Rattle.noninterference_laws.proofs.Unwound.PairStepLemmas.{its_runs, own_but_bytes, own_but_sum}
use Rattle.noninterference_laws.proofs.Unwound.RegisterLemmas.{number_called}

-- ---- deaths

died : (q : Pid) (x : Machine) → is_living (settled (death q x)).machine q ≡ false
unfolding settled death forgotten senders_held_gone senders_queued_gone servers_closed closed
died q x = ap (λ b. (if b then dead_process else x.process q.0).alive) (eq-eqb q.0 q.0 refl)

killed_dies : (q : Pid) (x : Machine) → is_living (killed q x).machine q ≡ false
unfolding killed
killed_dies q x = go (x.process q.0).alive refl
  where
    go : (b : Bool) → (x.process q.0).alive ≡ b → is_living (killed_if b q (unreserved x)).machine q ≡ false
    go false e = e
    go true e = died q (unreserved x)

-- a kill of the dead leaves all but a reservation
killed_dead : (q : Pid) (x : Machine) → is_living x q ≡ false → (killed q x).machine ≡ unreserved x
unfolding killed
killed_dead q x dead = ap (λ b. (killed_if b q (unreserved x)).machine) dead

-- ---- matched

-- a state that is the same but for bytes is matched
some_there : (o p : Option Page) → option_map bare_page o ≡ option_map bare_page p → (page : Page) → o ≡ Some page → (old : Page) × (p ≡ Some old)
some_there o None e page q = absurd (none-some (bare_page page) (sym e ∙ ap (option_map bare_page) q))
some_there o (Some old) e page q = (old, refl)

matched_too : (m n : Machine) → Matched m → without_bytes m ≡ without_bytes n → Matched n
matched_too m n h e =
    subst Matched (λ i. record (e i) { ledger = n.ledger })
    (matched_on n.ledger m (record {
      lawful = bare-lawful m.processes m.capacity m.ledger n.ledger same h.body.ledger.lawful;
      same = bare-loans m.ledger n.ledger same;
      stand = λ p page q. let old = some_there (n.ledger.home p) (m.ledger.home p) (bare_home n.ledger m.ledger p same) page q in stands_now m h p old.0 old.1;
    }) h)
  where
    same : bare n.ledger ≡ bare m.ledger
    same = sym (ap (λ (x : Machine). x.ledger) e)

module _ (pid : Pid) where
  abbrev group : Group
  group = only_process pid

  abbrev first : ThreadId
  first = thread_id pid 2

  in_group : (q : Pid) → group q.0 ≡ true → q ≡ pid
  in_group q own = same_pid q pid (eqb-true q.0 pid.0 own)

  module _ (m n : Machine) (h : Matched m) (same : SameButInside group m n) where
    -- ---- acts

    -- a thread that is there is of a living process
    lives_at : (who : ThreadId) → actor m ≡ Some who → who.pid ≡ pid → is_living m pid ≡ true
    lives_at who turn own =
        let r : IsReadyThread m who = ready_thread m who (actor_ready m who turn) in
        subst (λ p. is_living m p ≡ true) own (thread_living m h who r.thread r.there)

    module _ (d : DifferInSum pid m n) where
      k : Matched n
      k = matched_too m n h d.but_bytes

      abbrev regs : List ℕ
      regs = d.runs.thread.regs

      -- a call of the program hands over nothing
      calls_over : (who : ThreadId) (page : PageName) (number : ℕ) → reg_at regs 10 ≡ number
          → handing_at number handings (record m { cursor = who }) (arguments_of regs) page ≡ false
          → handing_at (reg_at (arguments_of regs) 0) handings (record m { cursor = who }) (arguments_of regs) page ≡ true → ⊥
      calls_over who page number is none over =
          false≢true
          (sym none ∙ (sym (ap (λ x. handing_at x handings (record m { cursor = who }) (arguments_of regs) page)
          (number_called regs d.runs.at.enough ∙ is)) ∙ over))

      hands_nothing : (who : ThreadId) (page : PageName) (line : Line) → IsAt line d.runs.thread → act_over m who (act_at line regs) page ≡ true → ⊥
      hands_nothing who page Begin at over = false≢true over
      hands_nothing who page NameCreate at over = false≢true over
      hands_nothing who page Create at over = calls_over who page create_server_with_address at.call refl over
      hands_nothing who page Name at over = false≢true over
      hands_nothing who page NameReceive at over = false≢true over
      hands_nothing who page Receive at over = calls_over who page receive_message at.call refl over
      hands_nothing who page Grow at over = false≢true over
      hands_nothing who page Answer at over = false≢true over
      hands_nothing who page NameReturn at over = false≢true over
      hands_nothing who page Return at over = calls_over who page return_scalar1 at.call refl over
      hands_nothing who page Repeat at over = false≢true over

      step_acts : (who : ThreadId) → actor m ≡ Some who → group who.pid.0 ≡ true → DoesAlike group who m n
      step_acts who turn own =
          let one : who ≡ first = first_acts pid m h d.runs who turn (in_group who.pid own) in
          pages_enough.steps group who (act_at d.runs.line regs) m n h same turn own (record {
            one = ap (act_of m) one ∙ act_is pid m h d.runs;
            other = ap (act_of n) one ∙ act_is pid n k (its_runs pid m n d);
            pages = λ page over. absurd (hands_nothing who page d.runs.line d.runs.at over);
          })

      -- what is on loan isn't the page of the sum
      lent_alike : HoldAlike (left_over m pid) m n
      lent_alike (Homed p) over = d.but_sum (Homed p) apart
        where
          apart : Homed p ≢ Homed (sum_place pid)
          apart e =
              let unlent : loan_at m.ledger (sum_place pid) ≡ None = ap loan_of d.runs.loaded.sum.there ∙ d.runs.loaded.sum.unlent in
              let at : loan_at m.ledger p ≡ None = ap (λ name. place_loan name) e ∙ unlent in
              absurd (false≢true (sym (ap (is_lent_by (is_message_at (λ x. is_server_of pid (m.servers x)) m)) at) ∙ over))
            where
              place_loan : PageName → Option PageLoan
              place_loan (Homed q) = loan_at m.ledger q
              place_loan (Orphaned q) = None
      lent_alike (Orphaned p) over = absurd (false≢true over)

    kill_acts : (q : Pid) → group q.0 ≡ true → DifferInSumAlone pid m n → HandsAlike group (ByKill q) m n
    kill_acts q own related = go (is_living m q) refl
      where
        one : q ≡ pid
        one = in_group q own

        still_seen : (page : PageName) → IsSeenByOther group (unreserved m) page → IsSeenByOther group m page
        still_seen page seen = record { place = seen.place; other = seen.other; reached = seen.reached }

        go : (b : Bool) → is_living m q ≡ b → HandsAlike group (ByKill q) m n
        go false dead = λ page seen. inl (still_seen page (subst (λ x. IsSeenByOther group x page) (killed_dead q m dead) seen))
        go true lives =
            pages_enough.kills group q m n h same
            (subst (λ p. HoldAlike (left_over m p) m n) (sym one) (lent_alike (related (subst (λ p. is_living m p ≡ true) one lives))))

    acts_alike : (cause : Cause) → DifferInSumAlone pid m n → ActsAlike group cause m n
    acts_alike ByStep related = λ who turn own. step_acts (related (lives_at who turn (in_group who.pid own))) who turn own
    acts_alike (ByPick who) related = tt
    acts_alike (ByIrq k) related = tt
    acts_alike (ByKill q) related = λ own. kill_acts q own related
    acts_alike ByTurn related = tt

    -- ---- kept

    -- what another process does, by its step
    module _ (who : ThreadId) (turn : actor m ≡ Some who) (other : pid ≢ who.pid) where
      keeps : StepKeepsOthers who m (step m).machine
      keeps = all_keep ByStep m h who turn

      other_runs : RunsProgram pid m → RunsProgram pid (step m).machine
      other_runs runs = go (does_instruction m who) refl
        where
          go : (b : Bool) → does_instruction m who ≡ b → RunsProgram pid (step m).machine
          go true e = instruction_leaves_runs pid m h runs who.pid (step m).machine other (keeps.instruction e)
          go false e = fates_keep pid m h runs who.pid _ (step m).machine other (keeps.other e)

      other_process : (step m).machine.process pid.0 ≡ m.process pid.0
      other_process = go (does_instruction m who) refl
        where
          go : (b : Bool) → does_instruction m who ≡ b → (step m).machine.process pid.0 ≡ m.process pid.0
          go true e = ap (λ (f : ℕ → Process). f pid.0) (keeps.instruction e).process
          go false e = (keeps.other e).process pid other

      same_for : without_bytes m ≡ without_bytes n → IsSameFor who.pid m n
      same_for e = record {
        but_bytes = e;
        loaded = λ place page own reached. same.seen page (record {
          place = place;
          other = apart_pid place.pid pid (λ is. other (sym is ∙ own));
          reached = reached;
        });
      }

      other_differ : DifferInSum pid m n → DifferInSum pid (step m).machine (step n).machine
      other_differ d =
          let after : RunsProgram pid (step m).machine = other_runs d.runs in
          record {
            runs = after;
            but_bytes =
                alike_without (step m).machine (step n).machine
                (ap (λ (r : Recorded). r.machine) (step_alike m n who turn (same_for d.but_bytes)));
            but_sum =
                step_hold (sum_place pid) m n h d.but_bytes d.but_sum d.runs.loaded.sum.page d.runs.loaded.sum.there who (same_for d.but_bytes) turn
                after.loaded.sum.page after.loaded.sum.there;
          }

    other_pid : (q : Pid) → (q.0 == pid.0) ≡ false → pid ≢ q
    other_pid q e is = false≢true (sym e ∙ eq-eqb q.0 pid.0 (ap (λ (p : Pid). p.0) (sym is)))

    -- ---- the dead stay dead

    module _ (dead : is_living m pid ≡ false) where
      step_dead : (o : Option ThreadId) → actor m ≡ o → is_living (step m).machine pid ≡ false
      step_dead None q = ap (λ (r : Recorded). is_living r.machine pid) (no_step m q) ∙ dead
      step_dead (Some who) q = go (who.pid.0 == pid.0) refl
        where
          go : (b : Bool) → (who.pid.0 == pid.0) ≡ b → is_living (step m).machine pid ≡ false
          go true e = absurd (false≢true (sym dead ∙ lives_at who q (in_group who.pid e)))
          go false e = ap (λ (p : Process). p.alive) (other_process who q (other_pid who.pid e)) ∙ dead

      kill_dead : (q : Pid) (b : Bool) → (q.0 == pid.0) ≡ b → is_living (killed q m).machine pid ≡ false
      kill_dead q true e =
          subst (λ p. is_living (killed p m).machine pid ≡ false) (sym (in_group q e)) (killed_dies pid m)
      kill_dead q false e = ap (λ (p : Process). p.alive) ((all_keep (ByKill q) m h).process pid (other_pid q e)) ∙ dead

      stays_dead : (cause : Cause) → is_living (caused cause m) pid ≡ false
      stays_dead ByStep = step_dead (actor m) refl
      stays_dead (ByPick who) = ap (λ (f : ℕ → Process). (f pid.0).alive) (all_keep (ByPick who) m h).process ∙ dead
      stays_dead (ByIrq k) = ap (λ (f : ℕ → Process). (f pid.0).alive) (all_keep (ByIrq k) m h).process ∙ dead
      stays_dead (ByKill q) = kill_dead q (q.0 == pid.0) refl
      stays_dead ByTurn = ap (λ (f : ℕ → Process). (f pid.0).alive) (all_keep ByTurn m h).process ∙ dead

    -- ---- while it lives

    module _ (d : DifferInSum pid m n) where
      e : machine_through no_bytes m ≡ machine_through no_bytes n
      e = alike_through m n d.but_bytes

      step_differ : (o : Option ThreadId) → actor m ≡ o → DifferInSum pid (step m).machine (step n).machine
      step_differ None q =
          subst (λ x. DifferInSum pid x (step n).machine) (sym (ap (λ (r : Recorded). r.machine) (no_step m q)))
          (subst (λ x. DifferInSum pid m x) (sym (ap (λ (r : Recorded). r.machine) (no_step n (sym (actor_alike m n e) ∙ q)))) d)
      step_differ (Some who) q = go (who.pid.0 == pid.0) refl
        where
          go : (b : Bool) → (who.pid.0 == pid.0) ≡ b → DifferInSum pid (step m).machine (step n).machine
          go true own =
              let one : who ≡ first = first_acts pid m h d.runs who q (in_group who.pid own) in
              let turn_is : actor m ≡ Some first = q ∙ ap (λ x. Some x) one in
              record {
                runs = own_step_runs pid m h d.runs turn_is;
                but_bytes = own_but_bytes pid m n d h (k d) turn_is;
                but_sum = own_but_sum pid m n d h (k d) turn_is;
              }
          go false f = other_differ who q (other_pid who.pid f) d

      -- but for bytes, by another cause than a step
      cause_bytes : (cause : Cause) → (cause ≡ ByStep → ⊥) → without_bytes (caused cause m) ≡ without_bytes (caused cause n)
      cause_bytes cause apart =
          alike_without (caused cause m) (caused cause n)
          (ap (λ (r : Recorded). r.machine) (cause_alike m n e cause (λ is. absurd (apart is))))

      -- what leaves the pages and the threads of the process
      left_differ : (cause : Cause) → (cause ≡ ByStep → ⊥) → RunsProgram pid (caused cause m) → (caused cause m).ledger ≡ m.ledger
          → (caused cause n).ledger ≡ n.ledger → DifferInSum pid (caused cause m) (caused cause n)
      left_differ cause apart runs p q = record {
        runs = runs;
        but_bytes = cause_bytes cause apart;
        but_sum =
            left_hold (sum_place pid) m n h d.but_bytes d.but_sum d.runs.loaded.sum.page d.runs.loaded.sum.there (caused cause m).ledger
            (caused cause n).ledger p q;
      }

      kill_differ : (q : Pid) → is_living (killed q m).machine pid ≡ true → (b : Bool) → (q.0 == pid.0) ≡ b
          → DifferInSum pid (killed q m).machine (killed q n).machine
      kill_differ q lives true f =
          absurd (false≢true (sym (subst (λ p. is_living (killed p m).machine pid ≡ false) (sym (in_group q f)) (killed_dies pid m)) ∙ lives))
      kill_differ q lives false f =
          let after : RunsProgram pid (killed q m).machine =
          fates_keep pid m h d.runs q None (killed q m).machine (other_pid q f) (all_keep (ByKill q) m h) in
          record {
            runs = after;
            but_bytes = cause_bytes (ByKill q) (λ is. cc);
            but_sum =
                kill_hold (sum_place pid) m n h d.but_bytes d.but_sum d.runs.loaded.sum.page d.runs.loaded.sum.there q
                after.loaded.sum.page after.loaded.sum.there;
          }

      cause_differ : (cause : Cause) → is_living (caused cause m) pid ≡ true → DifferInSum pid (caused cause m) (caused cause n)
      unfolding picked turn
      cause_differ ByStep lives = step_differ (actor m) refl
      cause_differ (ByPick who) lives =
          left_differ (ByPick who) (λ is. cc)
          (all_left_runs pid m h d.runs (λ id. false) (picked who m).machine (λ tid. refl) (all_keep (ByPick who) m h)) refl refl
      cause_differ (ByIrq k) lives =
          left_differ (ByIrq k) (λ is. cc)
          (all_left_runs pid m h d.runs _ (raised k m).machine
          (λ tid. not_started pid (m.claims k) (d.runs.no_claim k) (thread_id pid tid) refl) (all_keep (ByIrq k) m h))
          (irq_ledger k m) (irq_ledger k n)
      cause_differ (ByKill q) lives = kill_differ q lives (q.0 == pid.0) refl
      cause_differ ByTurn lives =
          left_differ ByTurn (λ is. cc) (all_left_runs pid m h d.runs (λ id. false) (turn m) (λ tid. refl) (all_keep ByTurn m h)) refl refl

    kept : (cause : Cause) → DifferInSumAlone pid m n → DifferInSumAlone pid (caused cause m) (caused cause n)
    kept cause related lives = go (is_living m pid) refl
      where
        go : (b : Bool) → is_living m pid ≡ b → DifferInSum pid (caused cause m) (caused cause n)
        go true lived = cause_differ (related lived) cause lives
        go false dead = absurd (false≢true (sym (stays_dead dead cause) ∙ lives))

  pub sum_unwinds : IsUnwinding group (DifferInSumAlone pid)
  sum_unwinds = record {
    acts = λ cause m n h same related. acts_alike m n h same cause related;
    kept = λ cause m n h same related. kept m n h same cause related;
  }

  -- ---- how it starts

  pub begins_program : (m : Machine) → BeginsProgram pid m → RunsProgram pid m
  begins_program m b = record {
    loaded = b.loaded;
    line = Begin;
    thread = first_thread entry;
    there = b.begins;
    at = record { pc = refl; enough = omega arith; zero = refl; address = tt; call = tt; state = refl };
    handler = handler.thread;
    handler_there = handler.there;
    idle = handler.about;
    alone = λ tid one two. none tid one two (m.threads (thread_id pid tid)) refl;
    no_claim = λ k. ap (is_claim_of pid) (b.start.claims k);
  }
    where
      known : IsTrue (is_pid m.processes pid.0)
      known = (b.start.no_other first (first_thread entry) b.begins).0

      handler : HasThread m (thread_id pid 1) Idle
      handler = b.start.handler pid known

      none : (tid : ℕ) → tid ≢ 1 → tid ≢ 2 → (o : Option Thread) → m.threads (thread_id pid tid) ≡ o → m.threads (thread_id pid tid) ≡ None
      none tid one two None e = e
      none tid one two (Some t) e = elim ((b.start.no_other (thread_id pid tid) t e).1) [ inl is ↦ absurd (one is) | inr is ↦ absurd (two is) ]

  -- ---- another sum

  module _ (m : Machine) (sum : ℕ) (runs : RunsProgram pid m) where
    abbrev its : Machine
    its = with_sum pid sum m

    pub sums_differ : DifferInSum pid m its
    sums_differ = record {
      runs = runs;
      but_bytes = ap (λ l. record m { ledger = l }) (sym (write_bare (Homed (sum_place pid)) 0 (low_bytes Word sum) m.ledger));
      but_sum = λ page apart. sym (write_others (Homed (sum_place pid)) page 0 (low_bytes Word sum) m.ledger apart);
    }

    inside : SameButInside group m its
    inside =
        inside_there.bytes group m (sum_place pid) runs.loaded.sum.page 0 (low_bytes Word sum) (eq-eqb pid.0 pid.0 refl) runs.loaded.sum.there
        runs.loaded.sum.unlent

    pub sums_tell_alike : (events : List Event) (limit : ℕ) → Matched m
        → TellTheSameOutside group (history events limit m) (history events limit its)
    sums_tell_alike events limit h =
        unwound_histories group (DifferInSumAlone pid) events limit m its sum_unwinds h inside (λ lives. sums_differ)
