-- Another ledger with the same loans, and other lengths of heaps: the machine that has them stays matched.
use Rattle.std.proofs.Common.{◌≡◌, ℕ, ◌+◌, ◌/◌, ◌<◌, ◌≤◌, Bool, true, false, List, Option, Some, None, refl, sym, ap, ◌∙◌, arith, subst}
use Rattle.std.specs.Prelude.{◌%◌, if◌then◌else◌, IsTrue, IsFalse, nat_eq}
use Rattle.std.specs.Option.{option_map}
use Rattle.std.proofs.lemmas.Bool.{false≢true, eqb-true}
use Rattle.std.proofs.lemmas.Option.{none-some}
use Rattle.xk_base.specs.declared.ids.Pid.{Pid}
use Rattle.xk_base.specs.declared.ids.Place.{Place}
use Rattle.xk_base.specs.declared.limits.TheConstants.{PAGE_SIZE}
use Rattle.xk_base.specs.declared.windows.Window.TheVariants.{Heap}
use Rattle.xk_base.specs.Tables.Counting.{put_at}
use Rattle.xk_base.specs.Numbers.Windows.{first_page, in_window}
use Rattle.ledger_model.specs.Lawful.{IsLawful}
use Rattle.ledger_model.specs.Ledger.{Ledger, Page, Orphan, loan_at}
use Rattle.ledger_model.specs.Loans.{Loans, loans, loan_of_orphan, orphan_loan_at}
use Rattle.machine_model.specs.State.Changes.{Served}
use Rattle.machine_model.specs.State.Machine.{Machine, Process}
use Rattle.machine_model.specs.Runs.Matched.{Matched, IsLedgerMatched, AreLoansMatched, AreHeapsMatched, AreProcessesMatched, is_living}
use Rattle.machine_model.specs.Calling.MemoryCalls.{heap_limit, with_heap, with_ledger}
use Rattle.machine_model.specs.State.Order.{ready_at}
use Rattle.machine_laws.proofs.Calling.AnsweredCallLemmas.{Keeps}
use Rattle.machine_laws.proofs.Calling.ThreadCallLemmas.{answered_keeps}

-- a page may have its home there, where heaps have these lengths: its process lives, and in the Heap window it lies below the heap's end
pub record MayStandBelow (m : Machine) (heaps : ℕ → ℕ) (p : Place) : Type 0 where
  pub lives : IsTrue (is_living m p.pid)
  pub below : IsTrue (in_window Heap p.vpn.0) → p.vpn.0 < first_page Heap + heaps p.pid.0 / PAGE_SIZE

abbrev pub heaps_of : Machine → ℕ → ℕ
heaps_of m q = (m.process q).heap

-- .. and where they are as they are
abbrev pub MayStand : Machine → Place → Type 0
MayStand m p = MayStandBelow m (heaps_of m) p

-- A ledger and lengths of heaps that may stand in the place of the machine's: a lawful ledger, with the same loans, and its homes
-- where pages may stand; heaps of whole pages up to the limit, and none of the dead.
pub record MayHave (m : Machine) (ledger : Ledger) (heaps : ℕ → ℕ) : Type 0 where
  pub lawful : IsLawful m.processes m.capacity ledger
  pub same : loans ledger ≡ loans m.ledger
  pub stand : (p : Place) (page : Page) → ledger.home p ≡ Some page → MayStandBelow m heaps p
  pub whole : (pid : Pid) → heaps pid.0 % PAGE_SIZE ≡ 0
  pub within : (pid : Pid) → heaps pid.0 ≤ heap_limit
  pub none : (pid : Pid) → IsFalse (is_living m pid) → heaps pid.0 ≡ 0

abbrev pub with_pages : Ledger → (ℕ → ℕ) → Machine → Machine
with_pages ledger heaps m = record m { ledger = ledger; process = λ q. record (m.process q) { heap = heaps q } }

-- ---- loans and orphans at one place

loan_same : (a b : Ledger) → loans a ≡ loans b → (p : Place) → loan_at a p ≡ loan_at b p
unfolding loans
loan_same a b e p = ap (λ (l : Loans). l.home p) e

orphan_same : (a b : Ledger) → loans a ≡ loans b → (p : Place) → orphan_loan_at a p ≡ orphan_loan_at b p
unfolding loans
orphan_same a b e p = ap (λ (l : Loans). l.orphan p) e

orphan_of : (a b : Option Orphan) → option_map loan_of_orphan a ≡ option_map loan_of_orphan b → (o : Orphan) → a ≡ Some o
    → (q : Orphan) × (b ≡ Some q)
orphan_of None b e o q = absurd (none-some o q)
orphan_of (Some x) None e o q = absurd (none-some (loan_of_orphan x) (sym e))
orphan_of (Some x) (Some y) e o q = (y, refl)

-- ---- the machine with these

module _ (ledger : Ledger) (heaps : ℕ → ℕ) (m : Machine) (may : MayHave m ledger heaps) (h : Matched m) where
  abbrev next : Machine
  next = with_pages ledger heaps m

  ledger_paged : IsLedgerMatched m.processes m.capacity next.process ledger
  ledger_paged = record {
    lawful = may.lawful;
    homes_live = λ p page e. (may.stand p page e).lives;
    holders_live = λ p loan e. h.body.ledger.holders_live p loan (sym (loan_same ledger m.ledger may.same p) ∙ e);
    orphans_live = λ p orphan e.
        let there = orphan_of (ledger.orphan p) (m.ledger.orphan p) (orphan_same ledger m.ledger may.same p) orphan e in
        h.body.ledger.orphans_live p there.0 there.1;
  }

  heaps_paged : AreHeapsMatched next.process ledger
  heaps_paged = record { whole = may.whole; within = may.within; below = λ p page e. (may.stand p page e).below }

  processes_paged : AreProcessesMatched m.processes next.process
  processes_paged = record {
    few = h.body.processes.few;
    pids = h.body.processes.pids;
    apart = h.body.processes.apart;
    connections = h.body.processes.connections;
    no_connection = h.body.processes.no_connection;
    no_heap = may.none;
  }

  pub matched_paged : Matched (with_pages ledger heaps m)
  matched_paged = record {
    body = record {
      ledger = ledger_paged;
      loans = subst (λ all. AreLoansMatched all m.servers) (sym may.same) h.body.loans;
      senders = h.body.senders;
      receivers = h.body.receivers;
      joiners = h.body.joiners;
      threads = record {
        handler = h.body.threads.handler;
        above = h.body.threads.above;
        idle = h.body.threads.idle;
        pcs = h.body.threads.pcs;
      };
      heaps = heaps_paged;
      ids = record { known = h.body.ids.known; living = h.body.ids.living };
      pages = λ p page e. (may.stand p page e).lives;
      processes = processes_paged;
      servers = record {
        living = h.body.servers.living;
        sids = h.body.servers.sids;
        numbers = h.body.servers.numbers;
        few = h.body.servers.few;
        slots = h.body.servers.slots;
      };
    };
    rest = record {
      handlers = h.rest.handlers;
      claims = record {
        living = h.rest.claims.living;
        numbers = h.rest.claims.numbers;
        pending_claimed = h.rest.claims.pending_claimed;
      };
      above = record { numbers = h.rest.above.numbers; serials = h.rest.above.serials; connections = h.rest.above.connections };
      stepped = h.rest.stepped;
      timer = h.rest.timer;
    };
  }

-- ---- the ledger alone

-- pages of a matched machine stand where they may
pub stands_now : (m : Machine) → Matched m → (p : Place) (page : Page) → m.ledger.home p ≡ Some page → MayStand m p
stands_now m h p page e = record { lives = h.body.ledger.homes_live p page e; below = h.body.heaps.below p page e }

-- A ledger that may stand in the place of the machine's, with heaps as they are.
pub record IsLikeLedger (m : Machine) (ledger : Ledger) : Type 0 where
  pub lawful : IsLawful m.processes m.capacity ledger
  pub same : loans ledger ≡ loans m.ledger
  pub stand : (p : Place) (page : Page) → ledger.home p ≡ Some page → MayStand m p

abbrev pub on_ledger : Ledger → Machine → Machine
on_ledger ledger m = record m { ledger = ledger }

pub matched_on : (ledger : Ledger) (m : Machine) → IsLikeLedger m ledger → Matched m → Matched (on_ledger ledger m)
matched_on ledger m like h =
    matched_paged ledger (heaps_of m) m (record {
      lawful = like.lawful;
      same = like.same;
      stand = like.stand;
      whole = h.body.heaps.whole;
      within = h.body.heaps.within;
      none = h.body.processes.no_heap;
    }) h

-- ---- one process's heap, and the ledger

-- that length may be the one of the process's heap
pub record MayHeap (m : Machine) (pid : Pid) (heap : ℕ) : Type 0 where
  pub whole : heap % PAGE_SIZE ≡ 0
  pub within : heap ≤ heap_limit
  pub lives : is_living m pid ≡ true

abbrev pub heap_at : Machine → Pid → ℕ → ℕ → ℕ
heap_at m pid heap q = if nat_eq q pid.0 then heap else (m.process q).heap

pub one_heap : (m : Machine) (ledger : Ledger) (pid : Pid) (heap : ℕ) → Matched m → MayHeap m pid heap
    → IsLawful m.processes m.capacity ledger → loans ledger ≡ loans m.ledger
    → ((p : Place) (page : Page) → ledger.home p ≡ Some page → MayStandBelow m (heap_at m pid heap) p)
    → MayHave m ledger (heap_at m pid heap)
one_heap m ledger pid heap h may lawful same stand = record {
  lawful = lawful;
  same = same;
  stand = stand;
  whole = λ q. whole_at q (nat_eq q.0 pid.0);
  within = λ q. within_at q (nat_eq q.0 pid.0);
  none = λ q e. none_at q e (nat_eq q.0 pid.0) refl;
}
  where
    whole_at : (q : Pid) (b : Bool) → (if b then heap else (m.process q.0).heap) % PAGE_SIZE ≡ 0
    whole_at q true = may.whole
    whole_at q false = h.body.heaps.whole q

    within_at : (q : Pid) (b : Bool) → (if b then heap else (m.process q.0).heap) ≤ heap_limit
    within_at q true = may.within
    within_at q false = h.body.heaps.within q

    none_at : (q : Pid) → is_living m q ≡ false → (b : Bool) → nat_eq q.0 pid.0 ≡ b → (if b then heap else (m.process q.0).heap) ≡ 0
    none_at q e true s = absurd (false≢true (sym e ∙ (ap (λ k. (m.process k).alive) (eqb-true q.0 pid.0 s) ∙ may.lives)))
    none_at q e false s = h.body.processes.no_heap q e

-- where a page may stand then: in that process below the heap, in any other as before
pub stands_at : (m : Machine) (pid : Pid) (heap : ℕ) (p : Place) → is_living m p.pid ≡ true
    → (p.pid.0 ≡ pid.0 → in_window Heap p.vpn.0 ≡ true → p.vpn.0 < first_page Heap + heap / PAGE_SIZE)
    → (nat_eq p.pid.0 pid.0 ≡ false → in_window Heap p.vpn.0 ≡ true → p.vpn.0 < first_page Heap + (m.process p.pid.0).heap / PAGE_SIZE)
    → MayStandBelow m (heap_at m pid heap) p
stands_at m pid heap p lives own other = record { lives = lives; below = λ inside. go inside (nat_eq p.pid.0 pid.0) refl }
  where
    go : in_window Heap p.vpn.0 ≡ true → (b : Bool) → nat_eq p.pid.0 pid.0 ≡ b
        → p.vpn.0 < first_page Heap + (if b then heap else (m.process p.pid.0).heap) / PAGE_SIZE
    go inside true e = own (eqb-true p.pid.0 pid.0 e) inside
    go inside false e = other e inside

-- the process with that heap put in its place
put_heap : (m : Machine) (pid : Pid) (heap : ℕ) (q : ℕ)
    → record (m.process q) { heap = heap_at m pid heap q } ≡ put_at nat_eq m.process pid.0 (record (m.process pid.0) { heap = heap }) q
put_heap m pid heap q = go (nat_eq q pid.0) refl
  where
    go : (b : Bool) → nat_eq q pid.0 ≡ b → record (m.process q) { heap = if b then heap else (m.process q).heap }
        ≡ (if b then record (m.process pid.0) { heap = heap } else m.process q)
    go true s = ap (λ k. record (m.process k) { heap = heap }) (eqb-true q pid.0 s)
    go false s = refl

-- ---- served

-- a ledger that is like the machine's, and an answer to the caller
pub ledger_served : (m : Machine) (ledger : Ledger) (words : List ℕ) → Matched m → ready_at m m.cursor ≡ true → IsLikeLedger m ledger
    → Keeps m (Served (with_ledger m ledger words))
ledger_served m ledger words h r like = answered_keeps m (on_ledger ledger m) words (matched_on ledger m like h) r (omega arith)

-- a change of the caller's heap and the ledger, and an answer to the caller
pub heap_served : (m : Machine) (heap : ℕ) (ledger : Ledger) (words : List ℕ) → Matched m → ready_at m m.cursor ≡ true
    → MayHave m ledger (heap_at m m.cursor.pid heap) → Keeps m (Served (with_heap m heap ledger words))
heap_served m heap ledger words h r may =
    let changed : Machine = record m { ledger = ledger; process = put_at nat_eq m.process m.cursor.pid.0 (record (m.process m.cursor.pid.0) { heap = heap }) } in
    let matched : Matched changed =
    subst (λ (process : ℕ → Process). Matched (record m { ledger = ledger; process = process })) (λ i q. put_heap m m.cursor.pid heap q i)
    (matched_paged ledger (heap_at m m.cursor.pid heap) m may h) in
    answered_keeps m changed words matched r (omega arith)
