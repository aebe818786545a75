-- What changes pages keeps every loan, so that the servers stay sound over the memory.
use Rattle.xk_ports.specs.declared.store.SwapStore.{Ghosts as SwapStore}
use Rattle.std.proofs.Common.{◌≡◌, ℕ, ◌≤◌, ◌<◌, if◌then◌else◌, Bool, true, false, List, Option, Some, None, refl, sym, ap, subst, ◌∙◌, arith, nat_le}
use Rattle.std.specs.Prelude.{Result, Ok, Err}
use Rattle.std.proofs.lemmas.Bool.{and_parts, leb-true}
use Rattle.xk_base.specs.Numbers.Windows.{in_window}
use Rattle.xk_base.specs.Tables.Circle.{is_pid}
use Rattle.xk_base.specs.declared.errors.XousError.{XousError}
use Rattle.xk_base.specs.declared.errors.XousError.TheVariants.{BadAddress, MemoryInUse, ShareViolation}
use Rattle.xk_base.specs.declared.ids.Pid.{Pid}
use Rattle.xk_base.specs.declared.ids.Place.{Place}
use Rattle.xk_base.specs.declared.ids.Vpn.{Vpn}
use Rattle.xk_base.specs.declared.pages.Right.{Right}
use Rattle.xk_base.specs.declared.windows.Window.{Window}
use Rattle.xk_base.specs.declared.windows.Window.TheVariants.{Map, Message}
use Rattle.ledger_model.specs.Lawful.{IsLawful}
use Rattle.ledger_model.specs.Ledger.{Ledger, Orphan}
use Rattle.ledger_model.specs.Loans.{Loans, loans}
use Rattle.ledger_model.specs.Places.{in_run, is_place_in}
use Rattle.ledger_model.specs.Reach.{is_free}
use Rattle.ledger_model.specs.RunTests.{any_free, any_on_loan, console_mapped}
use Rattle.ledger_model.proofs.ReachingLemmas.{is_free-all}
use Rattle.ledger_model.proofs.Stepping.MakingLemmas.{make_console_loans, make_loans}
use Rattle.ledger_model.proofs.Stepping.RemovingLemmas.{reduce_loans, remove_loans}
use Rattle.xk_parts.specs.Sound.{AreServersSound}
use Rattle.machine_laws.proofs.Calling.RunRefusalLemmas.{can_remove}
use Rattle.msg_queue.specs.Seats.{Seat}
use Rattle.server_table.specs.declared.table.Servers.{Servers}
use Rattle.vm_memory.specs.Memory.{ledger, processes}
use Rattle.vm_memory.specs.Pages.Making.{after_console, after_make, console_answer, make_answer, page_place, run_place}
use Rattle.vm_memory.specs.Pages.Removing.{after_reduce, after_remove, clear_answer, remove_answer}
use Rattle.vm_memory.specs.Sound.{IsSound as IsMemorySound}
use Rattle.vm_memory.specs.declared.memory.Memory.{Memory}
use Rattle.vm_memory.proofs.Changing.AnsweringLemmas.{can_answered, can_console}

-- SERVERS stay sound over a memory for as many processes that has the same loans
pub servers_over : (t : Servers) (q : List Seat) (n m : ℕ) (a b : Loans) → m ≡ n → b ≡ a → AreServersSound n a t q → AreServersSound m b t q
servers_over t q n m a b e f h = subst (λ x. AreServersSound x b t q) (sym e) (subst (λ x. AreServersSound n x t q) (sym f) h)

-- ---- pages go, or have less right

removed_free : (free loan : Bool) (done : Unit {0})
    → ◌≡◌ {A = Result (Unit {0}) XousError} (Ok done) (if free then Err BadAddress else (if loan then Err ShareViolation else Ok tt)) → loan ≡ false
removed_free true loan done e = cc
removed_free false true done e = cc
removed_free false false done e = refl

cleared_free : (loan : Bool) (done : Unit {0}) → ◌≡◌ {A = Result (Unit {0}) XousError} (Ok done) (if loan then Err ShareViolation else Ok tt) → loan ≡ false
cleared_free true done e = cc
cleared_free false done e = refl

module _ (procs : ℕ) (r : Result (Unit {0}) XousError) (first : Place) (n : ℕ) (old new : Ledger) where
  pub remove_keeps : r ≡ remove_answer procs old first n → new ≡ after_remove r first n old → loans new ≡ loans old
  remove_keeps a e = ap loans e ∙ go r a
    where
      go : (r : Result (Unit {0}) XousError) → r ≡ remove_answer procs old first n → loans (after_remove r first n old) ≡ loans old
      go (Ok done) a = remove_loans (in_run first n) old (can_remove procs old first n (removed_free (any_free procs old first n) (any_on_loan procs old first n) done a))
      go (Err error) a = refl

  pub clear_keeps : r ≡ clear_answer procs old first n → new ≡ after_remove r first n old → loans new ≡ loans old
  clear_keeps a e = ap loans e ∙ go r a
    where
      go : (r : Result (Unit {0}) XousError) → r ≡ clear_answer procs old first n → loans (after_remove r first n old) ≡ loans old
      go (Ok done) a = remove_loans (in_run first n) old (can_remove procs old first n (cleared_free (any_on_loan procs old first n) done a))
      go (Err error) a = refl

pub reduce_keeps : (r : Result (Unit {0}) XousError) (first : Place) (n : ℕ) (right : Right) (old new : Ledger)
    → new ≡ after_reduce r first n right old → loans new ≡ loans old
reduce_keeps r first n right old new e = ap loans e ∙ go r
  where
    go : (r : Result (Unit {0}) XousError) → loans (after_reduce r first n right old) ≡ loans old
    go (Ok done) = reduce_loans (in_run first n) right old
    go (Err error) = refl

-- ---- pages are made

pub make_keeps : (procs capacity : ℕ) (pid : Pid) (window : Window) (at : Option Vpn) (n : ℕ) (right : Right) (r : Result Vpn XousError) (old new : Ledger)
    → is_pid procs pid.0 ≡ true → r ≡ make_answer (record { procs = procs; capacity = capacity }) old pid window at n → new ≡ after_make pid n right r old → loans new ≡ loans old
make_keeps procs capacity pid window at n right r old new process a e = ap loans e ∙ go r a
  where
    go : (r : Result Vpn XousError) → r ≡ make_answer (record { procs = procs; capacity = capacity }) old pid window at n → loans (after_make pid n right r old) ≡ loans old
    go (Ok first) a = make_loans procs capacity (page_place pid first) n right old (can_answered procs capacity old pid window at n first process (sym a))
    go (Err error) a = refl

console_free : (mapped : Bool) (r : Result Vpn XousError) (first : Vpn) → Ok first ≡ (if mapped then Err MemoryInUse else r) → (mapped ≡ false) × (r ≡ Ok first)
console_free true r first e = cc
console_free false r first e = (refl, sym e)

pub make_console_keeps : {W : Type 0} (S : SwapStore W) (mem : Memory W) → IsMemorySound S.slot_count mem → (pid : Pid) (at : Option Vpn) (w : Bool)
    (r : Result Vpn XousError) (new : Ledger) → is_pid (processes mem) pid.0 ≡ true → r ≡ console_answer (processes mem) (ledger S.held mem) pid at
    → new ≡ after_console pid w r (ledger S.held mem) → loans new ≡ loans (ledger S.held mem)
make_console_keeps S mem sound pid at w r new process a e = ap loans e ∙ go r a
  where
    go : (r : Result Vpn XousError) → r ≡ console_answer (processes mem) (ledger S.held mem) pid at → loans (after_console pid w r (ledger S.held mem)) ≡ loans (ledger S.held mem)
    go (Ok first) a =
        let found = console_free (console_mapped (processes mem) (ledger S.held mem)) (run_place (processes mem) (ledger S.held mem) pid Map at 1) first a in
        make_console_loans (processes mem) (page_place pid first) w (ledger S.held mem) (can_console S mem sound pid at first process found.0 found.1)
    go (Err error) a = refl

-- ---- holders and orphans lie in the Message window

message_page : (procs : ℕ) (p : Place) → is_place_in procs Message p ≡ true → 262144 ≤ p.vpn.0
message_page procs p e =
    let within = and_parts (is_pid procs p.pid.0) (in_window Message p.vpn.0) e in
    leb-true 262144 p.vpn.0 (and_parts (nat_le 262144 p.vpn.0) (nat_le p.vpn.0 266239) within.1).0

-- below it, a place without a page is free
pub free_below_messages : (procs capacity : ℕ) (l : Ledger) (p : Place) → IsLawful procs capacity l → p.vpn.0 < 262144 → l.home p ≡ None → is_free procs l p ≡ true
free_below_messages procs capacity l p lawful low none =
    is_free-all procs l p none (no_orphan (l.orphan p) refl)
    (λ q loan e same.
    let high : 262144 ≤ loan.holder.vpn.0 = message_page procs loan.holder (lawful.holder_lies q loan e) in
    let there : loan.holder.vpn.0 ≡ p.vpn.0 = ap (λ (x : Place). x.vpn.0) same in
    absurd (omega (arith, high, there, low)))
  where
    no_orphan : (o : Option Orphan) → l.orphan p ≡ o → o ≡ None
    no_orphan None e = refl
    no_orphan (Some orphan) e = let high : 262144 ≤ p.vpn.0 = message_page procs p (lawful.orphan_lies p orphan e) in absurd (omega (arith, high, low))
