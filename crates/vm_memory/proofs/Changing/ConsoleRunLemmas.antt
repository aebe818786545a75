-- Where the console is looked for: in the Map windows of the processes.
use Rattle.xk_ports.specs.declared.store.SwapStore.{Ghosts as SwapStore}
use Rattle.xk_base.specs.Tables.Circle.{is_pid}
use Rattle.std.proofs.Common.{◌≡◌, ℕ, ◌+◌, ◌-◌, ◌<◌, ◌≤◌, true, false, not, Option, Some, None, refl, ap, subst, ◌∙◌, inl, inr, arith}
use Rattle.std.specs.Prelude.{is_some, nat_le, nat_lt}
use Rattle.std.specs.List.{list_any}
use Rattle.std.specs.Option.{option_and_then}
use Rattle.std.proofs.lemmas.Bool.{and_from, and_parts, both_ways, false_from_ne_true, leb-true, le-leb, ltb-true}
use Rattle.xk_base.specs.Numbers.Windows.{first_page, in_window, last_page}
use Rattle.xk_base.specs.declared.ids.Pid.{Pid}
use Rattle.xk_base.specs.declared.ids.Place.{Place}
use Rattle.xk_base.specs.declared.windows.Window.TheVariants.{Map}
use Rattle.std.proofs.lemmas.Bool.Decides.{nat_tests}
use Rattle.phys_pages.specs.Owners.{infos}
use Rattle.ledger_model.specs.Conditions.{is_console}
use Rattle.ledger_model.specs.LeastRun.{window_pages, window_place}
use Rattle.ledger_model.specs.Ledger.{Ledger, Page, Contents, Console, Bytes, has_bytes}
use Rattle.ledger_model.specs.Places.{first_place, is_place_in, is_user_place, place_after, run}
use Rattle.ledger_model.specs.RunTests.{console_mapped}
use Rattle.ledger_model.proofs.LedgerLemmas.{cases_Option}
use Rattle.ledger_model.proofs.Loans.NumberingLemmas.{first_place-none, first_place-None, is_place_in-user}
use Rattle.ledger_model.proofs.PlaceLemmas.{place_from}
use Rattle.sv32_space.specs.declared.sides.Side.TheVariants.{Own, LentOut, LentIn, MutOut, MutIn}
use Rattle.sv32_space.specs.declared.sides.Entry.{Entry}
use Rattle.sv32_space.specs.declared.sides.Entry.TheVariants.{Free, At, OnConsole}
use Rattle.sv32_space.specs.Agreement.{Infos}
use Rattle.sv32_space.specs.EntryLedger.{SeatBytes, ledger_of, page_of_entry}
use Rattle.sv32_space.specs.Tables.{has_console as entry_has_console, is_console_entry}
use Rattle.sv32_space.specs.SpelledEntries.{entries}
use Rattle.sv32_space.specs.Tie.{Held, bytes_at}
use Rattle.vm_memory.specs.declared.memory.Memory.{Memory}
use Rattle.vm_memory.specs.Memory.{blank_ledger, ledger, processes}
use Rattle.page_views.specs.RunTests.{has_console}
use Rattle.vm_memory.specs.Sound.{IsSound}
use Rattle.vm_memory.proofs.Changing.ChangedLemmas.{no_bytes}
use Rattle.vm_memory.proofs.Changing.ConsoleStepLemmas.{console_told}
use Rattle.ledger_model.proofs.Runs.RunTestLemmas.{each_fails, none_passes}

-- ---- one process

console_missed : (l : Ledger) (pid : Pid) → ((i : ℕ) → i < 4096 → is_console (l.home (place_after (window_place pid Map 0) i)) ≡ false) → has_console l pid ≡ false
console_missed l pid h = none_passes (λ p. is_console (l.home p)) (window_place pid Map 0) (window_pages Map) h

-- by the entries of its places
home_console : (I : Infos) (B : SeatBytes) (o : Option Entry) → is_console_entry o ≡ is_console (option_and_then (page_of_entry I B) o)
home_console I B None = refl
home_console I B (Some Free) = refl
home_console I B (Some (At (Own r) s)) = refl
home_console I B (Some (At (LentOut r) s)) = refl
home_console I B (Some (At LentIn s)) = refl
home_console I B (Some (At (MutOut x) s)) = refl
home_console I B (Some (At MutIn s)) = refl
home_console I B (Some (OnConsole w)) = refl

pub console_by_entries : {W : Type 0} (held : W → Held) (m : Memory W) (pid : Pid)
    → entry_has_console (entries (processes m) m.ram) pid ≡ has_console (ledger held m) pid
unfolding ledger ledger_of
console_by_entries held m pid = λ i.
    list_any (λ p. home_console (infos m.owners) (bytes_at m.ram (held m.store)) (entries (processes m) m.ram p) i) (run (window_place pid Map 0) (window_pages Map))

-- ---- all processes

pub pid_there : (procs k : ℕ) → k < procs → is_pid procs (2 + k) ≡ true
pid_there procs k low = grind (arith, nat_tests)

map_place : (pid : Pid) (procs i : ℕ) → is_pid procs pid.0 ≡ true → i < window_pages Map → is_user_place procs (place_after (window_place pid Map 0) i) ≡ true
map_place pid procs i process low =
    is_place_in-user procs Map (place_after (window_place pid Map 0) i)
    (and_from (is_pid procs pid.0) (in_window Map (first_page Map + 0 + i)) process
    (and_from (nat_le (first_page Map) (first_page Map + 0 + i)) (nat_le (first_page Map + 0 + i) (last_page Map))
    (le-leb (first_page Map) (first_page Map + 0 + i) (omega arith)) (le-leb (first_page Map + 0 + i) (last_page Map) (omega arith))))

-- where a process has it, it is mapped
pub mapped_found : (procs : ℕ) (l : Ledger) (pid : Pid) → is_pid procs pid.0 ≡ true → has_console l pid ≡ true → console_mapped procs l ≡ true
unfolding console_mapped
mapped_found procs l pid process has = elim (cases_Option (first_place procs (λ p. is_console (l.home p)))) [
  | inr some ↦ ap is_some some.1
  | inl none ↦ absurd (both_ways (has_console l pid) (console_missed l pid
      (λ i low. first_place-none procs (λ p. is_console (l.home p)) none (place_after (window_place pid Map 0) i) (map_place pid procs i process low))) has)
]

console_contents : (c : Contents) → not (has_bytes c) ≡ true → c ≡ Console
console_contents Console e = refl
console_contents (Bytes bytes) e = absurd (both_ways false refl e)

module _ {W : Type 0} (S : SwapStore W) (m : Memory W) (sound : IsSound S.slot_count m) where
  -- the console lies in a Map window
  pub console_in_map : (p : Place) → is_console ((ledger S.held m).home p) ≡ true → is_place_in (processes m) Map p ≡ true
  unfolding ledger blank_ledger ledger_of
  console_in_map p t =
      let told : is_console ((blank_ledger m).home p) ≡ true =
      console_told (infos m.owners) no_bytes (bytes_at m.ram (S.held m.store)) (entries (processes m) m.ram p) ∙ t in
      by_home ((blank_ledger m).home p) refl told
    where
      by_home : (o : Option Page) → (blank_ledger m).home p ≡ o → is_console o ≡ true → is_place_in (processes m) Map p ≡ true
      by_home None e c = absurd (both_ways false refl c)
      by_home (Some page) e c = sound.lawful.console_lies p page e (console_contents page.contents c)

  -- where no process has it, it isn't mapped
  pub mapped_missed : ((j : ℕ) → j < processes m → has_console (ledger S.held m) (record { 0 = 2 + j }) ≡ false) → console_mapped (processes m) (ledger S.held m) ≡ false
  unfolding console_mapped
  mapped_missed none = ap is_some (first_place-None (processes m) (λ p. is_console ((ledger S.held m).home p))
      (λ p user. false_from_ne_true (is_console ((ledger S.held m).home p)) (λ t. elsewhere p t)))
    where
      elsewhere : (p : Place) → is_console ((ledger S.held m).home p) ≡ true → ⊥
      elsewhere p t =
          let lies : is_place_in (processes m) Map p ≡ true = console_in_map p t in
          let parts : (is_pid (processes m) p.pid.0 ≡ true) × (in_window Map p.vpn.0 ≡ true) = and_parts (is_pid (processes m) p.pid.0) (in_window Map p.vpn.0) lies in
          let pids : (nat_le 2 p.pid.0 ≡ true) × (nat_lt p.pid.0 (processes m + 2) ≡ true) = and_parts (nat_le 2 p.pid.0) (nat_lt p.pid.0 (processes m + 2)) parts.0 in
          let pages : (nat_le (first_page Map) p.vpn.0 ≡ true) × (nat_le p.vpn.0 (last_page Map) ≡ true) =
          and_parts (nat_le (first_page Map) p.vpn.0) (nat_le p.vpn.0 (last_page Map)) parts.1 in
          let low_pid : 2 ≤ p.pid.0 = leb-true 2 p.pid.0 pids.0 in
          let high_pid : p.pid.0 < processes m + 2 = ltb-true p.pid.0 (processes m + 2) pids.1 in
          let low : first_page Map ≤ p.vpn.0 = leb-true (first_page Map) p.vpn.0 pages.0 in
          let high : p.vpn.0 ≤ last_page Map = leb-true p.vpn.0 (last_page Map) pages.1 in
          let there : place_after (window_place (record { 0 = 2 + (p.pid.0 - 2) }) Map 0) (p.vpn.0 - first_page Map) ≡ p =
          place_from (place_after (window_place (record { 0 = 2 + (p.pid.0 - 2) }) Map 0) (p.vpn.0 - first_page Map)) p (omega arith) (omega arith) in
          both_ways (is_console ((ledger S.held m).home p))
          (subst (λ q. is_console ((ledger S.held m).home q) ≡ false) there
          (each_fails (λ q. is_console ((ledger S.held m).home q)) (window_place (record { 0 = 2 + (p.pid.0 - 2) }) Map 0) (window_pages Map)
          (none (p.pid.0 - 2) (omega arith)) (p.vpn.0 - first_page Map) (omega arith)))
          t
