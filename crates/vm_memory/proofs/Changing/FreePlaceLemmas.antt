-- A run whose pages go by the words of their tables: where a word is 0 there is no page, and nothing goes.
use Rattle.std.proofs.Common.{◌≡◌, ℕ, ◌+◌, ◌-◌, ◌*◌, ◌/◌, ◌%◌, ◌<◌, Bool, true, false, ◌&&◌, ◌||◌, ◌==◌, List, Option, Some, None, refl, sym, ap, ◌∙◌, arith}
use Rattle.std.specs.Prelude.{is_some, nat_le, nat_lt}
use Rattle.std.specs.Option.{option_and_then}
use Rattle.std.proofs.lemmas.Bool.{and_parts, both_ways}
use Rattle.std.proofs.lemmas.Bool.Decides.{nat_tests}
use Rattle.xk_base.specs.Numbers.Windows.{first_page, window_at}
use Rattle.xk_base.specs.Tables.Circle.{is_pid}
use Rattle.xk_base.specs.declared.ids.Pid.{Pid}
use Rattle.xk_base.specs.declared.ids.Place.{Place}
use Rattle.xk_base.specs.declared.windows.Window.{Window}
use Rattle.xk_base.specs.declared.windows.Window.TheVariants.{Image, Heap, Message, Map, Stack}
use Rattle.phys_pages.specs.Owners.{infos}
use Rattle.phys_pages.specs.Ram.{area, word_in}
use Rattle.ledger_model.specs.LeastRun.{window_pages, window_place}
use Rattle.ledger_model.specs.Ledger.{Ledger}
use Rattle.ledger_model.specs.Places.{in_run, is_user_place, place_after}
use Rattle.ledger_model.specs.Steps.{remove}
use Rattle.ledger_model.proofs.PlaceLemmas.{in_run-index}
use Rattle.sv32_space.specs.Agreement.{Infos}
use Rattle.sv32_space.specs.Entries.{Entries}
use Rattle.sv32_space.specs.EntryLedger.{SeatBytes, is_free_entry, ledger_of, page_of_entry}
use Rattle.sv32_space.specs.SpelledEntries.{entries}
use Rattle.sv32_space.specs.Tables.{IsTableOf}
use Rattle.sv32_space.specs.Tie.{Held, bytes_at}
use Rattle.sv32_space.specs.declared.sides.Entry.{Entry}
use Rattle.sv32_space.specs.declared.sides.Entry.TheVariants.{At, Free, OnConsole}
use Rattle.sv32_space.proofs.RunLemmas.{remove_joined, remove_nothing}
use Rattle.loan_flags.proofs.FreeRunLemmas.{zero_is_free}
use Rattle.vm_memory.specs.declared.memory.Memory.{Memory}
use Rattle.vm_memory.specs.Memory.{ledger, processes}

-- ---- words that are 0

free_home : (E : Entries) (I : Infos) (B : SeatBytes) (q : Place) → is_free_entry (E q) ≡ true → (ledger_of E I B).home q ≡ None
unfolding ledger_of
free_home E I B q free = go (E q) refl free
  where
    go : (o : Option Entry) → E q ≡ o → is_free_entry o ≡ true → (ledger_of E I B).home q ≡ None
    go None e f = ap (option_and_then (page_of_entry I B)) e
    go (Some Free) e f = ap (option_and_then (page_of_entry I B)) e
    go (Some (At side s)) e f = absurd (both_ways false refl f)
    go (Some (OnConsole w)) e f = absurd (both_ways false refl f)

pub free_word : {W : Type 0} (held : W → Held) (m : Memory W) (at : Place) (table : List ℕ) (i : ℕ) → IsTableOf m.ram at table
    → at.vpn.0 % 1024 + i < 1024 → is_user_place (processes m) (place_after at i) ≡ true → word_in table (4 * (at.vpn.0 % 1024 + i)) ≡ 0
    → (ledger held m).home (place_after at i) ≡ None
unfolding ledger
free_word held m at table i told inside user zero =
    let q : Place = place_after at i in
    let parts = and_parts (is_pid (processes m) q.pid.0) (is_some (window_at q.vpn.0)) user in
    let same : (at.vpn.0 + i) / 1024 ≡ at.vpn.0 / 1024 = omega arith in
    let index : (at.vpn.0 + i) % 1024 ≡ at.vpn.0 % 1024 + i = omega arith in
    let said = told (processes m) q parts.0 parts.1 refl same in
    let word : word_in table (4 * (q.vpn.0 % 1024)) ≡ 0 = ap (λ (k : ℕ). word_in table (4 * k)) index ∙ zero in
    free_home (entries (processes m) m.ram) (infos m.owners) (bytes_at m.ram (held m.store)) q
    (ap is_free_entry said ∙ zero_is_free (area m.ram) _ word)

-- ---- runs

-- nothing goes from a run without pages
pub remove_free : (first : Place) (n : ℕ) (l : Ledger) → ((i : ℕ) → i < n → l.home (place_after first i) ≡ None) → remove (in_run first n) l ≡ l
remove_free first n l none = remove_nothing (in_run first n) l (λ p there.
    let index = in_run-index first n p there in ap (λ q. l.home q) index.1 ∙ none (p.vpn.0 - first.vpn.0) index.0)

-- a run goes in two parts
pub remove_more : (first : Place) (i k : ℕ) (l : Ledger)
    → remove (in_run (place_after first i) k) (remove (in_run first i) l) ≡ remove (in_run first (i + k)) l
remove_more first i k l =
    remove_joined (in_run (place_after first i) k) (in_run first i) l
    ∙ ap (λ (places : Place → Bool). remove places l) (λ j p. numbers p.pid.0 first.pid.0 p.vpn.0 first.vpn.0 j)
  where
    numbers : (a b c d : ℕ) → (((a == b) && (nat_le (d + i) c && nat_lt c ((d + i) + k))) || ((a == b) && (nat_le d c && nat_lt c (d + i))))
        ≡ ((a == b) && (nat_le d c && nat_lt c (d + (i + k))))
    numbers a b c d = grind (arith, nat_tests)

-- .. of which the first had no page
pub remove_behind : (first : Place) (free : ℕ) (l : Ledger) → ((i : ℕ) → i < free → l.home (place_after first i) ≡ None)
    → remove (in_run (place_after first free) 1) l ≡ remove (in_run first (free + 1)) l
remove_behind first free l none =
    ap (remove (in_run (place_after first free) 1)) (sym (remove_free first free l none)) ∙ remove_more first free 1 l

-- the places of a process in a window
pub window_lies : (procs : ℕ) (pid : Pid) (w : Window) (i : ℕ) → is_pid procs pid.0 ≡ true → i < window_pages w
    → is_user_place procs (place_after (window_place pid w 0) i) ≡ true
window_lies procs pid w i process low = ap (λ b. b && is_some (window_at (first_page w + 0 + i))) process ∙ lies w low
  where
    lies : (w : Window) → i < window_pages w → is_some (window_at (first_page w + 0 + i)) ≡ true
    lies Image low = grind (arith, nat_tests)
    lies Heap low = grind (arith, nat_tests)
    lies Message low = grind (arith, nat_tests)
    lies Map low = grind (arith, nat_tests)
    lies Stack low = grind (arith, nat_tests)

pub window_whole : (w : Window) → (first_page w + window_pages w) % 1024 ≡ 0
window_whole Image = refl
window_whole Heap = refl
window_whole Message = refl
window_whole Map = refl
window_whole Stack = refl
