-- The search for the least free run: what is known when it has looked at the first k places of the window.
use Rattle.std.proofs.Common.{◌≡◌, ◌≢◌, ℕ, ◌+◌, ◌-◌, ◌*◌, ◌/◌, ◌%◌, ◌<◌, ◌≤◌, List, IsSome, IsTrue, Bool, true, false, ◌&&◌, Option, Some, None, refl, sym, ap, subst, ◌∙◌, inl, inr, arith}
use Rattle.std.specs.Prelude.{nat_le, is_some, []}
use Rattle.std.specs.List.{list_all}
use Rattle.std.specs.Option.{option_map}
use Rattle.std.proofs.lemmas.Bool.{and_from, both_ways, cases_lt, false_from_ne_true, le-leb}
use Rattle.std.proofs.lemmas.Bool.Decides.{nat_tests}
use Rattle.xk_base.specs.declared.ids.Pid.{Pid}
use Rattle.xk_base.specs.declared.ids.Place.{Place}
use Rattle.xk_base.specs.declared.ids.Vpn.{Vpn}
use Rattle.xk_base.specs.declared.windows.Window.{Window}
use Rattle.xk_base.specs.declared.windows.Window.TheVariants.{Image, Heap, Message, Map, Stack}
use Rattle.xk_base.specs.Tables.Circle.{is_pid}
use Rattle.xk_base.specs.Numbers.Windows.{first_page, in_window, last_page, window_at}
use Rattle.phys_pages.specs.Ram.{Area, RamBytes, area, word_in}
use Rattle.sv32_space.specs.SpelledEntries.{entries, entry_spelled}
use Rattle.sv32_space.specs.Spellings.{kind_at}
use Rattle.sv32_space.specs.Tables.{IsTableOf}
use Rattle.xk_base.specs.Tables.Counting.{least_below}
use Rattle.xk_base.proofs.CountingLemmas.{least_below-None, least_below-Some}
use Rattle.ledger_model.specs.LeastRun.{IsLeastRun, is_free_run, least_run, window_pages, window_place}
use Rattle.ledger_model.specs.Ledger.{Ledger}
use Rattle.ledger_model.specs.Places.{in_run, is_place_in, place_after, run}
use Rattle.ledger_model.specs.Reach.{is_free}
use Rattle.ledger_model.proofs.Runs.LeastRunLemmas.{least_run-Some}
use Rattle.ledger_model.proofs.Loans.NumberingLemmas.{is_place_in-user}
use Rattle.ledger_model.proofs.PlaceLemmas.{IsInRun, in_run-index, in_run-true, list_all-run, place_from, run-passes}
use Rattle.sv32_space.specs.declared.sides.Entry.TheVariants.{At, Free, OnConsole}
use Rattle.sv32_space.specs.declared.sides.Entry.{Entry}
use Rattle.sv32_space.specs.Entries.{Entries}
use Rattle.sv32_space.specs.Agreement.{EntriesAgree, Infos}
use Rattle.sv32_space.specs.EntryLedger.{SeatBytes, is_free_entry, ledger_of}
use Rattle.sv32_space.proofs.Agreeing.RoleLemmas.{free_by_entry}
use Rattle.loan_flags.specs.FreeRuns.{all_free, fits_free, least_free}

and_last : (a b : Bool) → b ≡ false → (a && b) ≡ false
and_last true b e = e
and_last false b e = refl

and_first : (a b : Bool) → a ≡ false → (a && b) ≡ false
and_first true b e = absurd (both_ways true e refl)
and_first false b e = refl

-- a run with a used place isn't free
not_all_free : (E : Entries) (first : Place) (n i : ℕ) → i < n → is_free_entry (E (place_after first i)) ≡ false → all_free E first n ≡ false
unfolding all_free
not_all_free E first n i b f =
    false_from_ne_true (all_free E first n) (λ t. both_ways (is_free_entry (E (place_after first i))) f (run-passes (λ p. is_free_entry (E p)) first n t i b))

each_free : (E : Entries) (first : Place) (n : ℕ) → ((i : ℕ) → i < n → is_free_entry (E (place_after first i)) ≡ true) → all_free E first n ≡ true
unfolding all_free
each_free E first n h = list_all-run (λ p. is_free_entry (E p)) first n h

-- ---- the words of the window's tables

page_in : (window : Window) (v : ℕ) → first_page window ≤ v → v ≤ last_page window → IsSome (window_at v)
page_in Image v low high = grind (arith, nat_tests)
page_in Heap v low high = grind (arith, nat_tests)
page_in Message v low high = grind (arith, nat_tests)
page_in Map v low high = grind (arith, nat_tests)
page_in Stack v low high = grind (arith, nat_tests)

-- a page number from the window's first up to its last is in the window
pub page_there : (window : Window) (first last k : ℕ) → first ≡ first_page window → last ≡ last_page window → k < last + 1 - first
    → IsSome (window_at (first + k))
page_there window first last k a b low = page_in window (first + k) (omega (arith, a)) (omega (arith, a, b, low))

pub first_there : (window : Window) (first : ℕ) → first ≡ first_page window → IsSome (window_at first)
first_there window first at = subst (λ v. IsSome (window_at v)) (sym at) (first_in window)
  where
    first_in : (window : Window) → IsSome (window_at (first_page window))
    first_in Image = refl
    first_in Heap = refl
    first_in Message = refl
    first_in Map = refl
    first_in Stack = refl

-- the table of a place is that of the next one too, but where a table begins
pub same_table : (ram : RamBytes) (pid : Pid) (v w : Vpn) (table : List ℕ) → v.0 / 1024 ≡ w.0 / 1024
    → IsTableOf ram (record { pid = pid; vpn = v }) table → IsTableOf ram (record { pid = pid; vpn = w }) table
same_table ram pid v w table same told procs q process window here part = told procs q process window here (part ∙ sym same)

-- nothing stands where a word is 0
pub zero_is_free : (a : Area) (word : ℕ) → word ≡ 0 → is_free_entry (entry_spelled a word) ≡ true
unfolding kind_at
zero_is_free a word zero = ap (λ n. is_free_entry (entry_spelled a n)) zero

-- what was told of the k-th place
pub looked : (procs : ℕ) (ram : RamBytes) (pid : Pid) (window : Window) (first k : ℕ) (table : List ℕ) (word : ℕ) (told b : Bool) → first ≡ first_page window
    → IsTrue (is_pid procs pid.0) → IsSome (window_at (first + k)) → IsTableOf ram (record { pid = pid; vpn = record { 0 = first + k } }) table
    → word ≡ word_in table (4 * ((first + k) % 1024)) → told ≡ is_free_entry (entry_spelled (area ram) word) → told ≡ b
    → is_free_entry (entries procs ram (window_place pid window k)) ≡ b
looked procs ram pid window first k table word told b at process there is read said e =
    let same : record { pid = pid; vpn = record { 0 = first + k } } ≡ window_place pid window k =
    place_from (record { pid = pid; vpn = record { 0 = first + k } }) (window_place pid window k) refl (ap (λ x. x + k) at) in
    sym (ap (λ q. is_free_entry (entries procs ram q)) same)
    ∙ (ap is_free_entry (is procs (record { pid = pid; vpn = record { 0 = first + k } }) process there refl refl ∙ sym (ap (entry_spelled (area ram)) read))
    ∙ (sym said ∙ e))

-- no run that begins before `start` will do; the places from there on are free, but too few so far
pub record IsSearched (E : Entries) (pid : Pid) (window : Window) (n start k : ℕ) : Type 0 where
  pub before : (j : ℕ) → j < start → fits_free E pid window n j ≡ false
  pub free : (j : ℕ) → start ≤ j → j < k → is_free_entry (E (window_place pid window j)) ≡ true
  pub from : start ≤ k
  pub few : k < start + n

module _ (E : Entries) (pid : Pid) (window : Window) (n start k : ℕ) (h : IsSearched E pid window n start k) where
  -- no run with a used place will do
  pub used_next : is_free_entry (E (window_place pid window k)) ≡ false → (j : ℕ) → j < k + 1 → fits_free E pid window n j ≡ false
  used_next used j low = elim (cases_lt j start) [
    | inl old ↦ h.before j old
    | inr new ↦
        let few : k < start + n = h.few in
        let sum : j + (k - j) ≡ k = omega arith in
        let inside : k - j < n = omega arith in
        and_last (nat_le (j + n) (window_pages window)) (all_free E (window_place pid window j) n)
        (not_all_free E (window_place pid window j) n (k - j) inside (ap (λ q. is_free_entry (E q)) (later j (k - j) sum) ∙ used))
  ]
    where
      later : (j i : ℕ) → j + i ≡ k → place_after (window_place pid window j) i ≡ window_place pid window k
      later j i e = place_from (place_after (window_place pid window j) i) (window_place pid window k) refl (omega arith)

  pub free_next : is_free_entry (E (window_place pid window k)) ≡ true → (j : ℕ) → start ≤ j → j < k + 1 → is_free_entry (E (window_place pid window j)) ≡ true
  free_next here j low high = elim (cases_lt j k) [
    | inl old ↦ h.free j low old
    | inr new ↦ let e : k ≡ j = omega arith in subst (λ i. is_free_entry (E (window_place pid window i)) ≡ true) e here
  ]

  -- THE RUN: n free places are the least free run
  pub run_there : (f e : ℕ) → f ≡ first_page window → e ≡ last_page window → k < e + 1 - f → is_free_entry (E (window_place pid window k)) ≡ true
      → k + 1 - start ≡ n → least_free E pid window n ≡ Some (record { 0 = f + start })
  unfolding least_free
  run_there f e a b inside here whole =
      let size : e + 1 - f ≡ window_pages window = λ i. b i + 1 - a i in
      let from : start ≤ k = h.from in
      let few : k < start + n = h.few in
      let at : first_page window + start ≡ f + start = ap (λ x. x + start) (sym a) in
      let within : start + n ≤ window_pages window = omega (arith, size) in
      let below : start < window_pages window = omega (arith, size) in
      let all : all_free E (window_place pid window start) n ≡ true =
      each_free E (window_place pid window start) n
      (λ i low. subst (λ q. is_free_entry (E q) ≡ true)
      (place_from (window_place pid window (start + i)) (place_after (window_place pid window start) i) refl (omega arith))
      (free_next here (start + i) (omega arith) (omega (arith, low)))) in
      ap (option_map (λ j. (window_place pid window j).vpn))
      (least_below-Some (window_pages window) (fits_free E pid window n) start below
      (and_from (nat_le (start + n) (window_pages window)) (all_free E (window_place pid window start) n) (le-leb (start + n) (window_pages window) within) all) h.before)
      ∙ (λ i. Some (record { 0 = at i }))

  -- NONE: at the window's end there is none
  pub none_there : (f e : ℕ) → f ≡ first_page window → e ≡ last_page window → e + 1 - f ≤ k → least_free E pid window n ≡ None
  unfolding least_free
  none_there f e a b past =
      let size : e + 1 - f ≡ window_pages window = λ i. b i + 1 - a i in
      let few : k < start + n = h.few in
      ap (option_map (λ j. (window_place pid window j).vpn))
      (least_below-None (window_pages window) (fits_free E pid window n)
      (λ j low. elim (cases_lt j start) [
        | inl old ↦ h.before j old
        | inr new ↦
            let long : window_pages window < j + n = omega (arith, size) in
            and_first (nat_le (j + n) (window_pages window)) (all_free E (window_place pid window j) n) (too_long (j + n) (window_pages window) long)
      ]))
    where
      too_long : (x y : ℕ) → y < x → nat_le x y ≡ false
      too_long x y h = grind (arith, nat_tests)

-- the search goes on
pub searched_none : (E : Entries) (pid : Pid) (window : Window) (n : ℕ) → 1 ≤ n → IsSearched E pid window n 0 0
searched_none E pid window n some = record {
  before = λ j low. absurd (omega (arith, low));
  free = λ j low high. absurd (omega (arith, high));
  from = omega arith;
  few = omega (arith, some);
}

pub searched_used : (E : Entries) (pid : Pid) (window : Window) (n start k : ℕ) → 1 ≤ n → IsSearched E pid window n start k
    → is_free_entry (E (window_place pid window k)) ≡ false → IsSearched E pid window n (k + 1) (k + 1)
searched_used E pid window n start k some h used = record {
  before = used_next E pid window n start k h used;
  free = λ j low high. absurd (omega (arith, low, high));
  from = omega arith;
  few = omega (arith, some);
}

pub searched_free : (E : Entries) (pid : Pid) (window : Window) (n start k : ℕ) → IsSearched E pid window n start k
    → is_free_entry (E (window_place pid window k)) ≡ true → k + 1 - start ≢ n → IsSearched E pid window n start (k + 1)
searched_free E pid window n start k h here apart = record {
  before = h.before;
  free = free_next E pid window n start k h here;
  from = omega (arith, h.from);
  few = omega (arith, h.from, h.few, apart);
}

-- where entries and owners agree, it is the least run of their ledger
pub least_by_entries : (procs : ℕ) (E : Entries) (I : Infos) (B : SeatBytes) (pid : Pid) (window : Window) (n : ℕ) → EntriesAgree procs E I
    → least_free E pid window n ≡ least_run procs (ledger_of E I B) pid window n
unfolding least_free least_run all_free is_free_run
least_by_entries procs E I B pid window n agree = λ i. option_map (λ k. (window_place pid window k).vpn)
    (least_below (window_pages window) (λ k. nat_le (k + n) (window_pages window)
    && list_all (λ p. sym (free_by_entry procs E I B agree p) i) (run (window_place pid window k) n)))

-- ---- what the least free run is

-- an entry that says that nothing stands there
free_entry : (o : Option Entry) → is_some o ≡ true → is_free_entry o ≡ true → o ≡ Some Free
free_entry None there free = absurd (both_ways false refl there)
free_entry (Some Free) there free = refl
free_entry (Some (At side s)) there free = absurd (both_ways false refl free)
free_entry (Some (OnConsole w)) there free = absurd (both_ways false refl free)

module _ (procs : ℕ) (E : Entries) (I : Infos) (agree : EntriesAgree procs E I) (pid : Pid) (window : Window) (n : ℕ) (v : Vpn)
    (process : is_pid procs pid.0 ≡ true) (least : least_free E pid window n ≡ Some v) where
  abbrev from : Place
  from = record { pid = pid; vpn = v }

  abbrev blank : Ledger
  blank = ledger_of E I (λ s. [])

  found : IsLeastRun procs blank pid window n v
  found = least_run-Some procs blank pid window n v (sym (least_by_entries procs E I (λ s. []) pid window n agree) ∙ least)

  -- its places lie in the window
  pub least_lies : (p : Place) → in_run from n p ≡ true → is_place_in procs window p ≡ true
  least_lies p h =
      let r : IsInRun from n p = in_run-true from n p h in
      let low : first_page window ≤ v.0 = found.low in
      let high : v.0 + n ≤ last_page window + 1 = found.high in
      let above : v.0 ≤ p.vpn.0 = r.from in
      let below : p.vpn.0 < v.0 + n = r.to in
      and_from (is_pid procs p.pid.0) (in_window window p.vpn.0) (ap (is_pid procs) r.pid ∙ process)
      (and_from (nat_le (first_page window) p.vpn.0) (nat_le p.vpn.0 (last_page window))
      (le-leb (first_page window) p.vpn.0 (omega arith)) (le-leb p.vpn.0 (last_page window) (omega arith)))

  -- nothing stands there
  pub least_frees : (p : Place) → in_run from n p ≡ true → E p ≡ Some Free
  unfolding is_free_run
  least_frees p h =
      let at = in_run-index from n p h in
      let passes : is_free procs blank (place_after from (p.vpn.0 - v.0)) ≡ true =
      run-passes (is_free procs blank) from n found.free (p.vpn.0 - v.0) at.0 in
      free_entry (E p) (agree.spelled p ∙ is_place_in-user procs window p (least_lies p h))
      (sym (free_by_entry procs E I (λ s. []) agree p) ∙ (ap (is_free procs blank) at.1 ∙ passes))
