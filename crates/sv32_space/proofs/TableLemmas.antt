-- The words of a table, and the console among them.
use Rattle.std.proofs.Common.{◌≡◌, ◌==◌, ◌+◌, ◌*◌, ◌/◌, ◌%◌, ◌^◌, ◌-◌, ◌<◌, ◌≤◌, ℕ, Bool, true, false, ◌||◌, List, Option, Some, None, IsTrue, IsSome, refl, sym, ap, subst, ◌∙◌, inl, inr, arith}
use Rattle.std.proofs.lemmas.Bool.{both_ways, cases_eq, cases_lt, ne_eqb}
use Rattle.std.proofs.lemmas.Bool.Decides.{nat_tests}
use Rattle.std.proofs.lemmas.Nat.{le_or_l, le_or_r}
use Rattle.std.proofs.lemmas.Option.{none-some, same_Some}
use Rattle.std.specs.Int.Bits.{bit_or}
use Rattle.xk_base.specs.Tables.Circle.{is_pid}
use Rattle.xk_base.specs.Numbers.Windows.{first_page, window_at}
use Rattle.xk_base.specs.declared.ids.Pid.{Pid}
use Rattle.xk_base.specs.declared.ids.Place.{Place}
use Rattle.xk_base.specs.declared.windows.Window.{Window}
use Rattle.xk_base.specs.declared.windows.Window.TheVariants.{Map}
use Rattle.phys_pages.specs.Ram.{RamBytes, Area, IsPlaced, area, pages, word_in}
use Rattle.ledger_model.specs.LeastRun.{window_pages, window_place}
use Rattle.ledger_model.specs.Places.{place_after}
use Rattle.ledger_model.proofs.Runs.RunTestLemmas.{none_passes, some_passes}
use Rattle.sv32_space.specs.declared.sides.EntryKind.{EntryKind}
use Rattle.sv32_space.specs.declared.sides.Entry.{Entry}
use Rattle.sv32_space.specs.declared.sides.Entry.TheVariants.{Free, At, OnConsole}
use Rattle.sv32_space.specs.Entries.{Entries}
use Rattle.sv32_space.specs.Spaces.{IsMade, root_at, table_frame, table_word}
use Rattle.sv32_space.specs.SpelledEntries.{entries, entry_of_kind, entry_spelled, kind_for}
use Rattle.sv32_space.specs.Spellings.{kind_at, spelling}
use Rattle.sv32_space.specs.Tables.{IsTableOf, has_console, is_console_entry}
use Rattle.sv32_space.proofs.EntryLemmas.{leaf_is_entry, window_there}
use Rattle.sv32_space.proofs.KindLemmas.{entry_again, kind_is}
use Rattle.sv32_space.proofs.SpaceLemmas.{window_of_page}
use Rattle.sv32_space.proofs.SpellingLemmas.{kind_at_spelling, kind_at_spells}

-- ---- a table

-- the table of a place, by the frame that it stands in
pub table_tells : (ram : RamBytes) (at : Place) (f : ℕ) (table : List ℕ) → IsMade ram at.pid.0 → IsSome (window_at at.vpn.0)
    → ((w : Window) → window_at at.vpn.0 ≡ Some w → f ≡ table_frame (root_at at.pid.0) w (at.vpn.0 / 1024)) → table ≡ pages ram f
    → IsTableOf ram at table
unfolding table_word
table_tells ram at f table made window stands holds procs q process there pid part =
    let own : (w : Window) × (window_at at.vpn.0 ≡ Some w) = window_there (window_at at.vpn.0) window in
    (leaf_is_entry ram q (word_in table (4 * (q.vpn.0 % 1024))) (subst (λ p. IsMade ram p) (sym pid) made) there
    (λ w here.
    let same : own.0 ≡ w =
    same_Some own.0 w (sym (window_of_page own.0 at.vpn.0 own.1) ∙ (ap (λ i. window_at (i * 1024 + 1023)) (sym part) ∙ window_of_page w q.vpn.0 here)) in
    let frame : f ≡ table_frame (root_at q.pid.0) w (q.vpn.0 / 1024) =
    stands own.0 own.1 ∙ (ap (λ v. table_frame (root_at at.pid.0) v (at.vpn.0 / 1024)) same
    ∙ (ap (λ p. table_frame (root_at p) w (at.vpn.0 / 1024)) (sym pid) ∙ ap (λ i. table_frame (root_at q.pid.0) w i) (sym part))) in
    ap (λ page. word_in page (4 * (q.vpn.0 % 1024))) (holds ∙ ap (pages ram) frame))).1 procs process

-- ---- the console's words

-- the console's entry is read from its spelling
console_read : (a : Area) (w : Bool) → IsPlaced a → entry_spelled a (spelling (kind_for a (OnConsole w))) ≡ Some (OnConsole w)
console_read a w placed =
    ap (entry_of_kind a) (kind_at_spelling (kind_for a (OnConsole w)) (omega arith)) ∙ entry_again a (OnConsole w) placed tt

-- and from no other word
console_only : (a : Area) (w : Bool) (word : ℕ) → word < 2 ^ 32 → entry_spelled a word ≡ Some (OnConsole w)
    → spelling (kind_for a (OnConsole w)) ≡ word
console_only a w word fits found = by_kind (kind_at word) refl found
  where
    by_kind : (o : Option EntryKind) → kind_at word ≡ o → entry_of_kind a o ≡ Some (OnConsole w) → spelling (kind_for a (OnConsole w)) ≡ word
    by_kind None at is = absurd (none-some (OnConsole w) is)
    by_kind (Some kind) at is = ap spelling (sym (kind_is a kind (OnConsole w) is)) ∙ (kind_at_spells word kind fits at).1

console_is_one : (a : Area) (w : Bool) (word : ℕ) → spelling (kind_for a (OnConsole w)) ≡ word → ((word == 0x3C0000D3) || (word == 0x3C0000D7)) ≡ true
console_is_one a true word is = ap (λ n. (n == 0x3C0000D3) || (n == 0x3C0000D7)) (sym is)
console_is_one a false word is = ap (λ n. (n == 0x3C0000D3) || (n == 0x3C0000D7)) (sym is)

-- the console's entry has two words
pub console_words : (a : Area) (word : ℕ) → word < 2 ^ 32 → IsPlaced a
    → ((word == 0x3C0000D3) || (word == 0x3C0000D7)) ≡ is_console_entry (entry_spelled a word)
console_words a word fits placed = elim (cases_eq word 0x3C0000D3) [
  | inl read ↦ told false read
  | inr other ↦ elim (cases_eq word 0x3C0000D7) [
    | inl write ↦ told true write
    | inr apart ↦ rw (ne_eqb word 0x3C0000D3 other, ne_eqb word 0x3C0000D7 apart) (sym (no_other (entry_spelled a word) refl (both (ne_eqb word 0x3C0000D3 other) (ne_eqb word 0x3C0000D7 apart))))
  ]
]
  where
    both : (word == 0x3C0000D3) ≡ false → (word == 0x3C0000D7) ≡ false → ((word == 0x3C0000D3) || (word == 0x3C0000D7)) ≡ false
    both e f = rw (e, f) refl

    told : (w : Bool) → word ≡ spelling (kind_for a (OnConsole w)) → ((word == 0x3C0000D3) || (word == 0x3C0000D7)) ≡ is_console_entry (entry_spelled a word)
    told w is = console_is_one a w word (sym is) ∙ sym (ap (λ n. is_console_entry (entry_spelled a n)) is ∙ ap is_console_entry (console_read a w placed))

    no_other : (o : Option Entry) → entry_spelled a word ≡ o → ((word == 0x3C0000D3) || (word == 0x3C0000D7)) ≡ false → is_console_entry o ≡ false
    no_other None e f = refl
    no_other (Some Free) e f = refl
    no_other (Some (At side seat)) e f = refl
    no_other (Some (OnConsole w)) e f = absurd (both_ways ((word == 0x3C0000D3) || (word == 0x3C0000D7)) f (console_is_one a w word (console_only a w word fits e)))

-- and is no word below them
pub low_word : (a : Area) (word : ℕ) → IsPlaced a → word < 0x3C0000D3 → is_console_entry (entry_spelled a word) ≡ false
low_word a word placed low = sym (console_words a word (omega (arith, low)) placed)
    ∙ both (ne_eqb word 0x3C0000D3 (λ e. omega (arith, e, low))) (ne_eqb word 0x3C0000D7 (λ e. omega (arith, e, low)))
  where
    both : (word == 0x3C0000D3) ≡ false → (word == 0x3C0000D7) ≡ false → ((word == 0x3C0000D3) || (word == 0x3C0000D7)) ≡ false
    both e f = rw (e, f) refl

-- ---- the bits of a table

-- no word of the first n is above these bits
abbrev pub AreBelow : List ℕ → ℕ → ℕ → Type 0
AreBelow table n bits = (k : ℕ) → k < n → word_in table (4 * k) ≤ bits

-- .. nor one of one more
pub below_next : (table : List ℕ) (n bits word : ℕ) → AreBelow table n bits → word ≡ word_in table (4 * n) → AreBelow table (n + 1) (bit_or bits word)
below_next table n bits word below is k low = elim (cases_lt k n) [
  | inl old ↦ omega (arith, below k old, le_or_l bits word)
  | inr new ↦
      let same : n ≡ k = omega (arith, low, new) in
      subst (λ j. word_in table (4 * j) ≤ bit_or bits word) same (omega (arith, is, le_or_r bits word))
]

-- ---- a table is searched

-- what its first n words tell
pub record IsSeen (a : Area) (table : List ℕ) (n : ℕ) (found : Bool) : Type 0 where
  pub some : found ≡ true → (k : ℕ) × (k < n) × (is_console_entry (entry_spelled a (word_in table (4 * k))) ≡ true)
  pub none : (k : ℕ) → found ≡ false → k < n → is_console_entry (entry_spelled a (word_in table (4 * k))) ≡ false

pub seen_none : (a : Area) (table : List ℕ) → IsSeen a table 0 false
seen_none a table = record {
  some = λ t. absurd (both_ways false refl t);
  none = λ k f low. absurd (omega (arith, low));
}

-- .. and one more
pub seen_next : (a : Area) (table : List ℕ) (n : ℕ) (found here : Bool) → IsSeen a table n found
    → here ≡ is_console_entry (entry_spelled a (word_in table (4 * n))) → IsSeen a table (n + 1) (found || here)
seen_next a table n true here h e = record {
  some = λ t. let k = h.some refl in (k.0, omega (arith, k.1), k.2);
  none = λ k f low. absurd (both_ways true f refl);
}
seen_next a table n false here h e = record {
  some = λ t. (n, omega arith, sym e ∙ t);
  none = λ k f low. elim (cases_lt k n) [
    | inl old ↦ h.none k refl old
    | inr new ↦ let same : n ≡ k = omega (arith, low, new) in
        subst (λ j. is_console_entry (entry_spelled a (word_in table (4 * j))) ≡ false) same (sym e ∙ f)
  ];
}

-- ---- the Map window is searched

map_page : (v : ℕ) → 0x6_0000 ≤ v → v ≤ 0x6_0FFF → window_at v ≡ Some Map
map_page v low high = grind (arith, nat_tests)

-- a table of the window lies in it
pub map_table : (first i : ℕ) → first ≡ first_page Map → i < 4 → IsSome (window_at (first + 1024 * i))
map_table first i at low = subst (λ o. IsSome o) (sym (map_page (first + 1024 * i) (omega (arith, at, low)) (omega (arith, at, low)))) refl

module _ (procs : ℕ) (ram : RamBytes) (pid : Pid) (first i : ℕ) (table : List ℕ) (process : IsTrue (is_pid procs pid.0)) (start : first ≡ first_page Map) (low : i < 4)
    (told : IsTableOf ram (record { pid = pid; vpn = record { 0 = first + 1024 * i } }) table) where
  abbrev E : Entries
  E = entries procs ram

  -- the entry of a place of the window, in its table
  entry_there : (k : ℕ) → k < 1024 → E (place_after (window_place pid Map 0) (1024 * i + k)) ≡ entry_spelled (area ram) (word_in table (4 * k))
  entry_there k below =
      let window : window_at (first_page Map + 0 + (1024 * i + k)) ≡ Some Map = map_page (first_page Map + 0 + (1024 * i + k)) (omega arith) (omega (arith, low, below)) in
      let part : (first_page Map + 0 + (1024 * i + k)) / 1024 ≡ (first + 1024 * i) / 1024 = omega (arith, below, start) in
      let rest : (first_page Map + 0 + (1024 * i + k)) % 1024 ≡ k = omega (arith, below) in
      told procs (place_after (window_place pid Map 0) (1024 * i + k)) process (subst (λ o. IsSome o) (sym window) refl) refl part
      ∙ ap (λ j. entry_spelled (area ram) (word_in table (4 * j))) rest

  -- the console is found
  pub map_found : ((k : ℕ) × (k < 1024) × (is_console_entry (entry_spelled (area ram) (word_in table (4 * k))) ≡ true)) → has_console E pid ≡ true
  map_found here =
      some_passes (λ p. is_console_entry (E p)) (window_place pid Map 0) (window_pages Map) (1024 * i + here.0) (omega (arith, low, here.1))
      (ap is_console_entry (entry_there here.0 here.1) ∙ here.2)

  -- it isn't in this table nor in those before
  pub map_goes_on : ((k : ℕ) → k < 1024 → is_console_entry (entry_spelled (area ram) (word_in table (4 * k))) ≡ false)
      → ((k : ℕ) → k < 1024 * i → is_console_entry (E (place_after (window_place pid Map 0) k)) ≡ false)
      → (k : ℕ) → k < 1024 * (i + 1) → is_console_entry (E (place_after (window_place pid Map 0) k)) ≡ false
  map_goes_on none before k below = elim (cases_lt k (1024 * i)) [
    | inl old ↦ before k old
    | inr new ↦
        let inside : k - 1024 * i < 1024 = omega (arith, below, new) in
        let sum : 1024 * i + (k - 1024 * i) ≡ k = omega (arith, new) in
        subst (λ j. is_console_entry (E (place_after (window_place pid Map 0) j)) ≡ false) sum
        (ap is_console_entry (entry_there (k - 1024 * i) inside) ∙ none (k - 1024 * i) inside)
  ]

-- it is nowhere
pub map_missed : (E : Entries) (pid : Pid) → ((k : ℕ) → k < 4096 → is_console_entry (E (place_after (window_place pid Map 0) k)) ≡ false) → has_console E pid ≡ false
map_missed E pid none = none_passes (λ p. is_console_entry (E p)) (window_place pid Map 0) (window_pages Map) none
