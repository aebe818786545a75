-- Places whose entries stand side by side in a table, and what stands at a place whose entry is 0: nothing.
use Rattle.std.proofs.Common.{◌≡◌, ℕ, ◌+◌, ◌-◌, ◌*◌, ◌/◌, ◌%◌, ◌<◌, ◌≤◌, true, false, List, length, map, Option, Some, None, refl, sym, ap, subst, ◌∙◌, arith, inl, inr}
use Rattle.std.specs.Prelude.{is_some}
use Rattle.std.specs.Option.{option_and_then, option_map}
use Rattle.std.proofs.lemmas.Bool.{and_parts, both_ways, cases_lt, false≢true}
use Rattle.std.proofs.lemmas.Bool.Decides.{nat_tests}
use Rattle.xk_base.specs.Tables.Circle.{is_pid}
use Rattle.xk_base.specs.Numbers.Windows.{window_at}
use Rattle.xk_base.specs.declared.ids.Place.{Place}
use Rattle.phys_pages.specs.Owners.{infos}
use Rattle.phys_pages.specs.Ram.{area, word_in}
use Rattle.ledger_model.specs.Places.{page_at, place_after, place_at}
use Rattle.ledger_model.proofs.Loans.NumberingLemmas.{place_at-lies}
use Rattle.ledger_model.proofs.PlaceLemmas.{place_from}
use Rattle.sv32_space.specs.Agreement.{Infos}
use Rattle.sv32_space.specs.Entries.{Entries}
use Rattle.sv32_space.specs.EntryLedger.{SeatBytes, is_free_entry, ledger_of, orphan_of_entry, page_of_entry}
use Rattle.sv32_space.specs.SpelledEntries.{entries}
use Rattle.sv32_space.specs.Tables.{IsTableOf}
use Rattle.sv32_space.specs.Tie.{Held, bytes_at}
use Rattle.sv32_space.specs.declared.sides.Entry.{Entry}
use Rattle.sv32_space.specs.declared.sides.Entry.TheVariants.{At, Free, OnConsole}
use Rattle.loan_flags.proofs.FreeRunLemmas.{zero_is_free}
use Rattle.vm_memory.specs.Memory.{ledger, processes}
use Rattle.vm_memory.specs.declared.memory.Memory.{Memory}
use Rattle.save_path.specs.Pages.{HasNoPage}
use Rattle.save_path.specs.Rows.{PageText, home_at, orphan_at, text_words}
use Rattle.save_path.proofs.PageReadLemmas.{no_home, no_orphan}
use Rattle.save_path.proofs.RowsBelowLemmas.{rows-gap}
use Rattle.save_path.proofs.TextLemmas.{HasTexts}
use Rattle.suspend_image.specs.Sheets.{SheetBytes}

-- ---- side by side in a table

image_page : (r : ℕ) → r < 4080 → page_at r ≡ 0x10 + r
image_page r high = grind (arith, nat_tests)

heap_page : (r : ℕ) → 4080 ≤ r → r < 8176 → page_at r ≡ 0x2_0000 + (r - 4080)
heap_page r low high = grind (arith, nat_tests)

message_page : (r : ℕ) → 8176 ≤ r → r < 12272 → page_at r ≡ 0x4_0000 + (r - 8176)
message_page r low high = grind (arith, nat_tests)

map_page : (r : ℕ) → 12272 ≤ r → r < 16368 → page_at r ≡ 0x6_0000 + (r - 12272)
map_page r low high = grind (arith, nat_tests)

stack_page : (r : ℕ) → 16368 ≤ r → page_at r ≡ 0x7_F000 + (r - 16368)
stack_page r low = grind (arith, nat_tests)

record GoesOn (r j v : ℕ) : Type 0 where
  within : r + j < 20464
  page : page_at (r + j) ≡ v + j

-- the places from one on up to the end of its table are of its process
goes_on : (r j v : ℕ) → page_at r ≡ v → r < 20464 → v % 1024 + j < 1024 → GoesOn r j v
goes_on r j v is low inside = elim (cases_lt r 4080) [
  | inl image ↦ (
      let at : v ≡ 0x10 + r = sym is ∙ image_page r image in
      let end : r + j < 4080 = omega arith in
      let next = image_page (r + j) end in
      record { within = omega arith; page = next ∙ (let same : 0x10 + (r + j) ≡ v + j = omega arith in same) }
      )
  | inr above ↦ elim (cases_lt r 8176) [
    | inl heap ↦ (
        let at : v ≡ 0x2_0000 + (r - 4080) = sym is ∙ heap_page r above heap in
        let end : r + j < 8176 = omega arith in
        let next = heap_page (r + j) (omega arith) end in
        record { within = omega arith; page = next ∙ (let same : 0x2_0000 + (r + j - 4080) ≡ v + j = omega arith in same) }
        )
    | inr above_heap ↦ elim (cases_lt r 12272) [
      | inl message ↦ (
          let at : v ≡ 0x4_0000 + (r - 8176) = sym is ∙ message_page r above_heap message in
          let end : r + j < 12272 = omega arith in
          let next = message_page (r + j) (omega arith) end in
          record { within = omega arith; page = next ∙ (let same : 0x4_0000 + (r + j - 8176) ≡ v + j = omega arith in same) }
          )
      | inr above_message ↦ elim (cases_lt r 16368) [
        | inl mapped ↦ (
            let at : v ≡ 0x6_0000 + (r - 12272) = sym is ∙ map_page r above_message mapped in
            let end : r + j < 16368 = omega arith in
            let next = map_page (r + j) (omega arith) end in
            record { within = omega arith; page = next ∙ (let same : 0x6_0000 + (r + j - 12272) ≡ v + j = omega arith in same) }
            )
        | inr stack ↦ (
            let at : v ≡ 0x7_F000 + (r - 16368) = sym is ∙ stack_page r stack in
            let end : r + j < 20464 = omega arith in
            let next = stack_page (r + j) (omega arith) in
            record { within = end; page = next ∙ (let same : 0x7_F000 + (r + j - 16368) ≡ v + j = omega arith in same) }
            )
      ]
    ]
  ]
]

pub place_on : (k j : ℕ) → (place_at k).vpn.0 % 1024 + j < 1024 → place_at (k + j) ≡ place_after (place_at k) j
unfolding place_at
place_on k j inside =
    let low : k % 20464 < 20464 = omega arith in
    let on = goes_on (k % 20464) j (page_at (k % 20464)) refl low inside in
    let within : k % 20464 + j < 20464 = on.within in
    let rest : (k + j) % 20464 ≡ k % 20464 + j = omega arith in
    let whole : (k + j) / 20464 ≡ k / 20464 = omega arith in
    place_from (place_at (k + j)) (place_after (place_at k) j) (ap (λ (n : ℕ). 2 + n) whole) (ap page_at rest ∙ on.page)

pub number_on : (procs k j : ℕ) → k < 20464 * procs → (place_at k).vpn.0 % 1024 + j < 1024 → k + j < 20464 * procs
unfolding place_at
number_on procs k j below inside =
    let low : k % 20464 < 20464 = omega arith in
    let on = goes_on (k % 20464) j (page_at (k % 20464)) refl low inside in
    let within : k % 20464 + j < 20464 = on.within in
    omega arith

pub place_pid : (procs k : ℕ) → k < 20464 * procs → is_pid procs (place_at k).pid.0 ≡ true
place_pid procs k below =
    (and_parts (is_pid procs (place_at k).pid.0) (is_some (window_at (place_at k).vpn.0)) (place_at-lies procs k below)).0

pub place_window : (procs k : ℕ) → k < 20464 * procs → is_some (window_at (place_at k).vpn.0) ≡ true
place_window procs k below =
    (and_parts (is_pid procs (place_at k).pid.0) (is_some (window_at (place_at k).vpn.0)) (place_at-lies procs k below)).1

-- so the search stays below the end
pub still_below : (procs number entry used end : ℕ) (at : Place) → at ≡ place_at number → number < 20464 * procs → entry ≡ at.vpn.0 % 1024 → used ≤ 1024
    → end ≡ 20464 * procs → number + (used - entry) ≤ end
still_below procs number entry used end at is below rest most all = elim (cases_lt entry used) [
  | inl more ↦ (
      let first : entry ≡ (place_at number).vpn.0 % 1024 = rest ∙ ap (λ (p : Place). p.vpn.0 % 1024) is in
      let j : ℕ = used - entry - 1 in
      let inside : (place_at number).vpn.0 % 1024 + j < 1024 = omega arith in
      let on = number_on procs number j below inside in
      omega arith
      )
  | inr none ↦ omega arith
]

-- ---- nothing

nothing : (E : Entries) (I : Infos) (B : SeatBytes) (q : Place) → is_free_entry (E q) ≡ true → HasNoPage (ledger_of E I B) q
unfolding ledger_of
nothing E I B q free = go (E q) refl free
  where
    go : (o : Option Entry) → E q ≡ o → is_free_entry o ≡ true → HasNoPage (ledger_of E I B) q
    go None e f = record { home = ap (option_and_then (page_of_entry I B)) e; orphan = ap (option_and_then (orphan_of_entry I B)) e }
    go (Some Free) e f = record { home = ap (option_and_then (page_of_entry I B)) e; orphan = ap (option_and_then (orphan_of_entry I B)) e }
    go (Some (At side s)) e f = absurd (both_ways false refl f)
    go (Some (OnConsole w)) e f = absurd (both_ways false refl f)

module _ {W : Type 0} (held : W → Held) (m : Memory W) where
  -- from an entry of a table on up to the first that is used
  pub none_from : (number entry used : ℕ) (at : Place) (table : List ℕ) → at ≡ place_at number → number < 20464 * processes m
      → entry ≡ at.vpn.0 % 1024 → used ≤ 1024 → IsTableOf m.ram at table → ((i : ℕ) → entry ≤ i → i < used → word_in table (4 * i) ≡ 0)
      → (k : ℕ) → number ≤ k → k < number + (used - entry) → HasNoPage (ledger held m) (place_at k)
  unfolding ledger
  none_from number entry used at table is below rest most told zeros k low high =
      let q = place_at k in
      let j : ℕ = k - number in
      let sum : number + j ≡ k = omega arith in
      let first : entry ≡ (place_at number).vpn.0 % 1024 = rest ∙ ap (λ (p : Place). p.vpn.0 % 1024) is in
      let inside : (place_at number).vpn.0 % 1024 + j < 1024 = omega arith in
      let after : q ≡ place_after at j = ap place_at (sym sum) ∙ place_on number j inside ∙ ap (λ (p : Place). place_after p j) (sym is) in
      let within : k < 20464 * processes m = subst (λ (n : ℕ). n < 20464 * processes m) sum (number_on (processes m) number j below inside) in
      let pid : q.pid.0 ≡ at.pid.0 = ap (λ (p : Place). p.pid.0) after in
      let page : q.vpn.0 ≡ at.vpn.0 + j = ap (λ (p : Place). p.vpn.0) after in
      let small : at.vpn.0 % 1024 + j < 1024 = omega arith in
      let table_same : q.vpn.0 / 1024 ≡ at.vpn.0 / 1024 = omega arith in
      let index : q.vpn.0 % 1024 ≡ entry + j = omega arith in
      let said = told (processes m) q (place_pid (processes m) k within) (place_window (processes m) k within) pid table_same in
      let word : word_in table (4 * (q.vpn.0 % 1024)) ≡ 0 = ap (λ (i : ℕ). word_in table (4 * i)) index ∙ zeros (entry + j) (omega arith) (omega arith) in
      nothing (entries (processes m) m.ram) (infos m.owners) (bytes_at m.ram (held m.store)) q
      (ap is_free_entry said ∙ zero_is_free (area m.ram) _ word)

  pub none_so_far : (from number entry used : ℕ) (at : Place) (table : List ℕ) → at ≡ place_at number → number < 20464 * processes m
      → entry ≡ at.vpn.0 % 1024 → used ≤ 1024 → IsTableOf m.ram at table → ((i : ℕ) → entry ≤ i → i < used → word_in table (4 * i) ≡ 0)
      → ((k : ℕ) → from ≤ k → k < number → HasNoPage (ledger held m) (place_at k))
      → (k : ℕ) → from ≤ k → k < number + (used - entry) → HasNoPage (ledger held m) (place_at k)
  none_so_far from number entry used at table is below rest most told zeros before k low high = elim (cases_lt k number) [
    | inl old ↦ before k low old
    | inr new ↦ none_from number entry used at table is below rest most told zeros k new high
  ]

-- ---- no row between

words_none : (a b : Option PageText) → option_map text_words a ≡ option_map text_words b → a ≡ None → b ≡ None
words_none a None e none = refl
words_none a (Some text) e none = absurd (false≢true (ap is_some (sym (ap (option_map text_words) none) ∙ e)))

-- the texts of the places before one are those before a later one, where none has a text between
pub texts_gap : (known : Type 0) (row now : ℕ → Option PageText) (j k : ℕ) (start sheet : SheetBytes) (many : ℕ) → HasTexts known row j start sheet many
    → j ≤ k → ((i : ℕ) → option_map text_words (now i) ≡ option_map text_words (row i)) → ((i : ℕ) → j ≤ i → i < k → now i ≡ None)
    → HasTexts known row k start sheet many
texts_gap known row now j k start sheet many texts low alike none =
    let same = rows-gap row j k low (λ i from to. words_none (now i) (row i) (alike i) (none i from to)) in
    let below = texts.below in
    record {
      written = texts.written;
      count = texts.count ∙ ap (λ (xs : List PageText). length xs) (sym same);
      alike = texts.alike ∙ ap (λ (xs : List PageText). map text_words xs) (sym same);
      told = λ is_known. texts.told is_known ∙ sym same;
      is = texts.is;
      few = texts.few;
      below = omega arith;
    }

module _ {W : Type 0} (held : W → Held) (m : Memory W) where
  pub home_gap : (j k : ℕ) → ((i : ℕ) → j ≤ i → i < k → HasNoPage (ledger held m) (place_at i)) → (i : ℕ) → j ≤ i → i < k → home_at (ledger held m) i ≡ None
  home_gap j k none i from to = no_home (ledger held m) (place_at i) i refl (none i from to).home

  pub orphan_gap : (j k : ℕ) → ((i : ℕ) → j ≤ i → i < k → HasNoPage (ledger held m) (place_at i)) → (i : ℕ) → j ≤ i → i < k
      → orphan_at (ledger held m) i ≡ None
  orphan_gap j k none i from to = no_orphan (ledger held m) (place_at i) i refl (none i from to).orphan
