-- Where the walk of a made space ends.
use Rattle.xk_base.specs.Tables.Circle.{is_pid}
use Rattle.std.proofs.Common.{◌≡◌, ◌==◌, ◌+◌, ◌*◌, ◌/◌, ◌%◌, ◌^◌, ◌<◌, ℕ, Bool, true, false, ◌&&◌, nat_le, Option, Some, None, refl, sym, ap, ◌∙◌, inl, inr, arith}
use Rattle.std.proofs.lemmas.Bool.{cases_Bool, eqb-true}
use Rattle.std.proofs.lemmas.Option.{none-some, same_Some}
use Rattle.xk_base.specs.Numbers.Fields.{field, bits_of}
use Rattle.xk_base.specs.declared.ids.Place.{Place}
use Rattle.xk_base.specs.declared.pages.Access.{Access}
use Rattle.xk_base.specs.declared.pages.Access.TheVariants.{Fetch, Load, Store}
use Rattle.xk_base.specs.declared.windows.Window.{Window}
use Rattle.xk_base.specs.Numbers.Windows.{window_at}
use Rattle.phys_pages.specs.Ram.{RamBytes, Area, IsPlaced, area, pages, ppn_of}
use Rattle.phys_pages.specs.declared.infos.Seat.TheVariants.{Frame, Slot}
use Rattle.phys_pages.proofs.WordLemmas.{words-in_frame}
use Rattle.sv32_space.specs.declared.sides.Side.{Side}
use Rattle.sv32_space.specs.declared.sides.Side.TheVariants.{Own, LentOut, LentIn, MutOut, MutIn}
use Rattle.sv32_space.specs.declared.sides.EntryKind.{EntryKind}
use Rattle.sv32_space.specs.declared.sides.EntryKind.TheVariants.{Free as FreeKind, Here, Out}
use Rattle.sv32_space.specs.declared.walking.Walked.{Walked}
use Rattle.sv32_space.specs.declared.walking.Walked.TheVariants.{PageFault}
use Rattle.sv32_space.specs.Spellings.{here_bits, out_bits, here_side, out_side, sides, kind_with, kind_at, right_of}
use Rattle.sv32_space.specs.Walk.{is_valid, is_leaf, lets_through, entry_ppn, vpn_0, vpn_1, page_offset, from_last_level, from_last_entry, from_root, from_root_entry, entry_in_table, walk_of}
use Rattle.sv32_space.specs.Spaces.{root_at, table_frame, table_word, root_word, window_of_root_entry, leaf_word, IsSpace, IsMade}
use Rattle.sv32_space.specs.EntryReach.{side_may, reaches_if, entry_reach}
use Rattle.sv32_space.specs.declared.sides.Entry.{Entry}
use Rattle.sv32_space.specs.declared.sides.Entry.TheVariants.{Free, At, OnConsole}
use Rattle.sv32_space.specs.SpelledEntries.{entry_of_kind, kind_for, entry_spelled, entry_in_space, entries}
use Rattle.sv32_space.proofs.KindLemmas.{kind_is}
use Rattle.sv32_space.proofs.SpaceLemmas.{window_of_page, mapped_entry, table_within}
use Rattle.sv32_space.proofs.SpellingLemmas.{among_found}

-- ---- the flags of a word are those of its low bits

flag_0 : (b n : ℕ) → field 0 1 (b + 1024 * n) ≡ field 0 1 b
flag_0 b n = omega arith

flag_1 : (b n : ℕ) → field 1 1 (b + 1024 * n) ≡ field 1 1 b
flag_1 b n = omega arith

flag_2 : (b n : ℕ) → field 2 1 (b + 1024 * n) ≡ field 2 1 b
flag_2 b n = omega arith

flag_3 : (b n : ℕ) → field 3 1 (b + 1024 * n) ≡ field 3 1 b
flag_3 b n = omega arith

flag_4 : (b n : ℕ) → field 4 1 (b + 1024 * n) ≡ field 4 1 b
flag_4 b n = omega arith

flag_6 : (b n : ℕ) → field 6 1 (b + 1024 * n) ≡ field 6 1 b
flag_6 b n = omega arith

flag_7 : (b n : ℕ) → field 7 1 (b + 1024 * n) ≡ field 7 1 b
flag_7 b n = omega arith

ppn_in : (b n : ℕ) → b < 1024 → n < 2 ^ 22 → entry_ppn (b + 1024 * n) ≡ n
ppn_in b n low fits = omega arith

-- what a leaf with these low bits gives
abbrev gives : ℕ → Access → Bool
gives b access = is_valid b && is_leaf b && lets_through b access

gives_low : (word : ℕ) (access : Access) → gives word access ≡ gives (bits_of word 9 0) access
gives_low word access =
    let v : field 0 1 word ≡ field 0 1 (bits_of word 9 0) = omega arith in
    let r : field 1 1 word ≡ field 1 1 (bits_of word 9 0) = omega arith in
    let w : field 2 1 word ≡ field 2 1 (bits_of word 9 0) = omega arith in
    let x : field 3 1 word ≡ field 3 1 (bits_of word 9 0) = omega arith in
    let u : field 4 1 word ≡ field 4 1 (bits_of word 9 0) = omega arith in
    let a : field 6 1 word ≡ field 6 1 (bits_of word 9 0) = omega arith in
    let d : field 7 1 word ≡ field 7 1 (bits_of word 9 0) = omega arith in
    by_access v r w x u a d access
  where
    by_access : field 0 1 word ≡ field 0 1 (bits_of word 9 0) → field 1 1 word ≡ field 1 1 (bits_of word 9 0) → field 2 1 word ≡ field 2 1 (bits_of word 9 0)
        → field 3 1 word ≡ field 3 1 (bits_of word 9 0) → field 4 1 word ≡ field 4 1 (bits_of word 9 0) → field 6 1 word ≡ field 6 1 (bits_of word 9 0)
        → field 7 1 word ≡ field 7 1 (bits_of word 9 0) → (access : Access) → gives word access ≡ gives (bits_of word 9 0) access
    by_access v r w x u a d Fetch = cc
    by_access v r w x u a d Load = cc
    by_access v r w x u a d Store = cc

-- an entry of the last level, by its low bits and its number
last_by_bits : (word va : ℕ) (access : Access) → from_last_level word va access ≡ reaches_if (gives (bits_of word 9 0) access) (entry_ppn word) (page_offset va)
last_by_bits word va access = ap (λ t. reaches_if t (entry_ppn word) (page_offset va)) (gives_low word access)

-- ---- each spelling gives the accesses of its side

gives_own : (w x : Bool) (access : Access) → gives (here_bits (Own (right_of w x))) access ≡ side_may (Own (right_of w x)) access
gives_own true true Fetch = refl
gives_own true true Load = refl
gives_own true true Store = refl
gives_own true false Fetch = refl
gives_own true false Load = refl
gives_own true false Store = refl
gives_own false true Fetch = refl
gives_own false true Load = refl
gives_own false true Store = refl
gives_own false false Fetch = refl
gives_own false false Load = refl
gives_own false false Store = refl

gives_lent_out : (w x : Bool) (access : Access) → gives (here_bits (LentOut (right_of w x))) access ≡ side_may (LentOut (right_of w x)) access
gives_lent_out true true Fetch = refl
gives_lent_out true true Load = refl
gives_lent_out true true Store = refl
gives_lent_out true false Fetch = refl
gives_lent_out true false Load = refl
gives_lent_out true false Store = refl
gives_lent_out false true Fetch = refl
gives_lent_out false true Load = refl
gives_lent_out false true Store = refl
gives_lent_out false false Fetch = refl
gives_lent_out false false Load = refl
gives_lent_out false false Store = refl

gives_lent_in : (access : Access) → gives (here_bits LentIn) access ≡ side_may LentIn access
gives_lent_in Fetch = refl
gives_lent_in Load = refl
gives_lent_in Store = refl

gives_mut_out : (x : Bool) (access : Access) → gives (here_bits (MutOut x)) access ≡ side_may (MutOut x) access
gives_mut_out true Fetch = refl
gives_mut_out true Load = refl
gives_mut_out true Store = refl
gives_mut_out false Fetch = refl
gives_mut_out false Load = refl
gives_mut_out false Store = refl

gives_mut_in : (access : Access) → gives (here_bits MutIn) access ≡ side_may MutIn access
gives_mut_in Fetch = refl
gives_mut_in Load = refl
gives_mut_in Store = refl

gives_side : (side : Side) (access : Access) → gives (here_bits side) access ≡ side_may side access
gives_side (Own right) access = gives_own right.w right.x access
gives_side (LentOut right) access = gives_lent_out right.w right.x access
gives_side LentIn access = gives_lent_in access
gives_side (MutOut x) access = gives_mut_out x access
gives_side MutIn access = gives_mut_in access

out_own_invalid : (w x : Bool) → is_valid (out_bits (Own (right_of w x))) ≡ false
out_own_invalid true true = refl
out_own_invalid true false = refl
out_own_invalid false true = refl
out_own_invalid false false = refl

out_lent_invalid : (w x : Bool) → is_valid (out_bits (LentOut (right_of w x))) ≡ false
out_lent_invalid true true = refl
out_lent_invalid true false = refl
out_lent_invalid false true = refl
out_lent_invalid false false = refl

out_mut_invalid : (x : Bool) → is_valid (out_bits (MutOut x)) ≡ false
out_mut_invalid true = refl
out_mut_invalid false = refl

-- a page that is out has no V
out_invalid : (side : Side) → is_valid (out_bits side) ≡ false
out_invalid (Own right) = out_own_invalid right.w right.x
out_invalid (LentOut right) = out_lent_invalid right.w right.x
out_invalid LentIn = refl
out_invalid (MutOut x) = out_mut_invalid x
out_invalid MutIn = refl

-- where an entry of the last level leads, by what it spells
abbrev pub kind_reach : EntryKind → ℕ → Access → Walked
kind_reach FreeKind offset access = PageFault
kind_reach (Here side ppn) offset access = reaches_if (side_may side access) ppn offset
kind_reach (Out side slot) offset access = PageFault

-- .. read from its low bits
kind_with_reach : (low number : ℕ) (here out : Option Side) (kind : EntryKind) (offset : ℕ) (access : Access)
    → here_side low ≡ here → out_side low ≡ out → kind_with here out number ≡ Some kind
    → reaches_if (gives low access) number offset ≡ kind_reach kind offset access
kind_with_reach low number (Some side) out kind offset access h o found =
    ap (λ b. reaches_if (gives b access) number offset) (sym (among_found here_bits low sides side h))
    ∙ ap (λ g. reaches_if g number offset) (gives_side side access)
    ∙ ap (λ k. kind_reach k offset access) (same_Some (Here side number) kind found)
kind_with_reach low number None (Some side) kind offset access h o found =
    ap (λ b. reaches_if (gives b access) number offset) (sym (among_found out_bits low sides side o))
    ∙ ap (λ v. reaches_if (v && is_leaf (out_bits side) && lets_through (out_bits side) access) number offset) (out_invalid side)
    ∙ ap (λ k. kind_reach k offset access) (same_Some (Out side number) kind found)
kind_with_reach low number None None kind offset access h o found = absurd (none-some kind found)

pub spelled_reach : (word : ℕ) (kind : EntryKind) (va : ℕ) (access : Access) → kind_at word ≡ Some kind
    → from_last_level word va access ≡ kind_reach kind (page_offset va) access
unfolding kind_at
spelled_reach word kind va access found = elim (cases_Bool (word == 0)) [
  | inl zero ↦
      let given = rw zero at found in
      ap (λ w. from_last_level w va access) (eqb-true word 0 zero) ∙ ap (λ k. kind_reach k (page_offset va) access) (same_Some FreeKind kind given)
  | inr apart ↦
      let given = rw apart at found in
      last_by_bits word va access
      ∙ kind_with_reach (bits_of word 9 0) (bits_of word 31 10) (here_side (bits_of word 9 0)) (out_side (bits_of word 9 0)) kind (page_offset va) access refl refl given
]

-- ---- from the root

-- the parts of a virtual address, as its page is found in tables
first_index : (va : ℕ) → va < 2 ^ 32 → vpn_1 va ≡ va / 4096 / 1024
first_index va fits = omega arith

second_index : (va : ℕ) → vpn_0 va ≡ va / 4096 % 1024
second_index va = omega arith

-- the entry at an index of a table in RAM
table_entry_is : (ram : RamBytes) (f i : ℕ) → IsPlaced (area ram) → f < (area ram).frames → i < 1024
    → entry_in_table ram (ppn_of (area ram) f) i ≡ Some (table_word (pages ram) f i)
unfolding table_word
table_entry_is ram f i placed within low = words-in_frame ram f (4 * i) placed within (omega arith) (omega arith)

-- a pointer leads to its table
from_pointer_word : (ram : RamBytes) (f va : ℕ) (access : Access) → IsPlaced (area ram) → f < (area ram).frames
    → from_root ram (1 + 1024 * ppn_of (area ram) f) va access ≡ from_last_level (table_word (pages ram) f (vpn_0 va)) va access
from_pointer_word ram f va access placed within =
    let n : ℕ = ppn_of (area ram) f in
    rw (flag_0 1 (ppn_of (area ram) f), flag_1 1 (ppn_of (area ram) f), flag_2 1 (ppn_of (area ram) f), flag_3 1 (ppn_of (area ram) f), flag_4 1 (ppn_of (area ram) f), flag_6 1 (ppn_of (area ram) f), flag_7 1 (ppn_of (area ram) f))
    (ap (λ p. from_last_entry (entry_in_table ram p (vpn_0 va)) va access) (ppn_in 1 (ppn_of (area ram) f) (omega arith) (omega (arith, placed.aligned, placed.below_device, within)))
    ∙ ap (λ e. from_last_entry e va access) (table_entry_is ram f (vpn_0 va) placed within (omega arith)))

-- the entry of the root that the address selects
root_of_walk : (ram : RamBytes) (first va : ℕ) (access : Access) → IsPlaced (area ram) → va < 2 ^ 32 → IsSpace (area ram) (pages ram) first
    → walk_of ram first va access ≡ from_root ram (root_word (area ram) first (va / 4096 / 1024) (window_of_root_entry (va / 4096 / 1024))) va access
unfolding walk_of
root_of_walk ram first va access placed fits space =
    ap (λ e. from_root_entry ram e va access) (table_entry_is ram first (vpn_1 va) placed (omega (arith, space.within)) (omega arith))
    ∙ ap (λ i. from_root ram (table_word (pages ram) first i) va access) (first_index va fits)
    ∙ ap (λ word. from_root ram word va access) (space.root (va / 4096 / 1024) (omega (arith, fits)))

-- where a table maps the address, the walk comes to its page's entry
walk_to_leaf : (ram : RamBytes) (first va : ℕ) (w : Window) (access : Access) → IsPlaced (area ram) → va < 2 ^ 32 → IsSpace (area ram) (pages ram) first
    → window_of_root_entry (va / 4096 / 1024) ≡ Some w
    → walk_of ram first va access ≡ from_last_level (leaf_word (pages ram) first w (va / 4096)) va access
walk_to_leaf ram first va w access placed fits space mapped =
    let table = table_within w first (va / 4096 / 1024) (mapped_entry w (va / 4096 / 1024) mapped) in
    root_of_walk ram first va access placed fits space
    ∙ ap (λ o. from_root ram (root_word (area ram) first (va / 4096 / 1024) o) va access) mapped
    ∙ from_pointer_word ram (table_frame first w (va / 4096 / 1024)) va access placed (omega (arith, table.1, space.within))
    ∙ ap (λ i. from_last_level (table_word (pages ram) (table_frame first w (va / 4096 / 1024)) i) va access) (second_index va)

free_leads_nowhere : (va : ℕ) (access : Access) → from_last_level 0 va access ≡ PageFault
free_leads_nowhere va access = refl

nothing_leads_nowhere : (ram : RamBytes) (va : ℕ) (access : Access) → from_root ram 0 va access ≡ PageFault
nothing_leads_nowhere ram va access = refl

-- outside the windows the walk is a page fault
pub walk_outside : (ram : RamBytes) (first va : ℕ) (access : Access) → IsPlaced (area ram) → va < 2 ^ 32 → IsSpace (area ram) (pages ram) first
    → window_at (va / 4096) ≡ None → walk_of ram first va access ≡ PageFault
walk_outside ram first va access placed fits space outside = by_entry (window_of_root_entry (va / 4096 / 1024)) refl
  where
    by_entry : (window : Option Window) → window_of_root_entry (va / 4096 / 1024) ≡ window → walk_of ram first va access ≡ PageFault
    by_entry None none =
        root_of_walk ram first va access placed fits space
        ∙ ap (λ o. from_root ram (root_word (area ram) first (va / 4096 / 1024) o) va access) none
        ∙ nothing_leads_nowhere ram va access
    by_entry (Some w) mapped =
        walk_to_leaf ram first va w access placed fits space mapped
        ∙ ap (λ word. from_last_level word va access) (space.outside w (va / 4096) mapped outside)
        ∙ free_leads_nowhere va access

-- in a window it comes to the entry of the page
pub walk_in_window : (ram : RamBytes) (first va : ℕ) (w : Window) (access : Access) → IsPlaced (area ram) → va < 2 ^ 32 → IsSpace (area ram) (pages ram) first
    → window_at (va / 4096) ≡ Some w
    → walk_of ram first va access ≡ from_last_level (leaf_word (pages ram) first w (va / 4096)) va access
walk_in_window ram first va w access placed fits space here =
    walk_to_leaf ram first va w access placed fits space (window_of_page w (va / 4096) here)

-- ---- by the entry of the place

-- an entry leads where its spelling does
spelling_leads : (a : Area) (entry : Entry) (offset : ℕ) (access : Access) → kind_reach (kind_for a entry) offset access ≡ entry_reach a entry offset access
spelling_leads a Free offset access = refl
spelling_leads a (At side (Frame f)) offset access = refl
spelling_leads a (At side (Slot s)) offset access = refl
spelling_leads a (OnConsole w) offset access = refl

entry_leads : (a : Area) (kind : EntryKind) (entry : Entry) (offset : ℕ) (access : Access) → entry_of_kind a (Some kind) ≡ Some entry
    → kind_reach kind offset access ≡ entry_reach a entry offset access
entry_leads a kind entry offset access is =
    ap (λ k. kind_reach k offset access) (kind_is a kind entry is) ∙ spelling_leads a entry offset access

-- the entry of a place of a made space, with its word
entry_word : (procs : ℕ) (ram : RamBytes) (q : Place) (entry : Entry) → entries procs ram q ≡ Some entry
    → (w : Window) × (window_at q.vpn.0 ≡ Some w) × (entry_spelled (area ram) (leaf_word (pages ram) (root_at q.pid.0) w q.vpn.0) ≡ Some entry)
unfolding entries
entry_word procs ram q entry found = elim (cases_Bool (is_pid procs q.pid.0 && nat_le (root_at q.pid.0 + 21) (area ram).frames)) [
  | inl there ↦ let given = rw there at found in by_window (window_at q.vpn.0) refl given
  | inr none ↦ let given = rw none at found in absurd (none-some entry given)
]
  where
    by_window : (window : Option Window) → window_at q.vpn.0 ≡ window → entry_in_space (area ram) (pages ram) (root_at q.pid.0) q.vpn.0 window ≡ Some entry
        → (w : Window) × (window_at q.vpn.0 ≡ Some w) × (entry_spelled (area ram) (leaf_word (pages ram) (root_at q.pid.0) w q.vpn.0) ≡ Some entry)
    by_window None here e = absurd (none-some entry e)
    by_window (Some w) here e = (w, here, e)

-- The walk of a made space leads where the entry of the place says.
pub walk_by_entry : (procs : ℕ) (ram : RamBytes) (q : Place) (entry : Entry) (va : ℕ) (access : Access) → IsPlaced (area ram) → va < 2 ^ 32
    → IsMade ram q.pid.0 → q.vpn.0 ≡ va / 4096 → entries procs ram q ≡ Some entry
    → walk_of ram (root_at q.pid.0) va access ≡ entry_reach (area ram) entry (va % 4096) access
walk_by_entry procs ram q entry va access placed fits made page found =
    let there : (w : Window) × (window_at q.vpn.0 ≡ Some w) × (entry_spelled (area ram) (leaf_word (pages ram) (root_at q.pid.0) w q.vpn.0) ≡ Some entry) =
    entry_word procs ram q entry found in
    let word : ℕ = leaf_word (pages ram) (root_at q.pid.0) there.0 q.vpn.0 in
    walk_in_window ram (root_at q.pid.0) va there.0 access placed fits made.space (ap (λ n. window_at n) (sym page) ∙ there.1)
    ∙ ap (λ n. from_last_level (leaf_word (pages ram) (root_at q.pid.0) there.0 n) va access) (sym page)
    ∙ of_word word (kind_at word) refl there.2
  where
    of_word : (word : ℕ) (kind : Option EntryKind) → kind_at word ≡ kind → entry_of_kind (area ram) (kind_at word) ≡ Some entry
        → from_last_level word va access ≡ entry_reach (area ram) entry (va % 4096) access
    of_word word None is e = absurd (none-some entry (ap (λ k. entry_of_kind (area ram) k) (sym is) ∙ e))
    of_word word (Some kind) is e =
        spelled_reach word kind va access is
        ∙ ap (λ o. kind_reach kind o access) offset
        ∙ entry_leads (area ram) kind entry (va % 4096) access (ap (λ k. entry_of_kind (area ram) k) (sym is) ∙ e)
      where
        offset : page_offset va ≡ va % 4096
        offset = omega arith
