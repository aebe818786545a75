-- How a space is made, frame by frame and entry by entry.
use Rattle.xk_base.specs.Tables.Circle.{is_pid}
use Rattle.std.proofs.Common.{◌≡◌, ◌+◌, ◌*◌, ◌/◌, ◌%◌, ◌^◌, ◌<◌, ◌≤◌, ◌≢◌, ℕ, true, Some, IsSome, is_some, slice_index, nat_eq, length, refl, sym, ap, subst, ◌∙◌, inl, inr, ◌⊎◌, arith}
use Rattle.std.proofs.lemmas.Bool.{cases_eq, cases_lt, and_parts, ne_eqb}
use Rattle.xk_base.specs.declared.ids.Place.{Place}
use Rattle.xk_base.specs.declared.windows.Window.{Window}
use Rattle.xk_base.specs.Tables.Counting.{put_at}
use Rattle.xk_base.specs.Numbers.Windows.{window_at}
use Rattle.phys_pages.specs.Ram.{RamBytes, IsPlaced, area, pages, with_word, ppn_of, frame_at}
use Rattle.phys_pages.proofs.PageLemmas.{length-pages}
use Rattle.phys_pages.proofs.WordLemmas.{word_in-zero}
use Rattle.ledger_model.specs.Places.{is_user_place}
use Rattle.sv32_space.specs.declared.sides.Entry.TheVariants.{Free}
use Rattle.sv32_space.specs.Spellings.{kind_at}
use Rattle.sv32_space.specs.Spaces.{root_at, IsTableFrame, table_frame, table_word, root_word, window_of_root_entry, leaf_word, IsSpace, IsMade}
use Rattle.sv32_space.specs.SpelledEntries.{entry_spelled, entries_of, entries}
use Rattle.sv32_space.proofs.SpaceLemmas.{IsMapped, mapped_page, mapped_entry, table_within, table_word_same, table_word_other, write_at, made_stays}
use Rattle.sv32_space.proofs.EntryLemmas.{entry_at_place, entry_stays, window_there}

-- The tables of the space from `first` on are empty below frame n, and all other frames are as before.
pub record AreCleared (old new : RamBytes) (first n : ℕ) : Type 0 where
  pub zero : (f i : ℕ) → first < f → f < n → slice_index (pages new f) i ≡ 0
  pub others : (g : ℕ) → (g ≤ first) ⊎ (n ≤ g) → pages new g ≡ pages old g
  pub area : area new ≡ area old

pub cleared_one : (old ram new : RamBytes) (first n : ℕ) → first < n → AreCleared old ram first n
    → ((i : ℕ) → slice_index (pages new n) i ≡ 0) → ((g : ℕ) → g ≢ n → pages new g ≡ pages ram g) → area new ≡ area ram
    → AreCleared old new first (n + 1)
cleared_one old ram new first n some before zero others same = record {
  zero = at;
  others = λ g outside. others g (λ e. not_inside g outside e) ∙ before.others g (still g outside);
  area = same ∙ before.area;
}
  where
    at : (f i : ℕ) → first < f → f < n + 1 → slice_index (pages new f) i ≡ 0
    at f i low high = elim (cases_eq f n) [
      | inl here ↦ ap (λ g. slice_index (pages new g) i) here ∙ zero i
      | inr other ↦ ap (λ page. slice_index page i) (others f other) ∙ before.zero f i low (omega arith)
    ]

    not_inside : (g : ℕ) → (g ≤ first) ⊎ (n + 1 ≤ g) → g ≡ n → ⊥
    not_inside g (inl low) e = omega arith
    not_inside g (inr high) e = omega arith

    still : (g : ℕ) → (g ≤ first) ⊎ (n + 1 ≤ g) → (g ≤ first) ⊎ (n ≤ g)
    still g (inl low) = inl low
    still g (inr high) = inr (omega arith)

-- The entries of the root below index n are written, and all other frames are as before.
pub record IsRootBelow (old new : RamBytes) (first n : ℕ) : Type 0 where
  pub root : (i : ℕ) → i < n → table_word (pages new) first i ≡ root_word (area new) first i (window_of_root_entry i)
  pub others : (g : ℕ) → g ≢ first → pages new g ≡ pages old g
  pub area : area new ≡ area old

pub root_one : (old ram new : RamBytes) (first n v : ℕ) → IsPlaced (area old) → first < (area old).frames → n < 1024 → v < 2 ^ 32
    → v ≡ root_word (area ram) first n (window_of_root_entry n) → IsRootBelow old ram first n
    → (pa : ℕ) → pa ≡ ppn_of (area old) first * 4096 + 4 * n
    → pages new ≡ put_at nat_eq (pages ram) (frame_at (area ram) pa) (with_word (pages ram (frame_at (area ram) pa)) (pa % 4096) v)
    → area new ≡ area ram → IsRootBelow old new first (n + 1)
root_one old ram new first n v placed within low fits is before pa address now same = record {
  root = at;
  others = λ g other. ap (λ P. P g) written ∙ elsewhere g other ∙ before.others g other;
  area = same ∙ before.area;
}
  where
    whole : length (pages ram first) ≡ 4096
    whole = length-pages ram first (subst (λ a. first < a.frames) (sym before.area) within)

    aligned : (area ram).start % 4096 ≡ 0
    aligned = ap (λ a. a.start % 4096) before.area ∙ placed.aligned

    written : pages new ≡ put_at nat_eq (pages ram) first (with_word (pages ram first) (4 * n) v)
    written =
        now
        ∙ ap (λ p. put_at nat_eq (pages ram) (frame_at (area ram) p) (with_word (pages ram (frame_at (area ram) p)) (p % 4096) v)) (address ∙ ap (λ a. ppn_of a first * 4096 + 4 * n) (sym before.area))
        ∙ write_at (area ram) (pages ram) first n v aligned low

    elsewhere : (g : ℕ) → g ≢ first → put_at nat_eq (pages ram) first (with_word (pages ram first) (4 * n) v) g ≡ pages ram g
    elsewhere g other = rw (ne_eqb g first other) refl

    area_of : (i : ℕ) → root_word (area ram) first i (window_of_root_entry i) ≡ root_word (area new) first i (window_of_root_entry i)
    area_of i = ap (λ a. root_word a first i (window_of_root_entry i)) (sym same)

    at : (i : ℕ) → i < n + 1 → table_word (pages new) first i ≡ root_word (area new) first i (window_of_root_entry i)
    at i below = ap (λ P. table_word P first i) written ∙ elim (cases_eq i n) [
      | inl here ↦
          ap (λ j. table_word (put_at nat_eq (pages ram) first (with_word (pages ram first) (4 * n) v)) first j) here
          ∙ table_word_same (pages ram) first n v whole low fits ∙ is
          ∙ ap (λ j. root_word (area ram) first j (window_of_root_entry j)) (sym here) ∙ area_of i
      | inr other ↦
          table_word_other (pages ram) first n v first i whole low (λ frame index. other index)
          ∙ before.root i (omega arith) ∙ area_of i
    ]

-- ---- the space is made

-- What is known of RAM with an empty space from `first` on.
pub record IsEmptySpace (new : RamBytes) (first : ℕ) : Type 0 where
  pub within : first + 21 ≤ (area new).frames
  pub root : (i : ℕ) → i < 1024 → table_word (pages new) first i ≡ root_word (area new) first i (window_of_root_entry i)
  pub zero : (f i : ℕ) → first < f → f < first + 21 → slice_index (pages new f) i ≡ 0

pub empty_leaf : (new : RamBytes) (first : ℕ) → IsEmptySpace new first → (w : Window) (vpn : ℕ) → IsMapped w (vpn / 1024) → leaf_word (pages new) first w vpn ≡ 0
unfolding table_word
empty_leaf new first empty w vpn mapped =
    let table = table_within w first (vpn / 1024) mapped in
    word_in-zero (pages new (table_frame first w (vpn / 1024))) (4 * (vpn % 1024)) (λ i. empty.zero (table_frame first w (vpn / 1024)) i table.0 table.1)

free_is_kind : IsSome (kind_at 0)
unfolding kind_at
free_is_kind = refl

pub empty_space : (new : RamBytes) (first : ℕ) → IsEmptySpace new first → IsSpace (area new) (pages new) first
empty_space new first empty = record {
  within = empty.within;
  root = empty.root;
  outside = λ w vpn here none. empty_leaf new first empty w vpn (mapped_entry w (vpn / 1024) here);
  spelled = λ w vpn here. subst (λ n. IsSome (kind_at n)) (sym (empty_leaf new first empty w vpn (mapped_page w vpn here))) free_is_kind;
}

pub empty_made : (new : RamBytes) (first : ℕ) → IsEmptySpace new first → (pid : ℕ) → 2 ≤ pid → root_at pid ≡ first → IsMade new pid
empty_made new first empty pid low is = record { process = low; space = subst (λ f. IsSpace (area new) (pages new) f) (sym is) (empty_space new first empty) }

free_spelled : (new : RamBytes) → entry_spelled (area new) 0 ≡ Some Free
unfolding kind_at
free_spelled new = refl

pub empty_free : (new : RamBytes) (first : ℕ) → IsEmptySpace new first → (procs : ℕ) (q : Place) → root_at q.pid.0 ≡ first
    → is_user_place procs q ≡ true → entries procs new q ≡ Some Free
unfolding entries
empty_free new first empty procs q is user =
    let parts : (is_pid procs q.pid.0 ≡ true) × IsSome (window_at q.vpn.0) = and_parts (is_pid procs q.pid.0) (is_some (window_at q.vpn.0)) user in
    let there : (w : Window) × (window_at q.vpn.0 ≡ Some w) = window_there (window_at q.vpn.0) parts.1 in
    entry_at_place procs (area new) (pages new) q there.0 parts.0 (omega (arith, is, empty.within)) there.1
    ∙ ap (λ f. entry_spelled (area new) (leaf_word (pages new) f there.0 q.vpn.0)) is
    ∙ ap (λ n. entry_spelled (area new) n) (empty_leaf new first empty there.0 q.vpn.0 (mapped_page there.0 q.vpn.0 there.1))
    ∙ free_spelled new

-- ---- the spaces beside it stay

-- a frame that isn't of the space stands before its root's tables or behind them
pub beside : (first f : ℕ) → (IsTableFrame first f → ⊥) → (f ≤ first) ⊎ (first + 21 ≤ f)
beside first f outside = elim (cases_lt first f) [
  | inl above ↦ elim (cases_lt f (first + 21)) [
    | inl within ↦ absurd (outside (omega arith, within))
    | inr behind ↦ inr behind
  ]
  | inr before ↦ inl before
]

pub not_of_space : (first g f : ℕ) → (g + 21 ≤ first) ⊎ (first + 21 ≤ g) → IsTableFrame g f → IsTableFrame first f → ⊥
not_of_space first g f (inl before) there here = omega (arith, there, here)
not_of_space first g f (inr behind) there here = omega (arith, there, here)

pub made_beside : (old new : RamBytes) (first : ℕ) → area new ≡ area old → ((f : ℕ) → (IsTableFrame first f → ⊥) → pages new f ≡ pages old f)
    → (pid : ℕ) → (root_at pid + 21 ≤ first) ⊎ (first + 21 ≤ root_at pid) → IsMade old pid → IsMade new pid
made_beside old new first same_area same pid beside made =
    made_stays old new pid same_area (λ f there. same f (not_of_space first (root_at pid) f beside there)) made

pub entry_beside : (old new : RamBytes) (first : ℕ) → area new ≡ area old → ((f : ℕ) → (IsTableFrame first f → ⊥) → pages new f ≡ pages old f)
    → (procs : ℕ) (q : Place) → (root_at q.pid.0 + 21 ≤ first) ⊎ (first + 21 ≤ root_at q.pid.0) → entries procs new q ≡ entries procs old q
unfolding entries
entry_beside old new first same_area same procs q beside =
    ap (λ a. entries_of procs a (pages new) q) same_area
    ∙ entry_stays procs (area old) (pages old) (pages new) q (λ f low there. same f (not_of_space first (root_at q.pid.0) f beside there))
