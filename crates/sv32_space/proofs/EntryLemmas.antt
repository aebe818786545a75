-- The entries of all places, after a write.
use Rattle.xk_base.specs.Tables.Circle.{is_pid}
use Rattle.std.proofs.Common.{◌≡◌, ◌+◌, ◌*◌, ◌/◌, ◌%◌, ◌^◌, ◌<◌, ◌≤◌, ℕ, Bool, true, false, cond, ◌&&◌, nat_le, nat_lt, List, Option, Some, None, IsTrue, IsFalse, IsSome, is_some, nat_eq, refl, sym, ap, subst, ◌∙◌, inl, inr, arith}
use Rattle.std.proofs.lemmas.Bool.{cases_Bool, cases_eq, cond-false, ne_eqb, and_parts, and_from, leb-true, le-leb, ltb-true}
use Rattle.std.proofs.lemmas.Option.{same_Some}
use Rattle.xk_base.specs.declared.ids.Place.{Place}
use Rattle.xk_base.specs.declared.windows.Window.{Window}
use Rattle.xk_base.specs.Numbers.Windows.{window_at}
use Rattle.xk_base.specs.Tables.Counting.{put_at}
use Rattle.phys_pages.specs.Ram.{RamBytes, Area, IsPlaced, area, pages, words}
use Rattle.phys_pages.proofs.PageLemmas.{length-pages}
use Rattle.phys_pages.proofs.WordLemmas.{words-in_frame}
use Rattle.ledger_model.specs.Places.{same_place, is_user_place}
use Rattle.ledger_model.proofs.PlaceLemmas.{place_from, same_place-true, same_place-false}
use Rattle.sv32_space.specs.declared.sides.Entry.{Entry}
use Rattle.sv32_space.specs.Spellings.{kind_at}
use Rattle.sv32_space.specs.Spaces.{root_at, IsTableFrame, table_frame, table_word, leaf_word, leaf_address, IsSpace, IsMade}
use Rattle.sv32_space.specs.SpelledEntries.{entry_spelled, entry_in_space, entries_of, entries}
use Rattle.sv32_space.proofs.SpaceLemmas.{with_leaf, IsWrite, leaf_written, leaf_other, leaf_elsewhere, leaf_stays, spaces_with_leaf, mapped_page, table_within, one_space}

-- a process's space lies in RAM
abbrev lies : ℕ → Area → ℕ → Bool
lies procs a pid = is_pid procs pid && nat_le (root_at pid + 21) a.frames

of_true : (b : Bool) → IsTrue b → b ≡ true
of_true b t = t

is_pid-bounds : (procs pid : ℕ) → is_pid procs pid ≡ true → (2 ≤ pid) × (pid < procs + 2)
is_pid-bounds procs pid process =
    let parts : (nat_le 2 pid ≡ true) × (nat_lt pid (procs + 2) ≡ true) = and_parts (nat_le 2 pid) (nat_lt pid (procs + 2)) process in
    (leb-true 2 pid parts.0, ltb-true pid (procs + 2) parts.1)

-- the entry of a place of a space
pub entry_at_place : (procs : ℕ) (a : Area) (P : ℕ → List ℕ) (q : Place) (w : Window) → is_pid procs q.pid.0 ≡ true → root_at q.pid.0 + 21 ≤ a.frames
    → window_at q.vpn.0 ≡ Some w → entries_of procs a P q ≡ entry_spelled a (leaf_word P (root_at q.pid.0) w q.vpn.0)
entry_at_place procs a P q w process within here =
    rw (and_from (is_pid procs q.pid.0) (nat_le (root_at q.pid.0 + 21) a.frames) process (le-leb (root_at q.pid.0 + 21) a.frames within), here) refl

-- an entry stays where the pages of its process's tables do
pub entry_stays : (procs : ℕ) (a : Area) (P Q : ℕ → List ℕ) (q : Place)
    → ((f : ℕ) → 2 ≤ q.pid.0 → IsTableFrame (root_at q.pid.0) f → Q f ≡ P f) → entries_of procs a Q q ≡ entries_of procs a P q
entry_stays procs a P Q q same = elim (cases_Bool (lies procs a q.pid.0)) [
  | inl there ↦
      let process : is_pid procs q.pid.0 ≡ true = (and_parts (is_pid procs q.pid.0) (nat_le (root_at q.pid.0 + 21) a.frames) there).0 in
      let low : 2 ≤ q.pid.0 = (is_pid-bounds procs q.pid.0 process).0 in
      rw there (by_window (window_at q.vpn.0) refl (λ f. same f low))
  | inr none ↦ rw none refl
]
  where
    by_window : (window : Option Window) → window_at q.vpn.0 ≡ window → ((f : ℕ) → IsTableFrame (root_at q.pid.0) f → Q f ≡ P f)
        → entry_in_space a Q (root_at q.pid.0) q.vpn.0 window ≡ entry_in_space a P (root_at q.pid.0) q.vpn.0 window
    by_window None here frames = refl
    by_window (Some w) here frames = ap (λ word. entry_spelled a word) (leaf_stays P Q (root_at q.pid.0) w q.vpn.0 (mapped_page w q.vpn.0 here) frames)

-- the entries of so many processes stay where the pages of their tables do
pub entries_stay : (procs : ℕ) (old new : RamBytes) → area new ≡ area old → ((f : ℕ) → f < 21 * procs → pages new f ≡ pages old f)
    → entries procs new ≡ entries procs old
unfolding entries
entries_stay procs old new same_area same =
    ap (λ a. entries_of procs a (pages new)) same_area ∙ (λ i q. at q i)
  where
    at : (q : Place) → entries_of procs (area old) (pages new) q ≡ entries_of procs (area old) (pages old) q
    at q = elim (cases_Bool (is_pid procs q.pid.0)) [
      | inl process ↦
          let bounds : (2 ≤ q.pid.0) × (q.pid.0 < procs + 2) = is_pid-bounds procs q.pid.0 process in
          entry_stays procs (area old) (pages old) (pages new) q (λ f low table. same f (omega (arith, table.1, bounds.1, low)))
      | inr none ↦ rw none refl
    ]

-- as where a page behind all tables is written
pub entries_after_page : (procs : ℕ) (old new : RamBytes) (f : ℕ) (page : List ℕ) → area new ≡ area old → pages new ≡ put_at nat_eq (pages old) f page
    → 21 * procs ≤ f → entries procs new ≡ entries procs old
entries_after_page procs old new f page same_area now behind =
    entries_stay procs old new same_area
    (λ g low. ap (λ P. P g) now ∙ cond-false (nat_eq g f) page (pages old g) (ne_eqb g f (λ same. omega arith)))

-- there is no entry but at a user place
pub no_entry_elsewhere : (procs : ℕ) (ram : RamBytes) (q : Place) → IsFalse (is_user_place procs q) → entries procs ram q ≡ None
unfolding entries
no_entry_elsewhere procs ram q none = by_window (window_at q.vpn.0) none
  where
    by_window : (window : Option Window) → IsFalse (is_pid procs q.pid.0 && is_some window)
        → (cond (lies procs (area ram) q.pid.0) (entry_in_space (area ram) (pages ram) (root_at q.pid.0) q.vpn.0 window) None) ≡ None
    by_window None outside = cond_same (lies procs (area ram) q.pid.0)
      where
        cond_same : (b : Bool) → cond {A = Option Entry} b None None ≡ None
        cond_same true = refl
        cond_same false = refl
    by_window (Some w) other = elim (cases_Bool (is_pid procs q.pid.0)) [
      | inl process ↦ let given = rw process at other in absurd (false_not_true given)
      | inr other' ↦ rw other' refl
    ]
      where
        false_not_true : IsFalse true → ⊥
        false_not_true t = cc

-- after the entry of a place was written the entries are as before, but for that one
pub entries_with_leaf : (procs : ℕ) (a : Area) (P : ℕ → List ℕ) (p : Place) (w : Window) (v : ℕ) → is_pid procs p.pid.0 ≡ true
    → IsWrite a P (root_at p.pid.0) w p.vpn.0 v
    → entries_of procs a (with_leaf P (root_at p.pid.0) w p.vpn.0 v) ≡ put_at same_place (entries_of procs a P) p (entry_spelled a v)
entries_with_leaf procs a P p w v process write = λ i q. at q i
  where
    Q : ℕ → List ℕ
    Q = with_leaf P (root_at p.pid.0) w p.vpn.0 v

    low : 2 ≤ p.pid.0
    low = (is_pid-bounds procs p.pid.0 process).0

    apart : (q : Place) → (q ≡ p → ⊥) → (u : Window) → window_at q.vpn.0 ≡ Some u → 2 ≤ q.pid.0
        → leaf_word Q (root_at q.pid.0) u q.vpn.0 ≡ leaf_word P (root_at q.pid.0) u q.vpn.0
    apart q other u here low' = elim (cases_eq q.pid.0 p.pid.0) [
      | inl same ↦
          ap (λ n. leaf_word Q (root_at n) u q.vpn.0) same
          ∙ leaf_other a P (root_at p.pid.0) w p.vpn.0 v write u q.vpn.0 (mapped_page u q.vpn.0 here) (λ page. other (place_from q p same page))
          ∙ ap (λ n. leaf_word P (root_at n) u q.vpn.0) (sym same)
      | inr process' ↦
          leaf_stays P Q (root_at q.pid.0) u q.vpn.0 (mapped_page u q.vpn.0 here)
          (λ f there. leaf_elsewhere P (root_at p.pid.0) w p.vpn.0 v write.here f (λ here'. process' (one_space q.pid.0 p.pid.0 f low' low there here')))
    ]

    by_window : (q : Place) → (q ≡ p → ⊥) → 2 ≤ q.pid.0 → (window : Option Window) → window_at q.vpn.0 ≡ window
        → entry_in_space a Q (root_at q.pid.0) q.vpn.0 window ≡ entry_in_space a P (root_at q.pid.0) q.vpn.0 window
    by_window q other low' None here = refl
    by_window q other low' (Some u) here = ap (λ word. entry_spelled a word) (apart q other u here low')

    elsewhere : (q : Place) → (q ≡ p → ⊥) → entries_of procs a Q q ≡ entries_of procs a P q
    elsewhere q other = elim (cases_Bool (lies procs a q.pid.0)) [
      | inl there ↦
          let process' : is_pid procs q.pid.0 ≡ true = (and_parts (is_pid procs q.pid.0) (nat_le (root_at q.pid.0 + 21) a.frames) there).0 in
          rw there (by_window q other (is_pid-bounds procs q.pid.0 process').0 (window_at q.vpn.0) refl)
      | inr none ↦ rw none refl
    ]

    written : entries_of procs a Q p ≡ entry_spelled a v
    written =
        entry_at_place procs a Q p w process write.space.within write.here
        ∙ ap (λ word. entry_spelled a word) (leaf_written a P (root_at p.pid.0) w p.vpn.0 v write)

    at : (q : Place) → entries_of procs a Q q ≡ put_at same_place (entries_of procs a P) p (entry_spelled a v) q
    at q = elim (cases_Bool (same_place q p)) [
      | inl same ↦ rw same (ap (λ place. entries_of procs a Q place) (same_place-true q p same) ∙ written)
      | inr other ↦ rw other (elsewhere q (same_place-false q p other))
    ]

-- ---- an entry is read

pub window_there : (window : Option Window) → IsSome window → (w : Window) × (window ≡ Some w)
window_there None none = absurd (cc)
window_there (Some w) some = (w, refl)

-- what is read at the address of a place's entry
pub leaf_read : (ram : RamBytes) (q : Place) (pa word : ℕ) → IsPlaced (area ram) → IsMade ram q.pid.0
    → ((w : Window) → window_at q.vpn.0 ≡ Some w → pa ≡ leaf_address (area ram) w q) → words ram pa ≡ Some word
    → (w : Window) → window_at q.vpn.0 ≡ Some w → word ≡ leaf_word (pages ram) (root_at q.pid.0) w q.vpn.0
unfolding table_word
leaf_read ram q pa word placed made address there w here =
    let table = table_within w (root_at q.pid.0) (q.vpn.0 / 1024) (mapped_page w q.vpn.0 here) in
    let stands : words ram (leaf_address (area ram) w q) ≡ Some (leaf_word (pages ram) (root_at q.pid.0) w q.vpn.0) =
    words-in_frame ram (table_frame (root_at q.pid.0) w (q.vpn.0 / 1024)) (4 * (q.vpn.0 % 1024)) placed (omega (arith, table.1, made.space.within)) (omega arith) (omega arith) in
    same_Some word (leaf_word (pages ram) (root_at q.pid.0) w q.vpn.0) (sym there ∙ ap (λ n. words ram n) (address w here) ∙ stands)

-- it is a spelling, and the place's entry
pub leaf_is_entry : (ram : RamBytes) (q : Place) (word : ℕ) → IsMade ram q.pid.0 → IsSome (window_at q.vpn.0)
    → ((w : Window) → window_at q.vpn.0 ≡ Some w → word ≡ leaf_word (pages ram) (root_at q.pid.0) w q.vpn.0)
    → IsSome (kind_at word) × ((procs : ℕ) → IsTrue (is_pid procs q.pid.0) → entries procs ram q ≡ entry_spelled (area ram) word)
unfolding entries
leaf_is_entry ram q word made window is =
    let there : (w : Window) × (window_at q.vpn.0 ≡ Some w) = window_there (window_at q.vpn.0) window in
    let same : word ≡ leaf_word (pages ram) (root_at q.pid.0) there.0 q.vpn.0 = is there.0 there.1 in (
      subst (λ n. IsSome (kind_at n)) (sym same) (made.space.spelled there.0 q.vpn.0 there.1),
      λ procs process. entry_at_place procs (area ram) (pages ram) q there.0 (of_true (is_pid procs q.pid.0) process) made.space.within there.1
          ∙ ap (λ n. entry_spelled (area ram) n) (sym same),
    )

-- ---- an entry is written

-- What is known after the word of a place's entry was written.
pub record IsSet (old new : RamBytes) (q : Place) (v : ℕ) : Type 0 where
  pub placed : IsPlaced (area old)
  pub made : IsMade old q.pid.0
  pub window : IsSome (window_at q.vpn.0)
  pub fits : v < 2 ^ 32
  pub spelled : IsSome (kind_at v)
  pub area : area new ≡ area old
  pub pages : (w : Window) → window_at q.vpn.0 ≡ Some w → pages new ≡ with_leaf (pages old) (root_at q.pid.0) w q.vpn.0 v

pub is_write : (old new : RamBytes) (q : Place) (v : ℕ) → IsSet old new q v → (w : Window) → window_at q.vpn.0 ≡ Some w
    → IsWrite (area old) (pages old) (root_at q.pid.0) w q.vpn.0 v
is_write old new q v set w here = record {
  space = set.made.space;
  here = here;
  whole =
      let table = table_within w (root_at q.pid.0) (q.vpn.0 / 1024) (mapped_page w q.vpn.0 here) in
      length-pages old (table_frame (root_at q.pid.0) w (q.vpn.0 / 1024)) (omega (arith, table.1, set.made.space.within));
  fits = set.fits;
}

pub set_entries : (old new : RamBytes) (q : Place) (v : ℕ) → IsSet old new q v → (procs : ℕ) → IsTrue (is_pid procs q.pid.0)
    → entries procs new ≡ put_at same_place (entries procs old) q (entry_spelled (area old) v)
unfolding entries
set_entries old new q v set procs process =
    let there : (w : Window) × (window_at q.vpn.0 ≡ Some w) = window_there (window_at q.vpn.0) set.window in
    ap (λ a. entries_of procs a (pages new)) set.area
    ∙ ap (λ P. entries_of procs (area old) P) (set.pages there.0 there.1)
    ∙ entries_with_leaf procs (area old) (pages old) q there.0 v (of_true (is_pid procs q.pid.0) process) (is_write old new q v set there.0 there.1)

pub set_pages : (old new : RamBytes) (q : Place) (v : ℕ) → IsSet old new q v → (f : ℕ) → (IsTableFrame (root_at q.pid.0) f → ⊥)
    → pages new f ≡ pages old f
set_pages old new q v set f outside =
    let there : (w : Window) × (window_at q.vpn.0 ≡ Some w) = window_there (window_at q.vpn.0) set.window in
    ap (λ P. P f) (set.pages there.0 there.1) ∙ leaf_elsewhere (pages old) (root_at q.pid.0) there.0 q.vpn.0 v there.1 f outside

pub set_made : (old new : RamBytes) (q : Place) (v : ℕ) → IsSet old new q v → (pid : ℕ) → IsMade old pid → IsMade new pid
set_made old new q v set pid made =
    let there : (w : Window) × (window_at q.vpn.0 ≡ Some w) = window_there (window_at q.vpn.0) set.window in
    record {
      process = made.process;
      space =
          subst (λ a. IsSpace a (pages new) (root_at pid)) (sym set.area)
          (subst (λ P. IsSpace (area old) P (root_at pid)) (sym (set.pages there.0 there.1))
          (spaces_with_leaf (area old) (pages old) q.pid.0 there.0 q.vpn.0 v set.made.process (is_write old new q v set there.0 there.1) set.spelled pid made.process made.space));
    }
