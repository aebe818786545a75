-- Where tables and entries of address spaces stand.
use Rattle.xk_base.specs.Tables.Circle.{is_pid}
use Rattle.std.proofs.Common.{◌≡◌, ◌+◌, ◌*◌, ◌/◌, ◌%◌, ◌^◌, ◌<◌, ◌≤◌, ℕ, true, nat_le, nat_lt, List, length, Some, IsSome, IsTrue, nat_eq, refl, sym, ap, subst, ◌∙◌, inl, inr, ◌⊎◌, arith}
use Rattle.std.proofs.lemmas.Bool.{cases_eq, cases_order, cond-false, eq-eqb, ne_eqb, and_parts, ltb-true}
use Rattle.std.proofs.lemmas.Bool.Decides.{nat_tests}
use Rattle.std.proofs.lemmas.Option.{none-some, same_Some}
use Rattle.xk_base.specs.declared.windows.Window.{Window}
use Rattle.xk_base.specs.declared.windows.Window.TheVariants.{Image, Heap, Message, Map, Stack}
use Rattle.xk_base.specs.Numbers.Windows.{first_page, last_page, window_at}
use Rattle.xk_base.specs.Tables.Counting.{put_at}
use Rattle.phys_pages.specs.Ram.{RamBytes, Area, area, pages, word_in, with_word, ppn_of, frame_at}
use Rattle.phys_pages.proofs.WordLemmas.{word_in-with_word, word_in-other}
use Rattle.sv32_space.specs.Spellings.{kind_at}
use Rattle.sv32_space.specs.Spaces.{root_at, IsTableFrame, first_root_entry, window_of_root_entry, table_frame, table_word, leaf_word, IsSpace, IsMade}

-- ---- windows and tables

-- a page of a window lies between its ends
pub window_bounds : (w : Window) (v : ℕ) → window_at v ≡ Some w → (first_page w ≤ v) × (v ≤ last_page w)
window_bounds Image v found = grind (arith, nat_tests)
window_bounds Heap v found = grind (arith, nat_tests)
window_bounds Message v found = grind (arith, nat_tests)
window_bounds Map v found = grind (arith, nat_tests)
window_bounds Stack v found = grind (arith, nat_tests)

-- entry i of the root is one of the four that map the window
abbrev pub IsMapped : Window → ℕ → Type 0
IsMapped w i = (first_root_entry w ≤ i) × (i < first_root_entry w + 4)

pub mapped_page : (w : Window) (v : ℕ) → window_at v ≡ Some w → IsMapped w (v / 1024)
mapped_page Image v found = let b = window_bounds Image v found in (omega (arith, b.0), omega (arith, b.1))
mapped_page Heap v found = let b = window_bounds Heap v found in (omega (arith, b.0), omega (arith, b.1))
mapped_page Message v found = let b = window_bounds Message v found in (omega (arith, b.0), omega (arith, b.1))
mapped_page Map v found = let b = window_bounds Map v found in (omega (arith, b.0), omega (arith, b.1))
mapped_page Stack v found = let b = window_bounds Stack v found in (omega (arith, b.0), omega (arith, b.1))

pub mapped_entry : (w : Window) (i : ℕ) → window_of_root_entry i ≡ Some w → IsMapped w i
mapped_entry Image i found = let b = window_bounds Image (i * 1024 + 1023) found in (omega (arith, b.0), omega (arith, b.1))
mapped_entry Heap i found = let b = window_bounds Heap (i * 1024 + 1023) found in (omega (arith, b.0), omega (arith, b.1))
mapped_entry Message i found = let b = window_bounds Message (i * 1024 + 1023) found in (omega (arith, b.0), omega (arith, b.1))
mapped_entry Map i found = let b = window_bounds Map (i * 1024 + 1023) found in (omega (arith, b.0), omega (arith, b.1))
mapped_entry Stack i found = let b = window_bounds Stack (i * 1024 + 1023) found in (omega (arith, b.0), omega (arith, b.1))

-- the root entry that maps a page of a window
pub window_of_page : (w : Window) (v : ℕ) → window_at v ≡ Some w → window_of_root_entry (v / 1024) ≡ Some w
window_of_page Image v found = let b = window_bounds Image v found in entry_window v b.0 b.1
  where
    entry_window : (v : ℕ) → 0x10 ≤ v → v ≤ 0xFFF → window_at (v / 1024 * 1024 + 1023) ≡ Some Image
    entry_window v low high = grind (arith, nat_tests)
window_of_page Heap v found = let b = window_bounds Heap v found in entry_window v b.0 b.1
  where
    entry_window : (v : ℕ) → 0x2_0000 ≤ v → v ≤ 0x2_0FFF → window_at (v / 1024 * 1024 + 1023) ≡ Some Heap
    entry_window v low high = grind (arith, nat_tests)
window_of_page Message v found = let b = window_bounds Message v found in entry_window v b.0 b.1
  where
    entry_window : (v : ℕ) → 0x4_0000 ≤ v → v ≤ 0x4_0FFF → window_at (v / 1024 * 1024 + 1023) ≡ Some Message
    entry_window v low high = grind (arith, nat_tests)
window_of_page Map v found = let b = window_bounds Map v found in entry_window v b.0 b.1
  where
    entry_window : (v : ℕ) → 0x6_0000 ≤ v → v ≤ 0x6_0FFF → window_at (v / 1024 * 1024 + 1023) ≡ Some Map
    entry_window v low high = grind (arith, nat_tests)
window_of_page Stack v found = let b = window_bounds Stack v found in entry_window v b.0 b.1
  where
    entry_window : (v : ℕ) → 0x7_F000 ≤ v → v ≤ 0x7_FFFF → window_at (v / 1024 * 1024 + 1023) ≡ Some Stack
    entry_window v low high = grind (arith, nat_tests)

-- a table is one of the twenty frames behind the root
pub table_within : (w : Window) (first i : ℕ) → IsMapped w i → (first < table_frame first w i) × (table_frame first w i < first + 21)
table_within Image first i m = (omega (arith, m.0), omega (arith, m.1))
table_within Heap first i m = (omega (arith, m.0), omega (arith, m.1))
table_within Message first i m = (omega (arith, m.0), omega (arith, m.1))
table_within Map first i m = (omega (arith, m.0), omega (arith, m.1))
table_within Stack first i m = (omega (arith, m.0), omega (arith, m.1))

-- an entry of the root is that of its table alone
pub one_table : (w u : Window) (first i j : ℕ) → IsMapped w i → IsMapped u j → table_frame first w i ≡ table_frame first u j → i ≡ j
one_table Image Image first i j m n same = omega (arith, m, n)
one_table Image Heap first i j m n same = omega (arith, m, n)
one_table Image Message first i j m n same = omega (arith, m, n)
one_table Image Map first i j m n same = omega (arith, m, n)
one_table Image Stack first i j m n same = omega (arith, m, n)
one_table Heap Image first i j m n same = omega (arith, m, n)
one_table Heap Heap first i j m n same = omega (arith, m, n)
one_table Heap Message first i j m n same = omega (arith, m, n)
one_table Heap Map first i j m n same = omega (arith, m, n)
one_table Heap Stack first i j m n same = omega (arith, m, n)
one_table Message Image first i j m n same = omega (arith, m, n)
one_table Message Heap first i j m n same = omega (arith, m, n)
one_table Message Message first i j m n same = omega (arith, m, n)
one_table Message Map first i j m n same = omega (arith, m, n)
one_table Message Stack first i j m n same = omega (arith, m, n)
one_table Map Image first i j m n same = omega (arith, m, n)
one_table Map Heap first i j m n same = omega (arith, m, n)
one_table Map Message first i j m n same = omega (arith, m, n)
one_table Map Map first i j m n same = omega (arith, m, n)
one_table Map Stack first i j m n same = omega (arith, m, n)
one_table Stack Image first i j m n same = omega (arith, m, n)
one_table Stack Heap first i j m n same = omega (arith, m, n)
one_table Stack Message first i j m n same = omega (arith, m, n)
one_table Stack Map first i j m n same = omega (arith, m, n)
one_table Stack Stack first i j m n same = omega (arith, m, n)

-- two pages of one table at one index are one
pub one_page : (w u : Window) (first v x : ℕ) → IsMapped w (v / 1024) → IsMapped u (x / 1024)
    → table_frame first w (v / 1024) ≡ table_frame first u (x / 1024) → v % 1024 ≡ x % 1024 → v ≡ x
one_page w u first v x m n table index =
    let entry : v / 1024 ≡ x / 1024 = one_table w u first (v / 1024) (x / 1024) m n table in
    omega (arith, entry, index)

-- spaces of two processes share no frame
pub one_space : (p q f : ℕ) → 2 ≤ p → 2 ≤ q → IsTableFrame (root_at p) f → IsTableFrame (root_at q) f → p ≡ q
one_space p q f low low' here there = omega (arith, here, there)

-- ---- a space is its frames

-- what a leaf holds stays where its frames' pages do
pub leaf_stays : (P Q : ℕ → List ℕ) (first : ℕ) (w : Window) (v : ℕ) → IsMapped w (v / 1024) → ((f : ℕ) → IsTableFrame first f → Q f ≡ P f)
    → leaf_word Q first w v ≡ leaf_word P first w v
unfolding table_word
leaf_stays P Q first w v mapped same =
    let within = table_within w first (v / 1024) mapped in
    ap (λ page. word_in page (4 * (v % 1024))) (same (table_frame first w (v / 1024)) (omega (arith, within.0), within.1))

-- a space stays where the pages of its frames do
pub space_stays : (a : Area) (P Q : ℕ → List ℕ) (first : ℕ) → ((f : ℕ) → IsTableFrame first f → Q f ≡ P f) → IsSpace a P first → IsSpace a Q first
unfolding table_word
space_stays a P Q first same space = record {
  within = space.within;
  root = λ i low. ap (λ page. word_in page (4 * i)) (same first (omega arith, omega arith)) ∙ space.root i low;
  outside = λ w v here none. leaf_stays P Q first w v (mapped_entry w (v / 1024) here) same ∙ space.outside w v here none;
  spelled = λ w v here. subst (λ word. IsSome (kind_at word)) (sym (leaf_stays P Q first w v (mapped_page w v here) same)) (space.spelled w v here);
}

-- ---- a word is written

-- an address of a table's entry, read as its frame and its offset
pub write_at : (a : Area) (P : ℕ → List ℕ) (f i v : ℕ) → a.start % 4096 ≡ 0 → i < 1024
    → put_at nat_eq P (frame_at a (ppn_of a f * 4096 + 4 * i)) (with_word (P (frame_at a (ppn_of a f * 4096 + 4 * i))) ((ppn_of a f * 4096 + 4 * i) % 4096) v)
    ≡ put_at nat_eq P f (with_word (P f) (4 * i) v)
write_at a P f i v aligned low =
    let frame : frame_at a (ppn_of a f * 4096 + 4 * i) ≡ f = omega (arith, aligned) in
    let offset : (ppn_of a f * 4096 + 4 * i) % 4096 ≡ 4 * i = omega (arith, aligned) in
    ap (λ g. put_at nat_eq P g (with_word (P g) ((ppn_of a f * 4096 + 4 * i) % 4096) v)) frame
    ∙ ap (λ o. put_at nat_eq P f (with_word (P f) o v)) offset

-- the written entry
pub table_word_same : (P : ℕ → List ℕ) (f i v : ℕ) → length (P f) ≡ 4096 → i < 1024 → v < 2 ^ 32
    → table_word (put_at nat_eq P f (with_word (P f) (4 * i) v)) f i ≡ v
unfolding table_word
table_word_same P f i v whole low fits = rw (eq-eqb f f refl) (word_in-with_word (P f) (4 * i) v (omega arith) fits)

-- any other entry
pub table_word_other : (P : ℕ → List ℕ) (f i v g j : ℕ) → length (P f) ≡ 4096 → i < 1024 → (g ≡ f → j ≡ i → ⊥)
    → table_word (put_at nat_eq P f (with_word (P f) (4 * i) v)) g j ≡ table_word P g j
unfolding table_word
table_word_other P f i v g j whole low apart = elim (cases_eq g f) [
  | inl same ↦ elim (cases_eq j i) [
    | inl index ↦ absurd (apart same index)
    | inr other ↦
        rw (eq-eqb g f same)
        (word_in-other (P f) (4 * i) (4 * j) v (omega arith) (beside i j other) ∙ ap (λ n. word_in (P n) (4 * j)) (sym same))
  ]
  | inr other ↦ rw (ne_eqb g f other) refl
]
  where
    beside : (i j : ℕ) → (j ≡ i → ⊥) → (4 * j + 4 ≤ 4 * i) ⊎ (4 * i + 4 ≤ 4 * j)
    beside i j other = elim (cases_order j i) [
      | inl same ↦ absurd (other same)
      | inr differ ↦ elim differ [ inl below ↦ inl (omega arith) | inr above ↦ inr (omega arith) ]
    ]

-- ---- an entry is written

-- the pages after the entry of a page was written
abbrev pub with_leaf : (ℕ → List ℕ) → ℕ → Window → ℕ → ℕ → ℕ → List ℕ
with_leaf P first w vpn v =
    put_at nat_eq P (table_frame first w (vpn / 1024)) (with_word (P (table_frame first w (vpn / 1024))) (4 * (vpn % 1024)) v)

-- What is known where the entry of a page in a window is written.
pub record IsWrite (a : Area) (P : ℕ → List ℕ) (first : ℕ) (w : Window) (vpn v : ℕ) : Type 0 where
  pub space : IsSpace a P first
  pub here : window_at vpn ≡ Some w
  pub whole : length (P (table_frame first w (vpn / 1024))) ≡ 4096
  pub fits : v < 2 ^ 32

pub leaf_written : (a : Area) (P : ℕ → List ℕ) (first : ℕ) (w : Window) (vpn v : ℕ) → IsWrite a P first w vpn v
    → leaf_word (with_leaf P first w vpn v) first w vpn ≡ v
leaf_written a P first w vpn v write =
    table_word_same P (table_frame first w (vpn / 1024)) (vpn % 1024) v write.whole (omega arith) write.fits

-- the entry of another page stays
pub leaf_other : (a : Area) (P : ℕ → List ℕ) (first : ℕ) (w : Window) (vpn v : ℕ) → IsWrite a P first w vpn v
    → (u : Window) (x : ℕ) → IsMapped u (x / 1024) → (x ≡ vpn → ⊥)
    → leaf_word (with_leaf P first w vpn v) first u x ≡ leaf_word P first u x
leaf_other a P first w vpn v write u x mapped apart =
    table_word_other P (table_frame first w (vpn / 1024)) (vpn % 1024) v (table_frame first u (x / 1024)) (x % 1024) write.whole (omega arith)
    (λ table index. apart (one_page u w first x vpn mapped (mapped_page w vpn write.here) table index))

-- the space with the entry stays a space
pub space_with_leaf : (a : Area) (P : ℕ → List ℕ) (first : ℕ) (w : Window) (vpn v : ℕ) → IsWrite a P first w vpn v → IsSome (kind_at v)
    → IsSpace a (with_leaf P first w vpn v) first
space_with_leaf a P first w vpn v write spelled = record {
  within = write.space.within;
  root = λ i low.
      (let table = table_within w first (vpn / 1024) (mapped_page w vpn write.here) in
      table_word_other P (table_frame first w (vpn / 1024)) (vpn % 1024) v first i write.whole (omega arith) (λ same index. omega (arith, table.0, same)))
      ∙ write.space.root i low;
  outside = λ u x here none.
      leaf_other a P first w vpn v write u x (mapped_entry u (x / 1024) here)
      (λ same. none-some w (sym none ∙ ap (λ n. window_at n) same ∙ write.here))
      ∙ write.space.outside u x here none;
  spelled = at;
}
  where
    at : (u : Window) (x : ℕ) → window_at x ≡ Some u → IsSome (kind_at (leaf_word (with_leaf P first w vpn v) first u x))
    at u x here = elim (cases_eq x vpn) [
      | inl same ↦
          let window : w ≡ u = same_Some w u (sym write.here ∙ ap (λ n. window_at n) (sym same) ∙ here) in
          let word : v ≡ leaf_word (with_leaf P first w vpn v) first u x =
          sym (leaf_written a P first w vpn v write)
          ∙ ap (λ n. leaf_word (with_leaf P first w vpn v) first w n) (sym same)
          ∙ ap (λ y. leaf_word (with_leaf P first w vpn v) first y x) window in
          subst (λ n. IsSome (kind_at n)) word spelled
      | inr other ↦
          subst (λ n. IsSome (kind_at n)) (sym (leaf_other a P first w vpn v write u x (mapped_page u x here) other)) (write.space.spelled u x here)
    ]

-- frames outside the space keep their pages
pub leaf_elsewhere : (P : ℕ → List ℕ) (first : ℕ) (w : Window) (vpn v : ℕ) → window_at vpn ≡ Some w → (f : ℕ)
    → (IsTableFrame first f → ⊥) → with_leaf P first w vpn v f ≡ P f
leaf_elsewhere P first w vpn v here f outside =
    let table = table_within w first (vpn / 1024) (mapped_page w vpn here) in
    rw (ne_eqb f (table_frame first w (vpn / 1024)) (λ same. outside (omega (arith, table.0, same), omega (arith, table.1, same)))) refl

-- the spaces of all processes stay spaces
pub spaces_with_leaf : (a : Area) (P : ℕ → List ℕ) (p : ℕ) (w : Window) (vpn v : ℕ) → 2 ≤ p → IsWrite a P (root_at p) w vpn v → IsSome (kind_at v)
    → (q : ℕ) → 2 ≤ q → IsSpace a P (root_at q) → IsSpace a (with_leaf P (root_at p) w vpn v) (root_at q)
spaces_with_leaf a P p w vpn v low write spelled q low' space = elim (cases_eq p q) [
  | inl same ↦ subst (λ n. IsSpace a (with_leaf P (root_at p) w vpn v) (root_at n)) same (space_with_leaf a P (root_at p) w vpn v write spelled)
  | inr other ↦
      space_stays a P (with_leaf P (root_at p) w vpn v) (root_at q)
      (λ f there. leaf_elsewhere P (root_at p) w vpn v write.here f (λ here. other (one_space p q f low low' here there))) space
]

pub made_stays : (old new : RamBytes) (pid : ℕ) → area new ≡ area old → ((f : ℕ) → IsTableFrame (root_at pid) f → pages new f ≡ pages old f)
    → IsMade old pid → IsMade new pid
made_stays old new pid same_area same made =
    record { process = made.process; space = subst (λ a. IsSpace a (pages new) (root_at pid)) (sym same_area) (space_stays (area old) (pages old) (pages new) (root_at pid) same made.space) }

-- what is computed for a page of a window is its table
pub table_of_page : (w : Window) (first v : ℕ) → window_at v ≡ Some w
    → (first_root_entry w ≤ v / 1024) × (v / 1024 < first_root_entry w + 4) × IsTableFrame first (table_frame first w (v / 1024))
table_of_page w first v here =
    let mapped = mapped_page w v here in
    let within = table_within w first (v / 1024) mapped in
    (mapped.0, mapped.1, (omega (arith, within.0), within.1))

-- the space of one of so many processes stays where a page behind all tables is written
pub made_after_page : (old new : RamBytes) (procs f : ℕ) (page : List ℕ) → area new ≡ area old → pages new ≡ put_at nat_eq (pages old) f page → 21 * procs ≤ f
    → (pid : ℕ) → IsTrue (is_pid procs pid) → IsMade old pid → IsMade new pid
made_after_page old new procs f page same_area now behind pid process made =
    let parts : (nat_le 2 pid ≡ true) × (nat_lt pid (procs + 2) ≡ true) = and_parts (nat_le 2 pid) (nat_lt pid (procs + 2)) process in
    let high : pid < procs + 2 = ltb-true pid (procs + 2) parts.1 in
    made_stays old new pid same_area
    (λ g there. ap (λ P. P g) now ∙ cond-false (nat_eq g f) page (pages old g) (ne_eqb g f (λ same. omega (arith, there, same, high, made.process)))) made
