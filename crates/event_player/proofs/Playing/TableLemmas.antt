-- The text of the places that pass a test, place by place.
use Rattle.xk_ports.specs.declared.store.SwapStore.{Ghosts as SwapStore}
use Rattle.std.proofs.Common.{◌≡◌, ℕ, zero, suc, ◌+◌, ◌*◌, ◌-◌, ◌<◌, ◌≤◌, Bool, true, false, List, [], ◌∷◌, ◌++◌, map, Option, Some, None, refl, sym, ap, ◌∙◌, arith, append_assoc, append-nil}
use Rattle.std.specs.Prelude.{◌/◌, is_some, if◌then◌else◌, nat_le, nat_lt}
use Rattle.std.proofs.lemmas.Bool.{and_parts, ltb-true}
use Rattle.std.specs.List.{flat_map}
use Rattle.std.proofs.lemmas.Grind.{flat_map-append}
use Rattle.std.proofs.lemmas.List.{map-append}
use Rattle.ledger_model.specs.Lawful.{IsLawful}
use Rattle.ledger_model.specs.Ledger.{Ledger, Orphan, Page, PageLoan, loan_at}
use Rattle.ledger_model.specs.Listings.{home_places, orphan_places}
use Rattle.ledger_model.specs.Places.{listed_places, place_at}
use Rattle.ledger_model.specs.Reach.{holder_role, home_or, lender_of, lent_role, orphan_or_holder, role_at}
use Rattle.machine_model.specs.Runs.Matched.{Matched}
use Rattle.xk_base.specs.Numbers.Windows.{in_window, window_at}
use Rattle.xk_base.specs.Tables.Circle.{is_pid}
use Rattle.xk_base.specs.declared.windows.Window.TheVariants.{Message}
use Rattle.machine_model.specs.State.Machine.{Machine}
use Rattle.page_views.specs.Here.{here_at, here_of}
use Rattle.xk_base.specs.Tables.Counting.{listed_below}
use Rattle.xk_base.specs.declared.ids.Place.{Place}
use Rattle.xk_kernel.specs.Sound.{IsSound}
use Rattle.xk_kernel.specs.State.{machine_of}
use Rattle.xk_kernel.specs.declared.kernel.Kernel.{Kernel}
use Rattle.event_player.specs.Table.{here_in, orphan_line, orphans_text, page_line, pages_text}

-- the text of the places below k that pass the test
abbrev pub listed_text : (Place → List ℕ) → (Place → Bool) → ℕ → List ℕ
listed_text line test k = flat_map line (map place_at (listed_below k (λ j. test (place_at j))))

pub text_none : (line : Place → List ℕ) (test : Place → Bool) → listed_text line test 0 ≡ []
unfolding listed_below
text_none line test = refl

-- a place that fails the test has no text
abbrev pub IsBlank : (Place → List ℕ) → (Place → Bool) → Type 0
IsBlank line test = (p : Place) → test p ≡ false → line p ≡ []

-- so each place gives its text
pub text_next : (line : Place → List ℕ) (test : Place → Bool) → IsBlank line test → (k : ℕ) → listed_text line test (suc k) ≡ listed_text line test k ++ line (place_at k)
unfolding listed_below
text_next line test blank k = go (test (place_at k)) refl
  where
    before : List ℕ
    before = listed_below k (λ j. test (place_at j))

    go : (b : Bool) → test (place_at k) ≡ b
        → flat_map line (map place_at (before ++ (if b then k ∷ [] else []))) ≡ flat_map line (map place_at before) ++ line (place_at k)
    go true passes =
        ap (flat_map line) (map-append place_at before (k ∷ []))
        ∙ (flat_map-append line (map place_at before) (place_at k ∷ [])
        ∙ ap (λ (text : List ℕ). flat_map line (map place_at before) ++ text) (append-nil (line (place_at k))))
    go false fails =
        ap (λ (ks : List ℕ). flat_map line (map place_at ks)) (append-nil before)
        ∙ sym (ap (λ (text : List ℕ). flat_map line (map place_at before) ++ text) (blank (place_at k) fails) ∙ append-nil (flat_map line (map place_at before)))

-- the text of the places below k is a front of that of more places
pub text_front : (line : Place → List ℕ) (test : Place → Bool) → IsBlank line test → (more k : ℕ) → (rest : List ℕ) × (listed_text line test (more + k) ≡ listed_text line test k ++ rest)
text_front line test blank zero k =
    let same : 0 + k ≡ k = omega arith in
    ([], ap (listed_text line test) same ∙ sym (append-nil (listed_text line test k)))
text_front line test blank (suc more) k =
    let front = text_front line test blank more k in
    let next : suc more + k ≡ suc (more + k) = omega arith in (
      front.0 ++ line (place_at (more + k)),
      ap (listed_text line test) next
          ∙ (text_next line test blank (more + k)
          ∙ (ap (λ (text : List ℕ). text ++ line (place_at (more + k))) front.1
          ∙ append_assoc (listed_text line test k) front.0 (line (place_at (more + k))))),
    )

-- a place further on gives its text, and then come those behind it
pub text_split : (line : Place → List ℕ) (test : Place → Bool) → IsBlank line test → (k n : ℕ) → k < n
    → (rest : List ℕ) × (listed_text line test n ≡ listed_text line test k ++ (line (place_at k) ++ rest))
text_split line test blank k n below =
    let whole : n ≡ (n - suc k) + suc k = omega arith in
    let front = text_front line test blank (n - suc k) (suc k) in (
      front.0,
      ap (listed_text line test) whole
          ∙ (front.1
          ∙ (ap (λ (text : List ℕ). text ++ front.0) (text_next line test blank k)
          ∙ append_assoc (listed_text line test k) (line (place_at k)) front.0)),
    )

-- where no place from n on passes the test, no more are listed
pub text_ends : (line : Place → List ℕ) (test : Place → Bool) → IsBlank line test → (n more : ℕ) → ((j : ℕ) → n ≤ j → test (place_at j) ≡ false)
    → listed_text line test (more + n) ≡ listed_text line test n
text_ends line test blank n zero past =
    let same : 0 + n ≡ n = omega arith in ap (listed_text line test) same
text_ends line test blank n (suc more) past =
    let next : suc more + n ≡ suc (more + n) = omega arith in
    let high : n ≤ more + n = omega arith in
    ap (listed_text line test) next
    ∙ (text_next line test blank (more + n)
    ∙ (ap (λ (text : List ℕ). listed_text line test (more + n) ++ text) (blank (place_at (more + n)) (past (more + n) high))
    ∙ (append-nil (listed_text line test (more + n))
    ∙ text_ends line test blank n more past)))

-- ---- places outside the processes

pid_low : (procs j : ℕ) → is_pid procs (place_at j).pid.0 ≡ true → j < 20464 * procs
unfolding place_at
pid_low procs j lies =
    let parts : (nat_le 2 (2 + j / 20464) ≡ true) × (nat_lt (2 + j / 20464) (procs + 2) ≡ true) =
    and_parts (nat_le 2 (2 + j / 20464)) (nat_lt (2 + j / 20464) (procs + 2)) lies in
    let high : 2 + j / 20464 < procs + 2 = ltb-true (2 + j / 20464) (procs + 2) parts.1 in
    omega arith

pub no_home_past : (procs capacity : ℕ) (ledger : Ledger) → IsLawful procs capacity ledger → (j : ℕ) → 20464 * procs ≤ j → is_some (ledger.home (place_at j)) ≡ false
no_home_past procs capacity ledger lawful j high = go (ledger.home (place_at j)) refl
  where
    go : (page : Option Page) → ledger.home (place_at j) ≡ page → is_some page ≡ false
    go None is = refl
    go (Some page) is =
        let parts = and_parts (is_pid procs (place_at j).pid.0) (is_some (window_at (place_at j).vpn.0)) (lawful.home_lies (place_at j) page is) in
        let low : j < 20464 * procs = pid_low procs j parts.0 in
        absurd (omega arith)

pub no_orphan_past : (procs capacity : ℕ) (ledger : Ledger) → IsLawful procs capacity ledger → (j : ℕ) → 20464 * procs ≤ j → is_some (ledger.orphan (place_at j)) ≡ false
no_orphan_past procs capacity ledger lawful j high = go (ledger.orphan (place_at j)) refl
  where
    go : (orphan : Option Orphan) → ledger.orphan (place_at j) ≡ orphan → is_some orphan ≡ false
    go None is = refl
    go (Some orphan) is =
        let parts = and_parts (is_pid procs (place_at j).pid.0) (in_window Message (place_at j).vpn.0) (lawful.orphan_lies (place_at j) orphan is) in
        let low : j < 20464 * procs = pid_low procs j parts.0 in
        absurd (omega arith)

-- ---- the lines

holder_no_page : (p : Place) (ledger : Ledger) (orphan : Option Orphan) (home : Option Place) → page_line p (here_of (orphan_or_holder orphan (holder_role ledger home))) ≡ []
holder_no_page p ledger (Some orphan) home = refl
holder_no_page p ledger None None = refl
holder_no_page p ledger None (Some home) = go (loan_at ledger home)
  where
    go : (loan : Option PageLoan) → page_line p (here_of (lent_role home loan)) ≡ []
    go None = refl
    go (Some loan) = refl

pub no_home_no_line : (procs : ℕ) (ledger : Ledger) (p : Place) → is_some (ledger.home p) ≡ false → page_line p (here_at procs ledger p) ≡ []
unfolding role_at
no_home_no_line procs ledger p none = go (ledger.home p) none
  where
    go : (page : Option Page) → is_some page ≡ false → page_line p (here_of (home_or page (orphan_or_holder (ledger.orphan p) (holder_role ledger (lender_of procs ledger p))))) ≡ []
    go None e = holder_no_page p ledger (ledger.orphan p) (lender_of procs ledger p)
    go (Some page) e = cc

holder_no_orphan_line : (p : Place) (ledger : Ledger) (home : Option Place) → orphan_line p (here_of (holder_role ledger home)) ≡ []
holder_no_orphan_line p ledger None = refl
holder_no_orphan_line p ledger (Some home) = go (loan_at ledger home)
  where
    go : (loan : Option PageLoan) → orphan_line p (here_of (lent_role home loan)) ≡ []
    go None = refl
    go (Some loan) = refl

pub no_orphan_no_line : (procs : ℕ) (ledger : Ledger) (p : Place) → is_some (ledger.orphan p) ≡ false → orphan_line p (here_at procs ledger p) ≡ []
unfolding role_at
no_orphan_no_line procs ledger p none = go (ledger.home p) (ledger.orphan p) none
  where
    go : (page : Option Page) (orphan : Option Orphan) → is_some orphan ≡ false → orphan_line p (here_of (home_or page (orphan_or_holder orphan (holder_role ledger (lender_of procs ledger p))))) ≡ []
    go (Some page) orphan e = refl
    go None None e = holder_no_orphan_line p ledger (lender_of procs ledger p)
    go None (Some orphan) e = cc

-- ---- the table

abbrev pub is_home : Machine → Place → Bool
is_home m place = is_some (m.ledger.home place)

abbrev pub is_orphan : Machine → Place → Bool
is_orphan m place = is_some (m.ledger.orphan place)

abbrev pub page_line_in : Machine → Place → List ℕ
page_line_in m place = page_line place (here_in m place)

abbrev pub orphan_line_in : Machine → Place → List ℕ
orphan_line_in m place = orphan_line place (here_in m place)

pub blank_page : (m : Machine) → IsBlank (page_line_in m) (is_home m)
blank_page m place none = no_home_no_line m.processes m.ledger place none

pub blank_orphan : (m : Machine) → IsBlank (orphan_line_in m) (is_orphan m)
blank_orphan m place none = no_orphan_no_line m.processes m.ledger place none

-- the places of as many processes as there can be list all pages
pub all_pages : (m : Machine) → Matched m → m.processes ≤ 64 → listed_text (page_line_in m) (is_home m) 1309696 ≡ pages_text m
unfolding pages_text home_places listed_places
all_pages m matched few =
    let whole : 1309696 ≡ (1309696 - 20464 * m.processes) + 20464 * m.processes = omega arith in
    ap (listed_text (page_line_in m) (is_home m)) whole
    ∙ text_ends (page_line_in m) (is_home m) (blank_page m) (20464 * m.processes) (1309696 - 20464 * m.processes)
    (no_home_past m.processes m.capacity m.ledger matched.body.ledger.lawful)

pub all_orphans : (m : Machine) → Matched m → m.processes ≤ 64 → listed_text (orphan_line_in m) (is_orphan m) 1309696 ≡ orphans_text m
unfolding orphans_text orphan_places listed_places
all_orphans m matched few =
    let whole : 1309696 ≡ (1309696 - 20464 * m.processes) + 20464 * m.processes = omega arith in
    ap (listed_text (orphan_line_in m) (is_orphan m)) whole
    ∙ text_ends (orphan_line_in m) (is_orphan m) (blank_orphan m) (20464 * m.processes) (1309696 - 20464 * m.processes)
    (no_orphan_past m.processes m.capacity m.ledger matched.body.ledger.lawful)

-- a kernel has few processes
pub few_processes : {W : Type 0} (S : SwapStore W) (k : Kernel W) → IsSound S k → (machine_of S.held k).processes ≤ 64
unfolding machine_of
few_processes S k sound = sound.whole.mem.few
