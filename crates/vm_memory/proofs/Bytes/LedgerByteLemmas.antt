-- A ledger from its rights and from the bytes that a process sees of it.
use Rattle.std.proofs.Common.{◌≡◌, ◌≢◌, ℕ, ◌+◌, ◌*◌, ◌/◌, ◌%◌, ◌<◌, ◌≤◌, ◌⊎◌, Bool, true, false, List, length, Option, Some, None, refl, sym, ap, subst, ◌∙◌, inl, inr, arith}
use Rattle.std.specs.Prelude.{slice_index, unwrap_or, if◌then◌else◌}
use Rattle.std.specs.Option.{option_and_then, option_map, option_map_or}
use Rattle.std.proofs.lemmas.Bool.{false≢true}
use Rattle.std.proofs.lemmas.List.{ext_get_or}
use Rattle.std.proofs.lemmas.Option.{none-some, same_Some}
use Rattle.xk_base.specs.declared.ids.Pid.{Pid}
use Rattle.xk_base.specs.declared.ids.Place.{Place}
use Rattle.xk_base.specs.declared.pages.Access.TheVariants.{Load, Store}
use Rattle.xk_base.specs.declared.pages.LoanKind.{LoanKind}
use Rattle.xk_base.specs.declared.pages.LoanKind.TheVariants.{Shared, Exclusive}
use Rattle.xk_base.specs.declared.pages.Right.{Right}
use Rattle.xk_base.specs.declared.pages.Width.{Width}
use Rattle.xk_base.specs.UserMemory.{size_of, with_number, low_bytes}
use Rattle.ledger_model.specs.Ledger.{Ledger, Contents, Console, Bytes, Page, PageLoan, Orphan, PageName, Homed, Orphaned, contents_of, has_bytes, byte_of}
use Rattle.ledger_model.specs.Loans.{bare, bare_page, bare_orphan}
use Rattle.ledger_model.specs.Reach.{Role, FreePlace, HomePlace, HolderPlace, OrphanPlace, home_may, holder_may, may, page_at_role, role_at, reach}
use Rattle.ledger_model.specs.Steps.{write, written}
use Rattle.ledger_model.proofs.LedgerLemmas.{same_ledger}
use Rattle.ledger_model.proofs.PlaceLemmas.{same_place_tells}
use Rattle.ledger_model.proofs.ReachingLemmas.{reached_contents, write_changed, write_others}
use Rattle.ledger_model.proofs.Stepping.WritingLemmas.{write_bare}
use Rattle.xk_base.specs.Numbers.Windows.{page_of}
use Rattle.vm_memory.specs.Using.UserView.{IsUnseen, contents_seen, seen_memory}
use Rattle.ledger_model.proofs.Pages.BareLemmas.{bare-contents, bare-reach, is_bytes}
use Rattle.vm_memory.proofs.Bytes.StoreLemmas.{there, elsewhere, written_size, low_size, stays_in_page}

-- ---- a ledger from its rights, its loans and its bytes

same_page : (a b : Option Page) → option_map bare_page a ≡ option_map bare_page b
    → option_map (λ (page : Page). page.contents) a ≡ option_map (λ (page : Page). page.contents) b → a ≡ b
same_page None None e c = refl
same_page None (Some b) e c = absurd (none-some (bare_page b) e)
same_page (Some a) None e c = absurd (none-some (bare_page a) (sym e))
same_page (Some a) (Some b) e c =
    let right : a.right ≡ b.right = ap (λ o. (unwrap_or {T = Page} o (bare_page a)).right) e in
    let loan : a.loan ≡ b.loan = ap (λ o. (unwrap_or {T = Page} o (bare_page a)).loan) e in
    let contents : a.contents ≡ b.contents = same_Some a.contents b.contents c in
    λ i. Some (record { right = right i; contents = contents i; loan = loan i })

abbrev bytes_or : Option Contents → List ℕ → List ℕ
bytes_or None other = other
bytes_or (Some Console) other = other
bytes_or (Some (Bytes bytes)) other = bytes

same_orphan : (a b : Option Orphan) → option_map bare_orphan a ≡ option_map bare_orphan b
    → option_map (λ (orphan : Orphan). Bytes orphan.bytes) a ≡ option_map (λ (orphan : Orphan). Bytes orphan.bytes) b → a ≡ b
same_orphan None None e c = refl
same_orphan None (Some b) e c = absurd (none-some (bare_orphan b) e)
same_orphan (Some a) None e c = absurd (none-some (bare_orphan a) (sym e))
same_orphan (Some a) (Some b) e c =
    let kind : a.kind ≡ b.kind = ap (λ o. (unwrap_or {T = Orphan} o (bare_orphan a)).kind) e in
    let number : a.number ≡ b.number = ap (λ o. (unwrap_or {T = Orphan} o (bare_orphan a)).number) e in
    let bytes : a.bytes ≡ b.bytes = ap (λ o. bytes_or o a.bytes) c in
    λ i. Some (record { kind = kind i; bytes = bytes i; number = number i })

pub ledger_from : (l m : Ledger) → bare l ≡ bare m → ((name : PageName) → contents_of l name ≡ contents_of m name) → l ≡ m
unfolding bare
ledger_from l m e c = same_ledger l m
    (λ p. same_page (l.home p) (m.home p) (ap (λ (b : Ledger). b.home p) e) (c (Homed p)))
    (λ p. same_orphan (l.orphan p) (m.orphan p) (ap (λ (b : Ledger). b.orphan p) e) (c (Orphaned p)))

-- ---- names

abbrev place_in : PageName → Place
place_in (Homed p) = p
place_in (Orphaned p) = p

pub name_tells : (a b : PageName) → (a ≡ b) ⊎ (a ≢ b)
name_tells (Homed p) (Homed q) = elim (same_place_tells p q) [
  | inl same ↦ inl (ap Homed same.1)
  | inr apart ↦ inr (λ e. apart.1 (ap place_in e))
]
name_tells (Homed p) (Orphaned q) = inr (λ e. cc)
name_tells (Orphaned p) (Homed q) = inr (λ e. cc)
name_tells (Orphaned p) (Orphaned q) = elim (same_place_tells p q) [
  | inl same ↦ inl (ap Orphaned same.1)
  | inr apart ↦ inr (λ e. apart.1 (ap place_in e))
]

-- ---- a page that a store reaches is loaded there

loan_loads : (right : Right) (o : Option PageLoan) → home_may right o Store ≡ true → home_may right o Load ≡ true
loan_loads right None h = refl
loan_loads right (Some loan) h = by_kind loan.kind h
  where
    by_kind : (kind : LoanKind) → home_may right (Some (record { holder = loan.holder; kind = kind; number = loan.number })) Store ≡ true
        → home_may right (Some (record { holder = loan.holder; kind = kind; number = loan.number })) Load ≡ true
    by_kind Shared h = refl
    by_kind Exclusive h = absurd (false≢true h)

holder_loads : (kind : LoanKind) → holder_may kind Store ≡ true → holder_may kind Load ≡ true
holder_loads Shared h = refl
holder_loads Exclusive h = refl

role_loads : (role : Role) → may role Store ≡ true → may role Load ≡ true
role_loads FreePlace h = h
role_loads (HomePlace page) h = loan_loads page.right page.loan h
role_loads (HolderPlace home loan) h = holder_loads loan.kind h
role_loads (OrphanPlace orphan) h = holder_loads orphan.kind h

pub stored_is_loaded : (procs : ℕ) (l : Ledger) (p : Place) (name : PageName) → reach procs l p Store ≡ Some name → reach procs l p Load ≡ Some name
unfolding reach
stored_is_loaded procs l p name = by (may (role_at procs l p) Store) (may (role_at procs l p) Load) (role_loads (role_at procs l p))
  where
    by : (s d : Bool) → (s ≡ true → d ≡ true)
        → (if s then page_at_role p (role_at procs l p) else None) ≡ Some name → (if d then page_at_role p (role_at procs l p) else None) ≡ Some name
    by true true h e = e
    by true false h e = absurd (false≢true (h refl))
    by false d h e = absurd (none-some name e)

-- ---- what is seen

pub record IsSeenAt (procs : ℕ) (l : Ledger) (pid : Pid) (name : PageName) (a : ℕ) (contents : Contents) : Type 0 where
  pub reached : reach procs l (page_of pid a) Load ≡ Some name
  pub holds : contents_of l name ≡ Some contents

-- a page of bytes has 4096 of them
abbrev pub IsWholeContents : Contents → Type 0
IsWholeContents Console = Unit {0}
IsWholeContents (Bytes bytes) = length bytes ≡ 4096

same_contents : (c d : Contents) → IsWholeContents c → IsWholeContents d → has_bytes c ≡ has_bytes d
    → ((i : ℕ) → i < 4096 → byte_of i c ≡ byte_of i d) → c ≡ d
same_contents Console Console w v e h = refl
same_contents Console (Bytes ys) w v e h = absurd (false≢true e)
same_contents (Bytes xs) Console w v e h = absurd (false≢true (sym e))
same_contents (Bytes xs) (Bytes ys) w v e h = ap Bytes (ext_get_or 0 xs ys (w ∙ sym v) (λ i l. h i (subst (λ n. i < n) w l)))

module _ (procs : ℕ) (l : Ledger) (pid : Pid) where
  abbrev pub seen_byte : ℕ → ℕ
  seen_byte = (seen_memory procs l pid).byte

  pub seen_contents : (name : PageName) (a : ℕ) (c : Contents) → IsSeenAt procs l pid name a c → contents_seen procs l pid a ≡ Some c
  seen_contents name a c s = ap (option_and_then (contents_of l)) s.reached ∙ s.holds

  pub byte_seen : (name : PageName) (a : ℕ) (c : Contents) → IsSeenAt procs l pid name a c → seen_byte a ≡ byte_of (a % 4096) c
  unfolding seen_memory
  byte_seen name a c s = ap (λ o. option_map_or (byte_of (a % 4096)) o 0) (seen_contents name a c s)

  -- at each address of the place
  pub seen_near : (name : PageName) (a b : ℕ) (c : Contents) → b / 4096 ≡ a / 4096 → IsSeenAt procs l pid name a c → IsSeenAt procs l pid name b c
  seen_near name a b c e s = record {
    reached = ap (λ v. reach procs l (record { pid = pid; vpn = record { 0 = v } }) Load) e ∙ s.reached;
    holds = s.holds;
  }

  pub seen_somewhere : (name : PageName) (a : ℕ) → reach procs l (page_of pid a) Load ≡ Some name → (c : Contents) × IsSeenAt procs l pid name a c
  seen_somewhere name a e =
      let there : (c : Contents) × (contents_of l name ≡ Some c) = reached_contents procs l (page_of pid a) Load name e in
      (there.0, record { reached = e; holds = there.1 })

-- ---- the ledger afterwards

-- what a ledger is to satisfy, that its bytes as they are seen tell it
pub record IsTold (procs : ℕ) (l : Ledger) (pid : Pid) : Type 0 where
  pub whole : (a : ℕ) (c : Contents) → contents_seen procs l pid a ≡ Some c → IsWholeContents c
  pub seen : (name : PageName) → ((a : ℕ) × (reach procs l (page_of pid a) Load ≡ Some name)) ⊎ IsUnseen procs (bare l) pid name

module _ (procs : ℕ) (l m : Ledger) (pid : Pid) (rights : bare m ≡ bare l) (old : IsTold procs l pid) (new : IsTold procs m pid)
    (unseen : (name : PageName) → IsUnseen procs (bare l) pid name → contents_of m name ≡ contents_of l name) where
  -- the bytes tell the contents of a page that is seen
  contents_by : (name : PageName) (a : ℕ) (c d : Contents) → IsSeenAt procs l pid name a c → IsWholeContents d → has_bytes c ≡ has_bytes d
      → ((x : ℕ) → x / 4096 ≡ a / 4096 → seen_byte procs m pid x ≡ byte_of (x % 4096) d) → contents_of m name ≡ Some d
  contents_by name a c d s whole bytes h =
      let now : (e : Contents) × IsSeenAt procs m pid name a e = seen_somewhere procs m pid name a (bare-reach procs l m (page_of pid a) Load rights ∙ s.reached) in
      let kind : is_bytes (Some now.0) ≡ is_bytes (Some c) = ap is_bytes (sym now.1.holds) ∙ bare-contents l m name rights ∙ ap is_bytes s.holds in
      now.1.holds ∙ ap Some (same_contents now.0 d
      (new.whole a now.0 (seen_contents procs m pid name a now.0 now.1)) whole
      (same_Some (has_bytes now.0) (has_bytes c) kind ∙ bytes)
      (λ i low.
      let page : (4096 * (a / 4096) + i) / 4096 ≡ a / 4096 = omega arith in
      let offset : (4096 * (a / 4096) + i) % 4096 ≡ i = omega arith in
      ap (λ j. byte_of j now.0) (sym offset)
      ∙ sym (byte_seen procs m pid name (4096 * (a / 4096) + i) now.0 (seen_near procs m pid name a (4096 * (a / 4096) + i) now.0 page now.1))
      ∙ h (4096 * (a / 4096) + i) page
      ∙ ap (λ j. byte_of j d) offset))

  -- a page whose bytes are seen as before holds what it held
  contents_kept : (name : PageName) (a : ℕ) → reach procs l (page_of pid a) Load ≡ Some name
      → ((x : ℕ) → x / 4096 ≡ a / 4096 → seen_byte procs m pid x ≡ seen_byte procs l pid x) → contents_of m name ≡ contents_of l name
  contents_kept name a e h =
      let was : (c : Contents) × IsSeenAt procs l pid name a c = seen_somewhere procs l pid name a e in
      contents_by name a was.0 was.0 was.1 (old.whole a was.0 (seen_contents procs l pid name a was.0 was.1)) refl
      (λ x p. h x p ∙ byte_seen procs l pid name x was.0 (seen_near procs l pid name a x was.0 p was.1))
      ∙ sym was.1.holds

  -- where all bytes are seen as before, the ledger is the same
  pub same_by_bytes : seen_byte procs m pid ≡ seen_byte procs l pid → m ≡ l
  same_by_bytes h = ledger_from m l rights (λ name. elim (old.seen name) [
    | inl at ↦ contents_kept name at.0 at.1 (λ x p. ap (λ f. f x) h)
    | inr nowhere ↦ unseen name nowhere
  ])

  -- where they are seen with a store, the store's bytes are written to its page
  module _ (s : ℕ) (width : Width) (value : ℕ) (aligned : s % size_of width ≡ 0) (name : PageName) (bytes : List ℕ)
      (at : IsSeenAt procs l pid name s (Bytes bytes)) (h : seen_byte procs m pid ≡ with_number (seen_byte procs l pid) s width value) where
    whole : length bytes ≡ 4096
    whole = old.whole s (Bytes bytes) (seen_contents procs l pid name s (Bytes bytes) at)

    old_at : (x : ℕ) → x / 4096 ≡ s / 4096 → seen_byte procs l pid x ≡ slice_index bytes (x % 4096)
    old_at x p = byte_seen procs l pid name x (Bytes bytes) (seen_near procs l pid name s x (Bytes bytes) p at)

    fits : s % 4096 + length (low_bytes width value) ≤ 4096
    fits = let k = stays_in_page width s aligned in let n = low_size width value in omega arith

    abbrev after : List ℕ
    after = written bytes (s % 4096) (low_bytes width value)

    of_stored : contents_of m name ≡ contents_of (write name (s % 4096) (low_bytes width value) l) name
    of_stored =
        contents_by name s (Bytes bytes) (Bytes after) at (written_size bytes (s % 4096) (low_bytes width value) fits whole) refl
        (λ x p. ap (λ f. f x) h ∙ sym (there (seen_byte procs l pid) s width value aligned bytes whole old_at x p))
        ∙ sym (write_changed name (s % 4096) (low_bytes width value) bytes l at.holds)

    -- another page is seen at another place
    apart : (other : PageName) (a x : ℕ) → other ≢ name → reach procs l (page_of pid a) Load ≡ Some other → x / 4096 ≡ a / 4096 → x / 4096 ≢ s / 4096
    apart other a x ne e p same = ne (same_Some other name
        (sym e ∙ ap (λ v. reach procs l (record { pid = pid; vpn = record { 0 = v } }) Load) (sym p ∙ same) ∙ at.reached))

    of_other : (other : PageName) → other ≢ name → contents_of m other ≡ contents_of l other
    of_other other ne = elim (old.seen other) [
      | inl seen ↦ contents_kept other seen.0 seen.1 (λ x p.
          ap (λ f. f x) h ∙ elsewhere (seen_byte procs l pid) s width value aligned bytes whole old_at x (apart other seen.0 x ne seen.1 p))
      | inr nowhere ↦ unseen other nowhere
    ]

    pub written_by_bytes : m ≡ write name (s % 4096) (low_bytes width value) l
    written_by_bytes = ledger_from m (write name (s % 4096) (low_bytes width value) l) (rights ∙ sym (write_bare name (s % 4096) (low_bytes width value) l))
        (λ other. elim (name_tells other name) [
          | inl same ↦ subst (λ n. contents_of m n ≡ contents_of (write name (s % 4096) (low_bytes width value) l) n) (sym same) of_stored
          | inr ne ↦ of_other other ne ∙ sym (write_others name other (s % 4096) (low_bytes width value) l ne)
        ])
