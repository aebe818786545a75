-- Where entries and owners agree, they stand for the ledger that they make.
use Rattle.std.proofs.Common.{◌≡◌, ◌≢◌, ℕ, ◌+◌, ◌<◌, ◌≤◌, true, false, ◌||◌, List, Option, Some, None, refl, sym, ap, subst, ◌∙◌, ◌⊎◌, inl, inr, arith}
use Rattle.std.specs.Prelude.{IsTrue, is_some}
use Rattle.std.specs.Option.{option_and_then, option_map}
use Rattle.std.proofs.lemmas.Bool.{both_ways, false≢true, cases_Bool}
use Rattle.std.proofs.lemmas.Option.{none-some, same_Some}
use Rattle.xk_base.specs.Numbers.Limits.{table_frames}
use Rattle.xk_base.specs.Tables.Circle.{is_pid}
use Rattle.xk_base.specs.declared.ids.Place.{Place}
use Rattle.xk_base.specs.declared.ids.Frame.{Frame as FrameNumber}
use Rattle.xk_base.specs.declared.pages.LoanKind.{LoanKind}
use Rattle.xk_base.specs.declared.pages.LoanKind.TheVariants.{Shared, Exclusive}
use Rattle.xk_base.specs.declared.pages.Right.{Right}
use Rattle.phys_pages.specs.declared.infos.LoanInfo.{LoanInfo}
use Rattle.phys_pages.specs.declared.infos.PageInfo.{PageInfo}
use Rattle.phys_pages.specs.declared.infos.Seat.{Seat}
use Rattle.phys_pages.specs.declared.infos.Seat.TheVariants.{Frame}
use Rattle.phys_pages.specs.Owners.{Extent, HasSeat, frame_seat}
use Rattle.ledger_model.specs.Ledger.{Contents, Console, Bytes, Page, PageLoan, Orphan, loan_at, loan_of, has_bytes, is_counted}
use Rattle.ledger_model.specs.Places.{is_user_place}
use Rattle.ledger_model.proofs.LedgerLemmas.{cases_Option, IsFreeAt, is_free-true, lender_of-none}
use Rattle.sv32_space.specs.declared.sides.Side.TheVariants.{Own, LentOut, LentIn, MutOut, MutIn}
use Rattle.sv32_space.specs.Agreement.{Infos, EntriesAgree, Agrees, HasUnusedFrame, procs_of, on_loan, lender_side, holder_side, loan_in, home_in, right_in, seat_in, loan_to}
use Rattle.sv32_space.specs.declared.sides.Entry.{Entry}
use Rattle.sv32_space.specs.declared.sides.Entry.TheVariants.{Free, At, OnConsole}
use Rattle.sv32_space.specs.Entries.{Entries}
use Rattle.sv32_space.specs.EntryLedger.{SeatBytes, IsWellPlaced, ledger_of, page_loan, page_of_entry, orphan_of_info, orphan_of_entry}
use Rattle.sv32_space.specs.StandsFor.{home_side, has_page, AreSpelled, AreBytes, AreSeatsApart, HasFreeFrame, Shown, StandsAt, StandsFor}
use Rattle.sv32_space.proofs.Ledgers.EntryLedgerLemmas.{home_at, orphan_at, page_of_holder, orphan_of_holder}

-- the place that names the page of a seat: its home, or the holder's place of an orphan
abbrev pub name_of : Option Place → Option LoanInfo → Place
name_of (Some home) loan = home
name_of None None = record { pid = record { 0 = 0 }; vpn = record { 0 = 0 } }
name_of None (Some loan) = loan.holder

abbrev pub name_in : Option PageInfo → Place
name_in info = name_of (home_in info) (loan_in info)

console_no_bytes : (bytes : List ℕ) → Console ≢ Bytes bytes
console_no_bytes bytes e = cc

module _ (procs : ℕ) (E : Entries) (I : Infos) (B : SeatBytes) (agree : EntriesAgree procs E I) where
  -- ---- a page of the ledger

  -- what a page at a home with bytes tells: the entry there, its bytes, and what is said of its seat
  record HomeTells (p : Place) (page : Page) (bytes : List ℕ) : Type 0 where
    entry : E p ≡ Some (At (home_side page.right page.loan) (seat_in (E p)))
    content : bytes ≡ B (seat_in (E p))
    home : home_in (I (seat_in (E p))) ≡ Some p
    loan : page.loan ≡ option_map page_loan (loan_in (I (seat_in (E p))))

  home_tells : (p : Place) (page : Page) (bytes : List ℕ) (o : Option Entry) → E p ≡ o
      → option_and_then (page_of_entry I B) o ≡ Some page → page.contents ≡ Bytes bytes → HomeTells p page bytes
  home_tells p page bytes None e h c = absurd (none-some page h)
  home_tells p page bytes (Some Free) e h c = absurd (none-some page h)
  home_tells p page bytes (Some (OnConsole w)) e h c =
      absurd (console_no_bytes bytes (ap (λ (x : Page). x.contents) (same_Some (record { right = record { w = w; x = false }; contents = Console; loan = None }) page h) ∙ c))
  home_tells p page bytes (Some (At (Own r) s)) e h c = let a = agree.own p r s e in
      record { entry = grind arith; content = grind arith; home = grind arith; loan = grind arith }
  home_tells p page bytes (Some (At (LentOut r) s)) e h c = let a = agree.lent_out p r s e in
      record { entry = grind arith; content = grind arith; home = grind arith; loan = grind arith }
  home_tells p page bytes (Some (At LentIn s)) e h c = absurd (none-some page h)
  home_tells p page bytes (Some (At (MutOut x) s)) e h c = let a = agree.mut_out p x s e in
      record { entry = grind arith; content = grind arith; home = grind arith; loan = grind arith }
  home_tells p page bytes (Some (At MutIn s)) e h c = absurd (none-some page h)

  -- what an orphan at a place tells
  pub record OrphanTells (p : Place) (orphan : Orphan) : Type 0 where
    pub entry : E p ≡ Some (At (holder_side orphan.kind) (seat_in (E p)))
    content : orphan.bytes ≡ B (seat_in (E p))
    homeless : home_in (I (seat_in (E p))) ≡ None
    pub loan : I (seat_in (E p)) ≡ Some (on_loan None (loan_to p orphan.kind (I (seat_in (E p)))))

  orphan_parts : (info : Option PageInfo) (loan : LoanInfo) (bytes : List ℕ) (orphan : Orphan) → info ≡ Some (on_loan (home_in info) loan)
      → option_and_then (orphan_of_info bytes) info ≡ Some orphan
      → (home_in info ≡ None) × (orphan.kind ≡ loan.kind) × (orphan.bytes ≡ bytes)
  orphan_parts info loan bytes orphan e h = by_home (home_in info) refl (sym (ap (option_and_then (orphan_of_info bytes)) e) ∙ h)
    where
      by_home : (o : Option Place) → home_in info ≡ o → orphan_of_info bytes (on_loan (home_in info) loan) ≡ Some orphan
          → (home_in info ≡ None) × (orphan.kind ≡ loan.kind) × (orphan.bytes ≡ bytes)
      by_home None q k =
          let same : Some (record { kind = loan.kind; bytes = bytes; number = loan.number }) ≡ Some orphan = sym (ap (λ o. orphan_of_info bytes (on_loan o loan)) q) ∙ k in
          let s : record { kind = loan.kind; bytes = bytes; number = loan.number } ≡ orphan = same_Some (record { kind = loan.kind; bytes = bytes; number = loan.number }) orphan same in
          (q, sym (ap (λ (x : Orphan). x.kind) s), sym (ap (λ (x : Orphan). x.bytes) s))
      by_home (Some home) q k = absurd (none-some orphan (sym (ap (λ o. orphan_of_info bytes (on_loan o loan)) q) ∙ k))

  pub orphan_tells : (p : Place) (orphan : Orphan) (o : Option Entry) → E p ≡ o
      → option_and_then (orphan_of_entry I B) o ≡ Some orphan → OrphanTells p orphan
  orphan_tells p orphan None e h = absurd (none-some orphan h)
  orphan_tells p orphan (Some Free) e h = absurd (none-some orphan h)
  orphan_tells p orphan (Some (OnConsole w)) e h = absurd (none-some orphan h)
  orphan_tells p orphan (Some (At (Own r) s)) e h = absurd (none-some orphan h)
  orphan_tells p orphan (Some (At (LentOut r) s)) e h = absurd (none-some orphan h)
  orphan_tells p orphan (Some (At (MutOut x) s)) e h = absurd (none-some orphan h)
  orphan_tells p orphan (Some (At LentIn s)) e h =
      let a = agree.lent_in p s e in let b = orphan_parts (I s) (loan_to p Shared (I s)) (B s) orphan a h in
      record { entry = grind arith; content = grind arith; homeless = grind arith; loan = grind arith }
  orphan_tells p orphan (Some (At MutIn s)) e h =
      let a = agree.mut_in p s e in let b = orphan_parts (I s) (loan_to p Exclusive (I s)) (B s) orphan a h in
      record { entry = grind arith; content = grind arith; homeless = grind arith; loan = grind arith }

  -- the console
  record ConsoleTells (p : Place) (page : Page) : Type 0 where
    entry : E p ≡ Some (OnConsole page.right.w)
    no_fetch : page.right.x ≡ false
    no_loan : page.loan ≡ None

  console_tells : (p : Place) (page : Page) (o : Option Entry) → E p ≡ o
      → option_and_then (page_of_entry I B) o ≡ Some page → page.contents ≡ Console → ConsoleTells p page
  console_tells p page None e h c = absurd (none-some page h)
  console_tells p page (Some Free) e h c = absurd (none-some page h)
  console_tells p page (Some (OnConsole w)) e h c = record { entry = grind arith; no_fetch = grind arith; no_loan = grind arith }
  console_tells p page (Some (At (Own r) s)) e h c =
      absurd (console_no_bytes (B s) (sym (ap (λ (x : Page). x.contents) (same_Some (record { right = r; contents = Bytes (B s); loan = None }) page h) ∙ c)))
  console_tells p page (Some (At (LentOut r) s)) e h c =
      absurd (console_no_bytes (B s) (sym (ap (λ (x : Page). x.contents) (same_Some (record { right = r; contents = Bytes (B s); loan = option_map page_loan (loan_in (I s)) }) page h) ∙ c)))
  console_tells p page (Some (At LentIn s)) e h c = absurd (none-some page h)
  console_tells p page (Some (At (MutOut x) s)) e h c =
      absurd (console_no_bytes (B s) (sym (ap (λ (x : Page). x.contents) (same_Some (record { right = record { w = true; x = x }; contents = Bytes (B s); loan = option_map page_loan (loan_in (I s)) }) page h) ∙ c)))
  console_tells p page (Some (At MutIn s)) e h c = absurd (none-some page h)

  -- ---- the loan of a page

  has_bytes_or_console : (c : Contents) → ((bytes : List ℕ) × (c ≡ Bytes bytes)) ⊎ (c ≡ Console)
  has_bytes_or_console Console = inr refl
  has_bytes_or_console (Bytes bytes) = inl (bytes, refl)

  page_at : (p : Place) (loan : PageLoan) (o : Option Page) → loan_of o ≡ Some loan → (page : Page) × (o ≡ Some page) × (page.loan ≡ Some loan)
  page_at p loan None h = absurd (none-some loan h)
  page_at p loan (Some page) h = (page, refl, h)

  info_of_parts : (info : Option PageInfo) (home : Place) (loan : LoanInfo) → home_in info ≡ Some home → loan_in info ≡ Some loan
      → info ≡ Some (on_loan (Some home) loan)
  info_of_parts None home loan a b = absurd (none-some home a)
  info_of_parts (Some i) home loan a b = λ k. Some (record { home = a k; loan = b k })

  loan_mapped : (o : Option LoanInfo) (loan : PageLoan) → option_map page_loan o ≡ Some loan → (l : LoanInfo) × (o ≡ Some l) × (page_loan l ≡ loan)
  loan_mapped None loan h = absurd (none-some loan h)
  loan_mapped (Some l) loan h = (l, refl, same_Some (page_loan l) loan h)

  -- what a loan tells: the owner table has it at the seat that the home's entry names
  pub loan_tells : (p : Place) (loan : PageLoan) → loan_at (ledger_of E I B) p ≡ Some loan
      → (l : LoanInfo) × (I (seat_in (E p)) ≡ Some (on_loan (Some p) l)) × (page_loan l ≡ loan)
  unfolding ledger_of
  loan_tells p loan h =
      let page : (page : Page) × ((ledger_of E I B).home p ≡ Some page) × (page.loan ≡ Some loan) = page_at p loan ((ledger_of E I B).home p) h in
      elim (has_bytes_or_console page.0.contents) [
        | inl b ↦
            let t : HomeTells p page.0 b.0 = home_tells p page.0 b.0 (E p) refl page.1 b.1 in
            let l : (l : LoanInfo) × (loan_in (I (seat_in (E p))) ≡ Some l) × (page_loan l ≡ loan) = loan_mapped (loan_in (I (seat_in (E p)))) loan (sym t.loan ∙ page.2) in
            (l.0, info_of_parts (I (seat_in (E p))) p l.0 t.home l.1, l.2)
        | inr c ↦ let t : ConsoleTells p page.0 = console_tells p page.0 (E p) refl page.1 c in absurd (none-some loan (sym t.no_loan ∙ page.2))
      ]

  pub loan_held : (p : Place) (loan : PageLoan) → loan_at (ledger_of E I B) p ≡ Some loan
      → E loan.holder ≡ Some (At (holder_side loan.kind) (seat_in (E p)))
  loan_held p loan h =
      let t : (l : LoanInfo) × (I (seat_in (E p)) ≡ Some (on_loan (Some p) l)) × (page_loan l ≡ loan) = loan_tells p loan h in
      subst (λ (x : PageLoan). E x.holder ≡ Some (At (holder_side x.kind) (seat_in (E p)))) t.2 (agree.holder (seat_in (E p)) (Some p) t.0 t.1)

  -- ---- parts 2 and 3

  -- a place of a process has an entry; only such a place has a home's entry
  entry_there : (p : Place) → is_user_place procs p ≡ true → (e : Entry) × (E p ≡ Some e)
  entry_there p lies = elim (cases_Option (E p)) [
    | inl none ↦ absurd (both_ways (is_some (E p)) (ap is_some none) (agree.spelled p ∙ lies))
    | inr some ↦ some
  ]

  entry_lies : (p : Place) (e : Entry) → E p ≡ Some e → is_user_place procs p ≡ true
  entry_lies p e h = sym (agree.spelled p) ∙ ap is_some h

  -- no loan is to a place that is no holder's
  no_loan_to : (p : Place) → IsFreeAt procs (ledger_of E I B) p → (q : Place) (l : LoanInfo) (s : Seat) → I s ≡ Some (on_loan (Some q) l)
      → l.holder ≢ p
  unfolding ledger_of
  no_loan_to p free q l s i same =
      let entry : E q ≡ Some (At (lender_side l.kind (right_in (E q))) s) = agree.lender s q l i in
      let loan : loan_at (ledger_of E I B) q ≡ option_map page_loan (loan_in (I s)) = lender_loan l.kind (right_in (E q)) s entry in
      lender_of-none procs (ledger_of E I B) p q (page_loan l) free.lender (entry_lies q (At (lender_side l.kind (right_in (E q))) s) entry)
      (loan ∙ ap (λ o. option_map page_loan (loan_in o)) i) same
    where
      lender_loan : (kind : LoanKind) (r : Right) (t : Seat) → E q ≡ Some (At (lender_side kind r) t)
          → loan_of ((ledger_of E I B).home q) ≡ option_map page_loan (loan_in (I t))
      lender_loan Shared r t e = ap loan_of (home_at E I B q (At (LentOut r) t) e)
      lender_loan Exclusive r t e = ap loan_of (home_at E I B q (At (MutOut r.x) t) e)

  -- a holder's entry at a place that is no holder's and no orphan's
  not_held : (p : Place) → IsFreeAt procs (ledger_of E I B) p → (kind : LoanKind) (s : Seat)
      → I s ≡ Some (on_loan (home_in (I s)) (loan_to p kind (I s)))
      → (ledger_of E I B).orphan p ≡ option_and_then (orphan_of_info (B s)) (I s) → ⊥
  not_held p free kind s i o = by_home (home_in (I s)) refl
    where
      by_home : (h : Option Place) → home_in (I s) ≡ h → ⊥
      by_home (Some q) e = no_loan_to p free q (loan_to p kind (I s)) s (i ∙ ap (λ h. Some (on_loan h (loan_to p kind (I s)))) e) refl
      by_home None e =
          let j : I s ≡ Some (on_loan None (loan_to p kind (I s))) = i ∙ ap (λ h. Some (on_loan h (loan_to p kind (I s)))) e in
          none-some (record { kind = kind; bytes = B s; number = (loan_to p kind (I s)).number }) (sym free.orphan ∙ (o ∙ ap (option_and_then (orphan_of_info (B s))) j))

  free_entry : (p : Place) → IsFreeAt procs (ledger_of E I B) p → (e : Entry) → E p ≡ Some e → E p ≡ Some Free
  free_entry p free Free h = h
  free_entry p free (OnConsole w) h = absurd (none-some _ (sym free.home ∙ home_at E I B p (OnConsole w) h))
  free_entry p free (At (Own r) s) h = absurd (none-some _ (sym free.home ∙ home_at E I B p (At (Own r) s) h))
  free_entry p free (At (LentOut r) s) h = absurd (none-some _ (sym free.home ∙ home_at E I B p (At (LentOut r) s) h))
  free_entry p free (At (MutOut x) s) h = absurd (none-some _ (sym free.home ∙ home_at E I B p (At (MutOut x) s) h))
  free_entry p free (At LentIn s) h = absurd (not_held p free Shared s (agree.lent_in p s h) (orphan_at E I B p (At LentIn s) h))
  free_entry p free (At MutIn s) h = absurd (not_held p free Exclusive s (agree.mut_in p s h) (orphan_at E I B p (At MutIn s) h))

  pub are_spelled : AreSpelled procs E (ledger_of E I B) (λ p. seat_in (E p))
  unfolding ledger_of
  are_spelled = record {
    home = λ p page bytes h c. let t : HomeTells p page bytes = home_tells p page bytes (E p) refl h c in t.entry;
    holder = loan_held;
    orphan = λ p orphan h. let t : OrphanTells p orphan = orphan_tells p orphan (E p) refl h in t.entry;
    free = λ p lies free. let e : (e : Entry) × (E p ≡ Some e) = entry_there p lies in free_entry p (is_free-true procs (ledger_of E I B) p free) e.0 e.1;
    console = λ p page h c. let t : ConsoleTells p page = console_tells p page (E p) refl h c in t.entry;
    console_no_fetch = λ p page h c. let t : ConsoleTells p page = console_tells p page (E p) refl h c in t.no_fetch;
    console_no_loan = λ p page h c. let t : ConsoleTells p page = console_tells p page (E p) refl h c in t.no_loan;
  }

  -- ---- part 4

  pub are_bytes : (told : Seat → Option (List ℕ)) → ((s : Seat) (known : List ℕ) → told s ≡ Some known → B s ≡ known)
      → AreBytes told (ledger_of E I B) (λ p. seat_in (E p))
  unfolding ledger_of
  are_bytes told holds = record {
    home = λ p page bytes known h c k. let t : HomeTells p page bytes = home_tells p page bytes (E p) refl h c in t.content ∙ holds (seat_in (E p)) known k;
    orphan = λ p orphan known h k. let t : OrphanTells p orphan = orphan_tells p orphan (E p) refl h in t.content ∙ holds (seat_in (E p)) known k;
  }

  -- ---- part 5

  counted_page : (o : Option Page) → is_counted o ≡ true → (page : Page) × (bytes : List ℕ) × (o ≡ Some page) × (page.contents ≡ Bytes bytes)
  counted_page None h = absurd (false≢true h)
  counted_page (Some page) h = by_contents page.contents refl h
    where
      by_contents : (c : Contents) → page.contents ≡ c → has_bytes c ≡ true → (a : Page) × (bytes : List ℕ) × (Some page ≡ Some a) × (a.contents ≡ Bytes bytes)
      by_contents Console e k = absurd (false≢true k)
      by_contents (Bytes bytes) e k = (page, bytes, refl, e)

  there : (o : Option Orphan) → is_some o ≡ true → (x : Orphan) × (o ≡ Some x)
  there None h = absurd (false≢true h)
  there (Some x) h = (x, refl)

  some_home : (info : Option PageInfo) (home : Place) → home_in info ≡ Some home → is_some info ≡ true
  some_home None home h = absurd (none-some home h)
  some_home (Some i) home h = refl

  -- the owner table says of a page's seat where the page has its name
  record SeatTells (p : Place) : Type 0 where
    used : is_some (I (seat_in (E p))) ≡ true
    name : name_in (I (seat_in (E p))) ≡ p

  seat_tells_page : (p : Place) → has_page (ledger_of E I B) p ≡ true → SeatTells p
  unfolding ledger_of
  seat_tells_page p h = elim (cases_Bool (is_counted ((ledger_of E I B).home p))) [
    | inl c ↦
        let page : (page : Page) × (bytes : List ℕ) × ((ledger_of E I B).home p ≡ Some page) × (page.contents ≡ Bytes bytes) = counted_page ((ledger_of E I B).home p) c in
        let t : HomeTells p page.0 page.1 = home_tells p page.0 page.1 (E p) refl page.2 page.3 in
        record { used = some_home (I (seat_in (E p))) p t.home; name = ap (λ o. name_of o (loan_in (I (seat_in (E p))))) t.home }
    | inr n ↦
        let orphan : (x : Orphan) × ((ledger_of E I B).orphan p ≡ Some x) = there ((ledger_of E I B).orphan p) (ap (λ b. b || is_some ((ledger_of E I B).orphan p)) (sym n) ∙ h) in
        let t : OrphanTells p orphan.0 = orphan_tells p orphan.0 (E p) refl orphan.1 in
        record { used = ap is_some t.loan; name = ap name_in t.loan }
  ]

  pub seats_differ : (p q : Place) → has_page (ledger_of E I B) p ≡ true → has_page (ledger_of E I B) q ≡ true
      → seat_in (E p) ≡ seat_in (E q) → p ≡ q
  seats_differ p q a b same =
      let x : SeatTells p = seat_tells_page p a in let y : SeatTells q = seat_tells_page q b in
      sym x.name ∙ (ap (λ s. name_in (I s)) same ∙ y.name)

  some_info : (o : Option PageInfo) → is_some o ≡ true → (info : PageInfo) × (o ≡ Some info)
  some_info None h = absurd (false≢true h)
  some_info (Some info) h = (info, refl)

  pub page_info : (p : Place) → has_page (ledger_of E I B) p ≡ true → (info : PageInfo) × (I (seat_in (E p)) ≡ Some info)
  page_info p h = let x : SeatTells p = seat_tells_page p h in some_info (I (seat_in (E p))) x.used

  pub are_apart : (table : Extent) (frames : ℕ) → table.first ≡ table_frames procs → table.first + table.frames ≡ frames
      → ((s : Seat) (info : PageInfo) → I s ≡ Some info → HasSeat table s)
      → AreSeatsApart procs frames (ledger_of E I B) (λ p. seat_in (E p))
  are_apart table frames first last within = record {
    apart = seats_differ;
    no_table = λ p f h e. let s : (table.first ≤ f.0) × (f.0 < table.first + table.frames) = in_table p f h e in omega (arith, s.0);
    in_ram = λ p f h e. let s : (table.first ≤ f.0) × (f.0 < table.first + table.frames) = in_table p f h e in omega (arith, s.1);
  }
    where
      in_table : (p : Place) (f : FrameNumber) → has_page (ledger_of E I B) p ≡ true → seat_in (E p) ≡ Frame f → HasSeat table (Frame f)
      in_table p f h e = let i : (info : PageInfo) × (I (seat_in (E p)) ≡ Some info) = page_info p h in
          subst (HasSeat table) e (within (seat_in (E p)) i.0 i.1)

  pub has_room : (frames f : ℕ) → table_frames procs ≤ f → f < frames → I (frame_seat f) ≡ None
      → HasFreeFrame procs frames (ledger_of E I B) (λ p. seat_in (E p))
  has_room frames f low high empty = record {
    frame = f;
    no_table = low;
    in_ram = high;
    free = λ p h e. let i : (info : PageInfo) × (I (seat_in (E p)) ≡ Some info) = page_info p h in none-some i.0 (sym empty ∙ (ap I (sym e) ∙ i.1));
  }

  -- ---- what of a lawful ledger follows

  home_entry : (p : Place) (page : Page) → (ledger_of E I B).home p ≡ Some page → (e : Entry) × (E p ≡ Some e)
  unfolding ledger_of
  home_entry p page h = elim (cases_Option (E p)) [
    | inl none ↦ absurd (none-some page (sym (ap (option_and_then (page_of_entry I B)) none) ∙ h))
    | inr some ↦ some
  ]

  orphan_entry : (p : Place) (orphan : Orphan) → (ledger_of E I B).orphan p ≡ Some orphan → (e : Entry) × (E p ≡ Some e)
  unfolding ledger_of
  orphan_entry p orphan h = elim (cases_Option (E p)) [
    | inl none ↦ absurd (none-some orphan (sym (ap (option_and_then (orphan_of_entry I B)) none) ∙ h))
    | inr some ↦ some
  ]

  same_holder : (p q : Place) (a b : PageLoan) → loan_at (ledger_of E I B) p ≡ Some a → loan_at (ledger_of E I B) q ≡ Some b
      → a.holder ≡ b.holder → p ≡ q
  same_holder p q a b x y same =
      let u : E a.holder ≡ Some (At (holder_side a.kind) (seat_in (E p))) = loan_held p a x in
      let v : E b.holder ≡ Some (At (holder_side b.kind) (seat_in (E q))) = loan_held q b y in
      let seat : seat_in (E p) ≡ seat_in (E q) = sym (ap seat_in u) ∙ (ap (λ r. seat_in (E r)) same ∙ ap seat_in v) in
      let s : (l : LoanInfo) × (I (seat_in (E p)) ≡ Some (on_loan (Some p) l)) × (page_loan l ≡ a) = loan_tells p a x in
      let t : (l : LoanInfo) × (I (seat_in (E q)) ≡ Some (on_loan (Some q) l)) × (page_loan l ≡ b) = loan_tells q b y in
      same_Some p q (sym (ap home_in s.1) ∙ (ap (λ r. home_in (I r)) seat ∙ ap home_in t.1))

  holder_no_home : (p : Place) (loan : PageLoan) → loan_at (ledger_of E I B) p ≡ Some loan → (ledger_of E I B).home loan.holder ≡ None
  holder_no_home p loan h = home_at E I B loan.holder (At (holder_side loan.kind) (seat_in (E p))) (loan_held p loan h)
      ∙ page_of_holder loan.kind (I (seat_in (E p))) (B (seat_in (E p)))

  holder_no_orphan : (p : Place) (loan : PageLoan) → loan_at (ledger_of E I B) p ≡ Some loan → (ledger_of E I B).orphan loan.holder ≡ None
  holder_no_orphan p loan h =
      let t : (l : LoanInfo) × (I (seat_in (E p)) ≡ Some (on_loan (Some p) l)) × (page_loan l ≡ loan) = loan_tells p loan h in
      orphan_at E I B loan.holder (At (holder_side loan.kind) (seat_in (E p))) (loan_held p loan h)
      ∙ (orphan_of_holder loan.kind (I (seat_in (E p))) (B (seat_in (E p))) ∙ ap (option_and_then (orphan_of_info (B (seat_in (E p))))) t.1)

  -- a page on Exclusive loan stands at an entry whose former right has w
  exclusive_right : (page : Page) (loan : PageLoan) (o : Option Entry) → option_and_then (page_of_entry I B) o ≡ Some page
      → (s : Seat) → o ≡ Some (At (MutOut page.right.x) s) → page.right.w ≡ true
  exclusive_right page loan o h s e =
      sym (ap (λ (x : Page). x.right.w) (same_Some (record { right = record { w = true; x = page.right.x }; contents = Bytes (B s); loan = option_map page_loan (loan_in (I s)) }) page
      (sym (ap (option_and_then (page_of_entry I B)) e) ∙ h)))

  exclusive_writable : (p : Place) (page : Page) (loan : PageLoan) → (ledger_of E I B).home p ≡ Some page → page.loan ≡ Some loan
      → loan.kind ≡ Exclusive → page.right.w ≡ true
  unfolding ledger_of
  exclusive_writable p page loan h e k = elim (has_bytes_or_console page.contents) [
    | inl b ↦
        let t : HomeTells p page b.0 = home_tells p page b.0 (E p) refl h b.1 in
        exclusive_right page loan (E p) h (seat_in (E p))
        (t.entry ∙ (ap (λ o. Some (At (home_side page.right o) (seat_in (E p)))) e ∙ ap (λ q. Some (At (lender_side q page.right) (seat_in (E p)))) k))
    | inr c ↦ let t : ConsoleTells p page = console_tells p page (E p) refl h c in absurd (none-some loan (sym t.no_loan ∙ e))
  ]

  pub well_placed : IsWellPlaced procs (ledger_of E I B)
  unfolding ledger_of
  well_placed = record {
    home_lies = λ p page h. let e : (e : Entry) × (E p ≡ Some e) = home_entry p page h in entry_lies p e.0 e.1;
    holder_lies = λ p loan h. entry_lies loan.holder (At (holder_side loan.kind) (seat_in (E p))) (loan_held p loan h);
    orphan_lies = λ p orphan h. let e : (e : Entry) × (E p ≡ Some e) = orphan_entry p orphan h in entry_lies p e.0 e.1;
    holders_differ = same_holder;
    holder_no_home = holder_no_home;
    holder_no_orphan = holder_no_orphan;
    orphan_no_home = λ p orphan h.
        let t : OrphanTells p orphan = orphan_tells p orphan (E p) refl h in
        home_at E I B p (At (holder_side orphan.kind) (seat_in (E p))) t.entry ∙ page_of_holder orphan.kind (I (seat_in (E p))) (B (seat_in (E p)));
    console_no_loan = λ p page h c. let t : ConsoleTells p page = console_tells p page (E p) refl h c in t.no_loan;
    console_no_fetch = λ p page h c. let t : ConsoleTells p page = console_tells p page (E p) refl h c in t.no_fetch;
    exclusive_writable = exclusive_writable;
  }

-- ---- the whole

module _ (is_made : ℕ → Type 0) (shown : Shown) (table : Extent) (I : Infos) (B : SeatBytes) (same : shown.procs ≡ procs_of table)
    (agrees : Agrees is_made shown.frames shown.entries table I) (within : (s : Seat) (info : PageInfo) → I s ≡ Some info → HasSeat table s)
    (holds : (s : Seat) (known : List ℕ) → shown.told s ≡ Some known → B s ≡ known) where
  with_procs : EntriesAgree shown.procs shown.entries I
  with_procs = subst (λ n. EntriesAgree n shown.entries I) (sym same) agrees.entries

  first : table.first ≡ table_frames shown.procs
  first = agrees.first ∙ ap table_frames (sym same)

  pub stands_at : StandsAt is_made shown (ledger_of shown.entries I B) (λ p. seat_in (shown.entries p))
  stands_at = record {
    tables = λ pid lies. agrees.made pid (subst (λ n. IsTrue (is_pid n pid)) same lies);
    spelled = are_spelled shown.procs shown.entries I B with_procs;
    bytes = are_bytes shown.procs shown.entries I B with_procs shown.told holds;
    apart = are_apart shown.procs shown.entries I B with_procs table shown.frames first agrees.last within;
  }

  pub stands_for : HasUnusedFrame table I → StandsFor is_made shown (ledger_of shown.entries I B)
  stands_for free =
      let low : table.first ≤ free.frame = free.within.0 in
      let high : free.frame < table.first + table.frames = free.within.1 in
      let last : table.first + table.frames ≡ shown.frames = agrees.last in
      record {
        seat = λ p. seat_in (shown.entries p);
        stands = stands_at;
        room = has_room shown.procs shown.entries I B with_procs shown.frames free.frame (omega (arith, first, low)) (omega (arith, high, last)) free.free;
      }
