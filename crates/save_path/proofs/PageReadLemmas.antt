-- The page of a home, and the orphan of a place, as a memory tells of them, and where they are read.
use Rattle.std.proofs.Common.{◌≡◌, ℕ, ◌+◌, ◌*◌, Bool, true, false, List, [], ◌++◌, length, Option, Some, None, refl, sym, ap, ◌∙◌, append-nil, arith}
use Rattle.std.specs.Prelude.{if◌then◌else◌, is_some, not}
use Rattle.std.specs.Option.{option_map, option_map_or, option_and_then}
use Rattle.std.proofs.lemmas.Bool.{false≢true}
use Rattle.std.proofs.lemmas.List.{length-append}
use Rattle.std.proofs.lemmas.Option.{same_Some}
use Rattle.ledger_model.proofs.ReachingLemmas.{reach-holder, reach-home, reach-orphan}
use Rattle.ledger_model.specs.Lawful.{IsLawful}
use Rattle.ledger_model.specs.Ledger.{Bytes, Console, Contents, Ledger, Orphan, Page, PageLoan, Homed, Orphaned, contents_of, has_bytes, loan_at, loan_of}
use Rattle.ledger_model.specs.Reach.{holder_role, home_may, home_or, holder_may, lent_role, lender_of, orphan_or_holder, reach, role_at}
use Rattle.phys_pages.specs.declared.infos.LoanInfo.{LoanInfo}
use Rattle.suspend_image.proofs.Sheets.SpellingLemmas.{both_appended, none_appended}
use Rattle.suspend_image.specs.Sheets.{HasRoom, SheetBytes, appended}
use Rattle.snapshot_rows.specs.declared.state.OrphanRow.{OrphanRow}
use Rattle.snapshot_rows.specs.declared.state.PageRow.{PageRow}
use Rattle.save_path.specs.Written.{Fits}
use Rattle.save_path.proofs.SheetLemmas.{fits_behind, fits_less, has_room}
use Rattle.suspend_image.specs.Spelling.{orphan_words, page_words}
use Rattle.page_views.specs.Here.{here_at, here_of, info_of_loan}
use Rattle.vm_memory.specs.Using.Access.{contents_reached, reaches_bytes}
use Rattle.page_views.specs.declared.places.Here.{Here}
use Rattle.page_views.specs.declared.places.Here.TheVariants.{Lent, Own}
use Rattle.xk_base.specs.declared.ids.Number.{Number}
use Rattle.xk_base.specs.declared.ids.Place.{Place}
use Rattle.xk_base.specs.declared.pages.Access.TheVariants.{Load}
use Rattle.xk_base.specs.declared.pages.LoanKind.{LoanKind}
use Rattle.xk_base.specs.declared.pages.LoanKind.TheVariants.{Shared, Exclusive}
use Rattle.xk_base.specs.declared.pages.Right.{Right}
use Rattle.save_path.proofs.SizeLemmas.{length-orphan, length-page}
use Rattle.save_path.specs.Pages.{AppendsText, as_loan, reading_place, reading_place_by, seen_page}
use Rattle.save_path.specs.Rows.{PageText, home_at, home_text, orphan_at, orphan_text, text_words}
use Rattle.suspend_image.specs.SavedRows.{flag, orphan_row, page_row, right_number}
use Rattle.suspend_image.specs.StateBytes.{bytes_of}
use Rattle.ledger_model.specs.Places.{place_at}

-- ---- what stands at a place

-- the page of a home as `at` tells of it
pub record IsSeen (l : Ledger) (p : Place) (r : Right) (console : Bool) (info : Option LoanInfo) : Type 0 where
  pub page : Page
  pub home : l.home p ≡ Some page
  pub right : page.right ≡ r
  pub whether : not (has_bytes page.contents) ≡ console
  pub loan : option_map info_of_loan page.loan ≡ info

-- a place that is no home isn't told as one
not_own : (l : Ledger) (o : Option Orphan) (lender : Option Place) (r : Right) (console : Bool) (info : Option LoanInfo)
    → here_of (orphan_or_holder o (holder_role l lender)) ≡ Own r console info → ⊥
not_own l (Some orphan) lender r console info e = cc
not_own l None None r console info e = cc
not_own l None (Some home) r console info e = go (loan_at l home) e
  where
    go : (loan : Option PageLoan) → here_of (lent_role home loan) ≡ Own r console info → ⊥
    go None q = cc
    go (Some loan) q = cc

pub home_seen : (procs : ℕ) (l : Ledger) (p : Place) (r : Right) (console : Bool) (info : Option LoanInfo) → here_at procs l p ≡ Own r console info
    → IsSeen l p r console info
unfolding role_at
home_seen procs l p r console info e = go (l.home p) refl e
  where
    go : (o : Option Page) → l.home p ≡ o → here_of (home_or o (orphan_or_holder (l.orphan p) (holder_role l (lender_of procs l p)))) ≡ Own r console info
        → IsSeen l p r console info
    go None q h = absurd (not_own l (l.orphan p) (lender_of procs l p) r console info h)
    go (Some page) q h = record { page = page; home = q; right = cc; whether = cc; loan = cc }

-- .. and a home is told as one
pub none_seen : (procs : ℕ) (l : Ledger) (p : Place) (here : Here) → here_at procs l p ≡ here
    → ((r : Right) (console : Bool) (info : Option LoanInfo) → here ≡ Own r console info → ⊥) → l.home p ≡ None
unfolding role_at
none_seen procs l p here e never = go (l.home p) refl e
  where
    go : (o : Option Page) → l.home p ≡ o → here_of (home_or o (orphan_or_holder (l.orphan p) (holder_role l (lender_of procs l p)))) ≡ here → l.home p ≡ None
    go None q h = q
    go (Some page) q h = absurd (never page.right (not (has_bytes page.contents)) (option_map info_of_loan page.loan) (sym h))

-- ---- what is spelled of it

loan_back : (o : Option PageLoan) → as_loan (option_map info_of_loan o) ≡ o
loan_back None = refl
loan_back (Some loan) = refl

right_back : (r : Right) (c : Contents) → right_number r (if not (has_bytes c) then Console else Bytes []) ≡ right_number r c
right_back r Console = refl
right_back r (Bytes bytes) = refl

module _ (l : Ledger) (p : Place) (r : Right) (console : Bool) (info : Option LoanInfo) (seen : IsSeen l p r console info) where
  pub seen_loan : as_loan info ≡ seen.page.loan
  seen_loan = ap as_loan (sym seen.loan) ∙ loan_back seen.page.loan

  pub seen_words : page_words (page_row 0 p (seen_page r console info)) ≡ page_words (page_row 0 p seen.page)
  seen_words =
      let right : right_number r (if console then Console else Bytes []) ≡ right_number seen.page.right seen.page.contents =
      (λ i. right_number (sym seen.right i) (if sym seen.whether i then Console else Bytes [])) ∙ right_back seen.page.right seen.page.contents in
      (λ i. page_words (record (page_row 0 p (record (seen_page r console info) { loan = seen_loan i })) { right = right i }))

  -- ---- where it is read

  pub seen_bytes : console ≡ false → has_bytes seen.page.contents ≡ true
  seen_bytes e = go (has_bytes seen.page.contents) (seen.whether ∙ e)
    where
      go : (b : Bool) → not b ≡ false → b ≡ true
      go true q = refl
      go false q = sym q

  pub seen_reached : (procs capacity : ℕ) → IsLawful procs capacity l → contents_reached procs l (reading_place p (as_loan info)) Load ≡ Some seen.page.contents
  seen_reached procs capacity lawful =
      ap (λ (loan : Option PageLoan). contents_reached procs l (reading_place p loan) Load) seen_loan ∙ go seen.page.loan refl
    where
      named : (at : Place) → reach procs l at Load ≡ Some (Homed p) → contents_reached procs l at Load ≡ Some seen.page.contents
      named at e = ap (option_and_then (contents_of l)) e ∙ ap (option_map (λ (page : Page). page.contents)) seen.home

      held : (loan : PageLoan) (kind : LoanKind) → seen.page.loan ≡ Some loan → loan.kind ≡ kind
          → contents_reached procs l (reading_place_by p kind loan.holder) Load ≡ Some seen.page.contents
      held loan Shared e k =
          named p (reach-home procs l p seen.page Load seen.home
          ∙ ap (λ (o : Option PageLoan). if home_may seen.page.right o Load then Some (Homed p) else None) e
          ∙ shared seen.page.right loan k)
        where
          shared : (right : Right) (loan : PageLoan) → loan.kind ≡ Shared → (if home_may right (Some loan) Load then Some (Homed p) else None) ≡ Some (Homed p)
          shared right loan k = rw k refl
      held loan Exclusive e k =
          named loan.holder (reach-holder procs capacity l p loan Load lawful (ap loan_of seen.home ∙ e)
          ∙ ap (λ (kind : LoanKind). if holder_may kind Load then Some (Homed p) else None) k)

      go : (o : Option PageLoan) → seen.page.loan ≡ o → contents_reached procs l (reading_place p o) Load ≡ Some seen.page.contents
      go None e = named p (reach-home procs l p seen.page Load seen.home
          ∙ ap (λ (o : Option PageLoan). if home_may seen.page.right o Load then Some (Homed p) else None) e)
      go (Some loan) e = held loan loan.kind e refl

  pub seen_may : (procs capacity : ℕ) → IsLawful procs capacity l → console ≡ false → reaches_bytes procs l (reading_place p (as_loan info)) Load ≡ true
  seen_may procs capacity lawful e = ap (λ o. option_map_or has_bytes o false) (seen_reached procs capacity lawful) ∙ seen_bytes e

  -- ---- written

  module _ (k : ℕ) (same : p ≡ place_at k) where
    text : home_at l k ≡ Some (home_text p seen.page)
    text = (λ i. option_map (home_text (sym same i)) (l.home (sym same i))) ∙ ap (option_map (home_text p)) seen.home

    pub console_written : {known : Type 0} (old new : SheetBytes) → console ≡ true → new ≡ appended (page_words (page_row 0 p (seen_page r console info))) old
        → AppendsText known old new (home_at l k) true
    console_written old new e is =
        let words : page_words (page_row 0 p (seen_page r console info)) ≡ page_words (page_row 0 p seen.page) = seen_words in
        let size = length-page (page_row 0 p seen.page) in
        let both = length-append (page_words (page_row 0 p seen.page)) [] in
        let none = no_bytes seen.page.contents (seen.whether ∙ e) in
        let whole : home_text p seen.page ≡ record { words = page_words (page_row 0 p seen.page); contents = [] } =
        ap (λ (bytes : List ℕ). record { words = page_words (page_row 0 p seen.page); contents = bytes }) none in
        record {
          there = ap is_some (sym text);
          written = Some (record { words = page_words (page_row 0 p seen.page); contents = [] });
          alike = ap (option_map text_words) (sym text);
          told = λ _. sym (text ∙ ap Some whole);
          few = omega arith;
          is = is ∙ ap (λ (bytes : List ℕ). appended bytes old) (words ∙ sym (append-nil (page_words (page_row 0 p seen.page))));
        }
      where
        no_bytes : (c : Contents) → not (has_bytes c) ≡ true → bytes_of c ≡ []
        no_bytes Console q = refl
        no_bytes (Bytes bytes) q = absurd (false≢true q)

    pub page_written : {known : Type 0} (old mid new : SheetBytes) (bytes : List ℕ) → mid ≡ appended (page_words (page_row 0 p (seen_page r console info))) old
        → new ≡ appended bytes mid → length bytes ≡ 4096 → (known → Some seen.page.contents ≡ Some (Bytes bytes)) → AppendsText known old new (home_at l k) true
    page_written old mid new bytes first second many own =
        let words : page_words (page_row 0 p (seen_page r console info)) ≡ page_words (page_row 0 p seen.page) = seen_words in
        let size = length-page (page_row 0 p seen.page) in
        let both = length-append (page_words (page_row 0 p seen.page)) bytes in
        record {
          there = ap is_some (sym text);
          written = Some (record { words = page_words (page_row 0 p seen.page); contents = bytes });
          alike = ap (option_map text_words) (sym text);
          told = λ is_known.
              sym (text ∙ ap (λ (c : Contents). Some (record { words = page_words (page_row 0 p seen.page); contents = bytes_of c }))
              (same_Some seen.page.contents (Bytes bytes) (own is_known)));
          few = omega arith;
          is = second ∙ ap (λ (s : SheetBytes). appended bytes s) first ∙ both_appended old (page_words (page_row 0 p (seen_page r console info))) bytes
              ∙ ap (λ (xs : List ℕ). appended (xs ++ bytes) old) words;
        }

-- where there is no page, nothing is written
pub none_written : {known : Type 0} (text : Option PageText) (old : SheetBytes) → text ≡ None → AppendsText known old old text false
none_written text old e = record {
  there = ap is_some (sym e);
  written = None;
  alike = ap (option_map text_words) (sym e);
  told = λ _. sym e;
  few = omega arith;
  is = none_appended old;
}

pub no_home : (l : Ledger) (p : Place) (k : ℕ) → p ≡ place_at k → l.home p ≡ None → home_at l k ≡ None
no_home l p k same e = (λ i. option_map (home_text (sym same i)) (l.home (sym same i))) ∙ ap (option_map (home_text p)) e

pub no_orphan : (l : Ledger) (p : Place) (k : ℕ) → p ≡ place_at k → l.orphan p ≡ None → orphan_at l k ≡ None
no_orphan l p k same e = (λ i. option_map (orphan_text (sym same i)) (l.orphan (sym same i))) ∙ ap (option_map (orphan_text p)) e

-- ---- orphans

pub record IsOrphanSeen (l : Ledger) (p : Place) (kind : LoanKind) (number : Number) : Type 0 where
  pub orphan : Orphan
  pub there : l.orphan p ≡ Some orphan
  pub same_kind : orphan.kind ≡ kind
  pub same_number : orphan.number ≡ number

orphan_by : (l : Ledger) (o : Option Orphan) (lender : Option Place) (kind : LoanKind) (number : Number)
    → here_of (orphan_or_holder o (holder_role l lender)) ≡ Lent kind None number
    → (orphan : Orphan) × (o ≡ Some orphan) × (orphan.kind ≡ kind) × (orphan.number ≡ number)
orphan_by l (Some orphan) lender kind number e = (orphan, refl, cc, cc)
orphan_by l None None kind number e = absurd cc
orphan_by l None (Some home) kind number e = go (loan_at l home) e
  where
    go : (loan : Option PageLoan) → here_of (lent_role home loan) ≡ Lent kind None number
        → (orphan : Orphan) × (None ≡ Some orphan) × (orphan.kind ≡ kind) × (orphan.number ≡ number)
    go None q = absurd cc
    go (Some loan) q = absurd cc

pub orphan_seen : (procs : ℕ) (l : Ledger) (p : Place) (kind : LoanKind) (number : Number) → here_at procs l p ≡ Lent kind None number
    → IsOrphanSeen l p kind number
unfolding role_at
orphan_seen procs l p kind number e = go (l.home p) e
  where
    go : (o : Option Page) → here_of (home_or o (orphan_or_holder (l.orphan p) (holder_role l (lender_of procs l p)))) ≡ Lent kind None number
        → IsOrphanSeen l p kind number
    go (Some page) h = absurd cc
    go None h =
        let found = orphan_by l (l.orphan p) (lender_of procs l p) kind number h in
        record { orphan = found.0; there = found.1; same_kind = found.2; same_number = found.3 }

-- .. and an orphan is told as one
pub no_orphan_seen : (procs capacity : ℕ) (l : Ledger) (p : Place) (here : Here) → IsLawful procs capacity l → here_at procs l p ≡ here
    → ((kind : LoanKind) (number : Number) → here ≡ Lent kind None number → ⊥) → l.orphan p ≡ None
unfolding role_at
no_orphan_seen procs capacity l p here lawful e never = go (l.orphan p) refl
  where
    go : (o : Option Orphan) → l.orphan p ≡ o → l.orphan p ≡ None
    go None q = q
    go (Some orphan) q =
        let none : l.home p ≡ None = lawful.orphan_no_home p orphan q in
        absurd (never orphan.kind orphan.number (sym e
        ∙ ap (λ (o : Option Page). here_of (home_or o (orphan_or_holder (l.orphan p) (holder_role l (lender_of procs l p))))) none
        ∙ ap (λ (o : Option Orphan). here_of (orphan_or_holder o (holder_role l (lender_of procs l p)))) q))

module _ (l : Ledger) (p : Place) (kind : LoanKind) (number : Number) (seen : IsOrphanSeen l p kind number) where
  pub orphan_reached : (procs capacity : ℕ) → IsLawful procs capacity l → contents_reached procs l p Load ≡ Some (Bytes seen.orphan.bytes)
  orphan_reached procs capacity lawful =
      ap (option_and_then (contents_of l)) (reach-orphan procs capacity l p seen.orphan Load lawful seen.there ∙ loads seen.orphan.kind)
      ∙ ap (option_map (λ (orphan : Orphan). Bytes orphan.bytes)) seen.there
    where
      loads : (kind : LoanKind) → (if holder_may kind Load then Some (Orphaned p) else None) ≡ Some (Orphaned p)
      loads Shared = refl
      loads Exclusive = refl

  pub orphan_may : (procs capacity : ℕ) → IsLawful procs capacity l → reaches_bytes procs l p Load ≡ true
  orphan_may procs capacity lawful = ap (λ o. option_map_or has_bytes o false) (orphan_reached procs capacity lawful)

  pub orphan_written : {known : Type 0} (k : ℕ) → p ≡ place_at k → (old mid new : SheetBytes) (bytes : List ℕ)
      → mid ≡ appended (orphan_words (orphan_row 0 p (record { kind = kind; bytes = []; number = number }))) old
      → new ≡ appended bytes mid → length bytes ≡ 4096 → (known → Some (Bytes seen.orphan.bytes) ≡ Some (Bytes bytes))
      → AppendsText known old new (orphan_at l k) true
  orphan_written k same old mid new bytes first second many own =
      let text : orphan_at l k ≡ Some (orphan_text p seen.orphan) =
      (λ i. option_map (orphan_text (sym same i)) (l.orphan (sym same i))) ∙ ap (option_map (orphan_text p)) seen.there in
      let words : orphan_words (orphan_row 0 p (record { kind = kind; bytes = []; number = number })) ≡ orphan_words (orphan_row 0 p seen.orphan) =
      λ i. orphan_words (orphan_row 0 p (record { kind = sym seen.same_kind i; bytes = []; number = sym seen.same_number i })) in
      let size = length-orphan (orphan_row 0 p seen.orphan) in
      let both = length-append (orphan_words (orphan_row 0 p seen.orphan)) bytes in
      record {
        there = ap is_some (sym text);
        written = Some (record { words = orphan_words (orphan_row 0 p seen.orphan); contents = bytes });
        alike = ap (option_map text_words) (sym text);
        told = λ is_known.
            sym (text ∙ ap (λ (c : Contents). Some (record { words = orphan_words (orphan_row 0 p seen.orphan); contents = bytes_of c }))
            (same_Some (Bytes seen.orphan.bytes) (Bytes bytes) (own is_known)));
        few = omega arith;
        is = second ∙ ap (λ (s : SheetBytes). appended bytes s) first
            ∙ both_appended old (orphan_words (orphan_row 0 p (record { kind = kind; bytes = []; number = number }))) bytes
            ∙ ap (λ (xs : List ℕ). appended (xs ++ bytes) old) words;
      }

-- ---- numbers

pub right_is : (r : Right) (console : Bool) → 4 * flag console + 2 * flag r.x + flag r.w ≡ right_number r (if console then Console else Bytes [])
right_is r console = go r.w r.x console
  where
    go : (w x c : Bool) → 4 * flag c + 2 * flag x + flag w ≡ right_number (record { w = w; x = x }) (if c then Console else Bytes [])
    go true true true = refl
    go true true false = refl
    go true false true = refl
    go true false false = refl
    go false true true = refl
    go false true false = refl
    go false false true = refl
    go false false false = refl

-- ---- room

pub row_room : (sheet : SheetBytes) (row : PageRow) → Fits sheet 4124 → HasRoom sheet (page_words row)
row_room sheet row fits = has_room sheet 4124 (page_words row) fits (let size = length-page row in omega arith)

pub page_room : (old new : SheetBytes) (row : PageRow) → Fits old 4124 → new ≡ appended (page_words row) old → Fits new 4096
page_room old new row fits is = fits_behind old new (page_words row) 28 4096 (record { is = is; few = let size = length-page row in omega arith }) fits

pub orphan_row_room : (sheet : SheetBytes) (row : OrphanRow) → Fits sheet 4124 → HasRoom sheet (orphan_words row)
orphan_row_room sheet row fits = has_room sheet 4124 (orphan_words row) fits (let size = length-orphan row in omega arith)

pub orphan_room : (old new : SheetBytes) (row : OrphanRow) → Fits old 4124 → new ≡ appended (orphan_words row) old → Fits new 4096
orphan_room old new row fits is =
    fits_less new 4108 4096 (fits_behind old new (orphan_words row) 16 4108 (record { is = is; few = let size = length-orphan row in omega arith }) fits)
    (omega arith)

-- what was read in a memory with the same ledger
pub told_by : (procs now : ℕ) (l m : Ledger) (from at : Place) (bytes : List ℕ) → now ≡ procs → m ≡ l → at ≡ from
    → contents_reached now m at Load ≡ Some (Bytes bytes) → contents_reached procs l from Load ≡ Some (Bytes bytes)
told_by procs now l m from at bytes same ledgers place told =
    sym (λ i. contents_reached (same i) (ledgers i) (place i) Load) ∙ told

-- ---- a place that a page is lent to

none_of : {A : Type 0} (o : Option A) → is_some o ≡ false → o ≡ None
none_of None e = refl
none_of (Some x) e = absurd (false≢true (sym e))

lender_of_lent : (kind other : LoanKind) (lender from : Option Place) (number message : Number) → Lent kind lender number ≡ Lent other from message
    → lender ≡ from
lender_of_lent kind other lender from number message e = cc

-- a lender stands there
pub lent_by : (here : Here) (kind : LoanKind) (lender : Option Place) (number : Number) → here ≡ Lent kind lender number → is_some lender ≡ true
    → (other : LoanKind) (message : Number) → here ≡ Lent other None message → ⊥
lent_by here kind lender number e some other message q =
    false≢true (sym (ap is_some (lender_of_lent kind other lender None number message (sym e ∙ q))) ∙ some)

-- .. or none
pub lent_alone : (here : Here) (kind : LoanKind) (lender : Option Place) (number : Number) → here ≡ Lent kind lender number → is_some lender ≡ false
    → here ≡ Lent kind None number
lent_alone here kind lender number e none = e ∙ ap (λ (o : Option Place). Lent kind o number) (none_of lender none)

pub told_at : (procs now : ℕ) (l m : Ledger) (at : Place) (bytes : List ℕ) → now ≡ procs → m ≡ l
    → contents_reached now m at Load ≡ Some (Bytes bytes) → contents_reached procs l at Load ≡ Some (Bytes bytes)
told_at procs now l m at bytes same ledgers told = told_by procs now l m at at bytes same ledgers refl told
