-- The pages and orphans of a state, as rows whose bytes stand in the file: they have the form, are spelled, and say what there is.
use Rattle.std.proofs.Common.{◌≡◌, ℕ, ◌+◌, ◌-◌, ◌/◌, ◌%◌, ◌≤◌, Bool, true, false, not, cond, eqb, ltb, List, [], ◌∷◌, ◌++◌, length, take, drop, Option, Some, None, refl, sym, ap, subst, ◌∙◌, append_assoc, arith}
use Rattle.std.specs.Prelude.{◌&&◌, is_some, if◌then◌else◌}
use Rattle.std.specs.List.{flat_map, AllByRecursion}
use Rattle.std.proofs.lemmas.Bool.{and_parts, eqb-true, eq-eqb}
use Rattle.std.proofs.lemmas.Bool.Decides.{nat_tests}
use Rattle.std.proofs.lemmas.List.{length-append, take-append-le, take_all, drop_at}
use Rattle.xk_base.specs.declared.ids.Place.{Place}
use Rattle.xk_base.specs.declared.pages.LoanKind.{LoanKind}
use Rattle.xk_base.specs.declared.pages.LoanKind.TheVariants.{Shared, Exclusive}
use Rattle.xk_base.specs.declared.windows.Window.TheVariants.{Message}
use Rattle.xk_base.specs.Numbers.Windows.{in_window, window_at}
use Rattle.xk_base.specs.Tables.Circle.{is_pid}
use Rattle.xk_base.proofs.CircleLemmas.{is_pid-bounds}
use Rattle.ledger_model.specs.Ledger.{Contents, Console, Bytes, Page, PageLoan, Orphan}
use Rattle.ledger_model.specs.Places.{is_user_place, is_place_in, same_place}
use Rattle.snapshot_rows.specs.declared.state.OrphanRow.{OrphanRow}
use Rattle.snapshot_rows.specs.declared.state.PageRow.{PageRow}
use Rattle.snapshot_rows.specs.Order.{page_key, orphan_key}
use Rattle.suspend_image.specs.Reading.{greatest}
use Rattle.suspend_image.specs.Forms.{IsWithin, IsField, StandsBefore, IsPageRow, IsOrphanRow, ArePlaced}
use Rattle.snapshot_rows.specs.Machines.{contents_at, ledger_page, ledger_orphan, loan_kind_of}
use Rattle.suspend_image.specs.Spelling.{page_words, page_bytes, orphan_words, orphan_bytes}
use Rattle.suspend_image.specs.SavedRows.{right_number, loan_number, holder_pid, holder_page, kind_of_loan, number_of_loan, page_row, orphan_row}
use Rattle.suspend_image.specs.StateBytes.{bytes_of, saved_page, saved_orphan}
use Rattle.snapshot_rows.proofs.KeyLemmas.{Less}
use Rattle.suspend_image.proofs.Saved.EntryLemmas.{some, Tells}
use Rattle.suspend_image.proofs.Saved.RiseLemmas.{Rises, Follows, first_low, second_low, place_key}
use Rattle.suspend_image.proofs.Saved.ThreadAgainLemmas.{word}

-- ---- places

pub record IsPlace (n : ℕ) (p : Place) : Type 0 where
  pub pid_least : 2 ≤ p.pid.0
  pub pid_most : p.pid.0 ≤ n + 1
  pub page : p.vpn.0 ≤ greatest

in_some_window : (v : ℕ) → is_some (window_at v) ≡ true → v ≤ 0x7FFFF
in_some_window v e = grind (arith, nat_tests)

in_message : (v : ℕ) → in_window Message v ≡ true → v ≤ 0x7FFFF
in_message v e = grind (arith, nat_tests)

pub user_place : (n : ℕ) (p : Place) → is_user_place n p ≡ true → IsPlace n p
user_place n p is =
    let both = and_parts (is_pid n p.pid.0) _ is in
    let pid = is_pid-bounds n p.pid.0 both.0 in
    let least = pid.0 in
    let most = pid.1 in
    let page = in_some_window p.vpn.0 both.1 in
    record { pid_least = least; pid_most = omega (arith, most); page = omega (arith, page) }

pub message_place : (n : ℕ) (p : Place) → is_place_in n Message p ≡ true → IsPlace n p
message_place n p is =
    let both = and_parts (is_pid n p.pid.0) _ is in
    let pid = is_pid-bounds n p.pid.0 both.0 in
    let least = pid.0 in
    let most = pid.1 in
    let page = in_message p.vpn.0 both.1 in
    record { pid_least = least; pid_most = omega (arith, most); page = omega (arith, page) }

pub place_is : (a b : Place) → same_place a b ≡ true → a ≡ b
place_is a b same =
    let both = and_parts (eqb a.pid.0 b.pid.0) (eqb a.vpn.0 b.vpn.0) same in
    let pid = eqb-true a.pid.0 b.pid.0 both.0 in
    let page = eqb-true a.vpn.0 b.vpn.0 both.1 in
    λ i. record { pid = record { 0 = pid i }; vpn = record { 0 = page i } }

pub place_own : (a : Place) → same_place a a ≡ true
place_own a = rw (eq-eqb a.pid.0 a.pid.0 refl, eq-eqb a.vpn.0 a.vpn.0 refl) refl

-- ---- rights, kinds and loans

right_form : (w x : Bool) (c : Contents) → IsWithin 0 7 (right_number (record { w = w; x = x }) c)
right_form true true Console = record { at_least = omega arith; at_most = omega arith }
right_form true false Console = record { at_least = omega arith; at_most = omega arith }
right_form false true Console = record { at_least = omega arith; at_most = omega arith }
right_form false false Console = record { at_least = omega arith; at_most = omega arith }
right_form true true (Bytes bytes) = record { at_least = omega arith; at_most = omega arith }
right_form true false (Bytes bytes) = record { at_least = omega arith; at_most = omega arith }
right_form false true (Bytes bytes) = record { at_least = omega arith; at_most = omega arith }
right_form false false (Bytes bytes) = record { at_least = omega arith; at_most = omega arith }

right_w : (w x : Bool) (c : Contents) → eqb (right_number (record { w = w; x = x }) c % 2) 1 ≡ w
right_w true true Console = refl
right_w true false Console = refl
right_w false true Console = refl
right_w false false Console = refl
right_w true true (Bytes bytes) = refl
right_w true false (Bytes bytes) = refl
right_w false true (Bytes bytes) = refl
right_w false false (Bytes bytes) = refl

right_x : (w x : Bool) (c : Contents) → eqb (right_number (record { w = w; x = x }) c / 2 % 2) 1 ≡ x
right_x true true Console = refl
right_x true false Console = refl
right_x false true Console = refl
right_x false false Console = refl
right_x true true (Bytes bytes) = refl
right_x true false (Bytes bytes) = refl
right_x false true (Bytes bytes) = refl
right_x false false (Bytes bytes) = refl

right_bytes : (w x : Bool) (bytes : List ℕ) → ltb (right_number (record { w = w; x = x }) (Bytes bytes)) 4 ≡ true
right_bytes true true bytes = refl
right_bytes true false bytes = refl
right_bytes false true bytes = refl
right_bytes false false bytes = refl

right_console : (w x : Bool) → ltb (right_number (record { w = w; x = x }) Console) 4 ≡ false
right_console true true = refl
right_console true false = refl
right_console false true = refl
right_console false false = refl

kind_again : (k : LoanKind) → loan_kind_of (loan_number k) ≡ k
kind_again Shared = refl
kind_again Exclusive = refl

-- what a row says of its loan
abbrev pub said_loan : ℕ → ℕ → ℕ → ℕ → Option PageLoan
said_loan pid page kind number =
    cond (eqb kind 0) None (Some (record {
      holder = record { pid = record { 0 = pid }; vpn = record { 0 = page } };
      kind = loan_kind_of kind;
      number = record { 0 = number };
    }))

loan_again : (o : Option PageLoan) → said_loan (holder_pid o) (holder_page o) (kind_of_loan o) (number_of_loan o) ≡ o
loan_again None = refl
loan_again (Some loan) = go loan.kind refl
  where
    go : (k : LoanKind) → loan.kind ≡ k → said_loan loan.holder.pid.0 loan.holder.vpn.0 (loan_number k) loan.number.0 ≡ some loan
    go Shared is = ap (λ (k : LoanKind). some (record { holder = loan.holder; kind = k; number = loan.number })) (sym is)
    go Exclusive is = ap (λ (k : LoanKind). some (record { holder = loan.holder; kind = k; number = loan.number })) (sym is)

-- what the form asks of a loan
pub record IsLoanForm (n : ℕ) (o : Option PageLoan) : Type 0 where
  pub pid : IsField (not (eqb (kind_of_loan o) 0)) 2 (n + 1) (holder_pid o)
  pub page : IsField (not (eqb (kind_of_loan o) 0)) 0 greatest (holder_page o)
  pub kind : IsWithin 0 2 (kind_of_loan o)
  pub number : IsField (not (eqb (kind_of_loan o) 0)) 0 greatest (number_of_loan o)

loan_form : (n : ℕ) (o : Option PageLoan) → ((loan : PageLoan) → o ≡ Some loan → IsPlace n loan.holder × (loan.number.0 ≤ greatest)) → IsLoanForm n o
loan_form n None knows = record {
  pid = record { at_least = omega arith; at_most = omega arith };
  page = record { at_least = omega arith; at_most = omega arith };
  kind = record { at_least = omega arith; at_most = omega arith };
  number = record { at_least = omega arith; at_most = omega arith };
}
loan_form n (Some loan) knows = go loan.kind
  where
    go : (k : LoanKind) → IsLoanForm n (Some (record { holder = loan.holder; kind = k; number = loan.number }))
    go Shared = (let known = knows loan refl in record {
      pid = record { at_least = known.0.pid_least; at_most = known.0.pid_most };
      page = record { at_least = omega arith; at_most = known.0.page };
      kind = record { at_least = omega arith; at_most = omega arith };
      number = record { at_least = omega arith; at_most = known.1 };
    })
    go Exclusive = (let known = knows loan refl in record {
      pid = record { at_least = known.0.pid_least; at_most = known.0.pid_most };
      page = record { at_least = omega arith; at_most = known.0.page };
      kind = record { at_least = omega arith; at_most = omega arith };
      number = record { at_least = omega arith; at_most = known.1 };
    })

-- ---- bytes at the end of a file

-- a file ends with these bytes
pub record Ends (file bytes : List ℕ) : Type 0 where
  pub front : List ℕ
  pub parts : file ≡ front ++ bytes

pub ends_behind : (file one other : List ℕ) → Ends file (one ++ other) → Ends file other
ends_behind file one other ends = record { front = ends.front ++ one; parts = ends.parts ∙ sym (append_assoc ends.front one other) }

-- a page's bytes, by what stands behind them
stand : (file bytes back : List ℕ) → length bytes ≡ 4096 → Ends file (bytes ++ back)
    → (length file - (4096 + length back) + 4096 + length back ≡ length file) × (contents_at file (length file - (4096 + length back)) ≡ bytes)
stand file bytes back size ends =
    let whole : length file ≡ length ends.front + length (bytes ++ back) =
    ap (λ (b : List ℕ). length b) ends.parts ∙ length-append ends.front (bytes ++ back) in
    let both = length-append bytes back in
    let at : length file - (4096 + length back) ≡ length ends.front = omega (arith, whole, both, size) in
    let dropped : drop (length file - (4096 + length back)) file ≡ bytes ++ back =
    rw at (ap (drop (length ends.front)) ends.parts ∙ drop_at ends.front (bytes ++ back) (length ends.front) refl) in (
      omega (arith, whole, both, size),
      ap (take 4096) dropped ∙ take-append-le 4096 bytes back (omega (arith, size)) ∙ take_all 4096 bytes (omega (arith, size)),
    )

-- where the bytes of a page begin, with so many bytes behind them
abbrev begin : ℕ → ℕ → Contents → ℕ
begin size left Console = 0
begin size left (Bytes bytes) = size - (4096 + left)

-- ---- pages

-- what is known of a page
pub record IsKnown (n : ℕ) (e : Place × Page) : Type 0 where
  pub place : IsPlace n e.0
  pub loan : (loan : PageLoan) → e.1.loan ≡ Some loan → IsPlace n loan.holder × (loan.number.0 ≤ greatest)
  pub whole : (bytes : List ℕ) → e.1.contents ≡ Bytes bytes → length bytes ≡ 4096

-- rows of pages before these bytes
abbrev pub page_rows : ℕ → List ℕ → List (Place × Page) → List PageRow
page_rows size back [] = []
page_rows size back (e ∷ es) = page_row (begin size (length (flat_map saved_page es ++ back)) e.1.contents) e.0 e.1 ∷ page_rows size back es

-- a page with this right, whose bytes stand before others at the end of a file
page_stands : (file back words : List ℕ) (w x : Bool) (c : Contents) → ((bytes : List ℕ) → c ≡ Bytes bytes → length bytes ≡ 4096)
    → Ends file ((words ++ bytes_of c) ++ back)
    → StandsBefore (ltb (right_number (record { w = w; x = x }) c) 4) (length file) (length back) (begin (length file) (length back) c)
    × ((if ltb (right_number (record { w = w; x = x }) c) 4 then contents_at file (begin (length file) (length back) c) else []) ≡ bytes_of c)
    × ((if ltb (right_number (record { w = w; x = x }) c) 4 then Bytes (contents_at file (begin (length file) (length back) c)) else Console) ≡ c)
page_stands file back words w x Console whole ends = rw (right_console w x) (refl, refl, refl)
page_stands file back words w x (Bytes bytes) whole ends =
    let behind : Ends file (bytes ++ back) = ends_behind file words (bytes ++ back) (record {
      front = ends.front;
      parts = ends.parts ∙ ap (λ (b : List ℕ). ends.front ++ b) (append_assoc words bytes back);
    }) in
    let stands = stand file bytes back (whole bytes refl) behind in
    rw (right_bytes w x bytes) (stands.0, stands.1, ap (λ (b : List ℕ). Bytes b) stands.1)

page_again : (file back : List ℕ) (n : ℕ) (e : Place × Page) → IsKnown n e → Ends file (saved_page e ++ back)
    → ledger_page file (page_row (begin (length file) (length back) e.1.contents) e.0 e.1) ≡ e.1
page_again file back n e known ends =
    let right = e.1.right in
    let stands = page_stands file back (page_words (page_row 0 e.0 e.1)) right.w right.x e.1.contents known.whole ends in
    λ i. record {
      right = record { w = right_w right.w right.x e.1.contents i; x = right_x right.w right.x e.1.contents i };
      contents = stands.2 i;
      loan = loan_again e.1.loan i;
    }

page_spelled : (file back : List ℕ) (n : ℕ) (e : Place × Page) → IsKnown n e → Ends file (saved_page e ++ back)
    → page_bytes file (page_row (begin (length file) (length back) e.1.contents) e.0 e.1) ≡ saved_page e
unfolding page_bytes
page_spelled file back n e known ends =
    let words = page_words (page_row 0 e.0 e.1) in
    ap (λ (b : List ℕ). words ++ b) (page_stands file back words e.1.right.w e.1.right.x e.1.contents known.whole ends).1

page_form : (file back : List ℕ) (n : ℕ) (before : Option (ℕ × ℕ)) (e : Place × Page) → IsKnown n e → Follows Less before (place_key e.0)
    → Ends file (saved_page e ++ back)
    → IsPageRow (length file) n before (length back) (page_row (begin (length file) (length back) e.1.contents) e.0 e.1)
page_form file back n before e known follows ends =
    let loan = loan_form n e.1.loan known.loan in
    let stands = page_stands file back (page_words (page_row 0 e.0 e.1)) e.1.right.w e.1.right.x e.1.contents known.whole ends in
    record {
      pid = record { at_least = first_low 2 before (place_key e.0) known.place.pid_least follows; at_most = known.place.pid_most };
      page = record { at_least = second_low 0 before (place_key e.0) (omega arith) follows; at_most = known.place.page };
      right = right_form e.1.right.w e.1.right.x e.1.contents;
      holder_pid = loan.pid;
      holder_page = loan.page;
      kind = loan.kind;
      number = loan.number;
      from = stands.0;
    }

module _ (file back : List ℕ) (n : ℕ) where
  head_ends : (e : Place × Page) (es : List (Place × Page)) → Ends file (flat_map saved_page (e ∷ es) ++ back)
      → Ends file (saved_page e ++ (flat_map saved_page es ++ back))
  head_ends e es ends = record {
    front = ends.front;
    parts = ends.parts ∙ ap (λ (b : List ℕ). ends.front ++ b) (append_assoc (saved_page e) (flat_map saved_page es) back);
  }

  tail_ends : (e : Place × Page) (es : List (Place × Page)) → Ends file (flat_map saved_page (e ∷ es) ++ back) → Ends file (flat_map saved_page es ++ back)
  tail_ends e es ends = ends_behind file (saved_page e) (flat_map saved_page es ++ back) (head_ends e es ends)

  pub pages_spelled : (es : List (Place × Page)) → AllByRecursion (IsKnown n) es → Ends file (flat_map saved_page es ++ back)
      → flat_map (page_bytes file) (page_rows (length file) back es) ≡ flat_map saved_page es
  pages_spelled [] all ends = refl
  pages_spelled (e ∷ es) all ends =
      ap (λ (b : List ℕ). b ++ flat_map (page_bytes file) (page_rows (length file) back es))
      (page_spelled file (flat_map saved_page es ++ back) n e all.0 (head_ends e es ends))
      ∙ ap (λ (b : List ℕ). saved_page e ++ b) (pages_spelled es all.1 (tail_ends e es ends))

  pub pages_placed : (before : Option (ℕ × ℕ)) (es : List (Place × Page)) → AllByRecursion (IsKnown n) es
      → Rises (λ a b. Less (place_key a.0) (place_key b.0)) es
      → AllByRecursion (λ e. Follows Less before (place_key e.0)) es → Ends file (flat_map saved_page es ++ back)
      → ArePlaced (IsPageRow (length file) n) page_key (page_bytes file) (length back) before (page_rows (length file) back es)
  pages_placed before [] all rises follow ends = tt
  pages_placed before (e ∷ es) all rises follow ends =
      let behind = flat_map saved_page es ++ back in
      let row = page_row (begin (length file) (length behind) e.1.contents) e.0 e.1 in
      let left : length behind ≡ length (flat_map (page_bytes file) (page_rows (length file) back es)) + length back =
      length-append (flat_map saved_page es) back
      ∙ ap (λ (b : List ℕ). length b + length back) (sym (pages_spelled es all.1 (tail_ends e es ends))) in (
        subst (λ (k : ℕ). IsPageRow (length file) n before k row) left (page_form file behind n before e all.0 follow.0 (head_ends e es ends)),
        pages_placed (Some (place_key e.0)) es all.1 rises.1 rises.0 (tail_ends e es ends),
      )

  abbrev pub is_at : Place → PageRow → Bool
  is_at k r = eqb r.pid k.pid.0 && eqb r.page k.vpn.0

  pub pages_tell : (home : Place → Option Page) (es : List (Place × Page)) → AllByRecursion (IsKnown n) es → Ends file (flat_map saved_page es ++ back)
      → Tells home same_place place_is place_own (ledger_page file) is_at (page_rows (length file) back es) es
  pages_tell home [] all ends = tt
  pages_tell home (e ∷ es) all ends = (
    (λ k. refl),
    page_again file (flat_map saved_page es ++ back) n e all.0 (head_ends e es ends),
    pages_tell home es all.1 (tail_ends e es ends),
  )

  pub pages_many : (es : List (Place × Page)) → length (page_rows (length file) back es) ≡ length es
  pages_many [] = refl
  pages_many (e ∷ es) = (let rest = pages_many es in omega (arith, rest))

-- ---- orphans

-- what is known of an orphan
pub record IsOrphanKnown (n : ℕ) (e : Place × Orphan) : Type 0 where
  pub place : IsPlace n e.0
  pub number : e.1.number.0 ≤ greatest
  pub whole : length e.1.bytes ≡ 4096

-- rows of orphans before the end
abbrev pub orphan_rows : ℕ → List (Place × Orphan) → List OrphanRow
orphan_rows size [] = []
orphan_rows size (e ∷ es) = orphan_row (size - (4096 + length (flat_map saved_orphan es))) e.0 e.1 ∷ orphan_rows size es

orphan_kind : (k : LoanKind) → IsWithin 1 2 (loan_number k)
orphan_kind Shared = record { at_least = omega arith; at_most = omega arith }
orphan_kind Exclusive = record { at_least = omega arith; at_most = omega arith }

module _ (file : List ℕ) (n : ℕ) where
  orphan_stands : (e : Place × Orphan) (es : List (Place × Orphan)) → IsOrphanKnown n e → Ends file (flat_map saved_orphan (e ∷ es))
      → (length file - (4096 + length (flat_map saved_orphan es)) + 4096 + length (flat_map saved_orphan es) ≡ length file)
      × (contents_at file (length file - (4096 + length (flat_map saved_orphan es))) ≡ e.1.bytes)
  orphan_stands e es known ends =
      let words = orphan_words (orphan_row 0 e.0 e.1) in
      let behind = flat_map saved_orphan es in
      stand file e.1.bytes behind known.whole (ends_behind file words (e.1.bytes ++ behind) (record {
        front = ends.front;
        parts = ends.parts ∙ ap (λ (b : List ℕ). ends.front ++ b) (append_assoc words e.1.bytes behind);
      }))

  orphans_behind : (e : Place × Orphan) (es : List (Place × Orphan)) → Ends file (flat_map saved_orphan (e ∷ es)) → Ends file (flat_map saved_orphan es)
  orphans_behind e es ends = ends_behind file (saved_orphan e) (flat_map saved_orphan es) ends

  orphan_spelled : (e : Place × Orphan) (es : List (Place × Orphan)) → IsOrphanKnown n e → Ends file (flat_map saved_orphan (e ∷ es))
      → orphan_bytes file (orphan_row (length file - (4096 + length (flat_map saved_orphan es))) e.0 e.1) ≡ saved_orphan e
  unfolding orphan_bytes
  orphan_spelled e es known ends = ap (λ (b : List ℕ). orphan_words (orphan_row 0 e.0 e.1) ++ b) (orphan_stands e es known ends).1

  pub orphans_spelled : (es : List (Place × Orphan)) → AllByRecursion (IsOrphanKnown n) es → Ends file (flat_map saved_orphan es)
      → flat_map (orphan_bytes file) (orphan_rows (length file) es) ≡ flat_map saved_orphan es
  orphans_spelled [] all ends = refl
  orphans_spelled (e ∷ es) all ends =
      ap (λ (b : List ℕ). b ++ flat_map (orphan_bytes file) (orphan_rows (length file) es)) (orphan_spelled e es all.0 ends)
      ∙ ap (λ (b : List ℕ). saved_orphan e ++ b) (orphans_spelled es all.1 (orphans_behind e es ends))

  orphan_form : (before : Option (ℕ × ℕ)) (e : Place × Orphan) (es : List (Place × Orphan)) → IsOrphanKnown n e → Follows Less before (place_key e.0)
      → Ends file (flat_map saved_orphan (e ∷ es))
      → IsOrphanRow (length file) n before (length (flat_map saved_orphan es)) (orphan_row (length file - (4096 + length (flat_map saved_orphan es))) e.0 e.1)
  orphan_form before e es known follows ends = record {
    pid = record { at_least = first_low 2 before (place_key e.0) known.place.pid_least follows; at_most = known.place.pid_most };
    page = record { at_least = second_low 0 before (place_key e.0) (omega arith) follows; at_most = known.place.page };
    kind = orphan_kind e.1.kind;
    number = word e.1.number.0 known.number;
    from = (orphan_stands e es known ends).0;
  }

  pub orphans_placed : (before : Option (ℕ × ℕ)) (es : List (Place × Orphan)) → AllByRecursion (IsOrphanKnown n) es
      → Rises (λ a b. Less (place_key a.0) (place_key b.0)) es → AllByRecursion (λ e. Follows Less before (place_key e.0)) es
      → Ends file (flat_map saved_orphan es)
      → ArePlaced (IsOrphanRow (length file) n) orphan_key (orphan_bytes file) 0 before (orphan_rows (length file) es)
  orphans_placed before [] all rises follow ends = tt
  orphans_placed before (e ∷ es) all rises follow ends =
      let behind = flat_map saved_orphan es in
      let row = orphan_row (length file - (4096 + length behind)) e.0 e.1 in
      let same : length behind ≡ length (flat_map (orphan_bytes file) (orphan_rows (length file) es)) =
      ap (λ (b : List ℕ). length b) (sym (orphans_spelled es all.1 (orphans_behind e es ends))) in
      let left : length behind ≡ length (flat_map (orphan_bytes file) (orphan_rows (length file) es)) + 0 = omega (arith, same) in (
        subst (λ (k : ℕ). IsOrphanRow (length file) n before k row) left (orphan_form before e es all.0 follow.0 ends),
        orphans_placed (Some (place_key e.0)) es all.1 rises.1 rises.0 (orphans_behind e es ends),
      )

  orphan_again : (e : Place × Orphan) (es : List (Place × Orphan)) → IsOrphanKnown n e → Ends file (flat_map saved_orphan (e ∷ es))
      → ledger_orphan file (orphan_row (length file - (4096 + length (flat_map saved_orphan es))) e.0 e.1) ≡ e.1
  orphan_again e es known ends =
      let stands = orphan_stands e es known ends in
      λ i. record { kind = kind_again e.1.kind i; bytes = stands.1 i; number = e.1.number }

  abbrev pub is_orphan_at : Place → OrphanRow → Bool
  is_orphan_at k r = eqb r.pid k.pid.0 && eqb r.page k.vpn.0

  pub orphans_tell : (orphan : Place → Option Orphan) (es : List (Place × Orphan)) → AllByRecursion (IsOrphanKnown n) es → Ends file (flat_map saved_orphan es)
      → Tells orphan same_place place_is place_own (ledger_orphan file) is_orphan_at (orphan_rows (length file) es) es
  orphans_tell orphan [] all ends = tt
  orphans_tell orphan (e ∷ es) all ends = (
    (λ k. refl),
    orphan_again e es all.0 ends,
    orphans_tell orphan es all.1 (orphans_behind e es ends),
  )

  pub orphans_many : (es : List (Place × Orphan)) → length (orphan_rows (length file) es) ≡ length es
  orphans_many [] = refl
  orphans_many (e ∷ es) = (let rest = orphans_many es in omega (arith, rest))
