-- The ledger of a state as its pages come back row after row.
use Rattle.std.proofs.Common.{◌≡◌, ℕ, ◌+◌, ◌/◌, ◌%◌, ◌≤◌, ◌<◌, Bool, true, false, ◌&&◌, List, length, drop, take, get_or, Option, Some, None, refl, sym, ap, subst, ◌∙◌, arith, inl, inr}
use Rattle.std.specs.Prelude.{◌≢◌, not, ◌==◌, ◌||◌, is_some, nat_lt, IsTrue, if◌then◌else◌}
use Rattle.std.specs.List.{find}
use Rattle.std.specs.Option.{option_map}
use Rattle.std.proofs.lemmas.Bool.{cases_Bool, cond-false, cond-true, eqb-false, false≢true}
use Rattle.std.proofs.lemmas.Bool.Decides.{nat_tests}
use Rattle.std.proofs.lemmas.List.{length-drop, length-take-le}
use Rattle.std.proofs.lemmas.Option.{none-some}
use Rattle.ledger_model.proofs.LedgerLemmas.{is_free-from, lender_of-None}
use Rattle.ledger_model.proofs.PlaceLemmas.{same_place-true}
use Rattle.ledger_model.proofs.Loans.NumberingLemmas.{count_places-le, first_place-None}
use Rattle.ledger_model.proofs.Stepping.MakingLemmas.{make_pages}
use Rattle.ledger_model.proofs.Stepping.RemovingLemmas.{reduce_pages}
use Rattle.ledger_model.proofs.Stepping.WritingLemmas.{write_pages}
use Rattle.ledger_model.specs.Conditions.{CanMake, is_console}
use Rattle.ledger_model.specs.Ledger.{Bytes, Console, Contents, Homed, Ledger, Orphan, Page, PageLoan, has_bytes, is_counted, loan_at, loan_of, pages}
use Rattle.ledger_model.specs.Loans.{loan_of_orphan, loans}
use Rattle.ledger_model.specs.Places.{in_run, is_place_in, is_user_place, same_place}
use Rattle.ledger_model.specs.Reach.{is_free}
use Rattle.ledger_model.specs.RunTests.{console_mapped}
use Rattle.ledger_model.specs.Steps.{make, write}
use Rattle.snapshot_rows.proofs.KeyLemmas.{Less, less_apart, less_behind, less_through, pair_is, pair_own}
use Rattle.suspend_image.proofs.OrderLemmas.{pages_ascend}
use Rattle.suspend_image.specs.Forms.{IsPageRow, StandsBefore}
use Rattle.snapshot_rows.specs.Machines.{ledger_page, place_at, contents_at}
use Rattle.suspend_image.specs.Spelling.{orphan_bytes, page_bytes, rows_bytes}
use Rattle.snapshot_rows.specs.Order.{AscendInTwo, least_first, least_second, page_key}
use Rattle.snapshot_rows.specs.declared.state.PageRow.{PageRow}
use Rattle.snapshot_rows.specs.declared.state.State.{State}
use Rattle.sv32_space.specs.PageSteps.{place_page, without_loan}
use Rattle.vm_memory.proofs.Changing.OnePlaceLemmas.{in_one}
use Rattle.xk_base.specs.declared.ids.Place.{Place}
use Rattle.xk_base.specs.declared.windows.Window.TheVariants.{Map}
use Rattle.resume_path.proofs.Homes.PageRowLemmas.{page_back, row_page_back}
use Rattle.resume_path.proofs.Rows.RowLemmas.{each_placed, found_own, more_any, none_any, none_before}
use Rattle.resume_path.proofs.Rows.ThreadRowLemmas.{same_number}
use Rattle.resume_path.specs.Resumable.{IsResumable, state_ledger, state_pages}
use Rattle.resume_path.specs.Standing.{Standing, is_home_before, loan_among, orphan_among, page_among, pages_before, standing, standing_of}

-- ---- any part of a ledger

none_among : (o : Option PageLoan) → loan_among (λ number. false) o ≡ None
none_among None = refl
none_among (Some loan) = refl

all_among : (o : Option Orphan) → orphan_among (λ number. true) o ≡ o
all_among None = refl
all_among (Some orphan) = refl

counted_among : (b : Bool) (numbers : ℕ → Bool) (o : Option Page) → is_counted (if b then option_map (page_among numbers) o else None) ≡ true → is_counted o ≡ true
counted_among true numbers None e = e
counted_among true numbers (Some page) e = e
counted_among false numbers o e = absurd (false≢true e)

some_among : (numbers : ℕ → Bool) (o : Option Orphan) → is_some (orphan_among numbers o) ≡ true → is_some o ≡ true
some_among numbers None e = e
some_among numbers (Some orphan) e = refl

-- a part has no more pages than the whole
pub part_pages : (procs : ℕ) (part : Standing) (l : Ledger) → pages procs (standing part l) ≤ pages procs l
unfolding pages standing
part_pages procs part l =
    let homes = count_places-le procs (λ p. is_counted ((standing part l).home p)) (λ p. is_counted (l.home p)) (λ p. counted_among (part.homes p) part.loans (l.home p)) in
    let orphans = count_places-le procs (λ p. is_some ((standing part l).orphan p)) (λ p. is_some (l.orphan p)) (λ p. some_among part.orphans (l.orphan p)) in
    omega (arith, homes, orphans)

pub contents_long : (file : List ℕ) (from : ℕ) → from + 4096 ≤ length file → length (contents_at file from) ≡ 4096
contents_long file from stands =
    let left = length-drop from file in
    length-take-le 4096 (drop from file) (omega (arith, left, stands))

-- ---- the first pages

unlent_at : (b : Bool) (o : Option Page) → loan_of (if b then option_map (page_among (λ number. false)) o else None) ≡ None
unlent_at true None = refl
unlent_at true (Some page) = none_among page.loan
unlent_at false o = refl

-- none is on loan
pub no_loan_yet : (rows : List PageRow) (k : ℕ) (l : Ledger) (p : Place) → loan_at (standing (pages_before rows k) l) p ≡ None
unfolding standing
no_loan_yet rows k l p = unlent_at (is_home_before rows k p) (l.home p)

-- loans are those of the orphans, however many pages are back
pub same_loans_yet : (rows : List PageRow) (j k : ℕ) (l : Ledger) → loans (standing (pages_before rows j) l) ≡ loans (standing (pages_before rows k) l)
unfolding loans standing
same_loans_yet rows j k l = λ i. record {
  home = λ p. (no_loan_yet rows j l p ∙ sym (no_loan_yet rows k l p)) i;
  orphan = λ p. option_map loan_of_orphan (orphan_among (λ number. true) (l.orphan p));
}

or_true : (a : Bool) → (a || true) ≡ true
or_true true = refl
or_true false = refl

or_false : (a : Bool) → (a || false) ≡ a
or_false true = refl
or_false false = refl

place_same : (p q : Place) → same_place p q ≡ true → p ≡ q
place_same p q e = same_place-true p q e

abbrev test_of : ℕ × ℕ → PageRow → Bool
test_of key row = row.pid == key.0 && row.page == key.1

module _ (file : List ℕ) (s : State) (h : IsResumable file s) (k : ℕ) (d : PageRow) (low : k < length s.pages) where
  abbrev row : PageRow
  row = get_or s.pages k d

  abbrev at : Place
  at = place_at row.pid row.page

  abbrev whole : Ledger
  whole = state_ledger file s

  abbrev now : Ledger
  now = standing_of file s (pages_before s.pages k)

  ascend : AscendInTwo page_key s.pages
  ascend = pages_ascend file s h.spelled

  behind : (before : ℕ × ℕ) (x : PageRow) → (least_first 0 (Some before) ≤ x.pid) × (least_second 0 (Some before) x.pid ≤ x.page) → Less before (page_key x)
  behind before x is = less_behind 0 0 before (page_key x) is.0 is.1

  unfound : find (test_of (page_key row)) (take k s.pages) ≡ None
  unfound =
      none_before page_key test_of Less (λ before x. (least_first 0 before ≤ (page_key x).0) × (least_second 0 before (page_key x).0 ≤ (page_key x).1)) behind
      (pair_is page_key) less_apart less_through None s.pages k d ascend low

  not_before : is_home_before s.pages k at ≡ false
  not_before = none_any (test_of (page_key row)) (take k s.pages) unfound

  -- the page of the row is that of the whole ledger at its home
  pub row_there : whole.home at ≡ Some (ledger_page file row)
  row_there =
      ap (option_map (ledger_page file))
      (found_own page_key test_of Less (λ before x. (least_first 0 before ≤ (page_key x).0) × (least_second 0 before (page_key x).0 ≤ (page_key x).1)) behind
      (pair_is page_key) less_apart less_through (pair_own page_key) None s.pages k d ascend low)

  -- with one page more
  pub next_standing : standing_of file s (pages_before s.pages (k + 1)) ≡ place_page at (without_loan (ledger_page file row)) now
  unfolding standing place_page
  next_standing = λ i. record { home = λ p. homes p i; orphan = λ p. orphan_among (λ number. true) (whole.orphan p) }
    where
      same_as : (p : Place) → test_of (p.pid.0, p.vpn.0) row ≡ same_place p at
      same_as p = λ i. same_number row.pid p.pid.0 i && same_number row.page p.vpn.0 i

      own : (p : Place) → same_place p at ≡ true → whole.home p ≡ Some (ledger_page file row)
      own p same =
          ap whole.home (place_same p at same) ∙ row_there

      homes : (p : Place) → (if is_home_before s.pages (k + 1) p then option_map (page_among (λ number. false)) (whole.home p) else None)
          ≡ (if same_place p at then Some (without_loan (ledger_page file row)) else (if is_home_before s.pages k p then option_map (page_among (λ number. false)) (whole.home p) else None))
      homes p =
          ap (λ b. if b then option_map (page_among (λ number. false)) (whole.home p) else None) (more_any (test_of (p.pid.0, p.vpn.0)) s.pages k d low ∙ ap (λ b. is_home_before s.pages k p || b) (same_as p))
          ∙ elim (cases_Bool (same_place p at)) [
            | inl same ↦
                ap (λ b. if is_home_before s.pages k p || b then option_map (page_among (λ number. false)) (whole.home p) else None) same
                ∙ (ap (λ b. if b then option_map (page_among (λ number. false)) (whole.home p) else None) (or_true (is_home_before s.pages k p))
                ∙ (ap (option_map (page_among (λ number. false))) (own p same)
                ∙ (ap (λ o. Some (record (ledger_page file row) { loan = o })) (none_among (ledger_page file row).loan)
                ∙ sym (cond-true (same_place p at) (Some (without_loan (ledger_page file row))) (if is_home_before s.pages k p then option_map (page_among (λ number. false)) (whole.home p) else None) same))))
            | inr other ↦
                ap (λ b. if is_home_before s.pages k p || b then option_map (page_among (λ number. false)) (whole.home p) else None) other
                ∙ (ap (λ b. if b then option_map (page_among (λ number. false)) (whole.home p) else None) (or_false (is_home_before s.pages k p))
                ∙ sym (cond-false (same_place p at) (Some (without_loan (ledger_page file row))) (if is_home_before s.pages k p then option_map (page_among (λ number. false)) (whole.home p) else None) other))
          ]

  -- its home is free until then
  pub next_free_home : is_free s.n now at ≡ true
  unfolding standing
  next_free_home = is_free-from s.n now at (record {
    home = cond-false (is_home_before s.pages k at) (option_map (page_among (λ number. false)) (whole.home at)) None not_before;
    orphan = all_among (whole.orphan at) ∙ no_orphan (whole.orphan at) refl;
    lender = lender_of-None s.n now at (λ q loan e. absurd (none-some loan (sym (no_loan_yet s.pages k whole q) ∙ e)));
  })
    where
      no_orphan : (o : Option Orphan) → whole.orphan at ≡ o → whole.orphan at ≡ None
      no_orphan None e = e
      no_orphan (Some orphan) e = absurd (none-some (ledger_page file row) (sym (h.matched.body.ledger.lawful.orphan_no_home at orphan e) ∙ row_there))

  pub next_home_lies : is_user_place s.n at ≡ true
  next_home_lies = h.matched.body.ledger.lawful.home_lies at (ledger_page file row) row_there

  next_right : row.right ≤ 7
  next_right = each_placed (IsPageRow (length file) s.n) page_key (page_bytes file) (λ (x : PageRow). x.right ≤ 7) (λ before left x is. is.right.at_most)
      (length (rows_bytes (orphan_bytes file) s.orphans)) None s.pages k d h.spelled.form.pages low

  pub next_pid : row.pid < 256
  next_pid =
      let least = h.spelled.form.n.at_most in
      let pid = each_placed (IsPageRow (length file) s.n) page_key (page_bytes file) (λ (x : PageRow). x.pid ≤ s.n + 1) (λ before left x is. is.pid.at_most)
      (length (rows_bytes (orphan_bytes file) s.orphans)) None s.pages k d h.spelled.form.pages low in
      omega (arith, least, pid)

  -- ---- a page with bytes

  module _ (bytes_there : row.right < 4) where
    lone : without_loan (ledger_page file row) ≡ record { right = (ledger_page file row).right; contents = Bytes (contents_at file row.from); loan = None }
    lone = row_page_back file row bytes_there

    pub row_stands : row.from + 4096 ≤ length file
    row_stands =
        each_placed (IsPageRow (length file) s.n) page_key (page_bytes file) (λ (x : PageRow). x.right < 4 → x.from + 4096 ≤ length file) stands
        (length (rows_bytes (orphan_bytes file) s.orphans)) None s.pages k d h.spelled.form.pages low bytes_there
      where
        stands : (before : Option (ℕ × ℕ)) (left : ℕ) (x : PageRow) → IsPageRow (length file) s.n before left x → x.right < 4 → x.from + 4096 ≤ length file
        stands before left x is few =
            let there : nat_lt x.right 4 ≡ true = grind (arith, nat_tests, few) in
            let whole_page : x.from + 4096 + left ≡ length file = subst (λ b. StandsBefore b (length file) left x.from) there is.from in
            omega (arith, whole_page)

    one_more : pages s.n (place_page at (without_loan (ledger_page file row)) now) ≡ pages s.n now + 1
    one_more =
        let long : length (contents_at file row.from) ≡ 4096 = contents_long file row.from row_stands in
        let steps = page_back at (ledger_page file row).right true (contents_at file row.from) now long in
        ap (λ page. pages s.n (place_page at page now)) lone ∙ (ap (pages s.n) (sym steps)
        ∙ (reduce_pages s.n (in_run at 1) (ledger_page file row).right (write (Homed at) 0 (contents_at file row.from) (make at 1 (record { w = true; x = true }) now))
        ∙ (write_pages s.n (Homed at) 0 (contents_at file row.from) (make at 1 (record { w = true; x = true }) now)
        ∙ make_pages s.n (pages s.n now + 1) at 1 (record { w = true; x = true }) now can)))
      where
        can : CanMake s.n (pages s.n now + 1) now at 1
        can = record {
          lies = λ p e. subst (λ (q : Place). IsTrue (is_user_place s.n q)) (sym (in_one at p e)) next_home_lies;
          free = λ p e. subst (λ (q : Place). IsTrue (is_free s.n now q)) (sym (in_one at p e)) next_free_home;
          room = omega arith;
        }

    -- there is room for it, within those that the state has
    pub next_fits : pages s.n now + 1 ≤ state_pages file s
    next_fits =
        let more = sym one_more ∙ ap (pages s.n) (sym next_standing) in
        let few = part_pages s.n (pages_before s.pages (k + 1)) whole in
        omega (arith, more, few)

    pub next_room : pages s.n now + 1 ≤ s.cap
    next_room = let fits = next_fits in let within = h.matched.body.ledger.lawful.within in omega (arith, fits, within)

  -- ---- the console

  module _ (console : 4 ≤ row.right) where
    is_console_row : (ledger_page file row).contents ≡ Console
    is_console_row = let no : nat_lt row.right 4 ≡ false = grind (arith, nat_tests, console) in ap (λ b. if b then Bytes (contents_at file row.from) else Console) no

    pub console_in_map : is_place_in s.n Map at ≡ true
    console_in_map = h.matched.body.ledger.lawful.console_lies at (ledger_page file row) row_there is_console_row

    pub console_right : row.right < 6
    console_right =
        let no_fetch : (row.right / 2 % 2 == 1) ≡ false = h.matched.body.ledger.lawful.console_no_fetch at (ledger_page file row) row_there is_console_row in
        let most = next_right in
        let differ : row.right / 2 % 2 ≢ 1 = eqb-false (row.right / 2 % 2) 1 no_fetch in
        omega (arith, most, differ, console)

    pub no_console_yet : console_mapped s.n now ≡ false
    unfolding console_mapped standing
    no_console_yet = ap is_some (first_place-None s.n (λ p. is_console (now.home p)) (λ p lies. none_at p (is_home_before s.pages k p) (whole.home p) refl refl))
      where
        none_at : (p : Place) (b : Bool) (o : Option Page) → is_home_before s.pages k p ≡ b → whole.home p ≡ o
            → is_console (if b then option_map (page_among (λ number. false)) o else None) ≡ false
        none_at p false o e f = refl
        none_at p true None e f = refl
        none_at p true (Some page) e f = go page.contents refl
          where
            go : (c : Contents) → page.contents ≡ c → not (has_bytes c) ≡ false
            go (Bytes bytes) g = refl
            go Console g =
                let same : p ≡ at = h.matched.body.ledger.lawful.one_console p at page (ledger_page file row) f row_there g is_console_row in
                absurd (false≢true (sym (ap (is_home_before s.pages k) same ∙ not_before) ∙ e))
