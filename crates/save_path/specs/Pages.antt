-- One page of a state, read from the memory and written.
use Rattle.std.specs.Prelude.{◌≡◌, ◌≤◌, ℕ, Bool, List, [], length, Option, Some, None, is_some, if◌then◌else◌}
use Rattle.std.specs.Option.{option_map}
use Rattle.ledger_model.specs.Ledger.{Bytes, Console, Ledger, Page, PageLoan}
use Rattle.phys_pages.specs.declared.infos.LoanInfo.{LoanInfo}
use Rattle.suspend_image.specs.Sheets.{SheetBytes, appended}
use Rattle.vm_memory.specs.Using.Access.{contents_reached}
use Rattle.xk_base.specs.declared.ids.Place.{Place}
use Rattle.xk_base.specs.declared.pages.Access.TheVariants.{Load}
use Rattle.xk_base.specs.declared.pages.LoanKind.{LoanKind}
use Rattle.xk_base.specs.declared.pages.LoanKind.TheVariants.{Shared, Exclusive}
use Rattle.xk_base.specs.declared.pages.Right.{Right}
use Rattle.save_path.specs.Rows.{PageText, text_bytes, text_words}

abbrev pub loan_of_info : LoanInfo → PageLoan
loan_of_info info = record { holder = info.holder; kind = info.kind; number = info.number }

abbrev pub as_loan : Option LoanInfo → Option PageLoan
as_loan info = option_map loan_of_info info

-- a page with such a right and such a loan, whose bytes aren't told
abbrev pub seen_page : Right → Bool → Option LoanInfo → Page
seen_page right console info = record { right = right; contents = if console then Console else Bytes []; loan = as_loan info }

-- where the page of a home can be read: at its home, unless its holder has it alone
abbrev pub reading_place_by : Place → LoanKind → Place → Place
reading_place_by home Shared holder = home
reading_place_by home Exclusive holder = holder

abbrev pub reading_place : Place → Option PageLoan → Place
reading_place home None = home
reading_place home (Some loan) = reading_place_by home loan.kind loan.holder

-- the bytes of the page that the process of the place may load there stand behind those of the sheet
pub record AppendsBytes (procs : ℕ) (ledger : Ledger) (at : Place) (old new : SheetBytes) : Type 0 where
  pub bytes : List ℕ
  pub page : contents_reached procs ledger at Load ≡ Some (Bytes bytes)
  pub size : length bytes ≡ 4096
  pub is : new ≡ appended bytes old

-- what is spelled of a place: nothing where it has no page
abbrev pub text_if : Option PageText → List ℕ
text_if None = []
text_if (Some text) = text_bytes text

-- The words of the page that a place has stand behind those of the sheet, and bytes behind them, which are its own where these are
-- known. The answer is whether it has one.
pub record AppendsText (known : Type 0) (old new : SheetBytes) (text : Option PageText) (yes : Bool) : Type 0 where
  pub there : yes ≡ is_some text
  pub written : Option PageText
  pub alike : option_map text_words written ≡ option_map text_words text
  pub told : known → written ≡ text
  pub few : length (text_if written) ≤ 4124
  pub is : new ≡ appended (text_if written) old

-- neither a home nor an orphan's place
pub record HasNoPage (ledger : Ledger) (at : Place) : Type 0 where
  pub home : ledger.home at ≡ None
  pub orphan : ledger.orphan at ≡ None
