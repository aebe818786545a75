-- The bytes of each page and orphan of a state stand in the file that spells it.
use Rattle.std.proofs.Common.{◌≡◌, ℕ, ◌+◌, ◌≤◌, ◌<◌, Bool, true, false, ltb, List, [], ◌∷◌, length, Option, None, Some, refl, arith}
use Rattle.std.specs.Prelude.{All}
use Rattle.std.specs.List.{AllByRecursion}
use Rattle.std.proofs.lemmas.Bool.{lt-ltb}
use Rattle.std.proofs.lemmas.List.Elements.{All-from_recursion}
use Rattle.snapshot_rows.specs.declared.state.State.{State}
use Rattle.snapshot_rows.specs.declared.state.PageRow.{PageRow}
use Rattle.snapshot_rows.specs.declared.state.OrphanRow.{OrphanRow}
use Rattle.suspend_image.specs.Spelling.{page_bytes, orphan_bytes}
use Rattle.snapshot_rows.specs.Order.{page_key, orphan_key}
use Rattle.suspend_image.specs.Forms.{StandsBefore, IsPageRow, IsOrphanRow, ArePlaced, Spells}

-- the bytes of a page and of an orphan stand in a file; the console has none
abbrev pub StandsIn : List ℕ → PageRow → Type 0
StandsIn file p = p.right < 4 → p.from + 4096 ≤ length file

abbrev pub OrphanStandsIn : List ℕ → OrphanRow → Type 0
OrphanStandsIn file o = o.from + 4096 ≤ length file

-- the bytes of each page and orphan stand in a file
pub record StandsInFile (file : List ℕ) (s : State) : Type 0 where
  pub pages : All (StandsIn file) s.pages
  pub orphans : All (OrphanStandsIn file) s.orphans

stands_within : (there : Bool) (size left from : ℕ) → there ≡ true → StandsBefore there size left from → from + 4096 ≤ size
stands_within true size left from is stands = omega (arith, stands)
stands_within false size left from is stands = absurd cc

pages_stand : (file : List ℕ) (n left : ℕ) (before : Option (ℕ × ℕ)) (pages : List PageRow) → ArePlaced (IsPageRow (length file) n) page_key (page_bytes file) left before pages
    → AllByRecursion (StandsIn file) pages
pages_stand file n left before [] forms = tt
pages_stand file n left before (p ∷ pages) forms =
    (λ (low : p.right < 4). stands_within (ltb p.right 4) (length file) _ p.from (lt-ltb p.right 4 low) forms.0.from, pages_stand file n left (Some (page_key p)) pages forms.1)

orphans_stand : (file : List ℕ) (n left : ℕ) (before : Option (ℕ × ℕ)) (orphans : List OrphanRow)
    → ArePlaced (IsOrphanRow (length file) n) orphan_key (orphan_bytes file) left before orphans → AllByRecursion (OrphanStandsIn file) orphans
orphans_stand file n left before [] forms = tt
orphans_stand file n left before (o ∷ orphans) forms =
    (stands_within true (length file) _ o.from refl forms.0.from, orphans_stand file n left (Some (orphan_key o)) orphans forms.1)

pub spelled_stands : (file : List ℕ) (s : State) → Spells file s → StandsInFile file s
spelled_stands file s spells = record {
  pages = All-from_recursion (StandsIn file) s.pages (pages_stand file s.n _ None s.pages spells.form.pages);
  orphans = All-from_recursion (OrphanStandsIn file) s.orphans (orphans_stand file s.n 0 None s.orphans spells.form.orphans);
}
