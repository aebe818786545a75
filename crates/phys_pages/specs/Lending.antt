-- What RAM holds once a borrowed page is given back.
use Rattle.std.specs.Prelude.{ℕ, List}
use Rattle.std.specs.Borrow.{Lends, MutBor, Fml, u8, Array}
use Rattle.phys_pages.specs.contracts.ram.Ram.{the_row}
use Rattle.phys_pages.specs.Ram.{RamBytes, with_page}

-- RAM ends with the frame's page as it was last left behind the borrow, and all else as it was
abbrev pub LendsPage : MutBor RamBytes → ℕ → MutBor (List ℕ) → Fml
LendsPage ram f page = Lends the_row (Array u8 0) ram page (λ w. with_page ram.now f w)
