-- What a process reaches at its places.
use Rattle.std.specs.Prelude.{ℕ, false, Bool, List, Option, Some, None}
use Rattle.std.specs.Option.{option_and_then, option_map_or}
use Rattle.xk_base.specs.declared.ids.Place.{Place}
use Rattle.xk_base.specs.declared.pages.Access.{Access}
use Rattle.ledger_model.specs.Ledger.{Ledger, Contents, PageName, contents_of, has_bytes}
use Rattle.ledger_model.specs.Reach.{reach}
use Rattle.ledger_model.specs.Steps.{write}

-- what the page holds that the process of the place reaches there by the access; none where it hasn't that access
abbrev pub contents_reached : ℕ → Ledger → Place → Access → Option Contents
contents_reached procs ledger place access = option_and_then (contents_of ledger) (reach procs ledger place access)

-- the process has the access there, and the page isn't the console
abbrev pub reaches_bytes : ℕ → Ledger → Place → Access → Bool
reaches_bytes procs ledger place access = option_map_or has_bytes (contents_reached procs ledger place access) false

-- the ledger with these bytes as those of that page, if there is one
abbrev pub write_page : Option PageName → List ℕ → Ledger → Ledger
write_page None bytes ledger = ledger
write_page (Some page) bytes ledger = write page 0 bytes ledger
