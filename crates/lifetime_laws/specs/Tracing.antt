-- Pages are neither lost nor doubled from one ledger to a later one: each page of the later is one of the earlier or was made, each of
-- the earlier is one of the later or is gone, and no two are one.
use Rattle.std.specs.Prelude.{◌≡◌, ◌⊎◌, true, Option, Some, None}
use Rattle.ledger_model.specs.Ledger.{Ledger, PageName}
use Rattle.lifetime_laws.specs.Deeds.{stands}

-- the page `old` of the earlier ledger and the page `new` of the later are one; `from` and `to` lead from each to the other alone
pub record AreOne (from to : PageName → Option PageName) (Lives : PageName → PageName → Type 0) (old new : PageName) : Type 0 where
  pub back : from new ≡ Some old
  pub forth : to old ≡ Some new
  pub lives : Lives old new

-- `Lives` says how a page of the earlier ledger became one of the later, `Made` why a page is new, and `Gone` why it is no more
pub record AreTraced (before after : Ledger) (Lives : PageName → PageName → Type 0) (Made Gone : PageName → Type 0) : Type 0 where
  pub from : PageName → Option PageName
  pub to : PageName → Option PageName
  pub comes : (new : PageName) → stands after new ≡ true
      → ((old : PageName) × (stands before old ≡ true) × AreOne from to Lives old new) ⊎ ((from new ≡ None) × Made new)
  pub goes : (old : PageName) → stands before old ≡ true
      → ((new : PageName) × (stands after new ≡ true) × AreOne from to Lives old new) ⊎ ((to old ≡ None) × Gone old)
