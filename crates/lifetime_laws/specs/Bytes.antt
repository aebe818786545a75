-- The bytes of a page over its life: only a store of an instruction changes them. So a page's bytes at its last moment with a process are
-- its bytes at its first moment with the next.
use Rattle.std.specs.Prelude.{◌≡◌, Bool, true, false}
use Rattle.ledger_model.specs.Ledger.{PageName, contents_of}
use Rattle.machine_model.specs.Runs.Moments.{Moment}
use Rattle.machine_model.specs.State.Machine.{Machine}
use Rattle.lifetime_laws.specs.Deeds.{Deed, Forwarding, Lending, LivesOn, Moving, Nothing, Orphaning, Reducing, Returning, Storing}

abbrev pub is_storing : Deed → Bool
is_storing Nothing = false
is_storing Storing = true
is_storing Reducing = false
is_storing (Lending number) = false
is_storing (Forwarding number) = false
is_storing (Returning number) = false
is_storing (Moving number) = false
is_storing (Orphaning number) = false

abbrev pub OnlyStoresChangeBytes : Type 0
OnlyStoresChangeBytes =
    (before : Machine) (moment : Moment) (old new : PageName) (deed : Deed) → LivesOn before moment old deed new → is_storing deed ≡ false
    → contents_of moment.machine.ledger new ≡ contents_of before.ledger old
