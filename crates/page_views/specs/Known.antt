-- Pages of a process that are known: one for each kind of access.
use Rattle.std.specs.Prelude.{◌==◌, if◌then◌else◌, Option, Some, None}
use Rattle.xk_base.specs.declared.ids.Frame.{Frame}
use Rattle.xk_base.specs.declared.ids.Vpn.{Vpn}
use Rattle.xk_base.specs.declared.pages.Access.{Access}
use Rattle.xk_base.specs.declared.pages.Access.TheVariants.{Fetch, Load, Store}
use Rattle.page_views.specs.declared.known.KnownPage.{KnownPage}
use Rattle.page_views.specs.declared.known.KnownPages.{KnownPages}

abbrev pub no_pages : KnownPages
no_pages = record { fetch = None; load = None; store = None }

-- the page that is known to accesses of a kind
abbrev pub known_page : KnownPages → Access → Option KnownPage
known_page known Fetch = known.fetch
known_page known Load = known.load
known_page known Store = known.store

-- .. and another in its place
abbrev pub with_known : KnownPages → Access → KnownPage → KnownPages
with_known known Fetch page = record known { fetch = Some page }
with_known known Load page = record known { load = Some page }
with_known known Store page = record known { store = Some page }

-- the frame of a page that is known, where it has this number
abbrev pub frame_if_page : Vpn → Option KnownPage → Option Frame
frame_if_page vpn None = None
frame_if_page vpn (Some page) = if page.vpn.0 == vpn.0 then Some page.frame else None
