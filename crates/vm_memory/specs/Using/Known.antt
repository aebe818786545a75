-- What is known of the pages of a process.
use Rattle.std.specs.Prelude.{◌≡◌, Some}
use Rattle.xk_base.specs.declared.ids.Pid.{Pid}
use Rattle.xk_base.specs.declared.pages.Access.{Access}
use Rattle.sv32_space.specs.SpelledEntries.{entries}
use Rattle.vm_memory.specs.declared.memory.Memory.{Memory}
use Rattle.page_views.specs.declared.targets.Target.TheVariants.{Page}
use Rattle.page_views.specs.declared.known.KnownPage.{KnownPage}
use Rattle.page_views.specs.declared.known.KnownPages.{KnownPages}
use Rattle.page_views.specs.Known.{known_page}
use Rattle.page_views.specs.EntryAccess.{entry_target}
use Rattle.vm_memory.specs.Memory.{processes}

-- What is known of the pages of a process is what the walk gives: accesses of the kind to the page lead to the frame.
abbrev pub Remembers : {W : Type 0} → Memory W → Pid → KnownPages → Type 0
Remembers m pid known =
    (access : Access) (page : KnownPage) → known_page known access ≡ Some page
    → entry_target (entries (processes m) m.ram (record { pid = pid; vpn = page.vpn })) access ≡ Page page.frame
