-- The event files that are written replay their endings.
use Rattle.std.specs.Prelude.{◌≡◌, ◌≤◌, ℕ, List, length, slice_get, Some}
use Rattle.event_player.specs.History.{run_of}
use Rattle.event_text.specs.Lines.{whole_lines}
use Rattle.order_model.specs.Asking.{asked_of}
use Rattle.order_model.specs.Moves.{Point, leads_by}
use Rattle.order_search.specs.declared.subject.Subject.{Subject}
use Rattle.order_search.specs.Quests.{start_of}
use Rattle.order_search.specs.Replays.{EndsAt}
use Rattle.xk_base.specs.declared.limits.TheConstants.{EVENT_FILE_LIMIT, STEP_LIMIT}
use Rattle.xk_kernel.specs.Start.{start}
use Rattle.order_text.specs.declared.endings.Ending.{Ending}
use Rattle.xousorders.specs.declared.view.View.{View}
use Rattle.xousorders.specs.Endings.{shown_in, shown_of}
use Rattle.xousorders.specs.Files.{order_file}

-- the event file of the ending, which writes its order behind the lines of the events before
abbrev pub replay_of : Subject → Ending → List ℕ
replay_of s ending = order_file (asked_of s.orders) s.before.items ending.order.items

-- an event file may have as many bytes, and the lines of the events before end with a line feed
pub record CanBePlayed (s : Subject) (file : List ℕ) : Type 0 where
  pub short : length file ≤ EVENT_FILE_LIMIT
  pub whole : whole_lines s.before.items ≡ s.before.items

-- The ending's event file, played from the start of the image, ends with all its events where the order of the ending leads, and what is
-- told of the ending is so there.
pub record IsReplayed (s : Subject) (view : View) (ending : Ending) : Type 0 where
  pub last : Point
  pub leads : leads_by (asked_of s.orders) (start_of s) ending.order.items ≡ Some last
  pub ends : EndsAt s (run_of STEP_LIMIT (start s.plan s.file.items) (replay_of s ending)) last
  pub shown : shown_in ending ≡ shown_of view last

-- **Event files replay their endings**, where they can be played.
abbrev pub AreReplayed : Subject → View → List Ending → Type 0
AreReplayed s view list =
    (place : ℕ) (ending : Ending) → slice_get list place ≡ Some ending → CanBePlayed s (replay_of s ending) → IsReplayed s view ending
