-- An order that is written as lines behind the events before is played again.
use Rattle.std.specs.Prelude.{◌≡◌, ◌≤◌, ℕ, List, ◌++◌, drop, length, Some}
use Rattle.event_player.specs.History.{History, run_of}
use Rattle.event_player.specs.declared.ending.Ending.TheVariants.{Played}
use Rattle.event_text.specs.Lines.{whole_lines}
use Rattle.event_text.specs.Spelling.{AreAskable, event_lines}
use Rattle.order_model.specs.declared.moves.Move.{Move}
use Rattle.order_model.specs.Asking.{asked_of}
use Rattle.order_model.specs.Exits.{exit_in, kept_ends}
use Rattle.order_model.specs.Moves.{Point, bytes_of, events_of, leads_by}
use Rattle.order_search.specs.declared.subject.Subject.{Subject}
use Rattle.order_search.specs.Faults.{IsBegun}
use Rattle.order_search.specs.Quests.{history_before, start_of}
use Rattle.xk_base.specs.declared.limits.TheConstants.{EVENT_FILE_LIMIT, STEP_LIMIT}
use Rattle.xk_kernel.specs.Start.{start}

-- the lines of the events before, and then those of the order
abbrev pub replay_file : Subject → List Move → List ℕ
replay_file s order = s.before.items ++ event_lines (events_of (asked_of s.orders) order)

-- it can be read: the lines before are whole, its events can be spelled, and it isn't too long
pub record IsReadable (s : Subject) (order : List Move) : Type 0 where
  pub whole : whole_lines s.before.items ≡ s.before.items
  pub askable : AreAskable (events_of (asked_of s.orders) order)
  pub short : length (replay_file s order) ≤ EVENT_FILE_LIMIT

-- the history ends with all its events, in the state of the point, with its bytes on the console, and processes ended in it as they did at
-- the point, since the orders began
pub record EndsAt (s : Subject) (h : History) (last : Point) : Type 0 where
  pub machine : h.machine ≡ last.state
  pub console : bytes_of h.records ≡ last.console
  pub exits : last.exits ≡ exit_in (kept_ends s.orders.exits (drop (length (history_before s).records) h.records))
  pub ending : h.ending ≡ Played

-- **An order is replayed by its file**: read back and played from the start of the image, it ends where the order leads.
abbrev pub OrdersAreReplayed : Type 0
OrdersAreReplayed =
    (s : Subject) (order : List Move) (last : Point) → IsBegun s → IsReadable s order
    → leads_by (asked_of s.orders) (start_of s) order ≡ Some last → last.state.steps ≤ STEP_LIMIT
    → EndsAt s (run_of STEP_LIMIT (start s.plan s.file.items) (replay_file s order)) last
