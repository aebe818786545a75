-- What is seen of a state, as text: as much of it as is asked for.
use Rattle.std.specs.Prelude.{ℕ, Bool, true, false, ◌||◌, if◌then◌else◌, List, [], ◌++◌, codes, decimal, Option, Some, None}
use Rattle.std.specs.List.{flat_map, join_by}
use Rattle.std.specs.Option.{option_map_or}
use Rattle.std.specs.Int.{to_be_bytes, w32}
use Rattle.hex.specs.Hex.{encode_lower}
use Rattle.xk_base.specs.declared.ids.Pid.{Pid}
use Rattle.xk_base.specs.declared.ids.Sid.{Sid}
use Rattle.xk_base.specs.declared.ids.ThreadId.{ThreadId}
use Rattle.order_model.specs.declared.exits.Exit.{Exit}
use Rattle.order_model.specs.declared.exits.Exit.TheVariants.{Exited, Faulted, Killed}
use Rattle.order_model.specs.declared.sights.Sights.{Sights}
use Rattle.order_model.specs.Endings.{Held, IsGone, IsIdle, IsReady, Joins, Kept, Life, Lives, ProcessSeen, Queued, ReceivesAt, Seen, ThreadSeen, Waits}
use Rattle.order_text.specs.Consoles.{console_text}
use Rattle.order_text.specs.Names.{name_text}

-- ---- threads

-- a thread: its process and its number there, as in `2.2`
abbrev pub thread_text : ThreadId → List ℕ
thread_text who = decimal who.pid.0 ++ (codes "." ++ decimal who.tid.0)

-- at which server, where servers are told by their names
abbrev pub server_text : Bool → Sid → List ℕ
server_text true sid = codes " at " ++ name_text sid
server_text false sid = []

abbrev pub kept_word : Kept → List ℕ
kept_word Queued = codes ", queued"
kept_word Held = codes ", held"

-- how a message is kept, and at which server
abbrev pub kept_text : Bool → Option (Sid × Kept) → List ℕ
kept_text servers None = []
kept_text servers (Some place) = kept_word place.1 ++ server_text servers place.0

-- what a thread of the process is about
abbrev pub about_text : Bool → Pid → ThreadSeen → List ℕ
about_text servers pid IsReady = codes " ready"
about_text servers pid (ReceivesAt sid) = codes " receives" ++ option_map_or (server_text servers) sid []
about_text servers pid (Waits place) = codes " waits" ++ kept_text servers place
about_text servers pid (Joins tid) = codes " joins " ++ thread_text (record { pid = pid; tid = tid })
about_text servers pid IsIdle = codes " idle"

abbrev pub thread_seen_text : Bool → ThreadId × ThreadSeen → List ℕ
thread_seen_text servers seen = thread_text seen.0 ++ about_text servers seen.0.pid seen.1

-- ---- processes

-- each thread, with commas between them
abbrev pub threads_text : Bool → List (ThreadId × ThreadSeen) → List ℕ
threads_text servers threads = join_by (thread_seen_text servers) (codes ", ") threads

abbrev pub exited_text : ℕ → List ℕ
exited_text word = codes " exited " ++ decimal word

-- a fault's cause, and its value as eight hexadecimal digits
abbrev pub fault_text : ℕ → ℕ → List ℕ
fault_text cause value = codes " fault " ++ (decimal cause ++ (codes " at " ++ encode_lower (to_be_bytes w32 value)))

-- what a process ended with, where that is kept
abbrev pub exit_text : Option Exit → List ℕ
exit_text None = codes " gone"
exit_text (Some (Exited word)) = exited_text word
exit_text (Some (Faulted cause value)) = fault_text cause value
exit_text (Some Killed) = codes " killed"

-- a process that lives is told by its threads, and another by what it ended with, where that is seen
abbrev pub life_text : Sights → Life → List ℕ
life_text sights (Lives threads) = codes " waits: " ++ threads_text sights.servers threads
life_text sights (IsGone exit) = exit_text (if sights.exits then exit else None)

-- a process that lives is told where it is seen for what threads wait; another where that is, or exits are
abbrev pub is_told : Sights → Bool → Bool
is_told sights true = sights.waits
is_told sights false = sights.exits || sights.waits

abbrev pub lives : Life → Bool
lives (Lives threads) = true
lives (IsGone exit) = false

abbrev pub process_text : Sights → ProcessSeen → List ℕ
process_text sights p = if is_told sights (lives p.life) then decimal p.pid.0 ++ (life_text sights p.life ++ codes "; ") else []

-- ---- a state with its console

-- the bytes of the console, as digits or in quotes, where they are seen
abbrev pub console_part : Bool → Bool → List ℕ → List ℕ
console_part true hex console = codes "console " ++ (console_text hex console ++ codes "; ")
console_part false hex console = []

-- the console, and then each process, as far as they are seen; behind each stands a semicolon
unfoldable pub seen_text : Sights → Bool → Seen → List ℕ
seen_text sights hex seen = console_part sights.console hex seen.console ++ flat_map (process_text sights) seen.processes
