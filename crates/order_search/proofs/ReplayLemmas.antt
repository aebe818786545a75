-- An order that is written as lines behind the events before is played again.
use Rattle.std.proofs.Common.{◌≡◌, ◌≤◌, ◌∙◌, ℕ, Bool, true, false, List, ◌++◌, drop, length, length-append, Option, None, Some, refl, sym, ap, subst, arith}
use Rattle.std.specs.Prelude.{if◌then◌else◌}
use Rattle.std.proofs.Math.Seq.{drop-append_seam}
use Rattle.std.proofs.lemmas.Grind.{flat_map-append}
use Rattle.event_player.specs.History.{end_of, history_of, run_of}
use Rattle.event_player.specs.declared.ending.Ending.TheVariants.{BadLine, LimitMet, Played}
use Rattle.event_text.proofs.JoinedLemmas.{files_joined}
use Rattle.event_text.specs.EventFile.{Input, input_of}
use Rattle.event_text.specs.Joined.{counted_on}
use Rattle.event_text.specs.Lines.{lines_of}
use Rattle.event_text.specs.Plays.{with_events}
use Rattle.event_text.specs.Spelling.{LinesAreRead, event_lines}
use Rattle.machine_laws.proofs.Histories.HistoryLemmas.{history_append}
use Rattle.machine_laws.specs.History as kernel
use Rattle.machine_laws.specs.History.{followed_by, go_on, history}
use Rattle.machine_model.specs.State.Machine.{Machine}
use Rattle.order_model.proofs.Moving.PlayLemmas.{orders_are_played}
use Rattle.order_model.specs.declared.moves.Move.{Move}
use Rattle.order_model.specs.Asking.{asked_of}
use Rattle.order_model.specs.Exits.{exit_in, exits_on, kept_ends}
use Rattle.order_model.specs.Moves.{Point, byte_of_what, bytes_of, events_of, leads_by}
use Rattle.order_model.specs.Orders.{IsPlayed}
use Rattle.order_search.specs.declared.subject.Subject.{Subject}
use Rattle.order_search.specs.Faults.{IsBegun}
use Rattle.order_search.specs.Quests.{history_before, start_of}
use Rattle.order_search.specs.Replays.{EndsAt, IsReadable, replay_file}
use Rattle.xk_base.specs.declared.events.Event.{Event}
use Rattle.xk_base.specs.declared.limits.TheConstants.{EVENT_FILE_LIMIT, STEP_LIMIT}
use Rattle.xk_base.specs.declared.records.Rec.{Rec}
use Rattle.xk_kernel.specs.Start.{start}

-- a history that ended with its events didn't meet the limit, and its file has no bad line
record IsWhole (met : Bool) (bad : Option ℕ) : Type 0 where
  unmet : met ≡ false
  none : bad ≡ None

whole : (met : Bool) (bad : Option ℕ) → (if met then LimitMet else end_of bad) ≡ Played → IsWhole met bad
whole true bad e = absurd (let no : LimitMet ≡ Played = e in cc)
whole false None e = record { unmet = refl; none = refl }
whole false (Some line) e = absurd (let no : BadLine line ≡ Played = e in cc)

-- a history that goes on from one that didn't meet the limit
gone_on : (first : kernel.History) (next : Machine → kernel.History) (last : kernel.History) → first.met ≡ false → next first.machine ≡ last
    → last.met ≡ false → followed_by first next ≡ record { records = first.records ++ last.records; machine = last.machine; met = false }
gone_on first next last unmet there end =
    ap (λ (b : Bool). go_on b first next) unmet
    ∙ (ap (λ (h : kernel.History). record h { records = first.records ++ h.records }) there
    ∙ (λ i. record { records = first.records ++ last.records; machine = last.machine; met = end i }))

-- what a file asks for, and how its history ends
ends : (s : Subject) (input : Input) (events : List Event) (m : Machine) (h : kernel.History) (last : Point)
    → input ≡ record { events = events; bad = None } → history events STEP_LIMIT m ≡ h → h.met ≡ false → h.machine ≡ last.state
    → bytes_of h.records ≡ last.console
    → last.exits ≡ exit_in (kept_ends s.orders.exits (drop (length (history_before s).records) h.records))
    → EndsAt s (history_of input STEP_LIMIT m) last
ends s input events m h last asks is unmet machine console exits =
    let K : kernel.History → Type 0 =
    λ k. EndsAt s (record { records = k.records; machine = k.machine; ending = if k.met then LimitMet else Played }) last in
    let there : K h = record {
      machine = machine;
      console = console;
      exits = exits;
      ending = ap (λ (b : Bool). if b then LimitMet else Played) unmet;
    } in
    subst (λ (x : Input). EndsAt s (history_of x STEP_LIMIT m) last) (sym asks) (subst K (sym is) there)

module _ (read : LinesAreRead) (s : Subject) (order : List Move) (last : Point) (begun : IsBegun s) (readable : IsReadable s order)
    (leads : leads_by (asked_of s.orders) (start_of s) order ≡ Some last) (within : last.state.steps ≤ STEP_LIMIT) where
  start_whole : IsWhole (history (input_of s.before.items).events STEP_LIMIT (start s.plan s.file.items)).met (input_of s.before.items).bad
  start_whole = whole _ _ begun

  lines_short : length (event_lines (events_of (asked_of s.orders) order)) ≤ EVENT_FILE_LIMIT
  lines_short =
      let all = readable.short in
      let size = length-append s.before.items (event_lines (events_of (asked_of s.orders) order)) in
      omega (arith, all, size)

  asks : input_of (replay_file s order)
      ≡ record { events = (input_of s.before.items).events ++ events_of (asked_of s.orders) order; bad = None }
  asks =
      files_joined s.before.items (event_lines (events_of (asked_of s.orders) order))
      (record { whole = readable.whole; short = readable.short }) start_whole.none
      ∙ ap (λ (i : Input). with_events (input_of s.before.items).events (counted_on (length (lines_of s.before.items)) i))
      (read (events_of (asked_of s.orders) order) readable.askable lines_short)

  played : IsPlayed (asked_of s.orders) order STEP_LIMIT (start_of s) last
  played = orders_are_played (asked_of s.orders) order STEP_LIMIT (start_of s) last leads within

  start_state : (start_of s).state ≡ (history (input_of s.before.items).events STEP_LIMIT (start s.plan s.file.items)).machine
  unfolding start_of
  start_state = refl

  start_console : (start_of s).console ≡ bytes_of (history (input_of s.before.items).events STEP_LIMIT (start s.plan s.file.items)).records
  unfolding start_of
  start_console = refl

  start_exits : (start_of s).exits ≡ (λ pid. None)
  unfolding start_of
  start_exits = refl

  pub replayed : EndsAt s (run_of STEP_LIMIT (start s.plan s.file.items) (replay_file s order)) last
  replayed =
      let before_events : List Event = (input_of s.before.items).events in
      let later : List Event = events_of (asked_of s.orders) order in
      let machine : Machine = start s.plan s.file.items in
      let front : kernel.History = history before_events STEP_LIMIT machine in
      let there : history later STEP_LIMIT front.machine ≡ record { records = played.records; machine = last.state; met = false } =
      ap (history later STEP_LIMIT) (sym start_state) ∙ played.is in
      let all : history (before_events ++ later) STEP_LIMIT machine
      ≡ record { records = front.records ++ played.records; machine = last.state; met = false } =
      history_append before_events later STEP_LIMIT machine
      ∙ gone_on front (history later STEP_LIMIT) (record { records = played.records; machine = last.state; met = false }) start_whole.unmet there refl in
      let console : bytes_of (front.records ++ played.records) ≡ last.console =
      flat_map-append (λ (told : Rec). byte_of_what told.what) front.records played.records
      ∙ (ap (λ (bytes : List ℕ). bytes ++ bytes_of played.records) (sym start_console) ∙ sym played.console) in
      let exits : last.exits ≡ exit_in (kept_ends s.orders.exits (drop (length front.records) (front.records ++ played.records))) =
      played.exits
      ∙ (ap (λ exits. exits_on exits (kept_ends s.orders.exits played.records)) start_exits
      ∙ ap (λ (rs : List Rec). exit_in (kept_ends s.orders.exits rs)) (sym (drop-append_seam front.records played.records))) in
      ends s (input_of (replay_file s order)) (before_events ++ later) machine _ last asks all refl refl console exits
