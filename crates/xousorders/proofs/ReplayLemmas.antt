-- Event files replay their endings.
use Rattle.std.proofs.Common.{◌≡◌, ◌∙◌, ◌<◌, ◌≤◌, ◌-◌, ℕ, Bool, true, false, List, [], ◌∷◌, ◌++◌, All, get_or, length, Option, None, Some, refl, sym, ap, subst, arith}
use Rattle.std.specs.Prelude.{◌==◌, if◌then◌else◌, IsSome}
use Rattle.std.specs.declared.cmp.Ordering.{Ordering}
use Rattle.std.specs.List.{list_any}
use Rattle.std.proofs.lemmas.Bool.{false≢true}
use Rattle.std.proofs.lemmas.Bool.Decides.{nat_tests}
use Rattle.std.proofs.lemmas.Option.{get_or_from_slice_get, slice_get_within}
use Rattle.event_text.specs.Lines.{is_last, whole_lines}
use Rattle.event_text.specs.Spelling.{AreAskable, event_lines}
use Rattle.event_player.specs.History.{run_of}
use Rattle.order_model.specs.Asking.{asked_of}
use Rattle.order_model.specs.Moves.{events_of}
use Rattle.order_search.specs.declared.subject.Subject.{Subject}
use Rattle.order_search.specs.Faults.{IsBegun}
use Rattle.order_search.specs.Quests.{searching_of}
use Rattle.order_search.specs.Replays.{EndsAt, OrdersAreReplayed}
use Rattle.xk_base.specs.declared.limits.TheConstants.{EVENT_FILE_LIMIT, STEP_LIMIT}
use Rattle.xk_kernel.specs.Start.{start}
use Rattle.xk_ports.specs.Told.{Grows}
use Rattle.xousorders.specs.Calls.{Command, IsSubject, Sides, WritesFiles}
use Rattle.xousorders.specs.Endings.{IsEndingOrder}
use Rattle.xousorders.specs.Files.{with_feed}
use Rattle.xousorders.specs.Levels.{IsLevel, Level, with_preemptions}
use Rattle.xousorders.specs.Replayed.{AreReplayed}
use Rattle.xousorders.specs.Reports.{AreSpelled, IsSearchedBehind, Report, files_in}
use Rattle.order_text.specs.declared.endings.Ending.{Ending}
use Rattle.xousorders.specs.declared.view.View.{View}

-- ---- whole lines

has_feed : List ℕ → Bool
has_feed bytes = list_any (λ b. b == 10) bytes

none_whole : (byte : ℕ) (bytes : List ℕ) → has_feed (byte ∷ bytes) ≡ false → whole_lines (byte ∷ bytes) ≡ []
unfolding has_feed whole_lines
none_whole byte bytes none = rw none refl

more_whole : (byte : ℕ) (bytes : List ℕ) → has_feed (byte ∷ bytes) ≡ true → whole_lines (byte ∷ bytes) ≡ byte ∷ whole_lines bytes
unfolding has_feed whole_lines
more_whole byte bytes feed = rw feed refl

alone_feed : (byte : ℕ) → has_feed (byte ∷ []) ≡ true → byte ≡ 10
unfolding has_feed
alone_feed byte feed = grind (arith, nat_tests)

-- whole lines end with a line feed
last_whole : (byte : ℕ) (bytes : List ℕ) → whole_lines (byte ∷ bytes) ≡ byte ∷ bytes → get_or (byte ∷ bytes) (length bytes) 0 ≡ 10
last_whole byte [] whole = go (has_feed (byte ∷ [])) refl
  where
    go : (f : Bool) → has_feed (byte ∷ []) ≡ f → byte ≡ 10
    go true e = alone_feed byte e
    go false e = (let no = sym (none_whole byte [] e) ∙ whole in cc)
last_whole byte (b ∷ bs) whole = go (has_feed (byte ∷ b ∷ bs)) refl (last_whole b bs)
  where
    go : (f : Bool) → has_feed (byte ∷ b ∷ bs) ≡ f → (whole_lines (b ∷ bs) ≡ b ∷ bs → get_or (b ∷ bs) (length bs) 0 ≡ 10)
        → get_or (b ∷ bs) (length bs) 0 ≡ 10
    go true e deeper =
        let all : byte ∷ whole_lines (b ∷ bs) ≡ byte ∷ b ∷ bs = sym (more_whole byte (b ∷ bs) e) ∙ whole in
        let rest : whole_lines (b ∷ bs) ≡ b ∷ bs = cc in
        deeper rest
    go false e deeper = (let no = sym (none_whole byte (b ∷ bs) e) ∙ whole in cc)

-- .. so none is added
fed : (bytes : List ℕ) → whole_lines bytes ≡ bytes → with_feed bytes ≡ bytes
fed [] whole = refl
fed (byte ∷ bytes) whole =
    go (is_last 10 (byte ∷ bytes))
    (let last : get_or (byte ∷ bytes) (length bytes) 0 ≡ 10 = last_whole byte bytes whole in
    let place : length (byte ∷ bytes) - 1 ≡ length bytes = omega arith in
    let there : get_or (byte ∷ bytes) (length (byte ∷ bytes) - 1) 0 ≡ 10 = ap (λ (n : ℕ). get_or (byte ∷ bytes) n 0) place ∙ last in
    let some : 0 < length (byte ∷ bytes) = omega arith in
    grind (arith, nat_tests, there, some))
  where
    go : (b : Bool) → b ≡ true → (if b then byte ∷ bytes else (byte ∷ bytes) ++ 10 ∷ []) ≡ byte ∷ bytes
    go true e = refl
    go false e = absurd (false≢true e)

-- ---- what was searched

-- the bound of steps and the number of preemptions don't change how the events before are played
begun_still : (steps : ℕ) (view : View) (asked searched : Subject) (preemptions : ℕ) (earlier : Option (List Ending))
    → IsSearchedBehind steps view (with_preemptions preemptions asked) searched earlier → IsBegun asked → IsBegun searched
begun_still steps view asked searched preemptions None same begun = subst IsBegun (sym same) begun
begun_still steps view asked searched preemptions (Some list) behind begun = subst IsBegun (sym behind.0.is) begun

-- .. and not which events may come
once_still : (steps : ℕ) (view : View) (asked searched : Subject) (preemptions : ℕ) (earlier : Option (List Ending))
    → IsSearchedBehind steps view (with_preemptions preemptions asked) searched earlier
    → searched.orders.once.items ≡ asked.orders.once.items
once_still steps view asked searched preemptions None same = ap (λ (s : Subject). s.orders.once.items) same
once_still steps view asked searched preemptions (Some list) behind = ap (λ (s : Subject). s.orders.once.items) behind.0.is

-- ---- endings

-- **Each event file replays its ending**, as each order is replayed by its file.
all_replayed : (law : OrdersAreReplayed) (r : Report) (view : View) → IsBegun r.finding.searched
    → All (IsEndingOrder (searching_of r.finding.searched) view) r.endings.list.items → AreSpelled r
    → AreReplayed r.finding.searched view r.endings.list.items
all_replayed law r view begun orders spelled place ending there can =
    let s : Subject = r.finding.searched in
    let low : place < length r.endings.list.items = slice_get_within r.endings.list.items place ending there in
    let is : get_or r.endings.list.items place ending ≡ ending = get_or_from_slice_get r.endings.list.items place ending ending there in
    let order : IsEndingOrder (searching_of s) view ending =
    subst (IsEndingOrder (searching_of s) view) is (orders place ending low) in
    let askable : AreAskable (events_of (asked_of s.orders) ending.order.items) =
    subst (λ (e : Ending). AreAskable (events_of (asked_of s.orders) e.order.items)) is (spelled place ending low) in
    let same : with_feed s.before.items ≡ s.before.items = fed s.before.items can.whole in
    let lines : List ℕ = event_lines (events_of (asked_of s.orders) ending.order.items) in
    let ends = law s ending.order.items order.last begun
    (record {
      whole = can.whole;
      askable = askable;
      short = subst (λ (bytes : List ℕ). length (bytes ++ lines) ≤ EVENT_FILE_LIMIT) same can.short;
    })
    order.leads order.within in
    record {
      last = order.last;
      leads = order.leads;
      ends = subst (λ (bytes : List ℕ). EndsAt s (run_of STEP_LIMIT (start s.plan s.file.items) (bytes ++ lines)) order.last) (sym same) ends;
      shown = order.seen;
    }

-- the event files that were written replay the endings that were told
pub files_written : (cmp : List ℕ → List ℕ → Ordering) (law : OrdersAreReplayed) (command : Command) (sides : Sides) (asked : Subject)
    (preemptions : ℕ) (level : Level) → IsSubject sides.files command asked → IsLevel cmp command.limits command.view asked preemptions level
    → AreAskable command.asking.once → Grows sides.filed sides.filed_after (files_in command.folder level.report)
    → (AreAskable level.report.finding.searched.orders.once.items → IsSome command.folder → AreSpelled level.report)
    → WritesFiles command sides level.report
files_written cmp law command sides asked preemptions level is_asked right askable grows spelled = record {
  files = grows;
  replayed = λ folder.
      (let searched : Subject = level.report.finding.searched in
      let same = once_still command.limits.steps command.view asked searched preemptions level.earlier right.behind ∙ is_asked.is_asked.once in
      let begun = begun_still command.limits.steps command.view asked searched preemptions level.earlier right.behind is_asked.begun in
      all_replayed law level.report command.view begun right.so.endings.real.orders (spelled (subst AreAskable (sym same) askable) folder));
}
