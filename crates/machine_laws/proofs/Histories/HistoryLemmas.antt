-- One event, row by row, and lists of events.
use Rattle.std.proofs.Common.{◌≡◌, ◌≢◌, ◌==◌, ◌-◌, ◌≤◌, ℕ, zero, suc, Bool, true, false, List, [], ◌∷◌, ◌++◌, is_some, refl, sym, ap, ◌∙◌, arith, append_assoc, append-nil, Some, None, Option}
use Rattle.std.specs.Prelude.{if◌then◌else◌}
use Rattle.std.proofs.lemmas.Bool.Decides.{nat_tests}
use Rattle.xk_base.specs.declared.events.Event.{Event}
use Rattle.xk_base.specs.declared.events.Event.TheVariants.{Tick, Pick, Irq, Kill}
use Rattle.xk_base.specs.declared.ids.Pid.{Pid}
use Rattle.xk_base.specs.declared.ids.Tid.{Tid}
use Rattle.xk_base.specs.declared.records.Rec.{Rec}
use Rattle.machine_model.specs.Stepping.Events.{picked, raised, killed, nothing}
use Rattle.machine_model.specs.State.Machine.{Machine}
use Rattle.machine_model.specs.State.Order.{actor, turn, ready_at, next_ready}
use Rattle.machine_model.proofs.StepLemmas.{next_ready_passes, none_is_ready}
use Rattle.xk_base.specs.Tables.Circle.{is_pid, is_thread_id}
use Rattle.std.proofs.lemmas.Bool.{false≢true}
use Rattle.xk_base.specs.declared.ids.ThreadId.{ThreadId}
use Rattle.machine_model.specs.Stepping.Step.{step}
use Rattle.machine_laws.specs.History.{History, reached, stopped, behind, go_on, followed_by, ticks, play, history}

-- ---- one event

pub tick_zero : (limit : ℕ) (m : Machine) → play (Tick 0) limit m ≡ reached (nothing (turn m))
unfolding play ticks
tick_zero limit m = refl

pub tick_idle : (n limit : ℕ) (m : Machine) → is_some (actor m) ≡ false → play (Tick n) limit m ≡ reached (nothing (turn m))
unfolding play ticks
tick_idle zero limit m idle = refl
tick_idle (suc n) limit m idle = rw idle refl

pub tick_met : (n limit : ℕ) (m : Machine) → 1 ≤ n → is_some (actor m) ≡ true → m.steps ≡ limit → play (Tick n) limit m ≡ stopped m
unfolding play ticks
tick_met zero limit m some ready met = absurd (omega arith)
tick_met (suc n) limit m some ready met =
    let same : (m.steps == limit) ≡ true = grind (arith, nat_tests) in
    rw (ready, same) refl

tick_suc : (n limit : ℕ) (m : Machine) → is_some (actor m) ≡ true → m.steps ≢ limit
    → play (Tick (suc n)) limit m ≡ behind (step m).records (play (Tick n) limit (step m).machine)
unfolding play ticks
tick_suc n limit m ready more =
    let other : (m.steps == limit) ≡ false = grind (arith, nat_tests) in
    rw (ready, other) refl

pub tick_steps : (n limit : ℕ) (m : Machine) → 1 ≤ n → is_some (actor m) ≡ true → m.steps ≢ limit
    → play (Tick n) limit m ≡ behind (step m).records (play (Tick (n - 1)) limit (step m).machine)
tick_steps zero limit m some ready more = absurd (omega arith)
tick_steps (suc n) limit m some ready more =
    let less : n ≡ suc n - 1 = omega arith in
    tick_suc n limit m ready more ∙ ap (λ (k : ℕ). behind (step m).records (play (Tick k) limit (step m).machine)) less

pub pick_plays : (pid : Pid) (tid : Tid) (limit : ℕ) (m : Machine) → play (Pick pid tid) limit m ≡ reached (picked (record { pid = pid; tid = tid }) m)
unfolding play
pick_plays pid tid limit m = refl

pub irq_plays : (k limit : ℕ) (m : Machine) → play (Irq k) limit m ≡ reached (raised k m)
unfolding play
irq_plays k limit m = refl

pub kill_plays : (pid : Pid) (limit : ℕ) (m : Machine) → play (Kill pid) limit m ≡ reached (killed pid m)
unfolding play
kill_plays pid limit m = refl

pub pick_unready : (pid : Pid) (tid : Tid) (limit : ℕ) (m : Machine) → ready_at m (record { pid = pid; tid = tid }) ≡ false
    → play (Pick pid tid) limit m ≡ reached (nothing m)
unfolding play picked
pick_unready pid tid limit m unready = rw unready refl

-- ---- a thread is Ready

someone_by : (b : Bool) (m : Machine) → ready_at m m.cursor ≡ b
    → is_some (if b then Some m.cursor else next_ready m m.cursor) ≡ true → (d : ThreadId) × (ready_at m d ≡ true)
someone_by true m is some = (m.cursor, is)
someone_by false m is some = go (next_ready m m.cursor) refl some
  where
    go : (o : Option ThreadId) → next_ready m m.cursor ≡ o → is_some o ≡ true → (d : ThreadId) × (ready_at m d ≡ true)
    go None e none = absurd (false≢true none)
    go (Some d) e here = (d, next_ready_passes m m.cursor d e)

pub actor_is_ready : (m : Machine) → is_some (actor m) ≡ true → (d : ThreadId) × (ready_at m d ≡ true)
unfolding actor
actor_is_ready m some = someone_by (ready_at m m.cursor) m refl some

pub ready_has_actor : (m : Machine) (d : ThreadId) → is_pid m.processes m.cursor.pid.0 ≡ true → is_thread_id m.processes d ≡ true
    → ready_at m d ≡ true → is_some (actor m) ≡ true
unfolding actor
ready_has_actor m d cursor known ready = go (ready_at m m.cursor)
  where
    next : (o : Option ThreadId) → next_ready m m.cursor ≡ o → is_some o ≡ true
    next None e = absurd (false≢true (sym (none_is_ready m m.cursor d cursor e known) ∙ ready))
    next (Some who) e = refl

    go : (b : Bool) → is_some (if b then Some m.cursor else next_ready m m.cursor) ≡ true
    go true = refl
    go false = next (next_ready m m.cursor) refl

-- ---- events in order

behind_behind : (first second : List Rec) (h : History) → behind first (behind second h) ≡ behind (first ++ second) h
behind_behind first second h = rw append_assoc refl

behind_go_on : (records : List Rec) (met : Bool) (h : History) (next : Machine → History)
    → behind records (go_on met h next) ≡ go_on met (behind records h) next
behind_go_on records true h next = refl
behind_go_on records false h next = behind_behind records h.records (next h.machine)

go_on_twice : (met : Bool) (h : History) (both first next : Machine → History) → h.met ≡ met
    → both h.machine ≡ followed_by (first h.machine) next → go_on met h both ≡ followed_by (go_on met h first) next
go_on_twice true h both first next is same = sym (ap (λ (b : Bool). go_on b h next) is)
go_on_twice false h both first next is same =
    ap (behind h.records) same ∙ behind_go_on h.records (first h.machine).met (first h.machine) next

pub history_append : (before after : List Event) (limit : ℕ) (m : Machine)
    → history (before ++ after) limit m ≡ followed_by (history before limit m) (history after limit)
unfolding history
history_append [] after limit m = refl
history_append (event ∷ before) after limit m =
    go_on_twice (play event limit m).met (play event limit m) (history (before ++ after) limit) (history before limit) (history after limit) refl
    (history_append before after limit (play event limit m).machine)

pub history_none : (limit : ℕ) (m : Machine) → history [] limit m ≡ reached (nothing m)
unfolding history
history_none limit m = refl

pub history_first : (event : Event) (events : List Event) (limit : ℕ) (m : Machine)
    → history (event ∷ events) limit m ≡ followed_by (play event limit m) (history events limit)
unfolding history
history_first event events limit m = refl

-- the limit was met
go_on_met : (h : History) (next : Machine → History) → h.met ≡ true → followed_by h next ≡ h
go_on_met h next met = ap (λ (b : Bool). go_on b h next) met

pub stays_met : (before after : List Event) (limit : ℕ) (m : Machine) → (history before limit m).met ≡ true
    → history (before ++ after) limit m ≡ history before limit m
stays_met before after limit m met =
    history_append before after limit m ∙ go_on_met (history before limit m) (history after limit) met

front_go_on : (met : Bool) (h : History) (next : Machine → History) → (rest : List Rec) × ((go_on met h next).records ≡ h.records ++ rest)
front_go_on true h next = ([], sym (append-nil h.records))
front_go_on false h next = ((next h.machine).records, refl)

pub records_front : (before after : List Event) (limit : ℕ) (m : Machine)
    → (rest : List Rec) × ((history (before ++ after) limit m).records ≡ (history before limit m).records ++ rest)
records_front before after limit m =
    let front = front_go_on (history before limit m).met (history before limit m) (history after limit) in
    (front.0, ap (λ (h : History). h.records) (history_append before after limit m) ∙ front.1)

-- what events without steps play
pub ruleset stepless_plays = (pick_plays, irq_plays, kill_plays)
