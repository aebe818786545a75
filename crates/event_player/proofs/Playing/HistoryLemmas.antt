-- What is told of a history, and histories one after the other.
use Rattle.std.proofs.Common.{◌≡◌, ◌≢◌, ℕ, Bool, true, false, List, [], ◌∷◌, ◌++◌, refl, sym, ap, ◌∙◌, subst, ◌⊎◌, inl, inr}
use Rattle.std.specs.Prelude.{if◌then◌else◌}
use Rattle.std.proofs.lemmas.Grind.{flat_map-append}
use Rattle.xk_base.specs.declared.records.Rec.{Rec}
use Rattle.xk_base.specs.declared.ids.Pid.{Pid}
use Rattle.xk_base.specs.declared.ids.Tid.{Tid}
use Rattle.event_player.specs.declared.telling.Telling.{Telling}
use Rattle.event_player.specs.Telling.{told, told_of}
use Rattle.xk_base.specs.declared.events.Event.{Event}
use Rattle.xk_base.specs.declared.events.Event.TheVariants.{Tick, Pick, Irq, Kill}
use Rattle.machine_model.specs.State.Machine.{Machine}
use Rattle.machine_model.specs.Stepping.Events.{nothing}
use Rattle.machine_laws.specs.History as kernel
use Rattle.xk_kernel.specs.Stepping.{event_done}
use Rattle.machine_laws.proofs.Histories.HistoryLemmas.{history_append, history_first, history_none, irq_plays, kill_plays, pick_plays}
use Rattle.machine_laws.proofs.Histories.LimitLemmas.{history_met, irq_steps, kill_steps, pick_steps}
use Rattle.event_player.specs.declared.ending.Ending.{Ending}
use Rattle.event_player.specs.declared.ending.Ending.TheVariants.{Played, LimitMet}
use Rattle.event_player.specs.History.{History, with_ending}
use Rattle.event_player.specs.Gathering.{Gathered, GatheredPart, Gathers, GathersPart, Text}
use Rattle.event_player.proofs.Playing.GatheringLemmas.{gathers_append, gathers_none, part_later, part_longer}

-- the same history after some records
abbrev pub behind : List Rec → History → History
behind records h = record h { records = records ++ h.records }

-- ---- what is told

pub gathered_same : (tells : Telling) (before after : Text) (g h : History) (ending : Ending) → g ≡ h → Gathered tells before after h ending → Gathered tells before after g ending
gathered_same tells before after g h ending same wrote =
    let P : History → Type 0 = λ x. Gathered tells before after x ending in subst P (sym same) wrote

pub part_same : (tells : Telling) (before after : Text) (g h : History) → g ≡ h → GatheredPart tells before after h → GatheredPart tells before after g
part_same tells before after g h same part =
    let P : History → Type 0 = λ x. GatheredPart tells before after x in subst P (sym same) part

-- nothing is told where nothing was recorded: the history ends as it would anyway
pub gathered_nothing : (tells : Telling) (out : Text) (last : Ending) (m : Machine) → Gathered tells out out (with_ending last (kernel.reached (nothing m))) last
gathered_nothing tells out last m = (refl, gathers_none out)

-- .. or at the limit
pub gathered_stopped : (tells : Telling) (out : Text) (last : Ending) (m : Machine) → Gathered tells out out (with_ending last (kernel.stopped m)) LimitMet
gathered_stopped tells out last m = (refl, gathers_none out)

-- the records of a step, and then the rest
pub gathered_behind : (tells : Telling) (before mid after : Text) (records : List Rec) (h : History) (ending : Ending)
    → Gathers before mid (told tells records) → Gathered tells mid after h ending → Gathered tells before after (behind records h) ending
gathered_behind tells before mid after records h ending first second =
    let P : List ℕ → Type 0 = λ text. Gathers before after text in
    (second.0, subst P (sym (flat_map-append (told_of tells) records h.records)) (gathers_append before mid after (told tells records) (told tells h.records) first second.1))

-- .. a part of the rest
pub part_behind : (tells : Telling) (before mid after : Text) (records : List Rec) (h : History)
    → Gathers before mid (told tells records) → GatheredPart tells mid after h → GatheredPart tells before after (behind records h)
part_behind tells before mid after records h first second =
    let P : List ℕ → Type 0 = λ text. GathersPart before after text in
    subst P (sym (flat_map-append (told_of tells) records h.records)) (part_later before mid after (told tells records) (told tells h.records) first second)

-- a part of the records of a step
pub part_front : (tells : Telling) (before after : Text) (records : List Rec) (h : History)
    → GathersPart before after (told tells records) → GatheredPart tells before after (behind records h)
part_front tells before after records h front =
    let P : List ℕ → Type 0 = λ text. GathersPart before after text in
    subst P (sym (flat_map-append (told_of tells) records h.records)) (part_longer before after (told tells records) (told tells h.records) front)

-- a part of the lines of an event that isn't the last is a part of the lines of all
pub part_followed : (tells : Telling) (before after : Text) (last : Ending) (h : kernel.History) (next : Machine → kernel.History)
    → GathersPart before after (told tells h.records) → GatheredPart tells before after (with_ending last (kernel.followed_by h next))
part_followed tells before after last h next front = go h.met
  where
    go : (met : Bool) → GatheredPart tells before after (with_ending last (kernel.go_on met h next))
    go true = front
    go false = part_front tells before after h.records (with_ending last (next h.machine)) front

-- an event at which the history ends
pub history_stops : (event : Event) (events : List Event) (limit : ℕ) (m : Machine) → (kernel.play event limit m).met ≡ true
    → kernel.history (event ∷ events) limit m ≡ kernel.play event limit m
history_stops event events limit m met =
    history_first event events limit m ∙ ap (λ (b : Bool). kernel.go_on b (kernel.play event limit m) (kernel.history events limit)) met

-- ---- how a history ends

unmet_by : (met : Bool) → (if met then LimitMet else Played) ≡ Played → met ≡ false
unmet_by true is = cc
unmet_by false is = refl

met_by : (met : Bool) → (if met then LimitMet else Played) ≢ Played → met ≡ true
met_by true other = refl
met_by false other = absurd (other refl)

-- where it ends with its events, the limit isn't met
pub played_unmet : (h : kernel.History) → (with_ending Played h).ending ≡ Played → h.met ≡ false
played_unmet h is = unmet_by h.met is

-- .. and else it is
pub other_met : (h : kernel.History) (ending : Ending) → (with_ending Played h).ending ≡ ending → ending ≢ Played → h.met ≡ true
other_met h ending is other = met_by h.met (λ e. other (sym is ∙ e))

-- where an event ends at the limit, its steps equal it
pub met_steps : (event : Event) (limit : ℕ) (m : Machine) → (with_ending Played (kernel.play event limit m)).ending ≡ LimitMet
    → (kernel.play event limit m).machine.steps ≡ limit
met_steps event limit m ended =
    let met : (kernel.play event limit m).met ≡ true = met_by (kernel.play event limit m).met (λ e. cc) in
    let whole = history_stops event [] limit m met in
    ap (λ (h : kernel.History). h.machine.steps) (sym whole) ∙ history_met (event ∷ []) limit m (ap (λ (h : kernel.History). h.met) whole ∙ met)

-- where the limit isn't met, it ends as is said
pub unmet_ends : (last : Ending) (h : kernel.History) → h.met ≡ false → (with_ending last h).ending ≡ last
unmet_ends last h unmet = ap (λ (met : Bool). if met then LimitMet else last) unmet

-- where the limit is met, nothing else ends it
pub met_ends : (one other : Ending) (h : kernel.History) → h.met ≡ true → with_ending one h ≡ with_ending other h
met_ends one other h met = rw met refl

-- ---- events in order

-- an event alone
pub history_one : (event : Event) (limit : ℕ) (m : Machine) → (kernel.play event limit m).met ≡ false
    → kernel.history (event ∷ []) limit m ≡ kernel.behind (kernel.play event limit m).records (kernel.reached (nothing (kernel.play event limit m).machine))
history_one event limit m unmet =
    history_first event [] limit m
    ∙ (ap (λ (b : Bool). kernel.go_on b (kernel.play event limit m) (kernel.history [] limit)) unmet
    ∙ ap (kernel.behind (kernel.play event limit m).records) (history_none limit (kernel.play event limit m).machine))

-- events behind those that were played
pub history_after : (events more : List Event) (limit : ℕ) (m : Machine) → (kernel.history events limit m).met ≡ false
    → kernel.history (events ++ more) limit m ≡ kernel.behind (kernel.history events limit m).records (kernel.history more limit (kernel.history events limit m).machine)
history_after events more limit m unmet =
    history_append events more limit m
    ∙ ap (λ (b : Bool). kernel.go_on b (kernel.history events limit m) (kernel.history more limit)) unmet

-- ---- an event without steps

-- it is no step
pub done_steps : (event : Event) (m : Machine) → (event_done event m).machine.steps ≡ m.steps
done_steps (Tick n) m = refl
done_steps (Pick pid tid) m = pick_steps (record { pid = pid; tid = tid }) m
done_steps (Irq k) m = irq_steps k m
done_steps (Kill pid) m = kill_steps pid m

pub play_other : (event : Event) (limit : ℕ) (m : Machine)
    → (((pid : Pid) × (tid : Tid) × (event ≡ Pick pid tid)) ⊎ (((k : ℕ) × (event ≡ Irq k)) ⊎ ((pid : Pid) × (event ≡ Kill pid))))
    → kernel.play event limit m ≡ kernel.reached (event_done event m)
play_other event limit m (inl (pid, tid, is)) = rw is (pick_plays pid tid limit m)
play_other event limit m (inr (inl (k, is))) = rw is (irq_plays k limit m)
play_other event limit m (inr (inr (pid, is))) = rw is (kill_plays pid limit m)
