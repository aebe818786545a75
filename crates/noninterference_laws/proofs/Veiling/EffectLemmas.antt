-- What a call makes of a machine is the same beside what is hidden where the threads of a group are hidden before it.
use Rattle.std.proofs.Common.{◌≡◌, ℕ, true, false, List, Option, Some, None, refl, sym, ap, ◌∙◌}
use Rattle.std.specs.Prelude.{unwrap_or}
use Rattle.std.specs.Option.{option_map}
use Rattle.xk_base.specs.declared.errors.XousError.{XousError}
use Rattle.xk_base.specs.declared.ids.ThreadId.{ThreadId}
use Rattle.xk_base.specs.Tables.Circle.{same_thread}
use Rattle.xk_base.specs.Tables.Counting.{put_at}
use Rattle.machine_model.specs.Calling.Calls.{call}
use Rattle.machine_model.specs.Ending.Closing.{any_server, closed, senders_held_gone, senders_queued_gone}
use Rattle.machine_model.specs.Ending.Ends.{forgotten}
use Rattle.machine_model.specs.State.Changes.{Change, Outcome, Refused, Retried, Served, Told, call_settled, settled, with_refusal}
use Rattle.machine_model.specs.State.Machine.{Machine, Thread, Waiting}
use Rattle.machine_model.specs.State.Order.{turn}
use Rattle.machine_model.specs.State.Threads.{passed, with_state}
use Rattle.call_effects.specs.Effects.{Awaits, Claims, ClosesServers, Connects, Effect, EndsTurn, Forgets, Founds, Frees, HasHeap, Orphans, Pages, Serves, Starts, TakesNumber, Unqueues, Waits, apply}
use Rattle.call_effects.specs.CallViews.{call_view}
use Rattle.call_effects.proofs.Viewing.AlikeLemmas.{BothRefused, BothRetried, BothServed, OutcomesAlike, call_alike, mapped_alike, outcome_mapped}
use Rattle.noninterference_laws.specs.Inside.{Group, hidden_threads}
use Rattle.noninterference_laws.proofs.Veiling.VeilLemmas.{again, answered_veil, changed_veil, forgotten_veil, next_ready_veil, put_veil}
use Rattle.noninterference_laws.proofs.Veiling.VeilLemmas.{reserved_twice, veil}
use Rattle.noninterference_laws.proofs.Veiling.VerdictLemmas.{view_veil}

abbrev pub change_veil : Group → Change → Change
change_veil group change = record change { machine = veil group change.machine }

abbrev pub outcome_veil : Group → Outcome → Outcome
outcome_veil group outcome = outcome_mapped (veil group) outcome

abbrev pub told_veil : Group → Told → Told
told_veil group told = record told { machine = veil group told.machine }

module _ (group : Group) where
  -- ---- effects

  -- a change of threads
  pub threads_veil : (m : Machine) (f : (ThreadId → Option Thread) → ThreadId → Option Thread)
      → hidden_threads group (f m.threads) ≡ hidden_threads group (f (hidden_threads group m.threads))
      → veil group (record m { threads = f m.threads }) ≡ veil group (record (veil group m) { threads = f (hidden_threads group m.threads) })
  threads_veil m f e = λ i. record m { threads = e i; reserved = reserved_twice group m.reserved i }

  pub turn_veil : (m : Machine) → veil group (turn m) ≡ veil group (turn (veil group m))
  unfolding turn
  turn_veil m = λ i. record (again group m i) { cursor = unwrap_or (sym (next_ready_veil group m m.cursor) i) m.cursor }

  effect_veil : (effect : Effect) (m : Machine) → veil group (apply effect m) ≡ veil group (apply effect (veil group m))
  unfolding closed any_server senders_queued_gone senders_held_gone forgotten
  effect_veil (Pages step) m = again group (apply (Pages step) m)
  effect_veil (HasHeap n) m = again group (apply (HasHeap n) m)
  effect_veil (Starts who thread) m =
      threads_veil m (λ threads. put_at same_thread threads who (Some thread)) (put_veil group m.threads who (Some thread))
  effect_veil (Waits who state) m =
      threads_veil m (λ threads. put_at same_thread threads who (option_map (with_state state) (threads who)))
      (changed_veil group (with_state state) (λ t. refl) m.threads who)
  effect_veil (Awaits true number) m =
      threads_veil m (λ threads. put_at same_thread threads m.cursor (option_map (with_state (Waiting number)) (threads m.cursor)))
      (changed_veil group (with_state (Waiting number)) (λ t. refl) m.threads m.cursor)
  effect_veil (Awaits false number) m = again group m
  effect_veil EndsTurn m = turn_veil m
  effect_veil (Founds server) m = again group (apply (Founds server) m)
  effect_veil (Connects serial) m = again group (apply (Connects serial) m)
  effect_veil TakesNumber m = again group (apply TakesNumber m)
  effect_veil (Serves serial step) m = again group (apply (Serves serial step) m)
  effect_veil (ClosesServers which) m = again group (apply (ClosesServers which) m)
  effect_veil (Unqueues pid) m = again group (apply (Unqueues pid) m)
  effect_veil (Orphans pid) m = again group (apply (Orphans pid) m)
  effect_veil (Forgets pid) m = λ i. record (apply (Forgets pid) m) {
    threads = forgotten_veil group pid m.threads i;
    reserved = reserved_twice group m.reserved i;
  }
  effect_veil (Claims k claim) m = again group (apply (Claims k claim) m)
  effect_veil (Frees k) m = again group (apply (Frees k) m)

  -- ---- calls

  -- machines are alike that are the same once the group is hidden
  abbrev Alike : Machine → Machine → Type 0
  Alike m n = veil group m ≡ veil group n

  effect_alike : (effect : Effect) (m n : Machine) → Alike m n → Alike (apply effect m) (apply effect n)
  effect_alike effect m n e =
      effect_veil effect m ∙ (ap (λ x. veil group (apply effect x)) e ∙ sym (effect_veil effect n))

  view_alike : (m n : Machine) → Alike m n → call_view m ≡ call_view n
  view_alike m n e = view_veil group m ∙ (ap call_view e ∙ sym (view_veil group n))

  veiled_alike : (m : Machine) (w : List ℕ) → OutcomesAlike Alike (call m w) (call (veil group m) w)
  veiled_alike m w = call_alike Alike effect_alike view_alike m (veil group m) w (again group m)

  pub call_veil : (m : Machine) (w : List ℕ) → outcome_veil group (call m w) ≡ outcome_veil group (call (veil group m) w)
  call_veil m w = mapped_alike (veil group) (call m w) (call (veil group m) w) (veiled_alike m w)

  -- ---- settled

  pub settled_veil : (change : Change) → told_veil group (settled change) ≡ told_veil group (settled (change_veil group change))
  unfolding settled
  settled_veil change = λ i. record (settled change) {
    machine = record (settled change).machine {
      threads = answered_veil group change.answers change.machine.threads i;
      reserved = reserved_twice group change.machine.reserved i;
    };
  }

  -- what is settled is the same where the changes are
  pub settled_alike : (change other : Change) → change_veil group change ≡ change_veil group other
      → told_veil group (settled change) ≡ told_veil group (settled other)
  settled_alike change other e =
      settled_veil change ∙ (ap (λ x. told_veil group (settled x)) e ∙ sym (settled_veil other))

  served_alike : (m n : Machine) (change other : Change) → m.cursor ≡ n.cursor → change_veil group change ≡ change_veil group other
      → told_veil group (call_settled m (Served change)) ≡ told_veil group (call_settled n (Served other))
  unfolding call_settled
  served_alike m n change other c e =
      settled_alike (past m.cursor change) (past n.cursor other)
      (past_veil m.cursor change ∙ ((λ i. change_veil group (past (c i) (e i))) ∙ sym (past_veil n.cursor other)))
    where
      past : ThreadId → Change → Change
      past who x = record x { machine = record x.machine { threads = put_at same_thread x.machine.threads who (option_map passed (x.machine.threads who)) } }

      past_veil : (who : ThreadId) (x : Change) → change_veil group (past who x) ≡ change_veil group (past who (change_veil group x))
      past_veil who x = λ i. record x {
        machine = record x.machine {
          threads = changed_veil group passed (λ t. refl) x.machine.threads who i;
          reserved = reserved_twice group x.machine.reserved i;
        };
      }

  refused_veil : (m : Machine) (error : XousError)
      → told_veil group (call_settled m (Refused error)) ≡ told_veil group (call_settled (veil group m) (Refused error))
  unfolding call_settled
  refused_veil m error = λ i. record (call_settled m (Refused error)) {
    machine = record m {
      threads = changed_veil group (with_refusal error) (λ t. refl) m.threads m.cursor i;
      reserved = reserved_twice group m.reserved i;
    };
  }

  outcome_settled : (m : Machine) (x y : Outcome) → OutcomesAlike Alike x y
      → told_veil group (call_settled m x) ≡ told_veil group (call_settled (veil group m) y)
  unfolding call_settled
  outcome_settled m _ _ (BothRefused error) = refused_veil m error
  outcome_settled m _ _ BothRetried = λ i. record { machine = turn_veil m i; told = (call_settled m Retried).told }
  outcome_settled m _ _ (BothServed a b answers gone e) =
      served_alike m (veil group m) (record { machine = a; answers = answers; delivery = None; gone = gone })
      (record { machine = b; answers = answers; delivery = None; gone = gone }) refl
      (ap (λ x. record { machine = x; answers = answers; delivery = None; gone = gone }) e)

  -- a call that is made and settled
  pub called_veil : (m : Machine) (w : List ℕ)
      → told_veil group (call_settled m (call m w)) ≡ told_veil group (call_settled (veil group m) (call (veil group m) w))
  called_veil m w = outcome_settled m (call m w) (call (veil group m) w) (veiled_alike m w)
