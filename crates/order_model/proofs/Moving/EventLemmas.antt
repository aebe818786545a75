-- An interrupt and a kill do the same from a state with another cursor and another count of steps.
use Rattle.std.proofs.Common.{◌≡◌, ℕ, Bool, true, false, List, [], ◌∷◌, ◌++◌, map, Option, Some, None, refl, sym, ap, ◌∙◌}
use Rattle.std.specs.List.{flat_map}
use Rattle.std.specs.Prelude.{nat_eq, if◌then◌else◌}
use Rattle.xk_base.specs.declared.ids.Pid.{Pid}
use Rattle.xk_base.specs.declared.ids.ThreadId.{ThreadId}
use Rattle.xk_base.specs.declared.records.Rec.{Rec}
use Rattle.xk_base.specs.declared.records.What.{What}
use Rattle.xk_base.specs.Tables.Counting.{put_at}
use Rattle.machine_model.specs.Ending.Closing.{any_server, closed, senders_held_gone, senders_queued_gone, servers_closed}
use Rattle.machine_model.specs.Ending.Ends.{death, forgotten}
use Rattle.machine_model.specs.State.Changes.{settled}
use Rattle.machine_model.specs.State.Machine.{Claim, Machine}
use Rattle.machine_model.specs.Stepping.Events.{at_event, killed, killed_if, raised, raised_if}
use Rattle.machine_model.specs.Stepping.Interrupts.{delivered, delivered_lowest, handler_started, is_free_for_interrupt, lowest_pending, with_handler_next}
use Rattle.machine_model.specs.Stepping.Reservations.{unreserved}
use Rattle.machine_model.specs.Stepping.Step.{Recorded, record_of}
use Rattle.order_model.specs.Counts.{numbered}
use Rattle.order_model.specs.Exits.{end_of_what, kept_ends}
use Rattle.order_model.specs.Moves.{byte_of_what, bytes_of}

-- ---- what happened, without the numbers of steps

abbrev whats_of : List Rec → List What
whats_of records = map (λ told. told.what) records

pub whats_numbered : (n : ℕ) (records : List Rec) → whats_of (map (numbered n) records) ≡ whats_of records
whats_numbered n [] = refl
whats_numbered n (told ∷ records) = ap (λ rest. told.what ∷ rest) (whats_numbered n records)

whats_at : (n k : ℕ) (told : List What) → whats_of (map (record_of n) told) ≡ whats_of (map (record_of k) told)
whats_at n k [] = refl
whats_at n k (what ∷ told) = ap (λ rest. what ∷ rest) (whats_at n k told)

by_whats : {A : Type 0} (f : What → List A) (records : List Rec) → flat_map (λ told. f told.what) records ≡ flat_map f (whats_of records)
by_whats f [] = refl
by_whats f (told ∷ records) = ap (λ rest. f told.what ++ rest) (by_whats f records)

pub same_bytes : (xs ys : List Rec) → whats_of xs ≡ whats_of ys → bytes_of xs ≡ bytes_of ys
same_bytes xs ys same = by_whats byte_of_what xs ∙ (ap (flat_map byte_of_what) same ∙ sym (by_whats byte_of_what ys))

pub same_ends : (keeps : Bool) (xs ys : List Rec) → whats_of xs ≡ whats_of ys → kept_ends keeps xs ≡ kept_ends keeps ys
same_ends true xs ys same = by_whats end_of_what xs ∙ (ap (flat_map end_of_what) same ∙ sym (by_whats end_of_what ys))
same_ends false xs ys same = refl

-- ---- what was done is the same but for the cursor, the count of steps, and numbers in records

pub record IsAside (steps : ℕ) (x y : Recorded) : Type 0 where
  pub machine : x.machine ≡ record y.machine { cursor = x.machine.cursor; steps = steps }
  pub whats : whats_of x.records ≡ whats_of y.records

module _ (cursor : ThreadId) (steps : ℕ) where
  abbrev pub aside : Machine → Machine
  aside m = record m { cursor = cursor; steps = steps }

  -- ---- kills

  kill_aside : (alive : Bool) (pid : Pid) (m : Machine) → IsAside steps (killed_if alive pid (unreserved (aside m))) (killed_if alive pid (unreserved m))
  unfolding settled death servers_closed closed any_server senders_queued_gone senders_held_gone forgotten
  kill_aside false pid m = record { machine = refl; whats = refl }
  kill_aside true pid m = record { machine = refl; whats = whats_at steps m.steps (settled (death pid (unreserved m))).told }

  pub killed_aside : (pid : Pid) (m : Machine) → IsAside steps (killed pid (aside m)) (killed pid m)
  unfolding killed
  killed_aside pid m = kill_aside (m.process pid.0).alive pid m

  -- ---- interrupts

  module _ (m : Machine) (pending : ℕ → Bool) (pid : Pid) where
    abbrev pend : Machine → Machine
    pend x = record (unreserved x) { pending = pending }

    handler_aside : (k : ℕ) (o : Option Claim)
        → IsAside steps (at_event steps (settled (with_handler_next (handler_started (pend (aside m)) pid k o))))
        (at_event m.steps (settled (with_handler_next (handler_started (pend m) pid k o))))
    unfolding settled
    handler_aside k None = record { machine = refl; whats = whats_at steps m.steps (settled (with_handler_next (handler_started (pend m) pid k None))).told }
    handler_aside k (Some claim) =
        record { machine = refl; whats = whats_at steps m.steps (settled (with_handler_next (handler_started (pend m) pid k (Some claim)))).told }

    lowest_aside : (o : Option ℕ)
        → IsAside steps (at_event steps (settled (with_handler_next (delivered_lowest (pend (aside m)) pid o))))
        (at_event m.steps (settled (with_handler_next (delivered_lowest (pend m) pid o))))
    unfolding settled
    lowest_aside None = record { machine = refl; whats = whats_at steps m.steps (settled (with_handler_next (delivered_lowest (pend m) pid None))).told }
    lowest_aside (Some k) = handler_aside k (m.claims k)

    delivered_aside : IsAside steps (at_event steps (settled (with_handler_next (delivered pid (pend (aside m))))))
        (at_event m.steps (settled (with_handler_next (delivered pid (pend m)))))
    unfolding delivered lowest_pending
    delivered_aside = lowest_aside (if is_free_for_interrupt (pend m) pid then lowest_pending (pend m) pid else None)

  irq_aside : (k : ℕ) (o : Option Claim) (m : Machine) → IsAside steps (raised_if k o (unreserved (aside m))) (raised_if k o (unreserved m))
  irq_aside k None m = record { machine = refl; whats = refl }
  irq_aside k (Some claim) m = delivered_aside m (put_at nat_eq m.pending k true) claim.pid

  pub raised_aside : (k : ℕ) (m : Machine) → IsAside steps (raised k (aside m)) (raised k m)
  unfolding raised
  raised_aside k m = irq_aside k (m.claims k) m
