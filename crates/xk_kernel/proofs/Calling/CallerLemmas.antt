-- A call whose caller is answered once it is served leaves the caller there.
use Rattle.std.proofs.Common.{◌≡◌, ℕ, Bool, true, false, List, [], ◌∷◌, Option, Some, None, refl, sym, subst}
use Rattle.std.specs.Prelude.{is_some, if◌then◌else◌}
use Rattle.std.specs.Bool.{⊤}
use Rattle.std.specs.Option.{option_map}
use Rattle.machine_model.specs.Calling.Calls.{any_refusals, call, call_at, call_table, unhandled_call}
use Rattle.machine_model.specs.Calling.Questions.{Question, asked, questions}
use Rattle.machine_model.specs.Messaging.ForwardCalls.{forward_call}
use Rattle.machine_model.proofs.Calling.TableLemmas.{OfRows, of_questions, of_row, ◌also◌}
use Rattle.machine_model.specs.Calling.InterruptCalls.{claim_call, claim_refusals, claim_served, free_call, free_refusals, free_served}
use Rattle.machine_model.specs.State.Changes.{Call, Change, Outcome, Refused, Retried, Served, first_refusal, refused_or, unless_refused, unless_retried}
use Rattle.machine_model.specs.State.Machine.{Joining, Machine, Thread}
use Rattle.machine_model.specs.Calling.MemoryCalls.{decrease_call, decrease_refusals, decrease_served, increase_call, increase_refusals, increase_served, map_call, map_refusals, map_served, unmap_call, unmap_refusals, unmap_served, update_call, update_refusals, update_served}
use Rattle.machine_model.specs.Calling.ServerCalls.{connect_call, connect_refusals, connect_served, create_server_call, create_server_refusals, create_server_served, is_missing, named_sid, try_connect_call}
use Rattle.machine_model.specs.State.Order.{turn}
use Rattle.machine_model.specs.Calling.ThreadCalls.{create_call, create_refusals, create_served, join_call, join_refusals, join_served, yield_call}
use Rattle.machine_model.specs.State.Threads.{with_state}
use Rattle.xk_base.specs.Tables.Circle.{same_thread}
use Rattle.syscall_codec.specs.CallNumbers.{forward_message}
use Rattle.syscall_codec.specs.CallWords.{call_number, heap_bytes, interrupt_argument, interrupt_handler, interrupt_number, join_tid}
use Rattle.syscall_codec.specs.CallWords.{map_flags, map_phys, map_size, map_virt, range_address, range_flags, range_size, thread_arguments}
use Rattle.syscall_codec.specs.CallWords.{thread_entry, thread_sp}
use Rattle.xk_base.specs.declared.errors.XousError.{XousError}
use Rattle.xk_base.specs.declared.errors.XousError.TheVariants.{ServerNotFound}
use Rattle.xk_kernel.specs.Calling.{is_plain_call, is_plain_number}

-- what comes of the call leaves its caller
abbrev LeavesCaller : Machine → Outcome → Type 0
LeavesCaller m (Refused error) = ⊤
LeavesCaller m Retried = ⊤
LeavesCaller m (Served change) = is_some (change.machine.threads m.cursor) ≡ true

module _ (m : Machine) (w : List ℕ) (there : is_some (m.threads m.cursor) ≡ true) where
  either : (refusals : List (Bool × XousError)) (outcome : Outcome) → LeavesCaller m outcome → LeavesCaller m (unless_refused refusals outcome)
  either refusals outcome leaves = go (first_refusal refusals)
    where
      go : (o : Option XousError) → LeavesCaller m (refused_or o outcome)
      go None = leaves
      go (Some error) = tt

  map_leaves : LeavesCaller m (map_call m w)
  unfolding map_call
  map_leaves =
      either (map_refusals m (map_phys w) (map_virt w) (map_size w) (map_flags w))
      (Served (map_served m (map_phys w) (map_virt w) (map_size w) (map_flags w))) there

  unmap_leaves : LeavesCaller m (unmap_call m w)
  unfolding unmap_call
  unmap_leaves = either (unmap_refusals m (range_address w) (range_size w)) (Served (unmap_served m (range_address w) (range_size w))) there

  update_leaves : LeavesCaller m (update_call m w)
  unfolding update_call
  update_leaves =
      either (update_refusals m (range_address w) (range_size w) (range_flags w))
      (Served (update_served m (range_address w) (range_size w) (range_flags w))) there

  increase_leaves : LeavesCaller m (increase_call m w)
  unfolding increase_call
  increase_leaves = either (increase_refusals m (heap_bytes w)) (Served (increase_served m (heap_bytes w))) there

  decrease_leaves : LeavesCaller m (decrease_call m w)
  unfolding decrease_call
  decrease_leaves = either (decrease_refusals m (heap_bytes w)) (Served (decrease_served m (heap_bytes w))) there

  -- the caller's thread is as before or another that is there
  put_there : (b : Bool) (t : Option Thread) → is_some t ≡ true → is_some (if b then t else m.threads m.cursor) ≡ true
  put_there true t e = e
  put_there false t e = there

  changed_there : (change : Thread → Thread) (o : Option Thread) → is_some o ≡ true → is_some (option_map change o) ≡ true
  changed_there change None e = e
  changed_there change (Some t) e = refl

  create_leaves : LeavesCaller m (create_call m w)
  unfolding create_call
  create_leaves =
      either (create_refusals m (thread_entry w)) (Served (create_served m (thread_entry w) (thread_sp w) (thread_arguments w)))
      (put_there (same_thread m.cursor _) _ refl)

  join_leaves : LeavesCaller m (join_call m w)
  unfolding join_call
  join_leaves =
      either (join_refusals m (join_tid w)) (Served (join_served m (join_tid w)))
      (put_there (same_thread m.cursor m.cursor) _ (changed_there (with_state (Joining (record { 0 = join_tid w }))) (m.threads m.cursor) there))

  yield_leaves : LeavesCaller m (yield_call m w)
  unfolding yield_call turn
  yield_leaves = there

  question_leaves : (question : Question) → LeavesCaller m (asked question m w)
  unfolding asked
  question_leaves question = there

  claim_leaves : LeavesCaller m (claim_call m w)
  unfolding claim_call
  claim_leaves =
      either (claim_refusals m (interrupt_number w) (interrupt_handler w))
      (Served (claim_served m (interrupt_number w) (interrupt_handler w) (interrupt_argument w))) there

  free_leaves : LeavesCaller m (free_call m w)
  unfolding free_call
  free_leaves = either (free_refusals m (interrupt_number w)) (Served (free_served m (interrupt_number w))) there

  create_server_leaves : LeavesCaller m (create_server_call m w)
  unfolding create_server_call
  create_server_leaves = either (create_server_refusals m (named_sid w)) (Served (create_server_served m (named_sid w))) there

  -- a retry leaves it too
  perhaps_retried : (b : Bool) (outcome : Outcome) → LeavesCaller m outcome → LeavesCaller m (unless_retried b outcome)
  perhaps_retried true outcome leaves = tt
  perhaps_retried false outcome leaves = leaves

  connect_leaves : LeavesCaller m (connect_call m w)
  unfolding connect_call
  connect_leaves =
      perhaps_retried (is_missing m (named_sid w)) (unless_refused (connect_refusals m (named_sid w)) (Served (connect_served m (named_sid w))))
      (either (connect_refusals m (named_sid w)) (Served (connect_served m (named_sid w))) there)

  try_connect_leaves : LeavesCaller m (try_connect_call m w)
  unfolding try_connect_call
  try_connect_leaves =
      either ((is_missing m (named_sid w), ServerNotFound) ∷ connect_refusals m (named_sid w)) (Served (connect_served m (named_sid w))) there

  abbrev RowLeaves : ℕ → Call → Type 0
  RowLeaves k served = LeavesCaller m (served m w)

  plain_rows_leave : OfRows is_plain_number RowLeaves call_table
  plain_rows_leave =
      map_leaves
      also yield_leaves
      also claim_leaves
      also free_leaves
      also increase_leaves
      also decrease_leaves
      also update_leaves
      also create_server_leaves
      also connect_leaves
      also create_leaves
      also unmap_leaves
      also try_connect_leaves
      also join_leaves
      also of_questions is_plain_number RowLeaves asked (λ k question. question_leaves question) questions ((forward_message, forward_call) ∷ []) tt

  plain_leaves : is_plain_call w ≡ true → LeavesCaller m (call m w)
  unfolding call
  plain_leaves plain =
      either (any_refusals m w) (call_at (call_number w) call_table m w)
      (of_row is_plain_number RowLeaves (call_number w) plain unhandled_call tt call_table plain_rows_leave)

  -- a served caller is there
  pub served_there : (change : Change) → is_plain_call w ≡ true → Served change ≡ call m w → is_some (change.machine.threads m.cursor) ≡ true
  served_there change plain e = subst (LeavesCaller m) (sym e) (plain_leaves plain)
