-- Rows line after line, and the line of a call whose outcome is known otherwise than by evaluation.
use Rattle.std.proofs.Common.{◌≡◌, ℕ, ◌+◌, Bool, true, false, List, [], ◌∷◌, ◌++◌, append_assoc, Option, Some, None, refl, sym, ap, ◌∙◌}
use Rattle.std.specs.Prelude.{map, if◌then◌else◌}
use Rattle.std.specs.Option.{option_and_then}
use Rattle.std.proofs.lemmas.Option.{none-some, same_Some}
use Rattle.xk_base.specs.declared.ids.ThreadId.{ThreadId}
use Rattle.xk_base.specs.declared.records.What.{What}
use Rattle.xk_base.specs.declared.records.What.TheVariants.{Call, End}
use Rattle.xk_base.specs.Calls.Registers.{reg_at}
use Rattle.syscall_codec.specs.ReplyWords.{eight_words}
use Rattle.machine_model.specs.Calling.Calls.{call}
use Rattle.machine_model.specs.Ending.Ends.{thread_ended, handler_ended}
use Rattle.machine_model.specs.Hart.Instructions.{Executed, Next, Stores, StoresToConsole, StoresToTimer, CallsKernel, Traps}
use Rattle.machine_model.specs.State.Changes.{Outcome, Told, settled, call_settled}
use Rattle.machine_model.specs.State.Machine.{Machine, Thread}
use Rattle.machine_model.specs.State.Order.{actor}
use Rattle.machine_model.specs.Stepping.Acts.{call_by, executes, words_if_call}
use Rattle.machine_model.specs.Stepping.Step.{Recorded, after, counted, acted_if_there, executed, performed, record_of, ends_thread, ends_handler, step, step_by, step_by_if}
use Rattle.machine_model.specs.Stepping.Timer.{timed}
use Rattle.machine_model.specs.Worked.Rows.{what_of}
use Rattle.worked_examples.specs.Playing.{Line, calls, call_address, standing, played, told_by, left_by, expected, IsToldAs}

-- ---- rows one after another

told-append : (a b : List Line) (m : Machine) → told_by (a ++ b) m ≡ told_by a m ++ told_by b (left_by a m)
unfolding told_by left_by
told-append [] b m = refl
told-append (line ∷ a) b m =
    let here : List What = map what_of (played line.act m).records in
    let next : Machine = (played line.act m).machine in
    ap (λ r. here ++ r) (told-append a b next) ∙ sym (append_assoc here (told_by a next) (told_by b (left_by a next)))

expected-append : (a b : List Line) → expected (a ++ b) ≡ expected a ++ expected b
unfolding expected
expected-append [] b = refl
expected-append (line ∷ a) b =
    ap (λ r. line.told ++ r) (expected-append a b) ∙ sym (append_assoc line.told (expected a) (expected b))

-- a row is told as its lines say where its two parts are, the second from what the first leaves
pub told_on : (a b : List Line) (m next : Machine) → IsToldAs a m → left_by a m ≡ next → IsToldAs b next → IsToldAs (a ++ b) m
told_on a b m next first left second =
    told-append a b m
    ∙ (ap (λ x. told_by a m ++ told_by b x) left
    ∙ (ap (λ t. t ++ told_by b next) first ∙ (ap (λ t. expected a ++ t) second ∙ sym (expected-append a b))))

left-append : (a b : List Line) (m : Machine) → left_by (a ++ b) m ≡ left_by b (left_by a m)
unfolding left_by
left-append [] b m = refl
left-append (line ∷ a) b m = left-append a b (played line.act m).machine

-- .. and what it leaves is what its second part does
pub left_on : (a b : List Line) (m next : Machine) → left_by a m ≡ next → left_by (a ++ b) m ≡ left_by b next
left_on a b m next left = left-append a b m ∙ ap (left_by b) left

-- ---- a call

-- the step of the cursor's thread whose call has this outcome
unfoldable pub call_step : Machine → List ℕ → Outcome → Recorded
call_step m words outcome =
    let done = timed (counted m (m.threads m.cursor) (after (Call m.cursor words) (call_settled m outcome))) in
    record { machine = done.machine; records = map (record_of (m.steps + 1)) done.told }

-- by what comes of the fetch of a thread that doesn't end and ends no handler
by_fetch : (m : Machine) (thread : Thread) (words : List ℕ) (ended handled : Bool) (e : Executed)
    → option_and_then (words_if_call thread) (if ended then None else (if handled then None else Some e)) ≡ Some words
    → (if ended then after (End m.cursor) (settled (thread_ended m.cursor (reg_at thread.regs 10) m)) else (
    if handled then after (End m.cursor) (settled (handler_ended m.cursor.pid m)) else executed m thread e))
    ≡ after (Call m.cursor words) (call_settled m (call m words))
by_fetch m thread words true handled e h = absurd (none-some words h)
by_fetch m thread words false true e h = absurd (none-some words h)
by_fetch m thread words false false (Next regs pc) h = absurd (none-some words h)
by_fetch m thread words false false (Stores address width value regs pc) h = absurd (none-some words h)
by_fetch m thread words false false (StoresToConsole offset value regs pc) h = absurd (none-some words h)
by_fetch m thread words false false (StoresToTimer offset width value regs pc) h = absurd (none-some words h)
by_fetch m thread words false false (Traps cause value) h = absurd (none-some words h)
by_fetch m thread words false false CallsKernel h = ap (λ w. after (Call m.cursor w) (call_settled m (call m w))) (same_Some _ words h)

-- by the cursor's thread
by_thread : (m : Machine) (words : List ℕ) (o : Option Thread)
    → option_and_then (λ thread. option_and_then (words_if_call thread) (executes m m.cursor thread)) o ≡ Some words
    → acted_if_there m o ≡ after (Call m.cursor words) (call_settled m (call m words))
by_thread m words None h = absurd (none-some words h)
by_thread m words (Some thread) h =
    by_fetch m thread words (ends_thread m.cursor thread.pc) (ends_handler m.cursor thread.pc) (performed m m.cursor thread).executed h

-- the step of a Ready thread of the cursor that makes a call with this outcome
pub step_calls : (m : Machine) (words : List ℕ) (outcome : Outcome) → actor m ≡ Some m.cursor → call_by m m.cursor ≡ Some words
    → call m words ≡ outcome → step m ≡ call_step m words outcome
unfolding step step_by call_by call_step
step_calls m words outcome turn makes comes =
    ap (λ o. step_by_if o m) turn
    ∙ (ap (λ told. let done : Told = timed (counted m (m.threads m.cursor) told) in
    record { machine = done.machine; records = map (record_of (m.steps + 1)) done.told })
    (by_thread m words (m.threads m.cursor) makes)
    ∙ ap (λ o. call_step m words o) comes)

-- the one line of a call
pub line_left : (who : ThreadId) (words : List ℕ) (told : List What) (m : Machine) (outcome : Outcome)
    → step (standing who call_address words m) ≡ call_step (standing who call_address words m) (eight_words words) outcome
    → left_by (calls who words told ∷ []) m ≡ (call_step (standing who call_address words m) (eight_words words) outcome).machine
unfolding left_by
line_left who words told m outcome e = ap (λ (s : Recorded). s.machine) e

pub line_told : (who : ThreadId) (words : List ℕ) (told : List What) (m : Machine) (outcome : Outcome)
    → step (standing who call_address words m) ≡ call_step (standing who call_address words m) (eight_words words) outcome
    → map what_of (call_step (standing who call_address words m) (eight_words words) outcome).records ≡ Call who (eight_words words) ∷ told
    → IsToldAs (calls who words told ∷ []) m
unfolding told_by expected
line_told who words told m outcome e tells = ap (λ (s : Recorded). map what_of s.records ++ []) e ∙ ap (λ t. t ++ []) tells
