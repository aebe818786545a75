-- The calls that only ask: each is answered by words of the machine, and changes nothing else.
use Rattle.std.specs.Prelude.{ℕ, List, [], ◌∷◌}
use Rattle.syscall_codec.specs.CallNumbers.{get_thread_id, get_process_id}
use Rattle.syscall_codec.specs.ReplyWords.{scalar1_words, thread_words}
use Rattle.machine_model.specs.State.Changes.{Call, Served, answering}
use Rattle.machine_model.specs.State.Machine.{Machine}
use Rattle.machine_model.specs.State.Threads.{answer_to}

-- the words that its caller is answered
abbrev pub Question : Type 0
Question = Machine → List ℕ

-- GetThreadId, and GetProcessId
abbrev pub questions : List (ℕ × Question)
questions =
    (get_thread_id, λ m. thread_words m.cursor.tid.0)
    ∷ (get_process_id, λ m. scalar1_words m.cursor.pid.0)
    ∷ []

unfoldable pub asked : Question → Call
asked question m w = Served (answering (answer_to m.cursor (question m)) m)

-- in a table: a row for each of these, and others after them
abbrev pub with_questions : {A : Type 0} → (Question → A) → List (ℕ × Question) → List (ℕ × A) → List (ℕ × A)
with_questions row_for [] others = others
with_questions row_for (question ∷ more) others = (question.0, row_for question.1) ∷ with_questions row_for more others
