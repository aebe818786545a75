-- The transcript: one line for each record, and a last line.
use Rattle.std.specs.Prelude.{ℕ, List, ◌++◌, codes, decimal}
use Rattle.std.specs.List.{flat_map}
use Rattle.xk_base.specs.declared.ids.ThreadId.{ThreadId}
use Rattle.xk_base.specs.declared.records.Rec.{Rec}
use Rattle.xk_base.specs.declared.records.What.{What}
use Rattle.xk_base.specs.declared.records.What.TheVariants.{Call, Reply, Retry, Byte, Fault, End, Irq, Gone}
use Rattle.trace_text.specs.declared.lines.EndWord.{EndWord}
use Rattle.trace_text.specs.declared.lines.EndWord.TheVariants.{Done, Limit}
use Rattle.trace_text.specs.Words.{byte_text, word_text, words_text}

-- a thread: its process and its number there, as in `2.2`
abbrev pub thread_text : ThreadId → List ℕ
thread_text t = decimal t.pid.0 ++ codes "." ++ decimal t.tid.0

-- what happened. An interrupt is delivered to thread 1 of its process; a death has no thread
abbrev pub what_text : What → List ℕ
what_text (Call t words) = thread_text t ++ codes " call" ++ words_text words
what_text (Reply t words) = thread_text t ++ codes " reply" ++ words_text words
what_text (Retry t) = thread_text t ++ codes " retry"
what_text (Byte t byte) = thread_text t ++ codes " byte " ++ byte_text byte
what_text (Fault t cause value) = thread_text t ++ codes " fault " ++ decimal cause ++ codes " " ++ word_text value
what_text (End t) = thread_text t ++ codes " end"
what_text (Irq pid number) = decimal pid.0 ++ codes ".1 irq " ++ decimal number
what_text (Gone pid) = decimal pid.0 ++ codes " gone"

-- the line of a record: the step in decimal, a space, what happened, and a line feed
unfoldable pub line_of : Rec → List ℕ
line_of rec = decimal rec.step ++ codes " " ++ what_text rec.what ++ codes "\n"

-- the lines of records, one after another
abbrev pub text_of : List Rec → List ℕ
text_of records = flat_map line_of records

-- why a run stopped
abbrev pub end_word_text : EndWord → List ℕ
end_word_text Done = codes "done"
end_word_text Limit = codes "limit"

-- the last line: `end`, the steps that were done, and why the run stopped
unfoldable pub end_line_of : ℕ → EndWord → List ℕ
end_line_of steps why = codes "end " ++ decimal steps ++ codes " " ++ end_word_text why ++ codes "\n"
