-- What a server gives back, as a row of the call table.
use Rattle.machine_model.specs.State.Changes.{Outcome}
use Rattle.machine_model.specs.State.Machine.{Machine}
use Rattle.syscall_codec.specs.Replies.{words_of}
use Rattle.send_path.specs.Rows.{memory_row, scalar_row}
use Rattle.send_path.specs.declared.returning.GivenBack.{GivenBack}
use Rattle.send_path.specs.declared.returning.GivenBack.TheVariants.{Pages, Values}

-- pages are given back by their range, and the answer to a blocking scalar by the words for its sender
abbrev pub given_row : GivenBack → Machine → Outcome
given_row (Pages r) = memory_row r.number r.address r.size r.offset r.valid
given_row (Values number reply) = scalar_row number (words_of reply)
