-- The words of replies. A reply is eight words, in a0 to a7; those that are not named are 0.
use Rattle.std.specs.Prelude.{ℕ, List, [], ◌∷◌, ◌++◌, take, replicate}
use Rattle.xk_base.specs.declared.errors.XousError.{XousError}
use Rattle.xk_base.specs.declared.ids.Sid.{Sid}
use Rattle.xk_base.specs.declared.messages.Message.{Message}
use Rattle.syscall_codec.specs.CallNumbers.{reply_ok, reply_error, reply_memory_range, reply_connection_id, reply_message, reply_thread_id}
use Rattle.syscall_codec.specs.CallNumbers.{reply_scalar1, reply_scalar2, reply_memory_returned, reply_new_server}
use Rattle.xk_base.specs.Calls.Errors.{code_of}
use Rattle.xk_base.specs.Calls.Kinds.{kind_number}

-- the words that are named, and zeros after them
abbrev pub eight_words : List ℕ → List ℕ
eight_words named = take 8 (named ++ replicate 8 0)

-- the call was served
abbrev pub plain_words : List ℕ
plain_words = eight_words (reply_ok ∷ [])

-- the call was refused
abbrev pub refused_words : XousError → List ℕ
refused_words error = eight_words (reply_error ∷ code_of error ∷ [])

-- an address and a size in bytes
abbrev pub range_words : ℕ → ℕ → List ℕ
range_words address size = eight_words (reply_memory_range ∷ address ∷ size ∷ [])

-- a connection number
abbrev pub connection_words : ℕ → List ℕ
connection_words cid = eight_words (reply_connection_id ∷ cid ∷ [])

-- the identifier of a new server and the caller's connection to it
abbrev pub new_server_words : Sid → ℕ → List ℕ
new_server_words sid cid = eight_words ((reply_new_server ∷ sid.0) ++ cid ∷ [])

-- a message as its server gets it: token, kind, the sender's id, and four words, which fill the reply
abbrev pub message_words : Message → List ℕ
message_words message = reply_message ∷ message.number.0 ∷ kind_number message.kind ∷ message.id ∷ message.words

-- a thread number
abbrev pub thread_words : ℕ → List ℕ
thread_words tid = eight_words (reply_thread_id ∷ tid ∷ [])

-- one value
abbrev pub scalar1_words : ℕ → List ℕ
scalar1_words value = eight_words (reply_scalar1 ∷ value ∷ [])

-- two values
abbrev pub scalar2_words : ℕ → ℕ → List ℕ
scalar2_words value1 value2 = eight_words (reply_scalar2 ∷ value1 ∷ value2 ∷ [])

-- a lend has ended: offset and valid, as the server left them
abbrev pub returned_words : ℕ → ℕ → List ℕ
returned_words offset valid = eight_words (reply_memory_returned ∷ offset ∷ valid ∷ [])
