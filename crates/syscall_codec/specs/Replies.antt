-- The words of each reply.
use Rattle.std.specs.Prelude.{ℕ, List}
use Rattle.syscall_codec.specs.ReplyWords.{plain_words, refused_words, range_words, connection_words, new_server_words, message_words}
use Rattle.syscall_codec.specs.ReplyWords.{thread_words, scalar1_words, scalar2_words, returned_words}
use Rattle.syscall_codec.specs.declared.replies.Reply.{Reply}
use Rattle.syscall_codec.specs.declared.replies.Reply.TheVariants.{Plain, Refused, Range, Connection, NewServer, Got, Thread, Scalar1}
use Rattle.syscall_codec.specs.declared.replies.Reply.TheVariants.{Scalar2, Returned}

-- the eight words by which a reply is told
abbrev pub words_of : Reply → List ℕ
words_of Plain = plain_words
words_of (Refused error) = refused_words error
words_of (Range address size) = range_words address size
words_of (Connection cid) = connection_words cid.0
words_of (NewServer sid cid) = new_server_words sid cid.0
words_of (Got message) = message_words message
words_of (Thread tid) = thread_words tid.0
words_of (Scalar1 value) = scalar1_words value
words_of (Scalar2 value1 value2) = scalar2_words value1 value2
words_of (Returned offset valid) = returned_words offset valid
