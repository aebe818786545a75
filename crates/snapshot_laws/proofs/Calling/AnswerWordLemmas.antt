-- Replies are eight words, and answered threads have words.
use Rattle.std.proofs.Common.{◌≡◌, ℕ, ◌+◌, ◌<◌, ◌≤◌, Bool, List, [], ◌∷◌, length, suc, Option, Some, None, refl, ap, arith}
use Rattle.std.specs.Prelude.{◌==◌, replicate, unwrap_or}
use Rattle.std.specs.List.{AllByRecursion, position}
use Rattle.std.specs.Option.{option_map, option_or}
use Rattle.std.proofs.lemmas.List.Elements.{All-cons}
use Rattle.std.proofs.lemmas.List.Quantifiers.{position-Some}
use Rattle.xk_base.specs.declared.errors.XousError.{XousError}
use Rattle.xk_base.specs.declared.errors.XousError.TheVariants.{BadAlignment, BadAddress, OutOfMemory, MemoryInUse, InterruptNotFound, InterruptInUse, ServerExists, ServerNotFound, ServerQueueFull, ThreadNotAvailable, UnhandledSyscall, InvalidSyscall, ShareViolation, InvalidThread, AccessDenied, DoubleFree, InvalidLimit}
use Rattle.xk_base.specs.declared.ids.Serial.{Serial}
use Rattle.xk_base.specs.declared.ids.ThreadId.{ThreadId}
use Rattle.xk_base.specs.declared.messages.Message.{Message}
use Rattle.xk_base.specs.declared.messages.MsgKind.{MsgKind}
use Rattle.xk_base.specs.declared.messages.MsgKind.TheVariants.{LendMut, Lend, Move, Scalar, BlockingScalar}
use Rattle.syscall_codec.specs.CallNumbers.{reply_error, reply_message, reply_ok}
use Rattle.xk_base.specs.Calls.Errors.{code_of}
use Rattle.xk_base.specs.Calls.Kinds.{kind_number}
use Rattle.xk_base.specs.Calls.Registers.{with_reg}
use Rattle.syscall_codec.specs.ReplyWords.{eight_words, message_words, plain_words, refused_words}
use Rattle.xk_base.specs.Tables.Circle.{same_thread}
use Rattle.xk_base.specs.Tables.Connections.{cid_for}
use Rattle.machine_model.specs.Ending.Closing.{refused_server}
use Rattle.machine_model.specs.State.Changes.{Change, settled}
use Rattle.machine_model.specs.State.Machine.{Machine, Thread}
use Rattle.machine_model.specs.State.Threads.{Answers, answer_to, both_answers, fresh_registers, give_answers, no_answers, with_answer}
use Rattle.snapshot_laws.specs.Words.{AreRegisters, IsMachineOfWords, IsMessageOfWords, IsThreadOfWords, greatest}
use Rattle.snapshot_laws.proofs.Changing.EffectWordLemmas.{threads_are}
use Rattle.snapshot_laws.proofs.Changing.HoldingLemmas.{Holds, if_holds, map_holds, none_holds, some_holds}
use Rattle.snapshot_laws.proofs.Words.RegisterLemmas.{AreEightWords, eight_are, with_arguments_are, with_reg_are, zeros_are}

-- ---- replies

pub plain_are : AreEightWords plain_words
plain_are = eight_are (reply_ok ∷ []) (omega arith, tt)

code_fits : (error : XousError) → code_of error ≤ greatest
code_fits BadAlignment = omega arith
code_fits BadAddress = omega arith
code_fits OutOfMemory = omega arith
code_fits MemoryInUse = omega arith
code_fits InterruptNotFound = omega arith
code_fits InterruptInUse = omega arith
code_fits ServerExists = omega arith
code_fits ServerNotFound = omega arith
code_fits ServerQueueFull = omega arith
code_fits ThreadNotAvailable = omega arith
code_fits UnhandledSyscall = omega arith
code_fits InvalidSyscall = omega arith
code_fits ShareViolation = omega arith
code_fits InvalidThread = omega arith
code_fits AccessDenied = omega arith
code_fits DoubleFree = omega arith
code_fits InvalidLimit = omega arith

pub refused_are : (error : XousError) → AreEightWords (refused_words error)
refused_are error = eight_are (reply_error ∷ code_of error ∷ []) (omega arith, (code_fits error, tt))

kind_fits : (kind : MsgKind) → kind_number kind ≤ greatest
kind_fits LendMut = omega arith
kind_fits Lend = omega arith
kind_fits Move = omega arith
kind_fits Scalar = omega arith
kind_fits BlockingScalar = omega arith

pub message_are : (message : Message) → IsMessageOfWords message → AreEightWords (message_words message)
message_are message h =
    let four : length message.words ≡ 4 = h.words.four in
    record {
      eight = ap (λ n. suc (suc (suc (suc n)))) four;
      words = All-cons (λ x. x ≤ greatest) reply_message (message.number.0 ∷ kind_number message.kind ∷ message.id ∷ message.words) (omega arith)
          (All-cons (λ x. x ≤ greatest) message.number.0 (kind_number message.kind ∷ message.id ∷ message.words) h.number
          (All-cons (λ x. x ≤ greatest) (kind_number message.kind) (message.id ∷ message.words) (kind_fits message.kind)
          (All-cons (λ x. x ≤ greatest) message.id message.words h.id h.words.words)));
    }

-- the number of a connection
pub cid_fits : (serial : Serial) (connections : List Serial) → length connections ≤ 32 → cid_for serial connections ≤ greatest
cid_fits serial connections few = go (position (λ s. s.0 == serial.0) connections) refl
  where
    go : (o : Option ℕ) → position (λ s. s.0 == serial.0) connections ≡ o → unwrap_or (option_map (λ k. k + 2) o) (length connections + 2) ≤ greatest
    go None e = omega arith
    go (Some k) e = let within : k < length connections = (position-Some (λ (s : Serial). s.0 == serial.0) connections k serial e).0 in omega arith

-- registers at a beginning
pub fresh_are : (ra sp : ℕ) (arguments : List ℕ) → ra ≤ greatest → sp ≤ greatest → AllByRecursion (λ x. x ≤ greatest) arguments
    → AreRegisters (fresh_registers ra sp arguments)
fresh_are ra sp arguments f g each =
    with_arguments_are (eight_words arguments) (with_reg (with_reg (replicate 32 0) 1 ra) 2 sp) (eight_are arguments each)
    (with_reg_are (with_reg (replicate 32 0) 1 ra) 2 sp g (with_reg_are (replicate 32 0) 1 ra f zeros_are))

-- ---- answers

abbrev pub AreAnswersOfWords : Answers → Type 0
AreAnswersOfWords answers = (id : ThreadId) → Holds AreEightWords (answers id)

pub nobody_are : AreAnswersOfWords no_answers
nobody_are id = none_holds AreEightWords

pub answer_are : (who : ThreadId) (words : List ℕ) → AreEightWords words → AreAnswersOfWords (answer_to who words)
answer_are who words h id = if_holds AreEightWords (same_thread id who) (Some words) None (some_holds AreEightWords words h) (none_holds AreEightWords)

or_holds : (a b : Option (List ℕ)) → Holds AreEightWords a → Holds AreEightWords b → Holds AreEightWords (option_or a b)
or_holds None b f g = g
or_holds (Some words) b f g = f

pub both_are : (a b : Answers) → AreAnswersOfWords a → AreAnswersOfWords b → AreAnswersOfWords (both_answers a b)
both_are a b f g id = or_holds (a id) (b id) (f id) (g id)

pub server_refused_are : (test : ThreadId → Bool) → AreAnswersOfWords (refused_server test)
server_refused_are test id =
    if_holds AreEightWords (test id) (Some (refused_words ServerNotFound)) None
    (some_holds AreEightWords (refused_words ServerNotFound) (refused_are ServerNotFound)) (none_holds AreEightWords)

answered : (o : Option (List ℕ)) (t : Thread) → Holds AreEightWords o → IsThreadOfWords t → IsThreadOfWords (with_answer o t)
answered None t f h = h
answered (Some words) t f h = record { pc = h.pc; regs = with_arguments_are words t.regs (f words refl) h.regs }

pub given_keeps : (answers : Answers) (m : Machine) → AreAnswersOfWords answers → IsMachineOfWords m → IsMachineOfWords (give_answers answers m)
given_keeps answers m f h =
    threads_are m (λ id. option_map (with_answer (answers id)) (m.threads id)) h
    (λ id. map_holds IsThreadOfWords (with_answer (answers id)) (m.threads id) (λ t e. answered (answers id) t (f id) (h.threads id t e)))

pub settled_keeps : (change : Change) → AreAnswersOfWords change.answers → IsMachineOfWords change.machine → IsMachineOfWords (settled change).machine
unfolding settled
settled_keeps change f h = given_keeps change.answers change.machine f h
