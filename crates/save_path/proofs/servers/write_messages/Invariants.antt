use Rattle.save_path.proofs.MessageLemmas.{HasAppended}
use Rattle.save_path.proofs.servers.write_messages.Given as goal

-- the messages before those that are left were appended, and each of them fits
abbrev pub invariant-loop-message : goal.invariant-loop-message
invariant-loop-message l = HasAppended l.fn.messages l.message-iterator l.fn.sheet l.sheet
