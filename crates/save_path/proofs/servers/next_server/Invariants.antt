use Rattle.save_path.proofs.NextServerLemmas.{IsLeastSeated}
use Rattle.save_path.proofs.servers.next_server.Given as goal

-- the least of the seats so far
abbrev pub invariant-loop-seat : goal.invariant-loop-seat
invariant-loop-seat l = IsLeastSeated l.servers l.from l.seat l.least
