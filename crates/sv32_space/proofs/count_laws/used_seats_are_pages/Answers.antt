use Rattle.sv32_space.proofs.Agreeing.SeatCountingLemmas.{used_seats_are_pages, all_used}
use Rattle.sv32_space.proofs.count_laws.used_seats_are_pages.Goals as goal

pub returns-clause-used : goal.returns-clause-used
returns-clause-used c = λ procs E I B table agree. used_seats_are_pages procs E I B agree table

pub returns-clause-all : goal.returns-clause-all
returns-clause-all c = all_used
