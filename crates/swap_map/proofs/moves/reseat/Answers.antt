use Rattle.swap_map.proofs.moves.reseat.Goals as goal

pub set_entry-requires-clause-entry : goal.set_entry-requires-clause-entry
set_entry-requires-clause-entry c = c.requires.seat c.in-Some-At.side
