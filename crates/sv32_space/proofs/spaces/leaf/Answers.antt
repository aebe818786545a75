use Rattle.sv32_space.proofs.EntryLemmas.{leaf_read, leaf_is_entry}
use Rattle.sv32_space.proofs.spaces.leaf.Goals as goal

pub returns-clause-word : goal.returns-clause-word
returns-clause-word c = leaf_read c.args.ram.now c.args.at c.address_of.result c.word.result c.address_of.ensures.placed c.requires.made c.address_of.ensures.address c.word.ensures

pub returns-clause-spelled : goal.returns-clause-spelled
returns-clause-spelled c = (leaf_is_entry c.args.ram.now c.args.at c.word.result c.requires.made c.requires.window (returns-clause-word c)).0

pub returns-clause-entry : goal.returns-clause-entry
returns-clause-entry c = (leaf_is_entry c.args.ram.now c.args.at c.word.result c.requires.made c.requires.window (returns-clause-word c)).1
