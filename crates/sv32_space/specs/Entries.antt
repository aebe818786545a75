-- What upper crates see of page tables: a function from places to entries. An entry is free, or one side of the page at a
-- seat, which is a frame of RAM or a slot of the swap store, or it maps the console's page.
use Rattle.std.specs.Prelude.{Option}
use Rattle.xk_base.specs.declared.ids.Place.{Place}
use Rattle.sv32_space.specs.declared.sides.Entry.{Entry}

-- the entries of all places: none outside the windows of the processes there are
abbrev pub Entries : Type 0
Entries = Place → Option Entry
