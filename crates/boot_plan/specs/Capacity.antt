-- How many pages a machine has room for.
use Rattle.std.specs.Prelude.{ℕ, ◌+◌, ◌-◌}
use Rattle.xk_base.specs.Numbers.Limits.{table_frames}

-- the frames that hold pages: all but those of tables and the one that is always free, through which pages are exchanged
abbrev pub page_frames : ℕ → ℕ → ℕ
page_frames frames processes = frames - table_frames processes - 1

-- a page stands in a frame or in a slot of the swap store
abbrev pub capacity : ℕ → ℕ → ℕ → ℕ
capacity frames processes slots = page_frames frames processes + slots
