-- A sink that never fails.
use Rattle.std.specs.Prelude.{ℕ, ◌-◌, ◌&&◌, ◌++◌, Bool, List, length, nat_le, take, Option, Some, None, if◌then◌else◌}

-- a sink that never fails: the bytes that it kept, how many it can keep, and whether it kept all
pub record SureSinkState : Type 0 where
  pub kept : List ℕ
  pub room : ℕ
  pub is_whole : Bool

-- what was written, which is told while all of it was kept
abbrev pub sure_written : SureSinkState → Option (List ℕ)
sure_written sink = if sink.is_whole then Some sink.kept else None

-- the sink after these bytes: those that fit are kept, and the others are dropped
abbrev pub sure_after : SureSinkState → List ℕ → SureSinkState
sure_after sink bytes =
    record sink {
      kept = sink.kept ++ take (sink.room - length sink.kept) bytes;
      is_whole = sink.is_whole && nat_le (length bytes) (sink.room - length sink.kept);
    }
