-- How a host in memory is kept: files by their place, and at each slot a reading of one of them.
use Rattle.std.specs.Prelude.{ℕ, ◌≤◌, ◌<◌, List, [], length, map, drop, Option, slice_index_or}
use Rattle.std.specs.Option.{ForSome, option_map}
use Rattle.std.specs.String.{string_bytes}
use Rattle.std.specs.declared.alloc.Global.{Global}
use Rattle.std.specs.declared.string.String.{String}
use Rattle.std.specs.declared.vec.Vec.{Vec}
use Rattle.xk_ports.specs.declared.mem_host.Reading.{Reading}

-- the files as their names and bytes
abbrev pub plain_files : List (String Global × Vec ℕ Global) → List (List ℕ × List ℕ)
plain_files files = map (λ file. (string_bytes file.0, file.1.items)) files

-- the bytes of the file at a place
abbrev pub bytes_at : List (List ℕ × List ℕ) → ℕ → List ℕ
bytes_at files place = (slice_index_or files place ([], [])).1

-- what a reading has left
abbrev pub left_in : List (List ℕ × List ℕ) → Option Reading → Option (List ℕ)
left_in files reading = option_map (λ r. drop r.at (bytes_at files r.file)) reading

-- a reading is of one of the files, and not past its end
abbrev pub IsReadingOf : List (List ℕ × List ℕ) → Option Reading → Type 0
IsReadingOf files reading =
    ForSome reading (λ r. (r.file < length files) × (r.at ≤ length (bytes_at files r.file)))
