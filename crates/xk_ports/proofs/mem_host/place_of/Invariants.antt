use Rattle.std.proofs.Common.{◌≡◌, drop}
use Rattle.xk_ports.specs.MemHost.{file_named}
use Rattle.xk_ports.specs.MemHostView.{plain_files}
use Rattle.xk_ports.proofs.mem_host.place_of.Given as goal

-- no file before this place has the name
abbrev pub invariant-loop-place : goal.invariant-loop-place
invariant-loop-place l =
    file_named (plain_files (drop l.place l.files)) l.name ≡ file_named (plain_files l.files) l.name
