use Rattle.std.proofs.Common.{◌≡◌, ◌<◌, ◌*◌, take, length}
use Rattle.std.specs.Prelude.{All}
use Rattle.kernel_args.specs.Writing.{HasPid, names_contents}
use Rattle.kernel_args.proofs.writing.names_size.Given as goal

abbrev pub invariant-loop-name : goal.invariant-loop-name
invariant-loop-name l = record {
  each : All HasPid (take l.name-index l.names);
  size : l.size ≡ length (names_contents (take l.name-index l.names));
  few : l.size < 4 * 65536;
}
