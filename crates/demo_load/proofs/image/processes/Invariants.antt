use Rattle.std.proofs.Common.{◌≡◌, ◌+◌, ◌∷◌}
use Rattle.std.specs.Prelude.{replicate}
use Rattle.demo_load.specs.Code.{client_code, server_code}
use Rattle.demo_load.specs.Image.{process_of_code}
use Rattle.demo_load.proofs.image.processes.Given as goal

abbrev pub invariant-clients : goal.invariant-clients
invariant-clients l = l.processes ≡ process_of_code l.offset server_code ∷ replicate l.made (process_of_code (l.offset + 88) client_code)
