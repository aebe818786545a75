-- What comes of a call whose store may lie: a machine that is known but for the bytes of its pages.
use Rattle.std.specs.Prelude.{◌≡◌}
use Rattle.machine_model.specs.Runs.Isolation.{without_bytes}
use Rattle.machine_model.specs.State.Machine.{Machine}

-- The state is that one: but for the bytes of pages, whatever the store does; and wholly where these are known.
pub record ComesTo (known : Type 0) (new target : Machine) : Type 0 where
  pub alike : without_bytes new ≡ without_bytes target
  pub whole : known → new ≡ target
