-- What stands on a sink after a history was played.
use Rattle.std.specs.Prelude.{◌≡◌, ◌≤◌, ℕ, List, [], Option}
use Rattle.xk_ports.specs.Told.{Grows}
use Rattle.event_player.specs.declared.telling.Telling.{Telling}
use Rattle.event_player.specs.declared.ending.Ending.{Ending}
use Rattle.event_player.specs.declared.ending.Ending.TheVariants.{LimitMet}
use Rattle.event_player.specs.History.{History}
use Rattle.event_player.specs.Telling.{told}

-- what is told as its records come, where it was played to this ending; a sink on which nothing is told wasn't touched
pub record Wrote (tells : Telling) (before after : Option (List ℕ)) (h : History) (ending : Ending) : Type 0 where
  pub ended : h.ending ≡ ending
  pub written : Grows before after (told tells h.records)
  pub still : told tells h.records ≡ [] → after ≡ before

-- .. of so many steps of it, by its step limit
pub record WroteSome (tells : Telling) (before after : Option (List ℕ)) (limit : ℕ) (h : ℕ → History) : Type 0 where
  pub done : ℕ
  pub within : done ≤ limit
  pub met : (h done).ending ≡ LimitMet
  pub written : Grows before after (told tells (h done).records)
  pub still : told tells (h done).records ≡ [] → after ≡ before
