-- Text on its way to a sink: what stands on the sink, and behind it what is gathered and not put yet.
use Rattle.std.specs.Prelude.{◌≡◌, ◌≤◌, ℕ, true, List, [], ◌++◌, Option}
use Rattle.xk_ports.specs.Told.{Grows, GrowsByProperPrefix}
use Rattle.event_player.specs.declared.telling.Telling.{Telling}
use Rattle.event_player.specs.declared.ending.Ending.{Ending}
use Rattle.event_player.specs.declared.ending.Ending.TheVariants.{LimitMet}
use Rattle.event_player.specs.declared.events.PlayFault.{PlayFault}
use Rattle.event_player.specs.declared.events.PlayFault.TheVariants.{Swap, Write}
use Rattle.event_player.specs.History.{History}
use Rattle.event_player.specs.Telling.{is_silent, told}

-- what stands on the sink, where it is told, and what is held for it
pub record Text : Type 0 where
  pub out : Option (List ℕ)
  pub held : List ℕ

abbrev pub text : Option (List ℕ) → List ℕ → Text
text out held = record { out = out; held = held }

-- all was put
abbrev pub put : Option (List ℕ) → Text
put out = text out []

-- These bytes were put on a sink. Where they are none the sink wasn't touched: what it tells is the same, also where it tells nothing.
pub record Puts (before after : Option (List ℕ)) (bytes : List ℕ) : Type 0 where
  pub grown : Grows before after bytes
  pub still : bytes ≡ [] → after ≡ before

-- these bytes were told: a front of what was held and of them was put, and the rest is held
pub record Gathers (before after : Text) (told : List ℕ) : Type 0 where
  pub front : List ℕ
  pub cut : before.held ++ told ≡ front ++ after.held
  pub puts : Puts before.out after.out front

-- .. but the sink failed: of what was held and of these bytes a proper part from the front was put, so that some are left
abbrev pub GathersPart : Text → Text → List ℕ → Type 0
GathersPart before after told = GrowsByProperPrefix before.out after.out (before.held ++ told)

-- What was held is put where the store failed; a failed write is a fault of its own. Nothing more is put where a write had failed.
abbrev pub PutsBefore : Text → Option (List ℕ) → PlayFault → PlayFault → Type 0
PutsBefore before after Write Write = after ≡ before.out
PutsBefore before after Write Swap = ⊥
PutsBefore before after Swap Write = GrowsByProperPrefix before.out after before.held
PutsBefore before after Swap Swap = Puts before.out after before.held

-- Where nothing is told as records come, and nothing was held, the sink wasn't touched and nothing is held, whatever the store did.
abbrev pub StaysSilent : Telling → Text → Text → Type 0
StaysSilent tells before after = is_silent tells ≡ true → before.held ≡ [] → after ≡ before

-- what is told as the records of a history come, where it was played to this ending
abbrev pub Gathered : Telling → Text → Text → History → Ending → Type 0
Gathered tells before after h ending = (h.ending ≡ ending) × Gathers before after (told tells h.records)

-- .. a proper part from the front of that, where the sink failed
abbrev pub GatheredPart : Telling → Text → Text → History → Type 0
GatheredPart tells before after h = GathersPart before after (told tells h.records)

-- Of a history, by its step limit, what is told as the records of so many steps come, up to which it is met and no further: no more steps
-- were done.
pub record GathersSome (tells : Telling) (before after : Text) (limit : ℕ) (h : ℕ → History) : Type 0 where
  pub done : ℕ
  pub within : done ≤ limit
  pub met : (h done).ending ≡ LimitMet
  pub gathered : Gathers before after (told tells (h done).records)
