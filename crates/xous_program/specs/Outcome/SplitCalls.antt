-- Two calls that play events on setups of one capacity.
use Rattle.std.specs.Prelude.{◌≡◌, ℕ, List, Option, Some}
use Rattle.xk_ports.specs.Told.{Grows}
use Rattle.xous_program.specs.Outcome.Sides.{Call}
use Rattle.xous_program.specs.Outcome.Splits.{Setup, SplitOneCapacity}
use Rattle.xous_program.specs.Words.{Play}

-- `trace`, `run` or `ledger` is to play these events on the image of the setup, for its slots. The host tells its files.
pub record PlaysOn (setup : Setup) (events : List ℕ) (play : Play) (call : Call) : Type 0 where
  pub slots : play.slots ≡ setup.asked
  pub files : List ℕ → Option (List ℕ)
  pub told : call.host.files ≡ Some files
  pub image : files play.image ≡ Some setup.image
  pub event_file : files play.events ≡ Some events

-- two calls with their setups, and the bytes of an event file
pub record TwoSplits : Type 0 where
  pub one : Setup
  pub other : Setup
  pub events : List ℕ
  pub play : Play
  pub twin : Play
  pub call : Call
  pub answer : Call

-- The setups have one capacity. They load the same, however each splits it into frames and slots. The calls play the same events on them,
-- for one command up to one step limit.
pub record IsOneCapacity (two : TwoSplits) : Type 0 where
  pub capacity : SplitOneCapacity two.one two.other
  pub plays : PlaysOn two.one two.events two.play two.call
  pub twin_plays : PlaysOn two.other two.events two.twin two.answer
  pub tells : two.play.tells ≡ two.twin.tells
  pub limit : two.play.limit ≡ two.twin.limit

-- the calls ended with one status and wrote the same
pub record EndAlike (one other : Call) : Type 0 where
  pub status : one.status ≡ other.status
  pub text : List ℕ
  pub written : Grows one.out.written one.out.written_after text
  pub other_written : Grows other.out.written other.out.written_after text
