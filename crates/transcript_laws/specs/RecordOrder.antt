-- The order in which the records of one step or event stand, and the numbers of steps over a run. First comes what the thread does: its
-- call, its byte for the console, its fault or its end. Then the retry of its call; then replies, by pid and then by tid; then interrupts,
-- by pid; then the death.
use Rattle.std.specs.Prelude.{◌≡◌, ℕ, ◌<◌, ◌≤◌, ◌⊎◌, List}
use Rattle.std.specs.List.{AllPairs}
use Rattle.xk_base.specs.declared.records.Rec.{Rec}
use Rattle.xk_base.specs.declared.records.What.{What}
use Rattle.xk_base.specs.declared.records.What.TheVariants.{Call, Reply, Retry, Byte, Fault, End, Irq, Gone}
use Rattle.machine_laws.specs.Records.{records_of}
use Rattle.machine_model.specs.Runs.Moments.{Moment}
use Rattle.machine_model.specs.State.Machine.{Machine}

-- where a record stands: by its kind first, then by pid, then by tid. The last two count for replies, and the pid for interrupts.
pub record Rank : Type 0 where
  pub kind : ℕ
  pub pid : ℕ
  pub tid : ℕ

abbrev pub rank : What → Rank
rank (Call who words) = record { kind = 0; pid = 0; tid = 0 }
rank (Byte who byte) = record { kind = 0; pid = 0; tid = 0 }
rank (Fault who cause value) = record { kind = 0; pid = 0; tid = 0 }
rank (End who) = record { kind = 0; pid = 0; tid = 0 }
rank (Retry who) = record { kind = 1; pid = 0; tid = 0 }
rank (Reply who words) = record { kind = 2; pid = who.pid.0; tid = who.tid.0 }
rank (Irq pid k) = record { kind = 3; pid = pid.0; tid = 0 }
rank (Gone pid) = record { kind = 4; pid = 0; tid = 0 }

-- strictly: no two records of one list have the same rank
abbrev pub IsBefore : What → What → Type 0
IsBefore a b =
    ((rank a).kind < (rank b).kind)
    ⊎ (((rank a).kind ≡ (rank b).kind)
    × (((rank a).pid < (rank b).pid) ⊎ (((rank a).pid ≡ (rank b).pid) × ((rank a).tid < (rank b).tid))))

-- each record stands before each later one
abbrev pub StandInOrder : List Rec → Type 0
StandInOrder records = AllPairs (λ (a b : Rec). IsBefore a.what b.what) records

-- Over a run the numbers of steps never fall: no record has a lesser one than a record before it.
abbrev pub StepsNeverFall : Machine → List Moment → Type 0
StepsNeverFall start moments = AllPairs (λ (a b : Rec). a.step ≤ b.step) (records_of start moments)
