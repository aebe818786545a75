-- What the records of a run tell of the calls of one thread: each call is answered once, and nothing else is.
use Rattle.std.specs.Prelude.{◌≡◌, ◌≢◌, ℕ, ◌⊎◌, ◌==◌, Bool, true, false, List, [], ◌∷◌, ◌++◌, filter, length, map}
use Rattle.std.specs.List.{All}
use Rattle.xk_base.specs.declared.ids.ThreadId.{ThreadId}
use Rattle.xk_base.specs.declared.records.Rec.{Rec}
use Rattle.xk_base.specs.declared.records.What.{What}
use Rattle.xk_base.specs.declared.records.What.TheVariants.{Call, Reply, Retry, Byte, Fault, End, Irq, Gone}
use Rattle.xk_base.specs.Tables.Circle.{same_thread}
use Rattle.machine_laws.specs.Records.{records_of}
use Rattle.machine_model.specs.Runs.Moments.{Moment, state_at}
use Rattle.machine_model.specs.State.Machine.{Machine}
use Rattle.machine_model.specs.State.Threads.{thread_id}
use Rattle.transcript_laws.specs.Answering.{is_waiting}

-- ---- how a thread stands

-- what its calls are up to: it has none that waits, it waits for the reply to one, or its process is dead
pub data Standing : Type 0 where
  Free : Standing
  Waits : Standing
  Dead : Standing

-- of a thread whose process is alive, and that waits
abbrev pub standing_by : Bool → Bool → Standing
standing_by false waits = Dead
standing_by true false = Free
standing_by true true = Waits

-- the standing of the thread of that id; an id without a thread is free
abbrev pub standing : Machine → ThreadId → Standing
standing m who = standing_by (m.process who.pid.0).alive (is_waiting (m.threads who))

-- ---- what one record says of it

-- a record of the thread itself leads from the first standing to the second, and a record of another leaves the thread as it stands
abbrev pub LeadsIf : Bool → Standing → Standing → Standing → Standing → Type 0
LeadsIf true first second a b = (a ≡ first) × (b ≡ second)
LeadsIf false first second a b = a ≡ b

-- .. and the death of its process ends all
abbrev pub DiesIf : Bool → Standing → Standing → Type 0
DiesIf true a b = (a ≢ Dead) × (b ≡ Dead)
DiesIf false a b = a ≡ b

-- A call is made by a thread that waits for none. A reply or a retry comes to a thread that waits, which it frees. A byte, a fault and an
-- end are of a thread that waits for none, and so is the start of a handler: it takes the registers of no thread that waits.
abbrev pub Says : ThreadId → What → Standing → Standing → Type 0
Says who (Call other words) a b = LeadsIf (same_thread other who) Free Waits a b
Says who (Reply other words) a b = LeadsIf (same_thread other who) Waits Free a b
Says who (Retry other) a b = LeadsIf (same_thread other who) Waits Free a b
Says who (Byte other byte) a b = LeadsIf (same_thread other who) Free Free a b
Says who (Fault other cause value) a b = LeadsIf (same_thread other who) Free Free a b
Says who (End other) a b = LeadsIf (same_thread other who) Free Free a b
Says who (Irq pid k) a b = LeadsIf (same_thread (thread_id pid 1) who) Free Free a b
Says who (Gone pid) a b = DiesIf (pid.0 == who.pid.0) a b

-- .. and several in order
unfoldable pub SayInTurn : ThreadId → List What → Standing → Standing → Type 0
SayInTurn who [] a b = a ≡ b
SayInTurn who (what ∷ told) a b = (c : Standing) × Says who what a c × SayInTurn who told c b

-- ---- calls and their replies

-- the record is a call of the thread
abbrev pub is_call_of : ThreadId → What → Bool
is_call_of who (Call other words) = same_thread other who
is_call_of who _ = false

-- it answers a call of the thread: it is a reply to it, or a retry, after which the call is made again
abbrev pub is_answer_of : ThreadId → What → Bool
is_answer_of who (Reply other words) = same_thread other who
is_answer_of who (Retry other) = same_thread other who
is_answer_of who _ = false

abbrev pub HasNoCall : ThreadId → List What → Type 0
HasNoCall who told = All (λ what. is_call_of who what ≡ false) told

-- so many of the records answer calls of the thread
abbrev pub answers_in : ThreadId → List What → ℕ
answers_in who told = length (filter (is_answer_of who) told)

-- of a thread that stands so before these records, and so after them
pub record AreCallsAnswered (who : ThreadId) (told : List What) (first last : Standing) : Type 0 where
  -- between two calls of the thread, with no call of it between them, stands exactly one answer
  pub between : (before between later : List What) (words others : List ℕ)
      → told ≡ before ++ (Call who words ∷ between ++ (Call who others ∷ later)) → HasNoCall who between → answers_in who between ≡ 1
  -- behind its last call stands one answer, or none; where there is none, the thread waits in the end, or its process is dead
  pub latest : (before later : List What) (words : List ℕ) → told ≡ before ++ (Call who words ∷ later) → HasNoCall who later
      → (answers_in who later ≡ 1) ⊎ ((answers_in who later ≡ 0) × (last ≢ Free))
  -- what stands before its first call holds no answer, or one to a call that waited before
  pub earliest : (before later : List What) → told ≡ before ++ later → HasNoCall who before
      → (answers_in who before ≡ 0) ⊎ ((answers_in who before ≡ 1) × (first ≡ Waits))

-- ---- the laws

-- the records of a run lead each thread from how it stands at the start to how it stands at the end
abbrev pub StandingsFollow : Machine → List Moment → Type 0
StandingsFollow start moments =
    (who : ThreadId)
    → SayInTurn who (map (λ (rec : Rec). rec.what) (records_of start moments)) (standing start who)
    (standing (state_at start moments (length moments)) who)

-- each call of each thread is answered once, and nothing else is
abbrev pub AnsweredOnce : Machine → List Moment → Type 0
AnsweredOnce start moments =
    (who : ThreadId)
    → AreCallsAnswered who (map (λ (rec : Rec). rec.what) (records_of start moments)) (standing start who)
    (standing (state_at start moments (length moments)) who)
