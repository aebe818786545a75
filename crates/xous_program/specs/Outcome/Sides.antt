-- What a call meets outside, before it and after it. What is said of the bytes of files, of what stands on `out` and of the preparations
-- asked for holds where they are told; what is said of counts of faults rests on nothing.
use Rattle.std.specs.Prelude.{◌≡◌, ◌==◌, ◌||◌, ℕ, Bool, IsSome, IsTrue, List, [], ◌∷◌, Option, Some, None}
use Rattle.xk_base.specs.Outside.{Rose}
use Rattle.xk_ports.specs.declared.host.Host.{Ghosts as Host}
use Rattle.xk_ports.specs.declared.store.SwapStore.{Ghosts as SwapStore}
use Rattle.xk_ports.specs.declared.host.FileSlot.TheVariants.{First, Second}
use Rattle.xk_ports.specs.Host.{FileAsked}
use Rattle.xk_ports.specs.Keeping.{tells_truly}
use Rattle.xk_ports.specs.Store.{StoreAsked}
use Rattle.xk_ports.specs.Told.{Grows}
use Rattle.program_status.specs.Notes.{SinkSide}
use Rattle.program_status.specs.declared.status.Status.{Status}

-- the files of the host by their names, where they are told
abbrev pub Told : Type 0
Told = Option (List ℕ → Option (List ℕ))

-- the host has a file of that name, where it tells its files
abbrev pub HasFile : Told → List ℕ → Type 0
HasFile None name = Unit {0}
HasFile (Some file) name = IsSome (file name)

-- What a call meets at the host: the files that it has; the files asked for, before the call and after it; what is left of the image and of
-- the event file; and the count of faults, before and after.
pub record HostSide : Type 0 where
  pub files : Told
  pub asked : Option (List FileAsked)
  pub asked_after : Option (List FileAsked)
  pub image_left : Option (List ℕ)
  pub left : Option (List ℕ)
  pub faults : ℕ
  pub faults_after : ℕ

-- the side of a host before the call and after it
abbrev pub host_side : {H : Type 0} → Host H → H → H → HostSide
host_side S old new = record {
  files = S.file old;
  asked = S.asked old;
  asked_after = S.asked new;
  image_left = S.left new First;
  left = S.left new Second;
  faults = S.faults old;
  faults_after = S.faults new;
}

-- What a call meets at the store: the preparations asked for, before the call and after it; whether the store that is handed back is honest
-- and tells what its slots hold; and the count of faults, before and after.
pub record StoreSide : Type 0 where
  pub asked : Option (List StoreAsked)
  pub asked_after : Option (List StoreAsked)
  pub tells_truly : Bool
  pub faults : ℕ
  pub faults_after : ℕ

-- the side of a store that was handed in, and of the one that is handed back
abbrev pub store_side : {W : Type 0} → SwapStore W → W → W → StoreSide
store_side S old new = record {
  asked = S.asked old;
  asked_after = S.asked new;
  tells_truly = tells_truly S new;
  faults = S.faults old;
  faults_after = S.faults new;
}

-- a call as it ended
pub record Call : Type 0 where
  pub host : HostSide
  pub out : SinkSide
  pub store : StoreSide
  pub status : Status

abbrev pub call_of : HostSide → SinkSide → StoreSide → Status → Call
call_of host out store status = record { host = host; out = out; store = store; status = status }

-- the count of faults rose in the call
abbrev pub HostRose : Call → Type 0
HostRose call = Rose call.host.faults call.host.faults_after

abbrev pub OutRose : Call → Type 0
OutRose call = Rose call.out.faults call.out.faults_after

abbrev pub StoreRose : StoreSide → Type 0
StoreRose store = Rose store.faults store.faults_after

-- nothing was written
abbrev pub IsUnwritten : Call → Type 0
IsUnwritten call = call.out.written_after ≡ call.out.written

-- ---- the store

-- the store was asked for so many slots, under this name if any, and this was its answer
abbrev pub Prepares : StoreSide → ℕ → Option (List ℕ) → Bool → Type 0
Prepares store slots name prepared = Grows store.asked store.asked_after (record { slots = slots; name = name; prepared = prepared } ∷ [])

-- the store isn't prepared: no preparation was asked for, and its count stays
pub record IsUnprepared (store : StoreSide) : Type 0 where
  pub asked : store.asked_after ≡ store.asked
  pub faults : store.faults_after ≡ store.faults

-- What the pages of a run of so many slots hold is known, whether they are out or not: the store that is handed back is honest and tells,
-- or the run has no slots.
abbrev pub IsTrusted : StoreSide → ℕ → Type 0
IsTrusted store slots = IsTrue (store.tells_truly || slots == 0)

-- ---- calls that do nothing outside

-- The call ended so, and nothing outside was touched: no file and no slot was asked for, nothing was written, and no count rose.
pub record IsUntouched (status : Status) (call : Call) : Type 0 where
  pub ended : call.status ≡ status
  pub asked : call.host.asked_after ≡ call.host.asked
  pub unwritten : IsUnwritten call
  pub host_faults : call.host.faults_after ≡ call.host.faults
  pub out_faults : call.out.faults_after ≡ call.out.faults
  pub store : IsUnprepared call.store
