-- Memory as a process sees it, by the virtual address of a byte, and what its fetches, loads and stores give.
use Rattle.std.specs.Prelude.{◌≡◌, ℕ, ◌+◌, ◌-◌, ◌*◌, ◌/◌, ◌%◌, ◌^◌, Bool, true, false, ◌&&◌, ◌==◌, nat_le, nat_lt, if◌then◌else◌, List}
use Rattle.std.specs.Prelude.{is_some, unwrap_or, Option, Some, None}
use Rattle.std.specs.Int.{bytes_low_first}
use Rattle.std.specs.Option.{option_and_then, option_map}
use Rattle.xk_base.specs.declared.pages.Access.{Access}
use Rattle.xk_base.specs.declared.pages.Stored.{Stored}
use Rattle.xk_base.specs.declared.pages.Stored.TheVariants.{Done, Device, Fault}
use Rattle.xk_base.specs.declared.pages.Width.{Width}
use Rattle.xk_base.specs.declared.pages.Width.TheVariants.{Byte, Half, Word}

-- ---- the timer's page

-- The timer as its page shows it: how many steps were done before this one, and the compare value, where it is armed.
pub record Timer : Type 0 where
  pub steps : ℕ
  pub compare : Option ℕ

abbrev pub in_timer_page : ℕ → Bool
in_timer_page address = address / 4096 == 0xF0001

-- the timer, where there is one and the address lies in its page
abbrev pub timer_at : Option Timer → ℕ → Option Timer
timer_at timer address = option_and_then (λ t. if in_timer_page address then Some t else None) timer

-- What a load at an offset of its page gives: of a word at 0 the steps, at 4 the compare value or 0, at 8 whether it is armed;
-- of anything else 0.
abbrev pub timer_number : Timer → ℕ → Width → ℕ
timer_number timer offset Word =
    if offset == 0 then timer.steps else (
    if offset == 4 then unwrap_or timer.compare 0 else (
    if offset == 8 then (if is_some timer.compare then 1 else 0) else 0))
timer_number timer offset Half = 0
timer_number timer offset Byte = 0

-- What a store does to the compare value: of a word at 4 it arms the timer with that value, at 8 it disarms it; anything else
-- does nothing.
abbrev pub compare_stored : ℕ → Width → ℕ → Option ℕ → Option ℕ
compare_stored offset Word value compare = if offset == 4 then Some value else (if offset == 8 then None else compare)
compare_stored offset Half value compare = compare
compare_stored offset Byte value compare = compare

abbrev pub timer_stored : ℕ → Width → ℕ → Timer → Timer
timer_stored offset width value timer = record timer { compare = compare_stored offset width value timer.compare }

-- the timer after a store at an address, which changes it where that lies in its page
abbrev pub timer_after : Option Timer → ℕ → Width → ℕ → Option Timer
timer_after timer address width value =
    option_map (λ t. if in_timer_page address then timer_stored (address % 4096) width value t else t) timer

-- ---- memory

-- Which access the process has at an address, whether that is the console's page, and which byte stands there (0 in
-- the console's page and in the timer's); and the timer, where its page is there.
pub record Memory : Type 0 where
  pub may : Access → ℕ → Bool
  pub console : ℕ → Bool
  pub byte : ℕ → ℕ
  pub timer : Option Timer

-- how many bytes a load or a store moves
abbrev pub size_of : Width → ℕ
size_of Byte = 1
size_of Half = 2
size_of Word = 4

-- the number that stands at an address, its lowest byte first
abbrev pub number_at : (ℕ → ℕ) → ℕ → Width → ℕ
number_at byte a Byte = byte a
number_at byte a Half = byte a + 256 * byte (a + 1)
number_at byte a Word = byte a + 256 * byte (a + 1) + 65536 * byte (a + 2) + 16777216 * byte (a + 3)

-- the number that a load gives at an address: the timer's in its page, and else the one that stands there
abbrev pub number_shown : Option Timer → (ℕ → ℕ) → ℕ → Width → ℕ
number_shown None byte a width = number_at byte a width
number_shown (Some timer) byte a width = timer_number timer (a % 4096) width

abbrev pub number_loaded : Memory → ℕ → Width → ℕ
number_loaded mem a width = number_shown (timer_at mem.timer a) mem.byte a width

-- the low bytes of a value, as many as the width has, the lowest first
abbrev pub low_bytes : Width → ℕ → List ℕ
low_bytes width value = bytes_low_first 0 (size_of width) value

-- the address is that of one of the bytes that an access of that width at `a` moves
abbrev pub is_moved : ℕ → Width → ℕ → Bool
is_moved a width address = nat_le a address && nat_lt address (a + size_of width)

-- byte i of a number, counted from the lowest
abbrev pub byte_of_number : ℕ → ℕ → ℕ
byte_of_number value i = value / 256 ^ i % 256

-- the bytes after the low bytes of a value were stored at an address, the lowest first
abbrev pub with_number : (ℕ → ℕ) → ℕ → Width → ℕ → ℕ → ℕ
with_number byte a width value address =
    if is_moved a width address then byte_of_number value (address - a) else byte address

-- ---- what stands in memory, where it is told

-- the byte at each address
abbrev pub Content : Type 0
Content = Option (ℕ → ℕ)

-- the number stands at the address, if it is told what stands there
abbrev pub StandsAt : Content → ℕ → Width → ℕ → Type 0
StandsAt None a width value = Unit {0}
StandsAt (Some byte) a width value = value ≡ number_at byte a width

-- the number is what a load gives at the address: the timer's, or else what stands there, if that is told
abbrev pub ShowsAt : Option Timer → Content → ℕ → Width → ℕ → Type 0
ShowsAt None content a width value = StandsAt content a width value
ShowsAt (Some timer) content a width value = value ≡ timer_number timer (a % 4096) width

-- what was told stays so
abbrev pub KeepsContent : Content → Content → Type 0
KeepsContent None new = Unit {0}
KeepsContent (Some byte) new = new ≡ Some byte

-- what was told stays so, but for the low bytes of a value at an address
abbrev pub StoresNumber : Content → Content → ℕ → Width → ℕ → Type 0
StoresNumber None new a width value = Unit {0}
StoresNumber (Some byte) new a width value = new ≡ Some (with_number byte a width value)

-- ---- answers

-- A fetch gives the number that stands there exactly where the process has the access.
abbrev pub FetchesNumber : Bool → Content → ℕ → Option ℕ → Type 0
FetchesNumber may content a None = may ≡ false
FetchesNumber may content a (Some value) = (may ≡ true) × StandsAt content a Word value

-- A load gives the number that stands there, or that the timer shows, exactly where the process has the access.
abbrev pub LoadsNumber : Bool → Option Timer → Content → ℕ → Width → Option ℕ → Type 0
LoadsNumber may timer content a width None = may ≡ false
LoadsNumber may timer content a width (Some value) = (may ≡ true) × ShowsAt (timer_at timer a) content a width value

-- What a memory tells, and its timer.
pub record Seen : Type 0 where
  pub content : Content
  pub timer : Option Timer

-- the low bytes of a value go to the timer, or else stand in memory; nothing else that was told changes
abbrev pub TakesNumber : Option Timer → Seen → Seen → ℕ → Width → ℕ → Type 0
TakesNumber None old new a width value = StoresNumber old.content new.content a width value × (new.timer ≡ old.timer)
TakesNumber (Some timer) old new a width value =
    KeepsContent old.content new.content × (new.timer ≡ Some (timer_stored (a % 4096) width value timer))

-- what was told stays so, and the timer is the same
abbrev pub KeepsSeen : Seen → Seen → Type 0
KeepsSeen old new = KeepsContent old.content new.content × (new.timer ≡ old.timer)

-- A store is denied exactly where the process has not that access. Else it goes to the console exactly where that is the
-- console's page, by its offset there; or the timer takes it, or its low bytes stand in memory.
abbrev pub StoresAsTold : Bool → Bool → Seen → Seen → ℕ → Width → ℕ → Stored → Type 0
StoresAsTold may console old new a width value Done =
    (may ≡ true) × (console ≡ false) × TakesNumber (timer_at old.timer a) old new a width value
StoresAsTold may console old new a width value (Device offset) =
    (may ≡ true) × (console ≡ true) × (offset ≡ a % 4096) × KeepsSeen old new
StoresAsTold may console old new a width value Fault = (may ≡ false) × KeepsSeen old new
