-- What was read of the files that the words name.
use Rattle.std.specs.Prelude.{◌≡◌, ◌<◌, ◌≤◌, ℕ, Bool, List, [], ◌∷◌, length, Option, Some, None}
use Rattle.xk_ports.specs.declared.host.FileSlot.{FileSlot}
use Rattle.xk_ports.specs.Host.{FileAsked}
use Rattle.xk_ports.specs.Told.{Grows, Consumes}
use Rattle.host_io.specs.declared.reading.Content.{Content}
use Rattle.host_io.specs.declared.reading.Content.TheVariants.{Whole, TooLong}

-- the host has these bytes under that name, where it tells its files
abbrev pub IsFile : Option (List ℕ → Option (List ℕ)) → List ℕ → List ℕ → Type 0
IsFile None name bytes = Unit {0}
IsFile (Some file) name bytes = file name ≡ Some bytes

-- these bytes were read of the file of that name, where it is told, and the others are left
abbrev pub IsReadOf : Option (List ℕ → Option (List ℕ)) → List ℕ → Option (List ℕ) → List ℕ → Type 0
IsReadOf None name left bytes = Unit {0}
IsReadOf (Some file) name left bytes = Consumes (file name) left bytes

-- where it is told, this is the list
abbrev pub IsTold : Option (List ℕ) → List ℕ → Type 0
IsTold None bytes = Unit {0}
IsTold (Some told) bytes = told ≡ bytes

-- what was left at a slot was read whole, or it has more bytes than the limit
abbrev pub IsContent : Option (List ℕ) → ℕ → Content → Type 0
IsContent left limit (Whole bytes) = (length bytes.items ≤ limit) × IsTold left bytes.items
IsContent left limit TooLong = (bytes : List ℕ) × (limit < length bytes) × IsTold left bytes

-- the file of that name was read whole, or it has more bytes than the limit
abbrev pub IsContentOf : Option (List ℕ → Option (List ℕ)) → List ℕ → ℕ → Content → Type 0
IsContentOf file name limit (Whole bytes) = (length bytes.items ≤ limit) × IsFile file name bytes.items
IsContentOf file name limit TooLong = (bytes : List ℕ) × (limit < length bytes) × IsFile file name bytes

-- nothing is left where a file was read whole
abbrev pub IsRead : Option (List ℕ) → Content → Type 0
IsRead left (Whole bytes) = IsTold left []
IsRead left TooLong = Unit {0}

-- one more file was asked for, by that name, and it was picked or not
abbrev pub Asked : Option (List FileAsked) → Option (List FileAsked) → FileSlot → List ℕ → Bool → Type 0
Asked old new which name picked = Grows old new (record { slot = which; name = name; picked = picked } ∷ [])

-- .. whichever of the two
abbrev pub AsksFor : Option (List FileAsked) → Option (List FileAsked) → FileSlot → List ℕ → Type 0
AsksFor old new which name = (picked : Bool) × Asked old new which name picked
