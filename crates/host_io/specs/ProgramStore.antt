-- What the program's store tells: what its pages in memory tell, or its file.
use Rattle.std.specs.Prelude.{ℕ, List, Option, Some, None}
use Rattle.xk_ports.specs.Store.{Contents, StoreAsked}
use Rattle.xk_ports.specs.Pages.{contents_of}
use Rattle.host_io.specs.PageFile.{FileBytes, held_in}
use Rattle.host_io.specs.declared.program_store.ProgramStore.{ProgramStore}
use Rattle.host_io.specs.declared.program_store.ProgramStore.TheVariants.{Memory, File}

-- what each slot holds
abbrev pub held_of : {D F : Type 0} → (F → Option FileBytes) → ProgramStore D F → Option Contents
held_of bytes (Memory pages faults disk) = Some (contents_of pages.pages.bytes)
held_of bytes (File store) = held_in bytes store.file

-- how many slots there are
abbrev pub slots_of : {D F : Type 0} → ProgramStore D F → ℕ
slots_of (Memory pages faults disk) = pages.pages.slots
slots_of (File store) = store.slots

-- the preparations that were asked for, while the pages are in memory
abbrev pub asked_of : {D F : Type 0} → ProgramStore D F → Option (List StoreAsked)
asked_of (Memory pages faults disk) = Some pages.pages.asked
asked_of (File store) = None

-- how many faults were counted
abbrev pub count_of : {D F : Type 0} → ProgramStore D F → ℕ
count_of (Memory pages faults disk) = faults
count_of (File store) = store.faults

-- the pages are in a file
abbrev pub IsInFile : {D F : Type 0} → ProgramStore D F → Type 0
IsInFile (Memory pages faults disk) = ⊥
IsInFile (File store) = Unit {0}
