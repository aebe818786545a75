-- The names of the faults of images and state files.
use Rattle.std.specs.Prelude.{ℕ, List, codes, ◌==◌, if◌then◌else◌}
use Rattle.kernel_args.specs.FaultNumbers.{too_short, not_xarg, bad_version, bad_total, bad_check, bad_ram, no_process, too_many_processes}
use Rattle.kernel_args.specs.FaultNumbers.{bad_ini, bad_names, bad_slots}
use Rattle.boot_plan.specs.FaultNumbers.{section_outside, section_misaligned, sections_overlap, load_outside, bad_load, entry_outside}
use Rattle.boot_plan.specs.FaultNumbers.{ram_too_small, too_long}
use Rattle.suspend_image.specs.FileFaults.{state_unmatched}
use Rattle.suspend_image.specs.StateFaults.{not_state, state_length, state_check, state_form}

-- there are as many slots as there may be pages, or more frames than RAM may have
abbrev pub bad_split : ℕ
bad_split = 25

-- the name of the fault of an image or of a state file, by its number
abbrev pub name_of : ℕ → List ℕ
name_of what =
    if what == too_short then codes "TooShort" else (
    if what == not_xarg then codes "NotXArg" else (
    if what == bad_version then codes "BadVersion" else (
    if what == bad_total then codes "BadTotal" else (
    if what == bad_check then codes "BadCheck" else (
    if what == bad_ram then codes "BadRam" else (
    if what == no_process then codes "NoProcess" else (
    if what == too_many_processes then codes "TooManyProcesses" else (
    if what == bad_ini then codes "BadIni" else (
    if what == bad_names then codes "BadNames" else (
    if what == bad_slots then codes "BadSlots" else (
    if what == section_outside then codes "SectionOutside" else (
    if what == section_misaligned then codes "SectionMisaligned" else (
    if what == sections_overlap then codes "SectionsOverlap" else (
    if what == load_outside then codes "LoadOutside" else (
    if what == bad_load then codes "BadLoad" else (
    if what == entry_outside then codes "EntryOutside" else (
    if what == ram_too_small then codes "RamTooSmall" else (
    if what == too_long then codes "TooLong" else (
    if what == not_state then codes "NotState" else (
    if what == state_length then codes "StateLength" else (
    if what == state_check then codes "StateCheck" else (
    if what == state_form then codes "StateForm" else (
    if what == state_unmatched then codes "StateUnmatched" else (
    if what == bad_split then codes "BadSplit" else codes "Unnamed"))))))))))))))))))))))))
