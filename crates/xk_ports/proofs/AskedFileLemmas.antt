-- A file that is added to the list of files that were asked for: its name stands after the others.
use Rattle.std.proofs.Common.{◌≡◌, ◌+◌, ◌-◌, ◌≤◌, ◌<◌, ℕ, Some, None, List, [], ◌∷◌, ◌++◌, length, drop, refl, ap, arith, length-append, slice_range}
use Rattle.std.specs.Prelude.{All}
use Rattle.std.proofs.lemmas.List.{map-append, take-append-le, drop-append-le, take_all, length-drop}
use Rattle.std.proofs.lemmas.List.Elements.{All-head, All-tail, All-push, All-weaker}
use Rattle.std.proofs.lemmas.Bool.Decides.{nat_tests}
use Rattle.std.proofs.Math.Seq.{drop-append_seam}
use Rattle.xk_ports.specs.declared.asked_files.Entry.{Entry}
use Rattle.xk_ports.specs.Host.{FileAsked}
use Rattle.xk_ports.specs.AskedFiles.{room_taken, asked_after}
use Rattle.xk_ports.specs.AskedView.{file_in, files_in, IsWithin, IsKept}

-- names that come later leave a name
slice_range-append : (xs ys : List ℕ) (a b : ℕ) → a ≤ b → b ≤ length xs → slice_range (xs ++ ys) a b ≡ slice_range xs a b
slice_range-append xs ys a b low high =
    let reach : a ≤ length xs = omega arith in
    let fits : b - a ≤ length (drop a xs) = omega (arith, length-drop a xs) in
    rw (drop-append-le a xs ys reach) (take-append-le (b - a) (drop a xs) ys fits)

-- the last name
slice_range-last : (xs ys : List ℕ) → slice_range (xs ++ ys) (length xs) (length xs + length ys) ≡ ys
slice_range-last xs ys = rw (drop-append_seam xs ys) (take_all _ ys (omega arith))

files_in-names : (names name : List ℕ) (entries : List Entry) → All (IsWithin names) entries → files_in (names ++ name) entries ≡ files_in names entries
files_in-names names name [] within = refl
files_in-names names name (e ∷ es) within =
    let here : slice_range (names ++ name) e.start e.end ≡ slice_range names e.start e.end =
    let w = All-head (IsWithin names) e es within in slice_range-append names name e.start e.end w.0 w.1 in
    rw here (ap (λ files. file_in names e ∷ files) (files_in-names names name es (All-tail (IsWithin names) e es within)))

-- the files after one more
pub files_in-add : (names name : List ℕ) (entries : List Entry) (entry : Entry) → All (IsWithin names) entries → entry.start ≡ length names → entry.end ≡ length names + length name → files_in (names ++ name) (entries ++ entry ∷ []) ≡ files_in names entries ++ record { slot = entry.slot; name = name; picked = entry.picked } ∷ []
files_in-add names name entries entry within start end =
    rw (map-append (file_in (names ++ name)) entries (entry ∷ []), files_in-names names name entries within, start, end, slice_range-last names name) refl

-- the room that a list takes after one more
pub room_taken-push : (files : List FileAsked) (file : FileAsked) → room_taken (files ++ file ∷ []) ≡ room_taken files + (length file.name + 1)
room_taken-push [] file = omega arith
room_taken-push (f ∷ fs) file = omega (arith, room_taken-push fs file)

-- a list without room for one more is lost
pub asked_after-full : (room taken : ℕ) (files : List FileAsked) (file : FileAsked) → room_taken files ≡ taken → room - taken ≤ length file.name → taken ≤ room → asked_after room (Some files) file ≡ None
asked_after-full room taken files file same full within =
    let over : room < room_taken (files ++ file ∷ []) = omega (arith, room_taken-push files file) in
    grind (arith, nat_tests)

-- a list with room for one more has it
pub asked_after-room : (room taken : ℕ) (files : List FileAsked) (file : FileAsked) → room_taken files ≡ taken → length file.name < room - taken → asked_after room (Some files) file ≡ Some (files ++ file ∷ [])
asked_after-room room taken files file same fits =
    let within : room_taken (files ++ file ∷ []) ≤ room = omega (arith, room_taken-push files file) in
    grind (arith, nat_tests)

-- the lists of names and entries after one more
pub IsKept-add : (names name : List ℕ) (entries : List Entry) (entry : Entry) (names_room names_room' entries_room entries_room' room : ℕ)
    → IsKept names names_room entries entries_room room → entry.start ≡ length names → entry.end ≡ length names + length name
    → length name < room - length names - length entries → names_room ≤ names_room' → entries_room' ≡ entries_room
    → IsKept (names ++ name) names_room' (entries ++ entry ∷ []) entries_room' room
IsKept-add names name entries entry names_room names_room' entries_room entries_room' room kept start end fits grown same =
    let wider : (e : Entry) → IsWithin names e → IsWithin (names ++ name) e = λ e w. (w.0, omega (arith, w.1, length-append names name)) in
    let file : FileAsked = record { slot = entry.slot; name = name; picked = entry.picked } in
    record {
      within = All-push (IsWithin (names ++ name)) entries entry (All-weaker (IsWithin names) (IsWithin (names ++ name)) wider entries kept.within) (omega arith, omega (arith, length-append names name));
      taken = rw (files_in-add names name entries entry kept.within start end) (omega (arith, room_taken-push (files_in names entries) file, kept.taken, length-append names name, length-append entries (entry ∷ [])));
      fits = omega (arith, kept.fits, length-append names name, length-append entries (entry ∷ []));
      names_fit = omega (arith, kept.names_fit);
      entries_fit = omega (arith, kept.entries_fit);
    }
