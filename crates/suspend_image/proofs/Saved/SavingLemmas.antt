-- How a state is written piece by piece: each piece has room, and the last one makes state bytes of them.
use Rattle.std.proofs.Common.{◌≡◌, ℕ, List, [], ◌++◌, length, drop, refl, sym, ap, ◌∙◌, append_assoc, arith}
use Rattle.std.proofs.lemmas.List.{length-append, append-nil}
use Rattle.machine_model.specs.State.Machine.{Machine}
use Rattle.suspend_image.specs.Sheets.{SheetBytes, HasRoom, with_bytes, appended, begun}
use Rattle.suspend_image.specs.Spelling.{with_header}
use Rattle.suspend_image.specs.StateBytes.{saved_parts, saved_bytes}
use Rattle.suspend_image.specs.Saving.{FitsSheet, IsSaving}

-- ---- piece by piece

saved_length : (m : Machine) → length (saved_bytes m) ≡ length (begun (saved_parts m))
unfolding saved_bytes
saved_length m = omega arith

-- `begin_state` begins it
pub saving_begun : (m : Machine) (sheet : SheetBytes) → FitsSheet m sheet → IsSaving m (saved_parts m) (with_bytes (begun []) sheet)
saving_begun m sheet fits = record { bytes = refl; fits = record { room = fits.room; few = fits.few } }

-- the next piece has room ..
pub piece_has_room : (m : Machine) (piece rest : List ℕ) (sheet : SheetBytes) → IsSaving m (piece ++ rest) sheet → HasRoom sheet piece
piece_has_room m piece rest sheet saving =
    let all = saved_length m in
    let whole : length (sheet.bytes ++ (piece ++ rest)) ≡ length (begun (saved_parts m)) = ap (λ (b : List ℕ). length b) saving.bytes in
    let one = length-append sheet.bytes (piece ++ rest) in
    let two = length-append piece rest in
    let room = saving.fits.room in
    let few = saving.fits.few in
    record { room = omega (arith, all, whole, one, two, room); few = omega (arith, all, whole, one, two, few) }

-- .. and once it was appended, the others are to come
pub piece_saved : (m : Machine) (piece rest : List ℕ) (sheet : SheetBytes) → IsSaving m (piece ++ rest) sheet → IsSaving m rest (appended piece sheet)
piece_saved m piece rest sheet saving = record {
  bytes = append_assoc sheet.bytes piece rest ∙ saving.bytes;
  fits = record { room = saving.fits.room; few = saving.fits.few };
}

-- where nothing is to come, `finish_state` may be called, and makes state bytes
pub all_saved : (m : Machine) (sheet : SheetBytes) → IsSaving m [] sheet → sheet.bytes ≡ begun (saved_parts m)
all_saved m sheet saving = sym (append-nil sheet.bytes) ∙ saving.bytes

pub saved_whole : (m : Machine) (sheet : SheetBytes) → IsSaving m [] sheet → with_header (drop 16 sheet.bytes) ≡ saved_bytes m
unfolding saved_bytes
saved_whole m sheet saving = ap (λ (b : List ℕ). with_header (drop 16 b)) (all_saved m sheet saving)
