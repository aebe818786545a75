use Rattle.std.proofs.Common.{◌≡◌, ◌-◌, length, take, drop, ap, arith, length-drop}
use Rattle.std.proofs.lemmas.List.{take_all}
use Rattle.suspend_image.specs.Sheets.{with_bytes}
use Rattle.suspend_image.proofs.Sheets.WritingLemmas.{finished}
use Rattle.suspend_image.proofs.writing.finish_state.Goals as goal

pub returns : goal.returns
returns c =
    let bytes = c.args.sheet.now.bytes in
    let parts : take (length bytes - 16) (drop 16 bytes) ≡ drop 16 bytes = take_all (length bytes - 16) (drop 16 bytes) (omega (arith, length-drop 16 bytes)) in
    rw (c.set_word-2.ensures, c.set_word.ensures, c.crc_x25-check.ensures, c.as_slice-bytes.ensures, parts)
    (ap (λ b. with_bytes b c.args.sheet.now) (finished bytes c.requires.begun))
