use Rattle.std.proofs.Common.{◌-◌, length, refl}
use Rattle.suspend_image.proofs.Sheets.SheetLemmas.{word_written}
use Rattle.suspend_image.proofs.writing.sheet.write_word.Goals as goal

pub returns : goal.returns
returns c =
    word_written c.args.bytes.now c.write_u32.new.buf c.args.at (length c.args.bytes.now - c.args.at) c.args.w c.requires refl c.write_u32.ensures
