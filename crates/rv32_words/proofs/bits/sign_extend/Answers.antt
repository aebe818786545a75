use Rattle.rv32_words.proofs.ExtensionLemmas.{extended}
use Rattle.rv32_words.proofs.bits.sign_extend.Goals as goal

pub returns : goal.returns
returns c =
    extended c.args.width c.args.bits c.cast_signed.result c.requires.some c.requires.room c.requires.fits c.cast_signed.ensures
