use Rattle.std.proofs.Common.{arith}
use Rattle.kernel_args.proofs.ConvertedImage.{length-converted}
use Rattle.kernel_args.proofs.converting.converted_len.Goals as goal

pub returns : goal.returns
returns c =
    let len = length-converted c.args.bytes.now c.args.args.now c.requires.spelled c.requires.first in
    omega arith
