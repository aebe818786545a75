use Rattle.std.proofs.Common.{sym, subst}
use Rattle.kernel_args.specs.Writing.{IsWritable}
use Rattle.demo_load.proofs.LoadImageLemmas.{load_is_writable}
use Rattle.demo_load.proofs.image.load_image.Goals as goal

pub write_args-requires : goal.write_args-requires
write_args-requires c = subst IsWritable (sym c.in_ok-args.ensures) (load_is_writable c.args.clients c.requires)
