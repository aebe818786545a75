use Rattle.std.proofs.Common.{◌≡◌, None, refl, ap, arith}
use Rattle.xk_base.specs.Log.{LogState}
use Rattle.xk_base.specs.declared.limits.TheConstants.{RECORD_LIMIT}
use Rattle.xk_kernel.proofs.Starting.BootLemmas.{IsBooted, all_empty, booted_comes, booted_sound, first_turn}
use Rattle.xk_kernel.specs.declared.kernel.Kernel.{Kernel}
use Rattle.xk_kernel.proofs.kernel.Kernel.boot.Given.{Over}
use Rattle.xk_kernel.proofs.kernel.Kernel.boot.Goals as goal

abbrev kernel : (g : Over) → goal.After-new-2 g → Kernel g.row.W.Denot
kernel g c = record {
  mem = c.in-Ok-boot.mem;
  threads = c.in-Ok.tables.0;
  procs = c.in-Ok.tables.1;
  servers = c.in-Ok.tables.2;
  queues = c.in-Ok.tables.4;
  claims = c.new.result;
  log = c.in-Ok.tables.3;
  cursor = first_turn;
  next = 1;
  steps = 0;
  timer = c.new-2.result;
  reserved = None;
}

booted : (g : Over) (c : goal.After-new-2 g) → IsBooted g.W.SwapStore.held c.args.plan.now c.args.file.now (kernel g c)
booted g c = record {
  size = c.in-Ok-boot.ensures.size;
  rights = c.in-Ok-boot.ensures.rights;
  threads = c.in-Ok.ensures.threads;
  procs = c.in-Ok.ensures.procs;
  servers = c.in-Ok.ensures.servers;
  messages = c.in-Ok.ensures.queues;
  claims = c.new.ensures;
  cursor = refl;
  next = refl;
  steps = refl;
  timer = c.new-2.ensures;
  reserved = refl;
}

-- src/kernel/boot.rt
pub close-requires : goal.close-requires
close-requires g c = all_empty c.in-Ok.tables.4 c.in-Ok.ensures.queues

pub returns-clause-sound : goal.returns-clause-sound
returns-clause-sound g c =
    let room : c.in-Ok.tables.3.room ≡ RECORD_LIMIT = ap (λ (l : LogState). l.room) c.in-Ok.ensures.log in
    booted_sound g.W.SwapStore c.args.plan.now c.args.file.now (kernel g c) (booted g c)
    c.requires.can_start c.requires.lawful.few c.in-Ok-boot.ensures.sound c.requires.lawful.some
    c.in-Ok.ensures.threaded c.in-Ok.ensures.made (omega arith)

pub returns-clause-start : goal.returns-clause-start
returns-clause-start g c = booted_comes g.W.SwapStore.held c.args.plan.now c.args.file.now (kernel g c) (booted g c) c.in-Ok-boot.ensures.whole
