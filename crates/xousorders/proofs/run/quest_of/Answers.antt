use Rattle.std.proofs.Common.{List, ℕ, None, refl, subst, sym}
use Rattle.std.specs.Option.{option_copied}
use Rattle.program_status.specs.Plans.{IsSoundImage}
use Rattle.xk_base.specs.Outside.{Rose}
use Rattle.xousorders.specs.Asked.{Asking, HostFiles, IsAsked, IsBefore, Stops, asking_of}
use Rattle.xousorders.proofs.CallLemmas.{bytes_stop, events_refused, events_stop, image_stops, stopped_stops}
use Rattle.xousorders.proofs.ResultLemmas.{exit_says}
use Rattle.xousorders.proofs.run.quest_of.Goals as goal

pub returns-in_err-file-clause-stops : goal.returns-in_err-file-clause-stops
returns-in_err-file-clause-stops g c =
    let files : HostFiles = g.H.Host.file c.args.host.now in
    let asking : Asking = asking_of c.args.image.now (option_copied c.args.before) c.args.quantum c.args.once.items c.args.exits in
    let rose : Type 0 = Rose (g.H.Host.faults c.args.host.now) (g.H.Host.faults c.read_image.new.host) in
    exit_says c.from_residual.result _ (Stops files asking rose ⊥) c.from_residual.ensures.1
    (image_stops files asking rose ⊥ _ c.in_err-file.ensures.refused)

pub returns-in_err-planned-clause-stops : goal.returns-in_err-planned-clause-stops
returns-in_err-planned-clause-stops g c =
    let files : HostFiles = g.H.Host.file c.args.host.now in
    let asking : Asking = asking_of c.args.image.now (option_copied c.args.before) c.args.quantum c.args.once.items c.args.exits in
    let rose : Type 0 = Rose (g.H.Host.faults c.args.host.now) (g.H.Host.faults c.read_image.new.host) in
    exit_says c.from_residual-in_err-planned.result _ (Stops files asking rose ⊥) c.from_residual-in_err-planned.ensures.1
    (bytes_stop files asking rose ⊥ c.in_ok-file.file.items c.deref.result.now c.in_ok-file.ensures.read c.deref.ensures.value _
    c.in_err-planned.ensures.refused)

pub returns-in_err-before-clause-stops : goal.returns-in_err-before-clause-stops
returns-in_err-before-clause-stops g c =
    let files : HostFiles = g.H.Host.file c.args.host.now in
    let asking : Asking = asking_of c.args.image.now (option_copied c.args.before) c.args.quantum c.args.once.items c.args.exits in
    let old : ℕ = g.H.Host.faults c.args.host.now in
    let mid : ℕ = g.H.Host.faults c.read_image.new.host in
    let new : ℕ = g.H.Host.faults c.read_events.new.host in
    exit_says c.from_residual-in_err-before.result _ (Stops files asking (Rose old new) ⊥) c.from_residual-in_err-before.ensures.1
    (events_stop files asking (Rose old new) ⊥ _
    (events_refused files (g.H.Host.file c.read_image.new.host) asking.before old mid new c.read_image.ensures.file
    c.read_image.ensures.never_falls _ c.in_err-before.ensures.refused))

pub returns-in-Ok-begin_alone-clause-asked : goal.returns-in-Ok-begin_alone-clause-asked
returns-in-Ok-begin_alone-clause-asked g c =
    let files : HostFiles = g.H.Host.file c.args.host.now in
    let asking : Asking = asking_of c.args.image.now (option_copied c.args.before) c.args.quantum c.args.once.items c.args.exits in
    let planned = c.in_ok-planned.planned in
    subst (IsAsked files asking) (sym c.in-Ok.ensures) (record {
      image = c.in_ok-file.ensures.read;
      planned = record {
        args = planned.args;
        sound = subst (λ (bytes : List ℕ). IsSoundImage bytes None planned.args) c.deref.ensures.value c.in_ok-planned.ensures.image;
        planned = c.in_ok-planned.ensures.planned;
      };
      before = subst (λ (fs : HostFiles). IsBefore fs asking.before c.in_ok-before.before.items) c.read_image.ensures.file
          c.in_ok-before.ensures.before;
      quantum = refl;
      bound = refl;
      once = refl;
      exits = refl;
      preemptions = refl;
    })

pub returns-clause-stops : goal.returns-clause-stops
returns-clause-stops g c =
    let files : HostFiles = g.H.Host.file c.args.host.now in
    let asking : Asking = asking_of c.args.image.now (option_copied c.args.before) c.args.quantum c.args.once.items c.args.exits in
    let planned = c.in_ok-planned.planned in
    let asked : IsAsked files asking c.in-Ok.quest.subject =
    subst (IsAsked files asking) (sym c.in-Ok.ensures) (record {
      image = c.in_ok-file.ensures.read;
      planned = record {
        args = planned.args;
        sound = subst (λ (bytes : List ℕ). IsSoundImage bytes None planned.args) c.deref.ensures.value c.in_ok-planned.ensures.image;
        planned = c.in_ok-planned.ensures.planned;
      };
      before = subst (λ (fs : HostFiles). IsBefore fs asking.before c.in_ok-before.before.items) c.read_image.ensures.file
          c.in_ok-before.ensures.before;
      quantum = refl;
      bound = refl;
      once = refl;
      exits = refl;
      preemptions = refl;
    }) in
    stopped_stops files asking (Rose (g.H.Host.faults c.args.host.now) (g.H.Host.faults c.read_events.new.host)) ⊥ c.in-Ok.quest.subject asked _
    (c.unplayed.ensures c.in-Ok.quest.subject c.in-Err-begin_alone.ensures.fault)
