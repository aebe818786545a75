use Rattle.std.proofs.Common.{◌≡◌, ◌∙◌, ℕ, List, [], Option, refl, sym, subst, inl, inr}
use Rattle.vm_memory.specs.Memory.{size, store_of}
use Rattle.xous_program.specs.Finish.{EndsBooted}
use Rattle.xous_program.specs.Outcome.Starts.{Booted}
use Rattle.event_player.specs.Gathering.{put}
use Rattle.xous_program.specs.Outcome.InRam.{PlaysInRam, RunsInRam}
use Rattle.xous_program.specs.Outcome.Resumes.{EndsResume, limit_from, traced}
use Rattle.xous_program.specs.Outcome.Sides.{Call, host_side, store_side}
use Rattle.program_status.specs.Notes.{SinkSide, sink_side}
use Rattle.host_io.specs.Reading.{IsTold}
use Rattle.event_player.specs.Standing.{room_in}
use Rattle.xous_program.specs.Words.{Resume, Resumes, resume_in}
use Rattle.xous_program.proofs.Headline.RamLemmas.{resumes_begun, runs_in_ram, unresumed_runs_not}
use Rattle.xous_program.proofs.Outcome.ResumeLemmas.{ends_resumed, limit_is}
use Rattle.xous_program.proofs.Outcome.TopLemmas.{Before, begun_at}
use Rattle.xous_program.proofs.commands.resume.resume_run.Goals as goal

pub returns-in-Ok-clause-ends : goal.returns-in-Ok-clause-ends
returns-in-Ok-clause-ends g c =
    let file = g.H.Host.file c.args.host.now in
    let resume : Resume = resume_in c.args.resume in
    let resumed = c.in-Ok.ensures.resumed in
    let kernel = c.in-Ok.kernel in
    let after = c.play_events-status.new.kernel in
    let begin : Booted = record { machine = resumed.0; room = room_in kernel; slots = (size kernel.mem).slots } in
    let I : Option (List ℕ) → Type 0 = λ left. IsTold left [] in
    let before : Before = record {
      files_asked = g.H.Host.asked c.args.host.now;
      host_faults = g.H.Host.faults c.args.host.now;
      prepared = g.W.SwapStore.asked c.args.store;
      store_faults = g.W.SwapStore.faults c.args.store;
    } in
    let call : Call = record {
      host = host_side g.H.Host c.continue_run.new.host c.play_events-status.new.host;
      out = sink_side g.K.Sink c.args.out.now c.play_events-status.new.out;
      store = store_side g.W.SwapStore (store_of kernel.mem) (store_of after.mem);
      status = c.play_events-status.result;
    } in
    let most : ℕ = c.max.result in
    let limit : most ≡ limit_from resume.limit resumed.0 =
    limit_is resume.limit c.steps.result most resumed.0 (c.steps.ensures ∙ resumed.2) c.max.ensures in
    let L : ℕ → Type 0 = λ n. EndsBooted (record (traced resume resumed.0) { limit = n }) begin call in
    let played : L most = c.play_events-status.ensures.played resumed.0 (resumed.1 (put (g.K.Sink.written c.args.out.now))) in
    let S : g.row.W.Denot → Type 0 = λ store. EndsResume resume (record (begun_at file before call) {
      store = store_side g.W.SwapStore c.args.store store;
    }) in
    subst S (sym c.close.ensures)
    (ends_resumed resume begin file before call
    (store_side g.W.SwapStore c.args.store (store_of kernel.mem))
    c.continue_run.ensures.file resumed.3 refl refl c.play_events-status.ensures.keeps.store.preparations
    (record { host = c.continue_run.ensures.never_falls; store = c.in-Ok.ensures.count }) c.in-Ok.ensures.picked
    (subst I (sym c.play_events-status.ensures.first) c.in-Ok.ensures.end)
    (subst L limit played))

pub returns-in-Err-clause-ends : goal.returns-in-Err-clause-ends
returns-in-Err-clause-ends g c =
    let out : SinkSide = sink_side g.K.Sink c.args.out.now c.args.out.now in
    elim (c.in-Err.ensures.ends out refl) [
      | inl unread ↦ inl unread
      | inr unresumed ↦ inr (inl unresumed)
    ]

pub returns-in-Ok-clause-in_ram : goal.returns-in-Ok-clause-in_ram
returns-in-Ok-clause-in_ram g c =
    let resume : Resume = resume_in c.args.resume in
    let resumed = c.in-Ok.ensures.resumed in
    let kernel = c.in-Ok.kernel in
    let last = store_of c.play_events-status.new.kernel.mem in
    let begin : Booted = record { machine = resumed.0; room = room_in kernel; slots = (size kernel.mem).slots } in
    let whole : g.row.W.Denot → Call = λ store. record {
      host = host_side g.H.Host c.args.host.now c.play_events-status.new.host;
      out = sink_side g.K.Sink c.args.out.now c.play_events-status.new.out;
      store = store_side g.W.SwapStore c.args.store store;
      status = c.play_events-status.result;
    } in
    let files = g.H.Host.file c.continue_run.new.host in
    let side = store_side g.W.SwapStore (store_of kernel.mem) last in
    let most : ℕ = c.max.result in
    let limit : most ≡ limit_from resume.limit resumed.0 =
    limit_is resume.limit c.steps.result most resumed.0 (c.steps.ensures ∙ resumed.2) c.max.ensures in
    let L : ℕ → Type 0 = λ n. PlaysInRam g.W.SwapStore (record (traced resume resumed.0) { limit = n }) begin files side last c.play_events-status.result in
    let played : L most = c.play_events-status.ensures.in_ram resumed.0 (resumed.1 (put (g.K.Sink.written c.args.out.now))) in
    let R : g.row.W.Denot → Type 0 = λ store. RunsInRam g.W.SwapStore (Resumes resume) (whole store) store in
    subst R (sym c.close.ensures)
    (runs_in_ram g.W.SwapStore (Resumes resume) (whole last) (traced resume resumed.0) begin files side last
    (resumes_begun resume (whole last) begin (store_side g.W.SwapStore c.args.store (store_of kernel.mem)) resumed.3) c.continue_run.ensures.file refl
    (subst L limit played))

pub returns-in-Err-clause-in_ram : goal.returns-in-Err-clause-in_ram
returns-in-Err-clause-in_ram g c = λ ends known.
    let out : SinkSide = sink_side g.K.Sink c.args.out.now c.args.out.now in
    absurd (unresumed_runs_not (resume_in c.args.resume) _ (c.in-Err.ensures.ends out refl) ends)
