use Rattle.std.proofs.Common.{◌∙◌, ◌+◌, ◌*◌, ℕ, ap, arith, subst, sym}
use Rattle.std.specs.Prelude.{IsTrue}
use Rattle.suspend_image.specs.Sheets.{SheetBytes}
use Rattle.vm_memory.specs.Memory.{capacity_of, processes}
use Rattle.xk_base.specs.Tables.Circle.{is_thread_id}
use Rattle.save_path.specs.Written.{front_parts}
use Rattle.save_path.proofs.BringsLemmas.{brings_procs}
use Rattle.save_path.proofs.FrontLemmas.{given_machine, given_of}
use Rattle.save_path.proofs.SavingLemmas.{comes_brought, few_pages, front_brought, front_fits, matched_brought, pages_given, room_finished, sheet_begun, sheet_is, sheet_saved, with_memory}
use Rattle.save_path.proofs.SaveableLemmas.{fit_brought, saveable_of}
use Rattle.save_path.proofs.SheetLemmas.{fits_behind, fits_less}
use Rattle.save_path.proofs.saving.save.Goals as goal

pub write_front-requires-clause-room : goal.write_front-requires-clause-room
write_front-requires-clause-room g c =
    let n = processes c.args.mem.now in
    let cap = capacity_of c.args.mem.now in
    fits_less c.begin_state.new.sheet ((363208 + 4604 * n) + (8 + 4124 * (cap + 3))) (363208 + 4604 * n)
    (front_fits (processes c.args.mem.now) (capacity_of c.args.mem.now) c.args.sheet.now c.begin_state.new.sheet c.requires.sound.few
    (few_pages g.W.SwapStore c.args.mem.now c.requires.sound) c.requires.room c.begin_state.ensures) (omega arith)

pub write_pages-requires-clause-procs : goal.write_pages-requires-clause-procs
write_pages-requires-clause-procs g c = c.procs.ensures ∙ c.requires.procs

pub write_pages-requires-clause-room : goal.write_pages-requires-clause-room
write_pages-requires-clause-room g c =
    let k = given_of c.args.mem.now c.args.threads.now c.args.procs.now c.args.servers.now c.args.queues.now c.args.claims.now c.args.numbers in
    let n = processes c.args.mem.now in
    let cap = capacity_of c.args.mem.now in
    fits_behind c.begin_state.new.sheet c.write_front.new.sheet (front_parts (given_machine g.W.SwapStore.held k)) (363208 + 4604 * n) (8 + 4124 * (cap + 3))
    c.write_front.ensures.parts
    (front_fits (processes c.args.mem.now) (capacity_of c.args.mem.now) c.args.sheet.now c.begin_state.new.sheet c.requires.sound.few
    (few_pages g.W.SwapStore c.args.mem.now c.requires.sound) c.requires.room c.begin_state.ensures)

pub finish_state-requires-clause-begun : goal.finish_state-requires-clause-begun
finish_state-requires-clause-begun g c =
    let k = given_of c.args.mem.now c.args.threads.now c.args.procs.now c.args.servers.now c.args.queues.now c.args.claims.now c.args.numbers in
    let now = with_memory c.write_pages.new.mem k in
    sheet_begun (given_machine g.W.SwapStore.held now) c.args.sheet.now c.begin_state.new.sheet c.write_front.new.sheet c.write_pages.new.sheet _ c.begin_state.ensures
    (front_brought g.W.SwapStore k c.write_pages.new.mem c.in_ok-write_pages.ensures.reads.brings c.begin_state.new.sheet c.write_front.new.sheet _ c.write_front.ensures.parts)
    (pages_given g.W.SwapStore.held now c.write_front.new.sheet c.write_pages.new.sheet c.in_ok-write_pages.ensures.pages)

pub finish_state-requires-clause-few : goal.finish_state-requires-clause-few
finish_state-requires-clause-few g c = c.in_ok-write_pages.ensures.pages.few

pub returns-clause-saved : goal.returns-clause-saved
returns-clause-saved g c =
    let k = given_of c.args.mem.now c.args.threads.now c.args.procs.now c.args.servers.now c.args.queues.now c.args.claims.now c.args.numbers in
    let now = with_memory c.write_pages.new.mem k in
    sheet_is (given_machine g.W.SwapStore.held now) c.args.sheet.now c.begin_state.new.sheet c.write_front.new.sheet c.write_pages.new.sheet _ c.begin_state.ensures
    (front_brought g.W.SwapStore k c.write_pages.new.mem c.in_ok-write_pages.ensures.reads.brings c.begin_state.new.sheet c.write_front.new.sheet _ c.write_front.ensures.parts)
    (pages_given g.W.SwapStore.held now c.write_front.new.sheet c.write_pages.new.sheet c.in_ok-write_pages.ensures.pages)
    c.finish_state.new.sheet c.finish_state.ensures

pub returns-clause-alike : goal.returns-clause-alike
returns-clause-alike g c =
    let k = given_of c.args.mem.now c.args.threads.now c.args.procs.now c.args.servers.now c.args.queues.now c.args.claims.now c.args.numbers in
    let now = with_memory c.write_pages.new.mem k in
    sheet_saved (given_machine g.W.SwapStore.held now) c.args.sheet.now c.begin_state.new.sheet c.write_front.new.sheet c.write_pages.new.sheet _ c.begin_state.ensures
    (front_brought g.W.SwapStore k c.write_pages.new.mem c.in_ok-write_pages.ensures.reads.brings c.begin_state.new.sheet c.write_front.new.sheet _ c.write_front.ensures.parts)
    (pages_given g.W.SwapStore.held now c.write_front.new.sheet c.write_pages.new.sheet c.in_ok-write_pages.ensures.pages)
    c.finish_state.new.sheet c.finish_state.ensures

pub returns-clause-room : goal.returns-clause-room
returns-clause-room g c =
    let k = given_of c.args.mem.now c.args.threads.now c.args.procs.now c.args.servers.now c.args.queues.now c.args.claims.now c.args.numbers in
    let now = with_memory c.write_pages.new.mem k in
    room_finished (given_machine g.W.SwapStore.held now) c.args.sheet.now c.begin_state.new.sheet c.write_front.new.sheet c.write_pages.new.sheet _ c.begin_state.ensures
    (front_brought g.W.SwapStore k c.write_pages.new.mem c.in_ok-write_pages.ensures.reads.brings c.begin_state.new.sheet c.write_front.new.sheet _ c.write_front.ensures.parts)
    (pages_given g.W.SwapStore.held now c.write_front.new.sheet c.write_pages.new.sheet c.in_ok-write_pages.ensures.pages)
    c.finish_state.new.sheet c.finish_state.ensures

pub returns-clause-saveable : goal.returns-clause-saveable
returns-clause-saveable g c =
    let k = given_of c.args.mem.now c.args.threads.now c.args.procs.now c.args.servers.now c.args.queues.now c.args.claims.now c.args.numbers in
    let mem = c.write_pages.new.mem in
    let brings = c.in_ok-write_pages.ensures.reads.brings in
    saveable_of g.W.SwapStore (with_memory mem k) brings.sound (matched_brought g.W.SwapStore k mem brings c.requires.matched)
    (fit_brought g.W.SwapStore k mem brings c.write_front.ensures.fit) c.pages_are_whole.ensures
    (subst (λ (n : ℕ). IsTrue (is_thread_id n c.args.numbers.cursor)) (sym (brings_procs g.W.SwapStore c.args.mem.now mem brings)) c.requires.cursor)

pub returns-in_err-write_pages-clause-room : goal.returns-in_err-write_pages-clause-room
returns-in_err-write_pages-clause-room g c =
    c.in_err-write_pages.ensures.room ∙ ap (λ (s : SheetBytes). s.room) c.write_front.ensures.parts.is ∙ ap (λ (s : SheetBytes). s.room) c.begin_state.ensures

pub returns-clause-machine : goal.returns-clause-machine
returns-clause-machine g c =
    let k = given_of c.args.mem.now c.args.threads.now c.args.procs.now c.args.servers.now c.args.queues.now c.args.claims.now c.args.numbers in
    comes_brought g.W.SwapStore k c.write_pages.new.mem c.in_ok-write_pages.ensures.reads.brings

pub returns-in_err-write_pages-clause-machine : goal.returns-in_err-write_pages-clause-machine
returns-in_err-write_pages-clause-machine g c =
    let k = given_of c.args.mem.now c.args.threads.now c.args.procs.now c.args.servers.now c.args.queues.now c.args.claims.now c.args.numbers in
    comes_brought g.W.SwapStore k c.write_pages.new.mem c.in_err-write_pages.ensures.reads.brings
