use Rattle.std.proofs.Common.{◌≡◌, subst, sym, true}
use Rattle.ledger_model.specs.Places.{is_user_place}
use Rattle.ledger_model.specs.Reach.{is_free}
use Rattle.ledger_model.specs.Steps.{make, write}
use Rattle.ledger_model.specs.Ledger.{Homed}
use Rattle.vm_memory.specs.Memory.{capacity_of, ledger, processes}
use Rattle.xk_base.specs.declared.ids.Place.{Place}
use Rattle.resume_path.proofs.Homes.PageRowLemmas.{make_served}
use Rattle.resume_path.proofs.Homes.PagesBackLemmas.{failed_over}
use Rattle.resume_path.proofs.Homes.PutPageLemmas.{filled_come, fills_home, made_come, made_loans, may_fill, may_reduce, on_err, row_bytes, row_bytes_long, user_pid, writable}
use Rattle.resume_path.proofs.Homes.PuttingLemmas.{put_comes}
use Rattle.resume_path.specs.Coming.{HasFailed}
use Rattle.resume_path.proofs.pages.put_page.Goals as goal

-- src/pages.rt
pub make_run-requires-clause-served : goal.make_run-requires-clause-served
make_run-requires-clause-served g c =
    let free : is_free (processes c.args.mem.now) (ledger g.W.SwapStore.held c.args.mem.now) c.home-at.result ≡ true =
    subst (λ (p : Place). is_free (processes c.args.mem.now) (ledger g.W.SwapStore.held c.args.mem.now) p ≡ true) (sym c.home-at.ensures) c.requires.free in
    make_served (processes c.args.mem.now) (capacity_of c.args.mem.now) (ledger g.W.SwapStore.held c.args.mem.now) c.home-at.result c.in-Some.window
    (sym c.in-Some.ensures) free c.requires.room

pub fill-requires-clause-sound : goal.fill-requires-clause-sound
fill-requires-clause-sound g c =
    (made_come g.W.SwapStore c.args.mem.now c.make_run.new.mem c.home-at.result c.right_of-right.result
    c.requires.sound c.requires.usable c.in_ok-make_run.ensures.comes c.in_ok-make_run.ensures.rights).sound

pub fill-requires-clause-may : goal.fill-requires-clause-may
fill-requires-clause-may g c =
    may_fill g.W.SwapStore c.args.mem.now c.make_run.new.mem c.home-at.result c.right_of-right.result
    c.requires.sound c.requires.usable c.in_ok-make_run.ensures.comes c.in_ok-make_run.ensures.rights

pub fill-requires-clause-home : goal.fill-requires-clause-home
fill-requires-clause-home g c =
    fills_home g.W.SwapStore c.args.mem.now c.make_run.new.mem c.home-at.result c.right_of-right.result
    c.requires.sound c.requires.usable c.in_ok-make_run.ensures.comes c.in_ok-make_run.ensures.rights

pub returns-in_err-fill-clause-failed : goal.returns-in_err-fill-clause-failed
returns-in_err-fill-clause-failed g c =
    let free : is_free (processes c.args.mem.now) (ledger g.W.SwapStore.held c.args.mem.now) c.home-at.result ≡ true =
    subst (λ (p : Place). is_free (processes c.args.mem.now) (ledger g.W.SwapStore.held c.args.mem.now) p ≡ true) (sym c.home-at.ensures) c.requires.free in
    let lies : is_user_place (processes c.args.mem.now) c.home-at.result ≡ true =
    subst (λ (p : Place). is_user_place (processes c.args.mem.now) p ≡ true) (sym c.home-at.ensures) c.requires.place in
    let served = make_served (processes c.args.mem.now) (capacity_of c.args.mem.now) (ledger g.W.SwapStore.held c.args.mem.now) c.home-at.result
    c.in-Some.window
    (sym c.in-Some.ensures) free c.requires.room in
    on_err _ (HasFailed g.W.SwapStore c.args.mem.now c.fill.new.mem)
    (failed_over g.W.SwapStore c.args.mem.now c.make_run.new.mem
    c.fill.new.mem c.in_ok-make_run.ensures.keeps
    (made_loans (processes c.args.mem.now) (capacity_of c.args.mem.now) (ledger g.W.SwapStore.held c.args.mem.now)
    (ledger g.W.SwapStore.held c.make_run.new.mem)
    c.home-at.result (writable c.right_of-right.result) c.in-Some.window (user_pid (processes c.args.mem.now) c.home-at.result lies) served
    c.in_ok-make_run.ensures.rights)
    c.in_err-fill.ensures.failed)

pub reduce-requires-clause-sound : goal.reduce-requires-clause-sound
reduce-requires-clause-sound g c =
    (filled_come g.W.SwapStore c.args.mem.now c.make_run.new.mem c.home-at.result c.right_of-right.result
    c.requires.sound c.requires.usable c.in_ok-make_run.ensures.comes c.in_ok-make_run.ensures.rights c.fill.new.mem _ c.in_ok-fill.ensures.comes
    c.in_ok-fill.ensures.rights).sound

pub reduce-requires-clause-usable : goal.reduce-requires-clause-usable
reduce-requires-clause-usable g c =
    (filled_come g.W.SwapStore c.args.mem.now c.make_run.new.mem c.home-at.result c.right_of-right.result
    c.requires.sound c.requires.usable c.in_ok-make_run.ensures.comes c.in_ok-make_run.ensures.rights c.fill.new.mem _ c.in_ok-fill.ensures.comes
    c.in_ok-fill.ensures.rights).usable

pub reduce-requires-clause-served : goal.reduce-requires-clause-served
reduce-requires-clause-served g c =
    may_reduce g.W.SwapStore c.args.mem.now c.make_run.new.mem c.home-at.result c.right_of-right.result
    c.requires.sound c.requires.usable c.in_ok-make_run.ensures.comes c.in_ok-make_run.ensures.rights c.fill.new.mem _ c.in_ok-fill.ensures.comes
    c.in_ok-fill.ensures.rights

pub returns-clause-comes : goal.returns-clause-comes
returns-clause-comes g c = λ total l come fits.
    put_comes g.W.SwapStore total c.reduce.new.mem l c.args.file.now c.args.row.now c.home-at.result
    c.right_of-right.result c.right_of-right.result.x _ c.home-at.ensures (c.right_of-right.ensures c.args.file.now)
    (row_bytes c.args.file.now c.args.row.now.from) (row_bytes_long c.args.file.now c.args.row.now.from c.requires.bytes) c.requires.right
    (c.reduce.ensures.comes total (write (Homed c.home-at.result) 0 _ (make c.home-at.result 1 (writable c.right_of-right.result) l))
    (c.in_ok-fill.ensures.comes total (make c.home-at.result 1 (writable c.right_of-right.result) l) (c.in_ok-make_run.ensures.comes total l come fits)))
