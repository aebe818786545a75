use Rattle.std.proofs.Common.{◌≡◌, ◌∙◌, ◌+◌, List, ℕ, suc, sym, ap, subst, arith}
use Rattle.machine_model.specs.State.Machine.{Machine}
use Rattle.xk_kernel.specs.State.{machine_of}
use Rattle.xk_ports.specs.Told.{Grows, GrowsByProperPrefix}
use Rattle.xk_ports.proofs.ToldLemmas.{Grows-append, Grows-none}
use Rattle.xk_base.specs.declared.ids.Place.{Place}
use Rattle.ledger_model.specs.Places.{place_at}
use Rattle.event_player.specs.Table.{page_line, pages_text}
use Rattle.page_views.specs.declared.places.Here.{Here}
use Rattle.event_player.proofs.Playing.TableLemmas.{few_processes, all_pages, blank_page, is_home, listed_text, page_line_in, text_next, text_none, text_split}
use Rattle.host_io.proofs.ToldLemmas.{on_err, prefix_after}
use Rattle.event_player.proofs.table.write_pages.Goals as goal

pub loop-number-init : goal.loop-number-init
loop-number-init g c =
    let m : Machine = machine_of g.W.SwapStore.held c.args.kernel.now in
    let out = g.K.Sink.written c.args.out.now in
    let P : List ℕ → Type 0 = λ text. Grows out out text in
    record { written = subst P (sym (text_none (page_line_in m) (is_home m))) (Grows-none out); later = omega arith }

pub returns-in_err-write_page-clause-front : goal.returns-in_err-write_page-clause-front
returns-in_err-write_page-clause-front g c =
    let m : Machine = machine_of g.W.SwapStore.held c.args.kernel.now in
    let before = g.K.Sink.written c.args.out.now in
    let after = g.K.Sink.written c.write_page.new.out in
    let P : List ℕ → Type 0 = λ text. GrowsByProperPrefix before after text in
    let L : Place → Type 0 = λ place. GrowsByProperPrefix (g.K.Sink.written c.loop-number.out) after (page_line_in m place) in
    let H : Here → Type 0 = λ here. GrowsByProperPrefix (g.K.Sink.written c.loop-number.out) after (page_line c.place_at-place.result here) in
    let front : L (place_at c.loop-number.number) = subst L c.place_at-place.ensures (subst H c.at.ensures c.in_err-write_page.ensures.front) in
    let split = text_split (page_line_in m) (is_home m) (blank_page m) c.loop-number.number 1309696 c.loop-number-test.true in
    on_err c.from_residual.result (P (pages_text m))
    (subst P (sym split.1 ∙ all_pages m (c.requires.sound.matched c.requires.usable) (few_processes g.W.SwapStore c.args.kernel.now c.requires.sound))
    (prefix_after before (g.K.Sink.written c.loop-number.out) after
    (listed_text (page_line_in m) (is_home m) c.loop-number.number) (page_line_in m (place_at c.loop-number.number)) split.0
    c.loop-number.invariant.written front))

pub loop-number-preserved : goal.loop-number-preserved
loop-number-preserved g c =
    let m : Machine = machine_of g.W.SwapStore.held c.args.kernel.now in
    let before = g.K.Sink.written c.args.out.now in
    let mid = g.K.Sink.written c.loop-number.out in
    let after = g.K.Sink.written c.write_page.new.out in
    let L : Place → Type 0 = λ place. Grows mid after (page_line_in m place) in
    let H : Here → Type 0 = λ here. Grows mid after (page_line c.place_at-place.result here) in
    let line : L (place_at c.loop-number.number) = subst L c.place_at-place.ensures (subst H c.at.ensures c.in_ok-write_page.ensures.appended) in
    let P : List ℕ → Type 0 = λ text. Grows before after text in
    let next : c.loop-number.number + 1 ≡ suc c.loop-number.number = omega arith in
    record {
      written = subst P (sym (ap (listed_text (page_line_in m) (is_home m)) next ∙ text_next (page_line_in m) (is_home m) (blank_page m) c.loop-number.number))
          (Grows-append before mid after (listed_text (page_line_in m) (is_home m) c.loop-number.number) (page_line_in m (place_at c.loop-number.number)) c.loop-number.invariant.written line);
      later = omega (arith, c.loop-number.invariant.later, c.write_page.ensures.never_falls);
    }

pub returns-clause-appended : goal.returns-clause-appended
returns-clause-appended g c =
    let m : Machine = machine_of g.W.SwapStore.held c.args.kernel.now in
    let P : List ℕ → Type 0 = λ text. Grows (g.K.Sink.written c.args.out.now) (g.K.Sink.written c.loop-number.out) text in
    let end : c.loop-number.number ≡ 1309696 = omega (arith, c.loop-number-test.false, c.loop-number.auto.number-end) in
    subst P (ap (listed_text (page_line_in m) (is_home m)) end ∙ all_pages m (c.requires.sound.matched c.requires.usable) (few_processes g.W.SwapStore c.args.kernel.now c.requires.sound))
    c.loop-number.invariant.written
