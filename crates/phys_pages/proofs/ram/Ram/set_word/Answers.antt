use Rattle.std.proofs.Common.{◌≡◌, ◌+◌, ◌-◌, ◌/◌, ◌%◌, ◌<◌, ◌≤◌, List, ℕ, length, refl, sym, ap, ◌∙◌, arith}
use borrow.Rule.Slice.PartMut.{put_mid}
use Rattle.phys_pages.specs.Ram.{RamBytes, area, frame_at, with_word, with_page}
use Rattle.phys_pages.proofs.PageLemmas.{length-pages, area-with_page}
use Rattle.phys_pages.proofs.WordLemmas.{frame_at-within, length-with_word, written_word, pages-set_word, words-set_word}
use Rattle.phys_pages.proofs.ram.Ram.set_word.Goals as goal

-- the frame that is written, as the code finds it
the_frame : (c : goal.After-self-1) → c.args.pa / 4096 - c.self.inside.start / 4096 ≡ frame_at (area c.args.self.now) c.args.pa
unfolding area
the_frame c = ap (λ (r : RamBytes). c.args.pa / 4096 - r.start / 4096) c.self.view_is

is_within : (c : goal.After-self-1) → frame_at (area c.args.self.now) c.args.pa < (area c.args.self.now).frames
unfolding area
is_within c =
    let aligned : c.args.self.now.start % 4096 ≡ 0 = ap (λ (r : RamBytes). r.start % 4096) (sym c.self.view_is) ∙ c.self.invariant.aligned in
    frame_at-within (area c.args.self.now) c.args.pa aligned c.requires.inside

pub returns-clause-pages : goal.returns-clause-pages
returns-clause-pages c =
    let page : List ℕ = c.page_mut-page.result.now in
    let f : ℕ = c.args.pa / 4096 - c.self.inside.start / 4096 in
    let at : f ≡ frame_at (area c.args.self.now) c.args.pa = the_frame c in
    let within : frame_at (area c.args.self.now) c.args.pa < (area c.args.self.now).frames = is_within c in
    let room : c.args.pa % 4096 + 4 ≤ length page = omega (arith, c.page_mut-page.ensures.len, c.requires.aligned) in
    let written : put_mid (c.args.pa % 4096) (length page - c.args.pa % 4096) page c.write_u32.new.buf ≡ with_word page (c.args.pa % 4096) c.args.v =
    written_word page c.write_u32.new.buf (c.args.pa % 4096) (length page - c.args.pa % 4096) c.args.v room refl c.write_u32.ensures in
    pages-set_word c.args.self.now f c.args.pa c.args.v page (put_mid (c.args.pa % 4096) (length page - c.args.pa % 4096) page c.write_u32.new.buf) at (omega arith) c.page_mut-page.ensures.value c.page_mut-page.ensures.len
    (ap length written ∙ length-with_word page (c.args.pa % 4096) c.args.v room ∙ c.page_mut-page.ensures.len) written

pub returns-clause-words : goal.returns-clause-words
returns-clause-words c =
    let f : ℕ = c.args.pa / 4096 - c.self.inside.start / 4096 in
    let page : List ℕ = c.page_mut-page.result.now in
    words-set_word c.args.self.now (with_page c.args.self.now f (put_mid (c.args.pa % 4096) (length page - c.args.pa % 4096) page c.write_u32.new.buf)) c.args.pa c.args.v
    (area-with_page c.args.self.now f (put_mid (c.args.pa % 4096) (length page - c.args.pa % 4096) page c.write_u32.new.buf))
    (returns-clause-pages c) c.requires.aligned c.requires.inside (length-pages c.args.self.now (frame_at (area c.args.self.now) c.args.pa) (is_within c)) c.ranges.v.fits
