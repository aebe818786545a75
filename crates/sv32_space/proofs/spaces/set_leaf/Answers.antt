use Rattle.std.proofs.Common.{◌≡◌, ◌/◌, ◌%◌, ℕ, List, Some, nat_eq, ap, arith, ◌∙◌}
use Rattle.xk_base.specs.declared.windows.Window.{Window}
use Rattle.xk_base.specs.Tables.Counting.{put_at}
use Rattle.xk_base.specs.Numbers.Windows.{window_at}
use Rattle.phys_pages.specs.Ram.{area, pages, frame_at, with_word}
use Rattle.sv32_space.specs.Spaces.{root_at, table_frame}
use Rattle.sv32_space.proofs.SpaceLemmas.{with_leaf, write_at}
use Rattle.sv32_space.proofs.EntryLemmas.{IsSet, set_entries, set_pages, set_made}
use Rattle.sv32_space.proofs.spaces.set_leaf.Goals as goal

written : (c : goal.After-set_word) → (w : Window) → window_at c.args.at.vpn.0 ≡ Some w
    → pages c.set_word.new.self ≡ with_leaf (pages c.args.ram.now) (root_at c.args.at.pid.0) w c.args.at.vpn.0 c.args.word
written c w here =
    let P : ℕ → List ℕ = pages c.args.ram.now in
    c.set_word.ensures.pages
    ∙ ap (λ pa. put_at nat_eq P (frame_at (area c.args.ram.now) pa) (with_word (P (frame_at (area c.args.ram.now) pa)) (pa % 4096) c.args.word)) (c.address_of-pa.ensures.address w here)
    ∙ write_at (area c.args.ram.now) P (table_frame (root_at c.args.at.pid.0) w (c.args.at.vpn.0 / 1024)) (c.args.at.vpn.0 % 1024) c.args.word c.address_of-pa.ensures.placed.aligned (omega arith)

is_set : (c : goal.After-set_word) → IsSet c.args.ram.now c.set_word.new.self c.args.at c.args.word
is_set c = record {
  placed = c.address_of-pa.ensures.placed;
  made = c.requires.made;
  window = c.requires.window;
  fits = c.ranges.word.fits;
  spelled = c.requires.spelled;
  area = c.set_word.ensures.area;
  pages = written c;
}

pub returns-clause-entries : goal.returns-clause-entries
returns-clause-entries c = set_entries c.args.ram.now c.set_word.new.self c.args.at c.args.word (is_set c)

pub returns-clause-pages : goal.returns-clause-pages
returns-clause-pages c = set_pages c.args.ram.now c.set_word.new.self c.args.at c.args.word (is_set c)

pub returns-clause-made : goal.returns-clause-made
returns-clause-made c = set_made c.args.ram.now c.set_word.new.self c.args.at c.args.word (is_set c)

pub returns-clause-own : goal.returns-clause-own
returns-clause-own c = set_made c.args.ram.now c.set_word.new.self c.args.at c.args.word (is_set c) c.args.at.pid.0 c.requires.made
