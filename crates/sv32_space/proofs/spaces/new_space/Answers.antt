use Rattle.std.proofs.Common.{◌≡◌, ◌+◌, ◌≤◌, slice_index, subst, ap, sym, ◌∙◌, arith}
use Rattle.phys_pages.specs.Ram.{area}
use Rattle.sv32_space.proofs.ClearLemmas.{IsEmptySpace, beside, empty_space, empty_leaf, empty_made, empty_free, made_beside, entry_beside}
use Rattle.sv32_space.proofs.SpaceLemmas.{mapped_page}
use Rattle.sv32_space.proofs.spaces.new_space.Goals as goal

same_area : (c : goal.After-write_root) → area c.write_root.new.ram ≡ area c.args.ram.now
same_area c = c.write_root.ensures.area ∙ c.clear_tables.ensures.area

is_empty : (c : goal.After-write_root) → IsEmptySpace c.write_root.new.ram c.args.first.0
is_empty c = record {
  within = subst (λ a. c.args.first.0 + 21 ≤ a.frames) (sym (same_area c)) c.requires;
  root = c.write_root.ensures.root;
  zero = λ f i low high. ap (λ page. slice_index page i) (c.write_root.ensures.others f (λ same. omega (arith, same, low))) ∙ c.clear_tables.ensures.zero f i low high;
}

pub returns-clause-pages : goal.returns-clause-pages
returns-clause-pages c = λ f outside.
    c.write_root.ensures.others f (λ same. outside (omega (arith, same), omega (arith, same)))
    ∙ c.clear_tables.ensures.others f (beside c.args.first.0 f outside)

pub returns-clause-space : goal.returns-clause-space
returns-clause-space c = empty_space c.write_root.new.ram c.args.first.0 (is_empty c)

pub returns-clause-empty : goal.returns-clause-empty
returns-clause-empty c = λ w vpn here. empty_leaf c.write_root.new.ram c.args.first.0 (is_empty c) w vpn (mapped_page w vpn here)

pub returns-clause-made : goal.returns-clause-made
returns-clause-made c = empty_made c.write_root.new.ram c.args.first.0 (is_empty c)

pub returns-clause-free : goal.returns-clause-free
returns-clause-free c = empty_free c.write_root.new.ram c.args.first.0 (is_empty c)

pub returns-clause-others : goal.returns-clause-others
returns-clause-others c = made_beside c.args.ram.now c.write_root.new.ram c.args.first.0 (same_area c) (returns-clause-pages c)

pub returns-clause-entries : goal.returns-clause-entries
returns-clause-entries c = entry_beside c.args.ram.now c.write_root.new.ram c.args.first.0 (same_area c) (returns-clause-pages c)
