use Rattle.std.proofs.Common.{◌≡◌, ◌*◌, ℕ, inl, inr, subst, arith}
use Rattle.std.proofs.lemmas.Bool.{cases_lt}
use Rattle.phys_pages.specs.Ram.{word_in}
use Rattle.sv32_space.proofs.tables.used_entry.Goals as goal

pub entries-preserved : goal.entries-preserved
entries-preserved c = record {
  from = omega (arith, c.entries.invariant.from);
  free = λ k low high. elim (cases_lt k c.entries.index) [
    | inl old ↦ c.entries.invariant.free k low old
    | inr new ↦
        let here : c.entries.index ≡ k = omega arith in
        subst (λ (i : ℕ). word_in c.args.table.now (4 * i) ≡ 0) here (let read = c.entry_word.ensures in omega arith)
  ];
}
