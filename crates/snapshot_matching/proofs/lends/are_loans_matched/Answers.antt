use Rattle.std.proofs.Common.{◌≡◌, ◌≤◌, ◌++◌, List, [], map, reverse, sym, ap, subst, ◌∙◌}
use Rattle.std.specs.List.{flat_map, count_by}
use Rattle.snapshot_matching.specs.declared.lends.Lend.{Lend}
use Rattle.snapshot_rows.specs.declared.runs.Run.{Run}
use Rattle.snapshot_matching.specs.LendParts.{lends_of, loan_lend, orphan_lend, is_lend_numbered, HaveSame, AreAlike}
use Rattle.snapshot_matching.proofs.Loans.LendLemmas.{made_of}
use Rattle.snapshot_matching.proofs.Loans.MatchedLoanLemmas.{unmatched_told, made_once, loans_told}
use Rattle.snapshot_matching.proofs.lends.are_loans_matched.Goals as goal

-- runs that were listed twice
listed_again : (made : List Lend) (one two three four : List Run) (items others : List Run) → one ≡ items → two ≡ others → three ≡ items → four ≡ others
    → made ≡ map loan_lend three ++ map orphan_lend four → made ≡ made_of one two
listed_again made one two three four items others a b c d e =
    e ∙ ap (λ (xs : List Run). map loan_lend xs ++ map orphan_lend four) (c ∙ sym a)
    ∙ ap (λ (ys : List Run). map loan_lend one ++ map orphan_lend ys) (d ∙ sym b)

pub returns-then-not-branch : goal.returns-then-not-branch
returns-then-not-branch c file = (
  λ never. absurd cc,
  unmatched_told file c.args.servers.now c.args.pages.now c.args.orphans.now c.requires.servers c.requires.pages c.requires.orphans c.as_slice.result.now c.as_slice-2.result.now
      (ap reverse c.as_slice.ensures.value ∙ c.in_ok-runs.ensures)
      (ap reverse c.as_slice-2.ensures.value ∙ c.in_ok-left.ensures) c.in_ok-are_numbers_apart.field-0
      c.in_ok-are_numbers_apart.ensures c.if-not-branch.true,
)

pub are_same-requires : goal.are_same-requires
are_same-requires c number =
    let made = listed_again c.in_ok-made.made.items c.as_slice.result.now c.as_slice-2.result.now c.as_slice-3.result.now c.as_slice-4.result.now c.in_ok-runs.runs.items c.in_ok-left.left.items
    c.as_slice.ensures.value c.as_slice-2.ensures.value c.as_slice-3.ensures.value c.as_slice-4.ensures.value c.in_ok-made.ensures in
    subst (λ (xs : List Lend). count_by (is_lend_numbered number) xs ≤ 1) (sym made)
    (made_once [] c.args.servers.now c.args.pages.now c.args.orphans.now c.requires.servers c.requires.pages c.requires.orphans c.as_slice.result.now c.as_slice-2.result.now
    (ap reverse c.as_slice.ensures.value ∙ c.in_ok-runs.ensures) (ap reverse c.as_slice-2.ensures.value ∙ c.in_ok-left.ensures)
    (c.in_ok-are_numbers_apart.ensures.0 c.if-not-branch.false) number)

pub returns : goal.returns
returns c file =
    let made = listed_again c.in_ok-made.made.items c.as_slice.result.now c.as_slice-2.result.now c.as_slice-3.result.now c.as_slice-4.result.now c.in_ok-runs.runs.items c.in_ok-left.left.items
    c.as_slice.ensures.value c.as_slice-2.ensures.value c.as_slice-3.ensures.value c.as_slice-4.ensures.value c.in_ok-made.ensures in
    loans_told file c.args.servers.now c.args.pages.now c.args.orphans.now c.requires.servers c.requires.pages c.requires.orphans c.as_slice.result.now c.as_slice-2.result.now
    (ap reverse c.as_slice.ensures.value ∙ c.in_ok-runs.ensures) (ap reverse c.as_slice-2.ensures.value ∙ c.in_ok-left.ensures)
    (c.in_ok-are_numbers_apart.ensures.0 c.if-not-branch.false)
    c.are_same.result (λ holds. subst (λ (xs : List Lend). AreAlike (flat_map lends_of c.args.servers.now) xs) made
    (subst (λ (xs : List Lend). AreAlike xs c.in_ok-made.made.items) c.in_ok-said.ensures (c.are_same.ensures.alike holds)))
    (λ same. c.are_same.ensures.told
    (subst (λ (xs : List Lend). HaveSame c.in_ok-said.said.items xs) (sym made)
    (subst (λ (xs : List Lend). HaveSame xs (made_of c.as_slice.result.now c.as_slice-2.result.now)) (sym c.in_ok-said.ensures) same)))
