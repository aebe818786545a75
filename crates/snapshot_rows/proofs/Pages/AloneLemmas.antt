-- No two pages on loan have one place at their holders exactly where the keys of those places differ.
use Rattle.std.proofs.Common.{◌≡◌, ℕ, Bool, true, false, cond, eqb, List, [], ◌∷◌, Option, Some, None, refl, sym, ap, subst, ◌∙◌, inl, inr, ◌⊎◌, ◌↔◌}
use Rattle.std.specs.Prelude.{IsTrue}
use Rattle.std.specs.List.{find, flat_map, IsDistinct, AllByRecursion}
use Rattle.std.specs.Option.{option_map}
use Rattle.std.proofs.lemmas.Bool.{cases_Bool}
use Rattle.std.proofs.lemmas.Map.Keys.{IsDistinct-head, IsDistinct-tail, IsDistinct-cons}
use Rattle.xk_base.specs.declared.ids.Place.{Place}
use Rattle.ledger_model.specs.Ledger.{Page, PageLoan, loan_of}
use Rattle.snapshot_rows.specs.declared.state.OrphanRow.{OrphanRow}
use Rattle.snapshot_rows.specs.declared.state.PageRow.{PageRow}
use Rattle.snapshot_rows.specs.Order.{page_key, AscendInTwo, AreInOrder}
use Rattle.snapshot_rows.specs.Machines.{place_at, ledger_page, ledger_of}
use Rattle.snapshot_rows.specs.PageParts.{same_key, holder_key, holder_of, AreHoldersApart}
use Rattle.snapshot_rows.proofs.Keys.DifferLemmas.{same_is, same_own}
use Rattle.snapshot_rows.proofs.KeyLemmas.{some, some_same, mapped, found_behind, key_above, Less, pair_is, pair_own, less_apart}
use Rattle.snapshot_rows.proofs.KeyLemmas.{less_through, less_behind}
use Rattle.snapshot_rows.proofs.Pages.HolderLemmas.{loan_row, no_loan, none_some, loaned}
use Rattle.snapshot_rows.proofs.Pages.PageLemmas.{PageForm, is_page}

abbrev holders : List PageRow → List (ℕ × ℕ)
holders rows = flat_map holder_of rows

abbrev found : ℕ × ℕ → List PageRow → Option PageRow
found k rows = find (is_page k) rows

first_holder : (r : PageRow) (rows : List PageRow) → eqb r.kind 0 ≡ false → holders (r ∷ rows) ≡ holder_key r ∷ holders rows
first_holder r rows lent = rw lent refl

first_free : (r : PageRow) (rows : List PageRow) → eqb r.kind 0 ≡ true → holders (r ∷ rows) ≡ holders rows
first_free r rows free = rw free refl

here : (k : ℕ × ℕ) (r : PageRow) (rows : List PageRow) (x : PageRow) → is_page k r ≡ true → found k (r ∷ rows) ≡ Some x → r ≡ x
here k r rows x is e = some_same r x (sym (ap (λ (b : Bool). cond b (some r) (found k rows)) is) ∙ e)

behind : (k : ℕ × ℕ) (r : PageRow) (rows : List PageRow) (x : PageRow) → is_page k r ≡ false → found k (r ∷ rows) ≡ Some x → found k rows ≡ Some x
behind k r rows x isnt e = sym (ap (λ (b : Bool). cond b (some r) (found k rows)) isnt) ∙ e

-- ---- what differs from all

-- what holds of all holders' places holds of that of each page on loan
of_found : (P : ℕ × ℕ → Type 0) (rows : List PageRow) (k : ℕ × ℕ) (x : PageRow) → AllByRecursion P (holders rows) → found k rows ≡ Some x
    → eqb x.kind 0 ≡ false → P (holder_key x)
of_found P [] k x all e lent = absurd cc
of_found P (r ∷ rows) k x all e lent =
    elim (cases_Bool (is_page k r)) [
      | inl is ↦ (
          let same = here k r rows x is e in
          let on : eqb r.kind 0 ≡ false = subst (λ (z : PageRow). eqb z.kind 0 ≡ false) (sym same) lent in
          subst (λ (z : PageRow). P (holder_key z)) same (subst (AllByRecursion P) (first_holder r rows on) all).0
          )
      | inr isnt ↦ (
          let e_rest = behind k r rows x isnt e in
          elim (cases_Bool (eqb r.kind 0)) [
            | inl free ↦ of_found P rows k x (subst (AllByRecursion P) (first_free r rows free) all) e_rest lent
            | inr on ↦ of_found P rows k x (subst (AllByRecursion P) (first_holder r rows on) all).1 e_rest lent
          ]
          )
    ]

stays : (k : ℕ × ℕ) (r : PageRow) (rows : List PageRow) (x : PageRow) → AreInOrder PageForm page_key (Some (page_key r)) rows → found k rows ≡ Some x
    → found k (r ∷ rows) ≡ Some x
stays k r rows x forms e =
    found_behind page_key is_page Less PageForm (λ before p low. less_behind 0 0 before (page_key p) low.0 low.1) (pair_is page_key) (pair_own page_key)
    less_apart less_through k r rows x forms e

-- .. and the other way round
from_found : (P : ℕ × ℕ → Type 0) (before : Option (ℕ × ℕ)) (rows : List PageRow) → AreInOrder PageForm page_key before rows
    → ((k : ℕ × ℕ) (x : PageRow) → found k rows ≡ Some x → eqb x.kind 0 ≡ false → P (holder_key x)) → AllByRecursion P (holders rows)
from_found P before [] forms each = tt
from_found P before (r ∷ rows) forms each =
    let rest = from_found P (Some (page_key r)) rows forms.1 (λ k x e lent. each k x (stays k r rows x forms.1 e) lent) in
    elim (cases_Bool (eqb r.kind 0)) [
      | inl free ↦ subst (AllByRecursion P) (sym (first_free r rows free)) rest
      | inr on ↦ (
          let own : found (page_key r) (r ∷ rows) ≡ Some r = ap (λ (b : Bool). cond b (some r) (found (page_key r) rows)) (pair_own page_key r) in
          subst (AllByRecursion P) (sym (first_holder r rows on)) (each (page_key r) r own on, rest)
          )
    ]

-- ---- holders' places that differ

Alone : List PageRow → Type 0
Alone rows =
    (p q : ℕ × ℕ) (x y : PageRow) → found p rows ≡ Some x → found q rows ≡ Some y → eqb x.kind 0 ≡ false → eqb y.kind 0 ≡ false
    → holder_key x ≡ holder_key y → p ≡ q

differ : {A : Type 0} (a b : ℕ × ℕ) → same_key a b ≡ false → a ≡ b → A
differ a b apart same = (let is = subst (λ (z : ℕ × ℕ). same_key a z ≡ true) same (same_own a) in absurd cc)

rest_distinct : (r : PageRow) (rows : List PageRow) → IsDistinct same_key (holders (r ∷ rows)) → IsDistinct same_key (holders rows)
rest_distinct r rows distinct = elim (cases_Bool (eqb r.kind 0)) [
  | inl free ↦ subst (IsDistinct same_key) (first_free r rows free) distinct
  | inr on ↦ IsDistinct-tail same_key (holder_key r) (holders rows) (subst (IsDistinct same_key) (first_holder r rows on) distinct)
]

first_apart : {A : Type 0} (r : PageRow) (rows : List PageRow) → IsDistinct same_key (holders (r ∷ rows)) → eqb r.kind 0 ≡ false → (k : ℕ × ℕ) (y : PageRow)
    → found k rows ≡ Some y → eqb y.kind 0 ≡ false → holder_key r ≡ holder_key y → A
first_apart r rows distinct on k y e lent same =
    differ (holder_key r) (holder_key y)
    (of_found (λ z. same_key (holder_key r) z ≡ false) rows k y
    (IsDistinct-head same_key (holder_key r) (holders rows) (subst (IsDistinct same_key) (first_holder r rows on) distinct)) e lent)
    same

alone_right : (rows : List PageRow) → IsDistinct same_key (holders rows) → Alone rows
unfolding Alone
alone_right [] distinct p q x y one other on lent same = absurd cc
alone_right (r ∷ rows) distinct p q x y one other on lent same =
    elim (cases_Bool (is_page p r)) [
      | inl first ↦ (
          let x_is = here p r rows x first one in
          let r_on : eqb r.kind 0 ≡ false = subst (λ (z : PageRow). eqb z.kind 0 ≡ false) (sym x_is) on in
          elim (cases_Bool (is_page q r)) [
            | inl second ↦ sym (pair_is page_key p r first) ∙ pair_is page_key q r second
            | inr isnt ↦ first_apart r rows distinct r_on q y (behind q r rows y isnt other) lent (ap holder_key x_is ∙ same)
          ]
          )
      | inr later ↦ elim (cases_Bool (is_page q r)) [
        | inl second ↦ (
            let y_is = here q r rows y second other in
            let r_on : eqb r.kind 0 ≡ false = subst (λ (z : PageRow). eqb z.kind 0 ≡ false) (sym y_is) lent in
            first_apart r rows distinct r_on p x (behind p r rows x later one) on (ap holder_key y_is ∙ sym same)
            )
        | inr isnt ↦ alone_right rows (rest_distinct r rows distinct) p q x y (behind p r rows x later one) (behind q r rows y isnt other) on lent same
      ]
    ]

alone_distinct : (before : Option (ℕ × ℕ)) (rows : List PageRow) → AreInOrder PageForm page_key before rows → Alone rows → IsDistinct same_key (holders rows)
unfolding Alone IsDistinct
alone_distinct before [] forms alone = tt
alone_distinct before (r ∷ rows) forms alone =
    let rest = alone_distinct (Some (page_key r)) rows forms.1 (λ p q x y one other on lent same.
    alone p q x y (stays p r rows x forms.1 one) (stays q r rows y forms.1 other) on lent same) in
    elim (cases_Bool (eqb r.kind 0)) [
      | inl free ↦ subst (IsDistinct same_key) (sym (first_free r rows free)) rest
      | inr on ↦ (
          let own : found (page_key r) (r ∷ rows) ≡ Some r = ap (λ (b : Bool). cond b (some r) (found (page_key r) rows)) (pair_own page_key r) in
          let head = from_found (λ z. same_key (holder_key r) z ≡ false) (Some (page_key r)) rows forms.1
          (λ k x e lent. apart k x e lent own on (cases_Bool (same_key (holder_key r) (holder_key x)))) in
          subst (IsDistinct same_key) (sym (first_holder r rows on)) (IsDistinct-cons same_key (holder_key r) (holders rows) head rest)
          )
    ]
  where
    apart : (k : ℕ × ℕ) (x : PageRow) → found k rows ≡ Some x → eqb x.kind 0 ≡ false → found (page_key r) (r ∷ rows) ≡ Some r → eqb r.kind 0 ≡ false
        → (same_key (holder_key r) (holder_key x) ≡ true) ⊎ (same_key (holder_key r) (holder_key x) ≡ false) → same_key (holder_key r) (holder_key x) ≡ false
    apart k x e lent own on (inl same) =
        let low = key_above page_key is_page Less PageForm (λ before p low. less_behind 0 0 before (page_key p) low.0 low.1) (pair_is page_key)
        (pair_own page_key)
        less_apart less_through (page_key r) k rows x forms.1 e in
        let is = alone (page_key r) k r x own (stays k r rows x forms.1 e) on lent (same_is (holder_key r) (holder_key x) same) in
        absurd (less_apart k (subst (λ (z : ℕ × ℕ). Less z k) is low))
    apart k x e lent own on (inr differ) = differ

-- ---- as places of the ledger

lent_row : (file : List ℕ) (x : PageRow) (loan : PageLoan) → (ledger_page file x).loan ≡ Some loan → (eqb x.kind 0 ≡ false) × (loan_row x ≡ loan)
lent_row file x loan e =
    let says = λ (b : Bool). cond b no_loan (some (loan_row x)) in
    elim (cases_Bool (eqb x.kind 0)) [
      | inl free ↦ none_some loan (sym (ap says free) ∙ e)
      | inr on ↦ (on, some_same (loan_row x) loan (sym (ap says on) ∙ e))
    ]

row_lent : (file : List ℕ) (x : PageRow) → eqb x.kind 0 ≡ false → (ledger_page file x).loan ≡ Some (loan_row x)
row_lent file x on = ap (λ (b : Bool). cond b no_loan (some (loan_row x))) on

pub holders_apart_told : (file : List ℕ) (orphans : List OrphanRow) (rows : List PageRow) (told : Bool) → AscendInTwo page_key rows
    → IsTrue told ↔ IsDistinct same_key (holders rows) → IsTrue told ↔ AreHoldersApart (ledger_of file rows orphans)
unfolding Alone
holders_apart_told file orphans rows told ascend tells = (
  λ holds p q a b one other same. (
      let alone = alone_right rows (tells.0 holds) in
      let first = loaned ((ledger_of file rows orphans).home p) a one in
      let second = loaned ((ledger_of file rows orphans).home q) b other in
      let x = mapped (ledger_page file) (found (p.pid.0, p.vpn.0) rows) first.0 first.1 in
      let y = mapped (ledger_page file) (found (q.pid.0, q.vpn.0) rows) second.0 second.1 in
      let x_lent = lent_row file x.0 a (subst (λ (page : Page). page.loan ≡ Some a) (sym x.2) first.2) in
      let y_lent = lent_row file y.0 b (subst (λ (page : Page). page.loan ≡ Some b) (sym y.2) second.2) in
      let holder : holder_key x.0 ≡ holder_key y.0 =
      ap (λ (l : PageLoan). (l.holder.pid.0, l.holder.vpn.0)) x_lent.1 ∙ ap (λ (at : Place). (at.pid.0, at.vpn.0)) same
      ∙ sym (ap (λ (l : PageLoan). (l.holder.pid.0, l.holder.vpn.0)) y_lent.1) in
      ap (λ (k : ℕ × ℕ). place_at k.0 k.1) (alone (p.pid.0, p.vpn.0) (q.pid.0, q.vpn.0) x.0 y.0 x.1 y.1 x_lent.0 y_lent.0 holder)
      ),
  λ apart.
      tells.1 (alone_distinct None rows ascend (λ p q x y one other on lent same. (
      let first : loan_of ((ledger_of file rows orphans).home (place_at p.0 p.1)) ≡ Some (loan_row x) = ap
      (λ (o : Option PageRow). loan_of (option_map (ledger_page file) o)) one ∙ row_lent file x on in
      let second : loan_of ((ledger_of file rows orphans).home (place_at q.0 q.1)) ≡ Some (loan_row y) = ap
      (λ (o : Option PageRow). loan_of (option_map (ledger_page file) o)) other ∙ row_lent file y lent in
      let is = apart (place_at p.0 p.1) (place_at q.0 q.1) (loan_row x) (loan_row y) first second (ap (λ (k : ℕ × ℕ). place_at k.0 k.1) same) in
      ap (λ (at : Place). (at.pid.0, at.vpn.0)) is
      ))),
)
