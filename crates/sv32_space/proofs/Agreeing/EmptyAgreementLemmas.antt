-- Free entries and free seats agree.
use Rattle.std.proofs.Common.{◌≡◌, ℕ, true, false, Some, None, refl, sym, ap, ◌∙◌, inl, inr}
use Rattle.std.specs.Prelude.{is_some}
use Rattle.std.proofs.lemmas.Bool.{cases_Bool}
use Rattle.std.proofs.lemmas.Option.{none-some}
use Rattle.xk_base.specs.declared.ids.Place.{Place}
use Rattle.phys_pages.specs.declared.infos.Seat.{Seat}
use Rattle.phys_pages.specs.Owners.{no_infos}
use Rattle.ledger_model.specs.Places.{is_user_place}
use Rattle.sv32_space.specs.declared.sides.Side.{Side}
use Rattle.sv32_space.specs.declared.sides.Side.TheVariants.{Own, LentOut, LentIn, MutOut, MutIn}
use Rattle.sv32_space.specs.Agreement.{EntriesAgree}
use Rattle.sv32_space.specs.declared.sides.Entry.TheVariants.{Free, At}
use Rattle.sv32_space.specs.Entries.{Entries}

module _ (procs : ℕ) (E : Entries) (free : (q : Place) → is_user_place procs q ≡ true → E q ≡ Some Free)
    (elsewhere : (q : Place) → is_user_place procs q ≡ false → E q ≡ None) where
  no_page : (q : Place) (side : Side) (s : Seat) → E q ≡ Some (At side s) → ⊥
  no_page q side s e = elim (cases_Bool (is_user_place procs q)) [
    | inl user ↦ clash (sym (free q user) ∙ e)
    | inr not_user ↦ none-some (At side s) (sym (elsewhere q not_user) ∙ e)
  ]
    where
      clash : Some Free ≡ Some (At side s) → ⊥
      clash h = cc

  there : (q : Place) → is_some (E q) ≡ is_user_place procs q
  there q = elim (cases_Bool (is_user_place procs q)) [
    | inl user ↦ ap is_some (free q user) ∙ sym user
    | inr not_user ↦ ap is_some (elsewhere q not_user) ∙ sym not_user
  ]

  -- THE AGREEMENT
  pub empty_agrees : EntriesAgree procs E no_infos
  empty_agrees = record {
    spelled = there;
    used = λ s. refl;
    home = λ s home e. absurd (none-some _ e);
    lender = λ s home loan e. absurd (none-some _ e);
    holder = λ s home loan e. absurd (none-some _ e);
    own = λ q right s e. absurd (no_page q (Own right) s e);
    lent_out = λ q right s e. absurd (no_page q (LentOut right) s e);
    mut_out = λ q x s e. absurd (no_page q (MutOut x) s e);
    lent_in = λ q s e. absurd (no_page q LentIn s e);
    mut_in = λ q s e. absurd (no_page q MutIn s e);
  }
