-- The owner of a page changes by a move and by a death alone, and the pages of each owner add up.
use Rattle.std.proofs.Common.{◌≡◌, ℕ, ◌+◌, Bool, ◌&&◌, false, List, [], ◌∷◌, length, Option, Some, None, refl, sym, ap, ◌∙◌, inl, inr, arith, subst}
use Rattle.std.specs.Option.{option_map_or}
use Rattle.std.proofs.lemmas.Bool.{and_from, and_parts, eq-eqb, eqb-true, false≢true}
use Rattle.std.proofs.lemmas.Option.{same_Some}
use Rattle.xk_base.specs.declared.ids.Pid.{Pid}
use Rattle.xk_base.specs.declared.limits.TheConstants.{PROCESS_LIMIT}
use Rattle.xk_base.specs.declared.messages.MsgKind.TheVariants.{Move}
use Rattle.ledger_model.specs.Ledger.{PageName}
use Rattle.machine_model.specs.Runs.Matched.{Matched}
use Rattle.machine_model.specs.Runs.Moments.{IsRun, Moment, state_at}
use Rattle.machine_model.specs.State.Machine.{Machine}
use Rattle.machine_laws.proofs.Stepping.EveryStepLemmas.{every_cause_keeps}
use Rattle.lifetime_laws.specs.Causes.{Dies, IsSentBy}
use Rattle.lifetime_laws.specs.Counts.{count_names}
use Rattle.lifetime_laws.specs.Deeds.{Bereft, Forwarded, GivenBack, Lent, Moved, Reduced, Stays, StaysOrphan, Stored, stands}
use Rattle.lifetime_laws.specs.Lives.{PagesLive}
use Rattle.lifetime_laws.specs.Owners.{EveryOwnerBalances, GainsByMoves, IsCountedOf, LosesByMoves, gained_in, is_owned, lost_in}
use Rattle.lifetime_laws.specs.Owners.{owned_pages}
use Rattle.lifetime_laws.proofs.Lives.BalanceLemmas.{split_names, stands_lies}
use Rattle.lifetime_laws.proofs.Lives.CountLemmas.{ArePaired, paired_counts}
use Rattle.lifetime_laws.proofs.Lives.RunLemmas.{moment_lives}
use Rattle.lifetime_laws.proofs.Lives.ServedLemmas.{same_pid}

-- ---- one page

pub gains_by_moves : GainsByMoves
gains_by_moves before moment _ _ _ pid (Stays p page was now) own = inl own
gains_by_moves before moment _ _ _ pid (StaysOrphan q orphan was now) own = inl own
gains_by_moves before moment _ _ _ pid (Stored name other instruction store e) own = inl own
gains_by_moves before moment _ _ _ pid (Reduced p page right was unlent within now call) own = inl own
gains_by_moves before moment _ _ _ pid (Lent p page loan kind was unlent now lends sent) own = inl own
gains_by_moves before moment _ _ _ pid (Forwarded p page loan to was lent now forwarded) own = inl own
gains_by_moves before moment _ _ _ pid (GivenBack p page loan was lent now ended) own = inl own
gains_by_moves before moment _ _ _ pid (Moved from to page number was unlent free now left sent) own =
    inr (
      from.pid,
      number,
      refl,
      eq-eqb from.pid.0 from.pid.0 refl,
      subst (λ x. IsSentBy from.pid x Move number before moment) (same_pid to.pid pid (eqb-true to.pid.0 pid.0 own)) sent,
    )
gains_by_moves before moment _ _ _ pid (Bereft home q orphan free now was number kind dies) own = absurd (false≢true own)

pub loses_by_moves : LosesByMoves
loses_by_moves before moment _ _ _ pid (Stays p page was now) own = inl own
loses_by_moves before moment _ _ _ pid (StaysOrphan q orphan was now) own = inl own
loses_by_moves before moment _ _ _ pid (Stored name other instruction store e) own = inl own
loses_by_moves before moment _ _ _ pid (Reduced p page right was unlent within now call) own = inl own
loses_by_moves before moment _ _ _ pid (Lent p page loan kind was unlent now lends sent) own = inl own
loses_by_moves before moment _ _ _ pid (Forwarded p page loan to was lent now forwarded) own = inl own
loses_by_moves before moment _ _ _ pid (GivenBack p page loan was lent now ended) own = inl own
loses_by_moves before moment _ _ _ pid (Moved from to page number was unlent free now left sent) own =
    inr (inl (
      to.pid,
      number,
      refl,
      eq-eqb to.pid.0 to.pid.0 refl,
      subst (λ x. IsSentBy x to.pid Move number before moment) (same_pid from.pid pid (eqb-true from.pid.0 pid.0 own)) sent,
    ))
loses_by_moves before moment _ _ _ pid (Bereft home q orphan free now was number kind dies) own =
    inr (inr (
      orphan.number,
      refl,
      subst (λ x. Dies x before moment) (same_pid home.pid pid (eqb-true home.pid.0 pid.0 own)) dies,
    ))

-- ---- one moment

-- the name is there, and passes
some_passes : (test : PageName → Bool) (o : Option PageName) (name : PageName) → o ≡ Some name → option_map_or test o false ≡ test name
some_passes test o name e = ap (λ x. option_map_or test x false) e

module _ (pid : Pid) (before : Machine) (moment : Moment) (h : Matched before) (then_ : Matched moment.machine) (live : PagesLive before moment) where
  abbrev own_before : PageName → Bool
  own_before old = stands before.ledger old && is_owned pid old

  abbrev own_after : PageName → Bool
  own_after new = stands moment.machine.ledger new && is_owned pid new

  abbrev kept : PageName → Bool
  kept old = own_before old && option_map_or (is_owned pid) (live.to old) false

  abbrev had : PageName → Bool
  had new = own_after new && option_map_or (is_owned pid) (live.from new) false

  abbrev Pair : PageName → PageName → Type 0
  Pair old new = (live.to old ≡ Some new) × (live.from new ≡ Some old)

  no_name : (o : Option PageName) → o ≡ None → option_map_or (is_owned pid) o false ≡ false
  no_name o e = ap (λ x. option_map_or (is_owned pid) x false) e

  pairs : ArePaired PROCESS_LIMIT Pair kept had
  pairs = record {
    left = λ old e.
        let parts = and_parts (own_before old) (option_map_or (is_owned pid) (live.to old) false) e in
        let own = and_parts (stands before.ledger old) (is_owned pid old) parts.0 in
        elim (live.goes old own.0) [
          | inl new ↦ (
            new.0,
            and_from (own_after new.0) (option_map_or (is_owned pid) (live.from new.0) false)
                (and_from (stands moment.machine.ledger new.0) (is_owned pid new.0) new.1
                (sym (some_passes (is_owned pid) (live.to old) new.0 new.2.forth) ∙ parts.1))
                (some_passes (is_owned pid) (live.from new.0) old new.2.back ∙ own.1),
            (new.2.forth, new.2.back),
          )
          | inr gone ↦ absurd (false≢true (sym (no_name (live.to old) gone.0) ∙ parts.1))
        ];
    right = λ new e.
        let parts = and_parts (own_after new) (option_map_or (is_owned pid) (live.from new) false) e in
        let own = and_parts (stands moment.machine.ledger new) (is_owned pid new) parts.0 in
        elim (live.comes new own.0) [
          | inl old ↦ (
            old.0,
            and_from (own_before old.0) (option_map_or (is_owned pid) (live.to old.0) false)
                (and_from (stands before.ledger old.0) (is_owned pid old.0) old.1
                (sym (some_passes (is_owned pid) (live.from new) old.0 old.2.back) ∙ parts.1))
                (some_passes (is_owned pid) (live.to old.0) new old.2.forth ∙ own.1),
            (old.2.forth, old.2.back),
          )
          | inr made ↦ absurd (false≢true (sym (no_name (live.from new) made.0) ∙ parts.1))
        ];
    left_lies = λ old e.
        let parts = and_parts (own_before old) (option_map_or (is_owned pid) (live.to old) false) e in
        stands_lies before h old (and_parts (stands before.ledger old) (is_owned pid old) parts.0).0;
    right_lies = λ new e.
        let parts = and_parts (own_after new) (option_map_or (is_owned pid) (live.from new) false) e in
        stands_lies moment.machine then_ new (and_parts (stands moment.machine.ledger new) (is_owned pid new) parts.0).0;
  }

  same_number : count_names PROCESS_LIMIT had ≡ count_names PROCESS_LIMIT kept
  same_number =
      paired_counts PROCESS_LIMIT Pair (λ x y z a b. same_Some y z (sym a.0 ∙ b.0)) (λ x y z a b. same_Some x y (sym a.1 ∙ b.1))
      (count_names PROCESS_LIMIT kept) kept had pairs refl

  owner_balances : owned_pages pid before.ledger + gained_in pid before moment live
      ≡ owned_pages pid moment.machine.ledger + lost_in pid before moment live
  owner_balances =
      sums (owned_pages pid before.ledger) (owned_pages pid moment.machine.ledger) (count_names PROCESS_LIMIT had) (count_names PROCESS_LIMIT kept)
      (gained_in pid before moment live) (lost_in pid before moment live)
      (split_names own_before (λ x. option_map_or (is_owned pid) (live.to x) false))
      (split_names own_after (λ x. option_map_or (is_owned pid) (live.from x) false)) same_number
    where
      sums : (x y a b gained lost : ℕ) → x ≡ b + lost → y ≡ a + gained → a ≡ b → x + gained ≡ y + lost
      sums x y a b gained lost e f g = omega arith

-- ---- runs

abbrev Balances : Pid → Machine → List Moment → Type 0
Balances pid start moments =
    (gained : ℕ) × (lost : ℕ) × IsCountedOf pid start moments gained lost
    × (owned_pages pid start.ledger + gained ≡ owned_pages pid (state_at start moments (length moments)).ledger + lost)

balanced_then : (pid : Pid) (start : Machine) (moment : Moment) (moments : List Moment) → Matched start → Matched moment.machine → PagesLive start moment
    → Balances pid moment.machine moments → Balances pid start (moment ∷ moments)
unfolding IsCountedOf state_at
balanced_then pid start moment moments h then_ live rest = (
  gained_in pid start moment live + rest.0,
  lost_in pid start moment live + rest.1,
  (live, rest.0, rest.1, rest.2, refl, refl),
  sums (owned_pages pid start.ledger) (owned_pages pid moment.machine.ledger)
      (owned_pages pid (state_at moment.machine moments (length moments)).ledger) (gained_in pid start moment live) rest.0
      (lost_in pid start moment live) rest.1 (owner_balances pid start moment h then_ live) rest.3,
)
  where
    sums : (x y z gained later lost went : ℕ) → x + gained ≡ y + lost → y + later ≡ z + went → x + (gained + later) ≡ z + (lost + went)
    sums x y z gained later lost went e f = omega arith

pub every_owner_balances : EveryOwnerBalances
unfolding IsRun IsCountedOf state_at
every_owner_balances start [] pid h run = (0, 0, (refl, refl), refl)
every_owner_balances start (moment ∷ moments) pid h run =
    balanced_then pid start moment moments h (subst Matched (sym run.0) (every_cause_keeps moment.cause start h))
    (moment_lives start moment h (λ i. record { cause = moment.cause; machine = run.0 i }))
    (every_owner_balances moment.machine moments pid (subst Matched (sym run.0) (every_cause_keeps moment.cause start h)) run.1)
