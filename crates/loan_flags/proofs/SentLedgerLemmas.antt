-- What may be sent by entries is what may be sent by their ledger.
use Rattle.std.proofs.Common.{◌≡◌, ℕ, Bool, true, false, ◌&&◌, ◌||◌, List, [], ◌∷◌, Option, Some, None, refl, sym, ap, ◌∙◌}
use Rattle.std.specs.Prelude.{not}
use Rattle.std.specs.List.{list_any}
use Rattle.std.specs.Option.{option_and_then}
use Rattle.xk_base.specs.declared.ids.Place.{Place}
use Rattle.xk_base.specs.declared.pages.LoanKind.{LoanKind}
use Rattle.xk_base.specs.declared.pages.LoanKind.TheVariants.{Shared, Exclusive}
use Rattle.phys_pages.specs.declared.infos.PageInfo.{PageInfo}
use Rattle.ledger_model.specs.Conditions.{is_console}
use Rattle.ledger_model.specs.Ledger.{Ledger, Page}
use Rattle.ledger_model.specs.Places.{run}
use Rattle.ledger_model.specs.Reach.{Role, is_free, role_at}
use Rattle.ledger_model.specs.RunTests.{any_console, any_free, any_lacks, any_not_sent, any_on_loan, asks_more, is_on_loan}
use Rattle.sv32_space.specs.declared.sides.Side.TheVariants.{Own, LentOut, LentIn, MutOut, MutIn}
use Rattle.sv32_space.specs.declared.sides.Entry.{Entry}
use Rattle.sv32_space.specs.declared.sides.Entry.TheVariants.{Free, At, OnConsole}
use Rattle.sv32_space.specs.Agreement.{EntriesAgree, Infos, home_in}
use Rattle.sv32_space.specs.Entries.{Entries}
use Rattle.sv32_space.specs.EntryLedger.{SeatBytes, is_free_entry, ledger_of, page_of_entry}
use Rattle.sv32_space.proofs.Agreeing.EntryRoleLemmas.{entry_role, held_role, role-entry}
use Rattle.sv32_space.proofs.Agreeing.RoleLemmas.{free_by_entry}
use Rattle.loan_flags.specs.Sending.{any_missing, any_unsendable, is_unsendable}

-- a page of that role, at its home or not, can't be sent
abbrev is_not_sent : Bool → Role → Option Page → Bool
is_not_sent mutably role home = is_on_loan role || is_console home || (mutably && asks_more (record { w = true; x = false }) home)

held_on_loan : (p : Place) (kind : LoanKind) (bytes : List ℕ) (info : Option PageInfo) (h : Option Place) → is_on_loan (held_role p kind bytes info h) ≡ true
held_on_loan p kind bytes info None = refl
held_on_loan p kind bytes info (Some home) = refl

nothing_asked : (mutably : Bool) → false ≡ (mutably && false)
nothing_asked true = refl
nothing_asked false = refl

asks_w : (mutably w : Bool) → (mutably && not w) ≡ (mutably && not (w && true))
asks_w mutably true = refl
asks_w mutably false = refl

module _ (I : Infos) (B : SeatBytes) (p : Place) (mutably : Bool) where
  -- the entry of a place tells whether its page can be sent
  sent-entry : (o : Option Entry) → is_unsendable mutably o ≡ is_not_sent mutably (entry_role I B p o) (option_and_then (page_of_entry I B) o)
  sent-entry None = nothing_asked mutably
  sent-entry (Some Free) = nothing_asked mutably
  sent-entry (Some (At (Own right) s)) = asks_w mutably right.w
  sent-entry (Some (At (LentOut right) s)) = refl
  sent-entry (Some (At LentIn s)) =
      sym (ap (λ b. b || false || (mutably && false)) (held_on_loan p Shared (B s) (I s) (home_in (I s))))
  sent-entry (Some (At (MutOut x) s)) = refl
  sent-entry (Some (At MutIn s)) =
      sym (ap (λ b. b || false || (mutably && false)) (held_on_loan p Exclusive (B s) (I s) (home_in (I s))))
  sent-entry (Some (OnConsole w)) = refl

-- ---- tests of a run

-- two tests that tell the same of each item
any_same : (f g : Place → Bool) → ((p : Place) → f p ≡ g p) → (xs : List Place) → list_any f xs ≡ list_any g xs
any_same f g h xs = ap (λ k. list_any k xs) (λ i p. h p i)

split : (a b m c F G H : Bool) → ((a || b || (m && c)) || (F || G || (m && H))) ≡ ((a || F) || (b || G) || (m && (c || H)))
split true b m c F G H = refl
split false true m c true G H = refl
split false true m c false G H = refl
split false false false c F G H = refl
split false false true true true G H = refl
split false false true true false true H = refl
split false false true true false false H = refl
split false false true false F G H = refl

no_item : (m : Bool) → false ≡ (m && false)
no_item true = refl
no_item false = refl

-- one test of three parts is three tests
any_parts : (f g h : Place → Bool) (m : Bool) (xs : List Place)
    → list_any (λ p. f p || g p || (m && h p)) xs ≡ (list_any f xs || list_any g xs || (m && list_any h xs))
any_parts f g h m [] = no_item m
any_parts f g h m (p ∷ xs) =
    ap (λ b. (f p || g p || (m && h p)) || b) (any_parts f g h m xs)
    ∙ split (f p) (g p) m (h p) (list_any f xs) (list_any g xs) (list_any h xs)

module _ (procs : ℕ) (E : Entries) (I : Infos) (B : SeatBytes) (agree : EntriesAgree procs E I) where
  abbrev L : Ledger
  L = ledger_of E I B

  -- a place has no page
  pub missing_is_free : (first : Place) (n : ℕ) → any_missing E first n ≡ any_free procs (ledger_of E I B) first n
  unfolding any_missing any_free
  missing_is_free first n = any_same (λ p. is_free_entry (E p)) (is_free procs L) (λ p. sym (free_by_entry procs E I B agree p)) (run first n)

  sent_at : (mutably : Bool) (p : Place) → is_unsendable mutably (E p) ≡ is_not_sent mutably (role_at procs L p) (L.home p)
  unfolding ledger_of
  sent_at mutably p =
      sent-entry I B p mutably (E p)
      ∙ ap (λ r. is_not_sent mutably r (option_and_then (page_of_entry I B) (E p))) (sym (role-entry procs E I B agree p (E p) refl))

  -- a page can't be sent
  pub unsendable_is_not_sent : (mutably : Bool) (first : Place) (n : ℕ)
      → any_unsendable mutably E first n ≡ any_not_sent procs (ledger_of E I B) first n mutably
  unfolding any_unsendable any_on_loan any_console any_lacks
  unsendable_is_not_sent mutably first n =
      any_same (λ p. is_unsendable mutably (E p)) (λ p. is_not_sent mutably (role_at procs L p) (L.home p)) (sent_at mutably) (run first n)
      ∙ any_parts (λ p. is_on_loan (role_at procs L p)) (λ p. is_console (L.home p)) (λ p. asks_more (record { w = true; x = false }) (L.home p)) mutably (run first n)
