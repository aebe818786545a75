-- A page that moves to another seat is named by its home's entry and its holder's, and by no other.
use Rattle.std.proofs.Common.{◌≡◌, ◌≢◌, ℕ, Option, Some, None, refl, sym, ap, ◌∙◌, inl, inr, arith}
use Rattle.std.specs.Option.{option_map}
use Rattle.std.proofs.lemmas.Bool.{cond-false}
use Rattle.xk_base.specs.declared.ids.Place.{Place}
use Rattle.phys_pages.specs.declared.infos.LoanInfo.{LoanInfo}
use Rattle.phys_pages.specs.declared.infos.Seat.{Seat}
use Rattle.phys_pages.specs.Owners.{seat_eq}
use Rattle.phys_pages.proofs.OwnerLemmas.{seat_tells}
use Rattle.ledger_model.proofs.PlaceLemmas.{same_place_tells}
use Rattle.sv32_space.specs.declared.sides.Side.{Side}
use Rattle.sv32_space.specs.Agreement.{Infos, EntriesAgree, owned_by, on_loan}
use Rattle.sv32_space.specs.declared.sides.Entry.{Entry}
use Rattle.sv32_space.specs.declared.sides.Entry.TheVariants.{Free, At, OnConsole}
use Rattle.sv32_space.specs.Entries.{Entries}
use Rattle.sv32_space.specs.PageChanges.{with_entry, renamed, renamed_entry}
use Rattle.sv32_space.proofs.Ledgers.EntryLedgerLemmas.{names_owned, names_lent, names_orphan}
use Rattle.sv32_space.proofs.Ledgers.PageLedgerLemmas.{entry_put, entry_kept}

-- an entry that names the seat, and one that doesn't
renamed-here : (from to : Seat) (o : Option Entry) (side : Side) → o ≡ Some (At side from)
    → option_map (renamed_entry from to) o ≡ Some (At side to)
renamed-here from to o side e = ap (option_map (renamed_entry from to)) e ∙ let t = seat_tells from from in grind (arith, t)

renamed-other : (from to : Seat) (o : Option Entry) → ((side : Side) → o ≢ Some (At side from)) → option_map (renamed_entry from to) o ≡ o
renamed-other from to None h = refl
renamed-other from to (Some Free) h = refl
renamed-other from to (Some (At side s)) h = elim (seat_tells s from) [
  | inl k ↦ absurd (h side (ap (λ t. Some (At side t)) k.0))
  | inr k ↦ ap (λ t. Some (At side t)) (cond-false (seat_eq s from) to s k.1)
]
renamed-other from to (Some (OnConsole w)) h = refl

module _ (procs : ℕ) (E : Entries) (I : Infos) (from to : Seat) (agree : EntriesAgree procs E I) where
  -- one entry names the seat
  pub renamed_one : (place : Place) (side : Side) → E place ≡ Some (At side from) → ((q : Place) (other : Side) → E q ≡ Some (At other from) → q ≡ place)
      → renamed from to E ≡ with_entry E place (At side to)
  renamed_one place side here only = λ i q. at q i
    where
      at : (q : Place) → renamed from to E q ≡ with_entry E place (At side to) q
      at q = elim (same_place_tells q place) [
        | inl k ↦ renamed-here from to (E q) side (ap E k.1 ∙ here) ∙ sym (entry_put E place q (At side to) k.1)
        | inr k ↦ renamed-other from to (E q) (λ other e. k.1 (only q other e)) ∙ sym (entry_kept E place q (At side to) k.1)
      ]

  pub renamed_owned : (home : Place) (side : Side) → I from ≡ Some (owned_by home) → E home ≡ Some (At side from)
      → renamed from to E ≡ with_entry E home (At side to)
  renamed_owned home side i here = renamed_one home side here (λ q other e. names_owned procs E I agree home q other from i e)

  pub renamed_orphan : (loan : LoanInfo) (side : Side) → I from ≡ Some (on_loan None loan) → E loan.holder ≡ Some (At side from)
      → renamed from to E ≡ with_entry E loan.holder (At side to)
  renamed_orphan loan side i here = renamed_one loan.holder side here (λ q other e. names_orphan procs E I agree q loan other from i e)

  -- two entries name it
  pub renamed_lent : (home : Place) (loan : LoanInfo) (side held : Side) → I from ≡ Some (on_loan (Some home) loan)
      → E home ≡ Some (At side from) → E loan.holder ≡ Some (At held from)
      → renamed from to E ≡ with_entry (with_entry E home (At side to)) loan.holder (At held to)
  renamed_lent home loan side held i here there = λ k q. at q k
    where
      at : (q : Place) → renamed from to E q ≡ with_entry (with_entry E home (At side to)) loan.holder (At held to) q
      at q = elim (same_place_tells q loan.holder) [
        | inl k ↦ renamed-here from to (E q) held (ap E k.1 ∙ there) ∙ sym (entry_put (with_entry E home (At side to)) loan.holder q (At held to) k.1)
        | inr k ↦ elim (same_place_tells q home) [
          | inl j ↦ renamed-here from to (E q) side (ap E j.1 ∙ here)
              ∙ sym (entry_kept (with_entry E home (At side to)) loan.holder q (At held to) k.1 ∙ entry_put E home q (At side to) j.1)
          | inr j ↦ renamed-other from to (E q) (λ other e. k.1 (names_lent procs E I agree home q loan other from i e j.1))
              ∙ sym (entry_kept (with_entry E home (At side to)) loan.holder q (At held to) k.1 ∙ entry_kept E home q (At side to) j.1)
        ]
      ]
