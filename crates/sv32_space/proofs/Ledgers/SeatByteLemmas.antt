-- The ledger of entries and owners, as the bytes of seats change.
use Rattle.std.proofs.Common.{◌≡◌, ◌≢◌, ℕ, List, Option, Some, None, refl, sym, ap, subst, ◌∙◌, inl, inr, arith}
use Rattle.std.specs.Option.{option_and_then, option_map}
use Rattle.std.proofs.lemmas.Bool.{cond-true, cond-false}
use Rattle.std.proofs.lemmas.Option.{none-some, same_Some}
use Rattle.xk_base.specs.declared.ids.Place.{Place}
use Rattle.phys_pages.specs.declared.infos.LoanInfo.{LoanInfo}
use Rattle.phys_pages.specs.declared.infos.PageInfo.{PageInfo}
use Rattle.phys_pages.specs.declared.infos.Seat.{Seat}
use Rattle.phys_pages.proofs.OwnerLemmas.{seat_tells}
use Rattle.ledger_model.specs.Ledger.{Homed, Orphaned}
use Rattle.ledger_model.specs.Loans.{bare, bare_page, bare_orphan}
use Rattle.ledger_model.specs.Places.{same_place}
use Rattle.ledger_model.specs.Steps.{write, written, written_page}
use Rattle.ledger_model.proofs.LedgerLemmas.{same_ledger, cases_Option}
use Rattle.ledger_model.proofs.PlaceLemmas.{same_place_tells}
use Rattle.sv32_space.specs.declared.sides.Side.{Side}
use Rattle.sv32_space.specs.declared.sides.Side.TheVariants.{Own, LentOut, LentIn, MutOut, MutIn}
use Rattle.sv32_space.specs.Agreement.{Infos, EntriesAgree, on_loan, holder_side, home_in}
use Rattle.sv32_space.specs.declared.sides.Entry.{Entry}
use Rattle.sv32_space.specs.declared.sides.Entry.TheVariants.{Free, At, OnConsole}
use Rattle.sv32_space.specs.Entries.{Entries}
use Rattle.sv32_space.specs.EntryLedger.{SeatBytes, ledger_of, page_of_side, page_of_entry, orphan_of_info, orphan_of_side, orphan_of_entry}
use Rattle.sv32_space.specs.PageChanges.{with_bytes}
use Rattle.sv32_space.proofs.Ledgers.EntryLedgerLemmas.{home_at, orphan_at, Stays, home_stays, orphan_stays, names_free, names_orphan, page_of_holder, orphan_of_holder}
use Rattle.sv32_space.proofs.Ledgers.PageLedgerLemmas.{seat_put, seat_kept}

-- only the bytes of used seats count
pub used_bytes : (procs : ℕ) (E : Entries) (I : Infos) (B C : SeatBytes) → EntriesAgree procs E I
    → ((s : Seat) (info : PageInfo) → I s ≡ Some info → C s ≡ B s) → ledger_of E I C ≡ ledger_of E I B
used_bytes procs E I B C agree same = same_ledger (ledger_of E I C) (ledger_of E I B)
    (λ p. home_stays E E I I B C p refl (stays p)) (λ p. orphan_stays E E I I B C p refl (stays p))
  where
    stays : (p : Place) (side : Side) (t : Seat) → E p ≡ Some (At side t) → Stays I I B C t
    stays p side t e = elim (cases_Option (I t)) [
      | inl none ↦ absurd (names_free procs E I agree p side t e none)
      | inr some ↦ record { info = refl; bytes = same t some.0 some.1 }
    ]

-- rights and loans don't depend on bytes
bare_page_same : (I : Infos) (B C : SeatBytes) (o : Option Entry)
    → option_map bare_page (option_and_then (page_of_entry I C) o) ≡ option_map bare_page (option_and_then (page_of_entry I B) o)
bare_page_same I B C None = refl
bare_page_same I B C (Some Free) = refl
bare_page_same I B C (Some (At (Own r) s)) = refl
bare_page_same I B C (Some (At (LentOut r) s)) = refl
bare_page_same I B C (Some (At LentIn s)) = refl
bare_page_same I B C (Some (At (MutOut x) s)) = refl
bare_page_same I B C (Some (At MutIn s)) = refl
bare_page_same I B C (Some (OnConsole w)) = refl

bare_info_same : (home : Option Place) (loan : Option LoanInfo) (b c : List ℕ)
    → option_map bare_orphan (orphan_of_info c (record { home = home; loan = loan })) ≡ option_map bare_orphan (orphan_of_info b (record { home = home; loan = loan }))
bare_info_same None None b c = refl
bare_info_same None (Some loan) b c = refl
bare_info_same (Some home) loan b c = refl

bare_held_same : (o : Option PageInfo) (b c : List ℕ)
    → option_map bare_orphan (option_and_then (orphan_of_info c) o) ≡ option_map bare_orphan (option_and_then (orphan_of_info b) o)
bare_held_same None b c = refl
bare_held_same (Some info) b c = bare_info_same info.home info.loan b c

bare_orphan_same : (I : Infos) (B C : SeatBytes) (o : Option Entry)
    → option_map bare_orphan (option_and_then (orphan_of_entry I C) o) ≡ option_map bare_orphan (option_and_then (orphan_of_entry I B) o)
bare_orphan_same I B C None = refl
bare_orphan_same I B C (Some Free) = refl
bare_orphan_same I B C (Some (At (Own r) s)) = refl
bare_orphan_same I B C (Some (At (LentOut r) s)) = refl
bare_orphan_same I B C (Some (At LentIn s)) = bare_held_same (I s) (B s) (C s)
bare_orphan_same I B C (Some (At (MutOut x) s)) = refl
bare_orphan_same I B C (Some (At MutIn s)) = bare_held_same (I s) (B s) (C s)
bare_orphan_same I B C (Some (OnConsole w)) = refl

pub bare_same : (E : Entries) (I : Infos) (B C : SeatBytes) → bare (ledger_of E I C) ≡ bare (ledger_of E I B)
unfolding bare ledger_of
bare_same E I B C = same_ledger (bare (ledger_of E I C)) (bare (ledger_of E I B))
    (λ p. bare_page_same I B C (E p)) (λ p. bare_orphan_same I B C (E p))

-- ---- bytes that are written

-- the bytes of a page at its home: its page has them, and nothing else changes
module _ (procs : ℕ) (E : Entries) (I : Infos) (B : SeatBytes) (place : Place) (side : Side) (s : Seat) (offset : ℕ) (bytes : List ℕ) (agree : EntriesAgree procs E I) (here : E place ≡ Some (At side s)) (mine : home_in (I s) ≡ Some place) where
  abbrev C : SeatBytes
  C = with_bytes B s (written (B s) offset bytes)

  -- no orphan is at a seat with a home
  no_orphan : (o : Option PageInfo) (b : List ℕ) → home_in o ≡ Some place → option_and_then (orphan_of_info b) o ≡ None
  no_orphan None b h = refl
  no_orphan (Some info) b h = rw h refl

  owner_is_home : (q : Place) (other : Side) → E q ≡ Some (At other s) → q ≢ place → (b : List ℕ) → page_of_side other (I s) b ≡ None
  owner_is_home q (Own r) e ne b = let a = agree.own q r s e in absurd (ne (same_Some q place (sym (ap home_in a) ∙ mine)))
  owner_is_home q (LentOut r) e ne b = let a = agree.lent_out q r s e in absurd (ne (same_Some q place (sym (ap home_in a) ∙ mine)))
  owner_is_home q LentIn e ne b = refl
  owner_is_home q (MutOut x) e ne b = let a = agree.mut_out q x s e in absurd (ne (same_Some q place (sym (ap home_in a) ∙ mine)))
  owner_is_home q MutIn e ne b = refl

  no_orphan_side : (other : Side) (b : List ℕ) → orphan_of_side other (I s) b ≡ None
  no_orphan_side (Own r) b = refl
  no_orphan_side (LentOut r) b = refl
  no_orphan_side LentIn b = no_orphan (I s) b mine
  no_orphan_side (MutOut x) b = refl
  no_orphan_side MutIn b = no_orphan (I s) b mine

  page_written : (other : Side) (o : Option PageInfo) (b : List ℕ)
      → page_of_side other o (written b offset bytes) ≡ option_map (written_page offset bytes) (page_of_side other o b)
  page_written (Own r) o b = refl
  page_written (LentOut r) o b = refl
  page_written LentIn o b = refl
  page_written (MutOut x) o b = refl
  page_written MutIn o b = refl

  homes : (q : Place) → (ledger_of E I C).home q ≡ (write (Homed place) offset bytes (ledger_of E I B)).home q
  unfolding write
  homes q = elim (same_place_tells q place) [
    | inl k ↦
        let e : E q ≡ Some (At side s) = ap E k.1 ∙ here in
        home_at E I C q (At side s) e
        ∙ (ap (page_of_side side (I s)) (seat_put B s (written (B s) offset bytes))
        ∙ (page_written side (I s) (B s)
        ∙ sym (cond-true (same_place q place) (option_map (written_page offset bytes) ((ledger_of E I B).home q)) ((ledger_of E I B).home q) k.0
        ∙ ap (option_map (written_page offset bytes)) (home_at E I B q (At side s) e))))
    | inr k ↦ by_entry (E q) refl k.1
        ∙ sym (cond-false (same_place q place) (option_map (written_page offset bytes) ((ledger_of E I B).home q)) ((ledger_of E I B).home q) k.0)
  ]
    where
      by_entry : (o : Option Entry) → E q ≡ o → q ≢ place → (ledger_of E I C).home q ≡ (ledger_of E I B).home q
      by_entry o e ne = elim (cases_Option o) [
        | inl none ↦ home_stays E E I I B C q refl (λ other t f. absurd (none-some (At other t) (sym (e ∙ none) ∙ f)))
        | inr some ↦ by_value some.0 (e ∙ some.1)
      ]
        where
          by_value : (x : Entry) → E q ≡ Some x → (ledger_of E I C).home q ≡ (ledger_of E I B).home q
          by_value Free f = home_at E I C q Free f ∙ sym (home_at E I B q Free f)
          by_value (OnConsole w) f = home_at E I C q (OnConsole w) f ∙ sym (home_at E I B q (OnConsole w) f)
          by_value (At other t) f = elim (seat_tells t s) [
            | inl same ↦
                let g : E q ≡ Some (At other s) = f ∙ ap (λ u. Some (At other u)) same.0 in
                home_at E I C q (At other s) g ∙ (owner_is_home q other g ne (C s)
                ∙ sym (home_at E I B q (At other s) g ∙ owner_is_home q other g ne (B s)))
            | inr apart ↦ home_at E I C q (At other t) f
                ∙ (ap (page_of_side other (I t)) (seat_kept B s t (written (B s) offset bytes) apart.0) ∙ sym (home_at E I B q (At other t) f))
          ]

  orphans : (q : Place) → (ledger_of E I C).orphan q ≡ (ledger_of E I B).orphan q
  orphans q = elim (cases_Option (E q)) [
    | inl none ↦ orphan_stays E E I I B C q refl (λ other t f. absurd (none-some (At other t) (sym none ∙ f)))
    | inr some ↦ by_value some.0 some.1
  ]
    where
      by_value : (x : Entry) → E q ≡ Some x → (ledger_of E I C).orphan q ≡ (ledger_of E I B).orphan q
      by_value Free f = orphan_at E I C q Free f ∙ sym (orphan_at E I B q Free f)
      by_value (OnConsole w) f = orphan_at E I C q (OnConsole w) f ∙ sym (orphan_at E I B q (OnConsole w) f)
      by_value (At other t) f = elim (seat_tells t s) [
        | inl same ↦
            let g : E q ≡ Some (At other s) = f ∙ ap (λ u. Some (At other u)) same.0 in
            orphan_at E I C q (At other s) g ∙ (no_orphan_side other (C s) ∙ sym (orphan_at E I B q (At other s) g ∙ no_orphan_side other (B s)))
        | inr apart ↦ orphan_at E I C q (At other t) f
            ∙ (ap (orphan_of_side other (I t)) (seat_kept B s t (written (B s) offset bytes) apart.0) ∙ sym (orphan_at E I B q (At other t) f))
      ]

  pub write_ledger : ledger_of E I (with_bytes B s (written (B s) offset bytes)) ≡ write (Homed place) offset bytes (ledger_of E I B)
  unfolding write
  write_ledger = same_ledger (ledger_of E I C) (write (Homed place) offset bytes (ledger_of E I B)) homes orphans

-- and the bytes of an orphan
pub write_orphan_ledger : (procs : ℕ) (E : Entries) (I : Infos) (B : SeatBytes) (s : Seat) (loan : LoanInfo) (offset : ℕ) (bytes : List ℕ)
    → EntriesAgree procs E I → I s ≡ Some (on_loan None loan)
    → ledger_of E I (with_bytes B s (written (B s) offset bytes)) ≡ write (Orphaned loan.holder) offset bytes (ledger_of E I B)
unfolding write
write_orphan_ledger procs E I B s loan offset bytes agree here =
    same_ledger (ledger_of E I D) (write (Orphaned loan.holder) offset bytes (ledger_of E I B)) homes orphans
  where
    D : SeatBytes
    D = with_bytes B s (written (B s) offset bytes)

    held : E loan.holder ≡ Some (At (holder_side loan.kind) s)
    held = agree.holder s None loan here

    kept : (p : Place) → p ≢ loan.holder → (side : Side) (t : Seat) → E p ≡ Some (At side t) → Stays I I B D t
    kept p apart side t e =
        let ne : t ≢ s = λ same. apart (names_orphan procs E I agree p loan side s here (subst (λ u. E p ≡ Some (At side u)) same e)) in
        record { info = refl; bytes = seat_kept B s t (written (B s) offset bytes) ne }

    homes : (p : Place) → (ledger_of E I D).home p ≡ (ledger_of E I B).home p
    homes p = elim (same_place_tells p loan.holder) [
      | inl k ↦
          let e : E p ≡ Some (At (holder_side loan.kind) s) = ap E k.1 ∙ held in
          home_at E I D p (At (holder_side loan.kind) s) e ∙ (page_of_holder loan.kind (I s) (D s)
          ∙ sym (home_at E I B p (At (holder_side loan.kind) s) e ∙ page_of_holder loan.kind (I s) (B s)))
      | inr k ↦ home_stays E E I I B D p refl (kept p k.1)
    ]

    orphans : (p : Place) → (ledger_of E I D).orphan p ≡ (write (Orphaned loan.holder) offset bytes (ledger_of E I B)).orphan p
    orphans p = elim (same_place_tells p loan.holder) [
      | inl k ↦
          let e : E p ≡ Some (At (holder_side loan.kind) s) = ap E k.1 ∙ held in
          let a = orphan_at E I D p (At (holder_side loan.kind) s) e in let b = orphan_at E I B p (At (holder_side loan.kind) s) e in
          let c = orphan_of_holder loan.kind (I s) (D s) in let d = orphan_of_holder loan.kind (I s) (B s) in
          let f = seat_put B s (written (B s) offset bytes) in grind (arith, k.0)
      | inr k ↦ let a = orphan_stays E E I I B D p refl (kept p k.1) in grind (arith, k.0)
    ]
