-- What changes of pages without a loan do to the ledger of entries and owners.
use Rattle.std.proofs.Common.{◌≡◌, ◌≢◌, ℕ, if◌then◌else◌, Bool, false, List, Option, Some, None, refl, ap, subst, ◌∙◌, inl, inr, arith}
use Rattle.std.specs.Option.{option_and_then, option_map}
use Rattle.xk_base.specs.declared.ids.Place.{Place}
use Rattle.xk_base.specs.declared.pages.Right.{Right}
use Rattle.phys_pages.specs.declared.infos.PageInfo.{PageInfo}
use Rattle.phys_pages.specs.declared.infos.Seat.{Seat}
use Rattle.phys_pages.specs.Owners.{seat_eq}
use Rattle.phys_pages.proofs.OwnerLemmas.{seat_tells}
use Rattle.ledger_model.specs.Ledger.{Bytes}
use Rattle.ledger_model.specs.Places.{in_run, moved}
use Rattle.ledger_model.specs.Steps.{make, make_console, new_page, zero_page, remove, reduce, give}
use Rattle.ledger_model.proofs.LedgerLemmas.{same_ledger}
use Rattle.ledger_model.proofs.PlaceLemmas.{same_place_tells}
use Rattle.sv32_space.specs.declared.sides.Side.{Side}
use Rattle.sv32_space.specs.declared.sides.Side.TheVariants.{Own}
use Rattle.sv32_space.specs.Agreement.{Infos, EntriesAgree, owned_by}
use Rattle.sv32_space.specs.declared.sides.Entry.{Entry}
use Rattle.sv32_space.specs.declared.sides.Entry.TheVariants.{Free, At, OnConsole}
use Rattle.sv32_space.specs.Entries.{Entries}
use Rattle.sv32_space.specs.EntryLedger.{SeatBytes, ledger_of, page_of_side, page_of_entry, orphan_of_side, orphan_of_entry}
use Rattle.sv32_space.specs.PageChanges.{with_entry, with_info, with_bytes, given_entries, renamed, renamed_entry, moved_infos}
use Rattle.sv32_space.specs.PageSteps.{place_page}
use Rattle.sv32_space.proofs.Ledgers.EntryLedgerLemmas.{in_one-at, in_one-apart, moved-first, home_at, orphan_at, Stays, home_stays, orphan_stays, names_free, names_owned}

-- ---- entries and infos after a write

pub entry_put : (E : Entries) (p q : Place) (e : Entry) → q ≡ p → with_entry E p e q ≡ Some e
entry_put E p q e h = let t = same_place_tells q p in grind (arith, t)

pub entry_kept : (E : Entries) (p q : Place) (e : Entry) → q ≢ p → with_entry E p e q ≡ E q
entry_kept E p q e h = let t = same_place_tells q p in grind (arith, t)

pub seat_put : {T : Type 0} (f : Seat → T) (s : Seat) (x : T) → (if seat_eq s s then x else f s) ≡ x
seat_put f s x = let t = seat_tells s s in grind (arith, t)

pub seat_kept : {T : Type 0} (f : Seat → T) (s t : Seat) (x : T) → t ≢ s → (if seat_eq t s then x else f t) ≡ f t
seat_kept f s t x h = let k = seat_tells t s in grind (arith, k)

-- ---- make

pub place_ledger : (procs : ℕ) (E : Entries) (I : Infos) (B : SeatBytes) (home : Place) (right : Right) (s : Seat) (bytes : List ℕ)
    → EntriesAgree procs E I → E home ≡ Some Free → I s ≡ None
    → ledger_of (with_entry E home (At (Own right) s)) (with_info I s (Some (owned_by home))) (with_bytes B s bytes)
    ≡ place_page home (new_page right (Bytes bytes)) (ledger_of E I B)
unfolding place_page
place_ledger procs E I B home right s bytes agree free empty = same_ledger (ledger_of F J C) (place_page home (new_page right (Bytes bytes)) (ledger_of E I B)) homes orphans
  where
    F : Entries
    F = with_entry E home (At (Own right) s)

    J : Infos
    J = with_info I s (Some (owned_by home))

    C : SeatBytes
    C = with_bytes B s bytes

    kept : (p : Place) (side : Side) (t : Seat) → E p ≡ Some (At side t) → Stays I J B C t
    kept p side t e =
        let ne : t ≢ s = λ same. names_free procs E I agree p side s (subst (λ u. E p ≡ Some (At side u)) same e) empty in
        record { info = seat_kept I s t (Some (owned_by home)) ne; bytes = seat_kept B s t bytes ne }

    homes : (p : Place) → (ledger_of F J C).home p ≡ (place_page home (new_page right (Bytes bytes)) (ledger_of E I B)).home p
    homes p = elim (same_place_tells p home) [
      | inl k ↦ let a = home_at F J C p (At (Own right) s) (entry_put E home p (At (Own right) s) k.1) in let b = seat_put B s bytes in grind (arith, k.0)
      | inr k ↦ let a = home_stays E F I J B C p (entry_kept E home p (At (Own right) s) k.1) (kept p) in grind (arith, k.0)
    ]

    orphans : (p : Place) → (ledger_of F J C).orphan p ≡ (place_page home (new_page right (Bytes bytes)) (ledger_of E I B)).orphan p
    orphans p = elim (same_place_tells p home) [
      | inl k ↦ let a = orphan_at F J C p (At (Own right) s) (entry_put E home p (At (Own right) s) k.1) in let b = orphan_at E I B home Free free in grind (arith, k.0)
      | inr k ↦ orphan_stays E F I J B C p (entry_kept E home p (At (Own right) s) k.1) (kept p)
    ]

-- .. a page of zeros
pub make_ledger : (procs : ℕ) (E : Entries) (I : Infos) (B : SeatBytes) (home : Place) (right : Right) (s : Seat)
    → EntriesAgree procs E I → E home ≡ Some Free → I s ≡ None
    → ledger_of (with_entry E home (At (Own right) s)) (with_info I s (Some (owned_by home))) (with_bytes B s zero_page)
    ≡ make home 1 right (ledger_of E I B)
unfolding make place_page
make_ledger procs E I B home right s agree free empty =
    place_ledger procs E I B home right s zero_page agree free empty
    ∙ same_ledger (place_page home (new_page right (Bytes zero_page)) (ledger_of E I B)) (make home 1 right (ledger_of E I B)) (λ p. homes p) (λ p. refl)
  where
    homes : (p : Place) → (place_page home (new_page right (Bytes zero_page)) (ledger_of E I B)).home p ≡ (make home 1 right (ledger_of E I B)).home p
    homes p = elim (same_place_tells p home) [
      | inl k ↦ let a = in_one-at home p k.1 in grind (arith, k.0)
      | inr k ↦ let a = in_one-apart home p k.1 in grind (arith, k.0)
    ]

-- ---- remove

pub remove_ledger : (procs : ℕ) (E : Entries) (I : Infos) (B : SeatBytes) (home : Place) (right : Right) (s : Seat)
    → EntriesAgree procs E I → E home ≡ Some (At (Own right) s)
    → ledger_of (with_entry E home Free) (with_info I s None) B ≡ remove (in_run home 1) (ledger_of E I B)
unfolding remove
remove_ledger procs E I B home right s agree here = same_ledger (ledger_of F J B) (remove (in_run home 1) (ledger_of E I B)) homes orphans
  where
    F : Entries
    F = with_entry E home Free

    J : Infos
    J = with_info I s None

    kept : (p : Place) → p ≢ home → (side : Side) (t : Seat) → E p ≡ Some (At side t) → Stays I J B B t
    kept p apart side t e =
        let ne : t ≢ s = λ same. apart (names_owned procs E I agree home p side s (agree.own home right s here) (subst (λ u. E p ≡ Some (At side u)) same e)) in
        record { info = seat_kept I s t None ne; bytes = refl }

    homes : (p : Place) → (ledger_of F J B).home p ≡ (remove (in_run home 1) (ledger_of E I B)).home p
    homes p = elim (same_place_tells p home) [
      | inl k ↦ let a = home_at F J B p Free (entry_put E home p Free k.1) in let b = in_one-at home p k.1 in grind (arith, k.0)
      | inr k ↦ let a = home_stays E F I J B B p (entry_kept E home p Free k.1) (kept p k.1) in let b = in_one-apart home p k.1 in grind (arith, k.0)
    ]

    orphans : (p : Place) → (ledger_of F J B).orphan p ≡ (remove (in_run home 1) (ledger_of E I B)).orphan p
    orphans p = elim (same_place_tells p home) [
      | inl k ↦ let a = orphan_at F J B p Free (entry_put E home p Free k.1) in let b = orphan_at E I B home (At (Own right) s) here in grind (arith, k.0)
      | inr k ↦ orphan_stays E F I J B B p (entry_kept E home p Free k.1) (kept p k.1)
    ]

-- ---- reduce

pub reduce_ledger : (procs : ℕ) (E : Entries) (I : Infos) (B : SeatBytes) (home : Place) (right new : Right) (s : Seat)
    → EntriesAgree procs E I → E home ≡ Some (At (Own right) s)
    → ledger_of (with_entry E home (At (Own new) s)) I B ≡ reduce (in_run home 1) new (ledger_of E I B)
unfolding reduce
reduce_ledger procs E I B home right new s agree here = same_ledger (ledger_of F I B) (reduce (in_run home 1) new (ledger_of E I B)) homes orphans
  where
    F : Entries
    F = with_entry E home (At (Own new) s)

    kept : (side : Side) (t : Seat) → Stays I I B B t
    kept side t = record { info = refl; bytes = refl }

    homes : (p : Place) → (ledger_of F I B).home p ≡ (reduce (in_run home 1) new (ledger_of E I B)).home p
    homes p = elim (same_place_tells p home) [
      | inl k ↦ let a = home_at F I B p (At (Own new) s) (entry_put E home p (At (Own new) s) k.1) in
          let b = in_one-at home p k.1 in let c = home_at E I B home (At (Own right) s) here in
          let d : (ledger_of E I B).home p ≡ (ledger_of E I B).home home = ap (λ q. (ledger_of E I B).home q) k.1 in grind (arith, k.0)
      | inr k ↦ let a = home_stays E F I I B B p (entry_kept E home p (At (Own new) s) k.1) (λ side t e. kept side t) in let b = in_one-apart home p k.1 in grind (arith, k.0)
    ]

    orphans : (p : Place) → (ledger_of F I B).orphan p ≡ (reduce (in_run home 1) new (ledger_of E I B)).orphan p
    orphans p = elim (same_place_tells p home) [
      | inl k ↦ let a = orphan_at F I B p (At (Own new) s) (entry_put E home p (At (Own new) s) k.1) in let b = orphan_at E I B home (At (Own right) s) here in grind (arith, k.0)
      | inr k ↦ orphan_stays E F I I B B p (entry_kept E home p (At (Own new) s) k.1) (λ side t e. kept side t)
    ]

-- ---- give

pub give_ledger : (procs : ℕ) (E : Entries) (I : Infos) (B : SeatBytes) (from to : Place) (right : Right) (s : Seat)
    → EntriesAgree procs E I → E from ≡ Some (At (Own right) s) → E to ≡ Some Free
    → ledger_of (given_entries E from to right s) (with_info I s (Some (owned_by to))) B ≡ give from 1 to (ledger_of E I B)
unfolding give
give_ledger procs E I B from to right s agree here free = same_ledger (ledger_of F J B) (give from 1 to (ledger_of E I B)) homes orphans
  where
    F : Entries
    F = given_entries E from to right s

    J : Infos
    J = with_info I s (Some (owned_by to))

    kept : (p : Place) → p ≢ from → (side : Side) (t : Seat) → E p ≡ Some (At side t) → Stays I J B B t
    kept p apart side t e =
        let ne : t ≢ s = λ same. apart (names_owned procs E I agree from p side s (agree.own from right s here) (subst (λ u. E p ≡ Some (At side u)) same e)) in
        record { info = seat_kept I s t (Some (owned_by to)) ne; bytes = refl }

    at_to : (p : Place) → p ≡ to → F p ≡ Some (At (Own right) s)
    at_to p e = entry_put (with_entry E from Free) to p (At (Own right) s) e

    at_from : (p : Place) → p ≢ to → p ≡ from → F p ≡ Some Free
    at_from p ne e = entry_kept (with_entry E from Free) to p (At (Own right) s) ne ∙ entry_put E from p Free e

    elsewhere : (p : Place) → p ≢ to → p ≢ from → F p ≡ E p
    elsewhere p ne apart = entry_kept (with_entry E from Free) to p (At (Own right) s) ne ∙ entry_kept E from p Free apart

    homes : (p : Place) → (ledger_of F J B).home p ≡ (give from 1 to (ledger_of E I B)).home p
    homes p = elim (same_place_tells p to) [
      | inl k ↦ let a = home_at F J B p (At (Own right) s) (at_to p k.1) in let b = in_one-at to p k.1 in
          let c = home_at E I B from (At (Own right) s) here in let d : moved to from p ≡ from = ap (moved to from) k.1 ∙ moved-first to from in
          let e : (ledger_of E I B).home (moved to from p) ≡ (ledger_of E I B).home from = ap (λ q. (ledger_of E I B).home q) d in grind (arith, k.0)
      | inr k ↦ elim (same_place_tells p from) [
        | inl j ↦ let a = home_at F J B p Free (at_from p k.1 j.1) in let b = in_one-apart to p k.1 in let c = in_one-at from p j.1 in grind (arith, k.0)
        | inr j ↦ let a = home_stays E F I J B B p (elsewhere p k.1 j.1) (kept p j.1) in let b = in_one-apart to p k.1 in let c = in_one-apart from p j.1 in grind (arith, k.0)
      ]
    ]

    orphans : (p : Place) → (ledger_of F J B).orphan p ≡ (give from 1 to (ledger_of E I B)).orphan p
    orphans p = elim (same_place_tells p to) [
      | inl k ↦ let a = orphan_at F J B p (At (Own right) s) (at_to p k.1) in let b = orphan_at E I B to Free free in grind (arith, k.0)
      | inr k ↦ elim (same_place_tells p from) [
        | inl j ↦ let a = orphan_at F J B p Free (at_from p k.1 j.1) in let b = orphan_at E I B from (At (Own right) s) here in grind (arith, k.0)
        | inr j ↦ orphan_stays E F I J B B p (elsewhere p k.1 j.1) (kept p j.1)
      ]
    ]

-- ---- the console

pub map_console_ledger : (E : Entries) (I : Infos) (B : SeatBytes) (place : Place) (w : Bool) → E place ≡ Some Free
    → ledger_of (with_entry E place (OnConsole w)) I B ≡ make_console place w (ledger_of E I B)
unfolding make_console
map_console_ledger E I B place w free = same_ledger (ledger_of F I B) (make_console place w (ledger_of E I B)) homes orphans
  where
    F : Entries
    F = with_entry E place (OnConsole w)

    homes : (p : Place) → (ledger_of F I B).home p ≡ (make_console place w (ledger_of E I B)).home p
    homes p = elim (same_place_tells p place) [
      | inl k ↦ let a = home_at F I B p (OnConsole w) (entry_put E place p (OnConsole w) k.1) in grind (arith, k.0)
      | inr k ↦ let a = home_stays E F I I B B p (entry_kept E place p (OnConsole w) k.1) (λ side t e. record { info = refl; bytes = refl }) in grind (arith, k.0)
    ]

    orphans : (p : Place) → (ledger_of F I B).orphan p ≡ (make_console place w (ledger_of E I B)).orphan p
    orphans p = elim (same_place_tells p place) [
      | inl k ↦ let a = orphan_at F I B p (OnConsole w) (entry_put E place p (OnConsole w) k.1) in let b = orphan_at E I B place Free free in grind (arith, k.0)
      | inr k ↦ orphan_stays E F I I B B p (entry_kept E place p (OnConsole w) k.1) (λ side t e. record { info = refl; bytes = refl })
    ]

pub unmap_console_ledger : (E : Entries) (I : Infos) (B : SeatBytes) (place : Place) (w : Bool) → E place ≡ Some (OnConsole w)
    → ledger_of (with_entry E place Free) I B ≡ remove (in_run place 1) (ledger_of E I B)
unfolding remove
unmap_console_ledger E I B place w here = same_ledger (ledger_of F I B) (remove (in_run place 1) (ledger_of E I B)) homes orphans
  where
    F : Entries
    F = with_entry E place Free

    homes : (p : Place) → (ledger_of F I B).home p ≡ (remove (in_run place 1) (ledger_of E I B)).home p
    homes p = elim (same_place_tells p place) [
      | inl k ↦ let a = home_at F I B p Free (entry_put E place p Free k.1) in let b = in_one-at place p k.1 in grind (arith, k.0)
      | inr k ↦ let a = home_stays E F I I B B p (entry_kept E place p Free k.1) (λ side t e. record { info = refl; bytes = refl }) in let b = in_one-apart place p k.1 in grind (arith, k.0)
    ]

    orphans : (p : Place) → (ledger_of F I B).orphan p ≡ (remove (in_run place 1) (ledger_of E I B)).orphan p
    orphans p = elim (same_place_tells p place) [
      | inl k ↦ let a = orphan_at F I B p Free (entry_put E place p Free k.1) in let b = orphan_at E I B place (OnConsole w) here in grind (arith, k.0)
      | inr k ↦ orphan_stays E F I I B B p (entry_kept E place p Free k.1) (λ side t e. record { info = refl; bytes = refl })
    ]

pub reduce_console_ledger : (E : Entries) (I : Infos) (B : SeatBytes) (place : Place) (w : Bool) (right : Right) → E place ≡ Some (OnConsole w)
    → right.x ≡ false
    → ledger_of (with_entry E place (OnConsole right.w)) I B ≡ reduce (in_run place 1) right (ledger_of E I B)
unfolding reduce
reduce_console_ledger E I B place w right here x = same_ledger (ledger_of F I B) (reduce (in_run place 1) right (ledger_of E I B)) homes orphans
  where
    F : Entries
    F = with_entry E place (OnConsole right.w)

    same_right : right ≡ record { w = right.w; x = false }
    same_right = λ i. record { w = right.w; x = x i }

    homes : (p : Place) → (ledger_of F I B).home p ≡ (reduce (in_run place 1) right (ledger_of E I B)).home p
    homes p = elim (same_place_tells p place) [
      | inl k ↦ let a = home_at F I B p (OnConsole right.w) (entry_put E place p (OnConsole right.w) k.1) in let b = in_one-at place p k.1 in
          let c = home_at E I B place (OnConsole w) here in
          let d : (ledger_of E I B).home p ≡ (ledger_of E I B).home place = ap (λ q. (ledger_of E I B).home q) k.1 in
          let r = same_right in grind (arith, k.0)
      | inr k ↦ let a = home_stays E F I I B B p (entry_kept E place p (OnConsole right.w) k.1) (λ side t e. record { info = refl; bytes = refl }) in let b = in_one-apart place p k.1 in grind (arith, k.0)
    ]

    orphans : (p : Place) → (ledger_of F I B).orphan p ≡ (reduce (in_run place 1) right (ledger_of E I B)).orphan p
    orphans p = elim (same_place_tells p place) [
      | inl k ↦ let a = orphan_at F I B p (OnConsole right.w) (entry_put E place p (OnConsole right.w) k.1) in let b = orphan_at E I B place (OnConsole w) here in grind (arith, k.0)
      | inr k ↦ orphan_stays E F I I B B p (entry_kept E place p (OnConsole right.w) k.1) (λ side t e. record { info = refl; bytes = refl })
    ]

-- ---- a page moves to another seat

-- what is said of the seats that entries name now is what was said of those that they named, and so are the bytes
record StaysNamed (from to : Seat) (I J : Infos) (B C : SeatBytes) (t : Seat) : Type 0 where
  info : J (if seat_eq t from then to else t) ≡ I t
  bytes : B (if seat_eq t from then to else t) ≡ C t

renamed_page : (from to : Seat) (o : Option Entry) (I J : Infos) (B C : SeatBytes)
    → ((side : Side) (t : Seat) → o ≡ Some (At side t) → StaysNamed from to I J B C t)
    → option_and_then (page_of_entry J B) (option_map (renamed_entry from to) o) ≡ option_and_then (page_of_entry I C) o
renamed_page from to None I J B C h = refl
renamed_page from to (Some Free) I J B C h = refl
renamed_page from to (Some (At side t)) I J B C h = let k : StaysNamed from to I J B C t = h side t refl in
    ap (λ o. page_of_side side o (B (if seat_eq t from then to else t))) k.info ∙ ap (page_of_side side (I t)) k.bytes
renamed_page from to (Some (OnConsole w)) I J B C h = refl

renamed_orphan : (from to : Seat) (o : Option Entry) (I J : Infos) (B C : SeatBytes)
    → ((side : Side) (t : Seat) → o ≡ Some (At side t) → StaysNamed from to I J B C t)
    → option_and_then (orphan_of_entry J B) (option_map (renamed_entry from to) o) ≡ option_and_then (orphan_of_entry I C) o
renamed_orphan from to None I J B C h = refl
renamed_orphan from to (Some Free) I J B C h = refl
renamed_orphan from to (Some (At side t)) I J B C h = let k : StaysNamed from to I J B C t = h side t refl in
    ap (λ o. orphan_of_side side o (B (if seat_eq t from then to else t))) k.info ∙ ap (orphan_of_side side (I t)) k.bytes
renamed_orphan from to (Some (OnConsole w)) I J B C h = refl

pub move_ledger : (procs : ℕ) (E : Entries) (I : Infos) (B : SeatBytes) (from to : Seat) (info : PageInfo)
    → EntriesAgree procs E I → I from ≡ Some info → I to ≡ None
    → ledger_of (renamed from to E) (moved_infos I from to info) B ≡ ledger_of E I (with_bytes B from (B to))
unfolding ledger_of
move_ledger procs E I B from to info agree here free =
    same_ledger (ledger_of (renamed from to E) J B) (ledger_of E I C)
    (λ p. renamed_page from to (E p) I J B C (named p)) (λ p. renamed_orphan from to (E p) I J B C (named p))
  where
    J : Infos
    J = moved_infos I from to info

    C : SeatBytes
    C = with_bytes B from (B to)

    named : (p : Place) (side : Side) (t : Seat) → E p ≡ Some (At side t) → StaysNamed from to I J B C t
    named p side t e =
        let ne : t ≢ to = λ same. names_free procs E I agree p side t e (ap I same ∙ free) in
        let x = seat_tells t from in let y = seat_tells t to in let z = seat_tells to to in
        record { info = grind (arith, x, y, z); bytes = grind (arith, x, y, z) }
