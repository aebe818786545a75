-- Changes of pages without a loan keep the agreement of entries and owners.
use Rattle.std.proofs.Common.{◌≡◌, ℕ, Bool, Option, Some, None, refl, ap, arith}
use Rattle.std.specs.Prelude.{is_some, cond}
use Rattle.std.specs.Option.{option_map}
use Rattle.std.proofs.lemmas.Option.{none-some, same_Some}
use Rattle.phys_pages.specs.Owners.{seat_eq}
use Rattle.xk_base.specs.declared.ids.Place.{Place}
use Rattle.xk_base.specs.declared.pages.Right.{Right}
use Rattle.phys_pages.specs.declared.infos.PageInfo.{PageInfo}
use Rattle.phys_pages.specs.declared.infos.Seat.{Seat}
use Rattle.phys_pages.proofs.OwnerLemmas.{seat_tells}
use Rattle.ledger_model.proofs.PlaceLemmas.{same_place_tells}
use Rattle.sv32_space.specs.declared.sides.Side.{Side}
use Rattle.sv32_space.specs.declared.sides.Side.TheVariants.{Own, LentOut, LentIn, MutOut, MutIn}
use Rattle.sv32_space.specs.Agreement.{Infos, EntriesAgree, owned_by, lender_side, holder_side, right_in}
use Rattle.sv32_space.specs.declared.sides.Entry.{Entry}
use Rattle.sv32_space.specs.declared.sides.Entry.TheVariants.{Free, At, OnConsole}
use Rattle.sv32_space.specs.Entries.{Entries}
use Rattle.sv32_space.specs.PageChanges.{with_entry, with_info, given_entries, renamed, renamed_entry, moved_infos}

-- a page comes to a free place and a free seat
pub make_agrees : (procs : ℕ) (E : Entries) (I : Infos) (home : Place) (right : Right) (s : Seat) → EntriesAgree procs E I
    → E home ≡ Some Free → I s ≡ None
    → EntriesAgree procs (with_entry E home (At (Own right) s)) (with_info I s (Some (owned_by home)))
make_agrees procs E I home right s agree free empty = record {
  spelled = λ p. let a = agree.spelled p in let x0 = same_place_tells p home in grind (arith, x0);
  used = λ t. let a = agree.used t in let z0 = seat_tells t s in grind (arith, z0);
  home = λ t p e. let a = agree.home t p in let x0 = same_place_tells p home in let z0 = seat_tells t s in grind (arith, x0, z0);
  lender = λ t p l e. let a = agree.lender t p l in let x0 = same_place_tells p home in let z0 = seat_tells t s in grind (arith, x0, z0);
  holder = λ t p l e. let a = agree.holder t p l in let x0 = same_place_tells l.holder home in let z0 = seat_tells t s in grind (arith, x0, z0);
  own = λ q r t e. let a = agree.own q r t in let x0 = same_place_tells q home in let z0 = seat_tells t s in grind (arith, x0, z0);
  lent_out = λ q r t e. let a = agree.lent_out q r t in let x0 = same_place_tells q home in let z0 = seat_tells t s in grind (arith, x0, z0);
  mut_out = λ q x t e. let a = agree.mut_out q x t in let x0 = same_place_tells q home in let z0 = seat_tells t s in grind (arith, x0, z0);
  lent_in = λ q t e. let a = agree.lent_in q t in let x0 = same_place_tells q home in let z0 = seat_tells t s in grind (arith, x0, z0);
  mut_in = λ q t e. let a = agree.mut_in q t in let x0 = same_place_tells q home in let z0 = seat_tells t s in grind (arith, x0, z0);
}

-- a page without a loan goes
pub remove_agrees : (procs : ℕ) (E : Entries) (I : Infos) (home : Place) (right : Right) (s : Seat) → EntriesAgree procs E I
    → E home ≡ Some (At (Own right) s)
    → EntriesAgree procs (with_entry E home Free) (with_info I s None)
remove_agrees procs E I home right s agree here = record {
  spelled = λ p. let a = agree.spelled p in let x0 = same_place_tells p home in let b = agree.own home right s here in grind (arith, x0);
  used = λ t. let a = agree.used t in let z0 = seat_tells t s in grind (arith, z0);
  home = λ t p e. let a = agree.home t p in let x0 = same_place_tells p home in let z0 = seat_tells t s in let b = agree.own home right s here in grind (arith, x0, z0);
  lender = λ t p l e. let a = agree.lender t p l in let x0 = same_place_tells p home in let z0 = seat_tells t s in let b = agree.own home right s here in grind (arith, x0, z0);
  holder = λ t p l e. let a = agree.holder t p l in let x0 = same_place_tells l.holder home in let z0 = seat_tells t s in let b = agree.own home right s here in grind (arith, x0, z0);
  own = λ q r t e. let a = agree.own q r t in let x0 = same_place_tells q home in let z0 = seat_tells t s in let b = agree.own home right s here in grind (arith, x0, z0);
  lent_out = λ q r t e. let a = agree.lent_out q r t in let x0 = same_place_tells q home in let z0 = seat_tells t s in let b = agree.own home right s here in grind (arith, x0, z0);
  mut_out = λ q x t e. let a = agree.mut_out q x t in let x0 = same_place_tells q home in let z0 = seat_tells t s in let b = agree.own home right s here in grind (arith, x0, z0);
  lent_in = λ q t e. let a = agree.lent_in q t in let x0 = same_place_tells q home in let z0 = seat_tells t s in let b = agree.own home right s here in grind (arith, x0, z0);
  mut_in = λ q t e. let a = agree.mut_in q t in let x0 = same_place_tells q home in let z0 = seat_tells t s in let b = agree.own home right s here in grind (arith, x0, z0);
}

-- a page without a loan gets another right
pub reduce_agrees : (procs : ℕ) (E : Entries) (I : Infos) (home : Place) (right new : Right) (s : Seat) → EntriesAgree procs E I
    → E home ≡ Some (At (Own right) s)
    → EntriesAgree procs (with_entry E home (At (Own new) s)) (I)
reduce_agrees procs E I home right new s agree here = record {
  spelled = λ p. let a = agree.spelled p in let x0 = same_place_tells p home in let b = agree.own home right s here in grind (arith, x0);
  used = λ t. let a = agree.used t in grind arith;
  home = λ t p e. let a = agree.home t p in let x0 = same_place_tells p home in let b = agree.own home right s here in grind (arith, x0);
  lender = λ t p l e. let a = agree.lender t p l in let x0 = same_place_tells p home in let b = agree.own home right s here in grind (arith, x0);
  holder = λ t p l e. let a = agree.holder t p l in let x0 = same_place_tells l.holder home in let b = agree.own home right s here in grind (arith, x0);
  own = λ q r t e. let a = agree.own q r t in let x0 = same_place_tells q home in let b = agree.own home right s here in grind (arith, x0);
  lent_out = λ q r t e. let a = agree.lent_out q r t in let x0 = same_place_tells q home in let b = agree.own home right s here in grind (arith, x0);
  mut_out = λ q x t e. let a = agree.mut_out q x t in let x0 = same_place_tells q home in let b = agree.own home right s here in grind (arith, x0);
  lent_in = λ q t e. let a = agree.lent_in q t in let x0 = same_place_tells q home in let b = agree.own home right s here in grind (arith, x0);
  mut_in = λ q t e. let a = agree.mut_in q t in let x0 = same_place_tells q home in let b = agree.own home right s here in grind (arith, x0);
}

-- a page without a loan gets another home
pub give_agrees : (procs : ℕ) (E : Entries) (I : Infos) (from to : Place) (right : Right) (s : Seat) → EntriesAgree procs E I
    → E from ≡ Some (At (Own right) s) → E to ≡ Some Free
    → EntriesAgree procs (given_entries E from to right s) (with_info I s (Some (owned_by to)))
give_agrees procs E I from to right s agree here free = record {
  spelled = λ p. let a = agree.spelled p in let x0 = same_place_tells p to in let x1 = same_place_tells p from in let b = agree.own from right s here in grind (arith, x0, x1);
  used = λ t. let a = agree.used t in let z0 = seat_tells t s in grind (arith, z0);
  home = λ t p e. let a = agree.home t p in let x0 = same_place_tells p to in let x1 = same_place_tells p from in let z0 = seat_tells t s in let b = agree.own from right s here in grind (arith, x0, x1, z0);
  lender = λ t p l e. let a = agree.lender t p l in let x0 = same_place_tells p to in let x1 = same_place_tells p from in let z0 = seat_tells t s in let b = agree.own from right s here in grind (arith, x0, x1, z0);
  holder = λ t p l e. let a = agree.holder t p l in let x0 = same_place_tells l.holder to in let x1 = same_place_tells l.holder from in let z0 = seat_tells t s in let b = agree.own from right s here in grind (arith, x0, x1, z0);
  own = λ q r t e. let a = agree.own q r t in let x0 = same_place_tells q to in let x1 = same_place_tells q from in let z0 = seat_tells t s in let b = agree.own from right s here in grind (arith, x0, x1, z0);
  lent_out = λ q r t e. let a = agree.lent_out q r t in let x0 = same_place_tells q to in let x1 = same_place_tells q from in let z0 = seat_tells t s in let b = agree.own from right s here in grind (arith, x0, x1, z0);
  mut_out = λ q x t e. let a = agree.mut_out q x t in let x0 = same_place_tells q to in let x1 = same_place_tells q from in let z0 = seat_tells t s in let b = agree.own from right s here in grind (arith, x0, x1, z0);
  lent_in = λ q t e. let a = agree.lent_in q t in let x0 = same_place_tells q to in let x1 = same_place_tells q from in let z0 = seat_tells t s in let b = agree.own from right s here in grind (arith, x0, x1, z0);
  mut_in = λ q t e. let a = agree.mut_in q t in let x0 = same_place_tells q to in let x1 = same_place_tells q from in let z0 = seat_tells t s in let b = agree.own from right s here in grind (arith, x0, x1, z0);
}

-- the console comes to a free place
pub map_console_agrees : (procs : ℕ) (E : Entries) (I : Infos) (place : Place) (w : Bool) → EntriesAgree procs E I → E place ≡ Some Free
    → EntriesAgree procs (with_entry E place (OnConsole w)) (I)
map_console_agrees procs E I place w agree free = record {
  spelled = λ p. let a = agree.spelled p in let x0 = same_place_tells p place in grind (arith, x0);
  used = λ t. let a = agree.used t in grind arith;
  home = λ t p e. let a = agree.home t p in let x0 = same_place_tells p place in grind (arith, x0);
  lender = λ t p l e. let a = agree.lender t p l in let x0 = same_place_tells p place in grind (arith, x0);
  holder = λ t p l e. let a = agree.holder t p l in let x0 = same_place_tells l.holder place in grind (arith, x0);
  own = λ q r t e. let a = agree.own q r t in let x0 = same_place_tells q place in grind (arith, x0);
  lent_out = λ q r t e. let a = agree.lent_out q r t in let x0 = same_place_tells q place in grind (arith, x0);
  mut_out = λ q x t e. let a = agree.mut_out q x t in let x0 = same_place_tells q place in grind (arith, x0);
  lent_in = λ q t e. let a = agree.lent_in q t in let x0 = same_place_tells q place in grind (arith, x0);
  mut_in = λ q t e. let a = agree.mut_in q t in let x0 = same_place_tells q place in grind (arith, x0);
}

-- the console goes
pub unmap_console_agrees : (procs : ℕ) (E : Entries) (I : Infos) (place : Place) (w : Bool) → EntriesAgree procs E I → E place ≡ Some (OnConsole w)
    → EntriesAgree procs (with_entry E place Free) (I)
unmap_console_agrees procs E I place w agree here = record {
  spelled = λ p. let a = agree.spelled p in let x0 = same_place_tells p place in grind (arith, x0);
  used = λ t. let a = agree.used t in grind arith;
  home = λ t p e. let a = agree.home t p in let x0 = same_place_tells p place in grind (arith, x0);
  lender = λ t p l e. let a = agree.lender t p l in let x0 = same_place_tells p place in grind (arith, x0);
  holder = λ t p l e. let a = agree.holder t p l in let x0 = same_place_tells l.holder place in grind (arith, x0);
  own = λ q r t e. let a = agree.own q r t in let x0 = same_place_tells q place in grind (arith, x0);
  lent_out = λ q r t e. let a = agree.lent_out q r t in let x0 = same_place_tells q place in grind (arith, x0);
  mut_out = λ q x t e. let a = agree.mut_out q x t in let x0 = same_place_tells q place in grind (arith, x0);
  lent_in = λ q t e. let a = agree.lent_in q t in let x0 = same_place_tells q place in grind (arith, x0);
  mut_in = λ q t e. let a = agree.mut_in q t in let x0 = same_place_tells q place in grind (arith, x0);
}

-- the console gets another right
pub reduce_console_agrees : (procs : ℕ) (E : Entries) (I : Infos) (place : Place) (w new : Bool) → EntriesAgree procs E I → E place ≡ Some (OnConsole w)
    → EntriesAgree procs (with_entry E place (OnConsole new)) (I)
reduce_console_agrees procs E I place w new agree here = record {
  spelled = λ p. let a = agree.spelled p in let x0 = same_place_tells p place in grind (arith, x0);
  used = λ t. let a = agree.used t in grind arith;
  home = λ t p e. let a = agree.home t p in let x0 = same_place_tells p place in grind (arith, x0);
  lender = λ t p l e. let a = agree.lender t p l in let x0 = same_place_tells p place in grind (arith, x0);
  holder = λ t p l e. let a = agree.holder t p l in let x0 = same_place_tells l.holder place in grind (arith, x0);
  own = λ q r t e. let a = agree.own q r t in let x0 = same_place_tells q place in grind (arith, x0);
  lent_out = λ q r t e. let a = agree.lent_out q r t in let x0 = same_place_tells q place in grind (arith, x0);
  mut_out = λ q x t e. let a = agree.mut_out q x t in let x0 = same_place_tells q place in grind (arith, x0);
  lent_in = λ q t e. let a = agree.lent_in q t in let x0 = same_place_tells q place in grind (arith, x0);
  mut_in = λ q t e. let a = agree.mut_in q t in let x0 = same_place_tells q place in grind (arith, x0);
}

-- ---- a page moves to another seat

-- an entry that names a seat afterwards named one before
renamed-from : (from to : Seat) (o : Option Entry) (side : Side) (t : Seat)
    → option_map (renamed_entry from to) o ≡ Some (At side t)
    → (s : Seat) × (o ≡ Some (At side s)) × (cond (seat_eq s from) to s ≡ t)
renamed-from from to None side t e = absurd (none-some (At side t) e)
renamed-from from to (Some Free) side t e = cc
renamed-from from to (Some (At other s)) side t e =
    let same : At other (cond (seat_eq s from) to s) ≡ At side t = same_Some (At other (cond (seat_eq s from) to s)) (At side t) e in
    (s, cc, cc)
renamed-from from to (Some (OnConsole w)) side t e = cc

renamed-at : (from to : Seat) (o : Option Entry) (side : Side) (s : Seat) → o ≡ Some (At side s)
    → option_map (renamed_entry from to) o ≡ Some (At side (cond (seat_eq s from) to s))
renamed-at from to o side s e = ap (option_map (renamed_entry from to)) e

renamed-some : (from to : Seat) (o : Option Entry) → is_some (option_map (renamed_entry from to) o) ≡ is_some o
renamed-some from to None = refl
renamed-some from to (Some e) = refl

renamed-right : (from to : Seat) (o : Option Entry) → right_in (option_map (renamed_entry from to) o) ≡ right_in o
renamed-right from to None = refl
renamed-right from to (Some Free) = refl
renamed-right from to (Some (At side s)) = refl
renamed-right from to (Some (OnConsole w)) = refl

pub move_agrees : (procs : ℕ) (E : Entries) (I : Infos) (from to : Seat) (info : PageInfo) → EntriesAgree procs E I
    → I from ≡ Some info → I to ≡ None
    → EntriesAgree procs (renamed from to E) (moved_infos I from to info)
move_agrees procs E I from to info agree here free = record {
  spelled = λ p. let a = agree.spelled p in let b = renamed-some from to (E p) in cc;
  used = λ t. let a = agree.used t in let b = agree.used from in let x = seat_tells t to in let y = seat_tells t from in grind (arith, x, y);
  home = λ t p e.
      let a = agree.home from p in let b = agree.home t p in let c = renamed-right from to (E p) in
      let d = renamed-at from to (E p) (Own (right_in (E p))) in let m = d t in let n = d from in
      let x = seat_tells t to in let y = seat_tells t from in let z = seat_tells from from in grind (arith, x, y, z);
  lender = λ t p l e.
      let a = agree.lender from p l in let b = agree.lender t p l in let c = renamed-right from to (E p) in
      let d = renamed-at from to (E p) (lender_side l.kind (right_in (E p))) in let m = d t in let n = d from in
      let x = seat_tells t to in let y = seat_tells t from in let z = seat_tells from from in grind (arith, x, y, z);
  holder = λ t p l e.
      let a = agree.holder from p l in let b = agree.holder t p l in
      let d = renamed-at from to (E l.holder) (holder_side l.kind) in let m = d t in let n = d from in
      let x = seat_tells t to in let y = seat_tells t from in let z = seat_tells from from in grind (arith, x, y, z);
  own = λ q r t e.
      let b = renamed-from from to (E q) (Own r) t e in let a = agree.own q r b.0 b.1 in
      let x = seat_tells b.0 from in let y = seat_tells b.0 to in let z = seat_tells t to in let w = seat_tells t from in grind (arith, x, y, z, w);
  lent_out = λ q r t e.
      let b = renamed-from from to (E q) (LentOut r) t e in let a = agree.lent_out q r b.0 b.1 in
      let x = seat_tells b.0 from in let y = seat_tells b.0 to in let z = seat_tells t to in let w = seat_tells t from in grind (arith, x, y, z, w);
  mut_out = λ q x t e.
      let b = renamed-from from to (E q) (MutOut x) t e in let a = agree.mut_out q x b.0 b.1 in
      let v = seat_tells b.0 from in let y = seat_tells b.0 to in let z = seat_tells t to in let w = seat_tells t from in grind (arith, v, y, z, w);
  lent_in = λ q t e.
      let b = renamed-from from to (E q) LentIn t e in let a = agree.lent_in q b.0 b.1 in
      let x = seat_tells b.0 from in let y = seat_tells b.0 to in let z = seat_tells t to in let w = seat_tells t from in grind (arith, x, y, z, w);
  mut_in = λ q t e.
      let b = renamed-from from to (E q) MutIn t e in let a = agree.mut_in q b.0 b.1 in
      let x = seat_tells b.0 from in let y = seat_tells b.0 to in let z = seat_tells t to in let w = seat_tells t from in grind (arith, x, y, z, w);
}
