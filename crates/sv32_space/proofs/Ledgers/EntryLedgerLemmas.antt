-- What the ledger of entries and owners has at a place, and that it stays where the entry, and what is said of its seat, stays.
use Rattle.std.proofs.Common.{◌≡◌, ◌≢◌, ℕ, ◌+◌, ◌<◌, ◌≤◌, true, false, List, Option, Some, None, refl, sym, ap, ◌∙◌, arith}
use Rattle.std.specs.Option.{option_and_then, option_map}
use Rattle.std.proofs.lemmas.Bool.{false_from_ne_true}
use Rattle.xk_base.specs.declared.ids.Place.{Place}
use Rattle.xk_base.specs.declared.pages.LoanKind.{LoanKind}
use Rattle.xk_base.specs.declared.pages.LoanKind.TheVariants.{Shared, Exclusive}
use Rattle.xk_base.specs.declared.pages.Right.{Right}
use Rattle.phys_pages.specs.declared.infos.LoanInfo.{LoanInfo}
use Rattle.phys_pages.specs.declared.infos.PageInfo.{PageInfo}
use Rattle.phys_pages.specs.declared.infos.Seat.{Seat}
use Rattle.ledger_model.specs.Ledger.{Bytes}
use Rattle.ledger_model.specs.Places.{in_run, moved}
use Rattle.ledger_model.proofs.PlaceLemmas.{place_from, in_run-true, in_run-from, IsInRun}
use Rattle.sv32_space.specs.declared.sides.Side.{Side}
use Rattle.sv32_space.specs.declared.sides.Side.TheVariants.{Own, LentOut, LentIn, MutOut, MutIn}
use Rattle.sv32_space.specs.Agreement.{Infos, EntriesAgree, owned_by, on_loan, lender_side, holder_side, loan_in}
use Rattle.sv32_space.specs.declared.sides.Entry.{Entry}
use Rattle.sv32_space.specs.declared.sides.Entry.TheVariants.{Free, At, OnConsole}
use Rattle.sv32_space.specs.Entries.{Entries}
use Rattle.sv32_space.specs.EntryLedger.{SeatBytes, ledger_of, page_loan, page_of_side, page_of_entry, orphan_of_info, orphan_of_side, orphan_of_entry}

-- ---- a run of one place

pub in_one-at : (first p : Place) → p ≡ first → in_run first 1 p ≡ true
in_one-at first p e = in_run-from first 1 p (record { pid = ap (λ (q : Place). q.pid.0) e; from = let v : p.vpn.0 ≡ first.vpn.0 = ap (λ (q : Place). q.vpn.0) e in omega arith; to = let v : p.vpn.0 ≡ first.vpn.0 = ap (λ (q : Place). q.vpn.0) e in omega arith })

pub in_one-apart : (first p : Place) → p ≢ first → in_run first 1 p ≡ false
in_one-apart first p ne = false_from_ne_true (in_run first 1 p) (λ t. let h : IsInRun first 1 p = in_run-true first 1 p t in
    let low : first.vpn.0 ≤ p.vpn.0 = h.from in let high : p.vpn.0 < first.vpn.0 + 1 = h.to in
    ne (place_from p first h.pid (omega arith)))

pub moved-first : (from to : Place) → moved from to from ≡ to
moved-first from to = place_from (moved from to from) to refl (omega arith)

-- ---- what stands at a place

pub home_at : (E : Entries) (I : Infos) (B : SeatBytes) (p : Place) (e : Entry) → E p ≡ Some e
    → (ledger_of E I B).home p ≡ page_of_entry I B e
unfolding ledger_of
home_at E I B p e h = ap (option_and_then (page_of_entry I B)) h

pub orphan_at : (E : Entries) (I : Infos) (B : SeatBytes) (p : Place) (e : Entry) → E p ≡ Some e
    → (ledger_of E I B).orphan p ≡ orphan_of_entry I B e
unfolding ledger_of
orphan_at E I B p e h = ap (option_and_then (orphan_of_entry I B)) h

-- ---- what stays

-- what is said of a seat, and its bytes, stay
pub record Stays (I J : Infos) (B C : SeatBytes) (t : Seat) : Type 0 where
  pub info : J t ≡ I t
  pub bytes : C t ≡ B t

same_page : (o : Option Entry) (I J : Infos) (B C : SeatBytes)
    → ((side : Side) (t : Seat) → o ≡ Some (At side t) → Stays I J B C t)
    → option_and_then (page_of_entry J C) o ≡ option_and_then (page_of_entry I B) o
same_page None I J B C h = refl
same_page (Some Free) I J B C h = refl
same_page (Some (At side t)) I J B C h = let k : Stays I J B C t = h side t refl in
    ap (λ o. page_of_side side o (C t)) k.info ∙ ap (page_of_side side (I t)) k.bytes
same_page (Some (OnConsole w)) I J B C h = refl

same_orphan : (o : Option Entry) (I J : Infos) (B C : SeatBytes)
    → ((side : Side) (t : Seat) → o ≡ Some (At side t) → Stays I J B C t)
    → option_and_then (orphan_of_entry J C) o ≡ option_and_then (orphan_of_entry I B) o
same_orphan None I J B C h = refl
same_orphan (Some Free) I J B C h = refl
same_orphan (Some (At side t)) I J B C h = let k : Stays I J B C t = h side t refl in
    ap (λ o. orphan_of_side side o (C t)) k.info ∙ ap (orphan_of_side side (I t)) k.bytes
same_orphan (Some (OnConsole w)) I J B C h = refl

-- the page and the orphan at a place stay where its entry stays, and what is said of the seat that it names
pub home_stays : (E F : Entries) (I J : Infos) (B C : SeatBytes) (p : Place) → F p ≡ E p
    → ((side : Side) (t : Seat) → E p ≡ Some (At side t) → Stays I J B C t)
    → (ledger_of F J C).home p ≡ (ledger_of E I B).home p
unfolding ledger_of
home_stays E F I J B C p e h = ap (option_and_then (page_of_entry J C)) e ∙ same_page (E p) I J B C h

pub orphan_stays : (E F : Entries) (I J : Infos) (B C : SeatBytes) (p : Place) → F p ≡ E p
    → ((side : Side) (t : Seat) → E p ≡ Some (At side t) → Stays I J B C t)
    → (ledger_of F J C).orphan p ≡ (ledger_of E I B).orphan p
unfolding ledger_of
orphan_stays E F I J B C p e h = ap (option_and_then (orphan_of_entry J C)) e ∙ same_orphan (E p) I J B C h

-- ---- which entries name a seat

module _ (procs : ℕ) (E : Entries) (I : Infos) (agree : EntriesAgree procs E I) where
  -- none names a free seat
  pub names_free : (p : Place) (side : Side) (s : Seat) → E p ≡ Some (At side s) → I s ≢ None
  names_free p (Own r) s e n = let a = agree.own p r s e in grind arith
  names_free p (LentOut r) s e n = let a = agree.lent_out p r s e in grind arith
  names_free p LentIn s e n = let a = agree.lent_in p s e in grind arith
  names_free p (MutOut x) s e n = let a = agree.mut_out p x s e in grind arith
  names_free p MutIn s e n = let a = agree.mut_in p s e in grind arith

  -- the seat of a page without a loan is named by its home alone
  pub names_owned : (home p : Place) (side : Side) (s : Seat) → I s ≡ Some (owned_by home) → E p ≡ Some (At side s) → p ≡ home
  names_owned home p (Own r) s i e = let a = agree.own p r s e in grind arith
  names_owned home p (LentOut r) s i e = let a = agree.lent_out p r s e in grind arith
  names_owned home p LentIn s i e = let a = agree.lent_in p s e in grind arith
  names_owned home p (MutOut x) s i e = let a = agree.mut_out p x s e in grind arith
  names_owned home p MutIn s i e = let a = agree.mut_in p s e in grind arith

  -- that of a page on loan by its home and its holder's place
  pub names_lent : (home p : Place) (loan : LoanInfo) (side : Side) (s : Seat) → I s ≡ Some (on_loan (Some home) loan)
      → E p ≡ Some (At side s) → p ≢ home → p ≡ loan.holder
  names_lent home p loan (Own r) s i e ne = let a = agree.own p r s e in grind arith
  names_lent home p loan (LentOut r) s i e ne = let a = agree.lent_out p r s e in grind arith
  names_lent home p loan LentIn s i e ne = let a = agree.lent_in p s e in grind arith
  names_lent home p loan (MutOut x) s i e ne = let a = agree.mut_out p x s e in grind arith
  names_lent home p loan MutIn s i e ne = let a = agree.mut_in p s e in grind arith

  -- and that of an orphan by its holder's place
  pub names_orphan : (p : Place) (loan : LoanInfo) (side : Side) (s : Seat) → I s ≡ Some (on_loan None loan)
      → E p ≡ Some (At side s) → p ≡ loan.holder
  names_orphan p loan (Own r) s i e = let a = agree.own p r s e in grind arith
  names_orphan p loan (LentOut r) s i e = let a = agree.lent_out p r s e in grind arith
  names_orphan p loan LentIn s i e = let a = agree.lent_in p s e in grind arith
  names_orphan p loan (MutOut x) s i e = let a = agree.mut_out p x s e in grind arith
  names_orphan p loan MutIn s i e = let a = agree.mut_in p s e in grind arith

-- ---- the sides of a loan

-- a lender's entry tells the page with its former right
pub page_of_lender : (kind : LoanKind) (right : Right) (info : Option PageInfo) (bytes : List ℕ)
    → (kind ≡ Exclusive → right.w ≡ true)
    → page_of_side (lender_side kind right) info bytes
    ≡ Some (record { right = right; contents = Bytes bytes; loan = option_map page_loan (loan_in info) })
page_of_lender Shared right info bytes h = refl
page_of_lender Exclusive right info bytes h =
    ap (λ w. Some (record { right = record { w = w; x = right.x }; contents = Bytes bytes; loan = option_map page_loan (loan_in info) })) (sym (h refl))

pub page_of_holder : (kind : LoanKind) (info : Option PageInfo) (bytes : List ℕ) → page_of_side (holder_side kind) info bytes ≡ None
page_of_holder Shared info bytes = refl
page_of_holder Exclusive info bytes = refl

pub orphan_of_lender : (kind : LoanKind) (right : Right) (info : Option PageInfo) (bytes : List ℕ)
    → orphan_of_side (lender_side kind right) info bytes ≡ None
orphan_of_lender Shared right info bytes = refl
orphan_of_lender Exclusive right info bytes = refl

pub orphan_of_holder : (kind : LoanKind) (info : Option PageInfo) (bytes : List ℕ)
    → orphan_of_side (holder_side kind) info bytes ≡ option_and_then (orphan_of_info bytes) info
orphan_of_holder Shared info bytes = refl
orphan_of_holder Exclusive info bytes = refl
