-- What a place is, and what its process reaches there, by the entry of the place.
use Rattle.std.proofs.Common.{◌≡◌, ℕ, if◌then◌else◌, Bool, true, false, List, Option, Some, None, refl, sym, ap, ◌∙◌}
use Rattle.std.specs.Option.{option_and_then, option_map}
use Rattle.xk_base.specs.declared.ids.Place.{Place}
use Rattle.xk_base.specs.declared.pages.Access.{Access}
use Rattle.xk_base.specs.declared.pages.LoanKind.{LoanKind}
use Rattle.xk_base.specs.declared.pages.LoanKind.TheVariants.{Shared, Exclusive}
use Rattle.xk_base.specs.declared.pages.Right.{Right}
use Rattle.phys_pages.specs.declared.infos.LoanInfo.{LoanInfo}
use Rattle.phys_pages.specs.declared.infos.PageInfo.{PageInfo}
use Rattle.phys_pages.specs.declared.infos.Seat.{Seat}
use Rattle.ledger_model.specs.Ledger.{Ledger, Console, Bytes, Page, Orphan, Homed, contents_of}
use Rattle.ledger_model.specs.Reach.{Role, FreePlace, HomePlace, HolderPlace, OrphanPlace, may, holder_may, page_at_role, role_at, reach}
use Rattle.ledger_model.proofs.LedgerLemmas.{reach-role}
use Rattle.sv32_space.specs.declared.sides.Side.{Side}
use Rattle.sv32_space.specs.declared.sides.Side.TheVariants.{Own, LentOut, LentIn, MutOut, MutIn}
use Rattle.sv32_space.specs.Agreement.{Infos, EntriesAgree, on_loan, loan_in, home_in, number_of, right_in, loan_to, loan_told}
use Rattle.sv32_space.specs.declared.sides.Entry.{Entry}
use Rattle.sv32_space.specs.declared.sides.Entry.TheVariants.{Free, At, OnConsole}
use Rattle.sv32_space.specs.Entries.{Entries}
use Rattle.sv32_space.specs.EntryLedger.{SeatBytes, ledger_of, page_loan, page_of_side, orphan_of_info}
use Rattle.sv32_space.specs.EntryReach.{entry_may, held_name, side_name, entry_name}
use Rattle.sv32_space.proofs.Agreeing.RoleLemmas.{role_of_home, role_of_holder, role_of_orphan, role_of_free, role_of_none}
use Rattle.sv32_space.proofs.Ledgers.EntryLedgerLemmas.{home_at, orphan_at}

-- ---- the role that an entry gives its place

abbrev lent_home : Right → LoanInfo → List ℕ → Role
lent_home right loan bytes = HomePlace (record { right = right; contents = Bytes bytes; loan = Some (page_loan loan) })

abbrev pub held_role : Place → LoanKind → List ℕ → Option PageInfo → Option Place → Role
held_role p kind bytes info None = OrphanPlace (record { kind = kind; bytes = bytes; number = number_of (loan_in info) })
held_role p kind bytes info (Some home) = HolderPlace home (page_loan (loan_to p kind info))

abbrev pub side_role : Place → Side → List ℕ → Option PageInfo → Role
side_role p (Own right) bytes info = HomePlace (record { right = right; contents = Bytes bytes; loan = None })
side_role p (LentOut right) bytes info = lent_home right (loan_told Shared info) bytes
side_role p LentIn bytes info = held_role p Shared bytes info (home_in info)
side_role p (MutOut x) bytes info = lent_home (record { w = true; x = x }) (loan_told Exclusive info) bytes
side_role p MutIn bytes info = held_role p Exclusive bytes info (home_in info)

abbrev pub entry_role : Infos → SeatBytes → Place → Option Entry → Role
entry_role I B p None = FreePlace
entry_role I B p (Some Free) = FreePlace
entry_role I B p (Some (At side s)) = side_role p side (B s) (I s)
entry_role I B p (Some (OnConsole w)) = HomePlace (record { right = record { w = w; x = false }; contents = Console; loan = None })

module _ (procs : ℕ) (E : Entries) (I : Infos) (B : SeatBytes) (agree : EntriesAgree procs E I) where
  abbrev L : Ledger
  L = ledger_of E I B

  held_at : (p : Place) (kind : LoanKind) (s : Seat) → I s ≡ Some (on_loan (home_in (I s)) (loan_to p kind (I s)))
      → role_at procs L p ≡ held_role p kind (B s) (I s) (home_in (I s))
  held_at p kind s i = by_home (home_in (I s)) refl
    where
      by_home : (h : Option Place) → home_in (I s) ≡ h → role_at procs L p ≡ held_role p kind (B s) (I s) (home_in (I s))
      by_home (Some q) e =
          role_of_holder procs E I B agree s q (loan_to p kind (I s)) (i ∙ ap (λ h. Some (on_loan h (loan_to p kind (I s)))) e)
          ∙ ap (held_role p kind (B s) (I s)) (sym e)
      by_home None e =
          role_of_orphan procs E I B agree s (loan_to p kind (I s)) (i ∙ ap (λ h. Some (on_loan h (loan_to p kind (I s)))) e)
          ∙ ap (held_role p kind (B s) (I s)) (sym e)

  lent_home_at : (p : Place) (right : Right) (loan : LoanInfo) (side : Side) (s : Seat) → E p ≡ Some (At side s)
      → I s ≡ Some (on_loan (Some p) loan)
      → page_of_side side (I s) (B s) ≡ Some (record { right = right; contents = Bytes (B s); loan = option_map page_loan (loan_in (I s)) })
      → role_at procs L p ≡ lent_home right loan (B s)
  lent_home_at p right loan side s e i h = role_of_home procs E I B agree p (At side s) (record { right = right; contents = Bytes (B s); loan = Some (page_loan loan) }) e
      (h ∙ ap (λ o. Some (record { right = right; contents = Bytes (B s); loan = option_map page_loan (loan_in o) })) i)

  -- THE ROLE of a place is that which its entry gives it
  pub role-entry : (p : Place) (o : Option Entry) → E p ≡ o → role_at procs L p ≡ entry_role I B p o
  role-entry p None e = role_of_none procs E I B agree p e
  role-entry p (Some Free) e = role_of_free procs E I B agree p e
  role-entry p (Some (At (Own right) s)) e = role_of_home procs E I B agree p (At (Own right) s) (record { right = right; contents = Bytes (B s); loan = None }) e refl
  role-entry p (Some (At (LentOut right) s)) e = lent_home_at p right (loan_told Shared (I s)) (LentOut right) s e (agree.lent_out p right s e) refl
  role-entry p (Some (At LentIn s)) e = held_at p Shared s (agree.lent_in p s e)
  role-entry p (Some (At (MutOut x) s)) e = lent_home_at p (record { w = true; x = x }) (loan_told Exclusive (I s)) (MutOut x) s e (agree.mut_out p x s e) refl
  role-entry p (Some (At MutIn s)) e = held_at p Exclusive s (agree.mut_in p s e)
  role-entry p (Some (OnConsole w)) e = role_of_home procs E I B agree p (OnConsole w) (record { right = record { w = w; x = false }; contents = Console; loan = None }) e refl

  -- ---- what is reached

  held_if : (p : Place) (kind : LoanKind) (bytes : List ℕ) (info : Option PageInfo) (h : Option Place) (access : Access)
      → (if may (held_role p kind bytes info h) access then page_at_role p (held_role p kind bytes info h) else None)
      ≡ (if holder_may kind access then Some (held_name p h) else None)
  held_if p kind bytes info None access = refl
  held_if p kind bytes info (Some q) access = refl

  -- THE ACCESSES: the process has those that its entry gives, to the page that the entry names
  pub reach-entry : (p : Place) (e : Entry) (access : Access) → E p ≡ Some e
      → reach procs L p access ≡ (if entry_may (Some e) access then Some (entry_name I p e) else None)
  reach-entry p Free access h = reach-role procs L p access FreePlace (role-entry p (Some Free) h)
  reach-entry p (At (Own right) s) access h = reach-role procs L p access (side_role p (Own right) (B s) (I s)) (role-entry p (Some (At (Own right) s)) h)
  reach-entry p (At (LentOut right) s) access h = reach-role procs L p access (side_role p (LentOut right) (B s) (I s)) (role-entry p (Some (At (LentOut right) s)) h)
  reach-entry p (At LentIn s) access h =
      reach-role procs L p access (side_role p LentIn (B s) (I s)) (role-entry p (Some (At LentIn s)) h) ∙ held_if p Shared (B s) (I s) (home_in (I s)) access
  reach-entry p (At (MutOut x) s) access h = reach-role procs L p access (side_role p (MutOut x) (B s) (I s)) (role-entry p (Some (At (MutOut x) s)) h)
  reach-entry p (At MutIn s) access h =
      reach-role procs L p access (side_role p MutIn (B s) (I s)) (role-entry p (Some (At MutIn s)) h) ∙ held_if p Exclusive (B s) (I s) (home_in (I s)) access
  reach-entry p (OnConsole w) access h = reach-role procs L p access (entry_role I B p (Some (OnConsole w))) (role-entry p (Some (OnConsole w)) h)

  pub reach-none : (p : Place) (access : Access) → E p ≡ None → reach procs L p access ≡ None
  reach-none p access h = reach-role procs L p access FreePlace (role-entry p None h)

  -- ---- what the page holds

  held_contents : (p q : Place) (kind : LoanKind) (s : Seat) → I s ≡ Some (on_loan (Some q) (loan_to p kind (I s)))
      → contents_of L (Homed q) ≡ Some (Bytes (B s))
  held_contents p q Shared s i = let a = agree.lender s q (loan_to p Shared (I s)) i in
      ap (option_map (λ (page : Page). page.contents)) (home_at E I B q (At (LentOut (right_in (E q))) s) a)
  held_contents p q Exclusive s i = let a = agree.lender s q (loan_to p Exclusive (I s)) i in
      ap (option_map (λ (page : Page). page.contents)) (home_at E I B q (At (MutOut (right_in (E q)).x) s) a)

  held_bytes : (p : Place) (kind : LoanKind) (s : Seat) → I s ≡ Some (on_loan (home_in (I s)) (loan_to p kind (I s)))
      → L.orphan p ≡ option_and_then (orphan_of_info (B s)) (I s)
      → contents_of L (held_name p (home_in (I s))) ≡ Some (Bytes (B s))
  held_bytes p kind s i o = by_home (home_in (I s)) refl
    where
      by_home : (h : Option Place) → home_in (I s) ≡ h → contents_of L (held_name p (home_in (I s))) ≡ Some (Bytes (B s))
      by_home (Some q) e =
          ap (λ h. contents_of L (held_name p h)) e ∙ held_contents p q kind s (i ∙ ap (λ h. Some (on_loan h (loan_to p kind (I s)))) e)
      by_home None e =
          ap (λ h. contents_of L (held_name p h)) e
          ∙ ap (option_map (λ (orphan : Orphan). Bytes orphan.bytes)) (o ∙ ap (option_and_then (orphan_of_info (B s))) (i ∙ ap (λ h. Some (on_loan h (loan_to p kind (I s)))) e))

  home_contents : (p : Place) (side : Side) (s : Seat) → E p ≡ Some (At side s)
      → option_map (λ (page : Page). page.contents) (page_of_side side (I s) (B s)) ≡ Some (Bytes (B s))
      → contents_of L (Homed p) ≡ Some (Bytes (B s))
  home_contents p side s e h = ap (option_map (λ (page : Page). page.contents)) (home_at E I B p (At side s) e) ∙ h

  -- THE BYTES of the page that an entry names are those of its seat
  pub contents-entry : (p : Place) (side : Side) (s : Seat) → E p ≡ Some (At side s)
      → contents_of L (side_name I p side s) ≡ Some (Bytes (B s))
  contents-entry p (Own right) s e = home_contents p (Own right) s e refl
  contents-entry p (LentOut right) s e = home_contents p (LentOut right) s e refl
  contents-entry p LentIn s e = held_bytes p Shared s (agree.lent_in p s e) (orphan_at E I B p (At LentIn s) e)
  contents-entry p (MutOut x) s e = home_contents p (MutOut x) s e refl
  contents-entry p MutIn s e = held_bytes p Exclusive s (agree.mut_in p s e) (orphan_at E I B p (At MutIn s) e)

  pub contents-console : (p : Place) (w : Bool) → E p ≡ Some (OnConsole w) → contents_of L (Homed p) ≡ Some Console
  contents-console p w e = ap (option_map (λ (page : Page). page.contents)) (home_at E I B p (OnConsole w) e)
