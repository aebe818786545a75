-- What stays where a page comes in, and what an access gives after it.
use Rattle.xk_ports.specs.declared.store.SwapStore.{Ghosts as SwapStore}
use Rattle.std.proofs.Common.{◌≡◌, ℕ, ◌*◌, ◌/◌, if◌then◌else◌, Bool, true, false, ◌||◌, not, Option, Some, None, refl, sym, ap, subst, ◌∙◌, inl, inr, arith}
use Rattle.std.specs.Prelude.{is_some, Result, Ok, Err, IfOk, OnErr, OnOk}
use Rattle.xk_base.specs.declared.errors.Failed.{Failed}
use Rattle.std.specs.Option.{option_and_then, option_map_or}
use Rattle.std.proofs.lemmas.Bool.{and_parts, both_ways, cond-true, false≢true}
use Rattle.xk_base.specs.UserMemory.{Content, FetchesNumber, KeepsContent, LoadsNumber, Seen, StoresAsTold, number_at}
use Rattle.xk_base.specs.Numbers.Windows.{page_of}
use Rattle.xk_base.specs.declared.ids.Pid.{Pid}
use Rattle.xk_base.specs.declared.ids.Place.{Place}
use Rattle.xk_base.specs.declared.ids.Slot.{Slot as SlotNumber}
use Rattle.xk_base.specs.declared.pages.Access.{Access}
use Rattle.xk_base.specs.declared.pages.Access.TheVariants.{Load}
use Rattle.xk_base.specs.declared.pages.Stored.{Stored}
use Rattle.xk_base.specs.declared.pages.Stored.TheVariants.{Done, Device, Fault}
use Rattle.xk_base.specs.declared.pages.Width.{Width}
use Rattle.xk_base.specs.declared.pages.Width.TheVariants.{Word}
use Rattle.phys_pages.specs.declared.infos.Seat.TheVariants.{Frame, Slot}
use Rattle.phys_pages.specs.Owners.{infos}
use Rattle.ledger_model.specs.Ledger.{Contents, Ledger, PageName, contents_of, has_bytes}
use Rattle.ledger_model.specs.Loans.{bare}
use Rattle.ledger_model.specs.Places.{is_user_place}
use Rattle.ledger_model.specs.Reach.{owner_may, reach}
use Rattle.ledger_model.proofs.LedgerLemmas.{cases_Option}
use Rattle.ledger_model.proofs.Pages.BareLemmas.{bare-contents, bare-reach, is_bytes}
use Rattle.sv32_space.specs.EntryReach.{entry_may, side_may}
use Rattle.sv32_space.specs.SpelledEntries.{entries}
use Rattle.sv32_space.specs.declared.sides.Entry.{Entry}
use Rattle.sv32_space.specs.declared.sides.Entry.TheVariants.{At, Free, OnConsole}
use Rattle.sv32_space.specs.declared.sides.Side.{Side}
use Rattle.sv32_space.proofs.Ledgers.EntryLedgerLemmas.{names_free}
use Rattle.vm_memory.specs.declared.memory.Memory.{Memory}
use Rattle.page_views.specs.declared.targets.Target.{Target}
use Rattle.page_views.specs.declared.targets.Target.TheVariants.{Page, Console, Nothing}
use Rattle.vm_memory.specs.Bytes.{MeansBytes, is_known, is_out, means_bytes, names_slot, none_out}
use Rattle.vm_memory.specs.Memory.{IsUsable, Size, has_failed, ledger, processes, store_of}
use Rattle.vm_memory.specs.Pages.Exchanging.{BringsIn, IsInFrame, slot_reached}
use Rattle.vm_memory.specs.Sound.{IsSound}
use Rattle.vm_memory.specs.Using.Access.{contents_reached, reaches_bytes}
use Rattle.page_views.specs.EntryAccess.{entry_target, is_given_target}
use Rattle.vm_memory.specs.Using.UserView.{KeepsRest, contents_seen, seen_memory, user_content, user_view}
use Rattle.vm_memory.proofs.Changing.CallLemmas.{either_kept, none_out-slots}
use Rattle.vm_memory.proofs.Changing.ShiftedLemmas.{known_kept}
use Rattle.vm_memory.proofs.Changing.SoundMemoryLemmas.{sound-tied}
use Rattle.vm_memory.proofs.Using.ReachedLemmas.{reach_nowhere}
use Rattle.vm_memory.proofs.Using.WalkReachLemmas.{given_entry}

-- ---- the same rights give the same access

reached_kind : (procs : ℕ) (l k : Ledger) → bare k ≡ bare l → (p : Place) (access : Access)
    → is_bytes (contents_reached procs k p access) ≡ is_bytes (contents_reached procs l p access)
reached_kind procs l k e p access =
    ap (λ r. is_bytes (option_and_then (contents_of k) r)) (bare-reach procs l k p access e) ∙ by_name (reach procs l p access)
  where
    by_name : (o : Option PageName) → is_bytes (option_and_then (contents_of k) o) ≡ is_bytes (option_and_then (contents_of l) o)
    by_name None = refl
    by_name (Some name) = bare-contents l k name e

console_kind : (o : Option Contents) → option_map_or (λ (c : Contents). not (has_bytes c)) o false ≡ option_map_or not (is_bytes o) false
console_kind None = refl
console_kind (Some c) = refl

bytes_kind : (o : Option Contents) → option_map_or has_bytes o false ≡ option_map_or (λ (b : Bool). b) (is_bytes o) false
bytes_kind None = refl
bytes_kind (Some c) = refl

same_may : (procs : ℕ) (l k : Ledger) (pid : Pid) → bare k ≡ bare l → (seen_memory procs k pid).may ≡ (seen_memory procs l pid).may
unfolding seen_memory
same_may procs l k pid e = λ i access a. is_some (bare-reach procs l k (page_of pid a) access e i)

same_console : (procs : ℕ) (l k : Ledger) (pid : Pid) → bare k ≡ bare l → (seen_memory procs k pid).console ≡ (seen_memory procs l pid).console
unfolding seen_memory
same_console procs l k pid e = λ i a. (console_kind (contents_seen procs k pid a)
    ∙ (ap (λ o. option_map_or not o false) (reached_kind procs l k e (page_of pid a) Load) ∙ sym (console_kind (contents_seen procs l pid a)))) i

same_reaches : (procs : ℕ) (l k : Ledger) → bare k ≡ bare l → (p : Place) (access : Access) → reaches_bytes procs k p access ≡ reaches_bytes procs l p access
same_reaches procs l k e p access = bytes_kind (contents_reached procs k p access)
    ∙ (ap (λ o. option_map_or (λ (b : Bool). b) o false) (reached_kind procs l k e p access) ∙ sym (bytes_kind (contents_reached procs l p access)))

pub either_way : {A : Type 0} (a b : Bool) → (a || b) ≡ true → (a ≡ true → A) → (b ≡ true → A) → A
either_way true b h first second = first refl
either_way false b h first second = second h

keeps_if : (b c : Bool) (x y : ℕ → ℕ) → (b ≡ true → (c ≡ true) × (y ≡ x)) → KeepsContent (if b then Some x else None) (if c then Some y else None)
keeps_if false c x y h = tt
keeps_if true c x y h = cond-true c (Some y) None (h refl).0 ∙ ap (λ f. Some f) (h refl).1

-- ---- a page comes in

module _ {W : Type 0} (S : SwapStore W) (m n : Memory W)
    (b : BringsIn S m n) where
  pub brings_none : none_out m ≡ true → none_out n ≡ true
  brings_none none = ap (λ k. none_out k) (b.none none) ∙ none

  pub brings_means : MeansBytes S m → MeansBytes S n
  brings_means means = either_kept (is_known S m) (none_out m) (is_known S n) (none_out n)
      (known_kept S m.store n.store b.moves.store) brings_none means

  pub brings_whole : MeansBytes S m → ledger S.held n ≡ ledger S.held m
  brings_whole means = either_way (is_known S m) (none_out m) means (λ known. b.moves.whole known) (λ none. ap (ledger S.held) (b.none none))

  procs_same : processes n ≡ processes m
  procs_same = ap (λ (s : Size). s.procs) b.moves.size

  pub brings_reaches : (p : Place) (access : Access) → reaches_bytes (processes n) (ledger S.held n) p access ≡ reaches_bytes (processes m) (ledger S.held m) p access
  brings_reaches p access = ap (λ k. reaches_bytes k (ledger S.held n) p access) procs_same
      ∙ same_reaches (processes m) (ledger S.held m) (ledger S.held n) b.moves.rights p access

  module _ (pid : Pid) where
    pub brings_may : (user_view S.held n pid).may ≡ (user_view S.held m pid).may
    brings_may = ap (λ k. (seen_memory k (ledger S.held n) pid).may) procs_same ∙ same_may (processes m) (ledger S.held m) (ledger S.held n) pid b.moves.rights

    pub brings_console : (user_view S.held n pid).console ≡ (user_view S.held m pid).console
    brings_console = ap (λ k. (seen_memory k (ledger S.held n) pid).console) procs_same
        ∙ same_console (processes m) (ledger S.held m) (ledger S.held n) pid b.moves.rights

    pub brings_bytes : MeansBytes S m → (user_view S.held n pid).byte ≡ (user_view S.held m pid).byte
    brings_bytes means = ap (λ k. (seen_memory k (ledger S.held n) pid).byte) procs_same ∙ ap (λ l. (seen_memory (processes m) l pid).byte) (brings_whole means)

    pub brings_content : KeepsContent (user_content S m pid) (user_content S n pid)
    brings_content = keeps_if (means_bytes S m) (means_bytes S n) (user_view S.held m pid).byte (user_view S.held n pid).byte
        (λ means. (brings_means means, brings_bytes means))

    pub brings_rest : KeepsRest S pid m n
    brings_rest = record {
      rights = b.moves.rights;
      sizes = b.moves.size;
      means = brings_means;
      unseen = λ means name unseen. ap (λ l. contents_of l name) (brings_whole means);
      sound = λ s. b.moves.sound;
      tie = λ s. sound-tied S n b.moves.sound;
      out = λ none usable. subst IsUsable (sym (b.none none)) usable;
      none = brings_none;
      no_more = b.no_more;
      still = λ none. ap (λ x. store_of x) (b.none none);
      store = b.moves.store;
    }

-- ---- it is fit on Ok alone

pub fit_if : {W A E : Type 0} (slot_count : W → ℕ) (m : Memory W) (r : Result A E) → IsSound slot_count m → OnOk r (IsUsable m) → OnOk r (IsSound slot_count m × IsUsable m)
fit_if slot_count m (Ok x) sound usable = (sound, usable)
fit_if slot_count m (Err e) sound usable = tt

pub unfit_if : {W A E : Type 0} (slot_count : W → ℕ) (m : Memory W) (r : Result A E) → OnErr r (has_failed m ≡ true)
    → OnErr r (IsSound slot_count m × IsUsable m → ⊥)
unfit_if slot_count m (Ok x) failed = tt
unfit_if slot_count m (Err e) failed = λ fit. false≢true (sym fit.1 ∙ failed)

-- ---- what an access gives after it

pub loads_back : (told may may_now : Bool) (byte byte_now : ℕ → ℕ) (va : ℕ) (width : Width) (number : Option ℕ) → may_now ≡ may
    → (told ≡ true → byte_now ≡ byte) → LoadsNumber may_now None (Some byte_now) va width number
    → LoadsNumber may None (if told then Some byte else None) va width number
loads_back told may may_now byte byte_now va width None same bytes h = sym same ∙ h
loads_back true may may_now byte byte_now va width (Some v) same bytes h = (sym same ∙ h.0, h.1 ∙ ap (λ f. number_at f va width) (bytes refl))
loads_back false may may_now byte byte_now va width (Some v) same bytes h = (sym same ∙ h.0, tt)

pub fetches : (may : Bool) (content : Content) (va : ℕ) (number : Option ℕ) → LoadsNumber may None content va Word number → FetchesNumber may content va number
fetches may content va None h = h
fetches may content va (Some v) h = h

pub fetches_if : (may : Bool) (content : Content) (va : ℕ) (r : Result (Option ℕ) Failed) → IfOk r (λ number. LoadsNumber may None content va Word number)
    → IfOk r (λ number. FetchesNumber may content va number)
fetches_if may content va (Ok number) h = fetches may content va number h
fetches_if may content va (Err e) h = tt

-- content that was told before the page came in is told after it
told_before : (told : Bool) (byte : ℕ → ℕ) (now after : Content) → KeepsContent (if told then Some byte else None) now → KeepsContent now after
    → KeepsContent (if told then Some byte else None) after
told_before false byte now after same kept = tt
told_before true byte now after same kept = subst (λ c. KeepsContent c after) same kept

pub stores_back : (may may_now console console_now told : Bool) (byte : ℕ → ℕ) (now : Content) (after : Seen) (va : ℕ) (width : Width) (value : ℕ) (stored : Stored)
    → may_now ≡ may → console_now ≡ console → KeepsContent (if told then Some byte else None) now
    → StoresAsTold may_now console_now (record { content = now; timer = None }) after va width value stored
    → StoresAsTold may console (record { content = if told then Some byte else None; timer = None }) after va width value stored
stores_back may may_now console console_now false byte now after va width value Done same device told h = (sym same ∙ h.0, sym device ∙ h.1, (tt, h.2.1))
stores_back may may_now console console_now true byte now after va width value Done same device told h =
    subst (λ c. StoresAsTold may console (record { content = c; timer = None }) after va width value Done) told (sym same ∙ h.0, sym device ∙ h.1, h.2)
stores_back may may_now console console_now told byte now after va width value (Device offset) same device kept h =
    (sym same ∙ h.0, sym device ∙ h.1, h.2, (told_before told byte now after.content kept h.3.0, h.3.1))
stores_back may may_now console console_now told byte now after va width value Fault same device kept h =
    (sym same ∙ h.0, (told_before told byte now after.content kept h.1.0, h.1.1))

-- ---- by the entry

-- an entry that gives the access but doesn't lead anywhere names the slot of a page
pub leads_unless_out : (o : Option Entry) (access : Access) → slot_reached o access ≡ None → is_given_target (entry_target o access) ≡ entry_may o access
leads_unless_out None access h = refl
leads_unless_out (Some Free) access h = refl
leads_unless_out (Some (At side (Frame f))) access h = by_given (side_may side access)
  where
    by_given : (b : Bool) → is_given_target (if b then Page f else Nothing) ≡ b
    by_given true = refl
    by_given false = refl
leads_unless_out (Some (At side (Slot s))) access h = by_given (side_may side access) h
  where
    by_given : (b : Bool) → (if b then Some s else None) ≡ None → false ≡ b
    by_given true h = absurd cc
    by_given false h = refl
leads_unless_out (Some (OnConsole w)) access h = by_given (owner_may (record { w = w; x = false }) access)
  where
    by_given : (b : Bool) → is_given_target (if b then Console else Nothing) ≡ b
    by_given true = refl
    by_given false = refl

pub given_may : (o : Option Entry) (access : Access) → is_given_target (entry_target o access) ≡ true → entry_may o access ≡ true
given_may o access h = (and_parts (entry_may o access) (not (names_slot o)) (sym (given_entry o access) ∙ h)).0

pub record IsOutAt (o : Option Entry) (access : Access) (s : SlotNumber) : Type 0 where
  pub side : Side
  pub entry : o ≡ Some (At side (Slot s))
  pub given : side_may side access ≡ true

abbrev slot_or : Option SlotNumber → SlotNumber → SlotNumber
slot_or None other = other
slot_or (Some s) other = s

pub out_at : (o : Option Entry) (access : Access) (s : SlotNumber) → slot_reached o access ≡ Some s → IsOutAt o access s
out_at None access s h = absurd cc
out_at (Some Free) access s h = absurd cc
out_at (Some (At side (Frame f))) access s h = absurd cc
out_at (Some (OnConsole w)) access s h = absurd cc
out_at (Some (At side (Slot r))) access s h = by_given (side_may side access) refl h
  where
    by_given : (b : Bool) → side_may side access ≡ b → (if b then Some r else None) ≡ Some s → IsOutAt (Some (At side (Slot r))) access s
    by_given false given h = absurd cc
    by_given true given h = record { side = side; entry = ap (λ o. Some (At side (Slot (slot_or o r)))) h; given = given }

module _ {W : Type 0} (slot_count : W → ℕ) (m : Memory W) (sound : IsSound slot_count m) (p : Place) (access : Access) (s : SlotNumber)
    (h : slot_reached (entries (processes m) m.ram p) access ≡ Some s) where
  there : IsOutAt (entries (processes m) m.ram p) access s
  there = out_at (entries (processes m) m.ram p) access s h

  pub reached_out : is_out m p ≡ true
  unfolding is_out
  reached_out = ap names_slot there.entry

  pub reached_used : is_some (infos m.owners (Slot s)) ≡ true
  reached_used = elim (cases_Option (infos m.owners (Slot s))) [
    | inl none ↦ absurd (names_free (processes m) (entries (processes m) m.ram) (infos m.owners) sound.agree.entries p there.side (Slot s) there.entry none)
    | inr some ↦ ap is_some some.1
  ]

  pub reached_not_none : {A : Type 0} → none_out m ≡ true → A
  reached_not_none none = absurd (both_ways (is_some (infos m.owners (Slot s))) (ap is_some (none_out-slots m none s)) reached_used)

-- an access that is given leads to a page in a frame
pub leads_near : (o : Option Entry) (side : Side) (access : Access) → IsInFrame o side → is_given_target (entry_target o access) ≡ entry_may o access
leads_near o side access h = subst (λ e. is_given_target (entry_target e access) ≡ entry_may e access) (sym h.near) (by_given (side_may side access))
  where
    by_given : (b : Bool) → is_given_target (if b then Page h.frame else Nothing) ≡ b
    by_given true = refl
    by_given false = refl

-- an access that isn't given leads nowhere
pub nowhere_target : (t : Target) → is_given_target t ≡ false → Nothing ≡ t
nowhere_target (Page f) h = absurd (both_ways true h refl)
nowhere_target Console h = absurd (both_ways true h refl)
nowhere_target Nothing h = refl

-- the page of the address at which a place begins
pub same_page : (at : Place) → page_of at.pid (at.vpn.0 * 4096) ≡ at
same_page at =
    let page : at.vpn.0 * 4096 / 4096 ≡ at.vpn.0 = omega arith in
    ap (λ v. record at { vpn = record { 0 = v } }) page

-- a place without an entry is reached by none
pub nowhere_reached : {W : Type 0} (S : SwapStore W) (m : Memory W) → IsSound S.slot_count m → (p : Place) (access : Access)
    → is_user_place (processes m) p ≡ false → reaches_bytes (processes m) (ledger S.held m) p access ≡ false
nowhere_reached S m sound p access nowhere = by_entry (entries (processes m) m.ram p) refl
  where
    by_entry : (o : Option Entry) → entries (processes m) m.ram p ≡ o → reaches_bytes (processes m) (ledger S.held m) p access ≡ false
    by_entry None e = ap (λ r. option_map_or has_bytes (option_and_then (contents_of (ledger S.held m)) r) false) (reach_nowhere S m sound p access e)
    by_entry (Some entry) e = absurd (both_ways (is_user_place (processes m) p) nowhere (sym (sound.agree.entries.spelled p) ∙ ap is_some e))
