-- Pages that are placed step by step, where others may have to go out.
use Rattle.std.proofs.Common.{◌≡◌, ℕ, ◌+◌, Bool, true, false, if◌then◌else◌, Option, Some, None, List, [], ◌∷◌, refl, sym, ap, ◌∙◌, arith}
use Rattle.std.specs.Option.{option_map}
use Rattle.std.proofs.lemmas.Option.{none-some}
use Rattle.xk_base.specs.Tables.Counting.{put_at}
use Rattle.xk_base.specs.declared.ids.Frame.{Frame as FrameNumber}
use Rattle.xk_base.specs.declared.ids.Number.{Number}
use Rattle.xk_base.specs.declared.ids.Pid.{Pid}
use Rattle.xk_base.specs.declared.ids.Place.{Place}
use Rattle.boot_plan.specs.declared.plans.PagePlan.{PagePlan}
use Rattle.phys_pages.specs.declared.infos.PageInfo.{PageInfo}
use Rattle.phys_pages.specs.declared.infos.Seat.TheVariants.{Frame, Slot}
use Rattle.phys_pages.specs.Owners.{infos, seat_eq}
use Rattle.ledger_model.specs.Ledger.{Ledger, Orphan, Page, loan_of, pages}
use Rattle.ledger_model.specs.Loans.{bare, bare_orphan, bare_page, loans, IsFresh, of_number, orphan_of_number, loan_of_orphan}
use Rattle.ledger_model.specs.Places.{same_place}
use Rattle.ledger_model.proofs.LedgerLemmas.{same_ledger}
use Rattle.ledger_model.proofs.Stepping.WritingLemmas.{bare-pages}
use Rattle.sv32_space.specs.PageSteps.{place_page}
use Rattle.sv32_space.specs.Tie.{Held}
use Rattle.xk_ports.specs.declared.store.SwapStore.{Ghosts as SwapStore}
use Rattle.xk_ports.specs.Keeping.{tells_truly}
use Rattle.vm_memory.specs.declared.memory.Memory.{Memory}
use Rattle.vm_memory.specs.Bytes.{MeansBytesOver, is_known, none_out}
use Rattle.vm_memory.specs.FirstLedger.{first_page}
use Rattle.vm_memory.specs.Memory.{Size, ledger, processes}
use Rattle.vm_memory.specs.Pages.Changing.{ChangesPagesAlone}
use Rattle.vm_memory.specs.Pages.Exchanging.{MovesPages}
use Rattle.vm_memory.specs.Sound.{IsSound}
use Rattle.vm_memory.specs.Starting.{HasNoPage, IsUnlent, KeepsUnlent, PlacesPages, place_pages}
use Rattle.vm_memory.proofs.Changing.CallLemmas.{alone-none_out, none_out-kept, same_store}
use Rattle.vm_memory.proofs.Changing.CrowdedLemmas.{ends_of, marked_ledger, marked_none, over_from}
use Rattle.vm_memory.proofs.Changing.ShiftedLemmas.{keeps_all, known_kept, store_then}
use Rattle.vm_memory.proofs.Changing.SoundMemoryLemmas.{pages-ledger}

-- ---- ledgers that are equal but for their bytes

-- .. are so after a page is placed
pub place_bare : (at : Place) (page : Page) (l k : Ledger) → bare k ≡ bare l → bare (place_page at page k) ≡ bare (place_page at page l)
unfolding bare place_page
place_bare at page l k e = same_ledger (bare (place_page at page k)) (bare (place_page at page l)) homes (λ p. ap (λ (x : Ledger). x.orphan p) e)
  where
    homes : (p : Place) → (bare (place_page at page k)).home p ≡ (bare (place_page at page l)).home p
    homes p = by_test (same_place p at)
      where
        by_test : (b : Bool) → option_map bare_page (if b then Some page else k.home p) ≡ option_map bare_page (if b then Some page else l.home p)
        by_test true = refl
        by_test false = ap (λ (x : Ledger). x.home p) e

-- .. after the pages of a process are
pub pages_bare : (file : List ℕ) (pid : Pid) (xs : List PagePlan) (l k : Ledger) → bare k ≡ bare l → bare (place_pages file pid xs k) ≡ bare (place_pages file pid xs l)
pages_bare file pid [] l k e = e
pages_bare file pid (x ∷ xs) l k e =
    pages_bare file pid xs (place_page at (first_page file x) l) (place_page at (first_page file x) k) (place_bare at (first_page file x) l k e)
  where
    at : Place
    at = record { pid = pid; vpn = x.vpn }

bare_loan : (o : Option Page) → loan_of (option_map bare_page o) ≡ loan_of o
bare_loan None = refl
bare_loan (Some page) = refl

no_orphan : (o : Option Orphan) → option_map bare_orphan o ≡ None → o ≡ None
no_orphan None e = refl
no_orphan (Some orphan) e = absurd (none-some (bare_orphan orphan) (sym e))

no_page : (o : Option Page) → option_map bare_page o ≡ None → o ≡ None
no_page None e = refl
no_page (Some page) e = absurd (none-some (bare_page page) (sym e))

-- .. have no loan where one of them has none
pub unlent_bare : (l k : Ledger) → bare k ≡ bare l → IsUnlent l → IsUnlent k
unfolding bare
unlent_bare l k e u = record {
  loans = λ q. sym (bare_loan (k.home q)) ∙ (ap (λ (x : Ledger). loan_of (x.home q)) e ∙ (bare_loan (l.home q) ∙ u.loans q));
  orphans = λ q. no_orphan (k.orphan q) (ap (λ (x : Ledger). x.orphan q) e ∙ ap (option_map bare_orphan) (u.orphans q));
}

-- .. and a process without a page has none
pub none_bare : (pid : ℕ) (l k : Ledger) → bare k ≡ bare l → HasNoPage pid l → HasNoPage pid k
unfolding bare
none_bare pid l k e none q same = no_page (k.home q) (ap (λ (x : Ledger). x.home q) e ∙ ap (option_map bare_page) (none q same))

-- where nothing is on loan, each number is fresh
pub unlent_fresh : (l : Ledger) → IsUnlent l → (number : Number) → IsFresh (loans l) number
unfolding loans
unlent_fresh l u number = record {
  homes = λ p. ap (of_number number) (u.loans p);
  orphans = λ p. ap (λ o. orphan_of_number number (option_map loan_of_orphan o)) (u.orphans p);
}

module _ {W : Type 0} (S : SwapStore W) where
  abbrev Places : Memory W → Memory W → ℕ → (Ledger → Ledger) → Type 0
  Places old new count place = PlacesPages S old new count place

  -- ---- one page

  -- in a frame that leaves another one free
  pub placed_near : (m n : Memory W) (place : Ledger → Ledger) (f : FrameNumber) (info : PageInfo) → IsSound S.slot_count n
      → ledger S.held n ≡ place (ledger S.held m) → infos n.owners ≡ put_at seat_eq (infos m.owners) (Frame f) (Some info)
      → n.pages ≡ m.pages + 1 → ChangesPagesAlone m n → Places m n 1 place
  placed_near m n place f info sound placed owned counted rest = record {
    sound = sound;
    pages = counted;
    rights = ap bare placed;
    whole = λ means. placed;
    none = none_out-kept n m (λ s free. ap (λ I. I (Slot s)) (sym owned) ∙ free);
    size = rest.size;
    store = same_store S m.store n.store rest.store;
  }

  -- pages that move are as many
  pub pages_kept : (m n : Memory W) → IsSound S.slot_count m → MovesPages S m n → n.pages ≡ m.pages
  pages_kept m n sound moves =
      let now : n.pages ≡ pages (processes n) (ledger S.held n) = moves.sound.pages ∙ sym (pages-ledger S.held n) in
      let before : m.pages ≡ pages (processes m) (ledger S.held m) = sound.pages ∙ sym (pages-ledger S.held m) in
      let same : pages (processes n) (ledger S.held n) ≡ pages (processes m) (ledger S.held m) =
      ap (λ (s : Size). pages s.procs (ledger S.held n)) moves.size ∙ bare-pages (processes m) (ledger S.held m) (ledger S.held n) moves.rights in
      now ∙ (same ∙ sym before)

  -- in the last free frame: then another page goes out
  module _ (m : Memory W) (place : Ledger → Ledger) (f : FrameNumber) (info : PageInfo) (m2 m3 : Memory W) (sound : IsSound S.slot_count m2)
      (placed : ledger S.held m2 ≡ place (ledger S.held (record m { failed = true })))
      (owned : infos m2.owners ≡ put_at seat_eq (infos m.owners) (Frame f) (Some info)) (counted : m2.pages ≡ m.pages + 1)
      (rest : ChangesPagesAlone (record m { failed = true }) m2) (moves : MovesPages S m2 m3)
      (over : MeansBytesOver S m2 m3 → ledger S.held m3 ≡ ledger S.held m2) (none : none_out m3 ≡ true → none_out m2 ≡ true) where
    placed_there : ledger S.held m2 ≡ place (ledger S.held m)
    placed_there = placed ∙ ap place (marked_ledger S.held m true)

    none_before : none_out m2 ≡ true → none_out m ≡ true
    none_before = none_out-kept m2 m (λ s free. ap (λ I. I (Slot s)) (sym owned) ∙ free)

    none_after : none_out m ≡ true → none_out m2 ≡ true
    none_after h = alone-none_out (record m { failed = true }) m2 rest (marked_none m true ∙ h)

    pub placed_crowded : Places m m3 1 place
    placed_crowded = record {
      sound = moves.sound;
      pages = pages_kept m2 m3 sound moves ∙ counted;
      rights = moves.rights ∙ ap bare placed_there;
      whole = λ means. over (over_from (is_known S m) (is_known S m2) (none_out m2) (none_out m3)
          (ap (tells_truly S) rest.store)
          (λ unknown. none_after (ends_of (is_known S m) (none_out m) (none_out m3) means unknown).0)
          (λ unknown. (ends_of (is_known S m) (none_out m) (none_out m3) means unknown).1)) ∙ placed_there;
      none = λ h. none_before (none h);
      size = moves.size ∙ rest.size;
      store = store_then S m.store m2.store m3.store
          (same_store S m.store m2.store rest.store) moves.store;
    }

  -- ---- one step after the other

  pub placed_none : (m : Memory W) → IsSound S.slot_count m → Places m m 0 (λ l. l)
  placed_none m sound = record {
    sound = sound;
    pages = omega arith;
    rights = refl;
    whole = λ means. refl;
    none = λ h. h;
    size = refl;
    store = keeps_all S m.store;
  }

  pub placed_then : (m k n : Memory W) (i j both : ℕ) (first second all : Ledger → Ledger) → Places m k i first → Places k n j second
      → ((l x : Ledger) → bare x ≡ bare l → bare (second x) ≡ bare (second l)) → i + j ≡ both → ((l : Ledger) → second (first l) ≡ all l) → Places m n both all
  placed_then m k n i j both first second all x y like sum same = record {
    sound = y.sound;
    pages = omega (arith, x.pages, y.pages, sum);
    rights = y.rights ∙ (like (first (ledger S.held m)) (ledger S.held k) x.rights ∙ ap bare (same (ledger S.held m)));
    whole = λ means.
        let ends = ends_of (is_known S m) (none_out m) (none_out n) means in
        let kept = known_kept S m.store k.store x.store in
        y.whole (over_from (is_known S m) (is_known S k) (none_out k) (none_out n) kept
        (λ unknown. y.none (ends unknown).1) (λ unknown. (ends unknown).1))
        ∙ (ap second
        (x.whole (over_from (is_known S m) (is_known S m) (none_out m) (none_out k) refl
        (λ unknown. (ends unknown).0) (λ unknown. y.none (ends unknown).1)))
        ∙ same (ledger S.held m));
    none = λ h. x.none (y.none h);
    size = y.size ∙ x.size;
    store = store_then S m.store k.store n.store x.store y.store;
  }

  -- what stays on any answer
  pub kept_placed : (m n : Memory W) (count : ℕ) (place : Ledger → Ledger) → Places m n count place → IsUnlent (place (ledger S.held m))
      → KeepsUnlent S m n
  kept_placed m n count place x unlent = record {
    sound = x.sound;
    unlent = unlent_bare (place (ledger S.held m)) (ledger S.held n) x.rights unlent;
    store = x.store;
  }

  pub kept_then : (m k n : Memory W) (count : ℕ) (place : Ledger → Ledger) → Places m k count place → KeepsUnlent S k n
      → KeepsUnlent S m n
  kept_then m k n count place x y = record {
    sound = y.sound;
    unlent = y.unlent;
    store = store_then S m.store k.store n.store x.store y.store;
  }
