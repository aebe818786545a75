-- Laws of `make` and `make_console`, which put new pages at free places.
use Rattle.std.proofs.Common.{◌≡◌, ℕ, ◌+◌, ◌≤◌, Bool, true, false, not, Some, None, refl, sym, ap, subst, ◌∙◌, arith, ◌⊎◌, inl, inr}
use Rattle.std.specs.Prelude.{is_some, if◌then◌else◌}
use Rattle.std.proofs.lemmas.Bool.{cases_Bool, cond-true, cond-false, both_ways}
use Rattle.std.proofs.lemmas.Option.{none-some, same_Some}
use Rattle.xk_base.specs.declared.ids.Place.{Place}
use Rattle.xk_base.specs.declared.pages.Right.{Right}
use Rattle.xk_base.specs.declared.windows.Window.TheVariants.{Map}
use Rattle.ledger_model.specs.Conditions.{CanMake, CanMakeConsole, is_console}
use Rattle.ledger_model.specs.Lawful.{IsLawful}
use Rattle.ledger_model.specs.Ledger.{Ledger, Console, Bytes, Page, PageLoan, loan_at, loan_of, has_bytes, is_counted, pages}
use Rattle.ledger_model.specs.Loans.{loans}
use Rattle.ledger_model.specs.Places.{same_place, place_after, in_run, is_user_place, is_place_in, count_places}
use Rattle.ledger_model.specs.Steps.{make, make_console, new_page, zero_page}
use Rattle.ledger_model.proofs.LedgerLemmas.{loan_at-page, loan_at-None, lender_of-none, IsFreeAt, is_free-true}
use Rattle.ledger_model.proofs.Loans.NumberingLemmas.{count_places-same, count_places-run, is_place_in-user}
use Rattle.ledger_model.proofs.PlaceLemmas.{same_place-true, in_run-after}
use Rattle.ledger_model.proofs.Stepping.RemovingLemmas.{same_loans, same_runs}

-- ---- one new page at each of some free places

abbrev pub filled : (Place → Bool) → Page → Ledger → Ledger
filled places new l = record l { home = λ p. if places p then Some new else l.home p }

record Fits (procs : ℕ) (l : Ledger) (places : Place → Bool) (new : Page) : Type 0 where
  lies : (p : Place) → places p ≡ true → is_user_place procs p ≡ true
  free : (p : Place) → places p ≡ true → IsFreeAt procs l p
  no_loan : new.loan ≡ None
  in_map : new.contents ≡ Console → (p : Place) → places p ≡ true → is_place_in procs Map p ≡ true
  no_fetch : new.contents ≡ Console → new.right.x ≡ false
  one : new.contents ≡ Console → (p q : Place) → places p ≡ true → places q ≡ true → p ≡ q
  only : new.contents ≡ Console → (p : Place) (page : Page) → l.home p ≡ Some page → page.contents ≡ Console → ⊥

filled-inside : (places : Place → Bool) (new : Page) (l : Ledger) (p : Place) → places p ≡ true
    → (filled places new l).home p ≡ Some new
filled-inside places new l p t = cond-true (places p) (Some new) (l.home p) t

filled-outside : (places : Place → Bool) (new : Page) (l : Ledger) (p : Place) → places p ≡ false
    → (filled places new l).home p ≡ l.home p
filled-outside places new l p f = cond-false (places p) (Some new) (l.home p) f

-- a page is a new one or an old one
new_or_old : (places : Place → Bool) (new : Page) (l : Ledger) (p : Place) (b : Page)
    → (filled places new l).home p ≡ Some b
    → ((places p ≡ true) × (new ≡ b)) ⊎ ((places p ≡ false) × (l.home p ≡ Some b))
new_or_old places new l p b e = elim (cases_Bool (places p)) [
  | inl t ↦ inl (t, same_Some new b (sym (filled-inside places new l p t) ∙ e))
  | inr f ↦ inr (f, sym (filled-outside places new l p f) ∙ e)
]

filled-loan : (procs : ℕ) (places : Place → Bool) (new : Page) (l : Ledger) → Fits procs l places new → (p : Place)
    → loan_at (filled places new l) p ≡ loan_at l p
filled-loan procs places new l fits p = elim (cases_Bool (places p)) [
  | inl t ↦ ap loan_of (filled-inside places new l p t) ∙ (fits.no_loan ∙ sym (loan_at-None l p (fits.free p t).home))
  | inr f ↦ ap loan_of (filled-outside places new l p f)
]

filled-loans : (procs : ℕ) (places : Place → Bool) (new : Page) (l : Ledger) → Fits procs l places new
    → loans (filled places new l) ≡ loans l
filled-loans procs places new l fits = same_loans l (filled places new l) (filled-loan procs places new l fits) (λ p. refl)

filled-lawful : (procs capacity : ℕ) (places : Place → Bool) (new : Page) (l : Ledger) → IsLawful procs capacity l
    → Fits procs l places new
    → pages procs (filled places new l) ≤ capacity → IsLawful procs capacity (filled places new l)
filled-lawful procs capacity places new l h fits room =
    let old : (p : Place) (x : PageLoan) → loan_at (filled places new l) p ≡ Some x → loan_at l p ≡ Some x =
    λ p x e. sym (filled-loan procs places new l fits p) ∙ e in
    record {
      home_lies = λ p b e. elim (new_or_old places new l p b e) [ inl n ↦ fits.lies p n.0 | inr o ↦ h.home_lies p b o.1 ];
      holder_lies = λ p x e. h.holder_lies p x (old p x e);
      orphan_lies = h.orphan_lies;
      holders_differ = λ p q x y e f s. h.holders_differ p q x y (old p x e) (old q y f) s;
      holder_no_home = λ p x e. elim (cases_Bool (places x.holder)) [
        | inl t ↦
            let page : (a : Page) × (l.home p ≡ Some a) × (a.loan ≡ Some x) = loan_at-page l p x (old p x e) in
            absurd (lender_of-none procs l x.holder p x (fits.free x.holder t).lender (h.home_lies p page.0 page.1) (old p x e) refl)
        | inr f ↦ filled-outside places new l x.holder f ∙ h.holder_no_home p x (old p x e)
      ];
      holder_no_orphan = λ p x e. h.holder_no_orphan p x (old p x e);
      orphan_no_home = λ p o e. elim (cases_Bool (places p)) [
        | inl t ↦ absurd (none-some o (sym (fits.free p t).orphan ∙ e))
        | inr f ↦ filled-outside places new l p f ∙ h.orphan_no_home p o e
      ];
      one_console = λ p q a b e f s t. elim (new_or_old places new l p a e) [
        | inl n ↦ elim (new_or_old places new l q b f) [
          | inl m ↦ fits.one (ap (λ (page : Page). page.contents) n.1 ∙ s) p q n.0 m.0
          | inr o ↦ absurd (fits.only (ap (λ (page : Page). page.contents) n.1 ∙ s) q b o.1 t)
        ]
        | inr n ↦ elim (new_or_old places new l q b f) [
          | inl m ↦ absurd (fits.only (ap (λ (page : Page). page.contents) m.1 ∙ t) p a n.1 s)
          | inr o ↦ h.one_console p q a b n.1 o.1 s t
        ]
      ];
      console_lies = λ p b e s. elim (new_or_old places new l p b e) [
        | inl n ↦ fits.in_map (ap (λ (page : Page). page.contents) n.1 ∙ s) p n.0
        | inr o ↦ h.console_lies p b o.1 s
      ];
      console_no_loan = λ p b e s. elim (new_or_old places new l p b e) [
        | inl n ↦ sym (ap (λ (page : Page). page.loan) n.1) ∙ fits.no_loan
        | inr o ↦ h.console_no_loan p b o.1 s
      ];
      console_no_fetch = λ p b e s. elim (new_or_old places new l p b e) [
        | inl n ↦ sym (ap (λ (page : Page). page.right.x) n.1) ∙ fits.no_fetch (ap (λ (page : Page). page.contents) n.1 ∙ s)
        | inr o ↦ h.console_no_fetch p b o.1 s
      ];
      within = room;
      one_run = λ number. same_runs l (filled places new l) (filled-loans procs places new l fits) number (h.one_run number);
      exclusive_writable = λ p b x e f k. elim (new_or_old places new l p b e) [
        | inl n ↦ absurd (none-some x (sym fits.no_loan ∙ (ap (λ (page : Page). page.loan) n.1 ∙ f)))
        | inr o ↦ h.exclusive_writable p b x o.1 f k
      ];
    }

-- ---- make

filled-make : (first : Place) (n : ℕ) (right : Right) (l : Ledger)
    → make first n right l ≡ filled (in_run first n) (new_page right (Bytes zero_page)) l
unfolding make
filled-make first n right l = refl

make_fits : (procs capacity : ℕ) (first : Place) (n : ℕ) (right : Right) (l : Ledger)
    → CanMake procs capacity l first n → Fits procs l (in_run first n) (new_page right (Bytes zero_page))
make_fits procs capacity first n right l can = record {
  lies = can.lies;
  free = λ p t. is_free-true procs l p (can.free p t);
  no_loan = refl;
  in_map = λ e. cc;
  no_fetch = λ e. cc;
  one = λ e. cc;
  only = λ e. cc;
}

pub make_loans : (procs capacity : ℕ) (first : Place) (n : ℕ) (right : Right) (l : Ledger)
    → CanMake procs capacity l first n → loans (make first n right l) ≡ loans l
make_loans procs capacity first n right l can =
    ap loans (filled-make first n right l) ∙ filled-loans procs (in_run first n) (new_page right (Bytes zero_page)) l (make_fits procs capacity first n right l can)

-- n pages more
pub make_pages : (procs capacity : ℕ) (first : Place) (n : ℕ) (right : Right) (l : Ledger)
    → CanMake procs capacity l first n → pages procs (make first n right l) ≡ pages procs l + n
unfolding pages make
make_pages procs capacity first n right l can =
    let homes : count_places procs (λ p. is_counted ((make first n right l).home p)) ≡ count_places procs (λ p. is_counted (l.home p)) + n =
    count_places-run procs first n (λ p. is_counted ((make first n right l).home p)) (λ p. is_counted (l.home p))
    (λ i b. can.lies (place_after first i) (in_run-after first n i b))
    (λ p t. (ap is_counted (filled-inside (in_run first n) (new_page right (Bytes zero_page)) l p t), ap is_counted (is_free-true procs l p (can.free p t)).home))
    (λ p f. ap is_counted (filled-outside (in_run first n) (new_page right (Bytes zero_page)) l p f)) in
    omega arith

pub make_lawful : (procs capacity : ℕ) (first : Place) (n : ℕ) (right : Right) (l : Ledger)
    → IsLawful procs capacity l → CanMake procs capacity l first n → IsLawful procs capacity (make first n right l)
make_lawful procs capacity first n right l h can =
    let more : pages procs (make first n right l) ≡ pages procs l + n =
    make_pages procs capacity first n right l can in
    let room : pages procs l + n ≤ capacity = can.room in
    subst (IsLawful procs capacity) (sym (filled-make first n right l))
    (filled-lawful procs capacity (in_run first n) (new_page right (Bytes zero_page)) l h (make_fits procs capacity first n right l can)
    (subst (λ m. pages procs m ≤ capacity) (filled-make first n right l) (omega arith)))

-- ---- make_console

abbrev pub console_page : Bool → Page
console_page w = new_page (record { w = w; x = false }) Console

filled-make_console : (place : Place) (w : Bool) (l : Ledger)
    → make_console place w l ≡ filled (λ p. same_place p place) (console_page w) l
unfolding make_console
filled-make_console place w l = refl

-- a ledger that says of no page that it is the console has none
no_console : (l : Ledger) (p : Place) (page : Page) → is_console (l.home p) ≡ false → l.home p ≡ Some page
    → page.contents ≡ Console → ⊥
no_console l p page e h s =
    let there : is_console (Some page) ≡ false = sym (ap is_console h) ∙ e in
    let is : not (has_bytes page.contents) ≡ true = ap (λ c. not (has_bytes c)) s in
    both_ways (not (has_bytes page.contents)) there is

console-fits : (procs : ℕ) (place : Place) (w : Bool) (l : Ledger) → CanMakeConsole procs l place
    → Fits procs l (λ p. same_place p place) (console_page w)
console-fits procs place w l can = record {
  lies = λ p t. is_place_in-user procs Map p (there p t);
  free = λ p t. subst (IsFreeAt procs l) (sym (same_place-true p place t)) (is_free-true procs l place can.free);
  no_loan = refl;
  in_map = λ e p t. there p t;
  no_fetch = λ e. refl;
  one = λ e p q t u. same_place-true p place t ∙ sym (same_place-true q place u);
  only = λ e p page h s. no_console l p page (can.first p) h s;
}
  where
    there : (p : Place) → same_place p place ≡ true → is_place_in procs Map p ≡ true
    there p t = subst (λ q. is_place_in procs Map q ≡ true) (sym (same_place-true p place t)) can.lies

pub make_console_loans : (procs : ℕ) (place : Place) (w : Bool) (l : Ledger) → CanMakeConsole procs l place
    → loans (make_console place w l) ≡ loans l
make_console_loans procs place w l can =
    ap loans (filled-make_console place w l) ∙ filled-loans procs (λ p. same_place p place) (console_page w) l (console-fits procs place w l can)

-- the console isn't counted
pub make_console_pages : (procs : ℕ) (place : Place) (w : Bool) (l : Ledger) → CanMakeConsole procs l place
    → pages procs (make_console place w l) ≡ pages procs l
unfolding pages make_console
make_console_pages procs place w l can =
    ap (λ n. n + count_places procs (λ p. is_some (l.orphan p)))
    (count_places-same procs (λ p. is_counted ((make_console place w l).home p)) (λ p. is_counted (l.home p)) uncounted)
  where
    uncounted : (p : Place) → is_counted ((make_console place w l).home p) ≡ is_counted (l.home p)
    uncounted p = elim (cases_Bool (same_place p place)) [
      | inl t ↦ ap is_counted (filled-inside (λ q. same_place q place) (console_page w) l p t)
          ∙ sym (ap is_counted (subst (IsFreeAt procs l) (sym (same_place-true p place t)) (is_free-true procs l place can.free)).home)
      | inr f ↦ ap is_counted (filled-outside (λ q. same_place q place) (console_page w) l p f)
    ]

pub make_console_lawful : (procs capacity : ℕ) (place : Place) (w : Bool) (l : Ledger) → IsLawful procs capacity l
    → CanMakeConsole procs l place → IsLawful procs capacity (make_console place w l)
make_console_lawful procs capacity place w l h can =
    let more : pages procs (make_console place w l) ≡ pages procs l = make_console_pages procs place w l can in
    let room : pages procs l ≤ capacity = h.within in
    subst (IsLawful procs capacity) (sym (filled-make_console place w l))
    (filled-lawful procs capacity (λ p. same_place p place) (console_page w) l h (console-fits procs place w l can)
    (subst (λ m. pages procs m ≤ capacity) (filled-make_console place w l) (omega arith)))
