-- The pages and then the orphans of a memory are written.
use Rattle.xk_ports.specs.declared.store.SwapStore.{Ghosts as SwapStore}
use Rattle.std.proofs.Common.{◌≡◌, ℕ, ◌+◌, ◌*◌, List, map, length, sym, ap, subst, ◌∙◌, arith}
use Rattle.std.specs.Prelude.{Err, Ok, OnErr, OnOk, Result}
use Rattle.std.proofs.lemmas.List.{length-append, length-map}
use Rattle.ledger_model.specs.Lawful.{IsLawful}
use Rattle.ledger_model.specs.Ledger.{Ledger}
use Rattle.ledger_model.specs.Loans.{bare}
use Rattle.suspend_image.proofs.Sheets.SpellingLemmas.{both_appended}
use Rattle.suspend_image.specs.Sheets.{SheetBytes, appended}
use Rattle.suspend_image.specs.Spelling.{rows_bytes}
use Rattle.vm_memory.specs.Bytes.{MeansBytes}
use Rattle.vm_memory.specs.Memory.{ledger, processes}
use Rattle.vm_memory.specs.declared.memory.Memory.{Memory}
use Rattle.save_path.specs.Rows.{PageText, home_at, home_texts, orphan_at, orphan_texts, text_bytes, text_words}
use Rattle.save_path.specs.Written.{AppendsTexts, BringsPages, Fits, WritesPages}
use Rattle.save_path.proofs.PageCountLemmas.{texts_few}
use Rattle.save_path.proofs.SheetLemmas.{fits_less}
use Rattle.save_path.proofs.TextLemmas.{home_alike, orphan_alike, texts_alike}

-- as many are alike
alike_many : (xs ys : List PageText) → map text_words xs ≡ map text_words ys → length xs ≡ length ys
alike_many xs ys e = sym (length-map xs text_words) ∙ ap (λ (ws : List (List ℕ)). length ws) e ∙ length-map ys text_words

pub homes_room : (sheet : SheetBytes) (n capacity : ℕ) (l : Ledger) → IsLawful n capacity l → Fits sheet (8 + 4124 * (capacity + 3))
    → Fits sheet (4 + 4124 * (length (home_texts n l) + 1))
homes_room sheet n capacity l lawful fits =
    let few = texts_few n capacity l lawful in
    fits_less sheet (8 + 4124 * (capacity + 3)) (4 + 4124 * (length (home_texts n l) + 1)) fits (omega arith)

module _ {W : Type 0} (S : SwapStore W) (a b : Memory W)
    (x : BringsPages S a b) (n : ℕ) where
  homes_same : map text_words (home_texts n (ledger S.held b)) ≡ map text_words (home_texts n (ledger S.held a))
  homes_same = texts_alike (home_at (ledger S.held b)) (home_at (ledger S.held a)) (20464 * n) (home_alike (ledger S.held b) (ledger S.held a) x.rights)

  orphans_same : map text_words (orphan_texts n (ledger S.held b)) ≡ map text_words (orphan_texts n (ledger S.held a))
  orphans_same = texts_alike (orphan_at (ledger S.held b)) (orphan_at (ledger S.held a)) (20464 * n) (orphan_alike (ledger S.held b) (ledger S.held a) x.rights)

  pub orphans_room : {known : Type 0} (capacity : ℕ) (s t : SheetBytes) → IsLawful n capacity (ledger S.held a) → Fits s (8 + 4124 * (capacity + 3))
      → AppendsTexts known s t (home_texts n (ledger S.held a)) → Fits t (4 + 4124 * (length (orphan_texts n (ledger S.held b)) + 1))
  orphans_room capacity s t lawful fits texts =
      let few = texts_few n capacity (ledger S.held a) lawful in
      let many = alike_many (orphan_texts n (ledger S.held b)) (orphan_texts n (ledger S.held a)) orphans_same in
      let size = texts.few in
      let same = ap (λ (q : SheetBytes). length q.bytes) texts.is in
      let wide = ap (λ (q : SheetBytes). q.room) texts.is in
      let both = length-append s.bytes (rows_bytes text_bytes texts.written) in
      let room = fits.room in
      let low = fits.few in
      record { room = omega arith; few = omega arith }

  -- .. and the orphans, with those of the pages that were written before
  pub both_written : (m : Memory W) (y : BringsPages S b m) (s t u : SheetBytes) (capacity : ℕ)
      → IsLawful n capacity (ledger S.held a)
      → Fits s (8 + 4124 * (capacity + 3)) → n ≡ processes m
      → AppendsTexts (MeansBytes S a) s t (home_texts n (ledger S.held a))
      → AppendsTexts (MeansBytes S b) t u (orphan_texts n (ledger S.held b))
      → WritesPages (MeansBytes S a) (processes m) (ledger S.held m) s u
  both_written m y s t u capacity lawful fits procs homes orphans =
      let few = texts_few n capacity (ledger S.held a) lawful in
      let many = alike_many (orphan_texts n (ledger S.held b)) (orphan_texts n (ledger S.held a)) orphans_same in
      let size_homes = homes.few in
      let size_orphans = orphans.few in
      let first = ap (λ (q : SheetBytes). length q.bytes) homes.is in
      let second = ap (λ (q : SheetBytes). length q.bytes) orphans.is in
      let both = length-append s.bytes (rows_bytes text_bytes homes.written) in
      let all = length-append t.bytes (rows_bytes text_bytes orphans.written) in
      let low = fits.few in
      let rights : bare (ledger S.held m) ≡ bare (ledger S.held a) = y.rights ∙ x.rights in
      let at : ℕ → Type 0 = λ k. WritesPages (MeansBytes S a) k (ledger S.held m) s u in
      subst at procs (record {
        homes = homes.written;
        orphans = orphans.written;
        homes_alike = homes.alike ∙ sym (texts_alike (home_at (ledger S.held m)) (home_at (ledger S.held a)) (20464 * n)
            (home_alike (ledger S.held m) (ledger S.held a) rights));
        orphans_alike = orphans.alike ∙ sym (texts_alike (orphan_at (ledger S.held m)) (orphan_at (ledger S.held b)) (20464 * n)
            (orphan_alike (ledger S.held m) (ledger S.held b) y.rights));
        homes_told = λ means. homes.told means ∙ ap (home_texts n) (sym (y.whole (x.means means) ∙ x.whole means));
        orphans_told = λ means. orphans.told (x.means means) ∙ ap (orphan_texts n) (sym (y.whole (x.means means)));
        is = orphans.is ∙ ap (λ (q : SheetBytes). appended (rows_bytes text_bytes orphans.written) q) homes.is
            ∙ both_appended s (rows_bytes text_bytes homes.written) (rows_bytes text_bytes orphans.written);
        few = omega arith;
      })

pub on_ok_to : {T E : Type 0} (r : Result T E) (P Q : Type 0) → (P → Q) → OnOk r P → OnOk r Q
on_ok_to (Ok x) P Q f h = f h
on_ok_to (Err e) P Q f h = tt

pub on_err_to : {T E : Type 0} (r : Result T E) (P Q : Type 0) → (P → Q) → OnErr r P → OnErr r Q
on_err_to (Ok x) P Q f h = tt
on_err_to (Err e) P Q f h = f h
