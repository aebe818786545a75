-- What a finite map has at the keys that are listed is the rows of their numbers.
use Rattle.std.proofs.Common.{◌≡◌, ℕ, zero, suc, ◌+◌, ◌*◌, ◌≤◌, Bool, true, false, List, [], ◌∷◌, ◌++◌, map, length, take, Option, Some, None, refl, sym, ap, ◌∙◌, arith}
use Rattle.std.specs.Prelude.{is_some, if◌then◌else◌}
use Rattle.std.specs.List.{flat_map, slice_get}
use Rattle.std.specs.Option.{option_map}
use Rattle.std.proofs.Math.Seq.{take-suc}
use Rattle.std.proofs.lemmas.Grind.{flat_map-append}
use Rattle.std.proofs.lemmas.List.{length-map, map-append, take_all}
use Rattle.std.proofs.lemmas.Option.{slice_get-get_or}
use Rattle.ledger_model.specs.Listings.{home_places, orphan_places}
use Rattle.ledger_model.specs.Places.{listed_places, place_at, places_of_process}
use Rattle.machine_model.specs.State.Machine.{Machine, Process}
use Rattle.suspend_image.specs.Spelling.{claim_bytes, proc_bytes, rows_bytes, server_bytes, thread_bytes}
use Rattle.suspend_image.specs.Words.{word_bytes}
use Rattle.snapshot_rows.specs.declared.state.ClaimRow.{ClaimRow}
use Rattle.snapshot_rows.specs.declared.state.ProcRow.{ProcRow}
use Rattle.snapshot_rows.specs.declared.state.ServerRow.{ServerRow}
use Rattle.snapshot_rows.specs.declared.state.ThreadRow.{ThreadRow}
use Rattle.xk_base.specs.Tables.Circle.{id_at, listed_ids, thread_ids}
use Rattle.xk_base.specs.Tables.Counting.{listed_below}
use Rattle.xk_base.specs.declared.limits.TheConstants.{INTERRUPT_LIMIT}
use Rattle.save_path.specs.Rows.{PageText, claim_at, home_text, home_texts, listed, orphan_text, orphan_texts, proc_at, rows_below, server_at, text_bytes, thread_at}
use Rattle.suspend_image.specs.SavedRows.{claim_row, proc_row, server_row, thread_row}
use Rattle.suspend_image.specs.StateBytes.{claim_entries, entries, entry, orphan_entries, page_entries, pids, saved_claim, saved_orphan, saved_page, saved_process, saved_server, saved_thread, server_entries, thread_entries}
use Rattle.save_path.proofs.RowsBelowLemmas.{rows-suc, rows-zero}

-- ---- the rows of a list

pub rows_of_list : {A B : Type 0} (f : A → B) (xs : List A) (k : ℕ) → k ≤ length xs → rows_below k (λ j. option_map f (slice_get xs j)) ≡ map f (take k xs)
rows_of_list f xs zero le = rows-zero (λ j. option_map f (slice_get xs j))
rows_of_list {A = A} {B = B} f xs (suc k) le = go (rows_of_list f xs k (omega arith)) xs refl
  where
    row : ℕ → Option B
    row j = option_map f (slice_get xs j)

    go : rows_below k row ≡ map f (take k xs) → (ys : List A) → xs ≡ ys → rows_below (suc k) row ≡ map f (take (suc k) xs)
    go before [] e = absurd (let none = ap (λ (zs : List A). length zs) e in omega arith)
    go before (d ∷ ys) e =
        rows-suc row k
        ∙ ap (λ (zs : List B). zs ++ listed (row k)) before
        ∙ ap (λ (o : Option A). map f (take k xs) ++ listed (option_map f o)) (slice_get-get_or xs k d (omega arith))
        ∙ sym (map-append f (take k xs) _)
        ∙ ap (λ (zs : List A). map f zs) (sym (take-suc xs k d (omega arith)))

pub rows_of_all : {A B : Type 0} (f : A → B) (xs : List A) → rows_below (length xs) (λ j. option_map f (slice_get xs j)) ≡ map f xs
rows_of_all {A = A} f xs = rows_of_list f xs (length xs) (omega arith) ∙ ap (λ (ys : List A). map f ys) (take_all (length xs) xs (omega arith))

-- ---- entries

module _ {K V R : Type 0} (f : K → Option V) (r : K × V → R) where
  one_entry : (k : K) → map r (entries f (if is_some (f k) then k ∷ [] else [])) ≡ listed (option_map (λ v. r (k, v)) (f k))
  one_entry k = go (f k) refl
    where
      go : (o : Option V) → f k ≡ o → map r (entries f (if is_some (f k) then k ∷ [] else [])) ≡ listed (option_map (λ v. r (k, v)) (f k))
      go None e = rw e refl
      go (Some v) e = rw e (rw e refl)

  pub entry_rows : (key : ℕ → K) (n : ℕ) → map r (entries f (map key (listed_below n (λ k. is_some (f (key k)))))) ≡ rows_below n
      (λ k. option_map (λ v. r (key k, v)) (f (key k)))
  unfolding listed_below
  entry_rows key zero = sym (rows-zero (λ k. option_map (λ v. r (key k, v)) (f (key k))))
  entry_rows key (suc n) =
      let before = listed_below n (λ k. is_some (f (key k))) in
      let last : List ℕ = if is_some (f (key n)) then n ∷ [] else [] in
      ap (λ (ks : List K). map r (entries f ks)) (map-append key before last)
      ∙ ap (λ (es : List (K × V)). map r es) (flat_map-append (entry f) (map key before) (map key last))
      ∙ map-append r (entries f (map key before)) (entries f (map key last))
      ∙ ap (λ (rs : List R). rs ++ map r (entries f (map key last))) (entry_rows key n)
      ∙ ap (λ (ks : List K). rows_below n (λ k. option_map (λ v. r (key k, v)) (f (key k))) ++ map r (entries f ks)) (keyed (is_some (f (key n))))
      ∙ ap (λ (rs : List R). rows_below n (λ k. option_map (λ v. r (key k, v)) (f (key k))) ++ rs) (one_entry (key n))
      ∙ sym (rows-suc (λ k. option_map (λ v. r (key k, v)) (f (key k))) n)
    where
      keyed : (b : Bool) → map key (if b then n ∷ [] else []) ≡ (if b then key n ∷ [] else [])
      keyed true = refl
      keyed false = refl

same_numbers : (xs : List ℕ) → map (λ k. k) xs ≡ xs
same_numbers [] = refl
same_numbers (x ∷ xs) = ap (λ (ys : List ℕ). x ∷ ys) (same_numbers xs)

-- .. where the numbers are the keys
number_rows : {V R : Type 0} (f : ℕ → Option V) (r : ℕ × V → R) (n : ℕ)
    → map r (entries f (listed_below n (λ k. is_some (f k)))) ≡ rows_below n (λ k. option_map (λ v. r (k, v)) (f k))
number_rows f r n = ap (λ (ks : List ℕ). map r (entries f ks)) (sym (same_numbers (listed_below n (λ k. is_some (f k))))) ∙ entry_rows f r (λ k. k) n

-- ---- spelled

flat_of_map : {A B : Type 0} (g : B → List ℕ) (r : A → B) (xs : List A) → flat_map g (map r xs) ≡ flat_map (λ x. g (r x)) xs
flat_of_map g r [] = refl
flat_of_map g r (x ∷ xs) = ap (λ (bs : List ℕ). g (r x) ++ bs) (flat_of_map g r xs)

spelled_of_map : {A B : Type 0} (g : B → List ℕ) (r : A → B) (xs : List A) → rows_bytes g (map r xs) ≡ rows_bytes (λ x. g (r x)) xs
unfolding rows_bytes
spelled_of_map g r xs =
    ap (λ n. word_bytes (n ∷ []) ++ flat_map g (map r xs)) (length-map xs r) ∙ ap (λ (bs : List ℕ). word_bytes (length xs ∷ []) ++ bs) (flat_of_map g r xs)

pub threads_spelled : (m : Machine) → rows_bytes thread_bytes (rows_below (thread_ids m.processes) (thread_at m.threads)) ≡ rows_bytes saved_thread
    (thread_entries m)
unfolding listed_ids
threads_spelled m =
    ap (λ (rows : List ThreadRow). rows_bytes thread_bytes rows) (sym (entry_rows m.threads (λ e. thread_row e.0 e.1) id_at (thread_ids m.processes)))
    ∙ spelled_of_map thread_bytes (λ e. thread_row e.0 e.1) (thread_entries m)

pub servers_spelled : (m : Machine) → rows_bytes server_bytes (rows_below m.next_serial (server_at m.servers)) ≡ rows_bytes saved_server (server_entries m)
servers_spelled m =
    ap (λ (rows : List ServerRow). rows_bytes server_bytes rows) (sym (number_rows m.servers (λ e. server_row e.0 e.1) m.next_serial))
    ∙ spelled_of_map server_bytes (λ e. server_row e.0 e.1) (server_entries m)

pub claims_spelled : (m : Machine) → rows_bytes claim_bytes (rows_below INTERRUPT_LIMIT (claim_at m.pending m.claims)) ≡ rows_bytes (saved_claim m)
    (claim_entries m)
claims_spelled m =
    ap (λ (rows : List ClaimRow). rows_bytes claim_bytes rows) (sym (number_rows m.claims (λ e. claim_row m.pending e.0 e.1) INTERRUPT_LIMIT))
    ∙ spelled_of_map claim_bytes (λ e. claim_row m.pending e.0 e.1) (claim_entries m)

pub homes_spelled : (m : Machine) → rows_bytes text_bytes (home_texts m.processes m.ledger) ≡ rows_bytes saved_page (page_entries m)
unfolding home_places listed_places
homes_spelled m =
    ap (λ (texts : List PageText). rows_bytes text_bytes texts)
    (sym (entry_rows m.ledger.home (λ e. home_text e.0 e.1) place_at (places_of_process * m.processes)))
    ∙ spelled_of_map text_bytes (λ e. home_text e.0 e.1) (page_entries m)

pub orphans_spelled : (m : Machine) → rows_bytes text_bytes (orphan_texts m.processes m.ledger) ≡ rows_bytes saved_orphan (orphan_entries m)
unfolding orphan_places listed_places
orphans_spelled m =
    ap (λ (texts : List PageText). rows_bytes text_bytes texts)
    (sym (entry_rows m.ledger.orphan (λ e. orphan_text e.0 e.1) place_at (places_of_process * m.processes)))
    ∙ spelled_of_map text_bytes (λ e. orphan_text e.0 e.1) (orphan_entries m)

-- ---- processes

all_numbers : (n : ℕ) (process : ℕ → Process)
    → flat_map (λ pid. proc_bytes (proc_row (process pid))) (map (λ k. k + 2) (listed_below n (λ k. true))) ≡ flat_map proc_bytes
    (rows_below n (proc_at process))
unfolding listed_below
all_numbers zero process = ap (λ (rows : List ProcRow). flat_map proc_bytes rows) (sym (rows-zero (proc_at process)))
all_numbers (suc n) process =
    let spell : ℕ → List ℕ = λ pid. proc_bytes (proc_row (process pid)) in
    let before = listed_below n (λ k. true) in
    ap (λ (pids : List ℕ). flat_map spell pids) (map-append (λ k. k + 2) before (n ∷ []))
    ∙ flat_map-append spell (map (λ k. k + 2) before) ((n + 2) ∷ [])
    ∙ ap (λ (bs : List ℕ). bs ++ flat_map spell ((n + 2) ∷ [])) (all_numbers n process)
    ∙ sym (flat_map-append proc_bytes (rows_below n (proc_at process)) (listed (proc_at process n)))
    ∙ ap (λ (rows : List ProcRow). flat_map proc_bytes rows) (sym (rows-suc (proc_at process) n))

pub procs_spelled : (m : Machine) → flat_map proc_bytes (rows_below m.processes (proc_at m.process)) ≡ flat_map (saved_process m) (pids m.processes)
procs_spelled m = sym (all_numbers m.processes m.process)
