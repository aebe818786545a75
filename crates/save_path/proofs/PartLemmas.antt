-- The parts of a state before its pages, as the kernel writes them.
use Rattle.std.proofs.Common.{◌≡◌, ℕ, ◌+◌, ◌*◌, List, [], ◌∷◌, ◌++◌, length, sym, ap, ◌∙◌, arith}
use Rattle.std.specs.Prelude.{is_some, unwrap_or}
use Rattle.std.specs.List.{flat_map}
use Rattle.machine_model.specs.State.Machine.{Machine}
use Rattle.suspend_image.proofs.Sheets.SpellingLemmas.{both_appended, length-word_bytes, word_bytes-append}
use Rattle.suspend_image.specs.Sheets.{HasRoom, SheetBytes, appended}
use Rattle.suspend_image.specs.Spelling.{claim_bytes, machine_bytes, proc_bytes, rows_bytes, server_bytes, thread_bytes}
use Rattle.suspend_image.specs.Words.{word_bytes}
use Rattle.xk_base.specs.Tables.Circle.{thread_ids}
use Rattle.xk_base.specs.declared.limits.TheConstants.{INTERRUPT_LIMIT}
use Rattle.save_path.specs.Rows.{claim_at, proc_at, rows_below, server_at, thread_at}
use Rattle.suspend_image.specs.SavedRows.{flag, machine_row}
use Rattle.save_path.specs.Written.{Appends, Fits, front_parts, reserved_numbers}
use Rattle.save_path.proofs.EntryLemmas.{claims_spelled, procs_spelled, servers_spelled, threads_spelled}
use Rattle.save_path.proofs.SheetLemmas.{appends_both, fits_behind, fits_less, has_room}
use Rattle.save_path.proofs.SizeLemmas.{length-machine}

-- ---- numbers

pub numbers_room : (sheet : SheetBytes) (a b c d e f g h i : ℕ) → Fits sheet 52 → HasRoom sheet (word_bytes (a ∷ b ∷ c ∷ d ∷ e ∷ f ∷ g ∷ h ∷ i ∷ []))
numbers_room sheet a b c d e f g h i fits =
    has_room sheet 52 (word_bytes (a ∷ b ∷ c ∷ d ∷ e ∷ f ∷ g ∷ h ∷ i ∷ [])) fits (let size = length-word_bytes (a ∷ b ∷ c ∷ d ∷ e ∷ f ∷ g ∷ h ∷ i ∷ []) in
    omega arith)

pub reserved_room : (old sheet : SheetBytes) (a b c d e f g h i : ℕ) (words : List ℕ) → Fits old 52
    → sheet ≡ appended (word_bytes (a ∷ b ∷ c ∷ d ∷ e ∷ f ∷ g ∷ h ∷ i ∷ [])) old
    → length words ≡ 4 → HasRoom sheet (word_bytes words)
reserved_room old sheet a b c d e f g h i words fits is four =
    let left : Fits sheet 16 = fits_behind old sheet (word_bytes (a ∷ b ∷ c ∷ d ∷ e ∷ f ∷ g ∷ h ∷ i ∷ [])) 36 16
    (record { is = is; few = let size = length-word_bytes (a ∷ b ∷ c ∷ d ∷ e ∷ f ∷ g ∷ h ∷ i ∷ []) in omega arith }) fits in
    has_room sheet 16 (word_bytes words) left (let size = length-word_bytes words in omega arith)

pub numbers_appended : (m : Machine) (old mid new : SheetBytes) (cap n steps pid tid number serial armed compare : ℕ) (words : List ℕ)
    → cap ≡ m.capacity → n ≡ m.processes → steps ≡ m.steps → pid ≡ m.cursor.pid.0 → tid ≡ m.cursor.tid.0 → number ≡ m.next_number → serial ≡ m.next_serial
    → armed ≡ flag (is_some m.compare) → compare ≡ unwrap_or m.compare 0 → words ≡ reserved_numbers m.reserved
    → mid ≡ appended (word_bytes (cap ∷ n ∷ steps ∷ pid ∷ tid ∷ number ∷ serial ∷ armed ∷ compare ∷ [])) old → new ≡ appended (word_bytes words) mid
    → Appends old new (machine_bytes (machine_row m)) 52
unfolding machine_bytes
numbers_appended m old mid new cap n steps pid tid number serial armed compare words a b c d e f g h i r first second =
    let front : List ℕ = cap ∷ n ∷ steps ∷ pid ∷ tid ∷ number ∷ serial ∷ armed ∷ compare ∷ [] in
    let text : word_bytes front ++ word_bytes words ≡ machine_bytes (machine_row m) =
    sym (word_bytes-append front words)
    ∙ λ j. word_bytes (a j ∷ b j ∷ c j ∷ d j ∷ e j ∷ f j ∷ g j ∷ h j ∷ i j ∷ r j) in
    let size = length-machine (machine_row m) in
    record {
      is = second ∙ ap (λ (s : SheetBytes). appended (word_bytes words) s) first ∙ both_appended old (word_bytes front) (word_bytes words)
          ∙ ap (λ (bytes : List ℕ). appended bytes old) text;
      few = omega arith;
    }

-- ---- the five parts

abbrev pub procs_part : Machine → List ℕ
procs_part m = flat_map proc_bytes (rows_below m.processes (proc_at m.process))

abbrev pub threads_part : Machine → List ℕ
threads_part m = rows_bytes thread_bytes (rows_below (thread_ids m.processes) (thread_at m.threads))

abbrev pub servers_part : Machine → List ℕ
servers_part m = rows_bytes server_bytes (rows_below m.next_serial (server_at m.servers))

abbrev pub claims_part : Machine → List ℕ
claims_part m = rows_bytes claim_bytes (rows_below INTERRUPT_LIMIT (claim_at m.pending m.claims))

-- the room that is left before each
pub record FrontRoom (m : Machine) (a : SheetBytes) : Type 0 where
  pub numbers : Fits a 52
  pub procs : (b : SheetBytes) → Appends a b (machine_bytes (machine_row m)) 52 → Fits b (140 * m.processes + (4464 * m.processes + 363152))
  pub threads : (b c : SheetBytes) → Appends a b (machine_bytes (machine_row m)) 52 → Appends b c (procs_part m) (140 * m.processes)
      → Fits c (4464 * m.processes + 363152)
  pub servers : (b c d : SheetBytes) → Appends a b (machine_bytes (machine_row m)) 52 → Appends b c (procs_part m) (140 * m.processes)
      → Appends c d (threads_part m) (4 + 144 * thread_ids m.processes) → Fits d 363148
  pub claims : (b c d e : SheetBytes) → Appends a b (machine_bytes (machine_row m)) 52 → Appends b c (procs_part m) (140 * m.processes)
      → Appends c d (threads_part m) (4 + 144 * thread_ids m.processes) → Appends d e (servers_part m) 362500 → Fits e 644

pub front_room : (m : Machine) (a : SheetBytes) → Fits a (363208 + 4604 * m.processes) → FrontRoom m a
front_room m a fits =
    let n = m.processes in
    let whole : Fits a (52 + (140 * n + (4464 * n + 363152))) = fits_less a (363208 + 4604 * n) (52 + (140 * n + (4464 * n + 363152))) fits (omega arith) in
    let second : (b : SheetBytes) → Appends a b (machine_bytes (machine_row m)) 52 → Fits b (140 * n + (4464 * n + 363152)) =
    λ b x. fits_behind a b (machine_bytes (machine_row m)) 52 (140 * n + (4464 * n + 363152)) x whole in
    let third : (b c : SheetBytes) → Appends a b (machine_bytes (machine_row m)) 52 → Appends b c (procs_part m) (140 * n) → Fits c (4464 * n + 363152) =
    λ b c x y. fits_behind b c (procs_part m) (140 * n) (4464 * n + 363152) y (second b x) in
    let fourth : (b c d : SheetBytes) → Appends a b (machine_bytes (machine_row m)) 52 → Appends b c (procs_part m) (140 * n)
    → Appends c d (threads_part m) (4 + 144 * thread_ids n) → Fits d 363148 =
    λ b c d x y z. fits_behind c d (threads_part m) (4 + 144 * thread_ids n) 363148 z (fits_less c (4464 * n + 363152) ((4 + 144 * thread_ids n) + 363148)
    (third b c x y) (omega arith)) in
    record {
      numbers = fits_less a (52 + (140 * n + (4464 * n + 363152))) 52 whole (omega arith);
      procs = second;
      threads = third;
      servers = fourth;
      claims = λ b c d e x y z w. fits_less e 648 644 (fits_behind d e (servers_part m) 362500 648 w (fourth b c d x y z)) (omega arith);
    }

pub front_appended : (m : Machine) (a b c d e f : SheetBytes) → Appends a b (machine_bytes (machine_row m)) 52 → Appends b c (procs_part m) (140 * m.processes)
    → Appends c d (threads_part m) (4 + 144 * thread_ids m.processes) → Appends d e (servers_part m) 362500 → Appends e f (claims_part m) 644
    → Appends a f (front_parts m) (363208 + 4604 * m.processes)
unfolding front_parts
front_appended m a b c d e f x y z v w =
    let n = m.processes in
    let back4 = appends_both d e f (servers_part m) (claims_part m) 362500 644 v w in
    let back3 = appends_both c d f (threads_part m) (servers_part m ++ claims_part m) (4 + 144 * thread_ids n) (362500 + 644) z back4 in
    let back2 = appends_both b c f (procs_part m) (threads_part m ++ (servers_part m ++ claims_part m)) (140 * n) ((4 + 144 * thread_ids n) + (362500 + 644)) y
    back3 in
    let whole = appends_both a b f (machine_bytes (machine_row m)) (procs_part m ++ (threads_part m ++ (servers_part m ++ claims_part m))) 52
    (140 * n + ((4 + 144 * thread_ids n) + (362500 + 644))) x back2 in
    let text : machine_bytes (machine_row m) ++ (procs_part m ++ (threads_part m ++ (servers_part m ++ claims_part m))) ≡ front_parts m =
    λ i. machine_bytes (machine_row m) ++ (procs_spelled m i ++ (threads_spelled m i ++ (servers_spelled m i ++ claims_spelled m i))) in
    let size = ap (λ (bytes : List ℕ). length bytes) text in
    let most = whole.few in
    record {
      is = whole.is ∙ ap (λ (bytes : List ℕ). appended bytes a) text;
      few = omega arith;
    }
