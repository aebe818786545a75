-- The image of a load can be written, and has no fault.
use Rattle.std.proofs.Common.{◌≡◌, ℕ, zero, suc, ◌+◌, ◌*◌, ◌/◌, ◌^◌, ◌<◌, ◌≤◌, Bool, false, nat_lt, List, [], ◌∷◌, ◌++◌, length, sum_by, map, Option, Some, None, MatchBool, MatchOption, refl, sym, ap, ◌∙◌, arith, inl, length-append}
use Rattle.std.specs.Prelude.{◌||◌, All, replicate}
use Rattle.std.specs.Option.{option_or}
use Rattle.std.specs.List.{flat_map}
use Rattle.std.proofs.lemmas.Bool.{le-ltb}
use Rattle.std.proofs.lemmas.List.{length-replicate}
use Rattle.std.proofs.lemmas.List.Concat.{length-flat_map}
use Rattle.std.proofs.lemmas.List.Elements.{All-from_recursion, All-replicate, recursion_from_All}
use Rattle.std.proofs.lemmas.List.Folds.{sum_by-replicate}
use Rattle.std.proofs.lemmas.List.Sums.{sum_by-cons}
use Rattle.boot_plan.specs.FaultNumbers.{bad_load, entry_outside, load_outside, ram_too_small, too_long}
use Rattle.boot_plan.specs.Faults.{is_bad_load, is_entry_outside, is_ram_too_small, plan_fault, process_faults, processes_faults}
use Rattle.boot_plan.specs.Capacity.{capacity}
use Rattle.boot_plan.specs.FirstPages.{plan_of, planned_pages, process_pages, process_plan}
use Rattle.boot_plan.specs.ImageFault.{IsImageFault}
use Rattle.kernel_args.specs.Loads.{is_load_outside}
use Rattle.boot_plan.proofs.FirstFaultLemmas.{first_fault_append}
use Rattle.kernel_args.specs.Contents.{IsProcess, check_word, word}
use Rattle.kernel_args.specs.Faults.{Check, args_fault, first_fault, ◌⇒◌at◌}
use Rattle.kernel_args.specs.Image.{Spells}
use Rattle.kernel_args.specs.Writing.{IsWritable, process_row, slots_row, written}
use Rattle.kernel_args.specs.declared.args.Args.{Args}
use Rattle.kernel_args.specs.declared.args.ProcArgs.{ProcArgs}
use Rattle.kernel_args.specs.declared.faults.ArgFault.{ArgFault}
use Rattle.kernel_args.proofs.ImageLemmas.{spelled_has_no_fault}
use Rattle.kernel_args.proofs.WritableLemmas.{written_spells}
use Rattle.kernel_args.proofs.WritingLemmas.{IsFit, fit_is_writable, length-process, length-written, no_names}
use Rattle.rv32_words.specs.Table.{spelling}
use Rattle.rv32_words.specs.declared.insn.Insn.{Insn}
use Rattle.xk_base.specs.Numbers.Limits.{table_frames}
use Rattle.demo_load.specs.Code.{client_code, code_bytes, server_code}
use Rattle.demo_load.specs.Image.{client_offset, load_args, load_image, load_words, process_of_code, server_offset}

-- ---- sizes

abbrev server : ℕ → ProcArgs
server clients = process_of_code (server_offset clients) server_code

abbrev client : ℕ → ProcArgs
client clients = process_of_code (client_offset clients) client_code

pub length-code_bytes : (code : List Insn) → length (code_bytes code) ≡ 4 * length code
unfolding code_bytes
length-code_bytes [] = refl
length-code_bytes (i ∷ code) =
    let rest = length-code_bytes code in
    let joined = length-append (word (spelling i)) (code_bytes code) in
    omega (arith, rest, joined)

-- the rows of so many processes of one section
length-rows : (n : ℕ) (p : ProcArgs) → length p.sections ≡ 1 → p.check ≡ None → length (flat_map process_row (replicate n p)) ≡ n * 24
length-rows n p one plain =
    let none = ap (λ (c : Option ℕ). length (check_word c)) plain in
    let row : length (process_row p) ≡ 24 = omega (arith, length-process p, none) in
    length-flat_map process_row (replicate n p)
    ∙ (sum_by-replicate (λ (x : ProcArgs). length (process_row x)) n p
    ∙ ap (λ (k : ℕ). n * k) row)

no_slots : length (slots_row None) ≡ 0
unfolding slots_row
no_slots = refl

length-load_row : (clients : ℕ) → length (written (load_args clients)) ≡ 4 * load_words clients
length-load_row clients =
    let whole = length-written (load_args clients) refl in
    let first = length-process (server clients) in
    let others = length-rows clients (client clients) refl refl in
    let joined = length-append (process_row (server clients)) (flat_map process_row (replicate clients (client clients))) in
    let names = ap (λ (l : List ℕ). length l) (no_names [] refl) in
    omega (arith, whole, first, others, joined, names, no_slots)

pub length-load_image : (clients : ℕ) → length (load_image clients) ≡ 4 * load_words clients + 192
length-load_image clients =
    let row = length-load_row clients in
    let one = length-code_bytes server_code in
    let two = length-code_bytes client_code in
    let codes = length-append (code_bytes server_code) (code_bytes client_code) in
    let all = length-append (written (load_args clients)) (code_bytes server_code ++ code_bytes client_code) in
    omega (arith, row, one, two, codes, all)

-- ---- it can be written

is_process : (offset : ℕ) (code : List Insn) → offset < 2 ^ 32 → 4 * length code < 2 ^ 24 → IsProcess 1 (process_of_code offset code)
is_process offset code fits short = record {
  load = fits;
  entry = omega arith;
  has_check = refl;
  check = tt;
  some = omega arith;
  few = omega arith;
  sections = (record { addr = omega arith; size = short; flags = omega arith }, tt);
}

each : (P : ProcArgs → Type 0) (n : ℕ) (p q : ProcArgs) → P p → P q → All P (p ∷ replicate n q)
each P n p q here there = All-from_recursion P (p ∷ replicate n q) (here, recursion_from_All P (replicate n q) (All-replicate P n q there))

load_is_fit : (clients : ℕ) → clients ≤ 31 → IsFit (load_args clients)
load_is_fit clients few =
    let count : length (replicate clients (client clients)) ≡ clients = length-replicate clients (client clients) in
    record {
      version = inl refl;
      ram = record { start_whole = refl; size_whole = refl; some = omega arith; few = omega arith; below = omega arith };
      some = omega arith;
      few = omega (arith, count);
      procs = each (IsProcess 1) clients (server clients) (client clients)
          (is_process (server_offset clients) server_code (omega arith) (omega arith))
          (is_process (client_offset clients) client_code (omega arith) (omega arith));
      pids = All-from_recursion _ [] tt;
      slots = tt;
      names = omega arith;
      words = length-load_row clients;
    }

pub load_is_writable : (clients : ℕ) → clients ≤ 31 → IsWritable (load_args clients)
load_is_writable clients few = fit_is_writable (load_args clients) (load_is_fit clients few) (omega arith) refl

pub load_spells : (clients : ℕ) → clients ≤ 31 → Spells (load_image clients) (load_args clients)
load_spells clients few = written_spells (load_args clients) (code_bytes server_code ++ code_bytes client_code) (load_is_writable clients few)

-- ---- its plan has no fault

none_of_both : (xs ys : List Check) → first_fault xs ≡ None → first_fault ys ≡ None → first_fault (xs ++ ys) ≡ None
none_of_both xs ys first second =
    first_fault_append xs ys ∙ (ap (λ (f : Option ArgFault). option_or f (first_fault ys)) first ∙ second)

passes : (test : Bool) (what place : ℕ) (more : List Check) → test ≡ false → first_fault more ≡ None → first_fault ((test ⇒ what at place) ∷ more) ≡ None
passes test what place more ok later = rw ok later

neither : (a b : Bool) → a ≡ false → b ≡ false → (a || b) ≡ false
neither a b one other = rw (one, other) refl

loads_inside : (words len offset : ℕ) (code : List Insn) → 4 * words ≤ offset → offset + 4 * length code ≤ len
    → is_load_outside words len (process_of_code offset code) ≡ false
loads_inside words len offset code behind within =
    neither (nat_lt offset (4 * words)) _ (le-ltb offset (4 * words) behind) (le-ltb len _ (omega arith))

server_passes : (words pid offset : ℕ) (file : List ℕ) → 4 * words ≤ offset → offset + 88 ≤ length file
    → first_fault (process_faults words file pid (process_of_code offset server_code)) ≡ None
server_passes words pid offset file behind within =
    let p = process_of_code offset server_code in
    passes (is_load_outside words (length file) p) load_outside pid
    ((is_bad_load file p ⇒ bad_load at pid) ∷ (is_entry_outside p ⇒ entry_outside at pid) ∷ [])
    (loads_inside words (length file) offset server_code behind (omega arith)) refl

client_passes : (words pid offset : ℕ) (file : List ℕ) → 4 * words ≤ offset → offset + 104 ≤ length file
    → first_fault (process_faults words file pid (process_of_code offset client_code)) ≡ None
client_passes words pid offset file behind within =
    let p = process_of_code offset client_code in
    passes (is_load_outside words (length file) p) load_outside pid
    ((is_bad_load file p ⇒ bad_load at pid) ∷ (is_entry_outside p ⇒ entry_outside at pid) ∷ [])
    (loads_inside words (length file) offset client_code behind (omega arith)) refl

all_pass : (n words pid : ℕ) (file : List ℕ) (p : ProcArgs) → ((pid : ℕ) → first_fault (process_faults words file pid p) ≡ None)
    → first_fault (processes_faults words file pid (replicate n p)) ≡ None
all_pass zero words pid file p passed = refl
all_pass (suc n) words pid file p passed =
    none_of_both (process_faults words file pid p) (processes_faults words file (pid + 1) (replicate n p)) (passed pid)
    (all_pass n words (pid + 1) file p passed)

-- the first pages of so many equal processes
pages_of : (n : ℕ) (p : ProcArgs) → length (process_pages p) ≡ 10 → sum_by (λ q. length q.pages) (map process_plan (replicate n p)) ≡ n * 10
pages_of zero p ten = refl
pages_of (suc n) p ten =
    let later = pages_of n p ten in
    let more = sum_by-cons (λ q. length q.pages) (process_plan p) (map process_plan (replicate n p)) in
    omega (arith, ten, later, more)

has_ram : (clients : ℕ) → clients ≤ 31 → is_ram_too_small (load_args clients) None ≡ false
has_ram clients few =
    let count : length (replicate clients (client clients)) ≡ clients = length-replicate clients (client clients) in
    let later = pages_of clients (client clients) refl in
    let more = sum_by-cons (λ q. length q.pages) (process_plan (server clients)) (map process_plan (replicate clients (client clients))) in
    let args = load_args clients in
    let frames : ℕ = args.ram_size / 4096 in
    neither (nat_lt frames (table_frames (length args.procs) + 2)) (nat_lt (capacity frames (length args.procs) 0) (planned_pages (plan_of args None)))
    (le-ltb frames (table_frames (length args.procs) + 2) (omega (arith, count)))
    (le-ltb (capacity frames (length args.procs) 0) (planned_pages (plan_of args None)) (omega (arith, count, later, more)))

pub load_plan_has_no_fault : (clients : ℕ) → clients ≤ 31 → plan_fault (load_args clients) (load_image clients) None ≡ None
load_plan_has_no_fault clients few =
    let file = load_image clients in
    let size = length-load_image clients in
    let words = load_words clients in
    none_of_both (processes_faults words file 2 (load_args clients).procs) ((is_ram_too_small (load_args clients) None ⇒ ram_too_small at 0) ∷ [])
    (none_of_both (process_faults words file 2 (server clients)) (processes_faults words file 3 (replicate clients (client clients)))
    (server_passes words 2 (server_offset clients) file (omega arith) (omega (arith, size)))
    (all_pass clients words 3 file (client clients) (λ pid. client_passes words pid (client_offset clients) file (omega arith) (omega (arith, size)))))
    (passes (is_ram_too_small (load_args clients) None) ram_too_small 0 [] (has_ram clients few) refl)

-- ---- it has no fault

-- the cases of an image's fault
abbrev Cases : List ℕ → Option ArgFault → Bool → Option ArgFault → Type 0
Cases bytes fault long in_args =
    MatchBool long (fault ≡ Some (record { what = too_long; at = 0 }))
    (MatchOption in_args ((a : Args) × Spells bytes a × (fault ≡ plan_fault a bytes None)) (λ f. fault ≡ Some f))

none_by : (bytes : List ℕ) (args : Args) (long : Bool) (in_args : Option ArgFault)
    → long ≡ false → in_args ≡ None → Spells bytes args → plan_fault args bytes None ≡ None → Cases bytes None long in_args
none_by bytes args long in_args short sound spells planned = rw (short, sound) (args, spells, sym planned)

pub load_has_no_fault : (clients : ℕ) → clients ≤ 31 → IsImageFault (load_image clients) None None
load_has_no_fault clients few =
    let bytes = load_image clients in
    let spells = load_spells clients few in
    none_by bytes (load_args clients) (nat_lt 67108864 (length bytes)) (args_fault bytes)
    (le-ltb 67108864 (length bytes) (omega (arith, length-load_image clients)))
    (spelled_has_no_fault bytes (load_args clients) spells) spells (load_plan_has_no_fault clients few)
