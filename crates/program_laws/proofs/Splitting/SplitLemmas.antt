-- Two images that load the same boot the same machine where their capacities are one. Two that differ in RAM alone spell the same arguments
-- but for RAM, and so load the same.
use Rattle.std.proofs.Common.{◌≡◌, ◌∙◌, ap, sym, subst, refl, ℕ, ◌+◌, ◌-◌, ◌*◌, ◌/◌, ◌<◌, ◌≤◌, false, nat_lt, List, Option, [], ◌∷◌, ◌++◌, map, length, take, drop, get_or, arith}
use Rattle.std.specs.Prelude.{◌↔◌, codes}
use Rattle.std.specs.List.{flat_map, AllByRecursion}
use Rattle.std.proofs.lemmas.Bool.Decides.{nat_tests}
use Rattle.std.proofs.lemmas.Bool.{or_parts, ltb-false}
use Rattle.std.proofs.lemmas.List.{append_assoc, drop_at, drop-drop, ext_get_or, get_or-drop, length-append, length-drop, length-map}
use Rattle.std.proofs.lemmas.List.Elements.{recursion_from_All}
use Rattle.kernel_args.specs.declared.args.Args.{Args}
use Rattle.kernel_args.specs.declared.args.ProcArgs.{ProcArgs}
use Rattle.kernel_args.specs.CheckNumber.{check_number}
use Rattle.kernel_args.specs.Contents.{word}
use Rattle.kernel_args.specs.Faults.{number_at}
use Rattle.kernel_args.specs.Image.{header_tag, Spells}
use Rattle.kernel_args.specs.Loads.{file_sizes}
use Rattle.kernel_args.specs.Reading.{HeaderIs}
use Rattle.kernel_args.specs.Tags.{Tag, tag_bytes}
use Rattle.kernel_args.proofs.HeaderLemmas.{begun_header, header_in, is_header}
use Rattle.kernel_args.proofs.ImageLemmas.{spelled_once}
use Rattle.kernel_args.proofs.TagLemmas.{length-tag_bytes}
use Rattle.boot_plan.specs.Capacity.{capacity}
use Rattle.boot_plan.specs.FirstPages.{plan_of, process_plan}
use Rattle.boot_plan.specs.Slots.{slots_used}
use Rattle.boot_plan.proofs.MovedLemmas.{HasMoved}
use Rattle.boot_plan.proofs.NoFaultLemmas.{IsFaultless, all_faultless}
use Rattle.machine_model.specs.State.Machine.{Machine}
use Rattle.xk_kernel.specs.Start.{start}
use Rattle.event_player.specs.declared.telling.Telling.{Telling}
use Rattle.xous_program.specs.Outcome.Images.{Boots}
use Rattle.program_status.specs.Plans.{IsSoundImage}
use Rattle.event_player.specs.History.{run_of}
use Rattle.program_laws.specs.Ram.{DifferInRam, says_ram}
use Rattle.xous_program.specs.Outcome.Splits.{LoadAlike, Setup, SplitOneCapacity, behind_row}
use Rattle.event_player.specs.Telling.{output}
use Rattle.xous_program.proofs.Images.MatchedLemmas.{no_plan_fault}
use Rattle.program_laws.proofs.Images.MovedStartLemmas.{Shown, StandsMoved, processes_moved, room_of, shown, start_shown, started}

-- ---- bytes

-- the number in four bytes, the lowest first
abbrev number_of : (ℕ → ℕ) → ℕ
number_of byte = byte 0 + 256 * (byte 1 + 256 * (byte 2 + 256 * (byte 3 + 256 * 0)))

same_number : (one other : ℕ → ℕ) → ((k : ℕ) → k < 4 → one k ≡ other k) → number_of one ≡ number_of other
same_number one other same =
    ap (λ b. b + 256 * (one 1 + 256 * (one 2 + 256 * (one 3 + 256 * 0)))) (same 0 (omega arith))
    ∙ ap (λ b. other 0 + 256 * (b + 256 * (one 2 + 256 * (one 3 + 256 * 0)))) (same 1 (omega arith))
    ∙ ap (λ b. other 0 + 256 * (other 1 + 256 * (b + 256 * (one 3 + 256 * 0)))) (same 2 (omega arith))
    ∙ ap (λ b. other 0 + 256 * (other 1 + 256 * (other 2 + 256 * (b + 256 * 0)))) (same 3 (omega arith))

not_ram_before : (offset : ℕ) → 8 ≤ offset → offset < 16 → says_ram offset ≡ false
not_ram_before offset from below = grind (arith, nat_tests)

not_ram_behind : (k : ℕ) → says_ram (24 + k) ≡ false
not_ram_behind k = grind (arith, nat_tests)

module _ (image other : List ℕ) (differ : DifferInRam image other) where
  byte_kept : (from k : ℕ) → says_ram (from + k) ≡ false → get_or (drop from other) k 0 ≡ get_or (drop from image) k 0
  byte_kept from k elsewhere = get_or-drop from other k 0 ∙ differ.elsewhere (from + k) elsewhere ∙ sym (get_or-drop from image k 0)

  words_kept : number_at 4 8 other ≡ number_at 4 8 image
  words_kept =
      same_number (λ k. get_or (drop 8 other) k 0) (λ k. get_or (drop 8 image) k 0)
      (λ k within. byte_kept 8 k (not_ram_before (8 + k) (omega arith) (omega arith)))

  version_kept : number_at 4 12 other ≡ number_at 4 12 image
  version_kept =
      same_number (λ k. get_or (drop 12 other) k 0) (λ k. get_or (drop 12 image) k 0)
      (λ k within. byte_kept 12 k (not_ram_before (12 + k) (omega arith) (omega arith)))

  kept_behind : drop 24 other ≡ drop 24 image
  kept_behind =
      let size = differ.size in
      ext_get_or 0 (drop 24 other) (drop 24 image) (omega (arith, length-drop 24 other, length-drop 24 image))
      (λ k within. byte_kept 24 k (not_ram_behind k))

  kept_from : (n : ℕ) → drop (24 + n) other ≡ drop (24 + n) image
  kept_from n = sym (drop-drop n 24 other) ∙ ap (drop n) kept_behind ∙ drop-drop n 24 image

-- ---- an image by its header

module _ (image : List ℕ) (args : Args) (spelled : Spells image args) where
  by_header : image ≡ tag_bytes (header_tag args) ++ (flat_map tag_bytes spelled.tags ++ spelled.rest)
  by_header = spelled.whole ∙ append_assoc (tag_bytes (header_tag args)) (flat_map tag_bytes spelled.tags) spelled.rest

  header_read : HeaderIs image (header_in args)
  header_read =
      subst (λ (bytes : List ℕ). HeaderIs bytes (header_in args)) (sym by_header)
      (begun_header (header_in args) (flat_map tag_bytes spelled.tags ++ spelled.rest) (is_header args spelled.words spelled.ram_name spelled.sound))

length-header : (args : Args) → length args.ram_name ≡ 4 → length (tag_bytes (header_tag args)) ≡ 28
length-header args four = omega (arith, length-tag_bytes (header_tag args) refl)

rest_of : (image : List ℕ) (args : Args) (spelled : Spells image args) → drop 28 image ≡ flat_map tag_bytes spelled.tags ++ spelled.rest
rest_of image args spelled =
    ap (λ (bytes : List ℕ). drop 28 bytes) (by_header image args spelled)
    ∙ drop_at (tag_bytes (header_tag args)) (flat_map tag_bytes spelled.tags ++ spelled.rest) 28 (length-header args spelled.ram_name)

-- the arguments with the RAM of others
abbrev with_ram_of : Args → Args → Args
with_ram_of others args = record args { ram_start = others.ram_start; ram_size = others.ram_size }

-- the header, by what it says but of RAM
abbrev header_with : Args → ℕ → ℕ → List ℕ → Tag
header_with others words version name =
    let contents = word words ++ (word version ++ (word others.ram_start ++ (word others.ram_size ++ name))) in
    record { name = codes "XArg"; check = check_number contents; contents = contents }

module _ (image other : List ℕ) (args others : Args) (differ : DifferInRam image other)
    (spelled : Spells image args) (other_spelled : Spells other others) where
  same_header : header_tag others ≡ header_tag (with_ram_of others args)
  same_header =
      let one = header_read image args spelled in
      let two = header_read other others other_spelled in
      let words : others.words ≡ args.words = sym two.words_is ∙ words_kept image other differ ∙ one.words_is in
      let version : others.version ≡ args.version = sym two.version_is ∙ version_kept image other differ ∙ one.version_is in
      let name : others.ram_name ≡ args.ram_name =
      sym two.name_is ∙ ap (λ (bytes : List ℕ). take 4 bytes) (kept_behind image other differ) ∙ one.name_is in
      ap (λ (x : ℕ). header_with others x others.version others.ram_name) words
      ∙ ap (λ (x : ℕ). header_with others args.words x others.ram_name) version
      ∙ ap (λ (x : List ℕ). header_with others args.words args.version x) name

  same_image : other ≡ flat_map tag_bytes (header_tag (with_ram_of others args) ∷ spelled.tags) ++ spelled.rest
  same_image =
      let behind = flat_map tag_bytes spelled.tags ++ spelled.rest in
      by_header other others other_spelled
      ∙ ap (λ (bytes : List ℕ). tag_bytes (header_tag others) ++ bytes)
      (sym (rest_of other others other_spelled) ∙ kept_from image other differ 4 ∙ rest_of image args spelled)
      ∙ ap (λ (tag : Tag). tag_bytes tag ++ behind) same_header
      ∙ sym (append_assoc (tag_bytes (header_tag (with_ram_of others args))) (flat_map tag_bytes spelled.tags) spelled.rest)

  same_args : others ≡ with_ram_of others args
  same_args =
      let new = with_ram_of others args in
      let tags = flat_map tag_bytes spelled.tags in
      let size : length (tag_bytes (header_tag new) ++ tags) ≡ 4 * args.words =
      omega (
        arith,
        length-append (tag_bytes (header_tag new)) tags,
        length-append (tag_bytes (header_tag args)) tags,
        spelled.size,
        length-header args spelled.ram_name,
        length-header new spelled.ram_name,
      ) in
      let sound = spelled.sound in
      spelled_once other others new other_spelled (record {
        tags = spelled.tags;
        rest = spelled.rest;
        whole = same_image;
        size = size;
        words = spelled.words;
        ram_name = spelled.ram_name;
        spelled = spelled.spelled;
        sound = record {
          words = sound.words;
          version = sound.version;
          ram = other_spelled.sound.ram;
          some = sound.some;
          few = sound.few;
          procs = sound.procs;
          slots = sound.slots;
        };
      })

-- ---- what is loaded

-- images that differ in RAM alone load the same
module _ (image other : List ℕ) (args others : Args) (differ : DifferInRam image other)
    (spelled : Spells image args) (other_spelled : Spells other others) where
  same_bytes : drop (4 * others.words) other ≡ drop (4 * args.words) image
  same_bytes =
      let long = spelled.sound.words in
      let words : others.words ≡ args.words = ap (λ (a : Args). a.words) (same_args image other args others differ spelled other_spelled) in
      let behind : 24 + (4 * args.words - 24) ≡ 4 * args.words = omega arith in
      ap (λ n. drop (4 * n) other) words
      ∙ subst (λ n. drop n other ≡ drop n image) behind (kept_from image other differ (4 * args.words - 24))

  pub ram_loads_alike : LoadAlike image other args others
  ram_loads_alike = record {
    processes = ap (λ (a : Args). map (behind_row a) a.procs) (same_args image other args others differ spelled other_spelled);
    bytes = same_bytes;
  }

-- a process that is loaded so far behind the row of tags of these arguments
abbrev put_behind : Args → ProcArgs → ProcArgs
put_behind args process = record process { load = process.load + 4 * args.words }

abbrev StandsBehind : ℕ → ProcArgs → Type 0
StandsBehind row process = row ≤ process.load

behind_all : (image : List ℕ) (words : ℕ) (ps : List ProcArgs) → AllByRecursion (IsFaultless words image) ps → AllByRecursion (StandsBehind (4 * words)) ps
behind_all image words [] faultless = tt
behind_all image words (p ∷ ps) faultless =
    let parts = or_parts (nat_lt p.load (4 * words)) (nat_lt (length image) (p.load + file_sizes p.sections)) faultless.0.load in
    (ltb-false _ _ parts.0, behind_all image words ps faultless.1)

stands_behind : (image : List ℕ) (asked : Option ℕ) (args : Args) → IsSoundImage image asked args → AllByRecursion (StandsBehind (4 * args.words)) args.procs
stands_behind image asked args sound =
    let no_fault = no_plan_fault image asked args sound.spelled sound.no_fault in
    behind_all image args.words args.procs (recursion_from_All (IsFaultless args.words image) args.procs (all_faultless args image asked no_fault))

-- a process shows the same where it is put behind its own row again
put_back : (file : List ℕ) (args : Args) (ps : List ProcArgs) → AllByRecursion (StandsBehind (4 * args.words)) ps
    → map (shown file) (map process_plan (map (put_behind args) (map (behind_row args) ps))) ≡ map (shown file) (map process_plan ps)
put_back file args [] stands = refl
put_back file args (p ∷ ps) stands =
    let behind : 4 * args.words ≤ p.load = stands.0 in
    let same : p.load - 4 * args.words + 4 * args.words ≡ p.load = omega arith in
    ap (λ n. shown file (process_plan (record p { load = n })) ∷ map (shown file) (map process_plan (map (put_behind args) (map (behind_row args) ps)))) same
    ∙ ap (λ ss. shown file (process_plan p) ∷ ss) (put_back file args ps stands.1)

-- where it is put behind another row, its bytes have moved so
abbrev moved_to : Args → Args → ProcArgs → ProcArgs
moved_to args others process = put_behind others (behind_row args process)

moved_all : (args others : Args) (ps : List ProcArgs) → map (put_behind others) (map (behind_row args) ps) ≡ map (moved_to args others) ps
moved_all args others [] = refl
moved_all args others (p ∷ ps) = ap (λ qs. moved_to args others p ∷ qs) (moved_all args others ps)

stand : (args others : Args) (ps : List ProcArgs) → AllByRecursion (StandsBehind (4 * args.words)) ps
    → AllByRecursion (λ p. StandsMoved (4 * args.words) (4 * others.words) p (moved_to args others p)) ps
stand args others [] stands = tt
stand args others (p ∷ ps) stands =
    let behind : 4 * args.words ≤ p.load = stands.0 in
    (record { behind = behind; load = omega arith; entry = refl; sections = refl }, stand args others ps stands.1)

within : (image : List ℕ) (args : Args) → Spells image args → 4 * args.words ≤ length image
within image args s =
    let row = flat_map tag_bytes (header_tag args ∷ s.tags) in
    let all : length image ≡ length row + length s.rest = ap (λ (l : List ℕ). length l) s.whole ∙ length-append row s.rest in
    omega (arith, s.size)

-- ---- the start

module _ (one other : Setup) (args others : Args) (alike : LoadAlike one.image other.image args others)
    (sound : IsSoundImage one.image one.asked args) (other_sound : IsSoundImage other.image other.asked others) where
  moved : HasMoved one.image other.image (4 * args.words) (4 * others.words)
  moved = record {
    within = within one.image args sound.spelled;
    within_moved = within other.image others other_sound.spelled;
    rest = alike.bytes;
  }

  same_processes : map (shown other.image) (map process_plan others.procs) ≡ map (shown one.image) (map process_plan args.procs)
  same_processes =
      let ps = args.procs in
      let Shows : List ProcArgs → List Shown = λ qs. map (shown other.image) (map process_plan qs) in
      sym (put_back other.image others others.procs (stands_behind other.image other.asked others other_sound))
      ∙ ap (λ qs. Shows (map (put_behind others) qs)) alike.processes
      ∙ ap Shows (moved_all args others ps)
      ∙ processes_moved one.image other.image (4 * args.words) (4 * others.words) moved (moved_to args others) ps
      (stand args others ps (stands_behind one.image one.asked args sound))

  same_start : capacity (args.ram_size / 4096) (length args.procs) (slots_used args one.asked)
      ≡ capacity (others.ram_size / 4096) (length others.procs) (slots_used others other.asked)
      → start (plan_of args one.asked) one.image ≡ start (plan_of others other.asked) other.image
  same_start room =
      let rooms : room_of (plan_of args one.asked) ≡ room_of (plan_of others other.asked) =
      ap (λ n. capacity (args.ram_size / 4096) n (slots_used args one.asked)) (length-map args.procs process_plan)
      ∙ room ∙ ap (λ n. capacity (others.ram_size / 4096) n (slots_used others other.asked)) (sym (length-map others.procs process_plan)) in
      start_shown (plan_of args one.asked) one.image
      ∙ ap (λ n. started n (map (shown one.image) (map process_plan args.procs))) rooms
      ∙ ap (λ ps. started (room_of (plan_of others other.asked)) ps) (sym same_processes)
      ∙ sym (start_shown (plan_of others other.asked) other.image)

-- ---- machines

-- a setup without a fault boots the start of its plan, and nothing else
pub only_start : (setup : Setup) (machine : Machine) (args : Args) → IsSoundImage setup.image setup.asked args → Boots setup.image setup.asked machine
    → machine ≡ start (plan_of args setup.asked) setup.image
only_start setup machine args sound boots =
    boots.start ∙ ap (λ (a : Args). start (plan_of a setup.asked) setup.image) (spelled_once setup.image boots.args args boots.sound.spelled sound.spelled)

starts_alike : (one other : Setup) (split : SplitOneCapacity one other)
    → start (plan_of split.capacity.args one.asked) one.image ≡ start (plan_of split.other_capacity.args other.asked) other.image
starts_alike one other split =
    same_start one other split.capacity.args split.other_capacity.args split.images split.capacity.sound split.other_capacity.sound
    (sym split.capacity.room ∙ split.other_capacity.room)

pub splits_boot_alike : (one other : Setup) (machine : Machine) → SplitOneCapacity one other
    → (Boots one.image one.asked machine ↔ Boots other.image other.asked machine)
splits_boot_alike one other machine split = (
  λ boots. record {
    args = split.other_capacity.args;
    sound = split.other_capacity.sound;
    start = only_start one machine split.capacity.args split.capacity.sound boots ∙ starts_alike one other split;
  },
  λ boots. record {
    args = split.capacity.args;
    sound = split.capacity.sound;
    start = only_start other machine split.other_capacity.args split.other_capacity.sound boots ∙ sym (starts_alike one other split);
  },
)

pub same_machine : (one other : Setup) (machine twin : Machine) → SplitOneCapacity one other
    → Boots one.image one.asked machine → Boots other.image other.asked twin → machine ≡ twin
same_machine one other machine twin split boots twin_boots =
    only_start one machine split.capacity.args split.capacity.sound boots
    ∙ starts_alike one other split
    ∙ sym (only_start other twin split.other_capacity.args split.other_capacity.sound twin_boots)

pub splits_play_alike : (one other : Setup) (machine twin : Machine) (events : List ℕ) (limit : ℕ) → SplitOneCapacity one other
    → Boots one.image one.asked machine → Boots other.image other.asked twin → run_of limit machine events ≡ run_of limit twin events
splits_play_alike one other machine twin events limit split boots twin_boots =
    ap (λ (m : Machine). run_of limit m events) (same_machine one other machine twin split boots twin_boots)

pub splits_tell_alike : (one other : Setup) (machine twin : Machine) (tells : Telling) (events : List ℕ) (limit : ℕ) → SplitOneCapacity one other
    → Boots one.image one.asked machine → Boots other.image other.asked twin
    → output tells (run_of limit machine events) ≡ output tells (run_of limit twin events)
splits_tell_alike one other machine twin tells events limit split boots twin_boots =
    ap (λ (m : Machine). output tells (run_of limit m events)) (same_machine one other machine twin split boots twin_boots)
