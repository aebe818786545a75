-- What each line of the program does that keeps a sum.
use Rattle.std.proofs.Common.{◌≡◌, ℕ, ◌*◌, Bool, ◌&&◌, ◌||◌, true, false, List, Option, Some, None, refl, ap, ◌∙◌}
use Rattle.std.specs.Prelude.{is_some, not, if◌then◌else◌}
use Rattle.std.specs.Option.{option_and_then, option_map_or}
use Rattle.xk_base.specs.declared.ids.Pid.{Pid}
use Rattle.xk_base.specs.declared.ids.Place.{Place}
use Rattle.xk_base.specs.declared.pages.Access.{Access}
use Rattle.xk_base.specs.declared.pages.Access.TheVariants.{Fetch, Load, Store}
use Rattle.xk_base.specs.declared.pages.Width.TheVariants.{Word}
use Rattle.xk_base.specs.Calls.Registers.{reg_at, with_reg}
use Rattle.xk_base.specs.Numbers.Windows.{page_of}
use Rattle.xk_base.specs.UserMemory.{Memory, Timer, number_at, number_loaded, timer_at}
use Rattle.rv32_words.specs.Reading.{insn_at}
use Rattle.syscall_codec.specs.CallNumbers.{create_server_with_address, receive_message, return_scalar1}
use Rattle.ledger_model.specs.Ledger.{Bytes, Contents, Homed, PageLoan, PageName, byte_of, contents_of, has_bytes}
use Rattle.ledger_model.specs.Reach.{home_may, reach}
use Rattle.ledger_model.proofs.ReachingLemmas.{reach-home}
use Rattle.machine_model.specs.Hart.Atomics.{atomic_at, execute, execute_at, leaving, operates}
use Rattle.machine_model.specs.Hart.Instructions.{CallsKernel, Executed, Next, Stores, StoresToConsole, StoresToTimer, Traps, execute_base, fetch_page_fault}
use Rattle.machine_model.specs.Hart.Instructions.{following, puts, store_page_fault, sum_of}
use Rattle.machine_model.specs.State.Machine.{Machine}
use Rattle.machine_model.specs.State.Views.{contents_seen, memory_of, page_reached, timer_of}
use Rattle.noninterference_laws.specs.SecretSum.{Begin, Create, Name, NameCreate, NameReceive, Receive, Grow, Answer, NameReturn, Return}
use Rattle.noninterference_laws.specs.SecretSum.{HasAddress, HasOwnPage, IsLoaded, Line, Repeat, entry, line_address, place_in_program}
use Rattle.noninterference_laws.specs.SecretSum.{sum_address, sum_place, word_at}

-- what a line does, where the sum is so
abbrev pub does : Line → ℕ → List ℕ → Executed
does Begin sum regs = Next (with_reg regs 9 sum_address) (line_address NameCreate)
does NameCreate sum regs = Next (with_reg regs 10 (sum_of (reg_at regs 0) create_server_with_address)) (line_address Create)
does Create sum regs = CallsKernel
does Name sum regs = Next (with_reg regs 11 (sum_of (reg_at regs 0) 0)) (line_address NameReceive)
does NameReceive sum regs = Next (with_reg regs 10 (sum_of (reg_at regs 0) receive_message)) (line_address Receive)
does Receive sum regs = CallsKernel
does Grow sum regs = Stores sum_address Word (sum_of sum (reg_at regs 14)) regs (line_address Answer)
does Answer sum regs = Next (with_reg regs 12 (sum_of (reg_at regs 14) 0)) (line_address NameReturn)
does NameReturn sum regs = Next (with_reg regs 10 (sum_of (reg_at regs 0) return_scalar1)) (line_address Return)
does Return sum regs = CallsKernel
does Repeat sum regs = Next regs (line_address Name)

-- ---- its word

-- the accesses of a process that runs the program, to its code and its sum
pub record Reaches (mem : Memory) : Type 0 where
  pub fetches : (line : Line) → mem.may Fetch (line_address line) ≡ true
  pub words : (line : Line) → number_at mem.byte (line_address line) Word ≡ word_at line
  pub loads : mem.may Load sum_address ≡ true
  pub stores : mem.may Store sum_address ≡ true
  pub no_console : mem.console sum_address ≡ false
  pub no_timer : is_some (timer_at mem.timer sum_address) ≡ false

module _ (mem : Memory) (reaches : Reaches mem) (regs : List ℕ) (reserved : Option ℕ) where
  abbrev sum : ℕ
  sum = number_loaded mem sum_address Word

  by_word : (line : Line) → execute_at regs (line_address line) reserved mem ≡ execute regs (line_address line) (word_at line) reserved mem
  unfolding execute_at
  by_word line =
      ap
      (λ b. if b then execute regs (line_address line) (number_at mem.byte (line_address line) Word) reserved mem
      else leaving reserved (Traps fetch_page_fault (line_address line))) (reaches.fetches line)
      ∙ ap (λ w. execute regs (line_address line) w reserved mem) (reaches.words line)

  -- the sum grows
  grown : HasAddress Grow regs
      → operates mem regs (line_address Grow) 0 (reg_at regs 9) (λ old. sum_of old (reg_at regs 14)) ≡ does Grow sum regs
  grown has =
      ap (λ address. operates mem regs (line_address Grow) 0 address (λ old. sum_of old (reg_at regs 14))) has
      ∙ (ap
      (λ b. if not (b && mem.may Store sum_address) then Traps store_page_fault sum_address
      else puts mem sum_address Word (sum_of sum (reg_at regs 14)) regs (following (line_address Grow))) reaches.loads
      ∙ (ap
      (λ b. if not b then Traps store_page_fault sum_address
      else puts mem sum_address Word (sum_of sum (reg_at regs 14)) regs (following (line_address Grow))) reaches.stores
      ∙ (ap
      (λ b. if b then StoresToConsole 0 (sum_of sum (reg_at regs 14)) regs (line_address Answer) else (
      if is_some (timer_at mem.timer sum_address) then StoresToTimer 0 Word (sum_of sum (reg_at regs 14)) regs (line_address Answer) else
      Stores sum_address Word (sum_of sum (reg_at regs 14)) regs (line_address Answer))) reaches.no_console
      ∙ ap
      (λ b. if b then StoresToTimer 0 Word (sum_of sum (reg_at regs 14)) regs (line_address Answer) else
      Stores sum_address Word (sum_of sum (reg_at regs 14)) regs (line_address Answer)) reaches.no_timer)))

  by_line : (line : Line) → HasAddress line regs
      → execute regs (line_address line) (word_at line) reserved mem ≡ leaving reserved (does line sum regs)
  unfolding execute execute_base insn_at atomic_at
  by_line Begin has = refl
  by_line NameCreate has = refl
  by_line Create has = refl
  by_line Name has = refl
  by_line NameReceive has = refl
  by_line Receive has = refl
  by_line Grow has = ap (leaving reserved) (grown has)
  by_line Answer has = refl
  by_line NameReturn has = refl
  by_line Return has = refl
  by_line Repeat has = refl

  pub executes_line : (line : Line) → HasAddress line regs
      → execute_at regs (line_address line) reserved mem ≡ leaving reserved (does line sum regs)
  executes_line line has = by_word line ∙ by_line line has

-- ---- its memory

or_true : (b : Bool) → (b || true) ≡ true
or_true true = refl
or_true false = refl

module _ (m : Machine) (pid : Pid) (loaded : IsLoaded m.ledger pid) where
  -- an own page that isn't on loan is reached as its right says
  pub reached : (place : Place) (own : HasOwnPage m.ledger place) (access : Access) → home_may own.page.right None access ≡ true
      → reach m.processes m.ledger place access ≡ Some (Homed place)
  reached place own access may =
      reach-home m.processes m.ledger place own.page access own.there
      ∙ (ap (λ (o : Option PageLoan). if home_may own.page.right o access then Some (Homed place) else None) own.unlent
      ∙ ap (λ b. if b then Some (Homed place) else None) may)

  pub held : (place : Place) (own : HasOwnPage m.ledger place) → contents_of m.ledger (Homed place) ≡ Some (Bytes own.bytes)
  held place own = contents_at own.there own.holds
    where
      contents_at : m.ledger.home place ≡ Some own.page → own.page.contents ≡ Bytes own.bytes
          → contents_of m.ledger (Homed place) ≡ Some (Bytes own.bytes)
      contents_at there holds = rw there (ap (λ c. Some c) holds)

  -- the program

  abbrev code : Place
  code = page_of pid entry

  seen : contents_seen m pid entry ≡ Some (Bytes loaded.code.bytes)
  seen = ap (option_and_then (contents_of m.ledger)) (reached code loaded.code Load refl) ∙ held code loaded.code

  -- the word at an offset of what a page holds
  abbrev word_of_page : ℕ → Option Contents → ℕ
  word_of_page offset o = number_at (λ k. option_map_or (byte_of k) o 0) offset Word

  is_read : (line : Line) → number_at (memory_of m pid).byte (line_address line) Word
      ≡ word_of_page (4 * place_in_program line) (contents_seen m pid entry)
  unfolding memory_of
  is_read Begin = refl
  is_read NameCreate = refl
  is_read Create = refl
  is_read Name = refl
  is_read NameReceive = refl
  is_read Receive = refl
  is_read Grow = refl
  is_read Answer = refl
  is_read NameReturn = refl
  is_read Return = refl
  is_read Repeat = refl

  on_code : (line : Line) → page_of pid (line_address line) ≡ code
  on_code Begin = refl
  on_code NameCreate = refl
  on_code Create = refl
  on_code Name = refl
  on_code NameReceive = refl
  on_code Receive = refl
  on_code Grow = refl
  on_code Answer = refl
  on_code NameReturn = refl
  on_code Return = refl
  on_code Repeat = refl

  may_where : (access : Access) (address : ℕ) (name : PageName) → page_reached m pid access address ≡ Some name
      → (memory_of m pid).may access address ≡ true
  unfolding memory_of
  may_where access address name e = rw e (or_true _)

  fetched : (line : Line) → (memory_of m pid).may Fetch (line_address line) ≡ true
  fetched line =
      may_where Fetch (line_address line) (Homed code)
      (ap (λ p. reach m.processes m.ledger p Fetch) (on_code line) ∙ reached code loaded.code Fetch loaded.executable)

  -- the sum

  not_console : (memory_of m pid).console sum_address ≡ false
  unfolding memory_of
  not_console =
      ap (λ (o : Option Contents). option_map_or (λ contents. not (has_bytes contents)) o false)
      (ap (option_and_then (contents_of m.ledger)) (reached (sum_place pid) loaded.sum Load refl) ∙ held (sum_place pid) loaded.sum)

  not_timer : is_some (timer_at (memory_of m pid).timer sum_address) ≡ false
  unfolding memory_of
  not_timer = go (timer_of m pid)
    where
      go : (o : Option Timer) → is_some (timer_at o sum_address) ≡ false
      go None = refl
      go (Some timer) = refl

  pub reaches : Reaches (memory_of m pid)
  reaches = record {
    fetches = fetched;
    words = λ line. is_read line ∙ (ap (word_of_page (4 * place_in_program line)) seen ∙ loaded.program line);
    loads = may_where Load sum_address (Homed (sum_place pid)) (reached (sum_place pid) loaded.sum Load refl);
    stores = may_where Store sum_address (Homed (sum_place pid)) (reached (sum_place pid) loaded.sum Store loaded.writable);
    no_console = not_console;
    no_timer = not_timer;
  }
