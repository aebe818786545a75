-- What loads and stores come to, of what memory answers.
use Rattle.std.proofs.Common.{◌≡◌, ℕ, ◌+◌, ◌*◌, ◌%◌, ◌==◌, List, Bool, true, false, Option, Some, None, refl, sym, ap, subst, ◌∙◌, arith}
use Rattle.std.proofs.lemmas.Bool.{eq-eqb, ne_eqb}
use Rattle.std.specs.Prelude.{if◌then◌else◌, is_some}
use Rattle.std.specs.Option.{option_map}
use Rattle.xk_base.specs.declared.pages.Access.{Access}
use Rattle.xk_base.specs.declared.pages.Access.TheVariants.{Load, Store}
use Rattle.xk_base.specs.declared.pages.Width.{Width}
use Rattle.xk_base.specs.declared.pages.Width.TheVariants.{Byte, Half, Word}
use Rattle.xk_base.specs.Calls.Registers.{with_reg}
use Rattle.xk_base.specs.UserMemory.{Content, KeepsContent, Memory, Seen, ShowsAt, StoresNumber, TakesNumber, Timer, in_timer_page, number_at, number_loaded, number_shown, size_of, timer_at, timer_stored}
use Rattle.machine_model.specs.Hart.Instructions.{Executed, Next, Stores, StoresToConsole, StoresToTimer, CallsKernel, Traps, following, loads, puts, stores, writes}
use Rattle.rv32_hart.specs.declared.ran.Ran.{Ran}
use Rattle.rv32_hart.specs.declared.ran.Ran.TheVariants.{Ecall, Trap, Device, Failed}
use Rattle.rv32_hart.specs.declared.ran.Ran.TheVariants as ran
use Rattle.rv32_hart.specs.Running.{DoesExecute, IsExecuted, IsExecutedAlone, KeepsView, OverBytes, TellsAfter, View, bytes_after, ran_of, registers_after, timer_left}
use Rattle.rv32_hart.proofs.ExecutingLemmas.{agree, not_of, told, over}

-- what is told stays so where nothing is done
pub kept : (content : Content) → KeepsContent content content
kept None = tt
kept (Some byte) = refl

-- ---- the number that a load gives

-- the bytes of which the number at an address is this one
abbrev one_number : ℕ → ℕ → ℕ → ℕ
one_number a value x = if x == a then value else 0

one_there : (a value : ℕ) → one_number a value a ≡ value
one_there a value = rw (eq-eqb a a refl) refl

one_behind : (a value k : ℕ) → one_number a value (a + (k + 1)) ≡ 0
one_behind a value k = rw (ne_eqb (a + (k + 1)) a (λ e. omega (arith, e))) refl

one_stands : (a value : ℕ) (width : Width) → number_at (one_number a value) a width ≡ value
one_stands a value Byte = one_there a value
one_stands a value Half = rw (one_there a value, one_behind a value 0) (omega arith)
one_stands a value Word = rw (one_there a value, one_behind a value 0, one_behind a value 1, one_behind a value 2) (omega arith)

-- what a load gives is what it would over what is told, or over some bytes
pub shown : (t : Option Timer) (content : Content) (a : ℕ) (width : Width) (value : ℕ) → ShowsAt t content a width value
    → OverBytes content (λ byte. number_shown t byte a width ≡ value)
shown None None a width value h = (one_number a value, one_stands a value width)
shown None (Some byte) a width value h = sym h
shown (Some t) None a width value h = ((λ x. 0), sym h)
shown (Some t) (Some byte) a width value h = sym h

pub over_map : (P Q : (ℕ → ℕ) → Type 0) (content : Content) → ((byte : ℕ → ℕ) → P byte → Q byte) → OverBytes content P → OverBytes content Q
over_map P Q None f h = (h.0, f h.0 h.1)
over_map P Q (Some byte) f h = f byte h

-- ---- what is executed over bytes is executed

module _ (may : Access → ℕ → Bool) (console : ℕ → Bool) (timer : Option Timer) (after : View) (old new : List ℕ) where
  abbrev Over : (Memory → Executed) → Content → Ran → Type 0
  Over f content answer =
      OverBytes content (λ byte. IsExecuted (f (over may console timer byte)) (told may console timer content) after old new answer)

  over_fails : (f : Memory → Executed) (content : Content) → Over f content Failed → KeepsView (told may console timer content) after
  over_fails f None h = not_of (f (over may console timer h.0)) Failed (KeepsView (told may console timer None) after) h.1.answer
  over_fails f (Some byte) h = not_of (f (over may console timer byte)) Failed (KeepsView (told may console timer (Some byte)) after) h.answer

  pub over_does : (f : Memory → Executed) (content : Content) (answer : Ran) → Over f content answer
      → DoesExecute f (told may console timer content) after old new answer
  over_does f content Failed h = over_fails f content h
  over_does f content (ran.Next pc) h = h
  over_does f content Ecall h = h
  over_does f content (Trap cause value) h = h
  over_does f content (Device offset value pc) h = h

  tells : (x : Executed) (content : Content) → ((byte : ℕ → ℕ) → bytes_after byte x ≡ byte) → KeepsContent content after.content
      → TellsAfter content x after.content
  tells x None e k = tt
  tells x (Some byte) e k = k ∙ ap Some (sym (e byte))

  -- an instruction that leaves memory and the timer, of what is loaded by it
  pub does_alone : (f : Memory → Executed) (x : Executed) (content : Content) (answer : Ran)
      → OverBytes content (λ byte. f (over may console timer byte) ≡ x) → IsExecutedAlone x old new answer
      → KeepsContent content after.content → after.timer ≡ timer → DoesExecute f (told may console timer content) after old new answer
  does_alone f x content answer e h k t =
      over_does f content answer
      (over_map (λ byte. f (over may console timer byte) ≡ x) (λ byte. IsExecuted (f (over may console timer byte)) (told may console timer content) after old new answer) content
      (λ byte q. subst (λ y. IsExecuted y (told may console timer content) after old new answer) (sym q)
      (record { answer = h.answer; registers = h.registers; content = tells x content h.bytes k; timer = t ∙ sym (h.timer timer) })) e)

  -- ---- loads

  pub load_does : (content : Content) (pc rd a : ℕ) (width : Width) (extend : ℕ → ℕ) (value : ℕ)
      → (a % size_of width == 0) ≡ true → may Load a ≡ true → ShowsAt (timer_at timer a) content a width value
      → KeepsContent content after.content → after.timer ≡ timer → new ≡ with_reg old rd (extend value)
      → DoesExecute (λ mem. loads mem old pc rd a width extend) (told may console timer content) after old new (ran.Next (following pc))
  load_does content pc rd a width extend value al m s k t r =
      does_alone (λ mem. loads mem old pc rd a width extend) (writes old pc rd (extend value)) content (ran.Next (following pc))
      (over_map (λ byte. number_shown (timer_at timer a) byte a width ≡ value)
      (λ byte. loads (over may console timer byte) old pc rd a width extend ≡ writes old pc rd (extend value)) content
      (λ byte e. rw (al, m, e) refl) (shown (timer_at timer a) content a width value s))
      (record { answer = refl; registers = r; bytes = λ byte. refl; timer = λ other. refl }) k t

  -- ---- stores

  pub over_all : (P : (ℕ → ℕ) → Type 0) (content : Content) → ((byte : ℕ → ℕ) → P byte) → OverBytes content P
  over_all P None f = ((λ a. 0), f (λ a. 0))
  over_all P (Some byte) f = f byte

  there : (t : Timer) (a : ℕ) → timer_at timer a ≡ Some t → timer ≡ Some t
  there t a e = go timer refl
    where
      in_page : (other : Timer) (b : Bool) → (if b then Some other else None) ≡ Some t → Some other ≡ Some t
      in_page other true q = q
      in_page other false q = absurd (cc)

      go : (o : Option Timer) → timer ≡ o → timer ≡ Some t
      go None q = absurd (let d : None ≡ Some t = sym (ap (λ y. timer_at y a) q) ∙ e in cc)
      go (Some other) q = q ∙ in_page other (in_timer_page a) (sym (ap (λ y. timer_at y a) q) ∙ e)

  abbrev before : Content → Seen
  before content = record { content = content; timer = timer }

  abbrev left : Seen
  left = record { content = after.content; timer = after.timer }

  module _ (content : Content) (a : ℕ) (width : Width) (value pc : ℕ) where
    stores_tell : StoresNumber content after.content a width value → TellsAfter content (Stores a width value new pc) after.content
    stores_tell h = told_so content h
      where
        told_so : (content : Content) → StoresNumber content after.content a width value → TellsAfter content (Stores a width value new pc) after.content
        told_so None h = tt
        told_so (Some byte) h = h

    pub put_done : console a ≡ false → TakesNumber (timer_at timer a) (before content) left a width value
        → Over (λ mem. puts mem a width value new pc) content (ran.Next pc)
    put_done c h = over_all (λ byte. IsExecuted (puts (over may console timer byte) a width value new pc) (told may console timer content) after old new (ran.Next pc)) content
        (λ byte. rw c (go (timer_at timer a) refl h))
      where
        go : (o : Option Timer) → timer_at timer a ≡ o → TakesNumber o (before content) left a width value
            → IsExecuted (if is_some o then StoresToTimer (a % 4096) width value new pc else Stores a width value new pc) (told may console timer content) after old new (ran.Next pc)
        go None e h = record { answer = refl; registers = refl; content = stores_tell h.0; timer = h.1 }
        go (Some t) e h = record {
          answer = refl;
          registers = refl;
          content = tells (StoresToTimer (a % 4096) width value new pc) content (λ byte. refl) h.0;
          timer = h.1 ∙ sym (ap (option_map (timer_stored (a % 4096) width value)) (there t a e));
        }

    pub put_device : (offset : ℕ) → console a ≡ true → offset ≡ a % 4096 → KeepsContent content after.content → after.timer ≡ timer
        → Over (λ mem. puts mem a width value new pc) content (Device offset value pc)
    put_device offset c o k t =
        over_all (λ byte. IsExecuted (puts (over may console timer byte) a width value new pc) (told may console timer content) after old new (Device offset value pc)) content
        (λ byte. rw c (record {
          answer = ap (λ n. Device n value pc) o;
          registers = refl;
          content = tells (StoresToConsole (a % 4096) value new pc) content (λ other. refl) k;
          timer = t;
        }))

-- a store that memory takes is one that puts the value there
pub store_does : (may : Access → ℕ → Bool) (console : ℕ → Bool) (timer : Option Timer) (after : View) (regs : List ℕ) (content : Content)
    (pc a : ℕ) (width : Width) (value : ℕ) (answer : Ran) → (a % size_of width == 0) ≡ true → may Store a ≡ true
    → OverBytes content (λ byte. IsExecuted (puts (over may console timer byte) a width value regs (following pc)) (told may console timer content) after regs regs answer)
    → DoesExecute (λ mem. stores mem regs pc a width value) (told may console timer content) after regs regs answer
store_does may console timer after regs content pc a width value answer al m h =
    agree may console timer after regs regs (λ mem. stores mem regs pc a width value) (λ mem. puts mem a width value regs (following pc)) content answer
    (λ byte. rw (al, m) refl)
    (over_does may console timer after regs regs (λ mem. puts mem a width value regs (following pc)) content answer h)

-- an instruction that doesn't look at memory, of which nothing changes
pub does_apart : (may : Access → ℕ → Bool) (console : ℕ → Bool) (timer : Option Timer) (content : Content) (old new : List ℕ)
    (f : Memory → Executed) (x : Executed) (answer : Ran) → ((byte : ℕ → ℕ) → f (over may console timer byte) ≡ x)
    → IsExecutedAlone x old new answer → DoesExecute f (told may console timer content) (told may console timer content) old new answer
does_apart may console timer content old new f x answer e h =
    does_alone may console timer (told may console timer content) old new f x content answer
    (over_all may console timer (told may console timer content) old new (λ byte. f (over may console timer byte) ≡ x) content e) h (kept content) refl
