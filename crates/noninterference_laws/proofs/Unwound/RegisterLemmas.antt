-- The registers of a thread at each line of the program that keeps a sum.
use Rattle.std.proofs.Common.{◌≡◌, ℕ, ◌≤◌, suc, List, [], ◌∷◌, length, refl, ap, ◌∙◌, arith}
use Rattle.xk_base.specs.Calls.Registers.{arguments_of, reg_at, with_arguments, with_reg}
use Rattle.syscall_codec.specs.CallWords.{call_number}
use Rattle.syscall_codec.specs.CallNumbers.{create_server_with_address, receive_message, return_scalar1}
use Rattle.machine_model.specs.Hart.Instructions.{sum_of}
use Rattle.noninterference_laws.specs.SecretSum.{Begin, Create, Name, NameCreate, NameReceive, Receive, Grow, Answer, NameReturn, Return}
use Rattle.noninterference_laws.specs.SecretSum.{HasAddress, HasCall, Line, Repeat, sum_address}

-- ---- so many registers as each of the first

one_of : (P : List ℕ → Type 0) (n : ℕ) → ((x : ℕ) (xs : List ℕ) → n ≤ length xs → P (x ∷ xs)) → (xs : List ℕ) → suc n ≤ length xs → P xs
one_of P n of [] e = absurd (omega (arith, e))
one_of P n of (x ∷ xs) e = of x xs (omega (arith, e))

four_of : (P : List ℕ → Type 0) (n : ℕ) → ((a b c d : ℕ) (xs : List ℕ) → n ≤ length xs → P (a ∷ b ∷ c ∷ d ∷ xs)) → (xs : List ℕ)
    → suc (suc (suc (suc n))) ≤ length xs → P xs
four_of P n of xs e =
    one_of P (suc (suc (suc n))) (λ a xs. one_of (λ x. P (a ∷ x)) (suc (suc n)) (λ b bs. one_of (λ x. P (a ∷ b ∷ x)) (suc n) (λ c cs.
    one_of (λ x. P (a ∷ b ∷ c ∷ x)) n (λ d ds. of a b c d ds) cs) bs) xs) xs e

all_of : (P : List ℕ → Type 0)
    → ((a b c d e f g h i j k l m n : ℕ) (xs : List ℕ) → P (a ∷ b ∷ c ∷ d ∷ e ∷ f ∷ g ∷ h ∷ i ∷ j ∷ k ∷ l ∷ m ∷ n ∷ xs))
    → (xs : List ℕ) → 14 ≤ length xs → P xs
all_of P of xs enough =
    four_of P 10 (λ a b c d ds. four_of (λ x. P (a ∷ b ∷ c ∷ d ∷ x)) 6 (λ e f g h hs.
    four_of (λ x. P (a ∷ b ∷ c ∷ d ∷ e ∷ f ∷ g ∷ h ∷ x)) 2 (λ i j k l ls.
    one_of (λ x. P (a ∷ b ∷ c ∷ d ∷ e ∷ f ∷ g ∷ h ∷ i ∷ j ∷ k ∷ l ∷ x)) 1 (λ m ms.
    one_of (λ x. P (a ∷ b ∷ c ∷ d ∷ e ∷ f ∷ g ∷ h ∷ i ∷ j ∷ k ∷ l ∷ m ∷ x)) 0 (λ n ns last. of a b c d e f g h i j k l m n ns) ms) ls) hs) ds)
    xs enough

-- ---- at a line

-- what the registers are at a line
pub record Fits (line : Line) (regs : List ℕ) : Type 0 where
  pub enough : 14 ≤ length regs
  pub zero : reg_at regs 0 ≡ 0
  pub address : HasAddress line regs
  pub call : HasCall line regs

abbrev Leads : Line → Line → (List ℕ → List ℕ) → Type 0
Leads line next change = (regs : List ℕ) → Fits line regs → Fits next (change regs)

leads : (line next : Line) (change : List ℕ → List ℕ)
    → ((a b c d e f g h i j k l m n : ℕ) (xs : List ℕ) → Fits line (a ∷ b ∷ c ∷ d ∷ e ∷ f ∷ g ∷ h ∷ i ∷ j ∷ k ∷ l ∷ m ∷ n ∷ xs)
    → Fits next (change (a ∷ b ∷ c ∷ d ∷ e ∷ f ∷ g ∷ h ∷ i ∷ j ∷ k ∷ l ∷ m ∷ n ∷ xs)))
    → Leads line next change
leads line next change of regs fits = all_of (λ x. Fits line x → Fits next (change x)) of regs fits.enough fits

pub after_begin : Leads Begin NameCreate (λ regs. with_reg regs 9 sum_address)
after_begin = leads Begin NameCreate (λ regs. with_reg regs 9 sum_address) (λ a b c d e f g h i j k l m n xs fits.
    record { enough = omega arith; zero = fits.zero; address = refl; call = tt })

pub after_name_create : Leads NameCreate Create (λ regs. with_reg regs 10 (sum_of (reg_at regs 0) create_server_with_address))
after_name_create =
    leads NameCreate Create (λ regs. with_reg regs 10 (sum_of (reg_at regs 0) create_server_with_address)) (λ a b c d e f g h i j k l m n xs fits.
    record { enough = omega arith; zero = fits.zero; address = fits.address; call = ap (λ z. sum_of z create_server_with_address) fits.zero })

pub after_name : Leads Name NameReceive (λ regs. with_reg regs 11 (sum_of (reg_at regs 0) 0))
after_name = leads Name NameReceive (λ regs. with_reg regs 11 (sum_of (reg_at regs 0) 0)) (λ a b c d e f g h i j k l m n xs fits.
    record { enough = omega arith; zero = fits.zero; address = fits.address; call = tt })

pub after_name_receive : Leads NameReceive Receive (λ regs. with_reg regs 10 (sum_of (reg_at regs 0) receive_message))
after_name_receive =
    leads NameReceive Receive (λ regs. with_reg regs 10 (sum_of (reg_at regs 0) receive_message)) (λ a b c d e f g h i j k l m n xs fits.
    record { enough = omega arith; zero = fits.zero; address = fits.address; call = ap (λ z. sum_of z receive_message) fits.zero })

pub after_answer : Leads Answer NameReturn (λ regs. with_reg regs 12 (sum_of (reg_at regs 14) 0))
after_answer = leads Answer NameReturn (λ regs. with_reg regs 12 (sum_of (reg_at regs 14) 0)) (λ a b c d e f g h i j k l m n xs fits.
    record { enough = omega arith; zero = fits.zero; address = fits.address; call = tt })

pub after_name_return : Leads NameReturn Return (λ regs. with_reg regs 10 (sum_of (reg_at regs 0) return_scalar1))
after_name_return =
    leads NameReturn Return (λ regs. with_reg regs 10 (sum_of (reg_at regs 0) return_scalar1)) (λ a b c d e f g h i j k l m n xs fits.
    record { enough = omega arith; zero = fits.zero; address = fits.address; call = ap (λ z. sum_of z return_scalar1) fits.zero })

-- ---- with the words of a reply

-- s1 and x0 stay under a reply of four words or more
replied : (words : List ℕ) → 4 ≤ length words → (regs : List ℕ) → 14 ≤ length regs
    → (14 ≤ length (with_arguments words regs)) × (reg_at (with_arguments words regs) 0 ≡ reg_at regs 0)
    × (reg_at (with_arguments words regs) 9 ≡ reg_at regs 9)
replied words four regs =
    all_of (λ regs. (14 ≤ length (with_arguments words regs)) × (reg_at (with_arguments words regs) 0 ≡ reg_at regs 0)
    × (reg_at (with_arguments words regs) 9 ≡ reg_at regs 9))
    (λ a b c d e f g h i j k l m n xs. four_of
    (λ words. (14 ≤ length (with_arguments words (a ∷ b ∷ c ∷ d ∷ e ∷ f ∷ g ∷ h ∷ i ∷ j ∷ k ∷ l ∷ m ∷ n ∷ xs)))
    × (reg_at (with_arguments words (a ∷ b ∷ c ∷ d ∷ e ∷ f ∷ g ∷ h ∷ i ∷ j ∷ k ∷ l ∷ m ∷ n ∷ xs)) 0 ≡ a)
    × (reg_at (with_arguments words (a ∷ b ∷ c ∷ d ∷ e ∷ f ∷ g ∷ h ∷ i ∷ j ∷ k ∷ l ∷ m ∷ n ∷ xs)) 9 ≡ j)) 0
    (λ p q r s ys none. (omega arith, refl, refl)) words four) regs

pub reply_fits : (line : Line) (words regs : List ℕ) → 4 ≤ length words → Fits line regs → HasCall line (with_arguments words regs)
    → Fits line (with_arguments words regs)
reply_fits line words regs four fits call =
    let is = replied words four regs fits.enough in
    record { enough = is.0; zero = is.1 ∙ fits.zero; address = addressed line fits.address is.2; call = call }
  where
    addressed : (line : Line) → HasAddress line regs → reg_at (with_arguments words regs) 9 ≡ reg_at regs 9 → HasAddress line (with_arguments words regs)
    addressed Begin has same = tt
    addressed NameCreate has same = same ∙ has
    addressed Create has same = same ∙ has
    addressed Name has same = same ∙ has
    addressed NameReceive has same = same ∙ has
    addressed Receive has same = same ∙ has
    addressed Grow has same = same ∙ has
    addressed Answer has same = same ∙ has
    addressed NameReturn has same = same ∙ has
    addressed Return has same = same ∙ has
    addressed Repeat has same = same ∙ has

-- ---- at a call

pub number_called : (regs : List ℕ) → 14 ≤ length regs → call_number (arguments_of regs) ≡ reg_at regs 10
number_called regs enough = all_of (λ regs. call_number (arguments_of regs) ≡ reg_at regs 10) (λ a b c d e f g h i j k l m n xs. refl) regs enough

-- past a call all is as before, but that no number is named
pub passes_create : (regs : List ℕ) → Fits Create regs → Fits Name regs
passes_create regs fits = record { enough = fits.enough; zero = fits.zero; address = fits.address; call = tt }

pub passes_receive : (regs : List ℕ) → Fits Receive regs → Fits Grow regs
passes_receive regs fits = record { enough = fits.enough; zero = fits.zero; address = fits.address; call = tt }

pub passes_return : (regs : List ℕ) → Fits Return regs → Fits Repeat regs
passes_return regs fits = record { enough = fits.enough; zero = fits.zero; address = fits.address; call = tt }
