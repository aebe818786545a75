-- The two programs of the load of `demo`. A register is written by ADDI from x0, by ADD with x0 or, for 4096, by LUI.
use Rattle.std.specs.Prelude.{ℕ, List, [], ◌∷◌, pos, negsuc}
use Rattle.std.specs.List.{flat_map}
use Rattle.kernel_args.specs.Contents.{word}
use Rattle.rv32_words.specs.Table.{spelling}
use Rattle.rv32_words.specs.declared.insn.Insn.{Insn}
use Rattle.rv32_words.specs.declared.insn.Insn.TheVariants.{Add, Addi, Bne, Ecall, Jal, Lui, Lw, Sw}

-- ---- registers by their names

abbrev zero : ℕ
zero = 0

abbrev t0 : ℕ
t0 = 5

abbrev s0 : ℕ
s0 = 8

abbrev s1 : ℕ
s1 = 9

abbrev a0 : ℕ
a0 = 10

abbrev a1 : ℕ
a1 = 11

abbrev a2 : ℕ
a2 = 12

abbrev a3 : ℕ
a3 = 13

abbrev a4 : ℕ
a4 = 14

abbrev a5 : ℕ
a5 = 15

abbrev a6 : ℕ
a6 = 16

abbrev a7 : ℕ
a7 = 17

abbrev s2 : ℕ
s2 = 18

-- the register gets a small number, what another has, or 4096
abbrev pub set : ℕ → ℕ → Insn
set register number = Addi register zero (pos number)

abbrev pub copy : ℕ → ℕ → Insn
copy register from = Add register from zero

abbrev pub set_page_size : ℕ → Insn
set_page_size register = Lui register 4096

-- ---- the programs

-- The server makes a server with a number of four words (call 14). Then it takes one message after another (15), adds one to the first
-- word of what was lent to it, and gives it back (20). The jump goes back by 15 instructions.
abbrev pub server_code : List Insn
server_code =
    set a0 14 ∷ set a1 1 ∷ set a2 2 ∷ set a3 3 ∷ set a4 4 ∷ Ecall
    ∷ set a0 15 ∷ set a1 1 ∷ set a2 2 ∷ set a3 3 ∷ set a4 4 ∷ Ecall
    ∷ Lw t0 a4 (pos 0) ∷ Addi t0 t0 (pos 1) ∷ Sw a4 t0 (pos 0)
    ∷ copy a2 a4 ∷ copy a3 a5 ∷ copy a4 a6 ∷ copy a5 a7 ∷ set a0 20 ∷ Ecall
    ∷ Jal zero (negsuc 59)
    ∷ []

-- A client connects to that server (17) and gets a page (10). A hundred times it lends that page, so that the server may change it
-- (16). The branch goes back by 10 instructions. Then it ends (22), with the first word of the page.
abbrev pub client_code : List Insn
client_code =
    set a0 17 ∷ set a1 1 ∷ set a2 2 ∷ set a3 3 ∷ set a4 4 ∷ Ecall ∷ copy s0 a1
    ∷ set a0 10 ∷ set_page_size a1 ∷ Ecall ∷ copy s1 a1
    ∷ set s2 100
    ∷ set a0 16 ∷ copy a1 s0 ∷ set a2 1 ∷ set a3 7 ∷ copy a4 s1 ∷ set_page_size a5 ∷ set a6 0 ∷ set a7 0 ∷ Ecall
    ∷ Addi s2 s2 (negsuc 0) ∷ Bne s2 zero (negsuc 39)
    ∷ Lw a1 s1 (pos 0) ∷ set a0 22 ∷ Ecall
    ∷ []

-- the words of a program
unfoldable pub code_bytes : List Insn → List ℕ
code_bytes code = flat_map (λ insn. word (spelling insn)) code
