-- The table read from a word finds each instruction by the word that it spells, and what it finds spells the word.
use Rattle.std.proofs.Common.{◌≡◌, ℕ, zero, suc, [], ◌∷◌, ◌^◌, ◌<◌, ◌==◌, ◌&&◌, refl, sym, ◌∙◌, ap, subst, arith, Bool, true, false, Option, Some, None, IfSome, MatchOption, if◌then◌else◌, get_or, lit<}
use Rattle.std.specs.Option.{option_map}
use Rattle.std.proofs.lemmas.Bool.{and_parts, eqb-true}
use Rattle.std.proofs.lemmas.Option.{none-some}
use Rattle.xk_base.specs.Numbers.Fields.{field, Drawing, word_of, IsDrawn, drawn_like}
use Rattle.xk_base.proofs.FieldLemmas.{drawn_like-word_of, field_below, field_whole, word_of-drawn_like}
use Rattle.rv32_words.specs.Reading.{opcode_of, funct3_of, rd_of, rs1_of, rs2_of}
use Rattle.machine_model.specs.Hart.Instructions.{flag_of}
use Rattle.machine_model.specs.Hart.Atomics.{Amo, Operation, atomic_at, atomic_of, funct5_of}
use Rattle.machine_model.specs.Hart.Atomics as model
use Rattle.rv32_atomics.specs.declared.atomic.Atomic.{Atomic}
use Rattle.rv32_atomics.specs.declared.atomic.Atomic.TheVariants.{Lr, Sc, AmoSwap, AmoAdd, AmoXor, AmoAnd, AmoOr, AmoMin, AmoMax, AmoMinu, AmoMaxu}
use Rattle.rv32_atomics.specs.declared.fields.Fields.{Fields}
use Rattle.rv32_atomics.specs.Meaning.{meaning}
use Rattle.rv32_atomics.specs.Reading.{fields_at, reading, variant}
use Rattle.rv32_atomics.specs.Table.{IsInRange, Spells, drawing, fields_of, row}

-- ---- what is read means what the machine does

map_if : {A B : Type 0} (b : Bool) (g : A → B) (x y : Option A) (u v : Option B)
    → option_map g x ≡ u → option_map g y ≡ v → option_map g (if b then x else y) ≡ (if b then u else v)
map_if true g x y u v p q = p
map_if false g x y u v p q = q

both_if : {A B C : Type 0} (b : Bool) (g : A → B) (h : C → B) (x y : Option A) (u v : Option C)
    → option_map g x ≡ option_map h u → option_map g y ≡ option_map h v
    → option_map g (if b then x else y) ≡ option_map h (if b then u else v)
both_if true g h x y u v p q = p
both_if false g h x y u v p q = q

variant-means : (f : Fields) → option_map meaning (variant f) ≡ atomic_of f.funct5 f.rd f.rs1 f.rs2
variant-means f =
    map_if (f.funct5 == 0b00010) meaning _ _ _ _ (map_if (f.rs2 == 0) meaning _ _ _ _ refl refl)
    (map_if (f.funct5 == 0b00011) meaning _ _ _ _ refl
    (both_if (f.funct5 == 0b00001) meaning amo _ _ _ _ refl
    (both_if (f.funct5 == 0b00000) meaning amo _ _ _ _ refl
    (both_if (f.funct5 == 0b00100) meaning amo _ _ _ _ refl
    (both_if (f.funct5 == 0b01100) meaning amo _ _ _ _ refl
    (both_if (f.funct5 == 0b01000) meaning amo _ _ _ _ refl
    (both_if (f.funct5 == 0b10000) meaning amo _ _ _ _ refl
    (both_if (f.funct5 == 0b10100) meaning amo _ _ _ _ refl
    (both_if (f.funct5 == 0b11000) meaning amo _ _ _ _ refl
    (both_if (f.funct5 == 0b11100) meaning amo _ _ _ _ refl refl))))))))))
  where
    amo : Operation → model.Atomic
    amo operation = Amo operation f.rd f.rs1 f.rs2

pub reading-means : (word : ℕ) → option_map meaning (reading word) ≡ atomic_at word
unfolding reading atomic_at
reading-means word =
    map_if (opcode_of word == 0b0101111 && funct3_of word == 0b010) meaning _ _ _ _ (variant-means (fields_at word)) refl

-- ---- what spells a word is found

part : ℕ → Drawing → ℕ
part k d = (get_or d k (0, 0)).1

read_part : (k : ℕ) (d : Drawing) (word : ℕ) → IsDrawn d → word_of d ≡ word → part k (drawn_like d word) ≡ part k d
read_part k d word h e = ap (part k) (ap (drawn_like d) (sym e) ∙ drawn_like-word_of d h)

flag_below : (b : Bool) → flag_of b < 2 ^ 1
flag_below true = lit< tt
flag_below false = lit< tt

flag_read : (b : Bool) → (flag_of b == 1) ≡ b
flag_read true = refl
flag_read false = refl

record IsRead (f : Fields) (word : ℕ) : Type 0 where
  opcode_is : opcode_of word ≡ 0b0101111
  funct3_is : funct3_of word ≡ 0b010
  fields_are : fields_at word ≡ f

fields_read : (f : Fields) (word : ℕ) → f.funct5 < 2 ^ 5 → f.rs2 < 2 ^ 5 → f.rs1 < 2 ^ 5 → f.rd < 2 ^ 5
    → word_of (drawing f) ≡ word → IsRead f word
unfolding part
fields_read f word c s2 s1 d e =
    let drawn : IsDrawn (drawing f) = (c, (flag_below f.aq, (flag_below f.rl, (s2, (s1, (lit< tt, (d, (lit< tt, tt)))))))) in
    let funct5 : funct5_of word ≡ f.funct5 = read_part 0 (drawing f) word drawn e in
    let aq : field 26 1 word ≡ flag_of f.aq = read_part 1 (drawing f) word drawn e in
    let rl : field 25 1 word ≡ flag_of f.rl = read_part 2 (drawing f) word drawn e in
    let rs2 : rs2_of word ≡ f.rs2 = read_part 3 (drawing f) word drawn e in
    let rs1 : rs1_of word ≡ f.rs1 = read_part 4 (drawing f) word drawn e in
    let rd : rd_of word ≡ f.rd = read_part 6 (drawing f) word drawn e in
    let aq_is : (field 26 1 word == 1) ≡ f.aq = ap (λ n. n == 1) aq ∙ flag_read f.aq in
    let rl_is : (field 25 1 word == 1) ≡ f.rl = ap (λ n. n == 1) rl ∙ flag_read f.rl in
    record {
      opcode_is = read_part 7 (drawing f) word drawn e;
      funct3_is = read_part 5 (drawing f) word drawn e;
      fields_are = λ i. record { funct5 = funct5 i; aq = aq_is i; rl = rl_is i; rs2 = rs2 i; rs1 = rs1 i; rd = rd i };
    }

funct5_below : (a : Atomic) → (fields_of a).funct5 < 2 ^ 5
funct5_below (Lr rd rs1 aq rl) = lit< tt
funct5_below (Sc rd rs1 rs2 aq rl) = lit< tt
funct5_below (AmoSwap rd rs1 rs2 aq rl) = lit< tt
funct5_below (AmoAdd rd rs1 rs2 aq rl) = lit< tt
funct5_below (AmoXor rd rs1 rs2 aq rl) = lit< tt
funct5_below (AmoAnd rd rs1 rs2 aq rl) = lit< tt
funct5_below (AmoOr rd rs1 rs2 aq rl) = lit< tt
funct5_below (AmoMin rd rs1 rs2 aq rl) = lit< tt
funct5_below (AmoMax rd rs1 rs2 aq rl) = lit< tt
funct5_below (AmoMinu rd rs1 rs2 aq rl) = lit< tt
funct5_below (AmoMaxu rd rs1 rs2 aq rl) = lit< tt

variant-of : (a : Atomic) → variant (fields_of a) ≡ Some a
variant-of (Lr rd rs1 aq rl) = refl
variant-of (Sc rd rs1 rs2 aq rl) = refl
variant-of (AmoSwap rd rs1 rs2 aq rl) = refl
variant-of (AmoAdd rd rs1 rs2 aq rl) = refl
variant-of (AmoXor rd rs1 rs2 aq rl) = refl
variant-of (AmoAnd rd rs1 rs2 aq rl) = refl
variant-of (AmoOr rd rs1 rs2 aq rl) = refl
variant-of (AmoMin rd rs1 rs2 aq rl) = refl
variant-of (AmoMax rd rs1 rs2 aq rl) = refl
variant-of (AmoMinu rd rs1 rs2 aq rl) = refl
variant-of (AmoMaxu rd rs1 rs2 aq rl) = refl

pub reading-spelled : (a : Atomic) (word : ℕ) → Spells a word → reading word ≡ Some a
unfolding reading
reading-spelled a word h =
    let r = fields_read (fields_of a) word (funct5_below a) h.0.2 h.0.1 h.0.0 h.1 in
    rw (r.opcode_is, r.funct3_is) (ap variant r.fields_are ∙ variant-of a)

-- ---- what is found spells the word

record Finds (o : Option Atomic) (f : Fields) : Type 0 where
  same : IfSome o (λ a. fields_of a ≡ f)

finds_if : {b : Bool} {yes no : Option Atomic} {f : Fields} → (b ≡ true → Finds yes f) → Finds no f → Finds (if b then yes else no) f
finds_if {b = true} p q = p refl
finds_if {b = false} p q = q

finds_none : {f : Fields} → Finds None f
finds_none = record { same = tt }

module _ (f : Fields) where
  row_is : (k : ℕ) → f.funct5 ≡ k → row k f.rd f.rs1 f.rs2 f.aq f.rl ≡ f
  row_is k e = λ i. record { funct5 = sym e i; aq = f.aq; rl = f.rl; rs2 = f.rs2; rs1 = f.rs1; rd = f.rd }

  lr_is : f.funct5 ≡ 0b00010 → f.rs2 ≡ 0 → row 0b00010 f.rd f.rs1 0 f.aq f.rl ≡ f
  lr_is e z = λ i. record { funct5 = sym e i; aq = f.aq; rl = f.rl; rs2 = sym z i; rs1 = f.rs1; rd = f.rd }

  variant-found : Finds (variant f) f
  variant-found =
      finds_if (λ e. finds_if (λ z. record { same = lr_is (eqb-true _ _ e) (eqb-true _ _ z) }) finds_none)
      (finds_if (λ e. record { same = row_is 0b00011 (eqb-true _ _ e) })
      (finds_if (λ e. record { same = row_is 0b00001 (eqb-true _ _ e) })
      (finds_if (λ e. record { same = row_is 0b00000 (eqb-true _ _ e) })
      (finds_if (λ e. record { same = row_is 0b00100 (eqb-true _ _ e) })
      (finds_if (λ e. record { same = row_is 0b01100 (eqb-true _ _ e) })
      (finds_if (λ e. record { same = row_is 0b01000 (eqb-true _ _ e) })
      (finds_if (λ e. record { same = row_is 0b10000 (eqb-true _ _ e) })
      (finds_if (λ e. record { same = row_is 0b10100 (eqb-true _ _ e) })
      (finds_if (λ e. record { same = row_is 0b11000 (eqb-true _ _ e) })
      (finds_if (λ e. record { same = row_is 0b11100 (eqb-true _ _ e) })
      finds_none))))))))))

-- a bit is the flag that it is read as
bit_is : (n : ℕ) → n < 2 ^ 1 → flag_of (n == 1) ≡ n
bit_is zero h = refl
bit_is (suc zero) h = refl
bit_is (suc (suc n)) h = absurd (omega arith)

-- the drawing of what is read from an atomic word is a drawing of the word
drawn : (word : ℕ) → opcode_of word ≡ 0b0101111 → funct3_of word ≡ 0b010 → word < 2 ^ 32 → word_of (drawing (fields_at word)) ≡ word
drawn word o t fits =
    ap word_of same ∙ (word_of-drawn_like (drawing (fields_at word)) word ∙ field_whole 32 word fits)
  where
    aq : flag_of (field 26 1 word == 1) ≡ field 26 1 word
    aq = bit_is (field 26 1 word) (field_below 26 1 word)

    rl : flag_of (field 25 1 word == 1) ≡ field 25 1 word
    rl = bit_is (field 25 1 word) (field_below 25 1 word)

    same : drawing (fields_at word) ≡ drawn_like (drawing (fields_at word)) word
    same = λ i.
        (5, funct5_of word) ∷ (1, aq i) ∷ (1, rl i) ∷ (5, rs2_of word) ∷ (5, rs1_of word) ∷ (3, sym t i) ∷ (5, rd_of word) ∷ (7, sym o i) ∷ []

in_range : (word : ℕ) → (a : Atomic) → fields_of a ≡ fields_at word → IsInRange a
in_range word a e = (
  subst (λ f. f.rd < 32) (sym e) (field_below 7 5 word),
  subst (λ f. f.rs1 < 32) (sym e) (field_below 15 5 word),
  subst (λ f. f.rs2 < 32) (sym e) (field_below 20 5 word),
)

spells : (o : Option Atomic) (word : ℕ) → opcode_of word ≡ 0b0101111 → funct3_of word ≡ 0b010 → word < 2 ^ 32
    → Finds o (fields_at word) → IfSome o (λ a. Spells a word)
spells None word p t fits h = tt
spells (Some a) word p t fits h = (in_range word a h.same, ap (λ f. word_of (drawing f)) h.same ∙ drawn word p t fits)

reading-found : (word : ℕ) → word < 2 ^ 32 → IfSome (reading word) (λ a. Spells a word)
unfolding reading
reading-found word fits = go (opcode_of word == 0b0101111 && funct3_of word == 0b010) refl
  where
    go : (b : Bool) → (opcode_of word == 0b0101111 && funct3_of word == 0b010) ≡ b
        → IfSome (if b then variant (fields_at word) else None) (λ a. Spells a word)
    go false e = tt
    go true e =
        let parts = and_parts (opcode_of word == 0b0101111) (funct3_of word == 0b010) e in
        spells (variant (fields_at word)) word (eqb-true _ _ parts.0) (eqb-true _ _ parts.1) fits (variant-found (fields_at word))

pub found_or_none : (r : Option Atomic) (word : ℕ) → word < 2 ^ 32 → r ≡ reading word
    → MatchOption r ((a : Atomic) → ¬ Spells a word) (λ a. Spells a word)
found_or_none None word fits is = λ a h. none-some a (is ∙ reading-spelled a word h)
found_or_none (Some a) word fits is = subst (λ r. IfSome r (λ b. Spells b word)) (sym is) (reading-found word fits)
