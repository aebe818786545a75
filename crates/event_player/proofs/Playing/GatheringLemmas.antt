-- Telling, one piece after another, while what is told is gathered.
use Rattle.std.proofs.Common.{◌≡◌, ℕ, true, List, [], ◌∷◌, ◌++◌, Option, refl, sym, ap, subst, ◌∙◌, append_assoc, append-nil}
use Rattle.xk_base.specs.declared.records.Rec.{Rec}
use Rattle.xk_ports.specs.Told.{GrowsByProperPrefix}
use Rattle.xk_ports.proofs.ToldLemmas.{Grows-append, Grows-none}
use Rattle.host_io.proofs.ToldLemmas.{left_longer}
use Rattle.event_player.specs.declared.telling.Telling.{Telling}
use Rattle.event_player.specs.declared.telling.Telling.TheVariants.{Ledger, Nothing, Run, Trace}
use Rattle.event_player.specs.declared.ending.Ending.{Ending}
use Rattle.event_player.specs.Gathering.{Gathered, Gathers, GathersPart, Puts, StaysSilent, Text, put, text}
use Rattle.event_player.specs.History.{History}
use Rattle.event_player.specs.Telling.{is_silent, told}
use Rattle.event_player.specs.Writing.{Wrote}

-- ---- what is put

first_none : (xs ys : List ℕ) → xs ++ ys ≡ [] → xs ≡ []
first_none [] ys none = refl
first_none (x ∷ xs) ys none = cc

pub second_none : (xs ys : List ℕ) → xs ++ ys ≡ [] → ys ≡ []
second_none [] ys none = none
second_none (x ∷ xs) ys none = cc

pub puts_append : (before mid after : Option (List ℕ)) (xs ys : List ℕ) → Puts before mid xs → Puts mid after ys → Puts before after (xs ++ ys)
puts_append before mid after xs ys first second = record {
  grown = Grows-append before mid after xs ys first.grown second.grown;
  still = λ none. second.still (second_none xs ys none) ∙ first.still (first_none xs ys none);
}

-- ---- what is told

-- nothing is told
pub gathers_none : (on : Text) → Gathers on on []
gathers_none on = record { front = []; cut = append-nil on.held; puts = record { grown = Grows-none on.out; still = λ none. refl } }

-- one after the other: the first is held, then the second
held_on : (held one other xs ys p q : List ℕ) → held ++ xs ≡ p ++ one → one ++ ys ≡ q ++ other → held ++ (xs ++ ys) ≡ (p ++ q) ++ other
held_on held one other xs ys p q first second =
    sym (append_assoc held xs ys)
    ∙ (ap (λ (l : List ℕ). l ++ ys) first
    ∙ (append_assoc p one ys
    ∙ (ap (λ (l : List ℕ). p ++ l) second
    ∙ sym (append_assoc p q other))))

pub gathers_append : (before mid after : Text) (xs ys : List ℕ) → Gathers before mid xs → Gathers mid after ys → Gathers before after (xs ++ ys)
gathers_append before mid after xs ys first second = record {
  front = first.front ++ second.front;
  cut = held_on before.held mid.held after.held xs ys first.front second.front first.cut second.cut;
  puts = puts_append before.out mid.out after.out first.front second.front first.puts second.puts;
}

-- a whole text, and then a front of what comes behind it
pub part_later : (before mid after : Text) (xs ys : List ℕ) → Gathers before mid xs → GathersPart mid after ys → GathersPart before after (xs ++ ys)
part_later before mid after xs ys first second = (
  first.front ++ second.0,
  second.1,
  second.2,
  held_on before.held mid.held second.1 xs ys first.front second.0 first.cut second.3,
  Grows-append before.out mid.out after.out first.front second.0 first.puts.grown second.4,
)

-- a front of some text is a front of it with more behind it
pub part_longer : (before after : Text) (xs ys : List ℕ) → GathersPart before after xs → GathersPart before after (xs ++ ys)
part_longer before after xs ys part = (
  part.0,
  part.1 ++ ys,
  left_longer part.1 ys part.2,
  sym (append_assoc before.held xs ys) ∙ (ap (λ (l : List ℕ). l ++ ys) part.3 ∙ append_assoc part.0 part.1 ys),
  part.4,
)

-- a front of what comes after
pub part_after : (before mid after : Text) (xs ys zs : List ℕ) → Gathers before mid xs → GathersPart mid after ys → GathersPart before after (xs ++ (ys ++ zs))
part_after before mid after xs ys zs first second = part_later before mid after xs (ys ++ zs) first (part_longer mid after ys zs second)

-- ---- what is held is put

-- all of it
pub gathers_put : (before : Text) (out after : Option (List ℕ)) (held xs : List ℕ) → Gathers before (text out held) xs → Puts out after held
    → Gathers before (put after) xs
gathers_put before out after held xs first puts = record {
  front = first.front ++ held;
  cut = first.cut ∙ sym (append-nil (first.front ++ held));
  puts = puts_append before.out out after first.front held first.puts puts;
}

-- .. or a front of it
pub gathers_unput : (before : Text) (out after : Option (List ℕ)) (held xs : List ℕ) → Gathers before (text out held) xs → GrowsByProperPrefix out after held → GathersPart before (put after) xs
gathers_unput before out after held xs first front = (
  first.front ++ front.0,
  front.1,
  front.2,
  first.cut ∙ (ap (λ (l : List ℕ). first.front ++ l) front.3 ∙ sym (append_assoc first.front front.0 front.1)),
  Grows-append before.out out after first.front front.0 first.puts.grown front.4,
)

-- where all was put before and after, what was told was written
pub put_whole : (before after : Option (List ℕ)) (all : List ℕ) → Gathers (put before) (put after) all → Puts before after all
put_whole before after all gathered =
    let P : List ℕ → Type 0 = λ text. Puts before after text in subst P (sym (gathered.cut ∙ append-nil gathered.front)) gathered.puts

pub all_put : (tells : Telling) (before after : Option (List ℕ)) (h : History) (ending : Ending) → Gathered tells (put before) (put after) h ending
    → Wrote tells before after h ending
all_put tells before after h ending gathered =
    let puts : Puts before after (told tells h.records) = put_whole before after (told tells h.records) gathered.1 in
    record { ended = gathered.0; written = puts.grown; still = puts.still }

-- ---- where nothing is told as records come

nothing_told : (records : List Rec) → told Nothing records ≡ []
nothing_told [] = refl
nothing_told (rec ∷ records) = nothing_told records

table_untold : (records : List Rec) → told Ledger records ≡ []
table_untold [] = refl
table_untold (rec ∷ records) = table_untold records

pub silent_told : (tells : Telling) (records : List Rec) → is_silent tells ≡ true → told tells records ≡ []
silent_told Trace records silent = cc
silent_told Run records silent = cc
silent_told Ledger records silent = table_untold records
silent_told Nothing records silent = nothing_told records

same_text : (before after : Text) → after.out ≡ before.out → after.held ≡ before.held → after ≡ before
same_text before after out held =
    ap (λ (o : Option (List ℕ)). text o after.held) out ∙ ap (λ (h : List ℕ). text before.out h) held

-- nothing was told, and nothing held: the sink wasn't touched
untouched : (before after : Text) → Gathers before after [] → before.held ≡ [] → after ≡ before
untouched before after gathered none =
    let all : gathered.front ++ after.held ≡ [] = sym gathered.cut ∙ (append-nil before.held ∙ none) in
    same_text before after (gathered.puts.still (first_none gathered.front after.held all)) (second_none gathered.front after.held all ∙ sym none)

pub gathers_silent : (tells : Telling) (before after : Text) (records : List Rec) → Gathers before after (told tells records) → StaysSilent tells before after
gathers_silent tells before after records gathered = λ silent none.
    let G : List ℕ → Type 0 = λ text. Gathers before after text in
    untouched before after (subst G (silent_told tells records silent) gathered) none

pub silent_same : (tells : Telling) (before after : Text) → after ≡ before → StaysSilent tells before after
silent_same tells before after same = λ silent none. same

-- one after the other
pub silent_after : (tells : Telling) (before mid after : Text) → StaysSilent tells before mid → StaysSilent tells mid after → StaysSilent tells before after
silent_after tells before mid after first second = λ silent none.
    let still = first silent none in
    second silent (ap (λ (t : Text). t.held) still ∙ none) ∙ still

-- what is held is put
pub silent_put : (tells : Telling) (before : Text) (out after : Option (List ℕ)) (held : List ℕ) → StaysSilent tells before (text out held) → Puts out after held
    → StaysSilent tells before (put after)
silent_put tells before out after held first puts = λ silent none.
    let still = first silent none in
    let empty : held ≡ [] = ap (λ (t : Text). t.held) still ∙ none in
    same_text before (put after) (puts.still empty ∙ ap (λ (t : Text). t.out) still) (sym none)
