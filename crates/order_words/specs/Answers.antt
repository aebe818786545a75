-- How a part of the command line is read.
use Rattle.std.specs.Prelude.{Err, Ok, Result}
use Rattle.order_words.specs.declared.arguments.Unread.{Unread}
use Rattle.order_words.specs.declared.arguments.Unread.TheVariants.{NoMemory, Usage}

-- nothing is so
abbrev pub IsNoCase : {A : Type 0} → (A → Type 0) → Type 0
IsNoCase {A} P = (x : A) → P x → ⊥

-- What was read is so; it is faulty only if nothing could be so; or there was no memory.
abbrev pub Answers : {A B : Type 0} → (A → Type 0) → (B → Type 0) → Result A Unread → Type 0
Answers P Q (Ok x) = P x
Answers P Q (Err Usage) = IsNoCase Q
Answers P Q (Err NoMemory) = Unit {0}
