-- What was left at a slot is what the file has.
use Rattle.std.proofs.Common.{◌≡◌, ℕ, List, Option, Some, None, Result, Ok, Err, IfOk, IsSome, ap, sym, ◌∙◌, refl}
use Rattle.xk_ports.specs.Host.{IsLeftOf}
use Rattle.xk_ports.specs.Told.{Consumes}
use Rattle.host_io.specs.Reading.{IsTold, IsFile, IsReadOf, IsContent, IsContentOf}
use Rattle.host_io.specs.declared.reading.Content.{Content}
use Rattle.host_io.specs.declared.reading.Content.TheVariants.{Whole, TooLong}

pub if_ok_map : {T E : Type 0} (r : Result T E) (P Q : T → Type 0) → ((x : T) → P x → Q x) → IfOk r P → IfOk r Q
if_ok_map (Ok x) P Q f p = f x p
if_ok_map (Err e) P Q f p = tt

some_of_none : (found : Option (List ℕ)) (bytes : List ℕ) → IsSome found → None ≡ found → found ≡ Some bytes
some_of_none None bytes is same = cc
some_of_none (Some x) bytes is same = cc

pub told_file : (file : Option (List ℕ → Option (List ℕ))) (name : List ℕ) (left : Option (List ℕ)) (bytes : List ℕ) → IsLeftOf file name left → IsTold left bytes → IsFile file name bytes
told_file None name left bytes of told = tt
told_file (Some file) name None bytes of told = some_of_none (file name) bytes (of file refl).0 (of file refl).1
told_file (Some file) name (Some left) bytes of told =
    sym (of file refl).1 ∙ ap (λ (xs : List ℕ). Some xs) told

pub content_of : (file : Option (List ℕ → Option (List ℕ))) (name : List ℕ) (left : Option (List ℕ)) (limit : ℕ) (content : Content) → IsLeftOf file name left → IsContent left limit content → IsContentOf file name limit content
content_of file name left limit (Whole bytes) of known = (known.0, told_file file name left bytes.items of known.1)
content_of file name left limit TooLong of known = (known.0, known.1, told_file file name left known.0 of known.2)

-- what was read of what was left is read of the file
pub read_of_file : (file : Option (List ℕ → Option (List ℕ))) (name : List ℕ) (before left : Option (List ℕ)) (bytes : List ℕ) → IsLeftOf file name before → Consumes before left bytes → IsReadOf file name left bytes
read_of_file None name before left bytes of used = tt
read_of_file (Some file) name before left bytes of used = sym (of file refl).1 ∙ used
