-- What is told of records in order, one after another.
use Rattle.std.proofs.Common.{◌≡◌, ◌<◌, ◌+◌, ℕ, suc, List, [], ◌∷◌, ◌++◌, length, take, drop, get_or, sym, ap, ◌∙◌, append-nil, drop-cons}
use Rattle.std.proofs.lemmas.List.{take-append-drop, take_more}
use Rattle.std.proofs.lemmas.Grind.{flat_map-append}
use Rattle.xk_base.specs.declared.records.Rec.{Rec}
use Rattle.event_player.specs.declared.telling.Telling.{Telling}
use Rattle.event_player.specs.Telling.{told, told_of}

-- what is told before a record, of it, and after it
pub told_at : (tells : Telling) (records : List Rec) (i : ℕ) (d : Rec) → i < length records
    → told tells records ≡ told tells (take i records) ++ (told_of tells (get_or records i d) ++ told tells (drop (suc i) records))
told_at tells records i d inside =
    ap (told tells) (sym (take-append-drop i records))
    ∙ (flat_map-append (told_of tells) (take i records) (drop i records)
    ∙ ap (λ (rs : List Rec). told tells (take i records) ++ told tells rs) (drop-cons records i d inside))

-- what is told before a record and of it
pub told_next : (tells : Telling) (records : List Rec) (i : ℕ) (d : Rec) → i < length records
    → told tells (take (i + 1) records) ≡ told tells (take i records) ++ told_of tells (get_or records i d)
told_next tells records i d inside =
    ap (told tells) (take_more records i d inside)
    ∙ (flat_map-append (told_of tells) (take i records) (get_or records i d ∷ [])
    ∙ ap (λ (text : List ℕ). told tells (take i records) ++ text) (append-nil (told_of tells (get_or records i d))))
