-- The events of an order, move by move, and the files of endings.
use Rattle.std.proofs.Common.{◌≡◌, ◌<◌, ◌+◌, ◌∙◌, ℕ, zero, suc, List, [], ◌∷◌, ◌++◌, get_or, length, take, take-suc, Option, None, Some, sym, ap, subst, arith}
use Rattle.std.specs.Prelude.{slice_get, IfSome}
use Rattle.event_text.specs.Spelling.{AreAskable, IsAskable}
use Rattle.xousorders.specs.Reports.{Report, files_in}
use Rattle.std.specs.Option.{option_map_or}
use Rattle.std.proofs.lemmas.List.{append-nil}
use Rattle.std.proofs.lemmas.Grind.{flat_map-append}
use Rattle.order_model.specs.declared.moves.Move.{Move}
use Rattle.order_model.specs.declared.moves.Move.TheVariants.{Once}
use Rattle.order_model.specs.Moves.{Asked, events_of, events_of_move}
use Rattle.xk_base.specs.declared.events.Event.{Event}
use Rattle.xk_ports.proofs.ToldLemmas.{Grows-append, Grows-none}
use Rattle.xk_ports.specs.Told.{Grows}
use Rattle.order_text.specs.declared.endings.Ending.{Ending}
use Rattle.xousorders.specs.Files.{EventFile, event_file_of, files_below}

-- an event of no number plays nothing
pub none_moved : (asked : Asked) (once : List Event) (k : ℕ) (next : Move) (events : List Event) → asked.once ≡ once → next ≡ Once k
    → slice_get once k ≡ None → events ≡ events ++ events_of_move asked next
none_moved asked once k next events same is none =
    let at : slice_get asked.once k ≡ None = ap (λ (es : List Event). slice_get es k) same ∙ none in
    let nothing : events_of_move asked next ≡ [] =
    ap (events_of_move asked) is ∙ ap (λ (o : Option Event). option_map_or (λ event. event ∷ []) o []) at in
    sym (ap (λ (es : List Event). events ++ es) nothing ∙ append-nil events)

-- the events of one move more
pub moved : (asked : Asked) (order : List Move) (k : ℕ) (d : Move) (events more : List Event) → k < length order
    → events ≡ events_of asked (take k order) → more ≡ events ++ events_of_move asked (get_or order k d)
    → more ≡ events_of asked (take (k + 1) order)
moved asked order k d events more low so_far added =
    let next : k + 1 ≡ suc k = omega arith in
    let further : take (k + 1) order ≡ take k order ++ get_or order k d ∷ [] = ap (λ (n : ℕ). take n order) next ∙ take-suc order k d low in
    let one : events_of asked (get_or order k d ∷ []) ≡ events_of_move asked (get_or order k d) = append-nil (events_of_move asked (get_or order k d)) in
    added
    ∙ ((λ i. so_far i ++ sym one i)
    ∙ (sym (flat_map-append (events_of_move asked) (take k order) (get_or order k d ∷ [])) ∙ ap (events_of asked) (sym further)))

-- ---- events that lines can ask for

pub askable_append : (a b : List Event) → AreAskable a → AreAskable b → AreAskable (a ++ b)
unfolding AreAskable
askable_append [] b one other = other
askable_append (event ∷ a) b one other = (one.0, askable_append a b one.1 other)

pub askable_one : (event : Event) → IsAskable event → AreAskable (event ∷ [])
unfolding AreAskable
askable_one event one = (one, tt)

pub askable_none : AreAskable []
unfolding AreAskable
askable_none = tt

askable_at : (once : List Event) (k : ℕ) → AreAskable once → IfSome (slice_get once k) IsAskable
unfolding AreAskable
askable_at [] k all = tt
askable_at (event ∷ once) zero all = all.0
askable_at (event ∷ once) (suc k) all = askable_at once k all.1

one_asked : (old new : List Event) (event : Event) → new ≡ old ++ event ∷ [] → AreAskable old → IsAskable event → AreAskable new
one_asked old new event is all one = subst AreAskable (sym is) (askable_append old (event ∷ []) all (askable_one event one))

-- two events more
pub two_asked : (old mid new : List Event) (first second : Event) → mid ≡ old ++ first ∷ [] → new ≡ mid ++ second ∷ [] → AreAskable old
    → IsAskable first → IsAskable second → AreAskable new
two_asked old mid new first second is then all one other = one_asked mid new second then (one_asked old mid first is all one) other

-- one of these events more
pub asked_further : (once : List Event) (k : ℕ) (event : Event) (old new : List Event) → AreAskable once → slice_get once k ≡ Some event
    → new ≡ old ++ event ∷ [] → AreAskable old → AreAskable new
asked_further once k event old new all there is before =
    one_asked old new event is before (subst (λ (o : Option Event). IfSome o IsAskable) there (askable_at once k all))

-- ---- files

pub no_files : (folder : List ℕ) (asked : Asked) (before : List ℕ) (endings : List Ending) (written : Option (List EventFile))
    → Grows written written (files_below folder asked before endings 0)
unfolding files_below
no_files folder asked before endings written = Grows-none written

-- the file of an ending more
pub file_more : (folder : List ℕ) (asked : Asked) (before : List ℕ) (endings : List Ending) (n : ℕ) (ending : Ending) (number : ℕ)
    (old mid new : Option (List EventFile)) → slice_get endings n ≡ Some ending → number ≡ n + 1
    → Grows old mid (files_below folder asked before endings n)
    → Grows mid new (event_file_of folder asked before number ending.order.items ∷ [])
    → Grows old new (files_below folder asked before endings (n + 1))
unfolding files_below
file_more folder asked before endings n ending number old mid new there is first next =
    let on : suc n ≡ n + 1 = omega arith in
    let file : EventFile = event_file_of folder asked before number ending.order.items in
    let one : file ∷ [] ≡ option_map_or (λ (e : Ending). event_file_of folder asked before (n + 1) e.order.items ∷ []) (slice_get endings n) [] =
    (λ i. event_file_of folder asked before (is i) ending.order.items ∷ [])
    ∙ ap (λ (o : Option Ending). option_map_or (λ (e : Ending). event_file_of folder asked before (n + 1) e.order.items ∷ []) o []) (sym there) in
    subst (λ (k : ℕ). Grows old new (files_below folder asked before endings k)) on
    (Grows-append old mid new (files_below folder asked before endings n) _ first (subst (Grows mid new) one next))

-- .. or none, where there is no folder for them
pub no_files_in : (folder : Option (List ℕ)) (report : Report) (written : Option (List EventFile)) → folder ≡ None
    → Grows written written (files_in folder report)
no_files_in None report written e = Grows-none written
no_files_in (Some name) report written e = absurd (let no : Some name ≡ None = e in cc)
