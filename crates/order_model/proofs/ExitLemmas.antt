-- What processes ended with, by records that follow each other.
use Rattle.std.proofs.Common.{◌≡◌, ℕ, Bool, true, false, List, [], ◌++◌, Option, Some, None, refl, sym, ap, ◌∙◌}
use Rattle.std.specs.Prelude.{◌==◌}
use Rattle.std.specs.List.{find}
use Rattle.std.specs.Option.{option_map, option_or}
use Rattle.std.proofs.lemmas.List.Concat.{flat_map-append}
use Rattle.std.proofs.lemmas.List.Folds.{find-append}
use Rattle.xk_base.specs.declared.records.Rec.{Rec}
use Rattle.order_model.specs.declared.exits.Ended.{Ended}
use Rattle.order_model.specs.declared.exits.Exit.{Exit}
use Rattle.order_model.specs.Exits.{end_of_what, exit_in, exits_on, kept_ends}

map_or : {A B : Type 0} (f : A → B) (o p : Option A) → option_map f (option_or o p) ≡ option_or (option_map f o) (option_map f p)
map_or f None p = refl
map_or f (Some x) p = refl

or_none : {A : Type 0} (o : Option A) → option_or o None ≡ o
or_none None = refl
or_none (Some x) = refl

or_both : {A : Type 0} (o p q : Option A) → option_or (option_or o p) q ≡ option_or o (option_or p q)
or_both None p q = refl
or_both (Some x) p q = refl

-- what was told first counts
pub exit_in-append : (first later : List Ended) (pid : ℕ) → exit_in (first ++ later) pid ≡ option_or (exit_in first pid) (exit_in later pid)
exit_in-append first later pid =
    ap (option_map (λ (end : Ended). end.exit)) (find-append (λ (end : Ended). end.pid.0 == pid) first later)
    ∙ map_or (λ (end : Ended). end.exit) (find (λ end. end.pid.0 == pid) first) (find (λ end. end.pid.0 == pid) later)

pub exits_on-none : (exits : ℕ → Option Exit) → exits_on exits [] ≡ exits
exits_on-none exits = λ i pid. or_none (exits pid) i

pub exits_on-append : (exits : ℕ → Option Exit) (first later : List Ended)
    → exits_on (exits_on exits first) later ≡ exits_on exits (first ++ later)
exits_on-append exits first later = λ i pid. (or_both (exits pid) (exit_in first pid) (exit_in later pid)
    ∙ ap (option_or (exits pid)) (sym (exit_in-append first later pid))) i

pub exits_on-told : (told more : List Ended) → exits_on (exit_in told) more ≡ exit_in (told ++ more)
exits_on-told told more = λ i pid. sym (exit_in-append told more pid) i

pub kept_ends-append : (keeps : Bool) (first later : List Rec) → kept_ends keeps (first ++ later) ≡ kept_ends keeps first ++ kept_ends keeps later
kept_ends-append true first later = flat_map-append (λ (told : Rec). end_of_what told.what) first later
kept_ends-append false first later = refl

pub kept_ends-none : (keeps : Bool) → kept_ends keeps [] ≡ []
kept_ends-none true = refl
kept_ends-none false = refl
