-- What stands on a sink behind one text and then another.
use Rattle.std.proofs.Common.{◌≡◌, ◌≤◌, ◌+◌, ◌∙◌, ℕ, List, [], ◌∷◌, ◌++◌, length, Option, sym, ap, subst, append_assoc, arith}
use Rattle.std.proofs.lemmas.Option.{none-some}
use Rattle.program_status.specs.Notes.{SinkSide}
use Rattle.program_status.specs.declared.status.Status.{Status}
use Rattle.order_search.specs.declared.subject.Subject.{Subject}
use Rattle.order_search.specs.Quests.{searching_of}
use Rattle.xk_base.specs.Outside.{Rose}
use Rattle.xk_ports.proofs.ToldLemmas.{Grows-append, Grows-none}
use Rattle.xk_ports.specs.Told.{Grows, GrowsByProperPrefix}
use Rattle.xousorders.specs.Endings.{AreReal}
use Rattle.xousorders.specs.Halts.{BreaksOff, HasGot, IsBreak, IsHalt, IsUntold, Writes}
use Rattle.order_text.specs.Lines.{found_line, found_lines}
use Rattle.xousorders.specs.Searched.{IsStopped}
use Rattle.order_text.specs.declared.endings.Ending.{Ending}
use Rattle.xousorders.specs.declared.halt.Halt.{Halt}
use Rattle.xousorders.specs.declared.halt.Halt.TheVariants.{Stopped, Timer, Unwritten}
use Rattle.xousorders.specs.declared.view.View.{View}
use Rattle.order_text.proofs.LineLemmas.{found_more, found_none}

-- ---- counts of faults

pub rose_before : (old mid new : ℕ) → old ≤ mid → Rose mid new → Rose old new
rose_before old mid new later rose = omega arith

pub rose_behind : (old mid new : ℕ) → Rose old mid → mid ≤ new → Rose old new
rose_behind old mid new rose later = omega arith

-- ---- one text behind another

abbrev pub side : Option (List ℕ) → Option (List ℕ) → ℕ → ℕ → SinkSide
side old new faults faults_after = record { written = old; written_after = new; faults = faults; faults_after = faults_after }

pub part_behind : (old mid new : Option (List ℕ)) (xs ys : List ℕ) → Grows old mid xs → GrowsByProperPrefix mid new ys
    → GrowsByProperPrefix old new (xs ++ ys)
part_behind old mid new xs ys first part = (
  xs ++ part.0,
  part.1,
  part.2,
  ap (λ (zs : List ℕ). xs ++ zs) part.3 ∙ sym (append_assoc xs part.0 part.1),
  Grows-append old mid new xs part.0 first part.4,
)

module _ (old mid new : Option (List ℕ)) (f g h : ℕ) where
  pub writes_behind : (xs ys : List ℕ) → Grows old mid xs → (halt : Halt) → Writes (side mid new g h) ys halt → Writes (side old new f h) (xs ++ ys) halt
  writes_behind xs ys first Unwritten part = part_behind old mid new xs ys first part
  writes_behind xs ys first Timer all = Grows-append old mid new xs ys first all
  writes_behind xs ys first (Stopped status) all = Grows-append old mid new xs ys first all

-- ---- why a search ends untold

-- a fault of the search isn't one of the sink
pub halt_so : (s : Subject) (rose : Type 0) (halt : Halt) → IsHalt s ⊥ halt → IsHalt s rose halt
halt_so s rose Timer why = why
halt_so s rose (Stopped status) why = why
halt_so s rose Unwritten why = absurd why

-- .. and one of the sink is one since before
pub break_since : (s : Subject) (f g h : ℕ) → f ≤ g → (halt : Halt) → IsBreak s (Rose g h) halt → IsBreak s (Rose f h) halt
break_since s f g h later Timer why = absurd why
break_since s f g h later (Stopped status) why = why
break_since s f g h later Unwritten why = rose_before f g h later why

pub halt_since : (s : Subject) (f g h : ℕ) → f ≤ g → (halt : Halt) → IsHalt s (Rose g h) halt → IsHalt s (Rose f h) halt
halt_since s f g h later Timer why = why
halt_since s f g h later (Stopped status) why = why
halt_since s f g h later Unwritten why = rose_before f g h later why

-- a search that was stopped wrote what it found before
pub stopped_breaks : (s : Subject) (view : View) (list : List Ending) (sink : SinkSide) (status : Status) → AreReal (searching_of s) view list
    → HasGot view sink list → IsStopped s status → BreaksOff s view sink (Stopped status)
stopped_breaks s view list sink status real got why = record { endings = list; real = real; written = got.written; why = why }

pub halt_breaks : (s : Subject) (view : View) (list : List Ending) (sink : SinkSide) → AreReal (searching_of s) view list
    → HasGot view sink list → (halt : Halt) → IsHalt s ⊥ halt → BreaksOff s view sink halt
halt_breaks s view list sink real got Timer why = record { endings = list; real = real; written = got.written; why = why }
halt_breaks s view list sink real got (Stopped status) why = record { endings = list; real = real; written = got.written; why = why }
halt_breaks s view list sink real got Unwritten why = absurd why

-- ---- nothing found yet

pub none_real : (s : Subject) (view : View) → AreReal (searching_of s) view []
none_real s view = record {
  orders = λ k d low. absurd (omega (arith, low));
  different = λ j k shown at. absurd (none-some at.ending at.there);
}

pub none_got : (view : View) (a : Option (List ℕ)) (f : ℕ) (list : List Ending) → list ≡ [] → HasGot view (side a a f f) list
none_got view a f list none = record {
  written = subst (Grows a a) (sym (ap (found_lines view.fails.items 0) none ∙ found_none view.fails.items 0)) (Grows-none a);
  later = omega arith;
}

-- ---- the line of one ending more

module _ (view : View) (old new : List Ending) (ending : Ending) (number : ℕ) (is : new ≡ old ++ ending ∷ []) (counted : number ≡ length old + 1)
  where
    lines_are : found_lines view.fails.items 0 old ++ found_line view.fails.items number ending ≡ found_lines view.fails.items 0 new
    lines_are =
        let n : number ≡ 0 + length old + 1 = omega (arith, counted) in
        ap (λ (k : ℕ). found_lines view.fails.items 0 old ++ found_line view.fails.items k ending) n
        ∙ (sym (found_more view.fails.items 0 old ending) ∙ ap (found_lines view.fails.items 0) (sym is))

    module _ (a b c : Option (List ℕ)) (f g h : ℕ) (later : g ≤ h) (got : HasGot view (side a b f g) old) where
      pub line_got : Grows b c (found_line view.fails.items number ending) → HasGot view (side a c f h) new
      line_got grows = record {
        written = subst (Grows a c) lines_are
            (Grows-append a b c (found_lines view.fails.items 0 old) (found_line view.fails.items number ending) got.written grows);
        later = (let before = got.later in omega (arith, before, later));
      }

      pub line_breaks : (s : Subject) → AreReal (searching_of s) view old → AreReal (searching_of s) view new → (halt : Halt)
          → IsUntold (side b c g h) (found_line view.fails.items number ending) halt → BreaksOff s view (side a c f h) halt
      line_breaks s real more Timer why = absurd why
      line_breaks s real more (Stopped status) why = record {
        endings = old;
        real = real;
        written = subst (λ (w : Option (List ℕ)). Grows a w (found_lines view.fails.items 0 old)) (sym why.1) got.written;
        why = subst (IsStopped s) (sym why.0) tt;
      }
      line_breaks s real more Unwritten why = record {
        endings = new;
        real = more;
        written = subst (GrowsByProperPrefix a c) lines_are
            (part_behind a b c (found_lines view.fails.items 0 old) (found_line view.fails.items number ending) got.written why.0);
        why = rose_before f g h got.later why.1;
      }
