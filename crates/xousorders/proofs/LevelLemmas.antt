-- Searches that are told one after another.
use Rattle.std.proofs.Common.{◌≡◌, ◌<◌, ◌≤◌, ◌+◌, ◌⊎◌, ◌∙◌, inl, inr, ℕ, zero, suc, List, [], ◌∷◌, ◌++◌, length, Option, None, Some, refl, sym, ap, subst, arith}
use Rattle.std.specs.Prelude.{IsSome, slice_get}
use Rattle.std.specs.declared.cmp.Ordering.{Ordering}
use Rattle.std.proofs.lemmas.Grind.{flat_map-append}
use Rattle.std.proofs.lemmas.List.{append-nil, length-append}
use Rattle.std.proofs.lemmas.Option.{none-some, same_Some}
use Rattle.graph_search.proofs.ListLemmas.{IsBehind, front_or_behind}
use Rattle.graph_search.specs.declared.found.Extent.TheVariants.{Whole}
use Rattle.order_search.specs.declared.subject.Subject.{Subject}
use Rattle.program_status.specs.Notes.{SinkSide}
use Rattle.program_status.specs.declared.status.Status.TheVariants.{NoMemory}
use Rattle.xk_base.specs.Outside.{Rose}
use Rattle.xk_ports.proofs.ToldLemmas.{Grows-append, Grows-none}
use Rattle.xk_ports.specs.Told.{Grows, GrowsByProperPrefix}
use Rattle.xousorders.proofs.CallLemmas.{break_bounded, break_other}
use Rattle.order_text.proofs.LineLemmas.{found_none}
use Rattle.xousorders.proofs.SinkLemmas.{break_since, none_real, part_behind, rose_before, side, writes_behind}
use Rattle.xousorders.specs.Halts.{BreaksCourse, BreaksOff, EndsIn, Finds, FindsBehind, HaltsIn, TellsAll, TellsLevel}
use Rattle.xousorders.specs.Levels.{AreLevels, IsLast, IsLevel, Level, level_lines, levels_lines, with_preemptions}
use Rattle.order_text.specs.Lines.{counting_line, found_lines}
use Rattle.xousorders.specs.Reports.{IsSearchedBehind, SaysSo, course_lines, report_lines, report_of}
use Rattle.xousorders.specs.Searched.{IsBounded, bounded}
use Rattle.order_text.specs.declared.endings.Ending.{Ending}
use Rattle.xousorders.specs.declared.halt.Halt.{Halt}
use Rattle.xousorders.specs.declared.halt.Halt.TheVariants.{Stopped, Timer, Unwritten}
use Rattle.xousorders.specs.declared.limits.Limits.{Limits}
use Rattle.xousorders.specs.declared.search.Told.{Told}
use Rattle.xousorders.specs.declared.view.View.{View}

-- ---- a search without a bound of steps

module _ (cmp : List ℕ → List ℕ → Ordering) (limits : Limits) (view : View) (s : Subject) (sink : SinkSide) where
  pub finds_plain : (later : Subject) (told : Told) → later ≡ s → Finds cmp limits view s sink told → FindsBehind cmp limits view s later sink told
  finds_plain later told same finds = record {
    earlier = None;
    behind = same;
    so = subst (λ (x : Subject). SaysSo cmp limits view (report_of x told)) (sym same) finds.so;
    written = finds.got.written;
  }

  pub plain_breaks : (halt : Halt) → (halt ≡ Timer → ⊥) → BreaksOff s view sink halt → BreaksCourse limits.steps view s sink halt
  plain_breaks halt other off = record {
    searched = s;
    course = record { earlier = None; endings = off.endings };
    behind = refl;
    real = off.real;
    written = off.written;
    why = break_other s (Rose sink.faults sink.faults_after) halt other off.why;
  }

-- ---- .. and one with it behind that

module _ (limits : Limits) (view : View) (s : Subject) (a b c : Option (List ℕ)) (f g h : ℕ) (off : BreaksOff s view (side a b f g) Timer) where
  bounded_so : IsBounded limits.steps s (bounded limits.steps s)
  bounded_so = record { timer = off.why.1; is = refl }

  -- the sink failed in the line that steps are counted
  pub counting_breaks : f ≤ g → GrowsByProperPrefix b c counting_line → Rose g h → BreaksCourse limits.steps view s (side a c f h) Unwritten
  counting_breaks later part rose = record {
    searched = bounded limits.steps s;
    course = record { earlier = Some off.endings; endings = [] };
    behind = (bounded_so, off.real);
    real = none_real (bounded limits.steps s) view;
    written = subst (GrowsByProperPrefix a c)
        (sym
        (ap (λ (xs : List ℕ). (found_lines view.fails.items 0 off.endings ++ counting_line) ++ xs) (found_none view.fails.items 0)
        ∙ append-nil (found_lines view.fails.items 0 off.endings ++ counting_line)))
        (part_behind a b c (found_lines view.fails.items 0 off.endings) counting_line off.written part);
    why = rose_before f g h later rose;
  }

  module _ (d : Option (List ℕ)) (k : ℕ) (counted : Grows b c counting_line) where
    earlier_written : Grows a c (found_lines view.fails.items 0 off.endings ++ counting_line)
    earlier_written = Grows-append a b c (found_lines view.fails.items 0 off.endings) counting_line off.written counted

    pub counted_finds : (cmp : List ℕ → List ℕ → Ordering) (searched later : Subject) (told : Told) → searched ≡ bounded limits.steps s
        → later ≡ searched → Finds cmp limits view searched (side c d h k) told → FindsBehind cmp limits view s later (side a d f k) told
    counted_finds cmp searched later told is same finds = record {
      earlier = Some off.endings;
      behind = (record { timer = off.why.1; is = same ∙ is }, off.real);
      so = subst (λ (x : Subject). SaysSo cmp limits view (report_of x told)) (sym same) finds.so;
      written = Grows-append a c d (found_lines view.fails.items 0 off.endings ++ counting_line)
          (found_lines view.fails.items 0 told.endings.list.items) earlier_written finds.got.written;
    }

    pub counted_breaks : (searched : Subject) → searched ≡ bounded limits.steps s → f ≤ h → (halt : Halt)
        → BreaksOff searched view (side c d h k) halt → BreaksCourse limits.steps view s (side a d f k) halt
    counted_breaks searched is later halt more = record {
      searched = searched;
      course = record { earlier = Some off.endings; endings = more.endings };
      behind = (record { timer = off.why.1; is = is }, off.real);
      real = more.real;
      written = writes_behind a c d f h k (found_lines view.fails.items 0 off.endings ++ counting_line)
          (found_lines view.fails.items 0 more.endings) earlier_written halt more.written;
      why = break_since searched f h k later halt
          (break_bounded searched (Rose h k) (subst (λ (x : Subject). IsSome x.orders.bound) (sym is) refl) halt more.why);
    }

-- ---- its report

module _ (cmp : List ℕ → List ℕ → Ordering) (limits : Limits) (view : View) (s searched : Subject) (told : Told) (a b c : Option (List ℕ))
    (f g h : ℕ) (finds : FindsBehind cmp limits view s searched (side a b f g) told) where
  pub level_told : Grows b c (report_lines view (report_of searched told)) → TellsLevel cmp limits view s searched (side a c f h) told
  level_told grows = record {
    earlier = finds.earlier;
    behind = finds.behind;
    so = finds.so;
    written = Grows-append a b c (course_lines view (record { earlier = finds.earlier; endings = told.endings.list.items }))
        (report_lines view (report_of searched told)) finds.written grows;
  }

  pub level_without_memory : HaltsIn cmp limits view s (side a b f g) (Stopped NoMemory)
  level_without_memory = inl (record {
    searched = searched;
    course = record { earlier = finds.earlier; endings = told.endings.list.items };
    behind = finds.behind;
    real = finds.so.endings.real;
    written = finds.written;
    why = tt;
  })

  pub level_breaks : f ≤ g → GrowsByProperPrefix b c (report_lines view (report_of searched told)) → Rose g h
      → HaltsIn cmp limits view s (side a c f h) Unwritten
  level_breaks later part rose = inr (
    refl,
    record {
      level = record { earlier = finds.earlier; report = report_of searched told };
      behind = finds.behind;
      so = finds.so;
      written = part_behind a b c (course_lines view (record { earlier = finds.earlier; endings = told.endings.list.items }))
          (report_lines view (report_of searched told)) finds.written part;
      rose = rose_before f g h later rose;
    },
  )

-- ---- one level behind another

-- what is so of each level, and of one more, is so of all
each_more : (P : ℕ → Level → Type 0) (levels : List Level) (last : Level) → ((k : ℕ) (x : Level) → slice_get levels k ≡ Some x → P k x)
    → P (length levels) last → (k : ℕ) (x : Level) → slice_get (levels ++ last ∷ []) k ≡ Some x → P k x
each_more P levels last before there k x is = go (front_or_behind levels (last ∷ []) k x is)
  where
    only : (place : ℕ) → k ≡ length levels + place → slice_get (last ∷ []) place ≡ Some x → P k x
    only zero sum same =
        let at : length levels ≡ k = omega (arith, sum) in
        subst (λ (n : ℕ). P n x) at (subst (P (length levels)) (same_Some last x same) there)
    only (suc j) sum same = absurd (none-some x same)

    go : (slice_get levels k ≡ Some x) ⊎ IsBehind levels (last ∷ []) k x → P k x
    go (inl front) = before k x front
    go (inr behind) = only behind.place behind.sum behind.is

-- whole levels were told, and the next is that of so many preemptions
pub record HasTold (cmp : List ℕ → List ℕ → Ordering) (limits : Limits) (view : View) (s now : Subject) (preemptions : ℕ) (sink : SinkSide)
    : Type 0 where
  pub levels : List Level
  pub are : AreLevels cmp limits view s levels
  pub count : length levels ≡ preemptions
  pub written : Grows sink.written sink.written_after (levels_lines view levels)
  pub later : sink.faults ≤ sink.faults_after
  pub same : (k : ℕ) → with_preemptions k now ≡ with_preemptions k s

module _ (cmp : List ℕ → List ℕ → Ordering) (limits : Limits) (view : View) (s : Subject) where
  pub none_told : (a : Option (List ℕ)) (f : ℕ) → HasTold cmp limits view s s 0 (side a a f f)
  none_told a f = record {
    levels = [];
    are = record {
      each = λ k level there. absurd (none-some level there);
      whole = λ k level there. absurd (none-some level there);
      few = omega arith;
    };
    count = refl;
    written = Grows-none a;
    later = omega arith;
    same = λ k. refl;
  }

  -- the number of preemptions is all that the levels differ in
  asked_still : (preemptions k : ℕ) (searched : Subject) (earlier : Option (List Ending))
      → IsSearchedBehind limits.steps view (with_preemptions preemptions s) searched earlier
      → with_preemptions k searched ≡ with_preemptions k s
  asked_still preemptions k searched None same = ap (with_preemptions k) same
  asked_still preemptions k searched (Some list) behind = ap (with_preemptions k) behind.0.is

  module _ (now asked : Subject) (preemptions : ℕ) (a b c : Option (List ℕ)) (f g h : ℕ)
      (has : HasTold cmp limits view s now preemptions (side a b f g)) (is : asked ≡ with_preemptions preemptions now) where
    is_level : asked ≡ with_preemptions (length has.levels) s
    is_level = is ∙ (has.same preemptions ∙ ap (λ (k : ℕ). with_preemptions k s) (sym has.count))

    behind_level : (searched : Subject) (earlier : Option (List Ending)) → IsSearchedBehind limits.steps view asked searched earlier
        → IsSearchedBehind limits.steps view (with_preemptions (length has.levels) s) searched earlier
    behind_level searched earlier behind = subst (λ (x : Subject). IsSearchedBehind limits.steps view x searched earlier) is_level behind

    pub levels_end : (halt : Halt) → HaltsIn cmp limits view asked (side b c g h) halt → EndsIn cmp limits view s (side a c f h) halt
    levels_end halt (inl course) = inl (record {
      searched = course.searched;
      so_far = record { levels = has.levels; course = course.course };
      right = record {
        levels = has.are;
        course = record { behind = behind_level course.searched course.course.earlier course.behind; real = course.real };
      };
      written = writes_behind a b c f g h (levels_lines view has.levels) (course_lines view course.course) has.written halt course.written;
      why = break_since course.searched f g h has.later halt course.why;
    })
    levels_end halt (inr report) = inr (
      report.0,
      record {
        account = record { levels = has.levels; last = report.1.level };
        right = record {
          levels = has.are;
          last = record {
            behind = behind_level report.1.level.report.finding.searched report.1.level.earlier report.1.behind;
            so = report.1.so;
          };
        };
        written = part_behind a b c (levels_lines view has.levels) (level_lines view report.1.level) has.written report.1.written;
        rose = rose_before f g h has.later report.1.rose;
      },
    )

    module _ (searched : Subject) (told : Told) (tells : TellsLevel cmp limits view asked searched (side b c g h) told) where
      last_so : IsLevel cmp limits view s (length has.levels) (record { earlier = tells.earlier; report = report_of searched told })
      last_so = record { behind = behind_level searched tells.earlier tells.behind; so = tells.so }

      pub levels_told : (limits.preemptions ≤ preemptions) ⊎ (told.found.extent ≡ Whole → ⊥) → TellsAll cmp limits view s searched (side a c f h) told
      levels_told end = record {
        account = record { levels = has.levels; last = record { earlier = tells.earlier; report = report_of searched told } };
        right = record { levels = has.are; last = last_so };
        is_last = last end;
        report_is = refl;
        written = Grows-append a b c (levels_lines view has.levels)
            (level_lines view (record { earlier = tells.earlier; report = report_of searched told })) has.written tells.written;
      }
        where
          last : (limits.preemptions ≤ preemptions) ⊎ (told.found.extent ≡ Whole → ⊥)
              → IsLast limits (record { levels = has.levels; last = record { earlier = tells.earlier; report = report_of searched told } })
          last (inl all) = inl (let few = has.are.few in let count = has.count in omega (arith, few, count, all))
          last (inr cut) = inr cut

      pub level_more : told.found.extent ≡ Whole → preemptions < limits.preemptions → g ≤ h
          → HasTold cmp limits view s searched (preemptions + 1) (side a c f h)
      level_more whole low later = record {
        levels = has.levels ++ (record { earlier = tells.earlier; report = report_of searched told }) ∷ [];
        are = record {
          each = each_more (IsLevel cmp limits view s) has.levels (record { earlier = tells.earlier; report = report_of searched told })
              has.are.each last_so;
          whole = each_more (λ k level. level.report.finding.extent ≡ Whole) has.levels
              (record { earlier = tells.earlier; report = report_of searched told }) has.are.whole whole;
          few = (let count = has.count in omega (arith, size, count, low));
        };
        count = (let count = has.count in omega (arith, size, count));
        written = subst (Grows a c) (sym lines)
            (Grows-append a b c (levels_lines view has.levels)
            (level_lines view (record { earlier = tells.earlier; report = report_of searched told })) has.written tells.written);
        later = (let before = has.later in omega (arith, before, later));
        same = λ k. asked_still (length has.levels) k searched tells.earlier (behind_level searched tells.earlier tells.behind);
      }
        where
          size : length (has.levels ++ (record { earlier = tells.earlier; report = report_of searched told }) ∷ []) ≡ length has.levels + 1
          size = length-append has.levels ((record { earlier = tells.earlier; report = report_of searched told }) ∷ [])

          lines : levels_lines view (has.levels ++ (record { earlier = tells.earlier; report = report_of searched told }) ∷ [])
              ≡ levels_lines view has.levels ++ level_lines view (record { earlier = tells.earlier; report = report_of searched told })
          lines =
              flat_map-append (level_lines view) has.levels ((record { earlier = tells.earlier; report = report_of searched told }) ∷ [])
              ∙ ap (λ (xs : List ℕ). levels_lines view has.levels ++ xs)
              (append-nil (level_lines view (record { earlier = tells.earlier; report = report_of searched told })))
