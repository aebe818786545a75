-- What a table holds once a lent thread is given back.
use Rattle.std.specs.Prelude.{◌≡◌, Bool, true, false, Option, Some}
use Rattle.std.proofs.Common.{refl, ◌∙◌}
use Rattle.std.specs.Borrow.{Lends, LendsIf, MutBor, Fml}
use Rattle.std.specs.Vec.{with_item}
use Rattle.std.specs.declared.alloc.Global.{Global}
use Rattle.std.specs.declared.vec.Vec.{Vec}
use Rattle.xk_base.specs.Tables.Circle.{place_of}
use Rattle.xk_base.specs.declared.ids.ThreadId.{ThreadId}
use Rattle.thread_table.specs.contracts.table.Threads.{the_row}
use Rattle.thread_table.specs.contracts.thread.Thread.{the_row as thread_row}
use Rattle.thread_table.specs.declared.table.Threads.{Threads}
use Rattle.thread_table.specs.declared.thread.Thread.{Thread}
use Rattle.thread_table.specs.declared.tids.Tids.{Tids}
use Rattle.thread_table.specs.ThreadMap.{thread_map}
use Rattle.thread_table.specs.TidSets.{are_marked, count_settled, lent_sets}

-- the sets of tids while the thread is lent, and the threads with this in its place
abbrev pub sets_after : Threads → ThreadId → Vec Tids Global
sets_after t id = lent_sets t.ready (thread_map t.procs t.by_place.items) t.lent id

abbrev pub places_after : Threads → ThreadId → Thread → Vec (Option Thread) Global
places_after t id thread = with_item t.by_place (place_of id) (Some thread)

-- the table of these, where they leave no thread out, as they do wherever a thread is lent
abbrev pub table_after : (t : Threads) (id : ThreadId) (thread : Thread) (marked : Bool)
    → are_marked (sets_after t id).items (places_after t id thread).items ≡ marked → Threads
table_after t id thread true is = record t {
  by_place = places_after t id thread;
  ready = sets_after t id;
  lent = Some id;
  sets = count_settled t.ready (thread_map t.procs t.by_place.items) t.lent id ∙ t.sets;
  marked = is;
}
table_after t id thread false is = t

-- the table with this in place of a thread that it has
unfoldable pub with_thread : Threads → ThreadId → Thread → Threads
with_thread t id thread = table_after t id thread (are_marked (sets_after t id).items (places_after t id thread).items) refl

-- the table ends with the thread as it was last left behind the borrow, and with all others as they were ..
abbrev pub LendsThread : MutBor Threads → ThreadId → MutBor Thread → Fml
LendsThread table id thread = Lends the_row thread_row table thread (with_thread table.now id)

-- .. and where there is no such thread it stays
abbrev pub LendsThreadIf : MutBor Threads → ThreadId → Option (MutBor Thread) → Fml
LendsThreadIf table id thread = LendsIf the_row thread_row table thread (with_thread table.now id) table.now
