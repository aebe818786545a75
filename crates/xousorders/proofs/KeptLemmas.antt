-- The endings of the nodes that were followed stay what they are as a search goes on.
use Rattle.std.proofs.Common.{◌≡◌, ◌<◌, ◌≤◌, ◌+◌, ◌∙◌, ℕ, false, List, [], ◌++◌, length, Option, None, sym, ap, subst, arith}
use Rattle.std.specs.Prelude.{slice_get, ◌&&◌}
use Rattle.std.specs.Option.{option_map_or}
use Rattle.std.proofs.lemmas.Option.{slice_get_within}
use Rattle.graph_search.proofs.ListLemmas.{slice_get-front}
use Rattle.graph_search.proofs.PathLemmas.{labels_to-front}
use Rattle.graph_search.specs.declared.found.Edge.{Edge}
use Rattle.graph_search.specs.Paths.{IsTree, labels_to}
use Rattle.order_model.specs.declared.moves.Move.{Move}
use Rattle.order_model.specs.declared.moves.Note.{Note}
use Rattle.order_model.specs.Moves.{leads_by}
use Rattle.order_model.specs.Searches.{Telling}
use Rattle.xk_base.proofs.CountingLemmas.{count_below-same, listed_below-same}
use Rattle.xousorders.proofs.EndingLemmas.{ended}
use Rattle.xousorders.specs.Endings.{AreEndings, IsAt, IsEndingOf, IsFirst, IsLook, IsWithin, Shown}
use Rattle.xousorders.specs.Endings.{ends_at, node_shown, nodes_like, same_shown, shown_of}
use Rattle.order_text.specs.declared.endings.Ending.{Ending}
use Rattle.order_text.specs.declared.endings.Endings.{Endings}
use Rattle.xousorders.specs.declared.view.View.{View}

-- the search told more edges and notes
abbrev pub more_told : Telling → List (Edge Move) → List Note → Telling
more_told t edges notes = record t { edges = t.edges ++ edges; notes = t.notes ++ notes }

module _ (t : Telling) (view : View) (edges : List (Edge Move)) (notes : List Note) (tree : IsTree t.edges) where
  ends_kept : (node : ℕ) → node < length t.notes → ends_at (more_told t edges notes) node ≡ ends_at t node
  ends_kept node low = ap (λ (o : Option Note). option_map_or (λ (note : Note). note.ends) o false) (slice_get-front t.notes notes node low)

  labels_kept : (node : ℕ) → node ≤ length t.edges → labels_to (t.edges ++ edges) node ≡ labels_to t.edges node
  labels_kept node within = labels_to-front t.edges edges node tree within

  shown_kept : (node : ℕ) → node ≤ length t.edges → node_shown (more_told t edges notes) view node ≡ node_shown t view node
  unfolding node_shown
  shown_kept node within =
      ap (λ (order : List Move). option_map_or (shown_of view) (leads_by t.asked t.start order) (record { text = []; fails = None }))
      (labels_kept node within)

  within_kept : (node : ℕ) → node ≤ length t.edges → IsWithin t node → IsWithin (more_told t edges notes) node
  within_kept node within low p leads =
      low p (ap (λ (order : List Move). leads_by t.asked t.start order) (sym (labels_kept node within)) ∙ leads)

  ending_kept : length t.notes ≤ length t.edges + 1 → (ending : Ending) → IsEndingOf t view ending
      → IsEndingOf (more_told t edges notes) view ending
  ending_kept few ending is =
      let has = ended (slice_get t.notes ending.first) is.ends in
      let noted : ending.first < length t.notes = slice_get_within t.notes ending.first has.note has.is in
      let within : ending.first ≤ length t.edges = omega (arith, noted, few) in
      record {
        ends = ends_kept ending.first noted ∙ is.ends;
        order = is.order ∙ sym (labels_kept ending.first within);
        seen = is.seen ∙ sym (shown_kept ending.first within);
        within = within_kept ending.first within is.within;
      }

  module _ (few : length t.notes ≤ length t.edges + 1) (n : ℕ) (low : n ≤ length t.notes) where
    first_kept : (ending : Ending) → IsFirst t view n ending → IsFirst (more_told t edges notes) view n ending
    first_kept ending is = record {
      low = is.low;
      least = λ node below ends same.
          (let noted : node < length t.notes = omega (arith, below, low) in
          let within : node ≤ length t.edges = omega (arith, noted, few) in
          is.least node below (sym (ends_kept node noted) ∙ ends) (sym (shown_kept node within) ∙ same));
    }

    look_kept : (endings : Endings) (node : ℕ) → node < n → IsLook t view endings node → IsLook (more_told t edges notes) view endings node
    look_kept endings node below is =
        let within : node ≤ length t.edges = omega (arith, below, low, few) in
        record {
          place = is.place;
          look = is.look;
          is = is.is;
          of_node = is.of_node;
          alike = subst (IsAt endings.list.items is.look.ending) (sym (shown_kept node within)) is.alike;
        }

    like_kept : (shown : Shown) → nodes_like t view n shown ≡ nodes_like (more_told t edges notes) view n shown
    unfolding nodes_like
    like_kept shown = count_below-same n _ _ each
      where
        each : (node : ℕ) → node < n
            → (ends_at t node && same_shown (node_shown t view node) shown)
            ≡ (ends_at (more_told t edges notes) node && same_shown (node_shown (more_told t edges notes) view node) shown)
        each node below =
            let noted : node < length t.notes = omega (arith, below, low) in
            let within : node ≤ length t.edges = omega (arith, noted, few) in
            (λ i. sym (ends_kept node noted) i && same_shown (sym (shown_kept node within) i) shown)

    pub endings_kept : (endings : Endings) → AreEndings t view n endings → AreEndings (more_told t edges notes) view n endings
    endings_kept endings are = record {
      each = λ k d there. ending_kept few _ (are.each k d there);
      different = are.different;
      first = λ place ending there. first_kept ending (are.first place ending there);
      all = λ node below ends.
          (let noted : node < length t.notes = omega (arith, below, low) in
          look_kept endings node below (are.all node below (sym (ends_kept node noted) ∙ ends)));
      nodes = are.nodes
          ∙ listed_below-same n (ends_at t) (ends_at (more_told t edges notes))
          (λ node below. (let noted : node < length t.notes = omega (arith, below, low) in sym (ends_kept node noted)));
      counts = λ place shown at. are.counts place shown at ∙ like_kept shown;
      beyond = are.beyond;
    }
