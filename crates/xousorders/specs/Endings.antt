-- The endings that are told of a search: those that are told alike are one.
use Rattle.std.specs.Prelude.{◌≡◌, ◌<◌, ◌≤◌, ◌==◌, ◌&&◌, ◌⊎◌, ◌++◌, ℕ, Bool, true, false, List, [], ◌∷◌, All, length, map, slice_get, Option, Some, None}
use Rattle.std.specs.Option.{option_map_or}
use Rattle.std.specs.Str.{bytes_eq}
use Rattle.order_model.specs.declared.moves.Move.{Move}
use Rattle.order_model.specs.declared.failing.Failing.{Failing}
use Rattle.order_model.specs.Endings.{is_ending, seen_of}
use Rattle.order_model.specs.Failing.{fails_of, first_failing}
use Rattle.order_model.specs.Moves.{Point, leads_by}
use Rattle.order_model.specs.Nodes.{after, node_of}
use Rattle.order_model.specs.Searches.{Telling}
use Rattle.order_search.specs.Quests.{Searching}
use Rattle.order_text.specs.Endings.{failing_of, looks_at}
use Rattle.order_text.specs.Texts.{seen_text}
use Rattle.graph_search.specs.Paths.{labels_to}
use Rattle.graph_search.specs.Told.{IsFound}
use Rattle.xk_base.specs.declared.limits.TheConstants.{STEP_LIMIT}
use Rattle.xk_base.specs.Tables.Counting.{count_below, listed_below}
use Rattle.order_text.specs.declared.endings.Ending.{Ending}
use Rattle.order_text.specs.declared.endings.Endings.{Endings}
use Rattle.order_text.specs.declared.endings.Look.{Look}
use Rattle.xousorders.specs.declared.view.View.{View}

-- ---- how endings are told

-- the text of what is seen of it, and the place of the first of those things of which it fails
pub record Shown : Type 0 where
  pub text : List ℕ
  pub fails : Option ℕ

unfoldable pub shown_of : View → Point → Shown
shown_of view p = record { text = seen_text view.sights view.hex (seen_of p); fails = first_failing view.fails.items p }

abbrev pub shown_in : Ending → Shown
shown_in ending = record { text = ending.seen.items; fails = ending.fails }

abbrev pub same_place : Option ℕ → Option ℕ → Bool
same_place None None = true
same_place None (Some k) = false
same_place (Some j) None = false
same_place (Some j) (Some k) = j == k

-- both are told alike
abbrev pub same_shown : Shown → Shown → Bool
same_shown one other = bytes_eq one.text other.text && same_place one.fails other.fails

-- ---- of nodes

-- orders end at the node of this number
abbrev pub ends_at : Telling → ℕ → Bool
ends_at t node = option_map_or (λ note. note.ends) (slice_get t.notes node) false

-- how it is told where the order to the node of this number leads
unfoldable pub node_shown : Telling → View → ℕ → Shown
node_shown t view node =
    option_map_or (shown_of view) (leads_by t.asked t.start (labels_to t.edges node)) (record { text = []; fails = None })

-- how many of the first n nodes are endings that are told so
unfoldable pub nodes_like : Telling → View → ℕ → Shown → ℕ
nodes_like t view n shown = count_below n (λ node. ends_at t node && same_shown (node_shown t view node) shown)

-- the order to the node of this number has no more steps than a run may have
abbrev pub IsWithin : Telling → ℕ → Type 0
IsWithin t node = (p : Point) → leads_by t.asked t.start (labels_to t.edges node) ≡ Some p → p.state.steps ≤ STEP_LIMIT

-- an ending is that of a node where orders end, with the order to that node, and told as it is there
pub record IsEndingOf (t : Telling) (view : View) (ending : Ending) : Type 0 where
  pub ends : ends_at t ending.first ≡ true
  pub order : ending.order.items ≡ labels_to t.edges ending.first
  pub seen : shown_in ending ≡ node_shown t view ending.first
  pub within : IsWithin t ending.first

-- ---- which ending is told so

-- the ending at this place is
pub record IsAt (list : List Ending) (place : ℕ) (shown : Shown) : Type 0 where
  pub ending : Ending
  pub there : slice_get list place ≡ Some ending
  pub alike : shown_in ending ≡ shown

-- none is
abbrev pub NoneIs : List Ending → Shown → Type 0
NoneIs list shown = (place : ℕ) → IsAt list place shown → ⊥

-- no two endings are told alike
abbrev pub AreDifferent : List Ending → Type 0
AreDifferent list = (j k : ℕ) (shown : Shown) → IsAt list j shown → IsAt list k shown → j ≡ k

-- the node is told to be like one of the endings, which is told as the node is
pub record IsLook (t : Telling) (view : View) (endings : Endings) (node : ℕ) : Type 0 where
  pub place : ℕ
  pub look : Look
  pub is : slice_get endings.looks.items place ≡ Some look
  pub of_node : look.node ≡ node
  pub alike : IsAt endings.list.items look.ending (node_shown t view node)

-- the nodes that are told are those of the first n where orders end, in the order of their numbers, each once
abbrev pub AreNodes : Telling → ℕ → Endings → Type 0
AreNodes t n endings = map (λ look. look.node) endings.looks.items ≡ listed_below n (ends_at t)

-- as many nodes are told to be like an ending as there are such among the first n
abbrev pub CountsNodes : Telling → View → ℕ → Endings → Type 0
CountsNodes t view n endings =
    (place : ℕ) (shown : Shown) → IsAt endings.list.items place shown → looks_at endings.looks.items place ≡ nodes_like t view n shown

-- the node of an ending is the first that is told so, of the first n
pub record IsFirst (t : Telling) (view : View) (n : ℕ) (ending : Ending) : Type 0 where
  pub low : ending.first < n
  pub least : (node : ℕ) → node < n → ends_at t node ≡ true → node_shown t view node ≡ shown_in ending → ending.first ≤ node

-- Each of these endings is one, no two are told alike, and each of the first nodes where orders end is told once, to be like one of them.
pub record AreEndings (t : Telling) (view : View) (n : ℕ) (endings : Endings) : Type 0 where
  pub each : All (IsEndingOf t view) endings.list.items
  pub different : AreDifferent endings.list.items
  pub first : (place : ℕ) (ending : Ending) → slice_get endings.list.items place ≡ Some ending → IsFirst t view n ending
  pub all : (node : ℕ) → node < n → ends_at t node ≡ true → IsLook t view endings node
  pub nodes : AreNodes t n endings
  pub counts : CountsNodes t view n endings
  pub beyond : (place : ℕ) → length endings.list.items ≤ place → looks_at endings.looks.items place ≡ 0

-- ---- a node more

-- the ending of this node was added, with its order, and told so; none was told so
pub record IsNew (node : ℕ) (order : List Move) (shown : Shown) (old new : List Ending) : Type 0 where
  pub ending : Ending
  pub first : ending.first ≡ node
  pub order_is : ending.order.items ≡ order
  pub alike : shown_in ending ≡ shown
  pub none : NoneIs old shown
  pub list : new ≡ old ++ ending ∷ []

-- no ending was added, or one
abbrev pub AddsOne : List Ending → List Ending → Type 0
AddsOne old new = (new ≡ old) ⊎ ((ending : Ending) × (new ≡ old ++ ending ∷ []))

-- no ending was added, or that of this node
abbrev pub Lists : ℕ → List Move → Shown → List Ending → List Ending → Type 0
Lists node order shown old new = (new ≡ old) ⊎ IsNew node order shown old new

-- a node was told: it is like an ending of before, or like a new one, which has its order
pub record Adds (node : ℕ) (order : List Move) (shown : Shown) (old new : Endings) : Type 0 where
  pub place : ℕ
  pub alike : IsAt new.list.items place shown
  pub looks : new.looks.items ≡ old.looks.items ++ (record { node = node; ending = place }) ∷ []
  pub list : Lists node order shown old.list.items new.list.items

-- ---- of orders

-- The order of the ending leads from the start to a point where orders end, in no more steps than a run may have. What is told is so there:
-- what is seen, and of what it fails.
pub record IsEndingOrder (q : Searching) (view : View) (ending : Ending) : Type 0 where
  pub last : Point
  pub leads : leads_by q.asked q.start ending.order.items ≡ Some last
  pub ends : is_ending q.asked last.state ≡ true
  pub within : last.state.steps ≤ STEP_LIMIT
  pub seen : shown_in ending ≡ shown_of view last
  pub fails : (failing : Failing) → failing_of view.fails.items ending.fails ≡ Some failing → fails_of failing last ≡ true

-- **Endings are real**: the order of each leads where orders end, where what is told is seen and where it fails so; no two are told alike.
pub record AreReal (q : Searching) (view : View) (list : List Ending) : Type 0 where
  pub orders : All (IsEndingOrder q view) list
  pub different : AreDifferent list

-- the point's node is told to be like one of the endings, which is told as the point is
pub record LooksLike (t : Telling) (view : View) (endings : Endings) (p : Point) : Type 0 where
  pub node : ℕ
  pub found : IsFound (after t.asked) (node_of t.asked t.start) t.edges node (node_of t.asked p)
  pub look : IsLook t view endings node
  pub alike : IsAt endings.list.items look.look.ending (shown_of view p)

abbrev pub searching_in : Telling → Searching
searching_in t = record { asked = t.asked; start = t.start }

-- **Sound**: the endings that are told are real, and each node where orders end is counted once, with the ending that it is like.
pub record TellsEndings (t : Telling) (view : View) (endings : Endings) : Type 0 where
  pub real : AreReal (searching_in t) view endings.list.items
  pub nodes : AreNodes t (length t.notes) endings
  pub counts : CountsNodes t view (length t.notes) endings

-- The order of each ending is a shortest one to where it is told so.
abbrev pub AreShortest : Telling → View → Endings → Type 0
AreShortest t view endings =
    (place : ℕ) (ending : Ending) (order : List Move) (last : Point) → slice_get endings.list.items place ≡ Some ending
    → leads_by t.asked t.start order ≡ Some last → is_ending t.asked last.state ≡ true → shown_of view last ≡ shown_in ending
    → length ending.order.items ≤ length order

-- **Whole**: wherever an order ends, what is seen there and of what it fails is told.
abbrev pub TellsAllEndings : Telling → View → Endings → Type 0
TellsAllEndings t view endings =
    (order : List Move) (last : Point) → leads_by t.asked t.start order ≡ Some last → is_ending t.asked last.state ≡ true
    → LooksLike t view endings last
