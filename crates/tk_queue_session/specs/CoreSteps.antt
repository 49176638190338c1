-- Each step of a session's queue is the core's step, or none. What a step says of the views is a
-- parameter of these laws: `laws.rt` gives them what the queue's rule has.
use Rattle.std.specs.Prelude.{◌≡◌, ◌↔◌, ℕ, false, List, [], ◌∷◌, ◌++◌, slice_set}
use mathlib.Core.Option.{some}
use lib.ListN.{get_elem?}
use Rattle.tk_queue_session.specs.declared.items.Item.{Item}
use Rattle.tk_queue_session.specs.Core.{Core, push, take_first}
use Rattle.tk_queue_session.specs.declared.session_rules.PassView.{PassView}
use Rattle.tk_queue_session.specs.SessionRule.{Session}
use Rattle.tk_queue_session.specs.PassViews.{MayPush, MayTakeIn, IsReader, IsFirst}

-- the core's state that a queue with these items shows, where its passes know this
abbrev pub IsStateOf : Core → List Item → List PassView → Type 0
IsStateOf c items views = (s : Session items views) × (s.core ≡ c)

-- between any two steps the rule holds exactly where the queue shows a state of the core
abbrev pub HoldsStates : (List Item → List PassView → Type 0) → Type 0
HoldsStates holds =
    (items : List Item) (views : List PassView)
    → holds items views ↔ ((c : Core) × IsStateOf c items views)

-- nothing was sent, no worker has ended, and nothing waits or was taken
abbrev pub fresh_core : Core
fresh_core = record { sent = λ w. []; ended = λ w. false; taken = []; waiting = [] }

-- the first pass of an empty queue shows the core's first state
abbrev pub BeginsFresh : PassView → Type 0
BeginsFresh first = IsStateOf fresh_core [] (first ∷ [])

-- w is the view after a step, and no other view is
abbrev pub IsOnly : (PassView → Type 0) → PassView → Type 0
IsOnly outcome w = outcome w × ((u : PassView) → outcome u → u ≡ w)

-- a sender's push of an entry is the core's emission, and that of its mark is the core's end
abbrev pub PushIsStep : (PassView → Item → PassView → Type 0) → Type 0
PushIsStep outcome =
    (c : Core) (items : List Item) (views : List PassView) (pass : ℕ) (v : PassView) (x : Item)
    → IsStateOf c items views → get_elem? views pass ≡ some v → MayPush v x
    → (w : PassView) × IsOnly (outcome v x) w
    × IsStateOf (push x c) (items ++ x ∷ []) (slice_set views pass w)

-- a push that finds no room changes no view, and is no step
abbrev pub FullIsNone : Type 0
FullIsNone =
    (c : Core) (items : List Item) (views : List PassView) (pass : ℕ) (v : PassView)
    → IsStateOf c items views → get_elem? views pass ≡ some v
    → IsStateOf c items (slice_set views pass v)

-- the receiver's pop is the core's taking
abbrev pub TakeIsStep : (PassView → Item → PassView → Type 0) → Type 0
TakeIsStep outcome =
    (c : Core) (x : Item) (items : List Item) (views : List PassView) (pass : ℕ) (v : PassView)
    → IsStateOf c (x ∷ items) views → get_elem? views pass ≡ some v → IsReader v
    → (w : PassView) × IsOnly (outcome v x) w
    × IsStateOf (take_first x items c) items (slice_set views pass w)

-- a pop that finds nothing changes no view, and is no step
abbrev pub EmptyIsNone : Type 0
EmptyIsNone =
    (c : Core) (views : List PassView) (pass : ℕ) (v : PassView) → IsStateOf c [] views
    → get_elem? views pass ≡ some v → IsStateOf c [] (slice_set views pass v)

-- a new sender is no step
abbrev pub SplitIsNone : (PassView → PassView) → (PassView → PassView) → Type 0
SplitIsNone left right =
    (c : Core) (items : List Item) (views : List PassView) (pass : ℕ) (v : PassView)
    → IsStateOf c items views → get_elem? views pass ≡ some v → IsReader v
    → IsStateOf c items (slice_set views pass (left v) ++ right v ∷ [])

-- telling the number of static descriptors, before there is a sender, is no step
abbrev pub BitIsNone : (PassView → PassView) → (PassView → PassView) → Type 0
BitIsNone left right =
    (c : Core) (items : List Item) (views : List PassView) (pass : ℕ) (v : PassView)
    → IsStateOf c items views → get_elem? views pass ≡ some v → IsFirst v
    → IsStateOf c items (slice_set views pass (left v) ++ right v ∷ [])

-- taking in the token of a sender that has ended is no step
abbrev pub JoinIsNone : (PassView → PassView → PassView) → PassView → Type 0
JoinIsNone both spent =
    (c : Core) (items : List Item) (views : List PassView) (pass : ℕ) (v : PassView)
    (other : ℕ) (w : PassView)
    → IsStateOf c items views → get_elem? views pass ≡ some v → ¬ (other ≡ pass)
    → get_elem? (slice_set views pass (both v w)) other ≡ some w → MayTakeIn v w
    → IsStateOf c items (slice_set (slice_set views pass (both v w)) other spent)
