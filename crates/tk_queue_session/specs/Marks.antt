-- The end marks among the items of a session.
use Rattle.std.specs.Prelude.{ℕ, ◌==◌, Bool, false, List}
use Rattle.std.specs.List.{list_any}
use Rattle.tk_queue_session.specs.declared.items.Item.{Item}
use Rattle.tk_queue_session.specs.declared.items.Item.TheVariants.{Entry as Emitted, End}

-- whether the item is the mark of w
abbrev pub is_mark_of : ℕ → Item → Bool
is_mark_of w (Emitted e) = false
is_mark_of w (End v) = v == w

-- whether the mark of w is among the items
abbrev pub is_marked : ℕ → List Item → Bool
is_marked w items = list_any (is_mark_of w) items
