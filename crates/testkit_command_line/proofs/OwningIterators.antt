-- The items of iterators that own them.
use Rattle.std.proofs.Common.{◌≡◌, ◌∙◌, List, refl, sym}
use Rattle.std.specs.Iterator.{DrainsIf}
use Rattle.std.specs.Vec.Iter.{into_iter_items, into_iter_deque, into_iter_steps}
use Rattle.std.specs.declared.vec.IntoIter.{IntoIter}
use Rattle.std.proofs.lemmas.Iterator.{items_from_drains}
use Rattle.std.proofs.lemmas.Iterator.Adapters.{YieldsList-from_vec}
use Rattle.std.proofs.lemmas.List.{map-id}

-- all items that an owning iterator gives are those that it had left
pub drained : {X Z : Type 0} (it : IntoIter X Z) (xs : List X)
    → DrainsIf (into_iter_steps {X = X} {Z = Z}) (Unit {0}) it xs → xs ≡ into_iter_items it
drained it xs h =
    let all = YieldsList-from_vec (into_iter_items it) refl ((into_iter_deque it).ok.0) in
    sym (map-id xs) ∙ items_from_drains xs h all
