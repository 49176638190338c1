-- To which unit a static key belongs, and an id.
use Rattle.std.specs.Prelude.{◌≡◌, ◌<◌, ◌≤◌, ◌&&◌, ℕ, zero, suc, Bool, true, false, bytes_eq}
use Rattle.std.specs.Prelude.{List, [], ◌∷◌, length, Option, Some, None, get_or, slice_get}
use Rattle.std.specs.Prelude.{if◌then◌else◌}
use Rattle.std.specs.Option.{option_map}
use Rattle.tk_ids.specs.IdText.{SegmentView, parent_of}
use Rattle.tk_ids.specs.declared.descriptors.Descriptor.{Descriptor}
use Rattle.tk_plan.specs.Cutting.{units_of}
use Rattle.tk_plan.specs.Planned.{Outline}
use Rattle.tk_plan.specs.Trees.{forest}
use Rattle.tk_run_laws.specs.Spines.{IsOfUnit, IsOnSpine}

-- whether two ids have the same segments
abbrev pub same_id : List SegmentView → List SegmentView → Bool
same_id [] [] = true
same_id [] (b ∷ bs) = false
same_id (a ∷ as') [] = false
same_id (a ∷ as') (b ∷ bs) =
    bytes_eq a.tag b.tag && bytes_eq a.value b.value && same_id as' bs

-- the key of the first descriptor with the id
abbrev pub key_of : List Descriptor → List SegmentView → Option ℕ
key_of [] id = None
key_of (d ∷ ds) id = if same_id d.id id then Some 0 else option_map suc (key_of ds id)

-- the number of a key, of those of static keys
abbrev pub owner_at : List ℕ → ℕ → Option ℕ → ℕ → ℕ
owner_at owners none None above = above
owner_at owners none (Some key) above = get_or owners key none

-- a static id belongs to the unit of its key, any other to that of the id above it, with as many
-- ids above it at most as `depth`; `none` is no unit's number
abbrev pub owner_within : List Descriptor → List ℕ → ℕ → ℕ → List SegmentView → ℕ
owner_within table owners none zero id = none
owner_within table owners none (suc depth) id =
    owner_at owners none (key_of table id)
    (owner_within table owners none depth (parent_of id))

-- the unit to which an id belongs
abbrev pub owner_of : List Descriptor → List ℕ → ℕ → List SegmentView → ℕ
owner_of table owners none id = owner_within table owners none (suc (length id)) id

-- The number of a static key is that of its unit. A key whose number is no unit's stands on the
-- spine.
pub record AreOwners (plan : Outline) (owners : List ℕ) : Type 0 where
  pub owned : (key unit : ℕ) → slice_get owners key ≡ Some unit
      → unit < length (units_of (forest plan.nodes)) → IsOfUnit plan.nodes unit key
  pub others : (key unit : ℕ) → slice_get owners key ≡ Some unit
      → length (units_of (forest plan.nodes)) ≤ unit → IsOnSpine plan.nodes key
