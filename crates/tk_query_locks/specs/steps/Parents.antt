-- The ids of which some descriptor is a child, and the locks that a table has.
use Rattle.std.specs.Prelude.{◌≡◌, ℕ, ◌<◌, true, Bool, Option, Some, None}
use Rattle.std.specs.Prelude.{List, length}
use Rattle.std.specs.Prelude.{nat_eq}
use Rattle.std.specs.Cmp.Lexicographic.{pointwise}
use Rattle.indexmap.specs.IndexSet.{contains_by}
use Rattle.tk_ids.specs.IdText.{IsId, id_text, parent_of}
use Rattle.tk_ids.specs.declared.descriptors.Descriptor.{Descriptor}
use Rattle.tk_record.specs.Entries.{desc}
use Rattle.tk_record.specs.Recorded.{Recorded}
use Rattle.tk_query_locks.specs.Conflicts.{Writes, global_name}
use Rattle.tk_query_locks.specs.declared.parents.Parents.{Parents}

-- whether the text is among those of the parents
abbrev pub has_text : Parents → List ℕ → Bool
has_text parents text = contains_by (λ k. pointwise nat_eq text k) parents.texts

-- the descriptor has a parent, whose id has this text
pub record IsParentText (text : List ℕ) (d : Descriptor) : Type 0 where
  pub below : 1 < length d.id
  pub id : IsId (parent_of d.id)
  pub spells : text ≡ id_text (parent_of d.id)

-- a descriptor of the record has a parent, whose id has this text
pub record HasChildUnder (r : Recorded) (text : List ℕ) : Type 0 where
  pub key : ℕ
  pub child : Descriptor
  pub described : desc r key ≡ Some child
  pub parent : IsParentText text child

-- each text is that of the parent of some descriptor
abbrev pub AreParentsOnly : Recorded → Parents → Type 0
AreParentsOnly r parents = (text : List ℕ) → has_text parents text ≡ true → HasChildUnder r text

-- the text of the parent of this key's descriptor is there
abbrev pub HasParentOf : Recorded → Parents → ℕ → Type 0
HasParentOf r parents key =
    (text : List ℕ) (d : Descriptor) →
    desc r key ≡ Some d → IsParentText text d → has_text parents text ≡ true

-- the texts are those of the parents of the record's descriptors
pub record AreParents (r : Recorded) (parents : Parents) : Type 0 where
  pub only : AreParentsOnly r parents
  pub each : (key : ℕ) → HasParentOf r parents key

-- no descriptor of the record holds the lock for writing
abbrev pub IsUnwritten : Recorded → List ℕ → Type 0
IsUnwritten r name = (key : ℕ) (d : Descriptor) → desc r key ≡ Some d → ¬ Writes name d

-- the parents are known, or no descriptor holds `global` for writing
abbrev pub AreParentsWhereUsed : Recorded → Option Parents → Type 0
AreParentsWhereUsed r None = IsUnwritten r global_name
AreParentsWhereUsed r (Some parents) = AreParents r parents
