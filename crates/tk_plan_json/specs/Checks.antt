-- What may be wrong with a JSON value, and the place of it.
use Rattle.std.specs.Prelude.{ℕ, ◌+◌, ◌==◌, List, [], ◌∷◌, ◌++◌, length, Bool, true, false, Option}
use Rattle.std.specs.Prelude.{Some, None, if◌then◌else◌, map, flat_map}
use Rattle.std.specs.List.{list_any}
use Rattle.std.specs.Str.{bytes_eq}
use Rattle.std.specs.Fmt.{decimal}
use Rattle.std.specs.Option.{option_or}
use Rattle.serde_json.specs.Data.{Data, boolean, string, array, object, Items, no_items, item}
use Rattle.serde_json.specs.Data.{Members, no_members, member}
use Rattle.serde_json.specs.Find.{get}
use Rattle.tk_plan_json.specs.Characters.{slash, digit_zero, digit_one, tilde}

-- how a byte is written in a JSON Pointer: `~` as `~0`, and `/` as `~1`
abbrev pub escape : ℕ → List ℕ
escape b =
    if b == tilde then tilde ∷ digit_zero ∷ []
    else (if b == slash then tilde ∷ digit_one ∷ [] else b ∷ [])

-- the place of a member, from that of its object
abbrev pub member_at : List ℕ → List ℕ → List ℕ
member_at at name = at ++ slash ∷ flat_map escape name

-- the place of an item, from that of its array
abbrev pub item_at : List ℕ → ℕ → List ℕ
item_at at i = at ++ slash ∷ decimal i

-- Where a value that lies at a place is wrong, if it is.
abbrev pub Check : Type 0
Check = List ℕ → Data → Option (List ℕ)

-- the first that is there
abbrev pub first : {A : Type 0} → List (Option A) → Option A
first [] = None
first (x ∷ rest) = option_or x (first rest)

-- ---- values

-- any text
abbrev pub text : Check
text at (string s) = None
text at _ = Some at

-- one of these texts
abbrev pub one_of : List (List ℕ) → Check
one_of names at (string s) = if list_any (bytes_eq s) names then None else Some at
one_of names at _ = Some at

-- true or false
abbrev pub truth : Check
truth at (boolean b) = None
truth at _ = Some at

-- an array, whatever its items are
abbrev pub any_array : Check
any_array at (array ds) = None
any_array at _ = Some at

abbrev pub list_of : Items → List Data
list_of no_items = []
list_of (item d ds) = d ∷ list_of ds

-- the first of the items that is wrong, counted from i on
abbrev pub items_wrong : Check → List ℕ → ℕ → List Data → Option (List ℕ)
items_wrong check at i [] = None
items_wrong check at i (d ∷ ds) =
    option_or (check (item_at at i) d) (items_wrong check at (i + 1) ds)

-- each item by the check
abbrev pub array_of : Check → Check
array_of check at (array ds) = items_wrong check at 0 (list_of ds)
array_of check at _ = Some at

-- two items, each by the check
abbrev pub pair_of : Check → Check
pair_of check at (array ds) =
    if length (list_of ds) == 2 then items_wrong check at 0 (list_of ds) else Some at
pair_of check at _ = Some at

-- ---- members

-- a member: its name, whether it has to be there, and the check of its value
pub record Row : Type 0 where
  pub name : List ℕ
  pub needed : Bool
  pub check : Check

-- a member that has to be there
abbrev pub must : List ℕ → Check → Row
must name check = record { name = name; needed = true; check = check }

-- a member that may be missing
abbrev pub may : List ℕ → Check → Row
may name check = record { name = name; needed = false; check = check }

-- what is wrong with a member: with its value, or that it is missing
abbrev pub member_wrong : Row → List ℕ → Option Data → Option (List ℕ)
member_wrong r at None = if r.needed then Some at else None
member_wrong r at (Some d) = r.check at d

-- what is wrong with this member of a value
abbrev pub row : List ℕ → Data → Row → Option (List ℕ)
row at d r = member_wrong r (member_at at r.name) (get r.name d)

-- the first of these members that is wrong, in the order of the rows
abbrev pub members_wrong : List Row → Check
members_wrong rows at d = first (map (row at d) rows)

-- the first member, in the order of their names, that has no meaning
abbrev pub unknown_in : List (List ℕ) → List ℕ → Members → Option (List ℕ)
unknown_in names at no_members = None
unknown_in names at (member k d ms) =
    if list_any (λ n. bytes_eq n k) names then unknown_in names at ms else Some (member_at at k)

-- an object with no other members
abbrev pub unknown : List (List ℕ) → Check
unknown names at (object ms) = unknown_in names at ms
unknown names at _ = Some at

-- an object with these members and no other
abbrev pub object_of : List Row → Check
object_of rows at d = first (unknown (map (λ r. r.name) rows) at d ∷ map (row at d) rows)
