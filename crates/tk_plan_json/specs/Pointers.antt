-- What the code's places, names and pairs of texts stand for.
use Rattle.std.specs.Prelude.{◌≡◌, ℕ, List, Option, option_map}
use denote.Ref.{Bor}
use Rattle.serde_json.specs.Data.{Data}
use Rattle.serde_json.specs.View.{view}
use Rattle.serde_json.specs.declared.value.Value.{Value}
use Rattle.tk_plan_json.specs.Checks.{Row, item_at, member_at, member_wrong}
use Rattle.tk_plan_json.specs.Contents.{json_pair}
use Rattle.tk_plan_json.specs.declared.members.json_paths.JsonPath.{JsonPath}
use Rattle.tk_plan_json.specs.declared.members.json_paths.JsonPath.TheVariants.{Whole, Item, Inner}
use Rattle.tk_plan_json.specs.declared.members.member_values.TwoTexts.{TwoTexts}

-- a place as a JSON Pointer
abbrev pub pointer : JsonPath → List ℕ
pointer (Whole at) = at.now
pointer (Item at i) = item_at at.now i
pointer (Inner at i j) = item_at (item_at at.now i) j

-- the value of a member, where it is there
abbrev pub viewed : Option (Bor Value) → Option Data
viewed value = option_map (λ v. view v.now) value

-- what is wrong with a member of the object at a place
abbrev pub wrong_at : JsonPath → Row → Option (Bor Value) → Option (List ℕ)
wrong_at at r value = member_wrong r (member_at (pointer at) r.name) (viewed value)

-- the two texts of an array
pub record IsPairOf (d : Option Data) (p : TwoTexts) : Type 0 where
  pub first : p.first.now ≡ (json_pair d).0
  pub second : p.second.now ≡ (json_pair d).1
