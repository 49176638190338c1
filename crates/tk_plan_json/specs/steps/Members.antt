-- What private clauses and proofs alone name.
use Rattle.std.specs.Prelude.{◌≡◌, ℕ, List, Option, option_map, Bool, true, false, [], ◌∷◌, Some}
use Rattle.std.specs.Prelude.{is_some}
use denote.Ref.{Bor}
use Rattle.serde_json.specs.Data.{Members, Data}
use Rattle.tk_plan_json.specs.Checks.{member_at, unknown_in}
use Rattle.std.specs.Ordering.{nat_cmp}
use Rattle.std.specs.Cmp.Lexicographic.{slice_cmp}
use Rattle.std.specs.Map.{lookup}
use Rattle.std.specs.BTreeMap.{is_at}
use Rattle.tk_events.specs.Event.{is_strictly_increasing}
use Rattle.tk_plan_json.specs.Contents.{json_pair, json_entry, repeats as repeats_in}
use Rattle.tk_plan_json.specs.declared.members.member_values.Report.{Report}

-- the name is that of the first member that has none of the names
abbrev pub IsFirstUnknown : List (List ℕ) → Members → Option (Bor (List ℕ)) → Type 0
IsFirstUnknown names ms name =
    (at : List ℕ) → unknown_in names at ms ≡ option_map (λ n. member_at at n.now) name

-- one of the pairs has the key
abbrev pub has_key : List ℕ → List (List ℕ × List ℕ) → Bool
has_key k es = is_some (lookup (is_at (slice_cmp nat_cmp k)) es)

-- the pairs of an entry by their keys, and whether a key stands there twice
pub record IsReport (d : Data) (r : Report) : Type 0 where
  pub pairs : r.pairs ≡ json_entry d
  pub increasing : is_strictly_increasing r.pairs ≡ true
  pub repeats : r.repeats ≡ repeats_in d

-- the report of an entry whose one pair is this
pub record IsOnlyPair (pair : Data) (r : Report) : Type 0 where
  pub pairs : r.pairs ≡ json_pair (Some pair) ∷ []
  pub repeats : r.repeats ≡ false
