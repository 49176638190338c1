-- The rows of a node in groups.
use Rattle.std.proofs.Common.{◌≡◌, ℕ, List, map, Bool, true, false, Option, Some, None, Bor, refl, sym, ap, ◌∙◌}
use Rattle.std.specs.Option.{option_or}
use Rattle.serde_json.specs.Data.{Data}
use Rattle.serde_json.specs.Find.{get}
use Rattle.serde_json.specs.declared.value.Value.{Value}
use Rattle.tk_plan_json.specs.Checks.{Row, first, row, unknown, member_at, member_wrong}
use Rattle.tk_plan_json.specs.Pointers.{pointer, viewed, wrong_at}
use Rattle.tk_plan_json.specs.declared.members.json_paths.JsonPath.{JsonPath}
use Rattle.tk_plan_json.specs.Rows.{dtype_row, segment_row, name_row, mode_row, isolated_row, locks_row, skip_row, result_row, entries_row, files_row, children_row, dynamic_row, static_rows, dynamic_rows, static_node, dynamic_node}
use Rattle.tk_plan_json.specs.steps.Fields.{heading_rows, concurrency_rows, content_rows}

-- nothing is wrong with the first of two
pub passes : {A : Type 0} (x later o : Option A) → x ≡ None → later ≡ o → option_or x later ≡ o
passes x later o e l = ap (λ y. option_or y later) e ∙ l

-- the first of two is wrong
pub stops : {A : Type 0} (x later : Option A) (v : A) → x ≡ Some v → option_or x later ≡ Some v
stops x later v e = ap (λ y. option_or y later) e

-- what is wrong with a member, from the value that was found for it
pub row_found : (at : JsonPath) (r : Row) (value : Option (Bor Value)) (d : Data) → viewed value ≡ get r.name d → row (pointer at) d r ≡ wrong_at at r value
row_found at r value d e = ap (member_wrong r (member_at (pointer at) r.name)) (sym e)

three : {A : Type 0} (a b c later : Option A) → option_or a (option_or b (option_or c later)) ≡ option_or (option_or a (option_or b (option_or c None))) later
three (Some x) b c later = refl
three None (Some x) c later = refl
three None None (Some x) later = refl
three None None None later = refl

four : {A : Type 0} (a b c d later : Option A) → option_or a (option_or b (option_or c (option_or d later))) ≡ option_or (option_or a (option_or b (option_or c (option_or d None)))) later
four (Some x) b c d later = refl
four None b c d later = three b c d later

three_groups : {A : Type 0} (u a b c d e f g h i later : Option A)
    → option_or u (option_or a (option_or b (option_or c (option_or d (option_or e (option_or f (option_or g (option_or h (option_or i later)))))))))
    ≡ option_or u (option_or (option_or a (option_or b (option_or c None))) (option_or (option_or d (option_or e (option_or f None))) (option_or (option_or g (option_or h (option_or i None))) later)))
three_groups u a b c d e f g h i later =
    ap (option_or u) (three a b c (option_or d (option_or e (option_or f (option_or g (option_or h (option_or i later))))))
    ∙ ap (option_or (option_or a (option_or b (option_or c None)))) (three d e f (option_or g (option_or h (option_or i later)))
    ∙ ap (option_or (option_or d (option_or e (option_or f None)))) (three g h i later)))

two_groups : {A : Type 0} (u a b c g h i later : Option A)
    → option_or u (option_or a (option_or b (option_or c (option_or g (option_or h (option_or i later))))))
    ≡ option_or u (option_or (option_or a (option_or b (option_or c None))) (option_or (option_or g (option_or h (option_or i None))) later))
two_groups u a b c g h i later =
    ap (option_or u) (three a b c (option_or g (option_or h (option_or i later)))
    ∙ ap (option_or (option_or a (option_or b (option_or c None)))) (three g h i later))

-- with a fourth row in the last group
three_groups_more : {A : Type 0} (u a b c d e f g h i j later : Option A)
    → option_or u (option_or a (option_or b (option_or c (option_or d (option_or e (option_or f (option_or g (option_or h (option_or i (option_or j later))))))))))
    ≡ option_or u (option_or (option_or a (option_or b (option_or c None))) (option_or (option_or d (option_or e (option_or f None))) (option_or (option_or g (option_or h (option_or i (option_or j None)))) later)))
three_groups_more u a b c d e f g h i j later =
    ap (option_or u) (three a b c (option_or d (option_or e (option_or f (option_or g (option_or h (option_or i (option_or j later)))))))
    ∙ ap (option_or (option_or a (option_or b (option_or c None)))) (three d e f (option_or g (option_or h (option_or i (option_or j later))))
    ∙ ap (option_or (option_or d (option_or e (option_or f None)))) (four g h i j later)))

two_groups_more : {A : Type 0} (u a b c g h i j later : Option A)
    → option_or u (option_or a (option_or b (option_or c (option_or g (option_or h (option_or i (option_or j later)))))))
    ≡ option_or u (option_or (option_or a (option_or b (option_or c None))) (option_or (option_or g (option_or h (option_or i (option_or j None)))) later))
two_groups_more u a b c g h i j later =
    ap (option_or u) (three a b c (option_or g (option_or h (option_or i (option_or j later))))
    ∙ ap (option_or (option_or a (option_or b (option_or c None)))) (four g h i j later))

pub static_groups : (fs : Bool) (at : List ℕ) (d : Data) → static_node fs at d
    ≡ option_or (unknown (map (λ r. r.name) (static_rows fs)) at d) (option_or (first (map (row at d) heading_rows)) (option_or (first (map (row at d) concurrency_rows))
    (option_or (first (map (row at d) (content_rows fs))) (option_or (row at d children_row) (option_or (row at d dynamic_row) None)))))
static_groups false at d =
    three_groups (unknown (map (λ r. r.name) (static_rows false)) at d) (row at d dtype_row) (row at d segment_row) (row at d name_row) (row at d mode_row) (row at d isolated_row) (row at d locks_row)
    (row at d skip_row) (row at d result_row) (row at d entries_row) (option_or (row at d children_row) (option_or (row at d dynamic_row) None))
static_groups true at d =
    three_groups_more (unknown (map (λ r. r.name) (static_rows true)) at d) (row at d dtype_row) (row at d segment_row) (row at d name_row) (row at d mode_row) (row at d isolated_row) (row at d locks_row)
    (row at d skip_row) (row at d result_row) (row at d entries_row) (row at d files_row) (option_or (row at d children_row) (option_or (row at d dynamic_row) None))

pub dynamic_groups : (fs : Bool) (at : List ℕ) (d : Data) → dynamic_node fs at d
    ≡ option_or (unknown (map (λ r. r.name) (dynamic_rows fs)) at d) (option_or (first (map (row at d) heading_rows)) (option_or (first (map (row at d) (content_rows fs))) (option_or (row at d dynamic_row) None)))
dynamic_groups false at d =
    two_groups (unknown (map (λ r. r.name) (dynamic_rows false)) at d) (row at d dtype_row) (row at d segment_row) (row at d name_row)
    (row at d skip_row) (row at d result_row) (row at d entries_row) (option_or (row at d dynamic_row) None)
dynamic_groups true at d =
    two_groups_more (unknown (map (λ r. r.name) (dynamic_rows true)) at d) (row at d dtype_row) (row at d segment_row) (row at d name_row)
    (row at d skip_row) (row at d result_row) (row at d entries_row) (row at d files_row) (option_or (row at d dynamic_row) None)
