use Rattle.std.proofs.Common.{◌≡◌, ◌++◌, ◌∷◌, [], map, ◌∙◌, sym, ap, ap₂, drop, take, arith}
use Rattle.std.proofs.lemmas.List.{drop_all, take_all}
use Rattle.serde_json.specs.View.{view}
use Rattle.tk_plan_json.specs.Checks.{items_wrong}
use Rattle.tk_plan_json.specs.Rows.{nonempty_text}
use Rattle.tk_plan_json.specs.Contents.{json_path}
use Rattle.tk_plan_json.proofs.Items.{array_items, listed_items, values_next}
use Rattle.tk_plan_json.proofs.LockItems.{items_next, taken_next}
use Rattle.tk_plan_json.proofs.members.file_members.files.Goals as goal

pub loop-index-init : goal.loop-index-init
loop-index-init c = (array_items nonempty_text _ _ _ c.in-Some.ensures, c.new-paths.ensures.items)

pub returns : goal.returns
returns c =
    let l = c.loop-index in
    let xs = c.in-Some.items.now in
    let none : drop l.index xs ≡ [] = drop_all l.index xs (omega arith) in
    let all : take l.index xs ≡ xs = take_all l.index xs (omega arith) in (
      l.invariant.0 ∙ ap (λ vs. items_wrong nonempty_text c.args.at.now l.index (map view vs)) none,
      c.new.ensures ∙ l.invariant.1 ∙ ap (λ vs. map json_path (map view vs)) all ∙ ap (map json_path) (sym (listed_items _ _ c.in-Some.ensures)),
    )

pub loop-index-preserved : goal.loop-index-preserved
loop-index-preserved c =
    let xs = c.in-Some.items.now in
    let i = c.loop-index.index in
    let v = c.index-items-index.result in
    let k = c.in_ok-path.ensures in
    let split = values_next xs i v c.loop-index-test.true c.index-items-index.is in (
      items_next nonempty_text c.args.at.now (view c.args.value.now) i _ _ _ c.loop-index.invariant.0 split k.0,
      c.in_ok-push.ensures.items ∙ ap₂ (λ l x. l ++ x ∷ []) c.loop-index.invariant.1 k.1 ∙ sym (taken_next json_path xs i v c.loop-index-test.true c.index-items-index.is),
    )
