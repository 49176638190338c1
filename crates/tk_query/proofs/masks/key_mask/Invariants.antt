use Rattle.std.proofs.Common.{◌≡◌, take, map}
use Rattle.std.specs.Prelude.{if◌then◌else◌}
use Rattle.tk_query.specs.steps.Rules.{key_passes, AreAnswers}
use Rattle.tk_query.proofs.masks.key_mask.Given as goal

abbrev pub invariant-loop-key : goal.invariant-loop-key
invariant-loop-key l = record {
  column_is : l.column.items ≡ map (λ key. if key_passes l.test l.«record» key then 1 else 0) (take l.key-index l.keys);
  answers_are : AreAnswers l.«record» l.test l.answers.items;
}
