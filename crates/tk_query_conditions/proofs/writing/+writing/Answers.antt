use Rattle.std.proofs.Common.{◌++◌, ◌∷◌, [], string_bytes}
use Rattle.tk_query_conditions.proofs.WritingLemmas.{member_written, written_after, all_text, any_text, atom_text}
use Rattle.tk_query_conditions.specs.CondOf.{cond_of}
use Rattle.tk_query_conditions.proofs.writing.+writing.Goals as goal

pub push_condition-returns-in-All : goal.push_condition-returns-in-All
push_condition-returns-in-All t c =
    written_after c.push_members.result (cond_of c.args.condition.now) _ _ _ _ _ c.in_ok-push_str.ensures.bytes c.word.ensures
    (all_text c.args.condition.now c.in-All.members c.deref.result.now c.in-All.is c.deref.ensures.value) c.push_members.ensures

pub push_condition-returns-in-Any : goal.push_condition-returns-in-Any
push_condition-returns-in-Any t c =
    written_after c.push_members-in-Any.result (cond_of c.args.condition.now) _ _ _ _ _ c.in_ok-push_str.ensures.bytes c.word.ensures
    (any_text c.args.condition.now c.in-Any.members c.deref-in-Any.result.now c.in-Any.is c.deref-in-Any.ensures.value) c.push_members-in-Any.ensures

pub push_condition-returns-in_default : goal.push_condition-returns-in_default
push_condition-returns-in_default t c =
    written_after c.push_operand.result (cond_of c.args.condition.now) _ _ _ _ _ c.in_ok-push_str.ensures.bytes c.word.ensures
    (atom_text c.args.condition.now c.in_default.not-All c.in_default.not-Any c.in_default.not-Not) c.push_operand.ensures

pub push_members-loop-at-preserved : goal.push_members-loop-at-preserved
push_members-loop-at-preserved t c =
    member_written c.args.members.now c.loop-at.at c.index-members-at.result (string_bytes c.args.out.now ++ 40 ∷ []) (string_bytes c.loop-at.out) (string_bytes c.push_separator.new.out) (string_bytes c.push_condition.new.out)
    c.loop-at-test.true c.index-members-at.is c.loop-at.invariant c.in_ok-push_separator.ensures c.in_ok-push_condition.ensures
