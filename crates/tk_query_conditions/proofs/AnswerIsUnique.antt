-- A text has one answer.
use Rattle.std.proofs.Common.{ℕ, ◌≤◌, List, length, Ok, Err, refl, sym, ◌∙◌, arith}
use Rattle.tk_query_conditions.specs.Answer.{IsBadAt, IsDeepAt, IsShallowTo}
use Rattle.tk_query_conditions.specs.Cond.{cond_text}
use Rattle.tk_query_conditions.specs.CondOf.{cond_of}
use Rattle.tk_query_conditions.specs.Laws.{AnswerIsUnique, TextIsRead}
use Rattle.tk_query_conditions.specs.declared.faults.CondFault.TheVariants.{BadAtom, Deep, Memory}
use Rattle.tk_query_conditions.proofs.CondLemmas.{one_cond}

not_deep : (text : List ℕ) (n m : ℕ) → IsDeepAt text n → n ≤ m → IsShallowTo text m → ⊥
not_deep text n m deep le shallow = let low = shallow n le in let high = deep.deep in omega arith

bad_not_deep : (text : List ℕ) (at n : ℕ) → IsBadAt text at → IsDeepAt text n → ⊥
bad_not_deep text at n bad deep = not_deep text n at deep (bad.prefix.longest n deep.within deep.begins) bad.shallow

pub answer_is_unique : AnswerIsUnique
answer_is_unique text (Err Memory) b h k = tt
answer_is_unique text (Ok c) (Ok d) h k = one_cond (cond_of c) (cond_of d) (sym h.0 ∙ k.0)
answer_is_unique text (Ok c) (Err Memory) h k = tt
answer_is_unique text (Ok c) (Err (BadAtom n)) h k = k.no_condition (cond_of c, h.0)
answer_is_unique text (Ok c) (Err Deep) h k = not_deep text k.0 (length text) k.1 k.1.within h.1
answer_is_unique text (Err (BadAtom m)) (Ok d) h k = h.no_condition (cond_of d, k.0)
answer_is_unique text (Err (BadAtom m)) (Err (BadAtom n)) h k =
    let a = h.prefix.longest n k.prefix.within k.prefix.begins in
    let b = k.prefix.longest m h.prefix.within h.prefix.begins in
    omega arith
answer_is_unique text (Err (BadAtom m)) (Err Memory) h k = tt
answer_is_unique text (Err (BadAtom m)) (Err Deep) h k = bad_not_deep text m k.0 h k.1
answer_is_unique text (Err Deep) (Ok d) h k = not_deep text h.0 (length text) h.1 h.1.within k.1
answer_is_unique text (Err Deep) (Err (BadAtom n)) h k = bad_not_deep text n h.0 k h.1
answer_is_unique text (Err Deep) (Err Deep) h k = tt
answer_is_unique text (Err Deep) (Err Memory) h k = tt

pub text_is_read : TextIsRead
text_is_read c answer shallow read = answer_is_unique (cond_text (cond_of c)) (Ok c) answer (refl, shallow) read
