-- Rules of conditions, and what they imply.
use Rattle.std.proofs.Common.{◌≡◌, ℕ, zero, suc, ◌<◌, Bool, false, ◌&&◌, List, [], ◌∷◌, length, get_or, Option, Some, None, IfSome, sym, ap, ◌∙◌, arith}
use Rattle.std.specs.List.{list_all}
use Rattle.tk_events.specs.declared.events.Entry.{Entry}
use Rattle.tk_record.specs.Recorded.{Recorded}
use Rattle.tk_query_conditions.specs.declared.conditions.Condition.{Condition}
use Rattle.tk_query.specs.declared.rules.Rule.{Rule}
use Rattle.tk_query.specs.Holds.{holds}
use Rattle.tk_query.specs.steps.Rules.{IsRuleOf, rule_holds}
use Rattle.tk_query.proofs.MatchLemmas.{and_false}

pub some_map : {A : Type 0} (o : Option A) (P Q : A → Type 0) → ((a : A) → P a → Q a) → IfSome o P → IfSome o Q
some_map None P Q f h = h
some_map (Some a) P Q f h = f a h

-- one that fails is enough
pub all_false : {A : Type 0} (p : A → Bool) (xs : List A) (i : ℕ) (d : A) → i < length xs → p (get_or xs i d) ≡ false → list_all p xs ≡ false
all_false p [] i d lt fails = absurd (omega arith)
all_false p (x ∷ xs) zero d lt fails = ap (λ b. b && list_all p xs) fails
all_false p (x ∷ xs) (suc i) d lt fails = ap (λ b. p x && b) (all_false p xs i d (omega arith) fails) ∙ sym (and_false (p x))

pub ruled : (c d : Condition) (rule : Rule) → c ≡ d → ((r : Recorded) (e : Entry) → holds r d e ≡ rule_holds rule r e) → IsRuleOf c rule
ruled c d rule is same = record { judges = λ atom r e. ap (λ x. holds r x e) is ∙ same r e }
