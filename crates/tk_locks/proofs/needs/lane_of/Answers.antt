use Rattle.std.proofs.Common.{sym, ◌∙◌}
use Rattle.std.proofs.lemmas.Nat.Bits.{shr_and_one, bit_at-lt}
use Rattle.tk_locks.proofs.Masks.{write_weight, read_weight, no_weight}
use Rattle.tk_locks.proofs.needs.lane_of.Goals as goal

pub returns-then-writes-resource-eq1-clause-value : goal.returns-then-writes-resource-eq1-clause-value
returns-then-writes-resource-eq1-clause-value c = let w = shr_and_one c.args.writes c.args.resource in write_weight _ _ (sym w ∙ c.if-writes-resource-eq1.true)

pub returns-then-reads-resource-eq1-clause-value : goal.returns-then-reads-resource-eq1-clause-value
returns-then-reads-resource-eq1-clause-value c = let r = shr_and_one c.args.reads c.args.resource in let w = shr_and_one c.args.writes c.args.resource in
    read_weight _ _ (bit_at-lt c.args.writes c.args.resource) (λ e. c.if-writes-resource-eq1.false (w ∙ e)) (sym r ∙ c.if-reads-resource-eq1.true)

pub returns-else-reads-resource-eq1-clause-value : goal.returns-else-reads-resource-eq1-clause-value
returns-else-reads-resource-eq1-clause-value c = let r = shr_and_one c.args.reads c.args.resource in let w = shr_and_one c.args.writes c.args.resource in
    no_weight _ _ (bit_at-lt c.args.reads c.args.resource) (bit_at-lt c.args.writes c.args.resource) (λ e. c.if-writes-resource-eq1.false (w ∙ e)) (λ e. c.if-reads-resource-eq1.false (r ∙ e))
