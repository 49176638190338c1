use Rattle.std.proofs.Common.{◌≡◌, take, map}
use Rattle.std.specs.List.{list_all, list_any}
use Rattle.tk_query.specs.Holds.{holds}
use Rattle.tk_query.proofs.masks.+masks.Given as goal

abbrev pub invariant-all_mask-loop-member : goal.invariant-all_mask-loop-member
invariant-all_mask-loop-member l = l.flags ≡ map (λ e. list_all (λ member. holds l.«record» member e) (take l.member-index l.members)) l.«record».entries

abbrev pub invariant-any_mask-loop-member : goal.invariant-any_mask-loop-member
invariant-any_mask-loop-member l = l.flags ≡ map (λ e. list_any (λ member. holds l.«record» member e) (take l.member-index l.members)) l.«record».entries
