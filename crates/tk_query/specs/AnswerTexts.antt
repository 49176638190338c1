-- The answers in the program's words.
use Rattle.std.specs.Prelude.{ℕ, Bool, true, false, List, ◌∷◌, ◌++◌, codes}
use Rattle.std.specs.List.{flat_map}
use Rattle.std.specs.Fmt.{decimal}
use Rattle.tk_query.specs.declared.answers.Exact.{Exact}
use Rattle.tk_query.specs.declared.answers.Exact.TheVariants as exact
use Rattle.tk_query.specs.declared.answers.Exclusive.{Exclusive}
use Rattle.tk_query.specs.declared.answers.Exclusive.TheVariants as exclusives
use Rattle.tk_query.specs.declared.answers.InOrder.{InOrder}
use Rattle.tk_query.specs.declared.answers.InOrder.TheVariants as in_order
use Rattle.tk_query.specs.declared.answers.Loose.{Loose}
use Rattle.tk_query.specs.declared.answers.Loose.TheVariants as loose
use Rattle.tk_query.specs.declared.execution.Ending.{Ending}
use Rattle.tk_query.specs.declared.execution.Ending.TheVariants.{Skipped, Aborted, Successful}
use Rattle.tk_query.specs.declared.execution.Ending.TheVariants.{Failed}

-- one blank
abbrev pub blank : ℕ
blank = 32

abbrev pub exact_text : Exact → List ℕ
exact_text exact.Yes = codes "yes"
exact_text exact.WrongCount = codes "wrong-count"
exact_text (exact.No k) = codes "no " ++ decimal k

abbrev pub exact_yes : Exact → Bool
exact_yes exact.Yes = true
exact_yes _ = false

abbrev pub loose_text : Loose → List ℕ
loose_text loose.Yes = codes "yes"
loose_text (loose.No k) = codes "no " ++ decimal k

abbrev pub loose_yes : Loose → Bool
loose_yes loose.Yes = true
loose_yes (loose.No _) = false

-- a position after a blank
abbrev pub position_text : ℕ → List ℕ
position_text position = blank ∷ decimal position

abbrev pub in_order_text : InOrder → List ℕ
in_order_text (in_order.Yes positions) = codes "yes" ++ flat_map position_text positions.items
in_order_text (in_order.No k) = codes "no " ++ decimal k

abbrev pub in_order_yes : InOrder → Bool
in_order_yes (in_order.Yes _) = true
in_order_yes (in_order.No _) = false

-- executions that conflict kept away from each other, or the starts of the first two that didn't,
-- or no two conflict
abbrev pub exclusive_text : Exclusive → List ℕ
exclusive_text exclusives.Yes = codes "yes"
exclusive_text (exclusives.No p q) = codes "no " ++ decimal p ++ blank ∷ decimal q
exclusive_text exclusives.NoPair = codes "no pair"

abbrev pub exclusive_yes : Exclusive → Bool
exclusive_yes exclusives.Yes = true
exclusive_yes _ = false

abbrev pub ending_name : Ending → List ℕ
ending_name Skipped = codes "skipped"
ending_name Aborted = codes "aborted"
ending_name Successful = codes "succeeded"
ending_name Failed = codes "failed"
