use Rattle.std.proofs.Common.{◌≡◌, ◌++◌, string_bytes}
use Rattle.std.specs.List.{flat_map}
use Rattle.tk_expectations.specs.Lists.{indented}
use Rattle.tk_expectations.proofs.lists.add_first_lines.Given as goal

abbrev pub invariant-loop-line : goal.invariant-loop-line
invariant-loop-line l =
    string_bytes l.text
    ≡ string_bytes l.initial.text ++ flat_map (λ line. indented line.now) l.yielded
