use Rattle.std.proofs.Common.{◌≡◌, ◌++◌, length, map, string_bytes}
use Rattle.std.specs.List.{flat_map}
use denote.Text.{Utf8}
use denote.Shadow.{shadow}
use Rattle.tk_expectations.proofs.Judging.{ended}
use Rattle.tk_expectations.proofs.expectations.words_of.Given as goal

abbrev pub invariant-words : goal.invariant-words
invariant-words l = shadow (Utf8 l.rest)
    × (l.fn.text ≡ flat_map ended (map string_bytes l.words.items) ++ l.rest)

abbrev pub decreases-words : goal.decreases-words
decreases-words l = length l.rest
