-- Which ids were registered, by their texts.
use Rattle.std.specs.Prelude.{ℕ, Bool, List, bytes_eq}
use Rattle.std.specs.List.{list_any}

-- whether a text is one of them
abbrev pub is_registered : List (List ℕ) → List ℕ → Bool
is_registered texts text = list_any (bytes_eq text) texts
