-- How texts begin.
use Rattle.std.specs.Prelude.{ℕ, Bool, true, false, List, [], ◌∷◌, ◌==◌, ◌&&◌}

-- the text begins with the prefix
abbrev pub begins_with : List ℕ → List ℕ → Bool
begins_with [] text = true
begins_with (b ∷ prefix) [] = false
begins_with (b ∷ prefix) (c ∷ text) = b == c && begins_with prefix text
