-- How a condition's text is put together: a word, and what stands in brackets after it.
use Rattle.std.specs.Prelude.{ℕ, zero, suc, List, [], ◌∷◌, ◌++◌, codes}
use Rattle.tk_query_conditions.specs.Characters.{opening_bracket, closing_bracket, comma}
use Rattle.tk_query_conditions.specs.Cond.{Cond, Plain, With, OfKind, HasSegment, HasPairs, All}
use Rattle.tk_query_conditions.specs.Cond.{Any, Not, bare_text, text_atom_text, kind_text, escaped}
use Rattle.tk_query_conditions.specs.Cond.{pairs_text}

-- the word with which a condition's text begins
abbrev pub word_of : Cond → List ℕ
word_of (Plain bare) = bare_text bare
word_of (With text_atom text) = text_atom_text text_atom
word_of (OfKind kind) = codes "kind"
word_of (HasSegment tag value) = codes "segment"
word_of (HasPairs pairs) = codes "entry"
word_of (All cs) = codes "all"
word_of (Any cs) = codes "any"
word_of (Not c) = codes "not"

-- what stands before the item at a position in a list: a comma, except before the first
abbrev pub separator : ℕ → List ℕ
separator zero = []
separator (suc n) = comma ∷ []

-- what stands after an atom's word; nothing for a condition that has members
abbrev pub operand_text : Cond → List ℕ
operand_text (With text_atom text) = opening_bracket ∷ escaped text ++ closing_bracket ∷ []
operand_text (OfKind kind) =
    opening_bracket ∷ escaped (kind_text kind) ++ closing_bracket ∷ []
operand_text (HasSegment tag value) =
    opening_bracket ∷ (escaped tag ++ comma ∷ escaped value) ++ closing_bracket ∷ []
operand_text (HasPairs pairs) = opening_bracket ∷ pairs_text pairs ++ closing_bracket ∷ []
operand_text _ = []
