-- Conditions and their texts.
use Rattle.std.specs.Prelude.{◌≡◌, ℕ, ◌==◌, if◌then◌else◌, List, [], ◌∷◌, ◌++◌, codes}
use Rattle.tk_query_conditions.specs.Characters.{percent, opening_bracket, closing_bracket, comma}
use Rattle.tk_events.specs.declared.kinds.Kind.{Kind}
use Rattle.tk_events.specs.Event.{kind_word}

-- atoms of one word
pub data Bare : Type 0 where
  Test : Bare
  Container : Bare
  Engine : Bare
  Started : Bare
  Succeeded : Bare
  Failed : Bare
  Aborted : Bare

-- atoms with a text
pub data TextAtom : Type 0 where
  Id : TextAtom
  Name : TextAtom
  Skipped : TextAtom
  FailedWith : TextAtom
  AbortedWith : TextAtom
  Message : TextAtom
  File : TextAtom

-- pairs of texts, the last one outermost
pub data Pairs : Type 0 where
  NoPairs : Pairs
  MorePairs : Pairs → List ℕ → List ℕ → Pairs

mutual
  -- a condition of an event
  pub data Cond : Type 0 where
    Plain : Bare → Cond
    With : TextAtom → List ℕ → Cond
    OfKind : Kind → Cond
    -- a segment with this tag and this value
    HasSegment : List ℕ → List ℕ → Cond
    HasPairs : Pairs → Cond
    All : Conds → Cond
    Any : Conds → Cond
    Not : Cond → Cond

  -- a list of conditions, the last one outermost
  pub data Conds : Type 0 where
    Nothing : Conds
    More : Conds → Cond → Conds

-- the word of an atom of one word
abbrev pub bare_text : Bare → List ℕ
bare_text Test = codes "test"
bare_text Container = codes "container"
bare_text Engine = codes "engine"
bare_text Started = codes "started"
bare_text Succeeded = codes "succeeded"
bare_text Failed = codes "failed"
bare_text Aborted = codes "aborted"

-- the word before the text of an atom
abbrev pub text_atom_text : TextAtom → List ℕ
text_atom_text Id = codes "id"
text_atom_text Name = codes "name"
text_atom_text Skipped = codes "skipped"
text_atom_text FailedWith = codes "failed"
text_atom_text AbortedWith = codes "aborted"
text_atom_text Message = codes "message"
text_atom_text File = codes "file"

-- the name of a kind: its word
abbrev pub kind_text : Kind → List ℕ
kind_text kind = kind_word kind

-- the spelling of a byte inside a text: an escape for the four characters, the byte for each other
abbrev pub spelled_by : ℕ → List ℕ
spelled_by b =
    if b == percent then codes "%25"
    else (if b == opening_bracket then codes "%28"
    else (if b == closing_bracket then codes "%29"
    else (if b == comma then codes "%2C"
    else b ∷ [])))

-- a text with its escapes
abbrev pub escaped : List ℕ → List ℕ
escaped [] = []
escaped (b ∷ text) = spelled_by b ++ escaped text

abbrev mutual
  -- the texts of pairs, with a comma between each two texts
  pub pairs_text : Pairs → List ℕ
  pairs_text NoPairs = []
  pairs_text (MorePairs pairs key value) =
      pairs_lead pairs ++ (escaped key ++ comma ∷ escaped value)

  -- what stands before one more pair: the pairs before it, and a comma if there are any
  pub pairs_lead : Pairs → List ℕ
  pairs_lead NoPairs = []
  pairs_lead (MorePairs pairs key value) =
      (pairs_lead pairs ++ (escaped key ++ comma ∷ escaped value)) ++ comma ∷ []

abbrev mutual
  -- the text of a condition
  pub cond_text : Cond → List ℕ
  cond_text (Plain bare) = bare_text bare
  cond_text (With text_atom text) =
      text_atom_text text_atom ++ opening_bracket ∷ escaped text ++ closing_bracket ∷ []
  cond_text (OfKind kind) = codes "kind(" ++ kind_text kind ++ closing_bracket ∷ []
  cond_text (HasSegment tag value) =
      codes "segment(" ++ (escaped tag ++ comma ∷ escaped value) ++ closing_bracket ∷ []
  cond_text (HasPairs pairs) = codes "entry(" ++ pairs_text pairs ++ closing_bracket ∷ []
  cond_text (All cs) = codes "all(" ++ list_text cs ++ closing_bracket ∷ []
  cond_text (Any cs) = codes "any(" ++ list_text cs ++ closing_bracket ∷ []
  cond_text (Not c) = codes "not(" ++ cond_text c ++ closing_bracket ∷ []

  -- the texts of conditions, with a comma between each two
  pub list_text : Conds → List ℕ
  list_text Nothing = []
  list_text (More cs c) = lead_text cs ++ cond_text c

  -- what stands before a further condition: the conditions before it, and a comma if there are any
  pub lead_text : Conds → List ℕ
  lead_text Nothing = []
  lead_text (More cs c) = (lead_text cs ++ cond_text c) ++ comma ∷ []

-- a text is that of some condition
abbrev pub IsCondText : List ℕ → Type 0
IsCondText text = (c : Cond) × (text ≡ cond_text c)
