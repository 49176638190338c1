-- The machine that reads a condition byte by byte. Its state says which brackets of `all(`, `any(`
-- and `not(` are open, the last one first, and in which part of the grammar the next byte stands.
use Rattle.std.specs.Prelude.{ℕ, Bool, false, List, [], ◌∷◌, ◌++◌, Option, Some, None}
use Rattle.std.specs.Prelude.{option_and_then, option_map, ◌==◌, ◌||◌, if◌then◌else◌, bytes_eq}
use Rattle.std.specs.Prelude.{codes, map}
use Rattle.std.specs.List.{list_any}
use Rattle.tk_query_conditions.specs.Characters.{percent, opening_bracket, closing_bracket, comma}
use Rattle.tk_query_conditions.specs.Cond.{Bare, Test, Container, Engine, Started, Succeeded}
use Rattle.tk_query_conditions.specs.Cond.{Failed, Aborted, TextAtom, Id, Name, Skipped, FailedWith}
use Rattle.tk_query_conditions.specs.Cond.{AbortedWith, Message, File, Pairs, NoPairs, MorePairs}
use Rattle.tk_query_conditions.specs.Cond.{Cond, Plain, With, OfKind, HasSegment, HasPairs, All}
use Rattle.tk_query_conditions.specs.Cond.{Any, Not, Conds, Nothing, More, kind_text}
use Rattle.tk_query_conditions.specs.declared.partial_texts.Escape.{Escape}
use Rattle.tk_query_conditions.specs.declared.partial_texts.Escape.TheVariants.{Outside, Percent}
use Rattle.tk_query_conditions.specs.declared.partial_texts.Escape.TheVariants.{Digit}
use Rattle.tk_events.specs.declared.kinds.Kind.{Kind}
use Rattle.tk_events.specs.declared.kinds.Kind.TheVariants as event
use Rattle.tk_query_conditions.specs.Reading.{begins_with}

-- `2`, with which the two digits of each escape begin
abbrev pub digit_two : ℕ
digit_two = 50

-- `5`, the last digit of `%25`
abbrev pub digit_five : ℕ
digit_five = 53

-- `8`, the last digit of `%28`
abbrev pub digit_eight : ℕ
digit_eight = 56

-- `9`, the last digit of `%29`
abbrev pub digit_nine : ℕ
digit_nine = 57

-- `C`, the last digit of `%2C`
abbrev pub digit_c : ℕ
digit_c = 67

-- an open bracket of `all(`, `any(` or `not(`, with the members that are read
pub data OpenGroup : Type 0 where
  OpenNot : OpenGroup
  OpenAll : Conds → OpenGroup
  OpenAny : Conds → OpenGroup

-- where the reading stands in a text, with the open brackets, the last one first
pub data State : Type 0 where
  -- in a word, or where a condition may begin
  Word : List OpenGroup → List ℕ → State
  -- in the text of an atom
  InText : List OpenGroup → TextAtom → List ℕ × Escape → State
  -- in the name of a kind
  InKind : List OpenGroup → List ℕ → State
  -- in the tag of a segment
  InTag : List OpenGroup → List ℕ × Escape → State
  -- in the value of a segment, after its tag
  InValue : List OpenGroup → List ℕ → List ℕ × Escape → State
  -- in the pairs of an entry: the whole pairs, the key of the next one if it is read, and its text
  InPairs : List OpenGroup → Pairs → Option (List ℕ) → List ℕ × Escape → State
  -- after a whole condition
  After : List OpenGroup → Cond → State

-- what a table has under a word
abbrev pub look : {A : Type 0} → List (List ℕ × A) → List ℕ → Option A
look [] word = None
look (entry ∷ table) word = if bytes_eq word entry.0 then Some entry.1 else look table word

-- the atoms of one word, by their words
abbrev pub bares : List (List ℕ × Bare)
bares =
    (codes "test", Test)
    ∷ (codes "container", Container)
    ∷ (codes "engine", Engine)
    ∷ (codes "started", Started)
    ∷ (codes "succeeded", Succeeded)
    ∷ (codes "failed", Failed)
    ∷ (codes "aborted", Aborted)
    ∷ []

abbrev pub all_kinds : List Kind
all_kinds =
    event.Dynamic ∷ event.Skipped ∷ event.Started
    ∷ event.Finished ∷ event.Reporting ∷ event.File ∷ []

-- the kinds of events, by their names
abbrev pub kinds : List (List ℕ × Kind)
kinds = map (λ kind. (kind_text kind, kind)) all_kinds

-- what a word with a bracket opens
pub data Opener : Type 0 where
  OfText : TextAtom → Opener
  OfKinds : Opener
  OfSegment : Opener
  OfPairs : Opener
  OfAll : Opener
  OfAny : Opener
  OfNot : Opener

-- the words that stand before a bracket
abbrev pub openers : List (List ℕ × Opener)
openers =
    (codes "id", OfText Id)
    ∷ (codes "name", OfText Name)
    ∷ (codes "skipped", OfText Skipped)
    ∷ (codes "failed", OfText FailedWith)
    ∷ (codes "aborted", OfText AbortedWith)
    ∷ (codes "message", OfText Message)
    ∷ (codes "file", OfText File)
    ∷ (codes "kind", OfKinds)
    ∷ (codes "segment", OfSegment)
    ∷ (codes "entry", OfPairs)
    ∷ (codes "all", OfAll)
    ∷ (codes "any", OfAny)
    ∷ (codes "not", OfNot)
    ∷ []

-- some word of the table begins with this one
abbrev pub is_prefix : {A : Type 0} → List (List ℕ × A) → List ℕ → Bool
is_prefix table word = list_any (λ entry. begins_with word entry.0) table

-- the character whose escape has this last digit
abbrev pub special_of : ℕ → Option ℕ
special_of b =
    if b == digit_five then Some percent
    else (if b == digit_eight then Some opening_bracket
    else (if b == digit_nine then Some closing_bracket
    else (if b == digit_c then Some comma
    else None)))

-- a bracket or a comma, which ends a text and stands in it only as an escape
abbrev pub is_delimiter : ℕ → Bool
is_delimiter b = b == opening_bracket || (b == closing_bracket || b == comma)

-- one more byte inside a text
abbrev pub text_step : List ℕ × Escape → ℕ → Option (List ℕ × Escape)
text_step (bytes, Outside) b =
    if b == percent then Some (bytes, Percent)
    else (if is_delimiter b then None
    else Some (bytes ++ b ∷ [], Outside))
text_step (bytes, Percent) b = if b == digit_two then Some (bytes, Digit) else None
text_step (bytes, Digit) b = option_map (λ c. (bytes ++ c ∷ [], Outside)) (special_of b)

-- the text is whole, and this byte ends it
abbrev pub ends_at : ℕ → List ℕ × Escape → ℕ → Bool
ends_at stop (bytes, Outside) b = b == stop
ends_at stop (bytes, Percent) b = false
ends_at stop (bytes, Digit) b = false

-- `)` or `,` after a condition
abbrev pub close : List OpenGroup → Cond → ℕ → Option State
close [] c b = None
close (OpenNot ∷ stack) c b = if b == closing_bracket then Some (After stack (Not c)) else None
close (OpenAll cs ∷ stack) c b =
    if b == closing_bracket then Some (After stack (All (More cs c)))
    else (if b == comma then Some (Word (OpenAll (More cs c) ∷ stack) [])
    else None)
close (OpenAny cs ∷ stack) c b =
    if b == closing_bracket then Some (After stack (Any (More cs c)))
    else (if b == comma then Some (Word (OpenAny (More cs c) ∷ stack) [])
    else None)

-- `)` after a bracket without a member: `all()` and `any()` are conditions
abbrev pub close_empty : List OpenGroup → ℕ → Option State
close_empty (OpenAll Nothing ∷ stack) b =
    if b == closing_bracket then Some (After stack (All Nothing)) else None
close_empty (OpenAny Nothing ∷ stack) b =
    if b == closing_bracket then Some (After stack (Any Nothing)) else None
close_empty _ b = None

-- `(` after a word that stands before a bracket
abbrev pub opened : List OpenGroup → Opener → State
opened stack (OfText text_atom) = InText stack text_atom ([], Outside)
opened stack OfKinds = InKind stack []
opened stack OfSegment = InTag stack ([], Outside)
opened stack OfPairs = InPairs stack NoPairs None ([], Outside)
opened stack OfAll = Word (OpenAll Nothing ∷ stack) []
opened stack OfAny = Word (OpenAny Nothing ∷ stack) []
opened stack OfNot = Word (OpenNot ∷ stack) []

-- `)` or `,` after a word, or after nothing
abbrev pub after_word : List OpenGroup → List ℕ → ℕ → Option State
after_word stack [] b = close_empty stack b
after_word stack (x ∷ word) b =
    option_and_then (λ bare. close stack (Plain bare) b) (look bares (x ∷ word))

-- `,` after a whole text in the pairs of an entry
abbrev pub next_text : List OpenGroup → Pairs → Option (List ℕ) → List ℕ → State
next_text stack pairs None text = InPairs stack pairs (Some text) ([], Outside)
next_text stack pairs (Some key) text = InPairs stack (MorePairs pairs key text) None ([], Outside)

-- `)` after a whole text in the pairs of an entry, or in an entry without pairs
abbrev pub last_text : List OpenGroup → Pairs → Option (List ℕ) → List ℕ → Option State
last_text stack pairs (Some key) text = Some (After stack (HasPairs (MorePairs pairs key text)))
last_text stack NoPairs None [] = Some (After stack (HasPairs NoPairs))
last_text stack _ None _ = None

-- one more letter of a word, where some word goes on so
abbrev pub longer_word : List OpenGroup → List ℕ → Option State
longer_word stack word =
    if is_prefix bares word || is_prefix openers word then Some (Word stack word) else None

-- one more letter of a kind's name, where some name goes on so
abbrev pub longer_kind : List OpenGroup → List ℕ → Option State
longer_kind stack word = if is_prefix kinds word then Some (InKind stack word) else None

-- the state after one more byte; none where no condition's text has the byte there
abbrev pub step : State → ℕ → Option State
step (After stack c) b = close stack c b
step (Word stack word) b =
    if b == closing_bracket || b == comma then after_word stack word b
    else (if b == opening_bracket then option_map (opened stack) (look openers word)
    else longer_word stack (word ++ b ∷ []))
step (InText stack text_atom partial) b =
    if ends_at closing_bracket partial b then Some (After stack (With text_atom partial.0))
    else option_map (InText stack text_atom) (text_step partial b)
step (InKind stack word) b =
    if b == closing_bracket then option_map (λ kind. After stack (OfKind kind)) (look kinds word)
    else longer_kind stack (word ++ b ∷ [])
step (InTag stack partial) b =
    if ends_at comma partial b then Some (InValue stack partial.0 ([], Outside))
    else option_map (InTag stack) (text_step partial b)
step (InValue stack tag partial) b =
    if ends_at closing_bracket partial b then Some (After stack (HasSegment tag partial.0))
    else option_map (InValue stack tag) (text_step partial b)
step (InPairs stack pairs key partial) b =
    if ends_at comma partial b then Some (next_text stack pairs key partial.0)
    else (if ends_at closing_bracket partial b then last_text stack pairs key partial.0
    else option_map (InPairs stack pairs key) (text_step partial b))

-- before the first byte
abbrev pub start : State
start = Word [] []

-- the condition that is whole where its text ends, or where `)` or `,` follows
abbrev pub ended : State → Option (List OpenGroup × Cond)
ended (Word stack word) = option_map (λ bare. (stack, Plain bare)) (look bares word)
ended (After stack c) = Some (stack, c)
ended _ = None

-- the condition that `)` makes of a bracket and its last member
abbrev pub closed : OpenGroup → Cond → Cond
closed OpenNot c = Not c
closed (OpenAll cs) c = All (More cs c)
closed (OpenAny cs) c = Any (More cs c)

-- the condition that `)` makes of a bracket without a member
abbrev pub closed_empty : OpenGroup → Option Cond
closed_empty (OpenAll Nothing) = Some (All Nothing)
closed_empty (OpenAny Nothing) = Some (Any Nothing)
closed_empty _ = None

-- the bracket after a member and a comma
abbrev pub joined : OpenGroup → Cond → Option OpenGroup
joined OpenNot c = None
joined (OpenAll cs) c = Some (OpenAll (More cs c))
joined (OpenAny cs) c = Some (OpenAny (More cs c))
