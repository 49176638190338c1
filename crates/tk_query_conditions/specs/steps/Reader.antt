-- What private clauses and proofs alone name.
use Rattle.std.specs.Prelude.{ℕ, List, [], ◌∷◌, ◌++◌, length, IsUtf8}
use Rattle.tk_query_conditions.specs.declared.conditions.Condition.{Condition}
use Rattle.tk_query_conditions.specs.Cond.{Conds, More, TextAtom, Id, Name, Skipped, FailedWith}
use Rattle.tk_query_conditions.specs.Cond.{AbortedWith, Message, File, NoPairs, Nothing}
use Rattle.tk_query_conditions.specs.CondOf.{cond_of, pairs_from}
use Rattle.tk_query_conditions.specs.declared.partial_texts.Escape.{Escape}
use Rattle.tk_query_conditions.specs.declared.partial_texts.Escape.TheVariants.{Outside, Percent}
use Rattle.tk_query_conditions.specs.declared.partial_texts.Escape.TheVariants.{Digit}
use Rattle.tk_query_conditions.specs.declared.readers.PartialPairs.{PartialPairs}
use Rattle.tk_query_conditions.specs.declared.readers.Position.{Position}
use Rattle.tk_query_conditions.specs.declared.readers.Reader.{Reader}
use Rattle.tk_query_conditions.specs.Characters.{percent}
use Rattle.tk_query_conditions.specs.steps.Reading.{OpenGroup, OpenNot, OpenAll, OpenAny, Opener}
use Rattle.tk_query_conditions.specs.steps.Reading.{OfText, OfKinds, OfSegment, OfPairs, OfAll}
use Rattle.tk_query_conditions.specs.steps.Reading.{OfAny, OfNot, State, Word, InText, InKind}
use Rattle.tk_query_conditions.specs.steps.Reading.{InTag, InValue, InPairs, After, digit_two}
use Rattle.tk_query_conditions.specs.declared.words.TextAtom as text_atom
use Rattle.tk_query_conditions.specs.declared.words.TextAtom.TheVariants as text_atoms
use Rattle.tk_query_conditions.specs.declared.words.Opener as opener
use Rattle.tk_query_conditions.specs.declared.words.Opener.TheVariants as openers
use Rattle.tk_query_conditions.specs.declared.open_groups.OpenGroup as group
use Rattle.tk_query_conditions.specs.declared.open_groups.OpenGroup.TheVariants as groups
use Rattle.tk_query_conditions.specs.declared.readers.Position.TheVariants as positions

-- members, after others
abbrev pub conds_from : Conds → List Condition → Conds
conds_from cs [] = cs
conds_from cs (c ∷ rest) = conds_from (More cs (cond_of c)) rest

abbrev pub text_atom_of : text_atom.TextAtom → TextAtom
text_atom_of text_atoms.Id = Id
text_atom_of text_atoms.Name = Name
text_atom_of text_atoms.Skipped = Skipped
text_atom_of text_atoms.Failed = FailedWith
text_atom_of text_atoms.Aborted = AbortedWith
text_atom_of text_atoms.Message = Message
text_atom_of text_atoms.File = File

abbrev pub opener_of : opener.Opener → Opener
opener_of (openers.Text t) = OfText (text_atom_of t)
opener_of openers.Kind = OfKinds
opener_of openers.Segment = OfSegment
opener_of openers.Entry = OfPairs
opener_of openers.All = OfAll
opener_of openers.Any = OfAny
opener_of openers.Not = OfNot

abbrev pub group_of : group.OpenGroup → OpenGroup
group_of groups.Not = OpenNot
group_of (groups.All members) = OpenAll (conds_from Nothing members.items)
group_of (groups.Any members) = OpenAny (conds_from Nothing members.items)

-- the open brackets of the code, whose last one comes first, before those below them
abbrev pub groups_from : List OpenGroup → List group.OpenGroup → List OpenGroup
groups_from below [] = below
groups_from below (f ∷ stack) = groups_from (group_of f ∷ below) stack

-- the open brackets of the code, the last one first
abbrev pub groups_of : List group.OpenGroup → List OpenGroup
groups_of stack = groups_from [] stack

-- in the pairs of an entry, behind these open brackets
abbrev pub in_pairs : List OpenGroup → PartialPairs → State
in_pairs stack pairs = InPairs stack (pairs_from NoPairs pairs.whole) pairs.key pairs.partial

abbrev pub state_at : List OpenGroup → Position → State
state_at stack (positions.Word word) = Word stack word.items
state_at stack (positions.Text t partial) = InText stack (text_atom_of t) partial
state_at stack (positions.Kind word) = InKind stack word.items
state_at stack (positions.Tag partial) = InTag stack partial
state_at stack (positions.Value tag partial) = InValue stack tag partial
state_at stack (positions.Pairs pairs) = in_pairs stack pairs
state_at stack (positions.After c) = After stack (cond_of c)

abbrev pub state_of : Reader → State
state_of r = state_at (groups_of r.stack.items) r.position

-- how many brackets of `all(`, `any(` and `not(` are open
abbrev pub depth_of : State → ℕ
depth_of (Word stack word) = length stack
depth_of (InText stack t partial) = length stack
depth_of (InKind stack word) = length stack
depth_of (InTag stack partial) = length stack
depth_of (InValue stack tag partial) = length stack
depth_of (InPairs stack pairs key partial) = length stack
depth_of (After stack c) = length stack

-- the bytes that were read of an escape
abbrev pub rest_of : Escape → List ℕ
rest_of Outside = []
rest_of Percent = percent ∷ []
rest_of Digit = percent ∷ digit_two ∷ []

-- what was read of a text, this byte and some others after it are UTF-8
abbrev pub ContinuesAsText : List ℕ × Escape → ℕ → Type 0
ContinuesAsText partial b =
    (rest : List ℕ) × IsUtf8 ((partial.0 ++ rest_of partial.1) ++ b ∷ rest)

-- where the state is inside a text: what was read of it, this byte and some others are UTF-8
abbrev pub CanContinue : State → ℕ → Type 0
CanContinue (InText stack t partial) b = ContinuesAsText partial b
CanContinue (InTag stack partial) b = ContinuesAsText partial b
CanContinue (InValue stack tag partial) b = ContinuesAsText partial b
CanContinue (InPairs stack pairs key partial) b = ContinuesAsText partial b
CanContinue _ b = Unit {0}
