-- What a condition says of an event of a record.
use Rattle.std.specs.Prelude.{ℕ, Bool, true, false, not, ◌&&◌, ◌||◌, List, [], ◌∷◌, ◌++◌, Option}
use Rattle.std.specs.Prelude.{Some, None, bytes_eq, codes}
use Rattle.std.specs.List.{list_any, list_all}
use Rattle.tk_ids.specs.IdText.{SegmentView, id_text}
use Rattle.tk_ids.specs.declared.descriptors.Descriptor.{Descriptor}
use Rattle.tk_events.specs.declared.kinds.Kind.TheVariants as kind
use Rattle.tk_events.specs.declared.statuses.Status.TheVariants as status
use Rattle.tk_events.specs.declared.payloads.Payload.{Payload}
use Rattle.tk_events.specs.declared.payloads.Payload.TheVariants.{Reason, Outcome, Report, Path}
use Rattle.tk_events.specs.declared.events.Entry.{Entry}
use Rattle.tk_events.specs.Outcomes.{message_of}
use Rattle.tk_ids.specs.DTypes.{is_test, is_container}
use Rattle.tk_record.specs.Entries.{of_kind, of_status, desc}
use Rattle.tk_record.specs.Recorded.{Recorded}
use Rattle.tk_record.specs.Selections.{has_type}
use Rattle.tk_query_conditions.specs.Cond.{Bare, Test, Container, Engine, Started, Succeeded}
use Rattle.tk_query_conditions.specs.Cond.{Failed, Aborted, TextAtom, Id, Name, Skipped, FailedWith}
use Rattle.tk_query_conditions.specs.Cond.{AbortedWith, Message, File, Pairs, NoPairs, MorePairs}
use Rattle.tk_query_conditions.specs.Cond.{Cond, Plain, With, OfKind, HasSegment, HasPairs, All}
use Rattle.tk_query_conditions.specs.Cond.{Any, Not, Conds, Nothing, More}
use Rattle.tk_query_conditions.specs.CondOf.{cond_of}
use Rattle.tk_query_conditions.specs.Reading.{begins_with}
use Rattle.tk_query_conditions.specs.declared.conditions.Condition.{Condition}

-- the text contains the part
abbrev pub has_within : List ℕ → List ℕ → Bool
has_within part [] = begins_with part []
has_within part (b ∷ text) = begins_with part (b ∷ text) || has_within part text

-- whether the descriptor is there, and passes
abbrev pub has_descriptor : (Descriptor → Bool) → Option Descriptor → Bool
has_descriptor p None = false
has_descriptor p (Some d) = p d

-- exactly one segment, whose tag is `engine`
abbrev pub is_engine : List SegmentView → Bool
is_engine (s ∷ []) = bytes_eq s.tag (codes "engine")
is_engine _ = false

-- one of the segments has this tag and this value
abbrev pub has_segment : List ℕ → List ℕ → List SegmentView → Bool
has_segment tag value id =
    list_any (λ (s : SegmentView). bytes_eq s.tag tag && bytes_eq s.value value) id

-- the payload is this reason
abbrev pub has_reason : List ℕ → Payload → Bool
has_reason text (Reason given) = bytes_eq given text
has_reason text _ = false

-- the payload is this path
abbrev pub has_path : List ℕ → Payload → Bool
has_path text (Path given) = bytes_eq given text
has_path text _ = false

-- whether the text is there, and passes
abbrev pub has_text : (List ℕ → Bool) → Option (List ℕ) → Bool
has_text p None = false
has_text p (Some text) = p text

-- the payload is an outcome with this message
abbrev pub has_message : List ℕ → Payload → Bool
has_message text (Outcome outcome) = has_text (λ given. bytes_eq given text) (message_of outcome)
has_message text _ = false

-- the payload is an outcome with a message that contains this text
abbrev pub message_contains : List ℕ → Payload → Bool
message_contains text (Outcome outcome) = has_text (has_within text) (message_of outcome)
message_contains text _ = false

-- the pairs have the same texts
abbrev pub same_pair : List ℕ × List ℕ → List ℕ × List ℕ → Bool
same_pair a b = bytes_eq a.0 b.0 && bytes_eq a.1 b.1

-- each of the first pairs is one of the second
abbrev pub all_within : List (List ℕ × List ℕ) → List (List ℕ × List ℕ) → Bool
all_within pairs others = list_all (λ p. list_any (same_pair p) others) pairs

-- each pair named is in the report, and each of its pairs is named
abbrev pub reports : List (List ℕ × List ℕ) → Payload → Bool
reports named (Report given) = all_within named given && all_within given named
reports named _ = false

-- the pairs in their order
abbrev pub pairs_list : Pairs → List (List ℕ × List ℕ)
pairs_list NoPairs = []
pairs_list (MorePairs pairs key value) = pairs_list pairs ++ (key, value) ∷ []

-- whether an atom of one word holds of an entry of the record
abbrev pub bare_holds : Recorded → Bare → Entry → Bool
bare_holds r Test e = has_type is_test (desc r e.event.key)
bare_holds r Container e = has_type is_container (desc r e.event.key)
bare_holds r Engine e = has_descriptor (λ d. is_engine d.id) (desc r e.event.key)
bare_holds r Started e = of_kind kind.Started e
bare_holds r Succeeded e = of_status status.Successful e
bare_holds r Failed e = of_status status.Failed e
bare_holds r Aborted e = of_status status.Aborted e

-- whether an atom with a text holds of an entry of the record
abbrev pub text_atom_holds : Recorded → TextAtom → List ℕ → Entry → Bool
text_atom_holds r Id text e =
    has_descriptor (λ d. has_within text (id_text d.id)) (desc r e.event.key)
text_atom_holds r Name text e =
    has_descriptor (λ d. bytes_eq d.name text) (desc r e.event.key)
text_atom_holds r Skipped text e = of_kind kind.Skipped e && has_reason text e.event.payload
text_atom_holds r FailedWith text e =
    of_status status.Failed e && has_message text e.event.payload
text_atom_holds r AbortedWith text e =
    of_status status.Aborted e && has_message text e.event.payload
text_atom_holds r Message text e =
    of_kind kind.Finished e && message_contains text e.event.payload
text_atom_holds r File text e = of_kind kind.File e && has_path text e.event.payload

abbrev mutual
  pub cond_holds : Recorded → Cond → Entry → Bool
  cond_holds r (Plain bare) e = bare_holds r bare e
  cond_holds r (With text_atom text) e = text_atom_holds r text_atom text e
  cond_holds r (OfKind kind) e = of_kind kind e
  cond_holds r (HasSegment tag value) e =
      has_descriptor (λ d. has_segment tag value d.id) (desc r e.event.key)
  cond_holds r (HasPairs pairs) e =
      of_kind kind.Reporting e && reports (pairs_list pairs) e.event.payload
  cond_holds r (All cs) e = all_hold r cs e
  cond_holds r (Any cs) e = any_holds r cs e
  cond_holds r (Not c) e = not (cond_holds r c e)

  pub all_hold : Recorded → Conds → Entry → Bool
  all_hold r Nothing e = true
  all_hold r (More cs c) e = all_hold r cs e && cond_holds r c e

  pub any_holds : Recorded → Conds → Entry → Bool
  any_holds r Nothing e = false
  any_holds r (More cs c) e = any_holds r cs e || cond_holds r c e

-- whether the condition holds of an entry of the record
abbrev pub holds : Recorded → Condition → Entry → Bool
holds r c e = cond_holds r (cond_of c) e
