-- What the members of a condition ask of an event, part by part, and how much of it is missing.
use Rattle.std.specs.Prelude.{ℕ, ◌+◌, min, Bool, false, not, List, [], ◌∷◌, ◌++◌, map, bytes_eq}
use Rattle.std.specs.Prelude.{count_by}
use Rattle.std.specs.List.{list_any}
use Rattle.tk_events.specs.declared.kinds.Kind.{Kind}
use Rattle.tk_events.specs.declared.kinds.Kind.TheVariants as kind
use Rattle.tk_events.specs.declared.payloads.Payload.{Payload}
use Rattle.tk_events.specs.declared.payloads.Payload.TheVariants.{Reason, Report, Path}
use Rattle.tk_events.specs.declared.events.Entry.{Entry}
use Rattle.tk_record.specs.Entries.{of_kind, desc}
use Rattle.tk_record.specs.Recorded.{Recorded}
use Rattle.tk_query_conditions.specs.Cond.{Succeeded, Failed, Aborted, Name, Skipped, FailedWith}
use Rattle.tk_query_conditions.specs.Cond.{AbortedWith, Message, File, Cond, Plain, With, HasPairs}
use Rattle.tk_query_conditions.specs.Cond.{All, Any, Conds, Nothing, More}
use Rattle.tk_query.specs.Holds.{cond_holds, has_descriptor, has_within, message_contains}
use Rattle.tk_query.specs.Holds.{pairs_list}
use Rattle.tk_query_nearest.specs.declared.parts.TheConstants.{MAX_DISTANCE}

-- one thing that a member of a condition asks of an event
pub data Part : Type 0 where
  -- it is of this kind
  IsKind : Kind → Part
  -- its message, its reason, its path or its display name contains this text
  MessageContains : List ℕ → Part
  ReasonContains : List ℕ → Part
  PathContains : List ℕ → Part
  NameContains : List ℕ → Part
  -- one of the pairs that it reports has this key
  HasKey : List ℕ → Part
  -- the condition holds of it
  Meets : Cond → Part

-- the payload is a reason that contains the text
abbrev pub reason_contains : List ℕ → Payload → Bool
reason_contains text (Reason given) = has_within text given
reason_contains text _ = false

-- the payload is a path that contains the text
abbrev pub path_contains : List ℕ → Payload → Bool
path_contains text (Path given) = has_within text given
path_contains text _ = false

-- the payload is a report, and one of its pairs has this key
abbrev pub has_key : List ℕ → Payload → Bool
has_key key (Report given) = list_any (λ (pair : List ℕ × List ℕ). bytes_eq pair.0 key) given
has_key key _ = false

-- whether a part holds of an entry of the record
abbrev pub part_holds : Recorded → Part → Entry → Bool
part_holds r (IsKind kind) e = of_kind kind e
part_holds r (MessageContains text) e = message_contains text e.event.payload
part_holds r (ReasonContains text) e = reason_contains text e.event.payload
part_holds r (PathContains text) e = path_contains text e.event.payload
part_holds r (NameContains text) e =
    has_descriptor (λ d. has_within text d.name) (desc r e.event.key)
part_holds r (HasKey key) e = has_key key e.event.payload
part_holds r (Meets c) e = cond_holds r c e

-- the parts of a member, but of `any(..)` and but for the last one
abbrev pub other_parts : Cond → List Part
other_parts (Plain Succeeded) = IsKind kind.Finished ∷ []
other_parts (Plain Failed) = IsKind kind.Finished ∷ []
other_parts (Plain Aborted) = IsKind kind.Finished ∷ []
other_parts (With FailedWith text) =
    IsKind kind.Finished ∷ Meets (Plain Failed) ∷ MessageContains text ∷ []
other_parts (With AbortedWith text) =
    IsKind kind.Finished ∷ Meets (Plain Aborted) ∷ MessageContains text ∷ []
other_parts (With Message text) = IsKind kind.Finished ∷ []
other_parts (With Skipped text) = IsKind kind.Skipped ∷ ReasonContains text ∷ []
other_parts (With File text) = IsKind kind.File ∷ PathContains text ∷ []
other_parts (With Name text) = NameContains text ∷ []
other_parts (HasPairs pairs) =
    IsKind kind.Reporting ∷ map (λ (pair : List ℕ × List ℕ). HasKey pair.0) (pairs_list pairs)
other_parts c = []

-- the parts of a member, but of `any(..)`: the last one is that it holds itself
abbrev pub member_parts : Cond → List Part
member_parts c = other_parts c ++ Meets c ∷ []

-- how many of the parts don't hold of an entry of the record
abbrev pub missing_parts : Recorded → List Part → Entry → ℕ
missing_parts r list e = count_by (λ part. not (part_holds r part e)) list

abbrev mutual
  -- How many parts of a condition don't hold of an entry of the record. The parts of `all(..)` are
  -- those of its conditions. Of `any(..)` as many don't hold as of the one of its conditions of
  -- which the fewest don't: none where one of them holds.
  pub missing : Recorded → Cond → Entry → ℕ
  missing r (All cs) e = missing_of_all r cs e
  missing r (Any cs) e = fewest_missing r cs e
  missing r c e = missing_parts r (member_parts c) e

  -- how many parts of all of the conditions don't hold
  pub missing_of_all : Recorded → Conds → Entry → ℕ
  missing_of_all r Nothing e = 0
  missing_of_all r (More cs c) e = missing_of_all r cs e + missing r c e

  -- how many parts don't hold of the condition of which the fewest don't, one if there is none
  pub fewest_missing : Recorded → Conds → Entry → ℕ
  fewest_missing r Nothing e = 1
  fewest_missing r (More Nothing c) e = missing r c e
  fewest_missing r (More (More cs d) c) e = min (fewest_missing r (More cs d) e) (missing r c e)

-- how many parts of the condition don't hold of an entry of the record, counted up to a limit
abbrev pub distance : Recorded → Cond → Entry → ℕ
distance r c e = min (missing r c e) MAX_DISTANCE
