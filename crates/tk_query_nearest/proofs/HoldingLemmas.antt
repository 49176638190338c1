-- The parts of a condition that holds.
use Rattle.std.proofs.Common.{◌≡◌, ℕ, ◌+◌, ◌<◌, min, Bool, true, false, cond, not, eq-eqb, ◌&&◌, ◌||◌, List, [], ◌∷◌, ⊎_elim, Option, Some, None, refl, sym, ap, ◌∙◌, subst, arith}
use Rattle.std.specs.Prelude.{◌==◌, bytes_eq}
use Rattle.std.specs.List.{list_all, list_any}
use Rattle.std.proofs.lemmas.Bool.{and_parts, or_cases, or_left, or_right, true≢false}
use Rattle.std.proofs.lemmas.Slice.Eq.{bytes_eq-Decides}
use Rattle.tk_ids.specs.declared.descriptors.Descriptor.{Descriptor}
use Rattle.tk_events.specs.declared.outcomes.Outcome.TheVariants as outcomes
use Rattle.tk_events.specs.declared.kinds.Kind.{Kind}
use Rattle.tk_events.specs.declared.kinds.Kind.TheVariants as kind
use Rattle.tk_events.specs.declared.statuses.Status.{Status}
use Rattle.tk_events.specs.declared.statuses.Status.TheVariants as status
use Rattle.tk_events.specs.declared.payloads.Payload.{Payload}
use Rattle.tk_events.specs.declared.payloads.Payload.TheVariants as payload
use Rattle.tk_events.specs.declared.events.Entry.{Entry}
use Rattle.tk_events.specs.Event.{kind_code, status_code}
use Rattle.tk_record.specs.Entries.{of_kind, of_status, status_number, desc}
use Rattle.tk_record.specs.Recorded.{Recorded}
use Rattle.tk_query_conditions.specs.Cond.{Succeeded, Failed, Aborted, Name, Skipped, FailedWith, AbortedWith, Message, File, Cond, Plain, With, HasPairs, All, Any, Conds, Nothing, More}
use Rattle.tk_query_conditions.specs.Reading.{begins_with}
use Rattle.tk_query.specs.Holds.{cond_holds, all_hold, any_holds, has_descriptor, has_message, has_path, has_reason, has_within, message_contains, pairs_list, reports, same_pair}
use Rattle.tk_query_nearest.specs.Parts.{Part, IsKind, MessageContains, ReasonContains, PathContains, NameContains, HasKey, Meets, part_holds, other_parts, member_parts, missing_parts, missing, missing_of_all, fewest_missing, has_key, path_contains, reason_contains}
use Rattle.tk_query_nearest.specs.declared.parts.TheConstants.{MAX_DISTANCE}
use Rattle.tk_query_nearest.specs.Laws.{NoneMissingHolds}
use Rattle.tk_query_nearest.proofs.PartLemmas.{holds_of, keys, missing-append, uncapped}

-- a text contains itself
begins_itself : (text : List ℕ) → begins_with text text ≡ true
begins_itself [] = refl
begins_itself (b ∷ text) = ap (λ t. t && begins_with text text) (eq-eqb b b refl) ∙ begins_itself text

contains_itself : (text : List ℕ) → has_within text text ≡ true
contains_itself [] = refl
contains_itself (b ∷ text) = ap (λ t. t || has_within (b ∷ text) text) (begins_itself (b ∷ text))

same_contains : (given text : List ℕ) → bytes_eq given text ≡ true → has_within text given ≡ true
same_contains given text e = subst (λ t. has_within text t ≡ true) (sym ((bytes_eq-Decides given text).0 e)) (contains_itself text)

no : {A : Type 0} → false ≡ true → A
no e = absurd (true≢false (sym e))

message_within : (text : List ℕ) (p : Payload) → has_message text p ≡ true → message_contains text p ≡ true
message_within text (payload.Outcome (outcomes.Aborted (Some given))) e = same_contains given text e
message_within text (payload.Outcome (outcomes.Failed (Some given))) e = same_contains given text e
message_within text p e = no e

reason_within : (text : List ℕ) (p : Payload) → has_reason text p ≡ true → reason_contains text p ≡ true
reason_within text (payload.Reason given) e = same_contains given text e
reason_within text p e = no e

path_within : (text : List ℕ) (p : Payload) → has_path text p ≡ true → path_contains text p ≡ true
path_within text (payload.Path given) e = same_contains given text e
path_within text p e = no e

name_within : (text : List ℕ) (o : Option Descriptor) → has_descriptor (λ d. bytes_eq d.name text) o ≡ true → has_descriptor (λ d. has_within text d.name) o ≡ true
name_within text None e = no e
name_within text (Some d) e = same_contains d.name text e

-- a report that has each pair named has each key
key_within : (pair : List ℕ × List ℕ) (given : List (List ℕ × List ℕ))
    → list_any (same_pair pair) given ≡ true
    → list_any (λ (other : List ℕ × List ℕ). bytes_eq other.0 pair.0) given ≡ true
key_within pair [] e = no e
key_within pair (other ∷ given) e =
    ⊎_elim {C = (bytes_eq other.0 pair.0
    || list_any (λ (x : List ℕ × List ℕ). bytes_eq x.0 pair.0) given) ≡ true}
    (λ (same : same_pair pair other ≡ true).
    let keys = (and_parts (bytes_eq pair.0 other.0) (bytes_eq pair.1 other.1) same).0 in
    or_left (bytes_eq other.0 pair.0)
    (list_any (λ (x : List ℕ × List ℕ). bytes_eq x.0 pair.0) given)
    ((bytes_eq-Decides other.0 pair.0).1 (sym ((bytes_eq-Decides pair.0 other.0).0 keys))))
    (λ (later : list_any (same_pair pair) given ≡ true).
    or_right (bytes_eq other.0 pair.0)
    (list_any (λ (x : List ℕ × List ℕ). bytes_eq x.0 pair.0) given)
    (key_within pair given later))
    (or_cases (same_pair pair other) (list_any (same_pair pair) given) e)

keys_within : (named given : List (List ℕ × List ℕ))
    → list_all (λ pair. list_any (same_pair pair) given) named ≡ true
    → list_all (λ (pair : List ℕ × List ℕ). has_key pair.0 (payload.Report given)) named ≡ true
keys_within [] given e = refl
keys_within (pair ∷ named) given e =
    let both = and_parts (list_any (same_pair pair) given)
    (list_all (λ p. list_any (same_pair p) given) named) e in
    ap (λ b. b && list_all (λ (p : List ℕ × List ℕ). has_key p.0 (payload.Report given)) named)
    (key_within pair given both.0) ∙ keys_within named given both.1

has_keys : (named : List (List ℕ × List ℕ)) (p : Payload) → reports named p ≡ true
    → list_all (λ (pair : List ℕ × List ℕ). has_key pair.0 p) named ≡ true
has_keys named (payload.Report given) e =
    keys_within named given
    (and_parts (list_all (λ pair. list_any (same_pair pair) given) named)
    (list_all (λ pair. list_any (same_pair pair) named) given) e).0
has_keys named p e = no e

-- what finished with a status is a finish
no_status : {A : Type 0} (s : Status) → (0 == status_code s) ≡ true → A
no_status status.Successful e = no e
no_status s e = no e

finish_of : (s : Status) (k : Kind) (p : Payload) → (status_number k p == status_code s) ≡ true → (kind_code k == kind_code kind.Finished) ≡ true
finish_of s kind.Finished p e = refl
finish_of s k p e = no_status s e

finished : (s : Status) (e : Entry) → of_status s e ≡ true → of_kind kind.Finished e ≡ true
finished s e h = finish_of s e.event.kind e.event.payload h

module _ (r : Recorded) (e : Entry) where
  first_holds : (part : Part) (list : List Part) → part_holds r part e ≡ true → missing_parts r list e ≡ 0 → missing_parts r (part ∷ list) e ≡ 0
  first_holds part list h none =
      let one : missing_parts r (part ∷ []) e ≡ 0 = ap (λ b. 0 + cond (not b) 1 0) h in
      let sum = missing-append r (part ∷ []) list e in
      omega (arith, one, sum, none)

  one_holds : (part : Part) → part_holds r part e ≡ true → missing_parts r (part ∷ []) e ≡ 0
  one_holds part h = first_holds part [] h refl

  both_hold : (a b : Part) → part_holds r a e ≡ true → part_holds r b e ≡ true → missing_parts r (a ∷ b ∷ []) e ≡ 0
  both_hold a b f g = first_holds a (b ∷ []) f (one_holds b g)

  keys_hold : (named : List (List ℕ × List ℕ))
      → list_all (λ (pair : List ℕ × List ℕ). has_key pair.0 e.event.payload) named ≡ true
      → missing_parts r (keys named) e ≡ 0
  keys_hold [] h = refl
  keys_hold (pair ∷ named) h =
      let both = and_parts (has_key pair.0 e.event.payload)
      (list_all (λ (p : List ℕ × List ℕ). has_key p.0 e.event.payload) named) h in
      first_holds (HasKey pair.0) (keys named) both.0 (keys_hold named both.1)

  finish_holds : (s : Status) (text : List ℕ) (own : Part) → of_status s e ≡ true → part_holds r own e ≡ true
      → has_message text e.event.payload ≡ true
      → missing_parts r (IsKind kind.Finished ∷ own ∷ MessageContains text ∷ []) e ≡ 0
  finish_holds s text own is h has =
      first_holds (IsKind kind.Finished) (own ∷ MessageContains text ∷ []) (finished s e is)
      (both_hold own (MessageContains text) h (message_within text e.event.payload has))

  -- where a member holds, its other parts do
  others_hold : (m : Cond) → cond_holds r m e ≡ true → missing_parts r (other_parts m) e ≡ 0
  others_hold (Plain Succeeded) h = one_holds (IsKind kind.Finished) (finished status.Successful e h)
  others_hold (Plain Failed) h = one_holds (IsKind kind.Finished) (finished status.Failed e h)
  others_hold (Plain Aborted) h = one_holds (IsKind kind.Finished) (finished status.Aborted e h)
  others_hold (With Name text) h = one_holds (NameContains text) (name_within text (desc r e.event.key) h)
  others_hold (With Skipped text) h =
      let both = and_parts (of_kind kind.Skipped e) (has_reason text e.event.payload) h in
      both_hold (IsKind kind.Skipped) (ReasonContains text) both.0 (reason_within text e.event.payload both.1)
  others_hold (With FailedWith text) h =
      let both = and_parts (of_status status.Failed e) (has_message text e.event.payload) h in
      finish_holds status.Failed text (Meets (Plain Failed)) both.0 both.0 both.1
  others_hold (With AbortedWith text) h =
      let both = and_parts (of_status status.Aborted e) (has_message text e.event.payload) h in
      finish_holds status.Aborted text (Meets (Plain Aborted)) both.0 both.0 both.1
  others_hold (With File text) h =
      let both = and_parts (of_kind kind.File e) (has_path text e.event.payload) h in
      both_hold (IsKind kind.File) (PathContains text) both.0 (path_within text e.event.payload both.1)
  others_hold (With Message text) h =
      one_holds (IsKind kind.Finished) (and_parts (of_kind kind.Finished e) (message_contains text e.event.payload) h).0
  others_hold (HasPairs pairs) h =
      let both = and_parts (of_kind kind.Reporting e) (reports (pairs_list pairs) e.event.payload) h in
      first_holds (IsKind kind.Reporting) (keys (pairs_list pairs)) both.0
      (keys_hold (pairs_list pairs) (has_keys (pairs_list pairs) e.event.payload both.1))
  others_hold c h = refl

  none_of : (m : Cond) → cond_holds r m e ≡ true → missing_parts r (member_parts m) e ≡ 0
  none_of m h = omega (arith, missing-append r (other_parts m) (Meets m ∷ []) e, others_hold m h, one_holds (Meets m) h)

  -- the parts of a member, counted without asking of the last one where another doesn't hold
  pub counted_without : (m : Cond) (others : ℕ) → others ≡ missing_parts r (other_parts m) e
      → 0 < others → others + 1 ≡ missing_parts r (member_parts m) e
  counted_without m others is some = by_last (cond_holds r m e) refl
    where
      by_last : (b : Bool) → cond_holds r m e ≡ b
          → others + 1 ≡ missing_parts r (member_parts m) e
      by_last true h = absurd (omega (arith, is, others_hold m h))
      by_last false h =
          let last : missing_parts r (Meets m ∷ []) e ≡ 1 = ap (λ b. 0 + cond (not b) 1 0) h in
          omega (arith, is, missing-append r (other_parts m) (Meets m ∷ []) e, last)

  mutual
    nothing_missing : (c : Cond) → cond_holds r c e ≡ true → missing r c e ≡ 0
    nothing_missing (All cs) h = none_of_all cs h
    nothing_missing (Any cs) h = none_of_any cs h
    nothing_missing c h = none_of c h

    none_of_all : (cs : Conds) → all_hold r cs e ≡ true → missing_of_all r cs e ≡ 0
    none_of_all Nothing h = refl
    none_of_all (More cs c) h =
        let both = and_parts (all_hold r cs e) (cond_holds r c e) h in
        omega (arith, none_of_all cs both.0, nothing_missing c both.1)

    none_of_any : (cs : Conds) → any_holds r cs e ≡ true → fewest_missing r cs e ≡ 0
    none_of_any Nothing h = no h
    none_of_any (More Nothing c) h = nothing_missing c h
    none_of_any (More (More cs d) c) h =
        ⊎_elim {C = min (fewest_missing r (More cs d) e) (missing r c e) ≡ 0}
        (λ (before : any_holds r (More cs d) e ≡ true).
        omega (arith, none_of_any (More cs d) before))
        (λ (last : cond_holds r c e ≡ true). omega (arith, nothing_missing c last))
        (or_cases (any_holds r (More cs d) e) (cond_holds r c e) h)

pub none_missing : NoneMissingHolds
none_missing r c e = (
  (λ near. holds_of r c e (uncapped (missing r c e) 18446744073709551614 near)),
  (λ h. ap (λ n. min n MAX_DISTANCE) (nothing_missing r e c h)),
)
