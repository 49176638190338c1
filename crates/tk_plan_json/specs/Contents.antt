-- What the members of a node say, where nothing is wrong with them.
use Rattle.std.specs.Prelude.{ℕ, ◌||◌, ◌++◌, List, [], ◌∷◌, Bool, true, false, Option, Some}
use Rattle.std.specs.Prelude.{None, option_and_then, unwrap_or, if◌then◌else◌, map, codes}
use Rattle.std.specs.List.{list_any}
use Rattle.std.specs.Str.{bytes_eq}
use Rattle.std.specs.Ordering.{nat_cmp}
use Rattle.std.specs.Cmp.Lexicographic.{slice_cmp}
use Rattle.std.specs.BTreeMap.{insert_entry}
use Rattle.serde_json.specs.Data.{Data, boolean, string, array}
use Rattle.serde_json.specs.Find.{get}
use Rattle.tk_ids.specs.IdText.{SegmentView}
use Rattle.tk_ids.specs.declared.descriptors.DType.{DType}
use Rattle.tk_ids.specs.declared.descriptors.DType.TheVariants.{Container, Test, Both}
use Rattle.tk_ids.specs.declared.locks.Lock.{Lock}
use Rattle.tk_ids.specs.declared.locks.LockMode.{LockMode}
use Rattle.tk_ids.specs.declared.locks.LockMode.TheVariants.{Read, ReadWrite}
use Rattle.tk_events.specs.Outcomes.{outcome_with}
use Rattle.tk_events.specs.declared.outcomes.Outcome.{Outcome}
use Rattle.tk_events.specs.declared.outcomes.Outcome.TheVariants as outcomes
use Rattle.tk_events.specs.declared.statuses.Status.{Status}
use Rattle.tk_events.specs.declared.statuses.Status.TheVariants.{Successful, Aborted, Failed}
use Rattle.tk_plan_json.specs.Checks.{list_of}

-- a text that has to be there
abbrev pub json_text : Option Data → List ℕ
json_text (Some (string s)) = s
json_text _ = []

-- a text that may be missing
abbrev pub json_optional : Option Data → Option (List ℕ)
json_optional (Some (string s)) = Some s
json_optional _ = None

-- false where it is missing
abbrev pub json_truth : Option Data → Bool
json_truth (Some (boolean b)) = b
json_truth _ = false

-- a type, by its name
abbrev pub json_dtype : Option Data → DType
json_dtype (Some (string s)) =
    if bytes_eq s (codes "container") then Container
    else (if bytes_eq s (codes "test") then Test else Both)
json_dtype _ = Both

-- the items of an array
abbrev pub listed : Option Data → List Data
listed (Some (array ds)) = list_of ds
listed _ = []

-- the first two items, as texts
abbrev pub two_texts : List Data → List ℕ × List ℕ
two_texts (a ∷ b ∷ ds) = (json_text (Some a), json_text (Some b))
two_texts _ = ([], [])

-- an array of two texts
abbrev pub json_pair : Option Data → List ℕ × List ℕ
json_pair d = two_texts (listed d)

-- a tag and a value
abbrev pub json_segment : Option Data → SegmentView
json_segment d = record { tag = (json_pair d).0; value = (json_pair d).1 }

-- a node may run beside its siblings only where its mode is `concurrent`
abbrev pub json_concurrent : Option Data → Bool
json_concurrent (Some (string s)) = bytes_eq s (codes "concurrent")
json_concurrent _ = false

-- a lock is for writing, unless its mode is `read`
abbrev pub json_lock_mode : Option Data → LockMode
json_lock_mode (Some (string s)) = if bytes_eq s (codes "read") then Read else ReadWrite
json_lock_mode _ = ReadWrite

abbrev pub json_lock : Data → Lock
json_lock d =
    record {
      name = json_text (get (codes "key") d);
      mode = json_lock_mode (get (codes "mode") d);
    }

abbrev pub json_locks : Option Data → List Lock
json_locks d = map json_lock (listed d)

-- a status, by its word
abbrev pub json_status : Option Data → Status
json_status (Some (string s)) =
    if bytes_eq s (codes "aborted") then Aborted
    else (if bytes_eq s (codes "failed") then Failed else Successful)
json_status _ = Successful

-- the outcome that a result says, unless it is a success with a message
abbrev pub outcome_in : Data → Option Outcome
outcome_in d =
    outcome_with (json_status (get (codes "status") d)) (json_optional (get (codes "message") d))

-- a node is successful where it has no result
abbrev pub json_outcome : Option Data → Outcome
json_outcome d = unwrap_or (option_and_then outcome_in d) outcomes.Successful

-- the pairs of an entry, as they are written
abbrev pub written : Data → List (List ℕ × List ℕ)
written d = map (λ p. json_pair (Some p)) (listed (Some d))

-- the pairs in increasing byte order of their keys, after those that are in that order
abbrev pub put_all : List (List ℕ × List ℕ) → List (List ℕ × List ℕ) → List (List ℕ × List ℕ)
put_all put [] = put
put_all put (p ∷ ps) = put_all (insert_entry (slice_cmp nat_cmp) put p.0 p.1) ps

-- the pairs in increasing byte order of their keys
abbrev pub by_key : List (List ℕ × List ℕ) → List (List ℕ × List ℕ)
by_key ps = put_all [] ps

-- the pairs of an entry, by their keys
abbrev pub json_entry : Data → List (List ℕ × List ℕ)
json_entry d = by_key (written d)

abbrev pub json_entries : Option Data → List (List (List ℕ × List ℕ))
json_entries d = map json_entry (listed d)

-- the path of a file
abbrev pub json_path : Data → List ℕ
json_path d = json_text (Some d)

abbrev pub json_files : Option Data → List (List ℕ)
json_files d = map json_path (listed d)

-- a pair has the key of a pair before it, or of one of these
abbrev pub repeats_after : List (List ℕ) → List (List ℕ × List ℕ) → Bool
repeats_after keys [] = false
repeats_after keys (p ∷ ps) = list_any (bytes_eq p.0) keys || repeats_after (keys ++ p.0 ∷ []) ps

-- an entry has a key twice
abbrev pub repeats : Data → Bool
repeats d = repeats_after [] (written d)

-- in version 1 a node has no files
abbrev pub files_of : Bool → Data → List (List ℕ)
files_of true d = json_files (get (codes "files") d)
files_of false d = []
