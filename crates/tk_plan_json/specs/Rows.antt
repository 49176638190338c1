-- The members of a node, in the order in which they are checked.
use Rattle.std.specs.Prelude.{◌==◌, List, [], ◌∷◌, ◌++◌, length, Bool, true, false, codes}
use Rattle.std.specs.Prelude.{Some, None, is_some, if◌then◌else◌}
use Rattle.std.specs.Option.{option_or}
use Rattle.serde_json.specs.Data.{string}
use Rattle.tk_plan_json.specs.Checks.{Check, Row, must, may, text, truth, one_of, any_array}
use Rattle.tk_plan_json.specs.Checks.{array_of, pair_of, object_of, member_at}
use Rattle.tk_plan_json.specs.Contents.{outcome_in}

abbrev pub dtype_row : Row
dtype_row = must (codes "type") (one_of (codes "container" ∷ codes "test" ∷ codes "both" ∷ []))

abbrev pub segment_row : Row
segment_row = must (codes "segment") (pair_of text)

abbrev pub name_row : Row
name_row = must (codes "name") text

abbrev pub mode_row : Row
mode_row = may (codes "mode") (one_of (codes "same_thread" ∷ codes "concurrent" ∷ []))

abbrev pub isolated_row : Row
isolated_row = may (codes "isolated") truth

abbrev pub lock_mode_row : Row
lock_mode_row = may (codes "mode") (one_of (codes "read" ∷ codes "read_write" ∷ []))

-- a lock has a key, and maybe a mode
abbrev pub lock : Check
lock = object_of (must (codes "key") text ∷ lock_mode_row ∷ [])

abbrev pub locks_row : Row
locks_row = may (codes "locks") (array_of lock)

abbrev pub skip_row : Row
skip_row = may (codes "skip") text

abbrev pub status_row : Row
status_row =
    must (codes "status") (one_of (codes "successful" ∷ codes "aborted" ∷ codes "failed" ∷ []))

abbrev pub message_row : Row
message_row = may (codes "message") text

-- a successful result has no message
abbrev pub message_wrong : Check
message_wrong at d =
    if is_some (outcome_in d) then None else Some (member_at at (codes "message"))

-- a result has a status, and maybe a message where it is not a success
abbrev pub result : Check
result at d = option_or (object_of (status_row ∷ message_row ∷ []) at d) (message_wrong at d)

abbrev pub result_row : Row
result_row = may (codes "result") result

-- an entry is an array of pairs of texts
abbrev pub entry : Check
entry = array_of (pair_of text)

abbrev pub entries_row : Row
entries_row = may (codes "entries") (array_of entry)

-- a text that isn't empty
abbrev pub nonempty_text : Check
nonempty_text at (string s) = if length s == 0 then Some at else None
nonempty_text at _ = Some at

abbrev pub files_row : Row
files_row = may (codes "files") (array_of nonempty_text)

-- only in version 2 a node may have files
abbrev pub files_rows : Bool → List Row
files_rows true = files_row ∷ []
files_rows false = []

-- the items of `children` and `dynamic` are checked as nodes
abbrev pub children_row : Row
children_row = may (codes "children") any_array

abbrev pub dynamic_row : Row
dynamic_row = may (codes "dynamic") any_array

abbrev pub static_rows : Bool → List Row
static_rows takes_files =
    dtype_row
    ∷ segment_row
    ∷ name_row
    ∷ mode_row
    ∷ isolated_row
    ∷ locks_row
    ∷ skip_row
    ∷ result_row
    ∷ entries_row
    ∷ (files_rows takes_files ++ children_row ∷ dynamic_row ∷ [])

-- a dynamic node has no mode, is not isolated, and has neither locks nor static children
abbrev pub dynamic_rows : Bool → List Row
dynamic_rows takes_files =
    dtype_row
    ∷ segment_row
    ∷ name_row
    ∷ skip_row
    ∷ result_row
    ∷ entries_row
    ∷ (files_rows takes_files ++ dynamic_row ∷ [])

-- the check of a node, where the plan is of version 2 or not
abbrev pub static_node : Bool → Check
static_node takes_files = object_of (static_rows takes_files)

abbrev pub dynamic_node : Bool → Check
dynamic_node takes_files = object_of (dynamic_rows takes_files)
