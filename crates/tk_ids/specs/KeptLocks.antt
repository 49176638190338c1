-- Where the locks of a descriptor are kept.
use Rattle.std.specs.Prelude.{List, [], Option, Some, None}
use Rattle.std.specs.Global.{Box, Vec}
use Rattle.tk_ids.specs.declared.locks.Lock.{Lock}

-- the locks that are kept there
abbrev pub kept_locks : Option (Box (Vec Lock)) → List Lock
kept_locks None = []
kept_locks (Some items) = items.value.items
