-- Where the bytes of a text are kept.
use Rattle.std.specs.Prelude.{ℕ, List, string_bytes}
use Rattle.tk_ids.specs.declared.texts.Storage.{Storage}
use Rattle.tk_ids.specs.declared.texts.Storage.TheVariants.{Inline, Heap}

-- the bytes that are kept there
abbrev pub stored_bytes : Storage → List ℕ
stored_bytes (Inline string) = string.bytes
stored_bytes (Heap string) = string_bytes string
