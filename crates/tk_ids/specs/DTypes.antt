-- The types of descriptors.
use Rattle.std.specs.Prelude.{Bool, true, false}
use Rattle.tk_ids.specs.declared.descriptors.DType.{DType}
use Rattle.tk_ids.specs.declared.descriptors.DType.TheVariants.{Container, Test, Both}

-- whether a descriptor of the type is a test
abbrev pub is_test : DType → Bool
is_test Container = false
is_test Test = true
is_test Both = true

-- whether a descriptor of the type is a container
abbrev pub is_container : DType → Bool
is_container Container = true
is_container Test = false
is_container Both = true
