-- What a clause sees of an engine of cases.
use Rattle.std.specs.Prelude.{List}
use Rattle.engine_testkit.specs.Descriptor.{Descriptor}
use Rattle.engine_testkit.specs.NeedView.{NeedView}
use Rattle.example_engine.specs.declared.cases.CaseTable.{CaseTable}

-- the function, its tables of cases, what each unit needs, and the static descriptors
pub record Suite (F : Type 0) : Type 0 where
  pub function : F
  pub tables : List CaseTable
  pub need : NeedView
  pub descriptors : List Descriptor
