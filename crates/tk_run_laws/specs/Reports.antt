-- The report of a plan.
use Rattle.std.specs.Prelude.{ℕ, List}
use Rattle.tk_ids.specs.declared.descriptors.Descriptor.{Descriptor}
use Rattle.tk_plan.specs.declared.trees.nodes.NumberedNode.{NumberedNode}
use Rattle.tk_report_text.specs.Reports.{report_of_record}
use Rattle.tk_run_laws.specs.Scripts.{script_record}

-- the report of a plan: that of its root's script in place of a record
abbrev pub report_of_plan : List NumberedNode → List Descriptor → List ℕ
report_of_plan nodes table = report_of_record (script_record nodes table)
