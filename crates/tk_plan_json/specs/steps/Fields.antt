-- What private clauses and proofs alone name.
use Rattle.std.specs.Prelude.{◌≡◌, ◌==◌, ◌&&◌, Bool, List, [], ◌∷◌, length, codes, ℕ, map, Option}
use Rattle.std.specs.Prelude.{Some, None, Result, Ok, Err}
use Rattle.serde_json.specs.Data.{Data}
use Rattle.serde_json.specs.Find.{get}
use Rattle.serde_json.specs.View.{view}
use Rattle.tk_plan_json.specs.Checks.{Row}
use Rattle.tk_plan_json.specs.Contents.{json_text, json_optional, json_dtype}
use Rattle.tk_plan_json.specs.Contents.{json_outcome, listed}
use Rattle.tk_plan_json.specs.Rows.{dtype_row, segment_row, name_row, mode_row}
use Rattle.tk_plan_json.specs.Rows.{isolated_row, locks_row, skip_row, result_row}
use Rattle.tk_plan_json.specs.Rows.{entries_row, files_rows, children_row, dynamic_row}
use Rattle.tk_plan_json.specs.NodeInputs.{concurrent_of, isolated_of, locks_of, children_of}
use Rattle.tk_plan_json.specs.NodeInputs.{dynamic_of}
use Rattle.tk_plan_json.specs.Pointers.{viewed, IsPairOf}
use Rattle.tk_plan_json.specs.MemberValues.{AreReports, AreFiles}
use Rattle.tk_plan_json.specs.declared.node_fields.Heading.{Heading}
use Rattle.tk_plan_json.specs.declared.node_fields.Concurrency.{Concurrency}
use Rattle.tk_plan_json.specs.declared.node_fields.Content.{Content}
use Rattle.tk_plan_json.specs.declared.node_fields.Fields.{Fields}
use Rattle.tk_plan_json.specs.declared.node_members.NodeMembers.{NodeMembers}
use Rattle.tk_plan_json.specs.declared.read_nodes.Checked.{Checked}
use Rattle.tk_plan_json.specs.declared.read_nodes.Named.{Named}
use Rattle.tk_ids.specs.IdText.{SegmentView}
use Rattle.tk_plan_json.specs.Verdicts.{at_node}
use Rattle.tk_plan_json.specs.declared.node_faults.NodeFault.{NodeFault}
use Rattle.tk_plan_json.specs.Refusals.{IsFault}
use Rattle.tk_plan_json.specs.declared.faults.PlanFault.{PlanFault}
use Rattle.tk_plan_json.specs.declared.faults.PlanFault.TheVariants.{Memory}

-- the members that each node has to have
abbrev pub heading_rows : List Row
heading_rows = dtype_row ∷ segment_row ∷ name_row ∷ []

-- the members that say when a node may run, of which a dynamic node has none
abbrev pub concurrency_rows : List Row
concurrency_rows = mode_row ∷ isolated_row ∷ locks_row ∷ []

-- the members that say what a node emits
abbrev pub content_rows : Bool → List Row
content_rows takes_files = skip_row ∷ result_row ∷ entries_row ∷ files_rows takes_files

-- a dynamic node has no `children`
abbrev pub below_rows : List Row
below_rows = children_row ∷ dynamic_row ∷ []

-- no node stands right below one
abbrev pub has_no_below : Bool → Data → Bool
has_no_below is_static d = length (children_of is_static d) == 0 && length (dynamic_of d) == 0

-- each member of a node is the one of its name
pub record AreMembers (m : NodeMembers) : Type 0 where
  pub dtype : viewed m.dtype ≡ get (codes "type") (view m.value.now)
  pub segment : viewed m.segment ≡ get (codes "segment") (view m.value.now)
  pub name : viewed m.name ≡ get (codes "name") (view m.value.now)
  pub mode : viewed m.mode ≡ get (codes "mode") (view m.value.now)
  pub isolated : viewed m.isolated ≡ get (codes "isolated") (view m.value.now)
  pub locks : viewed m.locks ≡ get (codes "locks") (view m.value.now)
  pub skip : viewed m.skip ≡ get (codes "skip") (view m.value.now)
  pub result : viewed m.result ≡ get (codes "result") (view m.value.now)
  pub entries : viewed m.entries ≡ get (codes "entries") (view m.value.now)
  pub children : viewed m.children ≡ get (codes "children") (view m.value.now)
  pub dynamic : viewed m.dynamic ≡ get (codes "dynamic") (view m.value.now)

-- a type, a segment and a name, as a node's members say
pub record IsHeading (d : Data) (h : Heading) : Type 0 where
  pub dtype : h.dtype ≡ json_dtype (get (codes "type") d)
  pub segment : IsPairOf (get (codes "segment") d) h.segment
  pub name : h.name ≡ json_text (get (codes "name") d)

-- when a node may run, as its members say
pub record IsConcurrency (is_static : Bool) (d : Data) (m : Concurrency) : Type 0 where
  pub is_concurrent : m.is_concurrent ≡ concurrent_of is_static d
  pub is_isolated : m.is_isolated ≡ isolated_of is_static d
  pub locks : m.locks ≡ locks_of is_static d

-- what a node emits, as its members say
pub record IsContent (takes_files : Bool) (d : Data) (c : Content) : Type 0 where
  pub skip : c.skip ≡ json_optional (get (codes "skip") d)
  pub outcome : c.outcome ≡ json_outcome (get (codes "result") d)
  pub reports : AreReports (listed (get (codes "entries") d)) c.reports
  pub files : AreFiles takes_files d c.files

-- all that a node's members say
pub record HasFields (is_static takes_files : Bool) (d : Data) (f : Fields) : Type 0 where
  pub heading : IsHeading d f.heading
  pub concurrency : IsConcurrency is_static d f.concurrency
  pub content : IsContent takes_files d f.content
  pub leaf : f.is_leaf ≡ has_no_below is_static d

-- a node with its id, as its members say
abbrev pub checked_of : Bool → Named → Fields → Checked
checked_of is_static n f = record {
  node = record {
    is_static = is_static;
    dtype = f.heading.dtype;
    segment = n.segment;
    name = f.heading.name;
    is_concurrent = f.concurrency.is_concurrent;
    is_isolated = f.concurrency.is_isolated;
    locks = f.concurrency.locks;
    skip = f.content.skip;
    outcome = f.content.outcome;
    entries = f.content.reports.entries;
    files = f.content.files;
  };
  id = n.id;
  is_leaf = f.is_leaf;
}

-- the segments that a set keeps as pairs of a tag and a value
abbrev pub segments_of : List (List ℕ × List ℕ) → List SegmentView
segments_of keys = map (λ k. record { tag = k.0; value = k.1 }) keys

-- the fault is that of the verdict, unless memory ran out
abbrev pub Faults : Option PlanFault → PlanFault → Type 0
Faults v e = IsFault (λ f. v ≡ Some f) e

-- there is no fault, and P holds; or the fault is the verdict's
abbrev pub Meets : {A : Type 0} → Option PlanFault → (A → Type 0) → Result A PlanFault → Type 0
Meets v P (Ok x) = (v ≡ None) × P x
Meets v P (Err e) = Faults v e

-- the fault of the node with this number, but no node has the fault `Memory`
abbrev pub as_node_fault : PlanFault → ℕ → NodeFault
as_node_fault Memory number = record { fault = Memory; node = None }
as_node_fault fault number = at_node number fault
