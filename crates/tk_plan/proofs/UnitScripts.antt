-- What the script of a unit is, by the unit's tree.
use Rattle.std.proofs.Common.{◌≡◌, ℕ, zero, suc, ◌+◌, ◌≤◌, ◌<◌, List, [], ◌∷◌, length, All, Some, slice_get, get_or, ap, sym, ◌∙◌, subst, refl, arith}
use Rattle.tk_base.specs.declared.limits.TheConstants.{MAX_EVENTS}
use Rattle.tk_plan.specs.declared.trees.nodes.NumberedNode.{NumberedNode}
use Rattle.tk_plan.specs.declared.units.cuttings.Cutting.{Cutting}
use Rattle.tk_plan.specs.declared.units.cuttings.PlanUnit.{PlanUnit}
use Rattle.tk_plan.specs.Trees.{Tree, forest}
use Rattle.tk_plan.specs.Weights.{weight}
use Rattle.tk_plan.specs.Script.{moves, stamped}
use Rattle.tk_plan.specs.Cutting.{Piece, root_script, units_of, pieces_of, script_of, steps_of}
use Rattle.tk_plan.specs.CutPlans.{IsCut}
use Rattle.tk_plan.specs.Known.{IsKnown}
use Rattle.tk_plan.specs.Numbers.{IsNumbered}
use Rattle.tk_plan.specs.Planned.{IsWithin}
use Rattle.tk_plan.proofs.Cuts.{piece_of}
use Rattle.tk_plan.proofs.KnownSteps.{unit_known}
use Rattle.tk_plan.proofs.PlanParts.{the_piece, unit_bound, unit_piece, script_within}

-- the script of a unit whose tree is t, which begins at this stamp of the root's script
pub record IsScript (nodes : List NumberedNode) (unit : ℕ) (t : Tree) (first : ℕ) : Type 0 where
  pub limit : first + weight t ≤ MAX_EVENTS
  pub script : script_of (forest nodes) unit ≡ stamped first (moves t)
  pub within : IsWithin (script_of (forest nodes) unit) (root_script (forest nodes))
  pub known : All (λ s. IsKnown nodes s.node s.act) (stamped first (moves t))

pub unit_some : (us : List PlanUnit) (unit : ℕ) → unit < length us → (u : PlanUnit) × (u ≡ get_or us unit u)
unit_some [] unit h = absurd (omega (arith, h))
unit_some (u ∷ us) zero h = (u, refl)
unit_some (u ∷ us) (suc unit) h = unit_some us unit (omega (arith, h))

pub unit_script : (nodes seen : List NumberedNode) (c : Cutting) (unit : ℕ) (p : Piece) → IsCut nodes c → IsNumbered nodes → nodes ≡ seen → unit < length (units_of (forest seen))
    → slice_get (pieces_of (forest seen)) unit ≡ Some p → IsScript seen unit p.tree p.first
unfolding the_piece
unit_script nodes seen c unit p cut numbers same h e =
    let within = unit_bound nodes seen c unit cut same h in
    let u = unit_some c.units.items unit within in
    let f = unit_piece nodes c unit u.0 cut within u.1 in
    let here : slice_get (pieces_of (forest nodes)) unit ≡ Some p = ap (λ ns. slice_get (pieces_of (forest ns)) unit) same ∙ e in
    let is : piece_of f.0 ≡ p = ap (λ o. the_piece o p) (sym f.1 ∙ here) in
    let known = unit_known nodes numbers u.0.position f.0.top f.0.below f.0.rest f.0.position f.0.trees u.0.first in
    subst (λ ns. IsScript ns unit p.tree p.first) same (record {
      limit = subst (λ q. q.first + weight q.tree ≤ MAX_EVENTS) is f.0.limit;
      script = ap steps_of here;
      within = script_within nodes unit p cut.statics here;
      known = subst (λ q. All (λ s. IsKnown nodes s.node s.act) (stamped q.first (moves q.tree))) is known;
    })
