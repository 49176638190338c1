use Rattle.std.proofs.Common.{◌≡◌, ap, subst, ◌∙◌}
use Rattle.tk_ids.specs.Table.{AreDifferent}
use Rattle.tk_plan.specs.Numbers.{IsNumbered}
use Rattle.tk_plan.specs.Planned.{IsPlanned, Outline}
use Rattle.tk_engine_unit_events.specs.Owners.{AreOwners}
use Rattle.tk_engine_unit_events.specs.Shapes.{ShapeView}
use Rattle.tk_engine_unit_events.proofs.Shaped.{have_places, keeps_around}
use Rattle.tk_engine_unit_events.proofs.shapes.Shape.shows_shape.Goals as goal

same : (c : goal.After-shows_different_ids) → c.self.inside.plan ≡ c.args.self.now.plan
same c = ap (λ (s : ShapeView). s.plan) c.self.view_is

planned : (c : goal.After-shows_different_ids)
    → IsPlanned c.args.self.now.plan.nodes c.args.self.now.plan.table
planned c = subst (λ (o : Outline). IsPlanned o.nodes o.table) (same c) c.table.ensures.planned

numbered : (c : goal.After-shows_different_ids) → IsNumbered c.args.self.now.plan.nodes
numbered c = subst (λ (o : Outline). IsNumbered o.nodes) (same c) c.table.ensures.numbered

different : (c : goal.After-shows_different_ids) → AreDifferent c.args.self.now.plan.table
different c = subst AreDifferent
    (c.deref.ensures ∙ c.table.ensures.table ∙ ap (λ (o : Outline). o.table) (same c))
    c.shows_different_ids.ensures

pub returns-clause-around : goal.returns-clause-around
returns-clause-around c =
    let s = c.args.self.now in
    keeps_around s (planned c) (numbered c) (different c)
    (subst (λ (v : ShapeView). AreOwners v.plan v.owners) c.self.view_is c.self.invariant.0)
    (c.spine.ensures.places s.plan.nodes s.plan.table (planned c) (numbered c))
    c.spine.ensures.emits c.spine.ensures.keeps

pub returns-clause-places : goal.returns-clause-places
returns-clause-places c =
    let s = c.args.self.now in
    have_places s (c.spine.ensures.places s.plan.nodes s.plan.table (planned c) (numbered c))
    c.spine.ensures.runs

pub returns-clause-different : goal.returns-clause-different
returns-clause-different c = different c

pub returns-clause-planned : goal.returns-clause-planned
returns-clause-planned c = planned c
