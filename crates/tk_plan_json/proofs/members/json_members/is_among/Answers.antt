use Rattle.std.proofs.Common.{sym, ◌∙◌}
use Rattle.std.specs.Str.{bytes_eq}
use Rattle.tk_plan_json.proofs.UnknownMembers.{list_any-map}
use Rattle.tk_plan_json.proofs.members.json_members.is_among.Goals as goal

pub returns : goal.returns
returns c = c.contains.ensures.value ∙ sym (list_any-map (λ n. bytes_eq n c.args.name.now) (λ n. n.now) c.args.names.now)
