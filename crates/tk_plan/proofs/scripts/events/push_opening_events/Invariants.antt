use Rattle.std.proofs.Common.{◌≡◌, ◌++◌, ◌+◌, drop, length}
use Rattle.tk_plan.specs.Events.{opening_events, published, entry_event, file_event}
use Rattle.tk_plan.proofs.scripts.events.push_opening_events.Given as goal

abbrev pub invariant-entries : goal.invariant-entries
invariant-entries l =
    let node = l.numbered_node.node in
    l.fn.events.items ++ opening_events l.numbered_node.number l.stamp node
    ≡ l.events.items ++ (published (entry_event l.numbered_node.number) (l.stamp + 1 + l.index) (drop l.index l.entries) ++ published (file_event l.numbered_node.number) (l.stamp + 1 + length node.entries) node.files)

abbrev pub invariant-files : goal.invariant-files
invariant-files l =
    l.fn.events.items ++ opening_events l.numbered_node.number l.stamp l.numbered_node.node
    ≡ l.events.items ++ published (file_event l.numbered_node.number) (l.first + l.index) (drop l.index l.path-items)
