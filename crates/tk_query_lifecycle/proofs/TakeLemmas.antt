-- What is known after one more event that breaks no rule.
use Rattle.std.proofs.Common.{◌≡◌, ℕ, List, None, Ok, Err, Result, subst}
use Rattle.tk_ids.specs.IdText.{SegmentView, IsId}
use Rattle.tk_events.specs.declared.events.Entry.{Entry}
use Rattle.tk_record.specs.Entries.{with_entry}
use Rattle.tk_record.specs.Recorded.{Recorded}
use Rattle.tk_query_lifecycle.specs.Lifecycle.{HasId, BreaksFirst, KnowsId}
use Rattle.tk_query_lifecycle.specs.steps.Progress.{AreAdvanced, AreNoted, IsChecked, IsProgress, IsTaken, next_event}
use Rattle.tk_query_lifecycle.specs.declared.lifecycle_rules.LifecycleRule.{LifecycleRule}
use Rattle.tk_query_lifecycle.specs.declared.lifecycle_rules.LifecycleRule.TheVariants.{IdKnown}
use Rattle.tk_query_lifecycle.specs.declared.key_states.KeyState.{KeyState}
use Rattle.tk_query_lifecycle.specs.declared.key_states.Parent.{Parent}
use Rattle.tk_query_lifecycle.proofs.ChildLemmas.{states_more}
use Rattle.tk_query_lifecycle.proofs.IdMapLemmas.{ids_more}

pub taken_broken : (past : Recorded) (e : Entry) (id : List SegmentView) (states : List KeyState) (checked : Result Parent LifecycleRule) (rule : LifecycleRule) → IsChecked (next_event past e) states id checked → checked ≡ Err rule → BreaksFirst past e rule
taken_broken past e id states checked rule h is = subst (IsChecked (next_event past e) states id) is h

pub taken : (past : Recorded) (e : Entry) (id : List SegmentView) (states new : List KeyState) (ids noted : List (List ℕ × ℕ)) (checked : Result Parent LifecycleRule) (parent : Parent)
    → IsProgress past states ids → HasId (with_entry past e) e.event.key id → IsId id → IsChecked (next_event past e) states id checked → checked ≡ Ok parent
    → AreNoted ids noted e id → AreAdvanced states new e parent → IsTaken (next_event past e) new noted None
taken past e id states new ids noted checked parent p its is_id h is note adv =
    let c = subst (IsChecked (next_event past e) states id) is h in (
      c.0,
      record {
        states_are = states_more past e id states new parent p.states_are its c.1 c.2 c.3 adv;
        ids_are = ids_more past e id ids noted p.ids_are its is_id note
            (λ dynamic key known. c.0 IdKnown (let k : KnowsId past e = record { dynamic = dynamic; id = id; registered = its; earlier = key; known = known } in k));
      },
    )
