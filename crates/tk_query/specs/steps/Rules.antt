-- What private clauses and proofs alone name.
use Rattle.std.specs.Prelude.{◌≡◌, ◌≢◌, ℕ, Bool, false, ◌&&◌, List, get_or, Option, Some, None}
use Rattle.std.specs.Prelude.{bytes_eq, true, slice_get}
use Rattle.std.specs.List.{list_all}
use Rattle.std.specs.Global.{Box, Vec}
use Rattle.tk_ids.specs.IdText.{id_text}
use Rattle.tk_ids.specs.declared.descriptors.Descriptor.{Descriptor}
use Rattle.tk_events.specs.declared.payloads.Payload.{Payload}
use Rattle.tk_events.specs.declared.events.Entry.{Entry}
use Rattle.tk_record.specs.Entries.{desc}
use Rattle.tk_record.specs.Recorded.{Recorded}
use Rattle.tk_record.specs.Selections.{passes, Selected}
use Rattle.tk_record.specs.declared.selections.ColumnTest.{ColumnTest}
use Rattle.tk_query_conditions.specs.declared.conditions.Condition.{Condition}
use Rattle.tk_query.specs.declared.rules.PayloadTest.{PayloadTest}
use Rattle.tk_query.specs.declared.rules.PayloadTest.TheVariants.{Reason, Message, MessageContains}
use Rattle.tk_query.specs.declared.rules.PayloadTest.TheVariants.{Path, Report}
use Rattle.tk_query.specs.declared.rules.DescriptorTest.{DescriptorTest}
use Rattle.tk_query.specs.declared.rules.DescriptorTest.TheVariants.{Engine, Id, Segment, Name}
use Rattle.tk_query.specs.declared.rules.Rule.{Rule}
use Rattle.tk_query.specs.Holds.{has_descriptor, has_message, has_path, has_reason, has_segment}
use Rattle.tk_query.specs.Holds.{has_within, holds, is_engine, message_contains, reports}
use Rattle.tk_query.specs.Asked.{event_at, fits}
use Rattle.tk_query_conditions.specs.declared.conditions.Condition as condition
use Rattle.tk_query.specs.declared.rules.Rule.TheVariants as rule

-- whether a payload passes the test
abbrev pub payload_passes : PayloadTest → Payload → Bool
payload_passes (Reason text) payload = has_reason text.now payload
payload_passes (Message text) payload = has_message text.now payload
payload_passes (MessageContains text) payload = message_contains text.now payload
payload_passes (Path text) payload = has_path text.now payload
payload_passes (Report pairs) payload = reports pairs.now payload

-- whether a descriptor passes the test
abbrev pub descriptor_passes : DescriptorTest → Descriptor → Bool
descriptor_passes Engine d = is_engine d.id
descriptor_passes (Id text) d = has_within text.now (id_text d.id)
descriptor_passes (Segment tag value) d = has_segment tag.now value.now d.id
descriptor_passes (Name text) d = bytes_eq d.name text.now

-- whether the descriptor of a key passes the test
abbrev pub key_passes : DescriptorTest → Recorded → ℕ → Bool
key_passes test r key = has_descriptor (descriptor_passes test) (desc r key)

-- whether a rule accepts an entry of the record
abbrev pub rule_holds : Rule → Recorded → Entry → Bool
rule_holds (rule.Column test) r e = passes test r e
rule_holds (rule.Payload test payload_test) r e =
    passes test r e && payload_passes payload_test e.event.payload
rule_holds (rule.Descriptor test) r e = key_passes test r e.event.key
rule_holds rule.Members r e = false

-- the condition has no members
pub record IsAtom (c : Condition) : Type 0 where
  pub not_all : (members : Vec Condition) → c ≢ condition.All members
  pub not_any : (members : Vec Condition) → c ≢ condition.Any members
  pub not_not : (member : Box Condition) → c ≢ condition.Not member

-- a condition without members holds of exactly those entries that its rule accepts
pub record IsRuleOf (c : Condition) (rule : Rule) : Type 0 where
  pub judges :
      IsAtom c → (r : Recorded) (e : Entry) → holds r c e ≡ rule_holds rule r e

-- the rule accepts only entries that pass the test of a column
pub record AcceptsWithin (test : ColumnTest) (r : Recorded) (rule : Rule) : Type 0 where
  pub only : (e : Entry) → passes test r e ≡ false → rule_holds rule r e ≡ false

-- under each key that has an answer stands whether the key's descriptor passes the test
pub record AreAnswers (r : Recorded) (test : DescriptorTest) (answers : List (Option Bool)) :
    Type 0 where
  pub answers_are :
      (key : ℕ) (b : Bool) → get_or answers key None ≡ Some b → b ≡ key_passes test r key

-- the condition holds only of entries that pass the test of a column
pub record HoldsWithin (column_test : ColumnTest) (r : Recorded) (c : Condition) : Type 0 where
  pub within : (e : Entry) → passes column_test r e ≡ false → holds r c e ≡ false

-- all of the conditions hold only of entries that pass the test of a column
pub record AllHoldWithin (column_test : ColumnTest) (r : Recorded) (cs : List Condition) :
    Type 0 where
  pub all_within :
      (e : Entry) → passes column_test r e ≡ false → list_all (λ c. holds r c e) cs ≡ false

-- where a flag is set stands an event asked, and the condition holds of none where no flag is set
pub record AreLeft (asked : Selected) (c : Condition) (flags : List Bool) : Type 0 where
  pub there :
      (position : ℕ) → get_or flags position false ≡ true →
      event_at asked.kept position ≡ slice_get asked.recorded.entries position
  pub others :
      (position : ℕ) → get_or flags position false ≡ false → fits asked c position ≡ false
