-- The text of each fault.
use Rattle.std.specs.Prelude.{ℕ, List, ◌++◌, codes}
use Rattle.std.specs.Fmt.{decimal}
use Rattle.tk_query_conditions.specs.declared.faults.CondFault.{CondFault}
use Rattle.tk_query_conditions.specs.declared.faults.CondFault.TheVariants as conditions
use Rattle.tk_query_conditions.specs.FaultTexts.{condition_fault_text}
use Rattle.tk_record_text.specs.FaultTexts.{read_fault_text}
use Rattle.testkit_questions.specs.declared.faults.AskFault.{AskFault}
use Rattle.testkit_questions.specs.declared.faults.AskFault.TheVariants as asks
use Rattle.testkit_questions.specs.declared.conditions.ConditionsFault.{ConditionsFault}
use Rattle.testkit_questions.specs.declared.conditions.ConditionsFault.TheVariants as several

-- why the word of this number is no condition
abbrev pub condition_text : ℕ → CondFault → List ℕ
condition_text word conditions.Memory = codes "out of memory"
condition_text word fault =
    codes "condition " ++ decimal word ++ codes " is " ++ condition_fault_text fault

abbrev pub ask_fault_text : AskFault → List ℕ
ask_fault_text asks.Question = codes "unknown question"
ask_fault_text (asks.Word word) = codes "bad word " ++ decimal word
ask_fault_text (asks.Condition word fault) = condition_text word fault
ask_fault_text (asks.Read fault) = read_fault_text fault
ask_fault_text asks.Device = codes "device failed"
ask_fault_text asks.Memory = codes "out of memory"

abbrev pub conditions_fault_text : ConditionsFault → List ℕ
conditions_fault_text (several.Condition number fault) = condition_text number fault
conditions_fault_text several.Memory = codes "out of memory"
