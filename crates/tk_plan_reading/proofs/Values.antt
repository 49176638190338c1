-- Whether bytes are a value.
use Rattle.std.proofs.Common.{◌≡◌, ℕ, List, Bool, true, false, cond, Some, None, Err, refl, ap, ◌∙◌}
use Rattle.std.specs.Str.{is_utf8, IsUtf8}
use Rattle.std.proofs.lemmas.Str.{IsUtf8-from_is_utf8, is_utf8-from_IsUtf8}
use Rattle.serde_json.specs.Data.{Data}
use Rattle.serde_json.specs.Read.{read}
use Rattle.tk_plan_reading.specs.PlanOf.{PlanOf}
use Rattle.tk_plan_reading.specs.PlanAnswers.{plan_in, plan_or_json}
use Rattle.tk_plan_json.specs.declared.faults.PlanFault.TheVariants.{Json}

pub value_here : (bytes : List ℕ) (d : Data) → IsUtf8 bytes → read bytes ≡ Some d → plan_in bytes ≡ PlanOf d
value_here bytes d u e = ap (λ b. plan_or_json (cond b (read bytes) None)) (is_utf8-from_IsUtf8 bytes u) ∙ ap plan_or_json e

by_test : (bytes : List ℕ) (b : Bool) → is_utf8 bytes ≡ b → (IsUtf8 bytes → read bytes ≡ None) → cond b (read bytes) None ≡ None
by_test bytes true e h = h (IsUtf8-from_is_utf8 bytes e)
by_test bytes false e h = refl

pub no_value : (bytes : List ℕ) → (IsUtf8 bytes → read bytes ≡ None) → plan_in bytes ≡ Err Json
no_value bytes h = ap plan_or_json (by_test bytes (is_utf8 bytes) refl h)
