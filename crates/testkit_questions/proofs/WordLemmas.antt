-- Words of questions: what one word more does.
use Rattle.std.proofs.Common.{◌≡◌, ◌≢◌, ◌<◌, ◌++◌, ◌∷◌, [], ℕ, zero, suc, List, length, map, take}
use Rattle.std.proofs.Common.{get_or, true, Some, Ok, refl, sym, ap, subst, ◌∙◌, arith}
use Rattle.std.specs.Prelude.{not, ◌==◌}
use Rattle.std.specs.List.{list_all, slice_get}
use Rattle.std.proofs.lemmas.List.Folds.{list_all_at}
use Rattle.tk_record.specs.declared.statistics.Expected.{Expected}
use Rattle.tk_record.specs.declared.selections.Selection.{Selection}
use Rattle.tk_record.specs.declared.selections.Selection.TheVariants.{All, Tests, Containers, Skipped}
use Rattle.tk_record.specs.declared.selections.Selection.TheVariants.{Started, Finished, Aborted}
use Rattle.tk_record.specs.declared.selections.Selection.TheVariants.{Succeeded, Failed, Reporting}
use Rattle.tk_record.specs.declared.selections.Selection.TheVariants.{Dynamic, Files}
use Rattle.tk_record.specs.Selections.{selection_name}
use Rattle.tk_query_conditions.specs.declared.conditions.Condition.{Condition}
use Rattle.tk_query_conditions.specs.Answer.{IsReadAs}
use Rattle.testkit_questions.specs.declared.conditions.ConditionsFault.{ConditionsFault}
use Rattle.testkit_questions.specs.declared.conditions.ConditionsFault.TheVariants as several
use Rattle.testkit_questions.specs.Conditions.{IsConditionsFault}
use Rattle.testkit_questions.specs.Questions.{AreConditions, Expecting, IsNextExpected}
use Rattle.testkit_questions.specs.steps.{IsTextFault}

lacks : (name : List ℕ) → list_all (λ b. not (b == 61)) name ≡ true → (i : ℕ) → i < length name → get_or name i 0 ≢ 61
lacks name all i lt is =
    let none = list_all_at (λ b. not (b == 61)) name i 0 lt (ap (λ b. not (b == 61)) is) in
    cc (all, none)

-- no selection's name has an equals sign
pub name_lacks : (s : Selection) (i : ℕ) → i < length (selection_name s) → get_or (selection_name s) i 0 ≢ 61
name_lacks All = lacks (selection_name All) refl
name_lacks Tests = lacks (selection_name Tests) refl
name_lacks Containers = lacks (selection_name Containers) refl
name_lacks Skipped = lacks (selection_name Skipped) refl
name_lacks Started = lacks (selection_name Started) refl
name_lacks Finished = lacks (selection_name Finished) refl
name_lacks Aborted = lacks (selection_name Aborted) refl
name_lacks Succeeded = lacks (selection_name Succeeded) refl
name_lacks Failed = lacks (selection_name Failed) refl
name_lacks Reporting = lacks (selection_name Reporting) refl
name_lacks Dynamic = lacks (selection_name Dynamic) refl
name_lacks Files = lacks (selection_name Files) refl

-- one word more
pub expecting_snoc : (first : Expected) (words : List (List ℕ)) (middle : Expected) (word : List ℕ) (next : Expected) →
    Expecting first words middle → IsNextExpected middle word (Some next) → Expecting first (words ++ word ∷ []) next
expecting_snoc first [] middle word next same more = (next, subst (λ (e : Expected). IsNextExpected e word (Some next)) same more, refl)
expecting_snoc first (w ∷ words) middle word next (then, one, rest) more = (then, one, expecting_snoc then words middle word next rest more)

-- one item more of a list of texts
pub texts_more : {A : Type 0} (f : A → List ℕ) → (xs : List A) (i : ℕ) (x : A) → i < length xs → x ≡ get_or xs i x → take (suc i) (map f xs) ≡ take i (map f xs) ++ f x ∷ []
texts_more f [] i x lt e = absurd (omega arith)
texts_more f (y ∷ xs) zero x lt e = ap (λ z. f z ∷ []) (sym e)
texts_more f (y ∷ xs) (suc i) x lt e = ap (λ t. f y ∷ t) (texts_more f xs i x (omega arith) e)

pub text_at : {A : Type 0} (f : A → List ℕ) → (xs : List A) (i : ℕ) (x : A) → i < length xs → x ≡ get_or xs i x → slice_get (map f xs) i ≡ Some (f x)
text_at f [] i x lt e = absurd (omega arith)
text_at f (y ∷ xs) zero x lt e = ap (λ z. Some (f z)) (sym e)
text_at f (y ∷ xs) (suc i) x lt e = text_at f xs i x (omega arith) e

pub expecting_more : (words : List (List ℕ)) (i : ℕ) (word : List ℕ) (first middle next : Expected) →
    take (suc i) words ≡ take i words ++ word ∷ [] → Expecting first (take i words) middle → IsNextExpected middle word (Some next) → Expecting first (take (suc i) words) next
expecting_more words i word first middle next e before more =
    subst (λ (t : List (List ℕ)). Expecting first t next) (sym e) (expecting_snoc first (take i words) middle word next before more)

conditions_snoc : (texts : List (List ℕ)) (cs : List Condition) (text : List ℕ) (c : Condition) → AreConditions texts cs → IsReadAs text (Ok c) → AreConditions (texts ++ text ∷ []) (cs ++ c ∷ [])
conditions_snoc [] [] text c before more = (more, tt)
conditions_snoc [] (d ∷ cs) text c before more = absurd before
conditions_snoc (t ∷ texts) [] text c before more = absurd before
conditions_snoc (t ∷ texts) (d ∷ cs) text c (one, before) more = (one, conditions_snoc texts cs text c before more)

pub conditions_more : (texts : List (List ℕ)) (i : ℕ) (text : List ℕ) (cs : List Condition) (c : Condition) →
    take (suc i) texts ≡ take i texts ++ text ∷ [] → AreConditions (take i texts) cs → IsReadAs text (Ok c) → AreConditions (take (suc i) texts) (cs ++ c ∷ [])
conditions_more texts i text cs c e before more =
    subst (λ (t : List (List ℕ)). AreConditions t (cs ++ c ∷ [])) (sym e) (conditions_snoc (take i texts) cs text c before more)

-- where the texts before it are conditions, a text's fault is that of all texts
pub bad_text : {A : Type 0} (f : A → List ℕ) → (words : List A) (i : ℕ) (word : A) (text : List ℕ) (cs : List Condition) (fault : ConditionsFault) →
    i < length words → word ≡ get_or words i word → text ≡ f word → AreConditions (take i (map f words)) cs → IsTextFault i text fault → IsConditionsFault (map f words) fault
bad_text f words i word text cs (several.Condition number fault) lt e is before bad =
    subst (λ (n : ℕ). IsConditionsFault (map f words) (several.Condition n fault)) (sym bad.0)
    (record { conditions = cs; before = before; text = text; at = text_at f words i word lt e ∙ ap (λ t. Some t) (sym is); bad = bad.1; read = bad.2 })
bad_text f words i word text cs several.Memory lt e is before bad = tt
