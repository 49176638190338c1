-- Words are read in one way.
use Rattle.std.proofs.Common.{◌≡◌, ◌≢◌, ◌<◌, ◌≤◌, ◌+◌, ◌++◌, ◌∷◌, [], ℕ, zero, suc, List, length, take, get_or, Some, None, Result, Ok, Err, Vec, Global, refl, sym, ap, subst, ◌∙◌, arith, inl, inr}
use Rattle.std.specs.Prelude.{codes, bytes_eq, if◌then◌else◌}
use Rattle.std.specs.List.{slice_get}
use Rattle.std.specs.Fmt.{decimal}
use Rattle.std.proofs.lemmas.Fmt.{decimal_injective}
use Rattle.std.proofs.lemmas.Option.{same_Some, none-some}
use Rattle.tk_record.specs.declared.statistics.Expected.{Expected}
use Rattle.tk_record.specs.declared.selections.Selection.{Selection}
use Rattle.tk_record.specs.declared.selections.Selection.TheVariants.{All, Tests, Containers, Skipped, Started, Finished, Aborted, Succeeded, Failed, Reporting, Dynamic, Files}
use Rattle.tk_record.specs.Selections.{selection_name}
use Rattle.tk_record.specs.Statistics.{nothing_expected}
use Rattle.tk_query_conditions.specs.declared.conditions.Condition.{Condition}
use Rattle.tk_query_conditions.specs.declared.faults.CondFault.{CondFault}
use Rattle.tk_query_conditions.specs.declared.faults.CondFault.TheVariants.{BadAtom, Deep, Memory}
use Rattle.tk_query_conditions.specs.Answer.{IsReadAs}
use Rattle.tk_query_conditions.specs.CondOf.{cond_of}
use Rattle.tk_query_conditions.proofs.AnswerIsUnique as condition
use Rattle.testkit_questions.specs.declared.faults.AskFault.{AskFault}
use Rattle.testkit_questions.specs.declared.faults.AskFault.TheVariants as faults
use Rattle.testkit_questions.specs.declared.questions.Mode.{Mode}
use Rattle.testkit_questions.specs.declared.questions.Mode.TheVariants.{Exactly, Loosely, InOrder}
use Rattle.testkit_questions.specs.declared.questions.Question.{Question}
use Rattle.testkit_questions.specs.declared.questions.Question.TheVariants as questions
use Rattle.testkit_questions.specs.declared.questions.QuestionName.{QuestionName}
use Rattle.testkit_questions.specs.declared.questions.QuestionName.TheVariants as names
use Rattle.testkit_questions.specs.Questions.{AreConditions, AreHolders, Begins, Expecting, IsAskedAs}
use Rattle.testkit_questions.specs.Questions.{IsBadCondition, IsBadHolder, IsConditionFault}
use Rattle.testkit_questions.specs.Questions.{IsConditionsReading, IsEnd, IsExclusiveReading}
use Rattle.testkit_questions.specs.Questions.{IsExpectation, IsMatchReading, IsNextExpected, IsNoName}
use Rattle.testkit_questions.specs.Questions.{IsReadAfter, IsStatsReading, Reading, expecting, mode_name}
use Rattle.testkit_questions.specs.Questions.{question_word}
use Rattle.testkit_questions.specs.Requests.{IsExplainedAs, IsNamedToExplain}
use Rattle.testkit_questions.proofs.WordLemmas.{name_lacks}

heads : {A : Type 0} (x y : A) (xs ys : List A) → x ∷ xs ≡ y ∷ ys → x ≡ y
heads x y xs ys e = cc

pub tails : {A : Type 0} (x y : A) (xs ys : List A) → x ∷ xs ≡ y ∷ ys → xs ≡ ys
tails x y xs ys e = cc

-- ---- a name has one selection, and one mode

abbrev selection_of : List ℕ → Selection
selection_of name =
    if bytes_eq name (codes "all") then All else (
    if bytes_eq name (codes "tests") then Tests else (
    if bytes_eq name (codes "containers") then Containers else (
    if bytes_eq name (codes "skipped") then Skipped else (
    if bytes_eq name (codes "started") then Started else (
    if bytes_eq name (codes "finished") then Finished else (
    if bytes_eq name (codes "aborted") then Aborted else (
    if bytes_eq name (codes "succeeded") then Succeeded else (
    if bytes_eq name (codes "failed") then Failed else (
    if bytes_eq name (codes "reporting") then Reporting else (
    if bytes_eq name (codes "dynamic") then Dynamic else Files))))))))))

named : (s : Selection) → selection_of (selection_name s) ≡ s
named All = refl
named Tests = refl
named Containers = refl
named Skipped = refl
named Started = refl
named Finished = refl
named Aborted = refl
named Succeeded = refl
named Failed = refl
named Reporting = refl
named Dynamic = refl
named Files = refl

one_selection : (s t : Selection) → selection_name s ≡ selection_name t → s ≡ t
one_selection s t e = sym (named s) ∙ ap (λ (name : List ℕ). selection_of name) e ∙ named t

abbrev mode_of : List ℕ → Mode
mode_of name = if bytes_eq name (codes "exactly") then Exactly else (if bytes_eq name (codes "loosely") then Loosely else InOrder)

called : (m : Mode) → mode_of (mode_name m) ≡ m
called Exactly = refl
called Loosely = refl
called InOrder = refl

one_mode : (m n : Mode) → mode_name m ≡ mode_name n → m ≡ n
one_mode m n e = sym (called m) ∙ ap (λ (name : List ℕ). mode_of name) e ∙ called n

abbrev question_of : List ℕ → QuestionName
question_of name =
    if bytes_eq name (codes "stats") then names.Stats else (
    if bytes_eq name (codes "count") then names.Count else (
    if bytes_eq name (codes "match") then names.Match else (
    if bytes_eq name (codes "list") then names.List else (
    if bytes_eq name (codes "exclusive") then names.Exclusive else (
    if bytes_eq name (codes "executions") then names.Executions else (
    if bytes_eq name (codes "lifecycle") then names.Lifecycle else (
    if bytes_eq name (codes "locks") then names.Locks else names.Report)))))))

entitled : (n : QuestionName) → question_of (question_word n) ≡ n
entitled names.Stats = refl
entitled names.Count = refl
entitled names.Match = refl
entitled names.List = refl
entitled names.Exclusive = refl
entitled names.Executions = refl
entitled names.Lifecycle = refl
entitled names.Locks = refl
entitled names.Report = refl

pub one_question : (m n : QuestionName) → question_word m ≡ question_word n → m ≡ n
one_question m n e =
    sym (entitled m) ∙ ap (λ (name : List ℕ). question_of name) e ∙ entitled n

-- ---- what words begin with

no_name : {A : Type 0} (name : A → List ℕ) (words : List (List ℕ)) (a : A)
    (rest : List (List ℕ)) → IsNoName name words → words ≡ name a ∷ rest → ⊥
no_name name words a rest none is =
    let h = subst (λ (t : List (List ℕ)). IsNoName name t) is none in h a refl

-- words begin in one way
pub one_beginning : {A : Type 0} (name : A → List ℕ) → ((a b : A) → name a ≡ name b → a ≡ b)
    → (words : List (List ℕ)) (P Q : A → List (List ℕ) → Type 0) (X Y R : Type 0)
    → ((a : A) (rest : List (List ℕ)) → P a rest → Q a rest → R) → (X → Y → R)
    → Begins name words P X → Begins name words Q Y → R
one_beginning {A = A} name one words P Q X Y R both neither
    (inl (a, rest, is, h)) (inl (b, more, too, k)) =
    let e = sym too ∙ is in
    let same = one b a (heads (name b) (name a) more rest e) in
    let tail = tails (name b) (name a) more rest e in
    both a rest h (subst (λ (n : A). Q n rest) same
    (subst (λ (l : List (List ℕ)). Q b l) tail k))
one_beginning name one words P Q X Y R both neither (inl (a, rest, is, h)) (inr (none, k)) =
    absurd (no_name name words a rest none is)
one_beginning name one words P Q X Y R both neither (inr (none, h)) (inl (b, more, too, k)) =
    absurd (no_name name words b more none too)
one_beginning name one words P Q X Y R both neither (inr (none, h)) (inr (other, k)) =
    neither h k

-- ---- expectations

cut_once : (a b x y : List ℕ) → ((i : ℕ) → i < length a → get_or a i 0 ≢ 61) → ((i : ℕ) → i < length b → get_or b i 0 ≢ 61) → a ++ 61 ∷ x ≡ b ++ 61 ∷ y → (a ≡ b) × (x ≡ y)
cut_once [] [] x y f g e = (refl, tails 61 61 x y e)
cut_once [] (d ∷ b) x y f g e = absurd (g 0 (omega arith) (sym (heads 61 d x (b ++ 61 ∷ y) e)))
cut_once (c ∷ a) [] x y f g e = absurd (f 0 (omega arith) (heads c 61 (a ++ 61 ∷ x) y e))
cut_once (c ∷ a) (d ∷ b) x y f g e =
    let same = heads c d (a ++ 61 ∷ x) (b ++ 61 ∷ y) e in
    let rest = cut_once a b x y (λ i lt. f (suc i) (omega arith)) (λ i lt. g (suc i) (omega arith)) (tails c d (a ++ 61 ∷ x) (b ++ 61 ∷ y) e) in
    (ap (λ (n : ℕ). n ∷ a) same ∙ ap (λ (l : List ℕ). d ∷ l) rest.0, rest.1)

one_expectation : (word : List ℕ) (s t : Selection) (m n : ℕ) → IsExpectation word s m → IsExpectation word t n → (s ≡ t) × (m ≡ n)
one_expectation word s t m n p q =
    let parts = cut_once (selection_name s) (selection_name t) (decimal m) (decimal n) (name_lacks s) (name_lacks t) (sym p.word_is ∙ q.word_is) in
    (one_selection s t parts.0, decimal_injective m n p.number q.number parts.1)

one_next : (e : Expected) (word : List ℕ) (a b : Expected) → IsNextExpected e word (Some a) → IsNextExpected e word (Some b) → a ≡ b
one_next e word a b p q =
    let same = one_expectation word p.0 q.0 p.1 q.1 p.2 q.2 in
    same_Some a b (sym p.3 ∙ ap (λ (s : Selection). expecting e s p.1) same.0 ∙ ap (λ (n : ℕ). expecting e q.0 n) same.1 ∙ q.3)

not_next : (e : Expected) (word : List ℕ) (a : Expected) → IsNextExpected e word None → IsNextExpected e word (Some a) → ⊥
not_next e word a none p = none-some a (sym (none p.0 p.1 p.2) ∙ p.3)

one_expected : (first : Expected) (words : List (List ℕ)) (a b : Expected) → Expecting first words a → Expecting first words b → a ≡ b
one_expected first [] a b p q = p ∙ sym q
one_expected first (w ∷ words) a b p q =
    one_expected p.0 words a b p.2 (subst (λ (e : Expected). Expecting e words b) (one_next first w q.0 p.0 q.1 p.1) q.2)

bad_here : (first e : Expected) (x v : List ℕ) (next : Expected) → e ≡ first → x ≡ v → IsNextExpected e v None → IsNextExpected first x (Some next) → ⊥
bad_here first e x v next same is bad good =
    not_next first x next (subst (λ (f : Expected). IsNextExpected f x None) same (subst (λ (w : List ℕ). IsNextExpected e w None) (sym is) bad)) good

good_not_bad : (first : Expected) (words : List (List ℕ)) (last : Expected) (i : ℕ) (e : Expected) (word : List ℕ) →
    Expecting first words last → Expecting first (take i words) e → slice_get words i ≡ Some word → IsNextExpected e word None → ⊥
good_not_bad first [] last i e word p q at bad = none-some word at
good_not_bad first (w ∷ words) last zero e word p q at bad = bad_here first e w word p.0 q (same_Some w word at) bad p.1
good_not_bad first (w ∷ words) last (suc i) e word p q at bad =
    good_not_bad p.0 words last i e word p.2 (subst (λ (f : Expected). Expecting f (take i words) e) (one_next first w q.0 p.0 q.1 p.1) q.2) at bad

both_bad : (first : Expected) (words : List (List ℕ)) (i j : ℕ) (e f : Expected) (v w : List ℕ) →
    Expecting first (take i words) e → Expecting first (take j words) f → slice_get words i ≡ Some v → slice_get words j ≡ Some w → IsNextExpected e v None → IsNextExpected f w None → i ≡ j
both_bad first [] i j e f v w p q at there bad worse = absurd (none-some v at)
both_bad first (x ∷ words) zero zero e f v w p q at there bad worse = refl
both_bad first (x ∷ words) zero (suc j) e f v w p q at there bad worse = absurd (bad_here first e x v q.0 p (same_Some x v at) bad q.1)
both_bad first (x ∷ words) (suc i) zero e f v w p q at there bad worse = absurd (bad_here first f x w p.0 q (same_Some x w there) worse p.1)
both_bad first (x ∷ words) (suc i) (suc j) e f v w p q at there bad worse =
    ap suc (both_bad p.0 words i j e f v w p.2 (subst (λ (g : Expected). Expecting g (take j words) f) (one_next first x q.0 p.0 q.1 p.1) q.2) at there bad worse)

-- ---- conditions

-- conditions that say the same
abbrev pub AreAlike : List Condition → List Condition → Type 0
AreAlike [] [] = Unit {0}
AreAlike (c ∷ cs) (d ∷ ds) = (cond_of c ≡ cond_of d) × AreAlike cs ds
AreAlike _ _ = ⊥

one_conditions : (texts : List (List ℕ)) (cs ds : List Condition) → AreConditions texts cs → AreConditions texts ds → AreAlike cs ds
one_conditions [] [] [] p q = tt
one_conditions [] [] (d ∷ ds) p q = absurd q
one_conditions [] (c ∷ cs) ds p q = absurd p
one_conditions (t ∷ texts) [] ds p q = absurd p
one_conditions (t ∷ texts) (c ∷ cs) [] p q = absurd q
one_conditions (t ∷ texts) (c ∷ cs) (d ∷ ds) p q = (condition.answer_is_unique t (Ok c) (Ok d) p.0 q.0, one_conditions texts cs ds p.1 q.1)

not_faulty : (text : List ℕ) (c : Condition) (fault : CondFault) → IsReadAs text (Ok c) → IsReadAs text (Err fault) → fault ≢ Memory → ⊥
not_faulty text c (BadAtom n) p q read = condition.answer_is_unique text (Ok c) (Err (BadAtom n)) p q
not_faulty text c Deep p q read = condition.answer_is_unique text (Ok c) (Err Deep) p q
not_faulty text c Memory p q read = read refl

one_fault : (text : List ℕ) (f g : CondFault) → IsReadAs text (Err f) → IsReadAs text (Err g) → f ≢ Memory → g ≢ Memory → f ≡ g
one_fault text (BadAtom m) (BadAtom n) p q x y = ap (λ (k : ℕ). BadAtom k) (condition.answer_is_unique text (Err (BadAtom m)) (Err (BadAtom n)) p q)
one_fault text (BadAtom m) Deep p q x y = absurd (condition.answer_is_unique text (Err (BadAtom m)) (Err Deep) p q)
one_fault text (BadAtom m) Memory p q x y = absurd (y refl)
one_fault text Deep (BadAtom n) p q x y = absurd (condition.answer_is_unique text (Err Deep) (Err (BadAtom n)) p q)
one_fault text Deep Deep p q x y = refl
one_fault text Deep Memory p q x y = absurd (y refl)
one_fault text Memory g p q x y = absurd (x refl)

condition_at : (texts : List (List ℕ)) (cs : List Condition) (i : ℕ) (text : List ℕ) → AreConditions texts cs → slice_get texts i ≡ Some text → (c : Condition) × IsReadAs text (Ok c)
condition_at [] cs i text p at = absurd (none-some text at)
condition_at (t ∷ texts) [] i text p at = absurd p
condition_at (t ∷ texts) (c ∷ cs) zero text p at = (c, subst (λ (v : List ℕ). IsReadAs v (Ok c)) (same_Some t text at) p.0)
condition_at (t ∷ texts) (c ∷ cs) (suc i) text p at = condition_at texts cs i text p.1 at

fault_here : (t v : List ℕ) (c : Condition) (fault : CondFault) → t ≡ v → IsReadAs t (Ok c) → IsReadAs v (Err fault) → fault ≢ Memory → ⊥
fault_here t v c fault e p q read = not_faulty v c fault (subst (λ (w : List ℕ). IsReadAs w (Ok c)) e p) q read

both_faulty : (texts : List (List ℕ)) (i j : ℕ) (cs ds : List Condition) (v w : List ℕ) (f g : CondFault) →
    AreConditions (take i texts) cs → AreConditions (take j texts) ds → slice_get texts i ≡ Some v → slice_get texts j ≡ Some w →
    IsReadAs v (Err f) → IsReadAs w (Err g) → f ≢ Memory → g ≢ Memory → (i ≡ j) × (f ≡ g)
both_faulty [] i j cs ds v w f g p q at there bad worse x y = absurd (none-some v at)
both_faulty (t ∷ texts) zero zero cs ds v w f g p q at there bad worse x y =
    (refl, one_fault w f g (subst (λ (u : List ℕ). IsReadAs u (Err f)) (sym (same_Some t v at) ∙ same_Some t w there) bad) worse x y)
both_faulty (t ∷ texts) zero (suc j) cs [] v w f g p q at there bad worse x y = absurd q
both_faulty (t ∷ texts) zero (suc j) cs (d ∷ ds) v w f g p q at there bad worse x y = absurd (fault_here t v d f (same_Some t v at) q.0 bad x)
both_faulty (t ∷ texts) (suc i) zero [] ds v w f g p q at there bad worse x y = absurd p
both_faulty (t ∷ texts) (suc i) zero (c ∷ cs) ds v w f g p q at there bad worse x y = absurd (fault_here t w c g (same_Some t w there) p.0 worse y)
both_faulty (t ∷ texts) (suc i) (suc j) [] ds v w f g p q at there bad worse x y = absurd p
both_faulty (t ∷ texts) (suc i) (suc j) (c ∷ cs) [] v w f g p q at there bad worse x y = absurd q
both_faulty (t ∷ texts) (suc i) (suc j) (c ∷ cs) (d ∷ ds) v w f g p q at there bad worse x y =
    let rest = both_faulty texts i j cs ds v w f g p.1 q.1 at there bad worse x y in
    (ap suc rest.0, rest.1)

good_not_faulty : (texts : List (List ℕ)) (cs : List Condition) (at : ℕ) (f : CondFault)
    → AreConditions texts cs → IsBadCondition texts at f → ⊥
good_not_faulty texts cs at f p bad =
    let c = condition_at texts cs at bad.text p bad.at in
    not_faulty bad.text c.0 f c.1 bad.bad bad.read

good_no_fault : (first : ℕ) (texts : List (List ℕ)) (cs : List Condition) (fault : AskFault)
    → fault ≢ faults.Memory → AreConditions texts cs → IsConditionFault first texts fault → ⊥
good_no_fault first texts cs fault s h (inl (at, why, bad, e)) =
    good_not_faulty texts cs at why h bad
good_no_fault first texts cs fault s h (inr e) = s e

condition_same : (i j : ℕ) (f g : CondFault) → i ≡ j → f ≡ g
    → (let a : AskFault = faults.Condition i f in a) ≡ faults.Condition j g
condition_same i j f g p q = rw (p, q) refl

one_condition_fault : (first : ℕ) (texts : List (List ℕ)) (f g : AskFault)
    → f ≢ faults.Memory → g ≢ faults.Memory
    → IsConditionFault first texts f → IsConditionFault first texts g → f ≡ g
one_condition_fault first texts f g s t (inl (i, v, bad, p)) (inl (j, w, worse, q)) =
    let both = both_faulty texts i j bad.conditions worse.conditions bad.text worse.text v w
    bad.before worse.before bad.at worse.at bad.bad worse.bad bad.read worse.read in
    p ∙ condition_same (first + i) (first + j) v w (ap (λ (n : ℕ). first + n) both.0) both.1
    ∙ sym q
one_condition_fault first texts f g s t (inl bad) (inr e) = absurd (t e)
one_condition_fault first texts f g s t (inr e) k = absurd (s e)

-- ---- all words

pub alike_itself : (cs : List Condition) → AreAlike cs cs
alike_itself [] = tt
alike_itself (c ∷ cs) = (refl, alike_itself cs)

-- questions that ask the same: they are the same, or their conditions say the same
pub data AreSame (p q : Question) : Type 0 where
  equal : p ≡ q → AreSame p q
  matching : (s : Selection) (m : Mode) (cs ds : Vec Condition Global)
      → AreAlike cs.items ds.items
      → p ≡ questions.Match s m cs → q ≡ questions.Match s m ds → AreSame p q
  listing : (s : Selection) (cs ds : Vec Condition Global) → AreAlike cs.items ds.items
      → p ≡ questions.List s cs → q ≡ questions.List s ds → AreSame p q
  excluding : (w r v s : Condition) → cond_of w ≡ cond_of v → cond_of r ≡ cond_of s
      → p ≡ questions.Exclusive w r → q ≡ questions.Exclusive v s → AreSame p q

abbrev pub SameReading : Reading → Reading → Type 0
SameReading (Ok p) (Ok q) = AreSame p q
SameReading (Err f) (Err g) = f ≡ g
SameReading _ _ = ⊥

-- it depends on the words alone
abbrev pub IsOfWords : {X : Type 0} → Result X AskFault → Type 0
IsOfWords result = result ≢ Err faults.Memory

alike : (a b x y : Reading) → a ≡ x → b ≡ y → SameReading x y → SameReading a b
alike a b x y p q same =
    subst (λ (c : Reading). SameReading c b) (sym p)
    (subst (λ (c : Reading). SameReading x c) (sym q) same)

-- a fault of words isn't that memory was refused
no_memory : (a : Reading) (f : AskFault) → IsOfWords a → a ≡ Err f → f ≢ faults.Memory
no_memory a f s is e = s (is ∙ ap (λ (g : AskFault). Err g) e)

one_end : (question : Question) (first : ℕ) (words : List (List ℕ)) (a b : Reading)
    → IsEnd question first words a → IsEnd question first words b → SameReading a b
one_end question first [] a b p q = alike a b (Ok question) (Ok question) p q (equal refl)
one_end question first (_ ∷ _) a b p q =
    alike a b (Err (faults.Word first)) (Err (faults.Word first)) p q refl

one_stats : (s : Selection) (first : ℕ) (words : List (List ℕ)) (a b : Reading)
    → IsStatsReading s first words a → IsStatsReading s first words b → SameReading a b
one_stats s first words a b (inl (e, h, p)) (inl (f, k, q)) =
    alike a b (Ok (questions.Stats s e)) (Ok (questions.Stats s f)) p q
    (equal (ap (λ (x : Expected). questions.Stats s x)
    (one_expected nothing_expected words e f h k)))
one_stats s first words a b (inl (e, h, p)) (inr (i, k, q)) =
    absurd (good_not_bad nothing_expected words e i k.expected k.word h k.before k.at k.bad)
one_stats s first words a b (inr (i, h, p)) (inl (e, k, q)) =
    absurd (good_not_bad nothing_expected words e i h.expected h.word k h.before h.at h.bad)
one_stats s first words a b (inr (i, h, p)) (inr (j, k, q)) =
    alike a b (Err (faults.Word (first + i))) (Err (faults.Word (first + j))) p q
    (ap (λ (n : ℕ). faults.Word (first + n)) (both_bad nothing_expected words i j
    h.expected k.expected h.word k.word h.before k.before h.at k.at h.bad k.bad))

one_of_conditions : (question : Vec Condition Global → Question)
    → ((cs ds : Vec Condition Global) → AreAlike cs.items ds.items
    → AreSame (question cs) (question ds))
    → (first : ℕ) (texts : List (List ℕ)) (a b : Reading) → IsOfWords a → IsOfWords b
    → IsConditionsReading question first texts a → IsConditionsReading question first texts b
    → SameReading a b
one_of_conditions question same first texts a b s t (inl (cs, h, p)) (inl (ds, k, q)) =
    alike a b (Ok (question cs)) (Ok (question ds)) p q
    (same cs ds (one_conditions texts cs.items ds.items h k))
one_of_conditions question same first texts a b s t (inl (cs, h, p)) (inr (g, k, q)) =
    absurd (good_no_fault first texts cs.items g (no_memory b g t q) h k)
one_of_conditions question same first texts a b s t (inr (f, h, p)) (inl (ds, k, q)) =
    absurd (good_no_fault first texts ds.items f (no_memory a f s p) k h)
one_of_conditions question same first texts a b s t (inr (f, h, p)) (inr (g, k, q)) =
    alike a b (Err f) (Err g) p q
    (one_condition_fault first texts f g (no_memory a f s p) (no_memory b g t q) h k)

one_match : (s : Selection) (first : ℕ) (words : List (List ℕ)) (a b : Reading)
    → IsOfWords a → IsOfWords b
    → IsMatchReading s first words a → IsMatchReading s first words b → SameReading a b
one_match s first words a b u t h k =
    one_beginning mode_name one_mode words _ _ _ _ (SameReading a b)
    (λ m texts. one_of_conditions (questions.Match s m)
    (λ cs ds like. matching s m cs ds like refl refl) (first + 1) texts a b u t)
    (λ p q. alike a b (Err (faults.Word first)) (Err (faults.Word first)) p q refl)
    h k

-- ---- the conditions of writers and of readers

pub as_many_texts : (texts : List (List ℕ)) (cs : List Condition) → AreConditions texts cs
    → length texts ≡ length cs
as_many_texts [] [] h = refl
as_many_texts [] (c ∷ cs) h = absurd h
as_many_texts (t ∷ texts) [] h = absurd h
as_many_texts (t ∷ texts) (c ∷ cs) h = ap suc (as_many_texts texts cs h.1)

holders_same : (rest : List (List ℕ)) (w r v s : Condition) → AreHolders rest w r
    → AreHolders rest v s → (cond_of w ≡ cond_of v) × (cond_of r ≡ cond_of s)
holders_same rest w r v s (inl h) (inl k) =
    let like = one_conditions rest (w ∷ r ∷ []) (v ∷ s ∷ []) h k in (like.0, like.1.0)
holders_same rest w r v s (inl h) (inr k) =
    let like = one_conditions rest (w ∷ r ∷ []) (v ∷ []) h k.0 in absurd like.1
holders_same rest w r v s (inr h) (inl k) =
    let like = one_conditions rest (w ∷ []) (v ∷ s ∷ []) h.0 k in absurd like.1
holders_same rest w r v s (inr h) (inr k) =
    let like = one_conditions rest (w ∷ []) (v ∷ []) h.0 k.0 in (like.0, h.1 ∙ sym k.1)

few_holders : (rest : List (List ℕ)) (w r : Condition) → AreHolders rest w r
    → (0 < length rest) × (length rest ≤ 2)
few_holders rest w r (inl h) =
    let many = as_many_texts rest (w ∷ r ∷ []) h in (omega arith, omega arith)
few_holders rest w r (inr h) =
    let many = as_many_texts rest (w ∷ []) h.0 in (omega arith, omega arith)

holders_no_fault : (first : ℕ) (rest : List (List ℕ)) (w r : Condition) (f : AskFault)
    → f ≢ faults.Memory → AreHolders rest w r → IsConditionFault first rest f → ⊥
holders_no_fault first rest w r f s (inl h) bad =
    good_no_fault first rest (w ∷ r ∷ []) f s h bad
holders_no_fault first rest w r f s (inr h) bad =
    good_no_fault first rest (w ∷ []) f s h.0 bad

good_number : (rest : List (List ℕ)) (i : ℕ) → IsBadHolder rest i
    → 0 < length rest → length rest ≤ 2 → ⊥
good_number rest i (inl h) some few = let long = ap length h.0 in omega arith
good_number rest i (inr h) some few = let long = h.0 in omega arith

one_number : (rest : List (List ℕ)) (i j : ℕ) → IsBadHolder rest i → IsBadHolder rest j → i ≡ j
one_number rest i j (inl h) (inl k) = h.1 ∙ sym k.1
one_number rest i j (inl h) (inr k) =
    let none = ap length h.0 in let long = k.0 in absurd (omega arith)
one_number rest i j (inr h) (inl k) =
    let none = ap length k.0 in let long = h.0 in absurd (omega arith)
one_number rest i j (inr h) (inr k) = h.1 ∙ sym k.1

-- without a text no text is bad
some_text : (first : ℕ) (rest : List (List ℕ)) (f : AskFault) → f ≢ faults.Memory
    → IsConditionFault first rest f → 0 < length rest
some_text first [] f s (inl (at, why, bad, e)) = absurd (none-some bad.text bad.at)
some_text first (t ∷ rest) f s (inl bad) = omega arith
some_text first rest f s (inr e) = absurd (s e)

one_exclusive : (first : ℕ) (rest : List (List ℕ)) (a b : Reading) → IsOfWords a → IsOfWords b
    → IsExclusiveReading first rest a → IsExclusiveReading first rest b → SameReading a b
one_exclusive first rest a b s t (inl (w, r, h, p)) (inl (v, x, k, q)) =
    let same = holders_same rest w r v x h k in
    alike a b (Ok (questions.Exclusive w r)) (Ok (questions.Exclusive v x)) p q
    (excluding w r v x same.0 same.1 refl refl)
one_exclusive first rest a b s t (inl (w, r, h, p)) (inr (inl (j, k, q))) =
    let few = few_holders rest w r h in absurd (good_number rest j k few.0 few.1)
one_exclusive first rest a b s t (inl (w, r, h, p)) (inr (inr (few, g, k, q))) =
    absurd (holders_no_fault first rest w r g (no_memory b g t q) h k)
one_exclusive first rest a b s t (inr (inl (i, h, p))) (inl (v, x, k, q)) =
    let few = few_holders rest v x k in absurd (good_number rest i h few.0 few.1)
one_exclusive first rest a b s t (inr (inl (i, h, p))) (inr (inl (j, k, q))) =
    alike a b (Err (faults.Word (first + i))) (Err (faults.Word (first + j))) p q
    (ap (λ (n : ℕ). faults.Word (first + n)) (one_number rest i j h k))
one_exclusive first rest a b s t (inr (inl (i, h, p))) (inr (inr (few, g, k, q))) =
    absurd (good_number rest i h (some_text first rest g (no_memory b g t q) k) few)
one_exclusive first rest a b s t (inr (inr (few, f, h, p))) (inl (v, x, k, q)) =
    absurd (holders_no_fault first rest v x f (no_memory a f s p) k h)
one_exclusive first rest a b s t (inr (inr (few, f, h, p))) (inr (inl (j, k, q))) =
    absurd (good_number rest j k (some_text first rest f (no_memory a f s p) h) few)
one_exclusive first rest a b s t (inr (inr (few, f, h, p))) (inr (inr (less, g, k, q))) =
    alike a b (Err f) (Err g) p q
    (one_condition_fault first rest f g (no_memory a f s p) (no_memory b g t q) h k)

-- ---- questions

module _ (a b : Reading) (s : IsOfWords a) (t : IsOfWords b) where
  bad_first : (first : ℕ) → a ≡ Err (faults.Word first) → b ≡ Err (faults.Word first)
      → SameReading a b
  bad_first first p q =
      alike a b (Err (faults.Word first)) (Err (faults.Word first)) p q refl

  pub one_after : (name : QuestionName) (first : ℕ) (words : List (List ℕ))
      → IsReadAfter name first words a → IsReadAfter name first words b → SameReading a b
  one_after names.Stats first words h k =
      one_beginning selection_name one_selection words _ _ _ _ (SameReading a b)
      (λ c rest. one_stats c (first + 1) rest a b) (one_stats All first words a b) h k
  one_after names.Count first words h k =
      one_beginning selection_name one_selection words _ _ _ _ (SameReading a b)
      (λ c rest. one_end (questions.Count c) (first + 1) rest a b) (bad_first first) h k
  one_after names.Match first words h k =
      one_beginning selection_name one_selection words _ _ _ _ (SameReading a b)
      (λ c rest. one_match c (first + 1) rest a b s t) (one_match All first words a b s t) h k
  one_after names.List first words h k =
      one_beginning selection_name one_selection words _ _ _ _ (SameReading a b)
      (λ c texts. one_of_conditions (questions.List c)
      (λ cs ds like. listing c cs ds like refl refl) (first + 1) texts a b s t)
      (bad_first first) h k
  one_after names.Exclusive first words h k = one_exclusive first words a b s t h k
  one_after names.Executions first words h k =
      one_beginning selection_name one_selection words _ _ _ _ (SameReading a b)
      (λ c rest. one_end (questions.Executions c) (first + 1) rest a b)
      (one_end (questions.Executions All) first words a b) h k
  one_after names.Lifecycle first words h k = one_end questions.Lifecycle first words a b h k
  one_after names.Locks first words h k = one_end questions.Locks first words a b h k
  one_after names.Report first words h k = one_end questions.Report first words a b h k

  -- the same words never ask two questions
  pub one_reading : (words : List (List ℕ)) → IsAskedAs words a → IsAskedAs words b
      → SameReading a b
  one_reading words h k =
      one_beginning question_word one_question words _ _ _ _ (SameReading a b)
      (λ name rest. one_after name 0 rest)
      (λ p q. alike a b (Err faults.Question) (Err faults.Question) p q refl) h k

  one_named : (name : QuestionName) (words : List (List ℕ))
      → IsNamedToExplain name words a → IsNamedToExplain name words b → SameReading a b
  one_named names.Stats words h k = one_after names.Stats 1 words h k
  one_named names.Count words h k = bad_first 0 h k
  one_named names.Match words h k = bad_first 0 h k
  one_named names.List words h k = one_after names.List 1 words h k
  one_named names.Exclusive words h k = one_after names.Exclusive 1 words h k
  one_named names.Executions words h k = one_after names.Executions 1 words h k
  one_named names.Lifecycle words h k = one_after names.Lifecycle 1 words h k
  one_named names.Locks words h k = one_after names.Locks 1 words h k
  one_named names.Report words h k = bad_first 0 h k

  pub one_explained : (words : List (List ℕ)) → IsExplainedAs words a → IsExplainedAs words b
      → SameReading a b
  one_explained words h k =
      one_beginning question_word one_question words _ _ _ _ (SameReading a b)
      one_named (one_after names.Match 0 words) h k
