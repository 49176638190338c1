-- Records that say the same of each id have one report.
use Rattle.std.proofs.Common.{◌≡◌, ℕ, ◌+◌, Bool, true, false, ◌||◌, ◌==◌, List, [], ◌∷◌, ◌++◌, map, filter, flat_map, bytes_eq, count_by, refl, sym, ap, ap₂, ◌∙◌, arith, if◌then◌else◌, ⊎_elim, nat_cmp}
use Rattle.std.proofs.lemmas.Bool.{cases_Bool}
use Rattle.std.proofs.lemmas.List.Elements.{filter-append}
use Rattle.std.proofs.lemmas.List.Recursion.{is_count_by}
use Rattle.std.proofs.lemmas.Map.Text.{is_eq-slice_cmp}
use Rattle.std.specs.Ordering.{eq_by_cmp}
use Rattle.std.specs.List.{list_any, fold}
use Rattle.std.specs.Cmp.Lexicographic.{slice_cmp, bytes_decides}
use Rattle.std.specs.BTreeSet.{insert_key}
use Rattle.tk_ids.specs.IdText.{SegmentView, id_text}
use Rattle.tk_events.specs.declared.events.Entry.{Entry}
use Rattle.tk_events.specs.declared.kinds.Kind.{Kind}
use Rattle.tk_events.specs.declared.kinds.Kind.TheVariants as kind
use Rattle.tk_events.specs.declared.statuses.Status.{Status}
use Rattle.tk_events.specs.declared.statuses.Status.TheVariants as status
use Rattle.tk_events.specs.Event.{kind_code, status_code}
use Rattle.tk_events.specs.Fields.{field_text}
use Rattle.tk_record.specs.StatisticTexts.{statistics_text}
use Rattle.tk_record.specs.declared.statistics.Statistics.{Statistics}
use Rattle.tk_record.specs.Statistics.{statistics_of}
use Rattle.tk_record.specs.Entries.{status_number}
use Rattle.tk_record.specs.Recorded.{Recorded}
use Rattle.tk_report_text.specs.Labels.{Label, events, label, labels, name}
use Rattle.tk_report_text.specs.Reports.{id_lines, id_texts, label_line, labels_of_id, report_of_record}
use Rattle.tk_report_text.proofs.Ordered.{same_texts}

abbrev count : {A : Type 0} → (A → Bool) → List A → ℕ
count p [] = 0
count p (x ∷ xs) = if p x then 1 + count p xs else count p xs

count-append : {A : Type 0} (p : A → Bool) (xs ys : List A) → count p (xs ++ ys) ≡ count p xs + count p ys
count-append p [] ys = omega arith
count-append p (x ∷ xs) ys = let h = count-append p xs ys in
    elim (p x) as (λ b. (if b then 1 + count p (xs ++ ys) else count p (xs ++ ys)) ≡ (if b then 1 + count p xs else count p xs) + count p ys)
    [ true ↦ omega (arith, h) | false ↦ h ]

turned : (x y : List ℕ) → bytes_eq x y ≡ bytes_eq y x
turned x y = ⊎_elim
    (λ e. e ∙ sym ((bytes_decides y x).1 (sym ((bytes_decides x y).0 e))))
    (λ e. ⊎_elim (λ h. (bytes_decides x y).1 (sym ((bytes_decides y x).0 h)) ∙ sym h) (λ h. e ∙ sym h) (cases_Bool (bytes_eq y x)))
    (cases_Bool (bytes_eq x y))

module _ (text : List SegmentView → List ℕ) where
  so : List ℕ → List Label → List Label
  so = λ x ls. filter (λ l. bytes_eq (text l.id) x) ls

  abbrev Same : List Label → List Label → Type 0
  Same a b = (x : List ℕ) → so x a ≡ so x b

  record IsSplit (x : Label) (b : List Label) : Type 0 where
    prefix : List Label
    back : List Label
    whole : b ≡ prefix ++ x ∷ back
    none : so (text x.id) prefix ≡ []

  so_own : (x : Label) (ls : List Label) → so (text x.id) (x ∷ ls) ≡ x ∷ so (text x.id) ls
  unfolding so
  so_own x ls = let own : bytes_eq (text x.id) (text x.id) ≡ true = (bytes_decides (text x.id) (text x.id)).1 refl in rw own refl

  so_cons : (k : List ℕ) (x : Label) (ls : List Label) → so k (x ∷ ls) ≡ (if bytes_eq (text x.id) k then x ∷ so k ls else so k ls)
  unfolding so
  so_cons k x ls = refl

  so_append : (k : List ℕ) (a b : List Label) → so k (a ++ b) ≡ so k a ++ so k b
  unfolding so
  so_append k a b = filter-append (λ l. bytes_eq (text l.id) k) a b

  so_nil : (k : List ℕ) → so k [] ≡ []
  unfolding so
  so_nil k = refl

  split : (x : Label) (rest b : List Label) → so (text x.id) b ≡ x ∷ rest → IsSplit x b
  split x rest [] e = let bad : [] ≡ x ∷ rest = sym (so_nil (text x.id)) ∙ e in cc
  split x rest (y ∷ b) e = ⊎_elim
      (λ t.
      let h : y ∷ so (text x.id) b ≡ x ∷ rest = sym (so_cons (text x.id) y b ∙ ap (λ c. if c then y ∷ so (text x.id) b else so (text x.id) b) t) ∙ e in
      let same : y ≡ x = cc in
      record { prefix = []; back = b; whole = ap (λ z. z ∷ b) same; none = so_nil (text x.id) })
      (λ f.
      let skip : so (text x.id) (y ∷ b) ≡ so (text x.id) b = so_cons (text x.id) y b ∙ ap (λ c. if c then y ∷ so (text x.id) b else so (text x.id) b) f in
      let s = split x rest b (sym skip ∙ e) in
      record {
        prefix = y ∷ s.prefix;
        back = s.back;
        whole = ap (λ l. y ∷ l) s.whole;
        none = so_cons (text x.id) y s.prefix ∙ (ap (λ c. if c then y ∷ so (text x.id) s.prefix else so (text x.id) s.prefix) f ∙ s.none);
      })
      (cases_Bool (bytes_eq (text y.id) (text x.id)))

  tails : (x : Label) (a b : List Label) → x ∷ a ≡ x ∷ b → a ≡ b
  tails x a b e = cc

  without : (x : Label) (a prefix back : List Label) → so (text x.id) prefix ≡ [] → Same (x ∷ a) (prefix ++ x ∷ back) → Same a (prefix ++ back)
  without x a prefix back none same k = ⊎_elim
      (λ t.
      let is : text x.id ≡ k = (bytes_decides (text x.id) k).0 t in
      let empty : so k prefix ≡ [] = ap (λ z. so z prefix) (sym is) ∙ none in
      let at : (ls : List Label) → so k (x ∷ ls) ≡ x ∷ so k ls = λ ls. so_cons k x ls ∙ ap (λ c. if c then x ∷ so k ls else so k ls) t in
      tails x (so k a) (so k (prefix ++ back)) (sym (at a) ∙ (same k ∙ (so_append k prefix (x ∷ back) ∙ (ap₂ (λ u v. u ++ v) empty (at back) ∙ ap (λ l. x ∷ l) (sym (so_append k prefix back ∙ ap (λ l. l ++ so k back) empty)))))))
      (λ f.
      let at : (ls : List Label) → so k (x ∷ ls) ≡ so k ls = λ ls. so_cons k x ls ∙ ap (λ c. if c then x ∷ so k ls else so k ls) f in
      sym (at a) ∙ (same k ∙ (so_append k prefix (x ∷ back) ∙ (ap (λ l. so k prefix ++ l) (at back) ∙ sym (so_append k prefix back)))))
      (cases_Bool (bytes_eq (text x.id) k))

  counted : (b : Bool) (f k m : ℕ) → m ≡ f + k → f + (if b then 1 + k else k) ≡ (if b then 1 + m else m)
  counted true f k m e = omega (arith, e)
  counted false f k m e = omega (arith, e)

  module _ (p : Label → Bool) where
    count_middle : (x : Label) (prefix back : List Label) → count p (prefix ++ x ∷ back) ≡ count p (x ∷ (prefix ++ back))
    count_middle x prefix back = count-append p prefix (x ∷ back) ∙ counted (p x) (count p prefix) (count p back) (count p (prefix ++ back)) (count-append p prefix back)

    count_same : (a b : List Label) → Same a b → count p a ≡ count p b
    count_same [] [] same = refl
    count_same [] (y ∷ b) same = let bad : [] ≡ y ∷ so (text y.id) b = sym (so_nil (text y.id)) ∙ (same (text y.id) ∙ so_own y b) in cc
    count_same (x ∷ a) b same =
        let s = split x (so (text x.id) a) b (sym (same (text x.id)) ∙ so_own x a) in
        let less = without x a s.prefix s.back s.none (λ k. same k ∙ ap (so k) s.whole) in
        let h = count_same a (s.prefix ++ s.back) less in
        ap (λ n. if p x then 1 + n else n) h ∙ (sym (count_middle x s.prefix s.back) ∙ ap (count p) (sym s.whole))

  abbrev not_nil : List Label → Bool
  not_nil [] = false
  not_nil (l ∷ ls) = true

  any_of : (x : List ℕ) (ls : List Label) → list_any (eq_by_cmp (slice_cmp nat_cmp) x) (map (λ l. text l.id) ls) ≡ not_nil (so x ls)
  unfolding so
  any_of x [] = refl
  any_of x (l ∷ ls) =
      let h = any_of x ls in
      let e = is_eq-slice_cmp x (text l.id) ∙ turned x (text l.id) in
      ap₂ (λ b c. b || c) e h ∙ (elim (bytes_eq (text l.id) x) as (λ b. (b || not_nil (so x ls)) ≡ not_nil (if b then l ∷ so x ls else so x ls)) [ true ↦ refl | false ↦ refl ])

  texts_same : (a b : List Label) → Same a b
      → fold (λ texts l. insert_key (slice_cmp nat_cmp) texts (text l.id)) [] a ≡ fold (λ texts l. insert_key (slice_cmp nat_cmp) texts (text l.id)) [] b
  texts_same a b same = same_texts (λ (l : Label). text l.id) a b (λ q. any_of q a ∙ (ap not_nil (same q) ∙ sym (any_of q b)))

-- ---- counts

abbrev statistics : ℕ → ℕ → ℕ → ℕ → ℕ → ℕ → ℕ → ℕ → ℕ → Statistics
statistics a b c d e f g h i = record { skipped = a; started = b; finished = c; aborted = d; succeeded = e; failed = f; reporting = g; dynamic = h; files = i }

same_nine : {a b c d e f g h i r s t u v w x y z : ℕ} → a ≡ r → b ≡ s → c ≡ t → d ≡ u → e ≡ v → f ≡ w → g ≡ x → h ≡ y → i ≡ z
    → statistics a b c d e f g h i ≡ statistics r s t u v w x y z
same_nine j k l m n o p q r = cc

flat_same : {A B : Type 0} (f g : A → List B) → ((x : A) → f x ≡ g x) → (xs : List A) → flat_map f xs ≡ flat_map g xs
flat_same f g e [] = refl
flat_same f g e (x ∷ xs) = ap₂ (λ u v. u ++ v) (e x) (flat_same f g e xs)

count_labels : (names : ℕ → List SegmentView) (p : Label → Bool) (es : List Entry) → count (λ (e : Entry). p (label names e.event)) es ≡ count p (map (label names) (events es))
count_labels names p [] = refl
count_labels names p (e ∷ es) = ap (λ n. if p (label names e.event) then 1 + n else n) (count_labels names p es)

counted_by : (names : ℕ → List SegmentView) (p : Label → Bool) (es : List Entry) → count_by (λ (e : Entry). p (label names e.event)) es ≡ count p (map (label names) (events es))
counted_by names p es = sym (is_count_by (count (λ (e : Entry). p (label names e.event))) (λ (e : Entry). p (label names e.event)) refl (λ x xs. refl) es) ∙ count_labels names p es

abbrev kind_test : Kind → Label → Bool
kind_test k l = kind_code l.kind == kind_code k

abbrev status_test : Status → Label → Bool
status_test s l = status_number l.kind l.payload == status_code s

module _ (r q : Recorded) (same : (x : List ℕ) → labels_of_id x (labels r) ≡ labels_of_id x (labels q)) where
  said : Same id_text (labels r) (labels q)
  unfolding so
  said = same

  same_count : (p : Label → Bool) → count_by (λ (e : Entry). p (label (name r) e.event)) r.entries ≡ count_by (λ (e : Entry). p (label (name q) e.event)) q.entries
  same_count p = counted_by (name r) p r.entries ∙ (count_same id_text p (labels r) (labels q) said ∙ sym (counted_by (name q) p q.entries))

  statistics_same : statistics_of r.entries ≡ statistics_of q.entries
  statistics_same = same_nine
      (same_count (kind_test kind.Skipped)) (same_count (kind_test kind.Started)) (same_count (kind_test kind.Finished))
      (same_count (status_test status.Aborted)) (same_count (status_test status.Successful)) (same_count (status_test status.Failed))
      (same_count (kind_test kind.Reporting)) (same_count (kind_test kind.Dynamic)) (same_count (kind_test kind.File))

  pub report_same : report_of_record r ≡ report_of_record q
  report_same = ap₂ (λ s t. s ++ t)
      (ap statistics_text statistics_same)
      (ap (flat_map (id_lines (labels r))) (texts_same id_text (labels r) (labels q) said)
      ∙ flat_same (id_lines (labels r)) (id_lines (labels q)) (λ x. ap (λ ls. field_text x ++ (10 ∷ flat_map label_line ls)) (same x)) (id_texts (labels q)))
