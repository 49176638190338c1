-- Ids are distinguished by their texts, whatever stands in them.
use Rattle.std.proofs.Common.{◌≡◌, ℕ, Bool, true, false, ◌||◌, ◌==◌, List, [], ◌∷◌, ◌++◌, Option, Some, None, refl, sym, ap, ap₂, ◌∙◌, subst, arith, tests, append_assoc, append-nil, if◌then◌else◌, ⊎_elim}
use Rattle.std.specs.Cmp.Lexicographic.{bytes_decides}
use Rattle.std.proofs.lemmas.Bool.{cases_Bool}
use Rattle.tk_ids.specs.IdText.{SegmentView, escaped, segment_text, id_text, spelled_by, digits_of}
use Rattle.tk_report_text.specs.Labels.{same_id}

-- ---- reading one byte back

abbrev spelling : ℕ → List ℕ
spelling b = spelled_by b (digits_of b)

abbrev is_stop : ℕ → Bool
is_stop b = (b == 43) || ((b == 91) || ((b == 93) || ((b == 58) || (b == 47))))

abbrev byte_by : ℕ → ℕ → ℕ
byte_by d e = if d == 51 then 58 else if d == 50 then (if e == 53 then 37 else if e == 66 then 43 else 47) else (if e == 66 then 91 else 93)

abbrev coded : List ℕ → Option (ℕ × List ℕ)
coded [] = None
coded (d ∷ []) = None
coded (d ∷ (e ∷ rest)) = Some (byte_by d e, rest)

abbrev one_byte : List ℕ → Option (ℕ × List ℕ)
one_byte [] = None
one_byte (b ∷ rest) = if b == 37 then coded rest else (if is_stop b then None else Some (b, rest))

is_number : (n b : ℕ) (P : ℕ → Type 0) → (b == n) ≡ true → P n → P b
is_number n b P e h = let same : b ≡ n = grind (arith, tests, e) in subst P (sym same) h

reads_plain : (b : ℕ) (rest : List ℕ) → (b == 37) ≡ false → (b == 43) ≡ false → (b == 91) ≡ false → (b == 93) ≡ false → (b == 58) ≡ false → (b == 47) ≡ false
    → one_byte (spelling b ++ rest) ≡ Some (b, rest)
reads_plain b rest one two three four five six =
    let plain : spelling b ≡ b ∷ [] = rw (one, two, three, four, five, six) refl in
    ap (λ l. one_byte (l ++ rest)) plain ∙ (rw (one, two, three, four, five, six) refl)

reads : (b : ℕ) (rest : List ℕ) → one_byte (spelling b ++ rest) ≡ Some (b, rest)
reads b rest =
    ⊎_elim (λ e. is_number 37 b (λ c. one_byte (spelling c ++ rest) ≡ Some (c, rest)) e refl) (λ one.
    ⊎_elim (λ e. is_number 43 b (λ c. one_byte (spelling c ++ rest) ≡ Some (c, rest)) e refl) (λ two.
    ⊎_elim (λ e. is_number 91 b (λ c. one_byte (spelling c ++ rest) ≡ Some (c, rest)) e refl) (λ three.
    ⊎_elim (λ e. is_number 93 b (λ c. one_byte (spelling c ++ rest) ≡ Some (c, rest)) e refl) (λ four.
    ⊎_elim (λ e. is_number 58 b (λ c. one_byte (spelling c ++ rest) ≡ Some (c, rest)) e refl) (λ five.
    ⊎_elim (λ e. is_number 47 b (λ c. one_byte (spelling c ++ rest) ≡ Some (c, rest)) e refl) (λ six. reads_plain b rest one two three four five six)
    (cases_Bool (b == 47)))
    (cases_Bool (b == 58)))
    (cases_Bool (b == 93)))
    (cases_Bool (b == 91)))
    (cases_Bool (b == 43)))
    (cases_Bool (b == 37))

byte_of : Option (ℕ × List ℕ) → ℕ → ℕ
byte_of None d = d
byte_of (Some x) d = x.0

rest_of : Option (ℕ × List ℕ) → List ℕ → List ℕ
rest_of None d = d
rest_of (Some x) d = x.1

abbrev read : ℕ → List ℕ → Option (ℕ × List ℕ)
read b rest = Some (b, rest)

same_byte : (a b : ℕ) (x y : List ℕ) → read a x ≡ read b y → (a ≡ b) × (x ≡ y)
unfolding byte_of rest_of
same_byte a b x y e = (ap (λ o. byte_of o a) e, ap (λ o. rest_of o x) e)

never : (b : ℕ) (rest : List ℕ) → None ≡ read b rest → ⊥
never b rest e = cc

-- ---- an escaped text ends where a byte comes that is always escaped

starts_with : (b : ℕ) (y rest : List ℕ) → one_byte (escaped (b ∷ y) ++ rest) ≡ Some (b, escaped y ++ rest)
starts_with b y rest = ap one_byte (append_assoc (spelling b) (escaped y) rest) ∙ reads b (escaped y ++ rest)

parts_same : (c : ℕ) → ((rest : List ℕ) → one_byte (c ∷ rest) ≡ None) → (x y r q : List ℕ) → escaped x ++ c ∷ r ≡ escaped y ++ c ∷ q → (x ≡ y) × (r ≡ q)
parts_same c stops [] [] r q e = (refl, let same : r ≡ q = cc in same)
parts_same c stops [] (b ∷ y) r q e = let bad : None ≡ read b (escaped y ++ c ∷ q) = sym (stops r) ∙ (ap one_byte e ∙ starts_with b y (c ∷ q)) in absurd (never b (escaped y ++ c ∷ q) bad)
parts_same c stops (a ∷ x) [] r q e = let bad : read a (escaped x ++ c ∷ r) ≡ None = sym (starts_with a x (c ∷ r)) ∙ (ap one_byte e ∙ stops q) in absurd (never a (escaped x ++ c ∷ r) (sym bad))
parts_same c stops (a ∷ x) (b ∷ y) r q e =
    let both = same_byte a b (escaped x ++ c ∷ r) (escaped y ++ c ∷ q) (sym (starts_with a x (c ∷ r)) ∙ (ap one_byte e ∙ starts_with b y (c ∷ q))) in
    let more = parts_same c stops x y r q both.1 in
    (ap₂ (λ h t. h ∷ t) both.0 more.0, more.1)

-- ---- segments and ids

segment_laid : (s : SegmentView) (r : List ℕ) → segment_text s ++ r ≡ 91 ∷ (escaped s.tag ++ 58 ∷ (escaped s.value ++ 93 ∷ r))
segment_laid s r =
    append_assoc (91 ∷ escaped s.tag ++ 58 ∷ escaped s.value) (93 ∷ []) r
    ∙ ap (λ l. 91 ∷ l) (append_assoc (escaped s.tag) (58 ∷ escaped s.value) (93 ∷ r))

tail_same : (a b : ℕ) (x y : List ℕ) → a ∷ x ≡ b ∷ y → x ≡ y
tail_same a b x y e = cc

segments_same : (s t : SegmentView) (r q : List ℕ) → segment_text s ++ r ≡ segment_text t ++ q → (s ≡ t) × (r ≡ q)
segments_same s t r q e =
    let laid = tail_same 91 91 _ _ (sym (segment_laid s r) ∙ (e ∙ segment_laid t q)) in
    let tags = parts_same 58 (λ rest. refl) s.tag t.tag (escaped s.value ++ 93 ∷ r) (escaped t.value ++ 93 ∷ q) laid in
    let values = parts_same 93 (λ rest. refl) s.value t.value r q tags.1 in
    (ap₂ (λ a b. record { tag = a; value = b }) tags.0 values.0, values.1)

no_text : (s : SegmentView) (r : List ℕ) → [] ≡ segment_text s ++ r → ⊥
no_text s r e = let bad : [] ≡ 91 ∷ (escaped s.tag ++ 58 ∷ (escaped s.value ++ 93 ∷ r)) = e ∙ segment_laid s r in cc

pub text_is_unique : (a b : List SegmentView) → id_text a ≡ id_text b → a ≡ b
text_is_unique [] [] e = refl
text_is_unique [] (t ∷ []) e = absurd (no_text t [] (e ∙ sym (append-nil (segment_text t))))
text_is_unique [] (t ∷ (u ∷ b)) e = absurd (no_text t _ e)
text_is_unique (s ∷ []) [] e = absurd (no_text s [] (sym e ∙ sym (append-nil (segment_text s))))
text_is_unique (s ∷ (v ∷ a)) [] e = absurd (no_text s _ (sym e))
text_is_unique (s ∷ []) (t ∷ []) e =
    let same = segments_same s t [] [] (append-nil (segment_text s) ∙ (e ∙ sym (append-nil (segment_text t)))) in
    ap (λ x. x ∷ []) same.0
text_is_unique (s ∷ []) (t ∷ (u ∷ b)) e = let same = segments_same s t [] (47 ∷ id_text (u ∷ b)) (append-nil (segment_text s) ∙ e) in let bad : [] ≡ 47 ∷ id_text (u ∷ b) = same.1 in cc
text_is_unique (s ∷ (v ∷ a)) (t ∷ []) e = let same = segments_same s t (47 ∷ id_text (v ∷ a)) [] (e ∙ sym (append-nil (segment_text t))) in let bad : 47 ∷ id_text (v ∷ a) ≡ [] = same.1 in cc
text_is_unique (s ∷ (v ∷ a)) (t ∷ (u ∷ b)) e =
    let same = segments_same s t (47 ∷ id_text (v ∷ a)) (47 ∷ id_text (u ∷ b)) e in
    ap₂ (λ x l. x ∷ l) same.0 (text_is_unique (v ∷ a) (u ∷ b) (tail_same 47 47 _ _ same.1))

pub same_decides : (a b : List SegmentView) → (same_id a b ≡ true → a ≡ b) × (a ≡ b → same_id a b ≡ true)
unfolding same_id
same_decides a b = (
  λ e. text_is_unique a b ((bytes_decides (id_text a) (id_text b)).0 e),
  λ e. (bytes_decides (id_text a) (id_text b)).1 (ap id_text e),
)
