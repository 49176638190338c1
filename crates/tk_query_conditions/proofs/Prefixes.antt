-- What each state has read, and that some condition's text begins so.
use Rattle.std.proofs.Common.{◌≡◌, ℕ, ◌⊎◌, Bool, true, false, List, [], ◌∷◌, ◌++◌, Option, Some, None, option_and_then, option_map, map, if◌then◌else◌, ◌==◌, ◌||◌, ◌&&◌, refl, sym, ap, ◌∙◌, subst, inl, inr, ⊎_elim}
use Rattle.std.specs.Prelude.{codes, bytes_eq}
use Rattle.std.proofs.lemmas.List.{append_assoc, append-nil}
use Rattle.std.proofs.lemmas.Slice.Eq.{bytes_eq-Decides}
use Rattle.std.proofs.lemmas.Option.{same_Some, none-some}
use Rattle.std.proofs.lemmas.Bool.{eqb-true, or_cases}
use Rattle.tk_ids.specs.Prefix.{Begins}
use Rattle.tk_query_conditions.specs.declared.partial_texts.Escape.{Escape}
use Rattle.tk_query_conditions.specs.declared.partial_texts.Escape.TheVariants.{Outside, Percent, Digit}
use Rattle.tk_events.specs.declared.kinds.Kind.{Kind}
use Rattle.tk_events.specs.declared.kinds.Kind.TheVariants as event
use Rattle.tk_query_conditions.specs.Cond.{Test, Container, Engine, Started, Succeeded, Failed, Aborted, TextAtom, Id, Name, Skipped, FailedWith, AbortedWith, Message, File, Pairs, NoPairs, MorePairs, Cond, Plain, With, OfKind, HasSegment, HasPairs, All, Any, Not, Nothing, More, bare_text, text_atom_text, kind_text, spelled_by, escaped, pairs_lead, cond_text, lead_text, IsCondText}
use Rattle.tk_query_conditions.specs.Reading.{begins_with}
use Rattle.tk_query_conditions.specs.steps.Reading.{all_kinds, OpenGroup, OpenNot, OpenAll, OpenAny, State, Word, InText, InKind, InTag, InValue, InPairs, After, text_step, special_of, look, bares, kinds, openers, Opener, OfText, OfKinds, OfSegment, OfPairs, OfAll, OfAny, OfNot, opened, close, close_empty, after_word, is_prefix, step, next_text, last_text}
use Rattle.tk_ids.proofs.ReadingLemmas.{option_map_some}

abbrev pub spelled_stack : List OpenGroup → List ℕ
spelled_stack [] = []
spelled_stack (OpenNot ∷ stack) = spelled_stack stack ++ codes "not("
spelled_stack (OpenAll cs ∷ stack) = spelled_stack stack ++ (codes "all(" ++ lead_text cs)
spelled_stack (OpenAny cs ∷ stack) = spelled_stack stack ++ (codes "any(" ++ lead_text cs)

abbrev pub pending : Escape → List ℕ
pending Outside = []
pending Percent = 37 ∷ []
pending Digit = 37 ∷ 50 ∷ []

abbrev pub part_text : List ℕ × Escape → List ℕ
part_text partial = escaped partial.0 ++ pending partial.1

abbrev pub key_text : Option (List ℕ) → List ℕ
key_text None = []
key_text (Some key) = escaped key ++ 44 ∷ []

abbrev pub spelled : State → List ℕ
spelled (Word stack word) = spelled_stack stack ++ word
spelled (InText stack text_atom partial) = spelled_stack stack ++ (text_atom_text text_atom ++ 40 ∷ part_text partial)
spelled (InKind stack word) = spelled_stack stack ++ (codes "kind(" ++ word)
spelled (InTag stack partial) = spelled_stack stack ++ (codes "segment(" ++ part_text partial)
spelled (InValue stack tag partial) =
    spelled_stack stack ++ (codes "segment(" ++ (escaped tag ++ 44 ∷ part_text partial))
spelled (InPairs stack pairs key partial) = spelled_stack stack ++ (codes "entry(" ++ (pairs_lead pairs ++ (key_text key ++ part_text partial)))
spelled (After stack c) = spelled_stack stack ++ cond_text c

-- tables
abbrev pub AllEntries : {A : Type 0} → (List ℕ → A → Type 0) → List (List ℕ × A) → Type 0
AllEntries P [] = Unit {0}
AllEntries P (entry ∷ table) = P entry.0 entry.1 × AllEntries P table

-- each row of the table of kinds
pub each_kind : (P : List ℕ → Kind → Type 0) → ((kind : Kind) → P (kind_text kind) kind) → (list : List Kind) → AllEntries P (map (λ kind. (kind_text kind, kind)) list)
each_kind P all [] = tt
each_kind P all (kind ∷ list) = (all kind, each_kind P all list)

pub if_some : {A : Type 0} (b : Bool) (x y : Option A) (t : A) → (if b then x else y) ≡ Some t → ((b ≡ true) × (x ≡ Some t)) ⊎ ((b ≡ false) × (y ≡ Some t))
if_some true x y t e = inl (refl, e)
if_some false x y t e = inr (refl, e)

pub guarded : {A : Type 0} (b : Bool) (x : Option A) (t : A) → (if b then x else None) ≡ Some t → (b ≡ true) × (x ≡ Some t)
guarded true x t e = (refl, e)
guarded false x t e = absurd (none-some t e)

pub look_entry : {A : Type 0} (P : List ℕ → A → Type 0) (table : List (List ℕ × A)) (word : List ℕ) (a : A) → AllEntries P table → look table word ≡ Some a → P word a
look_entry P [] word a all e = absurd (none-some a e)
look_entry P (entry ∷ table) word a all e = ⊎_elim {C = P word a}
    (λ (h : (bytes_eq word entry.0 ≡ true) × (Some entry.1 ≡ Some a)). subst (λ w. P w a) (sym ((bytes_eq-Decides word entry.0).0 h.0)) (subst (P entry.0) (same_Some entry.1 a h.1) all.0))
    (λ (h : (bytes_eq word entry.0 ≡ false) × (look table word ≡ Some a)). look_entry P table word a all.1 h.1)
    (if_some (bytes_eq word entry.0) (Some entry.1) (look table word) a e)

cons_same : (b c : ℕ) (x y : List ℕ) → b ≡ c → x ≡ y → c ∷ x ≡ b ∷ y
cons_same b c x y e f = cc

pub begins_rest : (word text : List ℕ) → begins_with word text ≡ true → (rest : List ℕ) × (text ≡ word ++ rest)
begins_rest [] text e = (text, refl)
begins_rest (b ∷ word) [] e = cc
begins_rest (b ∷ word) (c ∷ text) e =
    elim (b == c) as (λ t. b == c ≡ t → (t && begins_with word text) ≡ true → (rest : List ℕ) × (c ∷ text ≡ b ∷ word ++ rest)) [
      | true ↦ λ same h. (let r = begins_rest word text h in (r.0, cons_same b c text (word ++ r.0) (eqb-true b c same) r.1))
      | false ↦ λ other h. cc
    ]
    refl e

pub prefix_entry : {A : Type 0} (P : List ℕ → Type 0) (table : List (List ℕ × A)) (word : List ℕ) → AllEntries (λ text _. P text) table → is_prefix table word ≡ true → (rest : List ℕ) × P (word ++ rest)
prefix_entry P [] word all e = cc
prefix_entry P (entry ∷ table) word all e = ⊎_elim {C = (rest : List ℕ) × P (word ++ rest)}
    (λ (h : begins_with word entry.0 ≡ true). let r = begins_rest word entry.0 h in (r.0, subst P r.1 all.0))
    (λ (h : is_prefix table word ≡ true). prefix_entry P table word all.1 h)
    (or_cases (begins_with word entry.0) (is_prefix table word) e)

pub escaped_append : (a b : List ℕ) → escaped (a ++ b) ≡ escaped a ++ escaped b
escaped_append [] b = refl
escaped_append (x ∷ a) b = ap (λ rest. spelled_by x ++ rest) (escaped_append a b) ∙ sym (append_assoc (spelled_by x) (escaped a) (escaped b))

escaped_more : (a : List ℕ) (b : ℕ) → escaped (a ++ b ∷ []) ≡ escaped a ++ spelled_by b
escaped_more a b = escaped_append a (b ∷ []) ∙ ap (λ rest. escaped a ++ rest) (append-nil (spelled_by b))

plain_spelling : (b : ℕ) → (b == 37) ≡ false → (b == 40 || (b == 41 || b == 44)) ≡ false → spelled_by b ≡ b ∷ []
plain_spelling b no37 others =
    elim (b == 40) as (λ x. x ≡ (b == 40) → (x || (b == 41 || b == 44)) ≡ false → spelled_by b ≡ b ∷ []) [
      | true ↦ λ e h. cc
      | false ↦ λ e h.
          (elim (b == 41) as (λ y. y ≡ (b == 41) → (y || b == 44) ≡ false → spelled_by b ≡ b ∷ []) [
            | true ↦ λ f h'. cc
            | false ↦ λ f h'. rw (no37, ← e, ← f, h') refl
          ]) refl h
    ]
    refl others

spelled_so : (digit byte b c : ℕ) → b ≡ digit → byte ≡ c → spelled_by byte ≡ 37 ∷ 50 ∷ digit ∷ [] → spelled_by c ≡ 37 ∷ 50 ∷ b ∷ []
spelled_so digit byte b c e f g = ap spelled_by (sym f) ∙ g ∙ ap (λ x. 37 ∷ 50 ∷ x ∷ []) (sym e)

special_spelling : (b c : ℕ) → special_of b ≡ Some c → spelled_by c ≡ 37 ∷ 50 ∷ b ∷ []
special_spelling b c e = ⊎_elim {C = spelled_by c ≡ 37 ∷ 50 ∷ b ∷ []}
    (λ (h : ((b == 53) ≡ true) × (Some 37 ≡ Some c)). spelled_so 53 37 b c (eqb-true b 53 h.0) (same_Some 37 c h.1) refl)
    (λ (h : ((b == 53) ≡ false) × ((if b == 56 then Some 40 else (if b == 57 then Some 41 else (if b == 67 then Some 44 else None))) ≡ Some c)). ⊎_elim {C = spelled_by c ≡ 37 ∷ 50 ∷ b ∷ []}
    (λ (h : ((b == 56) ≡ true) × (Some 40 ≡ Some c)). spelled_so 56 40 b c (eqb-true b 56 h.0) (same_Some 40 c h.1) refl)
    (λ (h : ((b == 56) ≡ false) × ((if b == 57 then Some 41 else (if b == 67 then Some 44 else None)) ≡ Some c)). ⊎_elim {C = spelled_by c ≡ 37 ∷ 50 ∷ b ∷ []}
    (λ (h : ((b == 57) ≡ true) × (Some 41 ≡ Some c)). spelled_so 57 41 b c (eqb-true b 57 h.0) (same_Some 41 c h.1) refl)
    (λ (h : ((b == 57) ≡ false) × ((if b == 67 then Some 44 else None) ≡ Some c)). let g = guarded (b == 67) (Some 44) c h.1 in spelled_so 67 44 b c (eqb-true b 67 g.0) (same_Some 44 c g.1) refl)
    (if_some (b == 57) (Some 41) (if b == 67 then Some 44 else None) c h.1))
    (if_some (b == 56) (Some 40) (if b == 57 then Some 41 else (if b == 67 then Some 44 else None)) c h.1))
    (if_some (b == 53) (Some 37) (if b == 56 then Some 40 else (if b == 57 then Some 41 else (if b == 67 then Some 44 else None))) c e)

pub text_goes : (p : List ℕ × Escape) (b : ℕ) (q : List ℕ × Escape) → text_step p b ≡ Some q → part_text q ≡ part_text p ++ b ∷ []
text_goes (bytes, Outside) b q e = ⊎_elim {C = part_text q ≡ part_text (bytes, Outside) ++ b ∷ []}
    (λ (h : ((b == 37) ≡ true) × (Some (bytes, Percent) ≡ Some q)).
    ap part_text (sym (same_Some (bytes, Percent) q h.1)) ∙ ap (λ prefix. prefix ++ 37 ∷ []) (sym (append-nil (escaped bytes))) ∙ ap (λ x. (escaped bytes ++ []) ++ x ∷ []) (sym (eqb-true b 37 h.0)))
    (λ (h : ((b == 37) ≡ false) × ((if b == 40 || (b == 41 || b == 44) then None else Some (bytes ++ b ∷ [], Outside)) ≡ Some q)).
    ⊎_elim {C = part_text q ≡ part_text (bytes, Outside) ++ b ∷ []}
    (λ (g : ((b == 40 || (b == 41 || b == 44)) ≡ true) × (None ≡ Some q)). absurd (none-some q g.1))
    (λ (g : ((b == 40 || (b == 41 || b == 44)) ≡ false) × (Some (bytes ++ b ∷ [], Outside) ≡ Some q)).
    ap part_text (sym (same_Some (bytes ++ b ∷ [], Outside) q g.1)) ∙ append-nil (escaped (bytes ++ b ∷ [])) ∙ escaped_more bytes b
    ∙ ap (λ x. escaped bytes ++ x) (plain_spelling b h.0 g.0) ∙ ap (λ prefix. prefix ++ b ∷ []) (sym (append-nil (escaped bytes))))
    (if_some (b == 40 || (b == 41 || b == 44)) None (Some (bytes ++ b ∷ [], Outside)) q h.1))
    (if_some (b == 37) (Some (bytes, Percent)) (if b == 40 || (b == 41 || b == 44) then None else Some (bytes ++ b ∷ [], Outside)) q e)
text_goes (bytes, Percent) b q e =
    let g = guarded (b == 50) (Some (bytes, Digit)) q e in
    ap part_text (sym (same_Some (bytes, Digit) q g.1)) ∙ sym (append_assoc (escaped bytes) (37 ∷ []) (50 ∷ [])) ∙ ap (λ x. (escaped bytes ++ 37 ∷ []) ++ x ∷ []) (sym (eqb-true b 50 g.0))
text_goes (bytes, Digit) b q e =
    let m = option_map_some (λ c. (bytes ++ c ∷ [], Outside)) (special_of b) q e in
    ap part_text (sym m.2) ∙ append-nil (escaped (bytes ++ m.0 ∷ [])) ∙ escaped_more bytes m.0 ∙ ap (λ x. escaped bytes ++ x) (special_spelling b m.0 m.1) ∙ sym (append_assoc (escaped bytes) (37 ∷ 50 ∷ []) (b ∷ []))

close_goes : (stack : List OpenGroup) (c : Cond) (b : ℕ) (t : State) → close stack c b ≡ Some t → spelled t ≡ (spelled_stack stack ++ cond_text c) ++ b ∷ []
close_goes [] c b t e = absurd (none-some t e)
close_goes (OpenNot ∷ stack) c b t e =
    let g = guarded (b == 41) (Some (After stack (Not c))) t e in
    ap spelled (sym (same_Some (After stack (Not c)) t g.1)) ∙ simp append_assoc (ap (λ x. spelled_stack stack ++ (codes "not(" ++ (cond_text c ++ x ∷ []))) (sym (eqb-true b 41 g.0)))
close_goes (OpenAll cs ∷ stack) c b t e = ⊎_elim {C = spelled t ≡ (spelled_stack (OpenAll cs ∷ stack) ++ cond_text c) ++ b ∷ []}
    (λ (h : ((b == 41) ≡ true) × (Some (After stack (All (More cs c))) ≡ Some t)).
    ap spelled (sym (same_Some (After stack (All (More cs c))) t h.1)) ∙ simp append_assoc (ap (λ x. spelled_stack stack ++ (codes "all(" ++ (lead_text cs ++ (cond_text c ++ x ∷ [])))) (sym (eqb-true b 41 h.0))))
    (λ (h : ((b == 41) ≡ false) × ((if b == 44 then Some (Word (OpenAll (More cs c) ∷ stack) []) else None) ≡ Some t)).
    let g = guarded (b == 44) (Some (Word (OpenAll (More cs c) ∷ stack) [])) t h.1 in
    ap spelled (sym (same_Some (Word (OpenAll (More cs c) ∷ stack) []) t g.1)) ∙ append-nil (spelled_stack (OpenAll (More cs c) ∷ stack)) ∙ simp append_assoc (ap (λ x. spelled_stack stack ++ (codes "all(" ++ (lead_text cs ++ (cond_text c ++ x ∷ [])))) (sym (eqb-true b 44 g.0))))
    (if_some (b == 41) (Some (After stack (All (More cs c)))) (if b == 44 then Some (Word (OpenAll (More cs c) ∷ stack) []) else None) t e)
close_goes (OpenAny cs ∷ stack) c b t e = ⊎_elim {C = spelled t ≡ (spelled_stack (OpenAny cs ∷ stack) ++ cond_text c) ++ b ∷ []}
    (λ (h : ((b == 41) ≡ true) × (Some (After stack (Any (More cs c))) ≡ Some t)).
    ap spelled (sym (same_Some (After stack (Any (More cs c))) t h.1)) ∙ simp append_assoc (ap (λ x. spelled_stack stack ++ (codes "any(" ++ (lead_text cs ++ (cond_text c ++ x ∷ [])))) (sym (eqb-true b 41 h.0))))
    (λ (h : ((b == 41) ≡ false) × ((if b == 44 then Some (Word (OpenAny (More cs c) ∷ stack) []) else None) ≡ Some t)).
    let g = guarded (b == 44) (Some (Word (OpenAny (More cs c) ∷ stack) [])) t h.1 in
    ap spelled (sym (same_Some (Word (OpenAny (More cs c) ∷ stack) []) t g.1)) ∙ append-nil (spelled_stack (OpenAny (More cs c) ∷ stack)) ∙ simp append_assoc (ap (λ x. spelled_stack stack ++ (codes "any(" ++ (lead_text cs ++ (cond_text c ++ x ∷ [])))) (sym (eqb-true b 44 g.0))))
    (if_some (b == 41) (Some (After stack (Any (More cs c)))) (if b == 44 then Some (Word (OpenAny (More cs c) ∷ stack) []) else None) t e)

close_empty_goes : (stack : List OpenGroup) (b : ℕ) (t : State) → close_empty stack b ≡ Some t → spelled t ≡ (spelled_stack stack ++ []) ++ b ∷ []
close_empty_goes (OpenAll Nothing ∷ stack) b t e =
    let g = guarded (b == 41) (Some (After stack (All Nothing))) t e in
    ap spelled (sym (same_Some (After stack (All Nothing)) t g.1)) ∙ simp (append_assoc, append-nil) (ap (λ x. spelled_stack stack ++ (codes "all(" ++ x ∷ [])) (sym (eqb-true b 41 g.0)))
close_empty_goes (OpenAny Nothing ∷ stack) b t e =
    let g = guarded (b == 41) (Some (After stack (Any Nothing))) t e in
    ap spelled (sym (same_Some (After stack (Any Nothing)) t g.1)) ∙ simp (append_assoc, append-nil) (ap (λ x. spelled_stack stack ++ (codes "any(" ++ x ∷ [])) (sym (eqb-true b 41 g.0)))
close_empty_goes [] b t e = absurd (none-some t e)
close_empty_goes (OpenNot ∷ stack) b t e = absurd (none-some t e)
close_empty_goes (OpenAll (More cs c) ∷ stack) b t e = absurd (none-some t e)
close_empty_goes (OpenAny (More cs c) ∷ stack) b t e = absurd (none-some t e)

after_goes : (stack : List OpenGroup) (word : List ℕ) (b : ℕ) (t : State) → after_word stack word b ≡ Some t → spelled t ≡ (spelled_stack stack ++ word) ++ b ∷ []
after_goes stack [] b t e = close_empty_goes stack b t e
after_goes stack (x ∷ word) b t e =
    elim (look bares (x ∷ word)) as (λ o. look bares (x ∷ word) ≡ o → option_and_then (λ bare. close stack (Plain bare) b) o ≡ Some t → spelled t ≡ (spelled_stack stack ++ x ∷ word) ++ b ∷ []) [
      | None ↦ λ f h. absurd (none-some t h)
      | Some bare ↦ λ f h.
          let is = look_entry (λ w a. w ≡ bare_text a) bares (x ∷ word) bare (refl, (refl, (refl, (refl, (refl, (refl, (refl, tt))))))) f in
          close_goes stack (Plain bare) b t h ∙ ap (λ w. (spelled_stack stack ++ w) ++ b ∷ []) (sym is)
    ]
    refl e

abbrev OpensTo : List ℕ → Opener → Type 0
OpensTo word o = (stack : List OpenGroup) → spelled (opened stack o) ≡ (spelled_stack stack ++ word) ++ 40 ∷ []

opens_to : (word : List ℕ) (o : Opener) → look openers word ≡ Some o → OpensTo word o
opens_to word o e = look_entry OpensTo openers word o all e
  where
    all : AllEntries OpensTo openers
    all = ((λ stack. sym (append_assoc (spelled_stack stack) (codes "id") (40 ∷ []))), ((λ stack. sym (append_assoc (spelled_stack stack) (codes "name") (40 ∷ []))), ((λ stack. sym (append_assoc (spelled_stack stack) (codes "skipped") (40 ∷ []))), ((λ stack. sym (append_assoc (spelled_stack stack) (codes "failed") (40 ∷ []))), ((λ stack. sym (append_assoc (spelled_stack stack) (codes "aborted") (40 ∷ []))), ((λ stack. sym (append_assoc (spelled_stack stack) (codes "message") (40 ∷ []))), ((λ stack. sym (append_assoc (spelled_stack stack) (codes "file") (40 ∷ []))), ((λ stack. sym (append_assoc (spelled_stack stack) (codes "kind") (40 ∷ []))), ((λ stack. sym (append_assoc (spelled_stack stack) (codes "segment") (40 ∷ []))), ((λ stack. sym (append_assoc (spelled_stack stack) (codes "entry") (40 ∷ []))), ((λ stack. append-nil (spelled_stack stack ++ codes "all(") ∙ sym (append_assoc (spelled_stack stack) (codes "all") (40 ∷ []))), ((λ stack. append-nil (spelled_stack stack ++ codes "any(") ∙ sym (append_assoc (spelled_stack stack) (codes "any") (40 ∷ []))), ((λ stack. append-nil (spelled_stack stack ++ codes "not(") ∙ sym (append_assoc (spelled_stack stack) (codes "not") (40 ∷ []))), tt)))))))))))))

inside_text : (stack : List OpenGroup) (text_atom : TextAtom) (partial : List ℕ × Escape) (b : ℕ) (t : State) → option_map (InText stack text_atom) (text_step partial b) ≡ Some t → spelled t ≡ spelled (InText stack text_atom partial) ++ b ∷ []
inside_text stack text_atom partial b t e =
    let m = option_map_some (InText stack text_atom) (text_step partial b) t e in
    ap spelled (sym m.2) ∙ ap (λ x. spelled_stack stack ++ (text_atom_text text_atom ++ 40 ∷ x)) (text_goes partial b m.0 m.1) ∙ simp append_assoc

inside_tag : (stack : List OpenGroup) (partial : List ℕ × Escape) (b : ℕ) (t : State)
    → option_map (InTag stack) (text_step partial b) ≡ Some t
    → spelled t ≡ spelled (InTag stack partial) ++ b ∷ []
inside_tag stack partial b t e =
    let m = option_map_some (InTag stack) (text_step partial b) t e in
    ap spelled (sym m.2)
    ∙ ap (λ x. spelled_stack stack ++ (codes "segment(" ++ x)) (text_goes partial b m.0 m.1)
    ∙ simp append_assoc

inside_value : (stack : List OpenGroup) (tag : List ℕ) (partial : List ℕ × Escape) (b : ℕ)
    (t : State) → option_map (InValue stack tag) (text_step partial b) ≡ Some t
    → spelled t ≡ spelled (InValue stack tag partial) ++ b ∷ []
inside_value stack tag partial b t e =
    let m = option_map_some (InValue stack tag) (text_step partial b) t e in
    ap spelled (sym m.2)
    ∙ ap (λ x. spelled_stack stack ++ (codes "segment(" ++ (escaped tag ++ 44 ∷ x)))
    (text_goes partial b m.0 m.1) ∙ simp append_assoc

inside_pairs : (stack : List OpenGroup) (pairs : Pairs) (key : Option (List ℕ)) (partial : List ℕ × Escape) (b : ℕ) (t : State) → option_map (InPairs stack pairs key) (text_step partial b) ≡ Some t → spelled t ≡ spelled (InPairs stack pairs key partial) ++ b ∷ []
inside_pairs stack pairs key partial b t e =
    let m = option_map_some (InPairs stack pairs key) (text_step partial b) t e in
    ap spelled (sym m.2) ∙ ap (λ x. spelled_stack stack ++ (codes "entry(" ++ (pairs_lead pairs ++ (key_text key ++ x)))) (text_goes partial b m.0 m.1) ∙ simp append_assoc

next_goes : (stack : List OpenGroup) (pairs : Pairs) (key : Option (List ℕ)) (text : List ℕ) → spelled (next_text stack pairs key text) ≡ spelled (InPairs stack pairs key (text, Outside)) ++ 44 ∷ []
next_goes stack pairs None text = simp (append_assoc, append-nil)
next_goes stack pairs (Some key) text = simp (append_assoc, append-nil)

last_goes : (stack : List OpenGroup) (pairs : Pairs) (key : Option (List ℕ)) (text : List ℕ) (t : State) → last_text stack pairs key text ≡ Some t → spelled t ≡ spelled (InPairs stack pairs key (text, Outside)) ++ 41 ∷ []
last_goes stack pairs (Some key) text t e = ap spelled (sym (same_Some (After stack (HasPairs (MorePairs pairs key text))) t e)) ∙ simp (append_assoc, append-nil)
last_goes stack NoPairs None [] t e = ap spelled (sym (same_Some (After stack (HasPairs NoPairs)) t e)) ∙ simp (append_assoc, append-nil)
last_goes stack NoPairs None (x ∷ text) t e = absurd (none-some t e)
last_goes stack (MorePairs pairs k v) None text t e = absurd (none-some t e)

-- one more step, one more byte
pub step_goes : (s : State) (b : ℕ) (t : State) → step s b ≡ Some t → spelled t ≡ spelled s ++ b ∷ []
step_goes (After stack c) b t e = close_goes stack c b t e
step_goes (Word stack word) b t e = ⊎_elim {C = spelled t ≡ spelled (Word stack word) ++ b ∷ []}
    (λ (h : ((b == 41 || b == 44) ≡ true) × (after_word stack word b ≡ Some t)). after_goes stack word b t h.1)
    (λ (h : ((b == 41 || b == 44) ≡ false) × ((if b == 40 then option_map (opened stack) (look openers word) else (if is_prefix bares (word ++ b ∷ []) || is_prefix openers (word ++ b ∷ []) then Some (Word stack (word ++ b ∷ [])) else None)) ≡ Some t)).
    ⊎_elim {C = spelled t ≡ spelled (Word stack word) ++ b ∷ []}
    (λ (g : ((b == 40) ≡ true) × (option_map (opened stack) (look openers word) ≡ Some t)).
    let m = option_map_some (opened stack) (look openers word) t g.1 in
    ap spelled (sym m.2) ∙ opens_to word m.0 m.1 stack ∙ ap (λ x. (spelled_stack stack ++ word) ++ x ∷ []) (sym (eqb-true b 40 g.0)))
    (λ (g : ((b == 40) ≡ false) × ((if is_prefix bares (word ++ b ∷ []) || is_prefix openers (word ++ b ∷ []) then Some (Word stack (word ++ b ∷ [])) else None) ≡ Some t)).
    let w = guarded (is_prefix bares (word ++ b ∷ []) || is_prefix openers (word ++ b ∷ [])) (Some (Word stack (word ++ b ∷ []))) t g.1 in
    ap spelled (sym (same_Some (Word stack (word ++ b ∷ [])) t w.1)) ∙ sym (append_assoc (spelled_stack stack) word (b ∷ [])))
    (if_some (b == 40) (option_map (opened stack) (look openers word)) (if is_prefix bares (word ++ b ∷ []) || is_prefix openers (word ++ b ∷ []) then Some (Word stack (word ++ b ∷ [])) else None) t h.1))
    (if_some (b == 41 || b == 44) (after_word stack word b) (if b == 40 then option_map (opened stack) (look openers word) else (if is_prefix bares (word ++ b ∷ []) || is_prefix openers (word ++ b ∷ []) then Some (Word stack (word ++ b ∷ [])) else None)) t e)
step_goes (InText stack text_atom (bytes, Outside)) b t e = ⊎_elim {C = spelled t ≡ spelled (InText stack text_atom (bytes, Outside)) ++ b ∷ []}
    (λ (h : ((b == 41) ≡ true) × (Some (After stack (With text_atom bytes)) ≡ Some t)).
    ap spelled (sym (same_Some (After stack (With text_atom bytes)) t h.1)) ∙ simp (append_assoc, append-nil) (ap (λ x. spelled_stack stack ++ (text_atom_text text_atom ++ 40 ∷ (escaped bytes ++ x ∷ []))) (sym (eqb-true b 41 h.0))))
    (λ (h : ((b == 41) ≡ false) × (option_map (InText stack text_atom) (text_step (bytes, Outside) b) ≡ Some t)). inside_text stack text_atom (bytes, Outside) b t h.1)
    (if_some (b == 41) (Some (After stack (With text_atom bytes))) (option_map (InText stack text_atom) (text_step (bytes, Outside) b)) t e)
step_goes (InText stack text_atom (bytes, Percent)) b t e = inside_text stack text_atom (bytes, Percent) b t e
step_goes (InText stack text_atom (bytes, Digit)) b t e = inside_text stack text_atom (bytes, Digit) b t e
step_goes (InKind stack word) b t e = ⊎_elim {C = spelled t ≡ spelled (InKind stack word) ++ b ∷ []}
    (λ (h : ((b == 41) ≡ true) × (option_map (λ kind. After stack (OfKind kind)) (look kinds word) ≡ Some t)).
    let m = option_map_some (λ kind. After stack (OfKind kind)) (look kinds word) t h.1 in
    let is = look_entry (λ w a. w ≡ kind_text a) kinds word m.0 (each_kind (λ w a. w ≡ kind_text a) (λ kind. refl) all_kinds) m.1 in
    ap spelled (sym m.2) ∙ simp append_assoc (ap (λ w. spelled_stack stack ++ (codes "kind(" ++ (w ++ 41 ∷ []))) (sym is) ∙ ap (λ x. spelled_stack stack ++ (codes "kind(" ++ (word ++ x ∷ []))) (sym (eqb-true b 41 h.0))))
    (λ (h : ((b == 41) ≡ false) × ((if is_prefix kinds (word ++ b ∷ []) then Some (InKind stack (word ++ b ∷ [])) else None) ≡ Some t)).
    let w = guarded (is_prefix kinds (word ++ b ∷ [])) (Some (InKind stack (word ++ b ∷ []))) t h.1 in
    ap spelled (sym (same_Some (InKind stack (word ++ b ∷ [])) t w.1)) ∙ simp append_assoc)
    (if_some (b == 41) (option_map (λ kind. After stack (OfKind kind)) (look kinds word)) (if is_prefix kinds (word ++ b ∷ []) then Some (InKind stack (word ++ b ∷ [])) else None) t e)
step_goes (InTag stack (bytes, Outside)) b t e =
    ⊎_elim {C = spelled t ≡ spelled (InTag stack (bytes, Outside)) ++ b ∷ []}
    (λ (h : ((b == 44) ≡ true) × (Some (InValue stack bytes ([], Outside)) ≡ Some t)).
    ap spelled (sym (same_Some (InValue stack bytes ([], Outside)) t h.1))
    ∙ simp (append_assoc, append-nil)
    (ap (λ x. spelled_stack stack ++ (codes "segment(" ++ (escaped bytes ++ x ∷ [])))
    (sym (eqb-true b 44 h.0))))
    (λ (h : ((b == 44) ≡ false)
    × (option_map (InTag stack) (text_step (bytes, Outside) b) ≡ Some t)).
    inside_tag stack (bytes, Outside) b t h.1)
    (if_some (b == 44) (Some (InValue stack bytes ([], Outside)))
    (option_map (InTag stack) (text_step (bytes, Outside) b)) t e)
step_goes (InTag stack (bytes, Percent)) b t e = inside_tag stack (bytes, Percent) b t e
step_goes (InTag stack (bytes, Digit)) b t e = inside_tag stack (bytes, Digit) b t e
step_goes (InValue stack tag (bytes, Outside)) b t e =
    ⊎_elim {C = spelled t ≡ spelled (InValue stack tag (bytes, Outside)) ++ b ∷ []}
    (λ (h : ((b == 41) ≡ true) × (Some (After stack (HasSegment tag bytes)) ≡ Some t)).
    ap spelled (sym (same_Some (After stack (HasSegment tag bytes)) t h.1))
    ∙ simp (append_assoc, append-nil)
    (ap (λ x. spelled_stack stack
    ++ (codes "segment(" ++ (escaped tag ++ 44 ∷ (escaped bytes ++ x ∷ []))))
    (sym (eqb-true b 41 h.0))))
    (λ (h : ((b == 41) ≡ false)
    × (option_map (InValue stack tag) (text_step (bytes, Outside) b) ≡ Some t)).
    inside_value stack tag (bytes, Outside) b t h.1)
    (if_some (b == 41) (Some (After stack (HasSegment tag bytes)))
    (option_map (InValue stack tag) (text_step (bytes, Outside) b)) t e)
step_goes (InValue stack tag (bytes, Percent)) b t e = inside_value stack tag (bytes, Percent) b t e
step_goes (InValue stack tag (bytes, Digit)) b t e = inside_value stack tag (bytes, Digit) b t e
step_goes (InPairs stack pairs key (bytes, Outside)) b t e = ⊎_elim {C = spelled t ≡ spelled (InPairs stack pairs key (bytes, Outside)) ++ b ∷ []}
    (λ (h : ((b == 44) ≡ true) × (Some (next_text stack pairs key bytes) ≡ Some t)).
    ap spelled (sym (same_Some (next_text stack pairs key bytes) t h.1)) ∙ next_goes stack pairs key bytes ∙ ap (λ x. spelled (InPairs stack pairs key (bytes, Outside)) ++ x ∷ []) (sym (eqb-true b 44 h.0)))
    (λ (h : ((b == 44) ≡ false) × ((if b == 41 then last_text stack pairs key bytes else option_map (InPairs stack pairs key) (text_step (bytes, Outside) b)) ≡ Some t)).
    ⊎_elim {C = spelled t ≡ spelled (InPairs stack pairs key (bytes, Outside)) ++ b ∷ []}
    (λ (g : ((b == 41) ≡ true) × (last_text stack pairs key bytes ≡ Some t)). last_goes stack pairs key bytes t g.1 ∙ ap (λ x. spelled (InPairs stack pairs key (bytes, Outside)) ++ x ∷ []) (sym (eqb-true b 41 g.0)))
    (λ (g : ((b == 41) ≡ false) × (option_map (InPairs stack pairs key) (text_step (bytes, Outside) b) ≡ Some t)). inside_pairs stack pairs key (bytes, Outside) b t g.1)
    (if_some (b == 41) (last_text stack pairs key bytes) (option_map (InPairs stack pairs key) (text_step (bytes, Outside) b)) t h.1))
    (if_some (b == 44) (Some (next_text stack pairs key bytes)) (if b == 41 then last_text stack pairs key bytes else option_map (InPairs stack pairs key) (text_step (bytes, Outside) b)) t e)
step_goes (InPairs stack pairs key (bytes, Percent)) b t e = inside_pairs stack pairs key (bytes, Percent) b t e
step_goes (InPairs stack pairs key (bytes, Digit)) b t e = inside_pairs stack pairs key (bytes, Digit) b t e

-- what a state holds beside what it has read: its word begins a word of the grammar
abbrev pub IsSound : State → Type 0
IsSound (Word stack word) = (is_prefix bares word || is_prefix openers word) ≡ true
IsSound (InKind stack word) = is_prefix kinds word ≡ true
IsSound (InText stack text_atom partial) = Unit {0}
IsSound (InTag stack partial) = Unit {0}
IsSound (InValue stack tag partial) = Unit {0}
IsSound (InPairs stack pairs key partial) = Unit {0}
IsSound (After stack c) = Unit {0}

close_sound : (stack : List OpenGroup) (c : Cond) (b : ℕ) (t : State) → close stack c b ≡ Some t → IsSound t
close_sound [] c b t e = absurd (none-some t e)
close_sound (OpenNot ∷ stack) c b t e = subst IsSound (same_Some (After stack (Not c)) t (guarded (b == 41) (Some (After stack (Not c))) t e).1) tt
close_sound (OpenAll cs ∷ stack) c b t e = ⊎_elim {C = IsSound t}
    (λ (h : ((b == 41) ≡ true) × (Some (After stack (All (More cs c))) ≡ Some t)). subst IsSound (same_Some (After stack (All (More cs c))) t h.1) tt)
    (λ (h : ((b == 41) ≡ false) × ((if b == 44 then Some (Word (OpenAll (More cs c) ∷ stack) []) else None) ≡ Some t)).
    subst IsSound (same_Some (Word (OpenAll (More cs c) ∷ stack) []) t (guarded (b == 44) (Some (Word (OpenAll (More cs c) ∷ stack) [])) t h.1).1) refl)
    (if_some (b == 41) (Some (After stack (All (More cs c)))) (if b == 44 then Some (Word (OpenAll (More cs c) ∷ stack) []) else None) t e)
close_sound (OpenAny cs ∷ stack) c b t e = ⊎_elim {C = IsSound t}
    (λ (h : ((b == 41) ≡ true) × (Some (After stack (Any (More cs c))) ≡ Some t)). subst IsSound (same_Some (After stack (Any (More cs c))) t h.1) tt)
    (λ (h : ((b == 41) ≡ false) × ((if b == 44 then Some (Word (OpenAny (More cs c) ∷ stack) []) else None) ≡ Some t)).
    subst IsSound (same_Some (Word (OpenAny (More cs c) ∷ stack) []) t (guarded (b == 44) (Some (Word (OpenAny (More cs c) ∷ stack) [])) t h.1).1) refl)
    (if_some (b == 41) (Some (After stack (Any (More cs c)))) (if b == 44 then Some (Word (OpenAny (More cs c) ∷ stack) []) else None) t e)

close_empty_sound : (stack : List OpenGroup) (b : ℕ) (t : State) → close_empty stack b ≡ Some t → IsSound t
close_empty_sound (OpenAll Nothing ∷ stack) b t e = subst IsSound (same_Some (After stack (All Nothing)) t (guarded (b == 41) (Some (After stack (All Nothing))) t e).1) tt
close_empty_sound (OpenAny Nothing ∷ stack) b t e = subst IsSound (same_Some (After stack (Any Nothing)) t (guarded (b == 41) (Some (After stack (Any Nothing))) t e).1) tt
close_empty_sound [] b t e = absurd (none-some t e)
close_empty_sound (OpenNot ∷ stack) b t e = absurd (none-some t e)
close_empty_sound (OpenAll (More cs c) ∷ stack) b t e = absurd (none-some t e)
close_empty_sound (OpenAny (More cs c) ∷ stack) b t e = absurd (none-some t e)

after_sound : (stack : List OpenGroup) (word : List ℕ) (b : ℕ) (t : State) → after_word stack word b ≡ Some t → IsSound t
after_sound stack [] b t e = close_empty_sound stack b t e
after_sound stack (x ∷ word) b t e =
    elim (look bares (x ∷ word)) as (λ o. option_and_then (λ bare. close stack (Plain bare) b) o ≡ Some t → IsSound t)
    [ None ↦ λ h. absurd (none-some t h) | Some bare ↦ λ h. close_sound stack (Plain bare) b t h ] e

opened_sound : (stack : List OpenGroup) (o : Opener) → IsSound (opened stack o)
opened_sound stack (OfText text_atom) = tt
opened_sound stack OfKinds = refl
opened_sound stack OfSegment = tt
opened_sound stack OfPairs = tt
opened_sound stack OfAll = refl
opened_sound stack OfAny = refl
opened_sound stack OfNot = refl

next_sound : (stack : List OpenGroup) (pairs : Pairs) (key : Option (List ℕ)) (text : List ℕ) → IsSound (next_text stack pairs key text)
next_sound stack pairs None text = tt
next_sound stack pairs (Some key) text = tt

last_sound : (stack : List OpenGroup) (pairs : Pairs) (key : Option (List ℕ)) (text : List ℕ) (t : State) → last_text stack pairs key text ≡ Some t → IsSound t
last_sound stack pairs (Some key) text t e = subst IsSound (same_Some (After stack (HasPairs (MorePairs pairs key text))) t e) tt
last_sound stack NoPairs None [] t e = subst IsSound (same_Some (After stack (HasPairs NoPairs)) t e) tt
last_sound stack NoPairs None (x ∷ text) t e = absurd (none-some t e)
last_sound stack (MorePairs pairs k v) None text t e = absurd (none-some t e)

text_sound : (k : List ℕ × Escape → State) → ((partial : List ℕ × Escape) → IsSound (k partial)) → (o : Option (List ℕ × Escape)) (t : State) → option_map k o ≡ Some t → IsSound t
text_sound k all o t e = let m = option_map_some k o t e in subst IsSound m.2 (all m.0)

pub step_sound : (s : State) (b : ℕ) (t : State) → step s b ≡ Some t → IsSound t
step_sound (After stack c) b t e = close_sound stack c b t e
step_sound (Word stack word) b t e = ⊎_elim {C = IsSound t}
    (λ (h : ((b == 41 || b == 44) ≡ true) × (after_word stack word b ≡ Some t)). after_sound stack word b t h.1)
    (λ (h : ((b == 41 || b == 44) ≡ false) × ((if b == 40 then option_map (opened stack) (look openers word) else (if is_prefix bares (word ++ b ∷ []) || is_prefix openers (word ++ b ∷ []) then Some (Word stack (word ++ b ∷ [])) else None)) ≡ Some t)).
    ⊎_elim {C = IsSound t}
    (λ (g : ((b == 40) ≡ true) × (option_map (opened stack) (look openers word) ≡ Some t)). let m = option_map_some (opened stack) (look openers word) t g.1 in subst IsSound m.2 (opened_sound stack m.0))
    (λ (g : ((b == 40) ≡ false) × ((if is_prefix bares (word ++ b ∷ []) || is_prefix openers (word ++ b ∷ []) then Some (Word stack (word ++ b ∷ [])) else None) ≡ Some t)).
    let w = guarded (is_prefix bares (word ++ b ∷ []) || is_prefix openers (word ++ b ∷ [])) (Some (Word stack (word ++ b ∷ []))) t g.1 in
    subst IsSound (same_Some (Word stack (word ++ b ∷ [])) t w.1) w.0)
    (if_some (b == 40) (option_map (opened stack) (look openers word)) (if is_prefix bares (word ++ b ∷ []) || is_prefix openers (word ++ b ∷ []) then Some (Word stack (word ++ b ∷ [])) else None) t h.1))
    (if_some (b == 41 || b == 44) (after_word stack word b) (if b == 40 then option_map (opened stack) (look openers word) else (if is_prefix bares (word ++ b ∷ []) || is_prefix openers (word ++ b ∷ []) then Some (Word stack (word ++ b ∷ [])) else None)) t e)
step_sound (InText stack text_atom (bytes, Outside)) b t e = ⊎_elim {C = IsSound t}
    (λ (h : ((b == 41) ≡ true) × (Some (After stack (With text_atom bytes)) ≡ Some t)). subst IsSound (same_Some (After stack (With text_atom bytes)) t h.1) tt)
    (λ (h : ((b == 41) ≡ false) × (option_map (InText stack text_atom) (text_step (bytes, Outside) b) ≡ Some t)). text_sound (InText stack text_atom) (λ partial. tt) (text_step (bytes, Outside) b) t h.1)
    (if_some (b == 41) (Some (After stack (With text_atom bytes))) (option_map (InText stack text_atom) (text_step (bytes, Outside) b)) t e)
step_sound (InText stack text_atom (bytes, Percent)) b t e = text_sound (InText stack text_atom) (λ partial. tt) (text_step (bytes, Percent) b) t e
step_sound (InText stack text_atom (bytes, Digit)) b t e = text_sound (InText stack text_atom) (λ partial. tt) (text_step (bytes, Digit) b) t e
step_sound (InKind stack word) b t e = ⊎_elim {C = IsSound t}
    (λ (h : ((b == 41) ≡ true) × (option_map (λ kind. After stack (OfKind kind)) (look kinds word) ≡ Some t)). let m = option_map_some (λ kind. After stack (OfKind kind)) (look kinds word) t h.1 in subst IsSound m.2 tt)
    (λ (h : ((b == 41) ≡ false) × ((if is_prefix kinds (word ++ b ∷ []) then Some (InKind stack (word ++ b ∷ [])) else None) ≡ Some t)).
    let w = guarded (is_prefix kinds (word ++ b ∷ [])) (Some (InKind stack (word ++ b ∷ []))) t h.1 in
    subst IsSound (same_Some (InKind stack (word ++ b ∷ [])) t w.1) w.0)
    (if_some (b == 41) (option_map (λ kind. After stack (OfKind kind)) (look kinds word)) (if is_prefix kinds (word ++ b ∷ []) then Some (InKind stack (word ++ b ∷ [])) else None) t e)
step_sound (InTag stack (bytes, Outside)) b t e = ⊎_elim {C = IsSound t}
    (λ (h : ((b == 44) ≡ true) × (Some (InValue stack bytes ([], Outside)) ≡ Some t)).
    subst IsSound (same_Some (InValue stack bytes ([], Outside)) t h.1) tt)
    (λ (h : ((b == 44) ≡ false)
    × (option_map (InTag stack) (text_step (bytes, Outside) b) ≡ Some t)).
    text_sound (InTag stack) (λ partial. tt) (text_step (bytes, Outside) b) t h.1)
    (if_some (b == 44) (Some (InValue stack bytes ([], Outside)))
    (option_map (InTag stack) (text_step (bytes, Outside) b)) t e)
step_sound (InTag stack (bytes, Percent)) b t e =
    text_sound (InTag stack) (λ partial. tt) (text_step (bytes, Percent) b) t e
step_sound (InTag stack (bytes, Digit)) b t e =
    text_sound (InTag stack) (λ partial. tt) (text_step (bytes, Digit) b) t e
step_sound (InValue stack tag (bytes, Outside)) b t e = ⊎_elim {C = IsSound t}
    (λ (h : ((b == 41) ≡ true) × (Some (After stack (HasSegment tag bytes)) ≡ Some t)).
    subst IsSound (same_Some (After stack (HasSegment tag bytes)) t h.1) tt)
    (λ (h : ((b == 41) ≡ false)
    × (option_map (InValue stack tag) (text_step (bytes, Outside) b) ≡ Some t)).
    text_sound (InValue stack tag) (λ partial. tt) (text_step (bytes, Outside) b) t h.1)
    (if_some (b == 41) (Some (After stack (HasSegment tag bytes)))
    (option_map (InValue stack tag) (text_step (bytes, Outside) b)) t e)
step_sound (InValue stack tag (bytes, Percent)) b t e =
    text_sound (InValue stack tag) (λ partial. tt) (text_step (bytes, Percent) b) t e
step_sound (InValue stack tag (bytes, Digit)) b t e =
    text_sound (InValue stack tag) (λ partial. tt) (text_step (bytes, Digit) b) t e
step_sound (InPairs stack pairs key (bytes, Outside)) b t e = ⊎_elim {C = IsSound t}
    (λ (h : ((b == 44) ≡ true) × (Some (next_text stack pairs key bytes) ≡ Some t)). subst IsSound (same_Some (next_text stack pairs key bytes) t h.1) (next_sound stack pairs key bytes))
    (λ (h : ((b == 44) ≡ false) × ((if b == 41 then last_text stack pairs key bytes else option_map (InPairs stack pairs key) (text_step (bytes, Outside) b)) ≡ Some t)).
    ⊎_elim {C = IsSound t}
    (λ (g : ((b == 41) ≡ true) × (last_text stack pairs key bytes ≡ Some t)). last_sound stack pairs key bytes t g.1)
    (λ (g : ((b == 41) ≡ false) × (option_map (InPairs stack pairs key) (text_step (bytes, Outside) b) ≡ Some t)). text_sound (InPairs stack pairs key) (λ partial. tt) (text_step (bytes, Outside) b) t g.1)
    (if_some (b == 41) (last_text stack pairs key bytes) (option_map (InPairs stack pairs key) (text_step (bytes, Outside) b)) t h.1))
    (if_some (b == 44) (Some (next_text stack pairs key bytes)) (if b == 41 then last_text stack pairs key bytes else option_map (InPairs stack pairs key) (text_step (bytes, Outside) b)) t e)
step_sound (InPairs stack pairs key (bytes, Percent)) b t e = text_sound (InPairs stack pairs key) (λ partial. tt) (text_step (bytes, Percent) b) t e
step_sound (InPairs stack pairs key (bytes, Digit)) b t e = text_sound (InPairs stack pairs key) (λ partial. tt) (text_step (bytes, Digit) b) t e

-- some condition's text begins with what was read, where a condition stands at the top
completes : (stack : List OpenGroup) (c : Cond) → Begins IsCondText (spelled_stack stack ++ cond_text c)
completes [] c = ([], (c, append-nil (cond_text c)))
completes (OpenNot ∷ stack) c =
    let r = completes stack (Not c) in
    (41 ∷ r.0, (r.1.0, simp append_assoc (simp append_assoc at r.1.1)))
completes (OpenAll cs ∷ stack) c =
    let r = completes stack (All (More cs c)) in
    (41 ∷ r.0, (r.1.0, simp append_assoc (simp append_assoc at r.1.1)))
completes (OpenAny cs ∷ stack) c =
    let r = completes stack (Any (More cs c)) in
    (41 ∷ r.0, (r.1.0, simp append_assoc (simp append_assoc at r.1.1)))

-- a prefix of the last condition
completes_prefix : (stack : List OpenGroup) (c : Cond) (prefix rest : List ℕ) → cond_text c ≡ prefix ++ rest → Begins IsCondText (spelled_stack stack ++ prefix)
completes_prefix stack c prefix rest e =
    let r = completes stack c in
    (rest ++ r.0, (r.1.0, sym (append_assoc (spelled_stack stack ++ prefix) rest r.0) ∙ ap (λ x. x ++ r.0) (append_assoc (spelled_stack stack) prefix rest ∙ ap (λ x. spelled_stack stack ++ x) (sym e)) ∙ r.1.1))

abbrev BeginsCond : List ℕ → Type 0
BeginsCond word = (more : List ℕ) × (c : Cond) × (cond_text c ≡ word ++ more)

prefix_begins : (stack : List OpenGroup) (word : List ℕ) → (rest : List ℕ) × BeginsCond (word ++ rest) → Begins IsCondText (spelled_stack stack ++ word)
prefix_begins stack word h = completes_prefix stack h.1.1 word (h.0 ++ h.1.0) (h.1.2 ∙ append_assoc word h.0 h.1.0)

-- how an escape goes on
finishes : (escape : Escape) → (more : List ℕ) × (byte : List ℕ) × (escaped byte ≡ pending escape ++ more)
finishes Outside = ([], [], refl)
finishes Percent = (codes "25", 37 ∷ [], refl)
finishes Digit = (codes "5", 37 ∷ [], refl)

part_finishes : (partial : List ℕ × Escape) → (more : List ℕ) × (text : List ℕ) × (escaped text ≡ part_text partial ++ more)
part_finishes (bytes, escape) =
    let f = finishes escape in
    (f.0, bytes ++ f.1, escaped_append bytes f.1 ∙ ap (λ x. escaped bytes ++ x) f.2 ∙ sym (append_assoc (escaped bytes) (pending escape) f.0))

pub begins : (s : State) → IsSound s → Begins IsCondText (spelled s)
begins (After stack c) h = completes stack c
begins (Word stack word) h = ⊎_elim {C = Begins IsCondText (spelled_stack stack ++ word)}
    (λ (f : is_prefix bares word ≡ true). prefix_begins stack word (prefix_entry BeginsCond bares word (([], Plain Test, refl), (([], Plain Container, refl), (([], Plain Engine, refl), (([], Plain Started, refl), (([], Plain Succeeded, refl), (([], Plain Failed, refl), (([], Plain Aborted, refl), tt))))))) f))
    (λ (f : is_prefix openers word ≡ true). prefix_begins stack word (prefix_entry BeginsCond openers word ((codes "()", With Id [], refl), ((codes "()", With Name [], refl), ((codes "()", With Skipped [], refl), ((codes "()", With FailedWith [], refl), ((codes "()", With AbortedWith [], refl), ((codes "()", With Message [], refl), ((codes "()", With File [], refl), ((codes "(skip)", OfKind event.Skipped, refl), ((codes "(,)", HasSegment [] [], refl), ((codes "()", HasPairs NoPairs, refl), ((codes "()", All Nothing, refl), ((codes "()", Any Nothing, refl), ((codes "(test)", Not (Plain Test), refl), tt))))))))))))) f))
    (or_cases (is_prefix bares word) (is_prefix openers word) h)
begins (InKind stack word) h =
    let r = prefix_entry (λ text. (kind : Kind) × (kind_text kind ≡ text)) kinds word (each_kind (λ text kind. (k : Kind) × (kind_text k ≡ text)) (λ kind. (kind, refl)) all_kinds) h in
    completes_prefix stack (OfKind r.1.0) (codes "kind(" ++ word) (r.0 ++ 41 ∷ []) (simp append_assoc (ap (λ x. codes "kind(" ++ (x ++ 41 ∷ [])) r.1.1 ∙ simp append_assoc))
begins (InText stack text_atom partial) h =
    let f = part_finishes partial in
    completes_prefix stack (With text_atom f.1) (text_atom_text text_atom ++ 40 ∷ part_text partial) (f.0 ++ 41 ∷ []) (ap (λ x. text_atom_text text_atom ++ 40 ∷ x ++ 41 ∷ []) f.2 ∙ simp append_assoc)
begins (InTag stack partial) h =
    let f = part_finishes partial in
    completes_prefix stack (HasSegment f.1 []) (codes "segment(" ++ part_text partial)
    (f.0 ++ 44 ∷ 41 ∷ [])
    (ap (λ x. codes "segment(" ++ (x ++ 44 ∷ []) ++ 41 ∷ []) f.2 ∙ simp append_assoc)
begins (InValue stack tag partial) h =
    let f = part_finishes partial in
    completes_prefix stack (HasSegment tag f.1)
    (codes "segment(" ++ (escaped tag ++ 44 ∷ part_text partial)) (f.0 ++ 41 ∷ [])
    (ap (λ x. codes "segment(" ++ (escaped tag ++ 44 ∷ x) ++ 41 ∷ []) f.2
    ∙ simp append_assoc)
begins (InPairs stack pairs None partial) h =
    let f = part_finishes partial in
    completes_prefix stack (HasPairs (MorePairs pairs f.1 [])) (codes "entry(" ++ (pairs_lead pairs ++ ([] ++ part_text partial))) (f.0 ++ 44 ∷ 41 ∷ [])
    (ap (λ x. codes "entry(" ++ (pairs_lead pairs ++ (x ++ 44 ∷ [])) ++ 41 ∷ []) f.2 ∙ simp append_assoc)
begins (InPairs stack pairs (Some key) partial) h =
    let f = part_finishes partial in
    completes_prefix stack (HasPairs (MorePairs pairs key f.1)) (codes "entry(" ++ (pairs_lead pairs ++ ((escaped key ++ 44 ∷ []) ++ part_text partial))) (f.0 ++ 41 ∷ [])
    (ap (λ x. codes "entry(" ++ (pairs_lead pairs ++ (escaped key ++ 44 ∷ x)) ++ 41 ∷ []) f.2 ∙ simp append_assoc)
