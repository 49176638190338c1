-- The machine's stack and the brackets that are open after what it has read.
use Rattle.std.proofs.Common.{◌≡◌, ℕ, Bool, true, false, List, [], ◌∷◌, ◌++◌, Option, Some, None, option_and_then, option_map, if◌then◌else◌, ◌==◌, ◌||◌, refl, sym, ap, ◌∙◌, rules, ⊎_elim}
use Rattle.std.specs.Prelude.{codes}
use Rattle.std.proofs.lemmas.Option.{same_Some, none-some}
use Rattle.std.proofs.lemmas.Bool.{ne_eqb, eqb-true}
use Rattle.tk_query_conditions.specs.Brackets.{bracket_step, tail}
use Rattle.tk_query_conditions.specs.declared.partial_texts.Escape.{Escape}
use Rattle.tk_query_conditions.specs.declared.partial_texts.Escape.TheVariants.{Outside, Percent, Digit}
use Rattle.tk_events.specs.declared.kinds.Kind.{Kind}
use Rattle.tk_events.specs.declared.kinds.Kind.TheVariants as event
use Rattle.tk_query_conditions.specs.Cond.{Pairs, NoPairs, MorePairs, Cond, Plain, With, OfKind, HasSegment, HasPairs, All, Any, Not, Nothing, More, text_atom_text, kind_text}
use Rattle.tk_query_conditions.specs.steps.Reading.{OpenGroup, OpenNot, OpenAll, OpenAny, State, Word, InText, InKind, InTag, InValue, InPairs, After, text_step, special_of, look, bares, all_kinds, kinds, openers, Opener, opened, close, close_empty, after_word, is_prefix, step, next_text, last_text}
use Rattle.tk_query_conditions.proofs.Prefixes.{if_some, guarded, look_entry, prefix_entry, each_kind, text_goes, part_text}
use Rattle.tk_ids.proofs.ReadingLemmas.{option_map_some}

abbrev pub words_of : List OpenGroup → List (List ℕ)
words_of [] = []
words_of (OpenNot ∷ stack) = codes "not" ∷ words_of stack
words_of (OpenAll cs ∷ stack) = codes "all" ∷ words_of stack
words_of (OpenAny cs ∷ stack) = codes "any" ∷ words_of stack

-- the words before the open brackets, and the bytes after the last delimiter
abbrev pub brackets : State → List (List ℕ) × List ℕ
brackets (Word stack word) = (words_of stack, word)
brackets (InText stack text_atom partial) = (text_atom_text text_atom ∷ words_of stack, part_text partial)
brackets (InKind stack word) = (codes "kind" ∷ words_of stack, word)
brackets (InTag stack partial) = (codes "segment" ∷ words_of stack, part_text partial)
brackets (InValue stack tag partial) = (codes "segment" ∷ words_of stack, part_text partial)
brackets (InPairs stack pairs key partial) = (codes "entry" ∷ words_of stack, part_text partial)
brackets (After stack c) = (words_of stack, [])

at_closing : (stack : List (List ℕ)) (word : List ℕ) (b : ℕ) → (b == 41) ≡ true → bracket_step (stack, word) b ≡ (tail stack, [])
at_closing stack word b e = ap (bracket_step (stack, word)) (eqb-true b 41 e)

at_comma : (stack : List (List ℕ)) (word : List ℕ) (b : ℕ) → (b == 44) ≡ true → bracket_step (stack, word) b ≡ (stack, [])
at_comma stack word b e = ap (bracket_step (stack, word)) (eqb-true b 44 e)

elsewhere : (stack : List (List ℕ)) (word : List ℕ) (b : ℕ) → (b == 40) ≡ false → (b == 41) ≡ false → (b == 44) ≡ false → bracket_step (stack, word) b ≡ (stack, word ++ b ∷ [])
elsewhere stack word b e f g = simp (e, f, g)

or_false : (x y : Bool) → (x || y) ≡ false → (x ≡ false) × (y ≡ false)
or_false true y e = cc
or_false false y e = (refl, e)

-- a byte inside a text is no delimiter
text_byte : (p : List ℕ × Escape) (b : ℕ) (q : List ℕ × Escape) → text_step p b ≡ Some q → ((b == 40) ≡ false) × ((b == 41) ≡ false) × ((b == 44) ≡ false)
text_byte (bytes, Outside) b q e = ⊎_elim {C = ((b == 40) ≡ false) × ((b == 41) ≡ false) × ((b == 44) ≡ false)}
    (λ (h : ((b == 37) ≡ true) × (Some (bytes, Percent) ≡ Some q)). let at = eqb-true b 37 h.0 in (ap (λ n. n == 40) at, ap (λ n. n == 41) at, ap (λ n. n == 44) at))
    (λ (h : ((b == 37) ≡ false) × ((if b == 40 || (b == 41 || b == 44) then None else Some (bytes ++ b ∷ [], Outside)) ≡ Some q)).
    ⊎_elim {C = ((b == 40) ≡ false) × ((b == 41) ≡ false) × ((b == 44) ≡ false)}
    (λ (g : ((b == 40 || (b == 41 || b == 44)) ≡ true) × (None ≡ Some q)). absurd (none-some q g.1))
    (λ (g : ((b == 40 || (b == 41 || b == 44)) ≡ false) × (Some (bytes ++ b ∷ [], Outside) ≡ Some q)).
    let one = or_false (b == 40) (b == 41 || b == 44) g.0 in let two = or_false (b == 41) (b == 44) one.1 in (one.0, two.0, two.1))
    (if_some (b == 40 || (b == 41 || b == 44)) None (Some (bytes ++ b ∷ [], Outside)) q h.1))
    (if_some (b == 37) (Some (bytes, Percent)) (if b == 40 || (b == 41 || b == 44) then None else Some (bytes ++ b ∷ [], Outside)) q e)
text_byte (bytes, Percent) b q e = let at = eqb-true b 50 (guarded (b == 50) (Some (bytes, Digit)) q e).0 in (ap (λ n. n == 40) at, ap (λ n. n == 41) at, ap (λ n. n == 44) at)
text_byte (bytes, Digit) b q e =
    let m = option_map_some (λ c. (bytes ++ c ∷ [], Outside)) (special_of b) q e in
    (no_special 40 refl b m.0 m.1, no_special 41 refl b m.0 m.1, no_special 44 refl b m.0 m.1)
  where
    no_special : (k : ℕ) → special_of k ≡ None → (b c : ℕ) → special_of b ≡ Some c → (b == k) ≡ false
    no_special k none b c e = ne_eqb b k (λ same. absurd (none-some c (sym none ∙ ap special_of (sym same) ∙ e)))

inside : (k : List ℕ × Escape → State) (stack : List (List ℕ)) → ((partial : List ℕ × Escape) → brackets (k partial) ≡ (stack, part_text partial)) → (partial : List ℕ × Escape) (b : ℕ) (t : State) → option_map k (text_step partial b) ≡ Some t → bracket_step (brackets (k partial)) b ≡ brackets t
inside k stack is partial b t e =
    let m = option_map_some k (text_step partial b) t e in
    let byte = text_byte partial b m.0 m.1 in
    ap (λ x. bracket_step x b) (is partial) ∙ elsewhere stack (part_text partial) b byte.0 byte.1 byte.2 ∙ ap (λ x. (stack, x)) (sym (text_goes partial b m.0 m.1)) ∙ sym (is m.0) ∙ ap brackets m.2

close_brackets : (stack : List OpenGroup) (c : Cond) (word : List ℕ) (b : ℕ) (t : State) → close stack c b ≡ Some t → bracket_step (words_of stack, word) b ≡ brackets t
close_brackets [] c word b t e = absurd (none-some t e)
close_brackets (OpenNot ∷ stack) c word b t e =
    let g = guarded (b == 41) (Some (After stack (Not c))) t e in
    at_closing (words_of (OpenNot ∷ stack)) word b g.0 ∙ ap brackets (same_Some (After stack (Not c)) t g.1)
close_brackets (OpenAll cs ∷ stack) c word b t e = ⊎_elim {C = bracket_step (words_of (OpenAll cs ∷ stack), word) b ≡ brackets t}
    (λ (h : ((b == 41) ≡ true) × (Some (After stack (All (More cs c))) ≡ Some t)). at_closing (words_of (OpenAll cs ∷ stack)) word b h.0 ∙ ap brackets (same_Some (After stack (All (More cs c))) t h.1))
    (λ (h : ((b == 41) ≡ false) × ((if b == 44 then Some (Word (OpenAll (More cs c) ∷ stack) []) else None) ≡ Some t)).
    let g = guarded (b == 44) (Some (Word (OpenAll (More cs c) ∷ stack) [])) t h.1 in
    at_comma (words_of (OpenAll cs ∷ stack)) word b g.0 ∙ ap brackets (same_Some (Word (OpenAll (More cs c) ∷ stack) []) t g.1))
    (if_some (b == 41) (Some (After stack (All (More cs c)))) (if b == 44 then Some (Word (OpenAll (More cs c) ∷ stack) []) else None) t e)
close_brackets (OpenAny cs ∷ stack) c word b t e = ⊎_elim {C = bracket_step (words_of (OpenAny cs ∷ stack), word) b ≡ brackets t}
    (λ (h : ((b == 41) ≡ true) × (Some (After stack (Any (More cs c))) ≡ Some t)). at_closing (words_of (OpenAny cs ∷ stack)) word b h.0 ∙ ap brackets (same_Some (After stack (Any (More cs c))) t h.1))
    (λ (h : ((b == 41) ≡ false) × ((if b == 44 then Some (Word (OpenAny (More cs c) ∷ stack) []) else None) ≡ Some t)).
    let g = guarded (b == 44) (Some (Word (OpenAny (More cs c) ∷ stack) [])) t h.1 in
    at_comma (words_of (OpenAny cs ∷ stack)) word b g.0 ∙ ap brackets (same_Some (Word (OpenAny (More cs c) ∷ stack) []) t g.1))
    (if_some (b == 41) (Some (After stack (Any (More cs c)))) (if b == 44 then Some (Word (OpenAny (More cs c) ∷ stack) []) else None) t e)

close_empty_brackets : (stack : List OpenGroup) (word : List ℕ) (b : ℕ) (t : State) → close_empty stack b ≡ Some t → bracket_step (words_of stack, word) b ≡ brackets t
close_empty_brackets (OpenAll Nothing ∷ stack) word b t e =
    let g = guarded (b == 41) (Some (After stack (All Nothing))) t e in
    at_closing (words_of (OpenAll Nothing ∷ stack)) word b g.0 ∙ ap brackets (same_Some (After stack (All Nothing)) t g.1)
close_empty_brackets (OpenAny Nothing ∷ stack) word b t e =
    let g = guarded (b == 41) (Some (After stack (Any Nothing))) t e in
    at_closing (words_of (OpenAny Nothing ∷ stack)) word b g.0 ∙ ap brackets (same_Some (After stack (Any Nothing)) t g.1)
close_empty_brackets [] word b t e = absurd (none-some t e)
close_empty_brackets (OpenNot ∷ stack) word b t e = absurd (none-some t e)
close_empty_brackets (OpenAll (More cs c) ∷ stack) word b t e = absurd (none-some t e)
close_empty_brackets (OpenAny (More cs c) ∷ stack) word b t e = absurd (none-some t e)

after_brackets : (stack : List OpenGroup) (word : List ℕ) (b : ℕ) (t : State) → after_word stack word b ≡ Some t → bracket_step (words_of stack, word) b ≡ brackets t
after_brackets stack [] b t e = close_empty_brackets stack [] b t e
after_brackets stack (x ∷ word) b t e =
    elim (look bares (x ∷ word)) as (λ o. option_and_then (λ bare. close stack (Plain bare) b) o ≡ Some t → bracket_step (words_of stack, x ∷ word) b ≡ brackets t)
    [ None ↦ λ h. absurd (none-some t h) | Some bare ↦ λ h. close_brackets stack (Plain bare) (x ∷ word) b t h ] e

abbrev OpensAs : List ℕ → Opener → Type 0
OpensAs word o = (stack : List OpenGroup) → (word ∷ words_of stack, []) ≡ brackets (opened stack o)

opens_as : (word : List ℕ) (o : Opener) → look openers word ≡ Some o → OpensAs word o
opens_as word o e = look_entry OpensAs openers word o ((λ stack. refl), ((λ stack. refl), ((λ stack. refl), ((λ stack. refl), ((λ stack. refl), ((λ stack. refl), ((λ stack. refl), ((λ stack. refl), ((λ stack. refl), ((λ stack. refl), ((λ stack. refl), ((λ stack. refl), ((λ stack. refl), tt))))))))))))) e

-- no name of a kind has a delimiter in it
abbrev HasNone : List ℕ → Type 0
HasNone [] = Unit {0}
HasNone (b ∷ text) = ((b == 40) ≡ false) × ((b == 44) ≡ false) × HasNone text

kind_has_none : (kind : Kind) → HasNone (kind_text kind)
kind_has_none event.Dynamic = search rules
kind_has_none event.Skipped = search rules
kind_has_none event.Started = search rules
kind_has_none event.Finished = search rules
kind_has_none event.Reporting = search rules
kind_has_none event.File = search rules

last_has_none : (word rest : List ℕ) (b : ℕ) → HasNone ((word ++ b ∷ []) ++ rest) → ((b == 40) ≡ false) × ((b == 44) ≡ false)
last_has_none [] rest b h = (h.0, h.1)
last_has_none (x ∷ word) rest b h = last_has_none word rest b h.2

last_brackets : (stack : List OpenGroup) (pairs : Pairs) (key : Option (List ℕ)) (text : List ℕ) (t : State) → last_text stack pairs key text ≡ Some t → (words_of stack, []) ≡ brackets t
last_brackets stack pairs (Some key) text t e = ap brackets (same_Some (After stack (HasPairs (MorePairs pairs key text))) t e)
last_brackets stack NoPairs None [] t e = ap brackets (same_Some (After stack (HasPairs NoPairs)) t e)
last_brackets stack NoPairs None (x ∷ text) t e = absurd (none-some t e)
last_brackets stack (MorePairs pairs k v) None text t e = absurd (none-some t e)

next_brackets : (stack : List OpenGroup) (pairs : Pairs) (key : Option (List ℕ)) (text : List ℕ) → (codes "entry" ∷ words_of stack, []) ≡ brackets (next_text stack pairs key text)
next_brackets stack pairs None text = refl
next_brackets stack pairs (Some key) text = refl

-- one more step, one more byte
pub step_brackets : (s : State) (b : ℕ) (t : State) → step s b ≡ Some t → bracket_step (brackets s) b ≡ brackets t
step_brackets (After stack c) b t e = close_brackets stack c [] b t e
step_brackets (Word stack word) b t e = ⊎_elim {C = bracket_step (words_of stack, word) b ≡ brackets t}
    (λ (h : ((b == 41 || b == 44) ≡ true) × (after_word stack word b ≡ Some t)). after_brackets stack word b t h.1)
    (λ (h : ((b == 41 || b == 44) ≡ false) × ((if b == 40 then option_map (opened stack) (look openers word) else (if is_prefix bares (word ++ b ∷ []) || is_prefix openers (word ++ b ∷ []) then Some (Word stack (word ++ b ∷ [])) else None)) ≡ Some t)).
    ⊎_elim {C = bracket_step (words_of stack, word) b ≡ brackets t}
    (λ (g : ((b == 40) ≡ true) × (option_map (opened stack) (look openers word) ≡ Some t)).
    let m = option_map_some (opened stack) (look openers word) t g.1 in
    ap (bracket_step (words_of stack, word)) (eqb-true b 40 g.0) ∙ opens_as word m.0 m.1 stack ∙ ap brackets m.2)
    (λ (g : ((b == 40) ≡ false) × ((if is_prefix bares (word ++ b ∷ []) || is_prefix openers (word ++ b ∷ []) then Some (Word stack (word ++ b ∷ [])) else None) ≡ Some t)).
    let w = guarded (is_prefix bares (word ++ b ∷ []) || is_prefix openers (word ++ b ∷ [])) (Some (Word stack (word ++ b ∷ []))) t g.1 in
    let two = or_false (b == 41) (b == 44) h.0 in
    elsewhere (words_of stack) word b g.0 two.0 two.1 ∙ ap brackets (same_Some (Word stack (word ++ b ∷ [])) t w.1))
    (if_some (b == 40) (option_map (opened stack) (look openers word)) (if is_prefix bares (word ++ b ∷ []) || is_prefix openers (word ++ b ∷ []) then Some (Word stack (word ++ b ∷ [])) else None) t h.1))
    (if_some (b == 41 || b == 44) (after_word stack word b) (if b == 40 then option_map (opened stack) (look openers word) else (if is_prefix bares (word ++ b ∷ []) || is_prefix openers (word ++ b ∷ []) then Some (Word stack (word ++ b ∷ [])) else None)) t e)
step_brackets (InText stack text_atom (bytes, Outside)) b t e = ⊎_elim {C = bracket_step (brackets (InText stack text_atom (bytes, Outside))) b ≡ brackets t}
    (λ (h : ((b == 41) ≡ true) × (Some (After stack (With text_atom bytes)) ≡ Some t)). at_closing (text_atom_text text_atom ∷ words_of stack) (part_text (bytes, Outside)) b h.0 ∙ ap brackets (same_Some (After stack (With text_atom bytes)) t h.1))
    (λ (h : ((b == 41) ≡ false) × (option_map (InText stack text_atom) (text_step (bytes, Outside) b) ≡ Some t)). inside (InText stack text_atom) (text_atom_text text_atom ∷ words_of stack) (λ partial. refl) (bytes, Outside) b t h.1)
    (if_some (b == 41) (Some (After stack (With text_atom bytes))) (option_map (InText stack text_atom) (text_step (bytes, Outside) b)) t e)
step_brackets (InText stack text_atom (bytes, Percent)) b t e = inside (InText stack text_atom) (text_atom_text text_atom ∷ words_of stack) (λ partial. refl) (bytes, Percent) b t e
step_brackets (InText stack text_atom (bytes, Digit)) b t e = inside (InText stack text_atom) (text_atom_text text_atom ∷ words_of stack) (λ partial. refl) (bytes, Digit) b t e
step_brackets (InKind stack word) b t e = ⊎_elim {C = bracket_step (brackets (InKind stack word)) b ≡ brackets t}
    (λ (h : ((b == 41) ≡ true) × (option_map (λ kind. After stack (OfKind kind)) (look kinds word) ≡ Some t)).
    let m = option_map_some (λ kind. After stack (OfKind kind)) (look kinds word) t h.1 in
    at_closing (codes "kind" ∷ words_of stack) word b h.0 ∙ ap brackets m.2)
    (λ (h : ((b == 41) ≡ false) × ((if is_prefix kinds (word ++ b ∷ []) then Some (InKind stack (word ++ b ∷ [])) else None) ≡ Some t)).
    let w = guarded (is_prefix kinds (word ++ b ∷ [])) (Some (InKind stack (word ++ b ∷ []))) t h.1 in
    let r = prefix_entry HasNone kinds (word ++ b ∷ []) (each_kind (λ text _. HasNone text) kind_has_none all_kinds) w.0 in
    let none = last_has_none word r.0 b r.1 in
    elsewhere (codes "kind" ∷ words_of stack) word b none.0 h.0 none.1 ∙ ap brackets (same_Some (InKind stack (word ++ b ∷ [])) t w.1))
    (if_some (b == 41) (option_map (λ kind. After stack (OfKind kind)) (look kinds word)) (if is_prefix kinds (word ++ b ∷ []) then Some (InKind stack (word ++ b ∷ [])) else None) t e)
step_brackets (InTag stack (bytes, Outside)) b t e =
    ⊎_elim {C = bracket_step (brackets (InTag stack (bytes, Outside))) b ≡ brackets t}
    (λ (h : ((b == 44) ≡ true) × (Some (InValue stack bytes ([], Outside)) ≡ Some t)).
    at_comma (codes "segment" ∷ words_of stack) (part_text (bytes, Outside)) b h.0
    ∙ ap brackets (same_Some (InValue stack bytes ([], Outside)) t h.1))
    (λ (h : ((b == 44) ≡ false)
    × (option_map (InTag stack) (text_step (bytes, Outside) b) ≡ Some t)).
    inside (InTag stack) (codes "segment" ∷ words_of stack) (λ partial. refl)
    (bytes, Outside) b t h.1)
    (if_some (b == 44) (Some (InValue stack bytes ([], Outside)))
    (option_map (InTag stack) (text_step (bytes, Outside) b)) t e)
step_brackets (InTag stack (bytes, Percent)) b t e =
    inside (InTag stack) (codes "segment" ∷ words_of stack) (λ partial. refl)
    (bytes, Percent) b t e
step_brackets (InTag stack (bytes, Digit)) b t e =
    inside (InTag stack) (codes "segment" ∷ words_of stack) (λ partial. refl)
    (bytes, Digit) b t e
step_brackets (InValue stack tag (bytes, Outside)) b t e =
    ⊎_elim {C = bracket_step (brackets (InValue stack tag (bytes, Outside))) b ≡ brackets t}
    (λ (h : ((b == 41) ≡ true) × (Some (After stack (HasSegment tag bytes)) ≡ Some t)).
    at_closing (codes "segment" ∷ words_of stack) (part_text (bytes, Outside)) b h.0
    ∙ ap brackets (same_Some (After stack (HasSegment tag bytes)) t h.1))
    (λ (h : ((b == 41) ≡ false)
    × (option_map (InValue stack tag) (text_step (bytes, Outside) b) ≡ Some t)).
    inside (InValue stack tag) (codes "segment" ∷ words_of stack) (λ partial. refl)
    (bytes, Outside) b t h.1)
    (if_some (b == 41) (Some (After stack (HasSegment tag bytes)))
    (option_map (InValue stack tag) (text_step (bytes, Outside) b)) t e)
step_brackets (InValue stack tag (bytes, Percent)) b t e =
    inside (InValue stack tag) (codes "segment" ∷ words_of stack) (λ partial. refl)
    (bytes, Percent) b t e
step_brackets (InValue stack tag (bytes, Digit)) b t e =
    inside (InValue stack tag) (codes "segment" ∷ words_of stack) (λ partial. refl)
    (bytes, Digit) b t e
step_brackets (InPairs stack pairs key (bytes, Outside)) b t e = ⊎_elim {C = bracket_step (brackets (InPairs stack pairs key (bytes, Outside))) b ≡ brackets t}
    (λ (h : ((b == 44) ≡ true) × (Some (next_text stack pairs key bytes) ≡ Some t)).
    at_comma (codes "entry" ∷ words_of stack) (part_text (bytes, Outside)) b h.0 ∙ next_brackets stack pairs key bytes ∙ ap brackets (same_Some (next_text stack pairs key bytes) t h.1))
    (λ (h : ((b == 44) ≡ false) × ((if b == 41 then last_text stack pairs key bytes else option_map (InPairs stack pairs key) (text_step (bytes, Outside) b)) ≡ Some t)).
    ⊎_elim {C = bracket_step (brackets (InPairs stack pairs key (bytes, Outside))) b ≡ brackets t}
    (λ (g : ((b == 41) ≡ true) × (last_text stack pairs key bytes ≡ Some t)). at_closing (codes "entry" ∷ words_of stack) (part_text (bytes, Outside)) b g.0 ∙ last_brackets stack pairs key bytes t g.1)
    (λ (g : ((b == 41) ≡ false) × (option_map (InPairs stack pairs key) (text_step (bytes, Outside) b) ≡ Some t)). inside (InPairs stack pairs key) (codes "entry" ∷ words_of stack) (λ partial. refl) (bytes, Outside) b t g.1)
    (if_some (b == 41) (last_text stack pairs key bytes) (option_map (InPairs stack pairs key) (text_step (bytes, Outside) b)) t h.1))
    (if_some (b == 44) (Some (next_text stack pairs key bytes)) (if b == 41 then last_text stack pairs key bytes else option_map (InPairs stack pairs key) (text_step (bytes, Outside) b)) t e)
step_brackets (InPairs stack pairs key (bytes, Percent)) b t e = inside (InPairs stack pairs key) (codes "entry" ∷ words_of stack) (λ partial. refl) (bytes, Percent) b t e
step_brackets (InPairs stack pairs key (bytes, Digit)) b t e = inside (InPairs stack pairs key) (codes "entry" ∷ words_of stack) (λ partial. refl) (bytes, Digit) b t e
