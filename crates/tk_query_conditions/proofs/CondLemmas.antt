-- The machine reads the text of each condition.
use Rattle.std.proofs.Common.{◌≡◌, ℕ, List, [], ◌∷◌, ◌++◌, Option, Some, None, option_and_then, option_map, refl, sym, ap, ◌∙◌, subst, arith, ⊎_elim}
use Rattle.std.specs.Prelude.{codes}
use Rattle.std.proofs.lemmas.List.{append_assoc, append-nil}
use Rattle.std.proofs.lemmas.Option.{same_Some, none-some}
use Rattle.std.proofs.lemmas.Bool.{cases_eq, ne_eqb}
use Rattle.tk_ids.specs.Machine.{run}
use Rattle.tk_ids.proofs.MachineLemmas.{run-append, run_more}
use Rattle.tk_query_conditions.specs.declared.partial_texts.Escape.{Escape}
use Rattle.tk_query_conditions.specs.declared.partial_texts.Escape.TheVariants.{Outside, Percent, Digit}
use Rattle.tk_events.specs.declared.kinds.Kind.{Kind}
use Rattle.tk_events.specs.declared.kinds.Kind.TheVariants as event
use Rattle.tk_query_conditions.specs.Cond.{Bare, Test, Container, Engine, Started, Succeeded, Failed, Aborted, TextAtom, Id, Name, Skipped, FailedWith, AbortedWith, Message, File, Pairs, NoPairs, MorePairs, Cond, Plain, With, OfKind, HasSegment, HasPairs, All, Any, Not, Conds, Nothing, More, bare_text, text_atom_text, kind_text, spelled_by, escaped, pairs_text, pairs_lead, cond_text, list_text, lead_text}
use Rattle.tk_query_conditions.specs.steps.Reading.{OpenGroup, OpenNot, OpenAll, OpenAny, State, Word, InText, InKind, InTag, InValue, InPairs, After, text_step, look, bares, close, ended, step, start}

-- the machine has come to the end of the condition c, with this stack below it
pub record IsAt (s : State) (text : List ℕ) (stack : List OpenGroup) (c : Cond) : Type 0 where
  pub state : State
  pub came : run step s text ≡ Some state
  pub at_end : ended state ≡ Some (stack, c)

run3 : (s t u v : State) (a b c : ℕ) → step s a ≡ Some t → step t b ≡ Some u → step u c ≡ Some v → run step s (a ∷ b ∷ c ∷ []) ≡ Some v
run3 s t u v a b c e f g =
    ap (λ o. option_and_then (λ x. option_and_then (λ y. option_and_then (λ z. Some z) (step y c)) (step x b)) o) e
    ∙ ap (λ o. option_and_then (λ y. option_and_then (λ z. Some z) (step y c)) o) f
    ∙ ap (λ o. option_and_then (λ z. Some z) o) g

run1 : (s t : State) (a : ℕ) → step s a ≡ Some t → run step s (a ∷ []) ≡ Some t
run1 s t a e = ap (λ o. option_and_then (λ z. Some z) o) e

-- inside a text, where k is the state around it
module _ (k : List ℕ × Escape → State) (goes : (partial : List ℕ × Escape) (b : ℕ) → (b ≡ 41 → ⊥) → (b ≡ 44 → ⊥) → step (k partial) b ≡ option_map k (text_step partial b)) where
  an_escape : (bytes : List ℕ) (digit b : ℕ) → (digit ≡ 41 → ⊥) → (digit ≡ 44 → ⊥) → text_step (bytes, Digit) digit ≡ Some (bytes ++ b ∷ [], Outside) → run step (k (bytes, Outside)) (37 ∷ 50 ∷ digit ∷ []) ≡ Some (k (bytes ++ b ∷ [], Outside))
  an_escape bytes digit b not41 not44 e =
      run3 (k (bytes, Outside)) (k (bytes, Percent)) (k (bytes, Digit)) (k (bytes ++ b ∷ [], Outside)) 37 50 digit
      (goes (bytes, Outside) 37 (λ e. absurd (omega arith)) (λ e. absurd (omega arith)))
      (goes (bytes, Percent) 50 (λ e. absurd (omega arith)) (λ e. absurd (omega arith)))
      (goes (bytes, Digit) digit not41 not44 ∙ ap (option_map k) e)

  reads_byte : (bytes : List ℕ) (b : ℕ) → run step (k (bytes, Outside)) (spelled_by b) ≡ Some (k (bytes ++ b ∷ [], Outside))
  reads_byte bytes b = ⊎_elim {C = run step (k (bytes, Outside)) (spelled_by b) ≡ Some (k (bytes ++ b ∷ [], Outside))}
      (λ (e : b ≡ 37). subst (λ n. run step (k (bytes, Outside)) (spelled_by n) ≡ Some (k (bytes ++ n ∷ [], Outside))) (sym e) (an_escape bytes 53 37 (λ e. absurd (omega arith)) (λ e. absurd (omega arith)) refl))
      (λ (n37 : b ≡ 37 → ⊥). ⊎_elim {C = run step (k (bytes, Outside)) (spelled_by b) ≡ Some (k (bytes ++ b ∷ [], Outside))}
      (λ (e : b ≡ 40). subst (λ n. run step (k (bytes, Outside)) (spelled_by n) ≡ Some (k (bytes ++ n ∷ [], Outside))) (sym e) (an_escape bytes 56 40 (λ e. absurd (omega arith)) (λ e. absurd (omega arith)) refl))
      (λ (n40 : b ≡ 40 → ⊥). ⊎_elim {C = run step (k (bytes, Outside)) (spelled_by b) ≡ Some (k (bytes ++ b ∷ [], Outside))}
      (λ (e : b ≡ 41). subst (λ n. run step (k (bytes, Outside)) (spelled_by n) ≡ Some (k (bytes ++ n ∷ [], Outside))) (sym e) (an_escape bytes 57 41 (λ e. absurd (omega arith)) (λ e. absurd (omega arith)) refl))
      (λ (n41 : b ≡ 41 → ⊥). ⊎_elim {C = run step (k (bytes, Outside)) (spelled_by b) ≡ Some (k (bytes ++ b ∷ [], Outside))}
      (λ (e : b ≡ 44). subst (λ n. run step (k (bytes, Outside)) (spelled_by n) ≡ Some (k (bytes ++ n ∷ [], Outside))) (sym e) (an_escape bytes 67 44 (λ e. absurd (omega arith)) (λ e. absurd (omega arith)) refl))
      (λ (n44 : b ≡ 44 → ⊥).
      let spelled : spelled_by b ≡ b ∷ [] = simp (ne_eqb b 37 n37, ne_eqb b 40 n40, ne_eqb b 41 n41, ne_eqb b 44 n44) in
      let stepped : text_step (bytes, Outside) b ≡ Some (bytes ++ b ∷ [], Outside) = simp (ne_eqb b 37 n37, ne_eqb b 40 n40, ne_eqb b 41 n41, ne_eqb b 44 n44) in
      ap (run step (k (bytes, Outside))) spelled ∙ run1 (k (bytes, Outside)) (k (bytes ++ b ∷ [], Outside)) b (goes (bytes, Outside) b n41 n44 ∙ ap (option_map k) stepped))
      (cases_eq b 44))
      (cases_eq b 41))
      (cases_eq b 40))
      (cases_eq b 37)

  reads_text : (bytes text : List ℕ) → run step (k (bytes, Outside)) (escaped text) ≡ Some (k (bytes ++ text, Outside))
  reads_text bytes [] = ap (λ list. Some (k (list, Outside))) (sym (append-nil bytes))
  reads_text bytes (b ∷ text) =
      run-append step (k (bytes, Outside)) (k (bytes ++ b ∷ [], Outside)) (spelled_by b) (escaped text) (reads_byte bytes b)
      ∙ reads_text (bytes ++ b ∷ []) text
      ∙ ap (λ list. Some (k (list, Outside))) (append_assoc bytes (b ∷ []) text)

in_text : (stack : List OpenGroup) (text_atom : TextAtom) (partial : List ℕ × Escape) (b : ℕ) → (b ≡ 41 → ⊥) → (b ≡ 44 → ⊥) → step (InText stack text_atom partial) b ≡ option_map (InText stack text_atom) (text_step partial b)
in_text stack text_atom (bytes, Outside) b n41 n44 = simp (ne_eqb b 41 n41)
in_text stack text_atom (bytes, Percent) b n41 n44 = refl
in_text stack text_atom (bytes, Digit) b n41 n44 = refl

in_tag : (stack : List OpenGroup) (partial : List ℕ × Escape) (b : ℕ) → (b ≡ 41 → ⊥)
    → (b ≡ 44 → ⊥)
    → step (InTag stack partial) b ≡ option_map (InTag stack) (text_step partial b)
in_tag stack (bytes, Outside) b n41 n44 = simp (ne_eqb b 44 n44)
in_tag stack (bytes, Percent) b n41 n44 = refl
in_tag stack (bytes, Digit) b n41 n44 = refl

in_value : (stack : List OpenGroup) (tag : List ℕ) (partial : List ℕ × Escape) (b : ℕ)
    → (b ≡ 41 → ⊥) → (b ≡ 44 → ⊥)
    → step (InValue stack tag partial) b ≡ option_map (InValue stack tag) (text_step partial b)
in_value stack tag (bytes, Outside) b n41 n44 = simp (ne_eqb b 41 n41)
in_value stack tag (bytes, Percent) b n41 n44 = refl
in_value stack tag (bytes, Digit) b n41 n44 = refl

in_pairs : (stack : List OpenGroup) (pairs : Pairs) (key : Option (List ℕ)) (partial : List ℕ × Escape) (b : ℕ) → (b ≡ 41 → ⊥) → (b ≡ 44 → ⊥) → step (InPairs stack pairs key partial) b ≡ option_map (InPairs stack pairs key) (text_step partial b)
in_pairs stack pairs key (bytes, Outside) b n41 n44 = simp (ne_eqb b 41 n41, ne_eqb b 44 n44)
in_pairs stack pairs key (bytes, Percent) b n41 n44 = refl
in_pairs stack pairs key (bytes, Digit) b n41 n44 = refl

reads_bare : (bare : Bare) (stack : List OpenGroup) → IsAt (Word stack []) (bare_text bare) stack (Plain bare)
reads_bare Test stack = record { state = Word stack (codes "test"); came = refl; at_end = refl }
reads_bare Container stack = record { state = Word stack (codes "container"); came = refl; at_end = refl }
reads_bare Engine stack = record { state = Word stack (codes "engine"); came = refl; at_end = refl }
reads_bare Started stack = record { state = Word stack (codes "started"); came = refl; at_end = refl }
reads_bare Succeeded stack = record { state = Word stack (codes "succeeded"); came = refl; at_end = refl }
reads_bare Failed stack = record { state = Word stack (codes "failed"); came = refl; at_end = refl }
reads_bare Aborted stack = record { state = Word stack (codes "aborted"); came = refl; at_end = refl }

reads_text_atom : (text_atom : TextAtom) (stack : List OpenGroup) → run step (Word stack []) (text_atom_text text_atom ++ 40 ∷ []) ≡ Some (InText stack text_atom ([], Outside))
reads_text_atom Id stack = refl
reads_text_atom Name stack = refl
reads_text_atom Skipped stack = refl
reads_text_atom FailedWith stack = refl
reads_text_atom AbortedWith stack = refl
reads_text_atom Message stack = refl
reads_text_atom File stack = refl

reads_kind : (kind : Kind) (stack : List OpenGroup) → run step (InKind stack []) (kind_text kind ++ 41 ∷ []) ≡ Some (After stack (OfKind kind))
reads_kind event.Dynamic stack = refl
reads_kind event.Skipped stack = refl
reads_kind event.Started stack = refl
reads_kind event.Finished stack = refl
reads_kind event.Reporting stack = refl
reads_kind event.File stack = refl

-- a tag and a value, up to the end of the value
reads_parts : (stack : List OpenGroup) (tag value : List ℕ)
    → run step (InTag stack ([], Outside)) (escaped tag ++ 44 ∷ escaped value)
    ≡ Some (InValue stack tag (value, Outside))
reads_parts stack tag value =
    run-append step (InTag stack ([], Outside)) (InTag stack (tag, Outside)) (escaped tag)
    (44 ∷ escaped value) (reads_text (InTag stack) (in_tag stack) [] tag)
    ∙ reads_text (InValue stack tag) (in_value stack tag) [] value

reads_segment : (stack : List OpenGroup) (tag value : List ℕ)
    → run step (InTag stack ([], Outside)) ((escaped tag ++ 44 ∷ escaped value) ++ 41 ∷ [])
    ≡ Some (After stack (HasSegment tag value))
reads_segment stack tag value =
    run_more step (InTag stack ([], Outside)) (InValue stack tag (value, Outside))
    (escaped tag ++ 44 ∷ escaped value) 41 (reads_parts stack tag value)

-- one pair, up to the end of its value
reads_pair : (stack : List OpenGroup) (pairs : Pairs) (key value : List ℕ) → run step (InPairs stack pairs None ([], Outside)) (escaped key ++ 44 ∷ escaped value) ≡ Some (InPairs stack pairs (Some key) (value, Outside))
reads_pair stack pairs key value =
    run-append step (InPairs stack pairs None ([], Outside)) (InPairs stack pairs None (key, Outside)) (escaped key) (44 ∷ escaped value)
    (reads_text (InPairs stack pairs None) (in_pairs stack pairs None) [] key)
    ∙ reads_text (InPairs stack pairs (Some key)) (in_pairs stack pairs (Some key)) [] value

reads_pairs_lead : (stack : List OpenGroup) (pairs : Pairs) → run step (InPairs stack NoPairs None ([], Outside)) (pairs_lead pairs) ≡ Some (InPairs stack pairs None ([], Outside))
reads_pairs_lead stack NoPairs = refl
reads_pairs_lead stack (MorePairs pairs key value) =
    let here = run-append step (InPairs stack NoPairs None ([], Outside)) (InPairs stack pairs None ([], Outside)) (pairs_lead pairs) (escaped key ++ 44 ∷ escaped value) (reads_pairs_lead stack pairs) ∙ reads_pair stack pairs key value in
    run_more step (InPairs stack NoPairs None ([], Outside)) (InPairs stack pairs (Some key) (value, Outside)) (pairs_lead pairs ++ (escaped key ++ 44 ∷ escaped value)) 44 here

reads_pairs : (stack : List OpenGroup) (pairs : Pairs) → run step (InPairs stack NoPairs None ([], Outside)) (pairs_text pairs ++ 41 ∷ []) ≡ Some (After stack (HasPairs pairs))
reads_pairs stack NoPairs = refl
reads_pairs stack (MorePairs pairs key value) =
    let here = run-append step (InPairs stack NoPairs None ([], Outside)) (InPairs stack pairs None ([], Outside)) (pairs_lead pairs) (escaped key ++ 44 ∷ escaped value) (reads_pairs_lead stack pairs) ∙ reads_pair stack pairs key value in
    run_more step (InPairs stack NoPairs None ([], Outside)) (InPairs stack pairs (Some key) (value, Outside)) (pairs_lead pairs ++ (escaped key ++ 44 ∷ escaped value)) 41 here

-- `name(TEXT)`
reads_with : (text_atom : TextAtom) (text : List ℕ) (stack : List OpenGroup) → run step (Word stack []) (cond_text (With text_atom text)) ≡ Some (After stack (With text_atom text))
reads_with text_atom text stack =
    let opening = text_atom_text text_atom ++ 40 ∷ [] in
    let inside = run-append step (Word stack []) (InText stack text_atom ([], Outside)) opening (escaped text) (reads_text_atom text_atom stack) ∙ reads_text (InText stack text_atom) (in_text stack text_atom) [] text in
    let whole = run_more step (Word stack []) (InText stack text_atom (text, Outside)) (opening ++ escaped text) 41 inside in
    ap (run step (Word stack [])) (ap (λ prefix. prefix ++ 41 ∷ []) (sym (append_assoc (text_atom_text text_atom) (40 ∷ []) (escaped text)))) ∙ whole

-- a delimiter after the end of a condition
closes : (s : State) (stack : List OpenGroup) (c : Cond) → ended s ≡ Some (stack, c) → step s 41 ≡ close stack c 41
closes (After stack' c') stack c e = let p = same_Some (stack', c') (stack, c) e in ap (λ q. close q.0 q.1 41) p
closes (Word stack' []) stack c e = cc
closes (Word stack' (x ∷ word)) stack c e =
    elim (look bares (x ∷ word)) as (λ o. option_map {U = List OpenGroup × Cond} (λ d. (stack', Plain d)) o ≡ Some (stack, c) → option_and_then (λ d. close stack' (Plain d) 41) o ≡ close stack c 41)
    [ None ↦ λ h. absurd (none-some (stack, c) h) | Some d ↦ λ h. ap (λ q. close q.0 q.1 41) (same_Some (stack', Plain d) (stack, c) h) ] e
closes (InText _ _ _) stack c e = absurd (none-some (stack, c) e)
closes (InKind _ _) stack c e = absurd (none-some (stack, c) e)
closes (InTag _ _) stack c e = absurd (none-some (stack, c) e)
closes (InValue _ _ _) stack c e = absurd (none-some (stack, c) e)
closes (InPairs _ _ _ _) stack c e = absurd (none-some (stack, c) e)

goes_on : (s : State) (stack : List OpenGroup) (c : Cond) → ended s ≡ Some (stack, c) → step s 44 ≡ close stack c 44
goes_on (After stack' c') stack c e = let p = same_Some (stack', c') (stack, c) e in ap (λ q. close q.0 q.1 44) p
goes_on (Word stack' []) stack c e = cc
goes_on (Word stack' (x ∷ word)) stack c e =
    elim (look bares (x ∷ word)) as (λ o. option_map {U = List OpenGroup × Cond} (λ d. (stack', Plain d)) o ≡ Some (stack, c) → option_and_then (λ d. close stack' (Plain d) 44) o ≡ close stack c 44)
    [ None ↦ λ h. absurd (none-some (stack, c) h) | Some d ↦ λ h. ap (λ q. close q.0 q.1 44) (same_Some (stack', Plain d) (stack, c) h) ] e
goes_on (InText _ _ _) stack c e = absurd (none-some (stack, c) e)
goes_on (InKind _ _) stack c e = absurd (none-some (stack, c) e)
goes_on (InTag _ _) stack c e = absurd (none-some (stack, c) e)
goes_on (InValue _ _ _) stack c e = absurd (none-some (stack, c) e)
goes_on (InPairs _ _ _ _) stack c e = absurd (none-some (stack, c) e)

-- `all(` or `any(`, as f around its members
module _ (f : Conds → OpenGroup) (g : Conds → Cond) (empty : (stack : List OpenGroup) → step (Word (f Nothing ∷ stack) []) 41 ≡ Some (After stack (g Nothing))) (closing : (cs : Conds) (c : Cond) (stack : List OpenGroup) → close (f cs ∷ stack) c 41 ≡ Some (After stack (g (More cs c)))) (going : (cs : Conds) (c : Cond) (stack : List OpenGroup) → close (f cs ∷ stack) c 44 ≡ Some (Word (f (More cs c) ∷ stack) [])) where
  with_last : (cs : Conds) (c : Cond) (stack : List OpenGroup) → run step (Word (f Nothing ∷ stack) []) (lead_text cs) ≡ Some (Word (f cs ∷ stack) []) → IsAt (Word (f cs ∷ stack) []) (cond_text c) (f cs ∷ stack) c → IsAt (Word (f Nothing ∷ stack) []) (lead_text cs ++ cond_text c) (f cs ∷ stack) c
  with_last cs c stack lead last =
      record {
        state = last.state;
        came = run-append step (Word (f Nothing ∷ stack) []) (Word (f cs ∷ stack) []) (lead_text cs) (cond_text c) lead ∙ last.came;
        at_end = last.at_end;
      }

  members_end : (cs : Conds) (c : Cond) (stack : List OpenGroup) → IsAt (Word (f Nothing ∷ stack) []) (lead_text cs ++ cond_text c) (f cs ∷ stack) c → run step (Word (f Nothing ∷ stack) []) ((lead_text cs ++ cond_text c) ++ 41 ∷ []) ≡ Some (After stack (g (More cs c)))
  members_end cs c stack inner = run_more step (Word (f Nothing ∷ stack) []) inner.state (lead_text cs ++ cond_text c) 41 inner.came ∙ closes inner.state (f cs ∷ stack) c inner.at_end ∙ closing cs c stack

  members_go : (cs : Conds) (c : Cond) (stack : List OpenGroup) → IsAt (Word (f Nothing ∷ stack) []) (lead_text cs ++ cond_text c) (f cs ∷ stack) c → run step (Word (f Nothing ∷ stack) []) ((lead_text cs ++ cond_text c) ++ 44 ∷ []) ≡ Some (Word (f (More cs c) ∷ stack) [])
  members_go cs c stack inner = run_more step (Word (f Nothing ∷ stack) []) inner.state (lead_text cs ++ cond_text c) 44 inner.came ∙ goes_on inner.state (f cs ∷ stack) c inner.at_end ∙ going cs c stack

mutual
  pub reads_cond : (c : Cond) (stack : List OpenGroup) → IsAt (Word stack []) (cond_text c) stack c
  reads_cond (Plain bare) stack = reads_bare bare stack
  reads_cond (With text_atom text) stack = record { state = After stack (With text_atom text); came = reads_with text_atom text stack; at_end = refl }
  reads_cond (OfKind kind) stack = record { state = After stack (OfKind kind); came = reads_kind kind stack; at_end = refl }
  reads_cond (HasSegment tag value) stack =
      record {
        state = After stack (HasSegment tag value);
        came = reads_segment stack tag value;
        at_end = refl;
      }
  reads_cond (HasPairs pairs) stack = record { state = After stack (HasPairs pairs); came = reads_pairs stack pairs; at_end = refl }
  reads_cond (All cs) stack = record { state = After stack (All cs); came = reads_all cs stack; at_end = refl }
  reads_cond (Any cs) stack = record { state = After stack (Any cs); came = reads_any cs stack; at_end = refl }
  reads_cond (Not c) stack =
      let inner = reads_cond c (OpenNot ∷ stack) in
      record {
        state = After stack (Not c);
        came = run_more step (Word (OpenNot ∷ stack) []) inner.state (cond_text c) 41 inner.came ∙ closes inner.state (OpenNot ∷ stack) c inner.at_end;
        at_end = refl;
      }

  reads_all : (cs : Conds) (stack : List OpenGroup) → run step (Word (OpenAll Nothing ∷ stack) []) (list_text cs ++ 41 ∷ []) ≡ Some (After stack (All cs))
  reads_all Nothing stack = refl
  reads_all (More cs c) stack = members_end OpenAll All (λ _. refl) (λ _ _ _. refl) (λ _ _ _. refl) cs c stack (with_last OpenAll All (λ _. refl) (λ _ _ _. refl) (λ _ _ _. refl) cs c stack (leads_all cs stack) (reads_cond c (OpenAll cs ∷ stack)))

  leads_all : (cs : Conds) (stack : List OpenGroup) → run step (Word (OpenAll Nothing ∷ stack) []) (lead_text cs) ≡ Some (Word (OpenAll cs ∷ stack) [])
  leads_all Nothing stack = refl
  leads_all (More cs c) stack = members_go OpenAll All (λ _. refl) (λ _ _ _. refl) (λ _ _ _. refl) cs c stack (with_last OpenAll All (λ _. refl) (λ _ _ _. refl) (λ _ _ _. refl) cs c stack (leads_all cs stack) (reads_cond c (OpenAll cs ∷ stack)))

  reads_any : (cs : Conds) (stack : List OpenGroup) → run step (Word (OpenAny Nothing ∷ stack) []) (list_text cs ++ 41 ∷ []) ≡ Some (After stack (Any cs))
  reads_any Nothing stack = refl
  reads_any (More cs c) stack = members_end OpenAny Any (λ _. refl) (λ _ _ _. refl) (λ _ _ _. refl) cs c stack (with_last OpenAny Any (λ _. refl) (λ _ _ _. refl) (λ _ _ _. refl) cs c stack (leads_any cs stack) (reads_cond c (OpenAny cs ∷ stack)))

  leads_any : (cs : Conds) (stack : List OpenGroup) → run step (Word (OpenAny Nothing ∷ stack) []) (lead_text cs) ≡ Some (Word (OpenAny cs ∷ stack) [])
  leads_any Nothing stack = refl
  leads_any (More cs c) stack = members_go OpenAny Any (λ _. refl) (λ _ _ _. refl) (λ _ _ _. refl) cs c stack (with_last OpenAny Any (λ _. refl) (λ _ _ _. refl) (λ _ _ _. refl) cs c stack (leads_any cs stack) (reads_cond c (OpenAny cs ∷ stack)))

-- no two conditions have one text
pub one_cond : (a b : Cond) → cond_text a ≡ cond_text b → a ≡ b
one_cond a b e =
    let first = reads_cond a [] in
    let second = reads_cond b [] in
    let same = same_Some first.state second.state (sym first.came ∙ ap (run step start) e ∙ second.came) in
    ap (λ p. p.1) (same_Some ([], a) ([], b) (sym first.at_end ∙ ap ended same ∙ second.at_end))
