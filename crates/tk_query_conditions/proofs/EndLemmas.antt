-- What the machine's end says of the text.
use Rattle.std.proofs.Common.{◌≡◌, ℕ, ◌+◌, ◌<◌, ◌≤◌, List, [], ◌∷◌, ◌++◌, length, take, get_or, Some, None, Ok, Err, refl, sym, ap, ◌∙◌, subst, arith, ⊎_elim}
use Rattle.std.specs.Prelude.{fold, count_by}
use Rattle.std.proofs.lemmas.List.{append-nil, take_more, take_all}
use Rattle.std.proofs.lemmas.Option.{same_Some, none-some}
use Rattle.std.proofs.lemmas.Bool.{cases_lt}
use Rattle.tk_query_conditions.specs.declared.conditions.Condition.{Condition}
use Rattle.tk_query_conditions.specs.Answer.{IsShallowTo, IsReadAs}
use Rattle.tk_query_conditions.specs.Brackets.{bracket_step, is_group, open_brackets}
use Rattle.tk_query_conditions.specs.Cond.{Cond, Plain, bare_text, cond_text, IsCondText}
use Rattle.tk_query_conditions.specs.CondOf.{cond_of}
use Rattle.tk_ids.specs.Machine.{run}
use Rattle.tk_ids.specs.Prefix.{Begins, IsLongestPrefix}
use Rattle.tk_query_conditions.specs.steps.Reading.{OpenGroup, State, Word, InText, InKind, InTag, InValue, InPairs, After, look, bares, step, start, ended}
use Rattle.tk_query_conditions.specs.declared.faults.TheConstants.{MAX_DEPTH}
use Rattle.tk_query_conditions.specs.declared.faults.CondFault.TheVariants.{BadAtom, Deep}
use Rattle.tk_query_conditions.proofs.CondLemmas.{reads_cond}
use Rattle.tk_query_conditions.proofs.Depth.{brackets, step_brackets}
use Rattle.tk_query_conditions.proofs.Prefixes.{look_entry, spelled_stack, spelled, IsSound, step_goes, step_sound, begins}
use Rattle.tk_ids.proofs.MachineLemmas.{run_more, longest_prefix}
use Rattle.tk_ids.proofs.ReadingLemmas.{option_map_some}

-- how many groups are open
abbrev pub height : State → ℕ
height s = count_by is_group (brackets s).0

-- the first n bytes are read, and led to s
pub record HasRead (text : List ℕ) (n : ℕ) (s : State) : Type 0 where
  pub within : n ≤ length text
  pub came : run step start (take n text) ≡ Some s
  pub spelled_so : spelled s ≡ take n text
  pub sound : IsSound s
  pub open_so : fold bracket_step ([], []) (take n text) ≡ brackets s
  pub shallow : IsShallowTo text n

reads : (text : List ℕ) → IsCondText text → (u : State) × (run step start text ≡ Some u)
reads text is = let r = reads_cond is.0 [] in (r.state, ap (run step start) is.1 ∙ r.came)

fold_more : (s : List (List ℕ) × List ℕ) (text : List ℕ) (b : ℕ) → fold bracket_step s (text ++ b ∷ []) ≡ bracket_step (fold bracket_step s text) b
fold_more s [] b = refl
fold_more s (x ∷ text) b = fold_more (bracket_step s x) text b

pub reads_none : (text : List ℕ) → HasRead text 0 start
reads_none text =
    record {
      within = omega arith;
      came = refl;
      spelled_so = refl;
      sound = refl;
      open_so = refl;
      shallow = λ m le. let e : m ≡ 0 = omega arith in subst (λ n. open_brackets (take n text) ≤ MAX_DEPTH) (sym e) (omega arith);
    }

module _ (text : List ℕ) (n : ℕ) (s t : State) (here : HasRead text n s) (more : n < length text) (goes : step s (get_or text n 0) ≡ Some t) where
  abbrev b : ℕ
  b = get_or text n 0

  longer : take (n + 1) text ≡ take n text ++ get_or text n 0 ∷ []
  longer = take_more text n 0 more

  open_more : fold bracket_step ([], []) (take (n + 1) text) ≡ brackets t
  open_more =
      ap (fold bracket_step ([], [])) longer ∙ fold_more ([], []) (take n text) (get_or text n 0)
      ∙ ap (λ x. bracket_step x (get_or text n 0)) here.open_so ∙ step_brackets s (get_or text n 0) t goes

  spelled_more : spelled t ≡ take (n + 1) text
  spelled_more = step_goes s (get_or text n 0) t goes ∙ ap (λ x. x ++ get_or text n 0 ∷ []) here.spelled_so ∙ sym longer

  open_is : open_brackets (take (n + 1) text) ≡ height t
  open_is = ap (λ p. count_by is_group p.0) open_more

  pub reads_more : height t ≤ MAX_DEPTH → HasRead text (n + 1) t
  reads_more low =
      record {
        within = omega arith;
        came = ap (run step start) longer ∙ run_more step start s (take n text) (get_or text n 0) here.came ∙ goes;
        spelled_so = spelled_more;
        sound = step_sound s (get_or text n 0) t goes;
        open_so = open_more;
        shallow = λ m le. ⊎_elim {C = open_brackets (take m text) ≤ MAX_DEPTH}
            (λ (below : m < n + 1). here.shallow m (omega arith))
            (λ (above : n + 1 ≤ m). let e : m ≡ n + 1 = omega arith in subst (λ k. open_brackets (take k text) ≤ MAX_DEPTH) (sym e) (subst (λ h. h ≤ MAX_DEPTH) (sym open_is) low))
            (cases_lt m (n + 1));
      }

  -- too many brackets are open after the next byte
  pub deep_here : MAX_DEPTH < height t → IsReadAs text (Err Deep)
  deep_here high = (
    n + 1,
    record {
      within = omega arith;
      begins = subst (Begins IsCondText) spelled_more (begins t (step_sound s (get_or text n 0) t goes));
      deep = subst (λ h. MAX_DEPTH < h) (sym open_is) high;
    },
  )

prefix_here : (text : List ℕ) (n : ℕ) (s : State) → HasRead text n s → (n < length text → step s (get_or text n 0) ≡ None) → IsLongestPrefix IsCondText text n
prefix_here text n s here stuck =
    longest_prefix step IsCondText start s reads text n here.within here.came (subst (Begins IsCondText) here.spelled_so (begins s here.sound)) stuck

-- there is no step for the next byte
pub bad_here : (text : List ℕ) (n : ℕ) (s : State) → HasRead text n s → n < length text → step s (get_or text n 0) ≡ None → IsReadAs text (Err (BadAtom n))
bad_here text n s here more stuck =
    let prefix = prefix_here text n s here (λ _. stuck) in
    record {
      no_condition = λ is.
          let whole : take (length text) text ≡ text = take_all (length text) text (omega arith) in
          let le = prefix.longest (length text) (omega arith) ([], subst IsCondText (sym (append-nil (take (length text) text) ∙ whole)) is) in
          omega arith;
      prefix = prefix;
      shallow = here.shallow;
    }

-- the text ends, and no condition with it
pub bad_at_end : (text : List ℕ) (s : State) → HasRead text (length text) s → ((c : Cond) → ended s ≡ Some ([], c) → ⊥) → IsReadAs text (Err (BadAtom (length text)))
bad_at_end text s here none =
    record {
      no_condition = λ is.
          let r = reads_cond is.0 [] in
          let whole : take (length text) text ≡ text = take_all (length text) text (omega arith) in
          let same = same_Some r.state s (sym r.came ∙ ap (run step start) (sym is.1 ∙ sym whole) ∙ here.came) in
          none is.0 (ap ended (sym same) ∙ r.at_end);
      prefix = prefix_here text (length text) s here (λ lt. absurd (omega arith));
      shallow = here.shallow;
    }

ended_spelled : (s : State) (stack : List OpenGroup) (c : Cond) → ended s ≡ Some (stack, c) → spelled s ≡ spelled_stack stack ++ cond_text c
ended_spelled (After stack' c') stack c e = let p = same_Some (stack', c') (stack, c) e in ap (λ q. spelled_stack q.0 ++ cond_text q.1) p
ended_spelled (Word stack' word) stack c e =
    let m = option_map_some (λ bare. (stack', Plain bare)) (look bares word) (stack, c) e in
    let is = look_entry (λ w a. w ≡ bare_text a) bares word m.0 (refl, (refl, (refl, (refl, (refl, (refl, (refl, tt))))))) m.1 in
    ap (λ w. spelled_stack stack' ++ w) is ∙ ap (λ q. spelled_stack q.0 ++ cond_text q.1) m.2
ended_spelled (InText _ _ _) stack c e = absurd (none-some (stack, c) e)
ended_spelled (InKind _ _) stack c e = absurd (none-some (stack, c) e)
ended_spelled (InTag _ _) stack c e = absurd (none-some (stack, c) e)
ended_spelled (InValue _ _ _) stack c e = absurd (none-some (stack, c) e)
ended_spelled (InPairs _ _ _ _) stack c e = absurd (none-some (stack, c) e)

-- the text ends with a condition
pub good_at_end : (text : List ℕ) (s : State) (c : Condition) → HasRead text (length text) s → ended s ≡ Some ([], cond_of c) → IsReadAs text (Ok c)
good_at_end text s c here e =
    let whole : take (length text) text ≡ text = take_all (length text) text (omega arith) in
    (sym whole ∙ sym here.spelled_so ∙ ended_spelled s [] (cond_of c) e, here.shallow)
