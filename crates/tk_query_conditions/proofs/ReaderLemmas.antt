-- The reader of the code beside the machine.
use Rattle.std.proofs.Common.{◌≡◌, ◌≢◌, ℕ, zero, suc, ◌+◌, ◌<◌, ◌≤◌, ◌⊎◌, Bool, true, false, List, [], ◌∷◌, ◌++◌, length, take, drop, map, get_or, Option, Some, None, Err, Result, IfOk, Vec, vec_len, Global, option_map, option_and_then, if◌then◌else◌, ◌==◌, ◌||◌, nat_eq, ◌&&◌, zero-add, refl, sym, ap, ◌∙◌, subst, arith, ⊎_elim}
use Rattle.std.specs.Prelude.{codes, bytes_eq, count_by}
use Rattle.std.specs.List.{starts_with}
use Rattle.std.proofs.lemmas.Option.{same_Some, none-some}
use Rattle.std.proofs.lemmas.Bool.{eqb-true, eqb-false, ne_eqb}
use Rattle.std.proofs.lemmas.List.{append-nil, append_assoc, drop_more, take-append-drop}
use Rattle.std.proofs.lemmas.List.Sums.{sum_by-cons}
use Rattle.tk_events.specs.declared.kinds.Kind.{Kind}
use Rattle.tk_query_conditions.specs.declared.conditions.Condition as real
use Rattle.tk_query_conditions.specs.declared.conditions.Condition.{Condition}
use Rattle.tk_query_conditions.specs.declared.open_groups.OpenGroup as group
use Rattle.tk_query_conditions.specs.declared.open_groups.OpenGroup.TheVariants as groups
use Rattle.tk_query_conditions.specs.Brackets.{is_group}
use Rattle.tk_query_conditions.specs.Cond.{Cond, Plain, With, OfKind, HasSegment, HasPairs, All, Any, Not, Conds, Nothing, More, Pairs, NoPairs, MorePairs, TextAtom, Id, Name, Skipped, FailedWith, AbortedWith, Message, File, text_atom_text, kind_text}
use Rattle.tk_query_conditions.specs.CondOf.{cond_of, pairs_from}
use Rattle.tk_query_conditions.specs.steps.Reader.{conds_from, group_of, groups_from, groups_of, depth_of, rest_of, state_at, state_of, ContinuesAsText, CanContinue}
use Rattle.tk_query_conditions.specs.Reading.{begins_with}
use Rattle.tk_query_conditions.specs.steps.Reading.{OpenGroup, OpenNot, OpenAll, OpenAny, State, Word, InText, InKind, InTag, InValue, InPairs, After, look, is_prefix, all_kinds, kinds, close, close_empty, closed, closed_empty, joined, Opener, OfText, OfKinds, OfSegment, OfPairs, OfAll, OfAny, OfNot, opened, after_word, bares, openers, special_of, text_step, ends_at, next_text, last_text, step, start, ended}
use Rattle.std.specs.Str.{IsUtf8}
use Rattle.std.specs.declared.alloc.AllocError.{AllocError}
use Rattle.tk_ids.proofs.ReadingLemmas.{option_map_some, utf8_after, utf8_before, utf8_swap}
use Rattle.tk_base.proofs.Lists.{nil_from_length}
use Rattle.tk_query_conditions.specs.declared.readers.Reader.{Reader}
use Rattle.tk_query_conditions.specs.declared.readers.Position.{Position}
use Rattle.tk_query_conditions.specs.declared.readers.Position.TheVariants as positions
use Rattle.tk_query_conditions.specs.declared.partial_texts.Escape.{Escape}
use Rattle.tk_query_conditions.specs.declared.partial_texts.Escape.TheVariants.{Outside, Percent, Digit}
use Rattle.tk_query_conditions.specs.declared.faults.TheConstants.{MAX_DEPTH}
use Rattle.tk_query_conditions.specs.declared.faults.CondFault.TheVariants.{Deep}
use Rattle.tk_query_conditions.specs.Answer.{IsReadAs}
use Rattle.tk_query_conditions.proofs.Depth.{words_of}
use Rattle.tk_query_conditions.proofs.Prefixes.{if_some, guarded}
use Rattle.tk_query_conditions.proofs.EndLemmas.{height, HasRead, reads_none, reads_more, deep_here}
use Rattle.tk_query_conditions.proofs.Members.{cond_of-All, cond_of-Any}

-- one more bracket
pub groups_push : (below : List OpenGroup) (stack : List group.OpenGroup) (f : group.OpenGroup) → groups_from below (stack ++ f ∷ []) ≡ group_of f ∷ groups_from below stack
groups_push below [] f = refl
groups_push below (g ∷ stack) f = groups_push (group_of g ∷ below) stack f

pub groups_length : (below : List OpenGroup) (stack : List group.OpenGroup) → length (groups_from below stack) ≡ length below + length stack
groups_length below [] = omega arith
groups_length below (g ∷ stack) = let h = groups_length (group_of g ∷ below) stack in omega arith

-- the last bracket, and the others
pub popped : (stack rest : List group.OpenGroup) (f : group.OpenGroup) → stack ≡ rest ++ f ∷ [] → groups_of stack ≡ group_of f ∷ groups_of rest
popped stack rest f e = ap groups_of e ∙ groups_push [] rest f

-- a delimiter after a condition, by what its bracket makes of it
pub close_group : (f : OpenGroup) (stack : List OpenGroup) (c : Cond) (b : ℕ) → close (f ∷ stack) c b ≡ (if b == 41 then Some (After stack (closed f c)) else (if b == 44 then option_map (λ g. Word (g ∷ stack) []) (joined f c) else None))
close_group OpenNot stack c b =
    elim (b == 44) as (λ t. (if b == 41 then Some (After stack (Not c)) else None) ≡ (if b == 41 then Some (After stack (Not c)) else (if t then None else None))) [ true ↦ refl | false ↦ refl ]
close_group (OpenAll cs) stack c b = refl
close_group (OpenAny cs) stack c b = refl

abbrev nothing : Option State
nothing = None

pub close_empty_group : (f : OpenGroup) (stack : List OpenGroup) (b : ℕ) → close_empty (f ∷ stack) b ≡ (if b == 41 then option_map (After stack) (closed_empty f) else None)
close_empty_group OpenNot stack b = elim (b == 41) as (λ t. nothing ≡ (if t then nothing else nothing)) [ true ↦ refl | false ↦ refl ]
close_empty_group (OpenAll Nothing) stack b = refl
close_empty_group (OpenAll (More cs c)) stack b = elim (b == 41) as (λ t. nothing ≡ (if t then nothing else nothing)) [ true ↦ refl | false ↦ refl ]
close_empty_group (OpenAny Nothing) stack b = refl
close_empty_group (OpenAny (More cs c)) stack b = elim (b == 41) as (λ t. nothing ≡ (if t then nothing else nothing)) [ true ↦ refl | false ↦ refl ]

pub conds_some : (cs : Conds) (c : Cond) (rest : List Condition) → (ds : Conds) × (d : Cond) × (conds_from (More cs c) rest ≡ More ds d)
conds_some cs c [] = (cs, c, refl)
conds_some cs c (m ∷ rest) = conds_some (More cs c) (cond_of m) rest

-- a vector that is empty, and one that isn't
pub no_items : (members : Vec Condition Global) (b : Bool) → b ≡ (vec_len members == 0) → b ≡ true → members.items ≡ []
no_items members b is e = let zero_len : vec_len members ≡ 0 = eqb-true (vec_len members) 0 (sym is ∙ e) in nil_from_length members.items (omega (arith, members.ok.0))

pub some_items : (members : Vec Condition Global) (b : Bool) → b ≡ (vec_len members == 0) → b ≡ false → 0 < length members.items
some_items members b is e = let ne = eqb-false (vec_len members) 0 (sym is ∙ e) in omega (arith, members.ok.0)

-- a bracket that has no member
pub empty_All : (members : Vec Condition Global) → members.items ≡ [] → option_map cond_of (Some (real.All members)) ≡ closed_empty (group_of (groups.All members))
empty_All members e = ap (λ c. Some c) (cond_of-All members ∙ ap (λ xs. All (conds_from Nothing xs)) e) ∙ ap (λ xs. closed_empty (OpenAll (conds_from Nothing xs))) (sym e)

pub empty_Any : (members : Vec Condition Global) → members.items ≡ [] → option_map cond_of (Some (real.Any members)) ≡ closed_empty (group_of (groups.Any members))
empty_Any members e = ap (λ c. Some c) (cond_of-Any members ∙ ap (λ xs. Any (conds_from Nothing xs)) e) ∙ ap (λ xs. closed_empty (OpenAny (conds_from Nothing xs))) (sym e)

-- a bracket that has some
pub some_All : (xs : List Condition) → 0 < length xs → closed_empty (OpenAll (conds_from Nothing xs)) ≡ None
some_All [] lt = absurd (omega arith)
some_All (x ∷ xs) lt = let r = conds_some Nothing (cond_of x) xs in ap (λ cs. closed_empty (OpenAll cs)) r.2

pub some_Any : (xs : List Condition) → 0 < length xs → closed_empty (OpenAny (conds_from Nothing xs)) ≡ None
some_Any [] lt = absurd (omega arith)
some_Any (x ∷ xs) lt = let r = conds_some Nothing (cond_of x) xs in ap (λ cs. closed_empty (OpenAny cs)) r.2

-- one more pair
pub pairs_push : (pairs : Pairs) (rest : List (List ℕ × List ℕ)) (key value : List ℕ) → pairs_from pairs (rest ++ (key, value) ∷ []) ≡ MorePairs (pairs_from pairs rest) key value
pairs_push pairs [] key value = refl
pairs_push pairs (p ∷ rest) key value = pairs_push (MorePairs pairs p.0 p.1) rest key value

pub pairs_some : (pairs : Pairs) (key value : List ℕ) (rest : List (List ℕ × List ℕ)) → (qs : Pairs) × (k : List ℕ) × (v : List ℕ) × (pairs_from (MorePairs pairs key value) rest ≡ MorePairs qs k v)
pairs_some pairs key value [] = (pairs, key, value, refl)
pairs_some pairs key value (p ∷ rest) = pairs_some (MorePairs pairs key value) p.0 p.1 rest

-- how many groups are open
count_more : (n : ℕ) (word : List ℕ) (words : List (List ℕ)) → count_by is_group (word ∷ words) ≡ (if is_group word then 1 else 0) + count_by is_group words
count_more n word words = sum_by-cons _ word words

stack_height : (stack : List OpenGroup) → count_by is_group (words_of stack) ≡ length stack
stack_height [] = refl
stack_height (OpenNot ∷ stack) = let h = stack_height stack in count_more 0 (codes "not") (words_of stack) ∙ (omega arith)
stack_height (OpenAll cs ∷ stack) = let h = stack_height stack in count_more 0 (codes "all") (words_of stack) ∙ (omega arith)
stack_height (OpenAny cs ∷ stack) = let h = stack_height stack in count_more 0 (codes "any") (words_of stack) ∙ (omega arith)

no_group : (text_atom : TextAtom) → is_group (text_atom_text text_atom) ≡ false
no_group Id = refl
no_group Name = refl
no_group Skipped = refl
no_group FailedWith = refl
no_group AbortedWith = refl
no_group Message = refl
no_group File = refl

pub height_is : (s : State) → height s ≡ depth_of s
height_is (Word stack word) = stack_height stack
height_is (InText stack text_atom partial) =
    count_more 0 (text_atom_text text_atom) (words_of stack) ∙ ap (λ b. (if b then 1 else 0) + count_by is_group (words_of stack)) (no_group text_atom) ∙ zero-add (count_by is_group (words_of stack)) ∙ stack_height stack
height_is (InKind stack word) = stack_height stack
height_is (InTag stack partial) = stack_height stack
height_is (InValue stack tag partial) = stack_height stack
height_is (InPairs stack pairs key partial) = stack_height stack
height_is (After stack c) = stack_height stack

-- one text begins with another
pub begins_is : (word text : List ℕ) → begins_with word text ≡ starts_with nat_eq text word
begins_is [] text = refl
begins_is (b ∷ word) [] = refl
begins_is (b ∷ word) (c ∷ text) = elim (b == c) as (λ t. (t && begins_with word text) ≡ (t && starts_with nat_eq text word)) [ true ↦ begins_is word text | false ↦ refl ]

-- how deep the reader is
pub depth_at : (stack : List OpenGroup) (position : Position) → depth_of (state_at stack position) ≡ length stack
depth_at stack (positions.Word word) = refl
depth_at stack (positions.Text text_atom partial) = refl
depth_at stack (positions.Kind word) = refl
depth_at stack (positions.Tag partial) = refl
depth_at stack (positions.Value tag partial) = refl
depth_at stack (positions.Pairs pairs) = refl
depth_at stack (positions.After c) = refl

pub depth_is : (stack : List group.OpenGroup) (position : Position) → depth_of (state_at (groups_of stack) position) ≡ length stack
depth_is stack position = depth_at (groups_of stack) position ∙ groups_length [] stack ∙ zero-add (length stack)

-- a condition has ended, and no bracket is open
pub ended_depth : (s : State) (c : Cond) → ended s ≡ Some ([], c) → depth_of s ≡ 0
ended_depth (Word stack word) c e = let m = option_map_some (λ bare. (stack, Plain bare)) (look bares word) ([], c) e in ap (λ q. length q.0) m.2
ended_depth (After stack d) c e = ap (λ q. length q.0) (same_Some (stack, d) ([], c) e)
ended_depth (InText stack text_atom partial) c e = absurd (none-some ([], c) e)
ended_depth (InKind stack word) c e = absurd (none-some ([], c) e)
ended_depth (InTag stack partial) c e = absurd (none-some ([], c) e)
ended_depth (InValue stack tag partial) c e = absurd (none-some ([], c) e)
ended_depth (InPairs stack pairs key partial) c e = absurd (none-some ([], c) e)

-- a row of the table of kinds that isn't the word's
look_drop : (list : List Kind) (word : List ℕ) (i : ℕ) (d : Kind) → i < length list → bytes_eq word (kind_text (get_or list i d)) ≡ false → look (drop i (map (λ kind. (kind_text kind, kind)) list)) word ≡ look (drop (suc i) (map (λ kind. (kind_text kind, kind)) list)) word
look_drop [] word i d lt e = absurd (omega arith)
look_drop (k ∷ list) word zero d lt e = ap (λ b. if b then Some k else look (map (λ kind. (kind_text kind, kind)) list) word) e
look_drop (k ∷ list) word (suc i) d lt e = look_drop list word i d (omega arith) e

pub look_next : (word : List ℕ) (i : ℕ) (d : Kind) → i < length all_kinds → bytes_eq word (kind_text (get_or all_kinds i d)) ≡ false → look (drop i kinds) word ≡ look (drop (i + 1) kinds) word
look_next word i d lt e = let same : suc i ≡ i + 1 = omega arith in look_drop all_kinds word i d lt e ∙ ap (λ n. look (drop n kinds) word) same

-- no whole pair, and a text or pairs before it
pub last_none : (stack : List OpenGroup) (pairs : List (List ℕ × List ℕ)) (key : Option (List ℕ)) (text : List ℕ) → key ≡ None → (0 < length pairs) ⊎ (0 < length text) → last_text stack (pairs_from NoPairs pairs) key text ≡ None
last_none stack (p ∷ pairs) key text none some = let r = pairs_some NoPairs p.0 p.1 pairs in ap (λ k. last_text stack (pairs_from NoPairs (p ∷ pairs)) k text) none ∙ ap (λ ps. last_text stack ps None text) r.3
last_none stack [] key [] none some = ⊎_elim {C = last_text stack NoPairs key [] ≡ None} (λ (lt : 0 < 0). absurd (omega arith)) (λ (lt : 0 < 0). absurd (omega arith)) some
last_none stack [] key (x ∷ text) none some = ap (λ k. last_text stack NoPairs k (x ∷ text)) none

pub not_empty : {A : Type 0} (xs : List A) (b : Bool) → b ≡ (length xs == 0) → b ≡ false → 0 < length xs
not_empty xs b is e = let ne = eqb-false (length xs) 0 (sym is ∙ e) in omega arith

-- A step of the machine, by what the reader finds.

-- the machine's step is the one that a call makes
pub step_made : (r : Result (Option Reader) AllocError) (s t : Option State) → s ≡ t → IfOk r (λ next. t ≡ option_map state_of next) → IfOk r (λ next. s ≡ option_map state_of next)
step_made r s t e h = subst (λ o. IfOk r (λ next. o ≡ option_map state_of next)) (sym e) h

-- a word ends at `)` or `,`
pub word_ends : (stack : List OpenGroup) (word : List ℕ) (b : ℕ) → (b ≡ 41) ⊎ (b ≡ 44) → step (Word stack word) b ≡ after_word stack word b
word_ends stack word b is = ⊎_elim (λ e. rw e refl) (λ e. rw e refl) is

-- opens what it names at `(`
pub word_opens : (stack : List OpenGroup) (word : List ℕ) (b : ℕ) → b ≡ 40 → step (Word stack word) b ≡ option_map (opened stack) (look openers word)
word_opens stack word b is = rw is refl

-- and goes on at another byte, as far as a word begins so
pub word_goes : (stack : List OpenGroup) (word longer : List ℕ) (b : ℕ) (begins : Bool) → b ≢ 41 → b ≢ 44 → b ≢ 40 → longer ≡ word ++ b ∷ [] → begins ≡ (is_prefix bares longer || is_prefix openers longer)
    → step (Word stack word) b ≡ (if begins then Some (Word stack longer) else None)
word_goes stack word longer b begins not41 not44 not40 e is =
    let goes : step (Word stack word) b ≡ (if is_prefix bares (word ++ b ∷ []) || is_prefix openers (word ++ b ∷ []) then Some (Word stack (word ++ b ∷ [])) else None) =
    simp (ne_eqb b 41 not41, ne_eqb b 44 not44, ne_eqb b 40 not40) in
    goes ∙ ap (λ w. if is_prefix bares w || is_prefix openers w then Some (Word stack w) else None) (sym e) ∙ ap (λ t. if t then Some (Word stack longer) else None) (sym is)

-- nothing stands before the delimiter
pub after_nothing : (stack : List OpenGroup) (word : List ℕ) (b : ℕ) (empty : Bool) → empty ≡ (length word == 0) → empty ≡ true → after_word stack word b ≡ close_empty stack b
after_nothing stack word b empty is e = ap (λ w. after_word stack w b) (nil_from_length word (eqb-true (length word) 0 (sym is ∙ e)))

after_some : (stack : List OpenGroup) (word : List ℕ) (b : ℕ) → 0 < length word → after_word stack word b ≡ option_and_then (λ bare. close stack (Plain bare) b) (look bares word)
after_some stack [] b lt = absurd (omega arith)
after_some stack (x ∷ word) b lt = refl

-- an atom of one word does, or something that is none
pub after_atom : (stack : List OpenGroup) (word : List ℕ) (b : ℕ) (c : Option Cond) → 0 < length word → c ≡ option_map Plain (look bares word) → after_word stack word b ≡ option_and_then (λ d. close stack d b) c
after_atom stack word b c lt e =
    after_some stack word b lt
    ∙ elim (look bares word) as (λ o. option_and_then (λ bare. close stack (Plain bare) b) o ≡ option_and_then (λ d. close stack d b) (option_map Plain o)) [ None ↦ refl | Some bare ↦ refl ]
    ∙ ap (option_and_then (λ d. close stack d b)) (sym e)

-- a text in pairs ends at a comma
pub pairs_comma : (stack : List OpenGroup) (pairs : Pairs) (key : Option (List ℕ)) (partial : List ℕ × Escape) (b : ℕ) (text : List ℕ) → ends_at 44 partial b ≡ true → text ≡ partial.0
    → step (InPairs stack pairs key partial) b ≡ Some (next_text stack pairs key text)
pairs_comma stack pairs key partial b text comma is = rw comma (ap (λ t. Some (next_text stack pairs key t)) (sym is))

-- or at a bracket
pub pairs_close : (stack : List OpenGroup) (pairs : Pairs) (key : Option (List ℕ)) (partial : List ℕ × Escape) (b : ℕ) (text : List ℕ) → ends_at 44 partial b ≡ false → ends_at 41 partial b ≡ true → text ≡ partial.0
    → step (InPairs stack pairs key partial) b ≡ last_text stack pairs key text
pairs_close stack pairs key partial b text comma bracket is = rw (comma, bracket) (ap (last_text stack pairs key) (sym is))

-- or goes on
pub pairs_go : (stack : List OpenGroup) (pairs : Pairs) (key : Option (List ℕ)) (partial : List ℕ × Escape) (b : ℕ) (next : Option (List ℕ × Escape)) → ends_at 44 partial b ≡ false → ends_at 41 partial b ≡ false
    → text_step partial b ≡ next → step (InPairs stack pairs key partial) b ≡ option_map (InPairs stack pairs key) next
pairs_go stack pairs key partial b next comma bracket is = rw (comma, bracket) (ap (option_map (InPairs stack pairs key)) is)

-- A text is read: it is UTF-8 with what follows it.

special_ascii : (b c : ℕ) → special_of b ≡ Some c → (b < 128) × (c < 128)
special_ascii b c e = ⊎_elim {C = (b < 128) × (c < 128)}
    (λ (h : ((b == 53) ≡ true) × (Some 37 ≡ Some c)). small 53 37 b c (eqb-true b 53 h.0) (same_Some 37 c h.1) (omega arith) (omega arith))
    (λ (h : ((b == 53) ≡ false) × ((if b == 56 then Some 40 else (if b == 57 then Some 41 else (if b == 67 then Some 44 else None))) ≡ Some c)). ⊎_elim {C = (b < 128) × (c < 128)}
    (λ (h : ((b == 56) ≡ true) × (Some 40 ≡ Some c)). small 56 40 b c (eqb-true b 56 h.0) (same_Some 40 c h.1) (omega arith) (omega arith))
    (λ (h : ((b == 56) ≡ false) × ((if b == 57 then Some 41 else (if b == 67 then Some 44 else None)) ≡ Some c)). ⊎_elim {C = (b < 128) × (c < 128)}
    (λ (h : ((b == 57) ≡ true) × (Some 41 ≡ Some c)). small 57 41 b c (eqb-true b 57 h.0) (same_Some 41 c h.1) (omega arith) (omega arith))
    (λ (h : ((b == 57) ≡ false) × ((if b == 67 then Some 44 else None) ≡ Some c)). let g = guarded (b == 67) (Some 44) c h.1 in small 67 44 b c (eqb-true b 67 g.0) (same_Some 44 c g.1) (omega arith) (omega arith))
    (if_some (b == 57) (Some 41) (if b == 67 then Some 44 else None) c h.1))
    (if_some (b == 56) (Some 40) (if b == 57 then Some 41 else (if b == 67 then Some 44 else None)) c h.1))
    (if_some (b == 53) (Some 37) (if b == 56 then Some 40 else (if b == 57 then Some 41 else (if b == 67 then Some 44 else None))) c e)
  where
    small : (x y b c : ℕ) → b ≡ x → y ≡ c → x < 128 → y < 128 → (b < 128) × (c < 128)
    small x y b c e f lx ly = (omega arith, omega arith)

abbrev pub KeepsPart : List ℕ × Escape → List ℕ → Type 0
KeepsPart partial rest = IsUtf8 ((partial.0 ++ rest_of partial.1) ++ rest)

-- one byte more of a text
part_keeps : (p q : List ℕ × Escape) (b : ℕ) (rest : List ℕ) → KeepsPart p (b ∷ rest) → text_step p b ≡ Some q → KeepsPart q rest
part_keeps (bytes, Outside) q b rest u e =
    let v : IsUtf8 (bytes ++ b ∷ rest) = subst (λ l. IsUtf8 (l ++ b ∷ rest)) (append-nil bytes) u in
    ⊎_elim {C = KeepsPart q rest}
    (λ (h : ((b == 37) ≡ true) × (Some (bytes, Percent) ≡ Some q)).
    subst (λ r. KeepsPart r rest) (same_Some (bytes, Percent) q h.1)
    (subst (λ n. IsUtf8 ((bytes ++ n ∷ []) ++ rest)) (eqb-true b 37 h.0) (subst IsUtf8 (sym (append_assoc bytes (b ∷ []) rest)) v)))
    (λ (h : ((b == 37) ≡ false) × ((if b == 40 || (b == 41 || b == 44) then None else Some (bytes ++ b ∷ [], Outside)) ≡ Some q)).
    ⊎_elim {C = KeepsPart q rest}
    (λ (g : ((b == 40 || (b == 41 || b == 44)) ≡ true) × (None ≡ Some q)). absurd (none-some q g.1))
    (λ (g : ((b == 40 || (b == 41 || b == 44)) ≡ false) × (Some (bytes ++ b ∷ [], Outside) ≡ Some q)).
    subst (λ r. KeepsPart r rest) (same_Some (bytes ++ b ∷ [], Outside) q g.1)
    (subst (λ l. IsUtf8 (l ++ rest)) (sym (append-nil (bytes ++ b ∷ []))) (subst IsUtf8 (sym (append_assoc bytes (b ∷ []) rest)) v)))
    (if_some (b == 40 || (b == 41 || b == 44)) None (Some (bytes ++ b ∷ [], Outside)) q h.1))
    (if_some (b == 37) (Some (bytes, Percent)) (if b == 40 || (b == 41 || b == 44) then None else Some (bytes ++ b ∷ [], Outside)) q e)
part_keeps (bytes, Percent) q b rest u e =
    let g = guarded (b == 50) (Some (bytes, Digit)) q e in
    subst (λ r. KeepsPart r rest) (same_Some (bytes, Digit) q g.1)
    (subst (λ n. IsUtf8 ((bytes ++ 37 ∷ n ∷ []) ++ rest)) (eqb-true b 50 g.0) (subst IsUtf8 (append_assoc bytes (37 ∷ []) (b ∷ rest) ∙ sym (append_assoc bytes (37 ∷ b ∷ []) rest)) u))
part_keeps (bytes, Digit) q b rest u e =
    let m = option_map_some (λ c. (bytes ++ c ∷ [], Outside)) (special_of b) q e in
    let small = special_ascii b m.0 m.1 in
    subst (λ r. KeepsPart r rest) m.2
    (subst (λ l. IsUtf8 (l ++ rest)) (sym (append-nil (bytes ++ m.0 ∷ []))) (utf8_swap bytes (50 ∷ []) rest 37 b m.0 u (omega arith) small.0 small.1))

-- a text that ends here is text
pub ended_part : (p : List ℕ × Escape) (stop b : ℕ) → stop < 128 → ends_at stop p b ≡ true → ContinuesAsText p b → IsUtf8 p.0
ended_part (bytes, Outside) stop b lt e u =
    utf8_before bytes u.0 stop (subst (λ l. IsUtf8 (l ++ stop ∷ u.0)) (append-nil bytes) (subst (λ n. IsUtf8 ((bytes ++ []) ++ n ∷ u.0)) (eqb-true b stop e) u.1)) lt
ended_part (bytes, Percent) stop b lt e u = cc
ended_part (bytes, Digit) stop b lt e u = cc

-- the text that a state is in, and what follows
abbrev pub Keeps : State → List ℕ → Type 0
Keeps (InText stack text_atom partial) rest = KeepsPart partial rest
Keeps (InTag stack partial) rest = KeepsPart partial rest
Keeps (InValue stack tag partial) rest = KeepsPart partial rest
Keeps (InPairs stack pairs key partial) rest = KeepsPart partial rest
Keeps (Word stack word) rest = Unit {0}
Keeps (InKind stack word) rest = Unit {0}
Keeps (After stack c) rest = Unit {0}

close_keeps : (stack : List OpenGroup) (c : Cond) (b : ℕ) (t : State) (rest : List ℕ) → close stack c b ≡ Some t → Keeps t rest
close_keeps [] c b t rest e = absurd (none-some t e)
close_keeps (f ∷ stack) c b t rest e = ⊎_elim {C = Keeps t rest}
    (λ (h : ((b == 41) ≡ true) × (Some (After stack (closed f c)) ≡ Some t)). subst (λ s. Keeps s rest) (same_Some (After stack (closed f c)) t h.1) tt)
    (λ (h : ((b == 41) ≡ false) × ((if b == 44 then option_map (λ g. Word (g ∷ stack) []) (joined f c) else None) ≡ Some t)).
    let g = guarded (b == 44) (option_map (λ g. Word (g ∷ stack) []) (joined f c)) t h.1 in
    let m = option_map_some (λ g. Word (g ∷ stack) []) (joined f c) t g.1 in
    subst (λ s. Keeps s rest) m.2 tt)
    (if_some (b == 41) (Some (After stack (closed f c))) (if b == 44 then option_map (λ g. Word (g ∷ stack) []) (joined f c) else None) t (sym (close_group f stack c b) ∙ e))

close_empty_keeps : (stack : List OpenGroup) (b : ℕ) (t : State) (rest : List ℕ) → close_empty stack b ≡ Some t → Keeps t rest
close_empty_keeps [] b t rest e = absurd (none-some t e)
close_empty_keeps (f ∷ stack) b t rest e =
    let g = guarded (b == 41) (option_map (After stack) (closed_empty f)) t (sym (close_empty_group f stack b) ∙ e) in
    let m = option_map_some (After stack) (closed_empty f) t g.1 in
    subst (λ s. Keeps s rest) m.2 tt

after_keeps : (stack : List OpenGroup) (word : List ℕ) (b : ℕ) (t : State) (rest : List ℕ) → after_word stack word b ≡ Some t → Keeps t rest
after_keeps stack [] b t rest e = close_empty_keeps stack b t rest e
after_keeps stack (x ∷ word) b t rest e =
    elim (look bares (x ∷ word)) as (λ o. option_and_then (λ bare. close stack (Plain bare) b) o ≡ Some t → Keeps t rest)
    [ None ↦ λ h. absurd (none-some t h) | Some bare ↦ λ h. close_keeps stack (Plain bare) b t rest h ] e

opened_keeps : (stack : List OpenGroup) (o : Opener) (rest : List ℕ) → IsUtf8 rest → Keeps (opened stack o) rest
opened_keeps stack (OfText text_atom) rest u = u
opened_keeps stack OfKinds rest u = tt
opened_keeps stack OfSegment rest u = u
opened_keeps stack OfPairs rest u = u
opened_keeps stack OfAll rest u = tt
opened_keeps stack OfAny rest u = tt
opened_keeps stack OfNot rest u = tt

next_keeps : (stack : List OpenGroup) (pairs : Pairs) (key : Option (List ℕ)) (text rest : List ℕ) → IsUtf8 rest → Keeps (next_text stack pairs key text) rest
next_keeps stack pairs None text rest u = u
next_keeps stack pairs (Some key) text rest u = u

last_keeps : (stack : List OpenGroup) (pairs : Pairs) (key : Option (List ℕ)) (text rest : List ℕ) (t : State) → last_text stack pairs key text ≡ Some t → Keeps t rest
last_keeps stack pairs (Some key) text rest t e = subst (λ s. Keeps s rest) (same_Some (After stack (HasPairs (MorePairs pairs key text))) t e) tt
last_keeps stack NoPairs None [] rest t e = subst (λ s. Keeps s rest) (same_Some (After stack (HasPairs NoPairs)) t e) tt
last_keeps stack NoPairs None (x ∷ text) rest t e = absurd (none-some t e)
last_keeps stack (MorePairs pairs k v) None text rest t e = absurd (none-some t e)

mapped_keeps : (k : List ℕ × Escape → State) → ((partial : List ℕ × Escape) (rest : List ℕ) → KeepsPart partial rest → Keeps (k partial) rest) → (p : List ℕ × Escape) (b : ℕ) (t : State) (rest : List ℕ) → KeepsPart p (b ∷ rest) → option_map k (text_step p b) ≡ Some t → Keeps t rest
mapped_keeps k all p b t rest u e =
    let m = option_map_some k (text_step p b) t e in
    subst (λ s. Keeps s rest) m.2 (all m.0 rest (part_keeps p m.0 b rest u m.1))

-- a byte that ends a text is below 128
stop_ascii : (p : List ℕ × Escape) (b stop : ℕ) → stop < 128 → ends_at stop p b ≡ true → b < 128
stop_ascii (bytes, Outside) b stop lt e = let at = eqb-true b stop e in omega arith
stop_ascii (bytes, Percent) b stop lt e = cc
stop_ascii (bytes, Digit) b stop lt e = cc

-- one more step, one more byte
pub step_keeps : (s : State) (b : ℕ) (t : State) (rest : List ℕ) → (b < 128 → IsUtf8 rest) → Keeps s (b ∷ rest) → step s b ≡ Some t → Keeps t rest
step_keeps (After stack c) b t rest after u e = close_keeps stack c b t rest e
step_keeps (Word stack word) b t rest after u e = ⊎_elim {C = Keeps t rest}
    (λ (h : ((b == 41 || b == 44) ≡ true) × (after_word stack word b ≡ Some t)). after_keeps stack word b t rest h.1)
    (λ (h : ((b == 41 || b == 44) ≡ false) × ((if b == 40 then option_map (opened stack) (look openers word) else (if is_prefix bares (word ++ b ∷ []) || is_prefix openers (word ++ b ∷ []) then Some (Word stack (word ++ b ∷ [])) else None)) ≡ Some t)).
    ⊎_elim {C = Keeps t rest}
    (λ (g : ((b == 40) ≡ true) × (option_map (opened stack) (look openers word) ≡ Some t)).
    let m = option_map_some (opened stack) (look openers word) t g.1 in
    let at = eqb-true b 40 g.0 in
    subst (λ s. Keeps s rest) m.2 (opened_keeps stack m.0 rest (after (omega arith))))
    (λ (g : ((b == 40) ≡ false) × ((if is_prefix bares (word ++ b ∷ []) || is_prefix openers (word ++ b ∷ []) then Some (Word stack (word ++ b ∷ [])) else None) ≡ Some t)).
    let w = guarded (is_prefix bares (word ++ b ∷ []) || is_prefix openers (word ++ b ∷ [])) (Some (Word stack (word ++ b ∷ []))) t g.1 in
    subst (λ s. Keeps s rest) (same_Some (Word stack (word ++ b ∷ [])) t w.1) tt)
    (if_some (b == 40) (option_map (opened stack) (look openers word)) (if is_prefix bares (word ++ b ∷ []) || is_prefix openers (word ++ b ∷ []) then Some (Word stack (word ++ b ∷ [])) else None) t h.1))
    (if_some (b == 41 || b == 44) (after_word stack word b) (if b == 40 then option_map (opened stack) (look openers word) else (if is_prefix bares (word ++ b ∷ []) || is_prefix openers (word ++ b ∷ []) then Some (Word stack (word ++ b ∷ [])) else None)) t e)
step_keeps (InText stack text_atom partial) b t rest after u e = ⊎_elim {C = Keeps t rest}
    (λ (h : (ends_at 41 partial b ≡ true) × (Some (After stack (With text_atom partial.0)) ≡ Some t)). subst (λ s. Keeps s rest) (same_Some (After stack (With text_atom partial.0)) t h.1) tt)
    (λ (h : (ends_at 41 partial b ≡ false) × (option_map (InText stack text_atom) (text_step partial b) ≡ Some t)). mapped_keeps (InText stack text_atom) (λ p r v. v) partial b t rest u h.1)
    (if_some (ends_at 41 partial b) (Some (After stack (With text_atom partial.0))) (option_map (InText stack text_atom) (text_step partial b)) t e)
step_keeps (InKind stack word) b t rest after u e = ⊎_elim {C = Keeps t rest}
    (λ (h : ((b == 41) ≡ true) × (option_map (λ kind. After stack (OfKind kind)) (look kinds word) ≡ Some t)).
    let m = option_map_some (λ kind. After stack (OfKind kind)) (look kinds word) t h.1 in subst (λ s. Keeps s rest) m.2 tt)
    (λ (h : ((b == 41) ≡ false) × ((if is_prefix kinds (word ++ b ∷ []) then Some (InKind stack (word ++ b ∷ [])) else None) ≡ Some t)).
    let w = guarded (is_prefix kinds (word ++ b ∷ [])) (Some (InKind stack (word ++ b ∷ []))) t h.1 in
    subst (λ s. Keeps s rest) (same_Some (InKind stack (word ++ b ∷ [])) t w.1) tt)
    (if_some (b == 41) (option_map (λ kind. After stack (OfKind kind)) (look kinds word)) (if is_prefix kinds (word ++ b ∷ []) then Some (InKind stack (word ++ b ∷ [])) else None) t e)
step_keeps (InTag stack partial) b t rest after u e = ⊎_elim {C = Keeps t rest}
    (λ (h : (ends_at 44 partial b ≡ true)
    × (Some (InValue stack partial.0 ([], Outside)) ≡ Some t)).
    subst (λ s. Keeps s rest) (same_Some (InValue stack partial.0 ([], Outside)) t h.1)
    (after (stop_ascii partial b 44 (omega arith) h.0)))
    (λ (h : (ends_at 44 partial b ≡ false)
    × (option_map (InTag stack) (text_step partial b) ≡ Some t)).
    mapped_keeps (InTag stack) (λ p r v. v) partial b t rest u h.1)
    (if_some (ends_at 44 partial b) (Some (InValue stack partial.0 ([], Outside)))
    (option_map (InTag stack) (text_step partial b)) t e)
step_keeps (InValue stack tag partial) b t rest after u e = ⊎_elim {C = Keeps t rest}
    (λ (h : (ends_at 41 partial b ≡ true)
    × (Some (After stack (HasSegment tag partial.0)) ≡ Some t)).
    subst (λ s. Keeps s rest) (same_Some (After stack (HasSegment tag partial.0)) t h.1) tt)
    (λ (h : (ends_at 41 partial b ≡ false)
    × (option_map (InValue stack tag) (text_step partial b) ≡ Some t)).
    mapped_keeps (InValue stack tag) (λ p r v. v) partial b t rest u h.1)
    (if_some (ends_at 41 partial b) (Some (After stack (HasSegment tag partial.0)))
    (option_map (InValue stack tag) (text_step partial b)) t e)
step_keeps (InPairs stack pairs key partial) b t rest after u e = ⊎_elim {C = Keeps t rest}
    (λ (h : (ends_at 44 partial b ≡ true) × (Some (next_text stack pairs key partial.0) ≡ Some t)).
    subst (λ s. Keeps s rest) (same_Some (next_text stack pairs key partial.0) t h.1) (next_keeps stack pairs key partial.0 rest (after (stop_ascii partial b 44 (omega arith) h.0))))
    (λ (h : (ends_at 44 partial b ≡ false) × ((if ends_at 41 partial b then last_text stack pairs key partial.0 else option_map (InPairs stack pairs key) (text_step partial b)) ≡ Some t)).
    ⊎_elim {C = Keeps t rest}
    (λ (g : (ends_at 41 partial b ≡ true) × (last_text stack pairs key partial.0 ≡ Some t)). last_keeps stack pairs key partial.0 rest t g.1)
    (λ (g : (ends_at 41 partial b ≡ false) × (option_map (InPairs stack pairs key) (text_step partial b) ≡ Some t)). mapped_keeps (InPairs stack pairs key) (λ p r v. v) partial b t rest u g.1)
    (if_some (ends_at 41 partial b) (last_text stack pairs key partial.0) (option_map (InPairs stack pairs key) (text_step partial b)) t h.1))
    (if_some (ends_at 44 partial b) (Some (next_text stack pairs key partial.0)) (if ends_at 41 partial b then last_text stack pairs key partial.0 else option_map (InPairs stack pairs key) (text_step partial b)) t e)

-- what the loop has at byte n: the machine's state, and that the text that is read is UTF-8
pub record IsRead (text : List ℕ) (n : ℕ) (s : State) : Type 0 where
  pub has : HasRead text n s
  pub utf8 : IsUtf8 text
  pub keeps : Keeps s (drop n text)

pub read_none : (text : List ℕ) → IsUtf8 text → IsRead text 0 start
read_none text u = record { has = reads_none text; utf8 = u; keeps = tt }

pub read_goes : (text : List ℕ) (n : ℕ) (s : State) → IsRead text n s → n < length text → CanContinue s (get_or text n 0)
read_goes text n (InText stack text_atom partial) h lt = (drop (n + 1) text, subst (KeepsPart partial) (drop_more text n 0 lt) h.keeps)
read_goes text n (InTag stack partial) h lt =
    (drop (n + 1) text, subst (KeepsPart partial) (drop_more text n 0 lt) h.keeps)
read_goes text n (InValue stack tag partial) h lt =
    (drop (n + 1) text, subst (KeepsPart partial) (drop_more text n 0 lt) h.keeps)
read_goes text n (InPairs stack pairs key partial) h lt = (drop (n + 1) text, subst (KeepsPart partial) (drop_more text n 0 lt) h.keeps)
read_goes text n (Word stack word) h lt = tt
read_goes text n (InKind stack word) h lt = tt
read_goes text n (After stack c) h lt = tt

pub read_more : (text : List ℕ) (n : ℕ) (s t : State) → IsRead text n s → n < length text → step s (get_or text n 0) ≡ Some t → depth_of t ≤ MAX_DEPTH → IsRead text (n + 1) t
read_more text n s t h lt e low =
    let b = get_or text n 0 in
    record {
      has = reads_more text n s t h.has lt e (subst (λ k. k ≤ MAX_DEPTH) (sym (height_is t)) low);
      utf8 = h.utf8;
      keeps = step_keeps s b t (drop (n + 1) text) (λ small. utf8_after (take n text) (drop (n + 1) text) b (subst IsUtf8 (sym (take-append-drop n text) ∙ ap (λ l. take n text ++ l) (drop_more text n 0 lt)) h.utf8) small)
          (subst (Keeps s) (drop_more text n 0 lt) h.keeps) e;
    }

pub read_deep : (text : List ℕ) (n : ℕ) (s t : State) → IsRead text n s → n < length text → step s (get_or text n 0) ≡ Some t → MAX_DEPTH < depth_of t → IsReadAs text (Err Deep)
read_deep text n s t h lt e high = deep_here text n s t h.has lt e (subst (λ k. MAX_DEPTH < k) (sym (height_is t)) high)
