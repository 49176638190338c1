-- The states of keys, which stand in rows.
use Rattle.std.proofs.Common.{◌≡◌, ℕ, zero, suc, ◌+◌, ◌*◌, ◌-◌, ◌<◌, ◌≤◌, List, [], ◌∷◌, ◌++◌, length, get_or, set, refl, sym, ap, ◌∙◌, subst, arith}
use Rattle.std.specs.Prelude.{◌/◌, ◌%◌, ◌==◌, if◌then◌else◌}
use Rattle.std.specs.List.{sum_by}
use Rattle.std.proofs.lemmas.List.{length-append, get_or_default, get_or_past, get_or_append_left, get_or-append_right, append_assoc, set-append_left, set-append_right}
use Rattle.std.proofs.lemmas.List.Sums.{sum_by-cons, sum_by-append, sum_by-set}
use Rattle.tk_query_lifecycle.specs.steps.KeyStates.{ArePut, by_key, idle, padded, state_of}
use Rattle.tk_query_lifecycle.specs.declared.key_states.KeyState.{KeyState}
use Rattle.tk_query_lifecycle.proofs.ListLemmas.{get_or_more, get_or_put}

length-padded : (n : ℕ) (row : List KeyState) → length (padded n row) ≡ n
unfolding padded
length-padded zero row = refl
length-padded (suc n) [] = ap suc (length-padded n [])
length-padded (suc n) (s ∷ row) = ap suc (length-padded n row)

read_padded : (n : ℕ) (row : List KeyState) (i : ℕ) → i < n → state_of (padded n row) i ≡ state_of row i
unfolding padded
read_padded zero row i lt = absurd (omega (arith, lt))
read_padded (suc n) [] zero lt = refl
read_padded (suc n) [] (suc i) lt = read_padded n [] i (omega (arith, lt))
read_padded (suc n) (s ∷ row) zero lt = refl
read_padded (suc n) (s ∷ row) (suc i) lt = read_padded n row i (omega (arith, lt))

padded_more : (n : ℕ) (row : List KeyState) → padded n (row ++ idle ∷ []) ≡ padded n row
unfolding padded
padded_more zero row = refl
padded_more (suc n) [] = refl
padded_more (suc n) (s ∷ row) = ap (λ l. s ∷ l) (padded_more n row)

-- an idle state at the end of a row changes nothing
pub padded_push : (n : ℕ) (row longer : List KeyState) (s : KeyState) → longer ≡ row ++ s ∷ [] → s ≡ idle → padded n longer ≡ padded n row
padded_push n row longer s is none = ap (padded n) (is ∙ ap (λ x. row ++ x ∷ []) none) ∙ padded_more n row

pub padded_set : (n : ℕ) (row : List KeyState) (i : ℕ) (s : KeyState) → i < length row → padded n (set row i s) ≡ set (padded n row) i s
unfolding padded
padded_set zero row i s lt = refl
padded_set (suc n) [] i s lt = absurd (omega (arith, lt))
padded_set (suc n) (x ∷ row) zero s lt = refl
padded_set (suc n) (x ∷ row) (suc i) s lt = ap (λ l. x ∷ l) (padded_set n row i s (omega (arith, lt)))

sum_of_idle : (n : ℕ) (f : KeyState → ℕ) → f idle ≡ 0 → sum_by f (padded n []) ≡ 0
unfolding padded
sum_of_idle zero f none = refl
sum_of_idle (suc n) f none = let sum = sum_by-cons f idle (padded n []) in let rest = sum_of_idle n f none in omega (arith, sum, none, rest)

pub none_by_key : by_key [] ≡ []
unfolding by_key
none_by_key = refl

cons_by_key : (row : List KeyState) (rows : List (List KeyState)) → by_key (row ∷ rows) ≡ padded 65536 row ++ by_key rows
unfolding by_key
cons_by_key row rows = refl

pub length-by_key : (rows : List (List KeyState)) → length (by_key rows) ≡ 65536 * length rows
length-by_key [] = ap length none_by_key
length-by_key (row ∷ rows) =
    let e = ap length (cons_by_key row rows) ∙ length-append (padded 65536 row) (by_key rows) in
    let a = length-padded 65536 row in
    let b = length-by_key rows in
    omega (arith, e, a, b)

-- the state of a key, by its row and its number there
read_row : (rows : List (List KeyState)) (w i : ℕ) → i < 65536 → state_of (by_key rows) (65536 * w + i) ≡ state_of (get_or rows w []) i
read_row [] w i lt = ap (λ l. state_of l (65536 * w + i)) none_by_key
read_row (row ∷ rows) zero i lt =
    ap (state_of (by_key (row ∷ rows))) (let e : 65536 * 0 + i ≡ i = omega arith in e)
    ∙ ap (λ l. state_of l i) (cons_by_key row rows)
    ∙ get_or_append_left (padded 65536 row) (by_key rows) idle i (subst (λ n. i < n) (sym (length-padded 65536 row)) lt)
    ∙ read_padded 65536 row i lt
read_row (row ∷ rows) (suc w) i lt =
    ap (λ l. state_of l (65536 * suc w + i)) (cons_by_key row rows)
    ∙ get_or-append_right (padded 65536 row) (by_key rows) 65536 (65536 * suc w + i) idle (length-padded 65536 row) (omega arith)
    ∙ ap (state_of (by_key rows)) (let e : 65536 * suc w + i - 65536 ≡ 65536 * w + i = omega arith in e)
    ∙ read_row rows w i lt

-- the same, where the row is read with another list in its place
pub read_at : (rows : List (List KeyState)) (w i : ℕ) (d : List KeyState) → w < length rows → i < 65536 → state_of (by_key rows) (65536 * w + i) ≡ state_of (get_or rows w d) i
read_at rows w i d within lt = read_row rows w i lt ∙ ap (λ row. state_of row i) (get_or_default rows w [] d within)

parts : (key : ℕ) → 65536 * (key / 65536) + key % 65536 ≡ key
parts key = omega arith

low : (key : ℕ) → key % 65536 < 65536
low key = omega arith

read_key : (rows : List (List KeyState)) (key : ℕ) → state_of (by_key rows) key ≡ state_of (get_or rows (key / 65536) []) (key % 65536)
read_key rows key = ap (state_of (by_key rows)) (sym (parts key)) ∙ read_row rows (key / 65536) (key % 65536) (low key)

pub read_found : (rows : List (List KeyState)) (key : ℕ) (row : List KeyState) → key / 65536 < length rows → row ≡ get_or rows (key / 65536) row → state_of row (key % 65536) ≡ state_of (by_key rows) key
read_found rows key row within is = ap (λ l. state_of l (key % 65536)) (is ∙ get_or_default rows (key / 65536) row [] within) ∙ sym (read_key rows key)

pub read_missing : (rows : List (List KeyState)) (key : ℕ) → length rows ≤ key / 65536 → idle ≡ state_of (by_key rows) key
read_missing rows key past = ap (λ l. state_of l (key % 65536)) (sym (get_or_past rows (key / 65536) [] past)) ∙ sym (read_key rows key)

-- a row of which one state was stored
set_row : (rows : List (List KeyState)) (w i : ℕ) (new : List KeyState) (s : KeyState) → w < length rows → i < 65536 → padded 65536 new ≡ set (padded 65536 (get_or rows w [])) i s
    → by_key (set rows w new) ≡ set (by_key rows) (65536 * w + i) s
set_row [] w i new s within lt put = absurd (omega (arith, within))
set_row (row ∷ rows) zero i new s within lt put =
    cons_by_key new rows ∙ ap (λ l. l ++ by_key rows) put
    ∙ sym (set-append_left (padded 65536 row) (by_key rows) i s (subst (λ n. i < n) (sym (length-padded 65536 row)) lt))
    ∙ ap (λ l. set l i s) (sym (cons_by_key row rows))
    ∙ ap (λ n. set (by_key (row ∷ rows)) n s) (let e : i ≡ 65536 * 0 + i = omega arith in e)
set_row (row ∷ rows) (suc w) i new s within lt put =
    cons_by_key row (set rows w new)
    ∙ ap (λ l. padded 65536 row ++ l) (set_row rows w i new s (omega (arith, within)) lt put)
    ∙ ap (λ n. padded 65536 row ++ set (by_key rows) n s) (let e : 65536 * w + i ≡ 65536 * suc w + i - 65536 = omega arith in e)
    ∙ sym (set-append_right (padded 65536 row) (by_key rows) 65536 (65536 * suc w + i) s (length-padded 65536 row) (omega arith))
    ∙ ap (λ l. set l (65536 * suc w + i) s) (sym (cons_by_key row rows))

-- rows without a state were added at the end
pub record AreFilled (old new : List (List KeyState)) : Type 0 where
  pub at : (w : ℕ) → get_or new w [] ≡ get_or old w []
  pub sums : (f : KeyState → ℕ) → f idle ≡ 0 → sum_by f (by_key new) ≡ sum_by f (by_key old)

append_by_key : (rows more : List (List KeyState)) → by_key (rows ++ more) ≡ by_key rows ++ by_key more
append_by_key [] more = ap (λ l. l ++ by_key more) (sym none_by_key)
append_by_key (row ∷ rows) more = cons_by_key row (rows ++ more) ∙ ap (λ l. padded 65536 row ++ l) (append_by_key rows more)
    ∙ sym (append_assoc (padded 65536 row) (by_key rows) (by_key more)) ∙ ap (λ l. l ++ by_key more) (sym (cons_by_key row rows))

filled_more : (old rows : List (List KeyState)) → AreFilled old rows → AreFilled old (rows ++ [] ∷ [])
filled_more old rows are = record {
  at = λ w. get_or_more rows [] w ∙ are.at w;
  sums = λ f none.
      let more = ap (sum_by f) (append_by_key rows ([] ∷ [])) ∙ sum_by-append f (by_key rows) (by_key ([] ∷ [])) in
      let last = ap (sum_by f) (cons_by_key [] [] ∙ ap (λ l. padded 65536 [] ++ l) none_by_key) ∙ sum_by-append f (padded 65536 []) [] in
      let idle_row = sum_of_idle 65536 f none in
      let before = are.sums f none in
      omega (arith, more, last, idle_row, before);
}

pub filled_push : (old rows longer : List (List KeyState)) (row : List KeyState) → AreFilled old rows → longer ≡ rows ++ row ∷ [] → row ≡ [] → AreFilled old longer
filled_push old rows longer row are is none = subst (AreFilled old) (sym (is ∙ ap (λ l. rows ++ l ∷ []) none)) (filled_more old rows are)

-- a state was stored in its row, after rows without a state were added
pub put_in_row : (old rows : List (List KeyState)) (key : ℕ) (new : List KeyState) (s : KeyState) → AreFilled old rows → key / 65536 < length rows
    → padded 65536 new ≡ set (padded 65536 (get_or rows (key / 65536) [])) (key % 65536) s → ArePut (by_key old) (by_key (set rows (key / 65536) new)) key s
put_in_row old rows key new s are within put = record {
  at = λ k.
      ap (λ l. state_of l k) is ∙ get_or_put (by_key rows) key k s idle below
      ∙ ap (λ t. if key == k then s else t) (same k);
  sums = λ f none.
      let after = ap (sum_by f) is in
      let moved = sum_by-set f (by_key rows) key s idle below in
      let before = are.sums f none in
      let own = ap f (same key) in
      omega (arith, after, moved, before, own);
}
  where
    is : by_key (set rows (key / 65536) new) ≡ set (by_key rows) key s
    is = set_row rows (key / 65536) (key % 65536) new s within (low key) put ∙ ap (λ n. set (by_key rows) n s) (parts key)

    below : key < length (by_key rows)
    below = let long = length-by_key rows in omega (arith, long, within)

    same : (k : ℕ) → state_of (by_key rows) k ≡ state_of (by_key old) k
    same k = read_key rows k ∙ ap (λ row. state_of row (k % 65536)) (are.at (k / 65536)) ∙ sym (read_key old k)
