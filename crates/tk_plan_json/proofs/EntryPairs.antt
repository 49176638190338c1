-- An entry's pairs, put one after another into a map, and a node's entries.
use Rattle.std.proofs.Common.{◌≡◌, ℕ, ◌+◌, List, [], ◌∷◌, ◌++◌, map, Bool, true, false, cond, ◌||◌, ◌&&◌, Option, Some, None, is_some, refl, sym, ap, ap₂, ◌∙◌, append_assoc, append-nil}
use Rattle.std.specs.List.{list_any, list_all}
use Rattle.std.specs.List.Sorted.{IsStrictlySortedBy}
use Rattle.std.specs.Str.{bytes_eq}
use Rattle.std.specs.Ordering.{nat_cmp, is_eq, match_ordering}
use Rattle.std.specs.declared.cmp.Ordering.{Ordering}
use Rattle.std.specs.declared.cmp.Ordering.TheVariants.{Less, Equal, Greater}
use Rattle.std.specs.Cmp.Lexicographic.{slice_cmp, texts_ties}
use Rattle.std.specs.Map.{keys_of}
use Rattle.std.specs.BTreeMap.{insert_entry}
use Rattle.std.proofs.lemmas.Map.Lookups.{exact_bytes}
use Rattle.std.specs.Option.{option_or}
use Rattle.tk_base.proofs.Truth.{or-false, or_twice, or_swap}
use Rattle.serde_json.specs.Data.{Data}
use Rattle.serde_json.specs.Find.{as_array}
use Rattle.serde_json.specs.View.{view, items_view}
use Rattle.serde_json.specs.declared.value.Value.{Value}
use Rattle.tk_plan_json.specs.Contents.{listed}
use Rattle.tk_plan_json.proofs.Items.{listed_items, array_items}
use Rattle.tk_events.specs.Event.{is_strictly_increasing, is_before}
use Rattle.tk_plan_json.specs.Checks.{text, pair_of, array_of, items_wrong, item_at}
use Rattle.tk_plan_json.specs.Rows.{entry}
use Rattle.tk_plan_json.specs.steps.Members.{has_key}
use Rattle.tk_plan_json.specs.Contents.{json_pair, json_entry, put_all, repeats, repeats_after}

abbrev pub Texts : Type 0
Texts = List ℕ × List ℕ

same_key : (k x : List ℕ) → is_eq (slice_cmp nat_cmp k x) ≡ bytes_eq k x
same_key k x = sym (texts_ties k x)

some_cond : {A : Type 0} (b : Bool) (v : A) (o : Option A) → is_some (cond b (Some v) o) ≡ b || is_some o
some_cond true v o = refl
some_cond false v o = refl

or_assoc : (a b h : Bool) → (a || b) || h ≡ a || (b || h)
or_assoc true b h = refl
or_assoc false b h = refl

has_first : (k : List ℕ) (e : Texts) (es : List Texts) → has_key k (e ∷ es) ≡ bytes_eq k e.0 || has_key k es
has_first k e es = some_cond (is_eq (slice_cmp nat_cmp k e.0)) e.1 _ ∙ ap (λ b. b || has_key k es) (same_key k e.0)

put_by : (k x v : List ℕ) (e : Texts) (es new : List Texts) (o : Ordering) → slice_cmp nat_cmp x e.0 ≡ o → has_key k new ≡ bytes_eq k x || has_key k es
    → has_key k (match_ordering o ((x, v) ∷ e ∷ es) ((e.0, v) ∷ es) (e ∷ new)) ≡ bytes_eq k x || has_key k (e ∷ es)
put_by k x v e es new Less c h = has_first k (x, v) (e ∷ es)
put_by k x v e es new Equal c h =
    let same : bytes_eq k x ≡ bytes_eq k e.0 = ap (bytes_eq k) (exact_bytes x e.0 c) in
    has_first k (e.0, v) es ∙ or_twice (bytes_eq k e.0) (has_key k es) ∙ ap₂ (λ a b. a || b) (sym same) (sym (has_first k e es))
put_by k x v e es new Greater c h =
    has_first k e new ∙ ap (λ b. bytes_eq k e.0 || b) h ∙ or_swap (bytes_eq k e.0) (bytes_eq k x) (has_key k es) ∙ ap (λ b. bytes_eq k x || b) (sym (has_first k e es))

-- after a pair was put
put_has : (k x v : List ℕ) (es : List Texts) → has_key k (insert_entry (slice_cmp nat_cmp) es x v) ≡ bytes_eq k x || has_key k es
put_has k x v [] = has_first k (x, v) []
put_has k x v (e ∷ es) = put_by k x v e es (insert_entry (slice_cmp nat_cmp) es x v) (slice_cmp nat_cmp x e.0) refl (put_has k x v es)

any_append : (k x : List ℕ) (ks : List (List ℕ)) → list_any (bytes_eq k) (ks ++ x ∷ []) ≡ bytes_eq k x || list_any (bytes_eq k) ks
any_append k x [] = refl
any_append k x (y ∷ ks) = ap (λ b. bytes_eq k y || b) (any_append k x ks) ∙ or_swap (bytes_eq k y) (bytes_eq k x) (list_any (bytes_eq k) ks)

abbrev pub pairs_in : List Data → List Texts
pairs_in ds = map (λ p. json_pair (Some p)) ds

-- an entry of which some items are left, where the others were put
pub record GoesOn (at : List ℕ) (d : Data) (i : ℕ) (put : List Texts) (is_twice : Bool) (left : List Data) : Type 0 where
  pub wrong : entry at d ≡ items_wrong (pair_of text) at i left
  pub pairs : json_entry d ≡ put_all put (pairs_in left)
  pub earlier : List (List ℕ)
  pub keys : (k : List ℕ) → has_key k put ≡ list_any (bytes_eq k) earlier
  pub twice : repeats d ≡ is_twice || repeats_after earlier (pairs_in left)

pub goes_start : (at : List ℕ) (d : Data) (vs items : List Value) (put : List Texts) → Some (items_view vs) ≡ as_array d → items ≡ vs → put ≡ []
    → GoesOn at d 0 put false (map view items)
goes_start at d vs items put e is none =
    let all : listed (Some d) ≡ map view items = listed_items d vs e ∙ ap (map view) (sym is) in
    record {
      wrong = array_items (pair_of text) at d vs e ∙ ap (λ l. items_wrong (pair_of text) at 0 (map view l)) (sym is);
      pairs = ap (λ l. put_all [] (pairs_in l)) all ∙ ap (λ p. put_all p (pairs_in (map view items))) (sym none);
      earlier = [];
      keys = λ k. ap (has_key k) none;
      twice = ap (λ l. repeats_after [] (pairs_in l)) all;
    }

module _ (at : List ℕ) (d : Data) (i : ℕ) (put : List Texts) (b : Bool) (left : List Data) (g : GoesOn at d i put b left) where
  pub goes_fault : (x : Data) (rest : List Data) (p : List ℕ) → left ≡ x ∷ rest → pair_of text (item_at at i) x ≡ Some p → entry at d ≡ Some p
  goes_fault x rest p split w = g.wrong ∙ ap (items_wrong (pair_of text) at i) split ∙ ap (λ o. option_or o (items_wrong (pair_of text) at (i + 1) rest)) w

  pub goes_next : (x : Data) (rest : List Data) (k v : List ℕ) (new : List Texts) (c : Bool) → left ≡ x ∷ rest → pair_of text (item_at at i) x ≡ None
      → k ≡ (json_pair (Some x)).0 → v ≡ (json_pair (Some x)).1 → new ≡ insert_entry (slice_cmp nat_cmp) put k v → c ≡ b || has_key k put
      → GoesOn at d (i + 1) new c rest
  goes_next x rest k v new c split w ek ev is twice =
      let xk = (json_pair (Some x)).0 in
      let xv = (json_pair (Some x)).1 in
      let put_is : new ≡ insert_entry (slice_cmp nat_cmp) put xk xv = is ∙ ap₂ (insert_entry (slice_cmp nat_cmp) put) ek ev in
      let seen : c ≡ b || list_any (bytes_eq xk) g.earlier = twice ∙ ap (λ y. b || has_key y put) ek ∙ ap (λ h. b || h) (g.keys xk) in
      record {
        wrong = g.wrong ∙ ap (items_wrong (pair_of text) at i) split ∙ ap (λ o. option_or o (items_wrong (pair_of text) at (i + 1) rest)) w;
        pairs = g.pairs ∙ ap (λ l. put_all put (pairs_in l)) split ∙ ap (λ p. put_all p (pairs_in rest)) (sym put_is);
        earlier = g.earlier ++ xk ∷ [];
        keys = λ y. ap (has_key y) put_is ∙ put_has y xk xv put ∙ ap (λ h. bytes_eq y xk || h) (g.keys y) ∙ sym (any_append y xk g.earlier);
        twice = g.twice ∙ ap (λ l. b || repeats_after g.earlier (pairs_in l)) split ∙ sym (or_assoc b (list_any (bytes_eq xk) g.earlier) (repeats_after (g.earlier ++ xk ∷ []) (pairs_in rest)))
            ∙ ap (λ h. h || repeats_after (g.earlier ++ xk ∷ []) (pairs_in rest)) (sym seen);
      }

  pub goes_end : left ≡ [] → (entry at d ≡ None) × (json_entry d ≡ put) × (repeats d ≡ b)
  goes_end none = (g.wrong ∙ ap (items_wrong (pair_of text) at i) none, g.pairs ∙ ap (λ l. put_all put (pairs_in l)) none, g.twice ∙ ap (λ l. b || repeats_after g.earlier (pairs_in l)) none ∙ or-false b)

increasing_next : (p q : Texts) (b : Bool) → slice_cmp nat_cmp p.0 q.0 ≡ Less → b ≡ true → is_before p.0 q.0 && b ≡ true
increasing_next p q b h e = rw (h, e) refl

-- a map's entries rise
pub map_is_increasing : (es : List Texts) → IsStrictlySortedBy (slice_cmp nat_cmp) (keys_of es) → is_strictly_increasing es ≡ true
unfolding IsStrictlySortedBy
map_is_increasing [] h = refl
map_is_increasing (p ∷ []) h = refl
map_is_increasing (p ∷ q ∷ es) h = increasing_next p q (is_strictly_increasing (q ∷ es)) h.0.0 (map_is_increasing (q ∷ es) h.1)

-- ---- all the entries of a node

all_append : (es : List (List Texts)) (e : List Texts) → list_all is_strictly_increasing es ≡ true → is_strictly_increasing e ≡ true → list_all is_strictly_increasing (es ++ e ∷ []) ≡ true
all_append [] e h k = rw k refl
all_append (x ∷ es) e h k = all_by (is_strictly_increasing x) (list_all is_strictly_increasing es) (list_all is_strictly_increasing (es ++ e ∷ [])) h (λ r. all_append es e r k)
  where
    all_by : (a b c : Bool) → a && b ≡ true → (b ≡ true → c ≡ true) → a && c ≡ true
    all_by true b c h f = f h
    all_by false b c h f = h

pub record Reported (at : List ℕ) (d : Data) (i : ℕ) (es : List (List Texts)) (is_twice : Bool) (left : List Data) : Type 0 where
  pub wrong : array_of entry at d ≡ items_wrong entry at i left
  pub entries : map json_entry (listed (Some d)) ≡ es ++ map json_entry left
  pub increasing : list_all is_strictly_increasing es ≡ true
  pub twice : list_any repeats (listed (Some d)) ≡ is_twice || list_any repeats left

pub report_start : (at : List ℕ) (d : Data) (vs items : List Value) (es : List (List Texts)) → Some (items_view vs) ≡ as_array d → items ≡ vs → es ≡ []
    → Reported at d 0 es false (map view items)
report_start at d vs items es e is none =
    let all : listed (Some d) ≡ map view items = listed_items d vs e ∙ ap (map view) (sym is) in
    record {
      wrong = array_items entry at d vs e ∙ ap (λ l. items_wrong entry at 0 (map view l)) (sym is);
      entries = ap (map json_entry) all ∙ ap (λ l. l ++ map json_entry (map view items)) (sym none);
      increasing = ap (list_all is_strictly_increasing) none;
      twice = ap (list_any repeats) all;
    }

module _ (at : List ℕ) (d : Data) (i : ℕ) (es : List (List Texts)) (b : Bool) (left : List Data) (g : Reported at d i es b left) where
  pub report_fault : (x : Data) (rest : List Data) (p : List ℕ) → left ≡ x ∷ rest → entry (item_at at i) x ≡ Some p → array_of entry at d ≡ Some p
  report_fault x rest p split w = g.wrong ∙ ap (items_wrong entry at i) split ∙ ap (λ o. option_or o (items_wrong entry at (i + 1) rest)) w

  pub report_next : (x : Data) (rest : List Data) (e : List Texts) (new : List (List Texts)) (c : Bool) → left ≡ x ∷ rest → entry (item_at at i) x ≡ None
      → e ≡ json_entry x → is_strictly_increasing e ≡ true → new ≡ es ++ e ∷ [] → c ≡ b || repeats x → Reported at d (i + 1) new c rest
  report_next x rest e new c split w is rises pushed twice = record {
    wrong = g.wrong ∙ ap (items_wrong entry at i) split ∙ ap (λ o. option_or o (items_wrong entry at (i + 1) rest)) w;
    entries = g.entries ∙ ap (λ l. es ++ map json_entry l) split ∙ sym (append_assoc es (json_entry x ∷ []) (map json_entry rest)) ∙ ap (λ l. l ++ map json_entry rest) (ap (λ y. es ++ y ∷ []) (sym is) ∙ sym pushed);
    increasing = ap (list_all is_strictly_increasing) pushed ∙ all_append es e g.increasing rises;
    twice = g.twice ∙ ap (λ l. b || list_any repeats l) split ∙ sym (or_assoc b (repeats x) (list_any repeats rest)) ∙ ap (λ h. h || list_any repeats rest) (sym twice);
  }

  pub report_end : left ≡ [] → (array_of entry at d ≡ None) × (es ≡ map json_entry (listed (Some d))) × (b ≡ list_any repeats (listed (Some d)))
  report_end none = (g.wrong ∙ ap (items_wrong entry at i) none, sym (g.entries ∙ ap (λ l. es ++ map json_entry l) none ∙ append-nil es), sym (g.twice ∙ ap (λ l. b || list_any repeats l) none ∙ or-false b))
