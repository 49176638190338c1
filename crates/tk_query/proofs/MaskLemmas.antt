-- The masks of conditions.
use Rattle.std.proofs.Common.{◌≡◌, ℕ, ◌+◌, ◌<◌, ◌≤◌, Bool, true, false, ◌&&◌, ◌||◌, List, [], ◌∷◌, ◌++◌, length, take, get_or, map, replicate, Result, IfOk, refl, sym, ap, ◌∙◌}
use Rattle.std.specs.Prelude.{if◌then◌else◌, ◌==◌}
use Rattle.std.specs.List.{list_all, list_any}
use Rattle.std.specs.Simd.Lanes.{zip2}
use Rattle.std.proofs.lemmas.Simd.{zip2-map}
use Rattle.std.proofs.lemmas.List.{length-map, take_more, take_all, map-append}
use Rattle.std.proofs.lemmas.List.Folds.{list_all-append, list_any-append}
use Rattle.tk_base.proofs.Truth.{and-true, or-false}
use Rattle.tk_events.specs.declared.events.Entry.{Entry}
use Rattle.tk_record.specs.Recorded.{Recorded}
use Rattle.tk_record.proofs.PickedEntries.{if_ok_same}
use Rattle.tk_query_conditions.specs.declared.conditions.Condition.{Condition}
use Rattle.tk_query.specs.Holds.{holds}
use Rattle.tk_query.specs.declared.rules.Rule.{Rule}
use Rattle.tk_query.specs.steps.Rules.{rule_holds}
use Rattle.tk_query.proofs.AskedLemmas.{map_same}

replicated : (b : Bool) (es : List Entry) → replicate (length es) b ≡ map (λ _. b) es
replicated b [] = refl
replicated b (e ∷ es) = ap (λ l. b ∷ l) (replicated b es)

pub mask_first : (b : Bool) (n : ℕ) (es : List Entry) (flags : List Bool) → flags ≡ replicate n b → n ≡ length es → flags ≡ map (λ _. b) es
mask_first b n es flags e long = e ∙ ap (λ k. replicate k b) long ∙ replicated b es

abbrev pub all_of_first : Recorded → List Condition → ℕ → Entry → Bool
all_of_first r members i e = list_all (λ m. holds r m e) (take i members)

abbrev pub any_of_first : Recorded → List Condition → ℕ → Entry → Bool
any_of_first r members i e = list_any (λ m. holds r m e) (take i members)

pub all_more : (r : Recorded) (members : List Condition) (i : ℕ) (m : Condition) (flags more new : List Bool) → i < length members → m ≡ get_or members i m → flags ≡ map (all_of_first r members i) r.entries → more ≡ map (holds r m) r.entries → new ≡ zip2 ◌&&◌ flags more → new ≡ map (all_of_first r members (i + 1)) r.entries
all_more r members i m flags more new lt is e f g =
    g ∙ ap (λ a. zip2 ◌&&◌ a more) e ∙ ap (zip2 ◌&&◌ (map (all_of_first r members i) r.entries)) f
    ∙ zip2-map ◌&&◌ (all_of_first r members i) (holds r m) r.entries
    ∙ map_same (λ x. all_of_first r members i x && holds r m x) (all_of_first r members (i + 1)) r.entries
    (λ x. ap (λ b. all_of_first r members i x && b) (ap (λ n. holds r n x) is ∙ sym (and-true (holds r (get_or members i m) x)))
    ∙ sym (list_all-append (λ n. holds r n x) (take i members) (get_or members i m ∷ [])) ∙ ap (list_all (λ n. holds r n x)) (sym (take_more members i m lt)))

pub any_more : (r : Recorded) (members : List Condition) (i : ℕ) (m : Condition) (flags more new : List Bool) → i < length members → m ≡ get_or members i m → flags ≡ map (any_of_first r members i) r.entries → more ≡ map (holds r m) r.entries → new ≡ zip2 ◌||◌ flags more → new ≡ map (any_of_first r members (i + 1)) r.entries
any_more r members i m flags more new lt is e f g =
    g ∙ ap (λ a. zip2 ◌||◌ a more) e ∙ ap (zip2 ◌||◌ (map (any_of_first r members i) r.entries)) f
    ∙ zip2-map ◌||◌ (any_of_first r members i) (holds r m) r.entries
    ∙ map_same (λ x. any_of_first r members i x || holds r m x) (any_of_first r members (i + 1)) r.entries
    (λ x. ap (λ b. any_of_first r members i x || b) (ap (λ n. holds r n x) is ∙ sym (or-false (holds r (get_or members i m) x)))
    ∙ sym (list_any-append (λ n. holds r n x) (take i members) (get_or members i m ∷ [])) ∙ ap (list_any (λ n. holds r n x)) (sym (take_more members i m lt)))

pub all_done : (r : Recorded) (members : List Condition) (i : ℕ) (flags : List Bool) → length members ≤ i → flags ≡ map (all_of_first r members i) r.entries → flags ≡ map (λ e. list_all (λ m. holds r m e) members) r.entries
all_done r members i flags le e = e ∙ ap (λ (ms : List Condition). map (λ x. list_all (λ m. holds r m x) ms) r.entries) (take_all i members le)

pub any_done : (r : Recorded) (members : List Condition) (i : ℕ) (flags : List Bool) → length members ≤ i → flags ≡ map (any_of_first r members i) r.entries → flags ≡ map (λ e. list_any (λ m. holds r m e) members) r.entries
any_done r members i flags le e = e ∙ ap (λ (ms : List Condition). map (λ x. list_any (λ m. holds r m x) ms) r.entries) (take_all i members le)

-- the mask of a rule is that of each equal one
pub rule_mask_same : {E : Type 0} (r : Recorded) (rule d : Rule) (o : Result (List Bool) E) → rule ≡ d → IfOk o (λ flags. flags ≡ map (rule_holds d r) r.entries) → IfOk o (λ flags. flags ≡ map (rule_holds rule r) r.entries)
rule_mask_same r rule d o e h = if_ok_same o (map (rule_holds d r) r.entries) (map (rule_holds rule r) r.entries) (ap (λ (x : Rule). map (rule_holds x r) r.entries) (sym e)) h

pub same_length : {A : Type 0} (f g : A → Bool) (xs : List A) (a b : List Bool) → a ≡ map f xs → b ≡ map g xs → length a ≡ length b
same_length f g xs a b e h = ap length e ∙ length-map xs f ∙ sym (ap length h ∙ length-map xs g)

pub map-map : {A B C : Type 0} (g : B → C) (f : A → B) (xs : List A) → map g (map f xs) ≡ map (λ x. g (f x)) xs
map-map g f [] = refl
map-map g f (x ∷ xs) = ap (λ l. g (f x) ∷ l) (map-map g f xs)

abbrev pub byte : Bool → ℕ
byte b = if b then 1 else 0

-- one more answer in a column of bytes
pub column_more : {X : Type 0} (p : X → Bool) (xs : List X) (i : ℕ) (x : X) (b : Bool) (old new : List ℕ) → take (i + 1) xs ≡ take i xs ++ x ∷ [] → old ≡ map (λ y. byte (p y)) (take i xs) → b ≡ p x → new ≡ old ++ byte b ∷ [] → new ≡ map (λ y. byte (p y)) (take (i + 1) xs)
column_more p xs i x b old new next e is f =
    f ∙ ap (λ l. l ++ byte b ∷ []) e ∙ ap (λ z. map (λ y. byte (p y)) (take i xs) ++ byte z ∷ []) is
    ∙ sym (map-append (λ y. byte (p y)) (take i xs) (x ∷ [])) ∙ ap (map (λ y. byte (p y))) (sym next)

one_byte : (b : Bool) → (byte b == 1) ≡ b
one_byte true = refl
one_byte false = refl

pub column_done : {X : Type 0} (p : X → Bool) (xs : List X) (i : ℕ) (column : List ℕ) → length xs ≤ i → column ≡ map (λ y. byte (p y)) (take i xs) → map (λ x. x == 1) column ≡ map p xs
column_done p xs i column le e =
    ap (map (λ x. x == 1)) (e ∙ ap (map (λ y. byte (p y))) (take_all i xs le))
    ∙ map-map (λ x. x == 1) (λ y. byte (p y)) xs ∙ map_same (λ y. byte (p y) == 1) p xs (λ y. one_byte (p y))
