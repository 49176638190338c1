-- Lists: single elements, and what a put changes.
use Rattle.std.proofs.Common.{◌≡◌, ℕ, zero, suc, ◌<◌, Bool, true, false, List, [], ◌∷◌, ◌++◌, length, take, slice_get, get_or, set, Some, refl, sym, ap, ◌∙◌, arith, eqb, eqb-true, eq-eqb}
use Rattle.std.specs.Prelude.{◌==◌, if◌then◌else◌}
use Rattle.std.proofs.lemmas.Bool.{true≢false}
use Rattle.std.proofs.lemmas.List.{get_or-set_other}
use Rattle.std.proofs.lemmas.Grind.{get_or-set_at}
use Rattle.tk_events.specs.declared.events.Entry.{Entry}

-- the filler at the end changes no element
pub get_or_more : {X : Type 0} (xs : List X) (d : X) (k : ℕ) → get_or (xs ++ d ∷ []) k d ≡ get_or xs k d
get_or_more [] d zero = refl
get_or_more [] d (suc k) = refl
get_or_more (x ∷ xs) d zero = refl
get_or_more (x ∷ xs) d (suc k) = get_or_more xs d k

pub get_or_put : {X : Type 0} (xs : List X) (i k : ℕ) (y d : X) → i < length xs → get_or (set xs i y) k d ≡ (if i == k then y else get_or xs k d)
get_or_put xs i k y d lt = by (eqb i k) refl
  where
    by : (same : Bool) → eqb i k ≡ same → get_or (set xs i y) k d ≡ (if same then y else get_or xs k d)
    by true e = get_or-set_at xs i k y d (sym (eqb-true i k e)) lt
    by false e = get_or-set_other xs i k y d (λ same. true≢false (sym (eq-eqb i k (sym same)) ∙ e))

-- the element at a place, and the list up to it
pub there : (es : List Entry) (i : ℕ) → i < length es → (e : Entry) × (slice_get es i ≡ Some e) × (take (suc i) es ≡ take i es ++ e ∷ [])
there [] i lt = absurd (omega arith)
there (e ∷ es) zero lt = (e, refl, refl)
there (e ∷ es) (suc i) lt = let r = there es i (omega arith) in (r.0, r.1, ap (λ l. e ∷ l) r.2)
