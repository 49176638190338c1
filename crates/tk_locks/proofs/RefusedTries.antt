-- Tries that were refused, one after another, and what the words that they read tell.
use Rattle.std.proofs.Common.{◌≡◌, ℕ, ◌<◌, List, [], ◌∷◌, ◌++◌, All, flat_map, length, length-append, sym, ap, ◌∙◌, subst, append_assoc, arith}
use Rattle.std.proofs.lemmas.List.{append_cancel_left}
use Rattle.std.proofs.lemmas.Grind.{flat_map-append}
use Rattle.std.proofs.lemmas.List.{append-nil}
use Rattle.std.proofs.lemmas.List.Elements.{All-append, All-cons, All-head, All-nil}
use Rattle.tk_locks.specs.declared.books.Busy.{Busy}
use Rattle.tk_lanes.specs.Lanes.{Admits}
use Rattle.tk_locks.specs.declared.books.Busy.TheVariants.{Held, Moved}
use Rattle.tk_locks.specs.Tries.{words_read, HasCause, WasBusy, WasFree, WasFreeAtLast, WereBusy}

-- one refused try more
pub busy_again : (old mid new : List ℕ) (need : ℕ) (busy : Busy) → WereBusy old mid need → WasBusy mid new need busy → WereBusy old new need
busy_again old mid new need busy were was = let all = were.0 in (
  all ++ busy ∷ [],
  was.0 ∙ ap (λ (l : List ℕ). l ++ words_read busy) were.1 ∙ append_assoc old (flat_map words_read all) (words_read busy)
      ∙ ap (λ (l : List ℕ). old ++ l) (ap (λ (l : List ℕ). flat_map words_read all ++ l) (sym (append-nil (words_read busy))) ∙ sym (flat_map-append words_read all (busy ∷ []))),
  All-append (HasCause need) all (busy ∷ []) were.2 (All-cons (HasCause need) busy [] was.1 (All-nil (HasCause need))),
)

pub free : (old new : List ℕ) (need : ℕ) (busy : Busy) → WasFree old new need → WasBusy old new need busy → ⊥
free old new need (Held word) was busy =
    let e : was.0 ∷ [] ≡ word ∷ [] = append_cancel_left old (was.0 ∷ []) (word ∷ []) (sym was.1 ∙ busy.0) in
    let same : was.0 ≡ word = cc in busy.1 (subst (λ (w : ℕ). Admits w need) same was.2)
free old new need (Moved word found) was busy =
    let e : was.0 ∷ [] ≡ word ∷ found ∷ [] = append_cancel_left old (was.0 ∷ []) (word ∷ found ∷ []) (sym was.1 ∙ busy.0) in
    cc

pub one_word : (old : List ℕ) (need word : ℕ) → WereBusy old (old ++ word ∷ []) need → Admits word need → ⊥
one_word old need word were room = go were.0
    (append_cancel_left old (word ∷ []) (flat_map words_read were.0) were.1) were.2
  where
    go : (all : List Busy) → word ∷ [] ≡ flat_map words_read all → All (HasCause need) all → ⊥
    go [] e causes = cc
    go (Held w ∷ rest) e causes =
        let same : word ≡ w = cc in
        All-head (HasCause need) (Held w) rest causes (subst (λ (v : ℕ). Admits v need) same room)
    go (Moved w found ∷ rest) e causes = cc

pub last : (old new : List ℕ) (need : ℕ) → WasFreeAtLast old new need → length old < length new
last old new need was =
    let tried = ap (λ (l : List ℕ). length l) was.1.1 in
    let t = length-append old (flat_map words_read was.1.0) in
    let read = ap (λ (l : List ℕ). length l) was.2.1 in
    let n = length-append was.0 (was.2.0 ∷ []) in omega arith
