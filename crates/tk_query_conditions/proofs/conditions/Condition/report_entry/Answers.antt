use Rattle.std.proofs.Common.{◌≡◌, ℕ, ◌+◌, ◌<◌, List, [], ◌∷◌, ◌++◌, length, take, get_or, map, sym, ap, ap₂, ◌∙◌}
use Rattle.std.proofs.lemmas.List.{take_more, map-append}
use Rattle.tk_query_conditions.proofs.conditions.Condition.report_entry.Goals as goal

-- one more of a list is mapped
mapped_more : {X A : Type 0} (f : X → A) (xs : List X) (i : ℕ) (d : X) (old new : List A) (x : A) → i < length xs → old ≡ map f (take i xs) → new ≡ old ++ x ∷ [] → x ≡ f (get_or xs i d) → new ≡ map f (take (i + 1) xs)
mapped_more f xs i d old new x lt e more is =
    more ∙ ap (λ l. l ++ x ∷ []) e ∙ ap (λ y. map f (take i xs) ++ y ∷ []) is ∙ sym (map-append f (take i xs) (get_or xs i d ∷ [])) ∙ ap (map f) (sym (take_more xs i d lt))

pub loop-key-preserved : goal.loop-key-preserved
loop-key-preserved c =
    mapped_more (λ p. (p.0.now, p.1.now)) c.args.pairs.now c.loop-key.key-index _ c.loop-key.copied c.push.new.self _ c.loop-key-test.true c.loop-key.invariant c.in_ok-push.ensures.ok
    (ap₂ (λ key value. (key, value)) c.in_ok-copy.ensures c.in_ok-copy-2.ensures)
