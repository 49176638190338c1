use Rattle.std.proofs.Common.{◌≡◌, ◌++◌, List, ℕ, take, drop, append_assoc, take-append-drop, sym, ap, ◌∙◌}
use Rattle.std.proofs.lemmas.List.{take_rest}
use Rattle.tk_streams.proofs.Known.{Appends-then}
use Rattle.tk_streams.proofs.transfers.write_all.Goals as goal

parts : (bytes prefix rest : List ℕ) (count : ℕ) → bytes ≡ prefix ++ rest → bytes ≡ (prefix ++ take count rest) ++ drop count rest
parts bytes prefix rest count e = e ∙ ap (λ (t : List ℕ). prefix ++ t) (sym (take-append-drop count rest)) ∙ sym (append_assoc prefix (take count rest) (drop count rest))

pub loop-rest-preserved : goal.loop-rest-preserved
loop-rest-preserved g c =
    let rest = c.loop-rest.rest.now in
    let count = c.in_ok-count.count in
    (c.loop-rest.invariant.0 ++ take count rest, rw take_rest (parts c.args.bytes.now c.loop-rest.invariant.0 rest count c.loop-rest.invariant.1), Appends-then _ _ _ _ _ c.loop-rest.invariant.2 c.in_ok-count.ensures.bytes.1)
