use Rattle.std.proofs.Common.{◌≡◌, ◌+◌, ◌<◌, ◌∷◌, [], ◌++◌, ℕ, List, length, take, get_or, Vec, Global, sym, ap, ◌∙◌, append_assoc}
use Rattle.std.proofs.lemmas.List.{append-nil, take_more}
use Rattle.tk_ids.specs.IdText.{digits_of, spelled_by, escaped}
use Rattle.tk_ids.proofs.IdLemmas.{escaped-append}
use Rattle.tk_ids.proofs.writing.push_escaped.Goals as goal
use Rattle.tk_ids.proofs.writing.push_escaped.Goals.{in-None+in_ok-push-in-None, in-Some+in_ok-extend_from_slice-in-Some}

-- one more byte is written
byte_written : (text : List ℕ) (i : ℕ) (start out new : List ℕ) → i < length text → out ≡ start ++ escaped (take i text) → new ≡ out ++ spelled_by (get_or text i 0) (digits_of (get_or text i 0))
    → new ≡ start ++ escaped (take (i + 1) text)
byte_written text i start out new lt e f =
    let b = get_or text i 0 in
    let spelled = spelled_by b (digits_of b) in
    f ∙ ap (λ l. l ++ spelled) e ∙ append_assoc start (escaped (take i text)) spelled
    ∙ ap (λ l. start ++ (escaped (take i text) ++ l)) (sym (append-nil spelled))
    ∙ ap (λ l. start ++ l) (sym (escaped-append (take i text) (b ∷ [])))
    ∙ ap (λ l. start ++ escaped l) (sym (take_more text i 0 lt))

pub returns-then-is_plain : goal.returns-then-is_plain
returns-then-is_plain c = c.in_ok-extend_from_slice.ensures.items ∙ ap (λ l. c.args.out.now.items ++ l) (c.as_bytes.ensures.value ∙ sym (c.is_plain.ensures c.if-is_plain.true))

pub loop-byte-preserved : goal.loop-byte-preserved
loop-byte-preserved c =
    let b = get_or c.as_bytes-byte-items.result.now c.loop-byte.byte-index 0 in
    let out = c.loop-byte.out.items in
    let written : c.match-digits_of_byte.out.items ≡ out ++ spelled_by b (digits_of b) = elim c.match-digits_of_byte.branch [
      | in-None+in_ok-push-in-None w ↦
          ap (λ (v : Vec ℕ Global). v.items) w.out-is ∙ w.in_ok-push-in-None.ensures.items ∙ ap (λ digits. out ++ spelled_by b digits) (sym w.in-None.is ∙ c.digits_of_byte.ensures)
      | in-Some+in_ok-extend_from_slice-in-Some w ↦
          ap (λ (v : Vec ℕ Global). v.items) w.out-is ∙ w.in_ok-extend_from_slice-in-Some.ensures.items ∙ ap (λ digits. out ++ spelled_by b digits) (sym w.in-Some.is ∙ c.digits_of_byte.ensures)
    ] in
    byte_written c.as_bytes-byte-items.result.now c.loop-byte.byte-index c.args.out.now.items out _ c.loop-byte-test.true c.loop-byte.invariant written
