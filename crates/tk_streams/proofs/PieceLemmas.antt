-- Bytes that go to a target in pieces.
use Rattle.std.proofs.Common.{◌≡◌, ◌⊎◌, ℕ, Bool, true, false, List, [], ◌++◌, sym, ap, subst, ◌∙◌, append_assoc, append-nil, inl, inr, refl}
use Rattle.std.specs.Prelude.{Option, Result, Ok, Err, OnOk, OnErr, if◌then◌else◌}
use Rattle.std.specs.Io.KnownBytes.{Appends}
use Rattle.std.proofs.KnownBytes.{Appends-nil, Appends-trans}
use Rattle.tk_streams.specs.Stream.{AppendsPrefix}
use Rattle.tk_streams.specs.Pieces.{Outgoing, outgoing, IsSent, Adds}
use Rattle.tk_streams.specs.steps.{IsWrittenTo}

not_both : false ≡ true → ⊥
not_both e = cc

-- ---- prefixes

prefix_longer : (a b : Option (List ℕ)) (text more : List ℕ) → AppendsPrefix a b text → AppendsPrefix a b (text ++ more)
prefix_longer a b text more h = (h.0, h.1 ++ more, ap (λ (t : List ℕ). t ++ more) h.2 ∙ append_assoc h.0 h.1 more, h.3)

prefix_after : (a b c : Option (List ℕ)) (xs ys : List ℕ) → Appends a b xs → AppendsPrefix b c ys → AppendsPrefix a c (xs ++ ys)
prefix_after a b c xs ys p h = (xs ++ h.0, h.1, ap (λ (t : List ℕ). xs ++ t) h.2 ∙ sym (append_assoc xs h.0 h.1), Appends-trans a b c xs h.0 p h.3)

-- ---- what was sent

-- before the first byte
pub none_sent : (c : Option (List ℕ)) (b : Bool) (waiting : List ℕ) → waiting ≡ [] → IsSent c [] (outgoing c b waiting)
none_sent c true waiting e = ([], waiting, sym e, Appends-nil c)
none_sent c false waiting e = ([], Appends-nil c, e)

prefix_sent : (start c : Option (List ℕ)) (b : Bool) (text waiting : List ℕ) → b ≡ true → AppendsPrefix start c text → IsSent start text (outgoing c b waiting)
prefix_sent start c true text waiting e h = h
prefix_sent start c false text waiting e h = absurd (not_both e)

all_sent : (start c : Option (List ℕ)) (b : Bool) (text : List ℕ) → Appends start c text → IsSent start text (outgoing c b [])
all_sent start c true text h = (text, [], sym (append-nil text), h)
all_sent start c false text h = (text, h, append-nil text)

sent_prefix : (start c : Option (List ℕ)) (b : Bool) (text waiting : List ℕ) → b ≡ true → IsSent start text (outgoing c b waiting) → AppendsPrefix start c text
sent_prefix start c true text waiting e h = h
sent_prefix start c false text waiting e h = absurd (not_both e)

-- ---- what is added

pub adds_both : (a b c : Outgoing) (xs ys : List ℕ) → Adds a b xs → Adds b c ys → Adds a c (xs ++ ys)
adds_both a b c xs ys p q = record {
  follow = λ start text h. subst (λ (t : List ℕ). IsSent start t c) (append_assoc text xs ys) (q.follow start (text ++ xs) (p.follow start text h));
}

pub adds_as : (a b : Outgoing) (xs ys : List ℕ) → xs ≡ ys → Adds a b xs → Adds a b ys
adds_as a b xs ys e h = subst (Adds a b) e h

pub adds_none : (a : Outgoing) → Adds a a []
adds_none a = record { follow = λ start text h. subst (λ (t : List ℕ). IsSent start t a) (sym (append-nil text)) h }

-- the bytes wait
pub kept : (c : Option (List ℕ)) (b : Bool) (old new bytes : List ℕ) → new ≡ old ++ bytes → Adds (outgoing c b old) (outgoing c b new) bytes
kept c b old new bytes is = record { follow = by b }
  where
    by : (broken : Bool) (start : Option (List ℕ)) (text : List ℕ) → IsSent start text (outgoing c broken old) → IsSent start (text ++ bytes) (outgoing c broken new)
    by true start text h = prefix_longer start c text bytes h
    by false start text h = (h.0, h.1, ap (λ (t : List ℕ). h.0 ++ t) is ∙ sym (append_assoc h.0 old bytes) ∙ ap (λ (t : List ℕ). t ++ bytes) h.2)

-- what waited was written together with the bytes
pub written : (c d : Option (List ℕ)) (b broken : Bool) (all waiting bytes left : List ℕ) → IsWrittenTo (outgoing c b all) (outgoing d broken left) → all ≡ waiting ++ bytes
    → Adds (outgoing c b waiting) (outgoing d broken left) bytes
written c d true broken all waiting bytes left w is = record {
  follow = λ start text h.
      let stays = w.stays_broken refl in
      prefix_sent start d broken (text ++ bytes) left stays.1 (subst (λ (e : Option (List ℕ)). AppendsPrefix start e (text ++ bytes)) (sym stays.0) (prefix_longer start c text bytes h));
}
written c d false broken all waiting bytes left w is = record { follow = λ start text h. by start text h.0 h.1 h.2 (w.written refl) }
  where
    by : (start : Option (List ℕ)) (text sent : List ℕ) → Appends start c sent → sent ++ waiting ≡ text → Appends c d all ⊎ (AppendsPrefix c d all × (broken ≡ true)) → IsSent start (text ++ bytes) (outgoing d broken left)
    by start text sent s e how =
        let whole : sent ++ all ≡ text ++ bytes = ap (λ (t : List ℕ). sent ++ t) is ∙ sym (append_assoc sent waiting bytes) ∙ ap (λ (t : List ℕ). t ++ bytes) e in
        subst (λ (t : List ℕ). IsSent start t (outgoing d broken left)) whole (elim how [
          | inl p ↦ subst (λ (t : List ℕ). IsSent start (sent ++ all) (outgoing d broken t)) (sym w.none_waits) (all_sent start d broken (sent ++ all) (Appends-trans start c d sent all s p))
          | inr p ↦ prefix_sent start d broken (sent ++ all) left p.1 (prefix_after start c d sent all s p.0)
        ])

-- ---- a piece that is full

pub taken : (r : Bool) (new old more : List ℕ) → r ≡ true → new ≡ (if r then more else old) → new ≡ more
taken true new old more e is = is
taken false new old more e is = absurd (not_both e)

pub not_taken : (r : Bool) (new old more : List ℕ) → r ≡ false → new ≡ (if r then more else old) → new ≡ old
not_taken true new old more e is = absurd (not_both (sym e))
not_taken false new old more e is = is

-- what waited was written, and the bytes wait
pub sent_then_kept : (c d : Option (List ℕ)) (b broken : Bool) (old same left new bytes : List ℕ) → same ≡ old → IsWrittenTo (outgoing c b same) (outgoing d broken left) → new ≡ left ++ bytes
    → Adds (outgoing c b old) (outgoing d broken new) bytes
sent_then_kept c d b broken old same left new bytes is w more =
    adds_both (outgoing c b old) (outgoing d broken left) (outgoing d broken new) [] bytes
    (written c d b broken same old [] left w (is ∙ sym (append-nil old)))
    (kept d broken left new bytes more)

-- what waited was written, and then the bytes were
pub sent_then_written : (c d f : Option (List ℕ)) (b broken last : Bool) (old same left new bytes : List ℕ) → same ≡ old → IsWrittenTo (outgoing c b same) (outgoing d broken left) → left ≡ [] → new ≡ left
    → IsWrittenTo (outgoing d broken bytes) (outgoing f last []) → Adds (outgoing c b old) (outgoing f last new) bytes
sent_then_written c d f b broken last old same left new bytes is w none stays v =
    subst (λ (t : List ℕ). Adds (outgoing c b old) (outgoing f last t) bytes) (sym (stays ∙ none))
    (adds_both (outgoing c b old) (outgoing d broken left) (outgoing f last []) [] bytes
    (written c d b broken same old [] left w (is ∙ sym (append-nil old)))
    (written d f broken last bytes left bytes [] v (ap (λ (t : List ℕ). t ++ bytes) (sym none))))

-- ---- the end

-- the target broke before the last byte
pub broken_prefix : (c d : Option (List ℕ)) (b broken : Bool) (waiting left : List ℕ) → IsWrittenTo (outgoing c b waiting) (outgoing d broken left) → broken ≡ true → (start : Option (List ℕ)) (text : List ℕ)
    → IsSent start text (outgoing c b waiting) → AppendsPrefix start d text
broken_prefix c d b broken waiting left w e start text h =
    let all = written c d b broken waiting waiting [] left w (sym (append-nil waiting)) in
    sent_prefix start d broken text left e (subst (λ (t : List ℕ). IsSent start t (outgoing d broken left)) (append-nil text) (all.follow start text h))

pub on_ok : {X E : Type 0} (r : Result X E) (P Q : Type 0) → (P → Q) → OnOk r P → OnOk r Q
on_ok (Ok x) P Q f h = f h
on_ok (Err e) P Q f h = tt

pub on_err : {X E : Type 0} (r : Result X E) (P Q : Type 0) → (P → Q) → OnErr r P → OnErr r Q
on_err (Ok x) P Q f h = tt
on_err (Err e) P Q f h = f h
