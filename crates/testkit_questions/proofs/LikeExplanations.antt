-- Conditions that say the same have the same explanations.
use Rattle.std.proofs.Common.{◌≡◌, ℕ, ◌+◌, ◌++◌, ◌∷◌, [], Bool, cond, List, map, take, Option, Some, None, refl, sym, ap, ap₂, subst, ◌∙◌}
use Rattle.std.specs.List.{slice_get}
use Rattle.tk_events.specs.declared.events.Entry.{Entry}
use Rattle.tk_record.specs.Recorded.{Recorded}
use Rattle.tk_record.specs.Selections.{PositionedEntry, Selected, positions_of}
use Rattle.tk_query_conditions.specs.declared.conditions.Condition.{Condition}
use Rattle.tk_query_conditions.specs.Cond.{Cond}
use Rattle.tk_query_conditions.specs.CondOf.{cond_of}
use Rattle.tk_query.specs.Asked.{fits}
use Rattle.tk_query.specs.InOrder.{HasNoFit, IsNextFit}
use Rattle.tk_query.specs.declared.answers.Exclusive.TheVariants as exclusive
use Rattle.tk_query.specs.declared.answers.Exact.{Exact}
use Rattle.tk_query.specs.declared.answers.Exact.TheVariants as exact
use Rattle.tk_query.specs.declared.answers.Loose.TheVariants as loose
use Rattle.tk_query.specs.declared.answers.InOrder.TheVariants as in_order
use Rattle.tk_query_nearest.specs.Nearness.{IsNearest}
use Rattle.tk_explanations.specs.MatchRows.{condition_row, found_rows, lacking_row, lacks, near_rows}
use Rattle.tk_explanations.specs.Matches.{AreFirstFits, ExplainsExactly, ExplainsInOrder, ExplainsLoosely, IsLastFit, after, early_rows, exact_rows, last_of, unlike_rows}
use Rattle.tk_explanations.specs.Collisions.{ExplainsExclusive, holder_rows, names_some, writers_among, writers_said}
use Rattle.testkit_questions.proofs.UniqueReading.{AreAlike}
use Rattle.testkit_questions.proofs.UniqueReply.{as_many, exact_too, exclusive_too, in_order_too, like_at, loose_too, least_too, prefix, same_fits, same_holds}
use Rattle.tk_record_text.proofs.AnswerIsUnique.{cons_same}

-- ---- rows

append_same : {X : Type 0} (a b c d : List X) → a ≡ b → c ≡ d → a ++ c ≡ b ++ d
append_same {X = X} a b c d e f = ap₂ (λ (x y : List X). x ++ y) e f

cond_same : {X : Type 0} (b c : Bool) (x y u v : X) → b ≡ c → x ≡ y → u ≡ v → cond b x u ≡ cond c y v
cond_same b c x y u v e f g = rw (e, f, g) refl

condition_same : (k : ℕ) (c d : Condition) → cond_of c ≡ cond_of d → condition_row k c ≡ condition_row k d
condition_same k c d e = rw e refl

found_same : (k : ℕ) (cs ds : List Condition) (ps : List ℕ) → AreAlike cs ds → found_rows k cs ps ≡ found_rows k ds ps
found_same k [] [] ps like = refl
found_same k [] (d ∷ ds) ps like = absurd like
found_same k (c ∷ cs) [] ps like = absurd like
found_same k (c ∷ cs) (d ∷ ds) [] like = refl
found_same k (c ∷ cs) (d ∷ ds) (p ∷ ps) like =
    cons_same _ _ _ _ (condition_same k c d like.0) (cons_same _ _ _ _ refl (found_same (k + 1) cs ds ps like.1))

lacks_same : (r : Recorded) (c d : Condition) (x : Option Entry) → cond_of c ≡ cond_of d → lacks r c x ≡ lacks r d x
lacks_same r c d None e = refl
lacks_same r c d (Some x) e = rw e refl

lacking_same : (r : Recorded) (c d : Condition) (p : ℕ) → cond_of c ≡ cond_of d → lacking_row r c p ≡ lacking_row r d p
lacking_same r c d p e = cc (lacks_same r c d (slice_get r.entries p) e)

all_lacking_same : (r : Recorded) (c d : Condition) (ps : List ℕ) → cond_of c ≡ cond_of d → map (lacking_row r c) ps ≡ map (lacking_row r d) ps
all_lacking_same r c d [] e = refl
all_lacking_same r c d (p ∷ ps) e = cons_same _ _ _ _ (lacking_same r c d p e) (all_lacking_same r c d ps e)

near_same : (r : Recorded) (c d : Condition) (ps : List ℕ) → cond_of c ≡ cond_of d → near_rows r c ps ≡ near_rows r d ps
near_same r c d [] e = refl
near_same r c d (p ∷ ps) e = cons_same _ _ _ _ (lacking_same r c d p e) (all_lacking_same r c d ps e)

unlike_same : (r : Recorded) (k : ℕ) (cs ds : List Condition) (xs : List PositionedEntry) → AreAlike cs ds → unlike_rows r k cs xs ≡ unlike_rows r k ds xs
unlike_same r k [] [] [] like = refl
unlike_same r k [] [] (x ∷ xs) like = refl
unlike_same r k [] (d ∷ ds) xs like = absurd like
unlike_same r k (c ∷ cs) [] xs like = absurd like
unlike_same r k (c ∷ cs) (d ∷ ds) [] like = cons_same _ _ _ _ (condition_same k c d like.0) refl
unlike_same r k (c ∷ cs) (d ∷ ds) (x ∷ xs) like =
    cond_same _ _ _ _ _ _ (same_holds r c d x.entry like.0) (unlike_same r (k + 1) cs ds xs like.1)
    (cons_same _ _ _ _ (condition_same k c d like.0) (cons_same _ _ _ _ (lacking_same r c d x.position like.0) refl))

-- ---- exactly

exact_rows_same : (asked : Selected) (cs ds : List Condition) (a : Exact) → AreAlike cs ds → exact_rows asked cs a ≡ exact_rows asked ds a
exact_rows_same asked cs ds exact.Yes like = found_same 0 cs ds (positions_of asked) like
exact_rows_same asked cs ds exact.WrongCount like =
    cons_same _ _ _ _ (rw (as_many cs ds like) refl) (unlike_same asked.recorded 0 cs ds asked.kept like)
exact_rows_same asked cs ds (exact.No k) like = unlike_same asked.recorded 0 cs ds asked.kept like

pub exactly_too : (asked : Selected) (cs ds : List Condition) (y : Bool) (t : List ℕ) → AreAlike cs ds → ExplainsExactly asked cs y t → ExplainsExactly asked ds y t
exactly_too asked cs ds y t like (rows, (a, is, told, rows_are), text) =
    (rows, (a, exact_too cs ds like asked a is, told, rows_are ∙ cons_same _ _ _ _ refl (exact_rows_same asked cs ds a like)), text)

-- ---- loosely

next_too : (asked : Selected) (c d : Condition) (from p : ℕ) → cond_of c ≡ cond_of d → IsNextFit (fits asked) c from p → IsNextFit (fits asked) d from p
next_too asked c d from p e h = record {
  from_on = h.from_on;
  fit = sym (same_fits asked c d p e) ∙ h.fit;
  first = λ q on below. sym (same_fits asked c d q e) ∙ h.first q on below;
}

first_fits_too : (asked : Selected) (cs ds : List Condition) (ps : List ℕ) → AreAlike cs ds → AreFirstFits asked cs ps → AreFirstFits asked ds ps
first_fits_too asked [] [] ps like h = h
first_fits_too asked [] (d ∷ ds) ps like h = absurd like
first_fits_too asked (c ∷ cs) [] ps like h = absurd like
first_fits_too asked (c ∷ cs) (d ∷ ds) [] like h = absurd h
first_fits_too asked (c ∷ cs) (d ∷ ds) (p ∷ ps) like h = (next_too asked c d 0 p like.0 h.0, first_fits_too asked cs ds ps like.1 h.1)

near_too : (asked : Selected) (c d : Condition) (from : ℕ) (near : List ℕ) → cond_of c ≡ cond_of d → IsNearest asked from (cond_of c) near → IsNearest asked from (cond_of d) near
near_too asked c d from near e h = subst (λ (x : Cond). IsNearest asked from x near) e h

pub loosely_too : (asked : Selected) (cs ds : List Condition) (y : Bool) (t : List ℕ) → AreAlike cs ds → ExplainsLoosely asked cs y t → ExplainsLoosely asked ds y t
loosely_too asked cs ds y t like (rows, (loose.Yes, is, told, below, (found, are, below_are), rows_are), text) =
    (rows, (loose.Yes, loose_too cs ds like asked loose.Yes is, told, below, (found, first_fits_too asked cs ds found like are, below_are ∙ found_same 0 cs ds found like), rows_are), text)
loosely_too asked cs ds y t like (rows, (loose.No k, is, told, below, (c, at, near, are, below_are), rows_are), text) =
    let d = like_at cs ds k c like at in (
      rows,
      (
        loose.No k,
        loose_too cs ds like asked (loose.No k) is,
        told,
        below,
        (d.0, d.1, near, near_too asked c d.0 0 near d.2 are, below_are ∙ cons_same _ _ _ _ (condition_same k c d.0 d.2) (near_same asked.recorded c d.0 near d.2)),
        rows_are,
      ),
      text,
    )

-- ---- in order

no_fit_too : (asked : Selected) (c d : Condition) (from : ℕ) → cond_of c ≡ cond_of d → HasNoFit (fits asked) c from → HasNoFit (fits asked) d from
no_fit_too asked c d from e h = λ q on. sym (same_fits asked c d q e) ∙ h q on

last_too : (asked : Selected) (c d : Condition) (last : Option ℕ) → cond_of c ≡ cond_of d → IsLastFit asked c last → IsLastFit asked d last
last_too asked c d None e h = no_fit_too asked c d 0 e h
last_too asked c d (Some p) e h = (sym (same_fits asked c d p e) ∙ h.0, no_fit_too asked c d (p + 1) e h.1)

pub in_turn_too : (asked : Selected) (cs ds : List Condition) (y : Bool) (t : List ℕ) → AreAlike cs ds → ExplainsInOrder asked cs y t → ExplainsInOrder asked ds y t
in_turn_too asked cs ds y t like (rows, (in_order.Yes ps, is, told, below, below_are, rows_are), text) =
    (rows, (in_order.Yes ps, in_order_too asked cs ds (in_order.Yes ps) like is, told, below, below_are ∙ found_same 0 cs ds ps.items like, rows_are), text)
in_turn_too asked cs ds y t like (rows, (in_order.No k, is, told, below, h, rows_are), text) =
    let d = like_at cs ds k h.condition like h.condition_is in (
      rows,
      (
        in_order.No k,
        in_order_too asked cs ds (in_order.No k) like is,
        told,
        below,
        record {
          condition = d.0;
          condition_is = d.1;
          found = h.found;
          found_in_turn = least_too asked (take k cs) (take k ds) h.found (prefix k cs ds like) h.found_in_turn;
          early = h.early;
          early_is_last = last_too asked h.condition d.0 h.early d.2 h.early_is_last;
          near = h.near;
          near_are = near_too asked h.condition d.0 (after (last_of h.found)) h.near d.2 h.near_are;
          rows_are = h.rows_are ∙ append_same _ _ _ _
              (append_same _ _ _ _ (found_same 0 cs ds h.found like) (cons_same _ _ (early_rows (last_of h.found) h.early) (early_rows (last_of h.found) h.early) (condition_same k h.condition d.0 d.2) refl))
              (near_same asked.recorded h.condition d.0 h.near d.2);
        },
        rows_are,
      ),
      text,
    )

-- ---- writers and readers

module _ (asked : Selected) (w v r s : Condition) (writers : cond_of w ≡ cond_of v) (readers : cond_of r ≡ cond_of s) where
  said_same : (p q : ℕ) → writers_said asked w r p q ≡ writers_said asked v s p q
  said_same p q =
      cond_same (names_some (cond_of r)) (names_some (cond_of s)) _ _ _ _
      (ap names_some readers)
      (ap₂ writers_among (same_fits asked w v p writers) (same_fits asked w v q writers)) refl

  holder_rows_same : holder_rows asked w r ≡ holder_rows asked v s
  holder_rows_same = rw (writers, readers) refl

pub holders_too :
    (asked : Selected) (w v r s : Condition) (y : Bool) (t : List ℕ) →
    cond_of w ≡ cond_of v → cond_of r ≡ cond_of s →
    ExplainsExclusive asked w r y t → ExplainsExclusive asked v s y t
holders_too asked w v r s y t writers readers (rows, (exclusive.Yes, is, told, below, are, rows_are), text) =
    let too = exclusive_too asked w v r s writers readers exclusive.Yes is in
    (rows, (exclusive.Yes, too, told, below, are, rows_are), text)
holders_too asked w v r s y t writers readers (rows, (exclusive.No p q, is, told, below, are, rows_are), text) =
    let too = exclusive_too asked w v r s writers readers (exclusive.No p q) is in
    let said = said_same asked w v r s writers readers p q in
    (rows, (exclusive.No p q, too, told, below, (are.0, are.1, are.2, are.3, rw (sym said) are.4), rows_are), text)
holders_too asked w v r s y t writers readers (rows, (exclusive.NoPair, is, told, below, are, rows_are), text) =
    let too = exclusive_too asked w v r s writers readers exclusive.NoPair is in
    (rows, (exclusive.NoPair, too, told, below, are ∙ holder_rows_same asked w v r s writers readers, rows_are), text)
