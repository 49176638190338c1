-- Each step of a book keeps its rule.
use Rattle.std.proofs.Common.{◌≡◌, ℕ, eqb, ◌+◌, ◌-◌, ◌*◌, ◌%◌, ◌^◌, ◌<◌, ◌≤◌, inl, inr, Option, Some, None, List, [], ◌∷◌, ◌++◌, length, get_or, set, replicate, sum_by, refl, sym, ap, ◌∙◌, zero-add, length-append, arith, subst}
use mathlib.Core.Option as maybe
use mathlib.Core.Option.{some-injective}
use lib.ListN.{get_elem?}
use prog.Atomic.{either}
use Rattle.std.proofs.lemmas.List.Sums.{sum_by-append, sum_by-cons}
use Rattle.std.proofs.lemmas.List.Folds.{sum_by-replicate}
use Rattle.std.proofs.lemmas.List.Concat.{flat_map-append}
use Rattle.std.proofs.lemmas.List.{length-replicate, append-nil}
use Rattle.atomic_table.specs.Table.{State, Me, Act, Valid, step, keeps, stepped, carried_after, Allows, Splits, Joins, Seen, Final, opening}
use Rattle.atomic_table.proofs.Lists.{exchanged}
use Rattle.tk_lanes.specs.Lanes.{lane_at, Admits}
use Rattle.tk_locks.specs.NeedView.{NeedView}
use Rattle.tk_locks.specs.Needs.{lane, word_of}
use Rattle.tk_locks.specs.Holdings.{AreCompatible, WereHeld, held_lane, held_word}
use Rattle.tk_locks.specs.declared.rules.SeatNote.{SeatNote}
use Rattle.tk_locks.specs.LockWord.{seat_note, holdings, HoldingsFitWord, WordWasLoaded, WasExchanged, WasReleased}
use Rattle.tk_locks.proofs.LaneConflicts.{lanes_agree, sum_lane, word_lt, word_lane}
use Rattle.tk_locks.proofs.ListSums.{set_there, flat_turn, flat_same, flat_part, length_turn, flat_lone}

abbrev lane_sum : List SeatNote → ℕ → ℕ
lane_sum views r = sum_by (λ h. held_lane h r) (holdings views)

abbrev word_sum : List SeatNote → ℕ
word_sum views = sum_by held_word (holdings views)

abbrev held_of : SeatNote → List (Option NeedView)
held_of v = v.held

-- one seat's view changes, and the word with it
turned : (seats id : ℕ) (me : Me NeedView SeatNote) (w : SeatNote) (s : State NeedView SeatNote) (n : ℕ) → HoldingsFitWord seats s → get_elem? s.views id ≡ maybe.some me.0 → length w.held ≡ length me.0.held → n ≡ word_sum (set s.views id w)
    → ((r : ℕ) → r < 16 → lane_sum (set s.views id w) r ≤ 15) → HoldingsFitWord seats (stepped s 0 n id me.1 w keeps)
turned seats id me w s n kept at same_length word lanes = record {
  word = ap (λ (l : List ℕ). set l 0 n) kept.word ∙ ap (λ (k : ℕ). k ∷ []) word;
  lanes = lanes;
  compatible = lanes_agree (holdings (set s.views id w)) lanes;
  count = (let e = length_turn held_of s.views id me.0 w at in let c = kept.count in omega arith);
}

-- the seat holds the same
same_lanes : (seats id : ℕ) (v w : SeatNote) (s : State NeedView SeatNote) → HoldingsFitWord seats s → get_elem? s.views id ≡ maybe.some v → w.held ≡ v.held → (r : ℕ) → r < 16 → lane_sum (set s.views id w) r ≤ 15
same_lanes seats id v w s kept at same r lt = let e = flat_same (λ h. held_lane h r) held_of s.views id v w at same in let b = kept.lanes r lt in omega arith

read_more : (seats id : ℕ) (me : Me NeedView SeatNote) (s : State NeedView SeatNote) (seen : List ℕ) → HoldingsFitWord seats s → get_elem? s.views id ≡ maybe.some me.0
    → HoldingsFitWord seats (stepped s 0 (get_or s.words 0 0) id me.1 (seat_note me.0.seats me.0.held seen) keeps)
read_more seats id me s seen kept at = let w = seat_note me.0.seats me.0.held seen in
    turned seats id me w s (get_or s.words 0 0) kept at refl (ap (λ (l : List ℕ). get_or l 0 0) kept.word ∙ sym (flat_same held_word held_of s.views id me.0 w at refl)) (same_lanes seats id me.0 w s kept at refl)

sum_single : (f : Option NeedView → ℕ) (h : Option NeedView) (held : List (Option NeedView)) → held ≡ h ∷ [] → sum_by f held ≡ f h
sum_single f h held one = ap (sum_by f) one ∙ zero-add (f h)

-- what the seats hold, where no lane is above 15 and the word is its sum
held_in : (seats : ℕ) (views : List SeatNote) (id : ℕ) (v : SeatNote) (own : Option NeedView) (word : ℕ)
    → get_elem? views id ≡ maybe.some v → v.held ≡ own ∷ [] → length (holdings views) ≡ seats
    → ((r : ℕ) → r < 16 → lane_sum views r ≤ 15) → word ≡ word_sum views → WereHeld seats own word
held_in seats views id v own word at one count lanes sum =
    let spent = seat_note 0 [] [] in
    let others : List (Option NeedView) = holdings (set views id spent) in
    let same : (f : Option NeedView → ℕ) → sum_by f (own ∷ others) ≡ sum_by f (holdings views) = λ f. (
    let t = flat_turn f held_of views id v spent at in let o = sum_single f own v.held one in
    let c = sum_by-cons f own others in omega arith) in record {
      others = others;
      count = (let t = length_turn held_of views id v spent at in let o = ap (λ (l : List (Option NeedView)). length l) one in omega arith);
      compatible = lanes_agree (own ∷ others) (λ r lt. (let e = same (λ h. held_lane h r) in let b = lanes r lt in omega arith));
      sum = sum ∙ sym (same held_word);
    }

module _ (seats slots id : ℕ) (me : Me NeedView SeatNote) where
  pub looks : me.0.seats ≡ seats → Allows (HoldingsFitWord seats) slots id me 0 (λ n. n) (WordWasLoaded (step slots 0 0 0 maybe.none) me)
  looks known s kept _ at _ = let x : ℕ = get_or s.words 0 0 in (
    seat_note me.0.seats me.0.held (me.0.seen ++ x ∷ []),
    keeps,
    tt,
    read_more seats id me s (me.0.seen ++ x ∷ []) kept at,
    (
      refl,
      (λ r lt. let e = sum_lane (holdings s.views) kept.lanes r lt in let p = flat_part (λ h. held_lane h r) held_of s.views id me.0 at in let q = ap (λ (l : List ℕ). lane_at (get_or l 0 0) r) kept.word in omega arith),
      λ own one. held_in me.0.seats s.views id me.0 own x at one (kept.count ∙ sym known) kept.lanes
          (ap (λ (l : List ℕ). get_or l 0 0) kept.word),
    ),
  )

  pub takes : me.0.seats ≡ seats → (n : NeedView) (old word : ℕ) → word ≡ word_of n → me.0.held ≡ None ∷ [] → Admits old word
      → Allows (HoldingsFitWord seats) slots id me 0 (λ x. either (eqb x old) (old + word) x) (WasExchanged (step slots 0 old (old + word) (maybe.some n)) me)
  takes known n old word is empty room s kept _ at _ = let x : ℕ = get_or s.words 0 0 in let then = WasExchanged (step slots 0 old (old + word) (maybe.some n)) me in
      exchanged x old (old + word) (λ m. (w : SeatNote) × (a : Act NeedView) × Valid s.homes me.1 a × HoldingsFitWord seats (stepped s 0 m id me.1 w a) × then x (w, carried_after me.1 a))
      (λ hit. let w = seat_note me.0.seats (Some n ∷ []) me.0.seen in
      let views : List SeatNote = set s.views id w in
      let q : old ≡ word_sum s.views = sym hit ∙ ap (λ (l : List ℕ). get_or l 0 0) kept.word in
      let sum : old + word ≡ word_sum views = (
      let e = flat_turn held_word held_of s.views id me.0 w at in
      let z = sum_single held_word None me.0.held empty in
      let y = sum_single held_word (Some n) (Some n ∷ []) refl in omega arith) in
      let lanes : (r : ℕ) → r < 16 → lane_sum views r ≤ 15 = λ r lt. (
      let e = flat_turn (λ h. held_lane h r) held_of s.views id me.0 w at in
      let z = sum_single (λ h. held_lane h r) None me.0.held empty in
      let y = sum_single (λ h. held_lane h r) (Some n) (Some n ∷ []) refl in
      let a = room r lt in
      let l : lane_at word r ≡ lane n r = ap (λ (m : ℕ). lane_at m r) is ∙ word_lane n r lt in
      let k = sum_lane (holdings s.views) kept.lanes r lt in
      let p : lane_at old r ≡ lane_at (word_sum s.views) r = ap (λ (m : ℕ). lane_at m r) q in
      omega arith) in
      let count : length (holdings views) ≡ me.0.seats = (
      let t = length_turn held_of s.views id me.0 w at in
      let e = ap (λ (l : List (Option NeedView)). length l) empty in
      let k = kept.count in omega arith) in (
        w,
        keeps,
        tt,
        turned seats id me w s (old + word) kept at
            (sym (ap (λ (l : List (Option NeedView)). length l) empty)) sum lanes,
        inl (
          hit,
          record {
            after = refl;
            together = λ m said none.
                subst (λ (k : NeedView). WereHeld me.0.seats (Some k) (old + word)) (some-injective n m said)
                (held_in me.0.seats views id w (Some n) (old + word)
                (set_there s.views id me.0 w at) refl count lanes sum);
          },
        ),
      ))
      (λ miss. (seat_note me.0.seats me.0.held (me.0.seen ++ x ∷ []), keeps, tt, read_more seats id me s (me.0.seen ++ x ∷ []) kept at, inr (miss, refl)))

  pub gives : (n : NeedView) (k : ℕ) → k ≡ word_of n → me.0.held ≡ Some n ∷ [] → Allows (HoldingsFitWord seats) slots id me 0 (λ x. (x + (2 ^ 64 - k)) % 2 ^ 64) (WasReleased (step slots 0 k 0 maybe.none) me)
  gives n k is one s kept _ at fits = let x : ℕ = get_or s.words 0 0 in let w = seat_note me.0.seats (None ∷ []) me.0.seen in
      let q : x ≡ word_sum s.views = ap (λ (l : List ℕ). get_or l 0 0) kept.word in
      let e = flat_turn held_word held_of s.views id me.0 w at in let z = sum_single held_word (Some n) me.0.held one in let y = sum_single held_word None (None ∷ []) refl in
      let small = word_lt n in let bound : x < 2 ^ 64 = fits in (
        w,
        keeps,
        tt,
        turned seats id me w s ((x + (2 ^ 64 - k)) % 2 ^ 64) kept at (sym (ap (λ (l : List (Option NeedView)). length l) one)) (omega arith)
            (λ r lt. let t = flat_turn (λ h. held_lane h r) held_of s.views id me.0 w at in let c = sum_single (λ h. held_lane h r) None (None ∷ []) refl in let b = kept.lanes r lt in omega arith),
        refl,
      )

-- seats that hold nothing weigh nothing
none_sum : (f : Option NeedView → ℕ) → f None ≡ 0 → (n : ℕ) → sum_by f (replicate n None) ≡ 0
none_sum f z n = sum_by-replicate f n None ∙ ap (λ (k : ℕ). n * k) z ∙ (omega arith)

-- the book begins with nothing held, and the first view is of all seats
pub opens : (seats : ℕ) → HoldingsFitWord seats (opening (0 ∷ []) [] (seat_note seats (replicate seats None) []))
opens seats = let all : holdings (seat_note seats (replicate seats None) [] ∷ []) ≡ replicate seats None = append-nil (replicate seats None) in
    let lanes : (r : ℕ) → r < 16 → lane_sum (seat_note seats (replicate seats None) [] ∷ []) r ≤ 15 = λ r lt. (let e = ap (sum_by (λ h. held_lane h r)) all in let z = none_sum (λ h. held_lane h r) refl seats in omega arith) in record {
      word = ap (λ (k : ℕ). k ∷ []) (sym (ap (sum_by held_word) all ∙ none_sum held_word refl seats));
      lanes = lanes;
      compatible = lanes_agree (holdings (seat_note seats (replicate seats None) [] ∷ [])) lanes;
      count = ap (λ (l : List (Option NeedView)). length l) all ∙ length-replicate seats None;
    }

-- a view of several empty seats gives one of them away
pub splits : (seats id : ℕ) (v : SeatNote) (k : ℕ) → 0 < k → v.held ≡ replicate k None → Splits (HoldingsFitWord seats) id v (seat_note v.seats (replicate (length v.held - 1) None) []) (seat_note v.seats (None ∷ []) [])
splits seats id v k some_seat empty s kept at = let left = seat_note v.seats (replicate (length v.held - 1) None) [] in let right = seat_note v.seats (None ∷ []) [] in let views : List SeatNote = set s.views id left in
    let whole : holdings (views ++ right ∷ []) ≡ holdings views ++ None ∷ [] = flat_map-append held_of views (right ∷ []) in
    let same : (f : Option NeedView → ℕ) → f None ≡ 0 → sum_by f (holdings (views ++ right ∷ [])) ≡ sum_by f (holdings s.views) = λ f z. (
    let t = flat_turn f held_of s.views id v left at in let a = ap (sum_by f) whole in let p = sum_by-append f (holdings views) (None ∷ []) in let o = sum_single f None (None ∷ []) refl in
    let l = none_sum f z (length v.held - 1) in let m : sum_by f v.held ≡ 0 = ap (sum_by f) empty ∙ none_sum f z k in omega arith) in
    let lanes : (r : ℕ) → r < 16 → lane_sum (views ++ right ∷ []) r ≤ 15 = λ r lt. (let e = same (λ h. held_lane h r) refl in let b = kept.lanes r lt in omega arith) in record {
      word = kept.word ∙ ap (λ (n : ℕ). n ∷ []) (sym (same held_word refl));
      lanes = lanes;
      compatible = lanes_agree (holdings (views ++ right ∷ [])) lanes;
      count = (let t = length_turn held_of s.views id v left at in let a = ap (λ (l : List (Option NeedView)). length l) whole in let p = length-append (holdings views) (None ∷ []) in
          let o = length-replicate {A = Option NeedView} (length v.held - 1) None in let m : length v.held ≡ k = ap (λ (l : List (Option NeedView)). length l) empty ∙ length-replicate k None in let c = kept.count in omega arith);
    }

-- a view takes in what the seats of another hold
pub joins : (seats id : ℕ) (v : SeatNote) (other : ℕ) (w : SeatNote) → Joins (HoldingsFitWord seats) id v other w (seat_note v.seats (w.held ++ v.held) []) (seat_note 0 [] [])
joins seats id v other w s kept at ne there = let both = seat_note v.seats (w.held ++ v.held) [] in let left = seat_note 0 [] [] in let views : List SeatNote = set s.views id both in
    let same : (f : Option NeedView → ℕ) → sum_by f (holdings (set views other left)) ≡ sum_by f (holdings s.views) = λ f. (
    let t = flat_turn f held_of s.views id v both at in let u = flat_turn f held_of views other w left there in let p = sum_by-append f w.held v.held in omega arith) in
    let lanes : (r : ℕ) → r < 16 → lane_sum (set views other left) r ≤ 15 = λ r lt. (let e = same (λ h. held_lane h r) in let b = kept.lanes r lt in omega arith) in record {
      word = kept.word ∙ ap (λ (n : ℕ). n ∷ []) (sym (same held_word));
      lanes = lanes;
      compatible = lanes_agree (holdings (set views other left)) lanes;
      count = (let t = length_turn held_of s.views id v both at in let u = length_turn held_of views other w left there in let p = length-append w.held v.held in let c = kept.count in omega arith);
    }

-- the view of all seats knows in the end what the word is
pub into_word_steps : (seats id : ℕ) (v : SeatNote) (words : List ℕ) (slots : List NeedView) (n : ℕ) → Final (Seen (HoldingsFitWord seats) id v) words slots → length v.held ≡ seats → get_elem? words 0 ≡ maybe.some n → (n ≡ sum_by held_word v.held) × AreCompatible v.held
into_word_steps seats id v words slots n final whole found = let s = final.0 in let kept = final.1.0 in let at = final.1.1 in
    let all : holdings s.views ≡ v.held = flat_lone held_of s.views id v at (kept.count ∙ sym whole) in
    let is : word_sum s.views ≡ n = some-injective (word_sum s.views) n (ap (λ (l : List ℕ). get_elem? l 0) (sym kept.word ∙ final.2) ∙ found) in
    (sym is ∙ ap (sum_by held_word) all, subst AreCompatible all kept.compatible)
