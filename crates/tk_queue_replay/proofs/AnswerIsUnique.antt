-- An input has one answer.
use Rattle.std.proofs.Common.{◌≡◌, ◌≢◌, ◌⊎◌, ◌≤◌, ◌+◌, ℕ, zero, suc, List, [], ◌∷◌, ◌++◌, length, take, slice_get, Some, Result, Ok, Err, refl, sym, ap, subst, ◌∙◌, append_assoc, append-nil, arith, inl, inr, ⊎_elim}
use Rattle.std.proofs.lemmas.Option.{same_Some, none-some}
use Rattle.std.proofs.lemmas.List.{append_cancel_left}
use Rattle.tk_ids.specs.declared.descriptors.Descriptor.{Descriptor}
use Rattle.tk_events.specs.declared.events.Event.{Event}
use Rattle.tk_events.specs.declared.events.Entry.{Entry}
use Rattle.tk_record.specs.Recorded.{Recorded}
use Rattle.tk_record.specs.Lines.{entry_line, with_line_feed}
use Rattle.tk_record_text.specs.Spelling.{node_line}
use Rattle.tk_record_text.specs.declared.versions.Version.{Version}
use Rattle.tk_record_text.specs.steps.Reading.{in_line}
use Rattle.tk_record_text.specs.Text.{nodes_text, entries_text}
use Rattle.tk_record_text.specs.NodeLines.{LacksNode}
use Rattle.tk_record_text.proofs.Forms.{one_value}
use Rattle.tk_record_text.proofs.AnswerIsUnique.{same_entry, cons_same, one_nodes}
use Rattle.tk_record_text.proofs.Headers.{one_header}
use Rattle.tk_record_text.proofs.After.{same_line, regroup, no_node_at_entry, node_begins, cells}
use Rattle.tk_queue_replay.specs.declared.turns.Turn.{Turn}
use Rattle.tk_queue_replay.specs.declared.replays.ReplayFault.{ReplayFault}
use Rattle.tk_queue_replay.specs.declared.replays.ReplayFault.TheVariants as faults
use Rattle.tk_queue_session.specs.Limits.{most_workers}
use Rattle.tk_queue_replay.specs.Replay.{Moment, Stop, Faulty, Refuses, turn_step, after, plays, start, StopsAt}
use Rattle.tk_queue_replay.specs.Script.{IsCount, workers_line, AreTurns, turns_line}
use Rattle.tk_queue_replay.specs.steps.Replay.{workers_of, turns_of}
use Rattle.tk_queue_replay.specs.ReplayText.{Scenario, IsReplayVersion, AreListed, header, TextHead, text_head, IsOwn, AreOwn, scripts_by, input_of, NoCount, NoLineOf, IsBad, IsTextOf, IsPlayed}
use Rattle.tk_queue_replay.specs.Laws.{IsSettled, AnswerIsUnique}
use Rattle.tk_queue_replay.proofs.ScriptForms.{workers_line_form, turns_line_form, workers_no_feed, turns_no_feed}
use Rattle.tk_queue_replay.proofs.TextSteps.{turns_begins, entry_begins, scripts_long}

-- ---- lines that stand at one place are one

same_with_line_feed : (x y a b : List ℕ) → with_line_feed x ++ a ≡ with_line_feed y ++ b → x ++ 10 ∷ a ≡ y ++ 10 ∷ b
same_with_line_feed x y a b e = sym (regroup x a) ∙ e ∙ regroup y b

same_count : (n m : ℕ) (a b : List ℕ) → IsCount n → IsCount m → with_line_feed (workers_line n) ++ a ≡ with_line_feed (workers_line m) ++ b → (n ≡ m) × (a ≡ b)
same_count n m a b p q e =
    let s = same_line (workers_line n) (workers_line m) a b (workers_no_feed n p) (workers_no_feed m q) (same_with_line_feed (workers_line n) (workers_line m) a b e) in
    (one_value (in_line workers_of) IsCount workers_line workers_line_form n m p q s.0, s.1)

same_turns : (n : ℕ) (x y : List Turn) (a b : List ℕ) → n ≤ most_workers → AreTurns n x → AreTurns n y → with_line_feed (turns_line x) ++ a ≡ with_line_feed (turns_line y) ++ b → (x ≡ y) × (a ≡ b)
same_turns n x y a b few p q e =
    let s = same_line (turns_line x) (turns_line y) a b (turns_no_feed n few x p) (turns_no_feed n few y q) (same_with_line_feed (turns_line x) (turns_line y) a b e) in
    (one_value (in_line (turns_of n)) (AreTurns n) turns_line (turns_line_form n few) x y p q s.0, s.1)

-- ---- two ways to cut a list of lines and what blocks it are one

abbrev EntryBlock : TextHead → List ℕ → Type 0
EntryBlock head rest = (e : Entry) (more : List ℕ) → IsOwn head e → rest ≢ with_line_feed (entry_line e) ++ more

one_entries : (head : TextHead) (a c : List Entry) (x y : List ℕ) → AreOwn head a → AreOwn head c → EntryBlock head x → EntryBlock head y → entries_text a ++ x ≡ entries_text c ++ y → (a ≡ c) × (x ≡ y)
one_entries head [] [] x y f g lx ly e = (refl, e)
one_entries head [] (d ∷ c) x y f g lx ly e = absurd (lx d (entries_text c ++ y) g.0 (e ∙ append_assoc (with_line_feed (entry_line d)) (entries_text c) y))
one_entries head (d ∷ a) [] x y f g lx ly e = absurd (ly d (entries_text a ++ x) f.0 (sym e ∙ append_assoc (with_line_feed (entry_line d)) (entries_text a) x))
one_entries head (d ∷ a) (b ∷ c) x y f g lx ly e =
    let s = same_entry d b (entries_text a ++ x) (entries_text c ++ y) f.0.0.line g.0.0.line (sym (append_assoc (with_line_feed (entry_line d)) (entries_text a) x) ∙ e ∙ append_assoc (with_line_feed (entry_line b)) (entries_text c) y) in
    let more = one_entries head a c x y f.1 g.1 lx ly s.1 in
    (cons_same d b a c s.0 more.0, more.1)

-- ---- where reading stops after the number of workers

-- what stands after the descriptors and the entries: nothing that may follow, or the line of the turns and what is after it
data Tail (head : TextHead) (table : List Descriptor) (entries : List Entry) (rest : List ℕ) : Type 0 where
  bad : NoLineOf head table entries rest → Tail head table entries rest
  turned : (turns : List Turn) (last : List ℕ) → AreTurns head.workers turns → rest ≡ with_line_feed (turns_line turns) ++ last → Tail head table entries rest

not_node : (b : ℕ) → b ≡ 83 → b ≡ 78 → ⊥
not_node b p q = omega arith

not_entry : (b : ℕ) → b ≡ 83 → b ≡ 69 → ⊥
not_entry b p q = omega arith

no_node_at_turns : (turns : List Turn) (last : List ℕ) (d : Descriptor) (m : List ℕ) → with_line_feed (turns_line turns) ++ last ≢ with_line_feed (node_line d) ++ m
no_node_at_turns turns last d m e =
    let s = turns_begins turns last in let b = node_begins d m in not_node 83 refl (cells 83 78 s.0 (124 ∷ b.0) (sym s.1 ∙ e ∙ b.1))

no_entry_at_turns : (turns : List Turn) (last : List ℕ) (x : Entry) (m : List ℕ) → with_line_feed (turns_line turns) ++ last ≢ with_line_feed (entry_line x) ++ m
no_entry_at_turns turns last x m e =
    let s = turns_begins turns last in let b = entry_begins x m in not_entry 83 refl (cells 83 69 s.0 (124 ∷ b.0) (sym s.1 ∙ e ∙ b.1))

tail_blocks_entries : (head : TextHead) (table : List Descriptor) (entries : List Entry) (rest : List ℕ) → Tail head table entries rest → EntryBlock head rest
tail_blocks_entries head table entries rest (bad none) = none.entry
tail_blocks_entries head table entries rest (turned turns last are is) = λ e m _ eq. no_entry_at_turns turns last e m (sym is ∙ eq)

tail_blocks_nodes : (head : TextHead) (table : List Descriptor) (entries : List Entry) (rest : List ℕ) → Tail head table entries rest → (es : List Entry) → entries ≡ es → LacksNode table (entries_text es ++ rest)
tail_blocks_nodes head table entries rest (bad none) [] is = λ d m has takes. none.node d m is has takes
tail_blocks_nodes head table entries rest (turned turns last are at) [] is = λ d m _ _ eq. no_node_at_turns turns last d m (sym at ∙ eq)
tail_blocks_nodes head table entries rest t (e ∷ es) is = λ d m _ _ eq. no_node_at_entry e (entries_text es ++ rest) d m (sym (append_assoc (with_line_feed (entry_line e)) (entries_text es) rest) ∙ eq)

-- ---- turns

abbrev fault_at : ℕ → Stop → ReplayFault
fault_at i Faulty = faults.AfterEnd i
fault_at i (Refuses f) = faults.Append i f

abbrev run_step : Result Moment Stop → ℕ → (Moment → Result Recorded ReplayFault) → Result Recorded ReplayFault
run_step (Ok m) i f = f m
run_step (Err why) i f = Err (fault_at i why)

-- what playing the turns from turn i on comes to
run : List (List Event) → List Turn → ℕ → Moment → Result Recorded ReplayFault
run scripts [] i m = Ok m.taken
run scripts (t ∷ turns) i m = run_step (turn_step scripts m t) i (run scripts turns (i + 1))

run_played : (scripts : List (List Event)) (turns : List Turn) (i : ℕ) (m x : Moment) → plays scripts turns m ≡ Some x → run scripts turns i m ≡ Ok x.taken
unfolding run
run_played scripts [] i m x e = ap (λ (y : Moment). Ok y.taken) (same_Some m x e)
run_played scripts (t ∷ turns) i m x e =
    elim (turn_step scripts m t) as (λ r. after r (plays scripts turns) ≡ Some x → run_step r i (run scripts turns (i + 1)) ≡ Ok x.taken)
    [ Ok y ↦ λ h. run_played scripts turns (i + 1) y x h | Err why ↦ λ h. absurd (none-some x h) ] e

run_stopped : (scripts : List (List Event)) (turns : List Turn) (i j : ℕ) (m x : Moment) (t : Turn) (why : Stop) → plays scripts (take j turns) m ≡ Some x → slice_get turns j ≡ Some t → turn_step scripts x t ≡ Err why
    → run scripts turns i m ≡ Err (fault_at (i + j) why)
unfolding run
run_stopped scripts [] i j m x t why e at stops = absurd (none-some t at)
run_stopped scripts (u ∷ turns) i zero m x t why e at stops =
    let here : turn_step scripts m u ≡ Err why = ap (λ (y : Moment × Turn). turn_step scripts y.0 y.1) (λ k. (same_Some m x e k, same_Some u t at k)) ∙ stops in
    ap (λ r. run_step r i (run scripts turns (i + 1))) here ∙ ap (λ n. Err (fault_at n why)) (let z : i ≡ i + 0 = omega arith in z)
run_stopped scripts (u ∷ turns) i (suc j) m x t why e at stops =
    elim (turn_step scripts m u) as (λ r. after r (plays scripts (take j turns)) ≡ Some x → run_step r i (run scripts turns (i + 1)) ≡ Err (fault_at (i + suc j) why)) [
      | Ok y ↦ λ h. run_stopped scripts turns (i + 1) j y x t why h at stops ∙ ap (λ n. Err (fault_at n why)) (let z : (i + 1) + j ≡ i + suc j = omega arith in z)
      | Err w ↦ λ h. absurd (none-some x h)
    ] e

-- ---- what an answer says of where reading stopped

-- the answer at that tail
abbrev Verdict : (head : TextHead) (table : List Descriptor) (entries : List Entry) (rest : List ℕ) → Tail head table entries rest → Result Recorded ReplayFault → Type 0
Verdict head table entries rest (bad none) a = a ≡ Err (faults.BadLine (length table + length entries + 3))
Verdict head table entries rest (turned turns last are is) a =
    ((last ≢ []) × (a ≡ Err (faults.BadLine (length table + length entries + 4)))) ⊎ ((last ≡ []) × (a ≡ run (scripts_by entries head.workers) turns 0 (start table (length (scripts_by entries head.workers)))))

-- the answer to what stands after the number of workers
record AnsweredAt (head : TextHead) (input : List ℕ) (a : Result Recorded ReplayFault) : Type 0 where
  table : List Descriptor
  entries : List Entry
  rest : List ℕ
  prefix : input ≡ nodes_text table ++ (entries_text entries ++ rest)
  nodes : AreListed table
  own : AreOwn head entries
  tail : Tail head table entries rest
  verdict : Verdict head table entries rest tail a

same_line_number : (n : ℕ) (t u : List Descriptor) (es fs : List Entry) → t ≡ u → es ≡ fs → length t + length es + n ≡ length u + length fs + n
same_line_number n t u es fs p q = λ i. length (p i) + length (q i) + n

agree : (head : TextHead) (t u : List Descriptor) (es fs : List Entry) (r s : List ℕ) (x : Tail head t es r) (y : Tail head u fs s) (a b : Result Recorded ReplayFault) → head.workers ≤ most_workers → t ≡ u → es ≡ fs → r ≡ s → Verdict head t es r x a → Verdict head u fs s y b → a ≡ b
agree head t u es fs r s (bad none) (bad other) a b few p q e v w = v ∙ ap (λ k. Err (faults.BadLine k)) (same_line_number 3 t u es fs p q) ∙ sym w
agree head t u es fs r s (bad none) (turned ts last are is) a b few p q e v w = absurd (none.turns ts last are (e ∙ is))
agree head t u es fs r s (turned ts last are is) (bad none) a b few p q e v w = absurd (none.turns ts last are (sym e ∙ is))
agree head t u es fs r s (turned ts last are is) (turned others end those at) a b few p q e v w =
    let same = same_turns head.workers ts others last end few are those (sym is ∙ e ∙ at) in
    ⊎_elim
    (λ (x : (last ≢ []) × (a ≡ Err (faults.BadLine (length t + length es + 4)))). ⊎_elim
    (λ (y : (end ≢ []) × (b ≡ Err (faults.BadLine (length u + length fs + 4)))). x.1 ∙ ap (λ k. Err (faults.BadLine k)) (same_line_number 4 t u es fs p q) ∙ sym y.1)
    (λ (y : (end ≡ []) × (b ≡ run (scripts_by fs head.workers) others 0 (start u (length (scripts_by fs head.workers))))). absurd (x.0 (same.1 ∙ y.0))) w)
    (λ (x : (last ≡ []) × (a ≡ run (scripts_by es head.workers) ts 0 (start t (length (scripts_by es head.workers))))). ⊎_elim
    (λ (y : (end ≢ []) × (b ≡ Err (faults.BadLine (length u + length fs + 4)))). absurd (y.0 (sym same.1 ∙ x.0)))
    (λ (y : (end ≡ []) × (b ≡ run (scripts_by fs head.workers) others 0 (start u (length (scripts_by fs head.workers))))).
    x.1 ∙ (λ i. run (scripts_by (q i) head.workers) (same.0 i) 0 (start (p i) (length (scripts_by (q i) head.workers)))) ∙ sym y.1) w)
    v

one_verdict : (head : TextHead) (input : List ℕ) (a b : Result Recorded ReplayFault) → head.workers ≤ most_workers → AnsweredAt head input a → AnsweredAt head input b → a ≡ b
one_verdict head input a b few p q =
    let s = one_nodes [] p.table q.table (entries_text p.entries ++ p.rest) (entries_text q.entries ++ q.rest) p.nodes.0 q.nodes.0 p.nodes.1 q.nodes.1
    (tail_blocks_nodes head p.table p.entries p.rest p.tail p.entries refl) (tail_blocks_nodes head q.table q.entries q.rest q.tail q.entries refl) (sym p.prefix ∙ q.prefix) in
    let m = one_entries head p.entries q.entries p.rest q.rest p.own q.own (tail_blocks_entries head p.table p.entries p.rest p.tail) (tail_blocks_entries head q.table q.entries q.rest q.tail) s.1 in
    agree head p.table q.table p.entries q.entries p.rest q.rest p.tail q.tail a b few s.0 m.0 m.1 p.verdict q.verdict

-- ---- what an answer says of the input

data Answered (input : List ℕ) (a : Result Recorded ReplayFault) : Type 0 where
  headless : ((version : Version) (rest : List ℕ) → IsReplayVersion version → input ≢ header version ++ rest) → a ≡ Err faults.NoHeader → Answered input a
  uncounted : (version : Version) (body : List ℕ) → IsReplayVersion version → input ≡ header version ++ body → NoCount body → a ≡ Err (faults.BadLine 2) → Answered input a
  counted : (version : Version) (body rest : List ℕ) (n : ℕ) → IsReplayVersion version → input ≡ header version ++ body → IsCount n → body ≡ with_line_feed (workers_line n) ++ rest → AnsweredAt (text_head version n) rest a → Answered input a

-- a whole text, and what its turns come to
whole_answered : (p : Scenario) (a : Result Recorded ReplayFault) (input : List ℕ) → IsTextOf input p → a ≡ run (scripts_by p.entries p.workers) p.turns 0 (start p.table (length (scripts_by p.entries p.workers))) → Answered input a
whole_answered p a input is outcome =
    counted p.version (with_line_feed (workers_line p.workers) ++ (nodes_text p.table ++ (entries_text p.entries ++ with_line_feed (turns_line p.turns)))) (nodes_text p.table ++ (entries_text p.entries ++ with_line_feed (turns_line p.turns))) p.workers is.0.version is.1 is.0.count refl
    (record {
      table = p.table;
      entries = p.entries;
      rest = with_line_feed (turns_line p.turns);
      prefix = refl;
      nodes = is.0.nodes;
      own = is.0.own;
      tail = turned p.turns [] is.0.turns (sym (append-nil (with_line_feed (turns_line p.turns))));
      verdict = inr (refl, outcome);
    })

stopped_answered : (p : Scenario) (input : List ℕ) (i : ℕ) (why : Stop) → IsTextOf input p → StopsAt (input_of p) i why → Answered input (Err (fault_at i why))
stopped_answered p input i why is stop =
    whole_answered p (Err (fault_at i why)) input is
    (sym (run_stopped (scripts_by p.entries p.workers) p.turns 0 i (start p.table (length (scripts_by p.entries p.workers))) stop.moment stop.turn why stop.before stop.at stop.stops ∙ ap (λ n. Err (fault_at n why)) (let z : 0 + i ≡ i = omega arith in z)))

bad_answered : (version : Version) (input body : List ℕ) (k : ℕ) → IsReplayVersion version → input ≡ header version ++ body → IsBad version body k → Answered input (Err (faults.BadLine k))
bad_answered version input body k old is (inl x) = uncounted version body old is x.1 (ap (λ n. Err (faults.BadLine n)) x.0)
bad_answered version input body k old is (inr (n, rest, count, prefix, inl line)) = counted version body rest n old is count prefix (record {
  table = line.table;
  entries = line.entries;
  rest = line.rest;
  prefix = line.prefix;
  nodes = line.nodes;
  own = line.own;
  tail = bad line.none;
  verdict = ap (λ m. Err (faults.BadLine m)) line.number;
})
bad_answered version input body k old is (inr (n, rest, count, prefix, inr line)) = counted version body rest n old is count prefix (record {
  table = line.table;
  entries = line.entries;
  rest = with_line_feed (turns_line line.turns) ++ line.rest;
  prefix = line.prefix;
  nodes = line.nodes;
  own = line.own;
  tail = turned line.turns line.rest line.are refl;
  verdict = inl (line.more, ap (λ m. Err (faults.BadLine m)) line.number);
})

answered : (input : List ℕ) (a : Result Recorded ReplayFault) → IsSettled a → IsPlayed input a → Answered input a
answered input (Ok r) s (p, m, is, played, taken) =
    whole_answered p (Ok r) input is (ap (λ (x : Recorded). Ok x) taken ∙ sym (run_played (scripts_by p.entries p.workers) p.turns 0 (start p.table (length (scripts_by p.entries p.workers))) m
    (ap (λ n. plays (scripts_by p.entries p.workers) p.turns (start p.table n)) (scripts_long p.entries p.workers) ∙ played)))
answered input (Err faults.NoHeader) s none = headless none refl
answered input (Err (faults.BadLine k)) s (version, body, old, is, line) = bad_answered version input body k old is line
answered input (Err (faults.AfterEnd i)) s (p, is, stop) = stopped_answered p input i Faulty is stop
answered input (Err (faults.Append i f)) s (p, is, stop) = stopped_answered p input i (Refuses f) is stop
answered input (Err faults.TooLarge) s p = absurd p
answered input (Err faults.Device) s p = absurd p
answered input (Err faults.Memory) s p = absurd s

same_version : (input : List ℕ) (v w : Version) (x y : List ℕ) → input ≡ header v ++ x → input ≡ header w ++ y → v ≡ w
unfolding header
same_version input v w x y p q = one_header _ v w x y (sym p ∙ q)

same_body : (input : List ℕ) (v w : Version) (x y : List ℕ) → input ≡ header v ++ x → input ≡ header w ++ y → x ≡ y
same_body input v w x y p q = append_cancel_left (header v) x y (sym p ∙ q ∙ ap (λ (u : Version). header u ++ y) (sym (same_version input v w x y p q)))

both_answered : (input : List ℕ) (a b : Result Recorded ReplayFault) → Answered input a → Answered input b → a ≡ b
both_answered input a b (headless none p) (headless other q) = p ∙ sym q
both_answered input a b (headless none p) (uncounted v body old is lacks q) = absurd (none v body old is)
both_answered input a b (headless none p) (counted v body rest n old is count prefix t) = absurd (none v body old is)
both_answered input a b (uncounted v body old is lacks p) (headless none q) = absurd (none v body old is)
both_answered input a b (counted v body rest n old is count prefix t) (headless none q) = absurd (none v body old is)
both_answered input a b (uncounted v body _ is lacks p) (uncounted w other _ at others q) = p ∙ sym q
both_answered input a b (uncounted v body _ is lacks p) (counted w other rest n _ at count prefix t) = absurd (lacks n rest count (same_body input v w body other is at ∙ prefix))
both_answered input a b (counted v body rest n _ at count prefix t) (uncounted w other _ is lacks p) = absurd (lacks n rest count (same_body input w v other body is at ∙ prefix))
both_answered input a b (counted v body rest n _ is count prefix t) (counted w other end m _ at number begins u) =
    let version = same_version input v w body other is at in
    let s = same_count n m rest end count number (sym prefix ∙ same_body input v w body other is at ∙ begins) in
    one_verdict (text_head v n) rest a b count.1 t (subst (λ (y : Version × ℕ × List ℕ). AnsweredAt (text_head y.0 y.1) y.2 b) (λ i. (sym version i, sym s.0 i, sym s.1 i)) u)

pub answer_is_unique : AnswerIsUnique
answer_is_unique input a b sa sb p q = both_answered input a b (answered input a sa p) (answered input b sb q)
