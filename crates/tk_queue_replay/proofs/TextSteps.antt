-- The lines of a replay text, and where reading one stops.
use Rattle.std.proofs.Common.{◌≡◌, ◌≢◌, ◌≤◌, ◌+◌, ℕ, zero, suc, Bool, true, List, [], ◌∷◌, ◌++◌, length, drop, eqb, map, Some, None, Result}
use Rattle.std.proofs.Common.{Ok, Err, refl, sym, ap, subst, ◌∙◌, arith, inl, inr, ⊎_elim}
use Rattle.std.specs.List.{starts_with}
use Rattle.std.proofs.lemmas.Option.{none-some}
use Rattle.std.proofs.lemmas.List.{length-append, length-map}
use Rattle.std.proofs.lemmas.Slice.Eq.{starts_is}
use Rattle.std.proofs.lemmas.Bool.Decides.{Decides-eqb}
use Rattle.tk_ids.specs.declared.descriptors.Descriptor.{Descriptor}
use Rattle.tk_events.specs.declared.events.Event.{Event}
use Rattle.tk_events.specs.declared.events.Entry.{Entry}
use Rattle.tk_record.specs.Mixing.{IsWorkerOf, of_worker}
use Rattle.tk_record.specs.Recorded.{Recorded}
use Rattle.tk_record.specs.Lines.{joined, entry_line, with_line_feed}
use Rattle.tk_record_text.specs.Spelling.{HasEntryLine}
use Rattle.tk_record_text.specs.declared.versions.Version.{Version}
use Rattle.tk_record_text.specs.Versions.{HasLineIn}
use Rattle.tk_record_text.specs.steps.Reading.{in_line, entry_of}
use Rattle.tk_record_text.specs.Text.{nodes_text, entries_text}
use Rattle.tk_record_text.specs.Cuts.{LacksFeed}
use Rattle.tk_record_text.specs.NodeLines.{LacksNodeLine, IsNodesPrefix, IsNodesFault}
use Rattle.tk_record_text.specs.declared.reading.node_lines.NodesFault.{NodesFault}
use Rattle.tk_record_text.specs.declared.reading.node_lines.NodesFault.TheVariants as listing
use Rattle.tk_record_text.proofs.Forms.{one_value}
use Rattle.tk_record_text.proofs.RecordLines.{entry_line_form, entry_no_feed}
use Rattle.tk_record_text.proofs.After.{same_line, regroup, feed_stands, no_entry_at_node, cells}
use Rattle.tk_queue_replay.specs.declared.turns.Turn.{Turn}
use Rattle.tk_queue_replay.specs.declared.replays.Replayed.{Replayed}
use Rattle.tk_queue_replay.specs.declared.replays.ReplayFault.{ReplayFault}
use Rattle.tk_queue_replay.specs.declared.replays.ReplayFault.TheVariants as faults
use Rattle.tk_queue_session.specs.Limits.{most_workers}
use Rattle.tk_queue_replay.specs.Script.{IsCount, workers_line, AreTurns, turns_line}
use Rattle.tk_queue_replay.specs.steps.Replay.{workers_of, turns_of, IsPlayedAs}
use Rattle.tk_queue_replay.specs.Replay.{replay_input, IsReplayed, plays, start}
use Rattle.tk_queue_replay.specs.ReplayText.{Scenario, IsReplayVersion, header, TextHead, text_head, IsOwn, AreOwn}
use Rattle.tk_queue_replay.specs.ReplayText.{scripts_by, input_of, NoCount, IsTextOf, IsPlayed}
use Rattle.tk_queue_replay.specs.ReplayText.{nodes_fault}
use Rattle.tk_queue_replay.specs.steps.Reading.{LacksEntryStart, IsEntriesPrefix, IsListFault, IsFaultAfter, NoTurns, IsFollowed, IsEndFault}
use Rattle.tk_queue_replay.proofs.ScriptForms.{workers_line_form, turns_line_form, workers_no_feed, turns_no_feed}

-- ---- single lines

unfed : (x m rest : List ℕ) → LacksFeed rest → rest ≢ with_line_feed x ++ m
unfed x m rest lacks e = feed_stands x m rest lacks (e ∙ regroup x m)

pub count_found : (input line more : List ℕ) (w : ℕ) → input ≡ line ++ 10 ∷ more → in_line workers_of line ≡ Some w → IsCount w × (input ≡ with_line_feed (workers_line w) ++ more)
count_found input line more w is read =
    let f = workers_line_form.found line w read in
    (f.0, is ∙ ap (λ (t : List ℕ). t ++ 10 ∷ more) f.1 ∙ sym (regroup (workers_line w) more))

pub count_none : (input line more : List ℕ) → input ≡ line ++ 10 ∷ more → LacksFeed line → in_line workers_of line ≡ None → NoCount input
count_none input line more is lacks read n m has eq =
    let s = same_line line (workers_line n) more m lacks (workers_no_feed n has) (sym is ∙ eq ∙ regroup (workers_line n) m) in
    none-some n (sym read ∙ ap (in_line workers_of) s.0 ∙ workers_line_form.again n has)

pub turns_found : (n : ℕ) (input line more : List ℕ) (ts : List Turn) → n ≤ most_workers → input ≡ line ++ 10 ∷ more → in_line (turns_of n) line ≡ Some ts → AreTurns n ts × (input ≡ with_line_feed (turns_line ts) ++ more)
turns_found n input line more ts few is read =
    let f = (turns_line_form n few).found line ts read in
    (f.0, is ∙ ap (λ (t : List ℕ). t ++ 10 ∷ more) f.1 ∙ sym (regroup (turns_line ts) more))

pub turns_none : (n : ℕ) (input line more : List ℕ) → n ≤ most_workers → input ≡ line ++ 10 ∷ more → LacksFeed line → in_line (turns_of n) line ≡ None → NoTurns n input
turns_none n input line more few is lacks read ts m are eq =
    let s = same_line line (turns_line ts) more m lacks (turns_no_feed n few ts are) (sym is ∙ eq ∙ regroup (turns_line ts) m) in
    none-some ts (sym read ∙ ap (in_line (turns_of n)) s.0 ∙ (turns_line_form n few).again ts are)

pub turns_unfed : (n : ℕ) (input : List ℕ) → LacksFeed input → NoTurns n input
turns_unfed n input lacks ts m are = unfed (turns_line ts) m input lacks

-- ---- which line a prefix may begin

pub turns_begins : (ts : List Turn) (m : List ℕ) → (t : List ℕ) × (with_line_feed (turns_line ts) ++ m ≡ 83 ∷ t)
unfolding joined
turns_begins [] m = (_, refl)
turns_begins (t ∷ ts) m = (_, refl)

pub entry_begins : (e : Entry) (m : List ℕ) → (t : List ℕ) × (with_line_feed (entry_line e) ++ m ≡ 69 ∷ 124 ∷ t)
unfolding joined
entry_begins e m = (_, refl)

no_turns_at : (b : ℕ) (rest t : List ℕ) → ¬ (b ≡ 83) → rest ≡ b ∷ t → (n : ℕ) → NoTurns n rest
no_turns_at b rest t other is n ts m are eq = let s = turns_begins ts m in other (sym (cells 83 b s.0 t (sym s.1 ∙ sym eq ∙ is)))

-- which bytes the test for an entry's line asks for
pub entry_start : (r : Bool) (rest : List ℕ) → r ≡ starts_with eqb rest (69 ∷ 124 ∷ []) → r ≡ true → (t : List ℕ) × (rest ≡ 69 ∷ 124 ∷ t)
entry_start r rest e is = (drop 2 rest, (starts_is Decides-eqb rest (69 ∷ 124 ∷ []) r e).0 is)

no_entry_start : (rest : List ℕ) → LacksEntryStart rest → (e : Entry) (m : List ℕ) → rest ≢ with_line_feed (entry_line e) ++ m
no_entry_start rest lacks e m eq = let b = entry_begins e m in lacks b.0 (eq ∙ b.1)

-- ---- lines of entries

-- what the loop over the entries keeps
pub record SoFar (head : TextHead) (input : List ℕ) (entries : List Entry) (rest : List ℕ) : Type 0 where
  pub prefix : input ≡ entries_text entries ++ rest
  pub own : AreOwn head entries
  pub no_node : entries ≡ [] → LacksNodeLine rest

pub bad_entry : (head : TextHead) (nodes : ℕ) (input : List ℕ) (entries : List Entry) (rest : List ℕ) (k : ℕ) → SoFar head input entries rest → ((e : Entry) (m : List ℕ) → IsOwn head e → rest ≢ with_line_feed (entry_line e) ++ m) → NoTurns head.workers rest
    → k ≡ nodes + length entries + 3 → IsFaultAfter head nodes input (faults.BadLine k)
bad_entry head nodes input entries rest k so none no_turns number table fits long = inl (record {
  table = table;
  entries = entries;
  rest = rest;
  prefix = ap (λ (t : List ℕ). nodes_text table ++ t) so.prefix;
  nodes = fits;
  own = so.own;
  none = record { node = λ d m empty _ _. so.no_node empty d m; entry = none; turns = no_turns };
  number = omega arith;
})

pub bad_entry_unfed : (head : TextHead) (nodes : ℕ) (input : List ℕ) (entries : List Entry) (rest : List ℕ) (k : ℕ) → SoFar head input entries rest → LacksFeed rest → k ≡ nodes + length entries + 3 → IsFaultAfter head nodes input (faults.BadLine k)
bad_entry_unfed head nodes input entries rest k so lacks number = bad_entry head nodes input entries rest k so (λ e m _. unfed (entry_line e) m rest lacks) (turns_unfed head.workers rest lacks) number

pub bad_entry_line : (head : TextHead) (nodes : ℕ) (input : List ℕ) (entries : List Entry) (rest line more t : List ℕ) (k : ℕ) → SoFar head input entries rest → rest ≡ line ++ 10 ∷ more → LacksFeed line → rest ≡ 69 ∷ 124 ∷ t
    → ((e : Entry) → IsOwn head e → line ≢ entry_line e) → k ≡ nodes + length entries + 3 → IsFaultAfter head nodes input (faults.BadLine k)
bad_entry_line head nodes input entries rest line more t k so is lacks start bad number =
    bad_entry head nodes input entries rest k so
    (λ e m own eq. bad e own (same_line line (entry_line e) more m lacks (entry_no_feed e own.0.line) (sym is ∙ eq ∙ regroup (entry_line e) m)).0)
    (no_turns_at 69 rest (124 ∷ t) (λ e. absurd (omega arith)) start head.workers) number

-- the line is that of an entry of no worker of the session
pub foreign : (head : TextHead) (line : List ℕ) (e : Entry) → HasLineIn head.version e × (line ≡ entry_line e) → ¬ IsWorkerOf head.workers e.worker → (x : Entry) → IsOwn head x → line ≢ entry_line x
foreign head line e found none x own same = none (subst (λ (y : Entry). IsWorkerOf head.workers y.worker) (sym (one_value (in_line entry_of) HasEntryLine entry_line entry_line_form e x found.0.line own.0.line (sym found.1 ∙ same))) own.1)

-- ---- the line of the turns

pub end_fault : (head : TextHead) (nodes number : ℕ) (input : List ℕ) (entries : List Entry) (rest : List ℕ) (fault : ReplayFault) → IsEntriesPrefix head input entries rest → number ≡ nodes + length entries + 3 → IsEndFault head.workers number rest fault → IsFaultAfter head nodes input fault
end_fault head nodes number input entries rest (faults.BadLine k) f is fault = ⊎_elim
    (λ (x : (k ≡ number) × NoTurns head.workers rest). bad_entry head nodes input entries rest k (record { prefix = f.prefix; own = f.own; no_node = f.no_node }) (λ e m _. no_entry_start rest f.no_entry e m) x.1 (x.0 ∙ is))
    (λ (y : (k ≡ number + 1) × IsFollowed head.workers rest). λ table fits long.
    let z = y.1 in inr (record {
      table = table;
      entries = entries;
      turns = z.0;
      rest = z.1;
      prefix = ap (λ (t : List ℕ). nodes_text table ++ t) (f.prefix ∙ ap (λ (t : List ℕ). entries_text entries ++ t) z.3);
      nodes = fits;
      own = f.own;
      are = z.2;
      more = z.4;
      number = let p = y.0 in omega arith;
    }))
    fault
end_fault head nodes number input entries rest faults.Memory f is fault = λ table fits long. tt
end_fault head nodes number input entries rest faults.NoHeader f is fault = absurd fault
end_fault head nodes number input entries rest (faults.AfterEnd i) f is fault = absurd fault
end_fault head nodes number input entries rest (faults.Append i x) f is fault = absurd fault
end_fault head nodes number input entries rest faults.TooLarge f is fault = absurd fault
end_fault head nodes number input entries rest faults.Device f is fault = absurd fault

-- ---- the whole

pub list_played : (version : Version) (n : ℕ) (input body rest : List ℕ) (fault : ReplayFault) → IsReplayVersion version × (input ≡ header version ++ body) → IsCount n × (body ≡ with_line_feed (workers_line n) ++ rest) → IsListFault (text_head version n) rest fault → IsPlayed input (Err fault)
list_played version n input body rest (faults.BadLine k) is count fault = (version, body, is.0, is.1, inr (n, rest, count.0, count.1, fault))
list_played version n input body rest faults.Memory is count fault = tt
list_played version n input body rest faults.NoHeader is count fault = absurd fault
list_played version n input body rest (faults.AfterEnd i) is count fault = absurd fault
list_played version n input body rest (faults.Append i x) is count fault = absurd fault
list_played version n input body rest faults.TooLarge is count fault = absurd fault
list_played version n input body rest faults.Device is count fault = absurd fault

-- the answer where a descriptor's line is bad
pub nodes_played : (version : Version) (n : ℕ) (input body rest : List ℕ) (table : List Descriptor) (fault : NodesFault) → IsReplayVersion version × (input ≡ header version ++ body) → IsCount n × (body ≡ with_line_feed (workers_line n) ++ rest) → IsNodesFault 3 rest table fault → IsPlayed input (Err (nodes_fault fault))
nodes_played version n input body rest table (listing.BadLine k) is count bad = list_played version n input body rest (faults.BadLine k) is count (inl (record {
  table = table;
  entries = [];
  rest = 78 ∷ 124 ∷ bad.more;
  prefix = bad.prefix;
  nodes = (bad.fitting, bad.no_lock);
  own = tt;
  none = record {
    node = λ d m _ has takes. bad.none d m has takes;
    entry = λ e m own. no_entry_at_node version (78 ∷ 124 ∷ bad.more) bad.more refl e m own.0;
    turns = λ ts m are. no_turns_at 78 (78 ∷ 124 ∷ bad.more) (124 ∷ bad.more) (λ e. absurd (omega arith)) refl n ts m are;
  };
  number = omega (arith, bad.number);
}))
nodes_played version n input body rest table listing.Memory is count bad = tt

pub says : (version : Version) (n : ℕ) (input body rest more last : List ℕ) (table : List Descriptor) (entries : List Entry) (turns : List Turn) → IsReplayVersion version × (input ≡ header version ++ body) → IsCount n × (body ≡ with_line_feed (workers_line n) ++ rest) → IsNodesPrefix rest table more
    → IsEntriesPrefix (text_head version n) more entries last → AreTurns n turns × (last ≡ with_line_feed (turns_line turns)) → IsTextOf input (record { version = version; workers = n; table = table; entries = entries; turns = turns })
says version n input body rest more last table entries turns is count nodes own ends = (
  record { version = is.0; count = count.0; nodes = (nodes.fitting, nodes.no_lock); own = own.own; turns = ends.0 },
  is.1 ∙ ap (λ (t : List ℕ). header version ++ t) (count.1 ∙ ap (λ (t : List ℕ). with_line_feed (workers_line n) ++ t) (nodes.prefix ∙ ap (λ (t : List ℕ). nodes_text table ++ t) (own.prefix ∙ ap (λ (t : List ℕ). entries_text entries ++ t) ends.1))),
)

pub scripts_long : (entries : List Entry) (n : ℕ) → length (scripts_by entries n) ≡ n
scripts_long entries zero = refl
scripts_long entries (suc n) = let h = scripts_long entries n in omega (arith, length-append (scripts_by entries n) (of_worker (suc n) entries ∷ []))

pub scripts_count : {S : Type 0} (f : S → List Event) (scripts : List S) (entries : List Entry) (n : ℕ) → map f scripts ≡ scripts_by entries n → length scripts ≡ n
scripts_count f scripts entries n is = sym (length-map scripts f) ∙ ap length is ∙ scripts_long entries n

pub replay_here : (t u : List Descriptor) (s r : List (List Event)) (x y : List Turn) (a : Result Replayed ReplayFault) → t ≡ u → s ≡ r → x ≡ y → IsReplayed t s x a → IsReplayed u r y a
replay_here t u s r x y a p q e is = subst (λ (z : List Descriptor × List (List Event) × List Turn). IsReplayed z.0 z.1 z.2 a) (λ i. (p i, q i, e i)) is

pub replay_fault : (table : List Descriptor) (scripts : List (List Event)) (turns : List Turn) (fault : ReplayFault) → IsReplayed table scripts turns (Err fault) → IsPlayedAs (replay_input table scripts turns) (Err fault)
replay_fault table scripts turns (faults.AfterEnd i) r = r
replay_fault table scripts turns (faults.Append i x) r = r
replay_fault table scripts turns faults.Memory r = tt
replay_fault table scripts turns faults.NoHeader r = absurd r
replay_fault table scripts turns (faults.BadLine k) r = absurd r
replay_fault table scripts turns faults.TooLarge r = absurd r
replay_fault table scripts turns faults.Device r = absurd r

pub replay_done : (table : List Descriptor) (scripts : List (List Event)) (turns : List Turn) (done : Replayed) → IsReplayed table scripts turns (Ok done) → IsPlayedAs (replay_input table scripts turns) (Ok done.taken)
replay_done table scripts turns done r = (r.0, r.1, r.2.taken)

played : (input : List ℕ) (p : Scenario) (r : Result Recorded ReplayFault) → IsTextOf input p → IsPlayedAs (input_of p) r → IsPlayed input r
played input p (Ok r) is h = (p, h.0, is, ap (λ k. plays (scripts_by p.entries p.workers) p.turns (start p.table k)) (sym (scripts_long p.entries p.workers)) ∙ h.1, h.2)
played input p (Err (faults.AfterEnd i)) is h = (p, is, h)
played input p (Err (faults.Append i x)) is h = (p, is, h)
played input p (Err faults.Memory) is h = tt
played input p (Err faults.NoHeader) is h = absurd h
played input p (Err (faults.BadLine k)) is h = absurd h
played input p (Err faults.TooLarge) is h = absurd h
played input p (Err faults.Device) is h = absurd h

pub text_played : (input : List ℕ) (p : Scenario) (entries : List Entry) (turns : List Turn) (r : Result Recorded ReplayFault) → IsTextOf input p → entries ≡ p.entries → turns ≡ p.turns → IsPlayedAs (replay_input p.table (scripts_by entries p.workers) turns) r → IsPlayed input r
text_played input p entries turns r is e t h =
    played input p r is (subst (λ (z : List Entry × List Turn). IsPlayedAs (replay_input p.table (scripts_by z.0 p.workers) z.1) r) (λ i. (e i, t i)) h)
