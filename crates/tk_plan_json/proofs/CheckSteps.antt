-- The checks of one node, one after another.
use Rattle.std.proofs.Common.{◌≡◌, ℕ, ◌+◌, ◌<◌, ◌≤◌, List, [], ◌∷◌, ◌++◌, length, flat_map, Bool, true, false, not, cond, ◌&&◌, nat_le, Option, Some, None, option_map, Result, Ok, Err, refl, sym, ap, ap₂, ◌∙◌, subst, arith, append-nil, length-append}
use Rattle.std.proofs.lemmas.Bool.{lt-ltb, le-ltb}
use Rattle.std.proofs.lemmas.Grind.{flat_map-append}
use Rattle.std.proofs.lemmas.List.{map-append}
use Rattle.std.proofs.lemmas.List.Sums.{sum_by-append}
use Rattle.std.proofs.lemmas.Bool.Decides.{nat_tests}
use Rattle.std.specs.List.{list_any, list_all, count_by}
use Rattle.tk_ids.specs.IdText.{SegmentView}
use Rattle.tk_ids.specs.declared.descriptors.Descriptor.{Descriptor}
use Rattle.tk_ids.specs.declared.tables.TableFault.TheVariants.{Twice, Full}
use Rattle.tk_ids.specs.declared.locks.Lock.{Lock}
use Rattle.tk_plan.specs.declared.trees.nodes.Node.{Node}
use Rattle.tk_plan.specs.Ids.{descriptor, descriptor_in}
use Rattle.tk_plan.specs.Keys.{note_key, note_locks, lock_keys}
use Rattle.tk_plan.specs.Planned.{is_lawful_node}
use Rattle.tk_plan.specs.Trees.{contents}
use Rattle.tk_plan_json.specs.Answers.{Refuses}
use Rattle.tk_plan_json.specs.steps.Fields.{Faults, Meets}
use Rattle.tk_plan_json.specs.Checks.{first}
use Rattle.tk_plan_json.specs.Progress.{IsNoted}
use Rattle.tk_plan_json.specs.steps.Progress.{Addition, state, addition_of, IsChecked, IsAdded, HasBelow, IsStarted, room_checks}
use Rattle.tk_plan_json.specs.NodeInputs.{NodeInput, segment_of, repeats_key}
use Rattle.tk_plan_json.specs.Verdicts.{checks, node_check, id_fault, same_segment, is_kind}
use Rattle.tk_plan_json.specs.declared.read_nodes.ReadNodes.{ReadNodes}
use Rattle.tk_plan_json.specs.declared.read_nodes.Checked.{Checked}
use Rattle.tk_plan_json.specs.declared.faults.PlanFault.{PlanFault}
use Rattle.tk_plan_json.specs.declared.faults.PlanFault.TheVariants.{Json, Field, Id, Table, TooManyResources, EntryKeyTwice, TooManyEvents, Deep, Memory}

pub faults_also : (v w : Option PlanFault) (e : PlanFault) → ((f : PlanFault) → v ≡ Some f → w ≡ Some f) → Faults v e → Faults w e
faults_also v w Json f r = f Json r
faults_also v w (Field p) f r = f (Field p) r
faults_also v w (Id i) f r = f (Id i) r
faults_also v w (Table t) f r = f (Table t) r
faults_also v w TooManyResources f r = f TooManyResources r
faults_also v w EntryKeyTwice f r = f EntryKeyTwice r
faults_also v w TooManyEvents f r = f TooManyEvents r
faults_also v w Deep f r = f Deep r
faults_also v w Memory f r = tt

-- an answer by one verdict is one by another
pub meets_also : {A : Type 0} (v w : Option PlanFault) (P Q : A → Type 0) (r : Result A PlanFault) → w ≡ v → ((x : A) → P x → Q x) → Meets v P r → Meets w Q r
meets_also v w P Q (Ok x) e f m = (e ∙ m.0, f x m.1)
meets_also v w P Q (Err fault) e f m = faults_also v w fault (λ g h. e ∙ h) m

pub faults_from_path : (wrong : Option (List ℕ)) (w : Option PlanFault) (e : PlanFault) → ((p : List ℕ) → wrong ≡ Some p → w ≡ Some (Field p)) → Refuses wrong e → Faults w e
faults_from_path wrong w (Field p) f r = f p r
faults_from_path wrong w Memory f r = tt
faults_from_path wrong w Json f r = absurd r
faults_from_path wrong w (Id i) f r = absurd r
faults_from_path wrong w (Table i) f r = absurd r
faults_from_path wrong w TooManyResources f r = absurd r
faults_from_path wrong w EntryKeyTwice f r = absurd r
faults_from_path wrong w TooManyEvents f r = absurd r
faults_from_path wrong w Deep f r = absurd r

-- nothing is wrong with the node alone
pub record Passes (s : NodeInput) : Type 0 where
  pub level : s.level ≤ 60
  pub members : node_check s ≡ None
  pub once : repeats_key s.value ≡ false
  pub id : option_map Id (id_fault s.above (segment_of s)) ≡ None

module _ (before : List Node) (s : NodeInput) where
  pub deep_fault : 60 < s.level → first (checks before s) ≡ Some Deep
  unfolding checks
  deep_fault h = rw (lt-ltb 60 s.level h) refl

  pub field_fault : (p : List ℕ) → s.level ≤ 60 → node_check s ≡ Some p → first (checks before s) ≡ Some (Field p)
  unfolding checks
  field_fault p h e = rw (le-ltb 60 s.level h, e) refl

  pub repeat_fault : s.level ≤ 60 → node_check s ≡ None → repeats_key s.value ≡ true → first (checks before s) ≡ Some EntryKeyTwice
  unfolding checks
  repeat_fault h e r = rw (le-ltb 60 s.level h, e, r) refl

  pub id_fault_here : (f : PlanFault) → s.level ≤ 60 → node_check s ≡ None → repeats_key s.value ≡ false → option_map Id (id_fault s.above (segment_of s)) ≡ Some f
      → first (checks before s) ≡ Some f
  unfolding checks
  id_fault_here f h e r i = rw (le-ltb 60 s.level h, e, r, i) refl

  pub room_verdict : (o : Option PlanFault) → Passes s → first (room_checks before s.earlier (addition_of before s)) ≡ o → first (checks before s) ≡ o
  unfolding checks
  room_verdict o p e = rw (le-ltb 60 s.level p.level, p.members, p.once, p.id) e

module _ (before : List Node) (earlier : List SegmentView) (a : Addition) where
  pub twice_fault : list_any (same_segment a.segment) earlier ≡ true → first (room_checks before earlier a) ≡ Some (Table Twice)
  twice_fault t = rw t refl

  pub full_fault : list_any (same_segment a.segment) earlier ≡ false → nat_le 65536 (count_by (is_kind a.is_static) before) ≡ true → first (room_checks before earlier a) ≡ Some (Table Full)
  full_fault t u = rw (t, u) refl

  pub resource_fault : list_any (same_segment a.segment) earlier ≡ false → nat_le 65536 (count_by (is_kind a.is_static) before) ≡ false → 15 < length a.keys → first (room_checks before earlier a) ≡ Some TooManyResources
  resource_fault t u m = rw (t, u, lt-ltb 15 _ m) refl

  pub no_fault : list_any (same_segment a.segment) earlier ≡ false → nat_le 65536 (count_by (is_kind a.is_static) before) ≡ false → length a.keys ≤ 15 → first (room_checks before earlier a) ≡ None
  no_fault t u m = rw (t, u, le-ltb 15 _ m) refl

note_locks-append : (keys : List (List ℕ)) (a b : List Lock) → note_locks keys (a ++ b) ≡ note_locks (note_locks keys a) b
note_locks-append keys [] b = refl
note_locks-append keys (l ∷ ls) b = note_locks-append (note_key keys l.name) ls b

pub lock_keys-next : (before : List Node) (n : Node) → lock_keys (before ++ n ∷ []) ≡ note_locks (lock_keys before) n.locks
lock_keys-next before n =
    ap (note_locks []) (flat_map-append (λ m. m.locks) before (n ∷ []) ∙ ap (λ l. flat_map (λ m. m.locks) before ++ l) (append-nil n.locks)) ∙ note_locks-append [] (flat_map (λ m. m.locks) before) n.locks

pub keys_as : (before : List Node) (n : Node) (old new : List (List ℕ)) (locks : List Lock) → new ≡ note_locks old locks → old ≡ lock_keys before → locks ≡ n.locks
    → new ≡ lock_keys (before ++ n ∷ [])
keys_as before n old new locks e o l = e ∙ ap₂ note_locks o l ∙ sym (lock_keys-next before n)

-- ---- what is kept beside the nodes

count-push : (p : Node → Bool) (ns : List Node) (n : Node) → count_by p (ns ++ n ∷ []) ≡ count_by p ns + cond (p n) 1 0
count-push p ns n = let e = sum_by-append (λ x. cond (p x) 1 0) ns (n ∷ []) in let one : count_by p (n ∷ []) ≡ cond (p n) 1 0 = omega arith in omega (arith, e, one)

all-push : (p : Node → Bool) (ns : List Node) (n : Node) → list_all p ns ≡ true → p n ≡ true → list_all p (ns ++ n ∷ []) ≡ true
all-push p [] n h k = rw k refl
all-push p (m ∷ ns) n h k = by (p m) (list_all p ns) (list_all p (ns ++ n ∷ [])) h (λ r. all-push p ns n r k)
  where
    by : (a b c : Bool) → a && b ≡ true → (b ≡ true → c ≡ true) → a && c ≡ true
    by true b c h f = f h
    by false b c h f = h

stated : (b : Bool) (ds : List Descriptor) (d : Descriptor) → length (ds ++ cond b (d ∷ []) []) ≡ length ds + cond b 1 0
stated true ds d = length-append ds (d ∷ [])
stated false ds d = length-append ds []

turned : (b : Bool) → ◌≡◌ {A = ℕ} (cond b 0 1) (cond (not b) 1 0)
turned true = refl
turned false = refl

few : (b : Bool) (ns : List Node) (s d : ℕ) → s ≡ count_by (is_kind true) ns → d ≡ count_by (is_kind false) ns → s ≤ 65536 → d ≤ 65536 → count_by (is_kind b) ns < 65536
    → (s + cond b 1 0 ≤ 65536) × (d + cond b 0 1 ≤ 65536)
few true ns s d es ed hs hd room = (omega arith, omega arith)
few false ns s d es ed hs hd room = (omega arith, omega arith)

pub noted_added : (old mid new : ReadNodes) (s : NodeInput) (later : List SegmentView) (c : Checked) → IsNoted old → IsChecked (state old s.earlier) (state mid later) s c → IsAdded mid new c.node c.id → IsNoted new
noted_added old mid new s later c noted k a =
    let ns = contents old.nodes.items in
    let n = c.node in
    let kind : n.is_static ≡ s.is_static = ap (λ m. m.is_static) k.node in
    let nodes : contents new.nodes.items ≡ ns ++ n ∷ [] =
    ap contents (a.nodes ∙ ap (λ l. l ++ record { node = n; number = 0; span = 1 } ∷ []) k.entered.nodes) ∙ map-append _ old.nodes.items (record { node = n; number = 0; span = 1 } ∷ []) in
    let ds : length new.descriptors.items ≡ length old.descriptors.items + cond n.is_static 1 0 =
    ap length (a.descriptors ∙ ap (λ l. l ++ descriptor_in c.id n) k.entered.descriptors) ∙ stated n.is_static old.descriptors.items (descriptor c.id n) in
    let dyn : new.dynamics ≡ old.dynamics + cond n.is_static 0 1 = a.dynamics ∙ ap (λ d. d + cond n.is_static 0 1) k.entered.dynamics in
    let room : count_by (is_kind n.is_static) ns < 65536 = subst (λ b. count_by (is_kind b) ns < 65536) (sym kind) k.entered.room in
    let within = few n.is_static ns (length old.descriptors.items) old.dynamics noted.statics noted.dynamics noted.few_statics noted.few_dynamics room in
    record {
      keys = a.keys ∙ k.entered.keys ∙ ap (λ m. lock_keys (ns ++ m ∷ [])) (sym k.node) ∙ ap lock_keys (sym nodes);
      few_keys = subst (λ l. length l ≤ 15) (sym (a.keys ∙ k.entered.keys)) k.entered.few_keys;
      statics = ds ∙ ap (λ x. x + cond n.is_static 1 0) noted.statics ∙ sym (count-push (is_kind true) ns n) ∙ ap (count_by (is_kind true)) (sym nodes);
      few_statics = subst (λ x. x ≤ 65536) (sym ds) within.0;
      dynamics = dyn ∙ ap₂ (λ x y. x + y) noted.dynamics (turned n.is_static) ∙ sym (count-push (is_kind false) ns n) ∙ ap (count_by (is_kind false)) (sym nodes);
      few_dynamics = subst (λ x. x ≤ 65536) (sym dyn) within.1;
      lawful = ap (list_all is_lawful_node) nodes ∙ all-push is_lawful_node ns n noted.lawful k.lawful;
    }

-- a node that was checked and put at the end is started
pub node_started : (old mid new : ReadNodes) (s : NodeInput) (later : List SegmentView) (c : Checked) (id : Option (List SegmentView)) → IsNoted old → IsChecked (state old s.earlier) (state mid later) s c → IsAdded mid new c.node c.id → HasBelow s id → IsStarted (state old s.earlier) (state new later) s id
node_started old mid new s later c id noted k a below = record {
  nodes = a.nodes ∙ ap₂ (λ l n. l ++ record { node = n; number = 0; span = 1 } ∷ []) k.entered.nodes k.node;
  descriptors = a.descriptors ∙ ap₂ (λ l d. l ++ d) k.entered.descriptors (ap₂ descriptor_in k.id k.node);
  noted = noted_added old mid new s later c noted k a;
  level = k.level;
  siblings = k.entered.siblings;
  below = below;
}

-- the nodes' spans are not noted
pub noted_same : (old new : ReadNodes) → contents new.nodes.items ≡ contents old.nodes.items → new.keys.keys ≡ old.keys.keys → new.descriptors.items ≡ old.descriptors.items → new.dynamics ≡ old.dynamics
    → IsNoted old → IsNoted new
noted_same old new nodes keys ds dyn n = record {
  keys = keys ∙ n.keys ∙ ap lock_keys (sym nodes);
  few_keys = subst (λ l. length l ≤ 15) (sym keys) n.few_keys;
  statics = ap length ds ∙ n.statics ∙ ap (count_by (is_kind true)) (sym nodes);
  few_statics = subst (λ l. length l ≤ 65536) (sym ds) n.few_statics;
  dynamics = dyn ∙ n.dynamics ∙ ap (count_by (is_kind false)) (sym nodes);
  few_dynamics = subst (λ x. x ≤ 65536) (sym dyn) n.few_dynamics;
  lawful = ap (list_all is_lawful_node) nodes ∙ n.lawful;
}

pub below_limit : (n m : ℕ) → nat_le n m ≡ false → m < n
below_limit n m h = grind (arith, nat_tests)

pub not_false : (a b : Bool) → a ≡ not b → a ≡ false → b ≡ true
not_false a true e h = refl
not_false a false e h = sym h ∙ e

pub not_true : (a b : Bool) → a ≡ not b → a ≡ true → b ≡ false
not_true a true e h = sym (sym e ∙ h)
not_true a false e h = refl
