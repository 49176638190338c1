-- Cutting one tree after another.
use Rattle.std.proofs.Common.{◌≡◌, ℕ, zero, suc, ◌+◌, ◌-◌, ◌≤◌, ◌<◌, List, [], ◌∷◌, ◌++◌, length, drop, take, map, flat_map, All, true, false, Bool, cond, is_some, slice_get, slice_index_or, Some, ◌&&◌, not, ◌==◌, refl, sym, ap, ap₂, ◌∙◌, subst, arith, length-append, append_assoc, append-nil}
use Rattle.std.proofs.lemmas.List.{map-append, drop-drop, drop_at}
use Rattle.std.proofs.lemmas.Grind.{flat_map-append}
use Rattle.tk_base.specs.declared.limits.TheConstants.{MAX_EVENTS}
use Rattle.tk_plan.specs.declared.trees.nodes.Node.{Node}
use Rattle.tk_plan.specs.declared.trees.nodes.NumberedNode.{NumberedNode}
use Rattle.tk_plan.specs.declared.scripts.steps.Act.TheVariants.{Finish, Register, Skip}
use Rattle.tk_plan.specs.declared.units.cuttings.Cutting.{Cutting}
use Rattle.tk_plan.specs.Trees.{Tree, tree, Forest, no_trees, more, forest, IsForest, IsSplit, first_tree, contents}
use Rattle.tk_plan.specs.Script.{move, opening, moves, moves_below}
use Rattle.tk_plan.specs.Weights.{publications, weight, weights}
use Rattle.tk_plan.specs.Cutting.{Part, Piece, spine_begins, whole_unit, spine_ends, parts, parts_below, moves_of, from_each, piece, begin_events, end_events, spine_numbers, all_static, all_concurrent, on_spine, is_free, is_leaf}
use Rattle.tk_plan.specs.CuttingSteps.{Fits, HasStampAt, HasNode, pieces_of_units}
use Rattle.tk_plan.specs.CuttingSteps.{piece_of_nodes, begin_events_of_spine}
use Rattle.tk_plan.specs.CuttingSteps.{end_events_of_spine, begin_events_at, end_events_at}
use Rattle.tk_plan.specs.steps.{AddsParts, keyed}
use Rattle.tk_plan.specs.Events.{opening_events, finish_event}
use Rattle.tk_plan.specs.LockNeeds.{IsNeed}
use Rattle.tk_plan.specs.declared.units.cuttings.PlanUnit.{PlanUnit}
use Rattle.tk_plan.specs.declared.units.cuttings.SpineStamp.{SpineStamp}
use Rattle.std.proofs.lemmas.List.Elements.{All-push}
use Rattle.std.proofs.Math.Seq.{take-append_seam}
use Rattle.std.proofs.lemmas.Bool.{and_parts, not-true}
use Rattle.tk_plan.proofs.Grows.{forest_nil}
use Rattle.tk_plan.proofs.TreeMoves.{moves-length, length-opening}

pub from_each-append : {A : Type 0} (f : ℕ → Part → List A) (i : ℕ) (xs ys : List Part)
    → from_each f i (xs ++ ys) ≡ from_each f i xs ++ from_each f (i + length (flat_map moves_of xs)) ys
from_each-append f i [] ys = ap (λ n. from_each f n ys) (omega arith)
from_each-append f i (x ∷ xs) ys =
    ap (λ l. f i x ++ l) (from_each-append f (i + length (moves_of x)) xs ys)
    ∙ sym (append_assoc (f i x) _ _)
    ∙ ap (λ n. (f i x ++ from_each f (i + length (moves_of x)) xs) ++ from_each f n ys) (omega (arith, length-append (moves_of x) (flat_map moves_of xs)))

-- ---- what is added, and then something more

joined : {A : Type 0} (old mid new xs ys zs : List A) → mid ≡ old ++ xs → new ≡ mid ++ ys → zs ≡ xs ++ ys → new ≡ old ++ zs
joined old mid new xs ys zs e f g = f ∙ ap (λ l. l ++ ys) e ∙ append_assoc old xs ys ∙ ap (λ l. old ++ l) (sym g)

each_more : {A : Type 0} (f : ℕ → Part → List A) (old mid : Cutting) (xs ys : List Part) → mid.event_count ≡ old.event_count + length (flat_map moves_of xs)
    → from_each f old.event_count (xs ++ ys) ≡ from_each f old.event_count xs ++ from_each f mid.event_count ys
each_more f old mid xs ys at = from_each-append f old.event_count xs ys ∙ ap (λ n. from_each f old.event_count xs ++ from_each f n ys) (sym at)

pub adds-append : (all : List NumberedNode) (keys : List (List ℕ)) (old mid new : Cutting) (xs ys : List Part)
    → AddsParts (keyed all keys) old mid xs → AddsParts (keyed all keys) mid new ys → AddsParts (keyed all keys) old new (xs ++ ys)
adds-append all keys old mid new xs ys a b =
    let at : mid.event_count ≡ old.event_count + length (flat_map moves_of xs) = a.event_count in
    record {
      spine = joined _ _ _ _ _ _ a.spine b.spine (flat_map-append spine_numbers xs ys);
      unit_keys = joined _ _ _ _ _ _ a.unit_keys b.unit_keys (ap (map _) (each_more piece old mid xs ys a.event_count) ∙ map-append _ (from_each piece old.event_count xs) _);
      units = joined _ _ _ _ _ _ a.units b.units (each_more piece old mid xs ys a.event_count);
      fits = λ h. b.fits (a.fits h);
      begin_events_of_spine = joined _ _ _ _ _ _ a.begin_events_of_spine b.begin_events_of_spine (each_more begin_events old mid xs ys a.event_count);
      starts = λ h. b.starts (a.starts h);
      end_events_of_spine = joined _ _ _ _ _ _ a.end_events_of_spine b.end_events_of_spine (each_more end_events old mid xs ys a.event_count);
      finishes = λ h. b.finishes (a.finishes h);
      event_count = b.event_count ∙ ap (λ n. n + length (flat_map moves_of ys)) at ∙ omega (arith, ap length (flat_map-append moves_of xs ys), length-append (flat_map moves_of xs) (flat_map moves_of ys));
    }

pub adds-none : (all : List NumberedNode) (keys : List (List ℕ)) (old : Cutting) → AddsParts (keyed all keys) old old []
adds-none all keys old = record {
  spine = sym (append-nil _);
  unit_keys = sym (append-nil _);
  units = sym (append-nil _);
  fits = λ h. h;
  begin_events_of_spine = sym (append-nil _);
  starts = λ h. h;
  end_events_of_spine = sym (append-nil _);
  finishes = λ h. h;
  event_count = omega arith;
}

-- ---- a node of the spine

concurrent_static : (f : Forest) → all_concurrent f ≡ true → all_static f ≡ true
concurrent_static no_trees e = refl
concurrent_static (more (tree n k g) f) e =
    let both = and_parts (n.is_static && n.is_concurrent) (all_concurrent f) e in
    ap₂ (λ a b. a && b) (and_parts n.is_static n.is_concurrent both.0).0 (concurrent_static f both.1)

pub spine_facts : (b : Bool) (n : Node) (f : Forest) → on_spine b n f ≡ true → (is_some n.skip ≡ false) × (all_static f ≡ true)
spine_facts b n f e =
    let free = (and_parts _ (is_free n f) e).1 in
    let one = (and_parts (not (is_leaf f)) _ free).1 in
    let two = and_parts (not (is_some n.skip)) _ one in
    let three = (and_parts (length n.locks == 0) _ two.1).1 in
    let four = (and_parts (not n.is_isolated) _ three).1 in
    (not-true _ two.0, concurrent_static f four)

pub spine_weight : (b : Bool) (n : Node) (k : ℕ) (f : Forest) → on_spine b n f ≡ true → weight (tree n k f) ≡ 2 + publications n + weights f
spine_weight b n k f e = ap (λ s. cond s 1 (2 + publications n + weights f)) (spine_facts b n f e).0

drop_next : (at : ℕ) (all rest : List NumberedNode) (p : NumberedNode) → drop at all ≡ p ∷ rest → drop (at + 1) all ≡ rest
drop_next at all rest p e = sym (drop-drop 1 at all) ∙ ap (drop 1) e

pub unit_adds : (all : List NumberedNode) (keys : List (List ℕ)) (old new : Cutting) (b : Bool) (n : Node) (k : ℕ) (f : Forest)
    → on_spine b n f ≡ false → AddsParts (keyed all keys) old new (whole_unit (tree n k f) ∷ []) → AddsParts (keyed all keys) old new (parts b (tree n k f))
unit_adds all keys old new b n k f e a = subst (AddsParts (keyed all keys) old new) (sym (ap (λ s. cond s (spine_begins n k ∷ (parts_below false f ++ spine_ends n k ∷ [])) (whole_unit (tree n k f) ∷ [])) e)) a

pub spine_adds : (keys : List (List ℕ)) (old one two new : Cutting) (b : Bool) (p : NumberedNode) (f : Forest) (position : ℕ) (below all rest : List NumberedNode)
    → on_spine b p.node f ≡ true
    → AddsParts (keyed all keys) old one (spine_begins p.node p.number ∷ [])
    → ((every after : List NumberedNode) → drop (position + 1) every ≡ below ++ after → AddsParts (keyed every keys) one two (parts_below false f))
    → AddsParts (keyed all keys) two new (spine_ends p.node p.number ∷ [])
    → drop position all ≡ p ∷ (below ++ rest) → AddsParts (keyed all keys) old new (parts b (tree p.node p.number f))
spine_adds keys old one two new b p f position below all rest e x y z at =
    let whole = adds-append all keys old one new _ _ x (adds-append all keys one two new _ _ (y all rest (drop_next position all _ p at)) z) in
    subst (AddsParts (keyed all keys) old new) (sym (ap (λ s. cond s (spine_begins p.node p.number ∷ (parts_below false f ++ spine_ends p.node p.number ∷ [])) (whole_unit (tree p.node p.number f) ∷ [])) e)) whole

-- ---- one tree after another

-- of some trees, what is left is still to be cut
pub record Goes (keys : List (List ℕ)) (is_root : Bool) (position at : ℕ) (nodes left : List NumberedNode) (old now : Cutting) : Type 0 where
  pub trees : IsForest left
  pub statics : all_static (forest left) ≡ true
  pub within : length left ≤ length nodes
  pub positions : at + length left ≡ position + length nodes
  pub events : now.event_count + weights (forest left) ≡ old.event_count + weights (forest nodes)
  pub stands : (all rest : List NumberedNode) → drop position all ≡ nodes ++ rest → drop at all ≡ left ++ rest
  pub adds : (all rest : List NumberedNode) → drop position all ≡ nodes ++ rest → (new : Cutting)
      → AddsParts (keyed all keys) now new (parts_below is_root (forest left)) → AddsParts (keyed all keys) old new (parts_below is_root (forest nodes))

pub goes_end : (keys : List (List ℕ)) (is_root : Bool) (position at : ℕ) (nodes left : List NumberedNode) (old now : Cutting) → Goes keys is_root position at nodes left old now → length left < 1
    → (now.event_count ≡ old.event_count + weights (forest nodes))
    × ((all rest : List NumberedNode) → drop position all ≡ nodes ++ rest → AddsParts (keyed all keys) old now (parts_below is_root (forest nodes)))
goes_end keys is_root position at nodes [] old now g h = (
  omega (arith, g.events, ap weights forest_nil),
  λ all rest e. g.adds all rest e now (subst (λ f. AddsParts (keyed all keys) now now (parts_below is_root f)) (sym forest_nil) (adds-none all keys now)),
)
goes_end keys is_root position at nodes (p ∷ ps) old now g h = absurd (omega arith)

pub static_tree : (p : NumberedNode) (after below others : List NumberedNode) → IsSplit p after below others → all_static (forest (p ∷ after)) ≡ true
    → (weights (forest (p ∷ after)) ≡ weight (tree p.node p.number (forest below)) + weights (forest others)) × (all_static (forest others) ≡ true)
static_tree p after below others s e =
    let both = and_parts p.node.is_static (all_static (forest others)) (sym (ap all_static s.trees) ∙ e) in
    (ap weights s.trees ∙ ap (λ b. cond b 0 1 + weight (tree p.node p.number (forest below)) + weights (forest others)) both.0 ∙ omega arith, both.1)

pub goes_next : (keys : List (List ℕ)) (is_root : Bool) (position at : ℕ) (nodes after below others : List NumberedNode) (p : NumberedNode) (old now new : Cutting)
    → Goes keys is_root position at nodes (p ∷ after) old now → IsSplit p after below others
    → new.event_count ≡ now.event_count + weight (tree p.node p.number (forest below))
    → ((all rest : List NumberedNode) → drop at all ≡ p ∷ (below ++ rest) → AddsParts (keyed all keys) now new (parts is_root (tree p.node p.number (forest below))))
    → Goes keys is_root position (at + p.span) nodes others old new
goes_next keys is_root position at nodes after below others p old now new g s first add =
    let one = static_tree p after below others s g.statics in
    let len = ap length s.whole ∙ length-append below others in
    let here : (all rest : List NumberedNode) → drop position all ≡ nodes ++ rest → drop at all ≡ p ∷ (below ++ (others ++ rest))
    = λ all rest e. g.stands all rest e ∙ ap (λ l. p ∷ (l ++ rest)) s.whole ∙ ap (λ l. p ∷ l) (append_assoc below others rest) in
    record {
      trees = s.second;
      statics = one.1;
      within = omega (arith, g.within, len);
      positions = omega (arith, g.positions, len, s.span);
      events = omega (arith, g.events, one.0, first);
      stands = λ all rest e. sym (drop-drop p.span at all) ∙ ap (drop p.span) (here all rest e) ∙ drop_at (p ∷ below) (others ++ rest) p.span (sym s.span);
      adds = λ all rest e last. λ a. g.adds all rest e last (
          subst (λ f. AddsParts (keyed all keys) now last (parts_below is_root f)) (sym s.trees)
          (adds-append all keys now new last _ _ (add all (others ++ rest) (here all rest e)) a)
          );
    }

-- ---- one part

opening_moves : (n : Node) (k : ℕ) → length (opening n k ++ []) ≡ 1 + publications n
opening_moves n k = ap length (append-nil (opening n k)) ∙ length-opening n k

all_pushed : {A : Type 0} (P : A → Type 0) (xs ys : List A) (x : A) → ys ≡ xs ++ x ∷ [] → P x → All P xs → All P ys
all_pushed P xs ys x e h all = subst (All P) (sym e) (All-push P xs x all h)

pub begin_adds : (all rest : List NumberedNode) (keys : List (List ℕ)) (old new : Cutting) (p : NumberedNode) (s : SpineStamp)
    → drop s.position all ≡ p ∷ rest → s.stamp ≡ old.event_count → old.event_count + (1 + publications p.node) ≤ MAX_EVENTS
    → new.spine.items ≡ old.spine.items ++ p.number ∷ []
    → new.starts.items ≡ old.starts.items ++ s ∷ []
    → new.unit_keys.items ≡ old.unit_keys.items → new.units.items ≡ old.units.items → new.finishes.items ≡ old.finishes.items
    → new.event_count ≡ old.event_count + (1 + publications p.node)
    → AddsParts (keyed all keys) old new (spine_begins p.node p.number ∷ [])
begin_adds all rest keys old new p s at same limit spine starts unit_keys units finishes first =
    let there : begin_events_at (drop s.position all) s.stamp ≡ opening_events p.number old.event_count p.node = ap₂ begin_events_at at same in
    let sits : HasStampAt all s = record { top = p; rest = rest; position = at; limit = omega (arith, same, limit) } in
    record {
      spine = spine;
      unit_keys = unit_keys ∙ sym (append-nil _);
      units = ap (pieces_of_units all) units ∙ sym (append-nil _);
      fits = λ h. subst (All (Fits all keys)) (sym units) h;
      begin_events_of_spine = ap (begin_events_of_spine all) starts ∙ flat_map-append _ old.starts.items (s ∷ []) ∙ ap (λ l. begin_events_of_spine all old.starts.items ++ (l ++ [])) there;
      starts = all_pushed (HasStampAt all) old.starts.items new.starts.items s starts sits;
      end_events_of_spine = ap (end_events_of_spine all) finishes ∙ sym (append-nil _);
      finishes = λ h. subst (All (HasNode all)) (sym finishes) h;
      event_count = first ∙ ap (λ m. old.event_count + m) (sym (opening_moves p.node p.number));
    }

pub end_adds : (all rest : List NumberedNode) (keys : List (List ℕ)) (old new : Cutting) (p : NumberedNode) (s : SpineStamp)
    → drop s.position all ≡ p ∷ rest → s.stamp ≡ old.event_count
    → new.finishes.items ≡ old.finishes.items ++ s ∷ []
    → new.spine.items ≡ old.spine.items → new.unit_keys.items ≡ old.unit_keys.items → new.units.items ≡ old.units.items → new.starts.items ≡ old.starts.items
    → new.event_count ≡ old.event_count + 1
    → AddsParts (keyed all keys) old new (spine_ends p.node p.number ∷ [])
end_adds all rest keys old new p s at same finishes spine unit_keys units starts first =
    let there : end_events_at (drop s.position all) s.stamp ≡ finish_event p.number old.event_count p.node ∷ [] = ap₂ end_events_at at same in
    let sits : HasNode all s = (p, rest, at) in
    record {
      spine = spine ∙ sym (append-nil _);
      unit_keys = unit_keys ∙ sym (append-nil _);
      units = ap (pieces_of_units all) units ∙ sym (append-nil _);
      fits = λ h. subst (All (Fits all keys)) (sym units) h;
      begin_events_of_spine = ap (begin_events_of_spine all) starts ∙ sym (append-nil _);
      starts = λ h. subst (All (HasStampAt all)) (sym starts) h;
      end_events_of_spine = ap (end_events_of_spine all) finishes ∙ flat_map-append _ old.finishes.items (s ∷ []) ∙ ap (λ l. end_events_of_spine all old.finishes.items ++ (l ++ [])) there;
      finishes = all_pushed (HasNode all) old.finishes.items new.finishes.items s finishes sits;
      event_count = first;
    }

prefix_of : (p : NumberedNode) (below rest : List NumberedNode) → p.span ≡ suc (length below) → first_tree p (below ++ rest) ≡ tree p.node p.number (forest below)
prefix_of p below rest s =
    let one : p.span - 1 ≡ length below = omega (arith, s) in
    ap (λ ps. tree p.node p.number (forest ps)) (ap (λ n. take n (below ++ rest)) one ∙ take-append_seam below rest)

pub add_adds : (all : List NumberedNode) (keys : List (List ℕ)) (old new : Cutting) (p : NumberedNode) (below rest : List NumberedNode) (u : PlanUnit)
    → drop u.position all ≡ p ∷ (below ++ rest) → p.span ≡ suc (length below) → IsForest below → IsNeed keys (contents (p ∷ below)) u.need → u.first ≡ old.event_count
    → old.event_count + weight (tree p.node p.number (forest below)) ≤ MAX_EVENTS
    → new.spine.items ≡ old.spine.items → new.starts.items ≡ old.starts.items → new.finishes.items ≡ old.finishes.items
    → new.unit_keys.items ≡ old.unit_keys.items ++ p.number ∷ [] → new.units.items ≡ old.units.items ++ u ∷ []
    → new.event_count ≡ old.event_count + weight (tree p.node p.number (forest below))
    → AddsParts (keyed all keys) old new (whole_unit (tree p.node p.number (forest below)) ∷ [])
add_adds all keys old new p below rest u at span trees need same limit spine starts finishes unit_keys units first =
    let t : Tree = tree p.node p.number (forest below) in
    let fit : Fits all keys u = record { top = p; below = below; rest = rest; position = at; span = span; trees = trees; need = need; limit = subst (λ i. i + weight (tree p.node p.number (forest below)) ≤ MAX_EVENTS) (sym same) limit } in
    let there : piece_of_nodes (drop u.position all) u.first ≡ record { tree = t; first = old.event_count } ∷ []
    = ap (λ ps. piece_of_nodes ps u.first) at ∙ ap₂ (λ a i. record { tree = a; first = i } ∷ []) (prefix_of p below rest span) same in
    record {
      spine = spine ∙ sym (append-nil _);
      unit_keys = unit_keys;
      units = ap (pieces_of_units all) units ∙ flat_map-append _ old.units.items (u ∷ []) ∙ ap (λ l. pieces_of_units all old.units.items ++ l) (append-nil _ ∙ there);
      fits = λ h. subst (All (Fits all keys)) (sym units) (All-push (Fits all keys) old.units.items u h fit);
      begin_events_of_spine = ap (begin_events_of_spine all) starts ∙ sym (append-nil _);
      starts = λ h. subst (All (HasStampAt all)) (sym starts) h;
      end_events_of_spine = ap (end_events_of_spine all) finishes ∙ sym (append-nil _);
      finishes = λ h. subst (All (HasNode all)) (sym finishes) h;
      event_count = first ∙ ap (λ m. old.event_count + m) (sym (ap length (append-nil (moves t)) ∙ moves-length t));
    }

-- ---- the pieces that the units are

abbrev pub piece_of : {all : List NumberedNode} {keys : List (List ℕ)} {u : PlanUnit} → Fits all keys u → Piece
piece_of {u = u} f = record { tree = tree f.top.node f.top.number (forest f.below); first = u.first }

fits_piece : (all : List NumberedNode) (keys : List (List ℕ)) (u : PlanUnit) (f : Fits all keys u) → piece_of_nodes (drop u.position all) u.first ≡ piece_of f ∷ []
fits_piece all keys u f = ap (λ ps. piece_of_nodes ps u.first) f.position ∙ ap (λ a. record { tree = a; first = u.first } ∷ []) (prefix_of f.top f.below f.rest f.span)

rest_fits : (all : List NumberedNode) (keys : List (List ℕ)) (u : PlanUnit) (us : List PlanUnit) → All (Fits all keys) (u ∷ us) → All (Fits all keys) us
rest_fits all keys u us h k d l = h (suc k) d (omega (arith, l))

pub found_length : (all : List NumberedNode) (keys : List (List ℕ)) (us : List PlanUnit) → All (Fits all keys) us → length (pieces_of_units all us) ≡ length us
found_length all keys [] h = refl
found_length all keys (u ∷ us) h =
    ap (λ l. length (l ++ pieces_of_units all us)) (fits_piece all keys u (h zero u (omega arith))) ∙ ap suc (found_length all keys us (rest_fits all keys u us h))

pub found_get : (all : List NumberedNode) (keys : List (List ℕ)) (us : List PlanUnit) → All (Fits all keys) us → (i : ℕ) (d : PlanUnit) → i < length us
    → (f : Fits all keys (slice_index_or us i d)) × (slice_get (pieces_of_units all us) i ≡ Some (piece_of f))
found_get all keys [] h i d l = absurd (omega arith)
found_get all keys (u ∷ us) h zero d l = (h zero d l, ap (λ ps. slice_get (ps ++ pieces_of_units all us) 0) (fits_piece all keys u (h zero d l)))
found_get all keys (u ∷ us) h (suc i) d l =
    let r = found_get all keys us (rest_fits all keys u us h) i d (omega (arith, l)) in
    (r.0, ap (λ ps. slice_get (ps ++ pieces_of_units all us) (suc i)) (fits_piece all keys u (h zero u (omega arith))) ∙ r.1)

-- ---- the parts make up the root's script

static_below : (k : ℕ) (t : Tree) (f : Forest) → all_static (more t f) ≡ true → moves_below k (more t f) ≡ moves t ++ moves_below k f
static_below k (tree n j g) f e = ap (λ b. cond b [] (move j (Register k) ∷ []) ++ (moves (tree n j g) ++ moves_below k f)) (and_parts n.is_static (all_static f) e).0

rest_static : (t : Tree) (f : Forest) → all_static (more t f) ≡ true → all_static f ≡ true
rest_static (tree n j g) f e = (and_parts n.is_static (all_static f) e).1

moves_by : (b : Bool) (n : Node) (k : ℕ) (f : Forest) (s : Bool) → on_spine b n f ≡ s → (all_static f ≡ true → flat_map moves_of (parts_below false f) ≡ moves_below k f)
    → flat_map moves_of (cond s (spine_begins n k ∷ (parts_below false f ++ spine_ends n k ∷ [])) (whole_unit (tree n k f) ∷ [])) ≡ moves (tree n k f)
moves_by b n k f false e inside = append-nil (moves (tree n k f))
moves_by b n k f true e inside =
    let facts = spine_facts b n f e in
    ap (λ l. opening n k ++ l) (flat_map-append moves_of (parts_below false f) (spine_ends n k ∷ []) ∙ ap (λ l. l ++ move k Finish ∷ []) (inside facts.1))
    ∙ ap (λ s. cond s (move k Skip ∷ []) (opening n k ++ (moves_below k f ++ move k Finish ∷ []))) (sym facts.0)

mutual
  pub parts-moves : (b : Bool) (t : Tree) → flat_map moves_of (parts b t) ≡ moves t
  parts-moves b (tree n k f) = moves_by b n k f (on_spine b n f) refl (parts_below-moves false k f)

  pub parts_below-moves : (b : Bool) (k : ℕ) (f : Forest) → all_static f ≡ true → flat_map moves_of (parts_below b f) ≡ moves_below k f
  parts_below-moves b k no_trees e = refl
  parts_below-moves b k (more t f) e =
      flat_map-append moves_of (parts b t) (parts_below b f)
      ∙ ap₂ (λ x y. x ++ y) (parts-moves b t) (parts_below-moves b k f (rest_static t f e))
      ∙ sym (static_below k t f e)
