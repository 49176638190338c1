use Rattle.std.proofs.Common.{◌≡◌, ◌<◌, ◌+◌, ◌-◌, ◌*◌, length, take, drop, refl, sym, ap, ap₂, ◌∙◌, arith}
use Rattle.std.specs.List.{items_where_true}
use Rattle.tk_lanes.specs.Bits.{first_bits, words_for}
use Rattle.tk_lanes.proofs.Views.{length-first_bits}
use Rattle.tk_lanes.proofs.Blocks.{block, clear_past, few_set, gathered, gathered_rest}
use Rattle.tk_lanes.proofs.flags.Flags.gather.Goals as goal

pub slice_bounds-gather-count : goal.slice_bounds-gather-count
slice_bounds-gather-count c =
    let long = length-first_bits c.self.inside.len c.self.inside.words.items in
    let same = ap length c.self.view_is in
    omega (arith, long, same)

pub slice_bounds-gather-start : goal.slice_bounds-gather-start
slice_bounds-gather-start c =
    let long = length-first_bits c.self.inside.len c.self.inside.words.items in
    let same = ap length c.self.view_is in
    omega (arith, long, same)

pub slice_bounds-gather-end : goal.slice_bounds-gather-end
slice_bounds-gather-end c =
    let long = length-first_bits c.self.inside.len c.self.inside.words.items in
    let same = ap length c.self.view_is in
    omega (arith, long, same)

pub gather-requires-clause-size : goal.gather-requires-clause-size
gather-requires-clause-size c =
    let long = length-first_bits c.self.inside.len c.self.inside.words.items in
    let one : c.args.block + 1 - c.args.block ≡ 1 = omega arith in
    let n : length c.args.column.now ≡ c.self.inside.len = c.requires.size ∙ sym (ap length c.self.view_is) ∙ long in
    let lt : 64 * c.args.block < c.self.inside.len = omega (arith, long, ap length c.self.view_is) in
    let b = block (first_bits c.self.inside.len c.self.inside.words.items) c.self.inside.words.items c.deref.result.now c.args.column.now c.args.block c.self.inside.len c.min-end.result (c.args.block + 1 - c.args.block)
    c.self.invariant.0 long n lt c.min-end.ensures one c.deref.ensures.value in
    b.held.size ∙ ap words_for b.same

pub gather-requires-clause-clear : goal.gather-requires-clause-clear
gather-requires-clause-clear c =
    let long = length-first_bits c.self.inside.len c.self.inside.words.items in
    let one : c.args.block + 1 - c.args.block ≡ 1 = omega arith in
    let n : length c.args.column.now ≡ c.self.inside.len = c.requires.size ∙ sym (ap length c.self.view_is) ∙ long in
    let lt : 64 * c.args.block < c.self.inside.len = omega (arith, long, ap length c.self.view_is) in
    let b = block (first_bits c.self.inside.len c.self.inside.words.items) c.self.inside.words.items c.deref.result.now c.args.column.now c.args.block c.self.inside.len c.min-end.result (c.args.block + 1 - c.args.block)
    c.self.invariant.0 long n lt c.min-end.ensures one c.deref.ensures.value in
    clear_past _ _ _ b.held b.same

pub gather-requires-clause-room : goal.gather-requires-clause-room
gather-requires-clause-room c =
    let long = length-first_bits c.self.inside.len c.self.inside.words.items in
    let one : c.args.block + 1 - c.args.block ≡ 1 = omega arith in
    let n : length c.args.column.now ≡ c.self.inside.len = c.requires.size ∙ sym (ap length c.self.view_is) ∙ long in
    let lt : 64 * c.args.block < c.self.inside.len = omega (arith, long, ap length c.self.view_is) in
    let b = block (first_bits c.self.inside.len c.self.inside.words.items) c.self.inside.words.items c.deref.result.now c.args.column.now c.args.block c.self.inside.len c.min-end.result (c.args.block + 1 - c.args.block)
    c.self.invariant.0 long n lt c.min-end.ensures one c.deref.ensures.value in
    let few = few_set _ _ b.held in
    omega (arith, few, b.same, b.few)

pub returns-clause-count : goal.returns-clause-count
returns-clause-count c =
    let long = length-first_bits c.self.inside.len c.self.inside.words.items in
    let one : c.args.block + 1 - c.args.block ≡ 1 = omega arith in
    let n : length c.args.column.now ≡ c.self.inside.len = c.requires.size ∙ sym (ap length c.self.view_is) ∙ long in
    let lt : 64 * c.args.block < c.self.inside.len = omega (arith, long, ap length c.self.view_is) in
    let b = block (first_bits c.self.inside.len c.self.inside.words.items) c.self.inside.words.items c.deref.result.now c.args.column.now c.args.block c.self.inside.len c.min-end.result (c.args.block + 1 - c.args.block)
    c.self.invariant.0 long n lt c.min-end.ensures one c.deref.ensures.value in
    let few = few_set _ _ b.held in
    omega (arith, few, b.same, b.few)

pub returns-clause-rest : goal.returns-clause-rest
returns-clause-rest c =
    let long = length-first_bits c.self.inside.len c.self.inside.words.items in
    let one : c.args.block + 1 - c.args.block ≡ 1 = omega arith in
    let n : length c.args.column.now ≡ c.self.inside.len = c.requires.size ∙ sym (ap length c.self.view_is) ∙ long in
    let lt : 64 * c.args.block < c.self.inside.len = omega (arith, long, ap length c.self.view_is) in
    let b = block (first_bits c.self.inside.len c.self.inside.words.items) c.self.inside.words.items c.deref.result.now c.args.column.now c.args.block c.self.inside.len c.min-end.result (c.args.block + 1 - c.args.block)
    c.self.invariant.0 long n lt c.min-end.ensures one c.deref.ensures.value in
    gathered_rest _ _ c.args.column.now _ c.args.buffer.now c.gather.new.out c.gather.result _ b.held b.same refl c.gather.ensures.count c.gather.ensures.picked

pub returns-clause-picked : goal.returns-clause-picked
returns-clause-picked c =
    let long = length-first_bits c.self.inside.len c.self.inside.words.items in
    let one : c.args.block + 1 - c.args.block ≡ 1 = omega arith in
    let n : length c.args.column.now ≡ c.self.inside.len = c.requires.size ∙ sym (ap length c.self.view_is) ∙ long in
    let lt : 64 * c.args.block < c.self.inside.len = omega (arith, long, ap length c.self.view_is) in
    let b = block (first_bits c.self.inside.len c.self.inside.words.items) c.self.inside.words.items c.deref.result.now c.args.column.now c.args.block c.self.inside.len c.min-end.result (c.args.block + 1 - c.args.block)
    c.self.invariant.0 long n lt c.min-end.ensures one c.deref.ensures.value in
    gathered _ _ c.args.column.now _ c.args.buffer.now c.gather.new.out c.gather.result _ b.held b.same refl c.gather.ensures.count c.gather.ensures.picked
    ∙ ap₂ items_where_true (ap (λ fs. take 64 (drop (64 * c.args.block) fs)) c.self.view_is) b.items_are
