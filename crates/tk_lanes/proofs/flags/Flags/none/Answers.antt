use Rattle.std.proofs.Common.{rules, ◌≡◌, false, length, replicate}
use Rattle.std.proofs.lemmas.List.{length-replicate}
use Rattle.tk_lanes.specs.Bits.{words_for}
use Rattle.tk_lanes.proofs.Views.{first_bits_held, held_again}
use Rattle.tk_lanes.proofs.Blocks.{none_held}
use Rattle.tk_lanes.proofs.flags.Flags.none.Goals as goal

pub invariant_of-result : goal.invariant_of-result
invariant_of-result c =
    let words = c.in_ok-words.words.items in
    let zeros = c.in_ok-words.ensures.items_if_clones_equal (λ y h. h) in
    let size : length c.in_ok-words.words.items ≡ words_for c.args.len = search rules in
    let held = none_held c.args.len c.div_ceil.result words zeros size in
    (held_again (replicate c.args.len false) words c.args.len held (length-replicate c.args.len false), c.requires)

pub returns : goal.returns
returns c =
    let words = c.in_ok-words.words.items in
    let zeros = c.in_ok-words.ensures.items_if_clones_equal (λ y h. h) in
    let size : length c.in_ok-words.words.items ≡ words_for c.args.len = search rules in
    let held = none_held c.args.len c.div_ceil.result words zeros size in
    first_bits_held (replicate c.args.len false) words c.args.len held (length-replicate c.args.len false)
