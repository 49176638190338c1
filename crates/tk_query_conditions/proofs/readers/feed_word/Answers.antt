use Rattle.std.proofs.Common.{Some, None, sym, ap, ◌∙◌, if◌then◌else◌, arith}
use Rattle.std.specs.Option.{option_map}
use Rattle.tk_query_conditions.specs.steps.Reading.{Word, opened, look, bares, openers, is_prefix, after_word}
use Rattle.std.specs.Prelude.{◌||◌}
use Rattle.tk_query_conditions.specs.steps.Reader.{groups_of}
use Rattle.tk_query_conditions.proofs.ReaderLemmas.{step_made, word_ends, word_opens, word_goes}
use Rattle.tk_query_conditions.proofs.readers.feed_word.Goals as goal

pub returns-in-41 : goal.returns-in-41
returns-in-41 c =
    let groups = groups_of c.args.stack.items in
    step_made c.after_word.result _ _
    (word_ends groups c.args.word.items c.args.byte c.in-41.is ∙ ap (λ w. after_word groups w c.args.byte) (sym c.deref.ensures.value)) c.after_word.ensures

pub returns-in-Some : goal.returns-in-Some
returns-in-Some c =
    let groups = groups_of c.args.stack.items in
    step_made c.after_opener.result _ _
    (word_opens groups c.args.word.items c.args.byte c.in-40.is ∙ ap (option_map (opened groups)) (sym (c.in-Some.ensures ∙ ap (look openers) c.deref-in-40.ensures.value)))
    c.after_opener.ensures

pub returns-in-None : goal.returns-in-None
returns-in-None c =
    let groups = groups_of c.args.stack.items in
    word_opens groups c.args.word.items c.args.byte c.in-40.is ∙ ap (option_map (opened groups)) (sym (c.in-None.ensures ∙ ap (look openers) c.deref-in-40.ensures.value))

pub returns-then-begins_word : goal.returns-then-begins_word
returns-then-begins_word c =
    let groups = groups_of c.args.stack.items in
    let word = c.push.new.self.items in
    word_goes groups c.args.word.items word c.args.byte c.begins_word.result (grind arith) (grind arith) (grind arith) c.in_ok-push-in_default.ensures.items
    (c.begins_word.ensures ∙ ap (λ w. is_prefix bares w || is_prefix openers w) c.deref-in_default.ensures.value)
    ∙ ap (λ b. if b then Some (Word groups word) else None) c.if-begins_word.true

pub returns-else-begins_word : goal.returns-else-begins_word
returns-else-begins_word c =
    let groups = groups_of c.args.stack.items in
    let word = c.push.new.self.items in
    word_goes groups c.args.word.items word c.args.byte c.begins_word.result (grind arith) (grind arith) (grind arith) c.in_ok-push-in_default.ensures.items
    (c.begins_word.ensures ∙ ap (λ w. is_prefix bares w || is_prefix openers w) c.deref-in_default.ensures.value)
    ∙ ap (λ b. if b then Some (Word groups word) else None) c.if-begins_word.false
